-- The whole reading: what the code has learnt of the file at each step, and each way on from there,
-- as the walk goes.
use mathlib.Core.Path.{◌≡◌, refl, sym, subst, ◌∙◌}
use mathlib.Core.List.{List}
use Prim.Native.Nat.{ℕ, ◌+◌, ◌≤◌, ◌<◌}
use native.Mathlib.Omega.{arith}
use lib.ListN.{length}
use borrow.Author.Tests.{lt-ltb, le-ltb}
use mir.Val.{Fits}
use mir.Syntax.{w64}
use Rattle.der.specs.Numbers.{octet_string_tag, sequence_tag, context_tag}
use Rattle.der.specs.Element.{fault, whole_of, expect_at, on_element}
use Rattle.der.specs.Content.{bytes_of}
use Rattle.der.specs.Opaque.{on_checked}
use Rattle.der.specs.declared.Fault.{Fault}
use Rattle.der.specs.declared.Cursor.{Cursor}
use Rattle.der.specs.declared.Checked.{Checked}
use Rattle.pkcs12.specs.declared.answers.Parsed.{Parsed}
use Rattle.reader.specs.Steps.{opened}
use Rattle.reader.specs.declared.file.Opened.{Opened}
use Rattle.reader.specs.declared.file.Outer.{Outer}
use Rattle.reader.specs.declared.safes.Octets.{Octets}
use Rattle.std.specs.Prelude.{Err, Ok, Result}
use Rattle.der.proofs.Choices.{by_test, by_le}
use Rattle.buffer.specs.Numbers.{file_bytes, too_long}
use Rattle.range.specs.Bytes.{same_bytes}
use Rattle.pkcs12.specs.Identifiers.{data_type, signed_type}
use Rattle.pkcs12.specs.Table.{Rows, table_of}
use Rattle.pkcs12.specs.Walk.{Walked, on_walked, run, counting, safe_at, start_rows, on_mac, mac_at}
use Rattle.pkcs12.specs.Walk.{refused, read_file}
use Rattle.pkcs12.specs.declared.row.Mac.{Mac}
use Rattle.pkcs12.specs.declared.answers.Reading.{Reading}
use Rattle.pkcs12.proofs.AcceptedOuter.{OfMac, by_mac}
use Rattle.reader.specs.Steps.{on_octets, data_head_at, both_at, closed_at, on_outer, pfx_head_at, on_opened}
use Rattle.reader.specs.Steps.{opened_safes_at, opened_value_at, opened_info_at, open_at, last_at, close_at}
use Rattle.reader.specs.Memory.{Shown, Summed}
use Rattle.reader.specs.declared.rows.Progress.{Progress}
use Rattle.reader.specs.declared.Summary.{Summary}
use Rattle.reader.proofs.Past.{Room, run_room, safe_of_lem, mac_of}
use Rattle.parts.proofs.Past.{Past, by_expect, by_identifier}
use Rattle.reader.proofs.BridgeFile.{file_law}
use Rattle.reader.proofs.Shown.{not_both, same_value, walk_went, walk_refused}
use Rattle.load.specs.Holds.{Holds, rows_at}
use Rattle.load.proofs.Held.{count_of}
use Rattle.load.proofs.Counted.{with_count, rows_counted, held_counted}

-- ---- what is known of an opened file: the MAC input and the AuthenticatedSafe's body lie within
-- the bytes

abbrev OfOpened : List ℕ → Result Opened Fault → Type 0
OfOpened s (Err f) = Unit {0}
OfOpened s (Ok x) =
    (x.input.at ≤ length s) × (x.input.end ≤ length s) × (x.body.at ≤ x.body.end) × (x.body.end ≤ length s)

abbrev OfOctets : List ℕ → Result Octets Fault → Type 0
OfOctets s (Err f) = Unit {0}
OfOctets s (Ok x) = (x.body.at ≤ x.body.end) × (x.body.end ≤ length s)

octets_of : (s : List ℕ) (c : Cursor) → OfOctets s (data_head_at s c)
unfolding data_head_at
octets_of s c =
    by_expect s (OfOctets s) _ (λ f. tt) c context_tag _
    (λ t v e h. by_expect s (OfOctets s) _ (λ f. tt) v octet_string_tag _ (λ t o f q. (q.size, omega (arith, h, q))))

module _ (s : List ℕ) where
  opened_safes_of : (c mac file : Cursor) → OfOpened s (opened_safes_at s c mac file)
  unfolding opened_safes_at
  opened_safes_of c mac file = go (data_head_at s c) (octets_of s c)
    where
      go : (x : Result Octets Fault) → OfOctets s x
          → OfOpened s (on_octets x Err (λ o f e. on_element (expect_at sequence_tag s o) Err
          (λ t b n. Ok (opened o b n f e mac file))))
      go (Err f) h = tt
      go (Ok x) h =
          by_expect s (OfOpened s) _ (λ f. tt) x.body sequence_tag _
          (λ t b n q. (omega (arith, h), h.1, q.size, omega (arith, h, q)))

  opened_info_of : (c file : Cursor) → OfOpened s (opened_info_at s c file)
  unfolding opened_info_at opened_value_at
  opened_info_of c file =
      by_expect s (OfOpened s) _ (λ f. tt) c sequence_tag _
      (λ t b n h.
      by_identifier s (OfOpened s) _ (λ f. tt) b _
      (λ t i m j.
      by_test (OfOpened s) _ _ (same_bytes (bytes_of s i) data_type) (λ y. opened_safes_of m n file)
      (λ y. by_test (OfOpened s) _ _ (same_bytes (bytes_of s i) signed_type) (λ z. tt) (λ z. tt))))

  opened_of : (c : Cursor) → OfOpened s (open_at s c)
  unfolding open_at
  opened_of c = go (pfx_head_at s c)
    where
      go : (x : Result Outer Fault) → OfOpened s (on_outer x Err (λ m n. opened_info_at s m n))
      go (Err f) = tt
      go (Ok x) = opened_info_of x.body x.next

-- ---- what is counted: behind the safes no more than the bytes; in them no more than those of the
-- body, and the seven before them

abbrev Counted : List ℕ → Result (Parsed Mac) Fault → Type 0
Counted s = OfMac (λ x k n. k ≤ length s)

-- what is made of a check holds if it holds of all that a passed one leads to
by_any : (s : List ℕ) (x : Result Checked Fault) (good : ℕ → Cursor → Result (Parsed Mac) Fault)
    → ((z : ℕ) (g : Cursor) → Counted s (good z g))
    → Counted s (on_checked x Err good)
by_any s (Err f) good p = tt
by_any s (Ok x) good p = p x.count x.next

last_of : (s : List ℕ) (c file : Cursor) → Counted s (last_at s c file)
unfolding last_at
last_of s c file =
    by_le (Counted s) _ _ c.end c.at (λ l. tt)
    (λ l.
    by_mac (Counted s) _ (λ f. tt) (λ x k n. Past s c 0 k n) _
    (λ x k n a. by_any s (both_at n file) _ (λ z g. omega (arith, a)))
    (mac_at s c) (mac_of s c))

close_of : (s : List ℕ) (safes string content mac file : Cursor) → Counted s (close_at s safes string content mac file)
unfolding close_at
close_of s safes string content mac file = by_any s (closed_at safes string content) _ (λ z g. last_of s mac file)

-- ---- what is done with the answer of what follows the safes

abbrev accepted : Rows → Mac → ℕ → Cursor → Reading
accepted st x k n = record { answer = (Ok tt); table = table_of (counting st k) x }

-- ---- the reading

pub sum_stop : (m : List ℕ) (r : Result Summary Fault) (x : Reading) (f : Fault) → x ≡ refused f → r ≡ Err f
    → Summed m r x
sum_stop m r x f e i = record { reading = e ∙ rw i; held = λ y h. absurd (not_both r f y i h) }

pub read_long : (s m : List ℕ) → file_bytes < length s → Summed m (Err (fault too_long 0)) (read_file s)
read_long s m h =
    sum_stop m _ (read_file s) (fault too_long 0) (sym (rw (lt-ltb file_bytes (length s) h) at (file_law s))) refl

module _ (s : List ℕ) (short : length s ≤ file_bytes) (c₀ : Cursor) (start : c₀ ≡ whole_of s) (w : Result Opened Fault)
    (p : w ≡ open_at s c₀) where
  read_is : on_opened w refused
      (λ input body safes string content mac rest.
      on_walked (run (safe_at s) (start_rows input) body) refused
      (λ st z. on_mac (close_at s safes string content mac rest) refused (accepted st)))
      ≡ read_file s
  read_is = rw (p, start) (rw (le-ltb file_bytes (length s) short) at (file_law s))

  pub read_refused : (f : Fault) (m : List ℕ) (r : Result Summary Fault) → w ≡ Err f → r ≡ Err f
      → Summed m r (read_file s)
  read_refused f m r q e = sum_stop m r (read_file s) f (sym (rw q at read_is)) e

  module _ (x : Opened) (q : w ≡ Ok x) where
    facts : (x.input.at ≤ length s) × (x.input.end ≤ length s) × (x.body.at ≤ x.body.end) × (x.body.end ≤ length s)
    facts = rw (sym p ∙ q) at (opened_of s c₀)

    pub input_from : x.input.at ≤ file_bytes
    input_from = omega (arith, facts.0, short)

    pub input_to : x.input.end ≤ file_bytes
    input_to = omega (arith, facts.1, short)

    -- the safes, which the code holds as y in the memory m, and what follows them
    abbrev safes_of : Walked
    safes_of = run (safe_at s) (start_rows x.input) x.body

    module _ (m : List ℕ) (y : Result Progress Fault) (z : Shown m y safes_of) where
      pub safes_refused : (f : Fault) (r : Result Summary Fault) → y ≡ Err f → r ≡ Err f → Summed m r (read_file s)
      safes_refused f r h e =
          sum_stop m r (read_file s) f (sym (rw (q, walk_refused m safes_of y f z h) at read_is)) e

      module _ (u : Progress) (h : y ≡ Ok u) (v : Result (Parsed Mac) Fault)
          (l : v ≡ close_at s x.safes x.string x.content x.mac x.file) where
        closed_is : on_mac v refused (accepted (rows_at m u.counts)) ≡ read_file s
        closed_is = rw l (rw (q, walk_went m safes_of y u z h) at read_is)

        pub close_refused : (f : Fault) (r : Result Summary Fault) → v ≡ Err f → r ≡ Err f → Summed m r (read_file s)
        close_refused f r i e = sum_stop m r (read_file s) f (sym (rw i at closed_is)) e

        module _ (a : Parsed Mac) (i : v ≡ Ok a) where
          pub close_fits : Fits w64 (u.counts.elements + a.count)
          close_fits =
              let j : a.count ≤ length s =
              rw (sym l ∙ i) at (close_of s x.safes x.string x.content x.mac x.file) in
              let o : Room x.body.at x.body.end 7 (rows_at m u.counts).count =
              rw (walk_went m safes_of y u z h)
              at (run_room s (safe_at s) (safe_of_lem s) (start_rows x.input) x.body facts.2) in
              let n = count_of m u.counts in
              let e = facts in
              omega (arith, j, o.long, n, e.2, e.3, short)

          pub close_found : Summed m (Ok (record { counts = with_count u.counts a.count; mac = a.value })) (read_file s)
          close_found =
              record {
                reading = sym (rw i at closed_is) ∙ rw (rows_counted m u.counts (z.held u h) a.count);
                held =
                    λ t e.
                    subst (λ (v : Summary). Holds m (rows_at m v.counts)) (same_value _ t e)
                    (held_counted m u.counts (z.held u h) a.count);
              }
