-- The loop over the safes, as the walk goes.
use mathlib.Core.Path.{◌≡◌, refl, sym, ap, ◌∙◌}
use mathlib.Core.Bool.{Bool, false}
use mathlib.Core.List.{List}
use Prim.Native.Nat.{ℕ, ◌+◌, ◌-◌, ◌≤◌, ◌<◌}
use native.Mathlib.Omega.{arith}
use lib.Dec.{leb}
use lib.ListN.{length}
use borrow.Author.Tests.{leb-false}
use mir.Val.{Fits}
use mir.Syntax.{w64}
use Rattle.der.specs.Element.{cursor}
use Rattle.der.specs.Content.{bytes_of}
use Rattle.der.specs.Opaque.{on_checked}
use Rattle.der.specs.declared.Fault.{Fault}
use Rattle.der.specs.declared.Cursor.{Cursor}
use Rattle.der.specs.declared.Checked.{Checked}
use Rattle.pkcs12.specs.declared.answers.Parsed.{Parsed}
use Rattle.reader.specs.declared.safes.Contents.{Contents}
use Rattle.reader.specs.declared.safes.Octets.{Octets}
use Rattle.std.specs.Prelude.{Err, None, Ok, Result}
use Rattle.der.specs.Numbers.{octet_string_tag, sequence_tag, context_tag}
use Rattle.der.proofs.Choices.{by_test}
use Rattle.der.proofs.Opaque.{by_checked}
use Rattle.buffer.specs.Numbers.{file_bytes}
use Rattle.pkcs12.specs.Numbers.{safe_rows, levels}
use Rattle.range.specs.Bytes.{same_bytes}
use Rattle.pkcs12.specs.Identifiers.{data_type, encrypted_type, enveloped_type}
use Rattle.pkcs12.specs.Table.{safe_row, no_parts}
use Rattle.pkcs12.specs.Walk.{range_of, on_parts, encrypted_at, Walked, Refused, Went, on_walked, run, add_safe, owner}
use Rattle.pkcs12.specs.Walk.{safe_contents_at, safe_at, start_rows}
use Rattle.range.specs.declared.Range.{Range}
use Rattle.pkcs12.specs.declared.row.Parts.{Parts}
use Rattle.pkcs12.specs.declared.kind.SafeKind.TheVariants.{Plain, Encrypted}
use Rattle.words.specs.Layout.{table_words}
use Rattle.words.specs.InPlace.{safe_stored, input_stored}
use Rattle.words.specs.declared.Counts.{Counts}
use Rattle.load.specs.Holds.{Holds, rows_at}
use Rattle.load.proofs.Held.{safe_count_lem, count_of}
use Rattle.load.proofs.Counted.{with_safe, rows_with_safe, held_with_safe, rows_first, held_first}
use Rattle.reader.specs.Steps.{on_contents, on_octets, data_head_at, both_at, plain_head_at}
use Rattle.reader.specs.Steps.{encrypted_head_at, safe_of_at}
use Rattle.reader.specs.Steps.{safe_head_at, closed_at, plain_safe_at, start_count}
use Rattle.pkcs12.specs.declared.row.SafeRow.{SafeRow}
use Rattle.reader.specs.Memory.{Ready, ReadyForSafe, Shown}
use Rattle.reader.specs.declared.rows.Progress.{Progress}
use Rattle.reader.proofs.Past.{safe_past}
use Rattle.parts.proofs.Past.{Past, by_expect, by_identifier}
use Rattle.reader.proofs.BridgeRows.{safe_law}
use Rattle.reader.proofs.Shown.{shown_refused, shown_went, walk_went, walk_refused}
use Rattle.reader.proofs.Loops.{Rowing, rowing_start, rowing_end, rowing_refused, rowing_on}

-- What is known of a safe before its bags are read: a row is left for it, and plain contents begin
-- at least four bytes past its start.
abbrev OfSafe : List ℕ → Cursor → Bool → Result Contents Fault → Type 0
OfSafe s c full (Err f) = Unit {0}
OfSafe s c full (Ok (Contents.Plain o f e n)) = (full ≡ false) × (c.at + 4 ≤ o.at) × (o.at ≤ length s)
OfSafe s c full (Ok (Contents.Encrypted p k n)) = full ≡ false

module _ (s : List ℕ) (c : Cursor) (full : Bool) (free : full ≡ false) (m n : Cursor) (head : c.at + 4 ≤ m.at) where
  plain_of : OfSafe s c full (plain_head_at s m n)
  unfolding plain_head_at data_head_at
  plain_of =
      by_expect s Good _ (λ f. tt) m context_tag _
      (λ t v e h. by_expect s Good _ (λ f. tt) v octet_string_tag _
      (λ t o f j. (free, omega (arith, head, h, j), omega (arith, h, j))))
    where
      Good : Result Octets Fault → Type 0
      Good x = OfSafe s c full (on_octets x Err (λ o f e. Ok (Contents.Plain o f e n)))

  sealed_of : OfSafe s c full (encrypted_head_at s m n)
  unfolding encrypted_head_at
  sealed_of = by_expect s (OfSafe s c full) _ (λ f. tt) m context_tag _ (λ t v e h. go e (encrypted_at s v))
    where
      go : (e : Cursor) (x : Result (Parsed Parts) Fault)
          → OfSafe s c full (on_parts x Err
          (λ p k f. on_checked (both_at f e) Err (λ z g. Ok (Contents.Encrypted p (k + 3) n))))
      go e (Err f) = tt
      go e (Ok y) =
          by_checked (OfSafe s c full) (λ x. Unit {0}) _ _ (λ f. tt) (λ z g u. free) (both_at y.next e) tt

  value_of : (type : List ℕ) (at : ℕ) → OfSafe s c full (safe_of_at s type at m n)
  unfolding safe_of_at
  value_of type at =
      by_test (OfSafe s c full) _ _ (same_bytes type data_type) (λ y. plain_of)
      (λ y. by_test (OfSafe s c full) _ _ (same_bytes type encrypted_type) (λ z. sealed_of)
      (λ z. by_test (OfSafe s c full) _ _ (same_bytes type enveloped_type) (λ w. tt) (λ w. tt)))

safe_of_lem : (s : List ℕ) (full : Bool) (c : Cursor) → OfSafe s c full (safe_head_at s full c)
unfolding safe_head_at
safe_of_lem s full c =
    by_expect s (OfSafe s c full) _ (λ f. tt) c sequence_tag _
    (λ t b n h.
    by_test (OfSafe s c full) _ _ full (λ y. tt)
    (λ y.
    by_identifier s (OfSafe s c full) _ (λ f. tt) b _
    (λ t i m j. value_of s c full y m n (omega (arith, h, j)) (bytes_of s i) b.at)))

-- the memory at the first safe: the MAC input is stored, and nothing is counted but what is before
-- the first safe
abbrev pub start_counts : Counts
start_counts = record { safes = 0; bags = 0; attributes = 0; elements = 7 }

module _ (i b : Cursor) (m : List ℕ) (r : Range) (l : table_words ≤ length m) (e : r ≡ range_of i) (m' : List ℕ)
    (p : m' ≡ input_stored m r) where
  start_held : Holds m' (rows_at m' start_counts)
  start_held = rw p (held_first m r l 7)

  start_rows_lem : rows_at m' start_counts ≡ start_rows i
  start_rows_lem = rw (p, ← e) (rows_first m r l 7)

  pub safes_ready : Ready m' start_counts b.at
  unfolding start_count
  safes_ready = record { held = start_held; counted = omega arith }

  -- the answer from there is the walk's
  pub safes_from_lem : (s m₁ : List ℕ) (y : Result Progress Fault)
      → Shown m₁ y (run (safe_at s) (rows_at m' start_counts) b)
      → Shown m₁ y (run (safe_at s) (start_rows i) b)
  safes_from_lem s m₁ y z = rw (← start_rows_lem) z

-- ---- a plain safe whose contents are at o, behind the rows that are counted

module _ (s : List ℕ) (m : List ℕ) (k : Counts) (o f e n : Cursor) (pre : ReadyForSafe s m k o.at) where
  abbrev whole_plain : Walked
  whole_plain = plain_safe_at s (rows_at m k) o f e n

  pub plain_fits : length s ≤ file_bytes → Fits w64 (k.elements + 4)
  unfolding start_count
  plain_fits l = omega (arith, pre.counted, l, pre.inside)

  -- its row is stored
  module _ (row : SafeRow) (r : row ≡ safe_row Plain no_parts) (m' : List ℕ) (t : m' ≡ safe_stored m k.safes row) where
    stored : m' ≡ safe_stored m k.safes (safe_row Plain no_parts)
    stored = rw r at t

    pub plain_ready : Ready m' (with_safe k 4) o.at
    plain_ready =
        record {
          held = held_with_safe m k pre.held m' _ 4 pre.few stored;
          counted = pre.counted;
        }

    abbrev inner_of : Walked
    inner_of = safe_contents_at levels s (owner k.safes None) (rows_at m' (with_safe k 4)) o

    plain_is : whole_plain
        ≡ on_walked inner_of Refused (λ st g. on_checked (closed_at g f e) Refused (λ z h. Went st n))
    unfolding plain_safe_at
    plain_is =
        rw (safe_count_lem m k, ← rows_with_safe m k pre.held m' (safe_row Plain no_parts) 4 pre.few stored)

    -- the contents in it, which the code holds as y, in the memory m₁
    module _ (m₁ : List ℕ) (y : Result Progress Fault) (z : Shown m₁ y inner_of) where
      pub plain_refused : (i : Fault) (r : Result Progress Fault) → y ≡ Err i → r ≡ Err i → Shown m₁ r whole_plain
      plain_refused i r h c =
          shown_refused m₁ whole_plain r i (plain_is ∙ rw (walk_refused m₁ inner_of y i z h)) c

      -- and whether they end what they are in
      module _ (x : Progress) (h : y ≡ Ok x) (v : Result Checked Fault) (u : v ≡ closed_at x.next f e) where
        inner_is : whole_plain ≡ on_checked v Refused (λ z h. Went (rows_at m₁ x.counts) n)
        inner_is = plain_is ∙ rw (walk_went m₁ inner_of y x z h, ← u)

        pub plain_open : (i : Fault) (r : Result Progress Fault) → v ≡ Err i → r ≡ Err i → Shown m₁ r whole_plain
        plain_open i r q c = shown_refused m₁ whole_plain r i (inner_is ∙ rw q) c

        pub plain_went : (d : Checked) → v ≡ Ok d → Shown m₁ (Ok (record { counts = x.counts; next = n })) whole_plain
        plain_went d q = shown_went m₁ whole_plain _ (z.held x h) (inner_is ∙ rw q)

-- ---- a safe at c

module _ (s : List ℕ) (m : List ℕ) (k : Counts) (c : Cursor) where
  abbrev whole_safe : Walked
  whole_safe = safe_at s (rows_at m k) c

  module _ (ready : Ready m k c.at) (w : Result Contents Fault)
      (p : w ≡ safe_head_at s (leb safe_rows k.safes) c) where
    head_is : w ≡ safe_head_at s (leb safe_rows (length (rows_at m k).safes)) c
    head_is = p ∙ ap (λ (n : ℕ). safe_head_at s (leb safe_rows n) c) (sym (safe_count_lem m k))

    safe_is : whole_safe
        ≡ on_contents w Refused (λ o f e n. plain_safe_at s (rows_at m k) o f e n)
        (λ p j n. Went (add_safe (rows_at m k) (safe_row Encrypted p) j) n)
    unfolding plain_safe_at
    safe_is = sym (safe_law s (rows_at m k) c) ∙ rw (← head_is)

    facts : OfSafe s c (leb safe_rows k.safes) w
    facts = rw (← p) at (safe_of_lem s (leb safe_rows k.safes) c)

    pub safe_refused : (f : Fault) (r : Result Progress Fault) → w ≡ Err f → r ≡ Err f → Shown m r whole_safe
    safe_refused f r q i = shown_refused m whole_safe r f (safe_is ∙ rw q) i

    -- an encrypted safe
    module _ (y : Contents) (u : w ≡ Ok y) (a : Parts) (j : ℕ) (n : Cursor) (q : y ≡ Contents.Encrypted a j n) where
      sealed_is : whole_safe ≡ Went (add_safe (rows_at m k) (safe_row Encrypted a) j) n
      sealed_is = safe_is ∙ rw (u, q)

      pub sealed_few : k.safes < safe_rows
      sealed_few = leb-false safe_rows k.safes (rw (u, q) at facts)

      pub sealed_fits : length s ≤ file_bytes → Fits w64 (k.elements + j)
      unfolding start_count
      sealed_fits l =
          let o = safe_past s (rows_at m k) c _ n sealed_is in
          let i = count_of m k in
          omega (arith, i, ready.counted, l, o.long, o.within, o.inside)

      pub sealed_went : (row : SafeRow) → row ≡ safe_row Encrypted a → (m' : List ℕ) → m' ≡ safe_stored m k.safes row
          → Shown m' (Ok (record { counts = with_safe k j; next = n })) whole_safe
      sealed_went row r m' t =
          let i : m' ≡ safe_stored m k.safes (safe_row Encrypted a) = rw r at t in
          shown_went m' whole_safe _ (held_with_safe m k ready.held m' _ j sealed_few i)
          (sealed_is ∙ rw (rows_with_safe m k ready.held m' (safe_row Encrypted a) j sealed_few i))

    -- a plain safe
    module _ (y : Contents) (u : w ≡ Ok y) (o f e n : Cursor) (q : y ≡ Contents.Plain o f e n) where
      plain_facts : (leb safe_rows k.safes ≡ false) × (c.at + 4 ≤ o.at) × (o.at ≤ length s)
      plain_facts = rw (u, q) at facts

      pub plain_requires : ReadyForSafe s m k o.at
      plain_requires =
          let x = plain_facts in
          record {
            held = ready.held;
            few = leb-false safe_rows k.safes x.0;
            counted = omega (arith, ready.counted, x.1);
            inside = x.2;
          }

      pub plain_shown : (m₁ : List ℕ) (r : Result Progress Fault)
          → Shown m₁ r (plain_safe_at s (rows_at m k) o f e n) → Shown m₁ r whole_safe
      plain_shown m₁ r h = rw (safe_is, u, q) h

-- ---- the safes of a body b, behind the rows that are counted; then a turn

module _ (s : List ℕ) (m₀ : List ℕ) (k₀ : Counts) (b : Cursor) where
  abbrev whole_safes : Walked
  whole_safes = run (safe_at s) (rows_at m₀ k₀) b

  pub safes_start : Ready m₀ k₀ b.at → Rowing (safe_at s) b.end whole_safes (length m₀) m₀ k₀ b.at
  safes_start r = rowing_start (safe_at s) m₀ k₀ b r

  module _ (m : List ℕ) (k : Counts) (at : ℕ) (g : Rowing (safe_at s) b.end whole_safes (length m₀) m k at) where
    abbrev here : Cursor
    here = cursor at b.end

    pub safes_end_lem : b.end ≤ at → Shown m (Ok (record { counts = k; next = here })) whole_safes
    safes_end_lem h = shown_went m whole_safes _ g.ready.held (rowing_end (safe_at s) _ _ _ m k at g h)

    -- a turn, whose answer the code holds as y, in the memory m'
    module _ (m' : List ℕ) (l : length m' ≡ length m) (y : Result Progress Fault) (h : at < b.end)
        (z : Shown m' y (safe_at s (rows_at m k) here)) where
      abbrev turn : Walked
      turn = safe_at s (rows_at m k) here

      pub safe_stops : (f : Fault) (r : Result Progress Fault) → y ≡ Err f → r ≡ Err f → Shown m' r whole_safes
      safe_stops f r i j =
          shown_refused m' whole_safes r f
          (rowing_refused (safe_at s) _ _ _ m k at g f h (walk_refused m' turn y f z i)) j

      module _ (x : Progress) (i : y ≡ Ok x) where
        safe_goes : Past s here (rows_at m k).count (rows_at m' x.counts).count x.next
        safe_goes = safe_past s (rows_at m k) here _ x.next (walk_went m' turn y x z i)

        pub safe_on : Rowing (safe_at s) b.end whole_safes (length m₀) m' x.counts x.next.at
        safe_on =
            rowing_on (safe_at s) _ _ _ m k at g s _ x.next m' x.counts h (walk_went m' turn y x z i) safe_goes l refl
            (z.held x i)

        pub safe_less : b.end - x.next.at < b.end - at
        safe_less = omega (arith, safe_goes.some)
