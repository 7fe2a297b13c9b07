-- A file that was accepted, in a list of bytes: its reading, by the rules, where it is, its
-- elements, and that it is what the reading is written as.
use mathlib.Core.Path.{◌≡◌, refl}
use mathlib.Core.List.{List, ◌++◌}
use Prim.Native.Nat.{ℕ, ◌+◌, ◌≤◌}
use native.Mathlib.Omega.{arith}
use lib.ListN.{length}
use Rattle.der.specs.Element.{whole_of, finish_at}
use Rattle.der.specs.Opaque.{on_checked}
use Rattle.der.specs.declared.Fault.{Fault}
use Rattle.der.specs.Content.{bytes_of}
use Rattle.der.specs.Octets.{tlv, integer, identifier, octet_string, sequence}
use Rattle.der.specs.Span.{Span, Bytes}
use Rattle.der.specs.Follows.{HeaderIs, IdentifierIs, IntegerIs}
use Rattle.der.specs.declared.Cursor.{Cursor}
use Rattle.der.proofs.Choices.{by_test, by_lt, by_le, by_eq}
use Rattle.der.proofs.Spans.{span_whole, span_join, span_to, span_same}
use Rattle.buffer.specs.Numbers.{file_bytes}
use Rattle.der.specs.Numbers.{sequence_tag, context_tag}
use Rattle.pkcs12.specs.Numbers.{pfx_version}
use Rattle.pkcs12.specs.Identifiers.{data_type, signed_type}
use Rattle.range.specs.Bytes.{same_bytes}
use Rattle.pkcs12.specs.Syntax.{Safe, Pfx}
use Rattle.pkcs12.specs.Encode.{content_info, data_bytes, safes_bytes, mac_bytes, encode}
use Rattle.pkcs12.specs.Valid.{Valid, ValidSafes, ValidMac}
use Rattle.pkcs12.specs.Elements.{safes_count, elements}
use Rattle.range.specs.Range.{range}
use Rattle.pkcs12.specs.Table.{Rows, table_of}
use Rattle.pkcs12.specs.Walk.{range_of, Walked, Refused, Went, run, counting, data_at, safe_at, safes_at, start_rows}
use Rattle.pkcs12.specs.Walk.{outer_value_at, outer_at, mac_at, body_at, refused, on_answer, alone, pfx_at, read_file}
use Rattle.pkcs12.specs.Laid.{ElementLaid, DataLaid, SafesLaid, MacLaid, PfxLaid}
use Rattle.pkcs12.specs.Accepted.{IsAccepted}
use Rattle.range.specs.declared.Range.{Range}
use Rattle.pkcs12.specs.declared.row.Mac.{Mac}
use Rattle.pkcs12.specs.declared.table.Table.{Table}
use Rattle.std.specs.Prelude.{Err, Ok, Result, ⊤}
use Rattle.pkcs12.specs.declared.answers.Reading.{Reading}
use Rattle.range.proofs.SameBytes.{same_is}
use Rattle.pkcs12.proofs.Parents.{by_expect, by_identifier, by_integer, by_finish, In, in_body, in_next}
use Rattle.pkcs12.proofs.Parents.{finished, laid_to, closed, closed_identifier}
use Rattle.pkcs12.proofs.Grown.{Fits}
use Rattle.pkcs12.proofs.Shown.{pfx_sizes}
use Rattle.pkcs12.proofs.AcceptedOuter.{MacIs, mac_of, by_mac}
use Rattle.pkcs12.proofs.AcceptedAttributes.{OfWalked, by_walked}
use Rattle.pkcs12.proofs.AcceptedSafes.{Spelt, DataIs, data_of, SafesRun, safes_run}

module _ (s : List ℕ) (bytes : Bytes s) where
  -- the AuthenticatedSafe that fills the OCTET STRING's body o
  record SafesHeld (o : Cursor) (st : Rows) (g : Cursor) (x : List ℕ) : Type 0 where
    body : Range
    run : SafesRun s bytes body (start_rows o) body.start st
    child : ElementLaid s o.at g.at sequence_tag body (safes_bytes run.value)
    spelled : x ≡ sequence (safes_bytes run.value)

  safes_of_lem : (o : Cursor) → In (range_of o) o → OfWalked (Spelt s bytes SafesHeld o) (safes_at s o)
  unfolding safes_at
  safes_of_lem o h =
      by_expect s bytes Good _ (λ f. tt) o sequence_tag _
      (λ b n d.
      by_walked Good _ (λ f. tt) (λ st f. SafesRun s bytes (range_of b) (start_rows o) b.at st) _
      (λ st f a.
      let u = closed s (range_of o) o sequence_tag b n (safes_bytes a.value) h d a.whole in
      record {
        x = sequence (safes_bytes a.value);
        held = record { body = range_of b; run = a; child = u.child; spelled = refl };
        whole = u.whole;
        past = u.past;
      })
      (run (safe_at s) (start_rows o) b) (safes_run s bytes (range_of b) (start_rows o) b d.body.inside (in_body s o sequence_tag b n d)))
    where
      Good : Walked → Type 0
      Good = OfWalked (Spelt s bytes SafesHeld o)

  -- the outer ContentInfo in the body `par`, from c to n, with the rows of its safes
  record OuterIs (par : Range) (c : Cursor) (st : Rows) (n : Cursor) : Type 0 where
    value : List Safe
    inner : Range
    valid : ValidSafes value
    data_laid : DataLaid s c.at n.at st.input inner (safes_bytes value)
    laid : SafesLaid s inner.start inner.end 0 0 value st.safes st.bags st.attributes
    fits : Fits st
    count : st.count ≡ 7 + safes_count value
    whole : Span s c.at n.at (data_bytes (safes_bytes value))
    past : In par n

  outer_is : (par : Range) (c b n : Cursor) (t : ℕ) (i m : Cursor) (st : Rows) (e : Cursor) → In par c → HeaderIs s c sequence_tag b n
      → IdentifierIs s b t i m → bytes_of s i ≡ data_type → DataIs s bytes SafesHeld (range_of b) m st e → e.end ≤ e.at → OuterIs par c st n
  unfolding data_bytes content_info
  outer_is par c b n t i m st e h d j y a z =
      let q = a.held in
      let x : List ℕ = sequence (safes_bytes q.run.value) in
      let g = q.run.grown in
      let w = closed_identifier s (range_of b) b t i m (in_body s c sequence_tag b n d) j in
      let first : Span s b.at m.at (identifier data_type) = rw y at w.whole in
      let second : Span s m.at e.at (tlv context_tag (octet_string x)) = rw q.spelled at a.whole in
      let l : List ℕ = identifier data_type ++ tlv context_tag (octet_string x) in
      let u = closed s par c sequence_tag b n l h d
      (span_to s b.at e.at b.end l (finished (range_of b) e a.past z)
      (span_join s _ _ _ _ _ first second)) in
      record {
        value = q.run.value;
        inner = q.body;
        valid = q.run.valid;
        data_laid = rw g.input record {
          value = a.value;
          content = record {
            body = range_of b;
            name = range_of i;
            rest = m.at;
            element = u.child;
            named = rw y at w.child;
            context = laid_to b.end (finished (range_of b) e a.past z) (rw q.spelled at a.context);
          };
          string = rw q.spelled at a.string;
          element = laid_to a.octets.end a.filled q.child;
        };
        laid = rw (g.safes.lists, g.bags.lists, g.attributes.lists) q.run.laid;
        fits = record { safes = g.safes.fits (omega arith); bags = g.bags.fits (omega arith); attributes = g.attributes.fits (omega arith) };
        count = g.count;
        whole = u.whole;
        past = u.past;
      }

  value_of : (body : Range) (x : List ℕ) (at : ℕ) (m : Cursor) → In body m
      → OfWalked (λ st e. (x ≡ data_type) × DataIs s bytes SafesHeld body m st e) (outer_value_at s x at m)
  unfolding outer_value_at
  value_of body x at m h =
      by_test Good _ _ (same_bytes x data_type)
      (λ y. go (same_is x _ y) (data_at (safes_at s) s m) (data_of s bytes SafesHeld (safes_at s) safes_of_lem body m h))
      (λ w. by_test Good _ _ (same_bytes x signed_type) (λ y. tt) (λ y. tt))
    where
      Good : Walked → Type 0
      Good = OfWalked (λ st e. (x ≡ data_type) × DataIs s bytes SafesHeld body m st e)

      go : x ≡ data_type → (w : Walked) → OfWalked (DataIs s bytes SafesHeld body m) w → Good w
      go y (Refused f) q = tt
      go y (Went st e) q = (y, q)

  outer_of : (par : Range) (c : Cursor) → In par c → OfWalked (OuterIs par c) (outer_at s c)
  unfolding outer_at
  outer_of par c h =
      by_expect s bytes Good _ (λ f. tt) c sequence_tag _
      (λ b n d.
      by_identifier s bytes Good _ (λ f. tt) b _
      (λ t i m j.
      by_walked Good _ (λ f. tt) (λ st e. (bytes_of s i ≡ data_type) × DataIs s bytes SafesHeld (range_of b) m st e) _
      (λ st e a. by_finish Good _ (λ f. tt) e _ (λ z. outer_is par c b n t i m st e h d j a.0 a.1 z))
      (outer_value_at s (bytes_of s i) b.at m)
      (value_of (range_of b) (bytes_of s i) b.at m (closed_identifier s (range_of b) b t i m (in_body s c sequence_tag b n d) j).past)))
    where
      Good : Walked → Type 0
      Good = OfWalked (OuterIs par c)

  -- what holds of the table of a reading that is accepted
  abbrev OfAnswer : Result ⊤ Fault → Type 0 → Type 0
  OfAnswer (Err f) A = Unit {0}
  OfAnswer (Ok tt) A = A

  abbrev OfReading : (Table → Type 0) → Reading → Type 0
  OfReading Q r = OfAnswer r.answer (Q r.table)

  -- the parts of a PFX behind its version fill its body `par` from c on
  record BodyIs (par : Range) (c : Cursor) (t : Table) : Type 0 where
    rows : Rows
    mac : Mac
    value : Pfx
    inner : Range
    table : t ≡ table_of rows mac
    valid_safes : ValidSafes value.safes
    valid_mac : ValidMac value.mac
    fits : Fits rows
    after : ℕ
    data_laid : DataLaid s c.at after rows.input inner (safes_bytes value.safes)
    safes_laid : SafesLaid s inner.start inner.end 0 0 value.safes rows.safes rows.bags rows.attributes
    mac_laid : MacLaid s after par.end mac value.mac
    count : rows.count ≡ elements value
    whole : Span s c.at par.end (data_bytes (safes_bytes value.safes) ++ mac_bytes value.mac)

  body_is : (par : Range) (c : Cursor) (st : Rows) (e : Cursor) (x : Mac) (k : ℕ) (f : Cursor) → OuterIs par c st e → MacIs s bytes par e x k f → f.end ≤ f.at
      → BodyIs par c (table_of (counting st k) x)
  unfolding elements
  body_is par c st e x k f a m z =
      record {
        rows = counting st k;
        mac = x;
        value = record { safes = a.value; mac = m.value };
        inner = a.inner;
        table = refl;
        valid_safes = a.valid;
        valid_mac = m.valid;
        fits = record { safes = a.fits.safes; bags = a.fits.bags; attributes = a.fits.attributes };
        after = e.at;
        data_laid = a.data_laid;
        safes_laid = a.laid;
        mac_laid = rw (finished par f m.past z) at m.laid;
        count = omega (arith, a.count, m.count);
        whole = span_join s _ _ _ _ _ a.whole (span_to s e.at f.at par.end _ (finished par f m.past z) m.whole);
      }

  body_of : (par : Range) (c : Cursor) → In par c → OfReading (BodyIs par c) (body_at s c)
  unfolding body_at
  body_of par c h =
      by_walked Good _ (λ f. tt) (OuterIs par c) _
      (λ st e a.
      by_le Good _ _ e.end e.at (λ l. tt)
      (λ l.
      by_mac Good _ (λ f. tt) (MacIs s bytes par e) _
      (λ x k f m. by_finish Good _ (λ f. tt) f _ (λ z. body_is par c st e x k f a m z))
      (mac_at s e) (mac_of s bytes par e a.past)))
      (outer_at s c) (outer_of par c h)
    where
      Good : Reading → Type 0
      Good = OfReading (BodyIs par c)

  -- A file that is accepted: its rows and MAC fields, its reading, and what holds of them.
  pub record FileIs (t : Table) : Type 0 where
    pub rows : Rows
    pub mac : Mac
    pub value : Pfx
    pub table : t ≡ table_of rows mac
    pub valid : Valid value
    pub fits : Fits rows
    pub laid : PfxLaid s rows mac value
    pub count : rows.count ≡ elements value
    pub whole : encode value ≡ s

  file_is : (b n : Cursor) (v : ℕ) (m : Cursor) (t : Table) → HeaderIs s (whole_of s) sequence_tag b n → IntegerIs s b v m → v ≡ pfx_version
      → BodyIs (range_of b) m t → n.end ≤ n.at → FileIs t
  unfolding encode
  file_is b n v m t d j y a z =
      let x : List ℕ = integer pfx_version ++ (data_bytes (safes_bytes a.value.safes) ++ mac_bytes a.value.mac) in
      let first : Span s b.at m.at (integer pfx_version) = rw y at j.whole in
      let here : In (range 0 (length s)) (whole_of s) = record { after = omega arith; within = omega arith; end = refl } in
      let u = closed s (range 0 (length s)) (whole_of s) sequence_tag b n x here d (span_join s _ _ _ _ _ first a.whole) in
      let l : PfxLaid s a.rows a.mac a.value =
      record {
        body = range_of b;
        inner = a.inner;
        rest = m.at;
        after = a.after;
        element = laid_to (length s) (finished (range 0 (length s)) n u.past z) u.child;
        version = first;
        content = a.data_laid;
        safes = a.safes_laid;
        mac = a.mac_laid;
      } in
      let sizes = pfx_sizes s a.rows a.mac a.value l in
      record {
        rows = a.rows;
        mac = a.mac;
        value = a.value;
        table = a.table;
        valid = record {
          safes = a.valid_safes;
          mac = a.valid_mac;
          safe_count = omega (arith, sizes.0, a.fits.safes);
          bag_count = omega (arith, sizes.1, a.fits.bags);
          attribute_count = omega (arith, sizes.2, a.fits.attributes);
        };
        fits = a.fits;
        laid = l;
        count = a.count;
        whole =
            span_same s 0 (length s) (sequence x) s
            (span_to s 0 n.at (length s) _ (finished (range 0 (length s)) n u.past z) u.whole)
            (span_whole s);
      }

  alone_of : (b n : Cursor) (v : ℕ) (m : Cursor) → HeaderIs s (whole_of s) sequence_tag b n → IntegerIs s b v m → v ≡ pfx_version
      → (r : Reading) → OfReading (BodyIs (range_of b) m) r → OfReading FileIs (alone n r)
  alone_of b n v m d j y r a = go r.answer refl a
    where
      go : (x : Result ⊤ Fault) → r.answer ≡ x → OfAnswer x (BodyIs (range_of b) m r.table)
          → OfReading FileIs (on_answer x refused (on_checked (finish_at n) refused (λ z g. r)))
      go (Err f) e q = tt
      go (Ok tt) e q = by_finish (OfReading FileIs) refused (λ f. tt) n _ (λ z. rw e (file_is b n v m r.table d j y q z))

  file_of_lem : OfReading FileIs (read_file s)
  unfolding read_file pfx_at
  file_of_lem =
      by_lt (OfReading FileIs) _ _ file_bytes (length s) (λ l. tt)
      (λ l.
      by_expect s bytes (OfReading FileIs) _ (λ f. tt) (whole_of s) sequence_tag _
      (λ b n d.
      by_integer s bytes (OfReading FileIs) _ (λ f. tt) b _
      (λ v m j.
      by_eq (OfReading FileIs) _ _ v pfx_version
      (λ y.
      alone_of b n v m d j y (body_at s m)
      (body_of (range_of b) m (in_next s (range_of b) b m m.at (in_body s (whole_of s) sequence_tag b n d) (omega (arith, j.whole.size)) j.moved)))
      (λ y. tt))))

  -- An accepted file follows the rules: its reading, and its table's rows.
  pub sound : IsAccepted s → FileIs (read_file s).table
  sound e = rw e at file_of_lem

-- an accepted file has at most 65,535 bytes
pub accepted_size : (s : List ℕ) → IsAccepted s → length s ≤ file_bytes
unfolding read_file
accepted_size s = by_lt (λ (r : Reading). r.answer ≡ (Ok tt) → length s ≤ file_bytes) _ _ file_bytes (length s) (λ l e. never e) (λ l e. l)
  where
    never : {A : Type 0} {f : Fault} → ◌≡◌ {A = Result ⊤ Fault} (Err f) (Ok tt) → A
    never e = let z : ◌≡◌ {A = ℕ} 0 1 = cc in absurd (omega arith)
