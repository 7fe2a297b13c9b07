-- Safes that were accepted, in a list of bytes: the value, by the rules, where it is, and the rows
-- that were added.
use mathlib.Core.Path.{◌≡◌, refl}
use mathlib.Core.List.{List, [], ◌∷◌, ◌++◌}
use Prim.Native.Nat.{ℕ, ◌+◌, ◌≤◌, ◌<◌}
use native.Mathlib.Omega.{arith}
use lib.ListN.{length}
use native.Mathlib.Nat.{add-zero}
use Rattle.der.specs.Numbers.{octet_string_tag, sequence_tag, context_tag}
use Rattle.der.specs.Content.{bytes_of}
use Rattle.der.specs.Octets.{tlv, identifier, octet_string, sequence}
use Rattle.der.specs.Span.{Span, Bytes}
use Rattle.der.specs.Follows.{HeaderIs, IdentifierIs}
use Rattle.der.specs.declared.Cursor.{Cursor}
use Rattle.der.proofs.Choices.{by_test, by_le}
use Rattle.der.proofs.Octets.{tlv_long}
use Rattle.der.proofs.Spans.{span_empty, span_join, span_to}
use Rattle.pkcs12.specs.Numbers.{safe_rows, bag_rows, levels}
use Rattle.pkcs12.specs.Identifiers.{data_type, encrypted_type, enveloped_type}
use Rattle.range.specs.Bytes.{same_bytes}
use Rattle.pkcs12.specs.Syntax.{Bags, Safe, plain, encrypted}
use Rattle.pkcs12.specs.Encode.{content_info, data_bytes, bags_bytes, safe_bytes, safes_bytes}
use Rattle.pkcs12.specs.Valid.{ValidSafes}
use Rattle.pkcs12.specs.Elements.{algorithm_count, bags_count, safes_count}
use Rattle.pkcs12.specs.Table.{no_parts, safe_row, Rows}
use Rattle.pkcs12.specs.Walk.{range_of, Walked, Refused, Went, run, add_safe, owner, safe_contents_at, data_at}
use Rattle.pkcs12.specs.Walk.{plain_at, sealed_safe_at, encrypted_at, safe_value_at, safe_at}
use Rattle.pkcs12.specs.Laid.{ElementLaid, ContentLaid, SafesLaid, no_safe_laid, one_plain, one_encrypted}
use Rattle.range.specs.declared.Range.{Range}
use Rattle.pkcs12.specs.declared.row.Parts.{Parts}
use Rattle.pkcs12.specs.declared.kind.SafeKind.TheVariants.{Plain, Encrypted}
use Rattle.std.specs.Prelude.{None}
use Rattle.pkcs12.specs.declared.row.SafeRow.{SafeRow}
use Rattle.pkcs12.specs.declared.row.BagRow.{BagRow}
use Rattle.pkcs12.specs.declared.row.AttributeRow.{AttributeRow}
use Rattle.range.proofs.SameBytes.{same_is}
use Rattle.pkcs12.proofs.Parents.{by_expect, by_identifier, by_finish, In, in_body, finished, laid_to, closed}
use Rattle.pkcs12.proofs.Parents.{closed_identifier}
use Rattle.pkcs12.proofs.Grown.{Grown, grown_none, grown_then, grown_safe, longer_length}
use Rattle.pkcs12.proofs.Shown.{laid_bags_long}
use Rattle.pkcs12.proofs.AcceptedParts.{by_parts}
use Rattle.pkcs12.proofs.AcceptedOuter.{encrypted_bytes, EncryptedIs, encrypted_of}
use Rattle.pkcs12.proofs.AcceptedAttributes.{OfWalked, by_walked, run_of}
use Rattle.pkcs12.proofs.AcceptedBags.{ContentsIs, contents_of}

module _ (s : List ℕ) (bytes : Bytes s) where
  -- the body of an OCTET STRING from o on, up to g: bytes x that fill it
  pub record Spelt (J : Cursor → Rows → Cursor → List ℕ → Type 0) (o : Cursor) (st : Rows) (g : Cursor) : Type 0 where
    pub x : List ℕ
    pub held : J o st g x
    pub whole : Span s o.at g.at x
    pub past : In (range_of o) g

  -- [0] in the body `par` of a ContentInfo, from c to e, with an OCTET STRING whose body is what J
  -- says
  pub record DataIs (J : Cursor → Rows → Cursor → List ℕ → Type 0) (par : Range) (c : Cursor) (st : Rows) (e : Cursor) : Type 0 where
    pub value : Range
    pub octets : Cursor
    pub rest : Cursor
    pub x : List ℕ
    pub held : J octets st rest x
    pub context : ElementLaid s c.at e.at context_tag value (octet_string x)
    pub string : ElementLaid s value.start value.end octet_string_tag (range_of octets) x
    pub filled : rest.at ≡ octets.end
    pub whole : Span s c.at e.at (tlv context_tag (octet_string x))
    pub past : In par e

  data_is : (J : Cursor → Rows → Cursor → List ℕ → Type 0) (par : Range) (c v e o f : Cursor) (st : Rows) (g : Cursor) → In par c
      → HeaderIs s c context_tag v e → HeaderIs s v octet_string_tag o f → Spelt J o st g → g.end ≤ g.at → f.end ≤ f.at → DataIs J par c st e
  data_is J par c v e o f st g h d q a y z =
      let u = closed s (range_of v) v octet_string_tag o f a.x (in_body s c context_tag v e d) q
      (span_to s o.at g.at o.end _ (finished (range_of o) g a.past y) a.whole) in
      let w = closed s par c context_tag v e (octet_string a.x) h d (span_to s v.at f.at v.end _ (finished (range_of v) f u.past z) u.whole) in
      record {
        value = range_of v;
        octets = o;
        rest = g;
        x = a.x;
        held = a.held;
        context = w.child;
        string = laid_to v.end (finished (range_of v) f u.past z) u.child;
        filled = finished (range_of o) g a.past y;
        whole = w.whole;
        past = w.past;
      }

  pub data_of : (J : Cursor → Rows → Cursor → List ℕ → Type 0) (inner : Cursor → Walked) → ((o : Cursor) → In (range_of o) o → OfWalked (Spelt J o) (inner o))
      → (par : Range) (c : Cursor) → In par c → OfWalked (DataIs J par c) (data_at inner s c)
  unfolding data_at
  data_of J inner inner_of par c h =
      by_expect s bytes Good _ (λ f. tt) c context_tag _
      (λ v e d.
      by_expect s bytes Good _ (λ f. tt) v octet_string_tag _
      (λ o f q.
      by_walked Good _ (λ f. tt) (Spelt J o) _
      (λ st g a. by_finish Good _ (λ f. tt) g _ (λ y. by_finish Good _ (λ f. tt) f _ (λ z. data_is J par c v e o f st g h d q a y z)))
      (inner o) (inner_of o (in_body s v octet_string_tag o f q))))
    where
      Good : Walked → Type 0
      Good = OfWalked (DataIs J par c)

  -- What follows the type of a safe, in the body `body` of its ContentInfo, from m to e: its [0],
  -- the rows that it adds, and the safe in front of others.
  record RestIs (body : Range) (type : List ℕ) (st : Rows) (m : Cursor) (st' : Rows) (e : Cursor) : Type 0 where
    content : List ℕ
    value : Range
    context : ElementLaid s m.at e.at context_tag value content
    whole : Span s m.at e.at (tlv context_tag content)
    past : In body e
    safe : Safe
    row : SafeRow
    rows : List BagRow
    own : List AttributeRow
    count : ℕ
    valid : (xs : List Safe) → ValidSafes xs → ValidSafes (safe ∷ xs)
    spelled : (xs : List Safe) → safes_bytes (safe ∷ xs) ≡ content_info type content ++ safes_bytes xs
    counted : (xs : List Safe) → safes_count (safe ∷ xs) ≡ count + safes_count xs
    grown : Grown st st' (row ∷ []) rows own count
    laid : (from mid to : ℕ) → ContentLaid s from mid type value content
        → (xs : List Safe) (safes : List SafeRow) (more : List BagRow) (rest : List AttributeRow)
        → SafesLaid s mid to (length st.safes + 1) (length st.bags + length rows) xs safes more rest
        → SafesLaid s from to (length st.safes) (length st.bags) (safe ∷ xs) (row ∷ safes) (rows ++ more) (own ++ rest)

  -- a plain safe
  abbrev PlainHeld : Rows → Cursor → Rows → Cursor → List ℕ → Type 0
  PlainHeld st o st' g x =
      (q : ContentsIs s bytes levels (owner (length st.safes) None)
      (add_safe st (safe_row Plain no_parts) 4) (range_of o) o st' g) × (x ≡ sequence (bags_bytes q.value))

  plain_is : (body : Range) (st : Rows) (m : Cursor) (st' : Rows) (e : Cursor) → length st.safes < safe_rows
      → DataIs (PlainHeld st) body m st' e → RestIs body data_type st m st' e
  unfolding safes_bytes safe_bytes data_bytes ValidSafes safes_count
  plain_is body st m st' e room a =
      record {
        content = octet_string (sequence (bags_bytes v));
        value = a.value;
        context = rw y at a.context;
        whole = rw y at a.whole;
        past = a.past;
        safe = plain v;
        row = safe_row Plain no_parts;
        rows = q.rows;
        own = q.own;
        count = 4 + (bags_count v + 1);
        valid = λ xs r. (q.valid, r);
        spelled = λ xs. refl;
        counted = λ xs. omega arith;
        grown =
            grown_then st (add_safe st (safe_row Plain no_parts) 4) st' (safe_row Plain no_parts ∷ []) [] [] q.rows []
            q.own 4 _ (grown_safe st (safe_row Plain no_parts) 4 room) q.grown;
        laid = λ from mid to l xs safes more rest r.
            one_plain (range_of a.octets) q.body
            (record {
              value = a.value;
              content = l;
              string = rw y at a.string;
              element = laid_to a.octets.end a.filled q.child;
            }) q.laid
            (rw (laid_bags_long s _ _ _ _ v q.rows q.own q.laid).0 at r);
      }
    where
      q : ContentsIs s bytes levels (owner (length st.safes) None)
          (add_safe st (safe_row Plain no_parts) 4) (range_of a.octets) a.octets st' a.rest
      q = a.held.0

      v : Bags
      v = q.value

      y : a.x ≡ sequence (bags_bytes v)
      y = a.held.1

  plain_of : (body : Range) (st : Rows) (m : Cursor) → length st.safes < safe_rows → In body m → OfWalked (RestIs body data_type st m) (plain_at s st m)
  unfolding plain_at
  plain_of body st m room h = go (data_at _ s m) (data_of (PlainHeld st) _ inner body m h)
    where
      go : (x : Walked) → OfWalked (DataIs (PlainHeld st) body m) x → OfWalked (RestIs body data_type st m) x
      go (Refused f) q = tt
      go (Went st' e) q = plain_is body st m st' e room q

      spelt : (o : Cursor) (x : Walked)
          → OfWalked (ContentsIs s bytes levels (owner (length st.safes) None) (add_safe st (safe_row Plain no_parts) 4) (range_of o) o) x
          → OfWalked (Spelt (PlainHeld st) o) x
      spelt o (Refused f) q = tt
      spelt o (Went st' g) q = record { x = sequence (bags_bytes q.value); held = (q, refl); whole = q.whole; past = q.past }

      inner : (o : Cursor) → In (range_of o) o
          → OfWalked (Spelt (PlainHeld st) o) (safe_contents_at levels s (owner (length st.safes) None) (add_safe st (safe_row Plain no_parts) 4) o)
      inner o i = spelt o (safe_contents_at levels s _ _ o) (contents_of s bytes levels _ _ (range_of o) o i)

  -- an encrypted safe
  sealed_is : (body : Range) (st : Rows) (m v e : Cursor) (p : Parts) (k : ℕ) (f : Cursor) → length st.safes < safe_rows → In body m
      → HeaderIs s m context_tag v e → EncryptedIs s bytes (range_of v) v p k f → f.end ≤ f.at
      → RestIs body encrypted_type st m (add_safe st (safe_row Encrypted p) (k + 3)) e
  unfolding safes_bytes safe_bytes ValidSafes safes_count
  sealed_is body st m v e p k f room h d a z =
      let x : List ℕ = encrypted_bytes s bytes a.value in
      let filled : f.at ≡ v.end = finished (range_of v) f a.past z in
      let u = closed s body m context_tag v e x h d (span_to s v.at f.at v.end x filled a.whole) in
      let y : k + 3 ≡ algorithm_count a.value.algorithm + 8 = omega (arith, a.count) in
      record {
        content = x;
        value = range_of v;
        context = u.child;
        whole = u.whole;
        past = u.past;
        safe = encrypted a.value;
        row = safe_row Encrypted p;
        rows = [];
        own = [];
        count = algorithm_count a.value.algorithm + 8;
        valid = λ xs r. (a.valid, r);
        spelled = λ xs. refl;
        counted = λ xs. refl;
        grown = rw y (grown_safe st (safe_row Encrypted p) _ room);
        laid = λ from mid to l xs safes more rest r. one_encrypted p (range_of v) l (rw filled at a.laid) (rw (add-zero (length st.bags)) at r);
      }

  sealed_of : (body : Range) (st : Rows) (m : Cursor) → length st.safes < safe_rows → In body m
      → OfWalked (RestIs body encrypted_type st m) (sealed_safe_at s st m)
  unfolding sealed_safe_at
  sealed_of body st m room h =
      by_expect s bytes Good _ (λ f. tt) m context_tag _
      (λ v e d.
      by_parts Good _ (λ f. tt) (EncryptedIs s bytes (range_of v) v) _
      (λ p k f a. by_finish Good _ (λ f. tt) f _ (λ z. sealed_is body st m v e p k f room h d a z))
      (encrypted_at s v) (encrypted_of s bytes (range_of v) v (in_body s m context_tag v e d)))
    where
      Good : Walked → Type 0
      Good = OfWalked (RestIs body encrypted_type st m)

  -- a safe in the body `par` of the AuthenticatedSafe, from c to n
  record SafeStep (par : Range) (st : Rows) (c : Cursor) (st' : Rows) (n : Cursor) : Type 0 where
    body : Range
    type : List ℕ
    from : Cursor
    end : Cursor
    rest : RestIs body type st from st' end
    whole : Span s c.at n.at (content_info type rest.content)
    laid : ContentLaid s c.at n.at type rest.value rest.content
    past : In par n

  safe_is : (par : Range) (st : Rows) (c b n : Cursor) (t : ℕ) (i m : Cursor) (type : List ℕ) (st' : Rows) (e : Cursor) → In par c
      → HeaderIs s c sequence_tag b n → IdentifierIs s b t i m → bytes_of s i ≡ type → RestIs (range_of b) type st m st' e → e.end ≤ e.at
      → SafeStep par st c st' n
  unfolding content_info
  safe_is par st c b n t i m type st' e h d j y a z =
      let w = closed_identifier s (range_of b) b t i m (in_body s c sequence_tag b n d) j in
      let first : Span s b.at m.at (identifier type) = rw y at w.whole in
      let x : List ℕ = identifier type ++ tlv context_tag a.content in
      let u = closed s par c sequence_tag b n x h d
      (span_to s b.at e.at b.end x (finished (range_of b) e a.past z)
      (span_join s _ _ _ _ _ first a.whole)) in
      record {
        body = range_of b;
        type = type;
        from = m;
        end = e;
        rest = a;
        whole = u.whole;
        laid =
            record {
              body = range_of b;
              name = range_of i;
              rest = m.at;
              element = u.child;
              named = rw y at w.child;
              context = laid_to b.end (finished (range_of b) e a.past z) a.context;
            };
        past = u.past;
      }

  -- what follows a type x, of the types that are served
  record Rest (body : Range) (x : List ℕ) (st : Rows) (m : Cursor) (st' : Rows) (e : Cursor) : Type 0 where
    type : List ℕ
    matches : x ≡ type
    rest : RestIs body type st m st' e

  rest_of : (body : Range) (x type : List ℕ) (st : Rows) (m : Cursor) → x ≡ type → (y : Walked)
      → OfWalked (RestIs body type st m) y → OfWalked (Rest body x st m) y
  rest_of body x type st m e (Refused f) q = tt
  rest_of body x type st m e (Went st' n) q = record { type = type; matches = e; rest = q }

  value_of : (body : Range) (x : List ℕ) (at : ℕ) (st : Rows) (m : Cursor) → length st.safes < safe_rows → In body m
      → OfWalked (Rest body x st m) (safe_value_at s x at st m)
  unfolding safe_value_at
  value_of body x at st m room h =
      by_test Good _ _ (same_bytes x data_type)
      (λ y. rest_of body x data_type st m (same_is x _ y) (plain_at s st m) (plain_of body st m room h))
      (λ w. by_test Good _ _ (same_bytes x encrypted_type)
      (λ y. rest_of body x encrypted_type st m (same_is x _ y) (sealed_safe_at s st m) (sealed_of body st m room h))
      (λ w. by_test Good _ _ (same_bytes x enveloped_type) (λ y. tt) (λ y. tt)))
    where
      Good : Walked → Type 0
      Good = OfWalked (Rest body x st m)

  safe_of_lem : (par : Range) (st : Rows) (c : Cursor) → In par c → OfWalked (SafeStep par st c) (safe_at s st c)
  unfolding safe_at
  safe_of_lem par st c h =
      by_expect s bytes Good _ (λ f. tt) c sequence_tag _
      (λ b n d.
      by_le Good _ _ safe_rows (length st.safes) (λ r. tt)
      (λ r.
      by_identifier s bytes Good _ (λ f. tt) b _
      (λ t i m j.
      by_walked Good _ (λ f. tt) (Rest (range_of b) (bytes_of s i) st m) _
      (λ st' e a. by_finish Good _ (λ f. tt) e _ (λ z. safe_is par st c b n t i m a.type st' e h d j a.matches a.rest z))
      (safe_value_at s (bytes_of s i) b.at st m)
      (value_of (range_of b) (bytes_of s i) b.at st m r (closed_identifier s (range_of b) b t i m (in_body s c sequence_tag b n d) j).past))))
    where
      Good : Walked → Type 0
      Good = OfWalked (SafeStep par st c)

  -- the safes from `at` to the end of the body `par`
  pub record SafesRun (par : Range) (st : Rows) (at : ℕ) (st' : Rows) : Type 0 where
    pub value : List Safe
    pub safes : List SafeRow
    pub rows : List BagRow
    pub own : List AttributeRow
    pub valid : ValidSafes value
    pub laid : SafesLaid s at par.end (length st.safes) (length st.bags) value safes rows own
    pub grown : Grown st st' safes rows own (safes_count value)
    pub whole : Span s at par.end (safes_bytes value)

  safes_more : (par : Range) (st : Rows) (c : Cursor) (st' : Rows) (n : Cursor) (st'' : Rows) → SafeStep par st c st' n → SafesRun par st' n.at st''
      → SafesRun par st c.at st''
  safes_more par st c st' n st'' a r =
      record {
        value = o.safe ∷ r.value;
        safes = o.row ∷ r.safes;
        rows = o.rows ++ r.rows;
        own = o.own ++ r.own;
        valid = o.valid r.value r.valid;
        laid = o.laid c.at n.at par.end a.laid r.value r.safes r.rows r.own
            (rw (longer_length bag_rows _ _ o.rows o.grown.bags, longer_length safe_rows _ _ (o.row ∷ []) o.grown.safes) at r.laid);
        grown = rw (o.counted r.value) (grown_then st st' st'' (o.row ∷ []) r.safes o.rows r.rows o.own r.own _ _ o.grown r.grown);
        whole = rw (o.spelled r.value) (span_join s _ _ _ _ _ a.whole r.whole);
      }
    where
      o : RestIs a.body a.type st a.from st' a.end
      o = a.rest

  pub safes_run : (par : Range) (st : Rows) (c : Cursor) → par.end ≤ length s → In par c
      → OfWalked (λ st' n. SafesRun par st c.at st') (run (safe_at s) st c)
  unfolding safes_bytes safes_count ValidSafes content_info
  safes_run par st c i =
      run_of par (safe_at s) (SafeStep par) (SafesRun par) (safe_of_lem par)
      (λ st c st' n a. (a.past, omega (arith, a.whole.size, tlv_long sequence_tag (identifier a.type ++ tlv context_tag a.rest.content))))
      (λ st. record { value = []; safes = []; rows = []; own = []; valid = tt; laid = no_safe_laid; grown = grown_none st; whole = span_empty s par.end i })
      (λ st c st' n st'' j a r. safes_more par st c st' n st'' a r)
      st c
