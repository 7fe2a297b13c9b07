-- Bags and safe contents that were accepted, in a list of bytes: the value, by the rules, where it
-- is, and the rows that were added.
use mathlib.Core.Bool.{Bool, true, false}
use mathlib.Core.Path.{◌≡◌, refl, ap}
use mathlib.Core.List.{List, [], ◌∷◌, ◌++◌, append-nil, append_assoc}
use Prim.Native.Nat.{ℕ, zero, suc, ◌+◌, ◌≤◌, ◌<◌}
use native.Mathlib.Omega.{arith}
use lib.Dec.{ltb}
use lib.ListN.{length, length-append}
use Rattle.der.specs.Numbers.{identifier_tag, sequence_tag, context_tag}
use Rattle.der.specs.Content.{bytes_of}
use Rattle.der.specs.Octets.{tlv, identifier, sequence}
use Rattle.der.specs.Span.{Span, Bytes}
use Rattle.der.specs.Follows.{HeaderIs, IdentifierIs}
use Rattle.der.specs.declared.Cursor.{Cursor}
use Rattle.der.proofs.Choices.{by_le}
use Rattle.der.proofs.Octets.{tlv_long}
use Rattle.der.proofs.Spans.{span_empty, span_join, span_to}
use Rattle.pkcs12.specs.Numbers.{bag_rows}
use Rattle.pkcs12.specs.Identifiers.{identifier_of, kind_of}
use Rattle.pkcs12.specs.Syntax.{Leaf, certificate, crl, secret, Set, Bags, none, bag, nest, kind_of_leaf}
use Rattle.pkcs12.specs.Encode.{set_bytes, leaf_bytes, bag_bytes, bags_bytes}
use Rattle.pkcs12.specs.Valid.{ValidSet, ValidBags, ValidContents, bags_in}
use Rattle.pkcs12.specs.Elements.{leaf_count, set_count, bags_count}
use Rattle.pkcs12.specs.Table.{no_parts, bag_row, Rows}
use Rattle.pkcs12.specs.Walk.{range_of, Walked, Refused, Went, run, counting, add_bag, set_at, Owner, owner}
use Rattle.pkcs12.specs.Walk.{leaf_at, content_at, bag_at, safe_contents_at, key_at, sealed_at, typed_at}
use Rattle.pkcs12.specs.Laid.{ElementLaid, LeafLaid, BagLaid, BagsLaid, no_bag_laid, one_bag, one_nest}
use Rattle.range.specs.declared.Range.{Range}
use Rattle.pkcs12.specs.declared.row.Parts.{Parts}
use Rattle.der.specs.declared.Fault.{Fault}
use Rattle.pkcs12.specs.declared.answers.Parsed.{Parsed}
use Rattle.std.specs.Prelude.{Err, Ok, Result, Some}
use Rattle.pkcs12.specs.declared.kind.BagKind.{BagKind}
use Rattle.pkcs12.specs.declared.kind.BagKind.TheVariants.{Key, ShroudedKey, Certificate, Crl, Secret, Nested}
use Rattle.pkcs12.specs.declared.row.BagRow.{BagRow}
use Rattle.pkcs12.specs.declared.row.AttributeRow.{AttributeRow}
use Rattle.pkcs12.proofs.Named.{by_kind}
use Rattle.pkcs12.proofs.Parents.{by_expect, by_identifier, by_finish, In, in_body, finished, laid_at, Closed}
use Rattle.pkcs12.proofs.Parents.{closed, closed_any, closed_identifier}
use Rattle.pkcs12.proofs.Grown.{Grown, grown_counting, grown_none, grown_then, grown_as, grown_bag}
use Rattle.pkcs12.proofs.Grown.{longer_length}
use Rattle.pkcs12.proofs.Shown.{laid_bags_long}
use Rattle.pkcs12.proofs.AcceptedParts.{OfParts, LeafIs, key_of, shrouded_of, typed_of_lem}
use Rattle.pkcs12.proofs.AcceptedAttributes.{OfWalked, by_walked, run_of, SetIs, set_of_lem}

module _ (s : List ℕ) (bytes : Bytes s) where
  -- What is in the body `v` of a bag's [0], from c to f: its bytes, the rows that it adds
  -- behind the bag's own, and the bag in front of others.
  record ContentIs (l : ℕ) (w : Owner) (k : BagKind) (h : Bool) (st : Rows) (v : Range) (c : Cursor) (st' : Rows) (f : Cursor) : Type 0 where
    content : List ℕ
    p : Parts
    below : List BagRow
    deep : List AttributeRow
    count : ℕ
    whole : Span s c.at f.at content
    past : In v f
    grown : Grown st st' [] (bag_row k w.safe w.enclosing p h ∷ below) deep count
    front : Set → Bags → Bags
    valid : (set : Set) (xs : Bags) → ValidSet set → ValidBags l xs → ValidBags l (front set xs)
    spelled : (set : Set) (xs : Bags) → bags_bytes (front set xs) ≡ bag_bytes k content set ++ bags_bytes xs
    counted : (set : Set) (xs : Bags) → bags_count (front set xs) ≡ (count + set_count set) + bags_count xs
    laid : c.at ≡ v.start → f.at ≡ v.end → (from mid to : ℕ) (set : Set) (xs : Bags) (row : BagRow) (rows : List BagRow) (own rest : List AttributeRow)
        → BagLaid s from mid w (length st.bags) k p v content set row own → BagsLaid s mid to w (length st.bags + suc (length below)) xs rows rest
        → BagsLaid s from to w (length st.bags) (front set xs) (row ∷ (below ++ rows)) (deep ++ (own ++ rest))

  -- a leaf between offsets that are written otherwise
  leaf_at_lem : (from to start end : ℕ) (p : Parts) (x : Leaf) → from ≡ start → to ≡ end → LeafLaid s from to p x → LeafLaid s start end p x
  leaf_at_lem from to start end p x d e l = rw (d, e) at l

  leaf_of_lem : (l : ℕ) (w : Owner) (k : BagKind) (h : Bool) (st : Rows) (v : Range) (c : Cursor) → length st.bags < bag_rows → (x : Result (Parsed Parts) Fault)
      → OfParts (LeafIs s bytes k v c) x → OfWalked (ContentIs l w k h st v c) (leaf_at x k w h st)
  unfolding bags_bytes bags_count ValidBags
  leaf_of_lem l w k h st v c room (Err f) q = tt
  leaf_of_lem l w k h st v c room (Ok u) q = rw (← q.valid.1, q.count) one
    where
      x : Leaf
      x = q.value

      one : ContentIs l w (kind_of_leaf x) h st v c (add_bag st (bag_row (kind_of_leaf x) w.safe w.enclosing u.value h) (leaf_count x + 3)) u.next
      one =
          record {
            content = leaf_bytes x;
            p = u.value;
            below = [];
            deep = [];
            count = leaf_count x + 3;
            whole = q.whole;
            past = q.past;
            grown = grown_bag st (bag_row (kind_of_leaf x) w.safe w.enclosing u.value h) (leaf_count x + 3) room;
            front = bag x;
            valid = λ set xs a b. (q.valid.0, a, b);
            spelled = λ set xs. refl;
            counted = λ set xs. refl;
            laid = λ y z from mid to set xs row rows own rest b r. one_bag u.value v b (leaf_at_lem c.at u.next.at v.start v.end u.value x y z q.laid) r;
          }

  -- a SafeContents in the body `par`, with l levels left, from c to n
  pub record ContentsIs (l : ℕ) (w : Owner) (st : Rows) (par : Range) (c : Cursor) (st' : Rows) (n : Cursor) : Type 0 where
    pub value : Bags
    pub body : Range
    pub rows : List BagRow
    pub own : List AttributeRow
    pub valid : ValidContents l value
    pub child : ElementLaid s c.at n.at sequence_tag body (bags_bytes value)
    pub laid : BagsLaid s body.start body.end w (length st.bags) value rows own
    pub grown : Grown st st' [] rows own (bags_count value + 1)
    pub whole : Span s c.at n.at (sequence (bags_bytes value))
    pub past : In par n

  valid_nest : (l : ℕ) (inner : Bags) (set : Set) (xs : Bags) → ValidContents l inner → ValidSet set → ValidBags l xs → ValidBags l (nest inner set xs)
  unfolding ValidBags
  valid_nest zero inner set xs a b d = a
  valid_nest (suc l) inner set xs a b d = (a, b, d)

  nest_of : (l : ℕ) (w : Owner) (h : Bool) (st : Rows) (v : Range) (c : Cursor) → length st.bags < bag_rows → (x : Walked)
      → OfWalked (ContentsIs l (owner w.safe (Some (length st.bags))) (add_bag st (bag_row Nested w.safe w.enclosing no_parts h) 3) v c) x
      → OfWalked (ContentIs l w Nested h st v c) x
  unfolding bags_bytes bags_count
  nest_of l w h st v c room (Refused f) q = tt
  nest_of l w h st v c room (Went st' n) q =
      record {
        content = sequence (bags_bytes q.value);
        p = no_parts;
        below = q.rows;
        deep = q.own;
        count = 3 + (bags_count q.value + 1);
        whole = q.whole;
        past = q.past;
        grown = grown_then st (add_bag st row 3) st' [] [] (row ∷ []) q.rows [] q.own 3 _ (grown_bag st row 3 room) q.grown;
        front = nest q.value;
        valid = λ set xs. valid_nest l q.value set xs q.valid;
        spelled = λ set xs. refl;
        counted = λ set xs. omega arith;
        laid =
            λ y z from mid to set xs row' rows own rest b r.
            one_nest v q.body b (laid_at v.start v.end y z q.child) (rw first at q.laid)
            (rw later at r);
      }
    where
      row : BagRow
      row = bag_row Nested w.safe w.enclosing no_parts h

      first : length (st.bags ++ (row ∷ [])) ≡ length st.bags + 1
      first = length-append st.bags (row ∷ [])

      later : length st.bags + suc (length q.rows) ≡ length st.bags + 1 + bags_in q.value
      later = omega (arith, (laid_bags_long s _ _ _ _ q.value q.rows q.own q.laid).0)

  -- what a bag's [0] holds, by the bag's kind, where the SafeContents of a nested bag are read
  -- soundly
  module _ (l : ℕ) (inner : Owner → Rows → Cursor → Walked)
      (inner_of : (w : Owner) (st : Rows) (par : Range) (c : Cursor) → In par c → OfWalked (ContentsIs l w st par c) (inner w st c)) where
    content_of_lem : (w : Owner) (k : BagKind) (h : Bool) (st : Rows) (v : Range) (c : Cursor) → length st.bags < bag_rows → In v c
        → OfWalked (ContentIs l w k h st v c) (content_at inner s k w h st c)
    content_of_lem w BagKind.None h st v c room i = tt
    content_of_lem w Key h st v c room i = leaf_of_lem l w Key h st v c room (key_at s c) (key_of s bytes v c i)
    content_of_lem w ShroudedKey h st v c room i = leaf_of_lem l w ShroudedKey h st v c room (sealed_at s c) (shrouded_of s bytes v c i)
    content_of_lem w Certificate h st v c room i = leaf_of_lem l w Certificate h st v c room (typed_at true s c) (typed_of_lem s bytes certificate v c i)
    content_of_lem w Crl h st v c room i = leaf_of_lem l w Crl h st v c room (typed_at false s c) (typed_of_lem s bytes crl v c i)
    content_of_lem w Secret h st v c room i = leaf_of_lem l w Secret h st v c room (typed_at false s c) (typed_of_lem s bytes secret v c i)
    content_of_lem w Nested h st v c room i = nest_of l w h st v c room (inner _ _ c) (inner_of _ _ v c i)

    -- a bag in the body `par`, from c to n: it is put in front of any bags that follow
    record BagStep (w : Owner) (par : Range) (st : Rows) (c : Cursor) (st' : Rows) (n : Cursor) : Type 0 where
      front : Bags → Bags
      spelling : List ℕ
      rows : List BagRow
      own : List AttributeRow
      count : ℕ
      valid : (xs : Bags) → ValidBags l xs → ValidBags l (front xs)
      spelled : (xs : Bags) → bags_bytes (front xs) ≡ sequence spelling ++ bags_bytes xs
      counted : (xs : Bags) → bags_count (front xs) ≡ count + bags_count xs
      laid : (to : ℕ) (xs : Bags) (more : List BagRow) (rest : List AttributeRow) → BagsLaid s n.at to w (length st.bags + length rows) xs more rest
          → BagsLaid s c.at to w (length st.bags) (front xs) (rows ++ more) (own ++ rest)
      grown : Grown st st' [] rows own count
      whole : Span s c.at n.at (sequence spelling)
      past : In par n

    bag_is : (w : Owner) (par : Range) (st : Rows) (c b n : Cursor) (t : ℕ) (i m : Cursor) (k : BagKind)
        (v e : Cursor) (st' : Rows) (f : Cursor) (st'' : Rows) (g : Cursor)
        → In par c → HeaderIs s c sequence_tag b n → IdentifierIs s b t i m → bytes_of s i ≡ identifier_of k → HeaderIs s m context_tag v e
        → ContentIs l w k (ltb e.at e.end) st (range_of v) v st' f → f.end ≤ f.at → SetIs s bytes (range_of b) (length st.bags) st' e st'' g
        → BagStep w par st c st'' n
    unfolding bag_bytes
    bag_is w par st c b n t i m k v e st' f st'' g h d j y q a z o =
        record {
          front = a.front o.value;
          spelling = x;
          rows = row ∷ a.below;
          own = a.deep ++ o.rows;
          count = a.count + set_count o.value;
          valid = λ xs. a.valid o.value xs o.valid;
          spelled = λ xs. a.spelled o.value xs;
          counted = λ xs. a.counted o.value xs;
          laid = λ to xs more rest r.
              rw (append_assoc a.deep o.rows rest)
              (a.laid refl filled c.at n.at to o.value xs row more o.rows rest
              (record {
                shows = ap (λ u. bag_row k w.safe w.enclosing a.p u) o.flag;
                body = range_of b;
                name = range_of i;
                rest = m.at;
                after = e.at;
                element = whole_of.child;
                type = rw y at type.child;
                context = context.child;
                attributes = o.laid;
              })
              r);
          grown = rw (append-nil (row ∷ a.below)) at (grown_then st st' st'' [] [] (row ∷ a.below) [] a.deep o.rows _ _ a.grown o.grown);
          whole = whole_of.whole;
          past = whole_of.past;
        }
      where
        row : BagRow
        row = bag_row k w.safe w.enclosing a.p (ltb e.at e.end)

        x : List ℕ
        x = identifier (identifier_of k) ++ (tlv context_tag a.content ++ set_bytes o.value)

        filled : f.at ≡ v.end
        filled = finished (range_of v) f a.past z

        type : Closed s (range_of b) b identifier_tag i m (bytes_of s i)
        type = closed_identifier s (range_of b) b t i m (in_body s c sequence_tag b n d) j

        context : Closed s (range_of b) m context_tag v e a.content
        context = closed s (range_of b) m context_tag v e a.content type.past q (span_to s v.at f.at v.end _ filled a.whole)

        first : Span s b.at m.at (identifier (identifier_of k))
        first = rw y at type.whole

        whole_of : Closed s par c sequence_tag b n x
        whole_of = closed s par c sequence_tag b n x h d (span_join s _ _ _ _ _ first (span_join s _ _ _ _ _ context.whole o.whole))

    bag_of : (w : Owner) (par : Range) (st : Rows) (c : Cursor) → In par c → OfWalked (BagStep w par st c) (bag_at inner s w st c)
    unfolding bag_at
    bag_of w par st c h =
        by_expect s bytes Good _ (λ f. tt) c sequence_tag _
        (λ b n d.
        by_le Good _ _ bag_rows (length st.bags) (λ r. tt)
        (λ r.
        by_identifier s bytes Good _ (λ f. tt) b _
        (λ t i m j.
        by_kind Good _ _ (bytes_of s i) tt
        (λ y.
        by_expect s bytes Good _ (λ f. tt) m context_tag _
        (λ v e q.
        by_walked Good _ (λ f. tt) (ContentIs l w (kind_of (bytes_of s i)) (ltb e.at e.end) st (range_of v) v) _
        (λ st' f a.
        by_finish Good _ (λ f. tt) f _
        (λ z.
        by_walked Good _ (λ f. tt) (SetIs s bytes (range_of b) (length st.bags) st' e) _
        (λ st'' g o. bag_is w par st c b n t i m (kind_of (bytes_of s i)) v e st' f st'' g h d j y q a z o)
        (set_at s (length st.bags) st' e)
        (set_of_lem s bytes (range_of b) (length st.bags) st' e
        (closed_any s (range_of b) m context_tag v e (closed_identifier s (range_of b) b t i m (in_body s c sequence_tag b n d) j).past q).past
        d.body.inside)))
        (content_at inner s (kind_of (bytes_of s i)) w (ltb e.at e.end) st v)
        (content_of_lem w (kind_of (bytes_of s i)) (ltb e.at e.end) st (range_of v) v r (in_body s m context_tag v e q)))))))
      where
        Good : Walked → Type 0
        Good = OfWalked (BagStep w par st c)

    -- the bags from `at` to the end of the body `par`
    pub record BagsRun (w : Owner) (par : Range) (st : Rows) (at : ℕ) (st' : Rows) : Type 0 where
      pub value : Bags
      pub rows : List BagRow
      pub own : List AttributeRow
      pub valid : ValidBags l value
      pub laid : BagsLaid s at par.end w (length st.bags) value rows own
      pub grown : Grown st st' [] rows own (bags_count value)
      pub whole : Span s at par.end (bags_bytes value)

    run_more : (w : Owner) (par : Range) (st : Rows) (c : Cursor) (st' : Rows) (n : Cursor) (st'' : Rows) → BagStep w par st c st' n
        → BagsRun w par st' n.at st'' → BagsRun w par st c.at st''
    run_more w par st c st' n st'' a r =
        record {
          value = a.front r.value;
          rows = a.rows ++ r.rows;
          own = a.own ++ r.own;
          valid = a.valid r.value r.valid;
          laid = a.laid par.end r.value r.rows r.own (rw (longer_length bag_rows _ _ a.rows a.grown.bags) at r.laid);
          grown = rw (a.counted r.value) (grown_then st st' st'' [] [] a.rows r.rows a.own r.own _ _ a.grown r.grown);
          whole = rw (a.spelled r.value) (span_join s _ _ _ _ _ a.whole r.whole);
        }

    bags_of_lem : (w : Owner) (par : Range) (st : Rows) (c : Cursor) → par.end ≤ length s → In par c
        → OfWalked (λ st' n. BagsRun w par st c.at st') (run (bag_at inner s w) st c)
    unfolding bags_bytes bags_count ValidBags
    bags_of_lem w par st c i =
        run_of par (bag_at inner s w) (BagStep w par) (BagsRun w par) (bag_of w par)
        (λ st c st' n a. (a.past, omega (arith, a.whole.size, tlv_long sequence_tag a.spelling)))
        (λ st. record { value = none; rows = []; own = []; valid = tt; laid = no_bag_laid; grown = grown_none st; whole = span_empty s par.end i })
        (λ st c st' n st'' j a r. run_more w par st c st' n st'' a r)
        st c

  contents_is : (l : ℕ) (inner : Owner → Rows → Cursor → Walked)
      (inner_of : (w : Owner) (st : Rows) (par : Range) (c : Cursor) → In par c → OfWalked (ContentsIs l w st par c) (inner w st c))
      (w : Owner) (st : Rows) (par : Range) (c b n : Cursor) (st' : Rows) → In par c → HeaderIs s c sequence_tag b n
      → BagsRun l inner inner_of w (range_of b) (counting st 1) b.at st' → ContentsIs (suc l) w st par c st' n
  contents_is l inner inner_of w st par c b n st' h d a =
      let u = closed s par c sequence_tag b n (bags_bytes a.value) h d a.whole in
      record {
        value = a.value;
        body = range_of b;
        rows = a.rows;
        own = a.own;
        valid = a.valid;
        child = u.child;
        laid = a.laid;
        grown = grown_as st st' _ _ _ _ _ (omega arith) (grown_then st (counting st 1) st' [] [] [] a.rows [] a.own 1 _ (grown_counting st 1) a.grown);
        whole = u.whole;
        past = u.past;
      }

  pub contents_of : (l : ℕ) (w : Owner) (st : Rows) (par : Range) (c : Cursor) → In par c → OfWalked (ContentsIs l w st par c) (safe_contents_at l s w st c)
  unfolding safe_contents_at
  contents_of zero w st par c h = by_expect s bytes (OfWalked (ContentsIs zero w st par c)) _ (λ f. tt) c sequence_tag _ (λ b n d. tt)
  contents_of (suc l) w st par c h =
      by_expect s bytes (OfWalked (ContentsIs (suc l) w st par c)) _ (λ f. tt) c sequence_tag _
      (λ b n d.
      by_walked (OfWalked (ContentsIs (suc l) w st par c)) _ (λ f. tt)
      (λ st' f. BagsRun l (safe_contents_at l s) (contents_of l) w (range_of b) (counting st 1) b.at st') _
      (λ st' f a. contents_is l (safe_contents_at l s) (contents_of l) w st par c b n st' h d a)
      (run (bag_at (safe_contents_at l s) s w) (counting st 1) b)
      (bags_of_lem l (safe_contents_at l s) (contents_of l) w (range_of b) (counting st 1) b d.body.inside (in_body s c sequence_tag b n d)))
