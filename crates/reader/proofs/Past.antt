-- How far each part of the walk goes, and how many elements it counts: what the code's sums and
-- loops lean on.
use mathlib.Core.Bool.{Bool, true, false}
use mathlib.Core.Path.{◌≡◌, refl, ◌∙◌}
use mathlib.Core.List.{List}
use Prim.Native.Nat.{ℕ, zero, suc, ◌+◌, ◌≤◌}
use native.Mathlib.Omega.{arith}
use lib.Dec.{ltb}
use lib.ListN.{length}
use Rattle.der.specs.Numbers.{octet_string_tag, integer_tag, sequence_tag, set_tag, context_tag}
use Rattle.der.specs.Element.{tag_at}
use Rattle.der.specs.Content.{bytes_of}
use Rattle.der.specs.declared.Cursor.{Cursor}
use Rattle.der.proofs.Choices.{by_test, by_le, by_eq}
use Rattle.pkcs12.specs.Numbers.{safe_rows, bag_rows, attribute_rows, levels}
use Rattle.pkcs12.specs.Numbers.{default_iterations}
use Rattle.range.specs.Bytes.{same_bytes}
use Rattle.pkcs12.specs.Identifiers.{data_type, enveloped_type, encrypted_type, kind_of}
use Rattle.pkcs12.specs.Table.{Rows}
use Rattle.pkcs12.specs.Walk.{range_of, sealed_at, key_at, typed_at, encrypted_at}
use Rattle.pkcs12.specs.Walk.{Walked, Refused, Went, run, counting, attribute_at, set_at, Owner, leaf_at, content_at}
use Rattle.pkcs12.specs.Walk.{bag_at, safe_contents_at, data_at, plain_at, sealed_safe_at, safe_value_at}
use Rattle.pkcs12.specs.Walk.{safe_at, iterations_at}
use Rattle.pkcs12.specs.Walk.{mac_at}
use Rattle.range.specs.declared.Range.{Range}
use Rattle.pkcs12.specs.declared.row.Parts.{Parts}
use Rattle.der.specs.declared.Fault.{Fault}
use Rattle.pkcs12.specs.declared.answers.Parsed.{Parsed}
use Rattle.pkcs12.specs.declared.row.Mac.{Mac}
use Rattle.std.specs.Prelude.{Err, Ok, Result}
use Rattle.pkcs12.specs.declared.kind.BagKind.{BagKind}
use Rattle.pkcs12.specs.declared.kind.BagKind.TheVariants.{Key, ShroudedKey, Certificate, Crl, Secret, Nested}
use Rattle.pkcs12.proofs.Named.{by_kind}
use Rattle.pkcs12.proofs.Parents.{by_finish, In}
use Rattle.pkcs12.proofs.AcceptedParts.{by_parts}
use Rattle.pkcs12.proofs.AcceptedOuter.{OfMac, by_mac}
use Rattle.pkcs12.proofs.AcceptedAttributes.{OfWalked, by_walked, run_of}
use Rattle.parts.proofs.Past.{Past, by_expect, by_identifier, by_integer, by_elements, past_head, PastParts}
use Rattle.parts.proofs.Past.{sealed_of, key_of, typed_of_lem, encrypted_of}

abbrev PastRows : List ℕ → Cursor → ℕ → Walked → Type 0
PastRows s c i = OfWalked (λ st n. Past s c i st.count n)

-- the facts of the rows that a part returned
rows_past : (s : List ℕ) (c : Cursor) (i : ℕ) (x : Walked) (st : Rows) (n : Cursor) → PastRows s c i x → x ≡ Went st n
    → Past s c i st.count n
rows_past s c i x st n h e = rw e at h

-- what is counted from `at` up to `end`, with i elements before it and j after it
pub record Room (at end i j : ℕ) : Type 0 where
  pub long : at + j ≤ end + i
  more : i ≤ j

-- a run to the end of the body b of an element
pub run_room : (s : List ℕ) (step : Rows → Cursor → Walked)
    → ((st : Rows) (c : Cursor) → PastRows s c st.count (step st c))
    → (st : Rows) (b : Cursor) → b.at ≤ b.end
    → OfWalked (λ st' n. Room b.at b.end st.count st'.count) (run step st b)
run_room s step each st b h =
    run_of (range_of b) step (λ st c st' n. In (range_of b) n × Past s c st.count st'.count n)
    (λ st at st'. Room at b.end st.count st'.count)
    (λ st c i. inside st c i (step st c) (each st c))
    (λ st c st' n p. (p.0, p.1.some))
    (λ st. record { long = omega arith; more = omega arith })
    (λ st c st' n st'' i p r. record { long = omega (arith, p.1, r); more = omega (arith, p.1, r) })
    st b (record { after = omega arith; within = h; end = refl })
  where
    inside : (st : Rows) (c : Cursor) → In (range_of b) c → (x : Walked) → PastRows s c st.count x
        → OfWalked (λ st' n. In (range_of b) n × Past s c st.count st'.count n) x
    inside st c i (Refused f) p = tt
    inside st c i (Went st' n) p =
        (record { after = omega (arith, i, p); within = omega (arith, p); end = p.end ∙ i.end }, p)

attribute_of : (s : List ℕ) (number : ℕ) (st : Rows) (c : Cursor)
    → PastRows s c st.count (attribute_at s number st c)
unfolding attribute_at
attribute_of s number st c =
    by_expect s Good _ (λ f. tt) c sequence_tag _
    (λ t b n h.
    by_le Good _ _ attribute_rows (length st.attributes) (λ l. tt)
    (λ l.
    by_identifier s Good _ (λ f. tt) b _
    (λ t i m j.
    by_expect s Good _ (λ f. tt) m set_tag _
    (λ t v e q.
    by_elements s Good _ (λ f. tt) v _
    (λ k f o. by_finish Good _ (λ f. tt) e _ (λ z. past_head s c b n st.count (st.count + (k + 3)) h
    (omega arith) (omega (arith, j, q, o, o.stop q.size))))))))
  where
    Good : Walked → Type 0
    Good = PastRows s c st.count

-- the set behind [0], or none
set_of_lem : (s : List ℕ) (number : ℕ) (st : Rows) (c : Cursor) → c.at ≤ c.end
    → OfWalked (λ st' n. Room c.at c.end st.count st'.count) (set_at s number st c)
unfolding set_at
set_of_lem s number st c l =
    by_eq Good _ _ (tag_at s c) set_tag
    (λ y.
    by_expect s Good _ (λ f. tt) c set_tag _
    (λ t b n h.
    by_walked Good _ (λ f. tt) (λ st' f. Room b.at b.end (st.count + 1) st'.count) _
    (λ st' f r. by_finish Good _ (λ f. tt) n _ (λ z. record { long = omega (arith, h, r); more = omega (arith, r) }))
    (run (attribute_at s number) (counting st 1) b)
    (run_room s (attribute_at s number) (attribute_of s number) (counting st 1) b h.size)))
    (λ y. by_finish Good _ (λ f. tt) c _ (λ z. record { long = omega arith; more = omega arith }))
  where
    Good : Walked → Type 0
    Good = OfWalked (λ st' n. Room c.at c.end st.count st'.count)

-- what is in [0] of a bag, whose own three elements are counted with it
leaf_of_lem : (s : List ℕ) (c : Cursor) (kind : BagKind) (w : Owner) (h : Bool) (st : Rows)
    (x : Result (Parsed Parts) Fault) → PastParts s c x
    → PastRows s c (st.count + 3) (leaf_at x kind w h st)
leaf_of_lem s c kind w h st (Err f) p = tt
leaf_of_lem s c kind w h st (Ok x) p =
    record {
      some =
          p.some;
      long = omega (arith, p);
      more = omega arith;
      within = p.within;
      inside = p.inside;
      end = p.end;
    }

module _ (s : List ℕ) (inner : Owner → Rows → Cursor → Walked)
    (inner_of : (w : Owner) (st : Rows) (c : Cursor) → PastRows s c st.count (inner w st c)) where
  content_of_lem : (k : BagKind) (w : Owner) (h : Bool) (st : Rows) (c : Cursor)
      → PastRows s c (st.count + 3) (content_at inner s k w h st c)
  content_of_lem BagKind.None w h st c = tt
  content_of_lem Key w h st c = leaf_of_lem s c Key w h st (key_at s c) (key_of s c)
  content_of_lem ShroudedKey w h st c = leaf_of_lem s c ShroudedKey w h st (sealed_at s c) (sealed_of s c)
  content_of_lem Certificate w h st c = leaf_of_lem s c Certificate w h st (typed_at true s c) (typed_of_lem true s c)
  content_of_lem Crl w h st c = leaf_of_lem s c Crl w h st (typed_at false s c) (typed_of_lem false s c)
  content_of_lem Secret w h st c = leaf_of_lem s c Secret w h st (typed_at false s c) (typed_of_lem false s c)
  content_of_lem Nested w h st c = inner_of _ _ c

  bag_of : (w : Owner) (st : Rows) (c : Cursor) → PastRows s c st.count (bag_at inner s w st c)
  unfolding bag_at
  bag_of w st c =
      by_expect s Good _ (λ f. tt) c sequence_tag _
      (λ t b n h.
      by_le Good _ _ bag_rows (length st.bags) (λ l. tt)
      (λ l.
      by_identifier s Good _ (λ f. tt) b _
      (λ t i m j.
      by_kind Good _ _ (bytes_of s i) tt
      (λ y.
      by_expect s Good _ (λ f. tt) m context_tag _
      (λ t v e q.
      by_walked Good _ (λ f. tt) (λ st' f. Past s v (st.count + 3) st'.count f) _
      (λ st' f a.
      by_finish Good _ (λ f. tt) f _
      (λ z.
      by_walked Good _ (λ f. tt) (λ st'' g. Room e.at e.end st'.count st''.count) _
      (λ st'' g r. past_head s c b n st.count st''.count h (omega (arith, a, r)) (omega (arith, j, q, a, r)))
      (set_at s (length st.bags) st' e) (set_of_lem s (length st.bags) st' e (omega (arith, q)))))
      (content_at inner s (kind_of (bytes_of s i)) w (ltb e.at e.end) st v)
      (content_of_lem (kind_of (bytes_of s i)) w (ltb e.at e.end) st v))))))
    where
      Good : Walked → Type 0
      Good = PastRows s c st.count

contents_of : (l : ℕ) (s : List ℕ) (w : Owner) (st : Rows) (c : Cursor)
    → PastRows s c st.count (safe_contents_at l s w st c)
unfolding safe_contents_at
contents_of zero s w st c = by_expect s (PastRows s c st.count) _ (λ f. tt) c sequence_tag _ (λ t b n h. tt)
contents_of (suc l) s w st c =
    by_expect s (PastRows s c st.count) _ (λ f. tt) c sequence_tag _
    (λ t b n h.
    by_walked (PastRows s c st.count) _ (λ f. tt) (λ st' f. Room b.at b.end (st.count + 1) st'.count) _
    (λ st' f r. past_head s c b n st.count st'.count h (omega (arith, r)) (omega (arith, r)))
    (run (bag_at (safe_contents_at l s) s w) (counting st 1) b)
    (run_room s (bag_at (safe_contents_at l s) s w) (bag_of s (safe_contents_at l s) (contents_of l s) w)
    (counting st 1) b h.size))

-- a part as in `Past`, where it may be empty
record Within (c : Cursor) (i j : ℕ) (n : Cursor) : Type 0 where
  long : c.at + j ≤ n.at + i
  more : i ≤ j
  within : n.at ≤ c.end
  pub end : n.end ≡ c.end

-- two headers around what `inner` reads; four elements were counted before it
data_of : (s : List ℕ) (inner : Cursor → Walked) (i : ℕ) → ((o : Cursor) → PastRows s o (i + 4) (inner o))
    → (c : Cursor)
    → OfWalked (λ st n. Within c (i + 1) st.count n) (data_at inner s c)
unfolding data_at
data_of s inner i inner_of c =
    by_expect s Good _ (λ f. tt) c context_tag _
    (λ t v e h.
    by_expect s Good _ (λ f. tt) v octet_string_tag _
    (λ t o f q.
    by_walked Good _ (λ f. tt) (λ st g. Past s o (i + 4) st.count g) _
    (λ st g a.
    by_finish Good _ (λ f. tt) g _
    (λ y.
    by_finish Good _ (λ f. tt) f _
    (λ z. record { long = omega (arith, h, q, a); more = omega (arith, a); within = omega (arith, h); end = h.end })))
    (inner o) (inner_of o)))
  where
    Good : Walked → Type 0
    Good = OfWalked (λ st n. Within c (i + 1) st.count n)

-- what follows the type of a safe: of the elements counted here, one may belong to the safe's
-- SEQUENCE and identifier before it
abbrev PastValue : Rows → Cursor → Walked → Type 0
PastValue st c = OfWalked (λ st' n. Within c (st.count + 1) st'.count n)

plain_of : (s : List ℕ) (st : Rows) (c : Cursor) → PastValue st c (plain_at s st c)
unfolding plain_at
plain_of s st c = data_of s _ st.count (λ o. contents_of levels s _ _ o) c

sealed_safe_of : (s : List ℕ) (st : Rows) (c : Cursor) → PastValue st c (sealed_safe_at s st c)
unfolding sealed_safe_at
sealed_safe_of s st c =
    by_expect s (PastValue st c) _ (λ f. tt) c context_tag _
    (λ t v e h.
    by_parts (PastValue st c) _ (λ f. tt) (λ p k f. Past s v 0 k f) _
    (λ p k f a.
    by_finish (PastValue st c) _ (λ f. tt) f _
    (λ z. record { long = omega (arith, h, a); more = omega arith; within = omega (arith, h); end = h.end }))
    (encrypted_at s v) (encrypted_of s v))

safe_value_of : (s type : List ℕ) (at : ℕ) (st : Rows) (c : Cursor) → PastValue st c (safe_value_at s type at st c)
unfolding safe_value_at
safe_value_of s type at st c =
    by_test (PastValue st c) _ _ (same_bytes type data_type) (λ y. plain_of s st c)
    (λ y. by_test (PastValue st c) _ _ (same_bytes type encrypted_type) (λ z. sealed_safe_of s st c)
    (λ z. by_test (PastValue st c) _ _ (same_bytes type enveloped_type) (λ w. tt) (λ w. tt)))

pub safe_of_lem : (s : List ℕ) (st : Rows) (c : Cursor) → PastRows s c st.count (safe_at s st c)
unfolding safe_at
safe_of_lem s st c =
    by_expect s Good _ (λ f. tt) c sequence_tag _
    (λ t b n h.
    by_le Good _ _ safe_rows (length st.safes) (λ l. tt)
    (λ l.
    by_identifier s Good _ (λ f. tt) b _
    (λ t i m j.
    by_walked Good _ (λ f. tt) (λ st' e. Within m (st.count + 1) st'.count e) _
    (λ st' e a. by_finish Good _ (λ f. tt) e _ (λ z. past_head s c b n st.count st'.count h (omega (arith, a))
    (omega (arith, j, a))))
    (safe_value_at s (bytes_of s i) b.at st m) (safe_value_of s (bytes_of s i) b.at st m))))
  where
    Good : Walked → Type 0
    Good = PastRows s c st.count

pub attribute_past : (s : List ℕ) (number : ℕ) (st : Rows) (c : Cursor) (st' : Rows) (n : Cursor)
    → attribute_at s number st c ≡ Went st' n → Past s c st.count st'.count n
attribute_past s number st c st' n =
    rows_past s c st.count (attribute_at s number st c) st' n (attribute_of s number st c)

pub bag_past : (l : ℕ) (s : List ℕ) (w : Owner) (st : Rows) (c : Cursor) (st' : Rows) (n : Cursor)
    → bag_at (safe_contents_at l s) s w st c ≡ Went st' n → Past s c st.count st'.count n
bag_past l s w st c st' n =
    rows_past s c st.count (bag_at (safe_contents_at l s) s w st c) st' n
    (bag_of s (safe_contents_at l s) (contents_of l s) w st c)

pub contents_past : (l : ℕ) (s : List ℕ) (w : Owner) (st : Rows) (c : Cursor) (st' : Rows) (n : Cursor)
    → safe_contents_at l s w st c ≡ Went st' n → Past s c st.count st'.count n
contents_past l s w st c st' n = rows_past s c st.count (safe_contents_at l s w st c) st' n (contents_of l s w st c)

pub safe_past : (s : List ℕ) (st : Rows) (c : Cursor) (st' : Rows) (n : Cursor) → safe_at s st c ≡ Went st' n
    → Past s c st.count st'.count n
safe_past s st c st' n = rows_past s c st.count (safe_at s st c) st' n (safe_of_lem s st c)

-- ---- the MAC

iterations_of : (s : List ℕ) (p : Parts) (salt : Range) (k : ℕ) (c : Cursor)
    → OfMac (λ x j n. (k ≤ j) × (j ≤ k + 1)) (iterations_at s p salt k c)
unfolding iterations_at
iterations_of s p salt k c =
    by_eq Good _ _ (tag_at s c) integer_tag
    (λ t.
    by_integer s Good _ (λ f. tt) c _
    (λ v e i. by_le Good _ _ v default_iterations (λ y. tt)
    (λ y. by_finish Good _ (λ f. tt) e _ (λ z. (omega arith, omega arith)))))
    (λ t. by_finish Good _ (λ f. tt) c _ (λ z. (omega arith, omega arith)))
  where
    Good : Result (Parsed Mac) Fault → Type 0
    Good = OfMac (λ x j n. (k ≤ j) × (j ≤ k + 1))

pub mac_of : (s : List ℕ) (c : Cursor) → OfMac (λ x k n. Past s c 0 k n) (mac_at s c)
unfolding mac_at
mac_of s c =
    by_expect s Good _ (λ f. tt) c sequence_tag _
    (λ t b n h.
    by_parts Good _ (λ f. tt) (λ p k m. Past s b 0 k m) _
    (λ p k m a.
    by_expect s Good _ (λ f. tt) m octet_string_tag _
    (λ t o e q.
    by_mac Good _ (λ f. tt) (λ x j f. (k + 2 ≤ j) × (j ≤ k + 2 + 1)) _
    (λ x j f i. past_head s c b n 0 j h (omega arith) (omega (arith, a, q, i.1)))
    (iterations_at s p (range_of o) (k + 2) e) (iterations_of s p (range_of o) (k + 2) e)))
    (sealed_at s b) (sealed_of s b))
  where
    Good : Result (Parsed Mac) Fault → Type 0
    Good = OfMac (λ x k n. Past s c 0 k n)
