-- The walk's bags and safes as the code takes them: what comes before the rows, then the rows (see
-- Bridge).
use mathlib.Core.Path.{◌≡◌, refl, sym}
use mathlib.Core.Bool.{true, false}
use mathlib.Core.List.{List}
use Prim.Native.Nat.{ℕ, ◌+◌}
use lib.Dec.{leb, ltb}
use lib.ListN.{length}
use Rattle.der.specs.Numbers.{octet_string_tag, sequence_tag, context_tag}
use Rattle.der.specs.Element.{finish_at, expect_at}
use Rattle.der.specs.Content.{bytes_of, identifier_at}
use Rattle.der.specs.Opaque.{on_checked}
use Rattle.der.specs.declared.Cursor.{Cursor}
use Rattle.der.specs.declared.Checked.{Checked}
use Rattle.der.specs.declared.Fault.{Fault}
use Rattle.pkcs12.specs.declared.answers.Parsed.{Parsed}
use Rattle.pkcs12.specs.declared.row.Parts.{Parts}
use Rattle.reader.specs.declared.bags.Bag.{Bag}
use Rattle.reader.specs.declared.safes.Contents.{Contents}
use Rattle.reader.specs.declared.safes.Octets.{Octets}
use Rattle.std.specs.Prelude.{Err, None, Ok, Result}
use Rattle.pkcs12.specs.Numbers.{safe_rows, bag_rows, levels}
use Rattle.range.specs.Bytes.{same_bytes}
use Rattle.pkcs12.specs.Identifiers.{data_type, enveloped_type, encrypted_type, kind_of}
use Rattle.pkcs12.specs.Table.{no_parts, safe_row, bag_row, Rows}
use Rattle.pkcs12.specs.Walk.{key_at, sealed_at, typed_at, encrypted_at, Walked, Refused, Went, on_walked}
use Rattle.pkcs12.specs.Walk.{add_safe, add_bag}
use Rattle.pkcs12.specs.Walk.{Owner, owner, leaf_at, content_at, on_kind, bag_at, safe_contents_at, data_at, plain_at}
use Rattle.pkcs12.specs.Walk.{sealed_safe_at, safe_value_at, safe_at}
use Rattle.pkcs12.specs.declared.kind.SafeKind.TheVariants.{Plain, Encrypted}
use Rattle.pkcs12.specs.declared.kind.BagKind.{BagKind}
use Rattle.pkcs12.specs.declared.kind.BagKind.TheVariants.{Key, ShroudedKey, Certificate, Crl, Secret, Nested}
use Rattle.reader.specs.Steps.{on_bag, leaf_of, bag_value_at, bag_of_at, bag_head_at, data_head_at}
use Rattle.reader.specs.Steps.{both_at, on_contents}
use Rattle.reader.specs.Steps.{plain_head_at, encrypted_head_at, safe_of_at, safe_head_at, closed_at, bag_end_at}
use Rattle.reader.specs.Steps.{inside_at, on_octets}
use Rattle.reader.proofs.Bridge.{both_result, both_test, through_result, through_walked, through_test}

pub through_kind : {A B : Type 0} (F : A → B) (k : BagKind) (x y : A) (x' y' : B) → F x ≡ x' → F y ≡ y'
    → F (on_kind k x y) ≡ on_kind k x' y'
through_kind F BagKind.None x y x' y' p q = p
through_kind F Key x y x' y' p q = q
through_kind F ShroudedKey x y x' y' p q = q
through_kind F Certificate x y x' y' p q = q
through_kind F Crl x y x' y' p q = q
through_kind F Secret x y x' y' p q = q
through_kind F Nested x y x' y' p q = q

module _ (inner : Owner → Rows → Cursor → Walked) (s : List ℕ) (w : Owner) (st : Rows) where
  -- what the code does with a bag's head
  abbrev pub after_bag : Result Bag Fault → Walked
  after_bag x = on_bag x Refused
      (λ kind p k v e n.
      on_walked (inside_at inner kind w.safe (length st.bags)
      (add_bag st (bag_row kind w.safe w.enclosing p (ltb e.at e.end)) k) v) Refused
      (λ st' f. bag_end_at s (length st.bags) st' f e n))

  -- a bag that holds no bags
  leaf_law : (x : Result (Parsed Parts) Fault) (kind : BagKind) (e n : Cursor)
      → ((st' : Rows) (f : Cursor) → inside_at inner kind w.safe (length st.bags) st' f ≡ Went st' f)
      → after_bag (leaf_of kind x e n)
      ≡ on_walked (leaf_at x kind w (ltb e.at e.end) st) Refused
      (λ st' f. bag_end_at s (length st.bags) st' f e n)
  unfolding leaf_of
  leaf_law (Err f) kind e n h = refl
  leaf_law (Ok x) kind e n h =
      rw (h (add_bag st (bag_row kind w.safe w.enclosing x.value (ltb e.at e.end)) (x.count + 3)) x.next)

  -- a bag of any kind, from what is in [0] on
  content_law : (kind : BagKind) (v e n : Cursor)
      → after_bag (bag_value_at s kind v e n) ≡ on_walked (content_at inner s kind w (ltb e.at e.end) st v) Refused
      (λ st' f. bag_end_at s (length st.bags) st' f e n)
  unfolding bag_value_at inside_at
  content_law BagKind.None v e n = refl
  content_law Key v e n = leaf_law (key_at s v) Key e n (λ st' f. refl)
  content_law ShroudedKey v e n = leaf_law (sealed_at s v) ShroudedKey e n (λ st' f. refl)
  content_law Certificate v e n = leaf_law (typed_at true s v) Certificate e n (λ st' f. refl)
  content_law Crl v e n = leaf_law (typed_at false s v) Crl e n (λ st' f. refl)
  content_law Secret v e n = leaf_law (typed_at false s v) Secret e n (λ st' f. refl)
  content_law Nested v e n = refl

-- a bag: its head, then its row, its bags and its attributes
pub bag_law : (inner : Owner → Rows → Cursor → Walked) (s : List ℕ) (w : Owner) (st : Rows) (c : Cursor)
    → after_bag inner s w st (bag_head_at s (leb bag_rows (length st.bags)) c) ≡ bag_at inner s w st c
unfolding bag_head_at bag_of_at bag_at bag_end_at
bag_law inner s w st c =
    through_result F (expect_at sequence_tag s c) _ _ _ _ (λ f. refl)
    (λ x.
    through_test F (leb bag_rows (length st.bags)) _ _ _ _ refl
    (through_result F (identifier_at s x.body) _ _ _ _ (λ f. refl)
    (λ i.
    through_kind F (kind_of (bytes_of s i.body)) _ _ _ _ refl
    (through_result F (expect_at context_tag s i.next) _ _ _ _ (λ f. refl)
    (λ v. content_law inner s w st (kind_of (bytes_of s i.body)) v.body v.next x.next)))))
  where
    F : Result Bag Fault → Walked
    F x = after_bag inner s w st x

module _ (s : List ℕ) (st : Rows) where
  -- what the code does with a safe's head
  abbrev after_safe : Result Contents Fault → Walked
  after_safe x = on_contents x Refused
      (λ o f e n. on_walked (safe_contents_at levels s (owner (length st.safes) None)
      (add_safe st (safe_row Plain no_parts) 4) o) Refused
      (λ st' g. on_checked (closed_at g f e) Refused (λ z h. Went st' n)))
      (λ p k n. Went (add_safe st (safe_row Encrypted p) k) n)

  -- what the walk does behind [0] of a safe that ends at n
  abbrev after_value : Cursor → Walked → Walked
  after_value n x = on_walked x Refused (λ st' e. on_checked (finish_at e) Refused (λ z g. Went st' n))

  plain_law : (c n : Cursor) → after_safe (plain_head_at s c n) ≡ after_value n (plain_at s st c)
  unfolding plain_head_at data_head_at plain_at data_at closed_at both_at
  plain_law c n =
      both_result H G (expect_at context_tag s c) _ _ _ _ (λ f. refl)
      (λ v.
      both_result H G (expect_at octet_string_tag s v.body) _ _ _ _ (λ f. refl)
      (λ o.
      sym
      (through_walked G (safe_contents_at levels s (owner (length st.safes) None)
      (add_safe st (safe_row Plain no_parts) 4) o.body) _ _ _ _ (λ f. refl)
      (λ st' g.
      both_result G (K st') (finish_at g) _ _ _ _ (λ f. refl)
      (λ z. both_result G (K st') (finish_at o.next) _ _ _ _ (λ f. refl) (λ z. refl))))))
    where
      H : Result Octets Fault → Walked
      H x = after_safe (on_octets x Err (λ o f e. Ok (Contents.Plain o f e n)))

      G : Walked → Walked
      G x = after_value n x

      K : Rows → Result Checked Fault → Walked
      K st' x = on_checked x Refused (λ z h. Went st' n)

  encrypted_law : (c n : Cursor) → after_safe (encrypted_head_at s c n) ≡ after_value n (sealed_safe_at s st c)
  unfolding encrypted_head_at sealed_safe_at both_at
  encrypted_law c n =
      both_result after_safe G (expect_at context_tag s c) _ _ _ _ (λ f. refl)
      (λ v.
      both_result after_safe G (encrypted_at s v.body) _ _ _ _ (λ f. refl)
      (λ p.
      both_result (λ x. after_safe (on_checked x Err (λ z g. Ok (Contents.Encrypted p.value (p.count + 3) n)))) G
      (finish_at p.next) _ _ _ _ (λ f. refl)
      (λ z. through_result after_safe (finish_at v.next) _ _ _ _ (λ f. refl) (λ z. refl))))
    where
      G : Walked → Walked
      G x = after_value n x

  -- a safe from its type on
  value_law : (type : List ℕ) (at : ℕ) (c n : Cursor)
      → after_safe (safe_of_at s type at c n) ≡ after_value n (safe_value_at s type at st c)
  unfolding safe_of_at safe_value_at
  value_law type at c n =
      both_test after_safe G (same_bytes type data_type) _ _ _ _ (plain_law c n)
      (both_test after_safe G (same_bytes type encrypted_type) _ _ _ _ (encrypted_law c n)
      (both_test after_safe G (same_bytes type enveloped_type) _ _ _ _ refl refl))
    where
      G : Walked → Walked
      G x = after_value n x

-- a safe: its head, then its row and its bags
pub safe_law : (s : List ℕ) (st : Rows) (c : Cursor)
    → on_contents (safe_head_at s (leb safe_rows (length st.safes)) c) Refused
    (λ o f e n. on_walked (safe_contents_at levels s (owner (length st.safes) None)
    (add_safe st (safe_row Plain no_parts) 4) o) Refused
    (λ st' g. on_checked (closed_at g f e) Refused (λ z h. Went st' n)))
    (λ p k n. Went (add_safe st (safe_row Encrypted p) k) n)
    ≡ safe_at s st c
unfolding safe_head_at safe_at
safe_law s st c =
    through_result F (expect_at sequence_tag s c) _ _ _ _ (λ f. refl)
    (λ x.
    through_test F (leb safe_rows (length st.safes)) _ _ _ _ refl
    (through_result F (identifier_at s x.body) _ _ _ _ (λ f. refl)
    (λ i. value_law s st (bytes_of s i.body) x.body.at i.next x.next)))
  where
    F : Result Contents Fault → Walked
    F x = after_safe s st x
