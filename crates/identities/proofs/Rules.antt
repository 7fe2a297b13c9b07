-- Rules by which `search` follows the definitions of identity rows as the code's own tests decided
-- them (see der's Choices), and bounds.
use mathlib.Core.Path.{◌≡◌, refl, sym, ◌∙◌, ap}
use mathlib.Core.Bool.{Bool, true, false, not, cond}
use mathlib.Core.List.{List, [], ◌∷◌}
use mathlib.Core.Option as option
use Prim.Native.Nat.{ℕ, suc, ◌+◌, ◌≤◌, ◌<◌, min}
use native.Mathlib.Omega.{arith}
use borrow.Author.Tests.{lt-ltb, le-ltb, le-leb, lt-leb}
use lib.Dec.{ltb}
use lib.ListN.{length, get_or, length-take}
use lib.Seq.{get_or-take}
use Rattle.std.specs.Prelude.{if◌then◌else◌}
use Rattle.std.specs.Prelude.{Err, None, Ok, Option, Result, Some, is_some}
use Rattle.std.specs.Option.{ok_or}
use Rattle.std.specs.Result.{result_ok}
use Rattle.std.specs.List.{find}
use Rattle.der.specs.Numbers.{octet_string_tag}
use Rattle.der.specs.Element.{cursor, element_at, expect_at, fault}
use Rattle.der.specs.declared.Fault.{Fault}
use Rattle.der.specs.declared.Element.{Element}
use Rattle.der.proofs.Placed.{expected, found}
use Rattle.der.proofs.Choices.{never, by_lt, either, at_lt, at_not_lt}
use Rattle.buffer.specs.Numbers.{not_sound, short_buffer}
use Rattle.pkcs12.specs.Numbers.{bag_rows}
use Rattle.range.specs.Range.{greatest16, body_range}
use Rattle.pkcs12.specs.Table.{no_attribute}
use Rattle.pkcs12.specs.Written.{file_of, on_file}
use Rattle.encode.specs.Sizes.{capped}
use Rattle.range.specs.declared.Range.{Range}
use Rattle.pkcs12.specs.declared.row.AttributeRow.{AttributeRow}
use Rattle.pkcs12.specs.declared.table.Table.{Table}
use Rattle.attributes.specs.Reader.{first_from, opening_of}
use Rattle.attributes.specs.Own.{attributes_of}
use Rattle.attributes.specs.declared.Item.{Item}
use Rattle.attributes.specs.declared.Position.{Position}
use Rattle.sound.specs.Measured.{measured}
use Rattle.attributes.proofs.Rules.{has_no_file, has_file}
use Rattle.pairing.specs.Pairs.{refused_by, paired}
use Rattle.pairing.specs.declared.IdentityRow.{IdentityRow}
use Rattle.identities.specs.Identities.{is_local_key, key_row, id_in, id_of}
use Rattle.identities.specs.Identities.{identity_of, identity_at, identities_of, identity_rows, certificate_for}
use Rattle.identities.specs.Filling.{refusal, success, fill_of}
use Rattle.identities.proofs.Fills.{bags_fit}

-- what `ok` made of an answer
pub was_ok : {A : Type 0} (w : Result A Fault) (o : Option A) (x : A) → o ≡ result_ok w → o ≡ Some x → w ≡ Ok x
was_ok (Ok y) o x e q = cc
was_ok (Err f) o x e q = let z : ◌≡◌ {A = ℕ} 0 1 = cc in absurd (omega arith)

pub was_refused : {A : Type 0} (w : Result A Fault) (o : Option A) → o ≡ result_ok w → o ≡ None
    → (f : Fault) × (w ≡ Err f)
was_refused (Ok y) o e q = let z : ◌≡◌ {A = ℕ} 0 1 = cc in absurd (omega arith)
was_refused (Err f) o e q = (f, refl)

-- the id in an attribute's values, whose end a u16 can say: so can those of a body within them
module _ (s : List ℕ) (r : Range) (w : Result Element Fault)
    (e : w ≡ expect_at octet_string_tag s (cursor r.start r.end)) where
  pub id_refused : (x : Option Range) → (f : Fault) × (w ≡ Err f) → x ≡ None → x ≡ id_in s r
  unfolding id_in
  id_refused x q p = rw (sym e ∙ q.1) p

  module _ (x : Element) (q : w ≡ Ok x) where
    pub id_more : x.next.at < x.next.end → None ≡ id_in s r
    unfolding id_in
    id_more h = rw (sym e ∙ q, lt-leb x.next.end x.next.at h)

    pub id_only : r.end < 65536 → x.next.end ≤ x.next.at → (v : Range) → v ≡ body_range x.body → Some v ≡ id_in s r
    unfolding id_in body_range
    id_only l h v g =
        let p = found s (cursor r.start r.end) (element_at s (cursor r.start r.end)) x.tag x.body x.next refl
        (expected octet_string_tag s (cursor r.start r.end) w x.tag x.body x.next e q).1 in
        let a : min x.body.at greatest16 ≡ x.body.at = omega (arith, p.body.size, p.body.within) in
        let b : min x.body.end greatest16 ≡ x.body.end = omega (arith, p.body.within) in
        rw (sym e ∙ q, le-leb x.next.end x.next.at h, g, a, b)

-- ---- the first row that passes a test, as the rules number it and as the library finds it

-- rows that come before a list are counted
shift_choice : (u : Bool) (at a b : ℕ) → a ≡ at + b → (if u then at else a) ≡ at + (if u then 0 else b)
shift_choice true at a b e = omega arith
shift_choice false at a b e = e

pub first_shift : {A : Type 0} (test : A → Bool) (xs : List A) (at : ℕ)
    → first_from test xs at ≡ at + first_from test xs 0
unfolding first_from
first_shift test [] at = omega arith
first_shift test (x ∷ xs) at =
    shift_choice (test x) at _ _ (omega (arith, first_shift test xs (at + 1), first_shift test xs 1))

-- element i, if there is one
abbrev at_row : {A : Type 0} → A → List A → ℕ → Option A
at_row d xs i = if ltb i (length xs) then Some (get_or xs i d) else None

module _ {A : Type 0} (test : A → Bool) (d : A) where
  row_past : (x : A) (xs : List A) (i : ℕ) → at_row d xs i ≡ at_row d (x ∷ xs) (suc i)
  row_past x xs i =
      by_lt (λ v. v ≡ at_row d (x ∷ xs) (suc i)) _ _ i (length xs)
      (λ h. rw (lt-ltb (suc i) (suc (length xs)) (omega arith)))
      (λ h. rw (le-ltb (suc i) (suc (length xs)) (omega arith)))

  first_more : (x : A) (xs : List A) (u : Bool) → find test xs ≡ at_row d xs (first_from test xs 0)
      → cond u (Some x) (find test xs) ≡ at_row d (x ∷ xs) (if u then 0 else first_from test xs 1)
  first_more x xs true e = rw (lt-ltb 0 (suc (length xs)) (omega arith))
  first_more x xs false e =
      let k : first_from test xs 1 ≡ suc (first_from test xs 0) = omega (arith, first_shift test xs 1) in
      rw k (e ∙ row_past x xs (first_from test xs 0))

  first_is : (xs : List A) → find test xs ≡ at_row d xs (first_from test xs 0)
  unfolding first_from
  first_is [] = refl
  first_is (x ∷ xs) = first_more x xs (test x) (first_is xs)

-- the id of a bag: in its first localKeyID, if it has one
module _ (t : Table) (s : List ℕ) (bag : ℕ) where
  abbrev in_found : Option AttributeRow → Option Range
  in_found None = None
  in_found (Some r) = id_in s r.values

  id_is : in_found (find (is_local_key s bag) (attributes_of t)) ≡ id_of t s bag
  unfolding id_of key_row
  id_is =
      let j : ℕ = first_from (is_local_key s bag) (attributes_of t) 0 in
      rw (first_is (is_local_key s bag) no_attribute (attributes_of t))
      (either j (length (attributes_of t))
      (λ h.
      let k : j < t.attribute_count = omega (arith, length-take t.attribute_count t.attributes, h) in
      rw (lt-ltb j (length (attributes_of t)) h, get_or-take t.attribute_count t.attributes j no_attribute k))
      (λ h. rw (le-ltb j (length (attributes_of t)) h)))

  module _ (w : Option AttributeRow) (e : w ≡ find (is_local_key s bag) (attributes_of t)) where
    pub id_none : (x : Option Range) → w ≡ None → x ≡ None → x ≡ id_of t s bag
    id_none x q g = g ∙ (rw (sym e ∙ q) at id_is)

    pub id_found : (r : AttributeRow) (x : Option Range) → w ≡ Some r → x ≡ id_in s r.values → x ≡ id_of t s bag
    id_found r x q g = g ∙ (rw (sym e ∙ q) at id_is)

-- ---- the answers

-- the identity row of a bag, by what opening its attributes returned
module _ (t : Table) (s : List ℕ) (bag : ℕ) (p : Position) (e : p ≡ opening_of t s bag) where
  pub opened_refused : (f : Fault) → p.item ≡ Err f → Err f ≡ identity_at t s bag
  unfolding identity_at
  opened_refused f q = rw (← e, q)

  pub opened_ready : (x : Item) (r : IdentityRow) → p.item ≡ Ok x → r ≡ identity_of t s bag
      → Ok r ≡ identity_at t s bag
  unfolding identity_at
  opened_ready x r q g = rw (← e, q, g)

-- the answers for a table that was measured
module _ (t : Table) (s : List ℕ) (w : Option ℕ) (e : w ≡ measured t s) where
  -- what the code made of the size
  module _ (v : Result ℕ Fault) (f : Fault) (g : v ≡ ok_or w f) (h : f ≡ fault not_sound 0) where
    pub certificate_unsound : (k : ℕ) (y : Fault) → v ≡ Err y → Err y ≡ certificate_for t s k
    unfolding certificate_for measured
    certificate_unsound k y q = go (file_of t s) (sym q ∙ g ∙ ap {B = Result ℕ Fault} (λ (o : Option ℕ). ok_or o f) e)
      where
        go : (z : option.Option (List ℕ)) → Err y ≡ ok_or (on_file z None (λ b. Some (capped (length b)))) f
            → Err y ≡ on_file z (refused_by not_sound) (λ b. paired s (identity_rows t s) k)
        go option.none p = p ∙ ap Err h
        go (option.some b) p = let z : ◌≡◌ {A = ℕ} 0 1 = cc in absurd (omega arith)

    pub certificate_paired : (k n : ℕ) (rows : List IdentityRow) (r : Result ℕ Fault) → v ≡ Ok n
        → rows ≡ identity_rows t s
        → r ≡ paired s rows k → r ≡ certificate_for t s k
    unfolding certificate_for measured
    certificate_paired k n rows r q p o =
        o ∙ rw p
        (go (file_of t s) (sym q ∙ g ∙ ap {B = Result ℕ Fault} (λ (o : Option ℕ). ok_or o f) e))
      where
        go : (z : option.Option (List ℕ)) → Ok n ≡ ok_or (on_file z None (λ b. Some (capped (length b)))) f
            → paired s (identity_rows t s) k ≡ on_file z (refused_by not_sound) (λ b. paired s (identity_rows t s) k)
        go option.none p = let z : ◌≡◌ {A = ℕ} 0 1 = cc in absurd (omega arith)
        go (option.some b) p = refl

  module _ (u : Bool) (g : is_some w ≡ not u) (out : List IdentityRow) where
    pub filling_unsound : u ≡ true → refusal not_sound out ≡ fill_of t s out
    unfolding fill_of
    filling_unsound q = has_no_file t s w u e g _ _ _ q refl

    -- a table that has a file has no more bags than a table can
    pub filling_few : u ≡ false → t.bag_count ≤ bag_rows
    unfolding measured
    filling_few q = go (file_of t s) (bags_fit t s) (rw (e, q) at g)
      where
        go : (v : option.Option (List ℕ)) → ((f : List ℕ) → v ≡ option.some f → t.bag_count ≤ bag_rows)
            → is_some (on_file v None (λ b. Some (capped (length b)))) ≡ true → t.bag_count ≤ bag_rows
        go option.none h k = never k
        go (option.some f) h k = h f refl

    module _ (q : u ≡ false) where
      pub filling_short : length out < t.bag_count → refusal short_buffer out ≡ fill_of t s out
      unfolding fill_of
      filling_short h = has_file t s w u e g _ _ _ q (at_lt (length out) t.bag_count _ _ _ h refl)

      pub filling_all : t.bag_count ≤ length out → success (identities_of t s) out ≡ fill_of t s out
      unfolding fill_of
      filling_all h = has_file t s w u e g _ _ _ q (at_not_lt (length out) t.bag_count _ _ _ h refl)
