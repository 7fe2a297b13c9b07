-- Rules by which `search` follows the tests of a sound table as the code's own tests decided them
-- (see der's Choices), and the loop over rows.
use mathlib.Core.Path.{◌≡◌, refl, sym, ap, ◌∙◌}
use mathlib.Core.Bool.{Bool, true, false, not, cond, ◌&&◌}
use mathlib.Core.List.{List, [], ◌∷◌}
use mathlib.Core.Logic.{◌⊎◌, inl, inr}
use Prim.Native.Nat.{ℕ, zero, suc, ◌≤◌, ◌<◌}
use native.Mathlib.Omega.{arith}
use lib.Dec.{leb, ltb, eqb}
use lib.ListN.{length, get_or}
use borrow.Author.Tests.{not-false, lt-ltb, le-ltb, le-leb, lt-leb, eq-eqb, ne_eqb, leb-true}
use Rattle.std.specs.Prelude.{if◌then◌else◌}
use Rattle.der.specs.Numbers.{opaque_levels, sequence_tag}
use Rattle.der.specs.Element.{whole_of}
use Rattle.der.specs.Content.{identifier_body}
use Rattle.der.specs.Opaque.{on_checked, opaque_at, elements_at}
use Rattle.der.specs.declared.Fault.{Fault}
use Rattle.der.specs.declared.Cursor.{Cursor}
use Rattle.der.specs.declared.Checked.{Checked}
use Rattle.std.specs.Prelude.{Err, Ok, Option, Result, is_ok, unwrap_or, slice_get, IsTrue, All, ◌↔◌}
use Rattle.std.proofs.Common.{is_le, is_lt, nat_cmp, Less, Equal, Greater}
use Rattle.std.proofs.lemmas.Bool.{cases_order}
use Rattle.std.proofs.lemmas.Option.{unwrap_or-slice_get}
use Rattle.der.proofs.Choices.{told_true, told_false, never, by_le}
use Rattle.range.specs.Bytes.{same_bytes}
use Rattle.der.specs.Choice.{both}
use Rattle.pkcs12.specs.Numbers.{safe_rows, bag_rows, attribute_rows}
use Rattle.pkcs12.specs.Checks.{all, counts_fit, one_opaque, all_opaque, holds_tagged, is_sealed}
use Rattle.pkcs12.specs.Checks.{is_typed, is_certificate, safe_holds, bag_holds}
use Rattle.pkcs12.specs.declared.row.Parts.{Parts}
use Rattle.pkcs12.specs.declared.kind.SafeKind.{SafeKind}
use Rattle.pkcs12.specs.declared.kind.SafeKind.TheVariants.{Plain, Encrypted}
use Rattle.pkcs12.specs.declared.kind.BagKind.{BagKind}
use Rattle.pkcs12.specs.declared.kind.BagKind.TheVariants.{Key, ShroudedKey, Certificate, Crl, Secret, Nested}
use Rattle.pkcs12.specs.declared.table.Table.{Table}

-- tests one behind another: v is what the first two came to, w the first three
pub third : (a b c v r : Bool) → v ≡ both a b → r ≡ both v c → r ≡ both a (both b c)
third true b c v r e f = rw e at f
third false b c v r e f = rw e at f

pub fourth : (a b c d v w r : Bool) → v ≡ both a b → w ≡ both v c → r ≡ both w d → r ≡ both a (both b (both c d))
fourth a b c d v w r e f g = third a b (both c d) v r e (third v c d w r f g)

-- what a callee returned for the part x holds for the bytes y that the part is
module _ (x y : List ℕ) where
  pub body_of : (r : Bool) → x ≡ y → r ≡ identifier_body x → r ≡ identifier_body y
  body_of r p e = rw (sym p) e

  pub one_of_lem : (r : Bool) → x ≡ y → r ≡ one_opaque x → r ≡ one_opaque y
  one_of_lem r p e = rw (sym p) e

  pub all_of : (r : Bool) → x ≡ y → r ≡ all_opaque x → r ≡ all_opaque y
  all_of r p e = rw (sym p) e

  pub none_of : (u r a b : Bool) → x ≡ y → u ≡ eqb (length x) 0 → u ≡ true → r ≡ a
      → r ≡ (if eqb (length y) 0 then a else b)
  none_of u r a b p h q e = told_true _ u r a b (rw p at h) q e

  pub some_of : (u r a b : Bool) → x ≡ y → u ≡ eqb (length x) 0 → u ≡ false → r ≡ b
      → r ≡ (if eqb (length y) 0 then a else b)
  some_of u r a b p h q e = told_false _ u r a b (rw p at h) q e

  pub same_of : (z : List ℕ) (u r a b : Bool) → x ≡ y → u ≡ same_bytes x z → u ≡ true → r ≡ a
      → r ≡ (if same_bytes y z then a else b)
  same_of z u r a b p h q e = rw (← p, ← h, q) e

  pub other_of : (z : List ℕ) (u r a b : Bool) → x ≡ y → u ≡ same_bytes x z → u ≡ false → r ≡ b
      → r ≡ (if same_bytes y z then a else b)
  other_of z u r a b p h q e = rw (← p, ← h, q) e

  pub tag_of : (t b : ℕ) (o : Option ℕ) → x ≡ y → o ≡ slice_get x 0 → b ≡ unwrap_or o 0
      → eqb b t ≡ eqb (get_or y 0 0) t
  tag_of t b o p e f = ap (λ n. eqb n t) (f ∙ rw (e, p) (unwrap_or-slice_get y 0 0))

-- one opaque element and nothing more; zero or more: c is the cursor that the code made
module _ (x : List ℕ) (c : Cursor) (w : Result Checked Fault) where
  pub one_refused : (f : Fault) → c ≡ whole_of x → w ≡ opaque_at opaque_levels x c
      → w ≡ Err f → false ≡ one_opaque x
  unfolding one_opaque
  one_refused f p e q = rw (← p, ← e, q)

  pub one_passed : (m : Checked) → c ≡ whole_of x → w ≡ opaque_at opaque_levels x c → w ≡ Ok m
      → leb m.next.end m.next.at ≡ one_opaque x
  unfolding one_opaque
  one_passed m p e q = rw (← p, ← e, q)

  pub all_checked : (r : Bool) → c ≡ whole_of x → w ≡ elements_at opaque_levels x c → r ≡ is_ok w → r ≡ all_opaque x
  unfolding all_opaque
  all_checked r p e q = q ∙ rw (e, p) (by_answer (elements_at opaque_levels x (whole_of x)))
    where
      by_answer : (v : Result Checked Fault) → is_ok v ≡ on_checked v (λ f. false) (λ m n. true)
      by_answer (Ok m) = refl
      by_answer (Err f) = refl

-- a number from 1 up to an end, as the library tests it
less_is : (t u : Bool) → is_lt (cond t Less (cond u Equal Greater)) ≡ t
less_is true u = refl
less_is false true = refl
less_is false false = refl

from_is : (a b : ℕ) → is_le (nat_cmp a b) ≡ leb a b
from_is a b = go (cases_order a b)
  where
    go : (a ≡ b) ⊎ ((a < b) ⊎ (b < a)) → is_le (nat_cmp a b) ≡ leb a b
    go (inl e) = rw (le-ltb a b (omega arith), eq-eqb a b e, le-leb a b (omega arith)) refl
    go (inr (inl h)) = rw (lt-ltb a b h, le-leb a b (omega arith)) refl
    go (inr (inr h)) = rw (le-ltb a b (omega arith), ne_eqb a b (omega arith), lt-leb a b h) refl

and_is : (t u : Bool) → (t && u) ≡ both t u
and_is true u = refl
and_is false u = refl

pub counted_from : (r : Bool) (n end : ℕ) → r ≡ (is_le (nat_cmp 1 n) && is_lt (nat_cmp n end)) → r ≡ both (leb 1 n) (ltb n end)
counted_from r n end e = e ∙ rw (from_is 1 n, less_is (ltb n end) (eqb n end)) (and_is (leb 1 n) (ltb n end))

-- what a row's kind requires, by the kind that the code met
module _ (s : List ℕ) (p : Parts) where
  module _ (k : SafeKind) where
    pub safe_none : k ≡ SafeKind.None → false ≡ safe_holds s k p
    unfolding safe_holds
    safe_none e = rw e

    pub safe_plain : k ≡ Plain → true ≡ safe_holds s k p
    unfolding safe_holds
    safe_plain e = rw e

    pub safe_sealed : (r : Bool) → k ≡ Encrypted → r ≡ is_sealed s p → r ≡ safe_holds s k p
    unfolding safe_holds
    safe_sealed r e q = rw e q

  module _ (k : BagKind) where
    pub bag_none : k ≡ BagKind.None → false ≡ bag_holds s k p
    unfolding bag_holds
    bag_none e = rw e

    pub bag_key : (r : Bool) → k ≡ Key → r ≡ holds_tagged s p.value sequence_tag → r ≡ bag_holds s k p
    unfolding bag_holds
    bag_key r e q = rw e q

    pub bag_sealed : (r : Bool) → k ≡ ShroudedKey → r ≡ is_sealed s p → r ≡ bag_holds s k p
    unfolding bag_holds
    bag_sealed r e q = rw e q

    pub bag_certificate : (r : Bool) → k ≡ Certificate → r ≡ is_certificate s p → r ≡ bag_holds s k p
    unfolding bag_holds
    bag_certificate r e q = rw e q

    pub bag_typed : (r : Bool) → (k ≡ Crl) ⊎ (k ≡ Secret) → r ≡ is_typed s p → r ≡ bag_holds s k p
    unfolding bag_holds
    bag_typed r (inl e) q = rw e q
    bag_typed r (inr e) q = rw e q

    pub bag_nested : k ≡ Nested → true ≡ bag_holds s k p
    unfolding bag_holds
    bag_nested e = rw e

pub ruleset by_kind = (
  safe_none,
  safe_plain,
  safe_sealed,
  bag_none,
  bag_key,
  bag_sealed,
  bag_certificate,
  bag_typed,
  bag_nested,
)

-- The rows: r is whether the code's test held of each of them.
both_parts : (t u : Bool) → both t u ≡ true → (t ≡ true) × (u ≡ true)
both_parts true u e = (refl, e)
both_parts false u e = never e

module _ {A : Type 0} (test : A → Bool) where
  each_true : (xs : List A) → All (λ x. IsTrue (test x)) xs → all test xs ≡ true
  unfolding all
  each_true [] h = refl
  each_true (x ∷ xs) h = rw (h 0 x (omega arith)) (each_true xs (λ k d p. h (suc k) d (omega arith)))

  true_each : (xs : List A) → all test xs ≡ true → All (λ x. IsTrue (test x)) xs
  unfolding all
  true_each [] h k d p = absurd (omega arith)
  true_each (x ∷ xs) h zero d p = (both_parts (test x) (all test xs) h).0
  true_each (x ∷ xs) h (suc k) d p = true_each xs (both_parts (test x) (all test xs) h).1 k d (omega arith)

  pub each : (r : Bool) (xs : List A) → IsTrue r ↔ All (λ x. IsTrue (test x)) xs → r ≡ all test xs
  each true xs e = sym (each_true xs (e.0 refl))
  each false xs e = go (all test xs) refl
    where
      go : (t : Bool) → all test xs ≡ t → false ≡ all test xs
      go true p = never (e.1 (true_each xs p))
      go false p = sym p

-- The counts fit: u is what the code's test of them returned.
abbrev Fit : Table → Type 0
Fit t = (t.safe_count ≤ safe_rows) × (t.bag_count ≤ bag_rows) × (t.attribute_count ≤ attribute_rows)

module _ (t : Table) (u : Bool) (e : u ≡ counts_fit t) (q : not u ≡ false) where
  fit : Fit t
  unfolding counts_fit
  fit =
      by_le (λ v. v ≡ true → Fit t) _ _ _ _
      (λ a. by_le (λ v. v ≡ true → Fit t) _ _ _ _ (λ b p. (a, b, leb-true _ _ p)) (λ b p. never p))
      (λ a p. never p)
      (sym e ∙ not-false u q)

  pub safes_fit : t.safe_count ≤ safe_rows
  safes_fit = fit.0

  pub bags_fit : t.bag_count ≤ bag_rows
  bags_fit = fit.1

  pub attributes_fit : t.attribute_count ≤ attribute_rows
  attributes_fit = fit.2
