-- The bodies of identifiers and integers: what the walk allows is what the account allows.
use mathlib.Core.Bool.{Bool, true, false}
use mathlib.Core.Path.{◌≡◌, refl, sym}
use mathlib.Core.List.{List, [], ◌∷◌}
use Prim.Native.Nat.{ℕ, ◌≤◌}
use native.Mathlib.Omega.{arith}
use lib.Dec.{ltb, eqb}
use lib.ListN.{length}
use borrow.Author.Tests.{lt-ltb, le-ltb, le-leb, ltb-true, leb-true}
use Rattle.std.specs.Prelude.{if◌then◌else◌}
use Rattle.der.specs.Content.{parts, identifier_body, bytes_of, integer_body, integer_value}
use Rattle.der.specs.Octets.{IntegerRule, number}
use Rattle.der.specs.declared.Cursor.{Cursor}
use Rattle.der.proofs.Choices.{never, by_lt, by_eq}
use Rattle.der.proofs.Content.{integer_rule_of, integer_body_of, integer_value_of}
use Rattle.refusals.specs.Bodies.{ends_low, parts_begin, is_identifier, is_integer}

-- ---- identifiers

-- a choice inside another, either way round
turned : (p e q : Bool) → (if p then false else (if e then q else false))
    ≡ (if e then (if p then false else q) else false)
turned true true q = refl
turned true false q = refl
turned false true q = refl
turned false false q = refl

turned_last : (p e : Bool) → (if p then false else e) ≡ (if e then (if p then false else true) else false)
turned_last true true = refl
turned_last true false = refl
turned_last false true = refl
turned_last false false = refl

-- a part that begins with 80 hex, as one test
joined : (u v r : Bool) → (if (if u then v else false) then false else r)
    ≡ (if u then (if v then false else r) else r)
joined true true r = refl
joined true false r = refl
joined false true r = refl
joined false false r = refl

parts_same : (last b : ℕ) (x : List ℕ) → parts (ltb last 0x80) (b ∷ x)
    ≡ (if ends_low (b ∷ x) then parts_begin last (b ∷ x) else false)
unfolding parts ends_low parts_begin
parts_same last b [] =
    let p : Bool = if ltb last 0x80 then eqb b 0x80 else false in
    rw (sym (joined (ltb last 0x80) (eqb b 0x80) true)) (turned_last p (ltb b 0x80))
parts_same last b (c ∷ x) =
    let p : Bool = if ltb last 0x80 then eqb b 0x80 else false in
    rw (sym (joined (ltb last 0x80) (eqb b 0x80) (parts_begin b (c ∷ x))), parts_same b c x)
    (turned p (ends_low (c ∷ x)) (parts_begin b (c ∷ x)))

pub identifier_same : (x : List ℕ) → identifier_body x ≡ is_identifier x
unfolding identifier_body is_identifier ends_low
identifier_same [] = refl
identifier_same (b ∷ x) = parts_same 0 b x

-- ---- integers

-- two tests that hold together are the same
same_truth : (u v : Bool) → (u ≡ true → v ≡ true) → (v ≡ true → u ≡ true) → u ≡ v
same_truth true v f g = sym (f refl)
same_truth false true f g = g refl
same_truth false false f g = refl

rule_allowed : (x : List ℕ) → IntegerRule x → is_integer x ≡ true
unfolding is_integer
rule_allowed [] r = absurd (omega (arith, r.some))
rule_allowed (a ∷ []) r = lt-ltb a 0x80 r.positive
rule_allowed (a ∷ b ∷ x) r =
    rw (le-ltb 2 (length x) (omega (arith, r.four)), lt-ltb a 0x80 r.positive)
    (by_eq (λ u. u ≡ true) _ _ a 0 (λ e. le-leb 0x80 b (r.minimal (omega arith) e)) (λ e. refl))

allowed_rule : (x : List ℕ) → is_integer x ≡ true → IntegerRule x
unfolding is_integer
allowed_rule [] = λ e. never e
allowed_rule (a ∷ []) = λ e. record {
  some = omega arith;
  four = omega arith;
  positive = ltb-true a 0x80 e;
  minimal =
      λ h. absurd (omega arith);
}
allowed_rule (a ∷ b ∷ x) =
    by_lt Rule _ _ 2 (length x) (λ h e. never e)
    (λ h.
    by_lt Rule _ _ a 0x80
    (λ k.
    by_eq Rule _ _ a 0
    (λ z e. record { some = omega arith; four = omega arith; positive = k; minimal = λ l y. leb-true 0x80 b e })
    (λ z e. record { some = omega arith; four = omega arith; positive = k; minimal = λ l y. absurd (z y) }))
    (λ k e. never e))
  where
    Rule : Bool → Type 0
    Rule u = u ≡ true → IntegerRule (a ∷ b ∷ x)

module _ (s : List ℕ) (b : Cursor) (inside : b.end ≤ length s) where
  pub integer_same : integer_body s b ≡ is_integer (bytes_of s b)
  integer_same =
      same_truth (integer_body s b) (is_integer (bytes_of s b))
      (λ e. rule_allowed (bytes_of s b) (integer_rule_of s b inside e))
      (λ e. integer_body_of s b inside (allowed_rule (bytes_of s b) e))

  pub value_same : is_integer (bytes_of s b) ≡ true → integer_value s b ≡ number (bytes_of s b)
  value_same e = integer_value_of s b inside (allowed_rule (bytes_of s b) e)
