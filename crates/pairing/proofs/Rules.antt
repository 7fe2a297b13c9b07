-- Rules by which `search` follows the definitions of pairing as the code's own tests decided them
-- (see der's Choices).
use mathlib.Core.Path.{◌≡◌, refl, ap}
use mathlib.Core.Bool.{Bool, true, false, ◌&&◌}
use mathlib.Core.List.{List, [], ◌∷◌}
use Prim.Native.Nat.{ℕ}
use lib.ListN.{get_or}
use Rattle.std.specs.Prelude.{Err, Result}
use Rattle.std.specs.List.{list_all}
use Rattle.der.specs.Choice.{both}
use Rattle.der.specs.Element.{fault}
use Rattle.der.specs.declared.Fault.{Fault}
use Rattle.buffer.specs.Numbers.{not_sound}
use Rattle.pkcs12.specs.Numbers.{no_row}
use Rattle.pkcs12.specs.Checks.{all}
use Rattle.pkcs12.specs.declared.kind.BagKind.{BagKind}
use Rattle.pkcs12.specs.declared.kind.BagKind.TheVariants.{Key, ShroudedKey, Certificate, Crl, Secret, Nested}
use Rattle.pairing.specs.Pairs.{no_identity, is_key, is_certificate, id_lies, matching, only_one, paired}
use Rattle.pairing.specs.declared.IdentityRow.{IdentityRow}

-- a kind that is none of those named
pub no_key : (k : BagKind) → (k ≡ Key → ⊥) → (k ≡ ShroudedKey → ⊥) → false ≡ is_key k
unfolding is_key
no_key BagKind.None n m = refl
no_key Key n m = absurd (n refl)
no_key ShroudedKey n m = absurd (m refl)
no_key Certificate n m = refl
no_key Crl n m = refl
no_key Secret n m = refl
no_key Nested n m = refl

pub no_certificate_kind : (k : BagKind) → (k ≡ Certificate → ⊥) → false ≡ is_certificate k
unfolding is_certificate
no_certificate_kind BagKind.None n = refl
no_certificate_kind Key n = refl
no_certificate_kind ShroudedKey n = refl
no_certificate_kind Certificate n = absurd (n refl)
no_certificate_kind Crl n = refl
no_certificate_kind Secret n = refl
no_certificate_kind Nested n = refl

both_is : (t u v : Bool) → u ≡ v → (t && u) ≡ both t v
both_is true u v e = e
both_is false u v e = refl

-- the library's test of each of a list is that of the rules
pub all_is : {A : Type 0} (test : A → Bool) (xs : List A) → list_all test xs ≡ all test xs
unfolding all
all_is test [] = refl
all_is test (x ∷ xs) = both_is (test x) _ _ (all_is test xs)

-- the answer, from what each callee returned
module _ (s : List ℕ) (rows : List IdentityRow) (k : ℕ) (t : Bool) (sound : t ≡ list_all (id_lies s) rows) where
  pub unsound : (f : Fault) → t ≡ false → f ≡ fault not_sound 0 → Err f ≡ paired s rows k
  unfolding paired
  unsound f h e = rw (← all_is (id_lies s) rows, ← sound, h) (ap Err e)

  module _ (row : IdentityRow) (u : Bool) (there : row ≡ get_or rows k no_identity) (told : u ≡ is_key row.kind)
      (h : t ≡ true) where
    pub no_key_row : (f : Fault) → u ≡ false → f ≡ fault no_row 0 → Err f ≡ paired s rows k
    unfolding paired
    no_key_row f j e = rw (← all_is (id_lies s) rows, ← sound, h, ← there, ← told, j) (ap Err e)

    pub key_row : (r : Result ℕ Fault) → u ≡ true → r ≡ only_one (matching s row 0 rows) → r ≡ paired s rows k
    unfolding paired
    key_row r j e = rw (← all_is (id_lies s) rows, ← sound, h, ← there, ← told, j) e
