-- Sizes of what a range names, and of what is written by kind.
use mathlib.Core.Path.{◌≡◌, refl, ap, ◌∙◌}
use mathlib.Core.List.{List}
use mathlib.Core.Logic.{◌⊎◌, inl, inr}
use Prim.Native.Nat.{ℕ, ◌+◌}
use native.Mathlib.Omega.{arith}
use lib.ListN.{length}
use borrow.Author.Tests.{eq-eqb, ne_eqb}
use Rattle.der.specs.Octets.{digits_from, digits, length_octets, integer_octets, tlv, integer, identifier, sequence}
use Rattle.pkcs12.specs.Numbers.{default_iterations, encrypted_version}
use Rattle.pkcs12.specs.Identifiers.{data_type}
use Rattle.pkcs12.specs.Encode.{sealed_bytes, leaf_bytes, iterations_bytes}
use Rattle.range.specs.Range.{bytes_in}
use Rattle.pkcs12.specs.Table.{sealed_in}
use Rattle.pkcs12.specs.declared.row.Parts.{Parts}
use Rattle.pkcs12.specs.declared.kind.BagKind.{BagKind}
use Rattle.pkcs12.specs.declared.kind.BagKind.TheVariants.{Key, ShroudedKey, Certificate, Crl, Secret, Nested}
use Rattle.std.specs.Prelude.{Some}
use Rattle.sizes.specs.Bodies.{sealed_body, typed_body, content_of}
use Rattle.sizes.specs.Sizes.{bag_size, sized_as, one_of}
use Rattle.encode.specs.Sizes.{capped, element_size}
use Rattle.sizes.specs.declared.rows.Taken.{Taken}
use Rattle.encode.proofs.Capped.{Near, Sized, near_told, element_told, element_is, sized_told, sized_is, near_is}

module _ (n : ℕ) where
  pub none_written : n ≡ default_iterations → 0 ≡ capped (length (iterations_bytes n))
  unfolding iterations_bytes capped
  none_written e = rw (eq-eqb n default_iterations e) refl

  pub some_written : (r m : ℕ) → (n ≡ default_iterations → ⊥) → m ≡ length (integer_octets n) → r ≡ capped (element_size m)
      → r ≡ capped (length (iterations_bytes n))
  unfolding iterations_bytes
  some_written r m h e f = rw (ne_eqb n default_iterations h) (element_is r m _ _ f (sized_is m (integer_octets n) e))

-- the identifier data and the version of EncryptedData, as elements
pub data_type_sized : Sized 11 (identifier data_type)
unfolding data_type tlv length_octets
data_type_sized = near_is 11 _ refl

pub encrypted_version_sized : Sized 3 (integer encrypted_version)
unfolding integer_octets digits digits_from tlv length_octets
encrypted_version_sized = near_is 3 _ refl

-- ---- what is in [0] of a bag, by its kind

module _ (s : List ℕ) (k : BagKind) (p : Parts) (r : ℕ) where
  pub content_nothing : (k ≡ BagKind.None) ⊎ (k ≡ Nested) → 0 ≡ capped (length (content_of s k p))
  unfolding content_of capped
  content_nothing (inl e) = rw e refl
  content_nothing (inr e) = rw e refl

  pub content_key : (n : ℕ) → k ≡ Key → n ≡ length (bytes_in s p.value) → r ≡ capped (0 + n)
      → r ≡ capped (length (content_of s k p))
  unfolding content_of leaf_bytes
  content_key n e f g = rw e (g ∙ ap capped (omega arith ∙ f))

  pub content_shrouded : (n : ℕ) → k ≡ ShroudedKey → n ≡ capped (length (sealed_body (sealed_in s p)))
      → r ≡ capped (element_size n)
      → r ≡ capped (length (content_of s k p))
  unfolding content_of leaf_bytes sealed_bytes sealed_body
  content_shrouded n e f g = rw e (element_is r n _ _ g (sized_told n (sealed_body (sealed_in s p)) f))

  typed_is : (n : ℕ) → n ≡ capped (length (typed_body (bytes_in s p.identifier) (bytes_in s p.value)))
      → r ≡ capped (element_size n)
      → r ≡ capped (length (sequence (typed_body (bytes_in s p.identifier) (bytes_in s p.value))))
  typed_is n f g = element_is r n _ _ g (sized_told n (typed_body (bytes_in s p.identifier) (bytes_in s p.value)) f)

  pub content_typed : (n : ℕ) → (k ≡ Certificate) ⊎ ((k ≡ Crl) ⊎ (k ≡ Secret))
      → n ≡ capped (length (typed_body (bytes_in s p.identifier) (bytes_in s p.value)))
      → r ≡ capped (element_size n) → r ≡ capped (length (content_of s k p))
  unfolding content_of leaf_bytes typed_body
  content_typed n (inl e) f g = rw e (typed_is n f g)
  content_typed n (inr (inl e)) f g = rw e (typed_is n f g)
  content_typed n (inr (inr e)) f g = rw e (typed_is n f g)

-- ---- what was taken, made of its size and the next rows

pub taken_is : (r n bag attribute : ℕ) → r ≡ capped n
    → ◌≡◌ {A = Taken} (record { size = r; bag = bag; attribute = attribute }) (sized_as n bag attribute)
taken_is r n bag attribute e = rw e refl

-- one that was found, by the size of its body
pub found_is : (r body b bag attribute : ℕ) → r ≡ capped (element_size body) → Near body b
    → Some (record { size = r; bag = bag; attribute = attribute }) ≡ one_of (element_size b) bag attribute
found_is r body b bag attribute e n = ap Some (taken_is r (element_size b) bag attribute (element_told r body b e n))

pub one_is : (r body a b bag attribute : ℕ) → body ≡ capped (bag_size a b) → r ≡ capped (element_size body)
    → ◌≡◌ {A = Taken} (record { size = r; bag = bag; attribute = attribute })
    (sized_as (element_size (bag_size a b)) bag attribute)
one_is r body a b bag attribute e f =
    taken_is r _ bag attribute (element_told r body (bag_size a b) f (near_told body (bag_size a b) e))
