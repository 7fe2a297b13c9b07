-- The number of elements of a reading (Rule 4.5): those that section 3 of the rules names, opaque
-- ones with every element checked in them, and those in the OCTET STRINGs of type data.
use Rattle.std.specs.Prelude.{List, [], ◌∷◌, ℕ, ◌+◌, eqb}
use Rattle.std.specs.Prelude.{if◌then◌else◌}
use Rattle.der.specs.Numbers.{opaque_levels}
use Rattle.der.specs.Element.{whole_of}
use Rattle.der.specs.Opaque.{on_checked, elements_at}
use Rattle.pkcs12.specs.Numbers.{default_iterations}
use Rattle.pkcs12.specs.Syntax.{Algorithm, Sealed, Leaf, key, shrouded, typed, Attribute, Set, absent, present}
use Rattle.pkcs12.specs.Syntax.{Bags, none, bag, nest, Safe, plain, encrypted, MacData, Pfx}

-- the elements in zero or more opaque elements, by `der`'s count: that of their trees
unfoldable pub opaque_count : List ℕ → ℕ
opaque_count x = on_checked (elements_at opaque_levels x (whole_of x)) (λ f. 0) (λ m n. m)

-- SEQUENCE, identifier, parameters
unfoldable pub algorithm_count : Algorithm → ℕ
algorithm_count a = opaque_count a.parameters + 2

-- SEQUENCE, AlgorithmIdentifier, OCTET STRING
unfoldable pub sealed_count : Sealed → ℕ
sealed_count x = algorithm_count x.algorithm + 2

-- an opaque SEQUENCE; or SEQUENCE, identifier, [0] and the opaque element
abbrev pub leaf_count : Leaf → ℕ
leaf_count (key v) = opaque_count v
leaf_count (shrouded x) = sealed_count x
leaf_count (typed k t v) = opaque_count v + 3

-- SEQUENCE, identifier, SET and its elements
unfoldable pub attributes_count : List Attribute → ℕ
attributes_count [] = 0
attributes_count (a ∷ xs) = (opaque_count a.values + 3) + attributes_count xs

abbrev pub set_count : Set → ℕ
set_count absent = 0
set_count (present xs) = attributes_count xs + 1

-- SEQUENCE, bagId, [0], what is in it, and the set; a nested bag has the SEQUENCE of its
-- SafeContents
unfoldable pub bags_count : Bags → ℕ
bags_count none = 0
bags_count (bag x set xs) = ((leaf_count x + 3) + set_count set) + bags_count xs
bags_count (nest inner set xs) = ((bags_count inner + 4) + set_count set) + bags_count xs

-- SEQUENCE, identifier, [0], OCTET STRING, SEQUENCE; or SEQUENCE, identifier, [0], SEQUENCE,
-- version, SEQUENCE, identifier, AlgorithmIdentifier, ciphertext
abbrev pub safe_count : Safe → ℕ
safe_count (plain xs) = bags_count xs + 5
safe_count (encrypted x) = algorithm_count x.algorithm + 8

unfoldable pub safes_count : List Safe → ℕ
safes_count [] = 0
safes_count (x ∷ xs) = safe_count x + safes_count xs

-- SEQUENCE, DigestInfo, salt, iterations if they are written
unfoldable pub mac_count : MacData → ℕ
mac_count m = (sealed_count m.digest + 2) + (if eqb m.iterations default_iterations then 0 else 1)

-- SEQUENCE, version, SEQUENCE, identifier, [0], OCTET STRING, SEQUENCE
unfoldable pub elements : Pfx → ℕ
elements x = (safes_count x.safes + 7) + mac_count x.mac
