-- A file is at least twice as long as its elements are many.
use mathlib.Core.Bool.{Bool, true, false}
use mathlib.Core.Path.{◌≡◌}
use mathlib.Core.List.{List, [], ◌∷◌, ◌++◌}
use Prim.Native.Nat.{ℕ, zero, suc, ◌+◌, ◌*◌, ◌≤◌}
use native.Mathlib.Omega.{arith}
use lib.Dec.{eqb}
use lib.ListN.{length, length-append}
use Rattle.std.specs.Prelude.{if◌then◌else◌}
use Rattle.der.specs.Octets.{tlv, integer}
use Rattle.der.proofs.Octets.{tlv_long}
use Rattle.der.proofs.Trees.{tree_long, trees_long}
use Rattle.pkcs12.specs.Numbers.{default_iterations}
use Rattle.pkcs12.specs.Syntax.{Algorithm, Sealed, Leaf, key, shrouded, typed, Attribute, Set, absent, present}
use Rattle.pkcs12.specs.Syntax.{Bags, none, bag, nest, Safe, plain, encrypted, MacData, Pfx}
use Rattle.pkcs12.specs.Encode.{algorithm_bytes, sealed_bytes, content_info, data_bytes, attribute_bytes}
use Rattle.pkcs12.specs.Encode.{attributes_bytes, set_bytes, leaf_bytes, bag_bytes, bags_bytes, encrypted_info}
use Rattle.pkcs12.specs.Encode.{safe_bytes, safes_bytes, iterations_bytes, mac_bytes, encode}
use Rattle.pkcs12.specs.Elements.{opaque_count, algorithm_count, sealed_count, leaf_count, attributes_count}
use Rattle.pkcs12.specs.Elements.{set_count, bags_count, safe_count, safes_count, mac_count, elements}
use Rattle.pkcs12.specs.Valid.{Opaque, Opaques, AtMostOne, ValidAlgorithm, ValidSealed, ValidLeaf}
use Rattle.pkcs12.specs.Valid.{ValidAttributes, ValidSet, ValidBags, ValidSafe, ValidSafes, ValidMac, Valid}
use Rattle.pkcs12.specs.declared.kind.BagKind.{BagKind}
use Rattle.pkcs12.proofs.Parents.{opaque_count_lem, opaques_count, nothing_count}

-- two bytes at least for each of n elements
record Long (n : ℕ) (x : List ℕ) : Type 0 where
  twice : 2 * n ≤ length x

-- any bytes, an element, bytes side by side, and another number
any : {x : List ℕ} → Long 0 x
any {x} = record { twice = omega arith }

element : {n : ℕ} {x : List ℕ} (t : ℕ) → Long n x → Long (n + 1) (tlv t x)
element {n} {x} t h = record { twice = omega (arith, tlv_long t x, h.twice) }

joined : {n m : ℕ} {x y : List ℕ} → Long n x → Long m y → Long (n + m) (x ++ y)
joined {n} {m} {x} {y} h k = record { twice = omega (arith, length-append x y, h.twice, k.twice) }

counted : {n m : ℕ} {x : List ℕ} → Long n x → m ≡ n → Long m x
counted {n} {m} {x} h e = rw e h

-- opaque elements
opaque_long : (x : List ℕ) → Opaque x → Long (opaque_count x) x
opaque_long x o = rw (← o.whole, opaque_count_lem o.as_tree o.formed o.depth) record { twice = tree_long o.as_tree }

opaques_long : (x : List ℕ) → Opaques x → Long (opaque_count x) x
opaques_long x o = rw (← o.whole, opaques_count o.as_trees o.formed o.depth) record { twice = trees_long o.as_trees }

at_most_long : (x : List ℕ) → AtMostOne x → Long (opaque_count x) x
at_most_long [] o = counted any nothing_count
at_most_long (b ∷ x) o = opaque_long (b ∷ x) o

-- an algorithm, and what it made
algorithm_long : (a : Algorithm) → ValidAlgorithm a → Long (algorithm_count a) (algorithm_bytes a)
unfolding algorithm_count algorithm_bytes
algorithm_long a v = counted (element _ (joined (element _ any) (at_most_long a.parameters v.parameters))) (omega arith)

sealed_long : (x : Sealed) → ValidSealed x → Long (sealed_count x) (sealed_bytes x)
unfolding sealed_count sealed_bytes
sealed_long x v = counted (element _ (joined (algorithm_long x.algorithm v) (element _ any))) (omega arith)

-- attributes, and a set
attributes_long : (xs : List Attribute) → ValidAttributes xs → Long (attributes_count xs) (attributes_bytes xs)
unfolding attributes_count attributes_bytes attribute_bytes ValidAttributes
attributes_long [] v = any
attributes_long (a ∷ xs) v =
    counted (joined (element _ (joined (element _ any) (element _ (opaques_long a.values v.0.values)))) (attributes_long xs v.1)) (omega arith)

set_long : (x : Set) → ValidSet x → Long (set_count x) (set_bytes x)
unfolding set_bytes
set_long absent v = any
set_long (present xs) v = element _ (attributes_long xs v)

-- bags
leaf_long : (x : Leaf) → ValidLeaf x → Long (leaf_count x) (leaf_bytes x)
unfolding leaf_bytes
leaf_long (key v) h = opaque_long v h.opaque
leaf_long (shrouded x) h = sealed_long x h
leaf_long (typed k t v) h = counted (element _ (joined (element _ any) (element _ (opaque_long v h.1)))) (omega arith)

bag_long : {n : ℕ} {a : List ℕ} (k : BagKind) (set : Set) → Long n a → ValidSet set → Long ((n + 3) + set_count set) (bag_bytes k a set)
unfolding bag_bytes
bag_long k set h v = counted (element _ (joined (element _ any) (joined (element _ h) (set_long set v)))) (omega arith)

bags_long : (l : ℕ) (xs : Bags) → ValidBags l xs → Long (bags_count xs) (bags_bytes xs)
unfolding bags_count bags_bytes ValidBags
bags_long l none v = any
bags_long l (bag x set xs) v = joined (bag_long _ set (leaf_long x v.0) v.1) (bags_long l xs v.2)
bags_long zero (nest inner set xs) v = absurd v
bags_long (suc l) (nest inner set xs) v =
    counted (joined (bag_long _ set (element _ (bags_long l inner v.0)) v.1) (bags_long (suc l) xs v.2)) (omega arith)

-- safes
data_long : {n : ℕ} {x : List ℕ} → Long n x → Long (n + 5) (data_bytes x)
unfolding data_bytes content_info
data_long h = counted (element _ (joined (element _ any) (element _ (element _ (element _ h))))) (omega arith)

safe_long : (x : Safe) → ValidSafe x → Long (safe_count x) (safe_bytes x)
unfolding safe_bytes content_info encrypted_info
safe_long (plain xs) v = data_long (bags_long _ xs v)
safe_long (encrypted x) v =
    let info = joined (element _ any) (joined (algorithm_long x.algorithm v) (element _ any)) in
    counted (element _ (joined (element _ any) (element _ (element _ (joined (element _ any) (element _ info)))))) (omega arith)

safes_long : (xs : List Safe) → ValidSafes xs → Long (safes_count xs) (safes_bytes xs)
unfolding safes_count safes_bytes ValidSafes
safes_long [] v = any
safes_long (x ∷ xs) v = joined (safe_long x v.0) (safes_long xs v.1)

-- the MAC
iterations_long : (n : ℕ) → Long (if eqb n default_iterations then 0 else 1) (iterations_bytes n)
unfolding iterations_bytes
iterations_long n = go (eqb n default_iterations)
  where
    go : (t : Bool) → Long (if t then 0 else 1) (if t then [] else integer n)
    go true = any
    go false = element _ any

mac_long : (m : MacData) → ValidMac m → Long (mac_count m) (mac_bytes m)
unfolding mac_count mac_bytes
mac_long m v = counted (element _ (joined (sealed_long m.digest v.digest) (joined (element _ any) (iterations_long m.iterations)))) (omega arith)

-- a whole file
file_long : (x : Pfx) → Valid x → Long (elements x) (encode x)
unfolding elements encode
file_long x v =
    counted (element _ (joined (element _ any) (joined (data_long (safes_long x.safes v.safes)) (mac_long x.mac v.mac)))) (omega arith)

pub elements_long : (x : Pfx) → Valid x → 2 * elements x ≤ length (encode x)
elements_long x v = (file_long x v).twice
