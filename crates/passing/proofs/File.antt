-- What a valid reading is written as is one tree of 20 levels at most. The PFX is on level 1;
-- MacData, DigestInfo and its AlgorithmIdentifier are on levels 2 to 4; the parameters have at most
-- 16 levels, 5 to 20. The bodies of OCTET STRINGs aren't examined.
use mathlib.Core.Bool.{Bool, true, false}
use mathlib.Core.Path.{refl}
use mathlib.Core.List.{List, [], ◌∷◌}
use Prim.Native.Nat.{ℕ, suc}
use lib.Dec.{eqb}
use Rattle.std.specs.Prelude.{if◌then◌else◌}
use Rattle.der.specs.Numbers.{integer_tag, octet_string_tag, identifier_tag, sequence_tag, context_tag}
use Rattle.der.specs.Octets.{integer_octets, integer, octet_string, identifier, sequence}
use Rattle.pkcs12.specs.Numbers.{pfx_version, default_iterations}
use Rattle.pkcs12.specs.Identifiers.{data_type}
use Rattle.pkcs12.specs.Syntax.{Algorithm, Sealed, MacData, Pfx}
use Rattle.pkcs12.specs.Encode.{algorithm_bytes, sealed_bytes, content_info, data_bytes, safes_bytes, iterations_bytes}
use Rattle.pkcs12.specs.Encode.{mac_bytes, encode}
use Rattle.pkcs12.specs.Valid.{Opaque, AtMostOne, ValidSealed, Valid}
use Rattle.passing.proofs.Trees.{TreeOf, RunOf, no_tree, one_tree, before, plain, around}

-- elements by tag
integer_tree : (l n : ℕ) → TreeOf (suc l) (integer n)
integer_tree l n = plain l integer_tag (integer_octets n) refl refl refl

octets_tree : (l : ℕ) (x : List ℕ) → TreeOf (suc l) (octet_string x)
octets_tree l x = plain l octet_string_tag x refl refl refl

identifier_tree : (l : ℕ) (x : List ℕ) → TreeOf (suc l) (identifier x)
identifier_tree l x = plain l identifier_tag x refl refl refl

sequence_tree : {l : ℕ} {x : List ℕ} → RunOf l x → TreeOf (suc l) (sequence x)
sequence_tree a = around sequence_tag refl refl refl a

-- Rules 2.7, 3.11: AlgorithmIdentifier; its parameters are at most one opaque element, of at most
-- 16 levels
opaque_tree : (x : List ℕ) → Opaque x → TreeOf 16 x
opaque_tree x o = record { tree = o.as_tree; formed = λ h. o.formed; levels = o.depth; bytes = o.whole }

parameters_run : (x : List ℕ) → AtMostOne x → RunOf 16 x
parameters_run [] o = no_tree 16
parameters_run (b ∷ bs) o = one_tree (opaque_tree (b ∷ bs) o)

algorithm_tree : (a : Algorithm) → AtMostOne a.parameters → TreeOf 17 (algorithm_bytes a)
unfolding algorithm_bytes
algorithm_tree a o = sequence_tree (before (identifier_tree 15 a.identifier) (parameters_run a.parameters o))

-- Rule 3.21: DigestInfo
sealed_tree : (x : Sealed) → ValidSealed x → TreeOf 18 (sealed_bytes x)
unfolding sealed_bytes
sealed_tree x v =
    sequence_tree (before (algorithm_tree x.algorithm v.parameters) (one_tree (octets_tree 16 x.octets)))

-- Rule 3.22: iterations, or none
iterations_run : (n : ℕ) → RunOf 18 (iterations_bytes n)
unfolding iterations_bytes
iterations_run n = go (eqb n default_iterations)
  where
    go : (t : Bool) → RunOf 18 (if t then [] else integer n)
    go true = no_tree 18
    go false = one_tree (integer_tree 17 n)

-- Rule 3.21: MacData
mac_tree : (m : MacData) → ValidSealed m.digest → TreeOf 19 (mac_bytes m)
unfolding mac_bytes
mac_tree m v =
    sequence_tree
    (before (sealed_tree m.digest v) (before (octets_tree 17 m.salt) (iterations_run m.iterations)))

-- Rule 3.5: the outer ContentInfo
data_tree : (x : List ℕ) → TreeOf 19 (data_bytes x)
unfolding data_bytes content_info
data_tree x =
    sequence_tree
    (before (identifier_tree 17 data_type)
    (one_tree (around context_tag refl refl refl (one_tree (octets_tree 16 (sequence x))))))

-- Rule 3.3: PFX
pub file_tree : (x : Pfx) → Valid x → TreeOf 20 (encode x)
unfolding encode
file_tree x v =
    sequence_tree
    (before (integer_tree 18 pfx_version)
    (before (data_tree (safes_bytes x.safes)) (one_tree (mac_tree x.mac v.mac.digest))))
