-- The bytes of a reading encode that reading only, whatever follows them.
use mathlib.Core.Path.{◌≡◌, refl, sym, ap, ◌∙◌}
use mathlib.Core.List.{List, [], ◌∷◌, ◌++◌}
use Prim.Native.Nat.{ℕ, ◌≤◌}
use native.Mathlib.Omega.{arith}
use lib.ListN.{length, get_or, length-append}
use lib.Dec.{eqb}
use Rattle.std.specs.Prelude.{if◌then◌else◌}
use Rattle.der.specs.Octets.{tlv, number, integer, identifier, sequence}
use Rattle.der.proofs.Choices.{by_eq}
use Rattle.der.proofs.Octets.{tlv_unique, tlv_long, integer_number}
use Rattle.pkcs12.specs.Numbers.{encrypted_version}
use Rattle.pkcs12.specs.Identifiers.{data_type, encrypted_type, identifier_of}
use Rattle.pkcs12.specs.Syntax.{Typed, certificate, crl, secret, Leaf, key, shrouded, typed, Set, absent}
use Rattle.pkcs12.specs.Syntax.{present, none, bag, nest, Safe, plain, encrypted, Pfx, kind_of_typed, kind_of_leaf}
use Rattle.pkcs12.specs.Encode.{algorithm_bytes, sealed_bytes, content_info, data_bytes, attribute_bytes}
use Rattle.pkcs12.specs.Encode.{attributes_bytes, set_bytes, leaf_bytes, bag_bytes, bags_bytes, encrypted_info}
use Rattle.pkcs12.specs.Encode.{safe_bytes, safes_bytes, iterations_bytes, mac_bytes, encode}
use Rattle.pkcs12.specs.declared.kind.BagKind.{BagKind}

-- values that their bytes determine, whatever follows the bytes, and where nothing follows them
abbrev Begins : {A : Type 0} → (A → List ℕ) → Type 0
Begins {A} f = (x y : A) (r q : List ℕ) → f x ++ r ≡ f y ++ q → (x ≡ y) × (r ≡ q)

abbrev Tells : {A : Type 0} → (A → List ℕ) → Type 0
Tells {A} f = (x y : A) → f x ≡ f y → x ≡ y

begins_tells : {A : Type 0} (f : A → List ℕ) → Begins f → Tells f
begins_tells f u x y e = (u x y [] [] (ap (λ (l : List ℕ). l ++ []) e)).0

-- an element's body, and what follows it
apart : (t : ℕ) (a b x y : List ℕ) → tlv t a ++ x ≡ tlv t b ++ y → (a ≡ b) × (x ≡ y)
apart t a b x y e = let q = tlv_unique t t a b x y e in (q.1, q.2)

tlv_tells : (t : ℕ) → Tells (tlv t)
tlv_tells t = begins_tells (tlv t) (apart t)

-- an element is not empty
empty : (t : ℕ) (a : List ℕ) → tlv t a ≡ [] → ⊥
empty t a e = omega (arith, ap length e, tlv_long t a)

filled : (t : ℕ) (a r : List ℕ) → tlv t a ++ r ≡ [] → ⊥
filled t a r e = omega (arith, ap length e, length-append (tlv t a) r, tlv_long t a)

-- a list of things that their bytes determine and whose bytes aren't empty
module _ {A : Type 0} (f : A → List ℕ) (g : List A → List ℕ) (end : g [] ≡ []) (step : (x : A) (xs : List A) → g (x ∷ xs) ≡ f x ++ g xs)
    (begins : Begins f) (some : (x : A) (r : List ℕ) → f x ++ r ≡ [] → ⊥) where
  list_tells : Tells g
  list_tells [] [] e = refl
  list_tells [] (y ∷ ys) e = absurd (some y (g ys) (sym (step y ys) ∙ sym e ∙ end))
  list_tells (x ∷ xs) [] e = absurd (some x (g xs) (sym (step x xs) ∙ e ∙ end))
  list_tells (x ∷ xs) (y ∷ ys) e =
      let q = begins x y (g xs) (g ys) (sym (step x xs) ∙ e ∙ step y ys) in
      let p = list_tells xs ys q.1 in
      cc

-- an algorithm, and what it made
algorithm_begins : Begins algorithm_bytes
unfolding algorithm_bytes
algorithm_begins x y r q e =
    let o = apart _ _ _ r q e in
    let i = apart _ _ _ _ _ o.0 in
    (λ k. record { identifier = i.0 k; parameters = i.1 k }, o.1)

sealed_begins : Begins sealed_bytes
unfolding sealed_bytes
sealed_begins x y r q e =
    let o = apart _ _ _ r q e in
    let i = algorithm_begins x.algorithm y.algorithm _ _ o.0 in
    let p = tlv_tells _ _ _ i.1 in
    (λ k. record { algorithm = i.0 k; octets = p k }, o.1)

-- a SEQUENCE of an identifier and one element
named_apart : (t : ℕ) (i j a b r q : List ℕ) → sequence (identifier i ++ tlv t a) ++ r ≡ sequence (identifier j ++ tlv t b) ++ q → (i ≡ j) × (a ≡ b) × (r ≡ q)
named_apart t i j a b r q e =
    let o = apart _ _ _ r q e in
    let n = apart _ _ _ _ _ o.0 in
    (n.0, tlv_tells _ _ _ n.1, o.1)

-- attributes, and a set
attribute_begins : Begins attribute_bytes
unfolding attribute_bytes
attribute_begins x y r q e = let o = named_apart _ _ _ _ _ r q e in (λ k. record { identifier = o.0 k; values = o.1 k }, o.2)

attributes_tell : Tells attributes_bytes
unfolding attributes_bytes attribute_bytes
attributes_tell = list_tells attribute_bytes attributes_bytes refl (λ x xs. refl) attribute_begins (λ x r. filled _ _ r)

set_tells : Tells set_bytes
unfolding set_bytes
set_tells absent absent e = refl
set_tells absent (present ys) e = absurd (empty _ _ (sym e))
set_tells (present xs) absent e = absurd (empty _ _ e)
set_tells (present xs) (present ys) e = let p = attributes_tell xs ys (tlv_tells _ _ _ e) in cc

-- the last byte of a bag's identifier, which determines its kind
abbrev last : BagKind → ℕ
last k = get_or (identifier_of k) 10 0

-- the three typed kinds by that byte, 3 to 5
abbrev typed_of : ℕ → Typed
typed_of n = if eqb n 3 then certificate else if eqb n 4 then crl else secret

typed_last : (k : Typed) → (3 ≤ last (kind_of_typed k)) × (last (kind_of_typed k) ≤ 5) × (typed_of (last (kind_of_typed k)) ≡ k)
unfolding identifier_of
typed_last certificate = (omega arith, omega arith, refl)
typed_last crl = (omega arith, omega arith, refl)
typed_last secret = (omega arith, omega arith, refl)

-- no leaf has the byte of the nested kind, 6
leaf_last : (x : Leaf) → last (kind_of_leaf x) ≤ 5
unfolding identifier_of
leaf_last (key v) = omega arith
leaf_last (shrouded x) = omega arith
leaf_last (typed k t v) = (typed_last k).1

-- a leaf, by its kind and its bytes
leaf_tells : (x y : Leaf) → last (kind_of_leaf x) ≡ last (kind_of_leaf y) → leaf_bytes x ≡ leaf_bytes y → x ≡ y
unfolding leaf_bytes identifier_of
leaf_tells (key v) (key w) k e = ap key e
leaf_tells (key v) (shrouded y) k e = absurd (omega arith)
leaf_tells (key v) (typed l u w) k e = absurd (omega (arith, k, (typed_last l).0))
leaf_tells (shrouded x) (key w) k e = absurd (omega arith)
leaf_tells (shrouded x) (shrouded y) k e = ap shrouded (begins_tells sealed_bytes sealed_begins x y e)
leaf_tells (shrouded x) (typed l u w) k e = absurd (omega (arith, k, (typed_last l).0))
leaf_tells (typed j t v) (key w) k e = absurd (omega (arith, k, (typed_last j).0))
leaf_tells (typed j t v) (shrouded y) k e = absurd (omega (arith, k, (typed_last j).0))
leaf_tells (typed j t v) (typed l u w) k e =
    let o = named_apart _ _ _ _ _ [] [] (ap (λ (d : List ℕ). d ++ []) e) in
    let i = sym (typed_last j).2 ∙ ap typed_of k ∙ (typed_last l).2 in
    cc

-- a bag: its kind, what it holds, its set, and what follows
bag_apart : (k l : BagKind) (a b : List ℕ) (x y : Set) (r q : List ℕ) → bag_bytes k a x ++ r ≡ bag_bytes l b y ++ q
    → (last k ≡ last l) × (a ≡ b) × (x ≡ y) × (r ≡ q)
unfolding bag_bytes
bag_apart k l a b x y r q e =
    let o = apart _ _ _ r q e in
    let i = apart _ _ _ _ _ o.0 in
    let c = apart _ _ _ _ _ i.1 in
    (ap (λ (d : List ℕ). get_or d 10 0) i.0, c.0, set_tells x y c.1, o.1)

bag_filled : (k : BagKind) (a : List ℕ) (x : Set) (r : List ℕ) → bag_bytes k a x ++ r ≡ [] → ⊥
unfolding bag_bytes
bag_filled k a x r e = filled _ _ r e

-- the bags of a SafeContents
bags_tell : Tells bags_bytes
unfolding bags_bytes identifier_of
bags_tell none none e = refl
bags_tell none (bag y u ys) e = absurd (bag_filled _ _ _ _ (sym e))
bags_tell none (nest y u ys) e = absurd (bag_filled _ _ _ _ (sym e))
bags_tell (bag x t xs) none e = absurd (bag_filled _ _ _ _ e)
bags_tell (nest x t xs) none e = absurd (bag_filled _ _ _ _ e)
bags_tell (bag x t xs) (bag y u ys) e =
    let o = bag_apart _ _ _ _ t u _ _ e in
    let i = leaf_tells x y o.0 o.1 in
    let p = bags_tell xs ys o.3 in
    cc
bags_tell (bag x t xs) (nest y u ys) e = let o = bag_apart _ _ _ _ t u _ _ e in absurd (omega (arith, o.0, leaf_last x))
bags_tell (nest x t xs) (bag y u ys) e = let o = bag_apart _ _ _ _ t u _ _ e in absurd (omega (arith, o.0, leaf_last y))
bags_tell (nest x t xs) (nest y u ys) e =
    let o = bag_apart _ _ _ _ t u _ _ e in
    let i = bags_tell x y (tlv_tells _ _ _ o.1) in
    let p = bags_tell xs ys o.3 in
    cc

-- a ContentInfo of type data
data_begins : Begins data_bytes
unfolding data_bytes content_info
data_begins x y r q e = let o = named_apart _ _ _ _ _ r q e in (tlv_tells _ _ _ (tlv_tells _ _ _ o.1), o.2)

-- what an encrypted safe holds
encrypted_tells : Tells (λ x. sequence (integer encrypted_version ++ encrypted_info x))
unfolding encrypted_info
encrypted_tells x y e =
    let v = apart _ _ _ _ _ (tlv_tells _ _ _ e) in
    let d = apart _ _ _ _ _ (tlv_tells _ _ _ v.1) in
    let i = algorithm_begins x.algorithm y.algorithm _ _ d.1 in
    let p = tlv_tells _ _ _ i.1 in
    λ k. record { algorithm = i.0 k; octets = p k }

-- the two types of safes differ in their last byte
types_differ : data_type ≡ encrypted_type → ⊥
unfolding data_type encrypted_type
types_differ e = omega (arith, ap (λ (d : List ℕ). get_or d 8 0) e)

-- a safe, and all of them
safe_begins : Begins safe_bytes
unfolding safe_bytes data_bytes content_info
safe_begins (plain x) (plain y) r q e = let o = data_begins _ _ r q e in let p = bags_tell x y o.0 in (cc, o.1)
safe_begins (plain x) (encrypted y) r q e = absurd (types_differ (named_apart _ _ _ _ _ r q e).0)
safe_begins (encrypted x) (plain y) r q e = absurd (types_differ (sym (named_apart _ _ _ _ _ r q e).0))
safe_begins (encrypted x) (encrypted y) r q e = let o = named_apart _ _ _ _ _ r q e in let p = encrypted_tells x y o.1 in (cc, o.2)

safe_filled : (x : Safe) (r : List ℕ) → safe_bytes x ++ r ≡ [] → ⊥
unfolding safe_bytes data_bytes content_info
safe_filled (plain x) r e = filled _ _ r e
safe_filled (encrypted x) r e = filled _ _ r e

safes_tell : Tells safes_bytes
unfolding safes_bytes
safes_tell = list_tells safe_bytes safes_bytes refl (λ x xs. refl) safe_begins safe_filled

-- iterations: none written are 1
iterations_tell : Tells iterations_bytes
unfolding iterations_bytes
iterations_tell n m =
    by_eq (λ l. l ≡ iterations_bytes m → n ≡ m) _ _ n _
    (λ h. by_eq (λ (l : List ℕ). [] ≡ l → n ≡ m) _ _ m _ (λ k e. h ∙ sym k) (λ k e. absurd (empty _ _ (sym e))))
    (λ h. by_eq (λ l. integer n ≡ l → n ≡ m) _ _ m _ (λ k e. absurd (empty _ _ e))
    (λ k e. sym (integer_number n) ∙ ap number (tlv_tells _ _ _ e) ∙ integer_number m))

-- the MAC
mac_tells : Tells mac_bytes
unfolding mac_bytes
mac_tells x y e =
    let d = sealed_begins x.digest y.digest _ _ (tlv_tells _ _ _ e) in
    let s = apart _ _ _ _ _ d.1 in
    let i = iterations_tell x.iterations y.iterations s.1 in
    λ k. record { digest = d.0 k; salt = s.0 k; iterations = i k }

-- a whole file
pub encode_unique : (x y : Pfx) (r q : List ℕ) → encode x ++ r ≡ encode y ++ q → (x ≡ y) × (r ≡ q)
unfolding encode
encode_unique x y r q e =
    let o = apart _ _ _ r q e in
    let v = apart _ _ _ _ _ o.0 in
    let d = data_begins _ _ _ _ v.1 in
    let i = safes_tell x.safes y.safes d.0 in
    let m = mac_tells x.mac y.mac d.1 in
    (λ k. record { safes = i k; mac = m k }, o.1)
