-- Rules for what comes before rows: counts that fit, and bags by their kind.
use mathlib.Core.Path.{◌≡◌, refl, ◌∙◌}
use mathlib.Core.Bool.{Bool, true, false}
use mathlib.Core.List.{List}
use Prim.Native.Nat.{ℕ, ◌+◌, ◌≤◌}
use native.Mathlib.Omega.{arith}
use lib.Dec.{leb}
use lib.ListN.{length}
use borrow.Author.Tests.{leb-true}
use mir.Val.{Fits}
use mir.Syntax.{w64}
use Rattle.std.specs.Prelude.{if◌then◌else◌}
use Rattle.der.specs.Numbers.{opaque_levels}
use Rattle.der.specs.Element.{fault, expect_at}
use Rattle.der.specs.Opaque.{elements_at}
use Rattle.der.specs.declared.Fault.{Fault}
use Rattle.der.specs.declared.Cursor.{Cursor}
use Rattle.der.specs.declared.Checked.{Checked}
use Rattle.der.specs.declared.Element.{Element}
use Rattle.pkcs12.specs.declared.answers.Parsed.{Parsed}
use Rattle.reader.specs.Steps.{bag}
use Rattle.reader.specs.declared.bags.Bag.{Bag}
use Rattle.std.specs.Prelude.{Err, Ok, Result}
use Rattle.der.proofs.Placed.{found, expected}
use Rattle.der.proofs.Opaque.{ran}
use Rattle.buffer.specs.Numbers.{file_bytes}
use Rattle.pkcs12.specs.Numbers.{not_served}
use Rattle.pkcs12.specs.Table.{no_parts}
use Rattle.pkcs12.specs.Walk.{sealed_at, key_at, typed_at, encrypted_at, on_kind}
use Rattle.pkcs12.specs.declared.row.Parts.{Parts}
use Rattle.pkcs12.specs.declared.kind.BagKind.{BagKind}
use Rattle.pkcs12.specs.declared.kind.BagKind.TheVariants.{Key, ShroudedKey, Certificate, Crl, Secret, Nested}
use Rattle.reader.specs.Steps.{SmallParts, leaf_of, bag_value_at}
use Rattle.parts.proofs.Past.{Past, key_past, sealed_past, typed_past, encrypted_past}
use Rattle.parts.specs.InFile.{in_file}
use Rattle.parts.proofs.Rules.{small, in_file_lem}

-- the values of an attribute, in a file that isn't too long: their count with k more
pub elements_fits : (s : List ℕ) (due : ℕ) (c : Cursor) (x : Result Element Fault) (e : Element)
    (w : Result Checked Fault) (m : Checked) (k : ℕ)
    → w ≡ elements_at opaque_levels s e.body → w ≡ Ok m → x ≡ expect_at due s c → x ≡ Ok e → length s ≤ file_bytes
    → leb k 16 ≡ true → Fits w64 (m.count + k)
elements_fits s due c x e w m k p q f g h l =
    let o = found s c _ e.tag e.body e.next refl (expected due s c x e.tag e.body e.next f g).1 in
    let r = ran opaque_levels s e.body w m.count m.next p q in
    omega (arith, o.body.size, o.body.within, o.inside, r.long, r.stop o.body.size, leb-true k 16 l)

-- the value of a bag of each kind counts at most 65,535 elements
module _ (s : List ℕ) (c : Cursor) (w : Result (Parsed Parts) Fault) (h : length s ≤ file_bytes) where
  past_small : ((x : Parsed Parts) → w ≡ Ok x → Past s c 0 x.count x.next) → SmallParts w
  past_small past = go w refl
    where
      go : (x : Result (Parsed Parts) Fault) → w ≡ x → SmallParts x
      go (Err f) e = tt
      go (Ok x) e = small s c x.count x.next (past x e) h

module _ (s : List ℕ) (c : Cursor) (w : Result (Parsed Parts) Fault) where
  pub key_small : w ≡ in_file s (key_at s c) → length s ≤ file_bytes → SmallParts w
  key_small e h = past_small s c w h (λ x f. key_past s c w x (in_file_lem s w _ e h) f)

  pub sealed_small : w ≡ in_file s (sealed_at s c) → length s ≤ file_bytes → SmallParts w
  sealed_small e h = past_small s c w h (λ x f. sealed_past s c w x (in_file_lem s w _ e h) f)

  pub typed_small : (u : Bool) → w ≡ in_file s (typed_at u s c) → length s ≤ file_bytes → SmallParts w
  typed_small u e h = past_small s c w h (λ x f. typed_past u s c w x (in_file_lem s w _ e h) f)

pub ruleset small-values = (key_small, sealed_small, typed_small)

pub leaf_fits : (w : Result (Parsed Parts) Fault) (p : Parsed Parts) → SmallParts w → w ≡ Ok p → Fits w64 (p.count + 3)
leaf_fits w p h e = let o : p.count ≤ file_bytes = rw e at h in omega (arith, o)

module _ (s : List ℕ) (c : Cursor) (w : Result (Parsed Parts) Fault) (p : Parsed Parts) where
  pub encrypted_fits : w ≡ in_file s (encrypted_at s c) → w ≡ Ok p → length s ≤ file_bytes → Fits w64 (p.count + 3)
  encrypted_fits e f h =
      let o = small s c p.count p.next (encrypted_past s c w p (in_file_lem s w _ e h) f) h in
      omega (arith, o)

  pub sealed_count_lem : w ≡ in_file s (sealed_at s c) → w ≡ Ok p → length s ≤ file_bytes → p.count ≤ file_bytes
  sealed_count_lem e f h =
      small s c p.count p.next (sealed_past s c w p (in_file_lem s w _ e h) f) h

-- what is in [0], by the kind that the code matched on; x is what was read there
module _ (s : List ℕ) (kind : BagKind) (v e n : Cursor) (r : Result Bag Fault) where
  pub value_none : kind ≡ BagKind.None → r ≡ Err (fault not_served v.at) → r ≡ bag_value_at s kind v e n
  unfolding bag_value_at
  value_none p q = rw p q

  pub value_nested : kind ≡ Nested → r ≡ Ok (bag kind no_parts 3 v e n) → r ≡ bag_value_at s kind v e n
  unfolding bag_value_at
  value_nested p q = rw p (q ∙ rw p)

  module _ (x : Result (Parsed Parts) Fault) where
    pub value_key : kind ≡ Key → x ≡ key_at s v → r ≡ leaf_of kind x e n → r ≡ bag_value_at s kind v e n
    unfolding bag_value_at
    value_key p y q = rw p (q ∙ rw (p, y))

    pub value_shrouded : kind ≡ ShroudedKey → x ≡ sealed_at s v → r ≡ leaf_of kind x e n → r ≡ bag_value_at s kind v e n
    unfolding bag_value_at
    value_shrouded p y q = rw p (q ∙ rw (p, y))

    pub value_certificate : kind ≡ Certificate → x ≡ typed_at true s v → r ≡ leaf_of kind x e n
        → r ≡ bag_value_at s kind v e n
    unfolding bag_value_at
    value_certificate p y q = rw p (q ∙ rw (p, y))

    pub value_crl : kind ≡ Crl → x ≡ typed_at false s v → r ≡ leaf_of kind x e n → r ≡ bag_value_at s kind v e n
    unfolding bag_value_at
    value_crl p y q = rw p (q ∙ rw (p, y))

    pub value_secret : kind ≡ Secret → x ≡ typed_at false s v → r ≡ leaf_of kind x e n → r ≡ bag_value_at s kind v e n
    unfolding bag_value_at
    value_secret p y q = rw p (q ∙ rw (p, y))

pub ruleset values = (value_none, value_nested, value_key, value_shrouded, value_certificate, value_crl, value_secret)

-- the kind kd that a bagId named, and what the code found out about it
kind_cases : {A : Type 0} (kd : BagKind) (bad good : A)
    → on_kind kd bad good ≡ (if on_kind kd true false then bad else good)
kind_cases BagKind.None bad good = refl
kind_cases Key bad good = refl
kind_cases ShroudedKey bad good = refl
kind_cases Certificate bad good = refl
kind_cases Crl bad good = refl
kind_cases Secret bad good = refl
kind_cases Nested bad good = refl

module _ {A : Type 0} where
  pub kind_none : (k kd : BagKind) (u : Bool) (r bad good : A) → kd ≡ k → u ≡ on_kind kd true false → u ≡ true
      → r ≡ bad → r ≡ on_kind k bad good
  kind_none k kd u r bad good p q t e = rw (← p, kind_cases kd bad good, ← q, t) e

  pub kind_some : (k kd : BagKind) (u : Bool) (r bad good : A) → kd ≡ k → u ≡ on_kind kd true false → u ≡ false
      → r ≡ good → r ≡ on_kind k bad good
  kind_some k kd u r bad good p q t e = rw (← p, kind_cases kd bad good, ← q, t) e

pub kind_given : (s : List ℕ) (k kd : BagKind) (v e n : Cursor) (r : Result Bag Fault) → kd ≡ k
    → r ≡ bag_value_at s kd v e n
    → r ≡ bag_value_at s k v e n
kind_given s k kd v e n r p q = rw (← p) q
