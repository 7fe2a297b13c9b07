-- The identifiers of Rules 3.14 and 3.23: each keeps the rule of an identifier, and each kind of
-- bag is named by its own.
use mathlib.Core.Bool.{true, false}
use mathlib.Core.Path.{◌≡◌, refl}
use mathlib.Core.List.{List}
use Prim.Native.Nat.{ℕ}
use Rattle.der.specs.Content.{parts, identifier_body}
use Rattle.der.specs.Octets.{IdentifierRule}
use Rattle.der.proofs.Choices.{never, by_test}
use Rattle.der.proofs.Content.{identifier_rule}
use Rattle.pkcs12.specs.Identifiers.{data_type, encrypted_type, identifier_of, kind_of}
use Rattle.range.specs.Bytes.{same_bytes}
use Rattle.pkcs12.specs.Walk.{on_kind}
use Rattle.pkcs12.specs.declared.kind.BagKind.{BagKind}
use Rattle.pkcs12.specs.declared.kind.BagKind.TheVariants.{Key, ShroudedKey, Certificate, Crl, Secret, Nested}
use Rattle.range.proofs.SameBytes.{same_is}

-- the types of content keep the rule of an identifier
pub data_rule : IdentifierRule data_type
unfolding data_type identifier_body parts
data_rule = identifier_rule data_type refl

pub encrypted_rule : IdentifierRule encrypted_type
unfolding encrypted_type identifier_body parts
encrypted_rule = identifier_rule encrypted_type refl

-- and differ
pub other_type : same_bytes encrypted_type data_type ≡ false
unfolding encrypted_type data_type same_bytes
other_type = refl

-- the identifier of each kind of bag keeps it, too, and names that kind; all but none are served
abbrev pub Served : BagKind → Type 0
Served k = on_kind k false true ≡ true

pub on_kind_lem : {A : Type 0} (k : BagKind) → Served k → (bad good : A) → on_kind k bad good ≡ good
on_kind_lem BagKind.None v bad good = never v
on_kind_lem Key v bad good = refl
on_kind_lem ShroudedKey v bad good = refl
on_kind_lem Certificate v bad good = refl
on_kind_lem Crl v bad good = refl
on_kind_lem Secret v bad good = refl
on_kind_lem Nested v bad good = refl

pub kind_named : (k : BagKind) → Served k → IdentifierRule (identifier_of k) × (kind_of (identifier_of k) ≡ k)
unfolding kind_of identifier_of same_bytes identifier_body parts
kind_named BagKind.None v = never v
kind_named Key v = (identifier_rule _ refl, refl)
kind_named ShroudedKey v = (identifier_rule _ refl, refl)
kind_named Certificate v = (identifier_rule _ refl, refl)
kind_named Crl v = (identifier_rule _ refl, refl)
kind_named Secret v = (identifier_rule _ refl, refl)
kind_named Nested v = (identifier_rule _ refl, refl)

-- x is the identifier of the kind, if it is one
abbrev Names : List ℕ → BagKind → Type 0
Names x BagKind.None = Unit {0}
Names x Key = x ≡ identifier_of Key
Names x ShroudedKey = x ≡ identifier_of ShroudedKey
Names x Certificate = x ≡ identifier_of Certificate
Names x Crl = x ≡ identifier_of Crl
Names x Secret = x ≡ identifier_of Secret
Names x Nested = x ≡ identifier_of Nested

kind_names : (x : List ℕ) → Names x (kind_of x)
unfolding kind_of
kind_names x =
    by_test (Names x) _ _ (same_bytes x (identifier_of Key)) (same_is x _)
    (λ a. by_test (Names x) _ _ (same_bytes x (identifier_of ShroudedKey)) (same_is x _)
    (λ b. by_test (Names x) _ _ (same_bytes x (identifier_of Certificate)) (same_is x _)
    (λ c. by_test (Names x) _ _ (same_bytes x (identifier_of Crl)) (same_is x _)
    (λ d. by_test (Names x) _ _ (same_bytes x (identifier_of Secret)) (same_is x _)
    (λ e. by_test (Names x) _ _ (same_bytes x (identifier_of Nested)) (same_is x _) (λ f. tt))))))

-- what holds where no kind is named, and of each kind with its identifier, holds of what is made of
-- them
pub by_kind : {A : Type 0} (P : A → Type 0) (bad good : A) (x : List ℕ) → P bad → (x ≡ identifier_of (kind_of x) → P good) → P (on_kind (kind_of x) bad good)
by_kind P bad good x f g = go (kind_of x) (kind_names x) g
  where
    go : (k : BagKind) → Names x k → (x ≡ identifier_of k → P good) → P (on_kind k bad good)
    go BagKind.None n h = f
    go Key n h = h n
    go ShroudedKey n h = h n
    go Certificate n h = h n
    go Crl n h = h n
    go Secret n h = h n
    go Nested n h = h n
