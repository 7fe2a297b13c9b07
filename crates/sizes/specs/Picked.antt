-- Which rows are taken, by their numbers: `Values`' reading of rows, with the next bag row and the
-- next attribute row in place of the rows that are left.
use Rattle.std.specs.Prelude.{Bool, true, false, List, [], ◌∷◌, ℕ, zero, suc, ◌+◌, ◌-◌, min, ltb, eqb, get_or}
use Rattle.std.proofs.Math.Option.{Option, some}
use Rattle.std.proofs.Math.Option as option
use Rattle.std.specs.Prelude.{if◌then◌else◌}
use Rattle.der.specs.Choice.{both}
use Rattle.pkcs12.specs.Numbers.{safe_rows, bag_rows, attribute_rows, levels}
use Rattle.pkcs12.specs.Syntax.{Attribute, Set, absent, present, Bags, none, bag, nest, Safe, plain, encrypted}
use Rattle.pkcs12.specs.Values.{SafeValue, empty_safe, plain_safe, encrypted_safe, BagValue}
use Rattle.pkcs12.specs.Values.{AttributeValue, same_enclosing, on_content, on_level}
use Rattle.pkcs12.specs.Table.{no_safe, no_bag, no_attribute, safe_shown, bag_shown, attribute_shown}
use Rattle.pkcs12.specs.declared.kind.BagKind.{BagKind}
use Rattle.pkcs12.specs.declared.kind.BagKind.TheVariants.{Key, ShroudedKey, Certificate, Crl, Secret, Nested}
use Rattle.std.specs.Prelude.{None, Option as Maybe, Some}
use Rattle.pkcs12.specs.declared.table.Table.{Table}
use Rattle.sizes.specs.declared.rows.Form.{Form}

-- rows that are counted and that there are
abbrev pub attribute_end : Table → ℕ
attribute_end t = min t.attribute_count attribute_rows

abbrev pub bag_end : Table → ℕ
bag_end t = min t.bag_count bag_rows

abbrev pub safe_end : Table → ℕ
safe_end t = min t.safe_count safe_rows

-- what a row shows
abbrev pub attribute_value : Table → List ℕ → ℕ → AttributeValue
attribute_value t s m = attribute_shown s (get_or t.attributes m no_attribute)

abbrev pub bag_value : Table → List ℕ → ℕ → BagValue
bag_value t s n = bag_shown s (get_or t.bags n no_bag)

abbrev pub safe_value : Table → List ℕ → ℕ → SafeValue
safe_value t s k = safe_shown s (get_or t.safes k no_safe)

-- whether a kind of bag holds bags; the kind of an empty row is of neither form
abbrev pub form_of : BagKind → Maybe Form
form_of BagKind.None = None
form_of Key = Some Form.Leaf
form_of ShroudedKey = Some Form.Leaf
form_of Certificate = Some Form.Leaf
form_of Crl = Some Form.Leaf
form_of Secret = Some Form.Leaf
form_of Nested = Some Form.Nested

-- attributes of one bag, and the next attribute row
pub record OwnPicked : Type 0 where
  pub attributes : List Attribute
  pub next : ℕ

abbrev pub also_own : Attribute → OwnPicked → OwnPicked
also_own a o = record { attributes = a ∷ o.attributes; next = o.next }

unfoldable pub own_from : Table → List ℕ → ℕ → ℕ → ℕ → OwnPicked
own_from t s zero n m = record { attributes = []; next = m }
own_from t s (suc f) n m =
    if eqb (attribute_value t s m).bag n then also_own (attribute_value t s m).attribute (own_from t s f n (m + 1)) else
    record { attributes = []; next = m }

-- from row m on, those that name bag n
unfoldable pub own_picked : Table → List ℕ → ℕ → ℕ → OwnPicked
own_picked t s n m = own_from t s (attribute_end t - m) n m

-- the set of bag n, if it has one
pub record SetPicked : Type 0 where
  pub set : Set
  pub next : ℕ

unfoldable pub set_picked : Table → List ℕ → Bool → ℕ → ℕ → SetPicked
set_picked t s true n m = record { set = present (own_picked t s n m).attributes; next = (own_picked t s n m).next }
set_picked t s false n m = record { set = absent; next = m }

-- bags, and the next bag row and attribute row
pub record Picked : Type 0 where
  pub bags : Bags
  pub bag : ℕ
  pub attribute : ℕ

abbrev pub nothing : ℕ → ℕ → Picked
nothing n m = record { bags = none; bag = n; attribute = m }

abbrev pub before : (Bags → Bags) → Picked → Picked
before f p = record { bags = f p.bags; bag = p.bag; attribute = p.attribute }

unfoldable pub bags_from : Table → List ℕ → ℕ → ℕ → ℕ → Maybe ℕ → ℕ → ℕ → Picked
bags_from t s zero l k e n m = nothing n m
bags_from t s (suc f) l k e n m =
    let r = bag_value t s n in
    if ltb n (bag_end t) then
    (if both (eqb r.safe k) (same_enclosing r.enclosing e) then
    on_content r.content
    (nothing n m)
    (λ x.
    let set = set_picked t s r.has_set n m in
    before (bag x set.set) (bags_from t s f l k e (n + 1) set.next))
    (on_level l
    (nothing n m)
    (λ below.
    let p = bags_from t s f below k (Some n) (n + 1) m in
    let set = set_picked t s r.has_set n p.attribute in
    before (nest p.bags set.set) (bags_from t s f l k e p.bag set.next))) else
    nothing n m) else
    nothing n m

-- from row n on, those in safe k and enclosing bag e, with l levels left below them
unfoldable pub bags_picked : Table → List ℕ → ℕ → ℕ → Maybe ℕ → ℕ → ℕ → Picked
bags_picked t s l k e n m = bags_from t s (bag_end t - n) l k e n m

-- one bag, and the rows behind it and behind all that it encloses
pub record OnePicked : Type 0 where
  pub front : Bags → Bags
  pub bag : ℕ
  pub attribute : ℕ

abbrev pub on_one : Option OnePicked → Picked → (OnePicked → Picked) → Picked
on_one option.none stop more = stop
on_one (some p) stop more = more p

-- bag n, if its row is a bag and a level is left for it
unfoldable pub bag_picked : Table → List ℕ → ℕ → ℕ → ℕ → ℕ → Option OnePicked
bag_picked t s l k n m =
    let r = bag_value t s n in
    on_content r.content
    option.none
    (λ x.
    let set = set_picked t s r.has_set n m in
    some (record { front = bag x set.set; bag = n + 1; attribute = set.next }))
    (on_level l
    option.none
    (λ below.
    let p = bags_picked t s below k (Some n) (n + 1) m in
    let set = set_picked t s r.has_set n p.attribute in
    some (record { front = nest p.bags set.set; bag = p.bag; attribute = set.next })))

-- safes, and the next rows
pub record SafesPicked : Type 0 where
  pub safes : List Safe
  pub safe : ℕ
  pub bag : ℕ
  pub attribute : ℕ

abbrev pub no_safes : ℕ → ℕ → ℕ → SafesPicked
no_safes k n m = record { safes = []; safe = k; bag = n; attribute = m }

abbrev pub also_safe : Safe → SafesPicked → SafesPicked
also_safe x p = record { safes = x ∷ p.safes; safe = p.safe; bag = p.bag; attribute = p.attribute }

-- one safe, and the next bag and attribute rows
pub record SafePicked : Type 0 where
  pub safe : Safe
  pub bag : ℕ
  pub attribute : ℕ

abbrev pub contents_picked : Table → List ℕ → ℕ → ℕ → ℕ → Picked
contents_picked t s k n m = on_level levels (nothing n m) (λ l. bags_picked t s l k None n m)

abbrev pub safe_of : Table → List ℕ → SafeValue → ℕ → ℕ → ℕ → Option SafePicked
safe_of t s empty_safe k n m = option.none
safe_of t s plain_safe k n m =
    let p = contents_picked t s k n m in
    some (record { safe = plain p.bags; bag = p.bag; attribute = p.attribute })
safe_of t s (encrypted_safe x) k n m = some (record { safe = encrypted x; bag = n; attribute = m })

unfoldable pub safe_picked : Table → List ℕ → ℕ → ℕ → ℕ → Option SafePicked
safe_picked t s k n m = safe_of t s (safe_value t s k) k n m

abbrev pub on_safe : Option SafePicked → SafesPicked → (SafePicked → SafesPicked) → SafesPicked
on_safe option.none stop more = stop
on_safe (some p) stop more = more p

unfoldable pub safes_from : Table → List ℕ → ℕ → ℕ → ℕ → ℕ → SafesPicked
safes_from t s zero k n m = no_safes k n m
safes_from t s (suc f) k n m =
    on_safe (safe_picked t s k n m) (no_safes k n m)
    (λ p. also_safe p.safe (safes_from t s f (k + 1) p.bag p.attribute))

-- the safes from safe k, bag n and attribute m on
unfoldable pub safes_picked : Table → List ℕ → ℕ → ℕ → ℕ → SafesPicked
safes_picked t s k n m = safes_from t s (safe_end t - k) k n m
