-- A reading as rows by value, in the order in which a table has them (Rules 4.1 to 4.4), and back.
use Rattle.std.specs.Prelude.{Bool, true, false, List, [], ◌∷◌, ◌++◌, ℕ, zero, suc, ◌+◌, eqb, length}
use Rattle.std.proofs.Math.Option.{Option, some}
use Rattle.std.proofs.Math.Option as option
use Rattle.std.specs.Prelude.{if◌then◌else◌}
use Rattle.pkcs12.specs.Numbers.{levels}
use Rattle.pkcs12.specs.Syntax.{Sealed, Leaf, Attribute, Set, absent, present, Bags, none, bag, nest, Safe}
use Rattle.pkcs12.specs.Syntax.{plain, encrypted, MacData, Pfx}
use Rattle.pkcs12.specs.Valid.{bags_in, bags_in_safe}
use Rattle.std.specs.Prelude.{None, Option as Maybe, Some}

-- what a safe row shows; `empty_safe` is no safe
pub data SafeValue : Type 0 where
  empty_safe : SafeValue
  plain_safe : SafeValue
  encrypted_safe : Sealed → SafeValue

-- what a bag row shows of its content; `empty_bag` is no bag
pub data Content : Type 0 where
  empty_bag : Content
  leaf : Leaf → Content
  nested : Content

-- Rule 4.3: a bag row names its safe, and its enclosing bag or none
pub record BagValue : Type 0 where
  pub safe : ℕ
  pub enclosing : Maybe ℕ
  pub content : Content
  pub has_set : Bool

-- Rule 4.4: an attribute row names its bag
pub record AttributeValue : Type 0 where
  pub bag : ℕ
  pub attribute : Attribute

pub record Values : Type 0 where
  pub safes : List SafeValue
  pub bags : List BagValue
  pub attributes : List AttributeValue
  pub mac : MacData

-- ---- the rows of a reading

abbrev pub stands : Set → Bool
stands absent = false
stands (present xs) = true

abbrev pub bag_value : ℕ → Maybe ℕ → Content → Set → BagValue
bag_value k e x set = record { safe = k; enclosing = e; content = x; has_set = stands set }

-- Rule 4.3: in the order of their first bytes; the bags in safe k and enclosing bag e, the first of
-- which is row n
unfoldable pub bag_values : ℕ → Maybe ℕ → ℕ → Bags → List BagValue
bag_values k e n none = []
bag_values k e n (bag x set xs) = bag_value k e (leaf x) set ∷ bag_values k e (n + 1) xs
bag_values k e n (nest inner set xs) =
    bag_value k e nested set ∷ (bag_values k (Some n) (n + 1) inner ++ bag_values k e (n + 1 + bags_in inner) xs)

-- the attributes of bag n
unfoldable pub own_values : ℕ → List Attribute → List AttributeValue
own_values n [] = []
own_values n (a ∷ xs) = record { bag = n; attribute = a } ∷ own_values n xs

abbrev pub set_values : ℕ → Set → List AttributeValue
set_values n absent = []
set_values n (present xs) = own_values n xs

-- Rule 4.4: in the order of the file, those of the bags in a nested bag before its own
unfoldable pub attribute_values : ℕ → Bags → List AttributeValue
attribute_values n none = []
attribute_values n (bag x set xs) = set_values n set ++ attribute_values (n + 1) xs
attribute_values n (nest inner set xs) =
    attribute_values (n + 1) inner ++ (set_values n set ++ attribute_values (n + 1 + bags_in inner) xs)

abbrev pub safe_value : Safe → SafeValue
safe_value (plain xs) = plain_safe
safe_value (encrypted x) = encrypted_safe x

unfoldable pub safe_values : List Safe → List SafeValue
safe_values [] = []
safe_values (x ∷ xs) = safe_value x ∷ safe_values xs

abbrev pub bags_of_safe : ℕ → ℕ → Safe → List BagValue
bags_of_safe k n (plain xs) = bag_values k None n xs
bags_of_safe k n (encrypted x) = []

abbrev pub attributes_of_safe : ℕ → Safe → List AttributeValue
attributes_of_safe n (plain xs) = attribute_values n xs
attributes_of_safe n (encrypted x) = []

-- the bags and attributes of the safes from safe k and bag n on
unfoldable pub bags_of_safes : ℕ → ℕ → List Safe → List BagValue
bags_of_safes k n [] = []
bags_of_safes k n (x ∷ xs) = bags_of_safe k n x ++ bags_of_safes (k + 1) (n + bags_in_safe x) xs

unfoldable pub attributes_of_safes : ℕ → List Safe → List AttributeValue
attributes_of_safes n [] = []
attributes_of_safes n (x ∷ xs) = attributes_of_safe n x ++ attributes_of_safes (n + bags_in_safe x) xs

unfoldable pub rows_of : Pfx → Values
rows_of x =
    record { safes = safe_values x.safes; bags = bags_of_safes 0 0 x.safes; attributes = attributes_of_safes 0 x.safes; mac = x.mac }

-- ---- the reading of rows: they are taken in order, each where it belongs, and what belongs
-- nowhere is left

abbrev pub same_enclosing : Maybe ℕ → Maybe ℕ → Bool
same_enclosing None None = true
same_enclosing None (Some m) = false
same_enclosing (Some n) None = false
same_enclosing (Some n) (Some m) = eqb n m

-- the attributes at the front that name bag n, and what is behind them
unfoldable pub own_of : ℕ → List AttributeValue → List Attribute
own_of n [] = []
own_of n (r ∷ rs) = if eqb r.bag n then r.attribute ∷ own_of n rs else []

unfoldable pub past_own : ℕ → List AttributeValue → List AttributeValue
past_own n [] = []
past_own n (r ∷ rs) = if eqb r.bag n then past_own n rs else r ∷ rs

-- Rule 6.4: attributes name only bags with a set
abbrev pub set_of : Bool → ℕ → List AttributeValue → Set
set_of true n rs = present (own_of n rs)
set_of false n rs = absent

abbrev pub past_set : Bool → ℕ → List AttributeValue → List AttributeValue
past_set true n rs = past_own n rs
past_set false n rs = rs

-- the bags that were taken, the number of the next row, and the rows that are left
pub record Taken : Type 0 where
  pub bags : Bags
  pub next : ℕ
  pub rows : List BagValue
  pub rest : List AttributeValue

abbrev pub nothing : ℕ → List BagValue → List AttributeValue → Taken
nothing n rows rest = record { bags = none; next = n; rows = rows; rest = rest }

abbrev pub before : (Bags → Bags) → Taken → Taken
before f t = record { bags = f t.bags; next = t.next; rows = t.rows; rest = t.rest }

abbrev pub on_content : {A : Type 0} → Content → A → (Leaf → A) → A → A
on_content empty_bag empty single nests = empty
on_content (leaf x) empty single nests = single x
on_content nested empty single nests = nests

-- one level below, if one is left
abbrev pub on_level : {A : Type 0} → ℕ → A → (ℕ → A) → A
on_level zero no-level below = no-level
on_level (suc l) no-level below = below l

-- The bags at the front that are in safe k and enclosing bag e, the first of which is row n, with
-- all that they enclose; l levels are left below them. The first argument bounds the number of
-- rows.
unfoldable pub bags_from : ℕ → ℕ → ℕ → Maybe ℕ → ℕ → List BagValue → List AttributeValue → Taken
bags_from zero l k e n rows rest = nothing n rows rest
bags_from (suc f) l k e n [] rest = nothing n [] rest
bags_from (suc f) l k e n (r ∷ rs) rest =
    if eqb r.safe k then
    (if same_enclosing r.enclosing e then
    on_content r.content
    (nothing n (r ∷ rs) rest)
    (λ x. before (bag x (set_of r.has_set n rest)) (bags_from f l k e (n + 1) rs (past_set r.has_set n rest)))
    (on_level l
    (nothing n (r ∷ rs) rest)
    (λ below.
    let t = bags_from f below k (Some n) (n + 1) rs rest in
    before (nest t.bags (set_of r.has_set n t.rest)) (bags_from f l k e t.next t.rows (past_set r.has_set n t.rest)))) else
    nothing n (r ∷ rs) rest) else
    nothing n (r ∷ rs) rest

abbrev pub also_safe : Safe → Option (List Safe) → Option (List Safe)
also_safe x option.none = option.none
also_safe x (some xs) = some (x ∷ xs)

-- the bags of one plain safe
abbrev pub contents_from : ℕ → ℕ → List BagValue → List AttributeValue → Taken
contents_from k n rows rest = on_level levels (nothing n rows rest) (λ l. bags_from (length rows) l k None n rows rest)

-- the safes from safe k and bag n on; every row must be taken
unfoldable pub safes_from : ℕ → ℕ → List SafeValue → List BagValue → List AttributeValue → Option (List Safe)
safes_from k n [] [] [] = some []
safes_from k n [] [] (a ∷ rest) = option.none
safes_from k n [] (r ∷ rows) rest = option.none
safes_from k n (empty_safe ∷ xs) rows rest = option.none
safes_from k n (plain_safe ∷ xs) rows rest =
    let t = contents_from k n rows rest in
    also_safe (plain t.bags) (safes_from (k + 1) t.next xs t.rows t.rest)
safes_from k n (encrypted_safe x ∷ xs) rows rest = also_safe (encrypted x) (safes_from (k + 1) n xs rows rest)

abbrev pub with_mac : MacData → Option (List Safe) → Option Pfx
with_mac m option.none = option.none
with_mac m (some xs) = some (record { safes = xs; mac = m })

-- the reading that rows show, if they are in the order that a reading has
unfoldable pub tree_of : Values → Option Pfx
tree_of v = with_mac v.mac (safes_from 0 0 v.safes v.bags v.attributes)
