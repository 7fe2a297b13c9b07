-- The rows of a reading and the reading of rows undo each other.
use mathlib.Core.Path.{◌≡◌, refl, ap}
use mathlib.Core.Bool.{Bool, true, false}
use mathlib.Core.List.{List, [], ◌∷◌, ◌++◌, append_assoc}
use mathlib.Core.Option.{Option, some}
use mathlib.Core.Option as option
use Prim.Native.Nat.{ℕ, zero, suc, ◌+◌, ◌≤◌, ◌<◌}
use native.Mathlib.Omega.{arith}
use lib.Dec.{eqb}
use lib.ListN.{length, length-append}
use borrow.Author.Tests.{eqb-true, eq-eqb, ne_eqb}
use Rattle.std.specs.Prelude.{if◌then◌else◌}
use Rattle.der.proofs.Choices.{by_test, by_eq}
use Rattle.pkcs12.specs.Syntax.{Leaf, Attribute, Set, absent, present, Bags, none, bag, nest, Safe, plain}
use Rattle.pkcs12.specs.Syntax.{encrypted, Pfx}
use Rattle.pkcs12.specs.Valid.{bags_in, bags_in_safe, ValidBags, ValidSafes}
use Rattle.pkcs12.specs.Values.{SafeValue, empty_safe, plain_safe, encrypted_safe, Content, empty_bag, leaf}
use Rattle.pkcs12.specs.Values.{nested, BagValue, AttributeValue, Values, stands, bag_value, bag_values}
use Rattle.pkcs12.specs.Values.{own_values, set_values, attribute_values, safe_value, safe_values, bags_of_safe}
use Rattle.pkcs12.specs.Values.{attributes_of_safe, bags_of_safes, attributes_of_safes, rows_of, same_enclosing, own_of}
use Rattle.pkcs12.specs.Values.{past_own, set_of, past_set, Taken, nothing, before, on_content, on_level, bags_from}
use Rattle.pkcs12.specs.Values.{also_safe, contents_from, safes_from, with_mac, tree_of}
use Rattle.std.specs.Prelude.{None, Option as Maybe, Some}

-- ---- rows that were taken are the rows of what they show

-- equal by the test is equal
same_enclosing_lem : (x y : Maybe ℕ) → same_enclosing x y ≡ true → x ≡ y
same_enclosing_lem None None h = refl
same_enclosing_lem None (Some m) h = cc
same_enclosing_lem (Some n) None h = cc
same_enclosing_lem (Some n) (Some m) h = ap Some (eqb-true n m h)

-- the front rows that name bag n are the rows of its attributes
own_split : (n : ℕ) (rs : List AttributeValue) → rs ≡ own_values n (own_of n rs) ++ past_own n rs
unfolding own_values own_of past_own
own_split n [] = refl
own_split n (r ∷ rs) = go (eqb r.bag n) (eqb-true r.bag n) (own_split n rs)
  where
    go : (t : Bool) → (t ≡ true → r.bag ≡ n) → rs ≡ own_values n (own_of n rs) ++ past_own n rs
        → r ∷ rs ≡ own_values n (if t then r.attribute ∷ own_of n rs else []) ++ (if t then past_own n rs else r ∷ rs)
    go true h e = cc (ap {B = AttributeValue} (λ (b : ℕ). record { bag = b; attribute = r.attribute }) (h refl))
    go false h e = refl

-- likewise of its set, which is present exactly if t says so
set_split : (t : Bool) (n : ℕ) (rs : List AttributeValue) → (rs ≡ set_values n (set_of t n rs) ++ past_set t n rs) × (stands (set_of t n rs) ≡ t)
set_split true n rs = (own_split n rs, refl)
set_split false n rs = (refl, refl)

-- what was taken and what is left are together what there was
record Split (k : ℕ) (e : Maybe ℕ) (n : ℕ) (rows : List BagValue) (rest : List AttributeValue) (t : Taken) : Type 0 where
  bag_rows_lem : rows ≡ bag_values k e n t.bags ++ t.rows
  attribute_rows_lem : rest ≡ attribute_values n t.bags ++ t.rest
  counted : t.next ≡ n + bags_in t.bags

module _ (k : ℕ) (e : Maybe ℕ) (n : ℕ) (rest : List AttributeValue) where
  -- nothing was taken
  split_nothing : (rows : List BagValue) → Split k e n rows rest (nothing n rows rest)
  unfolding bag_values attribute_values bags_in
  split_nothing rows = record { bag_rows_lem = refl; attribute_rows_lem = refl; counted = omega arith }

  module _ (r : BagValue) (rs : List BagValue) (p : r.safe ≡ k) (q : r.enclosing ≡ e) where
    -- a row is what its fields say
    row : (x : Content) (from : List AttributeValue) → r.content ≡ x → r ≡ bag_value k e x (set_of r.has_set n from)
    row x from h = rw ((set_split r.has_set n from).1, ← p, ← q, ← h)

    -- one bag more was taken, without and with bags in it
    split_leaf : (x : Leaf) (t : Taken) → r.content ≡ leaf x → Split k e (n + 1) rs (past_set r.has_set n rest) t
        → Split k e n (r ∷ rs) rest (before (bag x (set_of r.has_set n rest)) t)
    unfolding bag_values attribute_values bags_in
    split_leaf x t h s =
        record { bag_rows_lem = cc (row (leaf x) rest h); attribute_rows_lem = rw append_assoc (cc (set_split r.has_set n rest).0); counted = omega arith }

    split_nest : (t u : Taken) → r.content ≡ nested → Split k (Some n) (n + 1) rs rest t
        → Split k e t.next t.rows (past_set r.has_set n t.rest) u
        → Split k e n (r ∷ rs) rest (before (nest t.bags (set_of r.has_set n t.rest)) u)
    unfolding bag_values attribute_values bags_in
    split_nest t u h s w =
        let a = (set_split r.has_set n t.rest).0 in
        record { bag_rows_lem = simp append_assoc (cc (row nested t.rest h)); attribute_rows_lem = simp append_assoc (cc); counted = omega arith }

-- what holds of each answer holds of the one that is chosen
module _ {A : Type 0} (P : A → Type 0) (a : A) where
  by_content : (x : Content) (single : Leaf → A) (nests : A) → P a → ((y : Leaf) → x ≡ leaf y → P (single y)) → (x ≡ nested → P nests)
      → P (on_content x a single nests)
  by_content empty_bag single nests p q r = p
  by_content (leaf y) single nests p q r = q y refl
  by_content nested single nests p q r = r refl

  by_level : (l : ℕ) (below : ℕ → A) → P a → ((m : ℕ) → P (below m)) → P (on_level l a below)
  by_level zero below p q = p
  by_level (suc l) below p q = q l

-- so it is with all that is taken
split_from : (f l k : ℕ) (e : Maybe ℕ) (n : ℕ) (rows : List BagValue) (rest : List AttributeValue)
    → Split k e n rows rest (bags_from f l k e n rows rest)
unfolding bags_from
split_from zero l k e n rows rest = split_nothing k e n rest rows
split_from (suc f) l k e n [] rest = split_nothing k e n rest []
split_from (suc f) l k e n (r ∷ rs) rest =
    by_eq (Split k e n (r ∷ rs) rest) _ _ r.safe k
    (λ p. by_test (Split k e n (r ∷ rs) rest) _ _ (same_enclosing r.enclosing e)
    (λ q. by_content (Split k e n (r ∷ rs) rest) _ r.content _ _ (split_nothing k e n rest (r ∷ rs))
    (λ x h. split_leaf k e n rest r rs p (same_enclosing_lem _ _ q) x _ h (split_from f l k e (n + 1) rs (past_set r.has_set n rest)))
    (λ h. by_level (Split k e n (r ∷ rs) rest) _ l _ (split_nothing k e n rest (r ∷ rs))
    (λ m. split_nest k e n rest r rs p (same_enclosing_lem _ _ q) _ _ h (split_from f m k (Some n) (n + 1) rs rest) (split_from f l k e _ _ _))))
    (λ q. split_nothing k e n rest (r ∷ rs))) (λ p. split_nothing k e n rest (r ∷ rs))

-- safes that are the reading of rows
record Shown (k n : ℕ) (xs : List SafeValue) (rows : List BagValue) (rest : List AttributeValue) (ys : List Safe) : Type 0 where
  safe_rows_lem : safe_values ys ≡ xs
  bag_rows_lem : bags_of_safes k n ys ≡ rows
  attribute_rows_lem : attributes_of_safes n ys ≡ rest

-- a fact of an answer, if there is one
abbrev IfAny : {A : Type 0} → (A → Type 0) → Option A → Type 0
IfAny P option.none = Unit {0}
IfAny P (some x) = P x

-- one safe more, with its rows in front
also_shown : (k n m : ℕ) (x : Safe) (xs : List SafeValue) (rows later : List BagValue) (rest past : List AttributeValue) (o : Option (List Safe))
    → m ≡ n + bags_in_safe x → rows ≡ bags_of_safe k n x ++ later → rest ≡ attributes_of_safe n x ++ past
    → IfAny (Shown (k + 1) m xs later past) o → IfAny (Shown k n (safe_value x ∷ xs) rows rest) (also_safe x o)
unfolding safe_values bags_of_safes attributes_of_safes
also_shown k n m x xs rows later rest past option.none c p q h = tt
also_shown k n m x xs rows later rest past (some ys) c p q h = record { safe_rows_lem = cc; bag_rows_lem = cc; attribute_rows_lem = cc }

-- the safes that are read from rows are their reading
safes_shown : (k n : ℕ) (xs : List SafeValue) (rows : List BagValue) (rest : List AttributeValue)
    → IfAny (Shown k n xs rows rest) (safes_from k n xs rows rest)
unfolding safes_from safe_values bags_of_safes attributes_of_safes
safes_shown k n [] [] [] = record { safe_rows_lem = refl; bag_rows_lem = refl; attribute_rows_lem = refl }
safes_shown k n [] [] (a ∷ rest) = tt
safes_shown k n [] (r ∷ rows) rest = tt
safes_shown k n (empty_safe ∷ xs) rows rest = tt
safes_shown k n (plain_safe ∷ xs) rows rest =
    let t : Taken = contents_from k n rows rest in
    let s : Split k None n rows rest t = split_from (length rows) _ k None n rows rest in
    also_shown k n t.next (plain t.bags) xs rows t.rows rest t.rest (safes_from (k + 1) t.next xs t.rows t.rest)
    s.counted s.bag_rows_lem s.attribute_rows_lem (safes_shown (k + 1) t.next xs t.rows t.rest)
safes_shown k n (encrypted_safe x ∷ xs) rows rest =
    also_shown k n n (encrypted x) xs rows rows rest rest (safes_from (k + 1) n xs rows rest) (omega arith) refl refl (safes_shown (k + 1) n xs rows rest)

-- rows that show a reading are that reading's rows
pub tree_rows : (v : Values) (x : Pfx) → tree_of v ≡ some x → rows_of x ≡ v
unfolding tree_of rows_of
tree_rows v x h = go (safes_from 0 0 v.safes v.bags v.attributes) (safes_shown 0 0 v.safes v.bags v.attributes) h
  where
    go : (o : Option (List Safe)) → IfAny (Shown 0 0 v.safes v.bags v.attributes) o → with_mac v.mac o ≡ some x → rows_of x ≡ v
    go option.none s e = cc
    go (some ys) s e = let p : record { safes = ys; mac = v.mac } ≡ x = cc in rw (← p, s.safe_rows_lem, s.bag_rows_lem, s.attribute_rows_lem)

-- ---- the rows of a reading are taken as that reading

-- a fact of the first of a list, if there is one
abbrev First : {A : Type 0} → (A → Type 0) → List A → Type 0
First P [] = Unit {0}
First P (x ∷ xs) = P x

-- what follows from it, for any first
first_also : {A : Type 0} (P Q : A → Type 0) (xs : List A) → ((x : A) → P x → Q x) → First P xs → First Q xs
first_also P Q [] h p = tt
first_also P Q (x ∷ xs) h p = h x p

-- the first row of bags and of what follows them
first_bag : (P : BagValue → Type 0) (k : ℕ) (e : Maybe ℕ) (n : ℕ) (x : Bags) (rows : List BagValue)
    → ((y : Content) (set : Set) → P (bag_value k e y set)) → First P rows → First P (bag_values k e n x ++ rows)
unfolding bag_values
first_bag P k e n none rows h p = p
first_bag P k e n (bag x set xs) rows h p = h (leaf x) set
first_bag P k e n (nest inner set xs) rows h p = h nested set

-- the first attribute row, if there is one, names a bag below a or one not below b
abbrev Outside : ℕ → ℕ → List AttributeValue → Type 0
Outside a b = First (λ r. a ≤ r.bag → b ≤ r.bag)

-- so it is for any a and b between these
narrower : (a b c d : ℕ) (rest : List AttributeValue) → c ≤ a → b ≤ d → Outside c d rest → Outside a b rest
narrower a b c d rest h k = first_also _ _ rest (λ r p l. omega (arith, p (omega arith)))

-- so it is with attributes of bag n in front, and of bags from n on
outside_own : (a b n : ℕ) (set : Set) (rest : List AttributeValue) → (a ≤ n → b ≤ n) → Outside a b rest → Outside a b (set_values n set ++ rest)
unfolding own_values
outside_own a b n absent rest h p = p
outside_own a b n (present []) rest h p = p
outside_own a b n (present (x ∷ xs)) rest h p = h

outside_bags : (a b n : ℕ) (x : Bags) (rest : List AttributeValue) → b ≤ n → Outside a b rest → Outside a b (attribute_values n x ++ rest)
unfolding attribute_values
outside_bags a b n none rest h p = p
outside_bags a b n (bag x set xs) rest h p =
    rw append_assoc (outside_own a b n set _ (λ l. h) (outside_bags a b (n + 1) xs rest (omega arith) p))
outside_bags a b n (nest inner set xs) rest h p =
    simp append_assoc (outside_bags a b (n + 1) inner (set_values n set ++ (attribute_values (n + 1 + bags_in inner) xs ++ rest)) (omega arith)
    (outside_own a b n set _ (λ l. h) (outside_bags a b (n + 1 + bags_in inner) xs rest (omega arith) p)))

-- a bag's own attributes are taken, and no more
own_taken : (n : ℕ) (xs : List Attribute) (rest : List AttributeValue) → Outside n (n + 1) rest
    → (own_of n (own_values n xs ++ rest) ≡ xs) × (past_own n (own_values n xs ++ rest) ≡ rest)
unfolding own_values own_of past_own
own_taken n [] [] h = (refl, refl)
own_taken n [] (r ∷ rest) h = let e = ne_eqb r.bag n (λ e. omega (arith, h (omega arith))) in (rw e, rw e)
own_taken n (a ∷ xs) rest h = let t = own_taken n xs rest h in (rw (eq-eqb n n refl, t.0), rw (eq-eqb n n refl, t.1))

-- likewise its set
set_taken : (n : ℕ) (set : Set) (rest : List AttributeValue) → Outside n (n + 1) rest
    → (set_of (stands set) n (set_values n set ++ rest) ≡ set) × (past_set (stands set) n (set_values n set ++ rest) ≡ rest)
set_taken n absent rest h = (refl, refl)
set_taken n (present xs) rest h = let t = own_taken n xs rest h in (ap present t.0, t.1)

-- the enclosing bags in order, none first
abbrev rank : Maybe ℕ → ℕ
rank None = 0
rank (Some n) = n + 1

-- equal is equal by the test
enclosing_same : (e : Maybe ℕ) → same_enclosing e e ≡ true
enclosing_same None = refl
enclosing_same (Some n) = eq-eqb n n refl

-- the first row, if there is one, is in another safe or in an enclosing bag before e
abbrev Behind : ℕ → Maybe ℕ → List BagValue → Type 0
Behind k e = First (λ r. r.safe ≡ k → rank r.enclosing < rank e)

-- it isn't taken
stops : (f l k : ℕ) (e : Maybe ℕ) (n : ℕ) (rows : List BagValue) (rest : List AttributeValue) → Behind k e rows
    → bags_from f l k e n rows rest ≡ nothing n rows rest
unfolding bags_from
stops zero l k e n rows rest h = refl
stops (suc f) l k e n [] rest h = refl
stops (suc f) l k e n (r ∷ rs) rest h =
    by_eq (λ t. t ≡ nothing n (r ∷ rs) rest) _ _ r.safe k
    (λ p. by_test (λ t. t ≡ nothing n (r ∷ rs) rest) _ _ (same_enclosing r.enclosing e)
    (λ q. absurd (omega (arith, h p, ap rank (same_enclosing_lem r.enclosing e q)))) (λ q. refl)) (λ p. refl)

-- one bag is taken, without and with bags in it, and then what is taken behind it
leaf_taken : (f l k : ℕ) (e : Maybe ℕ) (n : ℕ) (x : Leaf) (set : Set) (rows : List BagValue) (rest : List AttributeValue) (t : Taken)
    → Outside n (n + 1) rest → bags_from f l k e (n + 1) rows rest ≡ t
    → bags_from (suc f) l k e n (bag_value k e (leaf x) set ∷ rows) (set_values n set ++ rest) ≡ before (bag x set) t
unfolding bags_from
leaf_taken f l k e n x set rows rest t h p = let s = set_taken n set rest h in rw (eq-eqb k k refl, enclosing_same e, s.0, s.1, p)

nest_taken : (f l k : ℕ) (e : Maybe ℕ) (n : ℕ) (x : Bags) (set : Set) (m : ℕ) (rows later : List BagValue) (rest past : List AttributeValue) (t : Taken)
    → bags_from f l k (Some n) (n + 1) rows rest ≡ record { bags = x; next = m; rows = later; rest = set_values n set ++ past }
    → Outside n (n + 1) past → bags_from f (suc l) k e m later past ≡ t
    → bags_from (suc f) (suc l) k e n (bag_value k e nested set ∷ rows) rest ≡ before (nest x set) t
unfolding bags_from
nest_taken f l k e n x set m rows later rest past t q h p = let s = set_taken n set past h in rw (eq-eqb k k refl, enclosing_same e, q, s.0, s.1, p)

-- bags whose rows are in front are taken, and no more
bags_taken : (f l k : ℕ) (e : Maybe ℕ) (n : ℕ) (x : Bags) (rows : List BagValue) (rest : List AttributeValue)
    → ValidBags l x → length (bag_values k e n x ++ rows) ≤ f → rank e ≤ n → Behind k e rows → Outside n (n + bags_in x) rest
    → bags_from f l k e n (bag_values k e n x ++ rows) (attribute_values n x ++ rest) ≡ record { bags = x; next = n + bags_in x; rows = rows; rest = rest }
unfolding ValidBags bag_values attribute_values bags_in
bags_taken f l k e n none rows rest v z b p q = let c : n + 0 ≡ n = omega arith in rw c (stops f l k e n rows rest p)
bags_taken zero l k e n (bag x set xs) rows rest v z b p q = absurd (omega arith)
bags_taken (suc f) l k e n (bag x set xs) rows rest v z b p q =
    let c : n + (1 + bags_in xs) ≡ n + 1 + bags_in xs = omega arith in
    rw (c, append_assoc) (leaf_taken f l k e n x set _ _ _
    (outside_bags n (n + 1) (n + 1) xs rest (omega arith) (narrower _ _ _ _ rest (omega arith) (omega arith) q))
    (bags_taken f l k e (n + 1) xs rows rest v.2 (omega arith) (omega arith) p (narrower _ _ _ _ rest (omega arith) (omega arith) q)))
bags_taken zero l k e n (nest inner set xs) rows rest v z b p q = absurd (omega arith)
bags_taken (suc f) zero k e n (nest inner set xs) rows rest v z b p q = absurd v
bags_taken (suc f) (suc l) k e n (nest inner set xs) rows rest v z b p q =
    let m : ℕ = n + 1 + bags_in inner in
    let c : n + (1 + (bags_in inner + bags_in xs)) ≡ m + bags_in xs = omega arith in
    let d : _ ≤ _ = simp length-append at z in
    rw c (simp append_assoc (nest_taken f l k e n inner set m _ _ _ _ _
    (bags_taken f l k (Some n) (n + 1) inner (bag_values k e m xs ++ rows) (set_values n set ++ (attribute_values m xs ++ rest)) v.0
    (simp length-append (omega arith)) (omega arith)
    (first_bag (λ r. r.safe ≡ k → rank r.enclosing < n + 1) k e m xs rows (λ y s h. omega arith) (first_also _ _ rows (λ r h i. omega (arith, h i)) p))
    (outside_own (n + 1) m n set _ (λ i. omega arith) (outside_bags (n + 1) m m xs rest (omega arith) (narrower _ _ _ _ rest (omega arith) (omega arith) q))))
    (outside_bags n (n + 1) m xs rest (omega arith) (narrower _ _ _ _ rest (omega arith) (omega arith) q))
    (bags_taken f (suc l) k e m xs rows rest v.2 (simp length-append (omega arith)) (omega arith) p
    (narrower _ _ _ _ rest (omega arith) (omega arith) q))))

-- the rows of the safes from safe k and bag n on name no safe below k
first_safe : (P : BagValue → Type 0) (k n : ℕ) (xs : List Safe) → ((r : BagValue) → k ≤ r.safe → P r) → First P (bags_of_safes k n xs)
unfolding bags_of_safes
first_safe P k n [] h = tt
first_safe P k n (plain x ∷ xs) h =
    first_bag P k None n x _ (λ y s. h _ (omega arith)) (first_safe P (k + 1) (n + bags_in x) xs (λ r i. h r (omega arith)))
first_safe P k n (encrypted x ∷ xs) h = first_safe P (k + 1) (n + 0) xs (λ r i. h r (omega arith))

-- and no bag below n
outside_safes : (a b n : ℕ) (xs : List Safe) → b ≤ n → Outside a b (attributes_of_safes n xs)
unfolding attributes_of_safes
outside_safes a b n [] h = tt
outside_safes a b n (plain x ∷ xs) h = outside_bags a b n x _ h (outside_safes a b (n + bags_in x) xs (omega arith))
outside_safes a b n (encrypted x ∷ xs) h = outside_safes a b (n + 0) xs (omega arith)

-- safes are read back from their rows
safes_taken : (k n : ℕ) (xs : List Safe) → ValidSafes xs
    → safes_from k n (safe_values xs) (bags_of_safes k n xs) (attributes_of_safes n xs) ≡ some xs
unfolding ValidSafes safes_from safe_values bags_of_safes attributes_of_safes
safes_taken k n [] v = refl
safes_taken k n (plain x ∷ xs) v =
    let m : ℕ = n + bags_in x in
    let rows : List BagValue = bags_of_safes (k + 1) m xs in
    rw (
      bags_taken (length (bag_values k None n x ++ rows)) _ k None n x rows (attributes_of_safes m xs) v.0 (omega arith) (omega arith)
          (first_safe _ (k + 1) m xs (λ r h i. absurd (omega arith))) (outside_safes n m m xs (omega arith)),
      safes_taken (k + 1) m xs v.1,
    )
safes_taken k n (encrypted x ∷ xs) v = let c : n + 0 ≡ n = omega arith in rw (c, safes_taken (k + 1) n xs v.1)

-- a reading's rows are read back as it
pub rows_tree : (x : Pfx) → ValidSafes x.safes → tree_of (rows_of x) ≡ some x
unfolding tree_of rows_of
rows_tree x v = rw (safes_taken 0 0 x.safes v)
