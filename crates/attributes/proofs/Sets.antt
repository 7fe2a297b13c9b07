-- The attributes of one bag among the rows of a reading: those of the bag's set, in order. The bags
-- of a reading are numbered as its bag rows.
use mathlib.Core.Path.{◌≡◌, refl, sym, ap, ◌∙◌}
use mathlib.Core.Bool.{Bool, true, false}
use mathlib.Core.List.{List, [], ◌∷◌, ◌++◌, append-nil, map}
use Prim.Native.Nat.{ℕ, zero, suc, ◌+◌, ◌-◌, ◌≤◌, ◌<◌}
use native.Mathlib.Omega.{arith}
use lib.Dec.{eqb}
use lib.ListN.{length, get_or, length-append, get_or-append}
use lib.Seq.{get_or-append-add}
use borrow.Author.Tests.{eq-eqb, ne_eqb}
use Rattle.std.specs.Prelude.{if◌then◌else◌}
use Rattle.der.proofs.Choices.{by_lt}
use Rattle.pkcs12.specs.Syntax.{Attribute, Set, absent, present, Bags, none, bag, nest, Safe, plain, encrypted}
use Rattle.pkcs12.specs.Valid.{bags_in, bags_in_safe, bags_in_safes}
use Rattle.pkcs12.specs.Values.{BagValue, AttributeValue, stands, bag_values, own_values, set_values, attribute_values}
use Rattle.pkcs12.specs.Values.{bags_of_safe, attributes_of_safe, bags_of_safes, attributes_of_safes}
use Rattle.pkcs12.specs.Table.{attribute_shown}
use Rattle.std.specs.Prelude.{None, Option, Some}
use Rattle.pkcs12.specs.declared.row.AttributeRow.{AttributeRow}
use Rattle.attributes.specs.Reader.{names}
use Rattle.attributes.specs.Own.{own_rows, own_in, set_in, set_in_safe, set_in_safes, listed}

-- a function of a choice is a choice
of_choice : {A B : Type 0} (f : A → B) (u : Bool) (x y : A) → f (if u then x else y) ≡ (if u then f x else f y)
of_choice f true x y = refl
of_choice f false x y = refl

-- ---- rows by value that name a bag

-- the attribute that a row shows
abbrev pub shown_by : List ℕ → AttributeRow → Attribute
shown_by s r = (attribute_shown s r).attribute

-- their attributes are what the rows of a table that name it show
pub shown_own : (s : List ℕ) (n : ℕ) (rs : List AttributeRow)
    → map (shown_by s) (own_rows n rs) ≡ own_in n (map (attribute_shown s) rs)
unfolding own_rows own_in
shown_own s n [] = refl
shown_own s n (r ∷ rs) = of_choice (map (shown_by s)) (names n r) _ _ ∙ rw (shown_own s n rs)

own_append : (n : ℕ) (xs ys : List AttributeValue) → own_in n (xs ++ ys) ≡ own_in n xs ++ own_in n ys
unfolding own_in
own_append n [] ys = refl
own_append n (r ∷ xs) ys = rw (own_append n xs ys) (sym (of_choice (λ l. l ++ own_in n ys) (eqb r.bag n) _ _))

-- a bag's own set has them all, and another's none
own_same : (n m : ℕ) (set : Set) → m ≡ n → own_in n (set_values m set) ≡ listed set
unfolding own_in own_values
own_same n m absent e = refl
own_same n m (present []) e = refl
own_same n m (present (x ∷ xs)) e = rw (eq-eqb m n e, own_same n m (present xs) e)

own_other : (n m : ℕ) (set : Set) → (m ≡ n → ⊥) → own_in n (set_values m set) ≡ []
unfolding own_in own_values
own_other n m absent h = refl
own_other n m (present []) h = refl
own_other n m (present (x ∷ xs)) h = rw (ne_eqb m n h, own_other n m (present xs) h)

-- ---- bags from bag m on

-- a bag that is none of them has no attribute there
outside_bags : (n m : ℕ) (x : Bags) → (m ≤ n → m + bags_in x ≤ n) → own_in n (attribute_values m x) ≡ []
unfolding attribute_values bags_in own_in
outside_bags n m none h = refl
outside_bags n m (bag x set xs) h =
    rw (
      own_append,
      own_other n m set (λ e. omega (arith, h (omega arith))),
      outside_bags n (m + 1) xs (λ l. omega (arith, h (omega arith))),
    )
outside_bags n m (nest inner set xs) h =
    rw (
      own_append,
      own_append,
      outside_bags n (m + 1) inner (λ l. omega (arith, h (omega arith))),
      own_other n m set (λ e. omega (arith, h (omega arith))),
      outside_bags n (m + 1 + bags_in inner) xs (λ l. omega (arith, h (omega arith))),
    )

-- bag j of them has those of its set
own_bags : (n m j : ℕ) (x : Bags) → n ≡ m + j → own_in n (attribute_values m x) ≡ listed (set_in j x)
unfolding attribute_values set_in own_in
own_bags n m j none e = refl
own_bags n m zero (bag x set xs) e =
    rw (own_append, own_same n m set (omega arith), outside_bags n (m + 1) xs (λ l. absurd (omega arith)))
    (append-nil (listed set))
own_bags n m (suc j) (bag x set xs) e =
    rw (own_append, own_other n m set (λ f. omega arith)) (own_bags n (m + 1) j xs (omega arith))
own_bags n m zero (nest inner set xs) e =
    rw (
      own_append,
      own_append,
      outside_bags n (m + 1) inner (λ l. absurd (omega arith)),
      own_same n m set (omega arith),
      outside_bags n (m + 1 + bags_in inner) xs (λ l. absurd (omega arith)),
    ) (append-nil (listed set))
own_bags n m (suc j) (nest inner set xs) e =
    rw (own_append, own_append, own_other n m set (λ f. omega arith))
    (by_lt (λ v. own_in n (attribute_values (m + 1) inner) ++ own_in n (attribute_values (m + 1 + bags_in inner) xs)
    ≡ listed v) _ _ j (bags_in inner)
    (λ h. rw (
      outside_bags n (m + 1 + bags_in inner) xs (λ l. absurd (omega arith)),
      own_bags n (m + 1) j inner (omega arith),
    ) (append-nil (listed (set_in j inner))))
    (λ h. rw (outside_bags n (m + 1) inner (λ l. omega arith))
    (own_bags n (m + 1 + bags_in inner) (j - bags_in inner) xs (omega arith))))

-- ---- safes from bag m on: likewise

outside_safe : (n m : ℕ) (x : Safe) → (m ≤ n → m + bags_in_safe x ≤ n) → own_in n (attributes_of_safe m x) ≡ []
unfolding own_in
outside_safe n m (plain xs) h = outside_bags n m xs h
outside_safe n m (encrypted x) h = refl

outside_safes : (n m : ℕ) (xs : List Safe) → n < m → own_in n (attributes_of_safes m xs) ≡ []
unfolding attributes_of_safes own_in
outside_safes n m [] h = refl
outside_safes n m (x ∷ xs) h = rw (own_append, outside_safe n m x (λ l. absurd (omega arith)))
    (outside_safes n (m + bags_in_safe x) xs (omega arith))

own_safe : (n m j : ℕ) (x : Safe) → n ≡ m + j → own_in n (attributes_of_safe m x) ≡ listed (set_in_safe j x)
unfolding own_in
own_safe n m j (plain xs) e = own_bags n m j xs e
own_safe n m j (encrypted x) e = refl

pub own_safes : (n m j : ℕ) (xs : List Safe) → n ≡ m + j → own_in n (attributes_of_safes m xs) ≡ listed (set_in_safes j xs)
unfolding attributes_of_safes set_in_safes own_in
own_safes n m j [] e = refl
own_safes n m j (x ∷ xs) e =
    rw own_append
    (by_lt (λ v. own_in n (attributes_of_safe m x) ++ own_in n (attributes_of_safes (m + bags_in_safe x) xs) ≡ listed v) _ _ j
    (bags_in_safe x)
    (λ h. rw (outside_safes n (m + bags_in_safe x) xs (omega arith), own_safe n m j x e)
    (append-nil (listed (set_in_safe j x))))
    (λ h. rw (outside_safe n m x (λ l. omega arith))
    (own_safes n (m + bags_in_safe x) (j - bags_in_safe x) xs (omega arith))))

-- ---- bag rows

-- row n of two lists, the first of which has m rows
at_first : {A : Type 0} (xs ys : List A) (d : A) (m n : ℕ) → length xs ≡ m → n < m → get_or (xs ++ ys) n d ≡ get_or xs n d
at_first xs ys d m n e h = get_or-append xs ys d n (omega arith)

at_second : {A : Type 0} (xs ys : List A) (d : A) (m n : ℕ) → length xs ≡ m → m ≤ n
    → get_or (xs ++ ys) n d ≡ get_or ys (n - m) d
at_second xs ys d m n e h =
    let k : n ≡ length xs + (n - m) = omega arith in
    ap (λ (i : ℕ). get_or (xs ++ ys) i d) k ∙ get_or-append-add xs ys (n - m) d

-- as many rows as bags
bags_long : (k : ℕ) (e : Option ℕ) (m : ℕ) (x : Bags) → length (bag_values k e m x) ≡ bags_in x
unfolding bag_values bags_in
bags_long k e m none = refl
bags_long k e m (bag x set xs) = omega (arith, bags_long k e (m + 1) xs)
bags_long k e m (nest inner set xs) =
    rw length-append (omega (arith, bags_long k (Some m) (m + 1) inner, bags_long k e (m + 1 + bags_in inner) xs))

safe_long : (k m : ℕ) (x : Safe) → length (bags_of_safe k m x) ≡ bags_in_safe x
safe_long k m (plain xs) = bags_long k None m xs
safe_long k m (encrypted x) = refl

pub safes_long : (k m : ℕ) (xs : List Safe) → length (bags_of_safes k m xs) ≡ bags_in_safes xs
unfolding bags_of_safes bags_in_safes
safes_long k m [] = refl
safes_long k m (x ∷ xs) = rw length-append (omega (arith, safe_long k m x, safes_long (k + 1) (m + bags_in_safe x) xs))

-- row n shows whether bag n has a set
bag_numbered : (k : ℕ) (e : Option ℕ) (m : ℕ) (x : Bags) (n : ℕ) (d : BagValue) → n < bags_in x
    → (get_or (bag_values k e m x) n d).has_set ≡ stands (set_in n x)
unfolding bag_values bags_in set_in
bag_numbered k e m none n d h = absurd (omega arith)
bag_numbered k e m (bag x set xs) zero d h = refl
bag_numbered k e m (bag x set xs) (suc n) d h = bag_numbered k e (m + 1) xs n d (omega arith)
bag_numbered k e m (nest inner set xs) zero d h = refl
bag_numbered k e m (nest inner set xs) (suc n) d h =
    let l : length (bag_values k (Some m) (m + 1) inner) ≡ bags_in inner = bags_long k (Some m) (m + 1) inner in
    by_lt (λ v. (get_or (bag_values k (Some m) (m + 1) inner ++ bag_values k e (m + 1 + bags_in inner) xs) n d).has_set
    ≡ stands v) _ _ n (bags_in inner)
    (λ i. rw (at_first _ (bag_values k e (m + 1 + bags_in inner) xs) d (bags_in inner) n l i)
    (bag_numbered k (Some m) (m + 1) inner n d i))
    (λ i. rw (at_second _ (bag_values k e (m + 1 + bags_in inner) xs) d (bags_in inner) n l i)
    (bag_numbered k e (m + 1 + bags_in inner) xs (n - bags_in inner) d (omega arith)))

safe_numbered : (k m : ℕ) (x : Safe) (n : ℕ) (d : BagValue) → n < bags_in_safe x
    → (get_or (bags_of_safe k m x) n d).has_set ≡ stands (set_in_safe n x)
safe_numbered k m (plain xs) n d h = bag_numbered k None m xs n d h
safe_numbered k m (encrypted x) n d h = absurd (omega arith)

safes_numbered : (k m : ℕ) (xs : List Safe) (n : ℕ) (d : BagValue) → n < bags_in_safes xs
    → (get_or (bags_of_safes k m xs) n d).has_set ≡ stands (set_in_safes n xs)
unfolding bags_of_safes bags_in_safes set_in_safes
safes_numbered k m [] n d h = absurd (omega arith)
safes_numbered k m (x ∷ xs) n d h =
    let l : length (bags_of_safe k m x) ≡ bags_in_safe x = safe_long k m x in
    by_lt (λ v. (get_or (bags_of_safe k m x ++ bags_of_safes (k + 1) (m + bags_in_safe x) xs) n d).has_set ≡ stands v) _ _ n
    (bags_in_safe x)
    (λ i. rw (at_first _ (bags_of_safes (k + 1) (m + bags_in_safe x) xs) d (bags_in_safe x) n l i)
    (safe_numbered k m x n d i))
    (λ i. rw (at_second _ (bags_of_safes (k + 1) (m + bags_in_safe x) xs) d (bags_in_safe x) n l i)
    (safes_numbered (k + 1) (m + bags_in_safe x) xs (n - bags_in_safe x) d (omega arith)))

pub bags_numbered_alike : (xs : List Safe) (n : ℕ) (d : BagValue) → n < length (bags_of_safes 0 0 xs)
    → (get_or (bags_of_safes 0 0 xs) n d).has_set ≡ stands (set_in_safes n xs)
bags_numbered_alike xs n d h = safes_numbered 0 0 xs n d (omega (arith, safes_long 0 0 xs))
