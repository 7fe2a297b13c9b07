-- The rows that are taken by number are the rows that the reading of a table takes.
use mathlib.Core.Path.{◌≡◌, refl, ap, ◌∙◌}
use mathlib.Core.Bool.{Bool, true, false}
use mathlib.Core.List.{List, [], ◌∷◌, map}
use mathlib.Core.Option.{Option, some}
use mathlib.Core.Option as option
use Prim.Native.Nat.{ℕ, zero, suc, ◌+◌, ◌-◌, ◌≤◌, ◌<◌}
use native.Mathlib.Omega.{arith}
use lib.Dec.{eqb}
use lib.ListN.{length, get_or, take, drop, length-map, length-drop, drop_of_length-le, get_or-map}
use lib.Seq.{length-take-le, drop-cons, get_or-take}
use borrow.Author.Tests.{lt-ltb, le-ltb, eq-eqb, ne_eqb}
use Rattle.std.specs.Prelude.{if◌then◌else◌}
use Rattle.der.specs.Choice.{both}
use Rattle.der.proofs.Choices.{by_test, by_lt, by_eq, either}
use Rattle.pkcs12.specs.Numbers.{safe_rows, bag_rows, attribute_rows}
use Rattle.pkcs12.specs.Syntax.{Leaf, present, Safe, plain, encrypted, MacData}
use Rattle.pkcs12.specs.Values.{SafeValue, empty_safe, plain_safe, encrypted_safe, Content, empty_bag, leaf, nested}
use Rattle.pkcs12.specs.Values.{same_enclosing, own_of, past_own, set_of, past_set, Taken, on_content, on_level, with_mac}
use Rattle.pkcs12.specs.Values.{tree_of}
use Rattle.pkcs12.specs.Values as values
use Rattle.pkcs12.specs.Table.{no_safe, no_bag, no_attribute, safe_shown, bag_shown, attribute_shown}
use Rattle.pkcs12.specs.Table.{mac_shown, rows_in, shown, values_of, reading_of}
use Rattle.std.specs.Prelude.{None, Option as Maybe, Some}
use Rattle.pkcs12.specs.declared.table.Table.{Table}
use Rattle.sizes.specs.Picked.{attribute_end, bag_end, safe_end, attribute_value, bag_value, safe_value}
use Rattle.sizes.specs.Picked.{OwnPicked}
use Rattle.sizes.specs.Picked.{own_from, own_picked, set_picked, Picked, nothing, bags_from, bags_picked}
use Rattle.sizes.specs.Picked.{SafesPicked, no_safes}
use Rattle.sizes.specs.Picked.{safe_picked, safes_picked, contents_picked}
use Rattle.sizes.proofs.Picks.{by_content, by_level, own_past, own_other, own_more}
use Rattle.sizes.proofs.Picks.{safes_past, safes_none, safes_more}

-- the counts are within the arrays, and these have their sizes
pub record CountsFit (t : Table) : Type 0 where
  pub safe_count : t.safe_count ≤ safe_rows
  pub bag_count : t.bag_count ≤ bag_rows
  pub attribute_count : t.attribute_count ≤ attribute_rows
  pub safe_length : length t.safes ≡ safe_rows
  pub bag_length : length t.bags ≡ bag_rows
  pub attribute_length : length t.attributes ≡ attribute_rows

-- ---- the rows below a count, by their numbers

module _ {A B : Type 0} (f : A → B) (c : ℕ) (l : List A) (h : c ≤ length l) where
  shown_length : length (map f (take c l)) ≡ c
  shown_length = length-map (take c l) f ∙ length-take-le c l h

  shown_end : (n : ℕ) → c ≤ n → drop n (map f (take c l)) ≡ []
  shown_end n k = drop_of_length-le (map f (take c l)) {i = n} (omega (arith, shown_length, k))

  shown_next : (d : A) (n : ℕ) → n < c → drop n (map f (take c l)) ≡ f (get_or l n d) ∷ drop (n + 1) (map f (take c l))
  shown_next d n k =
      let z : n + 1 ≡ suc n = omega arith in
      rw (
        z,
        drop-cons (map f (take c l)) n (f d) (omega (arith, shown_length, k)),
        get_or-map f (take c l) n d,
        get_or-take c l n d k,
      )

-- a proof by cases of an equality
same_or : {A : Type 0} (a b : ℕ) → (a ≡ b → A) → ((a ≡ b → ⊥) → A) → A
same_or {A} a b f g = by_eq (λ (x : ℕ). A) 0 0 a b f g

-- the choices that both readings make of a row, with what each returns
same_choice : {A B : Type 0} (f : A → B) (t u : Bool) (c : Content) (l : ℕ) (x : B) (a : A) (p : Leaf → B)
    (q : Leaf → A) (d : ℕ → B) (e : ℕ → A)
    → x ≡ f a → ((y : Leaf) → p y ≡ f (q y)) → ((m : ℕ) → d m ≡ f (e m))
    → (if t then (if u then on_content c x p (on_level l x d) else x) else x)
    ≡ f (if both t u then on_content c a q (on_level l a e) else a)
same_choice f false u c l x a p q d e g h i = g
same_choice f true false c l x a p q d e g h i = g
same_choice f true true empty_bag l x a p q d e g h i = g
same_choice f true true (leaf y) l x a p q d e g h i = h y
same_choice f true true nested zero x a p q d e g h i = g
same_choice f true true nested (suc l) x a p q d e g h i = i l

-- ---- the next rows are never past the ends

abbrev pub Within : Table → ℕ → ℕ → Type 0
Within t n m = (n ≤ bag_end t) × (m ≤ attribute_end t)

module _ (t : Table) (s : List ℕ) where
  own_from_within : (f n m : ℕ) → (own_from t s f n m).next ≤ m + f
  unfolding own_from
  own_from_within zero n m = omega arith
  own_from_within (suc f) n m =
      by_eq (λ (o : OwnPicked). o.next ≤ m + suc f) _ _ (attribute_value t s m).bag n
      (λ e. omega (arith, own_from_within f n (m + 1))) (λ e. omega arith)

  pub set_within : (h : Bool) (n m : ℕ) → m ≤ attribute_end t → (set_picked t s h n m).next ≤ attribute_end t
  unfolding set_picked own_picked
  set_within true n m p = omega (arith, p, own_from_within (attribute_end t - m) n m)
  set_within false n m p = p

  pub bags_within : (f l k : ℕ) (e : Maybe ℕ) (n m : ℕ) → Within t n m
      → Within t (bags_from t s f l k e n m).bag (bags_from t s f l k e n m).attribute
  unfolding bags_from
  bags_within zero l k e n m p = p
  bags_within (suc f) l k e n m p =
      by_lt (λ (u : Picked). Within t u.bag u.attribute) _ _ n (bag_end t)
      (λ h. by_test (λ (u : Picked). Within t u.bag u.attribute) _ _
      (both (eqb (bag_value t s n).safe k) (same_enclosing (bag_value t s n).enclosing e))
      (λ c. by_content (λ (u : Picked). Within t u.bag u.attribute) _ (bag_value t s n).content _ _ (λ d. p)
      (λ x d. bags_within f l k e (n + 1) _ (omega (arith, h), set_within (bag_value t s n).has_set n m p.1))
      (λ d. by_level (λ (u : Picked). Within t u.bag u.attribute) _ l _ p
      (λ below.
      let i = bags_within f below k (Some n) (n + 1) m (omega (arith, h), p.1) in
      bags_within f l k e _ _ (i.0, set_within (bag_value t s n).has_set n _ i.1))))
      (λ c. p))
      (λ h. p)

  contents_within : (k n m : ℕ) → Within t n m → Within t (contents_picked t s k n m).bag (contents_picked t s k n m).attribute
  unfolding bags_picked
  contents_within k n m p = bags_within (bag_end t - n) _ k None n m p

-- ---- safes of which every row was taken

abbrev pub if_all : {A : Type 0} → Table → SafesPicked → A → Option A
if_all t p x =
    if eqb p.safe t.safe_count then
    (if eqb p.bag t.bag_count then
    (if eqb p.attribute t.attribute_count then some x else option.none) else option.none) else
    option.none

also_all : (x : Safe) (xs : List Safe) (a b c : Bool)
    → values.also_safe x (if a then (if b then (if c then some xs else option.none) else option.none) else option.none)
    ≡ (if a then (if b then (if c then some (x ∷ xs) else option.none) else option.none) else option.none)
also_all x xs false b c = refl
also_all x xs true false c = refl
also_all x xs true true false = refl
also_all x xs true true true = refl

mac_all : (m : MacData) (xs : List Safe) (a b c : Bool)
    → with_mac m (if a then (if b then (if c then some xs else option.none) else option.none) else option.none)
    ≡ (if a then (if b then (if c then some (record { safes = xs; mac = m }) else option.none) else option.none) else
    option.none)
mac_all m xs false b c = refl
mac_all m xs true false c = refl
mac_all m xs true true false = refl
mac_all m xs true true true = refl

module _ (t : Table) (fit : CountsFit t) where
  -- where the rows end
  pub attribute_end_lem : attribute_end t ≡ t.attribute_count
  attribute_end_lem = omega (arith, fit.attribute_count)

  pub bag_end_lem : bag_end t ≡ t.bag_count
  bag_end_lem = omega (arith, fit.bag_count)

  pub safe_end_lem : safe_end t ≡ t.safe_count
  safe_end_lem = omega (arith, fit.safe_count)

-- what was taken by number, as what is left of the rows
abbrev pub taken_as : Table → List ℕ → Picked → Taken
taken_as t s p =
    record {
      bags = p.bags;
      next = p.bag;
      rows = drop p.bag (values_of t s).bags;
      rest = drop p.attribute (values_of t s).attributes;
    }

module _ (t : Table) (s : List ℕ) (fit : CountsFit t) where
  -- the rows from one on
  attributes_end_lem : (m : ℕ) → t.attribute_count ≤ m → drop m (values_of t s).attributes ≡ []
  unfolding values_of shown rows_in
  attributes_end_lem m h = shown_end (attribute_shown s) t.attribute_count t.attributes
      (omega (arith, fit.attribute_count, fit.attribute_length)) m h

  attributes_next : (m : ℕ) → m < t.attribute_count
      → drop m (values_of t s).attributes ≡ attribute_value t s m ∷ drop (m + 1) (values_of t s).attributes
  unfolding values_of shown rows_in
  attributes_next m h =
      shown_next (attribute_shown s) t.attribute_count t.attributes
      (omega (arith, fit.attribute_count, fit.attribute_length)) no_attribute m h

  bags_end_lem : (n : ℕ) → t.bag_count ≤ n → drop n (values_of t s).bags ≡ []
  unfolding values_of shown rows_in
  bags_end_lem n h = shown_end (bag_shown s) t.bag_count t.bags (omega (arith, fit.bag_count, fit.bag_length)) n h

  bags_next : (n : ℕ) → n < t.bag_count
      → drop n (values_of t s).bags ≡ bag_value t s n ∷ drop (n + 1) (values_of t s).bags
  unfolding values_of shown rows_in
  bags_next n h = shown_next (bag_shown s) t.bag_count t.bags
      (omega (arith, fit.bag_count, fit.bag_length)) no_bag n h

  bags_length : length (values_of t s).bags ≡ t.bag_count
  unfolding values_of shown rows_in
  bags_length = shown_length (bag_shown s) t.bag_count t.bags (omega (arith, fit.bag_count, fit.bag_length))

  safes_end_lem : (k : ℕ) → t.safe_count ≤ k → drop k (values_of t s).safes ≡ []
  unfolding values_of shown rows_in
  safes_end_lem k h = shown_end (safe_shown s) t.safe_count t.safes
      (omega (arith, fit.safe_count, fit.safe_length)) k h

  safes_next : (k : ℕ) → k < t.safe_count
      → drop k (values_of t s).safes ≡ safe_value t s k ∷ drop (k + 1) (values_of t s).safes
  unfolding values_of shown rows_in
  safes_next k h = shown_next (safe_shown s) t.safe_count t.safes
      (omega (arith, fit.safe_count, fit.safe_length)) no_safe k h

  -- ---- attributes of one bag

  own_goes : (f n m : ℕ) → t.attribute_count ≤ m + f
      → (own_of n (drop m (values_of t s).attributes) ≡ (own_picked t s n m).attributes)
      × (past_own n (drop m (values_of t s).attributes) ≡ drop (own_picked t s n m).next (values_of t s).attributes)
  unfolding own_of past_own
  own_goes zero n m h =
      rw (own_past t s n m (omega (arith, attribute_end_lem t fit, h)), attributes_end_lem m (omega arith)) (refl, refl)
  own_goes (suc f) n m h =
      either m t.attribute_count
      (λ k. same_or (attribute_value t s m).bag n
      (λ e.
      let i = own_goes f n (m + 1) (omega arith) in
      rw (
        own_more t s n m (omega (arith, attribute_end_lem t fit, k)) e,
        attributes_next m k,
        eq-eqb (attribute_value t s m).bag n e,
      ) (ap (λ x. (attribute_value t s m).attribute ∷ x) i.0, i.1))
      (λ e. rw (
        own_other t s n m (omega (arith, attribute_end_lem t fit, k)) e,
        attributes_next m k,
        ne_eqb (attribute_value t s m).bag n e,
      ) (refl, refl)))
      (λ k. rw (own_past t s n m (omega (arith, attribute_end_lem t fit, k)), attributes_end_lem m k) (refl, refl))

  pub own_is : (n m : ℕ)
      → (own_of n (drop m (values_of t s).attributes) ≡ (own_picked t s n m).attributes)
      × (past_own n (drop m (values_of t s).attributes) ≡ drop (own_picked t s n m).next (values_of t s).attributes)
  own_is n m = own_goes t.attribute_count n m (omega arith)

  pub set_is : (h : Bool) (n m : ℕ)
      → (set_of h n (drop m (values_of t s).attributes) ≡ (set_picked t s h n m).set)
      × (past_set h n (drop m (values_of t s).attributes) ≡ drop (set_picked t s h n m).next (values_of t s).attributes)
  unfolding set_picked
  set_is true n m = let o = own_is n m in (ap present o.0, o.1)
  set_is false n m = (refl, refl)

  -- ---- bags

  pub taken_is : (f l k : ℕ) (e : Maybe ℕ) (n m : ℕ)
      → values.bags_from f l k e n (drop n (values_of t s).bags) (drop m (values_of t s).attributes)
      ≡ taken_as t s (bags_from t s f l k e n m)
  unfolding values.bags_from bags_from
  taken_is zero l k e n m = refl
  taken_is (suc f) l k e n m =
      either n t.bag_count
      (λ h.
      rw (bags_next n h, lt-ltb n (bag_end t) (omega (arith, bag_end_lem t fit, h)))
      (same_choice (taken_as t s) (eqb (bag_value t s n).safe k) (same_enclosing (bag_value t s n).enclosing e)
      (bag_value t s n).content l _ (nothing n m) _ _ _ _
      (rw (bags_next n h) refl)
      (λ x. let i = set_is (bag_value t s n).has_set n m in
      rw (i.0, i.1, taken_is f l k e (n + 1) (set_picked t s (bag_value t s n).has_set n m).next) refl)
      (λ below.
      let p : Picked = bags_from t s f below k (Some n) (n + 1) m in
      let i = set_is (bag_value t s n).has_set n p.attribute in
      rw (
        taken_is f below k (Some n) (n + 1) m,
        i.0,
        i.1,
        taken_is f l k e p.bag (set_picked t s (bag_value t s n).has_set n p.attribute).next,
      ) refl)))
      (λ h. rw (bags_end_lem n h, le-ltb n (bag_end t) (omega (arith, bag_end_lem t fit, h)), bags_end_lem n h) refl)

  contents_is : (k n m : ℕ)
      → values.contents_from k n (drop n (values_of t s).bags) (drop m (values_of t s).attributes)
      ≡ taken_as t s (contents_picked t s k n m)
  unfolding bags_picked
  contents_is k n m =
      let z : length (drop n (values_of t s).bags) ≡ bag_end t - n =
      rw (length-drop n (values_of t s).bags, bags_length, bag_end_lem t fit) in
      rw z (taken_is (bag_end t - n) _ k None n m)

  -- ---- safes

  -- none are left: every row was taken, or not
  safes_stop : (k n m : ℕ) → k ≡ t.safe_count → n ≤ t.bag_count → m ≤ t.attribute_count
      → values.safes_from k n [] (drop n (values_of t s).bags) (drop m (values_of t s).attributes)
      ≡ if_all t (no_safes k n m) []
  unfolding values.safes_from
  safes_stop k n m h p q =
      either n t.bag_count
      (λ i. rw (bags_next n i, eq-eqb k t.safe_count h, ne_eqb n t.bag_count (λ e. omega arith)))
      (λ i. either m t.attribute_count
      (λ j. rw (
        bags_end_lem n i,
        attributes_next m j,
        eq-eqb k t.safe_count h,
        eq-eqb n t.bag_count (omega arith),
        ne_eqb m t.attribute_count (λ e. omega arith),
      ))
      (λ j. rw (
        bags_end_lem n i,
        attributes_end_lem m j,
        eq-eqb k t.safe_count h,
        eq-eqb n t.bag_count (omega arith),
        eq-eqb m t.attribute_count (omega arith),
      )))

  -- the safes from here on are read from the rows that are left, if every row is taken
  abbrev Alike : ℕ → ℕ → ℕ → Type 0
  Alike k n m =
      values.safes_from k n (drop k (values_of t s).safes) (drop n (values_of t s).bags)
      (drop m (values_of t s).attributes)
      ≡ if_all t (safes_picked t s k n m) (safes_picked t s k n m).safes

  -- one safe more
  module _ (k n m : ℕ) (h : k < t.safe_count) where
    safe_more : (x : Safe) (a b : ℕ)
        → safe_picked t s k n m ≡ some (record { safe = x; bag = a; attribute = b }) → Alike (k + 1) a b
        → values.also_safe x (values.safes_from (k + 1) a (drop (k + 1) (values_of t s).safes)
        (drop a (values_of t s).bags) (drop b (values_of t s).attributes))
        ≡ if_all t (safes_picked t s k n m) (safes_picked t s k n m).safes
    safe_more x a b e i =
        let p : SafesPicked = safes_picked t s (k + 1) a b in
        rw (safes_more t s k n m (omega (arith, safe_end_lem t fit, h)) _ e, i)
        (also_all x p.safes (eqb p.safe t.safe_count) (eqb p.bag t.bag_count)
        (eqb p.attribute t.attribute_count))

    safe_next : Within t n m → ((a b : ℕ) → Within t a b → Alike (k + 1) a b) → (v : SafeValue) → safe_value t s k ≡ v
        → values.safes_from k n (v ∷ drop (k + 1) (values_of t s).safes) (drop n (values_of t s).bags)
        (drop m (values_of t s).attributes)
        ≡ if_all t (safes_picked t s k n m) (safes_picked t s k n m).safes
    unfolding values.safes_from safe_picked
    safe_next w i empty_safe e =
        rw (
          safes_none t s k n m (omega (arith, safe_end_lem t fit, h)) (rw e refl),
          ne_eqb k t.safe_count (λ c. omega arith),
        ) refl
    safe_next w i plain_safe e =
        let p : Picked = contents_picked t s k n m in
        rw (contents_is k n m) (safe_more (plain p.bags) p.bag p.attribute (rw e refl)
        (i p.bag p.attribute (contents_within t s k n m w)))
    safe_next w i (encrypted_safe x) e = safe_more (encrypted x) n m (rw e refl) (i n m w)

  safes_done : (k n m : ℕ) → k ≡ t.safe_count → Within t n m → Alike k n m
  safes_done k n m h w =
      rw (safes_end_lem k (omega arith), safes_past t s k n m (omega (arith, safe_end_lem t fit, h)))
      (safes_stop k n m h (omega (arith, w.0, bag_end_lem t fit)) (omega (arith, w.1, attribute_end_lem t fit)))

  safes_go : (f k n m : ℕ) → t.safe_count ≤ k + f → k ≤ t.safe_count → Within t n m → Alike k n m
  safes_go zero k n m h l w = safes_done k n m (omega arith) w
  safes_go (suc f) k n m h l w =
      either k t.safe_count
      (λ j. rw (safes_next k j) (safe_next k n m j w
      (λ a b c. safes_go f (k + 1) a b (omega (arith, h)) (omega (arith, j)) c) (safe_value t s k) refl))
      (λ j. safes_done k n m (omega (arith, j, l)) w)

  pub safes_are : (k n m : ℕ) → k ≤ t.safe_count → n ≤ t.bag_count → m ≤ t.attribute_count
      → values.safes_from k n (drop k (values_of t s).safes) (drop n (values_of t s).bags)
      (drop m (values_of t s).attributes)
      ≡ if_all t (safes_picked t s k n m) (safes_picked t s k n m).safes
  safes_are k n m h p q = safes_go t.safe_count k n m (omega arith) h
      (omega (arith, p, bag_end_lem t fit), omega (arith, q, attribute_end_lem t fit))

  -- a table has a reading exactly if every row is taken
  pub reading_law : reading_of t s
      ≡ (if eqb (safes_picked t s 0 0 0).safe t.safe_count then
      (if eqb (safes_picked t s 0 0 0).bag t.bag_count then
      (if eqb (safes_picked t s 0 0 0).attribute t.attribute_count then
      some (record { safes = (safes_picked t s 0 0 0).safes; mac = mac_shown s t.mac }) else option.none) else
      option.none) else
      option.none)
  unfolding reading_of tree_of values_of shown
  reading_law =
      let p : SafesPicked = safes_picked t s 0 0 0 in
      ap (with_mac (mac_shown s t.mac)) (safes_are 0 0 0 (omega arith) (omega arith) (omega arith))
      ∙ mac_all (mac_shown s t.mac) p.safes (eqb p.safe t.safe_count) (eqb p.bag t.bag_count)
      (eqb p.attribute t.attribute_count)
