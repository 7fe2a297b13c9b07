-- Laws of the rows that are taken by number: where they end, and one row more.
use mathlib.Core.Path.{◌≡◌, refl, ap}
use mathlib.Core.Bool.{Bool, true, false}
use mathlib.Core.List.{List, [], ◌++◌, append-nil}
use mathlib.Core.Option.{Option, some}
use mathlib.Core.Option as option
use Prim.Native.Nat.{ℕ, zero, suc, ◌+◌, ◌-◌, ◌≤◌, ◌<◌}
use native.Mathlib.Omega.{arith}
use lib.Dec.{eqb, ltb}
use borrow.Author.Tests.{lt-ltb, le-ltb, eq-eqb, ne_eqb, ltb-true}
use Rattle.std.specs.Prelude.{if◌then◌else◌}
use Rattle.der.specs.Choice.{both}
use Rattle.der.proofs.Choices.{by_test, by_lt}
use Rattle.pkcs12.specs.Syntax.{Leaf, Bags, none, bag, nest}
use Rattle.pkcs12.specs.Encode.{bags_bytes}
use Rattle.pkcs12.specs.Values.{Content, empty_bag, leaf, nested, same_enclosing, on_content, on_level}
use Rattle.std.specs.Prelude.{Option as Maybe, Some}
use Rattle.pkcs12.specs.declared.table.Table.{Table}
use Rattle.sizes.specs.Picked.{attribute_end, bag_end, safe_end, attribute_value, bag_value, also_own, own_from}
use Rattle.sizes.specs.Picked.{own_picked}
use Rattle.sizes.specs.Picked.{set_picked, Picked, nothing, before, bags_from, bags_picked, OnePicked, on_one}
use Rattle.sizes.specs.Picked.{bag_picked}
use Rattle.sizes.specs.Picked.{no_safes}
use Rattle.sizes.specs.Picked.{also_safe, SafePicked, safe_picked, on_safe, safes_from, safes_picked}

-- ---- what holds of each answer holds of the one that is chosen

module _ {A : Type 0} (P : A → Type 0) (a : A) where
  pub by_content : (x : Content) (single : Leaf → A) (nests : A) → (x ≡ empty_bag → P a)
      → ((y : Leaf) → x ≡ leaf y → P (single y)) → (x ≡ nested → P nests)
      → P (on_content x a single nests)
  by_content empty_bag single nests p q r = p refl
  by_content (leaf y) single nests p q r = q y refl
  by_content nested single nests p q r = r refl

  pub by_level : (l : ℕ) (below : ℕ → A) → P a → ((m : ℕ) → P (below m)) → P (on_level l a below)
  by_level zero below p q = p
  by_level (suc l) below p q = q l

-- choices between answers that are the same
module _ {A : Type 0} where
  pub same_lt : (a b : ℕ) (x y z : A) → (a < b → x ≡ y) → (if ltb a b then x else z) ≡ (if ltb a b then y else z)
  same_lt a b x y z h = go (ltb a b) (ltb-true a b)
    where
      go : (t : Bool) → (t ≡ true → a < b) → (if t then x else z) ≡ (if t then y else z)
      go true f = h (f refl)
      go false f = refl

  pub same_test : (t : Bool) (x y z : A) → x ≡ y → (if t then x else z) ≡ (if t then y else z)
  same_test true x y z h = h
  same_test false x y z h = refl

  pub same_content : (x : Content) (a : A) (b c : Leaf → A) (d e : A) → ((y : Leaf) → b y ≡ c y) → d ≡ e
      → on_content x a b d ≡ on_content x a c e
  same_content empty_bag a b c d e p q = refl
  same_content (leaf y) a b c d e p q = p y
  same_content nested a b c d e p q = q

  pub same_level : (l : ℕ) (a : A) (b c : ℕ → A) → ((m : ℕ) → b m ≡ c m) → on_level l a b ≡ on_level l a c
  same_level zero a b c p = refl
  same_level (suc l) a b c p = p l

-- a fact of an answer, if there is one
abbrev pub OfSome : {A : Type 0} → (A → Type 0) → Option A → Type 0
OfSome P option.none = Unit {0}
OfSome P (some x) = P x

pub of_some : {A : Type 0} (P : A → Type 0) (o : Option A) (x : A) → o ≡ some x → OfSome P o → P x
of_some P o x e h = rw e at h

-- what is done with a bag, moved below the choices
one_content : (x : Content) (a : Option OnePicked) (b : Leaf → Option OnePicked) (d : Option OnePicked) (stop : Picked)
    (more : OnePicked → Picked)
    → on_one (on_content x a b d) stop more
    ≡ on_content x (on_one a stop more) (λ y. on_one (b y) stop more) (on_one d stop more)
one_content empty_bag a b d stop more = refl
one_content (leaf y) a b d stop more = refl
one_content nested a b d stop more = refl

one_level : (l : ℕ) (a : Option OnePicked) (b : ℕ → Option OnePicked) (stop : Picked) (more : OnePicked → Picked)
    → on_one (on_level l a b) stop more ≡ on_level l (on_one a stop more) (λ m. on_one (b m) stop more)
one_level zero a b stop more = refl
one_level (suc l) a b stop more = refl

further : (n a b : ℕ) → n + 1 ≤ a → a ≤ b → n ≤ b
further n a b p q = omega arith

module _ (t : Table) (s : List ℕ) where
  -- ---- attributes of one bag

  own_from_other : (f n m : ℕ) → ((attribute_value t s m).bag ≡ n → ⊥)
      → own_from t s f n m ≡ record { attributes = []; next = m }
  unfolding own_from
  own_from_other zero n m h = refl
  own_from_other (suc f) n m h = rw (ne_eqb (attribute_value t s m).bag n h)

  own_from_more : (f n m : ℕ) → (attribute_value t s m).bag ≡ n
      → own_from t s (suc f) n m ≡ also_own (attribute_value t s m).attribute (own_from t s f n (m + 1))
  unfolding own_from
  own_from_more f n m h = rw (eq-eqb (attribute_value t s m).bag n h)

  own_from_none : (n m : ℕ) → own_from t s 0 n m ≡ record { attributes = []; next = m }
  unfolding own_from
  own_from_none n m = refl

  pub own_past : (n m : ℕ) → attribute_end t ≤ m → own_picked t s n m ≡ record { attributes = []; next = m }
  unfolding own_picked
  own_past n m h = let z : attribute_end t - m ≡ 0 = omega arith in rw z (own_from_none n m)

  pub own_other : (n m : ℕ) → m < attribute_end t → ((attribute_value t s m).bag ≡ n → ⊥)
      → own_picked t s n m ≡ record { attributes = []; next = m }
  unfolding own_picked
  own_other n m h k = own_from_other (attribute_end t - m) n m k

  pub own_more : (n m : ℕ) → m < attribute_end t → (attribute_value t s m).bag ≡ n
      → own_picked t s n m ≡ also_own (attribute_value t s m).attribute (own_picked t s n (m + 1))
  unfolding own_picked
  own_more n m h k = let z : attribute_end t - m ≡ suc (attribute_end t - (m + 1)) = omega arith in
      rw z (own_from_more (attribute_end t - (m + 1)) n m k)

  -- ---- bags

  -- the next bag row is none before
  pub bags_ahead : (f l k : ℕ) (e : Maybe ℕ) (n m : ℕ) → n ≤ (bags_from t s f l k e n m).bag
  unfolding bags_from
  bags_ahead zero l k e n m = omega arith
  bags_ahead (suc f) l k e n m =
      by_lt (λ (p : Picked). n ≤ p.bag) _ _ n (bag_end t)
      (λ h. by_test (λ (p : Picked). n ≤ p.bag) _ _
      (both (eqb (bag_value t s n).safe k) (same_enclosing (bag_value t s n).enclosing e))
      (λ q. by_content (λ (p : Picked). n ≤ p.bag) _ (bag_value t s n).content _ _
      (λ c. omega arith)
      (λ x c. further n (n + 1) _ (omega arith) (bags_ahead f l k e (n + 1) _))
      (λ c. by_level (λ (p : Picked). n ≤ p.bag) _ l _ (omega arith)
      (λ below. further n _ _ (bags_ahead f below k (Some n) (n + 1) m) (bags_ahead f l k e _ _))))
      (λ q. omega arith))
      (λ h. omega arith)

  -- a nested bag from either of two that are the same
  same_nest : (f g l k : ℕ) (e : Maybe ℕ) (n : ℕ) (h : Bool) (p q : Picked) → p ≡ q
      → bags_from t s f l k e p.bag (set_picked t s h n p.attribute).next
      ≡ bags_from t s g l k e p.bag (set_picked t s h n p.attribute).next
      → before (nest p.bags (set_picked t s h n p.attribute).set)
      (bags_from t s f l k e p.bag (set_picked t s h n p.attribute).next)
      ≡ before (nest q.bags (set_picked t s h n q.attribute).set)
      (bags_from t s g l k e q.bag (set_picked t s h n q.attribute).next)
  same_nest f g l k e n h p q c d = rw (← c, d)

  -- any number of turns that is enough takes the same bags
  pub bags_enough : (f g l k : ℕ) (e : Maybe ℕ) (n m : ℕ) → bag_end t - n ≤ f → bag_end t - n ≤ g
      → bags_from t s f l k e n m ≡ bags_from t s g l k e n m
  unfolding bags_from
  bags_enough zero zero l k e n m p q = refl
  bags_enough zero (suc g) l k e n m p q = rw (le-ltb n (bag_end t) (omega arith))
  bags_enough (suc f) zero l k e n m p q = rw (le-ltb n (bag_end t) (omega arith))
  bags_enough (suc f) (suc g) l k e n m p q =
      same_lt n (bag_end t) _ _ _
      (λ h. same_test (both (eqb (bag_value t s n).safe k) (same_enclosing (bag_value t s n).enclosing e)) _ _ _
      (same_content (bag_value t s n).content _ _ _ _ _
      (λ x. ap (before (bag x (set_picked t s (bag_value t s n).has_set n m).set))
      (bags_enough f g l k e (n + 1) _ (omega arith) (omega arith)))
      (same_level l _ _ _
      (λ below.
      same_nest f g l k e n (bag_value t s n).has_set
      (bags_from t s f below k (Some n) (n + 1) m) (bags_from t s g below k (Some n) (n + 1) m)
      (bags_enough f g below k (Some n) (n + 1) m (omega arith) (omega arith))
      (bags_enough f g l k e _ _
      (omega (arith, p, h, bags_ahead f below k (Some n) (n + 1) m))
      (omega (arith, q, h, bags_ahead f below k (Some n) (n + 1) m)))))))

  -- none are left, or the next belongs elsewhere
  pub bags_past : (l k : ℕ) (e : Maybe ℕ) (n m : ℕ) → bag_end t ≤ n → bags_picked t s l k e n m ≡ nothing n m
  unfolding bags_picked bags_from
  bags_past l k e n m h = let z : bag_end t - n ≡ 0 = omega arith in rw z refl

  module _ (l k : ℕ) (e : Maybe ℕ) (n m : ℕ) (h : n < bag_end t) where
    pub bags_other : both (eqb (bag_value t s n).safe k) (same_enclosing (bag_value t s n).enclosing e) ≡ false
        → bags_picked t s l k e n m ≡ nothing n m
    unfolding bags_picked bags_from
    bags_other q = let z : bag_end t - n ≡ suc (bag_end t - (n + 1)) = omega arith in rw (z, lt-ltb n (bag_end t) h, q)

    -- one bag, and those behind it
    pub bags_step : both (eqb (bag_value t s n).safe k) (same_enclosing (bag_value t s n).enclosing e) ≡ true
        → bags_picked t s l k e n m
        ≡ on_one (bag_picked t s l k n m) (nothing n m) (λ p. before p.front (bags_picked t s l k e p.bag p.attribute))
    unfolding bags_picked bags_from bag_picked
    bags_step q =
        let z : bag_end t - n ≡ suc (bag_end t - (n + 1)) = omega arith in
        rw (z, lt-ltb n (bag_end t) h, q, one_content, one_level)
        (same_content (bag_value t s n).content _ _ _ _ _ (λ x. refl)
        (same_level l _ _ _
        (λ below. behind (bags_from t s (bag_end t - (n + 1)) below k (Some n) (n + 1) m)
        (bags_ahead (bag_end t - (n + 1)) below k (Some n) (n + 1) m))))
      where
        behind : (p : Picked) → n + 1 ≤ p.bag
            → before (nest p.bags (set_picked t s (bag_value t s n).has_set n p.attribute).set)
            (bags_from t s (bag_end t - (n + 1)) l k e p.bag
            (set_picked t s (bag_value t s n).has_set n p.attribute).next)
            ≡ before (nest p.bags (set_picked t s (bag_value t s n).has_set n p.attribute).set)
            (bags_from t s (bag_end t - p.bag) l k e p.bag
            (set_picked t s (bag_value t s n).has_set n p.attribute).next)
        behind p d = rw (bags_enough (bag_end t - (n + 1)) (bag_end t - p.bag) l k e p.bag
            (set_picked t s (bag_value t s n).has_set n p.attribute).next (omega arith) (omega arith))

    module _ (q : both (eqb (bag_value t s n).safe k) (same_enclosing (bag_value t s n).enclosing e) ≡ true) where
      pub bags_none : bag_picked t s l k n m ≡ option.none → bags_picked t s l k e n m ≡ nothing n m
      bags_none c = rw (bags_step q, c)

      pub bags_more : (p : OnePicked) → bag_picked t s l k n m ≡ some p
          → bags_picked t s l k e n m ≡ before p.front (bags_picked t s l k e p.bag p.attribute)
      bags_more p c = rw (bags_step q, c)

  -- ---- one bag, by what its row's content is

  -- it takes a row or more, and its bytes come before those of any others
  pub bag_ahead : (l k n m : ℕ) (p : OnePicked) → bag_picked t s l k n m ≡ some p → n < p.bag
  unfolding bag_picked bags_picked
  bag_ahead l k n m p e =
      of_some (λ (o : OnePicked). n < o.bag) (bag_picked t s l k n m) p e
      (by_content (OfSome (λ (o : OnePicked). n < o.bag)) _ (bag_value t s n).content _ _
      (λ c. tt) (λ x c. omega arith)
      (λ c. by_level (OfSome (λ (o : OnePicked). n < o.bag)) _ l _ tt
      (λ below. beyond _ (bags_ahead (bag_end t - (n + 1)) below k (Some n) (n + 1) m))))
    where
      beyond : (a : ℕ) → n + 1 ≤ a → n < a
      beyond a h = omega arith

  pub front_bytes : (l k n m : ℕ) (p : OnePicked) → bag_picked t s l k n m ≡ some p → (xs : Bags)
      → bags_bytes (p.front xs) ≡ bags_bytes (p.front none) ++ bags_bytes xs
  unfolding bag_picked bags_bytes
  front_bytes l k n m p e =
      of_some (λ (o : OnePicked). (xs : Bags) → bags_bytes (o.front xs) ≡ bags_bytes (o.front none) ++ bags_bytes xs)
      (bag_picked t s l k n m) p e
      (by_content
      (OfSome (λ (o : OnePicked). (xs : Bags) → bags_bytes (o.front xs) ≡ bags_bytes (o.front none) ++ bags_bytes xs)) _
      (bag_value t s n).content _ _ (λ c. tt) (λ x c xs. rw append-nil)
      (λ c. by_level (OfSome
      (λ (o : OnePicked). (xs : Bags) → bags_bytes (o.front xs) ≡ bags_bytes (o.front none) ++ bags_bytes xs)) _ l _ tt
      (λ below xs. rw append-nil)))

  module _ (l k n m : ℕ) where
    pub bag_empty : (bag_value t s n).content ≡ empty_bag → bag_picked t s l k n m ≡ option.none
    unfolding bag_picked
    bag_empty c = rw c

    pub bag_leaf : (x : Leaf) → (bag_value t s n).content ≡ leaf x
        → bag_picked t s l k n m
        ≡ some (record {
          front = bag x (set_picked t s (bag_value t s n).has_set n m).set;
          bag = n + 1;
          attribute = (set_picked t s (bag_value t s n).has_set n m).next;
        })
    unfolding bag_picked
    bag_leaf x c = rw c

    pub bag_too_deep : (bag_value t s n).content ≡ nested → l ≡ 0 → bag_picked t s l k n m ≡ option.none
    unfolding bag_picked
    bag_too_deep c h = rw (c, h)

    pub bag_nest : (below : ℕ) → (bag_value t s n).content ≡ nested → l ≡ suc below
        → bag_picked t s l k n m
        ≡ some (record {
          front = nest (bags_picked t s below k (Some n) (n + 1) m).bags
              (set_picked t s (bag_value t s n).has_set n (bags_picked t s below k (Some n) (n + 1) m).attribute).set;
          bag = (bags_picked t s below k (Some n) (n + 1) m).bag;
          attribute = (set_picked t s (bag_value t s n).has_set n (bags_picked t s below k (Some n) (n + 1) m).attribute).next;
        })
    unfolding bag_picked
    bag_nest below c h = rw (c, h)

  -- ---- safes

  module _ (k n m : ℕ) where
    pub safes_past : safe_end t ≤ k → safes_picked t s k n m ≡ no_safes k n m
    unfolding safes_picked safes_from
    safes_past h = let z : safe_end t - k ≡ 0 = omega arith in rw z

    module _ (h : k < safe_end t) where
      pub safes_step : safes_picked t s k n m
          ≡ on_safe (safe_picked t s k n m) (no_safes k n m)
          (λ p. also_safe p.safe (safes_picked t s (k + 1) p.bag p.attribute))
      unfolding safes_picked safes_from
      safes_step = let z : safe_end t - k ≡ suc (safe_end t - (k + 1)) = omega arith in rw z

      pub safes_none : safe_picked t s k n m ≡ option.none → safes_picked t s k n m ≡ no_safes k n m
      safes_none c = rw (safes_step, c)

      pub safes_more : (p : SafePicked) → safe_picked t s k n m ≡ some p
          → safes_picked t s k n m ≡ also_safe p.safe (safes_picked t s (k + 1) p.bag p.attribute)
      safes_more p c = rw (safes_step, c)
