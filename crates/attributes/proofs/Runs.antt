-- Calls one after another: the rows of the bag are returned in turn, and then `Done`, at every
-- further call.
use mathlib.Core.Path.{◌≡◌, refl, sym, ◌∙◌, ap}
use mathlib.Core.Bool.{Bool, true, false}
use mathlib.Core.List.{List, [], ◌∷◌}
use Prim.Native.Nat.{ℕ, zero, suc, ◌+◌, ◌≤◌, ◌<◌}
use native.Mathlib.Numerals.{add-one}
use native.Mathlib.Omega.{arith}
use borrow.Author.Tests.{lt-ltb, le-ltb}
use lib.ListN.{length, get_or, drop, drop_of_length-le, length-take, length-drop}
use lib.Seq.{drop-cons, get_or-take}
use Rattle.std.specs.Prelude.{if◌then◌else◌}
use Rattle.std.specs.Prelude.{Err, Ok, Result, is_err}
use Rattle.der.specs.Element.{on_result}
use Rattle.der.proofs.Choices.{by_lt, never}
use Rattle.der.specs.declared.Fault.{Fault}
use Rattle.pkcs12.specs.Table.{no_attribute}
use Rattle.pkcs12.specs.declared.row.AttributeRow.{AttributeRow}
use Rattle.attributes.specs.Own.{own_rows}
use Rattle.attributes.specs.Reader.{first_from, names, counted, position, next_row, moved_to}
use Rattle.attributes.specs.Reader.{next_of, after, item_after, is_last}
use Rattle.attributes.specs.declared.Item.{Item}
use Rattle.attributes.specs.declared.Item.TheVariants.{Ready, Done}
use Rattle.attributes.specs.declared.Position.{Position}

-- ---- what stays

-- the end of the rows stays the end
past_end : (p : Position) (i : ℕ) → length (counted p) ≤ i → next_row (position p.rows p.count p.bag i (Ok Done)) ≡ i
unfolding next_row first_from
past_end p i h = rw (drop_of_length-le (counted p) {i = i} h)

-- Once the reader said that it is done, or was refused, a call changes nothing.
stays_moved : (p : Position) (i : ℕ) → is_last (moved_to p i).item ≡ true → next_of (moved_to p i) ≡ moved_to p i
unfolding moved_to next_of is_last
stays_moved p i =
    by_lt (λ q. is_last q.item ≡ true → next_of q ≡ q) _ _ i (length (counted p)) (λ h e. never e)
    (λ h e. rw (past_end p i h, le-ltb i (length (counted p)) h))

-- a call by what the last one returned
by_item : (P : Position → Type 0) (x : Result Item Fault) (p q : Position) → ((f : Fault) → x ≡ Err f → P p)
    → P q → P (on_result x (λ f. p) (λ y. q))
by_item P (Ok y) p q bad good = good
by_item P (Err f) p q bad good = bad f refl

pub refused_stays : (p : Position) (f : Fault) → p.item ≡ Err f → next_of p ≡ p
unfolding next_of
refused_stays p f e = rw e

-- the item by what the code met
pub last_refused : (x : Result Item Fault) (f : Fault) → x ≡ Err f → true ≡ is_last x
unfolding is_last
last_refused x f e = rw e

pub last_done : (x : Result Item Fault) (y : Item) → x ≡ Ok y → y ≡ Done → true ≡ is_last x
unfolding is_last
last_done x y e h = rw (e, h)

pub not_last : (x : Result Item Fault) (y : Item) → x ≡ Ok y → (y ≡ Done → ⊥) → false ≡ is_last x
unfolding is_last
not_last x Ready e h = rw e
not_last x (Item.Attribute r) e h = rw e
not_last x Done e h = absurd (h refl)

-- u is what the code's test of the item said
pub next_refused : (p : Position) (u : Bool) → u ≡ is_err p.item → u ≡ true → p ≡ next_of p
unfolding next_of
next_refused p u e h = go p.item (sym h ∙ e)
  where
    go : (x : Result Item Fault) → true ≡ is_err x → p ≡ on_result x (λ f. p) (λ y. moved_to p (next_row p))
    go (Ok y) k = never (sym k)
    go (Err f) k = refl

pub next_moved : (p q : Position) (u : Bool) → u ≡ is_err p.item → u ≡ false → q ≡ moved_to p (next_row p)
    → q ≡ next_of p
unfolding next_of
next_moved p q u e h g = g ∙ go p.item (sym h ∙ e)
  where
    go : (x : Result Item Fault) → false ≡ is_err x
        → moved_to p (next_row p) ≡ on_result x (λ f. p) (λ y. moved_to p (next_row p))
    go (Ok y) k = refl
    go (Err f) k = never k

pub stays : (p : Position) → is_last (next_of p).item ≡ true → next_of (next_of p) ≡ next_of p
unfolding next_of
stays p =
    by_item (λ q. is_last q.item ≡ true → next_of q ≡ q) p.item p (moved_to p (next_row p))
    (λ f e h. refused_stays p f e)
    (stays_moved p (next_row p))

pub after_stays : (n : ℕ) (p : Position) → next_of p ≡ p → after n p ≡ p
unfolding after
after_stays zero p e = refl
after_stays (suc n) p e = rw e (after_stays n p e)

-- ---- the loop that makes so many calls

-- The position is one that a call returned, and what is due is what `left` more calls return.
pub record Calling (n : ℕ) (p₀ : Position) (left : ℕ) (p : Position) : Type 0 where
  pub came : (q : Position) × (p ≡ next_of q)
  pub rest : (after n p₀).item ≡ (after left p).item

module _ (n : ℕ) (p₀ : Position) where
  pub calling_start : (q : Position) (m : ℕ) → m ≡ n → p₀ ≡ next_of q → Calling n p₀ m p₀
  calling_start q m h e = record { came = (q, e); rest = rw h }

  module _ (left : ℕ) (p : Position) (g : Calling n p₀ left p) where
    pub calling_stops : (u : Bool) → u ≡ is_last p.item → u ≡ true → p.item ≡ (after n p₀).item
    calling_stops u e h =
        let k : next_of p ≡ p = rw g.came.1 (stays g.came.0 (rw g.came.1 at (sym e ∙ h))) in
        sym (g.rest ∙ ap {B = Result Item Fault} (λ (q : Position). q.item) (after_stays left p k))

    pub calling_on : (q : Position) (m : ℕ) → left ≡ suc m → q ≡ next_of p → Calling n p₀ m q
    unfolding after
    calling_on q m h e = record { came = (p, e); rest = rw e (rw h at g.rest) }

    pub calling_ends : left ≤ 0 → p.item ≡ (after n p₀).item
    unfolding after
    calling_ends h = sym (g.rest ∙ go left h)
      where
        go : (k : ℕ) → k ≤ 0 → (after k p).item ≡ p.item
        go zero h = refl
        go (suc k) h = absurd (omega arith)

-- call i, counted from 0, is the first call and i more
pub first_call : (i : ℕ) (p q : Position) → q ≡ next_of p → (after i q).item ≡ item_after i p
unfolding item_after after
first_call i p q e = ap {B = Result Item Fault} (λ (x : Position). (after i x).item) e
    ∙ ap {B = Result Item Fault} (λ (n : ℕ). (after n p).item) (sym (add-one i))

-- ---- the rows of the bag in turn

-- Row k is the first of some rows that name a bag, and then come the others; if none does, k is
-- past the last row.
abbrev Foremost : ℕ → List AttributeRow → ℕ → List AttributeRow → Type 0
Foremost n xs k [] = length xs ≤ k
Foremost n xs k (r ∷ rs) = (k < length xs) × (get_or xs k no_attribute ≡ r) × (own_rows n (drop (k + 1) xs) ≡ rs)

foremost : (n : ℕ) (xs : List AttributeRow) (at : ℕ) (l : List AttributeRow) → drop at xs ≡ l
    → Foremost n xs (first_from (names n) l at) (own_rows n l)
unfolding first_from own_rows
foremost n xs at [] e = omega (arith, length-drop at xs, ap length e)
foremost n xs at (r ∷ l) e = go (names n r) (foremost n xs (at + 1) l k)
  where
    h : at < length xs
    h = omega (arith, length-drop at xs, ap length e)

    c : get_or xs at no_attribute ∷ drop (at + 1) xs ≡ r ∷ l
    c = rw add-one (sym (drop-cons xs at no_attribute h) ∙ e)

    k : drop (at + 1) xs ≡ l
    k = cc c

    go : (u : Bool) → Foremost n xs (first_from (names n) l (at + 1)) (own_rows n l)
        → Foremost n xs (if u then at else first_from (names n) l (at + 1)) (if u then r ∷ own_rows n l else own_rows n l)
    go true f = (h, cc c, rw k)
    go false f = f

-- a reader that goes on, with the rows that it has yet to return
pub record Left (p : Position) (xs : List AttributeRow) : Type 0 where
  pub moves : next_of p ≡ moved_to p (next_row p)
  pub rest : own_rows p.bag (drop p.at (counted p)) ≡ xs

-- one call returns the first of them and leaves the others
module _ (p : Position) where
  next_row_lem : (xs : List AttributeRow) → Left p xs → Foremost p.bag (counted p) (next_row p) xs
  unfolding next_row
  next_row_lem xs g = rw g.rest at (foremost p.bag (counted p) p.at (drop p.at (counted p)) refl)

  next_gives : (r : AttributeRow) (rs : List AttributeRow) → Left p (r ∷ rs)
      → ((next_of p).item ≡ Ok (Item.Attribute r)) × Left (next_of p) rs
  unfolding moved_to next_of
  next_gives r rs g =
      let f = next_row_lem (r ∷ rs) g in
      let k : next_row p < p.count = omega (arith, f.0, length-take p.count p.rows) in
      let e : get_or p.rows (next_row p) no_attribute ≡ r =
      sym (get_or-take p.count p.rows (next_row p) no_attribute k) ∙ f.1 in
      rw (g.moves, lt-ltb (next_row p) (length (counted p)) f.0, e) (refl, record { moves = refl; rest = f.2 })

  next_ends : Left p [] → ((next_of p).item ≡ Ok Done) × Left (next_of p) []
  unfolding moved_to next_of own_rows
  next_ends g =
      let f = next_row_lem [] g in
      rw (g.moves, le-ltb (next_row p) (length (counted p)) f)
      (refl, record { moves = refl; rest = rw (drop_of_length-le (counted p) {i = next_row p} f) })

-- call i is to return row i of them, and every call past them `Done`
abbrev pub Turn : ℕ → List AttributeRow → Result Item Fault → Type 0
Turn i xs x = (i < length xs → x ≡ Ok (Item.Attribute (get_or xs i no_attribute))) × (length xs ≤ i → x ≡ Ok Done)

turn : (i : ℕ) (p : Position) (xs : List AttributeRow) → Left p xs → Turn i xs (after i (next_of p)).item
unfolding after
turn zero p [] g = (λ h. absurd (omega arith), λ h. (next_ends p g).0)
turn zero p (r ∷ rs) g = (λ h. (next_gives p r rs g).0, λ h. absurd (omega arith))
turn (suc i) p [] g = (λ h. absurd (omega arith), λ h. (turn i (next_of p) [] (next_ends p g).1).1 (omega arith))
turn (suc i) p (r ∷ rs) g = let t = turn i (next_of p) rs (next_gives p r rs g).1 in
    (λ h. t.0 (omega arith), λ h. t.1 (omega arith))

pub in_turn : (i : ℕ) (p : Position) (xs : List AttributeRow) → Left p xs → Turn i xs (item_after i p)
in_turn i p xs g = rw (← first_call i p (next_of p) refl) (turn i p xs g)
