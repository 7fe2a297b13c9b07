-- What holds of every state after i of n bytes.
use mathlib.Core.Path.{◌≡◌, refl, ap}
use mathlib.Core.List.{List, [], ◌∷◌}
use mathlib.Core.Option as option
use Prim.Native.Nat.{ℕ, suc, ◌+◌, ◌*◌, ◌/◌, ◌%◌, ◌≤◌, ◌<◌}
use native.Mathlib.Omega.{arith}
use lib.Dec.{leb}
use lib.ListN.{length}
use Rattle.der.proofs.Choices.{either, by_lt, by_le, by_eq}
use Rattle.buffer.specs.Numbers.{file_bytes}
use Rattle.header.specs.Numbers.{upload_levels}
use Rattle.header.specs.Header.{entering, on_tag, on_length, on_one, on_first, on_second, moved}
use Rattle.header.specs.declared.Due.{Due}
use Rattle.header.specs.declared.Due.TheVariants.{Tag, Length, One, First, Second, Body, Nothing}
use Rattle.header.specs.declared.Move.{Move}
use Rattle.header.specs.declared.Move.TheVariants.{Await, Pass}
use Rattle.uploads.specs.Whole.{Tally, tallied}
use Rattle.uploads.proofs.Machine.{State, Failed, Open, Done, top, close, body, enter, pass}
use Rattle.uploads.proofs.Machine.{passing, unless, apply, step, feed, start, certainly}

-- each open element ends within the one around it
unfoldable pub Nested : ℕ → List ℕ → Type 0
Nested n [] = Unit {0}
Nested n (e ∷ es) = (e ≤ top n es) × Nested n es

-- a number that isn't 0
positive : (b : ℕ) → (b ≡ 0 → ⊥) → 0 < b
positive b h = either 0 b (λ k. k) (λ k. absurd (h (omega arith)))

pub top_within : (n : ℕ) (ends : List ℕ) → Nested n ends → top n ends ≤ n
unfolding Nested top
top_within n [] h = omega arith
top_within n (e ∷ es) h = omega (arith, h.0, top_within n es h.1)

-- The next byte is at offset i, and the parent has it. After 82 the parent has both bytes. Once
-- the first of them is known, the least length fits, and on a level too many the greatest
-- doesn't. After a body that isn't examined there is no fault yet.
unfoldable pub Awaits : ℕ → ℕ → Due → List ℕ → Tally → Type 0
Awaits n i (Tag at) ends tl = (i ≡ at) × (at < top n ends)
Awaits n i (Length at t) ends tl = (i ≡ at + 1) × (at + 1 < top n ends)
Awaits n i (One at t) ends tl = (i ≡ at + 2) × (at + 2 < top n ends)
Awaits n i (First at t) ends tl = (i ≡ at + 2) × (at + 3 < top n ends)
Awaits n i (Second at t h) ends tl =
    (i ≡ at + 3) × (0 < h) × (at + 4 + h * 256 ≤ top n ends)
    × (upload_levels ≤ length ends → top n ends < at + 4 + h * 256 + 255)
Awaits n i (Body at stop) ends tl =
    (i ≡ at) × (at < stop) × (stop ≤ top n ends) × (certainly (close n stop ends tl) ≡ option.none)
Awaits n i Nothing ends tl = ⊥
Awaits n i (Due.Refused m p after) ends tl = ⊥

-- the offset before which every element that is counted has its tag
unfoldable pub counted : Due → ℕ
counted (Tag at) = at
counted (Length at t) = at
counted (One at t) = at
counted (First at t) = at
counted (Second at t h) = at
counted (Body at stop) = at
counted Nothing = 0
counted (Due.Refused m p after) = 0

-- while a byte is due, and after the last one
pub record Kept (n i : ℕ) (x : Due) (ends : List ℕ) (tl : Tally) : Type 0 where
  pub awaits : Awaits n i x ends tl
  pub nested : Nested n ends
  pub depth : length ends ≤ upload_levels
  pub few : tl.elements ≤ counted x
  pub low : tl.level ≤ upload_levels

pub record Ended (n i : ℕ) (tl : Tally) : Type 0 where
  pub all : i ≡ n
  pub few : tl.elements ≤ n
  pub low : tl.level ≤ upload_levels

unfoldable pub Given : ℕ → ℕ → State → Type 0
Given n i (Failed f) = Unit {0}
Given n i (Open x ends tl) = Kept n i x ends tl
Given n i (Done tl) = Ended n i tl

pub counted_within : (n i : ℕ) (x : Due) (ends : List ℕ) (tl : Tally) → Awaits n i x ends tl → counted x ≤ i
unfolding Awaits counted
counted_within n i (Tag at) ends tl h = omega (arith, h.0)
counted_within n i (Length at t) ends tl h = omega (arith, h.0)
counted_within n i (One at t) ends tl h = omega (arith, h.0)
counted_within n i (First at t) ends tl h = omega (arith, h.0)
counted_within n i (Second at t b) ends tl h = omega (arith, h.0)
counted_within n i (Body at stop) ends tl h = omega (arith, h.0)
counted_within n i Nothing ends tl h = absurd h
counted_within n i (Due.Refused m p after) ends tl h = absurd h

-- the next byte is one of the announced
pub announced : (n i : ℕ) (x : Due) (ends : List ℕ) (tl : Tally) → Kept n i x ends tl → i < n
unfolding Awaits
announced n i (Tag at) ends tl k = omega (arith, k.awaits.0, k.awaits.1, top_within _ _ k.nested)
announced n i (Length at t) ends tl k = omega (arith, k.awaits.0, k.awaits.1, top_within _ _ k.nested)
announced n i (One at t) ends tl k = omega (arith, k.awaits.0, k.awaits.1, top_within _ _ k.nested)
announced n i (First at t) ends tl k = omega (arith, k.awaits.0, k.awaits.1, top_within _ _ k.nested)
announced n i (Second at t h) ends tl k =
    omega (arith, k.awaits.0, k.awaits.1, k.awaits.2, top_within _ _ k.nested)
announced n i (Body at e) ends tl k =
    omega (arith, k.awaits.0, k.awaits.1, k.awaits.2, top_within _ _ k.nested)
announced n i Nothing ends tl k = absurd k.awaits
announced n i (Due.Refused m p after) ends tl k = absurd k.awaits

-- there are no more elements than bytes
pub few_elements : (n i : ℕ) (x : Due) (ends : List ℕ) (tl : Tally) → Kept n i x ends tl → tl.elements ≤ i
few_elements n i x ends tl k = omega (arith, k.few, counted_within n i x ends tl k.awaits)

-- each of the following: what makes the next state keeps all this
pub close_given : (n p : ℕ) (ends : List ℕ) (tl : Tally) → Nested n ends → p ≤ top n ends
    → length ends ≤ upload_levels → tl.elements ≤ p → tl.level ≤ upload_levels
    → Given n p (close n p ends tl)
unfolding close Given Awaits Nested top counted
close_given n p [] tl h k d a b =
    by_lt (Given n p) _ _ p n (λ l. tt)
    (λ l. record { all = omega arith; few = omega arith; low = b })
close_given n p (e ∷ es) tl h k d a b =
    by_lt (Given n p) _ _ p e
    (λ l. record { awaits = (refl, l); nested = h; depth = d; few = a; low = b })
    (λ l. close_given n p es tl h.1 (omega (arith, h.0)) (omega arith) a b)

-- a body that isn't examined
module _ (n : ℕ) (ends : List ℕ) (tl : Tally) (nest : Nested n ends) (d : length ends ≤ upload_levels) where
  pub pass_given : (i at stop : ℕ) → i ≡ at → at ≤ stop → stop ≤ top n ends → tl.elements ≤ at
      → tl.level ≤ upload_levels → certainly (close n stop ends tl) ≡ option.none
      → Given n i (passing n ends tl at stop)
  unfolding Given Awaits counted
  pass_given i at stop e h k a b c =
      by_lt (Given n i) _ _ at stop
      (λ l. record { awaits = (e, l, k, c); nested = nest; depth = d; few = a; low = b })
      (λ l.
      let z : i ≡ stop = omega arith in
      rw z (close_given n stop ends tl nest k d (omega arith) b))

  pub unless_given : (i at stop : ℕ) (st : State) → close n stop ends tl ≡ st → i ≡ at → at ≤ stop
      → stop ≤ top n ends → tl.elements ≤ at → tl.level ≤ upload_levels
      → Given n i (unless st (passing n ends tl at stop))
  unfolding Given certainly
  unless_given i at stop (Failed f) s e h k a b = tt
  unless_given i at stop (Open x es t) s e h k a b = pass_given i at stop e h k a b (ap certainly s)
  unless_given i at stop (Done t) s e h k a b = pass_given i at stop e h k a b (ap certainly s)

module _ (n : ℕ) (ends : List ℕ) (tl : Tally) (nest : Nested n ends) (at t : ℕ) where
  pub enter_given : (i start stop : ℕ) → i ≡ start → start ≤ stop → stop ≤ top n ends
      → tl.elements ≤ at → at < start → tl.level ≤ upload_levels
      → Given n i (enter n ends tl at t start stop)
  unfolding enter body Given Nested top tallied
  enter_given i start stop e h k a s b =
      let up = tallied (suc (length ends)) tl in
      by_le (Given n i) _ _ upload_levels (length ends) (λ l. tt)
      (λ l. by_eq (Given n i) _ _ (t / 32 % 2) 0
      (λ m.
      unless_given n ends up nest (omega arith) i start stop (close n stop ends up) refl e h k
      (omega arith) (omega arith))
      (λ m.
      rw e (close_given n start (stop ∷ ends) up (k, nest) h (omega arith) (omega arith) (omega arith))))

  pub entering_given : (x : Due) (i start size : ℕ) → i ≡ start → start ≤ top n ends
      → tl.elements ≤ at → at < start → tl.level ≤ upload_levels
      → Given n i (apply n x ends tl (entering at t start size (top n ends)))
  unfolding entering Given
  entering_given x i start size e h a s b =
      by_lt (λ m. Given n i (apply n x ends tl m)) _ _ (top n ends) (start + size) (λ k. tt)
      (λ k. enter_given i start (start + size) e (omega arith) k a s b)

-- one byte more, whatever is due
module _ (n i : ℕ) (ends : List ℕ) (tl : Tally) (b : ℕ) (nest : Nested n ends) where
  abbrev Moved : Due → Move → Type 0
  Moved x m = Given n (i + 1) (apply n x ends tl m)

  module _ (d : length ends ≤ upload_levels) (low : tl.level ≤ upload_levels) where
    awaited : (x y : Due) → Awaits n (i + 1) y ends tl → tl.elements ≤ counted y → Moved x (Await y)
    unfolding Given
    awaited x y w a = record { awaits = w; nested = nest; depth = d; few = a; low = low }

    tag_given : (at : ℕ) → i ≡ at → at < top n ends → tl.elements ≤ at → Moved (Tag at) (on_tag at b (top n ends))
    unfolding on_tag Given Awaits counted
    tag_given at e h a =
        by_eq (Moved (Tag at)) _ _ b 0 (λ k. tt)
        (λ k. by_eq (Moved (Tag at)) _ _ (b % 32) 31 (λ l. tt)
        (λ l. by_le (Moved (Tag at)) _ _ (top n ends) (at + 1) (λ m. tt)
        (λ m. awaited (Tag at) (Length at b) (omega arith, m) a)))

    length_given : (at t : ℕ) → i ≡ at + 1 → at + 1 < top n ends → tl.elements ≤ at
        → Moved (Length at t) (on_length at t b (top n ends))
    unfolding on_length Given Awaits counted
    length_given at t e h a =
        let x = Length at t in
        by_lt (Moved x) _ _ b 0x80
        (λ k. entering_given n ends tl nest at t x (i + 1) (at + 2) b (omega arith) (omega arith) a (omega arith) low)
        (λ k. by_eq (Moved x) _ _ b 0x81
        (λ l. by_le (Moved x) _ _ (top n ends) (at + 2) (λ m. tt) (λ m. awaited x (One at t) (omega arith, m) a))
        (λ l. by_eq (Moved x) _ _ b 0x82
        (λ j. by_le (Moved x) _ _ (top n ends) (at + 3) (λ m. tt) (λ m. awaited x (First at t) (omega arith, m) a))
        (λ j. tt)))

    one_given : (at t : ℕ) → i ≡ at + 2 → at + 2 < top n ends → tl.elements ≤ at
        → Moved (One at t) (on_one at t b (top n ends))
    unfolding on_one Given
    one_given at t e h a =
        let x = One at t in
        by_lt (Moved x) _ _ b 0x80 (λ k. tt)
        (λ k. entering_given n ends tl nest at t x (i + 1) (at + 3) b (omega arith) (omega arith) a (omega arith) low)

    first_given : (at t : ℕ) → i ≡ at + 2 → at + 3 < top n ends → tl.elements ≤ at
        → Moved (First at t) (on_first at t b (top n ends) (leb upload_levels (length ends)))
    unfolding on_first Given Awaits counted
    first_given at t e h a =
        let x = First at t in
        let y = Second at t b in
        by_eq (Moved x) _ _ b 0 (λ k. tt)
        (λ k. by_lt (Moved x) _ _ (top n ends) (at + 4 + b * 256) (λ l. tt)
        (λ l. by_le (Moved x) _ _ upload_levels (length ends)
        (λ m. by_le (Moved x) _ _ (at + 4 + b * 256 + 255) (top n ends) (λ j. tt)
        (λ j. awaited x y (omega arith, positive b k, l, λ u. j) a))
        (λ m. awaited x y (omega arith, positive b k, l, λ u. absurd (omega arith)) a)))

    second_given : (at t h : ℕ) → i ≡ at + 3 → at + 4 + h * 256 ≤ top n ends → tl.elements ≤ at
        → Moved (Second at t h) (on_second at t h b (top n ends))
    unfolding on_second
    second_given at t h e k a =
        let x = Second at t h in
        let size = h * 256 + b in
        entering_given n ends tl nest at t x (i + 1) (at + 4) size (omega arith) (omega arith) a (omega arith) low

    body_given : (at stop : ℕ) → i ≡ at → at < stop → stop ≤ top n ends → tl.elements ≤ at
        → certainly (close n stop ends tl) ≡ option.none → Moved (Body at stop) (Pass at stop)
    unfolding pass
    body_given at stop e h k a c =
        pass_given n ends tl nest d (i + 1) (at + 1) stop (omega arith) (omega arith) k (omega arith) low c

    moved_given : (x : Due) → Awaits n i x ends tl → tl.elements ≤ counted x
        → Moved x (moved x b (top n ends) (leb upload_levels (length ends)))
    unfolding Awaits counted
    moved_given (Tag at) w a = tag_given at w.0 w.1 a
    moved_given (Length at t) w a = length_given at t w.0 w.1 a
    moved_given (One at t) w a = one_given at t w.0 w.1 a
    moved_given (First at t) w a = first_given at t w.0 w.1 a
    moved_given (Second at t h) w a = second_given at t h w.0 w.2 a
    moved_given (Body at stop) w a = body_given at stop w.0 w.1 w.2 a w.3
    moved_given Nothing w a = absurd w
    moved_given (Due.Refused m p after) w a = absurd w

pub step_given : (n i : ℕ) (st : State) (b : ℕ) → Given n i st → Given n (i + 1) (step n st b)
unfolding step Given
step_given n i (Failed f) b g = tt
step_given n i (Done tl) b g = tt
step_given n i (Open x ends tl) b g =
    moved_given n i ends tl b g.nested g.depth g.low x g.awaits g.few

pub feed_given : (n i : ℕ) (st : State) (p : List ℕ) → Given n i st → Given n (i + length p) (feed n st p)
unfolding feed
feed_given n i st [] g =
    let e : i + 0 ≡ i = omega arith in
    rw e g
feed_given n i st (b ∷ p) g =
    let e : i + suc (length p) ≡ i + 1 + length p = omega arith in
    rw e (feed_given n (i + 1) (step n st b) p (step_given n i st b g))

pub start_given : (n : ℕ) → Given n 0 (start n)
unfolding start Given Awaits Nested top counted
start_given n =
    by_lt (Given n 0) _ _ file_bytes n (λ h. tt)
    (λ h. by_eq (Given n 0) _ _ n 0 (λ k. tt)
    (λ k. record {
      awaits = (refl, positive n k);
      nested = tt;
      depth = omega arith;
      few = omega arith;
      low = omega arith;
    }))

-- the state after the bytes p
pub given : (n : ℕ) (p : List ℕ) → length p ≤ n → Given n (length p) (feed n (start n) p)
given n p h =
    let e : 0 + length p ≡ length p = omega arith in
    rw e at (feed_given n 0 (start n) p (start_given n))
