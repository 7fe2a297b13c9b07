-- In a state without a certain fault, whatever the fault: some completion isn't refused with it.
use mathlib.Core.Path.{◌≡◌, sym, ap, ◌∙◌}
use mathlib.Core.List.{List, [], ◌∷◌, ◌++◌}
use mathlib.Core.Option as option
use Prim.Native.Nat.{ℕ, zero, suc, ◌+◌, ◌-◌, ◌*◌, ◌/◌, ◌%◌, ◌≤◌, ◌<◌}
use native.Mathlib.Omega.{arith}
use lib.ListN.{length, length-append}
use lib.Seq.{drop_at}
use borrow.Author.Tests.{lt-ltb, le-ltb, le-leb, lt-leb, eq-eqb, ne_eqb}
use Rattle.der.specs.Numbers.{too_many, overrun}
use Rattle.der.specs.Element.{fault}
use Rattle.der.specs.declared.Fault.{Fault}
use Rattle.der.proofs.Octets.{bytes_append}
use Rattle.der.proofs.Choices.{either, by_lt}
use Rattle.header.specs.Numbers.{upload_levels}
use Rattle.header.specs.Header.{entering}
use Rattle.header.specs.declared.Due.{Due}
use Rattle.header.specs.declared.Due.TheVariants.{Tag, Length, One, First, Second, Body, Nothing}
use Rattle.uploads.specs.Whole.{Tally, tallied}
use Rattle.uploads.proofs.Machine.{State, Failed, Open, Done, top, close, body, enter, feed}
use Rattle.uploads.proofs.Machine.{passing, certainly}
use Rattle.uploads.proofs.Fed.{fed_failed, fed_byte, pass_over}
use Rattle.uploads.proofs.Kept.{Nested, Awaits, Given, top_within}
use Rattle.uploads.proofs.Zeros.{zeros, bytes_zeros, length_zeros, offset_of, FaultAt, fault_offset}
use Rattle.uploads.proofs.Zeros.{body_past}
use Rattle.uploads.proofs.Others.{Portion, none_left, all_zero, led, Other, by, differ_number}
use Rattle.uploads.proofs.Others.{equal_or, step_other, other_number, entered, second_byte}
use Rattle.uploads.proofs.Others.{tag_unsure, length_unsure, one_unsure, first_unsure}

-- one completion ends in a fault at o, if in one at all, and another doesn't
differ_offset : (n k : ℕ) (st : State) (f : Fault) (o : ℕ) (p q : Portion k)
    → FaultAt o (feed n st p.rest) → (offset_of (feed n st q.rest) ≡ suc o → ⊥) → Other n k st f
unfolding offset_of
differ_offset n k st f o p q a b =
    equal_or f.offset o
    (λ h. by n k st f q (λ e. b (ap offset_of e ∙ ap suc h)))
    (λ h. by n k st f p (λ e. h (fault_offset o f.offset (feed n st p.rest) a (ap offset_of e))))

-- a header is complete: past its parent, on a level too many, with a body that isn't examined, and
-- with one that is
module _ (n : ℕ) (ends : List ℕ) (tl : Tally) (at t start : ℕ) where
  entering_over : (x : Due) (size : ℕ) → top n ends < start + size
      → entered n ends tl at t x start size ≡ Failed (fault overrun at)
  unfolding entering
  entering_over x size h = rw (lt-ltb (top n ends) (start + size) h)

  entering_fits : (x : Due) (size : ℕ) → start + size ≤ top n ends
      → entered n ends tl at t x start size ≡ enter n ends tl at t start (start + size)
  unfolding entering
  entering_fits x size h = rw (le-ltb (top n ends) (start + size) h)

  enter_deep : (stop : ℕ) → upload_levels ≤ length ends → enter n ends tl at t start stop ≡ Failed (fault too_many at)
  unfolding enter
  enter_deep stop h = rw (le-leb upload_levels (length ends) h)

  module _ (stop : ℕ) (h : length ends < upload_levels) where
    enter_plain : t / 32 % 2 ≡ 0
        → enter n ends tl at t start stop ≡ body n ends (tallied (suc (length ends)) tl) start stop
    unfolding enter
    enter_plain e = rw (lt-leb upload_levels (length ends) h, eq-eqb (t / 32 % 2) 0 e)

    enter_open : (t / 32 % 2 ≡ 0 → ⊥) → start < stop
        → enter n ends tl at t start stop ≡ Open (Tag start) (stop ∷ ends) (tallied (suc (length ends)) tl)
    unfolding enter close
    enter_open e l = rw (lt-leb upload_levels (length ends) h, ne_eqb (t / 32 % 2) 0 e, lt-ltb start stop l)

-- where the second byte of a length of two is due: 00 against FF
module _ (n : ℕ) (ends : List ℕ) (tl : Tally) (nest : Nested n ends) (at t h : ℕ) (f : Fault) (k : ℕ)
    (size : at + 4 + k ≡ n) (pos : 0 < h) (fits : at + 4 + h * 256 ≤ top n ends) where
  abbrev second : State
  second = Open (Second at t h) ends tl

  abbrev least : Portion (suc k)
  least = led k 0 (omega arith) (all_zero k)

  abbrev greatest : Portion (suc k)
  greatest = led k 255 (omega arith) (all_zero k)

  abbrev near : ℕ
  near = at + 4 + (h * 256 + 0)

  abbrev far : ℕ
  far = at + 4 + (h * 256 + 255)

  fed_second : (b : ℕ) (st : State) → entered n ends tl at t (Second at t h) (at + 4) (h * 256 + b) ≡ st
      → feed n second (b ∷ zeros k) ≡ feed n st (zeros k)
  fed_second b st e = fed_byte n second st b (zeros k) (second_byte n ends tl at t h b ∙ e)

  second_over : top n ends < far → feed n second greatest.rest ≡ Failed (fault overrun at)
  second_over o =
      let u = entering_over n ends tl at t (at + 4) (Second at t h) (h * 256 + 255) o in
      fed_second 255 (Failed (fault overrun at)) u ∙ fed_failed n (fault overrun at) (zeros k)

  second_deep : upload_levels ≤ length ends → top n ends < far → Other n (suc k) second f
  second_deep d o =
      let u = entering_fits n ends tl at t (at + 4) (Second at t h) (h * 256 + 0) (omega arith) in
      let v = fed_second 0 (Failed (fault too_many at)) (u ∙ enter_deep n ends tl at t (at + 4) near d) in
      differ_number n (suc k) second f too_many at least greatest (v ∙ fed_failed n (fault too_many at) (zeros k))
      (other_number (feed n second greatest.rest) too_many overrun at (second_over o) (λ z. absurd (omega arith)))

  second_past : (b : ℕ) → length ends < upload_levels → t / 32 % 2 ≡ 0 → at + 4 + (h * 256 + b) ≤ top n ends
      → FaultAt (at + 4 + (h * 256 + b)) (feed n second (b ∷ zeros k))
  second_past b d e o =
      let up = tallied (suc (length ends)) tl in
      let stop = at + 4 + (h * 256 + b) in
      let u = entering_fits n ends tl at t (at + 4) (Second at t h) (h * 256 + b) o in
      rw (fed_second b (body n ends up (at + 4) stop) (u ∙ enter_plain n ends tl at t (at + 4) stop d e))
      (body_past n ends up (at + 4) stop k nest (omega arith) o size)

  second_plain : length ends < upload_levels → t / 32 % 2 ≡ 0 → Other n (suc k) second f
  unfolding offset_of
  second_plain d e =
      let a = second_past 0 d e (omega arith) in
      let last = feed n second greatest.rest in
      either (top n ends) far
      (λ o. differ_offset n (suc k) second f near least greatest a
      (λ p. let z : suc at ≡ suc near = sym (ap offset_of (second_over o)) ∙ p in absurd (omega arith)))
      (λ o. differ_offset n (suc k) second f near least greatest a
      (λ p. let z : near ≡ far = fault_offset far near last (second_past 255 d e o) p in absurd (omega arith)))

  second_open : length ends < upload_levels → (t / 32 % 2 ≡ 0 → ⊥) → Other n (suc k) second f
  unfolding top
  second_open d e =
      let up = tallied (suc (length ends)) tl in
      let next = Open (Tag (at + 4)) (near ∷ ends) up in
      let w = top_within n ends nest in
      let u = entering_fits n ends tl at t (at + 4) (Second at t h) (h * 256 + 0) (omega arith) in
      let v = u ∙ enter_open n ends tl at t (at + 4) near d e (omega arith) in
      step_other n k second next f 0 (omega arith) (second_byte n ends tl at t h 0 ∙ v)
      (tag_unsure n (near ∷ ends) up (at + 4) f k (omega arith) (omega arith) size)

second_unsure : (n : ℕ) (ends : List ℕ) (tl : Tally) (at t h k : ℕ) (f : Fault) → Nested n ends → at + 3 + k ≡ n
    → 0 < h → at + 4 + h * 256 ≤ top n ends → (upload_levels ≤ length ends → top n ends < at + 4 + h * 256 + 255)
    → Other n k (Open (Second at t h) ends tl) f
second_unsure n ends tl at t h zero f nest e pos l d = let w = top_within n ends nest in absurd (omega arith)
second_unsure n ends tl at t h (suc k) f nest e pos l d =
    either (length ends) upload_levels
    (λ m. equal_or (t / 32 % 2) 0
    (second_plain n ends tl nest at t h f k (omega arith) pos l m)
    (second_open n ends tl nest at t h f k (omega arith) pos l m))
    (λ m. second_deep n ends tl nest at t h f k (omega arith) pos l m (omega (arith, d m)))

-- after an element, and in a body that isn't examined
done_unsure : (n : ℕ) (tl : Tally) (f : Fault) → Other n 0 (Done tl) f
unfolding feed
done_unsure n tl f =
    by n 0 (Done tl) f none_left (λ e. let z : ◌≡◌ {A = ℕ} 0 1 = cc in absurd (omega arith))

close_unsure : (n p k : ℕ) (ends : List ℕ) (tl : Tally) (f : Fault)
    → Nested n ends → p ≤ top n ends → p + k ≡ n
    → certainly (close n p ends tl) ≡ option.none → Other n k (close n p ends tl) f
unfolding close certainly Nested top
close_unsure n p k [] tl f nest h e =
    by_lt (λ x. certainly x ≡ option.none → Other n k x f) _ _ p n
    (λ l q. let z : ◌≡◌ {A = ℕ} 0 1 = cc in absurd (omega arith))
    (λ l q. let z : k ≡ 0 = omega arith in rw z (done_unsure n tl f))
close_unsure n p k (x ∷ ends) tl f nest h e =
    by_lt (λ y. certainly y ≡ option.none → Other n k y f) _ _ p x
    (λ l q. tag_unsure n (x ∷ ends) tl p f k l (omega (arith, nest.0, top_within n ends nest.1)) e)
    (λ l q. close_unsure n p k ends tl f nest.1 (omega (arith, nest.0)) e q)

pass_unsure : (n i stop k m : ℕ) (ends : List ℕ) (tl : Tally) (f : Fault) → i ≤ stop → k ≡ (stop - i) + m
    → Other n m (close n stop ends tl) f → Other n k (passing n ends tl i stop) f
pass_unsure n i stop k m ends tl f h e o =
    let j = stop - i in
    let t = zeros j ++ o.rest in
    let long : length t ≡ j + m = rw (length-append (zeros j) o.rest, length_zeros j, o.size) in
    let over : feed n (passing n ends tl i stop) t ≡ feed n (close n stop ends tl) o.rest =
    pass_over n ends tl j i stop t (omega arith) (omega arith)
    ∙ rw (drop_at (zeros j) o.rest j (length_zeros j)) in
    record {
      rest = t;
      bytes = bytes_append (zeros j) o.rest (bytes_zeros j) o.bytes;
      size = long ∙ sym e;
      other = λ p. o.other (sym over ∙ p);
    }

body_unsure : (n at stop k : ℕ) (ends : List ℕ) (tl : Tally) (f : Fault) → Nested n ends → at + k ≡ n
    → at < stop → stop ≤ top n ends → certainly (close n stop ends tl) ≡ option.none
    → Other n k (Open (Body at stop) ends tl) f
body_unsure n at stop k ends tl f nest e h l c =
    let w = top_within n ends nest in
    let o = close_unsure n stop (n - stop) ends tl f nest l (omega arith) c in
    rw (lt-ltb at stop h) at
    (pass_unsure n at stop k (n - stop) ends tl f (omega arith) (omega arith) o)

due_unsure : (n i k : ℕ) (ends : List ℕ) (tl : Tally) (f : Fault) → Nested n ends → i + k ≡ n
    → (x : Due) → Awaits n i x ends tl → Other n k (Open x ends tl) f
unfolding Awaits
due_unsure n i k ends tl f nest e (Tag at) w =
    tag_unsure n ends tl at f k w.1 (top_within n ends nest) (omega (arith, w.0))
due_unsure n i k ends tl f nest e (Length at t) w =
    length_unsure n ends tl at t nest f k w.1 (omega (arith, w.0))
due_unsure n i k ends tl f nest e (One at t) w =
    one_unsure n ends tl at t nest f k w.1 (omega (arith, w.0))
due_unsure n i k ends tl f nest e (First at t) w =
    first_unsure n ends tl at t nest f k w.1 (omega (arith, w.0))
due_unsure n i k ends tl f nest e (Second at t h) w =
    second_unsure n ends tl at t h k f nest (omega (arith, w.0)) w.1 w.2 w.3
due_unsure n i k ends tl f nest e (Body at stop) w =
    body_unsure n at stop k ends tl f nest (omega (arith, w.0)) w.1 w.2 w.3
due_unsure n i k ends tl f nest e Nothing w = absurd w
due_unsure n i k ends tl f nest e (Due.Refused m p after) w = absurd w

pub unsure : (n i k : ℕ) (st : State) (f : Fault) → Given n i st → i + k ≡ n → certainly st ≡ option.none
    → Other n k st f
unfolding certainly Given
unsure n i k (Failed g) f v e q = let z : ◌≡◌ {A = ℕ} 0 1 = cc in absurd (omega arith)
unsure n i k (Done tl) f v e q = let z : k ≡ 0 = omega (arith, v.all) in rw z (done_unsure n tl f)
unsure n i k (Open x ends tl) f v e q = due_unsure n i k ends tl f v.nested e x v.awaits
