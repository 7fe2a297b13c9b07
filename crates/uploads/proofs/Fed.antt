-- The laws of feeding bytes to the machine: one byte, one header, and a body that isn't examined.
use mathlib.Core.Path.{◌≡◌, refl, sym, ap, ◌∙◌}
use mathlib.Core.Bool.{Bool, true, false}
use mathlib.Core.List.{List, [], ◌∷◌, ◌++◌}
use Prim.Native.Nat.{ℕ, zero, suc, ◌+◌, ◌*◌, ◌-◌, ◌%◌, ◌≤◌, ◌<◌}
use native.Mathlib.Omega.{arith}
use lib.Dec.{leb, ltb, eqb}
use lib.ListN.{length, get_or, drop, length-drop}
use lib.Seq.{drop-cons, drop-drop}
use borrow.Author.Tests.{lt-ltb, le-ltb, le-leb, lt-leb, ltb-true, leb-true, leb-false}
use Rattle.der.specs.Numbers.{too_many, overrun, tag_form, length_form}
use Rattle.der.specs.Element.{cursor, fault, element_at, on_element, on_result, extent_at, one_octet, two_octets, within}
use Rattle.der.specs.Span.{Bytes}
use Rattle.der.specs.declared.Fault.{Fault}
use Rattle.der.specs.declared.Cursor.{Cursor}
use Rattle.der.specs.Element.{element}
use Rattle.der.specs.declared.Element.{Element}
use Rattle.std.specs.Prelude.{Err, Ok, Result}
use Rattle.der.proofs.Placed.{byte_at, left_is}
use Rattle.header.specs.Numbers.{upload_levels}
use Rattle.header.specs.Header.{entering, on_tag, on_length, on_one, on_first, on_second}
use Rattle.header.specs.declared.Due.{Due}
use Rattle.header.specs.declared.Due.TheVariants.{Tag, Length, One, First, Second, Body}
use Rattle.uploads.specs.Whole.{Tally}
use Rattle.uploads.proofs.Machine.{State, Failed, Open, Done, top, close, passing, unless, body, enter}
use Rattle.uploads.proofs.Machine.{pass, apply, step, feed}

-- a proof by cases of a test
pub cases : {P : Type 0} (t : Bool) → (t ≡ true → P) → (t ≡ false → P) → P
cases true f g = f refl
cases false f g = g refl

-- two portions one after the other are fed as one
pub fed_append : (n : ℕ) (st : State) (p q : List ℕ) → feed n st (p ++ q) ≡ feed n (feed n st p) q
unfolding feed
fed_append n st [] q = refl
fed_append n st (b ∷ p) q = fed_append n (step n st b) p q

-- a fault that is certain stays
pub fed_failed : (n : ℕ) (f : Fault) (t : List ℕ) → feed n (Failed f) t ≡ Failed f
unfolding feed step
fed_failed n f [] = refl
fed_failed n f (b ∷ t) = fed_failed n f t

pub fed_byte : (n : ℕ) (st next : State) (b : ℕ) (bs : List ℕ) → step n st b ≡ next
    → feed n st (b ∷ bs) ≡ feed n next bs
unfolding feed
fed_byte n st next b bs e = ap (λ x. feed n x bs) e

-- one byte that is refused, then the rest
pub fed_refused : (n : ℕ) (st : State) (f : Fault) (b : ℕ) (t : List ℕ)
    → step n st b ≡ Failed f → feed n st (b ∷ t) ≡ Failed f
fed_refused n st f b t e = fed_byte n st (Failed f) b t e ∙ fed_failed n f t

-- the byte that is due: a tag, the first byte of a length, the byte after 81, the first and the
-- second after 82, and one of a body that isn't examined
module _ (n : ℕ) (ends : List ℕ) (tl : Tally) (at t b : ℕ) (bs : List ℕ) where
  pub fed_tag : feed n (Open (Tag at) ends tl) (b ∷ bs)
      ≡ feed n (apply n (Tag at) ends tl (on_tag at b (top n ends))) bs
  unfolding step
  fed_tag = fed_byte n _ _ b bs refl

  pub fed_length : feed n (Open (Length at t) ends tl) (b ∷ bs)
      ≡ feed n (apply n (Length at t) ends tl (on_length at t b (top n ends))) bs
  unfolding step
  fed_length = fed_byte n _ _ b bs refl

  pub fed_one : feed n (Open (One at t) ends tl) (b ∷ bs)
      ≡ feed n (apply n (One at t) ends tl (on_one at t b (top n ends))) bs
  unfolding step
  fed_one = fed_byte n _ _ b bs refl

  pub fed_first : feed n (Open (First at t) ends tl) (b ∷ bs)
      ≡ feed n (apply n (First at t) ends tl (on_first at t b (top n ends) (leb upload_levels (length ends)))) bs
  unfolding step
  fed_first = fed_byte n _ _ b bs refl

  pub fed_second : (h : ℕ) → feed n (Open (Second at t h) ends tl) (b ∷ bs)
      ≡ feed n (apply n (Second at t h) ends tl (on_second at t h b (top n ends))) bs
  unfolding step
  fed_second h = fed_byte n _ _ b bs refl

  pub fed_body : (end : ℕ) → feed n (Open (Body at end) ends tl) (b ∷ bs) ≡ feed n (pass n ends tl at end) bs
  unfolding step
  fed_body end = fed_byte n _ _ b bs refl

-- the bytes from an offset on, one by one
one_more_lem : (s : List ℕ) (i j : ℕ) → i < length s → i + 1 ≡ j → drop i s ≡ get_or s i 0 ∷ drop j s
one_more_lem s i j h e =
    let q : suc i ≡ j = omega arith in
    drop-cons s i 0 h ∙ rw q

-- one header, of an element at `at` within the parent that ends at `top n ends`
module _ (n : ℕ) (s : List ℕ) (ends : List ℕ) (tl : Tally) (at : ℕ) (inside : top n ends ≤ length s) where
  -- what an element leads to: a fault, or the bytes of its body are fed
  abbrev pub leads : Result Element Fault → State
  leads x = on_element x Failed (λ t b m. feed n (enter n ends tl at t b.at b.end) (drop b.at s))

  abbrev found : ℕ → Cursor → Result Element Fault
  found t b = Ok (element t b (cursor b.end (top n ends)))

  within_fed : (x : Due) (t start size : ℕ)
      → feed n (apply n x ends tl (entering at t start size (top n ends))) (drop start s)
      ≡ leads (on_result (within at start size (top n ends)) Err (found t))
  unfolding within entering
  within_fed x t start size =
      cases (ltb (top n ends) (start + size))
      (λ h. rw h (fed_failed n (fault overrun at) (drop start s)))
      (λ h. rw h)

  one_fed : (t : ℕ) → at + 2 < top n ends
      → feed n (Open (One at t) ends tl) (drop (at + 2) s)
      ≡ leads (on_result (one_octet s at (top n ends)) Err (found t))
  unfolding one_octet on_one
  one_fed t h =
      rw (
        one_more_lem s (at + 2) (at + 3) (omega arith) (omega arith),
        fed_one n ends tl at t,
        lt-leb (top n ends) (at + 2) h,
      )
      (cases (ltb (get_or s (at + 2) 0) 128)
      (λ k. rw k (fed_failed n (fault length_form at) (drop (at + 3) s)))
      (λ k. rw k (within_fed (One at t) t (at + 3) (get_or s (at + 2) 0))))

  -- a length of the two octets h and b
  abbrev leads_second : (t h b : ℕ) → State
  leads_second t h b = leads (on_result (within at (at + 4) (h * 256 + b) (top n ends)) Err (found t))

  second_fed : (t h : ℕ) → at + 3 < top n ends
      → feed n (Open (Second at t h) ends tl) (drop (at + 3) s)
      ≡ leads_second t h (get_or s (at + 3) 0)
  unfolding on_second
  second_fed t h i =
      rw (one_more_lem s (at + 3) (at + 4) (omega arith) (omega arith), fed_second n ends tl at t)
      (within_fed (Second at t h) t (at + 4) (h * 256 + get_or s (at + 3) 0))

  -- every length with this first octet is past the parent
  past_all : (t h b : ℕ) → top n ends < at + 4 + h * 256
      → leads_second t h b ≡ Failed (fault overrun at)
  unfolding within
  past_all t h b i = rw (lt-ltb (top n ends) (at + 4 + (h * 256 + b)) (omega arith))

  -- the greatest length with this first octet fits, and the level is too many
  deep_all : (t h b : ℕ) → b < 256 → upload_levels ≤ length ends → at + 4 + h * 256 + 255 ≤ top n ends
      → leads_second t h b ≡ Failed (fault too_many at)
  unfolding within enter
  deep_all t h b j d i =
      rw (le-ltb (top n ends) (at + 4 + (h * 256 + b)) (omega arith), le-leb upload_levels (length ends) d)
      (fed_failed n (fault too_many at) (drop (at + 4) s))

  first_fed : (t : ℕ) → Bytes s → at + 3 < top n ends
      → feed n (Open (First at t) ends tl) (drop (at + 2) s)
      ≡ leads (on_result (two_octets s at (top n ends)) Err (found t))
  unfolding two_octets on_first
  first_fed t bytes i =
      rw (
        one_more_lem s (at + 2) (at + 3) (omega arith) (omega arith),
        fed_first n ends tl at t,
        lt-leb (top n ends) (at + 3) i,
      )
      (cases (eqb h 0)
      (λ j. rw j (fed_failed n (fault length_form at) (drop (at + 3) s)))
      (λ j. cases (ltb (top n ends) (at + 4 + h * 256))
      (λ k. rw (j, k) (fed_failed n (fault overrun at) (drop (at + 3) s) ∙ sym (past_all t h b (ltb-true _ _ k))))
      (λ k. cases (leb upload_levels (length ends))
      (λ l. cases (leb (at + 4 + h * 256 + 255) (top n ends))
      (λ m. rw (j, k, l, m)
      (fed_failed n (fault too_many at) (drop (at + 3) s)
      ∙ sym (deep_all t h b (byte_at s bytes (at + 3)) (leb-true _ _ l) (leb-true _ _ m))))
      (λ m. rw (j, k, l, m) (second_fed t h i)))
      (λ l. rw (j, k, l) (second_fed t h i)))))
    where
      h : ℕ
      h = get_or s (at + 2) 0

      b : ℕ
      b = get_or s (at + 3) 0

  length_fed : (t : ℕ) → Bytes s → at + 1 < top n ends
      → feed n (Open (Length at t) ends tl) (drop (at + 1) s)
      ≡ leads (on_result (extent_at s at (top n ends)) Err (found t))
  unfolding extent_at one_octet two_octets on_length
  length_fed t bytes i =
      rw (
        one_more_lem s (at + 1) (at + 2) (omega arith) (omega arith),
        fed_length n ends tl at t,
        lt-leb (top n ends) (at + 1) i,
      )
      (cases (ltb (get_or s (at + 1) 0) 128)
      (λ j. rw j (within_fed (Length at t) t (at + 2) (get_or s (at + 1) 0)))
      (λ j. cases (eqb (get_or s (at + 1) 0) 129)
      (λ k. rw (j, k) (cases (leb (top n ends) (at + 2))
      (λ l. rw l (fed_failed n (fault overrun at) (drop (at + 2) s)))
      (λ l. rw l (rw l at (one_fed t (leb-false _ _ l))))))
      (λ k. cases (eqb (get_or s (at + 1) 0) 130)
      (λ m. rw (j, k, m) (cases (leb (top n ends) (at + 3))
      (λ l. rw l (fed_failed n (fault overrun at) (drop (at + 2) s)))
      (λ l. rw l (rw l at (first_fed t bytes (leb-false _ _ l))))))
      (λ m. rw (j, k, m) (fed_failed n (fault length_form at) (drop (at + 2) s))))))

  pub tag_fed : Bytes s → at < top n ends
      → feed n (Open (Tag at) ends tl) (drop at s) ≡ leads (element_at s (cursor at (top n ends)))
  unfolding element_at extent_at on_tag
  tag_fed bytes i =
      rw (
        one_more_lem s at (at + 1) (omega arith) (omega arith),
        fed_tag n ends tl at 0,
        left_is s (cursor at (top n ends)) i inside,
      )
      (cases (eqb (get_or s at 0) 0)
      (λ j. rw j (fed_failed n (fault tag_form at) (drop (at + 1) s)))
      (λ j. cases (eqb (get_or s at 0 % 32) 31)
      (λ k. rw (j, k) (fed_failed n (fault tag_form at) (drop (at + 1) s)))
      (λ k. rw (j, k) (cases (leb (top n ends) (at + 1))
      (λ l. rw l (fed_failed n (fault overrun at) (drop (at + 1) s)))
      (λ l. rw l (rw l at (length_fed (get_or s at 0) bytes (leb-false _ _ l))))))))

-- a body that isn't examined, over any bytes
pass_byte : (n : ℕ) (ends : List ℕ) (tl : Tally) (i stop b : ℕ)
    → step n (Open (Body i stop) ends tl) b ≡ passing n ends tl (i + 1) stop
unfolding step pass
pass_byte n ends tl i stop b = refl

pub pass_over : (n : ℕ) (ends : List ℕ) (tl : Tally) (k i stop : ℕ) (t : List ℕ) → i + k ≡ stop → k ≤ length t
    → feed n (passing n ends tl i stop) t ≡ feed n (close n stop ends tl) (drop k t)
pass_over n ends tl zero i stop t e h = rw (le-ltb i stop (omega arith))
pass_over n ends tl (suc k) i stop [] e h = absurd (omega arith)
pass_over n ends tl (suc k) i stop (b ∷ t) e h =
    let now = Open (Body i stop) ends tl in
    let next = passing n ends tl (i + 1) stop in
    rw (lt-ltb i stop (omega arith))
    (fed_byte n now next b t (pass_byte n ends tl i stop b)
    ∙ pass_over n ends tl k (i + 1) stop t (omega arith) (omega arith))

unless_over : (n : ℕ) (ends : List ℕ) (tl : Tally) (k i stop : ℕ) (t : List ℕ) (st : State)
    → close n stop ends tl ≡ st → i + k ≡ stop → k ≤ length t
    → feed n (unless st (passing n ends tl i stop)) t ≡ feed n (close n stop ends tl) (drop k t)
unless_over n ends tl k i stop t (Failed f) s e h =
    fed_failed n f t ∙ sym (ap (λ x. feed n x (drop k t)) s ∙ fed_failed n f (drop k t))
unless_over n ends tl k i stop t (Open x es u) s e h = pass_over n ends tl k i stop t e h
unless_over n ends tl k i stop t (Done u) s e h = pass_over n ends tl k i stop t e h

pub body_over : (n : ℕ) (ends : List ℕ) (tl : Tally) (k i stop : ℕ) (t : List ℕ) → i + k ≡ stop → k ≤ length t
    → feed n (body n ends tl i stop) t ≡ feed n (close n stop ends tl) (drop k t)
unfolding body
body_over n ends tl k i stop t e h = unless_over n ends tl k i stop t (close n stop ends tl) refl e h

-- the same in the bytes of the whole
pub body_fed : (n : ℕ) (s : List ℕ) (ends : List ℕ) (tl : Tally) (i stop : ℕ) → i ≤ stop → stop ≤ length s
    → feed n (body n ends tl i stop) (drop i s) ≡ feed n (close n stop ends tl) (drop stop s)
body_fed n s ends tl i stop h j =
    let k = stop - i in
    let e : i + k ≡ stop = omega arith in
    let z : drop k (drop i s) ≡ drop stop s = drop-drop k i s ∙ ap (λ x. drop x s) e in
    body_over n ends tl k i stop (drop i s) e (rw (length-drop i s) (omega arith))
    ∙ ap (feed n (close n stop ends tl)) z
