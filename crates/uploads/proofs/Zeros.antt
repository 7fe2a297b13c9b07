-- What comes of zeros: after an element they close every element that ends with it, and a fault
-- that follows is at that offset and isn't 3.
use mathlib.Core.Path.{◌≡◌, refl}
use mathlib.Core.List.{List, [], ◌∷◌}
use Prim.Native.Nat.{ℕ, zero, suc, ◌+◌, ◌-◌, ◌/◌, ◌%◌, ◌≤◌, ◌<◌}
use native.Mathlib.Omega.{arith}
use lib.ListN.{length, drop, replicate, length-replicate}
use Rattle.der.specs.Span.{Bytes}
use Rattle.der.specs.Numbers.{left_over, too_many, overrun, tag_form, length_form}
use Rattle.der.specs.Element.{fault}
use Rattle.der.proofs.Choices.{by_lt, by_le, by_eq}
use Rattle.header.specs.Numbers.{upload_levels}
use Rattle.header.specs.Header.{entering, on_tag}
use Rattle.header.specs.declared.Due.{Due}
use Rattle.header.specs.declared.Due.TheVariants.{Tag}
use Rattle.uploads.specs.Whole.{Tally, tallied}
use Rattle.uploads.proofs.Machine.{State, Failed, Open, Done, top, close, body, enter}
use Rattle.uploads.proofs.Machine.{apply, step, feed}
use Rattle.uploads.proofs.Fed.{fed_failed, fed_refused, body_over}
use Rattle.uploads.proofs.Kept.{Nested, top_within}

unfoldable pub zeros : ℕ → List ℕ
zeros k = replicate k 0

pub bytes_zeros : (k : ℕ) → Bytes (zeros k)
unfolding zeros
bytes_zeros zero = tt
bytes_zeros (suc k) = (omega arith, bytes_zeros k)

pub length_zeros : (k : ℕ) → length (zeros k) ≡ k
unfolding zeros
length_zeros k = length-replicate k 0

drop_zeros : (j k m : ℕ) → k ≡ j + m → drop j (zeros k) ≡ zeros m
unfolding zeros
drop_zeros zero k m e = let z : k ≡ m = omega arith in rw z
drop_zeros (suc j) zero m e = absurd (omega arith)
drop_zeros (suc j) (suc k) m e = drop_zeros j k m (omega arith)

-- the number of a fault, and one more than its offset; 0 where there is no fault
unfoldable pub number_of : State → ℕ
number_of (Failed f) = f.number
number_of (Open x ends tl) = 0
number_of (Done tl) = 0

unfoldable pub offset_of : State → ℕ
offset_of (Failed f) = suc f.offset
offset_of (Open x ends tl) = 0
offset_of (Done tl) = 0

-- no fault, or one at p that isn't 3
unfoldable pub FaultAt : ℕ → State → Type 0
FaultAt p (Failed f) = (f.offset ≡ p) × (f.number ≡ length_form → ⊥)
FaultAt p (Open x ends tl) = Unit {0}
FaultAt p (Done tl) = Unit {0}

pub fault_offset : (p q : ℕ) (st : State) → FaultAt p st → offset_of st ≡ suc q → q ≡ p
unfolding offset_of FaultAt
fault_offset p q (Failed f) r e = omega (arith, r.0)
fault_offset p q (Open x ends tl) r e = absurd (omega arith)
fault_offset p q (Done tl) r e = absurd (omega arith)

pub fault_number : (p : ℕ) (st : State) → FaultAt p st → number_of st ≡ length_form → ⊥
unfolding number_of FaultAt
fault_number p (Failed f) r e = r.1 e
fault_number p (Open x ends tl) r e = absurd (omega arith)
fault_number p (Done tl) r e = absurd (omega arith)

-- zeros where a tag is due
tag_zero : (n : ℕ) (ends : List ℕ) (tl : Tally) (at : ℕ)
    → step n (Open (Tag at) ends tl) 0 ≡ Failed (fault tag_form at)
unfolding step on_tag
tag_zero n ends tl at = refl

pub tag_zeros : (n : ℕ) (ends : List ℕ) (tl : Tally) (at k : ℕ)
    → feed n (Open (Tag at) ends tl) (zeros (suc k)) ≡ Failed (fault tag_form at)
unfolding zeros
tag_zeros n ends tl at k =
    fed_refused n (Open (Tag at) ends tl) (fault tag_form at) 0 (zeros k) (tag_zero n ends tl at)

done_zeros : (n : ℕ) (tl : Tally) → feed n (Done tl) (zeros 0) ≡ Done tl
unfolding feed zeros
done_zeros n tl = refl

-- zeros after an element that ends at p
tag_past : (n p k e : ℕ) (es : List ℕ) (tl : Tally) → e ≤ n → p < e → p + k ≡ n
    → FaultAt p (feed n (Open (Tag p) (e ∷ es) tl) (zeros k))
unfolding FaultAt
tag_past n p zero e es tl m l q = absurd (omega arith)
tag_past n p (suc k) e es tl m l q = rw (tag_zeros n (e ∷ es) tl p k) (refl, λ z. absurd (omega arith))

pub close_past : (n p k : ℕ) (ends : List ℕ) (tl : Tally) → Nested n ends → p ≤ top n ends → p + k ≡ n
    → FaultAt p (feed n (close n p ends tl) (zeros k))
unfolding close Nested top FaultAt
close_past n p k [] tl h m q =
    by_lt (λ x. FaultAt p (feed n x (zeros k))) _ _ p n
    (λ l. rw (fed_failed n (fault left_over p) (zeros k)) (refl, λ z. absurd (omega arith)))
    (λ l. let z : k ≡ 0 = omega arith in rw (z, done_zeros n tl) tt)
close_past n p k (e ∷ es) tl h m q =
    by_lt (λ x. FaultAt p (feed n x (zeros k))) _ _ p e
    (λ l. tag_past n p k e es tl (omega (arith, h.0, top_within n es h.1)) l q)
    (λ l. close_past n p k es tl h.1 (omega (arith, h.0)) q)

pub body_past : (n : ℕ) (ends : List ℕ) (tl : Tally) (i stop k : ℕ)
    → Nested n ends → i ≤ stop → stop ≤ top n ends → i + k ≡ n
    → FaultAt stop (feed n (body n ends tl i stop) (zeros k))
body_past n ends tl i stop k nest h m e =
    let w = top_within n ends nest in
    let long : stop - i ≤ length (zeros k) = rw (length_zeros k) (omega arith) in
    rw (body_over n ends tl (stop - i) i stop (zeros k) (omega arith) long)
    (rw (drop_zeros (stop - i) k (n - stop) (omega arith)) (close_past n stop (n - stop) ends tl nest m (omega arith)))

-- zeros after a header: never 3
abbrev pub NotThree : ℕ → ℕ → State → Type 0
NotThree n k st = number_of (feed n st (zeros k)) ≡ length_form → ⊥

pub refused_not : (n k m at : ℕ) → (m ≡ length_form → ⊥) → NotThree n k (Failed (fault m at))
unfolding number_of
refused_not n k m at h p = h (rw (fed_failed n (fault m at) (zeros k)) at p)

module _ (n : ℕ) (ends : List ℕ) (tl : Tally) (at t start k : ℕ) (nest : Nested n ends) (e : start + k ≡ n) where
  pub enter_not : (stop : ℕ) → start ≤ stop → stop ≤ top n ends → NotThree n k (enter n ends tl at t start stop)
  unfolding enter Nested top
  enter_not stop h l =
      let up = tallied (suc (length ends)) tl in
      by_le (NotThree n k) _ _ upload_levels (length ends)
      (λ m. refused_not n k too_many at (λ z. absurd (omega arith)))
      (λ m. by_eq (NotThree n k) _ _ (t / 32 % 2) 0
      (λ j.
      fault_number stop (feed n (body n ends up start stop) (zeros k)) (body_past n ends up start stop k nest h l e))
      (λ j.
      fault_number start (feed n (close n start (stop ∷ ends) up) (zeros k))
      (close_past n start k (stop ∷ ends) up (l, nest) h e)))

  pub entering_not : (x : Due) (size : ℕ) → start ≤ top n ends
      → NotThree n k (apply n x ends tl (entering at t start size (top n ends)))
  unfolding entering
  entering_not x size h =
      by_lt (λ m. NotThree n k (apply n x ends tl m)) _ _ (top n ends) (start + size)
      (λ l. refused_not n k overrun at (λ z. absurd (omega arith)))
      (λ l. enter_not (start + size) (omega arith) l)
