-- Words stored one behind another, and zeros.
use mathlib.Core.Path.{◌≡◌, sym, ap, ◌∙◌}
use mathlib.Core.List.{List, [], ◌∷◌, ◌++◌, append_assoc}
use Prim.Native.Nat.{ℕ, ◌+◌, ◌-◌, ◌≤◌}
use native.Mathlib.Omega.{arith}
use lib.ListN.{length, take, drop, replicate, length-take, length-drop, length-replicate}
use lib.Seq.{drop-drop, length-sets, sets-eq}
use borrow.Rule.Slice.PartMut.{put_mid}
use Rattle.buffer.proofs.Placing.{sets_then}
use Rattle.words.specs.Steps.{StoredAt}

-- y is stored behind x
pub stored_then : {d : List ℕ} {at : ℕ} {x m : List ℕ} {p : ℕ} {y e : List ℕ}
    → StoredAt d at x m → StoredAt m p y e → p ≡ at + length x → StoredAt d at (x ++ y) e
stored_then {d} {at} {x} {y = y} f g q = record { words = g.words ∙ rw (f.words, q) (sym (sets_then x y d at)) }

-- one word, as the code has it, before others
pub word_then : {d : List ℕ} {at w v : ℕ} {m : List ℕ} {p : ℕ} {y e : List ℕ}
    → w ≡ v → StoredAt d at (w ∷ []) m → StoredAt m p y e → p ≡ at + 1 → StoredAt d at (v ∷ y) e
word_then q f g h = stored_then (rw q at f) g h

-- the same of the last one
pub word_last : {d : List ℕ} {at w v : ℕ} {e : List ℕ} → w ≡ v → StoredAt d at (w ∷ []) e → StoredAt d at (v ∷ []) e
word_last q f = rw q at f

pub stored_length : {d : List ℕ} {at : ℕ} {x e : List ℕ} → StoredAt d at x e → length e ≡ length d
stored_length {d} {at} {x} f = ap length f.words ∙ length-sets d at x

-- zeros z in place of the words from one offset up to another
pub zeros_stored : (m z : List ℕ) (from to : ℕ) → from ≤ to → to ≤ length m
    → z ≡ replicate (length (take (to - from) (drop from m))) 0
    → StoredAt m from (replicate (to - from) 0) (put_mid from (to - from) m z)
zeros_stored m z from to h k e =
    let n : length (take (to - from) (drop from m)) ≡ to - from =
    omega (arith, length-take (to - from) (drop from m), length-drop from m, h, k) in
    let zeros : List ℕ = replicate (to - from) 0 in
    let l : length zeros ≡ to - from = length-replicate {A = ℕ} (to - from) 0 in
    let same : z ≡ zeros = rw n at e in
    let rest : drop (to - from) (drop from m) ≡ drop (from + length zeros) m =
    drop-drop (to - from) from m ∙ ap (λ (j : ℕ). drop (from + j) m) (sym l) in
    record {
      words =
          ap (put_mid from (to - from) m) same
          ∙ ap (λ (y : List ℕ). take from m ++ (zeros ++ y)) rest
          ∙ sym (append_assoc (take from m) zeros (drop (from + length zeros) m))
          ∙ sym (sets-eq zeros m from (omega (arith, l, h, k)));
    }
