-- The outcomes of a call that writes into a caller's buffer.
use mathlib.Core.Path.{◌≡◌, refl, sym, ap, ◌∙◌}
use mathlib.Core.List.{List}
use Prim.Native.Nat.{ℕ, ◌≤◌, ◌<◌}
use native.Mathlib.Omega.{arith}
use lib.ListN.{length}
use borrow.Author.Tests.{lt-ltb, le-ltb}
use Rattle.der.specs.Element.{fault}
use Rattle.buffer.specs.Numbers.{short_buffer}
use Rattle.buffer.specs.Placed.{greatest, Placed}
use Rattle.buffer.specs.Written.{Outcome, refusal, success, into_buffer}
use Rattle.der.specs.declared.Fault.{Fault}
use Rattle.std.specs.Prelude.{Err, Ok, Result}
use Rattle.buffer.proofs.Placing.{placed_whole}

-- the answer and the buffer of a refusal
module _ (o : Outcome) (number : ℕ) (buffer : List ℕ) (e : o ≡ refusal number buffer) where
  pub refusal_answer : (r : Result ℕ Fault) → r ≡ Err (fault number 0) → r ≡ o.answer
  refusal_answer r p = p ∙ sym (ap (λ (x : Outcome). x.answer) e)

  pub refusal_buffer : buffer ≡ o.buffer
  refusal_buffer = sym (ap (λ (x : Outcome). x.buffer) e)

-- a text into a buffer that is long enough
module _ (x buffer : List ℕ) where
  pub written : length x ≤ length buffer → into_buffer x buffer ≡ success x buffer
  unfolding into_buffer
  written h = rw (le-ltb (length buffer) (length x) h) refl

  -- the answer and the buffer of what code does with a text whose length it knows
  module _ (n : ℕ) (p : n ≡ length x) where
    pub too_short : length buffer < n
        → (Err (fault short_buffer 0) ≡ (into_buffer x buffer).answer) × (buffer ≡ (into_buffer x buffer).buffer)
    unfolding into_buffer
    too_short h = rw (lt-ltb (length buffer) (length x) (omega (arith, h, p))) (refl, refl)

    pub wrote : n ≤ length buffer → length x ≤ greatest → (z : List ℕ) (r : ℕ) → Placed buffer 0 x z r
        → (Ok n ≡ (into_buffer x buffer).answer) × (z ≡ (into_buffer x buffer).buffer)
    wrote h g z r w =
        let fits : length x ≤ length buffer = omega (arith, h, p) in
        rw (written fits) (ap {B = (Result ℕ Fault)} Ok p, placed_whole w fits g)
