-- How many bytes are handed on: of what a call left in a buffer, of the line of a refusal, and of a
-- byte in hexadecimal.
use mathlib.Core.Path.{◌≡◌, ◌∙◌, refl, sym, subst}
use mathlib.Core.List.{List}
use Prim.Native.Nat.{ℕ, ◌≤◌, ◌<◌, ◌^◌, ◌-◌}
use native.Mathlib.Nat.{pow-le-pow_right}
use native.Mathlib.Omega.{arith}
use lib.ListN.{length}
use borrow.Author.Tests.{le-ltb}
use Rattle.der.specs.declared.Fault.{Fault}
use Rattle.der.proofs.Choices.{either}
use Rattle.text.specs.Text.{refused_line}
use Rattle.text.proofs.Short.{refused_line_lem}
use Rattle.std.specs.Prelude.{Result, Ok, Err, IfOk}
use Rattle.io.specs.Digits.{IsDigitCount}
use Rattle.std.specs.Prelude.{Option, OnErr, OnOk, take}
use Rattle.std.specs.Io.KnownBytes.{Appends}
use Rattle.std.proofs.Common.{drop, ◌++◌}
use lib.Seq.{take-append_seam}
use Rattle.buffer.specs.Placed.{Placed}
use Rattle.buffer.specs.Wrote.{Wrote}
use Rattle.buffer.specs.declared.write.Out.{Out}
use Rattle.buffer.proofs.Placing.{placed_end, placed_length, placed_whole}
use Rattle.stdio.specs.Handed.{Begun, front, handed, handed_bytes}

-- what follows of a value follows of the value that a call returned, if it did
pub at_ok : {T E : Type 0} (r : Result T E) (P Q : T → Type 0) → ((x : T) → P x → Q x) → IfOk r P → IfOk r Q
at_ok (Ok x) P Q f h = f x h
at_ok (Err e) P Q f h = h

module _ (buffer : List ℕ) (result : Result ℕ Fault) where
  pub of_length : (n r : ℕ) → result ≡ Ok n → r ≡ front buffer n → r ≡ handed buffer result
  unfolding handed
  of_length n r e p = rw e p

  pub bytes_of_length : (n : ℕ) → result ≡ Ok n → take (front buffer n) buffer ≡ handed_bytes buffer result
  unfolding handed_bytes
  bytes_of_length n e = rw e refl

  pub bytes_of_refusal : (f : Fault) → result ≡ Err f → refused_line f ≡ handed_bytes buffer result
  unfolding handed_bytes
  bytes_of_refusal f e = rw e refl

  pub of_refusal : (f : Fault) (r : ℕ) → result ≡ Err f → r ≡ length (refused_line f)
      → r ≡ handed buffer result
  unfolding handed
  of_refusal f r e p = rw e p

-- z is what the line of a refusal leaves of a buffer of 64 bytes
module _ (f : Fault) (q e : Out) (z : List ℕ) (w : Wrote q (refused_line f) e) (a : q.at ≡ 0)
    (b : 64 ≡ length q.buffer.now) (s : z ≡ e.buffer.now) where
  put : Placed q.buffer.now 0 (refused_line f) z e.at
  put = rw s (rw a at w.put)

  short : length (refused_line f) ≤ 53
  short = (refused_line_lem f).most

  all : e.at ≡ length (refused_line f)
  all = placed_end put (omega (arith, short))

  handed_on : front z e.at ≡ e.at
  handed_on = rw (le-ltb (length z) e.at (omega (arith, b, placed_length put, all, short))) refl

  -- the line is handed on whole
  pub whole_line : (r : ℕ) → r ≡ front z e.at → r ≡ length (refused_line f)
  whole_line r h = h ∙ handed_on ∙ all

  -- and as it is
  pub whole_text : take (front z e.at) z ≡ refused_line f
  whole_text =
      let x : List ℕ = refused_line f in
      let is : z ≡ x ++ drop (length x) q.buffer.now = placed_whole put (omega (arith, b, short)) (omega (arith, short)) in
      rw (handed_on, all, is) (take-append_seam x (drop (length x) q.buffer.now))

-- what is handed on is equal, so it is what the output gets
pub equal_bytes : {E : Type 0} (r : Result ℕ E) (before after : Option (List ℕ)) (x y : List ℕ) → x ≡ y
    → OnOk r (Appends before after x) → OnOk r (Appends before after y)
equal_bytes r before after x y e h =
    at_ok r (λ _. Appends before after x) (λ _. Appends before after y) (λ k q. subst (Appends before after) e q) h

-- what was to be handed on is equal, so an error leaves the first of it
pub equal_begun : {E : Type 0} (r : Result ℕ E) (before after : Option (List ℕ)) (x y : List ℕ) → x ≡ y
    → OnErr r (Begun before after x) → OnErr r (Begun before after y)
equal_begun r before after x y e h = subst (λ (l : List ℕ). OnErr r (Begun before after l)) e h

-- of a number as many digits as it has are handed on
pub all_digits : (base least n k r : ℕ) → r ≡ k → IsDigitCount base least n k → IsDigitCount base least n r
all_digits base least n k r p d = subst (IsDigitCount base least n) (sym p) d

-- a byte has no more than two digits
pub two_digits : (b r : ℕ) → b < 256 → IsDigitCount 16 2 b r → r ≡ 2
two_digits b r h d = either 2 r (λ l. absurd (omega (arith, h, d.2 l, more l))) (λ l. omega (arith, l, d.0))
  where
    more : 2 < r → 16 ^ 2 ≤ 16 ^ (r - 1)
    more l = let k : 2 ≤ r - 1 = omega (arith, l) in let z : 0 < 16 = omega arith in pow-le-pow_right z k
