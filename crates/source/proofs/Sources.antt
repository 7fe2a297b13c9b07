-- What the bytes are that a program read, by what import answered; the line that says so.
use mathlib.Core.Path.{◌≡◌, refl, sym, ap, ◌∙◌}
use mathlib.Core.List.{List}
use Prim.Native.Nat.{ℕ}
use native.Mathlib.Omega.{arith}
use lib.ListN.{length, length-take}
use lib.Seq.{slice}
use Rattle.der.specs.declared.Fault.{Fault}
use Rattle.buffer.specs.declared.write.Out.{Out}
use Rattle.buffer.specs.Wrote.{Wrote}
use Rattle.buffer.proofs.Placing.{placed_end, placed_length}
use Rattle.buffer.specs.Text.{ascii}
use Rattle.std.specs.Prelude.{Err, Ok, Result, MatchResult, IsErrAnd}
use Rattle.text.proofs.Short.{Short, word, number, ◌and◌}
use Rattle.pem.specs.Calls.{imported}
use Rattle.source.specs.Source.{file_as, file_in, unwrapped_line, so_far, answered_as}

-- t was read, and import into the buffer b answered w
module _ (t b : List ℕ) (w : Result ℕ Fault) (p : w ≡ (imported t b).answer) where
  pub file_text : (n : ℕ) (after r : List ℕ) → w ≡ Ok n → after ≡ (imported t b).buffer
      → r ≡ slice 0 n after → r ≡ file_in t b
  unfolding file_as
  file_text n after r e q s = rw (sym p ∙ e, sym q) s

  pub file_bytes_lem : (f : Fault) → w ≡ Err f → t ≡ file_in t b
  unfolding file_as
  file_bytes_lem f e = rw (sym p ∙ e) refl

-- what `map_err` made of the refusals of w
pub answered_lem : (v w r : Result ℕ Fault) → w ≡ v
    → MatchResult w (λ n. r ≡ Ok n) (λ f. IsErrAnd r (λ g. g ≡ so_far f)) → r ≡ answered_as v
unfolding answered_as
answered_lem v (Ok n) r p h = rw (sym p) h
answered_lem v (Err f) (Ok n) p h = absurd h
answered_lem v (Err f) (Err g) p h = rw (sym p) (ap Err h)

line_short : (n : ℕ) → Short 72 (unwrapped_line n)
unfolding unwrapped_line ascii
line_short n = number (ascii "unwrapped ") n and word (ascii " bytes of text: ranges are of these bytes\n")

-- z is what the line leaves of a buffer of 128 bytes: it is handed on whole
pub whole_line : (n r : ℕ) (d e : Out) (part z : List ℕ) → Wrote d (unwrapped_line n) e → d.at ≡ 0
    → 128 ≡ length d.buffer.now → z ≡ e.buffer.now → part ≡ slice 0 e.at z → r ≡ length part
    → r ≡ length (unwrapped_line n)
whole_line n r d e part z w a b t p q =
    let long : length z ≡ length d.buffer.now = ap length t ∙ placed_length w.put in
    let end : e.at ≡ length (unwrapped_line n) =
    placed_end (rw a at w.put) (omega (arith, (line_short n).most)) in
    omega (arith, q, ap length p, length-take e.at z, b, long, end, (line_short n).most)
