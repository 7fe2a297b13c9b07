-- What was stored is read back as it was.
use mathlib.Core.Path.{◌≡◌, refl, ap}
use mathlib.Core.List.{List, ◌++◌}
use Prim.Native.Nat.{ℕ, ◌+◌, ◌*◌, ◌/◌, ◌%◌}
use native.Mathlib.Omega.{arith}
use lib.Seq.{take_at}
use Rattle.header.specs.declared.Due.{Due}
use Rattle.header.specs.declared.Due.TheVariants.{Tag, Length, One, First, Second, Body, Nothing}
use Rattle.stream.specs.declared.Upload.{Upload}
use Rattle.cells.specs.Cells.{end_count, plain_of, cells_of, refusal_of, due_of, plain_in, upload_in}
use Rattle.cells.specs.Fitting.{Small, DueFits, Fitting}

small_same : (n : ℕ) → Small n → n % 256 ≡ n
small_same n h = omega arith

halves_same : (n : ℕ) → n % 65_536 + 65_536 * (n / 65_536) ≡ n
halves_same n = omega arith

due_back : (x : Due) → DueFits x → due_of (plain_of x) ≡ x
unfolding due_of refusal_of
due_back (Tag at) f = refl
due_back (Length at t) f = ap (λ (k : ℕ). Length at k) (small_same t f.1)
due_back (One at t) f = ap (λ (k : ℕ). One at k) (small_same t f.1)
due_back (First at t) f = ap (λ (k : ℕ). First at k) (small_same t f.1)
due_back (Second at t h) f = λ k. Second at (small_same t f.1.0 k) (small_same h f.1.1 k)
due_back (Body at e) f = refl
due_back Nothing f = refl
due_back (Due.Refused n p after) f = λ k. Due.Refused (small_same n f.0 k) p (halves_same after k)

pub read_back : (u : Upload) → Fitting u → (rest : List ℕ) → upload_in (cells_of u ++ rest) ≡ u
unfolding upload_in cells_of plain_in
read_back u f rest =
    let due = due_back u.due f.due in
    let ends = take_at u.ends rest end_count f.twenty in
    let depth = small_same u.depth f.depth in
    let level = small_same u.level f.level in
    λ k. record {
      total = u.total;
      due = due k;
      ends = ends k;
      depth = depth k;
      elements = u.elements;
      level = level k;
    }
