-- What is proved of an upload as cells. `cells_of u`: the cells of the upload u. `upload_in s`: the
-- upload that the cells s hold. `Fitting u`: each field of u fits its type, and it has twenty ends.
-- `begun`, `taken`, `status_of`, `ended`: what the calls of `stream` return. `begun_in`, `taken_in`,
-- `status_in`, `end_in`: what the calls on cells return and leave. `storing u s`: the status of u,
-- and the cells s with those of u at the front. `Each Short s`: each cell is below 65,536. `Bytes
-- p`: each number is below 256.
use mathlib.Core.Path.{◌≡◌}
use mathlib.Core.List.{List, ◌++◌}
use Prim.Native.Nat.{ℕ, ◌≤◌}
use lib.ListN.{length}
use Rattle.der.specs.Named.{Each}
use Rattle.der.specs.Span.{Bytes}
use Rattle.stream.specs.declared.Upload.{Upload}
use Rattle.stream.specs.Upload.{begun, taken, status_of, ended}
use Rattle.cells.specs.Cells.{upload_length, cells_of, upload_in, storing, begun_in, taken_in, status_in, end_in}
use Rattle.cells.specs.Fitting.{Short, Fitting}
use Rattle.cells.proofs.Back as back
use Rattle.cells.proofs.Fitting as fitting
use Rattle.cells.proofs.Held as held

-- An upload that fits is read back from its cells as it was, whatever is behind them.
pub stored_read_back : (u : Upload) → Fitting u → (rest : List ℕ) → upload_in (cells_of u ++ rest) ≡ u
stored_read_back = back.read_back

-- Every upload fits at its beginning, and stays so with every portion.
pub begun_fitting : (n : ℕ) → Fitting (begun n)
begun_fitting = fitting.begun_fits

pub taken_fitting : (u : Upload) (p : List ℕ) → Fitting u → Bytes p → Fitting (taken u p)
taken_fitting = fitting.taken_fits

-- So does the upload that any cells hold, if they are enough.
pub held_fitting : (s : List ℕ) → upload_length ≤ length s → Each Short s → Fitting (upload_in s)
held_fitting = held.held_fits

-- A length that is announced, then a portion: the status and the cells are those of the upload.
pub begin_then_take : (n : ℕ) (s p : List ℕ) → upload_length ≤ length s
    → taken_in (begun_in n s).cells p ≡ storing (taken (begun n) p) s
begin_then_take = held.begun_taken

-- One portion after another is the two as one portion: it doesn't matter how the bytes are cut.
pub take_then_take : (s p q : List ℕ) → Each Short s → Bytes p
    → taken_in (taken_in s p).cells q ≡ taken_in s (p ++ q)
take_then_take = held.portions

-- The status and the answer at the end are those of the upload that was stored.
pub status_of_stored : (u : Upload) → Fitting u → (s : List ℕ) → status_in (storing u s).cells ≡ status_of u
status_of_stored = held.stored_status

pub end_of_stored : (u : Upload) → Fitting u → (s : List ℕ) → end_in (storing u s).cells ≡ ended u
end_of_stored = held.stored_end
