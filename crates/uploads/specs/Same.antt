-- What the check of the whole is shown to be: the opaque check of `der`, and that of a tree.
use Rattle.std.specs.Prelude.{◌≡◌, List, ℕ, ◌≤◌}
use Rattle.der.specs.Element.{cursor, whole_of, finish_at}
use Rattle.der.specs.Opaque.{on_checked, opaque_at}
use Rattle.der.specs.Tree.{Tree, encode, depth, Formed}
use Rattle.der.specs.Tree as trees
use Rattle.der.specs.Element.{checked}
use Rattle.der.specs.declared.Checked.{Checked}
use Rattle.der.specs.declared.Fault.{Fault}
use Rattle.std.specs.Prelude.{Err, Ok, Result}
use Rattle.header.specs.Numbers.{upload_levels}
use Rattle.uploads.specs.Whole.{Tally, Answer, Refused, Passed}

-- one opaque element of 20 levels at most from offset 0 on, then no byte left; the number of
-- elements
unfoldable pub opaque_then_finish : List ℕ → Result Checked Fault
opaque_then_finish s =
    on_checked (opaque_at upload_levels s (whole_of s))
    Err
    (λ m n. on_checked (finish_at n) Err (λ z e. Ok (checked m e)))

-- the answer for e bytes without its greatest level
unfoldable pub forgotten : ℕ → Answer → Result Checked Fault
forgotten e (Refused f) = Err f
forgotten e (Passed tl) = Ok (checked tl.elements (cursor e e))

-- s is what a tree of 20 levels at most is written as, and the tally is the tree's
pub record PassedTree (s : List ℕ) (tl : Tally) : Type 0 where
  pub tree : Tree
  pub formed : Formed tree
  pub bytes : encode tree ≡ s
  pub elements : trees.elements tree ≡ tl.elements
  pub level : depth tree ≡ tl.level
  pub levels : depth tree ≤ upload_levels
