-- Every accepted file passes the check of an upload. `Bytes f`: each number of the list is below
-- 256. `IsAccepted f`: `read_file f` accepts. `Follows f x`: f is what the valid reading x is
-- written as, and has at most 65,535 bytes. `Passes f`: `whole f` passes, and the greatest level
-- is at most 20.
use mathlib.Core.Path.{sym, ap, ◌∙◌}
use mathlib.Core.List.{List}
use Prim.Native.Nat.{ℕ, ◌≤◌}
use native.Mathlib.Omega.{arith}
use lib.ListN.{length}
use Rattle.der.specs.Span.{Bytes}
use Rattle.der.specs.Tree.{encode, elements, depth}
use Rattle.buffer.specs.Numbers.{file_bytes}
use Rattle.header.specs.Numbers.{upload_levels}
use Rattle.pkcs12.specs.Syntax.{Pfx}
use Rattle.pkcs12.specs.Accepted.{IsAccepted, Follows}
use Rattle.pkcs12.proofs.Theorems.{accepted_iff_follows}
use Rattle.uploads.specs.Whole.{whole}
use Rattle.uploads.proofs.Grown.{tree_passes}
use Rattle.passing.specs.Passing.{Passes}
use Rattle.passing.proofs.Trees.{TreeOf}
use Rattle.passing.proofs.File.{file_tree}

-- what one tree of 20 levels at most is written as passes, if it is no longer than a file
one_tree_passes : (f : List ℕ) → TreeOf upload_levels f → length f ≤ file_bytes → Passes f
one_tree_passes f a h =
    let n : length (encode a.tree) ≤ file_bytes = rw a.bytes h in
    record {
      tally = record { elements = elements a.tree; level = depth a.tree };
      passes = sym (ap whole a.bytes) ∙ tree_passes a.tree (a.formed (omega arith)) a.levels n;
      level = omega (arith, a.levels);
    }

-- What follows the standard passes.
pub follows_passes : (f : List ℕ) (x : Pfx) → Follows f x → Passes f
follows_passes f x w = one_tree_passes f (rw w.written at (file_tree x w.valid)) w.size

-- Every file that reading accepts passes the check of the whole upload, at a level of at most 20.
pub accepted_passes : (f : List ℕ) → Bytes f → IsAccepted f → Passes f
accepted_passes f b a = let p = (accepted_iff_follows f b).0 a in follows_passes f p.0 p.1
