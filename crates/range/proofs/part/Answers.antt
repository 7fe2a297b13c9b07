-- The bytes before the end, and of these the bytes from the start on.
use mathlib.Core.Path.{refl}
use Rattle.range.proofs.Cut.{cut_before, cut_from}
use Rattle.range.proofs.part.Goals as goal

pub returns : goal.returns
returns c =
    cut_from _ _ _ _ (cut_before _ _ _ c.get.ensures.lookup.0 _ _ c.unwrap_or-there.ensures refl) _ c.min.ensures
