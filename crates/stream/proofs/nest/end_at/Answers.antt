-- What is at the index, if anything is.
use mathlib.Core.Path.{ap, ◌∙◌}
use Prim.Native.Nat.{ℕ}
use borrow.Author.Rules.{rules}
use Rattle.std.specs.Prelude.{Option, unwrap_or}
use Rattle.stream.proofs.Rules.{end_read}
use Rattle.stream.proofs.nest.end_at.Goals as goal

pub returns : goal.returns
returns c =
    c.unwrap_or.ensures
    ∙ (ap (λ (o : Option ℕ). unwrap_or o 0) c.copied.ensures ∙ end_read _ _ _ (search rules) c.get.ensures.lookup)
