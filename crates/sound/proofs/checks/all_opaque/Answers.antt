-- The cursor is over all of the bytes, and its check passed or was refused.
use Rattle.sound.proofs.Rules.{all_checked}
use Rattle.sound.proofs.checks.all_opaque.Goals as goal

pub returns : goal.returns
returns c = search all_checked
