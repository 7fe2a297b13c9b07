-- Each way out is the definition's: the cursor is over all of the bytes, and its check passed or
-- was refused.
use Rattle.sound.proofs.Rules.{one_refused, one_passed}
use Rattle.sound.proofs.checks.one_opaque.Goals as goal

pub returns-in-Ok : goal.returns-in-Ok
returns-in-Ok c = search one_passed

pub returns-in-Err : goal.returns-in-Err
returns-in-Err c = search one_refused
