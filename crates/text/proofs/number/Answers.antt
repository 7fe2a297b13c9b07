-- The digits behind the name.
use Rattle.buffer.specs.Text.{decimal}
use Rattle.text.specs.Text.{number_text}
use Rattle.buffer.proofs.Wrote.{◌then◌}
use Rattle.text.proofs.number.Goals as goal

pub returns : goal.returns
unfolding decimal number_text
returns c = c.bytes.ensures then c.decimal.ensures
