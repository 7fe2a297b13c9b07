-- By the answer.
use Rattle.buffer.specs.Text.{ascii}
use Rattle.pair_lines.specs.Lines.{answer_text}
use Rattle.pair_lines.proofs.answer_text.Goals as goal

pub returns-in-Ok : goal.returns-in-Ok
unfolding ascii answer_text
returns-in-Ok c =
    rw c.in-Ok.is c.number.ensures

pub returns-in-Err : goal.returns-in-Err
unfolding ascii answer_text
returns-in-Err c =
    rw c.in-Err.is c.number-in-Err.ensures
