-- By the kind.
use Rattle.buffer.specs.Text.{ascii}
use Rattle.listing.specs.Lines.{safe_text}
use Rattle.buffer.proofs.Wrote.{◌then◌}
use Rattle.listing.proofs.lines.safe_kind.Goals as goal

pub returns-in-None : goal.returns-in-None
unfolding ascii safe_text
returns-in-None c = rw c.in-None.is c.bytes.ensures

pub returns-in-Plain : goal.returns-in-Plain
unfolding ascii safe_text
returns-in-Plain c =
    rw c.in-Plain.is c.bytes-in-Plain.ensures

pub returns-in-Encrypted : goal.returns-in-Encrypted
unfolding ascii safe_text
returns-in-Encrypted c =
    rw c.in-Encrypted.is (c.bytes-in-Encrypted.ensures then c.sealed.ensures)
