-- Three lines; the counts are those of the definition.
use Rattle.listing.specs.Lines.{head_lines}
use Rattle.buffer.proofs.Wrote.{◌then◌}
use Rattle.listing.proofs.head.Goals as goal

pub returns : goal.returns
unfolding head_lines
returns c =
    c.file_line.ensures
    then (rw (c.min-safes.ensures, c.min-bags.ensures, c.min-attributes.ensures) at c.counts_line.ensures)
    then c.mac_line.ensures
