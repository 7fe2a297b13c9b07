-- By the item.
use Rattle.attributes.proofs.Runs.{last_refused, last_done, not_last}
use Rattle.attributes.proofs.is_last.Goals as goal

pub returns-in_default : goal.returns-in_default
returns-in_default c = search last_refused

pub returns-in-Done : goal.returns-in-Done
returns-in-Done c = search last_done

pub returns-in_default-matches : goal.returns-in_default-matches
returns-in_default-matches c = search (not_last, c.in_default-matches.not-Done)
