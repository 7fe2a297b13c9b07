-- The elements of the range that is made of the two words.
use Rattle.der.proofs.Promised.{all_bytes}
use Rattle.p12.proofs.Gives.{element_gives}
use Rattle.p12.proofs.p12_element.Goals as goal

pub returns-clause-value : goal.returns-clause-value
returns-clause-value c = (element_gives _ _ _ _ _ c.of_words.ensures c.element-counted.ensures.value).0

pub returns-clause-start_after : goal.returns-clause-start_after
returns-clause-start_after c = (element_gives _ _ _ _ _ c.of_words.ensures c.element-counted.ensures.value).1.0

pub returns-clause-end_after : goal.returns-clause-end_after
returns-clause-end_after c = (element_gives _ _ _ _ _ c.of_words.ensures c.element-counted.ensures.value).1.1

pub returns-clause-bytes : goal.returns-clause-bytes
returns-clause-bytes c = search all_bytes
