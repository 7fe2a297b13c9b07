-- Each way out is the definition's, by the tests and answers on the way; the count of a value is
-- small.
use Rattle.parts.proofs.Rules.{in-files}
use Rattle.reader.proofs.Heads.{small-values, values}
use Rattle.reader.proofs.bags.bag_value.Goals as goal

pub leaf-requires : goal.leaf-requires
leaf-requires c = search small-values

pub leaf-requires-in-ShroudedKey : goal.leaf-requires-in-ShroudedKey
leaf-requires-in-ShroudedKey c = search small-values

pub leaf-requires-in-Certificate : goal.leaf-requires-in-Certificate
leaf-requires-in-Certificate c = search small-values

pub leaf-requires-in-Crl : goal.leaf-requires-in-Crl
leaf-requires-in-Crl c = search small-values

pub leaf-requires-in-Secret : goal.leaf-requires-in-Secret
leaf-requires-in-Secret c = search small-values

pub returns-in-None : goal.returns-in-None
returns-in-None c = search (values, in-files)

pub returns-in-Key : goal.returns-in-Key
returns-in-Key c = search (values, in-files)

pub returns-in-ShroudedKey : goal.returns-in-ShroudedKey
returns-in-ShroudedKey c = search (values, in-files)

pub returns-in-Certificate : goal.returns-in-Certificate
returns-in-Certificate c = search (values, in-files)

pub returns-in-Crl : goal.returns-in-Crl
returns-in-Crl c = search (values, in-files)

pub returns-in-Secret : goal.returns-in-Secret
returns-in-Secret c = search (values, in-files)

pub returns-in-Nested : goal.returns-in-Nested
returns-in-Nested c = search (values, in-files)
