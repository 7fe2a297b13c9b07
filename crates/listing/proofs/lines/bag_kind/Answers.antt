-- By the kind.
use Rattle.buffer.specs.Text.{ascii}
use Rattle.listing.specs.Lines.{kind_text}
use Rattle.listing.proofs.lines.bag_kind.Goals as goal

pub returns-in-None : goal.returns-in-None
unfolding ascii kind_text
returns-in-None c = rw c.in-None.is c.bytes.ensures

pub returns-in-Key : goal.returns-in-Key
unfolding ascii kind_text
returns-in-Key c = rw c.in-Key.is c.bytes-in-Key.ensures

pub returns-in-ShroudedKey : goal.returns-in-ShroudedKey
unfolding ascii kind_text
returns-in-ShroudedKey c = rw c.in-ShroudedKey.is c.bytes-in-ShroudedKey.ensures

pub returns-in-Certificate : goal.returns-in-Certificate
unfolding ascii kind_text
returns-in-Certificate c = rw c.in-Certificate.is c.bytes-in-Certificate.ensures

pub returns-in-Crl : goal.returns-in-Crl
unfolding ascii kind_text
returns-in-Crl c = rw c.in-Crl.is c.bytes-in-Crl.ensures

pub returns-in-Secret : goal.returns-in-Secret
unfolding ascii kind_text
returns-in-Secret c = rw c.in-Secret.is c.bytes-in-Secret.ensures

pub returns-in-Nested : goal.returns-in-Nested
unfolding ascii kind_text
returns-in-Nested c = rw c.in-Nested.is c.bytes-in-Nested.ensures
