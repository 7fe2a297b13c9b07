-- By the kind.
use Rattle.buffer.specs.Text.{ascii}
use Rattle.listing.specs.Lines.{parts_text}
use Rattle.buffer.proofs.Wrote.{wrote_nothing}
use mathlib.Core.Logic.{inl, inr}
use Rattle.listing.proofs.lines.bag_parts.Goals as goal

pub returns-in-None : goal.returns-in-None
unfolding parts_text
returns-in-None c = elim c.in-None.is [ inl e ↦ rw e (wrote_nothing _) | inr e ↦ rw e (wrote_nothing _) ]

pub returns-in-Key : goal.returns-in-Key
unfolding ascii parts_text
returns-in-Key c = rw c.in-Key.is c.range.ensures

pub returns-in-ShroudedKey : goal.returns-in-ShroudedKey
unfolding parts_text
returns-in-ShroudedKey c = rw c.in-ShroudedKey.is c.sealed.ensures

pub returns-in-Certificate : goal.returns-in-Certificate
unfolding parts_text
returns-in-Certificate c =
    elim c.in-Certificate.is [
      | inl e ↦ rw e c.typed.ensures
      | inr o ↦ elim o [ inl e ↦ rw e c.typed.ensures | inr e ↦ rw e c.typed.ensures ]
    ]
