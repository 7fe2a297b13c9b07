-- Each way out is the definition's, by the tests and answers on the way.
use mathlib.Core.Path.{◌∙◌, refl}
use Rattle.der.proofs.Choices.{told_true, told_false}
use Rattle.pkcs12.specs.Checks.{names_type, holds_at_most_one, is_sealed}
use Rattle.range.specs.Range.{lies}
use Rattle.sound.proofs.Rules.{third}
use Rattle.sound.proofs.checks.is_sealed.Goals.{then-names_type, else-names_type}
use Rattle.sound.proofs.checks.is_sealed.Goals as goal

pub returns-then-holds_at_most_one : goal.returns-then-holds_at_most_one
unfolding is_sealed
returns-then-holds_at_most_one c =
    third (names_type c.args.bytes.now c.args.parts.identifier) (holds_at_most_one c.args.bytes.now c.args.parts.parameters) (lies c.args.bytes.now c.args.parts.value) _ _
    (elim c.if-names_type.branch [
      | then-names_type w ↦ told_true _ _ _ _ _ c.names_type.ensures w.if-names_type.true (w.value-is ∙ w.holds_at_most_one.ensures)
      | else-names_type w ↦ told_false _ _ _ _ _ c.names_type.ensures w.if-names_type.false (w.value-is ∙ w.if-names_type.false)
    ])
    (told_true _ _ _ _ _ refl c.if-holds_at_most_one.true c.lies.ensures)

pub returns-else-holds_at_most_one : goal.returns-else-holds_at_most_one
unfolding is_sealed
returns-else-holds_at_most_one c =
    third (names_type c.args.bytes.now c.args.parts.identifier) (holds_at_most_one c.args.bytes.now c.args.parts.parameters) (lies c.args.bytes.now c.args.parts.value) _ _
    (elim c.if-names_type.branch [
      | then-names_type w ↦ told_true _ _ _ _ _ c.names_type.ensures w.if-names_type.true (w.value-is ∙ w.holds_at_most_one.ensures)
      | else-names_type w ↦ told_false _ _ _ _ _ c.names_type.ensures w.if-names_type.false (w.value-is ∙ w.if-names_type.false)
    ])
    (told_false _ _ _ _ _ refl c.if-holds_at_most_one.false c.if-holds_at_most_one.false)
