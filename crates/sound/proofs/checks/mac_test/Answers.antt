-- Each way out is the definition's, by the tests and answers on the way.
use mathlib.Core.Path.{◌∙◌, refl}
use Rattle.der.proofs.Choices.{told_true, told_false}
use Rattle.pkcs12.specs.Checks.{is_sealed, mac_test}
use Rattle.range.specs.Range.{lies}
use Rattle.der.specs.Choice.{both}
use Rattle.der.specs.Numbers.{integer_bound}
use lib.Dec.{leb, ltb}
use Rattle.sound.proofs.Rules.{third, counted_from}
use Rattle.sound.proofs.checks.mac_test.Goals.{then-is_sealed, else-is_sealed}
use Rattle.sound.proofs.checks.mac_test.Goals as goal

pub returns-then-lies : goal.returns-then-lies
unfolding mac_test
returns-then-lies c =
    third (is_sealed c.args.bytes.now c.args.mac.parts) (lies c.args.bytes.now c.args.mac.salt) (both (leb 1 c.args.mac.iterations) (ltb c.args.mac.iterations integer_bound)) _ _
    (elim c.if-is_sealed.branch [
      | then-is_sealed w ↦ told_true _ _ _ _ _ c.is_sealed.ensures w.if-is_sealed.true (w.value-is ∙ w.lies.ensures)
      | else-is_sealed w ↦ told_false _ _ _ _ _ c.is_sealed.ensures w.if-is_sealed.false (w.value-is ∙ w.if-is_sealed.false)
    ])
    (told_true _ _ _ _ _ refl c.if-lies.true (counted_from _ c.args.mac.iterations integer_bound c.contains.ensures.value))

pub returns-else-lies : goal.returns-else-lies
unfolding mac_test
returns-else-lies c =
    third (is_sealed c.args.bytes.now c.args.mac.parts) (lies c.args.bytes.now c.args.mac.salt) (both (leb 1 c.args.mac.iterations) (ltb c.args.mac.iterations integer_bound)) _ _
    (elim c.if-is_sealed.branch [
      | then-is_sealed w ↦ told_true _ _ _ _ _ c.is_sealed.ensures w.if-is_sealed.true (w.value-is ∙ w.lies.ensures)
      | else-is_sealed w ↦ told_false _ _ _ _ _ c.is_sealed.ensures w.if-is_sealed.false (w.value-is ∙ w.if-is_sealed.false)
    ])
    (told_false _ _ _ _ _ refl c.if-lies.false c.if-lies.false)
