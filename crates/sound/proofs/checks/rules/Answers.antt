-- Each way out is the definition's, by the tests and answers on the way. The rows are there, since
-- the counts fit.
use mathlib.Core.Path.{◌∙◌, refl}
use Rattle.pkcs12.specs.Checks.{keeps_rules, rows_test}
use Rattle.der.proofs.Choices.{told_true, told_false, denied}
use Rattle.sound.proofs.Rules.{fourth, safes_fit, bags_fit, attributes_fit}
use Rattle.sound.proofs.checks.rules.Goals.{then-safes_test, else-safes_test, then-bags_test, else-bags_test}
use Rattle.sound.proofs.checks.rules.Goals as goal

pub returns-then-not-counts_fit : goal.returns-then-not-counts_fit
unfolding keeps_rules rows_test
returns-then-not-counts_fit c = search denied

pub safes_test-requires : goal.safes_test-requires
safes_test-requires c = search safes_fit

pub bags_test-requires : goal.bags_test-requires
bags_test-requires c = search bags_fit

pub attributes_test-requires : goal.attributes_test-requires
attributes_test-requires c = search attributes_fit

pub returns-then-attributes_test : goal.returns-then-attributes_test
unfolding keeps_rules rows_test
returns-then-attributes_test c =
    told_true _ _ _ _ _ c.counts_fit.ensures c.if-not-counts_fit.false
    (fourth _ _ _ _ c.if-safes_test.value c.if-bags_test.value _
    (elim c.if-safes_test.branch [
      | then-safes_test w ↦ told_true _ _ _ _ _ c.safes_test.ensures w.if-safes_test.true (w.value-is ∙ w.bags_test.ensures)
      | else-safes_test w ↦ told_false _ _ _ _ _ c.safes_test.ensures w.if-safes_test.false (w.value-is ∙ w.if-safes_test.false)
    ])
    (elim c.if-bags_test.branch [
      | then-bags_test w ↦ told_true _ _ _ _ _ refl w.if-bags_test.true (w.value-is ∙ w.attributes_test.ensures)
      | else-bags_test w ↦ told_false _ _ _ _ _ refl w.if-bags_test.false (w.value-is ∙ w.if-bags_test.false)
    ])
    (told_true _ _ _ _ _ refl c.if-attributes_test.true c.mac_test.ensures))

pub returns-else-attributes_test : goal.returns-else-attributes_test
unfolding keeps_rules rows_test
returns-else-attributes_test c =
    told_true _ _ _ _ _ c.counts_fit.ensures c.if-not-counts_fit.false
    (fourth _ _ _ _ c.if-safes_test.value c.if-bags_test.value _
    (elim c.if-safes_test.branch [
      | then-safes_test w ↦ told_true _ _ _ _ _ c.safes_test.ensures w.if-safes_test.true (w.value-is ∙ w.bags_test.ensures)
      | else-safes_test w ↦ told_false _ _ _ _ _ c.safes_test.ensures w.if-safes_test.false (w.value-is ∙ w.if-safes_test.false)
    ])
    (elim c.if-bags_test.branch [
      | then-bags_test w ↦ told_true _ _ _ _ _ refl w.if-bags_test.true (w.value-is ∙ w.attributes_test.ensures)
      | else-bags_test w ↦ told_false _ _ _ _ _ refl w.if-bags_test.false (w.value-is ∙ w.if-bags_test.false)
    ])
    (told_false _ _ _ _ _ refl c.if-attributes_test.false c.if-attributes_test.false))
