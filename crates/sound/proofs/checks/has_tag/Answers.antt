-- The first byte is the part's own, and where there is none it is 0.
use mathlib.Core.Path.{◌∙◌}
use Rattle.pkcs12.specs.Checks.{has_tag}
use Rattle.sound.proofs.Rules.{tag_of}
use Rattle.sound.proofs.checks.has_tag.Goals as goal

pub returns : goal.returns
unfolding has_tag
returns c =
    tag_of _ _ _ _ c.copied.result c.part.ensures (c.copied.ensures ∙ c.first.ensures.value) c.unwrap_or.ensures
