-- By the kind.
use mathlib.Core.Logic.{inl, inr}
use Rattle.pkcs12.specs.Encode.{leaf_bytes}
use Rattle.pkcs12.specs.declared.kind.BagKind.{BagKind}
use Rattle.pkcs12.specs.declared.kind.BagKind.TheVariants.{Key, ShroudedKey, Certificate, Crl, Secret, Nested}
use Rattle.sizes.specs.Bodies.{typed_body, content_of}
use Rattle.writer.proofs.Puts.{short_nothing, short_as, sure}
use Rattle.writer.proofs.Elements.{content_of_lem}
use Rattle.writer.proofs.parts.content.Goals as goal

pub returns-in-None : goal.returns-in-None
unfolding content_of
returns-in-None c = elim c.in-None.is [
  | inl e ↦ content_of_lem _ BagKind.None e _ _ _ _ (short_nothing _)
  | inr e ↦ content_of_lem _ Nested e _ _ _ _ (short_nothing _)
]

pub returns-in-Key : goal.returns-in-Key
unfolding content_of leaf_bytes
returns-in-Key c =
    content_of_lem _ Key c.in-Key.is _ _ _ _ (short_as c.part.ensures (sure c.bytes.ensures))

pub returns-in-ShroudedKey : goal.returns-in-ShroudedKey
unfolding content_of leaf_bytes
returns-in-ShroudedKey c =
    content_of_lem _ ShroudedKey c.in-ShroudedKey.is _ _ _ _ c.sealed.ensures

pub returns-in-Certificate : goal.returns-in-Certificate
unfolding content_of leaf_bytes typed_body
returns-in-Certificate c = elim c.in-Certificate.is [
  | inl e ↦ content_of_lem _ Certificate e _ _ _ _ c.typed.ensures
  | inr (inl e) ↦ content_of_lem _ Crl e _ _ _ _ c.typed.ensures
  | inr (inr e) ↦ content_of_lem _ Secret e _ _ _ _ c.typed.ensures
]
