-- By the kind, whose identifier is written.
use mathlib.Core.Path.{refl}
use Rattle.pkcs12.specs.Identifiers.{identifier_of}
use Rattle.writer.proofs.Elements.{id_of_lem}
use Rattle.writer.proofs.parts.bag_id.Goals as goal
use Rattle.writer.proofs.parts.bag_id.Goals.{in-None, in-Key, in-ShroudedKey, in-Certificate, in-Crl, in-Secret, in-Nested}

pub returns : goal.returns
unfolding identifier_of
returns c = elim c.match-kind.branch [
  | in-None w ↦ id_of_lem _ _ w.in-None.is _ _ _ _ w.id-is refl c.element.ensures
  | in-Key w ↦ id_of_lem _ _ w.in-Key.is _ _ _ _ w.id-is refl c.element.ensures
  | in-ShroudedKey w ↦ id_of_lem _ _ w.in-ShroudedKey.is _ _ _ _ w.id-is refl c.element.ensures
  | in-Certificate w ↦ id_of_lem _ _ w.in-Certificate.is _ _ _ _ w.id-is refl c.element.ensures
  | in-Crl w ↦ id_of_lem _ _ w.in-Crl.is _ _ _ _ w.id-is refl c.element.ensures
  | in-Secret w ↦ id_of_lem _ _ w.in-Secret.is _ _ _ _ w.id-is refl c.element.ensures
  | in-Nested w ↦ id_of_lem _ _ w.in-Nested.is _ _ _ _ w.id-is refl c.element.ensures
]
