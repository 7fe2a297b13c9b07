-- A safe by its head: refused, with its row, or plain with its bags.
use native.Mathlib.Omega.{arith}
use Rattle.der.proofs.Choices.{handed}
use Rattle.reader.proofs.OneSafe.{safe_refused, sealed_few, sealed_fits, sealed_went, plain_requires}
use Rattle.reader.proofs.OneSafe.{plain_shown}
use Rattle.reader.proofs.rows.safe.Goals as goal

pub returns-in_err-parts : goal.returns-in_err-parts
returns-in_err-parts c =
    safe_refused _ _ _ c.args.c c.requires _ c.safe.ensures _ _ c.in_err-parts.was (handed _ _ c.from_residual.ensures)

pub overflow_add-more : goal.overflow_add-more
overflow_add-more c =
    omega (
      arith,
      sealed_few _ _ _ c.args.c c.requires _ c.safe.ensures _ c.in_ok-parts.was _ _ _ c.in-Encrypted.is,
    )

pub overflow_add-more-in-Encrypted : goal.overflow_add-more-in-Encrypted
overflow_add-more-in-Encrypted c =
    sealed_fits _ _ _ c.args.c c.requires _ c.safe.ensures _ c.in_ok-parts.was _ _ _ c.in-Encrypted.is c.args.s.fits

pub plain_safe-requires : goal.plain_safe-requires
plain_safe-requires c =
    plain_requires _ _ _ c.args.c c.requires _ c.safe.ensures _ c.in_ok-parts.was _ _ _ _ c.in-Plain.is

pub returns-in-Encrypted : goal.returns-in-Encrypted
returns-in-Encrypted c =
    sealed_went _ _ _ c.args.c c.requires _ c.safe.ensures _ c.in_ok-parts.was _ _ _ c.in-Encrypted.is _
    c.safe_row.ensures _ c.safe-in-Encrypted.ensures

pub returns-in-Plain : goal.returns-in-Plain
returns-in-Plain c =
    plain_shown _ _ _ c.args.c c.requires _ c.safe.ensures _ c.in_ok-parts.was _ _ _ _ c.in-Plain.is _ _
    c.plain_safe.ensures
