-- Each way out is the definition's (Whole), by what the callees returned.
use mathlib.Core.Path.{refl}
use Rattle.der.proofs.Choices.{handed}
use Rattle.reader.proofs.Whole.{read_long, read_refused, input_from, input_to, safes_refused, close_refused}
use Rattle.reader.proofs.Whole.{close_fits, close_found}
use Rattle.reader.proofs.walk.Goals as goal

pub returns-in_default : goal.returns-in_default
returns-in_default c = read_long _ _ (c.in_default.ensures.none.0 refl)

pub returns-in_err-opened : goal.returns-in_err-opened
returns-in_err-opened c =
    rw (← c.in-Some.ensures.same)
    (read_refused _ c.in-Some.s.fits _ c.over.ensures _ c.open.ensures _ _ _ c.in_err-opened.was
    (handed _ _ c.from_residual.ensures))

pub safes-requires : goal.safes-requires
safes-requires c = (
  c.requires,
  input_from _ c.in-Some.s.fits _ c.over.ensures _ c.open.ensures _ c.in_ok-opened.was,
  input_to _ c.in-Some.s.fits _ c.over.ensures _ c.open.ensures _ c.in_ok-opened.was,
)

pub returns-in_err-all : goal.returns-in_err-all
returns-in_err-all c =
    rw (← c.in-Some.ensures.same)
    (safes_refused _ c.in-Some.s.fits _ c.over.ensures _ c.open.ensures _ c.in_ok-opened.was _ _ c.safes.ensures _ _
    c.in_err-all.was (handed _ _ c.from_residual-in_err-all.ensures))

pub returns-in_err-end : goal.returns-in_err-end
returns-in_err-end c =
    rw (← c.in-Some.ensures.same)
    (close_refused _ c.in-Some.s.fits _ c.over.ensures _ c.open.ensures _ c.in_ok-opened.was _ _ c.safes.ensures _
    c.in_ok-all.was _ c.close.ensures _ _ c.in_err-end.was (handed _ _ c.from_residual-in_err-end.ensures))

pub overflow_add-counts : goal.overflow_add-counts
overflow_add-counts c =
    close_fits _ c.in-Some.s.fits _ c.over.ensures _ c.open.ensures _ c.in_ok-opened.was _ _
    c.safes.ensures _ c.in_ok-all.was _ c.close.ensures _ c.in_ok-end.was

pub returns : goal.returns
returns c =
    rw (← c.in-Some.ensures.same)
    (close_found _ c.in-Some.s.fits _ c.over.ensures _ c.open.ensures _ c.in_ok-opened.was _ _ c.safes.ensures _
    c.in_ok-all.was _ c.close.ensures _ c.in_ok-end.was)
