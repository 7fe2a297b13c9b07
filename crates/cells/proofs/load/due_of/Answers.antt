-- By the kind.
use native.Mathlib.Omega.{arith}
use mathlib.Core.Path.{refl}
use Rattle.der.proofs.Choices.{at_ne}
use Rattle.cells.specs.Cells.{due_of, refusal_of}
use Rattle.cells.proofs.load.due_of.Goals as goal

pub returns-in-1 : goal.returns-in-1
unfolding due_of refusal_of
returns-in-1 c = rw c.in-1.is

pub returns-in-2 : goal.returns-in-2
unfolding due_of refusal_of
returns-in-2 c = rw c.in-2.is

pub returns-in-3 : goal.returns-in-3
unfolding due_of refusal_of
returns-in-3 c = rw c.in-3.is

pub returns-in-4 : goal.returns-in-4
unfolding due_of refusal_of
returns-in-4 c = rw c.in-4.is

pub returns-in-5 : goal.returns-in-5
unfolding due_of refusal_of
returns-in-5 c = rw c.in-5.is

pub returns-in-6 : goal.returns-in-6
unfolding due_of refusal_of
returns-in-6 c = rw c.in-6.is

pub returns-in-7 : goal.returns-in-7
unfolding due_of refusal_of
returns-in-7 c = rw c.in-7.is

pub returns-in-8 : goal.returns-in-8
unfolding due_of refusal_of
returns-in-8 c = rw c.in-8.is

pub returns-in_default : goal.returns-in_default
unfolding due_of refusal_of
returns-in_default c =
    let k = c.args.p.kind in
    at_ne k 1 _ _ _ (λ h. omega arith)
    (at_ne k 2 _ _ _ (λ h. omega arith)
    (at_ne k 3 _ _ _ (λ h. omega arith)
    (at_ne k 4 _ _ _ (λ h. omega arith)
    (at_ne k 5 _ _ _ (λ h. omega arith)
    (at_ne k 6 _ _ _ (λ h. omega arith)
    (at_ne k 7 _ _ _ (λ h. omega arith)
    (at_ne k 8 _ _ _ (λ h. omega arith) refl)))))))
