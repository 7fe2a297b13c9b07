-- The refusal first; then the listing is written.
use native.Mathlib.Omega.{arith}
use Rattle.buffer.specs.Report.{written_report}
use Rattle.listing.specs.Lines.{listing}
use Rattle.listing.proofs.Short.{counted}
use Rattle.buffer.proofs.Outcomes.{too_short, wrote}
use mathlib.Core.Path.{◌≡◌, refl, ap, ◌∙◌}
use mathlib.Core.List.{List}
use Prim.Native.Nat.{ℕ, ◌≤◌}
use lib.ListN.{length}
use borrow.Author.Rules.{rules}
use Rattle.buffer.specs.declared.write.Out.{Out}
use Rattle.buffer.specs.Placed.{greatest}
use Rattle.buffer.specs.Wrote.{Wrote}
use Rattle.buffer.specs.Written.{into_buffer}
use Rattle.listing.proofs.list.Goals as goal

pub returns-then-out-n-clause-value : goal.returns-then-out-n-clause-value
returns-then-out-n-clause-value c = (too_short _ _ _ c.measured-n.ensures (omega (arith, c.if-out-n.true))).0

pub returns-then-out-n-clause-report : goal.returns-then-out-n-clause-report
returns-then-out-n-clause-report c = ap written_report (returns-then-out-n-clause-value c)

pub returns-then-out-n-clause-out_after : goal.returns-then-out-n-clause-out_after
returns-then-out-n-clause-out_after c = (too_short _ _ _ c.measured-n.ensures (omega (arith, c.if-out-n.true))).1

pub returns-clause-value : goal.returns-clause-value
unfolding listing
returns-clause-value c = (wrote _ _ _ c.measured-n.ensures c.if-out-n.false (counted _ _) _ _ c.answered.ensures.put).0

pub returns-clause-report : goal.returns-clause-report
returns-clause-report c = ap written_report (returns-clause-value c)

-- what `to` leaves is what the caller's buffer is afterwards
left : {x buffer z : List ℕ} {e : Out} {q : Out} (n : ℕ) → n ≡ length x → n ≤ length buffer → length x ≤ greatest
    → Wrote q x e → q.buffer.now ≡ buffer → q.at ≡ 0 → z ≡ e.buffer.now → z ≡ (into_buffer x buffer).buffer
left n p h g w a b f = f ∙ (wrote _ _ n p h g _ _ (rw (a, b) at w.put)).1

pub returns-clause-out_after : goal.returns-clause-out_after
unfolding listing
returns-clause-out_after c =
    left _ c.measured-n.ensures c.if-out-n.false (counted _ _) c.answered.ensures refl refl (search (rules, c.answered.ensures.same))
