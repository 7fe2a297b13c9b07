-- One part behind another, by the methods of `Out`.
use mathlib.Core.Path.{◌≡◌, refl, ◌∙◌}
use mathlib.Core.List.{List, [], ◌++◌}
use Prim.Native.Nat.{ℕ}
use Rattle.buffer.specs.declared.write.Out.{Out}
use Rattle.buffer.specs.Wrote.{Wrote}
use Rattle.buffer.proofs.Placing.{placed_nothing, ◌then◌ as ◌behind◌}

pub wrote_nothing : (d : Out) → Wrote d [] d
wrote_nothing d = record { put = placed_nothing d.buffer.now d.at; same = refl }

-- what is written is the same by another name
pub wrote_as : {d : Out} {x y : List ℕ} {e : Out} → x ≡ y → Wrote d x e → Wrote d y e
wrote_as q p = rw (← q) p

infixl 5 ◌then◌
pub ◌then◌ : {d : Out} {x : List ℕ} {m : Out} {y : List ℕ} {e : Out} → Wrote d x m → Wrote m y e → Wrote d (x ++ y) e
◌then◌ f g = record { put = f.put behind g.put; same = g.same ∙ f.same }
