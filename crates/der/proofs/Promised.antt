-- What a public function promises beside its equation: what its answer reports, and that a slice
-- holds bytes.
use mathlib.Core.Path.{◌≡◌, ap}
use mathlib.Core.List.{List, [], ◌∷◌}
use Prim.Native.Nat.{ℕ, suc}
use native.Mathlib.Omega.{arith}
use lib.ListN.{get_or}
use mir.Syntax.{w8}
use mir.Val.{Fits}
use Rattle.der.specs.Report.{Report}
use Rattle.der.specs.Span.{Bytes}

-- a list with a byte at every index
pub all_bytes : (s : List ℕ) → ((i : ℕ) → Fits w8 (get_or s i 0)) → Bytes s
all_bytes [] h = tt
all_bytes (b ∷ s) h = (omega (arith, h 0), all_bytes s (λ i. h (suc i)))

-- an equation, and what it reports
pub reported : {A : Type 0} {r x : A} (report : A → Report) → r ≡ x → (r ≡ x) × (report r ≡ report x)
reported report e = (e, ap report e)

-- the same with a further promise
pub promised : {A B : Type 0} {r x : A} (report : A → Report) → r ≡ x → B → (r ≡ x) × ((report r ≡ report x) × B)
promised report e h = (e, (ap report e, h))

-- the same of both at once
pub reporting : {A B : Type 0} {r x : A} (report : A → Report) → (r ≡ x) × B → (r ≡ x) × ((report r ≡ report x) × B)
reporting report p = promised report p.0 p.1

pub reporting_with : {A B C : Type 0} {r x : A} (report : A → Report) → (r ≡ x) × B → C
    → (r ≡ x) × ((report r ≡ report x) × (B × C))
reporting_with report p h = promised report p.0 (p.1, h)
