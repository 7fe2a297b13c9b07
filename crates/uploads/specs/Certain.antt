-- When a fault is certain: every completion of the bytes that have arrived is refused with it.
use Rattle.std.specs.Prelude.{◌≡◌, List, ◌++◌, ℕ, length}
use Rattle.der.specs.Span.{Bytes}
use Rattle.der.specs.declared.Fault.{Fault}
use Rattle.uploads.specs.Whole.{Refused, whole}

-- the bytes p have arrived of the n that were announced
unfoldable pub Certain : ℕ → List ℕ → Fault → Type 0
Certain n p f = (t : List ℕ) → Bytes t → length (p ++ t) ≡ n → whole (p ++ t) ≡ Refused f
