-- What is proved of ranges and bytes, beside the contracts.
use mathlib.Core.Bool.{true}
use mathlib.Core.List.{List}
use mathlib.Core.Logic.{◌↔◌}
use mathlib.Core.Path.{◌≡◌}
use Prim.Native.Nat.{ℕ}
use Rattle.range.specs.Bytes.{same_bytes}
use Rattle.range.proofs.SameBytes.{same_self, same_is}

-- two strings of bytes are the same if and only if they are equal
pub same_iff : (x y : List ℕ) → same_bytes x y ≡ true ↔ x ≡ y
same_iff x y = (same_is x y, λ e. rw e (same_self y))
