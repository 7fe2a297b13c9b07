-- Frames of standard input: the length in four bytes, high first, then the bytes.
use Rattle.std.specs.Prelude.{◌≡◌, List, ℕ}
use Rattle.io.specs.Counts.{IsPrefixLen}
use Rattle.stdio.specs.declared.Frame.{Frame}
use Rattle.stdio.specs.declared.Frame.TheVariants.{Bytes}

-- the bytes of a frame that was read are at the front of the buffer, which has at least as many
abbrev pub InBuffer : List ℕ → Frame → Type 0
InBuffer buffer frame = (n : ℕ) → frame ≡ Bytes n → IsPrefixLen n buffer
