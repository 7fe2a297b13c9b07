-- The check byte by byte, of an upload of n bytes, with the ends of the open elements as a list,
-- the innermost first, and without the number of bytes after which a fault was certain. `Upload`
-- of `stream` is shown to follow it (`Follows`); the theorems are proved of it.
use mathlib.Core.List.{List, [], ◌∷◌}
use mathlib.Core.Option.{Option, some}
use mathlib.Core.Option as option
use Prim.Native.Nat.{ℕ, suc, ◌+◌, ◌/◌, ◌%◌}
use lib.Dec.{leb, ltb, eqb}
use lib.ListN.{length}
use Rattle.std.specs.Prelude.{if◌then◌else◌}
use Rattle.der.specs.Numbers.{missing, left_over, too_many}
use Rattle.der.specs.Element.{fault}
use Rattle.der.specs.declared.Fault.{Fault}
use Rattle.buffer.specs.Numbers.{file_bytes, too_long}
use Rattle.header.specs.Numbers.{surplus, upload_levels}
use Rattle.header.specs.Header.{moved}
use Rattle.header.specs.declared.Due.{Due}
use Rattle.header.specs.declared.Due.TheVariants.{Tag, Body}
use Rattle.header.specs.declared.Move.{Move}
use Rattle.header.specs.declared.Move.TheVariants.{Refuse, Await, Enter, Pass, Surplus, Stay}
use Rattle.uploads.specs.Whole.{Tally, no_element, tallied}

pub data State : Type 0 where
  Failed : Fault → State
  Open : Due → List ℕ → Tally → State
  Done : Tally → State

-- the end of the parent
unfoldable pub top : ℕ → List ℕ → ℕ
top n [] = n
top n (e ∷ es) = e

-- at p, where an element ends or a body begins: every open element that ends there is closed
unfoldable pub close : ℕ → ℕ → List ℕ → Tally → State
close n p [] tl = if ltb p n then Failed (fault left_over p) else Done tl
close n p (e ∷ es) tl = if ltb p e then Open (Tag p) (e ∷ es) tl else close n p es tl

-- the first, if it has failed, else the second
abbrev pub unless : State → State → State
unless (Failed f) y = Failed f
unless (Open x ends tl) y = y
unless (Done tl) y = y

-- at an offset of a body that isn't examined, or at its end
abbrev pub passing : ℕ → List ℕ → Tally → (at stop : ℕ) → State
passing n ends tl at stop = if ltb at stop then Open (Body at stop) ends tl else close n stop ends tl

-- a body that isn't examined; a fault right after it is certain before it
unfoldable pub body : ℕ → List ℕ → Tally → (start stop : ℕ) → State
body n ends tl start stop = unless (close n stop ends tl) (passing n ends tl start stop)

-- a header is complete, and its body is within the parent
unfoldable pub enter : ℕ → List ℕ → Tally → (at t start stop : ℕ) → State
enter n ends tl at t start stop =
    if leb upload_levels (length ends) then Failed (fault too_many at) else
    if eqb (t / 0x20 % 2) 0 then body n ends (tallied (suc (length ends)) tl) start stop else
    close n start (stop ∷ ends) (tallied (suc (length ends)) tl)

-- a byte of a body that isn't examined
unfoldable pub pass : ℕ → List ℕ → Tally → (at end : ℕ) → State
pass n ends tl at end = passing n ends tl (at + 1) end

abbrev pub apply : ℕ → Due → List ℕ → Tally → Move → State
apply n x ends tl (Refuse m at after) = Failed (fault m at)
apply n x ends tl (Await y) = Open y ends tl
apply n x ends tl (Enter at t start stop) = enter n ends tl at t start stop
apply n x ends tl (Pass at end) = pass n ends tl at end
apply n x ends tl Surplus = Failed (fault surplus 0)
apply n x ends tl Stay = Open x ends tl

unfoldable pub step : ℕ → State → ℕ → State
step n (Failed f) b = Failed f
step n (Done tl) b = Failed (fault surplus 0)
step n (Open x ends tl) b = apply n x ends tl (moved x b (top n ends) (leb upload_levels (length ends)))

unfoldable pub feed : ℕ → State → List ℕ → State
feed n st [] = st
feed n st (b ∷ bs) = feed n (step n st b) bs

-- the length is announced
unfoldable pub start : ℕ → State
start n =
    if ltb file_bytes n then Failed (fault too_long 0) else
    if eqb n 0 then Failed (fault missing 0) else
    Open (Tag 0) [] no_element

-- the fault that is certain
unfoldable pub certainly : State → Option Fault
certainly (Failed f) = some f
certainly (Open x ends tl) = option.none
certainly (Done tl) = option.none
