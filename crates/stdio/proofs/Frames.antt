-- A frame that was read is in the buffer; one that was not has no bytes. What an error leaves of a frame.
use mathlib.Core.Path.{◌≡◌, sym, subst}
use mathlib.Core.List.{List, ◌++◌, append-nil}
use Prim.Native.Nat.{ℕ, ◌≤◌}
use native.Mathlib.Omega.{arith}
use lib.ListN.{length, length-append, take}
use Rattle.std.specs.Prelude.{Option, Result, Ok, Err, OnErr}
use Rattle.std.specs.Io.KnownBytes.{Consumes}
use Rattle.std.proofs.KnownBytes.{Consumes-trans}
use Rattle.std.proofs.lemmas.List.{length-take}
use Rattle.io.proofs.Counting.{prefix_len_of_le}
use Rattle.stdio.specs.Frame.{InBuffer}
use Rattle.stdio.specs.Taken.{AtFront, TakenFrame}
use Rattle.stdio.specs.declared.Frame.{Frame}
use Rattle.stdio.specs.declared.Frame.TheVariants.{Bytes}

pub at_end_lem : (buffer : List ℕ) → InBuffer buffer Frame.End
at_end_lem buffer n e = prefix_len_of_le n buffer (let z : ◌≡◌ {A = ℕ} 0 1 = cc in absurd (omega arith))

pub at_cut : (buffer : List ℕ) → InBuffer buffer Frame.Cut
at_cut buffer n e = prefix_len_of_le n buffer (let z : ◌≡◌ {A = ℕ} 0 1 = cc in absurd (omega arith))

pub at_front : (part rest : List ℕ) (m : ℕ) → m ≤ length part → InBuffer (part ++ rest) (Bytes m)
at_front part rest m h n e =
    prefix_len_of_le n (part ++ rest) (let p : m ≡ n = cc in omega (arith, h, p, length-append part rest))

-- what holds anyway holds where a call failed
pub at_any_err : {T E : Type 0} (r : Result T E) (P : Type 0) → P → OnErr r P
at_any_err (Ok x) P h = tt
at_any_err (Err e) P h = h

-- the length failed: nothing stands in the buffer
pub in_length : (before after : Option (List ℕ)) (header buffer : List ℕ) → length header ≡ 4
    → AtFront before after header → TakenFrame before after buffer
in_length before after header buffer four taken =
    let n = taken.0 in (
      take n header,
      omega (arith, four, length-take n header),
      (0, omega arith, subst (Consumes before after) (sym (append-nil (take n header))) taken.2),
    )

-- the length was read, and then the bytes failed
pub in_body : (before between after : Option (List ℕ)) (header buffer : List ℕ) (k : ℕ) → length header ≡ 4
    → Consumes before between (take k header) → AtFront between after buffer → TakenFrame before after buffer
in_body before between after header buffer k four first taken = (
  take k header,
  omega (arith, four, length-take k header),
  (taken.0, taken.1, Consumes-trans before between after _ _ first taken.2),
)

pub ruleset frames = (
  at_end_lem,
  at_cut,
  at_front,
)
