-- What is proved of the bytes that a program read, beside the contracts.
use mathlib.Core.Path.{◌≡◌, refl}
use mathlib.Core.List.{List}
use Prim.Native.Nat.{ℕ}
use lib.ListN.{length, drop}
use lib.Seq.{take-append_seam}
use Rattle.der.specs.declared.Fault.{Fault}
use Rattle.buffer.specs.Written.{success}
use Rattle.std.specs.Prelude.{Err}
use Rattle.pem.specs.Calls.{imported}
use Rattle.source.specs.Source.{file_as, file_in}
use Rattle.source.proofs.Sources.{file_bytes_lem}

-- where import succeeds, the file is what it wrote
pub file_imported : (t buffer x : List ℕ) → imported t buffer ≡ success x buffer → file_in t buffer ≡ x
unfolding file_as
file_imported t buffer x e = rw e (take-append_seam x (drop (length x) buffer))

-- where import is refused, the file is what was read
pub file_as_read : (t buffer : List ℕ) (f : Fault) → (imported t buffer).answer ≡ Err f
    → t ≡ file_in t buffer
file_as_read t buffer f e = file_bytes_lem t buffer _ refl f e
