-- The MAC input: that of an accepted file is its AuthenticatedSafe as it is written, the body of
-- the outer OCTET STRING without its tag and length; a refused file has none.
use mathlib.Core.Path.{◌≡◌, sym, ◌∙◌}
use mathlib.Core.List.{List, []}
use mathlib.Core.Option.{some}
use Prim.Native.Nat.{ℕ}
use lib.Seq.{slice_empty}
use Rattle.der.specs.Span.{Bytes}
use Rattle.der.specs.declared.Fault.{Fault}
use Rattle.der.proofs.Spans.{slice_span}
use Rattle.pkcs12.specs.Syntax.{Pfx}
use Rattle.pkcs12.specs.Encode.{safes_bytes}
use Rattle.der.specs.Octets.{sequence}
use Rattle.range.specs.Range.{bytes_in}
use Rattle.pkcs12.specs.Table.{empty_table, table_of, rows_in}
use Rattle.pkcs12.specs.Walk.{read_file}
use Rattle.pkcs12.specs.Accepted.{IsAccepted, Follows, table_from, reading_from}
use Rattle.std.specs.Prelude.{Err}
use Rattle.pkcs12.proofs.Theorems.{accepted_iff_follows, table_shows_reading, ranges_within_parents}
use Rattle.pkcs12.proofs.Theorems.{refused_table_empty}

-- ---- of a file

-- The table of a refused file names no byte.
pub refused_input_empty : (f : List ℕ) (fault : Fault) → (read_file f).answer ≡ Err fault → bytes_in f (table_from f).mac_input ≡ []
unfolding empty_table table_of
refused_input_empty f fault e = rw (refused_table_empty f fault e) (slice_empty 0 f)

follows_input : (f : List ℕ) → Bytes f → (x : Pfx) → Follows f x → bytes_in f (table_from f).mac_input ≡ sequence (safes_bytes x.safes)
unfolding rows_in
follows_input f b x w = slice_span f _ _ _ (ranges_within_parents f b x w).content.string.body

some_same : (x y : Pfx) → some x ≡ some y → x ≡ y
some_same x y e = cc

-- That of an accepted file names exactly the AuthenticatedSafe of the reading x: the SEQUENCE of
-- its safes.
pub accepted_input : (f : List ℕ) → Bytes f → IsAccepted f → (x : Pfx) → reading_from f ≡ some x
    → bytes_in f (table_from f).mac_input ≡ sequence (safes_bytes x.safes)
accepted_input f b a x e =
    let p = (accepted_iff_follows f b).0 a in
    let q = some_same p.0 x (sym (table_shows_reading f b p.0 p.1) ∙ e) in
    rw q at (follows_input f b p.0 p.1)
