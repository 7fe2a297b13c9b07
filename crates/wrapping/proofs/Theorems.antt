-- The theorems about text, stated over the definitions of `pem`: `imported` and `exported` are
-- what its calls return and leave in the buffer. `Bytes x` is required where the numbers of a list must
-- be below 256: they are, in what a call is handed.
use mathlib.Core.Path.{◌≡◌}
use mathlib.Core.Logic.{◌↔◌}
use mathlib.Core.List.{List}
use Prim.Native.Nat.{ℕ, ◌≤◌, ◌<◌}
use lib.ListN.{length, take}
use Rattle.der.specs.Element.{fault}
use Rattle.der.specs.Span.{Bytes}
use Rattle.der.specs.declared.Fault.{Fault}
use Rattle.buffer.specs.Written.{success}
use Rattle.std.specs.Prelude.{Err, Ok}
use Rattle.pem.specs.Wrap.{wrap}
use Rattle.pem.specs.Calls.{imported, exported}
use Rattle.wrapping.specs.Text.{Text, RefusedAt}
use Rattle.wrapping.specs.Form.{InForm}
use Rattle.wrapping.specs.Outcomes.{TextNumber, Imports, WrapsMore, LacksSpace, Exports, LacksTextSpace}
use Rattle.wrapping.specs.Bench.{Encodes, listed, Holds, bench_texts}
use Rattle.wrapping.proofs.Form as form
use Rattle.wrapping.proofs.Outcomes as outcomes
use Rattle.wrapping.proofs.Bench as bench

-- ---- the form (Rules 11.1 to 11.5)

-- The texts of one byte or more are those of the form in words: a first line, lines of 64
-- characters of base64, one of 4 to 64, a last line, and one byte 0A after each.
pub form_iff : (t : List ℕ) → Text t ↔ InForm t
form_iff = form.form_iff

-- One text for one list of bytes.
pub one_text : (x y : List ℕ) → Bytes x → Bytes y → 1 ≤ length x → 1 ≤ length y → wrap x ≡ wrap y → x ≡ y
one_text = outcomes.wrap_one

-- The text of the longest file has 88,790 bytes, and no text that can be imported has more.
pub longest_text : (x : List ℕ) → length x ≡ 65_535 → length (wrap x) ≡ 88_790
longest_text = form.longest

pub text_length : (t : List ℕ) (x : Text t) → length x.bytes ≤ 65_535 → length t ≤ 88_790
text_length = form.text_length

-- So a text that is longer wraps more than 65,535 bytes: no program has to read further.
pub longer_text : (t : List ℕ) (x : Text t) → 88_790 < length t → 65_535 < length x.bytes
longer_text = form.longer

-- ---- import (Rules 11.6, 11.7)

-- It returns n exactly for the texts of n bytes, 1 to 65,535, if the buffer has space for them,
pub import_iff : (t buffer : List ℕ) (n : ℕ) → ((imported t buffer).answer ≡ Ok n) ↔ Imports t buffer n
import_iff = outcomes.length_iff

-- and the bytes that the text wraps are then at the front of the buffer, the rest of it as before.
pub import_bytes : (x buffer : List ℕ) → Bytes x → 1 ≤ length x → length x ≤ 65_535 → length x ≤ length buffer
    → imported (wrap x) buffer ≡ success x buffer
import_bytes = outcomes.import_bytes

-- 16 at p exactly if the first p bytes begin a text of the form and the first p + 1 begin none, or
-- if all p bytes begin one and are none.
pub refused_at : (t buffer : List ℕ) (p : ℕ)
    → ((imported t buffer).answer ≡ Err (fault 16 p)) ↔ RefusedAt t p
refused_at = outcomes.not_text_iff

-- 9 exactly for the texts of more than 65,535 bytes; 10 exactly for the others, if the buffer is
-- shorter than their bytes; both at 0.
pub import_too_long : (t buffer : List ℕ) (p : ℕ)
    → ((imported t buffer).answer ≡ Err (fault 9 p)) ↔ WrapsMore t p
import_too_long = outcomes.too_long_iff

pub import_short_buffer : (t buffer : List ℕ) (p : ℕ)
    → ((imported t buffer).answer ≡ Err (fault 10 p)) ↔ LacksSpace t buffer p
import_short_buffer = outcomes.short_buffer_iff

-- There is no other refusal, and each leaves the whole buffer as before.
pub import_refusals : (t buffer : List ℕ) (f : Fault) → (imported t buffer).answer ≡ Err f
    → TextNumber f × ((imported t buffer).buffer ≡ buffer)
import_refusals = outcomes.refused_by_lem

-- ---- export (Rule 11.8)

pub export_iff : (x buffer : List ℕ) (n : ℕ) → ((exported x buffer).answer ≡ Ok n) ↔ Exports x buffer n
export_iff = outcomes.export_length_iff

pub export_text : (x buffer : List ℕ) → 1 ≤ length x → length x ≤ 65_535 → length (wrap x) ≤ length buffer
    → exported x buffer ≡ success (wrap x) buffer
export_text = outcomes.export_text

pub export_no_byte : (x buffer : List ℕ) (p : ℕ)
    → ((exported x buffer).answer ≡ Err (fault 16 p)) ↔ ((length x ≡ 0) × (p ≡ 0))
export_no_byte = outcomes.export_none_iff

pub export_too_long : (x buffer : List ℕ) (p : ℕ)
    → ((exported x buffer).answer ≡ Err (fault 9 p)) ↔ ((65_535 < length x) × (p ≡ 0))
export_too_long = outcomes.export_long_iff

pub export_short_buffer : (x buffer : List ℕ) (p : ℕ)
    → ((exported x buffer).answer ≡ Err (fault 10 p)) ↔ LacksTextSpace x buffer p
export_short_buffer = outcomes.export_short_iff

pub export_refusals : (x buffer : List ℕ) (f : Fault) → (exported x buffer).answer ≡ Err f
    → TextNumber f × ((exported x buffer).buffer ≡ buffer)
export_refusals = outcomes.export_refused_by

-- ---- each undoes the other (Rule 11.9)

-- What export left at the front of one buffer is imported into another as the bytes that were
-- exported,
pub export_import : (x buffer other : List ℕ) (n : ℕ) → Bytes x → (exported x buffer).answer ≡ Ok n
    → length x ≤ length other → imported (take n (exported x buffer).buffer) other ≡ success x other
export_import = outcomes.export_import

-- and what import left there is exported as the text that was imported, byte for byte.
pub import_export : (t buffer other : List ℕ) (n : ℕ) → (imported t buffer).answer ≡ Ok n → length t ≤ length other
    → exported (take n (imported t buffer).buffer) other ≡ success t other
import_export = outcomes.import_export

-- ---- computed

-- the characters of RFC 4648, section 10
pub listed_encodes : Encodes listed
listed_encodes = bench.listed_encodes

-- 27 texts, with every number written out
pub bench_texts_lem : Holds bench_texts
bench_texts_lem = bench.bench_texts_lem
