-- What is proved of reading a file and of writing one, stated over `read_file`, the definition that
-- the reading call follows, and `write_file`, that of the writing call. The proofs are elsewhere.
-- `Bytes f`: each number of the list is below 256. `IsAccepted f`: `read_file f` accepts. `Follows f
-- x`: f is what the valid reading x is written as, and has at most 65,535 bytes. `reading_from f`:
-- the reading that the table of f shows of f. `Sound t s`: the table t is sound for the bytes s.
-- `Delivered t s buffer f x`: writing t over s delivers the file f with the reading x. `Alike t u`:
-- t and u differ only in what is ignored (Rule 6.7).
use mathlib.Core.Logic.{◌↔◌}
use mathlib.Core.Path.{◌≡◌}
use mathlib.Core.List.{List, [], ◌++◌}
use mathlib.Core.Option.{some}
use Prim.Native.Nat.{ℕ, ◌+◌, ◌*◌, ◌≤◌, ◌<◌}
use lib.ListN.{length, drop}
use Rattle.der.specs.Span.{Bytes}
use Rattle.der.specs.Element.{fault}
use Rattle.der.specs.Tree.{elements_in}
use Rattle.der.specs.declared.Fault.{Fault}
use Rattle.buffer.specs.Numbers.{file_bytes}
use Rattle.pkcs12.specs.Syntax.{Pfx}
use Rattle.pkcs12.specs.Encode.{encode}
use Rattle.pkcs12.specs.Valid.{Valid, Opaques}
use Rattle.pkcs12.specs.Elements.{opaque_count, elements}
use Rattle.pkcs12.specs.Values.{Values, rows_of, tree_of}
use Rattle.pkcs12.specs.Table.{table_of, empty_table, rows_in, reading_of}
use Rattle.pkcs12.specs.Walk.{read_file}
use Rattle.pkcs12.specs.Laid.{ElementLaid, PfxLaid}
use Rattle.pkcs12.specs.Accepted.{IsAccepted, Follows, table_from, reading_from, end_to_end}
use Rattle.der.specs.Named.{Each}
use Rattle.pkcs12.specs.Sound.{Sound}
use Rattle.pkcs12.specs.Written.{file_of, write_file}
use Rattle.buffer.specs.Written.{success}
use Rattle.pkcs12.specs.Delivered.{Delivered}
use Rattle.pkcs12.specs.Alike.{Alike}
use Rattle.range.specs.declared.Range.{Range}
use Rattle.pkcs12.specs.declared.table.Table.{Table}
use Rattle.std.specs.Prelude.{Err, Ok}
use Rattle.pkcs12.specs.Numbered.{NumbersNamed}
use Rattle.pkcs12.proofs.Numbered as numbered
use Rattle.pkcs12.proofs.Rows as rows
use Rattle.pkcs12.proofs.Refusals as refusals
use Rattle.pkcs12.proofs.Corollaries as corollaries
use Rattle.pkcs12.proofs.Checked as checked
use Rattle.pkcs12.proofs.Writing as writing
use Rattle.pkcs12.proofs.Delivered as delivered
use Rattle.pkcs12.proofs.Outcomes as outcomes
use Rattle.pkcs12.proofs.Alike as alike

-- ---- exactly the standard (Rule 9.4)

-- Rule 4.7: a file is accepted if and only if it follows the standard.
pub accepted_iff_follows : (f : List ℕ) → Bytes f → IsAccepted f ↔ ((x : Pfx) × Follows f x)
accepted_iff_follows f b = (corollaries.accepted_follows f b, λ p. corollaries.follows_accepted f b p.0 p.1)

-- Then its table shows the reading that it is written from (Rule 4.1).
pub table_shows_reading : (f : List ℕ) → Bytes f → (x : Pfx) → Follows f x → reading_from f ≡ some x
table_shows_reading = corollaries.follows_reading

-- Rule 4.2: every range lies within its parent's body, and holds what the reading has there:
-- elements fill their parent's body one behind another, and an element's own body lies behind its
-- header and within the offsets that the element fills.
pub ranges_within_parents : (f : List ℕ) → Bytes f → (x : Pfx) → Follows f x → PfxLaid f (rows_in (table_from f)) (table_from f).mac x
ranges_within_parents = corollaries.follows_laid

pub body_within_element : (s : List ℕ) (from to t : ℕ) (r : Range) (x : List ℕ) → ElementLaid s from to t r x
    → (from + 2 ≤ r.start) × (r.start ≤ r.end) × (r.end ≤ to)
body_within_element = corollaries.element_within

-- Rules 4.5, 4.6: the number of elements is that of the reading, and at most half the length.
pub element_count : (f : List ℕ) → Bytes f → (x : Pfx) → Follows f x → (table_from f).elements ≡ elements x
element_count = corollaries.follows_count

pub element_count_half : (f : List ℕ) → Bytes f → IsAccepted f → 2 * (table_from f).elements ≤ length f
element_count_half = corollaries.accepted_half

-- Opaque elements are counted as their trees have elements.
pub opaque_elements : (x : List ℕ) (o : Opaques x) → opaque_count x ≡ elements_in o.as_trees
opaque_elements = corollaries.opaque_elements

-- The table of an accepted file is sound over the file, and its rows past the counts are empty
-- (Rule 5.40).
pub accepted_table_sound : (f : List ℕ) → Bytes f → IsAccepted f → Sound (table_from f) f
accepted_table_sound = corollaries.accepted_sound

pub rows_past_counts_empty : (f : List ℕ) → Bytes f → IsAccepted f → table_from f ≡ table_of (rows_in (table_from f)) (table_from f).mac
rows_past_counts_empty = corollaries.accepted_table

-- Rule 5.38: the table of a refused file is empty.
pub refused_table_empty : (f : List ℕ) (fault : Fault) → (read_file f).answer ≡ Err fault → table_from f ≡ empty_table
refused_table_empty = refusals.refused_empty

-- ---- writing, and reading back what was written

-- A table has a file if and only if it is sound, and that is what its reading is written as.
pub file_iff_sound : (t : Table) (s : List ℕ) → Bytes s → (f : List ℕ) → file_of t s ≡ some f ↔ ((o : Sound t s) × (encode o.reading ≡ f))
file_iff_sound = checked.file_iff_sound

-- Rules 6.9, 9.4: a sound table is written, if its file has at most 65,535 bytes and is no longer
-- than the buffer: the file is at the front of the buffer, is accepted, has the table's reading,
-- and is the only accepted file that does.
pub sound_is_written : (t : Table) (s buffer : List ℕ) → Bytes s → (o : Sound t s)
    → length (encode o.reading) ≤ 65535 → length (encode o.reading) ≤ length buffer
    → Delivered t s buffer (encode o.reading) o.reading
sound_is_written = delivered.sound_is_written

-- Rules 5.9 to 5.11, 6.8: writing refuses by 11 if and only if the table is not sound; by 9 if and
-- only if it is, and its file has more than 65,535 bytes; by 10 if and only if it is, its file has
-- no more than that, and the buffer is shorter than the file.
pub refused_iff_unsound : (t : Table) (s buffer : List ℕ) → Bytes s
    → (write_file t s buffer).answer ≡ Err (fault 11 0) ↔ (Sound t s → ⊥)
refused_iff_unsound = outcomes.refused_11_iff

pub refused_9_iff : (t : Table) (s buffer : List ℕ) → Bytes s
    → (write_file t s buffer).answer ≡ Err (fault 9 0)
    ↔ ((o : Sound t s) × (65535 < length (encode o.reading)))
refused_9_iff = outcomes.refused_9_iff

pub refused_10_iff : (t : Table) (s buffer : List ℕ) → Bytes s
    → (write_file t s buffer).answer ≡ Err (fault 10 0)
    ↔ ((o : Sound t s) × (length (encode o.reading) ≤ 65535) × (length buffer < length (encode o.reading)))
refused_10_iff = outcomes.refused_10_iff

-- The file of a sound table, if it isn't too long, is accepted and has the table's reading; and it
-- is the only file with that reading.
pub written_is_read : (t : Table) (s : List ℕ) → Bytes s → (o : Sound t s) → length (encode o.reading) ≤ file_bytes
    → IsAccepted (encode o.reading) × (reading_from (encode o.reading) ≡ reading_of t s)
written_is_read = writing.written_is_read

pub written_is_only : (t : Table) (s : List ℕ) (o : Sound t s) (g : List ℕ) → Bytes g → IsAccepted g → reading_from g ≡ reading_of t s → g ≡ encode o.reading
written_is_only = writing.only_file

-- The same of what `write_file` leaves in the buffer: an accepted file with the table's reading, and
-- behind it what was there.
pub written_buffer : (t : Table) (s buffer : List ℕ) → Bytes s → (n : ℕ) → (write_file t s buffer).answer ≡ Ok n
    → (f : List ℕ) × (length f ≡ n) × ((write_file t s buffer).buffer ≡ f ++ drop n buffer)
    × IsAccepted f × (reading_from f ≡ reading_of t s)
written_buffer = outcomes.written_file

pub refused_buffer : (t : Table) (s buffer : List ℕ) (f : Fault) → (write_file t s buffer).answer ≡ Err f
    → (write_file t s buffer).buffer ≡ buffer
refused_buffer = outcomes.refused_buffer

-- Reading an accepted file and writing its table writes the same file.
pub read_is_written : (f buffer : List ℕ) → Bytes f → IsAccepted f → length f ≤ length buffer
    → write_file (table_from f) f buffer ≡ success f buffer
read_is_written = delivered.rewritten

-- Tables that differ only in what is ignored (Rule 6.7) are sound for the same bytes, and writing
-- does the same with them.
pub alike_sound : (t u : Table) → Alike t u → (s : List ℕ) → Sound t s ↔ Sound u s
alike_sound = alike.alike_sound

pub alike_written : (t u : Table) → Alike t u → (s buffer : List ℕ) → write_file t s buffer ≡ write_file u s buffer
alike_written = alike.alike_written

-- ---- one reading, one file (Rule 9.5)

-- Readings of accepted files are equal (Rule 4.8) if and only if the files are.
pub same_reading_iff_same_file : (f g : List ℕ) → Bytes f → Bytes g → IsAccepted f → IsAccepted g → reading_from f ≡ reading_from g ↔ f ≡ g
same_reading_iff_same_file f g p q a b = (corollaries.same_reading f g p q a b, corollaries.same_file f g)

-- An attribute's values that are equal bytes are equally many equal elements, one by one.
pub same_values_same_elements : (x : List ℕ) (o p : Opaques x) → o.as_trees ≡ p.as_trees
same_values_same_elements = corollaries.same_elements

-- An accepted file at the front of bytes is the only one there.
pub accepted_front_unique : (f g r q : List ℕ) → Bytes f → Bytes g → IsAccepted f → IsAccepted g → f ++ r ≡ g ++ q
    → (f ≡ g) × (r ≡ q)
accepted_front_unique f g r q b c a d = corollaries.front_same f g b c a d r q

-- No accepted file is a proper beginning of another.
pub no_proper_beginning : (f g r : List ℕ) → Bytes f → Bytes g → IsAccepted f → IsAccepted g → f ++ r ≡ g → r ≡ []
no_proper_beginning = corollaries.no_beginning

-- Accepted files laid end to end can be cut back in one way only.
pub one_way_to_cut : (fs gs : List (List ℕ)) → Each (λ f. Bytes f × IsAccepted f) fs → Each (λ f. Bytes f × IsAccepted f) gs
    → end_to_end fs ≡ end_to_end gs → fs ≡ gs
one_way_to_cut = corollaries.cut

-- ---- rows and readings

-- The rows of a valid reading are read back as it, and rows that show a reading are its rows.
pub rows_show_reading : (x : Pfx) → Valid x → tree_of (rows_of x) ≡ some x
rows_show_reading x v = rows.rows_tree x v.safes

pub reading_has_rows : (v : Values) (x : Pfx) → tree_of v ≡ some x → rows_of x ≡ v
reading_has_rows = rows.tree_rows

-- ---- the numbers

-- Each name of a refusal, a size, a tag, a number or an identifier is what the rules have for it.
pub numbers_named : NumbersNamed
numbers_named = numbered.numbers_named
