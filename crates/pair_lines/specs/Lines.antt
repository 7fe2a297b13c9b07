-- The pairs of a file as text: a line for each key bag, or the line of a refusal. docs/USING.md,
-- section 'The pairs', has the lines; those in quotes are from there.
use Rattle.std.specs.Prelude.{List, [], ◌++◌, ℕ, get_or}
use Rattle.std.specs.Prelude.{if◌then◌else◌}
use Rattle.pkcs12.specs.Table.{no_bag}
use Rattle.buffer.specs.Placed.{each}
use Rattle.der.specs.declared.Fault.{Fault}
use Rattle.std.specs.Prelude.{Err, Ok, Result, ⊤}
use Rattle.pkcs12.specs.declared.kind.BagKind.{BagKind}
use Rattle.pkcs12.specs.declared.answers.Reading.{Reading}
use Rattle.pkcs12.specs.declared.table.Table.{Table}
use Rattle.buffer.specs.Text.{ascii}
use Rattle.pkcs12.specs.Table.{bags_counted}
use Rattle.text.specs.Text.{number_text, refused_line}
use Rattle.pairing.specs.Pairs.{is_key}
use Rattle.identities.specs.Identities.{certificate_for}

-- the certificate bag that has the key's id, or the number that pairing returns instead
unfoldable pub answer_text : Result ℕ Fault → List ℕ
answer_text (Ok row) = number_text (ascii ": certificate bag ") row
answer_text (Err f) = number_text (ascii ": refused ") f.number

-- "key bag 1: certificate bag 0", "key bag 2: refused 13"
unfoldable pub pair_line : ℕ → Result ℕ Fault → List ℕ
pair_line i p = number_text (ascii "key bag ") i ++ answer_text p ++ ascii "\n"

-- one line for each key bag, shrouded or not; none for another bag
unfoldable pub bag_line : BagKind → ℕ → Result ℕ Fault → List ℕ
bag_line kind i p = if is_key kind then pair_line i p else []

abbrev pub pair_row_line : Table → List ℕ → ℕ → List ℕ
pair_row_line t s i = bag_line (get_or t.bags i no_bag).kind i (certificate_for t s i)

-- in the order of the bag rows: those of the table t over the bytes s
unfoldable pub pair_lines : Table → List ℕ → List ℕ
pair_lines t s = each (pair_row_line t s) (bags_counted t)

-- the lines of an accepted file; a refusal is the one line "refused N at P" (Rule 8.3)
unfoldable pub answered : Result ⊤ Fault → Table → List ℕ → List ℕ
answered (Ok tt) t s = pair_lines t s
answered (Err f) t s = refused_line f

-- the pairs of a reading of the file s
unfoldable pub pairs_text : List ℕ → Reading → List ℕ
pairs_text s r = answered r.answer r.table s
