-- What is proved of the pairs' text, beside the contract of `list`. `pairs_text s r`: the text for
-- the reading r of the file s. `pair_lines t s`: that for the table t over the bytes s.
use mathlib.Core.Path.{◌≡◌, refl}
use mathlib.Core.List.{List}
use Prim.Native.Nat.{ℕ, ◌≤◌}
use native.Mathlib.Omega.{arith}
use lib.ListN.{length}
use Rattle.der.specs.Element.{fault}
use Rattle.buffer.specs.Written.{success}
use Rattle.std.specs.Prelude.{Err, Ok}
use Rattle.pkcs12.specs.declared.answers.Reading.{Reading}
use Rattle.pkcs12.specs.declared.table.Table.{Table}
use Rattle.buffer.specs.Text.{ascii, digits, decimal}
use Rattle.text.specs.Text.{number_text, refused_line}
use Rattle.buffer.proofs.Outcomes.{written}
use Rattle.pairing.specs.Pairs.{refused_by}
use Rattle.pair_lines.specs.Lines.{answer_text, pair_line, pair_lines, answered, pairs_text}
use Rattle.pair_lines.specs.Listed.{pairs_listed}
use Rattle.pair_lines.specs.Counts.{lines_in, key_bags}
use Rattle.pair_lines.proofs.Counts as counts
use Rattle.pair_lines.proofs.Short.{short}

-- every text fits 4,288 bytes
pub pairs_short : (s : List ℕ) (r : Reading) → length (pairs_text s r) ≤ 4288
pairs_short s r = short s r

-- `list` refuses no buffer of 4,288 bytes or more
pub pairs_in : (s : List ℕ) (r : Reading) (buffer : List ℕ) → 4288 ≤ length buffer
    → pairs_listed s r buffer ≡ success (pairs_text s r) buffer
pairs_in s r buffer h = written (pairs_text s r) buffer (omega (arith, h, short s r))

-- a line for each key bag: as many lines as there are bag rows of keys below the count
pub lines_are_keys : (t : Table) (s : List ℕ) → lines_in (pair_lines t s) ≡ key_bags t
lines_are_keys = counts.lines_are_keys

-- a line of each kind, computed
pub certificate_line : pair_line 1 (Ok 0) ≡ ascii "key bag 1: certificate bag 0\n"
unfolding ascii digits decimal number_text answer_text pair_line
certificate_line = refl

pub none_line : pair_line 2 (refused_by 13) ≡ ascii "key bag 2: refused 13\n"
unfolding ascii digits decimal number_text answer_text pair_line
none_line = refl

pub more_line : pair_line 63 (refused_by 14) ≡ ascii "key bag 63: refused 14\n"
unfolding ascii digits decimal number_text answer_text pair_line
more_line = refl

pub refused_file : (t : Table) (s : List ℕ) → answered (Err (fault 6 47)) t s ≡ ascii "refused 6 at 47\n"
unfolding ascii digits decimal number_text refused_line answered
refused_file t s = refl
