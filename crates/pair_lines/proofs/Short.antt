-- No text is long: a bound for a line, and for the whole.
use mathlib.Core.Bool.{Bool, true, false}
use mathlib.Core.List.{List, []}
use Prim.Native.Nat.{ℕ, ◌≤◌}
use native.Mathlib.Omega.{arith}
use lib.ListN.{length, get_or}
use Rattle.std.specs.Prelude.{if◌then◌else◌}
use Rattle.pkcs12.specs.Table.{no_bag}
use Rattle.der.specs.declared.Fault.{Fault}
use Rattle.std.specs.Prelude.{Err, Ok, Result, ⊤}
use Rattle.pkcs12.specs.declared.kind.BagKind.{BagKind}
use Rattle.pkcs12.specs.declared.answers.Reading.{Reading}
use Rattle.pkcs12.specs.declared.table.Table.{Table}
use Rattle.buffer.specs.Text.{ascii}
use Rattle.pkcs12.specs.Table.{bags_counted}
use Rattle.text.proofs.Short.{Short, word, within, ◌and◌, number, lines, refused_line_lem}
use Rattle.pairing.specs.Pairs.{is_key}
use Rattle.identities.specs.Identities.{certificate_for}
use Rattle.pair_lines.specs.Listed.{pairs_bytes}
use Rattle.pair_lines.specs.Lines.{answer_text, pair_line, bag_line, pair_row_line, pair_lines, answered, pairs_text}

-- the longest line, with any two numbers of 64 bits
abbrev pub line_bytes : ℕ
line_bytes = 67

answer_text_lem : (p : Result ℕ Fault) → Short 38 (answer_text p)
unfolding answer_text ascii
answer_text_lem (Ok row) = number (ascii ": certificate bag ") row
answer_text_lem (Err f) = within 38 (omega arith) (number (ascii ": refused ") f.number)

pair_line_lem : (i : ℕ) (p : Result ℕ Fault) → Short line_bytes (pair_line i p)
unfolding pair_line ascii
pair_line_lem i p = within line_bytes (omega arith) (number (ascii "key bag ") i and answer_text_lem p and word (ascii "\n"))

bag_line_lem : (kind : BagKind) (i : ℕ) (p : Result ℕ Fault) → Short line_bytes (bag_line kind i p)
unfolding bag_line
bag_line_lem kind i p = go (is_key kind)
  where
    go : (u : Bool) → Short line_bytes (if u then pair_line i p else [])
    go true = pair_line_lem i p
    go false = within line_bytes (omega arith) (word [])

pair_lines_lem : (t : Table) (s : List ℕ) → Short pairs_bytes (pair_lines t s)
unfolding pair_lines
pair_lines_lem t s =
    within pairs_bytes (omega arith)
    (lines (pair_row_line t s) line_bytes (λ i. bag_line_lem (get_or t.bags i no_bag).kind i (certificate_for t s i)) (bags_counted t))

answered_short : (a : Result ⊤ Fault) (t : Table) (s : List ℕ) → Short pairs_bytes (answered a t s)
unfolding answered
answered_short (Ok tt) t s = pair_lines_lem t s
answered_short (Err f) t s = within pairs_bytes (omega arith) (refused_line_lem f)

-- every text is within the bound
pub short : (s : List ℕ) (r : Reading) → length (pairs_text s r) ≤ pairs_bytes
unfolding pairs_text
short s r = (answered_short r.answer r.table s).most
