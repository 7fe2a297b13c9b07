-- What is proved of storing a table as words and loading it. `words_of t`: the words of the table t.
-- `table_in ws`: the table that is loaded from the words ws. `Wordable t`: the rows of t past its
-- counts are empty, the counts are within the sizes, and every number of t fits.
use mathlib.Core.Path.{◌≡◌, refl, sym, ap, ◌∙◌}
use mathlib.Core.List.{List, [], ◌++◌, append-nil}
use Prim.Native.Nat.{ℕ}
use lib.ListN.{length, replicate}
use Rattle.der.specs.Span.{Bytes}
use Rattle.pkcs12.specs.Table.{table_of, empty_table}
use Rattle.buffer.specs.Placed.{each}
use Rattle.pkcs12.specs.Accepted.{IsAccepted, table_from}
use Rattle.pkcs12.specs.declared.table.Table.{Table}
use Rattle.words.specs.Layout.{table_words}
use Rattle.words.specs.Stored.{rows_words, words_of}
use Rattle.load.specs.Loaded.{table_in}
use Rattle.load.specs.Wordable.{Wordable}
use Rattle.words.proofs.Whole.{words_length}
use Rattle.load.proofs.Loading.{stored_loaded}
use Rattle.load.proofs.Fitting as fitting

-- Every table has the same number of words.
pub words_count : (t : Table) → length (words_of t) ≡ table_words
words_count = words_length

-- A table that fits is loaded from its words as it was, whatever is behind them.
pub stored_is_loaded : (t : Table) → Wordable t → (rest : List ℕ) → table_in (words_of t ++ rest) ≡ t
stored_is_loaded = stored_loaded

-- The table of an accepted file fits, and so it is loaded from its words.
pub accepted_wordable : (f : List ℕ) → Bytes f → IsAccepted f → Wordable (table_from f)
accepted_wordable = fitting.accepted_wordable

pub accepted_is_loaded : (f : List ℕ) → Bytes f → IsAccepted f → table_in (words_of (table_from f)) ≡ table_from f
accepted_is_loaded f b a = ap table_in (sym (append-nil (words_of (table_from f)))) ∙ stored_is_loaded (table_from f) (accepted_wordable f b a) []

-- The empty table fits too, and its words are all 0.
pub empty_wordable : Wordable empty_table
empty_wordable = fitting.empty_wordable

pub empty_is_zeros : words_of empty_table ≡ replicate table_words 0
unfolding words_of rows_words empty_table table_of each
empty_is_zeros = refl
