-- Memory that holds the rows of a table: what ends the table leaves its words.
use mathlib.Core.Path.{◌≡◌, refl, sym, ap, ◌∙◌}
use mathlib.Core.List.{List, ◌++◌, append-nil}
use Prim.Native.Nat.{ℕ, ◌+◌, ◌-◌, ◌≤◌, min}
use native.Mathlib.Nat.{zero-add}
use native.Mathlib.Omega.{arith}
use borrow.Author.Tests.{le-ltb}
use lib.ListN.{length, get_or, take, drop, replicate, length-append, length-take, length-replicate}
use lib.ListN.{take-append-drop, drop_of_length-le}
use lib.Seq.{sets, sets-eq, drop-append_seam}
use Rattle.buffer.specs.Placed.{each}
use Rattle.pkcs12.specs.Numbers.{safe_rows, bag_rows, attribute_rows}
use Rattle.pkcs12.specs.Table.{Rows, no_safe, no_bag, no_attribute, padded, table_of, empty_table}
use Rattle.pkcs12.specs.declared.row.Mac.{Mac}
use Rattle.words.specs.Layout.{mac_input_at, safes_at, bags_at, attributes_at, table_words}
use Rattle.words.specs.Stored.{safe_words, bag_words, attribute_words, words_of}
use Rattle.words.specs.InPlace.{input_stored, finished, cleared}
use Rattle.words.specs.Steps.{StoredAt}
use Rattle.words.proofs.Whole.{words_length}
use Rattle.words.proofs.Filled.{safes_of, bags_of, attributes_of, table_stored}
use Rattle.load.specs.Holds.{WordsAt, in_turn, Holds}
use Rattle.load.proofs.Held.{sets_past, each_same, get_d_front, counts_of}
use Rattle.load.proofs.Theorems.{empty_is_zeros}

-- words that are there already are stored again
words_again : (m : List ℕ) (at : ℕ) (x : List ℕ) → at ≤ length m → WordsAt m at x → sets m at x ≡ m
words_again m at x h w =
    let l : length (take at m) ≡ at = length-take at m ∙ omega (arith, h) in
    let a : m ≡ take at m ++ (x ++ w.rest) =
    sym (take-append-drop at m) ∙ ap (λ (r : List ℕ). take at m ++ r) w.words in
    let p : at ≡ length (take at m) + 0 = omega (arith, l) in
    let b : sets (x ++ w.rest) 0 x ≡ x ++ w.rest =
    sets-eq x (x ++ w.rest) 0 (omega (arith, length-append x w.rest))
    ∙ ap (λ (n : ℕ). x ++ drop n (x ++ w.rest)) (zero-add (length x))
    ∙ ap (λ (r : List ℕ). x ++ r) (drop-append_seam x w.rest) in
    ap (λ (r : List ℕ). sets r at x) a
    ∙ ap (λ (i : ℕ). sets (take at m ++ (x ++ w.rest)) i x) p
    ∙ sets_past (take at m) (x ++ w.rest) 0 x
    ∙ ap (λ (r : List ℕ). take at m ++ r) b
    ∙ sym a

-- the words of rows in an array, where the others are empty
rows_words_lem : {A : Type 0} (words : A → List ℕ) (none : A) (rows : ℕ) (xs : List A) → length xs ≤ rows
    → each (λ i. words (get_or (padded rows none xs) i none)) (min (length xs) rows) ≡ in_turn words none xs
unfolding in_turn
rows_words_lem words none rows xs h =
    let n : min (length xs) rows ≡ length xs = omega (arith, h) in
    rw n
    (each_same (λ i. words (get_or (padded rows none xs) i none)) (λ i. words (get_or xs i none)) (length xs)
    (λ i l. ap words (get_d_front xs (replicate (rows - length xs) none) i none l)))

-- words that fill the memory
whole_memory : (m x : List ℕ) → length m ≡ length x → sets m 0 x ≡ x
whole_memory m x h =
    sets-eq x m 0 (omega (arith, h))
    ∙ ap (λ (r : List ℕ). x ++ r) (drop_of_length-le m {i = 0 + length x} (omega (arith, h)))
    ∙ append-nil x

module _ (m : List ℕ) (st : Rows) (x : Mac) (h : Holds m st) (l : length m ≡ table_words) where
  input_again : m ≡ input_stored m st.input
  unfolding input_stored
  input_again =
      rw (le-ltb (length m) table_words h.long) (sym (words_again m mac_input_at _ (omega (arith, l)) h.input))

  safes_again : StoredAt m safes_at (safes_of (table_of st x)) m
  unfolding table_of
  safes_again =
      record {
        words =
            sym
            (rw (rows_words_lem safe_words no_safe safe_rows st.safes h.few_safes)
            (words_again m safes_at _ (omega (arith, l)) h.safes));
      }

  bags_again : StoredAt m bags_at (bags_of (table_of st x)) m
  unfolding table_of
  bags_again =
      record {
        words =
            sym
            (rw (rows_words_lem bag_words no_bag bag_rows st.bags h.few_bags)
            (words_again m bags_at _ (omega (arith, l)) h.bags));
      }

  attributes_again : StoredAt m attributes_at (attributes_of (table_of st x)) m
  unfolding table_of
  attributes_again =
      record {
        words =
            sym
            (rw (rows_words_lem attribute_words no_attribute attribute_rows st.attributes h.few_attributes)
            (words_again m attributes_at _ (omega (arith, l)) h.attributes));
      }

  pub finished_words : finished m (counts_of st) x ≡ words_of (table_of st x)
  unfolding table_of
  finished_words =
      (table_stored (table_of st x) m m m m m _ h.long input_again safes_again bags_again attributes_again refl).words
      ∙ whole_memory m (words_of (table_of st x)) (l ∙ sym (words_length (table_of st x)))

pub cleared_words : (m : List ℕ) → length m ≡ table_words → cleared m ≡ words_of empty_table
unfolding cleared
cleared_words m l =
    let n = length-replicate {A = ℕ} table_words 0 in
    rw (le-ltb (length m) table_words (omega (arith, l)))
    (whole_memory m (replicate table_words 0) (l ∙ sym n))
    ∙ sym empty_is_zeros
