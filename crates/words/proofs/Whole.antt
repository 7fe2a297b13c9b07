-- A whole table is stored: how many words it has, and the two outcomes.
use mathlib.Core.Path.{◌≡◌, refl, sym, ap, ◌∙◌}
use mathlib.Core.List.{List, ◌++◌}
use Prim.Native.Nat.{ℕ, ◌+◌, ◌*◌, ◌≤◌, ◌<◌}
use native.Mathlib.Omega.{arith}
use borrow.Author.Tests.{lt-ltb, le-ltb}
use lib.Dec.{ltb}
use lib.ListN.{length, drop, length-append}
use lib.Seq.{sets-eq}
use Rattle.std.specs.Prelude.{if◌then◌else◌}
use Rattle.pkcs12.specs.Numbers.{safe_rows, bag_rows, attribute_rows}
use Rattle.buffer.specs.Numbers.{short_buffer}
use Rattle.pkcs12.specs.Table.{no_safe, no_bag, no_attribute}
use Rattle.buffer.specs.Written.{Outcome, refusal, success}
use Rattle.pkcs12.specs.declared.row.SafeRow.{SafeRow}
use Rattle.pkcs12.specs.declared.row.BagRow.{BagRow}
use Rattle.pkcs12.specs.declared.row.AttributeRow.{AttributeRow}
use Rattle.pkcs12.specs.declared.table.Table.{Table}
use Rattle.der.specs.declared.Fault.{Fault}
use Rattle.std.specs.Prelude.{Ok, Result}
use Rattle.words.specs.Layout.{safe_width, bag_width, attribute_width, table_words}
use Rattle.words.specs.Stored.{head_words, safe_words, bag_words, attribute_words, safes_words, bags_words}
use Rattle.words.specs.Stored.{attributes_words, words_of, stored, stored_row}
use Rattle.words.specs.Steps.{StoredAt}
use Rattle.words.proofs.Rows.{rows_length}

pub safes_length : (rows : List SafeRow) (count : ℕ) → length (safes_words rows count) ≡ safe_rows * safe_width
safes_length rows count = rows_length safe_words no_safe safe_width safe_rows rows count (λ x. refl)

pub bags_length : (rows : List BagRow) (count : ℕ) → length (bags_words rows count) ≡ bag_rows * bag_width
bags_length rows count = rows_length bag_words no_bag bag_width bag_rows rows count (λ x. refl)

pub attributes_length : (rows : List AttributeRow) (count : ℕ) → length (attributes_words rows count) ≡ attribute_rows * attribute_width
attributes_length rows count = rows_length attribute_words no_attribute attribute_width attribute_rows rows count (λ x. refl)

pub words_length : (t : Table) → length (words_of t) ≡ table_words
unfolding words_of
words_length t =
    let x : List ℕ = safes_words t.safes t.safe_count in
    let y : List ℕ = bags_words t.bags t.bag_count in
    let z : List ℕ = attributes_words t.attributes t.attribute_count in
    let a = length-append (head_words t) (x ++ (y ++ z)) in
    let b = length-append x (y ++ z) in
    let c = length-append y z in
    omega (
      arith,
      a,
      b,
      c,
      safes_length t.safes t.safe_count,
      bags_length t.bags t.bag_count,
      attributes_length t.attributes t.attribute_count,
    )

-- the outcomes of storing words x of a known number
module _ (x : List ℕ) (n : ℕ) (l : length x ≡ n) (memory : List ℕ) where
  -- refused where there are fewer, else stored at the front
  abbrev pub outcome : Outcome
  outcome = if ltb (length memory) n then refusal short_buffer memory else success x memory

  module _ (o : Outcome) (is : o ≡ outcome) where
    too_few : length memory < n → o ≡ refusal short_buffer memory
    too_few h = is ∙ rw (lt-ltb (length memory) n h)

    module _ (h : n ≤ length memory) where
      enough : o ≡ success x memory
      enough = is ∙ rw (le-ltb (length memory) n h)

      stored_answer : (k : ℕ) → k ≡ n → Ok k ≡ o.answer
      stored_answer k e = ap {B = (Result ℕ Fault)} Ok (e ∙ sym l) ∙ sym (ap (λ (y : Outcome). y.answer) enough)

      stored_memory : (e : List ℕ) → StoredAt memory 0 x e → e ≡ o.buffer
      stored_memory e s =
          let z : 0 + length x ≡ length x = omega arith in
          let f : e ≡ x ++ drop (0 + length x) memory = s.words ∙ sets-eq x memory 0 (omega (arith, l, h)) in
          (rw z at f) ∙ sym (ap (λ (y : Outcome). y.buffer) enough)

-- a table
module _ (t : Table) (memory : List ℕ) where
  is_table : stored t memory ≡ outcome (words_of t) table_words (words_length t) memory
  unfolding stored
  is_table = refl

  pub few_for_table : length memory < table_words → stored t memory ≡ refusal short_buffer memory
  few_for_table = too_few (words_of t) table_words (words_length t) memory (stored t memory) is_table

  pub stored_whole : table_words ≤ length memory → stored t memory ≡ success (words_of t) memory
  stored_whole = enough (words_of t) table_words (words_length t) memory (stored t memory) is_table

  pub table_answer : table_words ≤ length memory → (k : ℕ) → k ≡ table_words → Ok k ≡ (stored t memory).answer
  table_answer = stored_answer (words_of t) table_words (words_length t) memory (stored t memory) is_table

  pub table_memory : table_words ≤ length memory → (e : List ℕ) → StoredAt memory 0 (words_of t) e
      → e ≡ (stored t memory).buffer
  table_memory h = stored_memory (words_of t) table_words (words_length t) memory (stored t memory) is_table h

-- an attribute row
module _ (x : AttributeRow) (memory : List ℕ) where
  is_row : stored_row x memory ≡ outcome (attribute_words x) attribute_width refl memory
  unfolding stored_row
  is_row = refl

  pub few_for_row : length memory < attribute_width → stored_row x memory ≡ refusal short_buffer memory
  few_for_row = too_few (attribute_words x) attribute_width refl memory (stored_row x memory) is_row

  pub row_answer : attribute_width ≤ length memory → (k : ℕ) → k ≡ attribute_width → Ok k ≡ (stored_row x memory).answer
  row_answer = stored_answer (attribute_words x) attribute_width refl memory (stored_row x memory) is_row

  pub row_memory : attribute_width ≤ length memory → (e : List ℕ) → StoredAt memory 0 (attribute_words x) e
      → e ≡ (stored_row x memory).buffer
  row_memory h = stored_memory (attribute_words x) attribute_width refl memory (stored_row x memory) is_row h
