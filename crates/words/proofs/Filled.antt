-- A whole table, stored part by part.
use mathlib.Core.Path.{◌≡◌, refl, ap, ◌∙◌}
use mathlib.Core.List.{List}
use Prim.Native.Nat.{ℕ, ◌+◌, ◌-◌, ◌*◌, ◌≤◌, min}
use native.Mathlib.Omega.{arith}
use borrow.Author.Tests.{le-ltb}
use lib.ListN.{length, get_or, replicate, length-replicate}
use lib.Seq.{sets}
use Rattle.pkcs12.specs.Numbers.{safe_rows, bag_rows, attribute_rows}
use Rattle.pkcs12.specs.Table.{no_safe, no_bag, no_attribute}
use Rattle.pkcs12.specs.declared.table.Table.{Table}
use Rattle.buffer.specs.Placed.{each}
use Rattle.words.specs.declared.Counts.{Counts}
use Rattle.words.specs.Layout.{safe_width, bag_width, attribute_width, elements_at, mac_input_at, mac_fields_at}
use Rattle.words.specs.Layout.{safes_at, bags_at, attributes_at, table_words}
use Rattle.words.specs.Stored.{range_words, safe_words, bag_words, attribute_words, mac_words, count_words}
use Rattle.words.specs.Stored.{rows_words, words_of}
use Rattle.words.specs.InPlace.{input_stored, head_stored, rest_cleared, finished}
use Rattle.words.specs.Steps.{StoredAt}
use Rattle.words.proofs.Stores.{stored_length}
use Rattle.words.proofs.Rows.{each_length}
use Rattle.words.proofs.InPlace.{input_placed}
use Rattle.words.proofs.Apart.{all_stored}

module _ (t : Table) where
  abbrev pub counts_of : Counts
  counts_of =
      record {
        safes = t.safe_count;
        bags = t.bag_count;
        attributes = t.attribute_count;
        elements = t.elements;
      }

  -- the words of its rows of each kind, the offset behind them, and zeros up to the next part
  abbrev pub safes_of : List ℕ
  safes_of = each (λ i. safe_words (get_or t.safes i no_safe)) (min t.safe_count safe_rows)

  abbrev safes_end : ℕ
  safes_end = safes_at + min t.safe_count safe_rows * safe_width

  abbrev safes_rest : List ℕ
  safes_rest = replicate ((safe_rows - min t.safe_count safe_rows) * safe_width) 0

  abbrev pub bags_of : List ℕ
  bags_of = each (λ i. bag_words (get_or t.bags i no_bag)) (min t.bag_count bag_rows)

  abbrev bags_end : ℕ
  bags_end = bags_at + min t.bag_count bag_rows * bag_width

  abbrev bags_rest : List ℕ
  bags_rest = replicate ((bag_rows - min t.bag_count bag_rows) * bag_width) 0

  abbrev pub attributes_of : List ℕ
  attributes_of =
      each (λ i. attribute_words (get_or t.attributes i no_attribute)) (min t.attribute_count attribute_rows)

  abbrev attributes_end : ℕ
  attributes_end = attributes_at + min t.attribute_count attribute_rows * attribute_width

  abbrev attributes_rest : List ℕ
  attributes_rest = replicate ((attribute_rows - min t.attribute_count attribute_rows) * attribute_width) 0

  -- the rows are stored, and the end of the table
  abbrev counts : List ℕ
  counts = count_words t.elements t.safe_count t.bag_count t.attribute_count

  abbrev with_rows : List ℕ → List ℕ
  with_rows m = sets (sets (sets m safes_at safes_of) bags_at bags_of) attributes_at attributes_of

  abbrev ended : List ℕ → List ℕ
  ended m =
      sets (sets (sets (sets (sets m elements_at counts) mac_fields_at (mac_words t.mac))
      safes_end safes_rest) bags_end bags_rest) attributes_end attributes_rest

  finished_is : (m : List ℕ) → table_words ≤ length m → finished m counts_of t.mac ≡ ended m
  unfolding finished head_stored rest_cleared
  finished_is m h = rw (le-ltb (length m) table_words h)

  -- the parts make the words of the table
  ended_all : (m : List ℕ) → ended (with_rows (sets m mac_input_at (range_words t.mac_input))) ≡ sets m 0 (words_of t)
  unfolding words_of rows_words
  ended_all m =
      let u : length safes_of ≡ min t.safe_count safe_rows * safe_width =
      each_length _ safe_width (λ i. refl) (min t.safe_count safe_rows) in
      let v : length bags_of ≡ min t.bag_count bag_rows * bag_width =
      each_length _ bag_width (λ i. refl) (min t.bag_count bag_rows) in
      let w : length attributes_of ≡ min t.attribute_count attribute_rows * attribute_width =
      each_length _ attribute_width (λ i. refl) (min t.attribute_count attribute_rows) in
      let x : length safes_rest ≡ (safe_rows - min t.safe_count safe_rows) * safe_width =
      length-replicate {A = ℕ} _ 0 in
      let y : length bags_rest ≡ (bag_rows - min t.bag_count bag_rows) * bag_width =
      length-replicate {A = ℕ} _ 0 in
      all_stored m counts (range_words t.mac_input) (mac_words t.mac)
      safes_of safes_rest bags_of bags_rest attributes_of attributes_rest
      mac_input_at mac_fields_at safes_at safes_end bags_at bags_end attributes_at attributes_end
      refl refl refl (omega (arith, u)) (omega (arith, x)) (omega (arith, v)) (omega (arith, y)) (omega (arith, w))

  -- the MAC input, the rows of each kind, the end of the table
  pub table_stored : (m a b d e f : List ℕ) → table_words ≤ length m → a ≡ input_stored m t.mac_input
      → StoredAt a safes_at safes_of b → StoredAt b bags_at bags_of d → StoredAt d attributes_at attributes_of e
      → f ≡ finished e counts_of t.mac → StoredAt m 0 (words_of t) f
  table_stored m a b d e f h p s₁ s₂ s₃ q =
      let s₀ = input_placed m a h t.mac_input p in
      let l : length e ≡ length m = stored_length s₃ ∙ stored_length s₂ ∙ stored_length s₁ ∙ stored_length s₀ in
      let e_is : e ≡ with_rows (sets m mac_input_at (range_words t.mac_input)) =
      s₃.words ∙ ap (λ (k : List ℕ). sets k attributes_at attributes_of) (s₂.words
      ∙ ap (λ (k : List ℕ). sets k bags_at bags_of) (s₁.words
      ∙ ap (λ (k : List ℕ). sets k safes_at safes_of) s₀.words)) in
      record { words = q ∙ finished_is e (omega (arith, l, h)) ∙ ap ended e_is ∙ ended_all m }
