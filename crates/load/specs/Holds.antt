-- Memory that holds rows, and the rows that it holds by their counts.
use Rattle.std.specs.Prelude.{◌≡◌, List, [], ◌∷◌, ◌++◌, ℕ, ◌≤◌, length, get_or, drop}
use Rattle.der.specs.Named.{Each}
use Rattle.buffer.specs.Placed.{each}
use Rattle.pkcs12.specs.Numbers.{safe_rows, bag_rows, attribute_rows}
use Rattle.pkcs12.specs.Table.{Rows, no_safe, no_bag, no_attribute}
use Rattle.words.specs.Layout.{mac_input_at, safes_at, bags_at, attributes_at, table_words}
use Rattle.words.specs.Stored.{range_words, safe_words, bag_words, attribute_words}
use Rattle.words.specs.declared.Counts.{Counts}
use Rattle.load.specs.Loaded.{range_loaded, safe_from, bag_from, attribute_from}
use Rattle.load.specs.Wordable.{BagFits}

-- the words x are in the memory from an offset on
pub record WordsAt (m : List ℕ) (at : ℕ) (x : List ℕ) : Type 0 where
  pub rest : List ℕ
  pub words : drop at m ≡ x ++ rest

-- the words of rows, one row behind another
unfoldable pub in_turn : {A : Type 0} → (A → List ℕ) → A → List A → List ℕ
in_turn words none xs = each (λ i. words (get_or xs i none)) (length xs)

-- the memory has as many words as a table, and in it the rows of each kind from the first on
pub record Holds (m : List ℕ) (st : Rows) : Type 0 where
  pub long : table_words ≤ length m
  pub few_safes : length st.safes ≤ safe_rows
  pub few_bags : length st.bags ≤ bag_rows
  pub few_attributes : length st.attributes ≤ attribute_rows
  pub fits : Each BagFits st.bags
  pub input : WordsAt m mac_input_at (range_words st.input)
  pub safes : WordsAt m safes_at (in_turn safe_words no_safe st.safes)
  pub bags : WordsAt m bags_at (in_turn bag_words no_bag st.bags)
  pub attributes : WordsAt m attributes_at (in_turn attribute_words no_attribute st.attributes)

-- the rows that are counted
unfoldable pub rows_at : List ℕ → Counts → Rows
rows_at m k =
    record {
      safes = each (λ i. safe_from m i ∷ []) k.safes;
      bags = each (λ i. bag_from m i ∷ []) k.bags;
      attributes = each (λ i. attribute_from m i ∷ []) k.attributes;
      input = range_loaded m mac_input_at;
      count = k.elements;
    }
