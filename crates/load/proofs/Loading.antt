-- The table of parts that were read; a table that fits is loaded from its words, whatever is
-- behind them.
use mathlib.Core.Path.{◌≡◌, refl, ap, ◌∙◌}
use mathlib.Core.List.{List, [], ◌∷◌, ◌++◌}
use Prim.Native.Nat.{ℕ, ◌+◌, ◌≤◌, ◌<◌}
use native.Mathlib.Omega.{arith}
use lib.ListN.{length, get_or, take}
use lib.Seq.{get_or-take}
use Rattle.pkcs12.specs.Numbers.{safe_rows, bag_rows, attribute_rows}
use Rattle.pkcs12.specs.Table.{no_safe, no_bag, no_attribute, padded, table, table_of, rows_in}
use Rattle.pkcs12.specs.declared.table.Table.{Table}
use Rattle.words.specs.Layout.{safe_width, bag_width, attribute_width, elements_at, safe_count_at, bag_count_at}
use Rattle.words.specs.Layout.{attribute_count_at, mac_input_at, mac_fields_at, safes_at, bags_at, attributes_at}
use Rattle.words.specs.Layout.{greatest_word}
use Rattle.words.specs.Stored.{count_word, count_words, range_words, mac_words, safe_words, bag_words, attribute_words}
use Rattle.words.specs.Stored.{head_words, safes_words, bags_words, attributes_words, words_of}
use Rattle.load.specs.Loaded.{word_at, range_loaded, safe_loaded, bag_loaded, attribute_loaded, mac_loaded, safe_from}
use Rattle.load.specs.Loaded.{bag_from}
use Rattle.load.specs.Loaded.{attribute_from, rows_from, table_in}
use Rattle.load.specs.Wordable.{BagFits, Wordable}
use Rattle.load.specs.Holds.{WordsAt}
use Rattle.words.proofs.Whole.{safes_length, bags_length}
use Rattle.load.proofs.Back.{words_front, words_back, words_first, range_back, safe_back, bag_back}
use Rattle.load.proofs.Back.{attribute_back, mac_back, each_at, rows_back}

-- each part is what the words have at its offset
module _ (ws : List ℕ) (t : Table) where
  pub table_read : t.safe_count ≡ word_at ws safe_count_at → t.bag_count ≡ word_at ws bag_count_at → t.attribute_count ≡ word_at ws attribute_count_at
      → t.elements ≡ word_at ws elements_at
      → t.safes ≡ rows_from (safe_from ws) no_safe safe_rows t.safe_count
      → t.bags ≡ rows_from (bag_from ws) no_bag bag_rows t.bag_count
      → t.attributes ≡ rows_from (attribute_from ws) no_attribute attribute_rows t.attribute_count
      → t.mac ≡ mac_loaded ws mac_fields_at → t.mac_input ≡ range_loaded ws mac_input_at → t ≡ table_in ws
  unfolding table_in
  table_read i j k n x y z m r =
      let xs = x ∙ ap (rows_from (safe_from ws) no_safe safe_rows) i in
      let ys = y ∙ ap (rows_from (bag_from ws) no_bag bag_rows) j in
      let zs = z ∙ ap (rows_from (attribute_from ws) no_attribute attribute_rows) k in
      λ l. table (xs l) (i l) (ys l) (j l) (zs l) (k l) (m l) (r l) (n l)

count_same : (n : ℕ) → n ≤ greatest_word → count_word n ≡ n
count_same n h = omega arith

module _ (t : Table) (w : Wordable t) (ws : List ℕ) (s : WordsAt ws 0 (words_of t)) where
  abbrev safes : List ℕ
  safes = safes_words t.safes t.safe_count

  abbrev bags : List ℕ
  bags = bags_words t.bags t.bag_count

  abbrev attributes : List ℕ
  attributes = attributes_words t.attributes t.attribute_count

  -- ---- where the parts are

  head_there : WordsAt ws 0 (head_words t)
  unfolding words_of
  head_there = words_front ws 0 (head_words t) _ s

  rows_there : WordsAt ws safes_at (safes ++ (bags ++ attributes))
  unfolding words_of
  rows_there = words_back ws 0 (head_words t) _ s

  past_safes : WordsAt ws bags_at (bags ++ attributes)
  past_safes =
      rw (safes_length t.safes t.safe_count)
      at (words_back ws safes_at safes (bags ++ attributes) rows_there)

  past_bags : WordsAt ws attributes_at attributes
  past_bags = rw (bags_length t.bags t.bag_count) at (words_back ws bags_at bags attributes past_safes)

  -- ---- the head

  fields_there : WordsAt ws mac_input_at (range_words t.mac_input ++ mac_words t.mac)
  fields_there =
      words_back ws 0 (count_words t.elements t.safe_count t.bag_count t.attribute_count)
      (range_words t.mac_input ++ mac_words t.mac) head_there

  input_back : range_loaded ws mac_input_at ≡ t.mac_input
  input_back =
      range_back ws mac_input_at t.mac_input
      (words_front ws mac_input_at (range_words t.mac_input) (mac_words t.mac) fields_there)

  fields_back : mac_loaded ws mac_fields_at ≡ t.mac
  fields_back =
      mac_back ws mac_fields_at t.mac
      (words_back ws mac_input_at (range_words t.mac_input) (mac_words t.mac) fields_there)

  -- a count at its offset among the words
  count_back : (x : List ℕ) (n : ℕ) (y : List ℕ) → head_words t ≡ x ++ (count_word n ∷ y) → n ≤ greatest_word → word_at ws (0 + length x) ≡ n
  count_back x n y e h =
      words_first ws (0 + length x) (count_word n) y
      (words_back ws 0 x (count_word n ∷ y) (rw e at head_there)) ∙ count_same n h

  -- ---- the rows

  safe_rows_lem : t.safes ≡ padded safe_rows no_safe (take t.safe_count t.safes)
  unfolding table_of rows_in
  safe_rows_lem = ap (λ (u : Table). u.safes) w.empty_past

  safe_number_lem : t.safe_count ≡ length (take t.safe_count t.safes)
  unfolding table_of rows_in
  safe_number_lem = ap (λ (u : Table). u.safe_count) w.empty_past

  bag_rows_lem : t.bags ≡ padded bag_rows no_bag (take t.bag_count t.bags)
  unfolding table_of rows_in
  bag_rows_lem = ap (λ (u : Table). u.bags) w.empty_past

  bag_number_lem : t.bag_count ≡ length (take t.bag_count t.bags)
  unfolding table_of rows_in
  bag_number_lem = ap (λ (u : Table). u.bag_count) w.empty_past

  attribute_rows_lem : t.attributes ≡ padded attribute_rows no_attribute (take t.attribute_count t.attributes)
  unfolding table_of rows_in
  attribute_rows_lem = ap (λ (u : Table). u.attributes) w.empty_past

  attribute_number : t.attribute_count ≡ length (take t.attribute_count t.attributes)
  unfolding table_of rows_in
  attribute_number = ap (λ (u : Table). u.attribute_count) w.empty_past

  safes_back : rows_from (safe_from ws) no_safe safe_rows t.safe_count ≡ t.safes
  safes_back =
      rows_back safe_words (safe_loaded ws) safe_width safe_rows t.safe_count no_safe t.safes ws safes_at
      (λ x. refl) (λ i h p. safe_back ws p (get_or t.safes i no_safe)) w.safe_count safe_number_lem safe_rows_lem
      (words_front ws safes_at safes (bags ++ attributes) rows_there)

  bag_fits : (i : ℕ) → i < length (take t.bag_count t.bags) → BagFits (get_or t.bags i no_bag)
  unfolding rows_in
  bag_fits i h =
      rw (get_or-take t.bag_count t.bags i no_bag (omega (arith, h, bag_number_lem)))
      at (each_at BagFits (take t.bag_count t.bags) no_bag w.bags i h)

  bags_back : rows_from (bag_from ws) no_bag bag_rows t.bag_count ≡ t.bags
  bags_back =
      rows_back bag_words (bag_loaded ws) bag_width bag_rows t.bag_count no_bag t.bags ws bags_at
      (λ x. refl) (λ i h p. bag_back ws p (get_or t.bags i no_bag) (bag_fits i h)) w.bag_count bag_number_lem bag_rows_lem
      (words_front ws bags_at bags attributes past_safes)

  attributes_back : rows_from (attribute_from ws) no_attribute attribute_rows t.attribute_count ≡ t.attributes
  attributes_back =
      rows_back attribute_words (attribute_loaded ws) attribute_width attribute_rows
      t.attribute_count no_attribute t.attributes ws attributes_at (λ x. refl)
      (λ i h p. attribute_back ws p (get_or t.attributes i no_attribute)) w.attribute_count
      attribute_number attribute_rows_lem past_bags

  -- ---- all of it

  pub loaded : table_in ws ≡ t
  unfolding table_in
  loaded =
      let e : ℕ = count_word t.elements in
      let i : ℕ = count_word t.safe_count in
      let j : ℕ = count_word t.bag_count in
      rw (
        count_back [] t.elements _ refl w.elements,
        count_back (e ∷ []) t.safe_count _ refl (omega (arith, w.safe_count)),
        count_back (e ∷ i ∷ []) t.bag_count _ refl (omega (arith, w.bag_count)),
        count_back (e ∷ i ∷ j ∷ []) t.attribute_count _ refl (omega (arith, w.attribute_count)),
        safes_back,
        bags_back,
        attributes_back,
        fields_back,
        input_back,
      )

pub stored_loaded : (t : Table) → Wordable t → (rest : List ℕ) → table_in (words_of t ++ rest) ≡ t
stored_loaded t w rest = loaded t w (words_of t ++ rest) (record { rest = rest; words = refl })
