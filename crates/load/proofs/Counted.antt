-- Memory that holds rows by their counts, as the code has them: a row that is stored at its count
-- leaves the rows before it and this one.
use mathlib.Core.Path.{◌≡◌, refl, sym, ap, ◌∙◌}
use mathlib.Core.List.{List, [], ◌∷◌}
use Prim.Native.Nat.{ℕ, ◌+◌, ◌*◌, ◌≤◌, ◌<◌}
use native.Mathlib.Omega.{arith}
use borrow.Author.Tests.{le-ltb, lt-leb}
use lib.ListN.{length, drop, length-append}
use lib.Seq.{sets, length-sets}
use Rattle.der.specs.Named.{Each}
use Rattle.buffer.specs.Placed.{each}
use Rattle.range.specs.declared.Range.{Range}
use Rattle.pkcs12.specs.Numbers.{safe_rows, bag_rows, attribute_rows}
use Rattle.pkcs12.specs.Table.{Rows}
use Rattle.pkcs12.specs.Walk.{counting, add_safe, add_bag, add_attribute}
use Rattle.pkcs12.specs.declared.row.SafeRow.{SafeRow}
use Rattle.pkcs12.specs.declared.row.BagRow.{BagRow}
use Rattle.pkcs12.specs.declared.row.AttributeRow.{AttributeRow}
use Rattle.words.specs.Layout.{safe_width, bag_width, attribute_width, safes_at, bags_at, attributes_at, mac_input_at}
use Rattle.words.specs.Layout.{table_words}
use Rattle.words.specs.Stored.{range_words, safe_words, bag_words, attribute_words}
use Rattle.words.specs.InPlace.{safe_stored, bag_stored, attribute_stored, input_stored}
use Rattle.words.specs.declared.Counts.{Counts}
use Rattle.load.specs.Wordable.{BagFits}
use Rattle.load.specs.Holds.{WordsAt, in_turn, Holds, rows_at}
use Rattle.load.proofs.Held.{counts_of, rows_back, safe_count_lem, bag_count, attribute_count, holds_safe}
use Rattle.load.proofs.Held.{holds_bag, holds_attribute, grown}

-- counts with j more elements; with a row more, and with its j elements
abbrev pub with_count : Counts → ℕ → Counts
with_count k j = record { safes = k.safes; bags = k.bags; attributes = k.attributes; elements = k.elements + j }

abbrev pub with_safe : Counts → ℕ → Counts
with_safe k j = record { safes = k.safes + 1; bags = k.bags; attributes = k.attributes; elements = k.elements + j }

abbrev pub with_bag : Counts → ℕ → Counts
with_bag k j = record { safes = k.safes; bags = k.bags + 1; attributes = k.attributes; elements = k.elements + j }

abbrev pub with_attribute : Counts → ℕ → Counts
with_attribute k j =
    record { safes = k.safes; bags = k.bags; attributes = k.attributes + 1; elements = k.elements + j }

-- memory that holds rows, and their counts
module _ (m : List ℕ) (st : Rows) (k : Counts) (h : Holds m st) (e : k ≡ counts_of st) where
  rows_of : rows_at m k ≡ st
  rows_of = rw e (rows_back m st h)

  held_of : Holds m (rows_at m k)
  held_of = rw rows_of h

module _ (m : List ℕ) (k : Counts) (h : Holds m (rows_at m k)) where
  pub rows_counted : (j : ℕ) → rows_at m (with_count k j) ≡ counting (rows_at m k) j
  unfolding rows_at
  rows_counted j = refl

  pub held_counted : (j : ℕ) → Holds m (rows_at m (with_count k j))
  held_counted j =
      rw (rows_counted j)
      record {
        long = h.long;
        few_safes = h.few_safes;
        few_bags = h.few_bags;
        few_attributes = h.few_attributes;
        fits = h.fits;
        input = h.input;
        safes = h.safes;
        bags = h.bags;
        attributes = h.attributes;
      }

  -- a safe
  module _ (m' : List ℕ) (r : SafeRow) (j : ℕ) (few : k.safes < safe_rows) (p : m' ≡ safe_stored m k.safes r) where
    safe_put : m' ≡ sets m (safes_at + k.safes * safe_width) (safe_words r)
    unfolding safe_stored
    safe_put = p ∙ rw (le-ltb (length m) table_words h.long, lt-leb safe_rows k.safes few)

    safe_held : Holds m' (add_safe (rows_at m k) r j)
    safe_held = rw safe_put (holds_safe m (rows_at m k) h r j k.safes (safe_count_lem m k) few)

    safe_counts : with_safe k j ≡ counts_of (add_safe (rows_at m k) r j)
    unfolding rows_at
    safe_counts =
        let n = length-append (rows_at m k).safes (r ∷ []) ∙ ap (λ (i : ℕ). i + 1) (safe_count_lem m k) in
        sym
        (λ i. record {
          safes = n i;
          bags = bag_count m k i;
          attributes = attribute_count m k i;
          elements = k.elements + j;
        })

    pub rows_with_safe : rows_at m' (with_safe k j) ≡ add_safe (rows_at m k) r j
    rows_with_safe = rows_of m' _ (with_safe k j) safe_held safe_counts

    pub held_with_safe : Holds m' (rows_at m' (with_safe k j))
    held_with_safe = held_of m' _ (with_safe k j) safe_held safe_counts

    pub safe_length : length m' ≡ length m
    safe_length = ap length safe_put ∙ length-sets m _ (safe_words r)

  -- a bag
  module _ (m' : List ℕ) (r : BagRow) (j : ℕ) (fits : BagFits r) (few : k.bags < bag_rows)
      (p : m' ≡ bag_stored m k.bags r) where
    bag_put : m' ≡ sets m (bags_at + k.bags * bag_width) (bag_words r)
    unfolding bag_stored
    bag_put = p ∙ rw (le-ltb (length m) table_words h.long, lt-leb bag_rows k.bags few)

    bag_held : Holds m' (add_bag (rows_at m k) r j)
    bag_held = rw bag_put (holds_bag m (rows_at m k) h r j k.bags fits (bag_count m k) few)

    bag_counts : with_bag k j ≡ counts_of (add_bag (rows_at m k) r j)
    unfolding rows_at
    bag_counts =
        let n = length-append (rows_at m k).bags (r ∷ []) ∙ ap (λ (i : ℕ). i + 1) (bag_count m k) in
        sym
        (λ i. record {
          safes = safe_count_lem m k i;
          bags = n i;
          attributes = attribute_count m k i;
          elements = k.elements + j;
        })

    pub rows_with_bag : rows_at m' (with_bag k j) ≡ add_bag (rows_at m k) r j
    rows_with_bag = rows_of m' _ (with_bag k j) bag_held bag_counts

    pub held_with_bag : Holds m' (rows_at m' (with_bag k j))
    held_with_bag = held_of m' _ (with_bag k j) bag_held bag_counts

    pub bag_length : length m' ≡ length m
    bag_length = ap length bag_put ∙ length-sets m _ (bag_words r)

  -- an attribute
  module _ (m' : List ℕ) (r : AttributeRow) (j : ℕ) (few : k.attributes < attribute_rows)
      (p : m' ≡ attribute_stored m k.attributes r) where
    attribute_put : m' ≡ sets m (attributes_at + k.attributes * attribute_width) (attribute_words r)
    unfolding attribute_stored
    attribute_put = p ∙ rw (le-ltb (length m) table_words h.long, lt-leb attribute_rows k.attributes few)

    attribute_held : Holds m' (add_attribute (rows_at m k) r j)
    attribute_held = rw attribute_put (holds_attribute m (rows_at m k) h r j k.attributes (attribute_count m k) few)

    attribute_counts : with_attribute k j ≡ counts_of (add_attribute (rows_at m k) r j)
    unfolding rows_at
    attribute_counts =
        let n = length-append (rows_at m k).attributes (r ∷ []) ∙ ap (λ (i : ℕ). i + 1) (attribute_count m k) in
        sym
        (λ i. record {
          safes = safe_count_lem m k i;
          bags = bag_count m k i;
          attributes = n i;
          elements = k.elements + j;
        })

    pub rows_with_attribute : rows_at m' (with_attribute k j) ≡ add_attribute (rows_at m k) r j
    rows_with_attribute = rows_of m' _ (with_attribute k j) attribute_held attribute_counts

    pub held_with_attribute : Holds m' (rows_at m' (with_attribute k j))
    held_with_attribute = held_of m' _ (with_attribute k j) attribute_held attribute_counts

    pub attribute_length : length m' ≡ length m
    attribute_length = ap length attribute_put ∙ length-sets m _ (attribute_words r)

-- the first memory: the MAC input is stored, and no row
module _ (m : List ℕ) (r : Range) (long : table_words ≤ length m) (j : ℕ) where
  abbrev first_counts : Counts
  first_counts = record { safes = 0; bags = 0; attributes = 0; elements = j }

  abbrev first_rows : Rows
  first_rows = record { safes = []; bags = []; attributes = []; input = r; count = j }

  first_put : input_stored m r ≡ sets m mac_input_at (range_words r)
  unfolding input_stored
  first_put = rw (le-ltb (length m) table_words long)

  nothing_at : (l : List ℕ) (at : ℕ) → WordsAt l at []
  nothing_at l at = record { rest = drop at l; words = refl }

  first_holds : Holds (input_stored m r) first_rows
  unfolding in_turn each Each
  first_holds =
      let n : WordsAt (sets m mac_input_at (range_words r)) mac_input_at (range_words r) =
      grown m mac_input_at [] (nothing_at m mac_input_at) mac_input_at (range_words r) (omega arith) (omega (arith, long)) in
      record {
        long = rw first_put (omega (arith, long, length-sets m mac_input_at (range_words r)));
        few_safes = omega arith;
        few_bags = omega arith;
        few_attributes = omega arith;
        fits = tt;
        input = rw first_put n;
        safes = nothing_at (input_stored m r) safes_at;
        bags = nothing_at (input_stored m r) bags_at;
        attributes = nothing_at (input_stored m r) attributes_at;
      }

  pub rows_first : rows_at (input_stored m r) first_counts ≡ first_rows
  rows_first = rows_of (input_stored m r) first_rows first_counts first_holds refl

  pub held_first : Holds (input_stored m r) (rows_at (input_stored m r) first_counts)
  held_first = held_of (input_stored m r) first_rows first_counts first_holds refl
