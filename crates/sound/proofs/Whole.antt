-- A table that keeps the rules and whose rows are all taken has a file, of the size that was
-- computed; any other has none.
use mathlib.Core.Path.{◌≡◌, refl, sym, ap, ◌∙◌}
use mathlib.Core.Bool.{Bool, true, false}
use mathlib.Core.List.{List}
use mathlib.Core.Option.{some}
use mathlib.Core.Option as option
use Prim.Native.Nat.{ℕ}
use lib.Dec.{leb}
use lib.ListN.{length}
use borrow.Author.Tests.{leb-true, eq-eqb, ne_eqb}
use Rattle.pkcs12.specs.Numbers.{safe_rows, bag_rows, attribute_rows}
use Rattle.pkcs12.specs.Syntax.{Pfx}
use Rattle.pkcs12.specs.Encode.{safes_bytes, encode}
use Rattle.der.specs.Choice.{both}
use Rattle.pkcs12.specs.Checks.{counts_fit, rows_test, keeps_rules}
use Rattle.pkcs12.specs.Table.{mac_shown, rows_in, reading_of}
use Rattle.pkcs12.specs.Written.{file_of}
use Rattle.pkcs12.specs.declared.table.Table.{Table}
use Rattle.sizes.specs.Bodies.{mac_body}
use Rattle.sizes.specs.Picked.{safes_picked}
use Rattle.sizes.specs.Sizes.{pfx_size, safes_sized}
use Rattle.encode.specs.Sizes.{capped, element_size}
use Rattle.sizes.specs.declared.rows.Safes.{Safes}
use Rattle.encode.proofs.Capped.{near_told, near_then, sized_told, element_told}
use Rattle.sizes.proofs.Nears.{near_pfx}
use Rattle.sizes.proofs.Lengths.{length_encode}
use Rattle.sizes.proofs.Reading.{CountsFit, reading_law}
use Rattle.sound.specs.Measured.{measured}
use Rattle.std.specs.Prelude.{None, Some}

-- the arrays of a table have the lengths that their types say
pub record Arrays (t : Table) : Type 0 where
  pub safes : length t.safes ≡ safe_rows
  pub bags : length t.bags ≡ bag_rows
  pub attributes : length t.attributes ≡ attribute_rows

pub arrays : (t : Table) → length t.safes ≡ safe_rows → length t.bags ≡ bag_rows
    → length t.attributes ≡ attribute_rows → Arrays t
arrays t p q r = record { safes = p; bags = q; attributes = r }

both_first : (t u : Bool) → both t u ≡ true → t ≡ true
both_first true u e = refl
both_first false u e = e

both_second : (t u : Bool) → both t u ≡ true → u ≡ true
both_second true u e = e
both_second false u e = cc

pub fits : (t : Table) (s : List ℕ) → Arrays t → keeps_rules t s ≡ true → CountsFit t
unfolding keeps_rules counts_fit
fits t s a k =
    let c : counts_fit t ≡ true = both_first (counts_fit t) (rows_test s (rows_in t) t.mac) k in
    let d = both_second (leb t.safe_count safe_rows)
    (both (leb t.bag_count bag_rows) (leb t.attribute_count attribute_rows)) c in
    record {
      safe_count = leb-true _ _ (both_first (leb t.safe_count safe_rows)
          (both (leb t.bag_count bag_rows) (leb t.attribute_count attribute_rows)) c);
      bag_count = leb-true _ _ (both_first (leb t.bag_count bag_rows) (leb t.attribute_count attribute_rows) d);
      attribute_count = leb-true _ _
          (both_second (leb t.bag_count bag_rows) (leb t.attribute_count attribute_rows) d);
      safe_length = a.safes;
      bag_length = a.bags;
      attribute_length = a.attributes;
    }

-- u is what testing the rules returned
module _ (t : Table) (s : List ℕ) (u : Bool) (p : u ≡ keeps_rules t s) where
  pub breaks_rules : u ≡ false → None ≡ measured t s
  unfolding measured file_of
  breaks_rules q = rw (sym p ∙ q) refl

  module _ (q : u ≡ true) (a : Arrays t) (all : Safes) (e : all ≡ safes_sized (safes_picked t s 0 0 0)) where
    keeps : keeps_rules t s ≡ true
    keeps = sym p ∙ q

    safe_is : all.safe ≡ (safes_picked t s 0 0 0).safe
    unfolding safes_sized
    safe_is = ap (λ (x : Safes). x.safe) e

    bag_is : all.bag ≡ (safes_picked t s 0 0 0).bag
    unfolding safes_sized
    bag_is = ap (λ (x : Safes). x.bag) e

    attribute_is : all.attribute ≡ (safes_picked t s 0 0 0).attribute
    unfolding safes_sized
    attribute_is = ap (λ (x : Safes). x.attribute) e

    size_is : all.size ≡ capped (length (safes_bytes (safes_picked t s 0 0 0).safes))
    unfolding safes_sized
    size_is = ap (λ (x : Safes). x.size) e

    unread : reading_of t s ≡ option.none → None ≡ measured t s
    unfolding measured file_of
    unread h = rw (keeps, h) refl

    pub safe_left : (all.safe ≡ t.safe_count → ⊥) → None ≡ measured t s
    safe_left h = unread (reading_law t s (fits t s a keeps)
        ∙ rw (ne_eqb (safes_picked t s 0 0 0).safe t.safe_count (λ z. h (safe_is ∙ z))) refl)

    module _ (x : all.safe ≡ t.safe_count) where
      pub bag_left : (all.bag ≡ t.bag_count → ⊥) → None ≡ measured t s
      bag_left h =
          unread (reading_law t s (fits t s a keeps) ∙ rw (
            eq-eqb (safes_picked t s 0 0 0).safe t.safe_count (sym safe_is ∙ x),
            ne_eqb (safes_picked t s 0 0 0).bag t.bag_count (λ z. h (bag_is ∙ z)),
          ) refl)

      module _ (y : all.bag ≡ t.bag_count) where
        pub attribute_left : (all.attribute ≡ t.attribute_count → ⊥) → None ≡ measured t s
        attribute_left h =
            unread (reading_law t s (fits t s a keeps) ∙ rw (
              eq-eqb (safes_picked t s 0 0 0).safe t.safe_count (sym safe_is ∙ x),
              eq-eqb (safes_picked t s 0 0 0).bag t.bag_count (sym bag_is ∙ y),
              ne_eqb (safes_picked t s 0 0 0).attribute t.attribute_count (λ z. h (attribute_is ∙ z)),
            ) refl)

        module _ (z : all.attribute ≡ t.attribute_count) where
          pub read_as : reading_of t s ≡ some (record { safes = (safes_picked t s 0 0 0).safes; mac = mac_shown s t.mac })
          read_as =
              reading_law t s (fits t s a keeps) ∙ rw (
                eq-eqb (safes_picked t s 0 0 0).safe t.safe_count (sym safe_is ∙ x),
                eq-eqb (safes_picked t s 0 0 0).bag t.bag_count (sym bag_is ∙ y),
                eq-eqb (safes_picked t s 0 0 0).attribute t.attribute_count (sym attribute_is ∙ z),
              ) refl

          file_is : measured t s
              ≡ Some (capped (length (encode (record { safes = (safes_picked t s 0 0 0).safes; mac = mac_shown s t.mac }))))
          unfolding measured file_of
          file_is = rw (keeps, read_as) refl

          pub all_measured : (mac body size : ℕ) → mac ≡ capped (length (mac_body (mac_shown s t.mac)))
              → body ≡ capped (pfx_size all.size mac) → size ≡ capped (element_size body)
              → Some size ≡ measured t s
          all_measured mac body size m b c =
              let reading : Pfx = record { safes = (safes_picked t s 0 0 0).safes; mac = mac_shown s t.mac } in
              let near = near_then _ _ _ (near_told body _ b)
              (near_pfx all.size mac (length (safes_bytes reading.safes)) (length (mac_body reading.mac))
              (sized_told all.size (safes_bytes reading.safes) size_is)
              (sized_told mac (mac_body reading.mac) m)) in
              ap Some (element_told size body _ c near ∙ ap capped (sym (length_encode reading))) ∙ sym file_is
