-- A sound table's rows and its reading: a table has a file exactly if it is sound, and its rows
-- show the bags and attributes of the reading.
use mathlib.Core.Path.{◌≡◌, refl, sym, ◌∙◌, ap}
use mathlib.Core.List.{List, map}
use mathlib.Core.Option.{Option, some}
use mathlib.Core.Option as option
use Prim.Native.Nat.{ℕ}
use native.Mathlib.Omega.{arith}
use lib.ListN.{take}
use Rattle.der.specs.Span.{Bytes}
use Rattle.pkcs12.specs.Values.{BagValue, AttributeValue, Values, bags_of_safes, attributes_of_safes, rows_of}
use Rattle.pkcs12.specs.Table.{bag_shown, attribute_shown, shown, rows_in, values_of, reading_of}
use Rattle.pkcs12.specs.Sound.{Sound}
use Rattle.pkcs12.specs.Written.{file_of, on_file}
use Rattle.pkcs12.specs.declared.table.Table.{Table}
use Rattle.pkcs12.proofs.Theorems.{file_iff_sound, reading_has_rows}
use Rattle.pkcs12.proofs.Checked.{no_file_iff}
use Rattle.attributes.specs.Own.{attributes_of, own_in, own_rows, set_in_safes, listed}
use Rattle.attributes.proofs.Sets.{shown_by, shown_own, own_safes}

-- what holds of the answer for no file and of that for a file, each with its reason, holds of the
-- answer
pub by_file : {A : Type 0} (P : A → Type 0) (t : Table) (s : List ℕ) → Bytes s → (x : A) (y : List ℕ → A)
    → ((Sound t s → ⊥) → P x) → (Sound t s → (f : List ℕ) → P (y f)) → P (on_file (file_of t s) x y)
by_file P t s b x y bad good = go (file_of t s) (no_file_iff t s b).0 (λ f e. ((file_iff_sound t s b f).0 e).0)
  where
    go : (u : Option (List ℕ)) → (u ≡ option.none → Sound t s → ⊥)
        → ((f : List ℕ) → u ≡ some f → Sound t s) → P (on_file u x y)
    go option.none h k = bad (h refl)
    go (some f) h k = good (k f refl) f

module _ (t : Table) (s : List ℕ) (o : Sound t s) where
  pub shown_bags : bags_of_safes 0 0 o.reading.safes ≡ map (bag_shown s) (take t.bag_count t.bags)
  unfolding reading_of rows_of values_of shown rows_in
  shown_bags = ap {B = List BagValue} (λ (v : Values). v.bags)
      (reading_has_rows (values_of t s) o.reading o.shows)

  shown_attributes : attributes_of_safes 0 o.reading.safes ≡ map (attribute_shown s) (attributes_of t)
  unfolding reading_of rows_of values_of shown rows_in
  shown_attributes = ap {B = List AttributeValue} (λ (v : Values). v.attributes)
      (reading_has_rows (values_of t s) o.reading o.shows)

  -- the rows that name a bag show the attributes of its set
  pub shown_set : (n : ℕ) → listed (set_in_safes n o.reading.safes) ≡ map (shown_by s) (own_rows n (attributes_of t))
  shown_set n = sym (own_safes n 0 n o.reading.safes (omega arith)) ∙ ap (own_in n) shown_attributes
      ∙ sym (shown_own s n (attributes_of t))
