-- Parts of a table, each stored where it belongs, and where the memory stays as it is.
use mathlib.Core.Path.{◌≡◌, ap, ◌∙◌}
use mathlib.Core.List.{List}
use Prim.Native.Nat.{ℕ, ◌+◌, ◌-◌, ◌*◌, ◌≤◌, ◌<◌, min}
use native.Mathlib.Omega.{arith}
use borrow.Author.Tests.{lt-ltb, le-ltb, lt-leb}
use lib.ListN.{length, get_or, replicate}
use lib.Seq.{sets}
use Rattle.std.proofs.lemmas.List.{get_or_default}
use Rattle.pkcs12.specs.Numbers.{safe_rows, bag_rows, attribute_rows}
use Rattle.range.specs.declared.Range.{Range}
use Rattle.pkcs12.specs.declared.row.Mac.{Mac}
use Rattle.words.specs.declared.Counts.{Counts}
use Rattle.words.specs.Layout.{safe_width, bag_width, attribute_width, elements_at, mac_input_at, mac_fields_at}
use Rattle.words.specs.Layout.{safes_at, bags_at, attributes_at, table_words}
use Rattle.words.specs.Stored.{range_words, count_words, mac_words}
use Rattle.words.specs.Steps.{StoredAt}
use Rattle.words.specs.InPlace.{in_table, row_stored, input_stored}
use Rattle.words.specs.InPlace.{head_stored, rest_cleared, finished}

-- shorter than a table
pub kept_short : (m x : List ℕ) → length m < table_words → m ≡ in_table m x
kept_short m x h = rw (lt-ltb (length m) table_words h)

pub part_stored : {m : List ℕ} {at : ℕ} {x e : List ℕ} → table_words ≤ length m → StoredAt m at x e
    → e ≡ in_table m (sets m at x)
part_stored {m} h s = rw (le-ltb (length m) table_words h) s.words

-- ---- where a part is stored

-- a row that was read at its number
pub row_placed : {A : Type 0} (words : A → List ℕ) (xs : List A) (x none : A) (rows from width n : ℕ)
    (m e : List ℕ)
    → table_words ≤ length m → n < rows → n < length xs
    → e ≡ row_stored rows from width m n (words (get_or xs n x))
    → StoredAt m (from + n * width) (words (get_or xs n none)) e
row_placed words xs x none rows from width n m e h k l p =
    record {
      words =
          p
          ∙ rw (le-ltb (length m) table_words h, lt-leb rows n k)
          (ap (λ y. sets m (from + n * width) (words y)) (get_or_default xs n x none l));
    }

pub input_placed : (m e : List ℕ) → table_words ≤ length m → (r : Range) → e ≡ input_stored m r
    → StoredAt m mac_input_at (range_words r) e
unfolding input_stored
input_placed m e h r p = record { words = p ∙ rw (le-ltb (length m) table_words h) }

-- ---- the end of a table

-- k of the rows are counted: zeros from there up to an offset are zeros in place of the other rows
rest_cleared_lem : (from width rows n k to : ℕ) {m e : List ℕ} → k ≡ min n rows
    → to - (from + k * width) ≡ (rows - k) * width
    → StoredAt m (from + k * width) (replicate (to - (from + k * width)) 0) e
    → e ≡ rest_cleared from width rows m n
unfolding rest_cleared
rest_cleared_lem from width rows n k to p q s = s.words ∙ rw (q, p)

module _ (m : List ℕ) (c : Counts) (x : Mac) (i j k : ℕ) (long : table_words ≤ length m)
    (p : i ≡ min c.safes safe_rows) (q : j ≡ min c.bags bag_rows) (r : k ≡ min c.attributes attribute_rows) where
  -- the counts, the MAC, and zeros behind the rows of each kind
  pub end_stored : {a b d e f : List ℕ}
      → StoredAt m elements_at (count_words c.elements c.safes c.bags c.attributes) a
      → StoredAt a mac_fields_at (mac_words x) b
      → StoredAt b (safes_at + i * safe_width) (replicate (bags_at - (safes_at + i * safe_width)) 0) d
      → StoredAt d (bags_at + j * bag_width) (replicate (attributes_at - (bags_at + j * bag_width)) 0) e
      → StoredAt e (attributes_at + k * attribute_width)
      (replicate (table_words - (attributes_at + k * attribute_width)) 0) f
      → f ≡ finished m c x
  unfolding finished head_stored
  end_stored {a} {b} {d} {e} {f} s₁ s₂ s₃ s₄ s₅ =
      let b_is : b ≡ head_stored m c x =
      s₂.words ∙ ap (λ (l : List ℕ). sets l mac_fields_at (mac_words x)) s₁.words in
      let d-is = rest_cleared_lem safes_at safe_width safe_rows c.safes i bags_at p (omega (arith, p)) s₃ in
      let e_is = rest_cleared_lem bags_at bag_width bag_rows c.bags j attributes_at q (omega (arith, q)) s₄ in
      let f-is =
      rest_cleared_lem attributes_at attribute_width attribute_rows c.attributes k table_words r (omega (arith, r)) s₅ in
      rw (le-ltb (length m) table_words long, ← b_is, ← d-is, ← e_is) f-is
