-- Rows that grew: what was added to each list, the elements counted, and that the rows still fit a
-- table.
use mathlib.Core.Path.{◌≡◌, refl, sym, ap, ◌∙◌}
use mathlib.Core.List.{List, [], ◌∷◌, ◌++◌, append-nil, append_assoc}
use Prim.Native.Nat.{ℕ, ◌+◌, ◌≤◌, ◌<◌}
use native.Mathlib.Omega.{arith}
use lib.ListN.{length, length-append}
use Rattle.pkcs12.specs.Numbers.{safe_rows, bag_rows, attribute_rows}
use Rattle.pkcs12.specs.Table.{Rows}
use Rattle.pkcs12.specs.Walk.{counting, add_safe, add_bag, add_attribute}
use Rattle.pkcs12.specs.declared.row.SafeRow.{SafeRow}
use Rattle.pkcs12.specs.declared.row.BagRow.{BagRow}
use Rattle.pkcs12.specs.declared.row.AttributeRow.{AttributeRow}

-- A list of rows, for a table that holds n of them, grew from x to y by a. Proved once, for every
-- kind of row.
pub record Longer {A : Type 0} (n : ℕ) (x y a : List A) : Type 0 where
  pub lists : y ≡ x ++ a
  pub fits : length x ≤ n → length y ≤ n

module _ {A : Type 0} (n : ℕ) where
  -- by nothing, by one row where a row was left, and by one thing after another
  longer_none : (x : List A) → Longer n x x []
  longer_none x = record { lists = sym (append-nil x); fits = λ h. h }

  longer_one : (x : List A) (r : A) → length x < n → Longer n x (x ++ (r ∷ [])) (r ∷ [])
  longer_one x r h = record { lists = refl; fits = λ l. omega (arith, length-append x (r ∷ [])) }

  longer_then : (x y z a b : List A) → Longer n x y a → Longer n y z b → Longer n x z (a ++ b)
  longer_then x y z a b p q =
      record { lists = q.lists ∙ ap (λ l. l ++ b) p.lists ∙ append_assoc x a b; fits = λ h. q.fits (p.fits h) }

  -- how many there are then
  pub longer_length : (x y a : List A) → Longer n x y a → length y ≡ length x + length a
  longer_length x y a p = ap length p.lists ∙ length-append x a

-- the rows fit a table
pub record Fits (st : Rows) : Type 0 where
  pub safes : length st.safes ≤ safe_rows
  pub bags : length st.bags ≤ bag_rows
  pub attributes : length st.attributes ≤ attribute_rows

-- rows that grew by rows of each kind, and the elements counted
pub record Grown (st st' : Rows) (a : List SafeRow) (b : List BagRow) (c : List AttributeRow) (k : ℕ) : Type 0 where
  pub safes : Longer safe_rows st.safes st'.safes a
  pub bags : Longer bag_rows st.bags st'.bags b
  pub attributes : Longer attribute_rows st.attributes st'.attributes c
  pub input : st'.input ≡ st.input
  pub count : st'.count ≡ st.count + k

-- by elements alone, and by nothing
pub grown_counting : (st : Rows) (k : ℕ) → Grown st (counting st k) [] [] [] k
grown_counting st k =
    record { safes = longer_none safe_rows _; bags = longer_none bag_rows _; attributes = longer_none attribute_rows _; input = refl; count = refl }

pub grown_none : (st : Rows) → Grown st st [] [] [] 0
grown_none st =
    record { safes = longer_none safe_rows _; bags = longer_none bag_rows _; attributes = longer_none attribute_rows _; input = refl; count = omega arith }

-- by one thing after another
pub grown_then : (st st' st'' : Rows) (a a' : List SafeRow) (b b' : List BagRow) (c c' : List AttributeRow) (k k' : ℕ)
    → Grown st st' a b c k → Grown st' st'' a' b' c' k' → Grown st st'' (a ++ a') (b ++ b') (c ++ c') (k + k')
grown_then st st' st'' a a' b b' c c' k k' g h =
    record {
      safes = longer_then safe_rows _ _ _ a a' g.safes h.safes;
      bags = longer_then bag_rows _ _ _ b b' g.bags h.bags;
      attributes = longer_then attribute_rows _ _ _ c c' g.attributes h.attributes;
      input = h.input ∙ g.input;
      count = omega (arith, g.count, h.count);
    }

-- the count written otherwise
pub grown_as : (st st' : Rows) (a : List SafeRow) (b : List BagRow) (c : List AttributeRow) (k k' : ℕ) → k ≡ k' → Grown st st' a b c k → Grown st st' a b c k'
grown_as st st' a b c k k' e g = rw e at g

-- by one row
pub grown_safe : (st : Rows) (r : SafeRow) (k : ℕ) → length st.safes < safe_rows → Grown st (add_safe st r k) (r ∷ []) [] [] k
grown_safe st r k h =
    record { safes = longer_one safe_rows _ r h; bags = longer_none bag_rows _; attributes = longer_none attribute_rows _; input = refl; count = refl }

pub grown_bag : (st : Rows) (r : BagRow) (k : ℕ) → length st.bags < bag_rows → Grown st (add_bag st r k) [] (r ∷ []) [] k
grown_bag st r k h =
    record { safes = longer_none safe_rows _; bags = longer_one bag_rows _ r h; attributes = longer_none attribute_rows _; input = refl; count = refl }

pub grown_attribute : (st : Rows) (r : AttributeRow) (k : ℕ) → length st.attributes < attribute_rows → Grown st (add_attribute st r k) [] [] (r ∷ []) k
grown_attribute st r k h =
    record { safes = longer_none safe_rows _; bags = longer_none bag_rows _; attributes = longer_one attribute_rows _ r h; input = refl; count = refl }
