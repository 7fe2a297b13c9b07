-- The attribute rows of a bag, counted.
use mathlib.Core.Path.{◌≡◌, refl, sym, ap, ◌∙◌}
use mathlib.Core.Bool.{Bool, true, false}
use Prim.Native.Nat.{ℕ, zero, suc, ◌+◌, ◌≤◌, ◌<◌}
use native.Mathlib.Omega.{arith}
use lib.Dec.{eqb}
use mathlib.Core.List.{List}
use lib.ListN.{length, take, get_or}
use Rattle.std.specs.Prelude.{if◌then◌else◌}
use Rattle.std.specs.List.{count_by}
use Rattle.std.proofs.lemmas.List.Sums.{count_by_more_no, count_by_more_yes}
use Rattle.pkcs12.specs.Table.{no_attribute}
use Rattle.pkcs12.specs.declared.row.AttributeRow.{AttributeRow}
use Rattle.pkcs12.specs.declared.table.Table.{Table}
use Rattle.listing.specs.Lines.{own_among}

-- one row more
one_more : (xs : List AttributeRow) (bag n k : ℕ) (u : Bool) → n < length xs → u ≡ eqb (get_or xs n no_attribute).bag bag
    → count_by (λ (r : AttributeRow). eqb r.bag bag) (take n xs) ≡ k
    → count_by (λ (r : AttributeRow). eqb r.bag bag) (take (n + 1) xs) ≡ k + (if u then 1 else 0)
one_more xs bag n k true h e p = count_by_more_yes _ xs n no_attribute h (sym e) ∙ ap (λ (x : ℕ). x + 1) p
one_more xs bag n k false h e p = omega (arith, count_by_more_no (λ (r : AttributeRow). eqb r.bag bag) xs n no_attribute h (sym e), p)

module _ (t : Table) (bag : ℕ) where
  -- those among the first n rows
  among : (n : ℕ) → n ≤ length t.attributes
      → count_by (λ (r : AttributeRow). eqb r.bag bag) (take n t.attributes) ≡ own_among t bag n
  unfolding own_among
  among zero h = refl
  among (suc n) h = let s : suc n ≡ n + 1 = omega arith in rw s (one_more t.attributes bag n _ _ (omega (arith, h)) refl (among n (omega (arith, h))))

  pub own_counted : (n m k : ℕ) → n ≤ length t.attributes → n ≡ m
      → k ≡ count_by (λ (r : AttributeRow). eqb r.bag bag) (take n t.attributes) → k ≡ own_among t bag m
  own_counted n m k h p e = rw (sym p) (e ∙ among n h)
