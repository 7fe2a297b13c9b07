-- The table of an accepted file fits: its bags name enclosing bags that there are. So does the
-- empty table.
use mathlib.Core.Path.{refl}
use mathlib.Core.List.{List, [], ◌∷◌}
use Prim.Native.Nat.{ℕ, ◌+◌, ◌≤◌}
use native.Mathlib.Omega.{arith}
use Rattle.der.specs.Span.{Bytes}
use Rattle.pkcs12.specs.Syntax.{Set, Bags, none, bag, nest, Safe, plain, encrypted, Pfx}
use Rattle.pkcs12.specs.Valid.{Valid, bags_in, bags_in_safes}
use Rattle.pkcs12.specs.Table.{no_parts, Rows, rows_in, table_of, empty_table}
use Rattle.pkcs12.specs.Walk.{Owner, owner}
use Rattle.pkcs12.specs.Laid.{BagLaid, BagsLaid, no_bag_laid, one_bag, one_nest, SafesLaid, no_safe_laid, one_plain}
use Rattle.pkcs12.specs.Laid.{one_encrypted, PfxLaid}
use Rattle.pkcs12.specs.Accepted.{IsAccepted, Follows, table_from}
use Rattle.der.specs.Named.{Each}
use Rattle.range.specs.declared.Range.{Range}
use Rattle.pkcs12.specs.declared.row.Parts.{Parts}
use Rattle.pkcs12.specs.declared.kind.BagKind.{BagKind}
use Rattle.std.specs.Prelude.{None, Some}
use Rattle.pkcs12.specs.declared.row.SafeRow.{SafeRow}
use Rattle.pkcs12.specs.declared.row.BagRow.{BagRow}
use Rattle.pkcs12.specs.declared.row.AttributeRow.{AttributeRow}
use Rattle.pkcs12.specs.declared.row.Mac.{Mac}
use Rattle.pkcs12.proofs.Shown.{each_join}
use Rattle.pkcs12.proofs.Theorems as pkcs12
use Rattle.words.specs.Layout.{greatest_word}
use Rattle.load.specs.Wordable.{EnclosingFits, BagFits, Wordable}

module _ (s : List ℕ) where
  bag_fits : (from to : ℕ) (w : Owner) (n : ℕ) (k : BagKind) (p : Parts) (value : Range) (x : List ℕ) (set : Set)
      (row : BagRow) (own : List AttributeRow) → EnclosingFits w.enclosing
      → BagLaid s from to w n k p value x set row own → BagFits row
  bag_fits from to w n k p value x set row own e b = rw b.shows e

  bags_fit : (from to : ℕ) (w : Owner) (n : ℕ) (x : Bags) (rows : List BagRow) (own : List AttributeRow)
      → EnclosingFits w.enclosing → n + bags_in x ≤ greatest_word → BagsLaid s from to w n x rows own
      → Each BagFits rows
  unfolding bags_in Each
  bags_fit from to w n none rows own e c no_bag_laid = tt
  bags_fit from to w n (bag x set xs) rows own e c (one_bag {row = row} {own = mine} p value b l m) = (
    bag_fits _ _ w n _ p value _ set row mine e b,
    bags_fit _ _ w (n + 1) xs _ _ e (omega (arith, c)) m,
  )
  bags_fit from to w n (nest inner set xs) rows own e c (one_nest {row = row} {below = below} {own = o} value body b f l m) = (
    bag_fits _ _ w n _ no_parts value _ set row o e b,
    each_join BagFits below _
        (bags_fit _ _ (owner w.safe (Some n)) (n + 1) inner below _ (omega (arith, c)) (omega (arith, c)) l)
        (bags_fit _ _ w (n + 1 + bags_in inner) xs _ _ e (omega (arith, c)) m),
  )

  safes_fit : (from to k n : ℕ) (xs : List Safe) (safes : List SafeRow) (rows : List BagRow) (own : List AttributeRow)
      → n + bags_in_safes xs ≤ greatest_word → SafesLaid s from to k n xs safes rows own → Each BagFits rows
  unfolding bags_in_safes Each
  safes_fit from to k n [] safes rows own c no_safe_laid = tt
  safes_fit from to k n (plain x ∷ xs) safes rows own c (one_plain {below = below} octets inner d l m) =
      each_join BagFits below _ (bags_fit _ _ (owner k None) n x below _ tt (omega (arith, c)) l)
      (safes_fit _ _ (k + 1) (n + bags_in x) xs _ _ _ (omega (arith, c)) m)
  safes_fit from to k n (encrypted x ∷ xs) safes rows own c (one_encrypted p value d e m) =
      safes_fit _ _ (k + 1) n xs _ rows own (omega (arith, c)) m

  rows_fit : (st : Rows) (m : Mac) (x : Pfx) → Valid x → PfxLaid s st m x → Each BagFits st.bags
  rows_fit st m x v l =
      safes_fit _ _ 0 0 x.safes st.safes st.bags st.attributes (omega (arith, v.bag_count)) l.safes

pub accepted_wordable : (f : List ℕ) → Bytes f → IsAccepted f → Wordable (table_from f)
unfolding rows_in
accepted_wordable f bytes a = go ((pkcs12.accepted_iff_follows f bytes).0 a)
  where
    go : ((x : Pfx) × Follows f x) → Wordable (table_from f)
    go p =
        let l = pkcs12.ranges_within_parents f bytes p.0 p.1 in
        let o = pkcs12.accepted_table_sound f bytes a in
        record {
          empty_past = pkcs12.rows_past_counts_empty f bytes a;
          safe_count = o.safe_count;
          bag_count = o.bag_count;
          attribute_count = o.attribute_count;
          bags = rows_fit f _ _ p.0 p.1.valid l;
          elements = omega (arith, pkcs12.element_count_half f bytes a, p.1.size);
        }

pub empty_wordable : Wordable empty_table
unfolding Each rows_in table_of empty_table
empty_wordable =
    record {
      empty_past = refl;
      safe_count = omega arith;
      bag_count = omega arith;
      attribute_count = omega arith;
      bags = tt;
      elements = omega arith;
    }
