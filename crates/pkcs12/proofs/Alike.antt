-- Tables that differ only in what is ignored show the same reading, pass the same tests, and are
-- written alike.
use mathlib.Core.Bool.{Bool}
use mathlib.Core.Logic.{◌↔◌}
use mathlib.Core.Path.{◌≡◌, refl, sym, ◌∙◌}
use mathlib.Core.List.{List, [], ◌∷◌, map}
use Prim.Native.Nat.{ℕ}
use Rattle.pkcs12.specs.Table.{content_in, safe_in, safe_shown, bag_shown, shown, rows_in, values_of, reading_of}
use Rattle.der.specs.Named.{Each}
use Rattle.pkcs12.specs.Sound.{PartsLie, SafeLies, Sound}
use Rattle.pkcs12.specs.Checks.{all, counts_fit, is_typed, is_certificate, safe_holds, bag_holds, safe_test, bag_test}
use Rattle.pkcs12.specs.Checks.{rows_test, keeps_rules}
use Rattle.pkcs12.specs.Written.{file_of, write_file}
use Rattle.pkcs12.specs.Alike.{SafePartsAlike, BagPartsAlike, SafesAlike, BagsAlike, Pairwise, Alike}
use Rattle.pkcs12.specs.declared.row.Parts.{Parts}
use Rattle.pkcs12.specs.declared.kind.SafeKind.{SafeKind}
use Rattle.pkcs12.specs.declared.kind.SafeKind.TheVariants.{Plain, Encrypted}
use Rattle.pkcs12.specs.declared.kind.BagKind.{BagKind}
use Rattle.pkcs12.specs.declared.kind.BagKind.TheVariants.{Key, ShroudedKey, Certificate, Crl, Secret, Nested}
use Rattle.pkcs12.specs.declared.row.SafeRow.{SafeRow}
use Rattle.pkcs12.specs.declared.row.BagRow.{BagRow}
use Rattle.pkcs12.specs.declared.table.Table.{Table}

-- ---- the parts that a kind uses are all that is looked at: what is shown, what is tested, and
-- where ranges lie

module _ (s : List ℕ) where
  safe_parts : (k : SafeKind) (p q : Parts) → SafePartsAlike k p q
      → (safe_in s k p ≡ safe_in s k q) × (safe_holds s k p ≡ safe_holds s k q) × (SafeLies s k p ≡ SafeLies s k q)
  unfolding safe_holds
  safe_parts SafeKind.None p q e = (refl, refl, refl)
  safe_parts Plain p q e = (refl, refl, refl)
  safe_parts Encrypted p q e = (rw e, rw e, rw e)

  bag_parts : (k : BagKind) (p q : Parts) → BagPartsAlike k p q
      → (content_in s k p ≡ content_in s k q) × (bag_holds s k p ≡ bag_holds s k q) × (PartsLie s k p ≡ PartsLie s k q)
  unfolding bag_holds is_typed is_certificate
  bag_parts BagKind.None p q e = (refl, refl, refl)
  bag_parts Key p q e = (rw e, rw e, rw e)
  bag_parts ShroudedKey p q e = (rw e, rw e, rw e)
  bag_parts Certificate p q e = (rw (e.0, e.1), rw (e.0, e.1), rw (e.0, e.1))
  bag_parts Crl p q e = (rw (e.0, e.1), rw (e.0, e.1), rw (e.0, e.1))
  bag_parts Secret p q e = (rw (e.0, e.1), rw (e.0, e.1), rw (e.0, e.1))
  bag_parts Nested p q e = (refl, refl, refl)

  -- the same of rows
  safe_same : (r q : SafeRow) → SafesAlike r q
      → (safe_shown s r ≡ safe_shown s q) × (safe_test s r ≡ safe_test s q)
      × (SafeLies s r.kind r.parts ≡ SafeLies s q.kind q.parts)
  unfolding safe_test
  safe_same r q a = rw (← a.kind) (safe_parts r.kind r.parts q.parts a.parts)

  bag_same : (r q : BagRow) → BagsAlike r q
      → (bag_shown s r ≡ bag_shown s q) × (bag_test s r ≡ bag_test s q)
      × (PartsLie s r.kind r.parts ≡ PartsLie s q.kind q.parts)
  unfolding bag_test
  bag_same r q a =
      let h = bag_parts r.kind r.parts q.parts a.parts in
      rw (← a.kind, a.safe, a.enclosing, a.has_set) (rw h.0, h.1, h.2)

-- ---- rows one by one

module _ {A B : Type 0} (R : A → A → Type 0) (f : A → B) (test : A → Bool) (L : A → Type 0)
    (same : (x y : A) → R x y → (f x ≡ f y) × (test x ≡ test y) × (L x ≡ L y)) where
  rows_same : (xs ys : List A) → Pairwise R xs ys
      → (map f xs ≡ map f ys) × (all test xs ≡ all test ys) × (Each L xs ≡ Each L ys)
  unfolding Pairwise all Each
  rows_same [] [] e = (refl, refl, refl)
  rows_same [] (y ∷ ys) e = absurd e
  rows_same (x ∷ xs) [] e = absurd e
  rows_same (x ∷ xs) (y ∷ ys) e =
      let a = same x y e.0 in
      let b = rows_same xs ys e.1 in
      (rw (a.0, b.0), rw (a.1, b.1), rw (a.2, b.2))

-- ---- the table

abbrev SafesLie : List ℕ → Table → Type 0
SafesLie s t = Each (λ r. SafeLies s r.kind r.parts) (rows_in t).safes

abbrev BagsLie : List ℕ → Table → Type 0
BagsLie s t = Each (λ r. PartsLie s r.kind r.parts) (rows_in t).bags

-- all that soundness rests on is the same
record Same (s : List ℕ) (t u : Table) : Type 1 where
  safe_count : t.safe_count ≡ u.safe_count
  bag_count : t.bag_count ≡ u.bag_count
  attribute_count : t.attribute_count ≡ u.attribute_count
  safes : SafesLie s t ≡ SafesLie s u
  bags : BagsLie s t ≡ BagsLie s u
  attributes : (rows_in t).attributes ≡ (rows_in u).attributes
  mac : t.mac ≡ u.mac
  reading : reading_of t s ≡ reading_of u s

same_back : {s : List ℕ} {t u : Table} → Same s t u → Same s u t
same_back e =
    record {
      safe_count = sym e.safe_count;
      bag_count = sym e.bag_count;
      attribute_count = sym e.attribute_count;
      safes = sym e.safes;
      bags = sym e.bags;
      attributes = sym e.attributes;
      mac = sym e.mac;
      reading = sym e.reading;
    }

same_sound : {s : List ℕ} {t u : Table} → Same s t u → Sound t s → Sound u s
same_sound {s} {t} {u} e o =
    record {
      safe_count = rw (← e.safe_count) o.safe_count;
      bag_count = rw (← e.bag_count) o.bag_count;
      attribute_count = rw (← e.attribute_count) o.attribute_count;
      ranges =
          record {
            safes = rw e.safes at o.ranges.safes;
            bags = rw e.bags at o.ranges.bags;
            attributes = rw (← e.attributes) o.ranges.attributes;
            digest = rw (← e.mac) o.ranges.digest;
            salt = rw (← e.mac) o.ranges.salt;
          };
      reading = o.reading;
      shows = sym e.reading ∙ o.shows;
      valid = o.valid;
    }

module _ (t u : Table) (a : Alike t u) (s : List ℕ) where
  safes_same : (map (safe_shown s) (rows_in t).safes ≡ map (safe_shown s) (rows_in u).safes)
      × (all (safe_test s) (rows_in t).safes ≡ all (safe_test s) (rows_in u).safes) × (SafesLie s t ≡ SafesLie s u)
  safes_same = rows_same SafesAlike (safe_shown s) (safe_test s) _ (safe_same s) _ _ a.safes

  bags_same : (map (bag_shown s) (rows_in t).bags ≡ map (bag_shown s) (rows_in u).bags)
      × (all (bag_test s) (rows_in t).bags ≡ all (bag_test s) (rows_in u).bags) × (BagsLie s t ≡ BagsLie s u)
  bags_same = rows_same BagsAlike (bag_shown s) (bag_test s) _ (bag_same s) _ _ a.bags

  reading_same : reading_of t s ≡ reading_of u s
  unfolding reading_of values_of shown
  reading_same = rw (safes_same.0, bags_same.0, a.attributes, a.mac)

  keeps_same : keeps_rules t s ≡ keeps_rules u s
  unfolding keeps_rules counts_fit rows_test
  keeps_same =
      rw (safes_same.1, bags_same.1, a.attributes, a.mac, a.safe_count, a.bag_count, a.attribute_count)

  pub alike_sound : Sound t s ↔ Sound u s
  alike_sound =
      let e : Same s t u =
      record {
        safe_count = a.safe_count;
        bag_count = a.bag_count;
        attribute_count = a.attribute_count;
        safes = safes_same.2;
        bags = bags_same.2;
        attributes = a.attributes;
        mac = a.mac;
        reading = reading_same;
      } in
      (same_sound e, same_sound (same_back e))

  pub alike_written : (buffer : List ℕ) → write_file t s buffer ≡ write_file u s buffer
  unfolding write_file file_of
  alike_written buffer = rw (keeps_same, reading_same)
