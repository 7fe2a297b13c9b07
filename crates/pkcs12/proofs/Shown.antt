-- What rows show of the bytes that hold a reading: the reading's own values, in ranges that lie in
-- the bytes, and as many as it has.
use mathlib.Core.Path.{◌≡◌, refl}
use mathlib.Core.List.{List, [], ◌∷◌, ◌++◌, map, map-append}
use Prim.Native.Nat.{ℕ, ◌+◌}
use native.Mathlib.Omega.{arith}
use lib.ListN.{length, length-append}
use Rattle.der.specs.Span.{Span}
use Rattle.der.proofs.Spans.{slice_span}
use Rattle.pkcs12.specs.Syntax.{Sealed, Typed, certificate, crl, secret, Leaf, key, shrouded, typed, Attribute}
use Rattle.pkcs12.specs.Syntax.{Set, absent, present, Bags, none, bag, nest, Safe, plain, encrypted, Pfx}
use Rattle.pkcs12.specs.Syntax.{kind_of_typed, kind_of_leaf}
use Rattle.pkcs12.specs.Valid.{bags_in, attributes_of, attributes_in, bags_in_safes, attributes_in_safes}
use Rattle.pkcs12.specs.Values.{SafeValue, Content, leaf, BagValue, AttributeValue, bag_value, bag_values}
use Rattle.pkcs12.specs.Values.{own_values, set_values, attribute_values, safe_values, bags_of_safes}
use Rattle.pkcs12.specs.Values.{attributes_of_safes, rows_of}
use Rattle.pkcs12.specs.Table.{Rows, sealed_in, content_in, safe_shown, bag_shown, attribute_shown, shown}
use Rattle.range.specs.Range.{bytes_in}
use Rattle.pkcs12.specs.Walk.{Owner, owner}
use Rattle.pkcs12.specs.Laid.{ElementLaid, PieceLaid, AlgorithmLaid, LeafLaid, AttributesLaid, no_attribute_laid}
use Rattle.pkcs12.specs.Laid.{one_attribute, SetLaid, no_set, one_set, BagLaid, BagsLaid, no_bag_laid, one_bag}
use Rattle.pkcs12.specs.Laid.{one_nest, SafesLaid, no_safe_laid, one_plain, one_encrypted, PfxLaid}
use Rattle.der.specs.Named.{Each}
use Rattle.pkcs12.specs.Sound.{Lies, SealedLies, PartsLie, SafeLies, RangesLie}
use Rattle.range.specs.declared.Range.{Range}
use Rattle.pkcs12.specs.declared.row.Parts.{Parts}
use Rattle.std.specs.Prelude.{None, Some}
use Rattle.pkcs12.specs.declared.row.SafeRow.{SafeRow}
use Rattle.pkcs12.specs.declared.kind.BagKind.{BagKind}
use Rattle.pkcs12.specs.declared.row.BagRow.{BagRow}
use Rattle.pkcs12.specs.declared.row.AttributeRow.{AttributeRow}
use Rattle.pkcs12.specs.declared.row.Mac.{Mac}

-- rows that show the values vs by f, n in number, each of which is good
record Shows {R W : Type 0} (f : R → W) (Good : R → Type 0) (rows : List R) (vs : List W) (n : ℕ) : Type 0 where
  pub values : map f rows ≡ vs
  pub good : Each Good rows
  pub long : length rows ≡ n

-- each of two lists, one behind the other
pub each_join : {R : Type 0} (Good : R → Type 0) (x y : List R) → Each Good x → Each Good y → Each Good (x ++ y)
unfolding Each
each_join Good [] y p q = q
each_join Good (r ∷ x) y p q = (p.0, each_join Good x y p.1 q)

module _ {R W : Type 0} {f : R → W} {Good : R → Type 0} where
  -- no row
  shows_none : Shows f Good [] [] 0
  unfolding Each
  shows_none = record { values = refl; good = tt; long = refl }

  -- one row more
  shows_more : {r : R} {v : W} {rows : List R} {vs : List W} {m n : ℕ} → f r ≡ v → Good r → Shows f Good rows vs n → m ≡ 1 + n
      → Shows f Good (r ∷ rows) (v ∷ vs) m
  unfolding Each
  shows_more e g p h = record { values = rw (e, p.values) refl; good = (g, p.good); long = omega (arith, p.long) }

  -- rows behind rows
  shows_join : {x y : List R} {u v : List W} {m n : ℕ} → Shows f Good x u m → Shows f Good y v n → Shows f Good (x ++ y) (u ++ v) (m + n)
  shows_join {x = x} {y = y} p q =
      record {
        values = rw (map-append f x y, p.values, q.values) refl;
        good = each_join Good x y p.good q.good;
        long = omega (arith, length-append x y, p.long, q.long);
      }

-- a range of the file that holds x
abbrev Held : List ℕ → Range → List ℕ → Type 0
Held s r x = (bytes_in s r ≡ x) × Lies s r

-- the range of a span
held : (s : List ℕ) (r : Range) (x : List ℕ) → Span s r.start r.end x → Held s r x
held s r x p = (slice_span s r.start r.end x p, record { order = omega (arith, p.size); inside = p.inside })

-- the range of a piece
piece_held : {s : List ℕ} {from to : ℕ} {r : Range} {x : List ℕ} → PieceLaid s from to r x → Held s r x
piece_held {s = s} {r = r} {x = x} l = held s r x (rw (l.starts, l.ends) l.bytes)

-- an algorithm and its octets, wherever they are and whatever their tag
sealed_held : {s : List ℕ} {from to a b t : ℕ} (p : Parts) (x : Sealed) → AlgorithmLaid s from to p x.algorithm → ElementLaid s a b t p.value x.octets
    → (sealed_in s p ≡ x) × SealedLies s p
sealed_held {s = s} p x a o =
    let i = held s p.identifier x.algorithm.identifier a.type.body in
    let q = piece_held a.parameters in
    let v = held s p.value x.octets o.body in
    (rw (i.0, q.0, v.0) refl, (i.1, q.1, v.1))

-- what a bag holds
leaf_held : (s : List ℕ) (from to : ℕ) (p : Parts) (x : Leaf) → LeafLaid s from to p x → (content_in s (kind_of_leaf x) p ≡ leaf x) × PartsLie s (kind_of_leaf x) p
leaf_held s from to p (key v) l = let h = piece_held l.value in (rw h.0 refl, h.1)
leaf_held s from to p (shrouded x) l = let h = sealed_held p x l.algorithm l.octets in (rw h.0 refl, h.1)
leaf_held s from to p (typed k t v) l = go k (held s p.identifier t l.type.body) (piece_held l.value)
  where
    go : (k : Typed) → Held s p.identifier t → Held s p.value v → (content_in s (kind_of_typed k) p ≡ leaf (typed k t v)) × PartsLie s (kind_of_typed k) p
    go certificate i h = (rw (i.0, h.0) refl, (i.1, h.1))
    go crl i h = (rw (i.0, h.0) refl, (i.1, h.1))
    go secret i h = (rw (i.0, h.0) refl, (i.1, h.1))

-- rows of each kind, which show vs and lie in the file
abbrev SafesShow : List ℕ → List SafeRow → List SafeValue → ℕ → Type 0
SafesShow s = Shows (safe_shown s) (λ r. SafeLies s r.kind r.parts)

abbrev BagsShow : List ℕ → List BagRow → List BagValue → ℕ → Type 0
BagsShow s = Shows (bag_shown s) (λ r. PartsLie s r.kind r.parts)

abbrev AttributesShow : List ℕ → List AttributeRow → List AttributeValue → ℕ → Type 0
AttributesShow s = Shows (attribute_shown s) (λ r. Lies s r.identifier × Lies s r.values)

-- the attributes of bag n
attributes_show : (s : List ℕ) (from to n : ℕ) (xs : List Attribute) (own : List AttributeRow) → AttributesLaid s n from to xs own
    → AttributesShow s own (own_values n xs) (length xs)
unfolding own_values
attributes_show s from to n [] own no_attribute_laid = shows_none
attributes_show s from to n (a ∷ xs) own (one_attribute {r = r} l m) =
    let i = held s r.identifier a.identifier l.type.body in
    let v = held s r.values a.values l.values.body in
    shows_more (rw (l.names, i.0, v.0) refl) (i.1, v.1) (attributes_show s _ _ n xs _ m) (omega arith)

-- the set of bag n
set_shows : (s : List ℕ) (from to n : ℕ) (set : Set) (own : List AttributeRow) → SetLaid s n from to set own
    → AttributesShow s own (set_values n set) (attributes_of set)
set_shows s from to n absent own no_set = shows_none
set_shows s from to n (present xs) own (one_set body e l) = attributes_show s _ _ n xs own l

-- one bag more
bag_shows : {s : List ℕ} {from to : ℕ} {w : Owner} {n : ℕ} {k : BagKind} {p : Parts} {value : Range} {x : List ℕ}
    {set : Set} {row : BagRow} {own : List AttributeRow} {v : Content} {rows : List BagRow}
    {vs : List BagValue} {m : ℕ}
    → BagLaid s from to w n k p value x set row own → (content_in s k p ≡ v) × PartsLie s k p → BagsShow s rows vs m
    → BagsShow s (row ∷ rows) (bag_value w.safe w.enclosing v set ∷ vs) (1 + m)
bag_shows b h r = rw b.shows (shows_more (rw h.0 refl) h.1 r refl)

-- bags, at any level, and their attributes
bags_show : (s : List ℕ) (from to : ℕ) (w : Owner) (n : ℕ) (x : Bags) (rows : List BagRow) (own : List AttributeRow) → BagsLaid s from to w n x rows own
    → BagsShow s rows (bag_values w.safe w.enclosing n x) (bags_in x) × AttributesShow s own (attribute_values n x) (attributes_in x)
unfolding bag_values attribute_values bags_in attributes_in
bags_show s from to w n none rows own no_bag_laid = (shows_none, shows_none)
bags_show s from to w n (bag x set xs) rows own (one_bag p value b l m) =
    let q = bags_show s _ _ w (n + 1) xs _ _ m in
    (bag_shows b (leaf_held s _ _ p x l) q.0, shows_join (set_shows s _ _ n set _ b.attributes) q.1)
bags_show s from to w n (nest inner set xs) rows own (one_nest value body b e l m) =
    let d = bags_show s _ _ (owner w.safe (Some n)) (n + 1) inner _ _ l in
    let q = bags_show s _ _ w (n + 1 + bags_in inner) xs _ _ m in (
      bag_shows b (refl, tt) (shows_join d.0 q.0),
      shows_join d.1 (shows_join (set_shows s _ _ n set _ b.attributes) q.1),
    )

-- as many rows as bags, and as many attribute rows as attributes
pub laid_bags_long : (s : List ℕ) (from to : ℕ) (w : Owner) (n : ℕ) (x : Bags) (rows : List BagRow)
    (own : List AttributeRow) → BagsLaid s from to w n x rows own
    → (length rows ≡ bags_in x) × (length own ≡ attributes_in x)
laid_bags_long s from to w n x rows own l = let q = bags_show s from to w n x rows own l in (q.0.long, q.1.long)

-- safes, from safe k and bag n on, their bags and attributes
record SafesAre (s : List ℕ) (k n : ℕ) (xs : List Safe) (safes : List SafeRow) (rows : List BagRow) (own : List AttributeRow) : Type 0 where
  pub in_safes : SafesShow s safes (safe_values xs) (length xs)
  pub in_bags : BagsShow s rows (bags_of_safes k n xs) (bags_in_safes xs)
  pub in_attributes : AttributesShow s own (attributes_of_safes n xs) (attributes_in_safes xs)

-- where the safes are in the bytes, their rows show them
safes_show : (s : List ℕ) (from to k n : ℕ) (xs : List Safe) (safes : List SafeRow) (rows : List BagRow) (own : List AttributeRow)
    → SafesLaid s from to k n xs safes rows own → SafesAre s k n xs safes rows own
unfolding safe_values bags_of_safes attributes_of_safes bags_in_safes attributes_in_safes
safes_show s from to k n [] safes rows own no_safe_laid = record { in_safes = shows_none; in_bags = shows_none; in_attributes = shows_none }
safes_show s from to k n (plain x ∷ xs) safes rows own (one_plain octets inner d l m) =
    let b = bags_show s _ _ (owner k None) n x _ _ l in
    let q = safes_show s _ _ (k + 1) (n + bags_in x) xs _ _ _ m in
    record {
      in_safes = shows_more refl tt q.in_safes (omega arith);
      in_bags = shows_join b.0 q.in_bags;
      in_attributes = shows_join b.1 q.in_attributes;
    }
safes_show s from to k n (encrypted x ∷ xs) safes rows own (one_encrypted {mid = mid} {safes = others} p value d e m) =
    let h = sealed_held p x e.algorithm e.octets in
    let z : n + 0 ≡ n = omega arith in
    let q = safes_show s mid to (k + 1) (n + 0) xs others rows own (rw z m) in
    record {
      in_safes = shows_more (rw h.0 refl) h.1 q.in_safes (omega arith);
      in_bags = shows_join shows_none q.in_bags;
      in_attributes = shows_join shows_none q.in_attributes;
    }

module _ (s : List ℕ) (st : Rows) (m : Mac) (x : Pfx) (l : PfxLaid s st m x) where
  -- all safes of the file
  pfx_safes : SafesAre s 0 0 x.safes st.safes st.bags st.attributes
  pfx_safes = safes_show s _ _ 0 0 x.safes st.safes st.bags st.attributes l.safes

  -- the MAC's digest
  pfx_digest : (sealed_in s m.parts ≡ x.mac.digest) × SealedLies s m.parts
  pfx_digest = sealed_held m.parts x.mac.digest l.mac.digest.algorithm l.mac.digest.octets

  -- the MAC's salt
  pfx_salt : Held s m.salt x.mac.salt
  pfx_salt = held s m.salt x.mac.salt l.mac.salt.body

  -- the rows of a file show its reading
  pub pfx_shown : shown s st m ≡ rows_of x
  unfolding shown rows_of
  pfx_shown =
      rw (pfx_safes.in_safes.values, pfx_safes.in_bags.values, pfx_safes.in_attributes.values, pfx_digest.0, pfx_salt.0, l.mac.iterations) refl

  -- their ranges lie in the file
  pub pfx_lies : RangesLie s st m
  pfx_lies =
      record {
        safes = pfx_safes.in_safes.good;
        bags = pfx_safes.in_bags.good;
        attributes = pfx_safes.in_attributes.good;
        digest = pfx_digest.1;
        salt = pfx_salt.1;
      }

  -- they are as many as the reading has
  pub pfx_sizes : (length st.safes ≡ length x.safes) × (length st.bags ≡ bags_in_safes x.safes)
      × (length st.attributes ≡ attributes_in_safes x.safes)
  pfx_sizes = (pfx_safes.in_safes.long, pfx_safes.in_bags.long, pfx_safes.in_attributes.long)
