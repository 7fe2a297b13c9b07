-- The calls of a reader return the attributes of its bag.
use mathlib.Core.Bool.{Bool, true, false}
use mathlib.Core.Logic.{◌↔◌}
use mathlib.Core.Path.{◌≡◌, refl, sym, ◌∙◌, ap}
use mathlib.Core.List.{List, [], ◌∷◌, map}
use Prim.Native.Nat.{ℕ, zero, suc, ◌+◌, ◌≤◌, ◌<◌}
use native.Mathlib.Omega.{arith}
use lib.ListN.{length, get_or, length-map, length-take, get_or-map}
use Rattle.std.specs.Prelude.{Err, Ok, Result}
use Rattle.der.specs.Element.{fault, whole_of}
use Rattle.der.specs.Span.{Bytes}
use Rattle.der.specs.declared.Fault.{Fault}
use Rattle.der.proofs.Choices.{never, by_lt, by_eq, either}
use Rattle.der.proofs.Spans.{span_whole, span_same}
use Rattle.buffer.specs.Numbers.{not_sound}
use Rattle.pkcs12.specs.Numbers.{no_row}
use Rattle.pkcs12.specs.Values.{bags_of_safes}
use Rattle.pkcs12.specs.Valid.{Opaques, bags_in_safes}
use Rattle.pkcs12.specs.Table.{no_attribute, rows_in}
use Rattle.range.specs.Range.{bytes_in, lies}
use Rattle.der.specs.Named.{Each}
use Rattle.pkcs12.specs.Sound.{Lies, Sound}
use Rattle.der.specs.Choice.{both}
use Rattle.pkcs12.specs.Checks.{all, counts_fit, all_opaque, names_type, holds_all, safe_test, bag_test}
use Rattle.pkcs12.specs.Checks.{attribute_test, mac_test, rows_test, keeps_rules}
use Rattle.pkcs12.specs.declared.row.AttributeRow.{AttributeRow}
use Rattle.pkcs12.specs.declared.table.Table.{Table}
use Rattle.pkcs12.proofs.Checked.{part_bytes, sound_keeps}
use Rattle.pkcs12.proofs.Parents.{by_elements}
use Rattle.attributes.specs.Reader.{position, refused_by, opening_of, next_of, item_after}
use Rattle.attributes.specs.Own.{attributes_of, own_rows, set_in_safes, listed, no_value, Gives}
use Rattle.attributes.specs.declared.Item.{Item}
use Rattle.attributes.specs.declared.Item.TheVariants.{Ready}
use Rattle.attributes.specs.declared.Position.{Position}
use Rattle.attributes.proofs.First.{get_d_in}
use Rattle.attributes.proofs.Runs as runs
use Rattle.attributes.proofs.Shown.{by_file, shown_bags, shown_set}
use Rattle.attributes.proofs.Sets.{shown_by, safes_long}

-- ---- opening

-- an item by number: a refusal is one more than its number
abbrev code : Result Item Fault → ℕ
code (Ok x) = 0
code (Err f) = 1 + f.number

-- a reader that was not refused
abbrev ready : Table → ℕ → Position
ready t n = position t.attributes t.attribute_count n 0 (Ok Ready)

module _ (t : Table) (s : List ℕ) (n : ℕ) where
  -- what holds of each answer, with its reason, holds of the one that opening returns
  by_opening : (P : Position → Type 0) → Bytes s
      → ((Sound t s → ⊥) → P (refused_by not_sound))
      → (Sound t s → t.bag_count ≤ n → P (refused_by no_row))
      → (Sound t s → n < t.bag_count → P (ready t n))
      → P (opening_of t s n)
  unfolding opening_of
  by_opening P b p q r = by_file P t s b _ _ p (λ o f. by_lt P _ _ n t.bag_count (r o) (q o))

  pub refused_11 : Bytes s → (opening_of t s n).item ≡ Err (fault not_sound 0) ↔ (Sound t s → ⊥)
  unfolding refused_by
  refused_11 b = (
    by_opening (λ p. p.item ≡ Err (fault not_sound 0) → Sound t s → ⊥) b (λ h e. h)
        (λ o h e. absurd (omega (arith, ap code e)))
        (λ o h e. absurd (omega (arith, ap code e))),
    λ k. by_opening (λ p. p.item ≡ Err (fault not_sound 0)) b (λ h. refl)
        (λ o h. absurd (k o)) (λ o h. absurd (k o)),
  )

  pub refused_12 : Bytes s → (opening_of t s n).item ≡ Err (fault no_row 0) ↔ (Sound t s × (t.bag_count ≤ n))
  unfolding refused_by
  refused_12 b = (
    by_opening (λ p. p.item ≡ Err (fault no_row 0) → Sound t s × (t.bag_count ≤ n)) b
        (λ h e. absurd (omega (arith, ap code e)))
        (λ o h e. (o, h)) (λ o h e. absurd (omega (arith, ap code e))),
    λ k. by_opening (λ p. p.item ≡ Err (fault no_row 0)) b (λ h. absurd (h k.0)) (λ o h. refl)
        (λ o h. absurd (omega (arith, k.1))),
  )

  pub ready_iff : Bytes s → (opening_of t s n).item ≡ Ok Ready ↔ (Sound t s × (n < t.bag_count))
  unfolding refused_by
  ready_iff b = (
    by_opening (λ p. p.item ≡ Ok Ready → Sound t s × (n < t.bag_count)) b (λ h e. absurd (omega (arith, ap code e)))
        (λ o h e. absurd (omega (arith, ap code e))) (λ o h e. (o, h)),
    λ k. by_opening (λ p. p.item ≡ Ok Ready) b (λ h. absurd (h k.0))
        (λ o h. absurd (omega (arith, k.1))) (λ o h. refl),
  )

  pub refused_stays : (f : Fault) → (opening_of t s n).item ≡ Err f → (i : ℕ)
      → item_after i (opening_of t s n) ≡ Err f
  unfolding item_after
  refused_stays f e i =
      ap {B = Result Item Fault} (λ (p : Position). p.item)
      (runs.after_stays (i + 1) (opening_of t s n) (runs.refused_stays (opening_of t s n) f e)) ∙ e

-- ---- whole runs

-- what holds of each of a list holds of row i
each_at : {A : Type 0} (P : A → Type 0) (xs : List A) (i : ℕ) (d : A) → Each P xs → i < length xs → P (get_or xs i d)
unfolding Each
each_at P [] i d e h = absurd (omega arith)
each_at P (x ∷ xs) zero d e h = e.0
each_at P (x ∷ xs) (suc i) d e h = each_at P xs i d e.1 (omega arith)

-- the rows that name a bag do
own_name : (n : ℕ) (rs : List AttributeRow) → Each (λ r. r.bag ≡ n) (own_rows n rs)
unfolding Each own_rows
own_name n [] = tt
own_name n (r ∷ rs) = by_eq (Each (λ x. x.bag ≡ n)) _ _ r.bag n (λ e. (e, own_name n rs)) (λ e. own_name n rs)

-- a reader that returns rows in turn returns the attributes that they show
gives : (s : List ℕ) (p : Position) (rs : List AttributeRow) → ((i : ℕ) → runs.Turn i rs (item_after i p))
    → Gives s p (map (shown_by s) rs)
gives s p rs g =
    let l : length (map (shown_by s) rs) ≡ length rs = length-map rs (shown_by s) in
    record {
      in_turn = λ i h. (
        get_or rs i no_attribute,
        (g i).0 (omega arith),
        sym
            (get_d_in (map (shown_by s) rs) i no_value (shown_by s no_attribute) h
            ∙ get_or-map (shown_by s) rs i no_attribute),
      );
      done = λ i h. (g i).1 (omega arith);
    }

module _ (t : Table) (s : List ℕ) (n : ℕ) (b : Bytes s) (o : Sound t s) (h : n < t.bag_count) where
  opening : opening_of t s n ≡ ready t n
  opening = by_opening t s n (λ p. p ≡ ready t n) b (λ k. absurd (k o)) (λ x k. absurd (omega arith)) (λ x k. refl)

  pub rows_in_turn : (i : ℕ) → runs.Turn i (own_rows n (attributes_of t)) (item_after i (opening_of t s n))
  unfolding next_of
  rows_in_turn i = rw opening
      (runs.in_turn i (ready t n) (own_rows n (attributes_of t)) (record { moves = refl; rest = refl }))

  pub rows_name_bag : (i : ℕ) (r : AttributeRow) → item_after i (opening_of t s n) ≡ Ok (Item.Attribute r) → r.bag ≡ n
  rows_name_bag i r e =
      either i (length (own_rows n (attributes_of t)))
      (λ k.
      let q : get_or (own_rows n (attributes_of t)) i no_attribute ≡ r = cc ((rows_in_turn i).0 k) in
      rw (← q) (each_at (λ x. x.bag ≡ n) (own_rows n (attributes_of t)) i no_attribute (own_name n (attributes_of t)) k))
      (λ k. let z : ◌≡◌ {A = ℕ} 0 1 = cc ((rows_in_turn i).1 k) in absurd (omega arith))

  pub gives_bag : Gives s (opening_of t s n) (listed (set_in_safes n o.reading.safes))
  gives_bag = rw (shown_set t s o n) (gives s (opening_of t s n) (own_rows n (attributes_of t)) rows_in_turn)

-- ---- the rows of a sound table

-- a counted bag row, if the array has that many, is a bag of the reading
pub bag_in_reading : (t : Table) (s : List ℕ) (n : ℕ) (o : Sound t s) → n < t.bag_count
    → t.bag_count ≤ length t.bags
    → n < bags_in_safes o.reading.safes
bag_in_reading t s n o h k =
    let l : length (bags_of_safes 0 0 o.reading.safes) ≡ t.bag_count =
    rw (shown_bags t s o, length-map, length-take) (omega arith) in
    omega (arith, safes_long 0 0 o.reading.safes)

-- opaque elements and nothing more
opaques_of : (x : List ℕ) → Bytes x → all_opaque x ≡ true → Opaques x
unfolding all_opaque
opaques_of x b =
    by_elements x b (λ u. u ≡ true → Opaques x) (λ f. false) (λ f e. never e) (whole_of x) _ (omega arith) (omega arith)
    (λ m n o e. record {
      as_trees = o.trees;
      formed = o.formed;
      depth = o.levels;
      whole = span_same x 0 (length x) _ x o.whole (span_whole x);
    })

-- tests that pass: both, the fourth of five, and a test of each
both_says : (t u : Bool) → both t u ≡ true → (t ≡ true) × (u ≡ true)
both_says true u e = (refl, e)
both_says false u e = never e

fourth : (a b c d e : Bool) → both a (both b (both c (both d e))) ≡ true → d ≡ true
fourth a b c d e h =
    let p = (both_says a (both b (both c (both d e))) h).1 in
    let q = (both_says b (both c (both d e)) p).1 in
    (both_says d e (both_says c (both d e) q).1).0

all_each : {A : Type 0} (test : A → Bool) (xs : List A) → all test xs ≡ true → Each (λ x. test x ≡ true) xs
unfolding all Each
all_each test [] e = tt
all_each test (x ∷ xs) e = let p = both_says (test x) (all test xs) e in (p.0, all_each test xs p.1)

module _ (t : Table) (s : List ℕ) (b : Bytes s) (o : Sound t s) where
  -- every attribute row passes its test
  attributes_test : Each (λ r. attribute_test s r ≡ true) (attributes_of t)
  unfolding keeps_rules rows_test rows_in
  attributes_test =
      all_each (attribute_test s) (attributes_of t)
      (fourth (counts_fit t) (all (safe_test s) (rows_in t).safes) (all (bag_test s) (rows_in t).bags) _
      (mac_test s t.mac) (sound_keeps t s b o))

  pub attribute_values_hold : (i : ℕ) → i < length (attributes_of t)
      → Lies s (get_or (attributes_of t) i no_attribute).values
      × Opaques (bytes_in s (get_or (attributes_of t) i no_attribute).values)
  unfolding rows_in attribute_test holds_all
  attribute_values_hold i h =
      let r : AttributeRow = get_or (attributes_of t) i no_attribute in
      let p = both_says (names_type s r.identifier) (holds_all s r.values)
      (each_at _ (attributes_of t) i no_attribute attributes_test h) in (
        (each_at (λ x. Lies s x.identifier × Lies s x.values) (attributes_of t) i no_attribute
            o.ranges.attributes h).1,
        opaques_of _ (part_bytes s b r.values)
            (both_says (lies s r.values) (all_opaque (bytes_in s r.values)) p.1).1,
      )
