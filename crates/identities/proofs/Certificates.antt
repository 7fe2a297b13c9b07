-- The identity rows of a table, the answers of the call for a key's certificate, and both by the
-- table's reading.
use mathlib.Core.Bool.{Bool, true, false}
use mathlib.Core.Logic.{◌↔◌, ◌⊎◌, inl, inr}
use mathlib.Core.Path.{◌≡◌, refl, sym, ◌∙◌, ap}
use mathlib.Core.List.{List, map}
use mathlib.Core.Option.{Option, some}
use mathlib.Core.Option as option
use Prim.Native.Nat.{ℕ, ◌+◌, ◌-◌, ◌≤◌, ◌<◌, min}
use native.Mathlib.Omega.{arith}
use lib.ListN.{length, get_or, take, replicate, length-append, length-replicate, length-map, length-take}
use lib.ListN.{get_or-replicate, get_or-append, get_or-map, get_or-eq_default}
use lib.Seq.{get_or-append-add, get_or-take}
use Rattle.der.specs.Span.{Bytes}
use Rattle.der.proofs.Choices.{either, never}
use Rattle.pkcs12.specs.Numbers.{bag_rows, no_row}
use Rattle.pairing.specs.Numbers.{no_certificate, more_certificates}
use Rattle.buffer.specs.Numbers.{not_sound}
use Rattle.pkcs12.specs.Table.{no_bag, padded, content_in, bag_shown}
use Rattle.range.specs.Range.{no_range, bytes_in}
use Rattle.range.specs.declared.Range.{Range}
use Rattle.pkcs12.specs.Sound.{Sound, Lies}
use Rattle.pkcs12.specs.Written.{file_of, on_file}
use Rattle.pkcs12.specs.declared.row.Parts.{Parts}
use Rattle.pkcs12.specs.declared.kind.BagKind.{BagKind}
use Rattle.pkcs12.specs.declared.kind.BagKind.TheVariants.{Key, ShroudedKey, Certificate, Crl, Secret, Nested}
use Rattle.pkcs12.specs.declared.table.Table.{Table}
use Rattle.attributes.specs.Own.{set_in_safes, listed}
use Rattle.pairing.specs.Pairs.{no_identity, refused_by, paired}
use Rattle.pairing.specs.declared.IdentityRow.{IdentityRow}
use Rattle.pairing.specs.Only.{Matches, IdsLie, IsKey, Answered, answer_11}
use Rattle.der.specs.declared.Fault.{Fault}
use Rattle.std.specs.Prelude.{Err, None, Ok, Option as Maybe, Result, Some, is_some}
use Rattle.std.specs.Prelude.{if◌then◌else◌}
use Rattle.std.specs.Option.{unwrap_or}
use Rattle.pairing.proofs.Theorems.{only_certificate, five_answers, refused_11_iff, refused_12_iff}
use Rattle.pairing.proofs.Theorems.{refused_13_iff, refused_14_iff}
use Rattle.identities.specs.Identities.{id_of, identity_of, first_of, identities_of, identity_rows, certificate_for}
use Rattle.identities.specs.Ids.{Holds, Shows, id_in_row, no_bag_value, kind_of_content, kind_in, KeyBag, Certifies}
use Rattle.identities.proofs.Fills.{first_length, first_at_lem}
use Rattle.identities.proofs.Ids.{IfLies, id_lies_if, id_of_bag}
use Rattle.attributes.proofs.Shown.{by_file, shown_bags}

-- ---- the rows

-- row j of an array that begins with the first m of what f numbers
row_in : {A : Type 0} (f : ℕ → A) (k m : ℕ) (none : A) (j : ℕ) → j < m → get_or (padded k none (first_of f m)) j none ≡ f j
row_in f k m none j h = get_or-append (first_of f m) _ none j
    (omega (arith, first_length f m)) ∙ first_at_lem f m j none h

all_none : {A : Type 0} (k i : ℕ) (none : A) → get_or (replicate k none) i none ≡ none
all_none k i none =
    either i k (get_or-replicate k i none none)
    (λ h. get_or-eq_default (replicate k none) none {n = i} (omega (arith, length-replicate k none)))

row_past : {A : Type 0} (k j : ℕ) (none : A) (xs : List A) → length xs ≤ j → get_or (padded k none xs) j none ≡ none
row_past k j none xs h =
    let e : j ≡ length xs + (j - length xs) = omega arith in
    ap (λ (i : ℕ). get_or (padded k none xs) i none) e ∙ get_or-append-add xs _ (j - length xs) none
    ∙ all_none (k - length xs) (j - length xs) none

module _ (t : Table) (s : List ℕ) where
  -- the array has rows of no more bags than are counted
  few_rows : min t.bag_count bag_rows ≤ t.bag_count
  few_rows = omega arith

  pub identity_row : (j : ℕ) → j < t.bag_count → t.bag_count ≤ bag_rows
      → get_or (identity_rows t s) j no_identity ≡ identity_of t s j
  unfolding identity_rows
  identity_row j h k = row_in (identity_of t s) bag_rows (min t.bag_count bag_rows) no_identity j (omega (arith, h, k))

  pub identity_row_past : (j : ℕ) → t.bag_count ≤ j → get_or (identity_rows t s) j no_identity ≡ no_identity
  unfolding identity_rows
  identity_row_past j h = row_past bag_rows j no_identity (identities_of t s)
      (omega (arith, first_length (identity_of t s) (min t.bag_count bag_rows), few_rows))

  pub rows_length : length (identity_rows t s) ≡ bag_rows
  unfolding identity_rows
  rows_length =
      length-append (identities_of t s) _
      ∙ omega (
        arith,
        first_length (identity_of t s) (min t.bag_count bag_rows),
        length-replicate (bag_rows - length (identities_of t s)) no_identity,
      )

  -- every id that is there lies in the bytes
  row_lies : (j : ℕ) → (identity_of t s j).has_id ≡ true → Lies s (identity_of t s j).id
  unfolding identity_of
  row_lies j = go (id_of t s j) (id_lies_if t s j)
    where
      go : (i : Maybe Range) → IfLies s i → is_some i ≡ true → Lies s (unwrap_or i no_range)
      go None h e = never e
      go (Some r) h e = h

  pub ids_lie : IdsLie s (identity_rows t s)
  unfolding identity_rows
  ids_lie j l =
      either j (min t.bag_count bag_rows)
      (λ h. rw (row_in (identity_of t s) bag_rows (min t.bag_count bag_rows) no_identity j h) (row_lies j))
      (λ h. rw (row_past bag_rows j no_identity (identities_of t s)
      (omega (arith, first_length (identity_of t s) (min t.bag_count bag_rows)))) (λ q. never q))

-- ---- the answers

-- an answer by number: a refusal is one more than its number
abbrev code : Result ℕ Fault → ℕ
code (Ok j) = 0
code (Err f) = 1 + f.number

module _ (t : Table) (s : List ℕ) (k : ℕ) where
  pub certificate_answers : Answered (certificate_for t s k)
  unfolding certificate_for
  certificate_answers = go (file_of t s)
    where
      go : (u : Option (List ℕ)) → Answered (on_file u (refused_by not_sound) (λ f. paired s (identity_rows t s) k))
      go option.none = answer_11
      go (some f) = five_answers s (identity_rows t s) k

  module _ (b : Bytes s) where
    by_certificate : (P : Result ℕ Fault → Type 0) → ((Sound t s → ⊥) → P (refused_by not_sound))
        → (Sound t s → P (paired s (identity_rows t s) k)) → P (certificate_for t s k)
    unfolding certificate_for
    by_certificate P bad good = by_file P t s b _ _ bad (λ o f. good o)

    pub certificate_11 : certificate_for t s k ≡ refused_by not_sound ↔ (Sound t s → ⊥)
    certificate_11 = (
      by_certificate (λ r. r ≡ refused_by not_sound → Sound t s → ⊥) (λ h e. h)
          (λ o e x. (refused_11_iff s (identity_rows t s) k).0 e (ids_lie t s)),
      λ h. by_certificate (λ r. r ≡ refused_by not_sound) (λ x. refl) (λ o. absurd (h o)),
    )

    -- another answer than 11 is returned exactly if the table is sound and pairing returns it
    given : (r : Result ℕ Fault) (X : Type 0) → (refused_by not_sound ≡ r → ⊥)
        → (Sound t s → paired s (identity_rows t s) k ≡ r → X)
        → (X → Sound t s × (paired s (identity_rows t s) k ≡ r)) → certificate_for t s k ≡ r ↔ X
    given r X other p q = (
      by_certificate (λ v. v ≡ r → X) (λ h e. absurd (other e)) p,
      λ x. by_certificate (λ v. v ≡ r) (λ h. absurd (h (q x).0)) (λ o. (q x).1),
    )

    pub certificate_iff : (j : ℕ) → certificate_for t s k ≡ Ok j
        ↔ (Sound t s × IsKey (identity_rows t s) k × Matches s (identity_rows t s) k j
        × ((i : ℕ) → Matches s (identity_rows t s) k i → i ≡ j))
    certificate_iff j =
        given (Ok j) _ (λ e. omega (arith, ap code e))
        (λ o e. let p = (only_certificate s (identity_rows t s) k j).0 e in (o, p.1, p.2, p.3))
        (λ x. (x.0, (only_certificate s (identity_rows t s) k j).1 (ids_lie t s, x.1, x.2, x.3)))

    pub certificate_12 : certificate_for t s k ≡ refused_by no_row ↔ (Sound t s × (IsKey (identity_rows t s) k → ⊥))
    certificate_12 =
        given (refused_by no_row) _ (λ e. omega (arith, ap code e))
        (λ o e. (o, ((refused_12_iff s (identity_rows t s) k).0 e).1))
        (λ x. (x.0, (refused_12_iff s (identity_rows t s) k).1 (ids_lie t s, x.1)))

    pub certificate_13 : certificate_for t s k ≡ refused_by no_certificate
        ↔ (Sound t s × IsKey (identity_rows t s) k × ((j : ℕ) → Matches s (identity_rows t s) k j → ⊥))
    certificate_13 =
        given (refused_by no_certificate) _ (λ e. omega (arith, ap code e))
        (λ o e. let p = (refused_13_iff s (identity_rows t s) k).0 e in (o, p.1, p.2))
        (λ x. (x.0, (refused_13_iff s (identity_rows t s) k).1 (ids_lie t s, x.1, x.2)))

    pub certificate_14 : certificate_for t s k ≡ refused_by more_certificates
        ↔ (Sound t s × IsKey (identity_rows t s) k × ((i : ℕ) × (j : ℕ) × (i < j) × Matches s (identity_rows t s) k i × Matches s (identity_rows t s) k j))
    certificate_14 =
        given (refused_by more_certificates) _ (λ e. omega (arith, ap code e))
        (λ o e. let p = (refused_14_iff s (identity_rows t s) k).0 e in (o, p.1, p.2))
        (λ x. (x.0, (refused_14_iff s (identity_rows t s) k).1 (ids_lie t s, x.1, x.2)))

-- ---- by the reading

-- the id of a row that was made of an id is that id
row_shows : (i : Maybe Range) → (if is_some i then Some (unwrap_or i no_range) else None) ≡ i
row_shows None = refl
row_shows (Some r) = refl

-- the id of a row is there if the row says so
module _ (s : List ℕ) (r : IdentityRow) (x : List ℕ) where
  holds : r.has_id ≡ true → bytes_in s r.id ≡ x → Holds s (id_in_row r) x
  holds e q = rw e q

  held : Holds s (id_in_row r) x → (r.has_id ≡ true) × (bytes_in s r.id ≡ x)
  held = go r.has_id
    where
      go : (u : Bool) → Holds s (if u then Some r.id else None) x → (u ≡ true) × (bytes_in s r.id ≡ x)
      go true h = (refl, h)
      go false h = absurd h

-- the kind that a row's content shows is the row's
kind_shown : (s : List ℕ) (k : BagKind) (p : Parts) → kind_of_content (content_in s k p) ≡ k
kind_shown s BagKind.None p = refl
kind_shown s Key p = refl
kind_shown s ShroudedKey p = refl
kind_shown s Certificate p = refl
kind_shown s Crl p = refl
kind_shown s Secret p = refl
kind_shown s Nested p = refl

module _ (t : Table) (s : List ℕ) (o : Sound t s) where
  pub identity_kind : (n : ℕ) → n < t.bag_count → (identity_of t s n).kind ≡ kind_in n o.reading.safes
  unfolding identity_of
  identity_kind n h =
      rw (
        shown_bags t s o,
        get_or-map (bag_shown s) (take t.bag_count t.bags) n no_bag,
        get_or-take t.bag_count t.bags n no_bag h,
      )
      (sym (kind_shown s _ _))

  kind_past : (n : ℕ) → t.bag_count ≤ n → kind_in n o.reading.safes ≡ BagKind.None
  kind_past n h =
      let l : length (map (bag_shown s) (take t.bag_count t.bags)) ≤ n =
      omega
      (arith, length-map (take t.bag_count t.bags) (bag_shown s), length-take t.bag_count t.bags) in
      rw
      (shown_bags t s o, get_or-eq_default (map (bag_shown s) (take t.bag_count t.bags)) no_bag_value {n = n} l)

  -- the kind of every row is that of its bag
  pub kind_of_bag : (n : ℕ) → (get_or (identity_rows t s) n no_identity).kind ≡ kind_in n o.reading.safes
  kind_of_bag n =
      either n t.bag_count (λ h. rw (identity_row t s n h o.bag_count) (identity_kind n h))
      (λ h. rw (identity_row_past t s n h, kind_past n h))

  -- a bag of some kind is counted
  counted : (n : ℕ) → (kind_in n o.reading.safes ≡ BagKind.None → ⊥) → n < t.bag_count
  counted n h = either n t.bag_count (λ l. l) (λ l. absurd (h (kind_past n l)))

  key_counted : (k : ℕ) → KeyBag o.reading.safes k → k < t.bag_count
  key_counted k h = counted k (λ e. not_key (rw e at h))
    where
      not_key : (BagKind.None ≡ Key) ⊎ (BagKind.None ≡ ShroudedKey) → ⊥
      not_key (inl e) = let z : ◌≡◌ {A = ℕ} 0 1 = cc in omega arith
      not_key (inr e) = let z : ◌≡◌ {A = ℕ} 0 1 = cc in omega arith

  certificate_counted : (j : ℕ) → kind_in j o.reading.safes ≡ Certificate → j < t.bag_count
  certificate_counted j h = counted j (λ e. let z : ◌≡◌ {A = ℕ} 0 1 = cc in omega arith)

  pub key_by_reading : (k : ℕ) → IsKey (identity_rows t s) k ↔ KeyBag o.reading.safes k
  key_by_reading k = (
    λ h. rw (kind_of_bag k) at h.1,
    λ h. (omega (arith, key_counted k h, o.bag_count, rows_length t s), rw (kind_of_bag k) h),
  )

  module _ (b : Bytes s) where
    -- the id in a row is that of its bag
    pub identity_id : (n : ℕ) → Shows s (id_in_row (identity_of t s n)) (listed (set_in_safes n o.reading.safes))
    unfolding identity_of
    identity_id n = rw (row_shows (id_of t s n)) (id_of_bag t s n b o)

    row_id : (n : ℕ) → n < t.bag_count
        → Shows s (id_in_row (get_or (identity_rows t s) n no_identity)) (listed (set_in_safes n o.reading.safes))
    row_id n h = rw (identity_row t s n h o.bag_count) (identity_id n)

    module _ (k : ℕ) (key : KeyBag o.reading.safes k) where
      pub matches_by_reading : (j : ℕ) → Matches s (identity_rows t s) k j ↔ Certifies o.reading.safes k j
      matches_by_reading j = (
        λ m.
            let c : kind_in j o.reading.safes ≡ Certificate = sym (kind_of_bag j) ∙ m.certificate in
            record {
              certificate = c;
              id = bytes_in s (get_or (identity_rows t s) k no_identity).id;
              of_key = (row_id k (key_counted k key) _).0
                  (holds s (get_or (identity_rows t s) k no_identity) _ m.key_id refl);
              of_certificate = (row_id j (certificate_counted j c) _).0
                  (holds s (get_or (identity_rows t s) j no_identity) _ m.row_id (sym m.equal));
            },
        λ y.
            let h : j < t.bag_count = certificate_counted j y.certificate in
            let p = held s (get_or (identity_rows t s) k no_identity) y.id
            ((row_id k (key_counted k key) y.id).1 y.of_key) in
            let q = held s (get_or (identity_rows t s) j no_identity) y.id ((row_id j h y.id).1 y.of_certificate) in
            record {
              there = omega (arith, o.bag_count, rows_length t s);
              certificate = kind_of_bag j ∙ y.certificate;
              key_id = p.0;
              row_id = q.0;
              equal = p.1 ∙ sym q.1;
            },
      )

pub certificate_by_reading : (t : Table) (s : List ℕ) (k : ℕ) → Bytes s → (o : Sound t s) → (j : ℕ)
    → certificate_for t s k ≡ Ok j
    ↔ (KeyBag o.reading.safes k × Certifies o.reading.safes k j
    × ((i : ℕ) → Certifies o.reading.safes k i → i ≡ j))
certificate_by_reading t s k b o j = (
  λ e.
      let p = (certificate_iff t s k b j).0 e in
      let key : KeyBag o.reading.safes k = (key_by_reading t s o k).0 p.1 in
      (key, (matches_by_reading t s o b k key j).0 p.2, λ i c. p.3 i ((matches_by_reading t s o b k key i).1 c)),
  λ p.
      (certificate_iff t s k b j).1 (
        o,
        (key_by_reading t s o k).1 p.0,
        (matches_by_reading t s o b k p.0 j).1 p.1,
        λ i m. p.2 i ((matches_by_reading t s o b k p.0 i).0 m),
      ),
)
