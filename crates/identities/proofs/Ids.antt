-- The id of a bag is that of its first localKeyID attribute in the table's reading, and lies in the
-- bytes.
use mathlib.Core.Bool.{Bool, true, false}
use mathlib.Core.Logic.{◌↔◌}
use mathlib.Core.Path.{◌≡◌, refl, sym, ◌∙◌, ap}
use mathlib.Core.List.{List, [], ◌∷◌, ◌++◌, append-nil, map}
use mathlib.Core.Option.{Option, some}
use mathlib.Core.Option as option
use Prim.Native.Nat.{ℕ, suc, ◌≤◌, ◌<◌}
use native.Mathlib.Omega.{arith}
use borrow.Author.Tests.{lt-ltb, le-ltb, le-leb}
use lib.Dec.{ltb, leb}
use lib.ListN.{length, get_or, length-take}
use lib.Seq.{get_or-take}
use Rattle.std.specs.Prelude.{if◌then◌else◌}
use Rattle.der.specs.Choice.{both}
use Rattle.der.specs.Numbers.{octet_string_tag, length_bound}
use Rattle.der.specs.Octets.{tlv}
use Rattle.der.specs.Element.{cursor, expect_at, on_element}
use Rattle.der.specs.Span.{Bytes}
use Rattle.der.specs.Tree.{Tree, primitive, constructed, Trees, none, more, encode, encodes, Formed, AllFormed}
use Rattle.der.specs.declared.Cursor.{Cursor}
use Rattle.der.specs.Element.{element}
use Rattle.der.specs.declared.Element.{Element}
use Rattle.der.specs.declared.Fault.{Fault}
use Rattle.std.specs.Prelude.{Err, None, Ok, Option as Maybe, Result, Some, ⊤}
use Rattle.der.proofs.Choices.{by_lt, by_le}
use Rattle.der.proofs.Header.{header_then}
use Rattle.der.proofs.Laws.{header_iff, header_bounds, expect_iff, element_unique, run_unique}
use Rattle.der.proofs.Spans.{span_slice, slice_span, span_to}
use Rattle.pkcs12.specs.Syntax.{Attribute}
use Rattle.range.specs.Bytes.{same_bytes}
use Rattle.pkcs12.specs.Valid.{Opaques}
use Rattle.range.specs.Range.{range, bytes_in}
use Rattle.pkcs12.specs.Table.{no_attribute}
use Rattle.pkcs12.specs.Sound.{Lies, Sound}
use Rattle.range.specs.declared.Range.{Range}
use Rattle.pkcs12.specs.declared.row.AttributeRow.{AttributeRow}
use Rattle.pkcs12.specs.declared.table.Table.{Table}
use Rattle.attributes.specs.Reader.{first_from, names}
use Rattle.attributes.specs.Own.{own_rows, set_in_safes, listed, attributes_of}
use Rattle.attributes.proofs.Shown.{shown_set}
use Rattle.attributes.proofs.Sets.{shown_by}
use Rattle.attributes.proofs.Theorems.{attribute_values_hold}
use Rattle.identities.specs.Identities.{local_key_type, is_local_key, key_row, id_in, id_of}
use Rattle.identities.specs.Ids.{first_key_id, IsId, Holds, Shows}
use Rattle.identities.proofs.Rules.{first_shift}

-- ---- the first localKeyID attribute, in the rows and in what they show

-- the values of row j, if there is one
abbrev values_at : List ℕ → List AttributeRow → ℕ → Option (List ℕ)
values_at s rs j = if ltb j (length rs) then some (bytes_in s (get_or rs j no_attribute).values) else option.none

module _ (s : List ℕ) (n : ℕ) where
  values_past : (r : AttributeRow) (rs : List AttributeRow) (j : ℕ) → values_at s rs j ≡ values_at s (r ∷ rs) (suc j)
  values_past r rs j =
      by_lt (λ v. v ≡ values_at s (r ∷ rs) (suc j)) _ _ j (length rs)
      (λ h. rw (lt-ltb (suc j) (suc (length rs)) (omega arith)))
      (λ h. rw (le-ltb (suc j) (suc (length rs)) (omega arith)))

  next_row_lem : (r : AttributeRow) (rs : List AttributeRow)
      → values_at s rs (first_from (is_local_key s n) rs 0) ≡ values_at s (r ∷ rs) (first_from (is_local_key s n) rs 1)
  next_row_lem r rs =
      let e : first_from (is_local_key s n) rs 1 ≡ suc (first_from (is_local_key s n) rs 0) =
      omega (arith, first_shift (is_local_key s n) rs 1) in
      rw e (values_past r rs (first_from (is_local_key s n) rs 0))

  -- one row more: whether it names the bag, and whether it is a localKeyID
  key_step : (u v : Bool) (r : AttributeRow) (rs : List AttributeRow)
      → same_bytes (bytes_in s r.identifier) local_key_type ≡ v
      → first_key_id (map (shown_by s) (own_rows n rs)) ≡ values_at s rs (first_from (is_local_key s n) rs 0)
      → first_key_id (map (shown_by s) (if u then r ∷ own_rows n rs else own_rows n rs))
      ≡ values_at s (r ∷ rs) (if both u v then 0 else first_from (is_local_key s n) rs 1)
  unfolding first_key_id
  key_step true true r rs e h = rw (e, lt-ltb 0 (suc (length rs)) (omega arith))
  key_step true false r rs e h = rw e (h ∙ next_row_lem r rs)
  key_step false v r rs e h = h ∙ next_row_lem r rs

  first_key : (rs : List AttributeRow)
      → first_key_id (map (shown_by s) (own_rows n rs)) ≡ values_at s rs (first_from (is_local_key s n) rs 0)
  unfolding first_key_id own_rows first_from is_local_key
  first_key [] = refl
  first_key (r ∷ rs) = key_step (names n r)
      (same_bytes (bytes_in s r.identifier) local_key_type) r rs refl (first_key rs)

-- ---- the id in an attribute's values

-- what holds of no id, and of the body that is found where nothing is left behind it, holds of the
-- id
by_found : (P : Maybe Range → Type 0) (s : List ℕ) (r : Range)
    → P None
    → ((b n : Cursor) → expect_at octet_string_tag s (cursor r.start r.end) ≡ Ok (element octet_string_tag b n)
    → n.end ≤ n.at → P (Some (range b.at b.end)))
    → P (id_in s r)
unfolding id_in
by_found P s r bad good = go (expect_at octet_string_tag s (cursor r.start r.end)) refl
  where
    go : (w : Result Element Fault) → expect_at octet_string_tag s (cursor r.start r.end) ≡ w
        → P
        (on_element w (λ f. None) (λ t b n. if leb n.end n.at then Some (range b.at b.end) else None))
    go (Err f) e = bad
    go (Ok x) e =
        let q : x.tag ≡ octet_string_tag =
        ((expect_iff octet_string_tag s (cursor r.start r.end) x.tag x.body x.next).0 e).0 in
        by_le P _ _ x.next.end x.next.at (λ h. good x.body x.next (rw q at e) h) (λ h. bad)

-- an id that is there lies in the bytes
-- where one is there
abbrev pub IfLies : List ℕ → Maybe Range → Type 0
IfLies s None = ⊤
IfLies s (Some r) = Lies s r

pub id_in_lies : (s : List ℕ) (r : Range) → IfLies s (id_in s r)
id_in_lies s r =
    by_found (IfLies s) s r tt
    (λ b n e h.
    let p = header_bounds s (cursor r.start r.end) octet_string_tag b n
    ((expect_iff octet_string_tag s (cursor r.start r.end) octet_string_tag b n).0 e).1 in
    record { order = omega arith; inside = omega arith })

module _ (s : List ℕ) (r : Range) (bytes : Bytes s) where
  id_sound : (x : List ℕ) → Holds s (id_in s r) x → bytes_in s r ≡ tlv octet_string_tag x
  id_sound x =
      by_found (λ i. Holds s i x → bytes_in s r ≡ tlv octet_string_tag x) s r (λ q. absurd q)
      (λ b n e h q.
      let p = (header_iff s (cursor r.start r.end) octet_string_tag b n bytes).0
      ((expect_iff octet_string_tag s (cursor r.start r.end) octet_string_tag b n).0 e).1 in
      let z : n ≡ cursor b.end r.end = p.moved.next in
      let k : b.end ≡ r.end = omega (arith, p.moved.within, rw z at h) in
      rw (← q) (slice_span s r.start r.end _ (span_to s r.start b.end r.end _ k p.whole)))

  id_complete : (x : List ℕ) → Lies s r → length x < length_bound
      → bytes_in s r ≡ tlv octet_string_tag x → Holds s (id_in s r) x
  unfolding id_in
  id_complete x l h e =
      header_then s r.start r.end r.end octet_string_tag x
      (record { not_zero = λ z. omega arith; low_bits = λ z. omega arith }) h
      (rw e at (span_slice s r.start r.end l.order l.inside)) (omega arith) l.inside
      (λ b f p.
      let g : expect_at octet_string_tag s (cursor r.start r.end)
      ≡ Ok (element octet_string_tag (cursor b r.end) (cursor r.end r.end)) =
      (expect_iff octet_string_tag s (cursor r.start r.end) octet_string_tag (cursor b r.end)
      (cursor r.end r.end)).1 (refl, f) in
      rw (g, le-leb r.end r.end (omega arith)) (slice_span s b r.end x p))

-- the body of an opaque element is of a length that is read
module _ (t : ℕ) (x : List ℕ) where
  tree_short : (y : Tree) (rest : List ℕ) → Formed y → encode y ++ rest ≡ tlv t x → length x < length_bound
  unfolding encode Formed
  tree_short (primitive u body) rest f e =
      omega (arith, f.2, ap length (element_unique u t body x rest [] (e ∙ sym (append-nil (tlv t x)))).1)
  tree_short (constructed u ys) rest f e =
      omega (arith, f.2, ap length (element_unique u t (encodes ys) x rest [] (e ∙ sym (append-nil (tlv t x)))).1)

  trees_short : (ys : Trees) → AllFormed ys → encodes ys ≡ tlv t x → length x < length_bound
  unfolding encode Formed tlv
  trees_short none f e = absurd (omega (arith, ap length e))
  trees_short (more y ys) f e = tree_short y (encodes ys) f.0 e

-- the values are one OCTET STRING, by their bytes and by their elements
pub one_element : (v x : List ℕ) (p : Opaques v)
    → p.as_trees ≡ more (primitive octet_string_tag x) none ↔ v ≡ tlv octet_string_tag x
unfolding encode Formed
one_element v x p = (
  λ e. sym p.whole ∙ ap encodes e ∙ append-nil (tlv octet_string_tag x),
  λ e.
      let q : encodes p.as_trees ≡ tlv octet_string_tag x = p.whole ∙ e in
      run_unique p.as_trees (more (primitive octet_string_tag x) none) p.formed (
        (
          record { not_zero = λ z. omega arith; low_bits = λ z. omega arith },
          refl,
          trees_short octet_string_tag x p.as_trees p.formed q,
        ),
        tt,
      )
      (q ∙ sym (append-nil (tlv octet_string_tag x))),
)

-- ---- the id of a bag

pub id_lies_if : (t : Table) (s : List ℕ) (n : ℕ) → IfLies s (id_of t s n)
unfolding id_of
id_lies_if t s n =
    by_lt (IfLies s) _ _ (key_row t s n) (length (attributes_of t)) (λ h. id_in_lies s _) (λ h. tt)

pub id_lies_lem : (t : Table) (s : List ℕ) (n : ℕ) (r : Range) → id_of t s n ≡ Some r → Lies s r
id_lies_lem t s n r e = rw e at (id_lies_if t s n)

module _ (t : Table) (s : List ℕ) (n : ℕ) (bytes : Bytes s) (o : Sound t s) where
  key_values : first_key_id (listed (set_in_safes n o.reading.safes)) ≡ values_at s (attributes_of t) (key_row t s n)
  unfolding key_row
  key_values = rw (shown_set t s o n) (first_key s n (attributes_of t))

  -- its first localKeyID, in row j
  module _ (j : ℕ) (h : j < length (attributes_of t)) where
    same_row : get_or (attributes_of t) j no_attribute ≡ get_or t.attributes j no_attribute
    same_row = get_or-take t.attribute_count t.attributes j no_attribute
        (omega (arith, length-take t.attribute_count t.attributes))

    in_row : (x : List ℕ) → Holds s (id_in s (get_or (attributes_of t) j no_attribute).values) x
        ↔ bytes_in s (get_or (attributes_of t) j no_attribute).values ≡ tlv octet_string_tag x
    in_row x =
        let r : Range = (get_or (attributes_of t) j no_attribute).values in
        let p = attribute_values_hold t s bytes o j h in (
          id_sound s r bytes x,
          λ e. id_complete s r bytes x p.0
              (trees_short octet_string_tag x p.1.as_trees p.1.formed (p.1.whole ∙ e)) e,
        )

  pub id_of_bag : Shows s (id_of t s n) (listed (set_in_safes n o.reading.safes))
  unfolding id_of
  id_of_bag x =
      rw key_values
      (by_lt
      (λ (i : Maybe Range). Holds s i x ↔ values_at s (attributes_of t) (key_row t s n) ≡ some (tlv octet_string_tag x)) _ _
      (key_row t s n) (length (attributes_of t))
      (λ h.
      rw (lt-ltb (key_row t s n) (length (attributes_of t)) h, ← (same_row (key_row t s n) h))
      (let p = in_row (key_row t s n) h x in (λ q. ap some (p.0 q), λ e. p.1 (cc))))
      (λ h. rw (le-ltb (key_row t s n) (length (attributes_of t)) h)
      (λ q. absurd q, λ e. let z : ◌≡◌ {A = ℕ} 0 1 = cc in absurd (omega arith))))

-- there is no id exactly if the attributes have none
none_shown : (s : List ℕ) (i : Maybe Range) (xs : List Attribute) → Shows s i xs
    → i ≡ None ↔ ((x : List ℕ) → IsId xs x → ⊥)
none_shown s None xs p = (λ e x q. (p x).1 q, λ h. refl)
none_shown s (Some r) xs p = (
  λ e. let z : ◌≡◌ {A = ℕ} 0 1 = cc in absurd (omega arith),
  λ h. absurd (h (bytes_in s r) ((p (bytes_in s r)).0 refl)),
)

pub no_id_iff : (t : Table) (s : List ℕ) (n : ℕ) → Bytes s → (o : Sound t s)
    → id_of t s n ≡ None ↔ ((x : List ℕ) → IsId (listed (set_in_safes n o.reading.safes)) x → ⊥)
no_id_iff t s n b o = none_shown s (id_of t s n) _ (id_of_bag t s n b o)
