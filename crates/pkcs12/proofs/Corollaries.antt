-- The proofs of the theorems, from soundness, completeness, unique decoding and the laws of rows.
use mathlib.Core.Path.{◌≡◌, refl, sym, ap, ◌∙◌}
use mathlib.Core.List.{List, [], ◌∷◌, ◌++◌, append-nil}
use mathlib.Core.Option.{some}
use Prim.Native.Nat.{ℕ, ◌*◌, ◌≤◌, ◌+◌}
use native.Mathlib.Omega.{arith}
use lib.ListN.{length, take, length-append}
use Rattle.der.specs.Span.{Bytes}
use Rattle.der.specs.Tree.{elements_in}
use Rattle.der.proofs.Octets.{tlv_long}
use Rattle.der.proofs.Trees.{trees_unique}
use Rattle.pkcs12.specs.Syntax.{Pfx}
use Rattle.pkcs12.specs.Encode.{encode}
use Rattle.pkcs12.specs.Valid.{Valid, Opaques}
use Rattle.pkcs12.specs.Elements.{opaque_count, elements}
use Rattle.pkcs12.specs.Table.{Rows, table_of, rows_in, values_of, reading_of}
use Rattle.pkcs12.specs.Laid.{ElementLaid, PfxLaid}
use Rattle.pkcs12.specs.Accepted.{IsAccepted, Follows, table_from, reading_from, end_to_end}
use Rattle.der.specs.Named.{Each}
use Rattle.pkcs12.specs.Sound.{Sound}
use Rattle.range.specs.declared.Range.{Range}
use Rattle.pkcs12.specs.declared.row.Mac.{Mac}
use Rattle.pkcs12.specs.declared.table.Table.{Table}
use Rattle.pkcs12.proofs.Rows.{rows_tree}
use Rattle.pkcs12.proofs.Shown.{pfx_shown, pfx_lies}
use Rattle.pkcs12.proofs.EncodedRows.{complete}
use Rattle.pkcs12.proofs.AcceptedFile.{FileIs, sound, accepted_size}
use Rattle.pkcs12.proofs.Unique.{encode_unique}
use Rattle.pkcs12.proofs.Parents.{opaques_count}
use Rattle.pkcs12.proofs.Long.{elements_long}

-- ---- the table of lists

take_front : {A : Type 0} (xs ys : List A) → take (length xs) (xs ++ ys) ≡ xs
take_front [] ys = refl
take_front (x ∷ xs) ys = ap (λ l. x ∷ l) (take_front xs ys)

-- the rows below the counts are the lists that the table was made of
pub rows_in_table : (st : Rows) (m : Mac) → rows_in (table_of st m) ≡ st
unfolding rows_in table_of
rows_in_table st m = rw (take_front st.safes _, take_front st.bags _, take_front st.attributes _)

-- the MAC fields and the elements too
rest_in_table : (st : Rows) (m : Mac) → ((table_of st m).mac ≡ m) × ((table_of st m).elements ≡ st.count)
unfolding table_of
rest_in_table st m = (refl, refl)

counts_in_table : (st : Rows) (m : Mac)
    → ((table_of st m).safe_count ≡ length st.safes) × ((table_of st m).bag_count ≡ length st.bags)
    × ((table_of st m).attribute_count ≡ length st.attributes)
unfolding table_of
counts_in_table st m = (refl, refl, refl)

-- ---- an accepted file

module _ (f : List ℕ) (bytes : Bytes f) (t : Table) (o : FileIs f bytes t) where
  rows_are : rows_in t ≡ o.rows
  rows_are = ap rows_in o.table ∙ rows_in_table o.rows o.mac

  mac_is : t.mac ≡ o.mac
  mac_is = ap (λ (u : Table). u.mac) o.table ∙ (rest_in_table o.rows o.mac).0

  -- its table is that of its rows: rows past the counts are empty
  table_of_lem : t ≡ table_of (rows_in t) t.mac
  table_of_lem = o.table ∙ rw (rows_are, mac_is)

  module _ (x : Pfx) (e : o.value ≡ x) where
    laid_of : PfxLaid f (rows_in t) t.mac x
    laid_of = rw (rows_are, mac_is, ← e) o.laid

    valid_of : Valid x
    valid_of = rw e at o.valid

    reading_of_lem : reading_of t f ≡ some x
    unfolding reading_of values_of
    reading_of_lem = rw (pfx_shown f (rows_in t) t.mac x laid_of) (rows_tree x valid_of.safes)

    count_of : t.elements ≡ elements x
    count_of = ap (λ (u : Table). u.elements) o.table ∙ (rest_in_table o.rows o.mac).1 ∙ o.count ∙ ap elements e

    sound_of : Sound t f
    sound_of =
        let c = counts_in_table o.rows o.mac in
        record {
          safe_count = rw (ap (λ (u : Table). u.safe_count) o.table ∙ c.0) o.fits.safes;
          bag_count = rw (ap (λ (u : Table). u.bag_count) o.table ∙ c.1) o.fits.bags;
          attribute_count = rw (ap (λ (u : Table). u.attribute_count) o.table ∙ c.2) o.fits.attributes;
          ranges = pfx_lies f (rows_in t) t.mac x laid_of;
          reading = x;
          shows = reading_of_lem;
          valid = valid_of;
        }

module _ (f : List ℕ) (bytes : Bytes f) where
  pub accepted_follows : IsAccepted f → (x : Pfx) × Follows f x
  accepted_follows a =
      let o = sound f bytes a in
      (o.value, record { valid = o.valid; written = o.whole; size = accepted_size f a })

  pub accepted_sound : IsAccepted f → Sound (table_from f) f
  accepted_sound a = let o = sound f bytes a in sound_of f bytes (table_from f) o o.value refl

  pub accepted_table : IsAccepted f → table_from f ≡ table_of (rows_in (table_from f)) (table_from f).mac
  accepted_table a = table_of_lem f bytes (table_from f) (sound f bytes a)

  pub accepted_half : IsAccepted f → 2 * (table_from f).elements ≤ length f
  accepted_half a =
      let o = sound f bytes a in
      let c = count_of f bytes (table_from f) o o.value refl in
      omega (arith, c, elements_long o.value o.valid, ap length o.whole)

  module _ (x : Pfx) (w : Follows f x) where
    pub follows_accepted : IsAccepted f
    follows_accepted = complete x f w.valid w.written w.size

    same_value : (o : FileIs f bytes (table_from f)) → o.value ≡ x
    same_value o = (encode_unique o.value x [] [] (rw (o.whole, w.written))).0

    pub follows_laid : PfxLaid f (rows_in (table_from f)) (table_from f).mac x
    follows_laid = let o = sound f bytes follows_accepted in laid_of f bytes (table_from f) o x (same_value o)

    pub follows_reading : reading_from f ≡ some x
    follows_reading = let o = sound f bytes follows_accepted in reading_of_lem f bytes (table_from f) o x (same_value o)

    pub follows_count : (table_from f).elements ≡ elements x
    follows_count = let o = sound f bytes follows_accepted in count_of f bytes (table_from f) o x (same_value o)

-- ---- one reading, one file

some_same : (x y : Pfx) → some x ≡ some y → x ≡ y
some_same x y e = cc

module _ (f g : List ℕ) (bytes-f : Bytes f) (bytes-g : Bytes g) (a : IsAccepted f) (b : IsAccepted g) where
  -- two accepted files: their readings
  with_readings : {P : Type 0} → ((x y : Pfx) → encode x ≡ f → encode y ≡ g → reading_from f ≡ some x → reading_from g ≡ some y → P) → P
  with_readings k =
      let p = accepted_follows f bytes-f a in
      let q = accepted_follows g bytes-g b in
      k p.0 q.0 p.1.written q.1.written (follows_reading f bytes-f p.0 p.1) (follows_reading g bytes-g q.0 q.1)

  pub same_reading : reading_from f ≡ reading_from g → f ≡ g
  same_reading e = with_readings (λ x y u v p q. sym u ∙ ap encode (some_same x y (sym p ∙ e ∙ q)) ∙ v)

  -- what follows each of them, if both make the same bytes
  pub front_same : (r q : List ℕ) → f ++ r ≡ g ++ q → (f ≡ g) × (r ≡ q)
  front_same r q e =
      with_readings (λ x y u v m n.
      let z = encode_unique x y r q (rw (u, v) e) in
      (sym u ∙ ap encode z.0 ∙ v, z.1))

pub same_file : (f g : List ℕ) → f ≡ g → reading_from f ≡ reading_from g
same_file f g e = ap reading_from e

-- an accepted file has a byte
accepted_some : (f : List ℕ) → Bytes f → IsAccepted f → 1 ≤ length f
unfolding elements
accepted_some f bytes a = let p = accepted_follows f bytes a in omega (arith, ap length p.1.written, elements_long p.0 p.1.valid)

nothing_left : (f r : List ℕ) → f ++ r ≡ [] → 1 ≤ length f → ⊥
nothing_left f r e h = omega (arith, ap length e, length-append f r)

-- every file of a list is of bytes and accepted
abbrev pub AllAccepted : List (List ℕ) → Type 0
AllAccepted fs = Each (λ f. Bytes f × IsAccepted f) fs

pub cut : (fs gs : List (List ℕ)) → AllAccepted fs → AllAccepted gs → end_to_end fs ≡ end_to_end gs → fs ≡ gs
unfolding end_to_end Each
cut [] [] a b e = refl
cut [] (g ∷ gs) a b e = absurd (nothing_left g (end_to_end gs) (sym e) (accepted_some g b.0.0 b.0.1))
cut (f ∷ fs) [] a b e = absurd (nothing_left f (end_to_end fs) e (accepted_some f a.0.0 a.0.1))
cut (f ∷ fs) (g ∷ gs) a b e =
    let z = front_same f g a.0.0 b.0.0 a.0.1 b.0.1 (end_to_end fs) (end_to_end gs) e in
    let w = cut fs gs a.1 b.1 z.1 in
    cc

pub no_beginning : (f g r : List ℕ) → Bytes f → Bytes g → IsAccepted f → IsAccepted g → f ++ r ≡ g → r ≡ []
no_beginning f g r p q a b e = (front_same f g p q a b r [] (e ∙ sym (append-nil g))).1

-- ---- opaque elements, by their bytes

pub opaque_elements : (x : List ℕ) (o : Opaques x) → opaque_count x ≡ elements_in o.as_trees
opaque_elements x o = rw (← o.whole) (opaques_count o.as_trees o.formed o.depth)

pub same_elements : (x : List ℕ) (o p : Opaques x) → o.as_trees ≡ p.as_trees
same_elements x o p = trees_unique o.as_trees p.as_trees o.formed p.formed (o.whole ∙ sym p.whole)

-- ---- where an element is

pub element_within : (s : List ℕ) (from to t : ℕ) (r : Range) (x : List ℕ) → ElementLaid s from to t r x
    → (from + 2 ≤ r.start) × (r.start ≤ r.end) × (r.end ≤ to)
element_within s from to t r x l =
    let n = tlv_long t x in
    (omega (arith, l.element.size, l.body.size, l.ends), omega (arith, l.body.size), omega (arith, l.ends))
