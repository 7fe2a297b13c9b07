-- What was stored is loaded as it was: words that are at an offset are read there.
use mathlib.Core.Path.{◌≡◌, refl, sym, ap, ◌∙◌}
use mathlib.Core.Bool.{Bool, true, false}
use mathlib.Core.List.{List, [], ◌∷◌, ◌++◌, append_assoc}
use Prim.Native.Nat.{ℕ, zero, suc, ◌+◌, ◌-◌, ◌*◌, ◌/◌, ◌%◌, ◌≤◌, ◌<◌, min}
use native.Mathlib.Nat.{add-zero}
use native.Mathlib.Omega.{arith}
use borrow.Author.Tests.{ne_eqb}
use lib.ListN.{length, get_or, take, drop, length-take}
use lib.Seq.{get_or-drop, drop-drop, drop-append_seam, take-suc}
use Rattle.der.proofs.Choices.{either}
use Rattle.der.specs.Named.{Each}
use Rattle.pkcs12.specs.Table.{padded}
use Rattle.range.specs.declared.Range.{Range}
use Rattle.pkcs12.specs.declared.row.Parts.{Parts}
use Rattle.pkcs12.specs.declared.kind.SafeKind.{SafeKind}
use Rattle.pkcs12.specs.declared.kind.SafeKind.TheVariants.{Plain, Encrypted}
use Rattle.pkcs12.specs.declared.kind.BagKind.{BagKind}
use Rattle.pkcs12.specs.declared.kind.BagKind.TheVariants.{Key, ShroudedKey, Certificate, Crl, Secret, Nested}
use Rattle.std.specs.Prelude.{None, Option, Some}
use Rattle.pkcs12.specs.declared.row.SafeRow.{SafeRow}
use Rattle.pkcs12.specs.declared.row.BagRow.{BagRow}
use Rattle.pkcs12.specs.declared.row.AttributeRow.{AttributeRow}
use Rattle.pkcs12.specs.declared.row.Mac.{Mac}
use Rattle.words.specs.Layout.{half_size}
use Rattle.buffer.specs.Placed.{each}
use Rattle.words.specs.Stored.{safe_number, bag_number, enclosing_number, set_number, range_words, parts_words}
use Rattle.words.specs.Stored.{safe_words, bag_words, attribute_words, mac_words, rows_words}
use Rattle.load.specs.Loaded.{word_at, enclosing_of, safe_kind_of, bag_kind_of, set_of}
use Rattle.load.specs.Loaded.{range_loaded}
use Rattle.load.specs.Loaded.{parts_loaded, safe_loaded, bag_loaded, attribute_loaded, mac_loaded, rows_from}
use Rattle.load.specs.Wordable.{EnclosingFits, BagFits}
use Rattle.load.specs.Holds.{WordsAt}
use Rattle.words.proofs.Rows.{each_length}

-- ---- words that are at an offset

module _ (ws : List ℕ) (at : ℕ) where
  pub words_front : (x y : List ℕ) → WordsAt ws at (x ++ y) → WordsAt ws at x
  words_front x y s = record { rest = y ++ s.rest; words = s.words ∙ append_assoc x y s.rest }

  pub words_back : (x y : List ℕ) → WordsAt ws at (x ++ y) → WordsAt ws (at + length x) y
  words_back x y s =
      record {
        rest = s.rest;
        words = sym (drop-drop (length x) at ws) ∙ ap (drop (length x)) (s.words ∙ append_assoc x y s.rest) ∙ drop-append_seam x (y ++ s.rest);
      }

  pub words_first : (w : ℕ) (x : List ℕ) → WordsAt ws at (w ∷ x) → word_at ws at ≡ w
  words_first w x s =
      ap (word_at ws) (sym (add-zero at)) ∙ sym (get_or-drop at ws 0 0) ∙ ap (λ (l : List ℕ). get_or l 0 0) s.words

-- ---- what a word means

enclosing_same : (e : Option ℕ) → EnclosingFits e → enclosing_of (enclosing_number e) ≡ e
unfolding enclosing_of
enclosing_same None f = refl
enclosing_same (Some n) f =
    let z : enclosing_number (Some n) - 1 ≡ n = omega (arith, f) in
    rw (ne_eqb (enclosing_number (Some n)) 0 (λ e. omega (arith, e)), z)

safe_kind_same : (k : SafeKind) → safe_kind_of (safe_number k) ≡ k
unfolding safe_kind_of
safe_kind_same SafeKind.None = refl
safe_kind_same Plain = refl
safe_kind_same Encrypted = refl

bag_kind_same : (k : BagKind) → bag_kind_of (bag_number k) ≡ k
unfolding bag_kind_of
bag_kind_same BagKind.None = refl
bag_kind_same Key = refl
bag_kind_same ShroudedKey = refl
bag_kind_same Certificate = refl
bag_kind_same Crl = refl
bag_kind_same Secret = refl
bag_kind_same Nested = refl

set_same : (b : Bool) → set_of (set_number b) ≡ b
unfolding set_of
set_same false = refl
set_same true = refl

-- ---- what is at an offset

module _ (ws : List ℕ) where
  pub range_back : (at : ℕ) (r : Range) → WordsAt ws at (range_words r) → range_loaded ws at ≡ r
  unfolding range_loaded
  range_back at r s =
      rw (
        words_first ws at r.start (r.end ∷ []) s,
        words_first ws (at + 1) r.end [] (words_back ws at (r.start ∷ []) (r.end ∷ []) s),
      )

  pub parts_back : (at : ℕ) (p : Parts) → WordsAt ws at (parts_words p) → parts_loaded ws at ≡ p
  unfolding parts_loaded
  parts_back at p s =
      let x : List ℕ = range_words p.identifier in
      let y : List ℕ = range_words p.parameters in
      let z : List ℕ = range_words p.value in
      rw (
        range_back at p.identifier (words_front ws at x (y ++ z) s),
        range_back (at + 2) p.parameters (words_front ws (at + 2) y z (words_back ws at x (y ++ z) s)),
        range_back (at + 4) p.value (words_back ws at (x ++ y) z s),
      )

  pub safe_back : (at : ℕ) (r : SafeRow) → WordsAt ws at (safe_words r) → safe_loaded ws at ≡ r
  unfolding safe_loaded
  safe_back at r s =
      let n : ℕ = safe_number r.kind in
      let x : List ℕ = parts_words r.parts in
      rw (
        words_first ws at n x s,
        safe_kind_same r.kind,
        parts_back (at + 1) r.parts (words_back ws at (n ∷ []) x s),
      )

  pub bag_back : (at : ℕ) (r : BagRow) → BagFits r → WordsAt ws at (bag_words r) → bag_loaded ws at ≡ r
  unfolding bag_loaded
  bag_back at r f s =
      let n : ℕ = bag_number r.kind in
      let e : ℕ = enclosing_number r.enclosing in
      let h : ℕ = set_number r.has_set in
      let x : List ℕ = parts_words r.parts in
      rw (
        words_first ws at n (r.safe ∷ e ∷ (x ++ (h ∷ []))) s,
        words_first ws (at + 1) r.safe (e ∷ (x ++ (h ∷ [])))
            (words_back ws at (n ∷ []) (r.safe ∷ e ∷ (x ++ (h ∷ []))) s),
        words_first ws (at + 2) e (x ++ (h ∷ [])) (words_back ws at (n ∷ r.safe ∷ []) (e ∷ (x ++ (h ∷ []))) s),
        parts_back (at + 3) r.parts
            (words_front ws (at + 3) x (h ∷ []) (words_back ws at (n ∷ r.safe ∷ e ∷ []) (x ++ (h ∷ [])) s)),
        words_first ws (at + 9) h [] (words_back ws at (n ∷ r.safe ∷ e ∷ x) (h ∷ []) s),
        bag_kind_same r.kind,
        enclosing_same r.enclosing f,
        set_same r.has_set,
      )

  pub attribute_back : (at : ℕ) (r : AttributeRow) → WordsAt ws at (attribute_words r) → attribute_loaded ws at ≡ r
  unfolding attribute_loaded
  attribute_back at r s =
      let x : List ℕ = range_words r.identifier in
      let y : List ℕ = range_words r.values in
      rw (
        words_first ws at r.bag (x ++ y) s,
        range_back (at + 1) r.identifier (words_front ws (at + 1) x y (words_back ws at (r.bag ∷ []) (x ++ y) s)),
        range_back (at + 3) r.values (words_back ws at (r.bag ∷ x) y s),
      )

  pub mac_back : (at : ℕ) (m : Mac) → WordsAt ws at (mac_words m) → mac_loaded ws at ≡ m
  unfolding mac_loaded
  mac_back at m s =
      let x : List ℕ = parts_words m.parts in
      let y : List ℕ = range_words m.salt in
      let l : ℕ = m.iterations % half_size in
      let h : ℕ = m.iterations / half_size in
      let both : l + half_size * h ≡ m.iterations = omega arith in
      rw (
        parts_back at m.parts (words_front ws at x (y ++ (l ∷ h ∷ [])) s),
        range_back (at + 6) m.salt
            (words_front ws (at + 6) y (l ∷ h ∷ []) (words_back ws at x (y ++ (l ∷ h ∷ [])) s)),
        words_first ws (at + 8) l (h ∷ []) (words_back ws at (x ++ y) (l ∷ h ∷ []) s),
        words_first ws (at + 9) h [] (words_back ws at (x ++ (y ++ (l ∷ []))) (h ∷ []) s),
        both,
      )

  -- row i of rows of a width
  pub each_words : (f : ℕ → List ℕ) (w : ℕ) → ((i : ℕ) → length (f i) ≡ w) → (at n i : ℕ) → i < n
      → WordsAt ws at (each f n) → WordsAt ws (at + i * w) (f i)
  unfolding each
  each_words f w h at zero i l s = absurd (omega arith)
  each_words f w h at (suc n) i l s =
      either i n
      (λ k. each_words f w h at n i k (words_front ws at (each f n) (f n) s))
      (λ k. let e : n ≡ i = omega arith in rw (← e) (rw (each_length f w h n) at (words_back ws at (each f n) (f n) s)))

-- ---- rows

pub each_at : {A : Type 0} (P : A → Type 0) (xs : List A) (d : A) → Each P xs → (i : ℕ)
    → i < length xs → P (get_or xs i d)
unfolding Each
each_at P [] d e i h = absurd (omega arith)
each_at P (x ∷ xs) d e zero h = e.0
each_at P (x ∷ xs) d e (suc i) h = each_at P xs d e.1 i (omega arith)

pub each_take : {A : Type 0} (g : ℕ → A) (xs : List A) (d : A) (n : ℕ) → n ≤ length xs
    → ((i : ℕ) → i < n → g i ≡ get_or xs i d) → each (λ i. g i ∷ []) n ≡ take n xs
unfolding each
each_take g xs d zero h e = refl
each_take g xs d (suc n) h e = rw (each_take g xs d n (omega arith) (λ i l. e i (omega arith)), e n (omega arith)) (sym (take-suc xs n d (omega arith)))

-- rows of any kind that are at an offset, loaded from there
pub rows_back : {A : Type 0} (words : A → List ℕ) (read : ℕ → A) (width rows count : ℕ) (none : A)
    (xs : List A) (ws : List ℕ) (at : ℕ) → ((x : A) → length (words x) ≡ width)
    → ((i : ℕ) → i < length (take count xs) → (p : ℕ) → WordsAt ws p (words (get_or xs i none)) → read p ≡ get_or xs i none)
    → count ≤ rows → count ≡ length (take count xs) → xs ≡ padded rows none (take count xs)
    → WordsAt ws at (rows_words words none width rows xs count)
    → rows_from (λ i. read (at + i * width)) none rows count ≡ xs
unfolding rows_words rows_from
rows_back words read width rows count none xs ws at long back few all past s =
    let m : min count rows ≡ count = omega (arith, few) in
    let n : count ≤ length xs = omega (arith, all, length-take count xs) in
    let stored : WordsAt ws at (each (λ i. words (get_or xs i none)) count) =
    rw m at (words_front ws at (each (λ i. words (get_or xs i none)) (min count rows)) _ s) in
    rw (
      m,
      each_take (λ i. read (at + i * width)) xs none count n
          (λ i h.
          back i (omega (arith, h, all)) (at + i * width)
          (each_words ws (λ j. words (get_or xs j none)) width (λ j. long (get_or xs j none)) at count i h stored)),
    ) (sym past)
