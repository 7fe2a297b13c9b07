-- Memory that holds rows: words at an offset stay as they are while others are stored elsewhere, and
-- grow where a row is stored behind them; the rows are read back from it.
use mathlib.Core.Path.{◌≡◌, refl, sym, ap, ◌∙◌}
use mathlib.Core.List.{List, [], ◌∷◌, ◌++◌, append_assoc}
use Prim.Native.Nat.{ℕ, zero, suc, ◌+◌, ◌-◌, ◌*◌, ◌≤◌, ◌<◌}
use native.Mathlib.Nat.{zero-add, suc-add}
use native.Mathlib.Omega.{arith}
use lib.ListN.{length, get_or, set, drop, length-append, length-drop}
use lib.Seq.{sets, length-sets, sets-eq, drop-set-lt, drop-set-add, take_all}
use Rattle.der.specs.Named.{Each}
use Rattle.buffer.specs.Placed.{each}
use Rattle.pkcs12.specs.Numbers.{safe_rows, bag_rows, attribute_rows}
use Rattle.pkcs12.specs.Table.{Rows, no_safe, no_bag, no_attribute}
use Rattle.pkcs12.specs.Walk.{add_safe, add_bag, add_attribute}
use Rattle.pkcs12.specs.declared.row.SafeRow.{SafeRow}
use Rattle.pkcs12.specs.declared.row.BagRow.{BagRow}
use Rattle.pkcs12.specs.declared.row.AttributeRow.{AttributeRow}
use Rattle.pkcs12.proofs.Shown.{each_join}
use Rattle.words.specs.Layout.{safe_width, bag_width, attribute_width, mac_input_at, safes_at, bags_at, attributes_at}
use Rattle.words.specs.Stored.{safe_words, bag_words, attribute_words}
use Rattle.words.specs.declared.Counts.{Counts}
use Rattle.load.specs.Loaded.{safe_loaded, bag_loaded, attribute_loaded, safe_from, bag_from, attribute_from}
use Rattle.load.specs.Wordable.{BagFits}
use Rattle.load.specs.Holds.{WordsAt, in_turn, Holds, rows_at}
use Rattle.words.proofs.Rows.{each_length}
use Rattle.load.proofs.Back.{range_back, safe_back, bag_back, attribute_back, each_words, each_at, each_take}

-- ---- words that are stored elsewhere

sets_cons : (a : ℕ) (l : List ℕ) (i : ℕ) (y : List ℕ) → sets (a ∷ l) (suc i) y ≡ a ∷ sets l i y
sets_cons a l i [] = refl
sets_cons a l i (b ∷ y) = sets_cons a (set l i b) (suc i) y

pub sets_past : (x l : List ℕ) (q : ℕ) (y : List ℕ) → sets (x ++ l) (length x + q) y ≡ x ++ sets l q y
sets_past [] l q y = rw (zero-add q)
sets_past (a ∷ x) l q y =
    rw (suc-add (length x) q)
    (sets_cons a (x ++ l) (length x + q) y ∙ ap (λ (r : List ℕ). a ∷ r) (sets_past x l q y))

drop_sets_add : (n : ℕ) (l : List ℕ) (i : ℕ) (y : List ℕ) → drop n (sets l (n + i) y) ≡ sets (drop n l) i y
drop_sets_add n l i [] = refl
drop_sets_add n l i (a ∷ y) =
    let z : suc (n + i) ≡ n + suc i = omega arith in
    rw z (drop_sets_add n (set l (n + i) a) (suc i) y ∙ rw (drop-set-add n l i a))

drop_sets_lt : (n : ℕ) (l : List ℕ) (i : ℕ) (y : List ℕ) → i + length y ≤ n → drop n (sets l i y) ≡ drop n l
drop_sets_lt n l i [] h = refl
drop_sets_lt n l i (a ∷ y) h =
    drop_sets_lt n (set l i a) (suc i) y (omega (arith, h)) ∙ drop-set-lt n l i a (omega (arith, h))

module _ (m : List ℕ) (at : ℕ) (x : List ℕ) (w : WordsAt m at x) (p : ℕ) (y : List ℕ) where
  -- y is stored before x
  pub kept_behind : p + length y ≤ at → WordsAt (sets m p y) at x
  kept_behind h = record { rest = w.rest; words = drop_sets_lt at m p y h ∙ w.words }

  shifted : (q : ℕ) → p ≡ at + (length x + q) → drop at (sets m p y) ≡ x ++ sets w.rest q y
  shifted q e = rw e (drop_sets_add at m (length x + q) y ∙ rw w.words (sets_past x w.rest q y))

  -- y is stored behind x
  pub kept_before : at + length x ≤ p → WordsAt (sets m p y) at x
  kept_before h =
      record {
        rest = sets w.rest (p - at - length x) y;
        words = shifted (p - at - length x) (omega (arith, h));
      }

  -- y is stored right behind x
  pub grown : p ≡ at + length x → p + length y ≤ length m → WordsAt (sets m p y) at (x ++ y)
  grown e h =
      let i = ap length w.words in
      let j = length-append x w.rest in
      let k = length-drop at m in
      let l : length w.rest ≡ length m - p = omega (arith, i, j, k, e, h) in
      let f = sets-eq y w.rest 0 (omega (arith, l, h)) in
      record {
        rest = drop (0 + length y) w.rest;
        words =
            shifted 0 (omega (arith, e))
            ∙ ap (λ (r : List ℕ). x ++ r) f
            ∙ sym (append_assoc x y _);
      }

-- ---- rows of one kind

-- lists that agree below n
pub each_same : (f g : ℕ → List ℕ) (n : ℕ) → ((i : ℕ) → i < n → f i ≡ g i) → each f n ≡ each g n
unfolding each
each_same f g zero h = refl
each_same f g (suc n) h = rw (each_same f g n (λ i l. h i (omega (arith, l))), h n (omega arith))

module _ {A : Type 0} where
  pub get_d_front : (xs ys : List A) (i : ℕ) (d : A) → i < length xs → get_or (xs ++ ys) i d ≡ get_or xs i d
  get_d_front [] ys i d h = absurd (omega (arith, h))
  get_d_front (x ∷ xs) ys zero d h = refl
  get_d_front (x ∷ xs) ys (suc i) d h = get_d_front xs ys i d (omega (arith, h))

  get_d_seam : (xs : List A) (y : A) (ys : List A) (d : A) → get_or (xs ++ (y ∷ ys)) (length xs) d ≡ y
  get_d_seam [] y ys d = refl
  get_d_seam (x ∷ xs) y ys d = get_d_seam xs y ys d

  module _ (words : A → List ℕ) (none : A) where
    pub in_turn_more : (xs : List A) (x : A) → in_turn words none (xs ++ (x ∷ [])) ≡ in_turn words none xs ++ words x
    unfolding in_turn each
    in_turn_more xs x =
        let l : length (xs ++ (x ∷ [])) ≡ suc (length xs) = length-append xs (x ∷ []) ∙ omega arith in
        rw (
          l,
          each_same (λ i. words (get_or (xs ++ (x ∷ [])) i none)) (λ i. words (get_or xs i none)) (length xs)
              (λ i h. ap words (get_d_front xs (x ∷ []) i none h)),
          get_d_seam xs x [] none,
        )

    pub in_turn_length : (width : ℕ) → ((x : A) → length (words x) ≡ width) → (xs : List A)
        → length (in_turn words none xs) ≡ length xs * width
    unfolding in_turn
    in_turn_length width h xs = each_length (λ i. words (get_or xs i none)) width (λ i. h (get_or xs i none)) (length xs)

    -- the rows that are read where the words of rows are
    pub rows_read : (P : A → Type 0) (read : ℕ → A) (width : ℕ) (m : List ℕ) (at : ℕ)
        → ((x : A) → length (words x) ≡ width)
        → ((p : ℕ) (x : A) → P x → WordsAt m p (words x) → read p ≡ x)
        → (xs : List A) → Each P xs → WordsAt m at (in_turn words none xs)
        → each (λ i. read (at + i * width) ∷ []) (length xs) ≡ xs
    unfolding in_turn
    rows_read P read width m at long back xs fits w =
        each_take (λ i. read (at + i * width)) xs none (length xs) (omega arith)
        (λ i h.
        back (at + i * width) (get_or xs i none) (each_at P xs none fits i h)
        (each_words m (λ j. words (get_or xs j none)) width (λ j. long (get_or xs j none)) at (length xs) i h w))
        ∙ take_all (length xs) xs (omega arith)

-- what is true of every row
each_true : {A : Type 0} (xs : List A) → Each (λ x. Unit {0}) xs
unfolding Each
each_true [] = tt
each_true (x ∷ xs) = (tt, each_true xs)

one_each : {A : Type 0} (P : A → Type 0) (x : A) → P x → Each P (x ∷ [])
unfolding Each
one_each P x h = (h, tt)

-- ---- the rows of memory that holds some

abbrev pub counts_of : Rows → Counts
counts_of st =
    record {
      safes = length st.safes;
      bags = length st.bags;
      attributes = length st.attributes;
      elements = st.count;
    }

pub rows_back : (m : List ℕ) (st : Rows) → Holds m st → rows_at m (counts_of st) ≡ st
unfolding rows_at
rows_back m st h =
    let a = rows_read safe_words no_safe (λ x. Unit {0}) (safe_loaded m) safe_width m safes_at (λ x. refl)
    (λ p x u w. safe_back m p x w) st.safes (each_true st.safes) h.safes in
    let b = rows_read bag_words no_bag BagFits (bag_loaded m) bag_width m bags_at (λ x. refl)
    (λ p x u w. bag_back m p x u w) st.bags h.fits h.bags in
    let c = rows_read attribute_words no_attribute (λ x. Unit {0}) (attribute_loaded m) attribute_width m attributes_at
    (λ x. refl)
    (λ p x u w. attribute_back m p x w) st.attributes (each_true st.attributes) h.attributes in
    let d = range_back m mac_input_at st.input h.input in
    λ i. record { safes = a i; bags = b i; attributes = c i; input = d i; count = st.count }

module _ (m : List ℕ) (k : Counts) where
  each_count : {A : Type 0} (f : ℕ → A) (n : ℕ) → length (each (λ i. f i ∷ []) n) ≡ n
  each_count f n = each_length (λ i. f i ∷ []) 1 (λ i. refl) n ∙ omega arith

  pub safe_count_lem : length (rows_at m k).safes ≡ k.safes
  unfolding rows_at
  safe_count_lem = each_count (safe_from m) k.safes

  pub bag_count : length (rows_at m k).bags ≡ k.bags
  unfolding rows_at
  bag_count = each_count (bag_from m) k.bags

  pub attribute_count : length (rows_at m k).attributes ≡ k.attributes
  unfolding rows_at
  attribute_count = each_count (attribute_from m) k.attributes

  pub count_of : (rows_at m k).count ≡ k.elements
  unfolding rows_at
  count_of = refl

-- ---- a row more

module _ (m : List ℕ) (st : Rows) (h : Holds m st) where
  safes_long : length (in_turn safe_words no_safe st.safes) ≡ length st.safes * safe_width
  safes_long = in_turn_length safe_words no_safe safe_width (λ x. refl) st.safes

  bags_long : length (in_turn bag_words no_bag st.bags) ≡ length st.bags * bag_width
  bags_long = in_turn_length bag_words no_bag bag_width (λ x. refl) st.bags

  attributes_long : length (in_turn attribute_words no_attribute st.attributes)
      ≡ length st.attributes * attribute_width
  attributes_long = in_turn_length attribute_words no_attribute attribute_width (λ x. refl) st.attributes

  -- n rows are there
  pub holds_safe : (r : SafeRow) (k n : ℕ) → length st.safes ≡ n → n < safe_rows
      → Holds (sets m (safes_at + n * safe_width) (safe_words r)) (add_safe st r k)
  holds_safe r k n e f =
      let p : ℕ = safes_at + n * safe_width in
      let y : List ℕ = safe_words r in
      record {
        long = omega (arith, h.long, length-sets m p y);
        few_safes = omega (arith, e, f, length-append st.safes (r ∷ []));
        few_bags = h.few_bags;
        few_attributes = h.few_attributes;
        fits = h.fits;
        input = kept_before m mac_input_at _ h.input p y (omega arith);
        safes =
            rw (in_turn_more safe_words no_safe st.safes r)
            (grown m safes_at _ h.safes p y (omega (arith, e, safes_long)) (omega (arith, f, h.long)));
        bags = kept_behind m bags_at _ h.bags p y (omega (arith, f));
        attributes = kept_behind m attributes_at _ h.attributes p y (omega (arith, f));
      }

  pub holds_bag : (r : BagRow) (k n : ℕ) → BagFits r → length st.bags ≡ n → n < bag_rows
      → Holds (sets m (bags_at + n * bag_width) (bag_words r)) (add_bag st r k)
  holds_bag r k n u e f =
      let p : ℕ = bags_at + n * bag_width in
      let y : List ℕ = bag_words r in
      record {
        long = omega (arith, h.long, length-sets m p y);
        few_safes = h.few_safes;
        few_bags = omega (arith, e, f, length-append st.bags (r ∷ []));
        few_attributes = h.few_attributes;
        fits = each_join BagFits st.bags (r ∷ []) h.fits (one_each BagFits r u);
        input = kept_before m mac_input_at _ h.input p y (omega arith);
        safes = kept_before m safes_at _ h.safes p y (omega (arith, safes_long, h.few_safes));
        bags =
            rw (in_turn_more bag_words no_bag st.bags r)
            (grown m bags_at _ h.bags p y (omega (arith, e, bags_long)) (omega (arith, f, h.long)));
        attributes = kept_behind m attributes_at _ h.attributes p y (omega (arith, f));
      }

  pub holds_attribute : (r : AttributeRow) (k n : ℕ) → length st.attributes ≡ n → n < attribute_rows
      → Holds (sets m (attributes_at + n * attribute_width) (attribute_words r)) (add_attribute st r k)
  holds_attribute r k n e f =
      let p : ℕ = attributes_at + n * attribute_width in
      let y : List ℕ = attribute_words r in
      record {
        long = omega (arith, h.long, length-sets m p y);
        few_safes = h.few_safes;
        few_bags = h.few_bags;
        few_attributes = omega (arith, e, f, length-append st.attributes (r ∷ []));
        fits = h.fits;
        input = kept_before m mac_input_at _ h.input p y (omega arith);
        safes = kept_before m safes_at _ h.safes p y (omega (arith, safes_long, h.few_safes));
        bags = kept_before m bags_at _ h.bags p y (omega (arith, bags_long, h.few_bags));
        attributes =
            rw (in_turn_more attribute_words no_attribute st.attributes r)
            (grown m attributes_at _ h.attributes p y (omega (arith, e, attributes_long))
            (omega (arith, f, h.long)));
      }
