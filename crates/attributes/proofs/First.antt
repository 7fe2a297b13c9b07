-- The first row that passes a test: how a loop over rows finds it.
use mathlib.Core.Path.{◌≡◌, refl, sym, ◌∙◌}
use mathlib.Core.Bool.{Bool, true, false}
use mathlib.Core.List.{List, [], ◌∷◌}
use Prim.Native.Nat.{ℕ, zero, suc, ◌+◌, ◌≤◌, ◌<◌, min}
use native.Mathlib.Numerals.{add-one}
use native.Mathlib.Omega.{arith}
use lib.ListN.{length, get_or, take, drop, drop_of_length-le, length-take}
use lib.Seq.{drop-cons, get_or-take}
use Rattle.std.specs.Prelude.{if◌then◌else◌}
use Rattle.std.specs.Prelude.{Ok}
use borrow.Author.Tests.{eq-eqb, ne_eqb, lt-ltb, le-ltb}
use Rattle.pkcs12.specs.Table.{no_attribute}
use Rattle.pkcs12.specs.declared.row.AttributeRow.{AttributeRow}
use Rattle.attributes.specs.Reader.{first_from, names, counted, position, next_row, moved_to}
use Rattle.attributes.specs.declared.Item.{Item}
use Rattle.attributes.specs.declared.Item.TheVariants.{Done}
use Rattle.attributes.specs.declared.Position.{Position}

-- an element that is there doesn't depend on what is taken for one that isn't
pub get_d_in : {A : Type 0} (xs : List A) (i : ℕ) (d e : A) → i < length xs → get_or xs i d ≡ get_or xs i e
get_d_in [] i d e h = absurd (omega arith)
get_d_in (x ∷ xs) zero d e h = refl
get_d_in (x ∷ xs) (suc i) d e h = get_d_in xs i d e (omega arith)

-- as many rows as are counted and there are; the array has k rows, as its type says
pub counted_length : {A : Type 0} (k n end : ℕ) (xs : List A) → length xs ≡ k
    → end ≡ min n k → end ≡ length (take n xs)
counted_length k n end xs e g = omega (arith, length-take n xs, e, g)

pub at_most : (n k end : ℕ) → end ≡ min n k → end ≤ k
at_most n k end e = omega (arith, e)

module _ {A : Type 0} (test : A → Bool) (n : ℕ) (xs : List A) (at : ℕ) where
  -- The row that is due is the first one from i on: the invariant of the loops. `end` is the number
  -- of rows.
  pub record Looking (end i : ℕ) : Type 0 where
    pub counted : end ≡ length (take n xs)
    pub rest : first_from test (drop at (take n xs)) at ≡ first_from test (drop i (take n xs)) i

  pub look_start : (end : ℕ) → end ≡ length (take n xs) → Looking end at
  look_start end e = record { counted = e; rest = refl }

  turn : (end i : ℕ) (d : A) → Looking end i → i < end
      → first_from test (drop at (take n xs)) at
      ≡ (if test (get_or xs i d) then i else first_from test (drop (suc i) (take n xs)) (i + 1))
  unfolding first_from
  turn end i d g h =
      g.rest ∙ rw (
        drop-cons (take n xs) i d (omega (arith, g.counted, h)),
        get_or-take n xs i d (omega (arith, g.counted, h, length-take n xs)),
      )

  module _ (end i : ℕ) (d : A) (g : Looking end i) (h : i < end) where
    pub look_found : test (get_or xs i d) ≡ true → i ≡ first_from test (drop at (take n xs)) at
    look_found q = sym (turn end i d g h ∙ rw q)

    pub look_on : test (get_or xs i d) ≡ false → Looking end (i + 1)
    look_on q = record { counted = g.counted; rest = turn end i d g h ∙ rw (q, add-one) }

  pub look_end : (end i : ℕ) → Looking end i → end ≤ i → i ≡ first_from test (drop at (take n xs)) at
  unfolding first_from
  look_end end i g h = sym (g.rest ∙ rw (drop_of_length-le (take n xs) {i = i} (omega (arith, g.counted, h))))

-- the loop over a position's rows, for those that name its bag
module _ (p : Position) (end : ℕ) where
  abbrev pub Next : ℕ → Type 0
  Next i = Looking (names p.bag) p.count p.rows p.at end i

  pub next_start : (k : ℕ) → length p.rows ≡ k → end ≡ min p.count k → Next p.at
  next_start k e g = look_start _ _ _ _ end (counted_length k p.count end p.rows e g)

  module _ (i : ℕ) (d : AttributeRow) (g : Next i) where
    pub next_found : i < end → (get_or p.rows i d).bag ≡ p.bag → i ≡ next_row p
    unfolding next_row
    next_found h q = look_found _ _ _ _ end i d g h (eq-eqb _ _ q)

    pub next_on : i < end → ((get_or p.rows i d).bag ≡ p.bag → ⊥) → Next (i + 1)
    next_on h q = look_on _ _ _ _ end i d g h (ne_eqb _ _ q)

  pub next_end : (i : ℕ) → Next i → end ≤ i → i ≡ next_row p
  unfolding next_row
  next_end i g h = look_end _ _ _ _ end i g h

-- the row that was found, if there is one
module _ (p : Position) (end i : ℕ) (e : i ≡ next_row p) where
  pub moved_on : (k : ℕ) (d : AttributeRow) → length p.rows ≡ k
      → end ≡ min p.count k → i < end
      → position p.rows p.count p.bag (i + 1) (Ok (Item.Attribute (get_or p.rows i d))) ≡ moved_to p (next_row p)
  unfolding moved_to
  moved_on k d a b h =
      let l = counted_length k p.count end p.rows a b in
      let m : i < length (counted p) = omega (arith, l, h) in
      let o : i < length p.rows = omega (arith, length-take p.count p.rows, m) in
      rw (← e, lt-ltb i (length (counted p)) m, get_d_in p.rows i d no_attribute o)

  pub moved_off : (k : ℕ) → length p.rows ≡ k
      → end ≡ min p.count k → end ≤ i
      → position p.rows p.count p.bag i (Ok Done) ≡ moved_to p (next_row p)
  unfolding moved_to
  moved_off k a b h =
      let l = counted_length k p.count end p.rows a b in
      rw (← e, le-ltb i (length (counted p)) (omega (arith, l, h)))
