-- An element at a cursor of the bytes s, as the walk reads it, and the header of what is left
-- there, as the account has it: the same number, or the same tag and body.
use mathlib.Core.Bool.{Bool, true, false}
use mathlib.Core.Path.{◌≡◌, refl, sym, ap, ◌∙◌}
use mathlib.Core.List.{List, [], ◌∷◌}
use Prim.Native.Nat.{ℕ, suc, ◌+◌, ◌*◌, ◌-◌, ◌%◌, ◌≤◌, ◌<◌}
use native.Mathlib.Omega.{arith}
use lib.Dec.{ltb, eqb}
use lib.ListN.{length, get_or, take, drop}
use lib.Seq.{slice, slice-cons, length-slice, drop-drop, take-take}
use borrow.Author.Tests.{lt-ltb, le-ltb, le-leb, lt-leb, ltb-false}
use Rattle.std.specs.Prelude.{if◌then◌else◌}
use Rattle.der.specs.Element.{cursor, within, one_octet, two_octets, extent_at, element_at, on_result}
use Rattle.der.specs.Content.{bytes_of}
use Rattle.der.specs.declared.Cursor.{Cursor}
use Rattle.der.specs.Element.{element}
use Rattle.der.specs.declared.Element.{Element}
use Rattle.der.specs.declared.Fault.{Fault}
use Rattle.std.specs.Prelude.{Err, Ok, Result}
use Rattle.der.proofs.Choices.{either}
use Rattle.der.proofs.Placed.{left_is, left_none}
use Rattle.range.proofs.Cut.{part_slice, cut_backward}
use Rattle.refusals.specs.Element.{where_none, Header, wrong, right, fitting, after81, after82, sized, header}

-- a cursor that has bytes left, or none, of a parent that lies within the bytes
pub record Lies (s : List ℕ) (c : Cursor) : Type 0 where
  pub order : c.at ≤ c.end
  pub inside : c.end ≤ length s

-- what is left, byte by byte
pub first_left : (s : List ℕ) (at end next : ℕ) → at < end → end ≤ length s → suc at ≡ next → slice at end s
    ≡ get_or s at 0 ∷ slice next end s
first_left s at end next h k e = slice-cons at end s 0 h k ∙ rw e

pub none_left : (s : List ℕ) (at end : ℕ) → end ≤ at → slice at end s ≡ []
none_left s at end h = sym (cut_backward s at end h)

-- whether a byte is left
pub some_chosen : {A : Type 0} (s : List ℕ) (at end : ℕ) (x y : A) → at < end → end ≤ length s
    → where_none (slice at end s) x y ≡ y
some_chosen s at end x y h k = rw (first_left s at end _ h k refl) refl

pub none_chosen : {A : Type 0} (s : List ℕ) (at end : ℕ) (x y : A) → end ≤ at → where_none (slice at end s) x y ≡ x
none_chosen s at end x y h = rw (none_left s at end h) refl

-- the bytes of a body in what is left, and those after it
pub body_taken : (s : List ℕ) (a b e : ℕ) → b ≤ e → take (b - a) (slice a e s) ≡ slice a b s
body_taken s a b e h = part_slice a b (take e s) ∙ ap (drop a) (take-take b e s h)

pub after_dropped : (s : List ℕ) (a b e : ℕ) → a ≤ b → drop (b - a) (slice a e s) ≡ slice b e s
after_dropped s a b e h =
    let z : a + (b - a) ≡ b = omega arith in
    drop-drop (b - a) a (take e s) ∙ rw z

same_test : (a b c d : ℕ) → (a < b → c < d) → (b ≤ a → d ≤ c) → ltb a b ≡ ltb c d
same_test a b c d f g = either a b (λ h. lt-ltb a b h ∙ sym (lt-ltb c d (f h)))
    (λ h. le-ltb a b h ∙ sym (le-ltb c d (g h)))

module _ (s : List ℕ) (at end : ℕ) where
  -- what the walk reads and the account's header agree
  abbrev pub Same : Result Element Fault → Header → Type 0
  Same (Err f) h = (h ≡ wrong f.number) × (f.offset ≡ at)
  Same (Ok x) h =
      (h ≡ right x.tag (x.body.at - at) (x.body.end - x.body.at) (slice x.body.at end s)) × (at < x.body.at) × (x.body.at ≤ x.body.end)
      × (x.body.end ≤ end) × (x.next ≡ cursor x.body.end end)

  by_same : {X : Type 0} (F : X → Result Element Fault) (u v : Bool) (x y : X) (z w : Header) → u ≡ v → (u ≡ true → Same (F x) z)
      → (u ≡ false → Same (F y) w)
      → Same (F (if u then x else y)) (if v then z else w)
  by_same F true true x y z w e f g = f refl
  by_same F false false x y z w e f g = g refl
  by_same F true false x y z w e f g = let q : ◌≡◌ {A = ℕ} 0 1 = cc in absurd (omega arith)
  by_same F false true x y z w e f g = let q : ◌≡◌ {A = ℕ} 0 1 = cc in absurd (omega arith)

  module _ (inside : end ≤ length s) (t : ℕ) where
    fitting_same : (start h size : ℕ) → at + h ≡ start → at < start → start ≤ end
        → Same (on_result (within at start size end) Err (λ b. Ok (element t b (cursor b.end end))))
        (fitting t h size (slice start end s))
    unfolding within fitting
    fitting_same start h size e m k =
        let l = length-slice start end s inside in
        by_same (λ x. on_result x Err (λ b. Ok (element t b (cursor b.end end)))) (ltb end (start + size))
        (ltb (length (slice start end s)) size) _ _ _ _
        (rw l (same_test end (start + size) (end - start) size (λ p. omega arith) (λ p. omega arith)))
        (λ p. (refl, refl))
        (λ p.
        let a : start - at ≡ h = omega arith in
        let b : start + size - start ≡ size = omega arith in
        (rw (a, b) refl, m, omega arith, ltb-false end (start + size) p, refl))

    one_same : at + 2 ≤ end
        → Same (on_result (one_octet s at end) Err (λ b. Ok (element t b (cursor b.end end))))
        (after81 t (slice (at + 2) end s))
    unfolding one_octet after81
    one_same h =
        either (at + 2) end
        (λ k.
        rw (lt-leb end (at + 2) k, first_left s (at + 2) end (at + 3) k inside (omega arith))
        (by_same (λ x. on_result x Err (λ b. Ok (element t b (cursor b.end end))))
        (ltb (get_or s (at + 2) 0) 128) _ _ _ _ _ refl
        (λ p. (refl, refl))
        (λ p. fitting_same (at + 3) 3 (get_or s (at + 2) 0) refl (omega arith) (omega arith))))
        (λ k. rw (le-leb end (at + 2) k, none_left s (at + 2) end k) (refl, refl))

    two_same : at + 2 ≤ end
        → Same (on_result (two_octets s at end) Err (λ b. Ok (element t b (cursor b.end end))))
        (after82 t (slice (at + 2) end s))
    unfolding two_octets after82
    two_same h =
        either (at + 3) end
        (λ k.
        rw (
          lt-leb end (at + 3) k,
          first_left s (at + 2) end (at + 3) (omega arith) inside (omega arith),
          first_left s
              (at + 3) end (at + 4) k inside (omega arith),
        )
        (by_same (λ x. on_result x Err (λ b. Ok (element t b (cursor b.end end)))) (eqb (get_or s (at + 2) 0) 0)
        _ _ _ _ _ refl
        (λ p. (refl, refl))
        (λ p. fitting_same (at + 4) 4 (get_or s (at + 2) 0 * 256 + get_or s (at + 3) 0) refl (omega arith)
        (omega arith))))
        (λ k.
        either (at + 2) end
        (λ l.
        rw (
          le-leb end (at + 3) k,
          first_left s (at + 2) end (at + 3) l inside (omega arith),
          none_left s (at + 3) end
              k,
        ) (refl, refl))
        (λ l. rw (le-leb end (at + 3) k, none_left s (at + 2) end l) (refl, refl)))

    sized_same : at + 1 ≤ end
        → Same (on_result (extent_at s at end) Err (λ b. Ok (element t b (cursor b.end end))))
        (sized t (slice (at + 1) end s))
    unfolding extent_at sized
    sized_same h =
        either (at + 1) end
        (λ k.
        rw (lt-leb end (at + 1) k, first_left s (at + 1) end (at + 2) k inside (omega arith))
        (by_same (λ x. on_result x Err (λ b. Ok (element t b (cursor b.end end))))
        (ltb (get_or s (at + 1) 0) 128) _ _ _ _ _ refl
        (λ p. fitting_same (at + 2) 2 (get_or s (at + 1) 0) refl (omega arith) (omega arith))
        (λ p. by_same (λ x. on_result x Err (λ b. Ok (element t b (cursor b.end end))))
        (eqb (get_or s (at + 1) 0) 129) _ _ _ _ _ refl
        (λ q. one_same (omega arith))
        (λ q. by_same (λ x. on_result x Err (λ b. Ok (element t b (cursor b.end end))))
        (eqb (get_or s (at + 1) 0) 130) _ _ _ _ _ refl (λ r. two_same (omega arith)) (λ r. (refl, refl))))))
        (λ k. rw (le-leb end (at + 1) k, none_left s (at + 1) end k) (refl, refl))

-- An element at a cursor, and the header of what is left there.
pub header_same : (s : List ℕ) (c : Cursor) → Lies s c
    → Same s c.at c.end (element_at s c) (header (bytes_of s c))
unfolding element_at header
header_same s c h =
    let at = c.at in
    let end = c.end in
    either at end
    (λ k.
    rw (left_is s c k h.inside, first_left s at end (at + 1) k h.inside (omega arith))
    (by_same s at end (λ x. x) (eqb (get_or s at 0) 0) _ _ _ _ _ refl
    (λ p. (refl, refl))
    (λ p. by_same s at end (λ x. x) (eqb (get_or s at 0 % 32) 31) _ _ _ _ _ refl
    (λ q. (refl, refl))
    (λ q. sized_same s at end h.inside (get_or s at 0) (omega arith)))))
    (λ k. rw (left_none s c k, none_left s at end k) (refl, omega (arith, h.order)))
