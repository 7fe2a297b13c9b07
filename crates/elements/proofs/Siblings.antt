-- The loop over the elements of an attribute: those that were seen, and those to come.
use mathlib.Core.Path.{◌≡◌, refl, sym, ◌∙◌, ap}
use mathlib.Core.List.{List, [], ◌∷◌, ◌++◌, append_assoc, append-nil}
use mathlib.Core.Bool.{Bool, true, false}
use Prim.Native.Nat.{ℕ, zero, suc, ◌+◌, ◌-◌, ◌≤◌, ◌<◌}
use native.Mathlib.Omega.{arith}
use borrow.Author.Tests.{lt-ltb, le-ltb, eq-eqb, ne_eqb}
use lib.ListN.{length, get_or, length-append}
use lib.Dec.{ltb, eqb}
use Rattle.std.specs.Prelude.{if◌then◌else◌}
use Rattle.der.specs.Element.{cursor, element_at}
use Rattle.der.specs.declared.Fault.{Fault}
use Rattle.der.specs.declared.Cursor.{Cursor}
use Rattle.der.specs.Element.{element}
use Rattle.der.specs.declared.Element.{Element}
use Rattle.std.specs.Prelude.{Err, Ok, Result}
use Rattle.der.proofs.Choices.{by_eq}
use Rattle.der.proofs.Placed.{found as found_at}
use Rattle.range.specs.Range.{range, no_range}
use Rattle.range.specs.declared.Range.{Range}
use Rattle.elements.specs.Elements.{elements_from, counts, counted_of, chosen_of}

-- one element more: the one that is looked for, or another
pub chosen_last : (xs : List Range) (i : ℕ) (m : Range)
    → get_or (xs ++ (m ∷ [])) i no_range ≡ chosen_of (length xs) i (get_or xs i no_range) m
unfolding chosen_of
chosen_last [] zero m = refl
chosen_last [] (suc i) m = rw (ne_eqb 0 (suc i) (λ e. omega arith))
chosen_last (x ∷ xs) zero m = rw (ne_eqb (suc (length xs)) 0 (λ e. omega arith))
chosen_last (x ∷ xs) (suc i) m =
    chosen_last xs i m ∙ by_eq (λ v. v ≡ (if eqb (suc (length xs)) (suc i) then m else get_or xs i no_range)) m
    (get_or xs i no_range) (length xs) i
    (λ e. rw (eq-eqb (suc (length xs)) (suc i) (omega arith)))
    (λ n. rw (ne_eqb (suc (length xs)) (suc i) (λ e. n (omega arith))))

-- the run of elements from an offset on: at the end, before what is no element, and before one
pub run_end : (fuel : ℕ) (s : List ℕ) (end at : ℕ) → end ≤ at → elements_from fuel s end at ≡ []
unfolding elements_from
run_end zero s end at h = refl
run_end (suc fuel) s end at h = rw (le-ltb at end h)

run_broken : (fuel : ℕ) (s : List ℕ) (end at : ℕ) (f : Fault) → element_at s (cursor at end) ≡ Err f
    → elements_from fuel s end at ≡ []
unfolding elements_from
run_broken zero s end at f e = refl
run_broken (suc fuel) s end at f e = rw e (go (ltb at end))
  where
    go : (u : Bool) → ◌≡◌ {A = List Range} (if u then [] else []) []
    go true = refl
    go false = refl

pub run_more : (fuel : ℕ) (s : List ℕ) (end at t : ℕ) (b n : Cursor) → at < end
    → element_at s (cursor at end) ≡ Ok (element t b n)
    → elements_from (suc fuel) s end at ≡ range at n.at ∷ elements_from fuel s end n.at
unfolding elements_from
run_more fuel s end at t b n h e = rw (lt-ltb at end h, e)

module _ (s : List ℕ) (i end start : ℕ) where
  abbrev pub Whole : List Range
  Whole = elements_from (end - start) s end start

  -- The elements that were seen and those to come are all of them; `found` is element i if it was
  -- seen.
  pub record Walking (at count : ℕ) (found : Range) : Type 0 where
    pub fuel : ℕ
    pub enough : end ≤ at + fuel
    pub seen : List Range
    pub rest : Whole ≡ seen ++ elements_from fuel s end at
    pub counted : count ≡ length seen
    pub met : found ≡ get_or seen i no_range
    pub few : count ≤ at
    pub small : end < 65536

  pub walking_start : end < 65536 → Walking start 0 no_range
  walking_start h = record {
    fuel = end - start;
    enough = omega arith;
    seen = [];
    rest = refl;
    counted = refl;
    met = refl;
    few = omega arith;
    small = h;
  }

  result : (xs : List Range) (count : ℕ) (found : Range) → Whole ≡ xs → count ≡ length xs → found ≡ get_or xs i no_range
      → counts count found ≡ counted_of Whole i
  unfolding counted_of
  result xs count found e f g = rw (e, f, g)

  module _ (at count : ℕ) (found : Range) (g : Walking at count found) where
    all_seen : elements_from g.fuel s end at ≡ [] → counts count found ≡ counted_of Whole i
    all_seen e = result g.seen count found (g.rest ∙ rw e (append-nil g.seen)) g.counted g.met

    pub walking_ends : end ≤ at → counts count found ≡ counted_of Whole i
    walking_ends h = all_seen (none_left g.fuel)
      where
        none_left : (fuel : ℕ) → elements_from fuel s end at ≡ []
        none_left fuel = run_end fuel s end at h

    module _ (h : at < end) (w : Result Element Fault) (e : w ≡ element_at s (cursor at end)) where
      pub walking_stops : (f : Fault) → w ≡ Err f → counts count found ≡ counted_of Whole i
      walking_stops f q = all_seen (run_broken g.fuel s end at f (sym e ∙ q))

      module _ (t : ℕ) (b n : Cursor) (q : w ≡ Ok (element t b n)) where
        -- the element ends past its own offset and within its parent
        ends_within : (at < n.at) × (n.at ≤ end)
        ends_within =
            let p = found_at s (cursor at end) w t b n e q in
            let k : n.at ≡ b.end = ap {B = ℕ} (λ (c : Cursor). c.at) p.next in
            (omega (arith, p.body.past, p.body.size, k), omega (arith, p.body.within, k))

        pub stop_fits : n.at < 65536
        stop_fits = omega (arith, ends_within.1, g.small)

        pub walking_less : end - n.at < end - at
        walking_less = omega (arith, ends_within.0, h)

        pub walking_on : (m : Range) → m ≡ chosen_of count i found (range at n.at) → Walking n.at (count + 1) m
        walking_on m k = go g.fuel g.enough g.rest
          where
            go : (fuel : ℕ) → end ≤ at + fuel → Whole ≡ g.seen ++ elements_from fuel s end at
                → Walking n.at (count + 1) m
            go zero l r = absurd (omega arith)
            go (suc fuel) l r =
                record {
                  fuel = fuel;
                  enough = omega (arith, ends_within.0);
                  seen = g.seen ++ (range at n.at ∷ []);
                  rest = r ∙ rw (run_more fuel s end at t b n h (sym e ∙ q), append_assoc);
                  counted = rw length-append (omega (arith, g.counted));
                  met = k ∙ rw (g.counted, g.met) (sym (chosen_last g.seen i (range at n.at)));
                  few = omega (arith, ends_within.0, g.few);
                  small = g.small;
                }
