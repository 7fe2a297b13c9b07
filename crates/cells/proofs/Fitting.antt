-- The fields of an upload fit at its beginning, and after every byte.
use mathlib.Core.Path.{refl, ◌∙◌}
use mathlib.Core.Bool.{Bool}
use mathlib.Core.List.{List, [], ◌∷◌}
use Prim.Native.Nat.{ℕ, zero, suc, ◌+◌, ◌*◌, ◌/◌, ◌%◌, ◌≤◌, ◌<◌}
use native.Mathlib.Omega.{arith}
use lib.Dec.{leb}
use lib.ListN.{get_or, set, length-set}
use Rattle.der.specs.Named.{Each}
use Rattle.der.specs.Span.{Bytes}
use Rattle.der.proofs.Choices.{by_test, by_lt, by_le, by_eq}
use Rattle.buffer.specs.Numbers.{file_bytes}
use Rattle.header.specs.Numbers.{upload_levels}
use Rattle.header.specs.Header.{entering, on_tag, on_length, on_one, on_first, on_second, moved}
use Rattle.header.specs.declared.Due.{Due}
use Rattle.header.specs.declared.Due.TheVariants.{Tag, Length, One, First, Second, Body, Nothing}
use Rattle.header.specs.declared.Move.{Move}
use Rattle.header.specs.declared.Move.TheVariants.{Refuse, Await, Enter, Pass, Surplus, Stay}
use Rattle.stream.specs.declared.Upload.{Upload}
use Rattle.stream.specs.Upload.{end_at, parent_end, still_open, with_due, closed_to, closed_at, is_refused, body_before}
use Rattle.stream.specs.Upload.{body_from, one_more, counted, pushed, entered, passed, applied, stepped, taken}
use Rattle.stream.specs.Upload.{no_ends, first, begun}
use Rattle.cells.specs.Fitting.{Small, Short, Long, DueFits, Fitting}

-- ---- the ends

pub each_at : (xs : List ℕ) (i : ℕ) → Each Short xs → Short (get_or xs i 0)
unfolding Each
each_at [] i e = omega arith
each_at (x ∷ xs) zero e = e.0
each_at (x ∷ xs) (suc i) e = each_at xs i e.1

each_set : (xs : List ℕ) (i v : ℕ) → Each Short xs → Short v → Each Short (set xs i v)
unfolding Each
each_set [] i v e h = tt
each_set (x ∷ xs) zero v e h = (h, e.1)
each_set (x ∷ xs) (suc i) v e h = (e.0, each_set xs i v e.1 h)

end_short : (xs : List ℕ) (i : ℕ) → Each Short xs → Short (end_at xs i)
unfolding end_at
end_short xs i e = by_lt Short _ _ i 20 (λ h. each_at xs i e) (λ h. omega arith)

parent_short : (total : ℕ) (xs : List ℕ) (k : ℕ) → Short total → Each Short xs → Short (parent_end total xs k)
unfolding parent_end
parent_short total xs zero h e = h
parent_short total xs (suc k) h e = end_short xs k e

still_least : (xs : List ℕ) (k p : ℕ) → still_open xs k p ≤ k
unfolding still_open
still_least xs zero p = omega arith
still_least xs (suc k) p =
    by_lt (λ n. n ≤ suc k) _ _ p (end_at xs k) (λ h. omega arith) (λ h. omega (arith, still_least xs k p))

-- ---- moves

abbrev MoveFits : Move → Type 0
MoveFits (Refuse n at after) = Small n × (Short at × Long after)
MoveFits (Await x) = DueFits x
MoveFits (Enter at t start stop) = Short at × (Short start × Short stop)
MoveFits (Pass at e) = Short at × Short e
MoveFits Surplus = Unit {0}
MoveFits Stay = Unit {0}

module _ (at t end : ℕ) (a : Short at) (z : Short end) where
  entering_fits : (start size : ℕ) → Long start → MoveFits (entering at t start size end)
  unfolding entering
  entering_fits start size l =
      by_lt MoveFits _ _ end (start + size) (λ h. (omega arith, (a, l))) (λ h. (a, (omega arith, omega arith)))

  -- a refusal at this element, a few bytes later
  refuse_fits : (n k : ℕ) → Small n → k ≤ 4 → MoveFits (Refuse n at (at + k))
  refuse_fits n k h l = (h, (a, omega arith))

  module _ (b : ℕ) (s : Small b) where
    tag_fits : MoveFits (on_tag at b end)
    unfolding on_tag
    tag_fits =
        by_eq MoveFits _ _ b 0
        (λ h. refuse_fits _ 1 (omega arith) (omega arith))
        (λ h. by_eq MoveFits _ _ (b % 32) 31
        (λ i. refuse_fits _ 1 (omega arith) (omega arith))
        (λ i. by_le MoveFits _ _ end (at + 1) (λ j. refuse_fits _ 1 (omega arith) (omega arith)) (λ j. (a, s))))

    module _ (q : Small t) where
      length_fits : MoveFits (on_length at t b end)
      unfolding on_length
      length_fits =
          by_lt MoveFits _ _ b 0x80
          (λ h. entering_fits (at + 2) b (omega arith))
          (λ h. by_eq MoveFits _ _ b 0x81
          (λ i. by_le MoveFits _ _ end (at + 2) (λ j. refuse_fits _ 2 (omega arith) (omega arith)) (λ j. (a, q)))
          (λ i. by_eq MoveFits _ _ b 0x82
          (λ j. by_le MoveFits _ _ end (at + 3) (λ k. refuse_fits _ 2 (omega arith) (omega arith)) (λ k. (a, q)))
          (λ j. refuse_fits _ 2 (omega arith) (omega arith))))

      one_fits : MoveFits (on_one at t b end)
      unfolding on_one
      one_fits =
          by_lt MoveFits _ _ b 0x80
          (λ h. refuse_fits _ 3 (omega arith) (omega arith))
          (λ h. entering_fits (at + 3) b (omega arith))

      first_fits : (deep : Bool) → MoveFits (on_first at t b end deep)
      unfolding on_first
      first_fits deep =
          by_eq MoveFits _ _ b 0
          (λ h. refuse_fits _ 3 (omega arith) (omega arith))
          (λ h. by_lt MoveFits _ _ end (at + 4 + b * 256)
          (λ i. refuse_fits _ 3 (omega arith) (omega arith))
          (λ i. by_test MoveFits _ _ deep
          (λ j. by_le MoveFits _ _ (at + 4 + b * 256 + 255) end
          (λ k. refuse_fits _ 3 (omega arith) (omega arith))
          (λ k. (a, (q, s))))
          (λ j. (a, (q, s)))))

      second_fits : (h : ℕ) → MoveFits (on_second at t h b end)
      unfolding on_second
      second_fits h = entering_fits (at + 4) (h * 256 + b) (omega arith)

moved_fits : (x : Due) (b end : ℕ) (deep : Bool) → DueFits x → Small b → Short end → MoveFits (moved x b end deep)
moved_fits (Tag at) b end deep f s z = tag_fits at 0 end f z b s
moved_fits (Length at t) b end deep f s z = length_fits at t end f.0 z b s f.1
moved_fits (One at t) b end deep f s z = one_fits at t end f.0 z b s f.1
moved_fits (First at t) b end deep f s z = first_fits at t end f.0 z b s f.1 deep
moved_fits (Second at t h) b end deep f s z = second_fits at t end f.0 z b s f.1.0 h
moved_fits (Body at e) b end deep f s z = f
moved_fits Nothing b end deep f s z = tt
moved_fits (Due.Refused n p after) b end deep f s z = tt

-- ---- uploads

with_fits : (u : Upload) (x : Due) (k : ℕ) → Fitting u → DueFits x → Small k → Fitting (with_due u x k)
with_fits u x k f d h =
    record {
      total = f.total;
      due = d;
      depth = h;
      elements = f.elements;
      level = f.level;
      ends = f.ends;
      twenty = f.twenty;
    }

closed_fits : (u : Upload) (p after : ℕ) → Fitting u → Short p → Long after → Fitting (closed_at u p after)
unfolding closed_at closed_to
closed_fits u p after f h l =
    let k : ℕ = still_open u.ends u.depth p in
    let s : Small k = omega (arith, still_least u.ends u.depth p, f.depth) in
    by_lt Fitting _ _ 0 k
    (λ i. with_fits u (Tag p) k f h s)
    (λ i. by_lt Fitting _ _ p u.total
    (λ j. with_fits u (Due.Refused _ p after) k f (omega arith, (h, l)) s)
    (λ j. with_fits u Nothing k f tt s))

body_fits : (u : Upload) (start stop : ℕ) → Fitting u → Short start → Short stop → Fitting (body_from u start stop)
unfolding body_from body_before
body_fits u start stop f h k =
    let c = closed_fits u stop start f k (omega arith) in
    by_test Fitting _ _ (is_refused (closed_at u stop start).due)
    (λ i. c)
    (λ i. by_lt Fitting _ _ start stop (λ j. with_fits u (Body start stop) u.depth f (h, k) f.depth) (λ j. c))

counted_fits : (u : Upload) (v : ℕ) → Fitting u → Small v → Fitting (counted u v)
unfolding one_more
counted_fits u v f h =
    record {
      total = f.total;
      due = f.due;
      depth = f.depth;
      elements = by_lt Short _ _ u.elements 65_535 (λ i. omega arith) (λ i. f.elements);
      level = omega (arith, f.level);
      ends = f.ends;
      twenty = f.twenty;
    }

pushed_fits : (u : Upload) (stop : ℕ) → Fitting u → u.depth < upload_levels → Short stop → Fitting (pushed u stop)
pushed_fits u stop f h k =
    record {
      total = f.total;
      due = f.due;
      depth = omega arith;
      elements = f.elements;
      level = f.level;
      ends = each_set u.ends u.depth stop f.ends k;
      twenty = length-set u.ends u.depth stop ∙ f.twenty;
    }

entered_fits : (u : Upload) (at t start stop : ℕ) → Fitting u → Short at → Short start → Short stop
    → Fitting (entered u at t start stop)
unfolding entered
entered_fits u at t start stop f h i j =
    by_le Fitting _ _ upload_levels u.depth
    (λ k. with_fits u (Due.Refused _ at start) u.depth f (omega arith, (h, omega arith)) f.depth)
    (λ k. let c = counted_fits u (u.depth + 1) f (omega arith) in
    by_eq Fitting _ _ (t / 32 % 2) 0
    (λ l. body_fits _ start stop c i j)
    (λ l. closed_fits _ start start (pushed_fits (counted u (u.depth + 1)) stop c k j) i (omega arith)))

passed_fits : (u : Upload) (at end k : ℕ) → Fitting u → Short end → Fitting (passed u at end k)
unfolding passed
passed_fits u at end k f h =
    by_lt Fitting _ _ (at + k) end
    (λ i. with_fits u (Body (at + k) end) u.depth f (omega arith, h) f.depth)
    (λ i. closed_fits u end end f h (omega arith))

applied_fits : (u : Upload) (m : Move) → Fitting u → MoveFits m → Fitting (applied u m)
applied_fits u (Refuse n at after) f g = with_fits u (Due.Refused n at after) u.depth f g f.depth
applied_fits u (Await x) f g = with_fits u x u.depth f g f.depth
applied_fits u (Enter at t start stop) f g = entered_fits u at t start stop f g.0 g.1.0 g.1.1
applied_fits u (Pass at e) f g = passed_fits u at e 1 f g.1
applied_fits u Surplus f g =
    with_fits u (Due.Refused _ 0 (u.total + 1)) u.depth f
    (omega arith, (omega arith, omega (arith, f.total))) f.depth
applied_fits u Stay f g = f

-- one byte
stepped_fits : (u : Upload) (b : ℕ) → Fitting u → Small b → Fitting (stepped u b)
unfolding stepped
stepped_fits u b f s =
    let end : ℕ = parent_end u.total u.ends u.depth in
    let deep : Bool = leb upload_levels u.depth in
    let short : Short end = parent_short u.total u.ends u.depth f.total f.ends in
    applied_fits u (moved u.due b end deep) f (moved_fits u.due b end deep f.due s short)

-- a portion
pub taken_fits : (u : Upload) (p : List ℕ) → Fitting u → Bytes p → Fitting (taken u p)
unfolding taken
taken_fits u [] f h = f
taken_fits u (b ∷ p) f h = taken_fits (stepped u b) p (stepped_fits u b f h.0) h.1

-- the length is announced
start_fits : (n : ℕ) (x : Due) → Short n → DueFits x → Fitting (first n x)
unfolding first no_ends Each
start_fits n x h d =
    let z : Short 0 = omega arith in
    record {
      total = h;
      due = d;
      depth = omega arith;
      elements = omega arith;
      level = omega arith;
      ends = (z, (z, (z, (z, (z, (z, (z, (z, (z, (z, (z, (z, (z, (z, (z, (z, (z, (z, (z, (z, tt))))))))))))))))))));
      twenty = refl;
    }

pub begun_fits : (n : ℕ) → Fitting (begun n)
unfolding begun
begun_fits n =
    by_lt Fitting _ _ file_bytes n
    (λ h. start_fits 0 (Due.Refused _ 0 0) (omega arith) (omega arith, (omega arith, omega arith)))
    (λ h. by_eq Fitting _ _ n 0
    (λ i. start_fits 0 (Due.Refused _ 0 0) (omega arith) (omega arith, (omega arith, omega arith)))
    (λ i. start_fits n (Tag 0) (omega arith) (omega arith)))
