-- One byte: an upload that follows a state that isn't a fault follows the next one too.
use mathlib.Core.Path.{◌≡◌, refl, sym}
use mathlib.Core.Bool.{Bool}
use mathlib.Core.Option as option
use Prim.Native.Nat.{ℕ, ◌+◌, ◌*◌, ◌%◌, ◌≤◌, ◌<◌}
use native.Mathlib.Omega.{arith}
use lib.Dec.{leb}
use lib.ListN.{length}
use Rattle.der.proofs.Choices.{by_test, by_lt, by_le, by_eq}
use Rattle.buffer.specs.Numbers.{file_bytes}
use Rattle.header.specs.Numbers.{upload_levels}
use Rattle.header.specs.Header.{entering, on_tag, on_length, on_one, on_first, on_second, moved}
use Rattle.header.specs.declared.Due.{Due}
use Rattle.header.specs.declared.Due.TheVariants.{Tag, Length, One, First, Second, Body, Nothing}
use Rattle.header.specs.declared.Move.{Move}
use Rattle.header.specs.declared.Move.TheVariants.{Refuse, Await, Enter, Pass}
use Rattle.stream.specs.declared.Upload.{Upload}
use Rattle.stream.specs.Upload.{applied, stepped}
use Rattle.stream.proofs.Taken.{stepped_on}
use Rattle.uploads.proofs.Machine.{State, top, apply, step, certainly}
use Rattle.uploads.proofs.Kept.{Given, Kept, Awaits, top_within}
use Rattle.uploads.proofs.Kept as kept
use Rattle.uploads.proofs.Follows.{ends_of, tally_of, state_at, Follows, ends_length, parent_top}
use Rattle.uploads.proofs.Follows.{since_at, entered_follows, passed_follows}

-- a move of an upload with i bytes so far
module _ (u : Upload) (i : ℕ) (l : length u.ends ≡ 20) (h : u.depth ≤ 20) (few : u.elements < 65_535)
    (x : Due) where
  abbrev Moves : Move → Type 0
  Moves m = Follows u.total (i + 1) (apply u.total x (ends_of u) (tally_of u) m) (applied u m)

  refuses : (m at after : ℕ) → after ≡ i + 1 → Moves (Refuse m at after)
  refuses m at after e = record { total = refl; ends = l; depth = h; state = refl; since = e }

  enters : (at t start stop : ℕ) → start ≡ i + 1 → Moves (Enter at t start stop)
  enters at t start stop e =
      since_at u.total start (i + 1) _ _ e (entered_follows u at t start stop l h few)

  entering_moves : (at t start size end : ℕ) → start ≡ i + 1 → Moves (entering at t start size end)
  unfolding entering
  entering_moves at t start size end e =
      by_lt Moves _ _ end (start + size) (λ k. refuses _ at start e) (λ k. enters at t start (start + size) e)

  tag_moves : (at b end : ℕ) → i ≡ at → Moves (on_tag at b end)
  unfolding on_tag
  tag_moves at b end e =
      by_eq Moves _ _ b 0
      (λ k. refuses _ at (at + 1) (omega arith))
      (λ k. by_eq Moves _ _ (b % 32) 31
      (λ j. refuses _ at (at + 1) (omega arith))
      (λ j. by_le Moves _ _ end (at + 1)
      (λ m. refuses _ at (at + 1) (omega arith))
      (λ m. record { total = refl; ends = l; depth = h; state = refl; since = tt })))

  length_moves : (at t b end : ℕ) → i ≡ at + 1 → Moves (on_length at t b end)
  unfolding on_length
  length_moves at t b end e =
      by_lt Moves _ _ b 0x80
      (λ k. entering_moves at t (at + 2) b end (omega arith))
      (λ k. by_eq Moves _ _ b 0x81
      (λ j. by_le Moves _ _ end (at + 2)
      (λ m. refuses _ at (at + 2) (omega arith))
      (λ m. record { total = refl; ends = l; depth = h; state = refl; since = tt }))
      (λ j. by_eq Moves _ _ b 0x82
      (λ m. by_le Moves _ _ end (at + 3)
      (λ o. refuses _ at (at + 2) (omega arith))
      (λ o. record { total = refl; ends = l; depth = h; state = refl; since = tt }))
      (λ m. refuses _ at (at + 2) (omega arith))))

  one_moves : (at t b end : ℕ) → i ≡ at + 2 → Moves (on_one at t b end)
  unfolding on_one
  one_moves at t b end e =
      by_lt Moves _ _ b 0x80
      (λ k. refuses _ at (at + 3) (omega arith))
      (λ k. entering_moves at t (at + 3) b end (omega arith))

  first_moves : (at t b end : ℕ) (deep : Bool) → i ≡ at + 2 → Moves (on_first at t b end deep)
  unfolding on_first
  first_moves at t b end deep e =
      by_eq Moves _ _ b 0
      (λ k. refuses _ at (at + 3) (omega arith))
      (λ k. by_lt Moves _ _ end (at + 4 + b * 256)
      (λ j. refuses _ at (at + 3) (omega arith))
      (λ j. by_test Moves _ _ deep
      (λ m. by_le Moves _ _ (at + 4 + b * 256 + 255) end
      (λ o. refuses _ at (at + 3) (omega arith))
      (λ o. waits))
      (λ m. waits)))
    where
      waits : Moves (Await (Second at t b))
      waits = record { total = refl; ends = l; depth = h; state = refl; since = tt }

  second_moves : (at t first b end : ℕ) → i ≡ at + 3 → Moves (on_second at t first b end)
  unfolding on_second
  second_moves at t first b end e = entering_moves at t (at + 4) (first * 256 + b) end (omega arith)

  pass_moves : (at end : ℕ) → i ≡ at → at < end → Moves (Pass at end)
  pass_moves at end e k =
      since_at u.total (at + 1) (i + 1) _ _ (omega arith) (passed_follows u at end l h k)

-- what the next byte moves
moves_by : (u : Upload) (x : Due) (b : ℕ) → u.due ≡ x
    → stepped u b ≡ applied u (moved x b (top u.total (ends_of u)) (leb upload_levels (length (ends_of u))))
moves_by u x b e =
    rw (sym (parent_top u.total u.ends u.depth), ends_length u.ends u.depth) (stepped_on u x b e)

-- fewer elements than the count can hold
few_of : (u : Upload) (i : ℕ) (x : Due) → u.total ≤ file_bytes → Kept u.total i x (ends_of u) (tally_of u)
    → u.elements < 65_535
unfolding Awaits kept.counted
few_of u i (Tag at) h k = omega (arith, k.few, k.awaits.1, top_within _ _ k.nested)
few_of u i (Length at t) h k = omega (arith, k.few, k.awaits.1, top_within _ _ k.nested)
few_of u i (One at t) h k = omega (arith, k.few, k.awaits.1, top_within _ _ k.nested)
few_of u i (First at t) h k = omega (arith, k.few, k.awaits.1, top_within _ _ k.nested)
few_of u i (Second at t o) h k = omega (arith, k.few, k.awaits.2, top_within _ _ k.nested)
few_of u i (Body at e) h k = omega (arith, k.few, k.awaits.1, k.awaits.2, top_within _ _ k.nested)
few_of u i Nothing h k = absurd k.awaits
few_of u i (Due.Refused m p after) h k = absurd k.awaits

step_by : (u : Upload) (i b : ℕ) (x : Due) → u.due ≡ x → u.total ≤ file_bytes → length u.ends ≡ 20
    → u.depth ≤ 20 → Given u.total i (state_at x u) → certainly (state_at x u) ≡ option.none
    → Follows u.total (i + 1) (step u.total (state_at x u) b) (stepped u b)
unfolding step Given Awaits certainly
step_by u i b (Tag at) e s l h g c =
    rw (moves_by u (Tag at) b e) (tag_moves u i l h (few_of u i _ s g) (Tag at) at b _ g.awaits.0)
step_by u i b (Length at t) e s l h g c =
    rw (moves_by u (Length at t) b e) (length_moves u i l h (few_of u i _ s g) (Length at t) at t b _ g.awaits.0)
step_by u i b (One at t) e s l h g c =
    rw (moves_by u (One at t) b e) (one_moves u i l h (few_of u i _ s g) (One at t) at t b _ g.awaits.0)
step_by u i b (First at t) e s l h g c =
    rw (moves_by u (First at t) b e) (first_moves u i l h (few_of u i _ s g) (First at t) at t b _ _ g.awaits.0)
step_by u i b (Second at t o) e s l h g c =
    rw (moves_by u (Second at t o) b e)
    (second_moves u i l h (few_of u i _ s g) (Second at t o) at t o b _ g.awaits.0)
step_by u i b (Body at f) e s l h g c =
    rw (moves_by u (Body at f) b e)
    (pass_moves u i l h (few_of u i _ s g) (Body at f) at f g.awaits.0 g.awaits.1)
step_by u i b Nothing e s l h g c =
    rw (moves_by u Nothing b e)
    record { total = refl; ends = l; depth = h; state = refl; since = omega (arith, g.all) }
step_by u i b (Due.Refused m p after) e s l h g c = let z : ◌≡◌ {A = ℕ} 0 1 = cc in absurd (omega arith)

pub step_follows : (n i k : ℕ) (st : State) (u : Upload) (b : ℕ) → n ≤ file_bytes → Follows n k st u → Given n i st
    → certainly st ≡ option.none → Follows n (i + 1) (step n st b) (stepped u b)
step_follows n i k st u b s f g c =
    let t = f.total in
    let q = f.state in
    rw (sym t, sym q)
    (step_by u i b u.due refl (omega (arith, t)) f.ends f.depth (rw (sym t, sym q) at g) (rw (sym q) at c))
