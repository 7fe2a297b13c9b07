-- An `Upload` of `stream` follows the machine: byte by byte its state is the machine's, and the
-- number of bytes in a fault is that of the bytes that have arrived when it is found.
use mathlib.Core.Path.{◌≡◌, refl, sym, ap, ◌∙◌}
use mathlib.Core.Bool.{Bool, true, false}
use mathlib.Core.List.{List, [], ◌∷◌}
use Prim.Native.Nat.{ℕ, zero, suc, ◌+◌, ◌/◌, ◌%◌, ◌≤◌, ◌<◌}
use native.Mathlib.Omega.{arith}
use native.Mathlib.Numerals.{add-one}
use lib.Dec.{leb, ltb, eqb}
use lib.ListN.{length, set, length-set}
use lib.Seq.{get_or-set_same, get_or-set_other}
use borrow.Author.Tests.{lt-ltb, ltb-false, leb-false}
use Rattle.std.specs.Prelude.{if◌then◌else◌}
use Rattle.der.specs.Element.{fault}
use Rattle.der.proofs.Choices.{never}
use Rattle.header.specs.Numbers.{upload_levels}
use Rattle.header.specs.declared.Due.{Due}
use Rattle.header.specs.declared.Due.TheVariants.{Tag, Length, One, First, Second, Body, Nothing}
use Rattle.stream.specs.declared.Upload.{Upload}
use Rattle.stream.specs.Upload.{end_at, parent_end, still_open, closed_to, closed_at, is_refused, body_before}
use Rattle.stream.specs.Upload.{body_from, one_more, counted, pushed, entered, passed}
use Rattle.uploads.specs.Whole.{Tally, tallied}
use Rattle.uploads.proofs.Machine.{State, Failed, Open, Done, top, close, unless, body, enter, pass}
use Rattle.uploads.proofs.Fed.{cases}

-- the ends of the open elements, the innermost first
unfoldable pub ends_in : List ℕ → ℕ → List ℕ
ends_in ends zero = []
ends_in ends (suc k) = end_at ends k ∷ ends_in ends k

abbrev pub ends_of : Upload → List ℕ
ends_of u = ends_in u.ends u.depth

abbrev pub tally_of : Upload → Tally
tally_of u = record { elements = u.elements; level = u.level }

abbrev pub state_at : Due → Upload → State
state_at (Tag at) u = Open (Tag at) (ends_of u) (tally_of u)
state_at (Length at t) u = Open (Length at t) (ends_of u) (tally_of u)
state_at (One at t) u = Open (One at t) (ends_of u) (tally_of u)
state_at (First at t) u = Open (First at t) (ends_of u) (tally_of u)
state_at (Second at t h) u = Open (Second at t h) (ends_of u) (tally_of u)
state_at (Body at e) u = Open (Body at e) (ends_of u) (tally_of u)
state_at Nothing u = Done (tally_of u)
state_at (Due.Refused m p after) u = Failed (fault m p)

abbrev pub state_of : Upload → State
state_of u = state_at u.due u

-- a fault was found after k bytes
abbrev pub Since : ℕ → Due → Type 0
Since k (Tag at) = Unit {0}
Since k (Length at t) = Unit {0}
Since k (One at t) = Unit {0}
Since k (First at t) = Unit {0}
Since k (Second at t h) = Unit {0}
Since k (Body at e) = Unit {0}
Since k Nothing = Unit {0}
Since k (Due.Refused m p after) = after ≡ k

pub record Follows (n k : ℕ) (st : State) (u : Upload) : Type 0 where
  pub total : u.total ≡ n
  pub ends : length u.ends ≡ 20
  pub depth : u.depth ≤ 20
  pub state : state_of u ≡ st
  pub since : Since k u.due

-- the same number of bytes in other words
pub since_at : (n k j : ℕ) (st : State) (u : Upload) → k ≡ j → Follows n k st u → Follows n j st u
since_at n k j st u e f = rw e at f

pub ends_length : (ends : List ℕ) (k : ℕ) → length (ends_in ends k) ≡ k
unfolding ends_in
ends_length ends zero = refl
ends_length ends (suc k) = ap suc (ends_length ends k)

pub parent_top : (n : ℕ) (ends : List ℕ) (k : ℕ) → parent_end n ends k ≡ top n (ends_in ends k)
unfolding parent_end top ends_in
parent_top n ends zero = refl
parent_top n ends (suc k) = refl

-- one more is open
ends_set : (ends : List ℕ) (d x k : ℕ) → k ≤ d → ends_in (set ends d x) k ≡ ends_in ends k
unfolding ends_in end_at
ends_set ends d x zero h = refl
ends_set ends d x (suc k) h =
    rw (get_or-set_other ends d k x 0 (λ e. omega arith), ends_set ends d x k (omega arith))

ends_pushed : (ends : List ℕ) (d x : ℕ) → d < 20 → length ends ≡ 20 → ends_in (set ends d x) (d + 1) ≡ x ∷ ends_in ends d
unfolding ends_in end_at
ends_pushed ends d x h l =
    rw (add-one d, lt-ltb d 20 h, get_or-set_same ends d x 0 (omega arith), ends_set ends d x d (omega arith))

-- every element that ends at p is closed
closed_to_lem : (u : Upload) (p after k : ℕ) → length u.ends ≡ 20 → k ≤ 20
    → Follows u.total after (close u.total p (ends_in u.ends k) (tally_of u))
    (closed_to u p after (still_open u.ends k p))
unfolding close still_open closed_to ends_in
closed_to_lem u p after zero l h =
    cases (ltb p u.total)
    (λ e. rw e record { total = refl; ends = l; depth = omega arith; state = refl; since = refl })
    (λ e. rw e record { total = refl; ends = l; depth = omega arith; state = refl; since = tt })
closed_to_lem u p after (suc k) l h =
    cases (ltb p (end_at u.ends k))
    (λ e.
    rw (e, lt-ltb 0 (suc k) (omega arith))
    record { total = refl; ends = l; depth = h; state = refl; since = tt })
    (λ e. rw e (closed_to_lem u p after k l (omega arith)))

pub closed_follows : (u : Upload) (p after : ℕ) → length u.ends ≡ 20 → u.depth ≤ 20
    → Follows u.total after (close u.total p (ends_of u) (tally_of u)) (closed_at u p after)
unfolding closed_at
closed_follows u p after l h = closed_to_lem u p after u.depth l h

-- a fault comes first, anything else doesn't
unless_refused : (x : Due) (v : Upload) (y : State) → is_refused x ≡ true → unless (state_at x v) y ≡ state_at x v
unless_refused (Tag at) v y e = never e
unless_refused (Length at t) v y e = never e
unless_refused (One at t) v y e = never e
unless_refused (First at t) v y e = never e
unless_refused (Second at t h) v y e = never e
unless_refused (Body at f) v y e = never e
unless_refused Nothing v y e = never e
unless_refused (Due.Refused m p after) v y e = refl

unless_open : (x : Due) (v : Upload) (y : State) → is_refused x ≡ false → unless (state_at x v) y ≡ y
unless_open (Tag at) v y e = refl
unless_open (Length at t) v y e = refl
unless_open (One at t) v y e = refl
unless_open (First at t) v y e = refl
unless_open (Second at t h) v y e = refl
unless_open (Body at f) v y e = refl
unless_open Nothing v y e = refl
unless_open (Due.Refused m p after) v y e = never (sym e)

-- a body that isn't examined, with what follows it
body_before_lem : (u v : Upload) (start stop : ℕ) → length u.ends ≡ 20 → u.depth ≤ 20
    → Follows u.total start (state_of v) v
    → Follows u.total start
    (unless (state_of v) (if ltb start stop then Open (Body start stop) (ends_of u) (tally_of u) else state_of v))
    (body_before u start stop v)
unfolding body_before
body_before_lem u v start stop l h f =
    cases (is_refused v.due)
    (λ e. rw (e, unless_refused v.due v _ e) f)
    (λ e. rw (e, unless_open v.due v _ e)
    (cases (ltb start stop)
    (λ k. rw k record { total = refl; ends = l; depth = h; state = refl; since = tt })
    (λ k. rw k f)))

body_follows : (u : Upload) (start stop : ℕ) → length u.ends ≡ 20 → u.depth ≤ 20
    → Follows u.total start (body u.total (ends_of u) (tally_of u) start stop) (body_from u start stop)
unfolding body body_from
body_follows u start stop l h =
    let f = closed_follows u stop start l h in
    let v = closed_at u stop start in
    rw (sym f.state)
    (body_before_lem u v start stop l h
    record { total = f.total; ends = f.ends; depth = f.depth; state = refl; since = f.since })

-- the header of an element is complete
tally_is : (u : Upload) → u.elements < 65_535
    → tallied (suc (length (ends_of u))) (tally_of u) ≡ tally_of (counted u (u.depth + 1))
unfolding tallied one_more
tally_is u h =
    let z : suc (length (ends_of u)) ≡ u.depth + 1 = omega (arith, ends_length u.ends u.depth) in
    rw (lt-ltb u.elements 65_535 h, z)

pub entered_follows : (u : Upload) (at t start stop : ℕ) → length u.ends ≡ 20 → u.depth ≤ 20 → u.elements < 65_535
    → Follows u.total start (enter u.total (ends_of u) (tally_of u) at t start stop) (entered u at t start stop)
unfolding enter entered
entered_follows u at t start stop l h few =
    let v = counted u (u.depth + 1) in
    rw (tally_is u few, ends_length u.ends u.depth)
    (by_both (leb upload_levels u.depth)
    (λ e. record { total = refl; ends = l; depth = h; state = refl; since = refl })
    (λ e.
    let d : u.depth < 20 = leb-false upload_levels u.depth e in
    by_both (eqb (t / 32 % 2) 0)
    (λ k. body_follows v start stop l h)
    (λ k.
    rw (sym (ends_pushed u.ends u.depth stop d l))
    (closed_follows (pushed v stop) start start (length-set u.ends u.depth stop ∙ l) (omega arith)))))
  where
    by_both : {x y : State} {a b : Upload} (c : Bool) → (c ≡ true → Follows u.total start x a)
        → (c ≡ false → Follows u.total start y b)
        → Follows u.total start (if c then x else y) (if c then a else b)
    by_both true f g = f refl
    by_both false f g = g refl

-- a byte of a body that isn't examined
pub passed_follows : (u : Upload) (at end : ℕ) → length u.ends ≡ 20 → u.depth ≤ 20 → at < end
    → Follows u.total (at + 1) (pass u.total (ends_of u) (tally_of u) at end) (passed u at end 1)
unfolding pass passed
passed_follows u at end l h i =
    cases (ltb (at + 1) end)
    (λ k. rw k record { total = refl; ends = l; depth = h; state = refl; since = tt })
    (λ k.
    let z : end ≡ at + 1 = omega (arith, ltb-false (at + 1) end k) in
    rw k (since_at u.total end (at + 1) _ _ z (closed_follows u end end l h)))
