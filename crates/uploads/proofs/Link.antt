-- The check byte by byte returns the answer of the check of the whole.
use mathlib.Core.Path.{◌≡◌, refl, ◌∙◌}
use mathlib.Core.List.{List, [], ◌∷◌}
use Prim.Native.Nat.{ℕ, zero, suc, ◌+◌, ◌-◌, ◌/◌, ◌%◌, ◌≤◌, ◌<◌}
use native.Mathlib.Omega.{arith}
use lib.Dec.{ltb, eqb}
use lib.ListN.{length, drop, drop_of_length-le}
use borrow.Author.Tests.{lt-ltb, le-ltb, le-leb, lt-leb, ltb-false, eqb-true, eqb-false}
use Rattle.std.specs.Prelude.{if◌then◌else◌}
use Rattle.der.specs.Numbers.{missing, left_over, too_many}
use Rattle.der.specs.Element.{cursor, fault, element_at, on_element}
use Rattle.der.specs.Many.{many}
use Rattle.der.specs.Span.{Bytes}
use Rattle.der.specs.declared.Fault.{Fault}
use Rattle.der.specs.declared.Cursor.{Cursor}
use Rattle.der.specs.Element.{element}
use Rattle.der.specs.declared.Element.{Element}
use Rattle.std.specs.Prelude.{Err, Ok, Result}
use Rattle.der.proofs.Placed.{left_none, OfElement, element_of_lem}
use Rattle.der.proofs.Many.{many_holds}
use Rattle.buffer.specs.Numbers.{file_bytes, too_long}
use Rattle.header.specs.Numbers.{upload_levels}
use Rattle.header.specs.declared.Due.TheVariants.{Tag}
use Rattle.uploads.specs.Whole.{Tally, no_element, tallied, Walked, Stopped, Reached, on_walked, go_on, walk_at}
use Rattle.uploads.specs.Whole.{Answer, Refused, Passed, whole}
use Rattle.uploads.proofs.Machine.{State, Failed, Open, Done, top, close, body, enter, feed, start}
use Rattle.uploads.proofs.Fed.{cases, fed_failed, leads, tag_fed, body_fed}

-- what holds of a fault and of what is found, or reached, holds of what is made of them
by_found : {A : Type 0} (P : A → Type 0) (Q : Result Element Fault → Type 0) (bad : Fault → A)
    (good : ℕ → Cursor → Cursor → A)
    → ((f : Fault) → Q (Err f) → P (bad f))
    → ((t : ℕ) (b n : Cursor) → Q (Ok (element t b n)) → P (good t b n))
    → (x : Result Element Fault) → Q x → P (on_element x bad good)
by_found P Q bad good f g (Err e) q = f e q
by_found P Q bad good f g (Ok x) q = g x.tag x.body x.next q

by_walked : {A : Type 0} (P : A → Type 0) (Q : Walked → Type 0) (bad : Fault → A) (good : Tally → ℕ → A)
    → ((f : Fault) → Q (Stopped f) → P (bad f)) → ((tl : Tally) (q : ℕ) → Q (Reached tl q) → P (good tl q))
    → (x : Walked) → Q x → P (on_walked x bad good)
by_walked P Q bad good f g (Stopped e) q = f e q
by_walked P Q bad good f g (Reached tl p) q = g tl p q

-- elements
module _ (n : ℕ) (s : List ℕ) (bytes : Bytes s) where
  -- The machine's last state is v. The check of an element leads to it: to a fault, or to the bytes
  -- that follow, fed from an offset within lo .. hi.
  abbrev Led : State → List ℕ → (lo hi : ℕ) → Walked → Type 0
  Led v ends lo hi (Stopped f) = v ≡ Failed f
  Led v ends lo hi (Reached tl q) = (v ≡ feed n (close n q ends tl) (drop q s)) × (lo ≤ q) × (q ≤ hi)

  wider : (v : State) (ends : List ℕ) (lo hi low high : ℕ) (x : Walked) → low ≤ lo → hi ≤ high
      → Led v ends lo hi x → Led v ends low high x
  wider v ends lo hi low high (Stopped f) h k p = p
  wider v ends lo hi low high (Reached tl q) h k p = (p.0, omega (arith, p.1), omega (arith, p.2))

  abbrev closing : List ℕ → ℕ → Tally → ℕ → State
  closing ends stop tl p = feed n (close n p (stop ∷ ends) tl) (drop p s)

  -- one after another, each as `check` says
  run_fed : (check : Tally → ℕ → Walked) (ends : List ℕ) (stop : ℕ)
      → ((tl : Tally) (p : ℕ) → p < stop
      → Led (feed n (Open (Tag p) (stop ∷ ends) tl) (drop p s)) (stop ∷ ends) (p + 1) stop (check tl p))
      → (fuel : ℕ) (tl : Tally) (p : ℕ) → stop ≤ p + fuel → p ≤ stop
      → Led (closing ends stop tl p) ends stop stop (many go_on Reached check fuel stop tl p)
  unfolding close
  run_fed check ends stop each =
      many_holds go_on Reached check stop (λ tl p. Led (closing ends stop tl p) ends stop stop) (λ tl p. p ≤ stop)
      (λ tl p h i. (rw (le-ltb p stop h), h, i))
      (λ tl p h i k go.
      by_walked (Led (closing ends stop tl p) ends stop stop)
      (Led (closing ends stop tl p) (stop ∷ ends) (p + 1) stop) Stopped k
      (λ f e. e)
      (λ up q e. rw e.0 (go up q (omega (arith, e.1)) e.2))
      (check tl p) (rw (lt-ltb p stop h) (each tl p h)))

  walk_fed : (l : ℕ) (ends : List ℕ) (tl : Tally) (p : ℕ) → l + length ends ≡ upload_levels → p < top n ends
      → top n ends ≤ length s
      → Led (feed n (Open (Tag p) ends tl) (drop p s)) ends (p + 1) (top n ends)
      (walk_at l (suc (length ends)) s (top n ends) tl p)
  unfolding walk_at enter top
  walk_fed zero ends tl p e h i =
      by_found (Led (feed n (Open (Tag p) ends tl) (drop p s)) ends (p + 1) (top n ends))
      (λ x. feed n (Open (Tag p) ends tl) (drop p s) ≡ leads n s ends tl p i x) _ _
      (λ f q. q)
      (λ t b m q.
      q ∙ rw (le-leb upload_levels (length ends) (omega arith)) (fed_failed n (fault too_many p) (drop b.at s)))
      (element_at s (cursor p (top n ends))) (tag_fed n s ends tl p i bytes h)
  walk_fed (suc l) ends tl p e h i =
      by_found (Led v ends (p + 1) (top n ends))
      (λ x. (v ≡ leads n s ends tl p i x) × OfElement s (cursor p (top n ends)) x) _ _
      (λ f q. q.0)
      (λ t b m q.
      let o = q.1.body in
      let inner = walk_at l (suc (suc (length ends))) s b.end in
      let all = many go_on Reached inner (b.end - b.at) b.end up b.at in
      let now : v ≡ feed n (if eqb (t / 32 % 2) 0 then body n ends up b.at b.end else
      close n b.at (b.end ∷ ends) up) (drop b.at s) =
      q.0 ∙ rw (lt-leb upload_levels (length ends) (omega arith)) in
      let past : p + 1 ≤ b.end = omega (arith, o.past, o.size) in
      let near : b.end ≤ length s = omega (arith, o.within) in
      cases (eqb (t / 32 % 2) 0)
      (λ k. rw k ((rw k at now) ∙ body_fed n s ends up b.at b.end o.size near, past, o.within))
      (λ k.
      let ran : Led v ends b.end b.end all =
      rw (rw k at now)
      (run_fed inner ends b.end
      (λ above at under. walk_fed l (b.end ∷ ends) above at (omega arith) under near)
      (b.end - b.at) up b.at (omega (arith, o.size)) o.size) in
      rw k (wider v ends b.end b.end (p + 1) (top n ends) all past o.within ran)))
      (element_at s (cursor p (top n ends))) (tag_fed n s ends tl p i bytes h, element_of_lem s (cursor p (top n ends)))
    where
      v : State
      v = feed n (Open (Tag p) ends tl) (drop p s)

      up : Tally
      up = tallied (suc (length ends)) tl

-- the whole

-- the machine's last state for an answer
unfoldable pub after : Answer → State
after (Refused f) = Failed f
after (Passed tl) = Done tl

past_it : (s : List ℕ) (tl : Tally) (q : ℕ) → q ≤ length s
    → feed (length s) (close (length s) q [] tl) (drop q s)
    ≡ after (if ltb q (length s) then Refused (fault left_over q) else Passed tl)
unfolding close after feed
past_it s tl q h =
    cases (ltb q (length s))
    (λ k. rw k (fed_failed (length s) (fault left_over q) (drop q s)))
    (λ k. rw (k, drop_of_length-le s (ltb-false q (length s) k)))

none_left : (s : List ℕ) → length s ≡ 0
    → walk_at upload_levels 1 s (length s) no_element 0 ≡ Stopped (fault missing 0)
unfolding walk_at element_at
none_left s e = rw (e, left_none s (cursor 0 0) (omega arith))

some_left : (m : ℕ) → (m ≡ 0 → ⊥) → 0 < m
some_left zero h = absurd (h refl)
some_left (suc m) h = omega arith

-- All bytes of an upload, fed to the machine, lead to the state for the answer of the whole.
pub whole_fed : (s : List ℕ) → Bytes s → feed (length s) (start (length s)) s ≡ after (whole s)
unfolding start whole after top
whole_fed s bytes =
    cases (ltb file_bytes (length s))
    (λ k. rw k (fed_failed (length s) (fault too_long 0) s))
    (λ k. cases (eqb (length s) 0)
    (λ j. rw (k, j) (fed_failed (length s) (fault missing 0) s ∙ rw (none_left s (eqb-true _ _ j))))
    (λ j. rw (k, j)
    (by_walked (λ a. feed (length s) (Open (Tag 0) [] no_element) s ≡ after a)
    (Led (length s) s bytes (feed (length s) (Open (Tag 0) [] no_element) s) [] 1 (length s)) _ _
    (λ f e. e)
    (λ tl q e. e.0 ∙ past_it s tl q e.2)
    (walk_at upload_levels 1 s (length s) no_element 0)
    (walk_fed (length s) s bytes upload_levels [] no_element 0 refl (some_left (length s) (eqb-false _ _ j))
    (omega arith)))))
