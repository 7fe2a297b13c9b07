-- Where a byte goes on with no line, what `ended` judges is what may follow there.
use mathlib.Core.Path.{◌≡◌, refl, sym, ap, ◌∙◌}
use mathlib.Core.List.{List, [], ◌∷◌, ◌++◌}
use mathlib.Core.Logic.{inl, inr}
use Prim.Native.Nat.{ℕ, suc, ◌%◌, ◌≤◌, ◌<◌}
use native.Mathlib.Omega.{arith}
use lib.ListN.{length}
use borrow.Author.Tests.{eq-eqb}
use Rattle.der.proofs.Choices.{by_eq}
use Rattle.base64_chars.specs.Alphabet.{value_of}
use Rattle.base64_chars.specs.Encoded.{pad}
use Rattle.base64_chars.proofs.Alphabet.{pad_none}
use Rattle.base64_chars.specs.Coded.{Coded}
use Rattle.base64_chars.proofs.Encoded.{letter_count}
use Rattle.pem.specs.Wrap.{newline, end, fill}
use Rattle.pem.specs.Judged.{ending, bytes_of, closed_by, ended, break_at}
use Rattle.pem.specs.declared.Break.{Break}
use Rattle.std.specs.Prelude.{Err, Result}
use Rattle.wrapping.proofs.Account.{Account, Only, account_wrong, account_cut, account_front, account_closed}
use Rattle.wrapping.proofs.Rest.{due, Rest, due_more, due_none, due_first, some_more, rest_begins}

-- the first byte goes on with no line of k characters
abbrev pub Stops : ℕ → List ℕ → Type 0
Stops k [] = Unit {0}
Stops k (b ∷ t) = (k < 64 → 64 ≤ value_of b) × (k ≡ 64 → b ≡ newline → ⊥)

-- what completes four characters without a letter: nothing, two bytes of padding, or one
data Closes (q v : ℕ) (cs : List ℕ) : Type 0 where
  none : q ≡ 0 → cs ≡ [] → Closes q v cs
  two : q ≡ 2 → v % 16 ≡ 0 → cs ≡ pad ∷ pad ∷ [] → Closes q v cs
  one : q ≡ 3 → v % 4 ≡ 0 → cs ≡ pad ∷ [] → Closes q v cs

closes_coded : (q v : ℕ) (cs : List ℕ) → Closes q v cs → Coded q v cs
closes_coded q v cs (none h e) = rw e h
closes_coded q v cs (two h u e) =
    rw e (inr (inl (record { column = h; unused = u; first = refl; behind = refl })))
closes_coded q v cs (one h u e) =
    rw e (inr (inr (record { column = h; unused = u; first = refl; behind = refl })))

closes_count : (q v : ℕ) (cs : List ℕ) → Closes q v cs → letter_count cs ≡ 0
unfolding letter_count
closes_count q v cs (none h e) = rw e
closes_count q v cs (two h u e) = rw e (rw pad_none)
closes_count q v cs (one h u e) = rw e (rw pad_none)

closes_one : (q v : ℕ) (cs ds : List ℕ) → Closes q v cs → Closes q v ds → cs ≡ ds
closes_one q v cs ds (none h e) (none i f) = cc
closes_one q v cs ds (none h e) (two i w f) = absurd (omega arith)
closes_one q v cs ds (none h e) (one i w f) = absurd (omega arith)
closes_one q v cs ds (two h u e) (none i f) = absurd (omega arith)
closes_one q v cs ds (two h u e) (two i w f) = cc
closes_one q v cs ds (two h u e) (one i w f) = absurd (omega arith)
closes_one q v cs ds (one h u e) (none i f) = absurd (omega arith)
closes_one q v cs ds (one h u e) (two i w f) = absurd (omega arith)
closes_one q v cs ds (one h u e) (one i w f) = cc

-- a letter would go on with the line
rest_letter : (k c : ℕ) (cs u : List ℕ) → k < 64 → Stops k u → u ≡ due k (c ∷ cs) ++ end → value_of c < 64 → ⊥
rest_letter k c cs [] h s e l =
    let f : [] ≡ c ∷ (due (suc k) cs ++ end) = rw (due_more k c cs h) at e in
    omega (arith, ap length f)
rest_letter k c cs (b ∷ u) h s e l =
    let z : value_of b ≡ value_of c = ap value_of (due_first k c cs b u h e) in
    omega (arith, s.0 h)

-- so no letter follows
rest_closes : (n k v m : ℕ) (u : List ℕ) → k < 64 → Stops k u → (r : Rest n k v m u) → Closes (k % 4) v r.chars
rest_closes n k v m u h s r = go r.chars r.coded r.is
  where
    go : (cs : List ℕ) → Coded (k % 4) v cs → u ≡ due k cs ++ end → Closes (k % 4) v cs
    go [] c e = none c refl
    go (x ∷ cs) (inl c) e = absurd (rest_letter k x cs u h s e c.letter)
    go (x ∷ cs) (inr (inl c)) e = two c.column c.unused (cc (c.first, c.behind))
    go (x ∷ cs) (inr (inr c)) e = one c.column c.unused (cc (c.first, c.behind))

-- a full line has to end
rest_full : (n k v m : ℕ) (u : List ℕ) → k ≡ 64 → Stops k u → Rest n k v m u → ⊥
unfolding due
rest_full n k v m [] h s r =
    let e : [] ≡ newline ∷ (fill 64 r.chars ++ end) = rw (eq-eqb k 64 h) at r.is in
    omega (arith, ap length e)
rest_full n k v m (b ∷ u) h s r =
    let e : b ∷ u ≡ newline ∷ (fill 64 r.chars ++ end) = rw (eq-eqb k 64 h) at r.is in
    s.1 h (cc)

-- what a line of k characters ends with, and the last line
start_due : (k : ℕ) → k ≡ 0 → due k [] ++ end ≡ end
unfolding due fill
start_due k h = rw h

none_due : (k : ℕ) → 1 ≤ k → k ≤ 64 → due k [] ++ end ≡ newline ∷ end
none_due k h i = rw (due_none k h i)

one_due : (k : ℕ) → k < 64 → due k (pad ∷ []) ++ end ≡ pad ∷ newline ∷ end
one_due k h = rw (due_more k pad [] h) (ap (λ t. pad ∷ t) (none_due (suc k) (omega arith) h))

two_due : (k : ℕ) → k < 63 → due k (pad ∷ pad ∷ []) ++ end ≡ pad ∷ pad ∷ newline ∷ end
two_due k h = rw (due_more k pad (pad ∷ []) (omega arith)) (ap (λ t. pad ∷ t) (one_due (suc k) (omega arith)))

-- nothing may follow
never_ends : (n k v at : ℕ) (t : List ℕ) → Stops k t → ((m : ℕ) (u : List ℕ) → Stops k u → Rest n k v m u → ⊥)
    → Account (Rest n k v) t at (Err (break_at at))
never_ends n k v at [] s f = account_cut (Rest n k v) at (rest_begins n k v) (λ m. f m [] s)
never_ends n k v at (b ∷ t) s f = account_wrong (Rest n k v) b t at (rest_begins n k v) (λ m u. f m (b ∷ u) s)

module _ (n k v at : ℕ) (t : List ℕ) (s : Stops k t) where
  ends_never : k < 64 → (k % 4 ≡ 0 → n ≡ 0) → (k % 4 ≡ 2 → v % 16 ≡ 0 → ⊥) → (k % 4 ≡ 3 → v % 4 ≡ 0 → ⊥)
      → Account (Rest n k v) t at (Err (break_at at))
  ends_never h f g i = never_ends n k v at t s (λ m u x r. go r.chars (rest_closes n k v m u h x r) r.some)
    where
      go : (cs : List ℕ) → Closes (k % 4) v cs → (n ≡ 0 → cs ≡ [] → ⊥) → ⊥
      go cs (none q e) y = y (f q) e
      go cs (two q u e) y = g q u
      go cs (one q u e) y = i q u

  -- a word has to follow
  ends_with : (cs w : List ℕ) → k < 64 → Closes (k % 4) v cs → (n ≡ 0 → cs ≡ [] → ⊥) → due k cs ++ end ≡ w
      → Account (Rest n k v) t at (closed_by w n at t)
  ends_with cs w h c y f =
      account_front (Rest n k v) (Only (bytes_of n) w) (Stops k) (λ b u x i. i) t at s (rest_begins n k v)
      (λ m u i r.
      let d = rest_closes n k v m u h i r in (
        r.is ∙ ap (λ l. due k l ++ end) (closes_one (k % 4) v r.chars cs d c) ∙ f,
        omega (arith, r.number, closes_count (k % 4) v r.chars d),
      ))
      (λ m u i a.
      record {
        chars = cs;
        coded = closes_coded (k % 4) v cs c;
        some = y;
        is = a.0 ∙ sym f;
        number = omega (arith, a.1, closes_count (k % 4) v cs c);
      })
      (account_closed w n at t)

  pub account_ended : k ≤ 64 → k ≤ n → Account (Rest n k v) t at (ended n k v at t)
  unfolding ended ending
  account_ended h i =
      by_eq P (Err (break_at at)) _ k 64 (λ e. never_ends n k v at t s (λ m u x r. rest_full n k v m u e x r)) (λ e.
      by_eq P _ _ k 0
      (λ z.
      by_eq P (Err (break_at at)) _ n 0
      (λ y. ends_never (omega arith) (λ q. y) (omega arith) (omega arith))
      (λ y. ends_with [] _ (omega arith) (none (omega arith) refl) (λ q. absurd (y q)) (start_due k z)))
      (λ z.
      by_eq P (Err (break_at at)) _ (k % 4) 1
      (λ y. ends_never (omega arith) (omega arith) (omega arith) (omega arith)) (λ x.
      by_eq P _ _ (k % 4) 2
      (λ q.
      by_eq P _ (Err (break_at at)) (v % 16) 0
      (λ u. ends_with (pad ∷ pad ∷ []) _ (omega arith) (two q u refl) (λ y. some_more _ _) (two_due k (omega arith)))
      (λ u. ends_never (omega arith) (omega arith) (omega arith) (omega arith)))
      (λ q.
      by_eq P _ _ (k % 4) 3
      (λ l.
      by_eq P _ (Err (break_at at)) (v % 4) 0
      (λ u. ends_with (pad ∷ []) _ (omega arith) (one l u refl) (λ y. some_more _ _) (one_due k (omega arith)))
      (λ u. ends_never (omega arith) (omega arith) (omega arith) (omega arith)))
      (λ l.
      ends_with [] _ (omega arith) (none (omega arith) refl) (λ y. absurd (omega arith))
      (none_due k (omega arith) (omega arith)))))))
    where
      P : Result ℕ Break → Type 0
      P j = Account (Rest n k v) t at j
