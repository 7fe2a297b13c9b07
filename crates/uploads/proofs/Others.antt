-- Completions that aren't refused with a fault f, whatever it is: where a tag is due, the first
-- byte of a length, the byte after 81, or the first after 82.
use mathlib.Core.Path.{◌≡◌, refl, sym, ap, ◌∙◌}
use mathlib.Core.Bool.{Bool, true, false}
use mathlib.Core.List.{List, [], ◌∷◌}
use Prim.Native.Nat.{ℕ, zero, suc, ◌+◌, ◌*◌, ◌≤◌, ◌<◌}
use native.Mathlib.Omega.{arith}
use lib.Dec.{eqb}
use lib.ListN.{length}
use borrow.Author.Tests.{le-leb, lt-leb, eqb-true, eqb-false}
use Rattle.der.specs.Span.{Bytes}
use Rattle.der.specs.Numbers.{too_many, overrun, tag_form, length_form}
use Rattle.der.specs.Element.{fault}
use Rattle.der.specs.declared.Fault.{Fault}
use Rattle.der.proofs.Choices.{either, by_lt, by_le}
use Rattle.header.specs.Numbers.{upload_levels}
use Rattle.header.specs.Header.{entering, on_tag, on_length, on_one, on_first, on_second}
use Rattle.header.specs.declared.Due.{Due}
use Rattle.header.specs.declared.Due.TheVariants.{Tag, Length, One, First, Second}
use Rattle.header.specs.declared.Move.{Move}
use Rattle.uploads.specs.Whole.{Tally}
use Rattle.uploads.proofs.Machine.{State, Failed, Open, top, apply, step, feed}
use Rattle.uploads.proofs.Fed.{fed_byte, fed_refused}
use Rattle.uploads.proofs.Kept.{Nested, top_within}
use Rattle.uploads.proofs.Zeros.{zeros, bytes_zeros, length_zeros, number_of, tag_zeros}
use Rattle.uploads.proofs.Zeros.{NotThree, refused_not, entering_not}

-- k bytes
pub record Portion (k : ℕ) : Type 0 where
  pub rest : List ℕ
  pub bytes : Bytes rest
  pub size : length rest ≡ k

abbrev pub none_left : Portion 0
none_left = record { rest = []; bytes = tt; size = refl }

abbrev pub all_zero : (k : ℕ) → Portion k
all_zero k = record { rest = zeros k; bytes = bytes_zeros k; size = length_zeros k }

-- a byte in front
abbrev pub led : (k b : ℕ) → b < 256 → Portion k → Portion (suc k)
led k b h p = record { rest = b ∷ p.rest; bytes = (h, p.bytes); size = ap suc p.size }

-- a completion of k bytes that isn't refused with f
pub record Other (n k : ℕ) (st : State) (f : Fault) : Type 0 where
  pub rest : List ℕ
  pub bytes : Bytes rest
  pub size : length rest ≡ k
  pub other : feed n st rest ≡ Failed f → ⊥

abbrev pub by : (n k : ℕ) (st : State) (f : Fault) (p : Portion k)
    → (feed n st p.rest ≡ Failed f → ⊥) → Other n k st f
by n k st f p h = record { rest = p.rest; bytes = p.bytes; size = p.size; other = h }

-- a proof by cases of an equality
pub equal_or : {A : Type 0} (a b : ℕ) → (a ≡ b → A) → ((a ≡ b → ⊥) → A) → A
equal_or {A} a b f g = go (eqb a b) refl
  where
    go : (t : Bool) → eqb a b ≡ t → A
    go true e = f (eqb-true a b e)
    go false e = g (eqb-false a b e)

-- two completions that differ in something: not both end in f
differ : (n k : ℕ) (st : State) (f : Fault) (d : State → ℕ) (x : ℕ) (p q : Portion k)
    → d (feed n st p.rest) ≡ x → (d (feed n st q.rest) ≡ x → ⊥) → Other n k st f
differ n k st f d x p q a b =
    equal_or (d (Failed f)) x
    (λ h. by n k st f q (λ e. b (ap d e ∙ h)))
    (λ h. by n k st f p (λ e. h (sym (ap d e) ∙ a)))

-- one that ends in a fault with the number m, and another that doesn't
pub differ_number : (n k : ℕ) (st : State) (f : Fault) (m at : ℕ) (p q : Portion k)
    → feed n st p.rest ≡ Failed (fault m at) → (number_of (feed n st q.rest) ≡ m → ⊥) → Other n k st f
unfolding number_of
differ_number n k st f m at p q a b = differ n k st f number_of m p q (ap number_of a) b

-- a completion after one byte more
pub step_other : (n k : ℕ) (st after : State) (f : Fault) (b : ℕ) → b < 256 → step n st b ≡ after
    → Other n k after f → Other n (suc k) st f
step_other n k st after f b h e o =
    record {
      rest = b ∷ o.rest;
      bytes = (h, o.bytes);
      size = ap suc o.size;
      other = λ p. o.other (sym (fed_byte n st after b o.rest e) ∙ p);
    }

-- refused with another number than m
pub other_number : (st : State) (m l at : ℕ) → st ≡ Failed (fault l at) → (l ≡ m → ⊥) → number_of st ≡ m → ⊥
unfolding number_of
other_number st m l at e h p = h (sym (ap number_of e) ∙ p)

-- where a tag is due: 00 against 04, or 04 80 where the parent has a second byte
module _ (n : ℕ) (ends : List ℕ) (tl : Tally) (at : ℕ) where
  tag_last : top n ends ≤ at + 1 → step n (Open (Tag at) ends tl) 4 ≡ Failed (fault overrun at)
  unfolding step on_tag
  tag_last h = rw (le-leb (top n ends) (at + 1) h)

  tag_first : at + 1 < top n ends → step n (Open (Tag at) ends tl) 4 ≡ Open (Length at 4) ends tl
  unfolding step on_tag
  tag_first h = rw (lt-leb (top n ends) (at + 1) h)

  length_bad : (t : ℕ) → step n (Open (Length at t) ends tl) 128 ≡ Failed (fault length_form at)
  unfolding step on_length
  length_bad t = refl

  module _ (f : Fault) where
    abbrev tag : State
    tag = Open (Tag at) ends tl

    tag_two : (k : ℕ) → at + 1 < top n ends → Other n (suc (suc k)) tag f
    tag_two k h =
        let q = led (suc k) 4 (omega arith) (led k 128 (omega arith) (all_zero k)) in
        let u = fed_byte n tag (Open (Length at 4) ends tl) 4 (128 ∷ zeros k) (tag_first h) in
        let v = fed_refused n (Open (Length at 4) ends tl) (fault length_form at) 128 (zeros k) (length_bad 4) in
        differ_number n (suc (suc k)) tag f tag_form at (all_zero (suc (suc k))) q (tag_zeros n ends tl at (suc k))
        (other_number (feed n tag q.rest) tag_form length_form at (u ∙ v) (λ z. absurd (omega arith)))

    tag_one : (k : ℕ) → top n ends ≤ at + 1 → Other n (suc k) tag f
    tag_one k h =
        let q = led k 4 (omega arith) (all_zero k) in
        let v = fed_refused n tag (fault overrun at) 4 (zeros k) (tag_last h) in
        differ_number n (suc k) tag f tag_form at (all_zero (suc k)) q (tag_zeros n ends tl at k)
        (other_number (feed n tag q.rest) tag_form overrun at v (λ z. absurd (omega arith)))

    pub tag_unsure : (k : ℕ) → at < top n ends → top n ends ≤ n → at + k ≡ n → Other n k tag f
    tag_unsure zero h m e = absurd (omega arith)
    tag_unsure (suc zero) h m e = tag_one zero (omega arith)
    tag_unsure (suc (suc k)) h m e = either (at + 1) (top n ends) (tag_two k) (tag_one (suc k))

-- in a header: one completion is refused with 3, another isn't
module _ (n : ℕ) (ends : List ℕ) (tl : Tally) (at t : ℕ) where
  abbrev pub entered : Due → ℕ → ℕ → State
  entered x start size = apply n x ends tl (entering at t start size (top n ends))

  length_zero : step n (Open (Length at t) ends tl) 0 ≡ entered (Length at t) (at + 2) 0
  unfolding step on_length
  length_zero = refl

  one_bad : step n (Open (One at t) ends tl) 0 ≡ Failed (fault length_form at)
  unfolding step on_one
  one_bad = refl

  one_good : step n (Open (One at t) ends tl) 128 ≡ entered (One at t) (at + 3) 128
  unfolding step on_one
  one_good = refl

  first_bad : step n (Open (First at t) ends tl) 0 ≡ Failed (fault length_form at)
  unfolding step on_first
  first_bad = refl

  pub second_byte : (h b : ℕ)
      → step n (Open (Second at t h) ends tl) b ≡ entered (Second at t h) (at + 4) (h * 256 + b)
  unfolding step on_second
  second_byte h b = refl

  module _ (nest : Nested n ends) where
    -- zeros where the second byte of a length of two is due
    second_not : (k h : ℕ) → at + 4 ≤ top n ends → at + 4 + k ≡ n
        → NotThree n (suc k) (Open (Second at t h) ends tl)
    unfolding zeros
    second_not k h l e p =
        let x = Second at t h in
        let y = entered x (at + 4) (h * 256 + 0) in
        let u : feed n (Open x ends tl) (0 ∷ zeros k) ≡ feed n y (zeros k) =
        fed_byte n (Open x ends tl) y 0 (zeros k) (second_byte h 0) in
        entering_not n ends tl at t (at + 4) k nest e x (h * 256 + 0) l (sym (ap number_of u) ∙ p)

    -- 01 where the first is due, then zeros
    first_good : (k : ℕ) → at + 3 < top n ends → at + 2 + suc (suc k) ≡ n
        → NotThree n (suc k) (step n (Open (First at t) ends tl) 1)
    unfolding step on_first
    first_good k h e =
        let x = First at t in
        let Then : Move → Type 0 = λ m. NotThree n (suc k) (apply n x ends tl m) in
        let after = second_not k 1 (omega arith) (omega arith) in
        by_lt Then _ _ (top n ends) (at + 4 + 1 * 256)
        (λ l. refused_not n (suc k) overrun at (λ z. absurd (omega arith)))
        (λ l. by_le Then _ _ upload_levels (length ends)
        (λ m. by_le Then _ _ (at + 4 + 1 * 256 + 255) (top n ends)
        (λ j. refused_not n (suc k) too_many at (λ z. absurd (omega arith)))
        (λ j. after))
        (λ m. after))

    module _ (f : Fault) where
      -- the byte b is refused with 3; the byte c, and then zeros, aren't
      three : (k : ℕ) (x : Due) (b c : ℕ) → b < 256 → c < 256
          → step n (Open x ends tl) b ≡ Failed (fault length_form at) → NotThree n k (step n (Open x ends tl) c)
          → Other n (suc k) (Open x ends tl) f
      three k x b c h l bad good =
          let st = Open x ends tl in
          let p = led k b h (all_zero k) in
          let q = led k c l (all_zero k) in
          differ_number n (suc k) st f length_form at p q (fed_refused n st (fault length_form at) b (zeros k) bad)
          (λ z. good (sym (ap number_of (fed_byte n st (step n st c) c (zeros k) refl)) ∙ z))

      pub length_unsure : (k : ℕ) → at + 1 < top n ends → at + 1 + k ≡ n → Other n k (Open (Length at t) ends tl) f
      length_unsure zero h e = let w = top_within n ends nest in absurd (omega arith)
      length_unsure (suc k) h e =
          let x = Length at t in
          three k x 128 0 (omega arith) (omega arith) (length_bad n ends tl at t)
          (rw length_zero (entering_not n ends tl at t (at + 2) k nest (omega arith) x 0 (omega arith)))

      pub one_unsure : (k : ℕ) → at + 2 < top n ends → at + 2 + k ≡ n → Other n k (Open (One at t) ends tl) f
      one_unsure zero h e = let w = top_within n ends nest in absurd (omega arith)
      one_unsure (suc k) h e =
          let x = One at t in
          three k x 0 128 (omega arith) (omega arith) one_bad
          (rw one_good (entering_not n ends tl at t (at + 3) k nest (omega arith) x 128 (omega arith)))

      pub first_unsure : (k : ℕ) → at + 3 < top n ends → at + 2 + k ≡ n → Other n k (Open (First at t) ends tl) f
      first_unsure zero h e = let w = top_within n ends nest in absurd (omega arith)
      first_unsure (suc zero) h e = let w = top_within n ends nest in absurd (omega arith)
      first_unsure (suc (suc k)) h e =
          three (suc k) (First at t) 0 1 (omega arith) (omega arith) first_bad (first_good k h e)
