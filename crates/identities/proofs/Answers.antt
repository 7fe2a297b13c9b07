-- What the calls over a table answer: the identity row of a bag, and the rows of all bags in a
-- caller's rows.
use mathlib.Core.Logic.{◌↔◌}
use mathlib.Core.Path.{◌≡◌, refl, sym, ◌∙◌, ap}
use mathlib.Core.List.{List, ◌++◌}
use Prim.Native.Nat.{ℕ, ◌+◌, ◌-◌, ◌≤◌, ◌<◌, min}
use native.Mathlib.Omega.{arith}
use lib.ListN.{length, get_or, drop, length-append, length-drop, get_or-append}
use lib.Seq.{get_or-append-add, get_or-drop}
use Rattle.der.specs.Element.{fault, on_result}
use Rattle.der.specs.Span.{Bytes}
use Rattle.der.specs.declared.Fault.{Fault}
use Rattle.der.proofs.Choices.{by_lt}
use Rattle.pkcs12.specs.Numbers.{bag_rows, no_row}
use Rattle.buffer.specs.Numbers.{short_buffer, not_sound}
use Rattle.pkcs12.specs.Sound.{Sound}
use Rattle.pkcs12.specs.declared.table.Table.{Table}
use Rattle.std.specs.Prelude.{Err, Ok, Result}
use Rattle.attributes.specs.Reader.{opening_of, refused_by}
use Rattle.attributes.specs.declared.Position.{Position}
use Rattle.pairing.specs.declared.IdentityRow.{IdentityRow}
use Rattle.attributes.proofs.Shown.{by_file}
use Rattle.identities.specs.Identities.{identity_of, identity_at, identities_of}
use Rattle.identities.specs.Filling.{Filled, fill_of}
use Rattle.identities.proofs.Fills.{first_length, first_at_lem, by_filling, all_rows}

-- ---- the identity row of a bag

-- an answer by number: a refusal is one more than its number
abbrev identity_code : Result IdentityRow Fault → ℕ
identity_code (Ok r) = 0
identity_code (Err f) = 1 + f.number

module _ (t : Table) (s : List ℕ) (n : ℕ) (b : Bytes s) where
  by_identity : (P : Result IdentityRow Fault → Type 0)
      → ((Sound t s → ⊥) → P (Err (fault not_sound 0)))
      → (Sound t s → t.bag_count ≤ n → P (Err (fault no_row 0)))
      → (Sound t s → n < t.bag_count → P (Ok (identity_of t s n)))
      → P (identity_at t s n)
  unfolding identity_at opening_of refused_by
  by_identity P p q r =
      by_file (λ (u : Position). P (on_result u.item Err (λ x. Ok (identity_of t s n)))) t s b _ _ p
      (λ o f. by_lt (λ (u : Position). P (on_result u.item Err (λ x. Ok (identity_of t s n)))) _ _ n
      t.bag_count (r o) (q o))

  pub identity_iff : (r : IdentityRow)
      → identity_at t s n ≡ Ok r ↔ (Sound t s × (n < t.bag_count) × (identity_of t s n ≡ r))
  identity_iff r = (
    by_identity (λ x. x ≡ Ok r → Sound t s × (n < t.bag_count) × (identity_of t s n ≡ r))
        (λ h e. absurd (omega (arith, ap identity_code e)))
        (λ o h e. absurd (omega (arith, ap identity_code e))) (λ o h e. (o, h, cc)),
    λ p. by_identity (λ x. x ≡ Ok r) (λ h. absurd (h p.0))
        (λ o h. absurd (omega (arith, p.1))) (λ o h. rw p.2),
  )

  pub identity_11 : identity_at t s n ≡ Err (fault not_sound 0) ↔ (Sound t s → ⊥)
  identity_11 = (
    by_identity (λ x. x ≡ Err (fault not_sound 0) → Sound t s → ⊥) (λ h e. h)
        (λ o h e. absurd (omega (arith, ap identity_code e)))
        (λ o h e. absurd (omega (arith, ap identity_code e))),
    λ k. by_identity (λ x. x ≡ Err (fault not_sound 0)) (λ h. refl)
        (λ o h. absurd (k o)) (λ o h. absurd (k o)),
  )

  pub identity_12 : identity_at t s n ≡ Err (fault no_row 0) ↔ (Sound t s × (t.bag_count ≤ n))
  identity_12 = (
    by_identity (λ x. x ≡ Err (fault no_row 0) → Sound t s × (t.bag_count ≤ n))
        (λ h e. absurd (omega (arith, ap identity_code e)))
        (λ o h e. (o, h)) (λ o h e. absurd (omega (arith, ap identity_code e))),
    λ k. by_identity (λ x. x ≡ Err (fault no_row 0)) (λ h. absurd (h k.0)) (λ o h. refl)
        (λ o h. absurd (omega (arith, k.1))),
  )

-- ---- filling a caller's rows

-- an answer by number: a length is 0, a refusal one more than its number
abbrev code : Result ℕ Fault → ℕ
code (Ok n) = 0
code (Err f) = 1 + f.number

module _ (t : Table) (s : List ℕ) (out : List IdentityRow) where
  module _ (b : Bytes s) where
    by_filled : (P : Result ℕ Fault → Type 0)
        → ((Sound t s → ⊥) → P (Err (fault not_sound 0)))
        → (Sound t s → length out < t.bag_count → P (Err (fault short_buffer 0)))
        → (Sound t s → t.bag_count ≤ length out → P (Ok t.bag_count))
        → P (fill_of t s out).answer
    unfolding fill_of
    by_filled P p q r =
        by_file (λ (u : Filled). P u.answer) t s b _ _ p
        (λ o f. by_lt (λ (u : Filled). P u.answer) _ _ (length out) t.bag_count (q o)
        (λ h. rw (all_rows t s out o.bag_count) (r o h)))

    pub filled_iff : (n : ℕ)
        → (fill_of t s out).answer ≡ Ok n ↔ (Sound t s × (t.bag_count ≤ length out) × (t.bag_count ≡ n))
    filled_iff n = (
      by_filled (λ x. x ≡ Ok n → Sound t s × (t.bag_count ≤ length out) × (t.bag_count ≡ n))
          (λ h e. absurd (omega (arith, ap code e)))
          (λ o h e. absurd (omega (arith, ap code e))) (λ o h e. (o, h, cc)),
      λ p. by_filled (λ x. x ≡ Ok n) (λ h. absurd (h p.0))
          (λ o h. absurd (omega (arith, p.1))) (λ o h. rw p.2),
    )

    pub filled_11 : (fill_of t s out).answer ≡ Err (fault not_sound 0) ↔ (Sound t s → ⊥)
    filled_11 = (
      by_filled (λ x. x ≡ Err (fault not_sound 0) → Sound t s → ⊥) (λ h e. h)
          (λ o h e. absurd (omega (arith, ap code e)))
          (λ o h e. absurd (omega (arith, ap code e))),
      λ k. by_filled (λ x. x ≡ Err (fault not_sound 0)) (λ h. refl)
          (λ o h. absurd (k o)) (λ o h. absurd (k o)),
    )

    pub filled_10 : (fill_of t s out).answer ≡ Err (fault short_buffer 0) ↔ (Sound t s × (length out < t.bag_count))
    filled_10 = (
      by_filled (λ x. x ≡ Err (fault short_buffer 0) → Sound t s × (length out < t.bag_count)) (λ h e. absurd (omega (arith, ap code e)))
          (λ o h e. (o, h)) (λ o h e. absurd (omega (arith, ap code e))),
      λ k. by_filled (λ x. x ≡ Err (fault short_buffer 0)) (λ h. absurd (h k.0)) (λ o h. refl) (λ o h. absurd (omega (arith, k.1))),
    )

  pub refused_out : (f : Fault) → (fill_of t s out).answer ≡ Err f → (fill_of t s out).rows ≡ out
  refused_out f =
      by_filling t s out (λ q. q.answer ≡ Err f → q.rows ≡ out) (λ n e. refl)
      (λ h k e. let z : ◌≡◌ {A = ℕ} 0 1 = cc in absurd (omega arith))

  pub filled_row : (n : ℕ) → (fill_of t s out).answer ≡ Ok n → (i : ℕ) (d : IdentityRow) → i < n
      → get_or (fill_of t s out).rows i d ≡ identity_of t s i
  filled_row n =
      by_filling t s out
      (λ q. q.answer ≡ Ok n → (i : ℕ) (d : IdentityRow) → i < n → get_or q.rows i d ≡ identity_of t s i)
      (λ m e. let z : ◌≡◌ {A = ℕ} 0 1 = cc in absurd (omega arith))
      (λ h k e i d l.
      let z : length (identities_of t s) ≡ n = cc in
      get_or-append (identities_of t s) _ d i (omega arith)
      ∙ first_at_lem (identity_of t s) (min t.bag_count bag_rows) i d
      (omega (arith, first_length (identity_of t s) (min t.bag_count bag_rows))))

  -- what is behind the rows in front is as before
  behind : (xs : List IdentityRow) (i : ℕ) (d : IdentityRow) → length xs ≤ i
      → get_or (xs ++ drop (length xs) out) i d ≡ get_or out i d
  behind xs i d h =
      let e : i ≡ length xs + (i - length xs) = omega arith in
      ap (λ (j : ℕ). get_or (xs ++ drop (length xs) out) j d) e
      ∙ get_or-append-add xs (drop (length xs) out) (i - length xs) d
      ∙ get_or-drop (length xs) out (i - length xs) d
      ∙ ap (λ (j : ℕ). get_or out j d) (sym e)

  pub filled_behind : (n : ℕ) → (fill_of t s out).answer ≡ Ok n → (i : ℕ) (d : IdentityRow) → n ≤ i
      → get_or (fill_of t s out).rows i d ≡ get_or out i d
  filled_behind n =
      by_filling t s out
      (λ q. q.answer ≡ Ok n → (i : ℕ) (d : IdentityRow) → n ≤ i → get_or q.rows i d ≡ get_or out i d)
      (λ m e. let z : ◌≡◌ {A = ℕ} 0 1 = cc in absurd (omega arith))
      (λ h k e i d l.
      let z : length (identities_of t s) ≡ n = cc in
      behind (identities_of t s) i d (omega arith))

  pub filled_length : length (fill_of t s out).rows ≡ length out
  filled_length =
      by_filling t s out (λ q. length q.rows ≡ length out) (λ m. refl)
      (λ h k.
      length-append (identities_of t s) (drop (length (identities_of t s)) out)
      ∙ omega (arith, all_rows t s out k, length-drop (length (identities_of t s)) out))
