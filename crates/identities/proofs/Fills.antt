-- Rows made one by one: collected in an array, or stored at the front of a caller's rows; and what
-- filling comes to.
use mathlib.Core.Path.{◌≡◌, refl, sym, ◌∙◌, ap}
use mathlib.Core.Bool.{true, false}
use mathlib.Core.List.{List, [], ◌∷◌, ◌++◌}
use mathlib.Core.Option.{Option, some}
use mathlib.Core.Option as option
use Prim.Native.Nat.{ℕ, zero, suc, ◌+◌, ◌≤◌, ◌<◌, min}
use native.Mathlib.Numerals.{add-one}
use native.Mathlib.Omega.{arith}
use borrow.Author.Tests.{leb-true}
use lib.Dec.{leb, ltb}
use lib.ListN.{length, get_or, set, take, drop, length-append, get_or-append}
use lib.Seq.{get_or_at, take_at}
use Rattle.std.specs.Prelude.{if◌then◌else◌}
use Rattle.der.proofs.Choices.{never, by_lt, by_test, either}
use Rattle.pkcs12.specs.Numbers.{safe_rows, bag_rows}
use Rattle.buffer.specs.Numbers.{not_sound, short_buffer}
use Rattle.pkcs12.specs.Table.{padded, rows_in, reading_of}
use Rattle.pkcs12.specs.Checks.{counts_fit, rows_test, keeps_rules}
use Rattle.pkcs12.specs.Written.{written_as, file_of, on_file}
use Rattle.pkcs12.specs.declared.table.Table.{Table}
use Rattle.pkcs12.proofs.Stored.{stored}
use Rattle.pairing.specs.Pairs.{no_identity}
use Rattle.pairing.specs.declared.IdentityRow.{IdentityRow}
use Rattle.identities.specs.Identities.{first_of, identity_of, identities_of, identity_rows}
use Rattle.identities.specs.Filling.{Filled, refusal, success, fill_of}

-- ---- the first n of what f numbers

module _ {A : Type 0} (f : ℕ → A) where
  pub first_length : (n : ℕ) → length (first_of f n) ≡ n
  unfolding first_of
  first_length zero = refl
  first_length (suc n) = let e = first_length n in length-append (first_of f n) (f n ∷ []) ∙ omega (arith, e)

  pub first_at_lem : (n i : ℕ) (d : A) → i < n → get_or (first_of f n) i d ≡ f i
  unfolding first_of
  first_at_lem zero i d h = absurd (omega arith)
  first_at_lem (suc n) i d h =
      either i n
      (λ l. get_or-append (first_of f n) (f n ∷ []) d i (omega (arith, first_length n, l)) ∙ first_at_lem n i d l)
      (λ l. let e : n ≡ i = omega arith in rw (← e) (get_or_at (first_of f n) (f n) [] d n (first_length n)))

  pub first_same : (g : ℕ → A) (n : ℕ) → ((i : ℕ) → i < n → g i ≡ f i) → first_of g n ≡ first_of f n
  unfolding first_of
  first_same g zero h = refl
  first_same g (suc n) h = rw (first_same g n (λ i l. h i (omega arith)), h n (omega arith))

  -- one more is collected in an array
  pub first_stored : (k i : ℕ) (none : A) → i < k
      → set (padded k none (first_of f i)) i (f i) ≡ padded k none (first_of f (i + 1))
  unfolding first_of
  first_stored k i none h =
      ap (λ (j : ℕ). set (padded k none (first_of f i)) j (f i)) (sym (first_length i))
      ∙ stored k none (first_of f i) (f i) (omega (arith, first_length i))
      ∙ ap (λ (j : ℕ). padded k none (first_of f j)) (sym (add-one i))

-- ---- collecting the rows of a table

pub record Collecting (t : Table) (s : List ℕ) (end : ℕ) (rows : List IdentityRow) (i : ℕ) : Type 0 where
  pub within : i ≤ end
  pub few : end ≤ bag_rows
  pub due : end ≡ min t.bag_count bag_rows
  pub so_far : rows ≡ padded bag_rows no_identity (first_of (identity_of t s) i)

module _ (t : Table) (s : List ℕ) (end : ℕ) where
  pub collect_start : (rows : List IdentityRow) → end ≡ min t.bag_count bag_rows → end ≤ bag_rows
      → rows ≡ padded bag_rows no_identity [] → Collecting t s end rows 0
  unfolding first_of
  collect_start rows e h p = record { within = omega arith; few = h; due = e; so_far = p }

  module _ (rows : List IdentityRow) (i : ℕ) (g : Collecting t s end rows i) where
    pub collect_on : (r : IdentityRow) → i < end → r ≡ identity_of t s i → Collecting t s end (set rows i r) (i + 1)
    collect_on r h e =
        record {
          within = omega arith;
          few = g.few;
          due = g.due;
          so_far = rw (g.so_far, e) (first_stored (identity_of t s) bag_rows i no_identity (omega (arith, g.few)));
        }

    pub collect_end : end ≤ i → rows ≡ identity_rows t s
    unfolding identity_rows
    collect_end h = let e : i ≡ min t.bag_count bag_rows = omega (arith, g.within, g.due) in g.so_far ∙ rw e

-- ---- filling

-- a table that has a file has no more bags than a table can
counts_fit_lem : (t : Table) → counts_fit t ≡ true → t.bag_count ≤ bag_rows
unfolding counts_fit
counts_fit_lem t =
    by_test (λ v. v ≡ true → t.bag_count ≤ bag_rows) _ false (leb t.safe_count safe_rows)
    (λ a. by_test (λ v. v ≡ true → t.bag_count ≤ bag_rows) _ false (leb t.bag_count bag_rows)
    (λ b q. leb-true t.bag_count bag_rows b) (λ b q. never q))
    (λ a q. never q)

rules_fit : (t : Table) (s : List ℕ) → keeps_rules t s ≡ true → t.bag_count ≤ bag_rows
unfolding keeps_rules
rules_fit t s =
    by_test (λ v. v ≡ true → t.bag_count ≤ bag_rows) (rows_test s (rows_in t) t.mac) false (counts_fit t)
    (λ e q. counts_fit_lem t e) (λ e q. never q)

pub bags_fit : (t : Table) (s f : List ℕ) → file_of t s ≡ some f → t.bag_count ≤ bag_rows
unfolding file_of
bags_fit t s f =
    by_test (λ u. u ≡ some f → t.bag_count ≤ bag_rows) (written_as (reading_of t s)) option.none
    (keeps_rules t s) (λ e q. rules_fit t s e)
    (λ e q. let z : ◌≡◌ {A = ℕ} 0 1 = cc in absurd (omega arith))

module _ (t : Table) (s : List ℕ) (out : List IdentityRow) where
  -- what holds of each outcome holds of the one that filling has
  pub by_filling : (P : Filled → Type 0)
      → ((n : ℕ) → P (refusal n out))
      → (t.bag_count ≤ length out → t.bag_count ≤ bag_rows → P (success (identities_of t s) out))
      → P (fill_of t s out)
  unfolding fill_of
  by_filling P bad good = go (file_of t s) (bags_fit t s)
    where
      go : (u : Option (List ℕ)) → ((f : List ℕ) → u ≡ some f → t.bag_count ≤ bag_rows)
          → P
          (on_file u (refusal not_sound out)
          (λ f. if ltb (length out) t.bag_count then refusal short_buffer out else success (identities_of t s) out))
      go option.none h = bad not_sound
      go (some f) h =
          by_lt P _ _ (length out) t.bag_count (λ l. bad short_buffer) (λ l. good l (h f refl))

  -- as many rows are collected as there are bags
  pub all_rows : t.bag_count ≤ bag_rows → length (identities_of t s) ≡ t.bag_count
  all_rows h = first_length (identity_of t s) _ ∙ omega (arith, h)

  -- the rows that were collected, in front of those behind them
  pub all_stored : t.bag_count ≤ bag_rows
      → take t.bag_count (identity_rows t s) ++ drop t.bag_count out ≡ (success (identities_of t s) out).rows
  unfolding identity_rows
  all_stored h =
      let l : length (identities_of t s) ≡ t.bag_count = all_rows h in
      ap {B = List IdentityRow} (λ (xs : List IdentityRow). xs ++ drop t.bag_count out)
      (take_at (identities_of t s) _ t.bag_count l)
      ∙ ap {B = List IdentityRow} (λ (n : ℕ). identities_of t s ++ drop n out) (sym l)
