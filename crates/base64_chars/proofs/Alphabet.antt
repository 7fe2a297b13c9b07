-- Characters and their values undo each other.
use mathlib.Core.Path.{◌≡◌, refl, sym, ap, ◌∙◌}
use mathlib.Core.List.{List, [], ◌∷◌, map}
use Prim.Native.Nat.{ℕ, suc, ◌+◌, ◌%◌, ◌<◌, ◌≤◌}
use native.Mathlib.Omega.{arith}
use lib.ListN.{length, get_or, get_or-map}
use Rattle.der.proofs.Choices.{by_eq}
use Rattle.buffer.specs.Text.{ascii}
use Rattle.base64_chars.specs.Alphabet.{alphabet, letter_of, index_of, value_of, tabulated}
use Rattle.base64_chars.proofs.Tables.{entry}

-- ---- indices

index_bound : (c : ℕ) (xs : List ℕ) → index_of c xs ≤ length xs
unfolding index_of
index_bound c [] = omega arith
index_bound c (x ∷ xs) =
    by_eq (λ n. n ≤ length (x ∷ xs)) 0 (suc (index_of c xs)) c x (λ e. omega arith)
    (λ e. omega (arith, index_bound c xs))

-- where the list has c, it has c
index_has : (c : ℕ) (xs : List ℕ) → index_of c xs < length xs → get_or xs (index_of c xs) 0 ≡ c
unfolding index_of
index_has c [] = λ h. absurd (omega (arith, h))
index_has c (x ∷ xs) =
    by_eq (λ n. n < length (x ∷ xs) → get_or (x ∷ xs) n 0 ≡ c) 0 (suc (index_of c xs)) c x (λ e h. sym e)
    (λ e h. index_has c xs (omega (arith, h)))

-- ---- characters

-- a value, or 64
pub value_bound : (c : ℕ) → value_of c ≤ 64
unfolding value_of alphabet ascii
value_bound c = index_bound c alphabet

-- every index of the table, computed
indices : map value_of alphabet ≡ tabulated (λ k. k) 0 64
unfolding value_of index_of alphabet ascii tabulated
indices = refl

at_index : (k : ℕ) → k < 64 → value_of (get_or alphabet k 0) ≡ k
at_index k h =
    let z : 0 + k ≡ k = omega arith in
    sym (get_or-map value_of alphabet k 0)
    ∙ ap (λ (l : List ℕ). get_or l k (value_of 0)) indices
    ∙ entry (λ k. k) 64 0 k (value_of 0) h
    ∙ z

-- the character of a value has that value
pub value_letter : (v : ℕ) → value_of (letter_of v) ≡ v % 64
unfolding letter_of
value_letter v = at_index (v % 64) (omega arith)

-- a byte that has a value is the character of it
pub letter_value : (c : ℕ) → value_of c < 64 → letter_of (value_of c) ≡ c
unfolding letter_of value_of alphabet ascii
letter_value c h =
    let z : index_of c alphabet % 64 ≡ index_of c alphabet = omega (arith, h) in rw z (index_has c alphabet h)

-- the bytes of a text that aren't in its characters have none
pub newline_none : value_of 0x0A ≡ 64
unfolding value_of index_of alphabet ascii
newline_none = refl

pub pad_none : value_of 0x3D ≡ 64
unfolding value_of index_of alphabet ascii
pad_none = refl

pub dash_none : value_of 0x2D ≡ 64
unfolding value_of index_of alphabet ascii
dash_none = refl
