-- Texts of the form, and what begins one.
use Rattle.std.specs.Prelude.{◌≡◌, List, ◌++◌, ◌⊎◌, ℕ, suc, ◌≤◌, ◌<◌, length, take}
use Rattle.der.specs.Span.{Bytes}
use Rattle.pem.specs.Wrap.{wrap}

-- Rule 11.1: the texts of the form are those of one byte or more
pub record Text (t : List ℕ) : Type 0 where
  pub bytes : List ℕ
  pub fit : Bytes bytes
  pub some : 1 ≤ length bytes
  pub is : t ≡ wrap bytes

-- u begins a text of the form
pub record Begins (u : List ℕ) : Type 0 where
  pub rest : List ℕ
  pub text : Text (u ++ rest)

-- p is the offset of the first byte with which no text of the form could go on
pub record GoesWrong (t : List ℕ) (p : ℕ) : Type 0 where
  pub inside : p < length t
  pub good : Begins (take p t)
  pub bad : Begins (take (suc p) t) → ⊥

-- the text is cut: it begins one, and is none; p is its length
pub record IsCut (t : List ℕ) (p : ℕ) : Type 0 where
  pub whole : p ≡ length t
  pub good : Begins t
  pub bad : Text t → ⊥

-- Rule 11.7: where a text is refused by 16
abbrev pub RefusedAt : List ℕ → ℕ → Type 0
RefusedAt t p = GoesWrong t p ⊎ IsCut t p

-- t is the text of m bytes
pub record WrapsOf (t : List ℕ) (m : ℕ) : Type 0 where
  pub text : Text t
  pub number : m ≡ length text.bytes
