-- A bound on the bytes of a text: of its parts, one behind another, and of lines.
use mathlib.Core.Bool.{Bool, true, false}
use mathlib.Core.List.{List, [], ◌++◌}
use Prim.Native.Nat.{ℕ, zero, suc, ◌+◌, ◌*◌, ◌/◌, ◌%◌, ◌≤◌}
use native.Mathlib.Nat.{suc-mul}
use native.Mathlib.Omega.{arith}
use lib.Dec.{ltb}
use lib.ListN.{length, length-append}
use Rattle.std.specs.Prelude.{if◌then◌else◌}
use Rattle.der.specs.declared.Fault.{Fault}
use Rattle.buffer.specs.Placed.{each}
use Rattle.buffer.specs.Text.{ascii, digit, digits, decimal}
use Rattle.text.specs.Text.{number_text, refused_line}

pub record Short (m : ℕ) (x : List ℕ) : Type 0 where
  pub most : length x ≤ m

pub word : (x : List ℕ) → Short (length x) x
word x = record { most = omega arith }

pub within : {m : ℕ} {x : List ℕ} (n : ℕ) → m ≤ n → Short m x → Short n x
within n h s = record { most = omega (arith, h, s.most) }

infixl 5 ◌and◌
pub ◌and◌ : {m n : ℕ} {x y : List ℕ} → Short m x → Short n y → Short (m + n) (x ++ y)
◌and◌ {m} {n} {x} {y} s t = record { most = omega (arith, s.most, t.most, length-append x y) }

digits_short : (k n : ℕ) → length (digits k n) ≤ k
unfolding digits
digits_short zero n = omega arith
digits_short (suc k) n = go (ltb n 10) (digits_short k (n / 10))
  where
    go : (u : Bool) → length (digits k (n / 10)) ≤ k → length (if u then digit n else digits k (n / 10) ++ digit (n % 10)) ≤ suc k
    go true h = omega arith
    go false h = omega (arith, length-append (digits k (n / 10)) (digit (n % 10)), h)

pub number : (name : List ℕ) (n : ℕ) → Short (length name + 20) (number_text name n)
unfolding number_text decimal
number name n = word name and record { most = digits_short 20 n }

pub refused_line_lem : (f : Fault) → Short 53 (refused_line f)
unfolding refused_line ascii
refused_line_lem f = within 53 (omega arith) (number (ascii "refused ") f.number and number (ascii " at ") f.offset and word (ascii "\n"))

-- n lines, each of m bytes at most
pub lines : (line : ℕ → List ℕ) (m : ℕ) → ((i : ℕ) → Short m (line i)) → (n : ℕ) → Short (n * m) (each line n)
unfolding each
lines line m h zero = within (0 * m) (omega arith) (word [])
lines line m h (suc n) = within (suc n * m) (rw (suc-mul n m) (omega arith)) (lines line m h n and h n)
