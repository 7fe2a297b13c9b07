-- A number in decimal is read as that number.
use mathlib.Core.Path.{◌≡◌, refl, ◌∙◌}
use mathlib.Core.Bool.{Bool, true, false}
use mathlib.Core.List.{List, [], ◌∷◌, ◌++◌}
use Prim.Native.Nat.{ℕ, zero, suc, ◌+◌, ◌-◌, ◌*◌, ◌/◌, ◌%◌, ◌<◌}
use native.Mathlib.Omega.{arith}
use lib.Dec.{ltb}
use Rattle.std.specs.Prelude.{if◌then◌else◌}
use Rattle.buffer.specs.Text.{digit, digits, decimal}
use Rattle.buffer.specs.Decimal.{read, number_of}

read_then : (x : List ℕ) (n d : ℕ) → read n (x ++ (d ∷ [])) ≡ read n x * 10 + (d - 0x30)
unfolding read
read_then [] n d = refl
read_then (a ∷ x) n d = read_then x (n * 10 + (a - 0x30)) d

-- 10^k, the first number that k digits can't hold
power : ℕ → ℕ
power zero = 1
power (suc k) = 10 * power k

digits_read : (k n : ℕ) → n < power k → number_of (digits k n) ≡ n
unfolding digits read power
digits_read zero n h = omega (arith, h)
digits_read (suc k) n h = go (ltb n 10) (digits_read k (n / 10) (omega (arith, h)))
  where
    go : (u : Bool) → number_of (digits k (n / 10)) ≡ n / 10 → number_of (if u then digit n else digits k (n / 10) ++ digit (n % 10)) ≡ n
    go true e = omega arith
    go false e = read_then (digits k (n / 10)) 0 (0x30 + n % 10) ∙ omega (arith, e)

pub decimal_read : (n : ℕ) → n < 100000000000000000000 → number_of (decimal n) ≡ n
unfolding decimal power
decimal_read n h = digits_read 20 n h
