-- What is proved of numbers in a buffer, beside the contracts.
use mathlib.Core.Path.{◌≡◌}
use Prim.Native.Nat.{ℕ, ◌<◌}
use native.Mathlib.Omega.{arith}
use Rattle.buffer.specs.BigEndian.{u16_octets, u32_octets, u16_at, u32_at}
use Rattle.buffer.specs.Decimal.{number_of}
use Rattle.buffer.specs.Numbered.{NumbersNamed}
use Rattle.buffer.specs.Text.{decimal}
use Rattle.buffer.proofs.Decimal.{decimal_read}
use Rattle.buffer.proofs.Numbered as numbered

-- what is written as a number of two or four bytes is read as that number
pub u16_back : (n : ℕ) → u16_at (u16_octets n) 0 ≡ n
unfolding u16_octets
u16_back n = omega arith

pub u32_back : (n : ℕ) → u32_at (u32_octets n) 0 ≡ n
unfolding u32_octets u16_octets
u32_back n = omega arith

-- the digits of a number are read as that number: of every number of 64 bits, and of some more
pub decimal_back : (n : ℕ) → n < 100000000000000000000 → number_of (decimal n) ≡ n
decimal_back n h = decimal_read n h

-- each name of this crate is the number that the rules have for it
pub numbers_named : NumbersNamed
numbers_named = numbered.numbers_named
