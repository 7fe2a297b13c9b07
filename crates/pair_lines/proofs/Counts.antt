-- A line for each key bag: no word and no digit is the byte 0A that ends a line.
use mathlib.Core.Path.{◌≡◌, refl, ◌∙◌}
use mathlib.Core.Bool.{Bool, true, false}
use mathlib.Core.List.{List, [], ◌∷◌, ◌++◌}
use Prim.Native.Nat.{ℕ, zero, suc, ◌+◌, ◌/◌, ◌%◌}
use native.Mathlib.Omega.{arith}
use borrow.Author.Tests.{ne_eqb}
use lib.Dec.{ltb}
use lib.ListN.{get_or}
use Rattle.std.specs.Prelude.{if◌then◌else◌}
use Rattle.pkcs12.specs.Table.{no_bag}
use Rattle.buffer.specs.Placed.{each}
use Rattle.pkcs12.specs.declared.kind.BagKind.{BagKind}
use Rattle.pkcs12.specs.declared.table.Table.{Table}
use Rattle.buffer.specs.Text.{ascii, digit, digits, decimal}
use Rattle.pkcs12.specs.Table.{bags_counted}
use Rattle.text.specs.Text.{number_text}
use Rattle.pairing.specs.Pairs.{is_key}
use Rattle.der.specs.declared.Fault.{Fault}
use Rattle.std.specs.Prelude.{Err, Ok, Result}
use Rattle.identities.specs.Identities.{certificate_for}
use Rattle.pair_lines.specs.Lines.{answer_text, pair_line, bag_line, pair_row_line, pair_lines}
use Rattle.pair_lines.specs.Counts.{lines_in, one_if_key, keys_among, key_bags}

both : (x y : List ℕ) → lines_in (x ++ y) ≡ lines_in x + lines_in y
unfolding lines_in
both [] y = omega arith
both (b ∷ x) y = omega (arith, both x y)

digit_in : (n : ℕ) → lines_in (digit n) ≡ 0
unfolding lines_in
digit_in n = rw (ne_eqb (0x30 + n) 0x0A (λ e. omega (arith, e))) refl

digits_in : (k n : ℕ) → lines_in (digits k n) ≡ 0
unfolding digits lines_in
digits_in zero n = refl
digits_in (suc k) n = go (ltb n 10) (digits_in k (n / 10))
  where
    go : (u : Bool) → lines_in (digits k (n / 10)) ≡ 0
        → lines_in (if u then digit n else digits k (n / 10) ++ digit (n % 10)) ≡ 0
    go true e = digit_in n
    go false e = both (digits k (n / 10)) (digit (n % 10)) ∙ omega (arith, e, digit_in (n % 10))

number_in : (name : List ℕ) (n : ℕ) → lines_in name ≡ 0 → lines_in (number_text name n) ≡ 0
unfolding number_text decimal
number_in name n e = both name (digits 20 n) ∙ omega (arith, e, digits_in 20 n)

answer_in : (p : Result ℕ Fault) → lines_in (answer_text p) ≡ 0
unfolding answer_text ascii lines_in
answer_in (Ok row) = number_in (ascii ": certificate bag ") row refl
answer_in (Err f) = number_in (ascii ": refused ") f.number refl

pair_in : (i : ℕ) (p : Result ℕ Fault) → lines_in (pair_line i p) ≡ 1
unfolding pair_line ascii lines_in
pair_in i p =
    let key : List ℕ = number_text (ascii "key bag ") i in
    both (key ++ answer_text p) (ascii "\n")
    ∙ omega (arith, both key (answer_text p), number_in (ascii "key bag ") i refl, answer_in p)

bag_in_lem : (kind : BagKind) (i : ℕ) (p : Result ℕ Fault) → lines_in (bag_line kind i p) ≡ one_if_key kind
unfolding bag_line lines_in
bag_in_lem kind i p = go (is_key kind)
  where
    go : (u : Bool) → lines_in (if u then pair_line i p else []) ≡ (if u then 1 else 0)
    go true = pair_in i p
    go false = refl

pub lines_among : (t : Table) (s : List ℕ) (n : ℕ) → lines_in (each (pair_row_line t s) n) ≡ keys_among t n
unfolding each keys_among lines_in
lines_among t s zero = refl
lines_among t s (suc n) =
    both (each (pair_row_line t s) n) (pair_row_line t s n)
    ∙ omega (arith, lines_among t s n, bag_in_lem (get_or t.bags n no_bag).kind n (certificate_for t s n))

pub lines_are_keys : (t : Table) (s : List ℕ) → lines_in (pair_lines t s) ≡ key_bags t
unfolding pair_lines
lines_are_keys t s = lines_among t s (bags_counted t)
