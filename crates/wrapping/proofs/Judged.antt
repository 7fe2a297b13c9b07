-- What `judged` returns is an account of the texts of the form, over their characters.
use mathlib.Core.Path.{◌≡◌, refl, sym, ap, ◌∙◌}
use mathlib.Core.Bool.{Bool, true, false}
use mathlib.Core.List.{List, [], ◌∷◌, ◌++◌, append_assoc}
use Prim.Native.Nat.{ℕ, suc, ◌+◌, ◌-◌, ◌≤◌}
use native.Mathlib.Omega.{arith}
use lib.Dec.{eqb, ltb}
use lib.ListN.{drop}
use borrow.Author.Tests.{ltb-true, lt-ltb, eqb-true, eq-eqb}
use Rattle.std.specs.Prelude.{if◌then◌else◌}
use Rattle.der.specs.Choice.{both}
use Rattle.der.proofs.Choices.{by_eq, either, never}
use Rattle.buffer.specs.Text.{ascii}
use Rattle.base64_chars.specs.Alphabet.{value_of}
use Rattle.base64_chars.proofs.Alphabet.{newline_none}
use Rattle.base64_chars.specs.Coded.{Coded}
use Rattle.base64_chars.proofs.Encoded.{letter_count, count_none}
use Rattle.pem.specs.Wrap.{newline, begin, end, fill}
use Rattle.pem.specs.Judged.{agreeing, bytes_of, in_line, judged}
use Rattle.wrapping.proofs.Account.{Account, After, behind, account_more, account_same, account_after}
use Rattle.wrapping.proofs.Rest.{due, Rest, rest_begins, letter_on, letter_back, line_on, line_back}
use Rattle.wrapping.proofs.Ended.{account_ended}

-- a choice by two tests
by_both : {A : Type 0} (P : A → Type 0) (x y : A) (t u : Bool) → (t ≡ true → u ≡ true → P x)
    → ((t ≡ true → u ≡ true → ⊥) → P y) → P (if both t u then x else y)
by_both P x y true true f g = f refl refl
by_both P x y true false f g = g (λ d e. never e)
by_both P x y false u f g = g (λ d e. never d)

-- ---- in a line

pub in_line_lem : (n k v at : ℕ) (t : List ℕ) → k ≤ 64 → k ≤ n → Account (Rest n k v) t at (in_line n k v at t)
unfolding in_line
in_line_lem n k v at [] h i = account_ended n k v at [] tt h i
in_line_lem n k v at (b ∷ t) h i =
    by_both (λ j. Account (Rest n k v) (b ∷ t) at j) _ _ (ltb k 64) (ltb (value_of b) 64)
    (λ d e.
    let l = ltb-true k 64 d in
    let w = ltb-true (value_of b) 64 e in
    account_more (Rest n k v) b t at
    (account_same (behind b (Rest n k v)) (Rest (suc n) (suc k) (value_of b)) t (suc at)
    (λ m u. letter_on n k v m b u l w) (λ m u. letter_back n k v m b u l w)
    (in_line_lem (suc n) (suc k) (value_of b) (suc at) t l (omega arith))))
    (λ f.
    by_both (λ j. Account (Rest n k v) (b ∷ t) at j) _ _ (eqb k 64) (eqb b newline)
    (λ d e.
    rw (eqb-true k 64 d, eqb-true b newline e)
    (account_more (Rest n 64 v) newline t at
    (account_same (behind newline (Rest n 64 v)) (Rest n 0 0) t (suc at) (λ m u. line_on n v m u)
    (λ m u. line_back n v m u) (in_line_lem n 0 0 (suc at) t (omega arith) (omega arith)))))
    (λ g.
    account_ended n k v at (b ∷ t) (
      λ l. either (value_of b) 64 (λ w. absurd (f (lt-ltb k 64 l) (lt-ltb (value_of b) 64 w))) (λ w. w),
      λ d e. g (eq-eqb k 64 d) (eq-eqb b newline e),
    ) h i))

-- ---- the whole text

-- a text of the form that wraps m bytes, by its characters
pub record TextIn (m : ℕ) (t : List ℕ) : Type 0 where
  pub chars : List ℕ
  pub coded : Coded 0 0 chars
  pub some : chars ≡ [] → ⊥
  pub is : t ≡ begin ++ fill 64 chars ++ end
  pub number : m ≡ bytes_of (letter_count chars)

pub judged_account : (t : List ℕ) → Account TextIn t 0 (judged t)
unfolding judged begin ascii due
judged_account t =
    let z : 0 + agreeing begin t ≡ agreeing begin t = omega arith in
    account_same TextIn (After begin (Rest 0 0 0)) t 0
    (λ m u x.
    record {
      next = fill 64 x.chars ++ end;
      is = x.is ∙ append_assoc begin (fill 64 x.chars) end;
      word =
          record {
            chars = x.chars;
            coded = x.coded;
            some = λ e. x.some;
            is = refl;
            number = omega (arith, x.number);
          };
    })
    (λ m u x.
    let r = x.word in
    record {
      chars = r.chars;
      coded = r.coded;
      some = r.some refl;
      is = x.is ∙ ap (λ l. begin ++ l) r.is ∙ sym (append_assoc begin (fill 64 r.chars) end);
      number = omega (arith, r.number);
    })
    (rw z at
    (account_after begin (Rest 0 0 0) t 0 (in_line 0 0 0 23 (drop 23 t)) (rest_begins 0 0 0)
    (λ h. in_line_lem 0 0 0 23 (drop 23 t) (omega arith) (omega arith))))

-- ---- one number

append_count : (xs ys : List ℕ) → letter_count (xs ++ ys) ≡ letter_count xs + letter_count ys
unfolding letter_count
append_count [] ys = omega arith
append_count (x ∷ xs) ys = omega (arith, append_count xs ys)

newline_count : (cs : List ℕ) → letter_count (newline ∷ cs) ≡ letter_count cs
newline_count cs = count_none newline cs (omega (arith, newline_none))

-- lines have the letters of their characters
fill_count : (k : ℕ) (cs : List ℕ) → letter_count (fill k cs) ≡ letter_count cs
unfolding fill letter_count
fill_count k [] = by_eq (λ l. letter_count l ≡ 0) [] (newline ∷ []) k 64 (λ e. refl) (λ e. newline_count [])
fill_count k (c ∷ cs) =
    by_eq (λ l. letter_count (c ∷ l) ≡ letter_count (c ∷ cs)) (newline ∷ fill 64 cs) (fill (k - 1) cs) k 1
    (λ e. omega (arith, newline_count (fill 64 cs), fill_count 64 cs)) (λ e. omega (arith, fill_count (k - 1) cs))

-- so the number is that of the text's letters
text_count : (m : ℕ) (t : List ℕ) (x : TextIn m t)
    → letter_count t ≡ letter_count begin + letter_count x.chars + letter_count end
text_count m t x =
    let f = fill 64 x.chars in
    rw x.is (omega (arith, append_count (begin ++ f) end, append_count begin f, fill_count 64 x.chars))

pub text_number : (m n : ℕ) (t : List ℕ) → TextIn m t → TextIn n t → m ≡ n
text_number m n t x y = omega (arith, text_count m t x, text_count n t y, x.number, y.number)
