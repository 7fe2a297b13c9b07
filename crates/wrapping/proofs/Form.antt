-- The texts of bytes are those of the form, line by line; how long they are.
use mathlib.Core.Path.{◌≡◌, refl, sym, ap, ◌∙◌}
use mathlib.Core.Logic.{◌↔◌}
use mathlib.Core.List.{List, [], ◌∷◌, ◌++◌, append_assoc}
use Prim.Native.Nat.{ℕ, zero, suc, ◌-◌, ◌%◌, ◌≤◌, ◌<◌}
use native.Mathlib.Omega.{arith}
use lib.ListN.{length, take, drop, length-append, length-drop, take-append-drop}
use lib.Seq.{length-take-le}
use borrow.Author.Tests.{eq-eqb, ne_eqb}
use Rattle.der.proofs.Choices.{by_eq, either}
use Rattle.base64_chars.specs.Encoded.{encoded}
use Rattle.base64_chars.proofs.Encoded.{encoded_coded, coded_encoded, encoded_length}
use Rattle.pem.specs.Wrap.{newline, begin, end, fill, lines_of, wrap}
use Rattle.pem.proofs.Lines.{wrap_length}
use Rattle.wrapping.specs.Text.{Text}
use Rattle.wrapping.specs.Form.{joined, in_lines, Full, InForm}

-- ---- characters in lines

-- a line is full behind as many characters as fit it
fill_line : (k : ℕ) (l cs : List ℕ) → length l ≡ k → 1 ≤ k → fill k (l ++ cs) ≡ l ++ newline ∷ fill 64 cs
unfolding fill
fill_line k [] cs e h = absurd (omega arith)
fill_line k (c ∷ []) cs e h = rw (eq-eqb k 1 (omega arith))
fill_line k (c ∷ d ∷ l) cs e h =
    rw (ne_eqb k 1 (omega arith))
    (ap (λ (r : List ℕ). c ∷ r) (fill_line (k - 1) (d ∷ l) cs (omega arith) (omega arith)))

-- the last line ends behind its characters, full or not
fill_last : (k : ℕ) (l : List ℕ) → 1 ≤ length l → length l ≤ k → k ≤ 64 → fill k l ≡ l ++ newline ∷ []
unfolding fill
fill_last k [] h i j = absurd (omega arith)
fill_last k (c ∷ []) h i j =
    by_eq (λ (r : List ℕ). c ∷ r ≡ c ∷ newline ∷ []) (newline ∷ []) (fill (k - 1) []) k 1 (λ e. refl)
    (λ e. rw (ne_eqb (k - 1) 64 (omega arith)))
fill_last k (c ∷ d ∷ l) h i j =
    rw (ne_eqb k 1 (omega arith))
    (ap (λ (r : List ℕ). c ∷ r) (fill_last (k - 1) (d ∷ l) (omega arith) (omega arith) (omega arith)))

fill_lines : (ls : List (List ℕ)) (l : List ℕ) → Full ls → 1 ≤ length l → length l ≤ 64
    → fill 64 (joined ls ++ l) ≡ in_lines ls ++ (l ++ newline ∷ [])
unfolding joined in_lines
fill_lines [] l f h i = fill_last 64 l h i (omega arith)
fill_lines (k ∷ ls) l f h i =
    ap (fill 64) (append_assoc k (joined ls) l)
    ∙ fill_line 64 k (joined ls ++ l) f.0 (omega arith)
    ∙ ap (λ (r : List ℕ). k ++ newline ∷ r) (fill_lines ls l f.1 h i)
    ∙ sym (append_assoc k (newline ∷ in_lines ls) (l ++ newline ∷ []))

-- the text of bytes whose characters are those of lines
lines_text : (x : List ℕ) (ls : List (List ℕ)) (l : List ℕ) → encoded x ≡ joined ls ++ l → Full ls → 1 ≤ length l
    → length l ≤ 64 → wrap x ≡ begin ++ in_lines ls ++ l ++ newline ∷ end
unfolding wrap lines_of
lines_text x ls l e f h i =
    ap (λ (cs : List ℕ). begin ++ fill 64 cs ++ end) e
    ∙ ap (λ (r : List ℕ). begin ++ r ++ end) (fill_lines ls l f h i)
    ∙ simp append_assoc

-- ---- characters are those of lines

-- cs in lines: full ones, and a last one
record Lines (cs : List ℕ) : Type 0 where
  full : List (List ℕ)
  last : List ℕ
  sized : Full full
  least : 4 ≤ length last
  most : length last ≤ 64
  is : cs ≡ joined full ++ last

-- a line in front of lines
line_more : (cs : List ℕ) → 64 ≤ length cs → Lines (drop 64 cs) → Lines cs
unfolding joined
line_more cs h r =
    record {
      full = take 64 cs ∷ r.full;
      last = r.last;
      sized = (length-take-le 64 cs h, r.sized);
      least = r.least;
      most = r.most;
      is =
          sym (take-append-drop 64 cs)
          ∙ ap (λ (l : List ℕ). take 64 cs ++ l) r.is
          ∙ sym (append_assoc (take 64 cs) (joined r.full) r.last);
    }

-- whole fours, no more than n characters, are one line or more
lines_of_lem : (n : ℕ) (cs : List ℕ) → length cs ≤ n → length cs % 4 ≡ 0 → 4 ≤ length cs → Lines cs
unfolding joined
lines_of_lem zero cs h d l = absurd (omega arith)
lines_of_lem (suc n) cs h d l =
    either 64 (length cs)
    (λ m.
    let z = length-drop 64 cs in
    line_more cs (omega arith) (lines_of_lem n (drop 64 cs) (omega arith) (omega arith) (omega arith)))
    (λ m. record { full = []; last = cs; sized = tt; least = l; most = m; is = refl })

-- ---- the form

lines_form : (t : List ℕ) (x : Text t) → Lines (encoded x.bytes) → InForm t
lines_form t x r =
    record {
      full = r.full;
      last = r.last;
      sized = r.sized;
      least = r.least;
      most = r.most;
      coded = rw (← r.is) (encoded_coded x.bytes 0);
      is = x.is ∙ lines_text x.bytes r.full r.last r.is r.sized (omega (arith, r.least)) r.most;
    }

text_form : (t : List ℕ) → Text t → InForm t
text_form t x =
    let cs = encoded x.bytes in
    let z = encoded_length x.bytes in
    lines_form t x (lines_of_lem (length cs) cs (omega arith) (omega arith) (omega (arith, x.some)))

form_text : (t : List ℕ) → InForm t → Text t
form_text t r =
    let e = coded_encoded (joined r.full ++ r.last) 0 r.coded in
    let n = length-append (joined r.full) r.last in
    record {
      bytes = e.bytes;
      fit = e.fit;
      some = omega (arith, r.least, ap length e.is, encoded_length e.bytes);
      is =
          r.is
          ∙ sym (lines_text e.bytes r.full r.last e.is r.sized (omega (arith, r.least)) r.most);
    }

-- the texts of one byte or more are those of the form
pub form_iff : (t : List ℕ) → Text t ↔ InForm t
form_iff t = (text_form t, form_text t)

-- ---- how long a text is (Rule 11.5)

pub text_length : (t : List ℕ) (x : Text t) → length x.bytes ≤ 65_535 → length t ≤ 88_790
text_length t x h = omega (arith, wrap_length x.bytes, ap length x.is)

pub longer : (t : List ℕ) (x : Text t) → 88_790 < length t → 65_535 < length x.bytes
longer t x h =
    either 65_535 (length x.bytes) (λ k. k) (λ k. absurd (omega (arith, h, text_length t x k)))

pub longest : (x : List ℕ) → length x ≡ 65_535 → length (wrap x) ≡ 88_790
longest x e = omega (arith, wrap_length x)
