-- What may follow in a text after any characters: the words of `Rest`, and which byte goes on with
-- which.
use mathlib.Core.Path.{◌≡◌, refl, ap, ◌∙◌}
use mathlib.Core.List.{List, [], ◌∷◌, ◌++◌}
use mathlib.Core.Logic.{◌⊎◌, inl, inr}
use Prim.Native.Nat.{ℕ, zero, suc, ◌+◌, ◌-◌, ◌%◌, ◌≤◌, ◌<◌}
use native.Mathlib.Omega.{arith}
use lib.Dec.{eqb}
use lib.ListN.{length}
use borrow.Author.Tests.{eq-eqb, ne_eqb}
use Rattle.std.specs.Prelude.{if◌then◌else◌}
use Rattle.der.proofs.Choices.{either}
use Rattle.buffer.specs.Text.{ascii}
use Rattle.base64_chars.specs.Alphabet.{alphabet, index_of, value_of}
use Rattle.base64_chars.specs.Encoded.{pad}
use Rattle.base64_chars.proofs.Alphabet.{newline_none, pad_none, dash_none}
use Rattle.base64_chars.specs.Coded.{Going, Coded}
use Rattle.base64_chars.proofs.Encoded.{letter_count, count_letter}
use Rattle.pem.specs.Wrap.{newline, end, fill}
use Rattle.pem.specs.Judged.{bytes_of}
use Rattle.wrapping.proofs.Account.{BeginsIn}

-- characters, in lines, where k are on this one
unfoldable pub due : ℕ → List ℕ → List ℕ
due k cs = if eqb k 64 then newline ∷ fill 64 cs else fill (64 - k) cs

-- the rest u of a text that wraps m bytes, after n characters, of which k are on this line and the
-- last has the value v
pub record Rest (n k v m : ℕ) (u : List ℕ) : Type 0 where
  pub chars : List ℕ
  pub coded : Coded (k % 4) v chars
  pub some : n ≡ 0 → chars ≡ [] → ⊥
  pub is : u ≡ due k chars ++ end
  pub number : m ≡ bytes_of (n + letter_count chars)

-- ---- lines

pub due_more : (k c : ℕ) (cs : List ℕ) → k < 64 → due k (c ∷ cs) ≡ c ∷ due (suc k) cs
unfolding due fill
due_more k c cs h =
    rw (ne_eqb k 64 (omega arith))
    (either (suc k) 64
    (λ i.
    let z : 64 - k - 1 ≡ 64 - suc k = omega arith in
    rw (ne_eqb (suc k) 64 (omega arith), ne_eqb (64 - k) 1 (omega arith), z))
    (λ i. rw (eq-eqb (suc k) 64 (omega arith), eq-eqb (64 - k) 1 (omega arith))))

pub due_none : (k : ℕ) → 1 ≤ k → k ≤ 64 → due k [] ≡ newline ∷ []
unfolding due fill
due_none k h i =
    either k 64
    (λ l. rw (ne_eqb k 64 (omega arith), ne_eqb (64 - k) 64 (omega arith)))
    (λ l. rw (eq-eqb k 64 (omega arith)))

-- the next byte and those behind it
pub due_first : (k c : ℕ) (cs : List ℕ) (b : ℕ) (u : List ℕ) → k < 64 → b ∷ u ≡ due k (c ∷ cs) ++ end → b ≡ c
due_first k c cs b u h e =
    let f : b ∷ u ≡ c ∷ (due (suc k) cs ++ end) = rw (due_more k c cs h) at e in
    cc

due_others : (k c : ℕ) (cs : List ℕ) (b : ℕ) (u : List ℕ) → k < 64 → b ∷ u ≡ due k (c ∷ cs) ++ end
    → u ≡ due (suc k) cs ++ end
due_others k c cs b u h e =
    let f : b ∷ u ≡ c ∷ (due (suc k) cs ++ end) = rw (due_more k c cs h) at e in
    cc

-- where no character follows, the next byte is none
none_first : (k b : ℕ) (u : List ℕ) → k ≤ 64 → b ∷ u ≡ due k [] ++ end → value_of b ≡ 64
unfolding end due fill ascii
none_first zero b u h e = let z : b ≡ 0x2D = cc in rw z dash_none
none_first (suc k) b u h e =
    let f : b ∷ u ≡ newline ∷ end = rw (due_none (suc k) (omega arith) h) at e in
    let z : b ≡ newline = cc in
    rw z newline_none

-- ---- every rest begins

pub some_more : (c : ℕ) (cs : List ℕ) → c ∷ cs ≡ [] → ⊥
some_more c cs e = omega (arith, ap length e)

letter_a : value_of 0x41 ≡ 0
unfolding value_of index_of alphabet ascii
letter_a = refl

A-goes : {N Z : Type 0} → N → Going N 0x41 ⊎ Z
A-goes r = inl (record { letter = omega (arith, letter_a); rest = r })

record Completes (q v : ℕ) : Type 0 where
  chars : List ℕ
  coded : Coded q v chars
  some : chars ≡ [] → ⊥

completed : (q v c : ℕ) (cs : List ℕ) → Coded q v (c ∷ cs) → Completes q v
completed q v c cs h = record { chars = c ∷ cs; coded = h; some = some_more c cs }

-- as many of `A` as complete four characters
completes : (q v : ℕ) → q < 4 → Completes q v
completes zero v h = completed 0 v 0x41 (0x41 ∷ 0x41 ∷ 0x41 ∷ []) (A-goes (A-goes (A-goes (A-goes refl))))
completes (suc zero) v h = completed 1 v 0x41 (0x41 ∷ 0x41 ∷ []) (A-goes (A-goes (A-goes refl)))
completes (suc (suc zero)) v h = completed 2 v 0x41 (0x41 ∷ []) (A-goes (A-goes refl))
completes (suc (suc (suc zero))) v h = completed 3 v 0x41 [] (A-goes refl)
completes (suc (suc (suc (suc q)))) v h = absurd (omega arith)

pub rest_begins : (n k v : ℕ) → BeginsIn (Rest n k v) []
rest_begins n k v =
    let c = completes (k % 4) v (omega arith) in
    record {
      rest = due k c.chars ++ end;
      number = bytes_of (n + letter_count c.chars);
      word = record { chars = c.chars; coded = c.coded; some = λ e. c.some; is = refl; number = refl };
    }

-- ---- a letter

pub letter_on : (n k v m b : ℕ) (u : List ℕ) → k < 64 → value_of b < 64 → Rest n k v m (b ∷ u)
    → Rest (suc n) (suc k) (value_of b) m u
letter_on n k v m b u h l r = go r.chars r.coded r.is r.number
  where
    no_pad : (c : ℕ) (cs : List ℕ) → b ∷ u ≡ due k (c ∷ cs) ++ end → c ≡ pad → ⊥
    no_pad c cs e p =
        let z : value_of b ≡ value_of pad = ap value_of (due_first k c cs b u h e ∙ p) in
        omega (arith, pad_none)

    go : (cs : List ℕ) → Coded (k % 4) v cs → b ∷ u ≡ due k cs ++ end → m ≡ bytes_of (n + letter_count cs)
        → Rest (suc n) (suc k) (value_of b) m u
    go [] c e i = absurd (omega (arith, none_first k b u (omega arith) e))
    go (x ∷ cs) (inl c) e i =
        let z : b ≡ x = due_first k x cs b u h e in
        let q : suc (k % 4) % 4 ≡ suc k % 4 = omega arith in
        record {
          chars = cs;
          coded = rw (← q, z) c.rest;
          some = λ y. absurd (omega arith);
          is = due_others k x cs b u h e;
          number = omega (arith, i, count_letter x cs c.letter);
        }
    go (x ∷ cs) (inr (inl c)) e i = absurd (no_pad x cs e c.first)
    go (x ∷ cs) (inr (inr c)) e i = absurd (no_pad x cs e c.first)

pub letter_back : (n k v m b : ℕ) (u : List ℕ) → k < 64 → value_of b < 64
    → Rest (suc n) (suc k) (value_of b) m u → Rest n k v m (b ∷ u)
letter_back n k v m b u h l r =
    let q : suc (k % 4) % 4 ≡ suc k % 4 = omega arith in
    record {
      chars = b ∷ r.chars;
      coded = inl (record { letter = l; rest = rw q r.coded });
      some = λ y. some_more b r.chars;
      is = rw (due_more k b r.chars h) (ap (λ t. b ∷ t) r.is);
      number = omega (arith, r.number, count_letter b r.chars l);
    }

-- ---- the end of a line

-- the first of four characters is a letter, whatever the last value is
coded_any : (v w : ℕ) (cs : List ℕ) → Coded 0 v cs → Coded 0 w cs
coded_any v w [] c = c
coded_any v w (x ∷ cs) (inl c) = inl c
coded_any v w (x ∷ cs) (inr (inl c)) = absurd (omega (arith, c.column))
coded_any v w (x ∷ cs) (inr (inr c)) = absurd (omega (arith, c.column))

pub line_on : (n v m : ℕ) (u : List ℕ) → Rest n 64 v m (newline ∷ u) → Rest n 0 0 m u
unfolding due
line_on n v m u r =
    let e : newline ∷ u ≡ newline ∷ (fill 64 r.chars ++ end) = r.is in
    record {
      chars = r.chars;
      coded = coded_any v 0 r.chars r.coded;
      some = r.some;
      is = cc;
      number = r.number;
    }

pub line_back : (n v m : ℕ) (u : List ℕ) → Rest n 0 0 m u → Rest n 64 v m (newline ∷ u)
unfolding due
line_back n v m u r =
    record {
      chars = r.chars;
      coded = coded_any 0 v r.chars r.coded;
      some = r.some;
      is = ap (λ t. newline ∷ t) r.is;
      number = r.number;
    }
