-- An account of a judgement, for any language: a text that is judged to wrap bytes is a word of the
-- language, and one that breaks does so at the first offset at which no word goes on.
use mathlib.Core.Path.{◌≡◌, refl, sym, ap, ◌∙◌}
use mathlib.Core.List.{List, [], ◌∷◌, ◌++◌, append_assoc, append-nil}
use Prim.Native.Nat.{ℕ, zero, suc, ◌+◌, ◌≤◌, ◌<◌}
use native.Mathlib.Omega.{arith}
use lib.Dec.{ltb, leb-suc-suc}
use lib.ListN.{length, take, drop, take-append-drop, drop_of_length-le}
use lib.Seq.{drop-cons, take-take}
use borrow.Author.Tests.{lt-ltb}
use Rattle.std.specs.Prelude.{if◌then◌else◌, Err, Ok, Result}
use Rattle.der.proofs.Choices.{by_lt, by_eq, either}
use Rattle.pem.specs.Judged.{agreeing, closed_by, bytes_of, break_at}
use Rattle.pem.specs.declared.Break.{Break}

-- L m t: t is a word of the language L, and m is its number
abbrev pub Language : Type 1
Language = ℕ → List ℕ → Type 0

-- u begins a word
pub record BeginsIn (L : Language) (u : List ℕ) : Type 0 where
  pub rest : List ℕ
  pub number : ℕ
  pub word : L number (u ++ rest)

-- t, which begins at an offset, breaks at the offset p: its first k bytes begin a word, and with
-- one more they don't, or there are no more and t is no word
pub record Broken (L : Language) (t : List ℕ) (at p : ℕ) : Type 0 where
  pub k : ℕ
  pub offset : p ≡ at + k
  pub inside : k ≤ length t
  pub good : BeginsIn L (take k t)
  pub bad : k < length t → BeginsIn L (take (suc k) t) → ⊥
  pub cut : k ≡ length t → (m : ℕ) → L m t → ⊥

pub data Account (L : Language) (t : List ℕ) (at : ℕ) : Result ℕ Break → Type 0 where
  wraps : (m : ℕ) → L m t → Account L t at (Ok m)
  breaks : (p : ℕ) → Broken L t at p → Account L t at (Err (break_at p))

-- what a beginning becomes in another language
begins_as : (L M : Language) (u v : List ℕ) → ((m : ℕ) (w : List ℕ) → L m (u ++ w) → M m (v ++ w)) → BeginsIn L u
    → BeginsIn M v
begins_as L M u v f g = record { rest = g.rest; number = g.number; word = f g.number g.rest g.word }

-- the language of the words b ∷ u, without b
abbrev pub behind : ℕ → Language → Language
behind b L m u = L m (b ∷ u)

-- ---- one byte

-- an account of what follows a byte is one of the whole
pub account_more : (L : Language) (b : ℕ) (t : List ℕ) (at : ℕ) {j : Result ℕ Break}
    → Account (behind b L) t (suc at) j
    → Account L (b ∷ t) at j
account_more L b t at (wraps m x) = wraps m x
account_more L b t at (breaks p x) =
    breaks p record {
      k = suc x.k;
      offset = omega (arith, x.offset);
      inside = omega (arith, x.inside);
      good = begins_as (behind b L) L _ _ (λ m w y. y) x.good;
      bad = λ h g. x.bad (omega arith) (begins_as L (behind b L) _ _ (λ m w y. y) g);
      cut = λ h m w. x.cut (omega arith) m w;
    }

-- a byte with which no word begins, and a word that is missing
pub account_wrong : (L : Language) (b : ℕ) (t : List ℕ) (at : ℕ) → BeginsIn L []
    → ((m : ℕ) (u : List ℕ) → L m (b ∷ u) → ⊥) → Account L (b ∷ t) at (Err (break_at at))
account_wrong L b t at g n =
    breaks at record {
      k = 0;
      offset = omega arith;
      inside = omega arith;
      good = g;
      bad = λ h i. n i.number i.rest i.word;
      cut = λ h. absurd (omega arith);
    }

pub account_cut : (L : Language) (at : ℕ) → BeginsIn L [] → ((m : ℕ) → L m [] → ⊥)
    → Account L [] at (Err (break_at at))
account_cut L at g n =
    breaks at record {
      k = 0;
      offset = omega arith;
      inside = omega arith;
      good = g;
      bad = λ h. absurd (omega arith);
      cut = λ h. n;
    }

-- ---- languages with the same words

-- E is a property of the first byte. Where the lists that have it are words of one language if and
-- only if they are words of the other, an account by the other one is an account by this one.
module _ (L M : Language) (E : List ℕ → Type 0) (head-only : (b : ℕ) (u v : List ℕ) → E (b ∷ u) → E (b ∷ v)) where
  pub account_front : (t : List ℕ) (at : ℕ) {j : Result ℕ Break} → E t → BeginsIn L []
      → ((m : ℕ) (u : List ℕ) → E u → L m u → M m u) → ((m : ℕ) (u : List ℕ) → E u → M m u → L m u)
      → Account M t at j → Account L t at j
  account_front t at e g to from (wraps m x) = wraps m (from m t e x)
  account_front t at e g to from (breaks p x) =
      breaks p (broken t e x.k x.offset x.inside x.good x.bad x.cut)
    where
      broken : (t : List ℕ) → E t → (k : ℕ) → p ≡ at + k → k ≤ length t → BeginsIn M (take k t)
          → (k < length t → BeginsIn M (take (suc k) t) → ⊥) → (k ≡ length t → (m : ℕ) → M m t → ⊥) → Broken L t at p
      broken [] e zero q h i b c =
          record {
            k = 0;
            offset = q;
            inside = h;
            good = g;
            bad = λ l. absurd (omega arith);
            cut = λ l m w. c l m (to m [] e w);
          }
      broken [] e (suc k) q h i b c = absurd (omega arith)
      broken (a ∷ t) e zero q h i b c =
          record {
            k = 0;
            offset = q;
            inside = h;
            good = g;
            bad = λ l z. b l (begins_as L M _ _ (λ m w. to m _ (head-only a t _ e)) z);
            cut = λ l. absurd (omega arith);
          }
      broken (a ∷ t) e (suc k) q h i b c =
          record {
            k = suc k;
            offset = q;
            inside = h;
            good = begins_as M L _ _ (λ m w. from m _ (head-only a t _ e)) i;
            bad = λ l z. b l (begins_as L M _ _ (λ m w. to m _ (head-only a t _ e)) z);
            cut = λ l m w. c l m (to m (a ∷ t) e w);
          }

-- the same words altogether
pub account_same : (L M : Language) (t : List ℕ) (at : ℕ) {j : Result ℕ Break}
    → ((m : ℕ) (u : List ℕ) → L m u → M m u) → ((m : ℕ) (u : List ℕ) → M m u → L m u)
    → Account M t at j → Account L t at j
account_same L M t at to from (wraps m x) = wraps m (from m t x)
account_same L M t at to from (breaks p x) =
    breaks p record {
      k = x.k;
      offset = x.offset;
      inside = x.inside;
      good = begins_as M L _ _ (λ m w. from m _) x.good;
      bad = λ l z. x.bad l (begins_as L M _ _ (λ m w. to m _) z);
      cut = λ l m w. x.cut l m (to m t w);
    }

-- ---- one offset

-- what begins with the beginning of a word, begins one
begins_less : (L : Language) (i j : ℕ) (t : List ℕ) → i ≤ j → BeginsIn L (take j t) → BeginsIn L (take i t)
begins_less L i j t h g =
    let u = drop i (take j t) in
    let z : take i t ++ u ≡ take j t = rw (sym (take-take i j t h)) (take-append-drop i (take j t)) in
    let e : take i t ++ (u ++ g.rest) ≡ take j t ++ g.rest =
    sym (append_assoc (take i t) u g.rest) ∙ ap (λ l. l ++ g.rest) z in
    record { rest = u ++ g.rest; number = g.number; word = rw e g.word }

-- a text breaks at one offset, and is no word then
pub broken_one : (L : Language) (t : List ℕ) (at p q : ℕ) → Broken L t at p → Broken L t at q → p ≡ q
broken_one L t at p q x y =
    either x.k y.k
    (λ h. absurd (x.bad (omega (arith, y.inside)) (begins_less L _ _ t h y.good)))
    (λ h. either y.k x.k
    (λ i. absurd (y.bad (omega (arith, x.inside)) (begins_less L _ _ t i x.good)))
    (λ i. omega (arith, x.offset, y.offset)))

pub broken_none : (L : Language) (t : List ℕ) (at p m : ℕ) → Broken L t at p → L m t → ⊥
broken_none L t at p m x w =
    either x.k (length t)
    (λ h. x.bad h (record { rest = drop (suc x.k) t; number = m; word = rw (take-append-drop (suc x.k) t) w }))
    (λ h. x.cut (omega (arith, x.inside)) m w)

-- so of a judgement that has an account, breaking at p is being broken there
pub account_broken : (L : Language) (t : List ℕ) (at p : ℕ) → Account L t at (Err (break_at p)) → Broken L t at p
account_broken L t at p (breaks q x) = x

pub account_wraps : (L : Language) (t : List ℕ) (at m : ℕ) → Account L t at (Ok m) → L m t
account_wraps L t at m (wraps n x) = x

pub broken_breaks : (L : Language) (t : List ℕ) (at p : ℕ) {j : Result ℕ Break} → Account L t at j → Broken L t at p
    → j ≡ Err (break_at p)
broken_breaks L t at p (wraps m x) b = absurd (broken_none L t at p m b x)
broken_breaks L t at p (breaks q x) b = ap (λ (n : ℕ). Err (break_at n)) (broken_one L t at q p x b)

-- ---- words

-- w, and then a word of L
pub record After (w : List ℕ) (L : Language) (m : ℕ) (u : List ℕ) : Type 0 where
  pub next : List ℕ
  pub is : u ≡ w ++ next
  pub word : L m next

begins_after : (w : List ℕ) (L : Language) → BeginsIn L [] → BeginsIn (After w L) []
begins_after w L g =
    record {
      rest = w ++ g.rest;
      number = g.number;
      word = record { next = g.rest; is = refl; word = g.word };
    }

after_missing : (c : ℕ) (w : List ℕ) (L : Language) (m : ℕ) → After (c ∷ w) L m [] → ⊥
after_missing c w L m a = omega (arith, ap length a.is)

after_first : (c : ℕ) (w : List ℕ) (L : Language) (m b : ℕ) (u : List ℕ) → After (c ∷ w) L m (b ∷ u) → b ≡ c
after_first c w L m b u a = let e : b ∷ u ≡ c ∷ (w ++ a.next) = a.is in cc

after_others : (c : ℕ) (w : List ℕ) (L : Language) (m b : ℕ) (u : List ℕ) → After (c ∷ w) L m (b ∷ u) → After w L m u
after_others c w L m b u a =
    let e : b ∷ u ≡ c ∷ (w ++ a.next) = a.is in
    record { next = a.next; is = cc; word = a.word }

-- as far as t is w; then an account of what follows
pub account_after : (w : List ℕ) (L : Language) (t : List ℕ) (at : ℕ) (j : Result ℕ Break) → BeginsIn L []
    → (length w ≤ agreeing w t → Account L (drop (length w) t) (at + length w) j)
    → Account (After w L) t at (if ltb (agreeing w t) (length w) then Err (break_at (at + agreeing w t)) else j)
unfolding agreeing
account_after [] L t at j g x =
    let z : at + 0 ≡ at = omega arith in
    account_same (After [] L) L t at (λ m u a. rw a.is a.word)
    (λ m u a. record { next = u; is = refl; word = a })
    (rw z at (x (omega arith)))
account_after (c ∷ w) L [] at j g x =
    let z : at + 0 ≡ at = omega arith in
    rw (lt-ltb 0 (suc (length w)) (omega arith), z)
    (account_cut (After (c ∷ w) L) at (begins_after (c ∷ w) L g) (after_missing c w L))
account_after (c ∷ w) L (b ∷ t) at j g x =
    by_eq (λ n. (suc (length w) ≤ n → Account L (drop (length w) t) (at + suc (length w)) j)
    → Account (After (c ∷ w) L) (b ∷ t) at (if ltb n (suc (length w)) then Err (break_at (at + n)) else j))
    (suc (agreeing w t)) 0 b c
    (λ e y.
    let z : at + suc (agreeing w t) ≡ suc at + agreeing w t = omega arith in
    let i : at + suc (length w) ≡ suc at + length w = omega arith in
    rw (leb-suc-suc (suc (agreeing w t)) (length w), z)
    (account_more (After (c ∷ w) L) b t at
    (account_same (behind b (After (c ∷ w) L)) (After w L) t (suc at)
    (λ m u a. after_others c w L m b u a)
    (λ m u a. record { next = a.next; is = cc a.is; word = a.word })
    (account_after w L t (suc at) j g (λ h. rw i at (y (omega arith)))))))
    (λ e y.
    let z : at + 0 ≡ at = omega arith in
    rw (lt-ltb 0 (suc (length w)) (omega arith), z)
    (account_wrong (After (c ∷ w) L) b t at (begins_after (c ∷ w) L g) (λ m u a. e (after_first c w L m b u a))))
    x

-- a word of its own
abbrev pub Only : ℕ → List ℕ → Language
Only n w m u = (u ≡ w) × (m ≡ n)

only_begins : (n : ℕ) → BeginsIn (Only n []) []
only_begins n = record { rest = []; number = n; word = (refl, refl) }

-- nothing may follow
account_last : (n k at : ℕ) (t : List ℕ)
    → Account (Only n []) (drop k t) at (if ltb k (length t) then Err (break_at at) else Ok n)
account_last n k at t =
    by_lt (λ j. Account (Only n []) (drop k t) at j) (Err (break_at at)) (Ok n) k (length t)
    (λ h.
    rw (drop-cons t k 0 h)
    (account_wrong (Only n []) _ _ at (only_begins n) (λ m u a. omega (arith, ap length a.0))))
    (λ h. wraps n (drop_of_length-le t h, refl))

-- the word w, and nothing behind it
pub account_closed : (w : List ℕ) (n at : ℕ) (t : List ℕ) → Account (Only (bytes_of n) w) t at (closed_by w n at t)
unfolding closed_by
account_closed w n at t =
    account_same (Only (bytes_of n) w) (After w (Only (bytes_of n) [])) t at
    (λ m u a. record { next = []; is = a.0 ∙ sym (append-nil w); word = (refl, a.1) })
    (λ m u a. (a.is ∙ ap (λ l. w ++ l) a.word.0 ∙ append-nil w, a.word.1))
    (account_after w (Only (bytes_of n) []) t at _ (only_begins (bytes_of n))
    (λ h. account_last (bytes_of n) (length w) (at + length w) t))
