-- Headers of a list that is longer or shorter, and what the account then comes to: a file that is
-- cut, and one with bytes after it.
use mathlib.Core.Bool.{Bool, true, false}
use mathlib.Core.Path.{◌≡◌, refl, sym, ap, ◌∙◌}
use mathlib.Core.List.{List, [], ◌∷◌, ◌++◌}
use Prim.Native.Nat.{ℕ, ◌+◌, ◌*◌, ◌%◌, ◌≤◌, ◌<◌}
use native.Mathlib.Omega.{arith}
use lib.Dec.{ltb, eqb}
use lib.ListN.{length, take, drop, length-append, length-drop}
use lib.Seq.{take-append-le, drop-append-le}
use borrow.Author.Tests.{lt-ltb, le-ltb}
use Rattle.std.specs.Prelude.{if◌then◌else◌}
use Rattle.der.proofs.Choices.{by_lt, by_eq}
use Rattle.refusals.specs.Element.{Left, left, Made, Account, stops, goes, Rule, Header, wrong, right, on_header}
use Rattle.refusals.specs.Element.{fitting, after81, after82, sized, header, where_none, closed}
use Rattle.refusals.specs.Element.{element, is, constructed}
use Rattle.refusals.proofs.Kept.{OfHeader, header_of}

-- ---- a header in a longer list

abbrev Longer : List ℕ → Header → Header → Type 0
Longer r (wrong n) h = Unit {0}
Longer r (right t k size x) h = h ≡ right t k size (x ++ r)

fitting_longer : (r : List ℕ) (t k size : ℕ) (x : List ℕ) → Longer r (fitting t k size x) (fitting t k size (x ++ r))
unfolding fitting
fitting_longer r t k size x =
    by_lt (λ y. Longer r y (if ltb (length (x ++ r)) size then wrong 15 else right t k size (x ++ r))) _ _ (length x)
    size (λ h. tt)
    (λ h. rw (le-ltb (length (x ++ r)) size (omega (arith, length-append x r))) refl)

longer_test : (r : List ℕ) (u : Bool) (a b c d : Header) → Longer r a c → Longer r b d
    → Longer r (if u then a else b) (if u then c else d)
longer_test r true a b c d p q = p
longer_test r false a b c d p q = q

pub header_longer : (f r : List ℕ) → Longer r (header f) (header (f ++ r))
unfolding header sized after81 after82
header_longer [] r = tt
header_longer (t ∷ []) r = longer_test r (eqb t 0) (wrong 2) _ _ _ tt
    (longer_test r (eqb (t % 0x20) 0x1F) (wrong 2) (wrong 15) (wrong 2) _ tt tt)
header_longer (t ∷ n ∷ x) r =
    longer_test r (eqb t 0) (wrong 2) _ (wrong 2) _ tt
    (longer_test r (eqb (t % 0x20) 0x1F) (wrong 2) _ (wrong 2) _ tt
    (longer_test r (ltb n 0x80) _ _ _ _ (fitting_longer r t 2 n x)
    (longer_test r (eqb n 0x81) _ _ _ _ (one x)
    (longer_test r (eqb n 0x82) _ (wrong 3) _ (wrong 3) (two x) tt))))
  where
    one : (y : List ℕ) → Longer r (after81 t y) (after81 t (y ++ r))
    one [] = tt
    one (a ∷ y) = longer_test r (ltb a 0x80) (wrong 3) _ (wrong 3) _ tt (fitting_longer r t 3 a y)

    two : (y : List ℕ) → Longer r (after82 t y) (after82 t (y ++ r))
    two [] = tt
    two (a ∷ []) = tt
    two (a ∷ b ∷ y) = longer_test r (eqb a 0) (wrong 3) _ (wrong 3) _ tt (fitting_longer r t 4 (a * 0x100 + b) y)

-- ---- a header in a list that is cut before the element's end

-- the whole list f ++ r has the header c, and f, which isn't empty, less than its element: then the
-- element runs past the end of f
abbrev Cut : List ℕ → Header → Header → Type 0
Cut f h (wrong n) = Unit {0}
Cut f h (right t k size x) = 0 < length f → length f < k + size → h ≡ wrong 15

fitting_cut : (f : List ℕ) (t k size : ℕ) (x r : List ℕ) → length f ≡ k + length x
    → Cut f (fitting t k size x) (fitting t k size (x ++ r))
unfolding fitting
fitting_cut f t k size x r e =
    by_lt (Cut f (if ltb (length x) size then wrong 15 else right t k size x)) _ _ (length (x ++ r)) size (λ h. tt)
    (λ h k l. rw (lt-ltb (length x) size (omega arith)) refl)

cut_test : (f : List ℕ) (u : Bool) (a b c d : Header) → Cut f a c → Cut f b d
    → Cut f (if u then a else b) (if u then c else d)
cut_test f true a b c d p q = p
cut_test f false a b c d p q = q

-- whatever the header of the whole, nothing but a byte that is missing is wrong with these
cut_short : (f : List ℕ) (c : Header) → Cut f (wrong 15) c
cut_short f (wrong n) = tt
cut_short f (right t k size x) = λ h l. refl

-- of the empty list nothing is said
cut_empty : (h c : Header) → Cut [] h c
cut_empty h (wrong n) = tt
cut_empty h (right t k size x) = λ e l. absurd (omega arith)

pub header_cut : (f r : List ℕ) → Cut f (header f) (header (f ++ r))
unfolding header sized after81 after82
header_cut [] r = cut_empty (header []) (header r)
header_cut (t ∷ []) r =
    cut_test (t ∷ []) (eqb t 0) (wrong 2) _ (wrong 2) _ tt
    (cut_test (t ∷ []) (eqb (t % 0x20) 0x1F) (wrong 2) (wrong 15) (wrong 2) _ tt (cut_short (t ∷ []) (sized t r)))
header_cut (t ∷ n ∷ x) r =
    cut_test (t ∷ n ∷ x) (eqb t 0) (wrong 2) _ (wrong 2) _ tt
    (cut_test (t ∷ n ∷ x) (eqb (t % 0x20) 0x1F) (wrong 2) _ (wrong 2) _ tt
    (cut_test (t ∷ n ∷ x) (ltb n 0x80) _ _ _ _ (fitting_cut (t ∷ n ∷ x) t 2 n x r (omega arith))
    (cut_test (t ∷ n ∷ x) (eqb n 0x81) _ _ _ _ (one x)
    (cut_test (t ∷ n ∷ x) (eqb n 0x82) _ (wrong 3) _ (wrong 3) (two x) tt))))
  where
    one : (y : List ℕ) → Cut (t ∷ n ∷ y) (after81 t y) (after81 t (y ++ r))
    one [] = cut_short (t ∷ n ∷ []) (after81 t r)
    one (a ∷ y) = cut_test (t ∷ n ∷ a ∷ y) (ltb a 0x80) (wrong 3) _ (wrong 3) _ tt
        (fitting_cut (t ∷ n ∷ a ∷ y) t 3 a y r (omega arith))

    two : (y : List ℕ) → Cut (t ∷ n ∷ y) (after82 t y) (after82 t (y ++ r))
    two [] = cut_short (t ∷ n ∷ []) (after82 t r)
    two (a ∷ []) = cut_short (t ∷ n ∷ a ∷ []) (after82 t (a ∷ r))
    two (a ∷ b ∷ y) = cut_test (t ∷ n ∷ a ∷ b ∷ y) (eqb a 0) (wrong 3) _ (wrong 3) _ tt
        (fitting_cut (t ∷ n ∷ a ∷ b ∷ y) t 4 (a * 0x100 + b) y r (omega arith))

-- ---- one element that is a whole file

-- an account that goes on is none that stops
pub apart : {A : Type 0} (m : Made) (l : Left) (n p : ℕ) → stops n p ≡ goes m l → A
apart m l n p e = let z : ◌≡◌ {A = ℕ} 0 1 = cc in absurd (omega arith)

-- a body that comes to its end does so whatever follows it
closed_any : (a : Account) (after : Left) (m : Made) (l : Left) → closed a after ≡ goes m l → (l ≡ after)
    × ((other : Left) → closed a other ≡ goes m other)
closed_any (stops n p) after m l e = apart m l n p e
closed_any (goes k b) after m l e = go b.bytes e
  where
    go : (x : List ℕ) → where_none x (goes k after) (stops 6 b.offset) ≡ goes m l
        → (l ≡ after) × ((other : Left) → where_none x (goes k other) (stops 6 b.offset) ≡ goes m other)
    go [] q = (cc, λ other. let z : k ≡ m = cc in rw z refl)
    go (y ∷ x) q = apart m l 6 b.offset q

-- what the body of a SEQUENCE at 0 comes to, by the sizes of its header and its body
abbrev pub in_body : Rule → Made → ℕ → ℕ → List ℕ → Account
in_body rule made h size x = closed (rule made (left (0 + h) (take size x))) (left (0 + h + size) (drop size x))

-- what holds of a wrong header, of another tag and of a body holds of the account of a SEQUENCE at 0
pub by_sequence : (P : Account → Type 0) (rule : Rule) (made : Made) (f : List ℕ)
    → ((n : ℕ) → header f ≡ wrong n → P (stops n 0))
    → P (stops 4 0)
    → ((h size : ℕ) (x : List ℕ) → header f ≡ right 0x30 h size x → OfHeader f (right 0x30 h size x)
    → P (in_body rule made h size x))
    → P (constructed 0x30 rule made (left 0 f))
unfolding element
by_sequence P rule made f bad other good = go (header f) refl (header_of f)
  where
    go : (x : Header) → header f ≡ x → OfHeader f x
        → P (on_header x (λ n. stops n 0) (λ t h size y. if is 0x30 t then in_body rule made h size y else stops 4 0))
    go (wrong n) e q = bad n e
    go (right t h size y) e q = by_eq P _ _ t 0x30 (λ z. good h size y (rw z at e) q) (λ z. other)

-- a file of one SEQUENCE: its header, and that its body comes to its end
pub record Whole (rule : Rule) (made : Made) (f : List ℕ) : Type 0 where
  pub head : ℕ
  pub size : ℕ
  pub rest : List ℕ
  pub last : Made
  pub is_header : header f ≡ right 0x30 head size rest
  pub long : head + size ≡ length f
  pub over : drop size rest ≡ []
  pub body : (other : Left) → closed (rule made (left (0 + head) (take size rest))) other ≡ goes last other

none_of : (x : List ℕ) (k m : Made) (p : ℕ) (after l : Left) → where_none x (goes k after) (stops 6 p) ≡ goes m l → x
    ≡ []
none_of [] k m p after l e = refl
none_of (b ∷ x) k m p after l e = apart m l 6 p e

pub whole_of : (rule : Rule) (made : Made) (f : List ℕ) (after : Left) (m : Made) (l : Left)
    → closed (constructed 0x30 rule made (left 0 f)) after ≡ goes m l → Whole rule made f
whole_of rule made f after m l =
    by_sequence (λ a. closed a after ≡ goes m l → Whole rule made f) rule made f (λ n e c. apart m l n 0 c)
    (λ c. apart m l 4 0 c) (λ h size x e q. ends h size x e q.0 q.1 (in_body rule made h size x) refl)
  where
    ends : (h size : ℕ) (x : List ℕ) → header f ≡ right 0x30 h size x → h + length x ≡ length f → size ≤ length x
        → (a : Account) → in_body rule made h size x ≡ a → closed a after ≡ goes m l → Whole rule made f
    ends h size x e p q (stops n k) i c = apart m l n k c
    ends h size x e p q (goes n b) i c =
        let j = closed_any (rule made (left (0 + h) (take size x))) (left (0 + h + size) (drop size x)) n b i in
        let y : drop size x ≡ [] = ap (λ (z : Left). z.bytes) (sym j.0)
        ∙ none_of b.bytes n m b.offset after l c in
        record {
          head = h;
          size = size;
          rest = x;
          last = n;
          is_header = e;
          long = omega (arith, length-drop size x, ap length y);
          over = y;
          body = j.1;
        }

-- the same file with bytes after it, and one that is cut
pub after_stops : (rule : Rule) (made : Made) (f : List ℕ) (b : ℕ) (r : List ℕ) (after : Left) → Whole rule made f
    → closed (constructed 0x30 rule made (left 0 (f ++ (b ∷ r)))) after ≡ stops 6 (length f)
unfolding element
after_stops rule made f b r after w =
    let q : header (f ++ (b ∷ r)) ≡ right 0x30 w.head w.size (w.rest ++ (b ∷ r)) = rw w.is_header at
    (header_longer f (b ∷ r)) in
    let o : OfHeader f (right 0x30 w.head w.size w.rest) = rw w.is_header at (header_of f) in
    let x : take w.size (w.rest ++ (b ∷ r)) ≡ take w.size w.rest = take-append-le w.size w.rest
    (b ∷ r) o.1 in
    let y : drop w.size (w.rest ++ (b ∷ r)) ≡ b ∷ r =
    drop-append-le w.size w.rest (b ∷ r) o.1 ∙ ap (λ (z : List ℕ). z ++ (b ∷ r)) w.over in
    let e : 0 + w.head + w.size ≡ length f = omega (arith, w.long) in
    rw (q, x, y, w.body (left (0 + w.head + w.size) (b ∷ r)), e) refl

pub cut_stops : (rule : Rule) (made : Made) (f r : List ℕ) (after : Left) → Whole rule made (f ++ r)
    → 0 < length f → 0 < length r → closed (constructed 0x30 rule made (left 0 f)) after ≡ stops 15 0
unfolding element
cut_stops rule made f r after w k h =
    let c : Cut f (header f) (right 0x30 w.head w.size w.rest) = rw w.is_header at (header_cut f r) in
    rw (c k (omega (arith, w.long, length-append f r))) refl
