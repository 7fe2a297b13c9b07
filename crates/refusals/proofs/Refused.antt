-- A refusal is where the account stops, and the other way round; and what follows of numbers,
-- offsets, cut files and bytes after a file.
use mathlib.Core.Logic.{◌⊎◌, inl, inr}
use mathlib.Core.Path.{◌≡◌, refl, sym, ap, ◌∙◌}
use mathlib.Core.List.{List, [], ◌∷◌, ◌++◌}
use Prim.Native.Nat.{ℕ, ◌+◌, ◌≤◌, ◌<◌}
use native.Mathlib.Omega.{arith}
use lib.ListN.{length, length-append}
use borrow.Author.Tests.{lt-ltb, le-ltb}
use Rattle.der.specs.Element.{fault}
use Rattle.der.proofs.Choices.{either}
use Rattle.pkcs12.specs.Walk.{read_file}
use Rattle.pkcs12.specs.Accepted.{IsAccepted}
use Rattle.der.specs.declared.Fault.{Fault}
use Rattle.std.specs.Prelude.{Err, Ok, Result, ⊤}
use Rattle.pkcs12.proofs.AcceptedFile.{accepted_size}
use Rattle.refusals.specs.Element.{Left, left, Made, Account, stops, goes, closed}
use Rattle.refusals.specs.Grammar.{pfx, none_made, account_of}
use Rattle.refusals.proofs.File.{Agreed, file_agrees}
use Rattle.refusals.proofs.Kept.{Number, Kept, closed_kept, in_pfx, pfx_keeps}
use Rattle.refusals.proofs.Fronts.{apart, Whole, whole_of, after_stops, cut_stops}

pub refused_stops : (f : List ℕ) (n p : ℕ) → (read_file f).answer ≡ Err (fault n p) → account_of f ≡ stops n p
refused_stops f n p e = rw e at (file_agrees f)

stops_at : (f : List ℕ) (n p : ℕ) (x : Result ⊤ Fault) (a : Account) → Agreed f x a → a ≡ stops n p → x
    ≡ Err (fault n p)
stops_at f n p (Err r) a q e =
    let z : stops r.number r.offset ≡ stops n p = sym q ∙ e in
    let u : r.number ≡ n = cc in
    let v : r.offset ≡ p = cc in
    rw (sym u, sym v) refl
stops_at f n p (Ok tt) a q e = apart q.0 (left (length f) []) n p (sym e ∙ q.1)

pub stops_refused : (f : List ℕ) (n p : ℕ) → account_of f ≡ stops n p → (read_file f).answer ≡ Err (fault n p)
stops_refused f n p e = stops_at f n p (read_file f).answer (account_of f) (file_agrees f) e

pub accepted_goes : (f : List ℕ) → IsAccepted f → (made : Made) × (account_of f ≡ goes made (left (length f) []))
accepted_goes f e = rw e at (file_agrees f)

goes_at : (f : List ℕ) (m : Made) (l : Left) (x : Result ⊤ Fault) (a : Account) → Agreed f x a → a ≡ goes m l → x ≡ Ok tt
goes_at f m l (Err r) a q e = apart m l r.number r.offset (sym q ∙ e)
goes_at f m l (Ok tt) a q e = refl

pub goes_accepted : (f : List ℕ) (m : Made) (l : Left) → account_of f ≡ goes m l → IsAccepted f
goes_accepted f m l e = goes_at f m l (read_file f).answer (account_of f) (file_agrees f) e

-- ---- numbers and offsets

-- the account of a file, by its length
pub too_long_lem : (f : List ℕ) → 65535 < length f → account_of f ≡ stops 9 0
unfolding account_of
too_long_lem f h = rw (lt-ltb 65535 (length f) h) refl

pub not_long : (f : List ℕ) → length f ≤ 65535 → account_of f ≡ closed (pfx none_made (left 0 f)) (left (length f) [])
unfolding account_of
not_long f h = rw (le-ltb 65535 (length f) h) refl

file_kept : (f : List ℕ) → Kept 0 (length f) (closed (pfx none_made (left 0 f)) (left (length f) []))
file_kept f =
    closed_kept 0 0 (0 + length f) (length f) (pfx none_made (left 0 f)) (left (length f) []) (omega arith)
    (omega arith) (pfx_keeps.kept none_made (left 0 f)) (omega arith) (omega arith)

pub refusal_of_lem : (f : List ℕ) (n p : ℕ) → (read_file f).answer ≡ Err (fault n p)
    → (((1 ≤ n) × (n ≤ 9)) ⊎ (n ≡ 15)) × (p ≤ length f)
refusal_of_lem f n p e =
    let a = refused_stops f n p e in
    either 65535 (length f)
    (λ h.
    let z : stops n p ≡ stops 9 0 = sym a ∙ too_long_lem f h in
    let u : n ≡ 9 = cc in
    let v : p ≡ 0 = cc in
    (inl (omega arith, omega arith), omega arith))
    (λ h.
    let k : Kept 0 (length f) (stops n p) = rw (sym (not_long f h) ∙ a) at (file_kept f) in
    (wider k.0, k.2))
  where
    wider : Number n → ((1 ≤ n) × (n ≤ 9)) ⊎ (n ≡ 15)
    wider (inl h) = inl (h.0, omega (arith, h.1))
    wider (inr h) = inr h

pub long_is_9 : (f : List ℕ) → 65535 < length f → (read_file f).answer ≡ Err (fault 9 0)
long_is_9 f h = stops_refused f 9 0 (too_long_lem f h)

pub nine_is_long : (f : List ℕ) (p : ℕ) → (read_file f).answer ≡ Err (fault 9 p) → (65535 < length f)
    × (p ≡ 0)
nine_is_long f p e =
    let a = refused_stops f 9 p e in
    either 65535 (length f)
    (λ h.
    let z : stops 9 p ≡ stops 9 0 = sym a ∙ too_long_lem f h in
    let v : p ≡ 0 = cc in
    (h, v))
    (λ h.
    let k : Kept 0 (length f) (stops 9 p) = rw (sym (not_long f h) ∙ a) at (file_kept f) in
    absurd (not_nine k.0))
  where
    not_nine : Number 9 → ⊥
    not_nine (inl h) = omega (arith, h.1)
    not_nine (inr h) = omega (arith, h)

-- ---- accepted files, cut or with bytes after them

accepted_whole : (f : List ℕ) → IsAccepted f → Whole in_pfx none_made f
unfolding pfx
accepted_whole f e =
    let g = accepted_goes f e in
    whole_of in_pfx none_made f (left (length f) []) g.0 (left (length f) [])
    (sym (not_long f (accepted_size f e)) ∙ g.1)

pub cut_refused : (f g r : List ℕ) → IsAccepted g → f ++ r ≡ g → (f ≡ [] → ⊥) → (r ≡ [] → ⊥)
    → (read_file f).answer ≡ Err (fault 15 0)
unfolding pfx
cut_refused [] g r e q k h = absurd (k refl)
cut_refused (a ∷ f) g [] e q k h = absurd (h refl)
cut_refused (a ∷ f) g (b ∷ r) e q k h =
    let w : Whole in_pfx none_made ((a ∷ f) ++ (b ∷ r)) = rw (sym q) at (accepted_whole g e) in
    stops_refused (a ∷ f) 15 0
    (not_long (a ∷ f) (omega (arith, accepted_size g e, ap length q, length-append (a ∷ f) (b ∷ r)))
    ∙ cut_stops in_pfx none_made (a ∷ f) (b ∷ r) (left (length (a ∷ f)) []) w (omega arith) (omega arith))

pub after_refused : (f r : List ℕ) → IsAccepted f → (r ≡ [] → ⊥) → length (f ++ r) ≤ 65535 → (read_file (f ++ r)).answer
    ≡ Err (fault 6 (length f))
unfolding pfx
after_refused f [] e h k = absurd (h refl)
after_refused f (b ∷ r) e h k =
    stops_refused (f ++ (b ∷ r)) 6 (length f)
    (not_long (f ++ (b ∷ r)) k ∙ after_stops in_pfx none_made f b r (left (length (f ++ (b ∷ r))) [])
    (accepted_whole f e))
