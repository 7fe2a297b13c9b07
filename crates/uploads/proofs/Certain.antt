-- A state records a fault exactly if it is certain: every completion of what has arrived is refused
-- with it. And a certain fault stays certain.
use mathlib.Core.Path.{◌≡◌, refl, sym, ap, ◌∙◌}
use mathlib.Core.Logic.{◌↔◌}
use mathlib.Core.List.{List, ◌++◌, append_assoc}
use mathlib.Core.Option.{Option, some}
use mathlib.Core.Option as option
use Prim.Native.Nat.{ℕ, ◌-◌, ◌≤◌}
use native.Mathlib.Omega.{arith}
use lib.ListN.{length, length-append}
use Rattle.der.specs.Span.{Bytes}
use Rattle.der.specs.declared.Fault.{Fault}
use Rattle.der.proofs.Octets.{bytes_append}
use Rattle.uploads.specs.Whole.{Answer, Refused, Passed, whole}
use Rattle.uploads.specs.Certain.{Certain}
use Rattle.uploads.proofs.Machine.{State, Failed, Open, Done, feed, start, certainly}
use Rattle.uploads.proofs.Fed.{fed_append, fed_failed}
use Rattle.uploads.proofs.Link.{after, whole_fed}
use Rattle.uploads.proofs.Kept.{given}
use Rattle.uploads.proofs.Zeros.{zeros, bytes_zeros, length_zeros}
use Rattle.uploads.proofs.Unsure.{unsure}

after_refused : (a : Answer) (f : Fault) → after a ≡ Failed f → a ≡ Refused f
unfolding after
after_refused (Refused g) f e = let z : g ≡ f = cc in rw z
after_refused (Passed tl) f e = let z : ◌≡◌ {A = ℕ} 0 1 = cc in absurd (omega arith)

refused_after_lem : (a : Answer) (f : Fault) → a ≡ Refused f → after a ≡ Failed f
unfolding after
refused_after_lem a f e = rw e

certainly_failed : (st : State) (f : Fault) → certainly st ≡ some f → st ≡ Failed f
unfolding certainly
certainly_failed (Failed g) f e = let z : g ≡ f = cc in rw z
certainly_failed (Open x ends tl) f e = let z : ◌≡◌ {A = ℕ} 0 1 = cc in absurd (omega arith)
certainly_failed (Done tl) f e = let z : ◌≡◌ {A = ℕ} 0 1 = cc in absurd (omega arith)

failed_certainly : (st : State) (f : Fault) → st ≡ Failed f → certainly st ≡ some f
unfolding certainly
failed_certainly st f e = rw e

-- a fault stays, whatever bytes follow
failed_on : (n : ℕ) (p q : List ℕ) (f : Fault) → certainly (feed n (start n) p) ≡ some f
    → feed n (start n) (p ++ q) ≡ Failed f
failed_on n p q f e =
    let z = certainly_failed (feed n (start n) p) f e in
    fed_append n (start n) p q ∙ ap (λ st. feed n st q) z ∙ fed_failed n f q

pub repeated : (n : ℕ) (p q : List ℕ) (f : Fault) → length (p ++ q) ≤ n
    → certainly (feed n (start n) p) ≡ some f → certainly (feed n (start n) (p ++ q)) ≡ some f
repeated n p q f h e = failed_certainly (feed n (start n) (p ++ q)) f (failed_on n p q f e)

-- the same of the definition
pub still_certain : (n : ℕ) (p q : List ℕ) (f : Fault) → Bytes q → Certain n p f → Certain n (p ++ q) f
unfolding Certain
still_certain n p q f b c t bt e =
    let z : (p ++ q) ++ t ≡ p ++ (q ++ t) = append_assoc p q t in
    rw z (c (q ++ t) (bytes_append q t b bt) (rw z at e))

-- a completion of p
complete : (n : ℕ) (p t : List ℕ) → length p ≤ n → length t ≡ n - length p → length (p ++ t) ≡ n
complete n p t h e = rw (length-append p t, e) (omega arith)

fed_whole : (n : ℕ) (p t : List ℕ) → Bytes p → Bytes t → length (p ++ t) ≡ n
    → feed n (start n) (p ++ t) ≡ after (whole (p ++ t))
fed_whole n p t bp bt e = rw e at (whole_fed (p ++ t) (bytes_append p t bp bt))

pub certainly_certain : (n : ℕ) (p : List ℕ) (f : Fault) → Bytes p
    → certainly (feed n (start n) p) ≡ some f → Certain n p f
unfolding Certain
certainly_certain n p f bp e t bt s =
    after_refused (whole (p ++ t)) f (sym (fed_whole n p t bp bt s) ∙ failed_on n p t f e)

pub certain_certainly : (n : ℕ) (p : List ℕ) (f : Fault) → Bytes p → length p ≤ n
    → Certain n p f → certainly (feed n (start n) p) ≡ some f
unfolding Certain
certain_certainly n p f bp h c = go (certainly st) refl
  where
    st : State
    st = feed n (start n) p

    k : ℕ
    k = n - length p

    go : (x : Option Fault) → certainly st ≡ x → x ≡ some f
    go (some g) e =
        let l = complete n p (zeros k) h (length_zeros k) in
        let a : whole (p ++ zeros k) ≡ Refused g = certainly_certain n p g bp e (zeros k) (bytes_zeros k) l in
        let b : whole (p ++ zeros k) ≡ Refused f = c (zeros k) (bytes_zeros k) l in
        let z : g ≡ f = cc in
        rw z
    go option.none e =
        let o = unsure n (length p) k st f (given n p h) (omega arith) e in
        let l = complete n p o.rest h o.size in
        let a = sym (fed_append n (start n) p o.rest) ∙ fed_whole n p o.rest bp o.bytes l in
        absurd (o.other (a ∙ refused_after_lem (whole (p ++ o.rest)) f (c o.rest o.bytes l)))

pub certain_iff : (n : ℕ) (p : List ℕ) (f : Fault) → Bytes p → length p ≤ n
    → (certainly (feed n (start n) p) ≡ some f) ↔ Certain n p f
certain_iff n p f bp h = (certainly_certain n p f bp, certain_certainly n p f bp h)
