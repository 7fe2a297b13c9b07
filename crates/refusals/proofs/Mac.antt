-- The MAC fields: the walk beside the account.
use mathlib.Core.Bool.{true, false}
use mathlib.Core.Path.{◌≡◌, refl, sym}
use mathlib.Core.List.{List}
use Prim.Native.Nat.{ℕ, ◌+◌}
use native.Mathlib.Omega.{arith}
use lib.Dec.{leb, eqb}
use borrow.Author.Tests.{le-leb, lt-leb}
use Rattle.std.specs.Prelude.{if◌then◌else◌}
use Rattle.der.specs.Element.{tag_at}
use Rattle.der.specs.Content.{bytes_of}
use Rattle.der.specs.Octets.{number}
use Rattle.der.specs.declared.Fault.{Fault}
use Rattle.der.specs.declared.Cursor.{Cursor}
use Rattle.der.proofs.Choices.{either}
use Rattle.pkcs12.specs.Walk.{range_of, on_mac, sealed_at, iterations_at, mac_at}
use Rattle.range.specs.declared.Range.{Range}
use Rattle.pkcs12.specs.declared.row.Parts.{Parts}
use Rattle.pkcs12.specs.declared.row.Mac.{Mac}
use Rattle.pkcs12.specs.declared.answers.Parsed.{Parsed}
use Rattle.std.specs.Prelude.{Err, Result}
use Rattle.refusals.specs.Element.{Left, Made, Account, stops, goes, closed, allowed, onwards, ◌before◌, if_tag}
use Rattle.refusals.specs.Element.{anything, primitive}
use Rattle.refusals.specs.Bodies.{is_integer, iterations}
use Rattle.refusals.specs.Grammar.{mac_data}
use Rattle.refusals.proofs.Headers.{Lies}
use Rattle.refusals.proofs.Links.{here, Past, link_test, link_expect, link_integer, link_finish}
use Rattle.refusals.proofs.Links.{first_tag}
use Rattle.refusals.proofs.Agree.{Agree, mac_out, by_parts}
use Rattle.refusals.proofs.Parts.{sealed_agrees}

no_number : (x : List ℕ) → is_integer x ≡ false → iterations x ≡ 5
unfolding iterations
no_number x e = rw e refl

number_is : (x : List ℕ) → is_integer x ≡ true → iterations x ≡ (if leb (number x) 1 then 5 else 0)
unfolding iterations
number_is x e =
    rw e
    (either 1 (number x)
    (λ h. rw (le-leb 2 (number x) (omega arith), lt-leb (number x) 1 h) refl)
    (λ h. rw (lt-leb 2 (number x) (omega arith), le-leb (number x) 1 h) refl))

module _ (s : List ℕ) (made : Made) where
  -- the iterations, if they are there, and the end of their parent
  iterations_link : {A : Type 0} (P : A → Account → Type 0) (bad : Fault → A)
      (strict : (f : Fault) → P (bad f) (stops f.number f.offset))
      (c : Cursor) → Lies s c → (after : Left) (p : Parts) (salt : Range) (k : ℕ) (good : Mac → ℕ → Cursor → A)
      → ((x : Mac) (j : ℕ) (f : Cursor) → P (good x j f) (goes made after))
      → P (on_mac (iterations_at s p salt k c) bad good)
      (closed (if_tag 0x02 (primitive 0x02 iterations) made (here s c)) after)
  unfolding iterations_at
  iterations_link P bad strict c h after p salt k good g =
      rw (sym (first_tag s c 0x02 h refl))
      (link_test P (λ x. on_mac x bad good) (λ a. closed a after) (eqb (tag_at s c) 0x02) _ _ _ _
      (λ u.
      link_integer s (λ x a. P (on_mac x bad good) a) Err (λ a. closed a after) strict c h made iterations
      no_number _
      (λ i e d v.
      rw (number_is (bytes_of s i) v)
      (link_test P (λ x. on_mac x bad good) (λ k. closed (allowed k c.at made (here s e)) after)
      (leb (number (bytes_of s i)) 1) _ _ _ _
      (λ w. strict _)
      (λ w. link_finish s (λ x a. P (on_mac x bad good) a) Err (λ a. a) strict e d.past.lies made after _
      (λ z. g _ _ _)))))
      (λ u. link_finish s (λ x a. P (on_mac x bad good) a) Err (λ a. a) strict c h made after _
      (λ z. g _ _ _)))

  pub mac_agrees : (c : Cursor) → Lies s c → Agree s (Past s c) (mac_out made (mac_at s c)) (mac_data made (here s c))
  unfolding mac_at mac_data
  mac_agrees c h =
      link_expect s Good Err (λ a. a) (λ f. refl) c h made 0x30 _ _ _
      (λ b n d.
      by_parts s Good Err (λ a. closed (onwards a
      (primitive 0x04 anything before if_tag 0x02 (primitive 0x02 iterations))) (here s n)) (λ f. refl) (Past s b) made
      _
      (sealed_at s b) _ (sealed_agrees s made b d.body)
      (λ p k m q.
      link_expect s Good Err (λ a. closed (onwards a (if_tag 0x02 (primitive 0x02 iterations))) (here s n))
      (λ f. refl) m q.lies made 0x04 _ _ _
      (λ o e g. iterations_link Good Err (λ f. refl) e g.past.lies (here s n) p (range_of o) (k + 2) _
      (λ x j f. (refl, d.past)))))
    where
      Good : Result (Parsed Mac) Fault → Account → Type 0
      Good x a = Agree s (Past s c) (mac_out made x) a
