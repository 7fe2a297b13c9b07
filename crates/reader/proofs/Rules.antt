-- Rules by which `search` follows the walk's definitions as the code's own tests decided them (see
-- der's Choices), beside those of `parts`.
use mathlib.Core.Path.{◌≡◌, sym, ◌∙◌}
use mathlib.Core.List.{List}
use Prim.Native.Nat.{ℕ}
use lib.Dec.{eqb}
use borrow.Author.Tests.{eq-eqb, ne_eqb}
use Rattle.std.specs.Prelude.{if◌then◌else◌}
use Rattle.der.specs.declared.Fault.{Fault}
use Rattle.der.specs.declared.Cursor.{Cursor}
use Rattle.pkcs12.specs.Walk.{on_mac, iterations_at}
use Rattle.range.specs.declared.Range.{Range}
use Rattle.pkcs12.specs.declared.row.Parts.{Parts}
use Rattle.pkcs12.specs.declared.row.Mac.{Mac}
use Rattle.pkcs12.specs.declared.answers.Parsed.{Parsed}
use Rattle.std.specs.Prelude.{Err, Ok, Result}

-- a test of what a callee returned: u is its answer
module _ {A : Type 0} where
  pub given_eq : (a b u : ℕ) (r x y : A) → u ≡ a → u ≡ b → r ≡ x → r ≡ (if eqb a b then x else y)
  given_eq a b u r x y p q e = rw (eq-eqb a b (sym p ∙ q)) e

  pub given_ne : (a b u : ℕ) (r x y : A) → u ≡ a → (u ≡ b → ⊥) → r ≡ y → r ≡ (if eqb a b then x else y)
  given_ne a b u r x y p q e = rw (ne_eqb a b (λ z. q (p ∙ z))) e

  -- the iterations behind a salt, whose range the code made
  pub salted_refused : (s : List ℕ) (p : Parts) (x y : Range) (k : ℕ) (c : Cursor) (w : Result (Parsed Mac) Fault)
      (f : Fault) (r : A) (bad : Fault → A) (good : Mac → ℕ → Cursor → A)
      → w ≡ iterations_at s p x k c → x ≡ y → w ≡ Err f → r ≡ bad f
      → r ≡ on_mac (iterations_at s p y k c) bad good
  salted_refused s p x y k c w f r bad good e z q h = rw (← z, ← e, q) h

  pub salted_found : (s : List ℕ) (p : Parts) (x y : Range) (k : ℕ) (c : Cursor) (w : Result (Parsed Mac) Fault)
      (m : Parsed Mac) (r : A) (bad : Fault → A) (good : Mac → ℕ → Cursor → A)
      → w ≡ iterations_at s p x k c → x ≡ y → w ≡ Ok m → r ≡ good m.value m.count m.next
      → r ≡ on_mac (iterations_at s p y k c) bad good
  salted_found s p x y k c w m r bad good e z q h = rw (← z, ← e, q) h
