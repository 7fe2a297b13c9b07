-- The rows one after another, as the loop meets them: with what was found so far, what the rows
-- that are due come to is what all rows come to.
use mathlib.Core.Path.{◌≡◌, refl, sym, ◌∙◌, ap}
use mathlib.Core.Bool.{Bool, true, false}
use mathlib.Core.List.{List, [], ◌∷◌}
use Prim.Native.Nat.{ℕ, ◌+◌, ◌≤◌, ◌<◌}
use native.Mathlib.Numerals.{add-one}
use lib.ListN.{length, get_or, drop, drop_of_length-le}
use lib.Seq.{drop-cons}
use Rattle.std.specs.Prelude.{if◌then◌else◌}
use Rattle.std.proofs.Common.{Option, Some, None}
use Rattle.std.specs.Prelude.{Err, Result}
use Rattle.der.specs.Element.{fault}
use Rattle.der.specs.declared.Fault.{Fault}
use Rattle.der.proofs.Choices.{never}
use Rattle.std.specs.Option.{is_some, ok_or}
use Rattle.pairing.specs.Numbers.{no_certificate, more_certificates}
use Rattle.pairing.specs.Pairs.{pairs_with, matching, only_one}
use Rattle.pairing.specs.declared.IdentityRow.{IdentityRow}

-- the match that was found, if any, before those that are due
abbrev pub with_found : Option ℕ → List ℕ → List ℕ
with_found None ms = ms
with_found (Some n) ms = n ∷ ms

module _ (s : List ℕ) (key : IdentityRow) (rows : List IdentityRow) where
  -- The answer that is due, with i rows seen.
  pub record Due (found : Option ℕ) (i : ℕ) : Type 0 where
    pub answer : only_one (with_found found (matching s key i (drop i rows))) ≡ only_one (matching s key 0 rows)

  pub due_first : Due None 0
  due_first = record { answer = refl }

  step : (i : ℕ) (d : IdentityRow) → i < length rows → matching s key i (drop i rows)
      ≡ (if pairs_with s key (get_or rows i d) then i ∷ matching s key (i + 1) (drop (i + 1) rows) else
      matching s key (i + 1) (drop (i + 1) rows))
  unfolding matching
  step i d h = rw (drop-cons rows i d h, add-one)

  -- a row that matches, where none was found, and where one was
  pub due_found : (found : Option ℕ) (i : ℕ) (d : IdentityRow) (p u : Bool) (now : Option ℕ) → i < length rows
      → p ≡ pairs_with s key (get_or rows i d) → p ≡ true → u ≡ is_some found → u ≡ false → now ≡ Some i
      → Due found i → Due now (i + 1)
  due_found None i d p u now h e f v w n g = record { answer = rw n (rw (step i d h, sym e ∙ f) at g.answer) }
  due_found (Some m) i d p u now h e f v w n g = never (sym (sym v ∙ w))

  pub due_second : (found : Option ℕ) (i : ℕ) (d : IdentityRow) (p u : Bool) (f : Fault) → i < length rows
      → p ≡ pairs_with s key (get_or rows i d) → p ≡ true → u ≡ is_some found → u ≡ true
      → f ≡ fault more_certificates 0
      → Due found i → Err f ≡ only_one (matching s key 0 rows)
  unfolding only_one
  due_second None i d p u r h e f v w q g = never (sym v ∙ w)
  due_second (Some m) i d p u r h e f v w q g = ap Err q ∙ rw (step i d h, sym e ∙ f) at g.answer

  -- one that doesn't
  pub due_other : (found : Option ℕ) (i : ℕ) (d : IdentityRow) (p : Bool) (now : Option ℕ) → i < length rows
      → p ≡ pairs_with s key (get_or rows i d) → p ≡ false → now ≡ found → Due found i → Due now (i + 1)
  due_other found i d p now h e f n g = record { answer = rw n (rw (step i d h, sym e ∙ f) at g.answer) }

  -- no row is left
  last : (i : ℕ) → length rows ≤ i → matching s key i (drop i rows) ≡ []
  unfolding matching
  last i h = rw (drop_of_length-le rows {i = i} h)

  pub due_last : (found : Option ℕ) (i : ℕ) (f : Fault) (r : Result ℕ Fault) → length rows ≤ i
      → f ≡ fault no_certificate 0 → r ≡ ok_or found f → Due found i → r ≡ only_one (matching s key 0 rows)
  unfolding only_one
  due_last None i f r h q e g = e ∙ ap Err q ∙ rw (last i h) at g.answer
  due_last (Some n) i f r h q e g = e ∙ rw (last i h) at g.answer
