-- The walk's definitions as the code takes them: first what comes before the rows, then the rows.
-- Each law moves what is done with an answer (F) below the tests and calls that the answer depends
-- on.
use mathlib.Core.Path.{◌≡◌, refl, sym, ◌∙◌}
use mathlib.Core.Bool.{Bool, true, false}
use mathlib.Core.List.{List}
use Prim.Native.Nat.{ℕ}
use lib.Dec.{leb, eqb}
use lib.ListN.{length}
use Rattle.std.specs.Prelude.{if◌then◌else◌}
use Rattle.der.specs.Numbers.{opaque_levels, sequence_tag, set_tag}
use Rattle.der.specs.Element.{tag_at, finish_at, expect_at, on_result}
use Rattle.der.specs.Content.{identifier_at}
use Rattle.der.specs.Opaque.{on_checked, elements_at}
use Rattle.der.specs.declared.Fault.{Fault}
use Rattle.der.specs.declared.Cursor.{Cursor}
use Rattle.der.specs.declared.Element.{Element}
use Rattle.pkcs12.specs.declared.answers.Parsed.{Parsed}
use Rattle.std.specs.Prelude.{Err, Ok, Option, Result}
use Rattle.pkcs12.specs.Numbers.{attribute_rows}
use Rattle.pkcs12.specs.Table.{Rows, attribute_row}
use Rattle.pkcs12.specs.Walk.{on_parts, Walked, Refused, Went, on_walked, run, counting, add_attribute}
use Rattle.pkcs12.specs.Walk.{attribute_at, set_at}
use Rattle.pkcs12.specs.declared.row.Parts.{Parts}
use Rattle.reader.specs.Steps.{attribute_values_at, attribute_parts_at, on_set, set_head_at, bag_end_at}
use Rattle.reader.specs.declared.bags.Set.{Set}

-- two functions of answers that depend on the same test or call
module _ {A B C : Type 0} (F : A → C) (G : B → C) where
  pub both_result : {T : Type 0} (x : Result T Fault) (bad : Fault → A) (good : T → A) (bad' : Fault → B)
      (good' : T → B)
      → ((f : Fault) → F (bad f) ≡ G (bad' f)) → ((y : T) → F (good y) ≡ G (good' y))
      → F (on_result x bad good) ≡ G (on_result x bad' good')
  both_result (Err f) bad good bad' good' p q = p f
  both_result (Ok y) bad good bad' good' p q = q y

  pub both_walked : (x : Walked) (bad : Fault → A) (good : Rows → Cursor → A) (bad' : Fault → B)
      (good' : Rows → Cursor → B)
      → ((f : Fault) → F (bad f) ≡ G (bad' f)) → ((st : Rows) (n : Cursor) → F (good st n) ≡ G (good' st n))
      → F (on_walked x bad good) ≡ G (on_walked x bad' good')
  both_walked (Refused f) bad good bad' good' p q = p f
  both_walked (Went st n) bad good bad' good' p q = q st n

  pub both_test : (t : Bool) (x y : A) (x' y' : B) → F x ≡ G x' → F y ≡ G y'
      → F (if t then x else y) ≡ G (if t then x' else y')
  both_test true x y x' y' p q = p
  both_test false x y x' y' p q = q

-- one function of such an answer, below the test or call
module _ {A B : Type 0} (F : A → B) where
  pub through_result : {T : Type 0} (x : Result T Fault) (bad : Fault → A) (good : T → A) (bad' : Fault → B)
      (good' : T → B)
      → ((f : Fault) → F (bad f) ≡ bad' f) → ((y : T) → F (good y) ≡ good' y)
      → F (on_result x bad good) ≡ on_result x bad' good'
  through_result = both_result F (λ y. y)

  pub through_walked : (x : Walked) (bad : Fault → A) (good : Rows → Cursor → A) (bad' : Fault → B)
      (good' : Rows → Cursor → B)
      → ((f : Fault) → F (bad f) ≡ bad' f) → ((st : Rows) (n : Cursor) → F (good st n) ≡ good' st n)
      → F (on_walked x bad good) ≡ on_walked x bad' good'
  through_walked = both_walked F (λ y. y)

  pub through_test : (t : Bool) (x y : A) (x' y' : B) → F x ≡ x' → F y ≡ y'
      → F (if t then x else y) ≡ (if t then x' else y')
  through_test = both_test F (λ y. y)

-- an attribute: its parts, then its row
pub attribute_law : (s : List ℕ) (number : ℕ) (st : Rows) (c : Cursor)
    → on_parts (attribute_parts_at s (leb attribute_rows (length st.attributes)) c) Refused
    (λ p k n. Went (add_attribute st (attribute_row number p.identifier p.value) k) n)
    ≡ attribute_at s number st c
unfolding attribute_parts_at attribute_values_at attribute_at
attribute_law s number st c =
    through_result F (expect_at sequence_tag s c) _ _ _ _ (λ f. refl)
    (λ x.
    through_test F (leb attribute_rows (length st.attributes)) _ _ _ _ refl
    (through_result F (identifier_at s x.body) _ _ _ _ (λ f. refl)
    (λ i.
    through_result F (expect_at set_tag s i.next) _ _ _ _ (λ f. refl)
    (λ v.
    through_result F (elements_at opaque_levels s v.body) _ _ _ _ (λ f. refl)
    (λ k. through_result F (finish_at v.next) _ _ _ _ (λ f. refl) (λ z. refl))))))
  where
    F : Result (Parsed Parts) Fault → Walked
    F x = on_parts x Refused (λ p k n. Went (add_attribute st (attribute_row number p.identifier p.value) k) n)

-- the end of a bag: where its set is, then its attributes
pub end_law : (s : List ℕ) (number : ℕ) (st : Rows) (e c n : Cursor)
    → on_set (set_head_at s e c) Refused (Went st n)
    (λ b m. on_walked (run (attribute_at s number) (counting st 1) b) Refused
    (λ st' f. on_checked (finish_at m) Refused (λ z g. Went st' n)))
    ≡ bag_end_at s number st e c n
unfolding set_head_at bag_end_at set_at
end_law s number st e c n =
    through_result F (finish_at e) _ _ _ _ (λ f. refl)
    (λ z.
    through_test F (eqb (tag_at s c) set_tag) _ _ _ _
    (through_result F (expect_at set_tag s c) _ _ Refused attributes (λ f. refl) (λ x. refl))
    (through_result F (finish_at c) _ _ Refused (λ z. Went st n) (λ f. refl) (λ z. refl))
    ∙ sym
    (through_test G (eqb (tag_at s c) set_tag) _ _ _ _
    (through_result G (expect_at set_tag s c) _ _ Refused attributes (λ f. refl)
    (λ x.
    through_walked G (run (attribute_at s number) (counting st 1) x.body) _ _ _ _ (λ f. refl)
    (λ st' f. through_result G (finish_at x.next) _ _ _ _ (λ f. refl) (λ z. refl))))
    (through_result G (finish_at c) _ _ Refused (λ z. Went st n) (λ f. refl) (λ z. refl))))
  where
    set_end : Cursor → Cursor → Walked
    set_end b m =
        on_walked (run (attribute_at s number) (counting st 1) b) Refused
        (λ st' f. on_checked (finish_at m) Refused (λ z g. Went st' n))

    attributes : Element → Walked
    attributes x = set_end x.body x.next

    F : Result (Option Set) Fault → Walked
    F x = on_set x Refused (Went st n) set_end

    G : Walked → Walked
    G x = on_walked x Refused (λ st' h. Went st' n)
