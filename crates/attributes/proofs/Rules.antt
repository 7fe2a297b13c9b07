-- Rules by which `search` follows the definitions of the reader as the code's own tests decided
-- them (see der's Choices).
use mathlib.Core.Path.{◌≡◌, refl, sym}
use mathlib.Core.Bool.{Bool, true, false, not}
use mathlib.Core.List.{List}
use mathlib.Core.Option.{Option, some}
use mathlib.Core.Option as option
use Prim.Native.Nat.{ℕ, ◌≤◌, ◌<◌}
use lib.ListN.{length}
use Rattle.der.proofs.Choices.{at_lt, at_not_lt, never}
use Rattle.buffer.specs.Numbers.{not_sound}
use Rattle.pkcs12.specs.Numbers.{no_row}
use Rattle.pkcs12.specs.Written.{file_of, on_file}
use Rattle.pkcs12.specs.declared.table.Table.{Table}
use Rattle.encode.specs.Sizes.{capped}
use Rattle.sound.specs.Measured.{measured}
use Rattle.std.specs.Prelude.{None, Ok, Option as Maybe, Some, is_some}
use Rattle.attributes.specs.Reader.{position, refused_by, opening_of}
use Rattle.attributes.specs.declared.Item.TheVariants.{Ready}
use Rattle.attributes.specs.declared.Position.{Position}

-- A table that was measured has a file exactly if a size was returned; what is due of a file
-- doesn't depend on its bytes. u is what the code's test said.
module _ {A : Type 0} (t : Table) (s : List ℕ) (w : Maybe ℕ) (u : Bool) (e : w ≡ measured t s) (g : is_some w ≡ not u)
    (r x y : A) where
  pub has_no_file : u ≡ true → r ≡ x → r ≡ on_file (file_of t s) x (λ f. y)
  unfolding measured
  has_no_file q p = go (file_of t s) (rw (e, q) at g)
    where
      go : (v : Option (List ℕ)) → is_some (on_file v None (λ f. Some (capped (length f)))) ≡ false
          → r ≡ on_file v x (λ f. y)
      go option.none h = p
      go (some f) h = never (sym h)

  pub has_file : u ≡ false → r ≡ y → r ≡ on_file (file_of t s) x (λ f. y)
  unfolding measured
  has_file q p = go (file_of t s) (rw (e, q) at g)
    where
      go : (v : Option (List ℕ)) → is_some (on_file v None (λ f. Some (capped (length f)))) ≡ true
          → r ≡ on_file v x (λ f. y)
      go option.none h = never h
      go (some f) h = p

-- The three answers of opening.
module _ (t : Table) (s : List ℕ) (bag : ℕ) (w : Maybe ℕ) (u : Bool) (e : w ≡ measured t s)
    (g : is_some w ≡ not u) where
  pub open_unsound : (r : Position) → u ≡ true → r ≡ refused_by not_sound → r ≡ opening_of t s bag
  unfolding opening_of
  open_unsound r q p = has_no_file t s w u e g r _ _ q p

  module _ (q : u ≡ false) where
    pub open_missing : (r : Position) → t.bag_count ≤ bag → r ≡ refused_by no_row → r ≡ opening_of t s bag
    unfolding opening_of
    open_missing r h p = has_file t s w u e g r _ _ q (at_not_lt bag t.bag_count r _ _ h p)

    pub open_ready : bag < t.bag_count
        → position t.attributes t.attribute_count bag 0 (Ok Ready) ≡ opening_of t s bag
    unfolding opening_of
    open_ready h = has_file t s w u e g _ _ _ q (at_lt bag t.bag_count _ _ _ h refl)
