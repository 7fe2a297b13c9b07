-- The ways out of the calls: what the functions below returned is what the call returns and
-- stores.
use mathlib.Core.Path.{◌≡◌, refl, sym, ap, ◌∙◌}
use mathlib.Core.Bool.{Bool, true, false}
use mathlib.Core.List.{List}
use Prim.Native.Nat.{ℕ}
use lib.Dec.{ltb}
use lib.ListN.{length}
use Rattle.der.specs.declared.Fault.{Fault}
use Rattle.der.proofs.Choices.{told_true, told_false}
use Rattle.buffer.specs.Numbers.{not_sound}
use Rattle.pkcs12.specs.Walk.{read_file}
use Rattle.buffer.specs.Written.{Outcome, length_of}
use Rattle.pkcs12.specs.Written.{write_file}
use Rattle.range.specs.declared.Range.{Range}
use Rattle.pkcs12.specs.declared.row.AttributeRow.{AttributeRow}
use Rattle.pkcs12.specs.declared.table.Table.{Table}
use Rattle.pkcs12.specs.declared.answers.Reading.{Reading}
use Rattle.std.specs.Prelude.{Err, Ok, Result, ⊤}
use Rattle.std.specs.Result.{result_unwrap_or}
use Rattle.buffer.specs.Report.{written_report}
use Rattle.pairing.specs.Report.{paired_report}
use Rattle.pkcs12.specs.Report.{answer_report}
use Rattle.attributes.specs.Reader.{opening_of, item_after}
use Rattle.elements.specs.Elements.{element_ranges, counted_of}
use Rattle.elements.specs.declared.Counted.{Counted}
use Rattle.attributes.specs.declared.Item.{Item}
use Rattle.attributes.specs.declared.Item.TheVariants.{Ready, Done}
use Rattle.pairing.specs.Pairs.{refused_by}
use Rattle.identities.specs.Identities.{certificate_for}
use Rattle.words.specs.Layout.{table_words}
use Rattle.words.specs.Stored.{stored_row}
use Rattle.load.specs.Loaded.{table_in}
use Rattle.listing.specs.Listed.{listed}
use Rattle.pair_lines.specs.Listed.{pairs_listed}
use Rattle.reader.specs.Memory.{read_into}
use Rattle.p12.specs.Calls.{number_of, offset_of, paired_number, paired_row, written_offset}
use Rattle.p12.specs.Calls.{done, read_number, read_offset, written_number, Called, called, wrote, put, read_call}
use Rattle.p12.specs.Calls.{on_table, write_call, item_as, attribute_call, certificate_call, list_call, pairs_call}

-- two or three promises of a call, and that its slice holds bytes
pub two_and : {A B C : Type 0} → A × B → C → A × (B × C)
two_and p h = (p.0, (p.1, h))

pub three_and : {A B C D : Type 0} → A × (B × C) → D → A × (B × (C × D))
three_and p h = (p.0, (p.1.0, (p.1.1, h)))

-- ---- what an answer reports, as the calls take it

pub read_told : (a : Result ⊤ Fault) → (number_of a ≡ read_number a) × (offset_of a ≡ read_offset a)
unfolding answer_report
read_told (Ok tt) = (refl, refl)
read_told (Err f) = (refl, refl)

pub written_told : (w : Result ℕ Fault) → (number_of w ≡ written_number w) × (offset_of w ≡ written_offset w)
unfolding written_report
written_told (Ok n) = (refl, refl)
written_told (Err f) = (refl, refl)

pub paired_told : (p : Result ℕ Fault) → number_of p ≡ paired_number p
unfolding paired_report
paired_told (Ok n) = refl
paired_told (Err f) = refl

pub length_told : (w : Result ℕ Fault) → result_unwrap_or w 0 ≡ length_of w
length_told (Ok n) = refl
length_told (Err f) = refl

pub row_told : (p : Result ℕ Fault) → result_unwrap_or p 0 ≡ paired_row p
unfolding paired_report
row_told (Ok n) = refl
row_told (Err f) = refl

-- ---- what a call returns and stores

-- what a call returns and stores is this
abbrev pub Gives : Called → ℕ → List ℕ → ℕ → Type 0
Gives c n m v = (n ≡ c.number) × ((m ≡ c.memory) × (v ≡ c.value))

gives_all : (c : Called) (n : ℕ) (m : List ℕ) (v : ℕ) → called n m v ≡ c → Gives c n m v
gives_all c n m v e = (ap (λ (x : Called). x.number) e, (ap (λ (x : Called). x.memory) e, ap (λ (x : Called). x.value) e))

-- an outcome of writing, by its answer and the buffer
module _ (o : Outcome) (w : Result ℕ Fault) (z : List ℕ) (p : w ≡ o.answer) (q : z ≡ o.buffer) (n : ℕ) (r : n ≡ number_of w) where
  wrote_is : (k : ℕ) → k ≡ length_of w → called n z k ≡ wrote o
  wrote_is k e = rw (e, r ∙ (written_told w).0, q, p) refl

  pub wrote_gives : (k : ℕ) → k ≡ length_of w → Gives (wrote o) n z k
  wrote_gives k e = gives_all _ n z k (wrote_is k e)

  put_is : called n z 0 ≡ put o
  put_is = rw (r ∙ (written_told w).0, q, p) refl

-- ---- reading

-- what reading into memory returned
pub read_given : (f room : List ℕ) (a : Result ⊤ Fault) → a ≡ (read_into f room).answer → (n : ℕ) → n ≡ number_of a
    → (z : List ℕ) → z ≡ (read_into f room).memory → (k : ℕ) → k ≡ offset_of a → Gives (read_call f room) n z k
unfolding read_call
read_given f room a e n r z p k l =
    (r ∙ (read_told a).0 ∙ ap read_number e, (p, l ∙ (read_told a).1 ∙ ap read_offset e))

-- ---- texts: the listing, the pairs

module _ (f room : List ℕ) (rd : Reading) (e : rd ≡ read_file f) where
  -- what writing a text returned is what a call returns and stores
  abbrev Wrote : (Reading → Outcome) → Called → Type 0
  Wrote text c =
      (w : Result ℕ Fault) (z : List ℕ) → w ≡ (text rd).answer → z ≡ (text rd).buffer
      → (n : ℕ) → n ≡ number_of w → (k : ℕ) → k ≡ length_of w → Gives c n z k

  text_wrote : (text : Reading → Outcome) → Wrote text (wrote (text (read_file f)))
  text_wrote text w z p q n r k s =
      gives_all _ n z k (wrote_is (text rd) w z p q n r k s ∙ ap (λ (x : Reading). wrote (text x)) e)

  pub list_wrote : Wrote (λ x. listed (length f) x room) (list_call f room)
  unfolding list_call
  list_wrote = text_wrote (λ x. listed (length f) x room)

  pub pairs_wrote : Wrote (λ x. pairs_listed f x room) (pairs_call f room)
  unfolding pairs_call
  pairs_wrote = text_wrote (λ x. pairs_listed f x room)

-- ---- calls that load a table

-- u: whether the words are too few for a table, as it was tested
module _ (words s : List ℕ) (u : Bool) (h : u ≡ ltb (length words) table_words) where
  -- too few
  module _ (q : u ≡ true) where
    pub write_short : (room : List ℕ) → Gives (write_call words s room) not_sound room 0
    unfolding write_call
    write_short room = gives_all _ not_sound room 0 (told_true _ u _ _ _ h q refl)

    pub certificate_short : (key : ℕ) → refused_by not_sound ≡ certificate_call words s key
    unfolding certificate_call
    certificate_short key = told_true _ u _ _ _ h q refl

    pub attribute_short : (bag i : ℕ) (room : List ℕ)
        → (not_sound ≡ (attribute_call words s bag i room).number) × (room ≡ (attribute_call words s bag i room).memory)
    unfolding attribute_call
    attribute_short bag i room =
        let g = gives_all (attribute_call words s bag i room) not_sound room 0 (told_true _ u _ _ _ h q refl) in
        (g.0, g.1.0)

  -- a table, as it was loaded
  module _ (q : u ≡ false) (t : Table) (e : t ≡ table_in words) where
    table_is : {A : Type 0} (none : A) (good : Table → A) → good t ≡ on_table words none good
    table_is none good = told_false _ u _ _ _ h q (ap good e)

    pub write_wrote : (room : List ℕ) (w : Result ℕ Fault) (z : List ℕ)
        → w ≡ (write_file t s room).answer → z ≡ (write_file t s room).buffer
        → (n : ℕ) → n ≡ number_of w → (k : ℕ) → k ≡ length_of w → Gives (write_call words s room) n z k
    unfolding write_call
    write_wrote room w z p q n r k l =
        let e = table_is _ (λ (x : Table). wrote (write_file x s room)) in
        gives_all _ n z k (wrote_is (write_file t s room) w z p q n r k l ∙ e)

    pub certificate_of : (key : ℕ) (x : Result ℕ Fault) → x ≡ certificate_for t s key → x ≡ certificate_call words s key
    unfolding certificate_call
    certificate_of key x p = p ∙ table_is _ (λ (y : Table). certificate_for y s key)

    module _ (bag i : ℕ) (room : List ℕ) (x : Result Item Fault) (p : x ≡ item_after i (opening_of t s bag)) where
      call_is : item_as x room ≡ attribute_call words s bag i room
      unfolding attribute_call
      call_is =
          ap (λ (y : Result Item Fault). item_as y room) p
          ∙ table_is _ (λ (y : Table). item_as (item_after i (opening_of y s bag)) room)

      -- the number and the row that a call leaves
      abbrev pub Left : ℕ → List ℕ → Type 0
      Left n z = (n ≡ (attribute_call words s bag i room).number) × (z ≡ (attribute_call words s bag i room).memory)

      leaves : (y : Result Item Fault) → x ≡ y → (n : ℕ) (z : List ℕ) (v : ℕ) → called n z v ≡ item_as y room → Left n z
      leaves y a n z v q =
          let g = gives_all _ n z v (q ∙ ap (λ (u : Result Item Fault). item_as u room) (sym a) ∙ call_is) in (g.0, g.1.0)

      pub attribute_stored_lem : (r : AttributeRow) → x ≡ Ok (Item.Attribute r) → (w : Result ℕ Fault) (z : List ℕ)
          → w ≡ (stored_row r room).answer → z ≡ (stored_row r room).buffer → (n : ℕ) → n ≡ number_of w → Left n z
      attribute_stored_lem r a w z q l n k = leaves (Ok (Item.Attribute r)) a n z 0 (put_is (stored_row r room) w z q l n k)

      pub attribute_ready : x ≡ Ok Ready → Left done room
      attribute_ready a = leaves (Ok Ready) a done room 0 refl

      pub attribute_done : x ≡ Ok Done → Left done room
      attribute_done a = leaves (Ok Done) a done room 0 refl

      pub attribute_refused : (f : Fault) → x ≡ Err f → Left f.number room
      attribute_refused f a = leaves (Err f) a f.number room 0 refl

-- ---- ranges

pub element_gives : (s : List ℕ) (r q : Range) (i : ℕ) (x : Counted) → r ≡ q → x ≡ counted_of (element_ranges s r) i
    → (x.count ≡ (counted_of (element_ranges s q) i).count)
    × ((x.element.start ≡ (counted_of (element_ranges s q) i).element.start) × (x.element.end ≡ (counted_of (element_ranges s q) i).element.end))
element_gives s r q i x e p =
    let z : x ≡ counted_of (element_ranges s q) i = p ∙ ap (λ (y : Range). counted_of (element_ranges s y) i) e in
    (ap (λ (y : Counted). y.count) z, (ap (λ (y : Counted). y.element.start) z, ap (λ (y : Counted). y.element.end) z))

pub input_gives : (f : List ℕ) (rd : Reading) → rd ≡ read_file f → (n : ℕ) → n ≡ number_of rd.answer
    → (n ≡ read_number (read_file f).answer)
    × ((rd.table.mac_input.start ≡ (read_file f).table.mac_input.start) × (rd.table.mac_input.end ≡ (read_file f).table.mac_input.end))
input_gives f rd e n p = (
  p ∙ (read_told rd.answer).0 ∙ ap (λ (x : Reading). read_number x.answer) e,
  (ap (λ (x : Reading). x.table.mac_input.start) e, ap (λ (x : Reading). x.table.mac_input.end) e),
)
