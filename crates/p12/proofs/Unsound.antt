-- Where 11 is due of the calls that take a table: too few words, and words of the empty table.
use mathlib.Core.Path.{◌≡◌, refl, sym, ap, ◌∙◌}
use mathlib.Core.Bool.{false}
use mathlib.Core.List.{List}
use mathlib.Core.Option as option
use Prim.Native.Nat.{ℕ, ◌≤◌, ◌<◌, zero-le}
use borrow.Author.Tests.{le-leb}
use lib.ListN.{length}
use Rattle.der.specs.Content.{identifier_body}
use Rattle.der.specs.Element.{fault}
use Rattle.der.proofs.Choices.{at_lt, at_not_lt}
use Rattle.buffer.specs.Numbers.{not_sound}
use Rattle.pkcs12.specs.Table.{no_mac, rows_in, table_of, empty_table}
use Rattle.pkcs12.specs.Checks.{counts_fit, all, names_type, is_sealed, mac_test, rows_test, keeps_rules}
use Rattle.range.specs.Range.{lies}
use Rattle.buffer.specs.Report.{written_report}
use Rattle.pkcs12.specs.Written.{file_of, write_file}
use Rattle.pkcs12.specs.declared.table.Table.{Table}
use Rattle.attributes.specs.Reader.{refused_by, opening_of, item_after}
use Rattle.der.specs.declared.Fault.{Fault}
use Rattle.std.specs.Prelude.{Err, Result}
use Rattle.attributes.specs.declared.Item.{Item}
use Rattle.attributes.proofs.Theorems.{refused_stays}
use Rattle.pairing.specs.Pairs as pairing
use Rattle.identities.specs.Identities.{certificate_for}
use Rattle.words.specs.Layout.{table_words}
use Rattle.load.specs.Loaded.{table_in}
use Rattle.p12.specs.Calls.{called, wrote, on_table, write_call, item_as, attribute_call, certificate_call, Is11}

-- the empty table has no file: its MAC has no identifier
mac_fails : (s : List ℕ) → mac_test s no_mac ≡ false
unfolding mac_test is_sealed names_type lies identifier_body
mac_fails s = rw (le-leb 0 (length s) zero-le) refl

empty_no_file : (s : List ℕ) → file_of empty_table s ≡ option.none
unfolding file_of keeps_rules counts_fit rows_test all rows_in table_of empty_table
empty_no_file s = rw (mac_fails s) refl

module _ (words s : List ℕ) where
  pub short_is_11 : length words < table_words → Is11 words s
  unfolding write_call attribute_call certificate_call
  short_is_11 h =
      record {
        write = λ room. sym (at_lt _ _ _ _ _ h refl);
        attribute = λ bag i room. sym (at_lt _ _ _ _ _ h refl);
        certificate = λ key. sym (at_lt _ _ _ _ _ h refl);
      }

  -- a table with no file
  module _ (h : table_words ≤ length words) (e : file_of (table_in words) s ≡ option.none) where
    table_is : {A : Type 0} (none : A) (good : Table → A) → on_table words none good ≡ good (table_in words)
    table_is none good = sym (at_not_lt _ _ _ _ _ h refl)

    write_is_11 : (room : List ℕ) → write_call words s room ≡ called not_sound room 0
    unfolding write_call write_file written_report
    write_is_11 room = table_is _ (λ (t : Table). wrote (write_file t s room)) ∙ rw e refl

    opening_is_11 : (bag : ℕ) → (opening_of (table_in words) s bag).item ≡ Err (fault not_sound 0)
    unfolding opening_of refused_by
    opening_is_11 bag = rw e refl

    attribute_is_11 : (bag i : ℕ) (room : List ℕ) → attribute_call words s bag i room ≡ called not_sound room 0
    unfolding attribute_call
    attribute_is_11 bag i room =
        table_is _ (λ (t : Table). item_as (item_after i (opening_of t s bag)) room)
        ∙ ap (λ (x : Result Item Fault). item_as x room) (refused_stays _ s bag (fault not_sound 0) (opening_is_11 bag) i)

    certificate_is_11 : (key : ℕ) → certificate_call words s key ≡ pairing.refused_by not_sound
    unfolding certificate_call certificate_for
    certificate_is_11 key = table_is _ (λ (t : Table). certificate_for t s key) ∙ rw e refl

    unsound_is_11 : Is11 words s
    unsound_is_11 = record { write = write_is_11; attribute = attribute_is_11; certificate = certificate_is_11 }

  pub empty_is_11 : table_words ≤ length words → table_in words ≡ empty_table → Is11 words s
  empty_is_11 h e = unsound_is_11 h (ap (λ (t : Table). file_of t s) e ∙ empty_no_file s)
