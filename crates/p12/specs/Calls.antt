-- What the calls for C return and store, in terms of the definitions of the crates below. A call's
-- number is 0, that of the refusal, or `done`.
use Rattle.std.specs.Prelude.{◌≡◌, List, ℕ, ltb, length, get_or}
use Rattle.std.specs.Prelude.{if◌then◌else◌}
use Rattle.buffer.specs.Numbers.{not_sound}
use Rattle.pkcs12.specs.Report.{answer_report}
use Rattle.buffer.specs.Report.{written_report}
use Rattle.pkcs12.specs.Walk.{read_file}
use Rattle.buffer.specs.Written.{Outcome, length_of}
use Rattle.pkcs12.specs.Written.{write_file}
use Rattle.pkcs12.specs.declared.table.Table.{Table}
use Rattle.der.specs.declared.Fault.{Fault}
use Rattle.std.specs.Prelude.{Err, Ok, Result, ⊤}
use Rattle.attributes.specs.Reader.{opening_of, item_after}
use Rattle.attributes.specs.declared.Item.{Item}
use Rattle.attributes.specs.declared.Item.TheVariants.{Ready, Done}
use Rattle.pairing.specs.Pairs.{refused_by}
use Rattle.pairing.specs.Report.{paired_report}
use Rattle.identities.specs.Identities.{certificate_for}
use Rattle.words.specs.Layout.{table_words}
use Rattle.words.specs.Stored.{stored_row}
use Rattle.load.specs.Loaded.{table_in}
use Rattle.reader.specs.Memory.{read_into}
use Rattle.listing.specs.Listed.{listed}
use Rattle.pair_lines.specs.Listed.{pairs_listed}
use Rattle.pem.specs.Calls.{imported, exported}

-- the number of an answer that is no refusal
abbrev pub ok : ℕ
ok = 0

-- Rule 7.1: the reader is done; no refusal has this number
abbrev pub done : ℕ
done = 255

-- the number and the offset that an answer reports
abbrev pub number_of : {T : Type 0} → Result T Fault → ℕ
number_of (Ok x) = ok
number_of (Err f) = f.number

abbrev pub offset_of : {T : Type 0} → Result T Fault → ℕ
offset_of (Ok x) = 0
offset_of (Err f) = f.offset

-- the number and the offset that an answer of reading reports
abbrev pub read_number : Result ⊤ Fault → ℕ
read_number a = (answer_report a).number

abbrev pub read_offset : Result ⊤ Fault → ℕ
read_offset a = (answer_report a).offset

-- the number and the offset that an answer of writing reports
abbrev pub written_number : Result ℕ Fault → ℕ
written_number w = (written_report w).number

abbrev pub written_offset : Result ℕ Fault → ℕ
written_offset w = (written_report w).offset

-- the number that an answer of pairing reports, and the row of a certificate, 0 where there is none
abbrev pub paired_number : Result ℕ Fault → ℕ
paired_number p = (paired_report p).number

abbrev pub paired_row : Result ℕ Fault → ℕ
paired_row p = get_or (paired_report p).values 0 0

-- what a call returns and stores: its number, the memory that it writes to, and the value behind a
-- pointer
pub record Called : Type 0 where
  pub number : ℕ
  pub memory : List ℕ
  pub value : ℕ

abbrev pub called : ℕ → List ℕ → ℕ → Called
called n m v = record { number = n; memory = m; value = v }

-- what was written, with its length
abbrev pub wrote : Outcome → Called
wrote o = called (written_number o.answer) o.buffer (length_of o.answer)

-- what was stored, with 0
abbrev pub put : Outcome → Called
put o = called (written_number o.answer) o.buffer 0

-- `p12_read`: what reading into memory returns, and the memory afterwards
unfoldable pub read_call : List ℕ → List ℕ → Called
read_call f memory =
    called (read_number (read_into f memory).answer) (read_into f memory).memory (read_offset (read_into f memory).answer)

-- what is due of the table that is loaded from words; memory with fewer words than a table holds
-- none
abbrev pub on_table : {A : Type 0} → List ℕ → A → (Table → A) → A
on_table words none good = if ltb (length words) table_words then none else good (table_in words)

-- `p12_write`: the file of the table that is loaded from words; 11 for fewer words
unfoldable pub write_call : List ℕ → List ℕ → List ℕ → Called
write_call words s buffer = on_table words (called not_sound buffer 0) (λ t. wrote (write_file t s buffer))

-- `p12_attribute`: attribute i of a bag as words; 11 for fewer words
abbrev pub item_as : Result Item Fault → List ℕ → Called
item_as (Ok (Item.Attribute r)) buffer = put (stored_row r buffer)
item_as (Ok Ready) buffer = called done buffer 0
item_as (Ok Done) buffer = called done buffer 0
item_as (Err f) buffer = called f.number buffer 0

unfoldable pub attribute_call : List ℕ → List ℕ → ℕ → ℕ → List ℕ → Called
attribute_call words s bag i buffer =
    on_table words (called not_sound buffer 0) (λ t. item_as (item_after i (opening_of t s bag)) buffer)

-- `p12_certificate_for`; 11 for fewer words
unfoldable pub certificate_call : List ℕ → List ℕ → ℕ → Result ℕ Fault
certificate_call words s key = on_table words (refused_by not_sound) (λ t. certificate_for t s key)

-- what two theorems are stated over: each of these three is 11, and leaves what it would write to
pub record Is11 (words s : List ℕ) : Type 0 where
  pub write : (buffer : List ℕ) → write_call words s buffer ≡ called not_sound buffer 0
  pub attribute : (bag i : ℕ) (buffer : List ℕ) → attribute_call words s bag i buffer ≡ called not_sound buffer 0
  pub certificate : (key : ℕ) → certificate_call words s key ≡ refused_by not_sound

-- `p12_list`: the listing of what reading returns
unfoldable pub list_call : List ℕ → List ℕ → Called
list_call f buffer = wrote (listed (length f) (read_file f) buffer)

-- `p12_pairs`: the pairs of what reading returns
unfoldable pub pairs_call : List ℕ → List ℕ → Called
pairs_call f buffer = wrote (pairs_listed f (read_file f) buffer)

-- `p12_import`: the bytes that a text wraps; the offset of a refusal
unfoldable pub import_call : List ℕ → List ℕ → Called
import_call t buffer = wrote (imported t buffer)

unfoldable pub import_offset : List ℕ → List ℕ → ℕ
import_offset t buffer = written_offset (imported t buffer).answer

-- `p12_export`: the text of bytes
unfoldable pub export_call : List ℕ → List ℕ → Called
export_call x buffer = wrote (exported x buffer)
