-- The file's definition as the code takes it: the file is opened down to its AuthenticatedSafe,
-- then its safes, then what follows them. Each law follows both sides through the tests that
-- they share.
use mathlib.Core.Path.{◌≡◌, refl, sym}
use mathlib.Core.List.{List}
use Prim.Native.Nat.{ℕ}
use lib.Dec.{leb, ltb, eqb}
use lib.ListN.{length}
use Rattle.std.specs.Prelude.{if◌then◌else◌}
use Rattle.der.specs.Numbers.{octet_string_tag, sequence_tag, context_tag}
use Rattle.der.specs.Element.{fault, whole_of, finish_at, expect_at, on_element}
use Rattle.der.specs.Content.{bytes_of, identifier_at, integer_at}
use Rattle.der.specs.Opaque.{on_checked}
use Rattle.der.specs.declared.Cursor.{Cursor}
use Rattle.der.specs.declared.Checked.{Checked}
use Rattle.der.specs.declared.Fault.{Fault}
use Rattle.pkcs12.specs.declared.answers.Parsed.{Parsed}
use Rattle.reader.specs.Steps.{opened}
use Rattle.reader.specs.declared.file.Opened.{Opened}
use Rattle.reader.specs.declared.file.Outer.{Outer}
use Rattle.reader.specs.declared.safes.Octets.{Octets}
use Rattle.std.specs.Prelude.{Err, Ok, Result}
use Rattle.buffer.specs.Numbers.{file_bytes, too_long}
use Rattle.pkcs12.specs.Numbers.{not_served, pfx_version}
use Rattle.range.specs.Bytes.{same_bytes}
use Rattle.pkcs12.specs.Identifiers.{data_type, signed_type}
use Rattle.pkcs12.specs.Table.{Rows, table_of}
use Rattle.pkcs12.specs.Walk.{Walked, Refused, Went, on_walked, run, counting, safe_at, start_rows, safes_at, data_at}
use Rattle.pkcs12.specs.Walk.{outer_value_at, outer_at, on_mac, mac_at, refused, body_at, alone, pfx_at, read_file}
use Rattle.pkcs12.specs.declared.row.Mac.{Mac}
use Rattle.pkcs12.specs.declared.answers.Reading.{Reading}
use Rattle.reader.specs.Steps.{on_octets, data_head_at, both_at, closed_at, on_outer, pfx_head_at, on_opened}
use Rattle.reader.specs.Steps.{opened_safes_at, opened_value_at, opened_info_at, open_at, last_at, close_at}
use Rattle.reader.proofs.Bridge.{both_result, both_test, through_result, through_walked, through_test}

-- the table of a file that is accepted
abbrev accepted : Rows → Mac → ℕ → Cursor → Reading
accepted st x k n = record { answer = (Ok tt); table = table_of (counting st k) x }

-- what follows once the file is opened
abbrev after_opened : List ℕ → Cursor → Cursor → Cursor → Cursor → Cursor → Cursor → Cursor → Reading
after_opened s input body safes string content mac file =
    on_walked (run (safe_at s) (start_rows input) body) refused
    (λ st z. on_mac (close_at s safes string content mac file) refused (accepted st))

-- what the walk does with the outer ContentInfo's answer, in a PFX whose own end is `file`
abbrev after_outer : List ℕ → Cursor → Walked → Reading
after_outer s file w =
    alone file
    (on_walked w refused
    (λ st e.
    if leb e.end e.at then refused (fault not_served e.end) else
    on_mac (mac_at s e) refused
    (λ x k f.
    on_checked (finish_at f) refused (λ z g. record { answer = (Ok tt); table = table_of (counting st k) x }))))

-- what it does with the answer of that ContentInfo's value; `mac` is past the ContentInfo
abbrev after_value : List ℕ → Cursor → Cursor → Walked → Reading
after_value s mac file w =
    after_outer s file (on_walked w Refused (λ st e. on_checked (finish_at e) Refused (λ z g. Went st mac)))

-- the MAC, and the ends of the PFX and of the file
last_law : (s : List ℕ) (st : Rows) (mac file : Cursor)
    → on_mac (last_at s mac file) refused (accepted st) ≡ after_outer s file (Went st mac)
unfolding last_at both_at
last_law s st mac file =
    both_test F (alone file) (leb mac.end mac.at) _ _ _ _ refl
    (both_result F (alone file) (mac_at s mac) _ _ _ _ (λ f. refl)
    (λ x.
    both_result (λ y. F (on_checked y Err (λ z g. Ok x))) (alone file) (finish_at x.next) _ _ _ _ (λ f. refl)
    (λ z. through_result F (finish_at file) _ _ _ _ (λ f. refl) (λ z. refl))))
  where
    F : Result (Parsed Mac) Fault → Reading
    F y = on_mac y refused (accepted st)

-- the ends of what the safes are in, then the MAC
close_law : (s : List ℕ) (st : Rows) (safes string content mac file : Cursor)
    → on_mac (close_at s safes string content mac file) refused (accepted st)
    ≡ after_value s mac file (on_checked (finish_at safes) Refused
    (λ z h. on_checked (finish_at string) Refused (λ z i. Went st content)))
unfolding close_at closed_at both_at
close_law s st safes string content mac file =
    both_result F (after_value s mac file) (finish_at safes) _ _ _ _ (λ f. refl)
    (λ z.
    both_result F (after_value s mac file) (finish_at string) _ _ _ _ (λ f. refl)
    (λ z.
    both_result (λ y. on_mac y refused (accepted st)) (after_outer s file) (finish_at content) _ _ _ _ (λ f. refl)
    (λ z. last_law s st mac file)))
  where
    F : Result Checked Fault → Reading
    F y = on_mac (on_checked y Err (λ z g. last_at s mac file)) refused (accepted st)

-- the data of the outer ContentInfo
safes_law : (s : List ℕ) (c mac file : Cursor)
    → on_opened (opened_safes_at s c mac file) refused (after_opened s)
    ≡ after_value s mac file (data_at (safes_at s) s c)
unfolding opened_safes_at data_head_at data_at safes_at
safes_law s c mac file =
    both_result F (after_value s mac file) (expect_at context_tag s c) _ _ _ _ (λ f. refl)
    (λ v.
    both_result F (after_value s mac file) (expect_at octet_string_tag s v.body) _ _ _ _ (λ f. refl)
    (λ o.
    both_result (λ y. on_opened y refused (after_opened s)) (G o.next v.next) (expect_at sequence_tag s o.body) _ _ _ _
    (λ f. refl)
    (λ b.
    sym (through_walked (G o.next v.next) (run (safe_at s) (start_rows o.body) b.body) _ _ _ _ (λ f. refl)
    (λ st z. sym (close_law s st b.next o.next v.next mac file))))))
  where
    F : Result Octets Fault → Reading
    F y =
        on_opened
        (on_octets y Err (λ o f e. on_element (expect_at sequence_tag s o) Err
        (λ t b n. Ok (opened o b n f e mac file))))
        refused (after_opened s)

    G : Cursor → Cursor → Walked → Reading
    G f e w =
        after_value s mac file
        (on_walked w Refused (λ st g. on_checked (finish_at g) Refused
        (λ z h. on_checked (finish_at f) Refused (λ z i. Went st e))))

-- the outer ContentInfo, by its type
info_law : (s : List ℕ) (c file : Cursor)
    → on_opened (opened_info_at s c file) refused (after_opened s) ≡ alone file (body_at s c)
unfolding opened_info_at opened_value_at body_at outer_at outer_value_at
info_law s c file =
    both_result F (after_outer s file) (expect_at sequence_tag s c) _ _ _ _ (λ f. refl)
    (λ x.
    both_result F (after_outer s file) (identifier_at s x.body) _ _ _ _ (λ f. refl)
    (λ i.
    both_test F (after_value s x.next file) (same_bytes (bytes_of s i.body) data_type) _ _ _ _
    (safes_law s i.next x.next file)
    (both_test F (after_value s x.next file) (same_bytes (bytes_of s i.body) signed_type) _ _ _ _ refl refl)))
  where
    F : Result Opened Fault → Reading
    F y = on_opened y refused (after_opened s)

-- the PFX at c
pfx_law : (s : List ℕ) (c : Cursor) → on_opened (open_at s c) refused (after_opened s) ≡ pfx_at s c
unfolding open_at pfx_head_at pfx_at
pfx_law s c =
    through_result F (expect_at sequence_tag s c) _ _ _ _ (λ f. refl)
    (λ x.
    through_result F (integer_at s x.body) _ _ _ _ (λ f. refl)
    (λ v. through_test F (eqb v.value pfx_version) _ _ _ _ (info_law s v.next x.next) refl))
  where
    F : Result Outer Fault → Reading
    F y = on_opened (on_outer y Err (λ m n. opened_info_at s m n)) refused (after_opened s)

-- the whole reading
pub file_law : (s : List ℕ)
    → (if ltb file_bytes (length s) then refused (fault too_long 0) else
    on_opened (open_at s (whole_of s)) refused
    (λ input body safes string content mac file.
    on_walked (run (safe_at s) (start_rows input) body) refused
    (λ st z.
    on_mac (close_at s safes string content mac file) refused
    (λ x k n. record { answer = (Ok tt); table = table_of (counting st k) x }))))
    ≡ read_file s
unfolding read_file
file_law s = through_test (λ x. x) (ltb file_bytes (length s)) _ _ _ _ refl (pfx_law s (whole_of s))
