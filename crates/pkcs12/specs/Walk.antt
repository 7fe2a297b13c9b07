-- What reading does with any bytes, front to back: the first fault with its number and offset, or
-- the whole table (sections 3 and 5 of the rules). A part that is met is entered at once
-- (Rule 5.31); each parent is finished when its last element was met.
use Rattle.std.specs.Prelude.{Bool, true, false, List, [], ◌∷◌, ◌++◌, ℕ, zero, suc, ◌+◌, ◌-◌, leb, ltb, eqb, length}
use Rattle.std.specs.Prelude.{if◌then◌else◌}
use Rattle.der.specs.Numbers.{content, too_many, octet_string_tag, integer_tag, opaque_levels, sequence_tag, set_tag}
use Rattle.der.specs.Numbers.{context_tag}
use Rattle.der.specs.Element.{cursor, fault, whole_of, tag_at, finish_at, expect_at, on_element, on_result}
use Rattle.der.specs.Content.{bytes_of, identifier_at, integer_at, on_integer}
use Rattle.der.specs.Many.{many}
use Rattle.der.specs.Opaque.{on_checked, opaque_at, elements_at}
use Rattle.der.specs.declared.Fault.{Fault}
use Rattle.der.specs.declared.Cursor.{Cursor}
use Rattle.der.specs.declared.Checked.{Checked}
use Rattle.pkcs12.specs.Table.{parsed}
use Rattle.pkcs12.specs.declared.answers.Parsed.{Parsed}
use Rattle.std.specs.Prelude.{Err, None, Ok, Option, Result, Some, ⊤}
use Rattle.pkcs12.specs.Numbers.{safe_rows, bag_rows, attribute_rows, levels, not_served, ciphertext_tag, pfx_version}
use Rattle.pkcs12.specs.Numbers.{encrypted_version, attributed_version, default_iterations}
use Rattle.buffer.specs.Numbers.{file_bytes, too_long}
use Rattle.range.specs.Bytes.{same_bytes}
use Rattle.pkcs12.specs.Identifiers.{data_type, signed_type, enveloped_type, encrypted_type, x509_certificate}
use Rattle.pkcs12.specs.Identifiers.{kind_of}
use Rattle.range.specs.Range.{range, no_range}
use Rattle.pkcs12.specs.Table.{parts, no_parts, safe_row, bag_row, attribute_row, mac_fields, Rows, table_of}
use Rattle.pkcs12.specs.Table.{empty_table}
use Rattle.range.specs.declared.Range.{Range}
use Rattle.pkcs12.specs.declared.row.Parts.{Parts}
use Rattle.pkcs12.specs.declared.kind.SafeKind.TheVariants.{Plain, Encrypted}
use Rattle.pkcs12.specs.declared.kind.BagKind.{BagKind}
use Rattle.pkcs12.specs.declared.kind.BagKind.TheVariants.{Key, ShroudedKey, Certificate, Crl, Secret, Nested}
use Rattle.pkcs12.specs.declared.row.SafeRow.{SafeRow}
use Rattle.pkcs12.specs.declared.row.BagRow.{BagRow}
use Rattle.pkcs12.specs.declared.row.AttributeRow.{AttributeRow}
use Rattle.pkcs12.specs.declared.row.Mac.{Mac}
use Rattle.pkcs12.specs.declared.answers.Reading.{Reading}

abbrev pub range_of : Cursor → Range
range_of b = range b.at b.end

-- ---- parts that make no row

abbrev pub on_parts : {A : Type 0} → Result (Parsed Parts) Fault → (Fault → A) → (Parts → ℕ → Cursor → A) → A
on_parts x bad good = on_result x bad (λ p. good p.value p.count p.next)

-- Rule 3.11: AlgorithmIdentifier, an identifier and at most one opaque element; absent parameters
-- are an empty range at the parent's end
unfoldable pub algorithm_at : List ℕ → Cursor → Result (Parsed Parts) Fault
algorithm_at s c =
    on_element (expect_at sequence_tag s c) Err
    (λ t b n.
    on_element (identifier_at s b) Err
    (λ t i m.
    if ltb m.at m.end then
    on_checked (opaque_at opaque_levels s m) Err
    (λ k e.
    on_checked (finish_at e) Err
    (λ z f. Ok (parsed (parts (range_of i) (range m.at e.at) no_range) (k + 2) n))) else
    Ok (parsed (parts (range_of i) (range b.end b.end) no_range) 2 n)))

abbrev pub with_value : Parts → Range → Parts
with_value p v = parts p.identifier p.parameters v

-- Rules 3.16, 3.21: a shrouded key, a DigestInfo, each a SEQUENCE of an AlgorithmIdentifier and an
-- OCTET STRING
unfoldable pub sealed_at : List ℕ → Cursor → Result (Parsed Parts) Fault
sealed_at s c =
    on_element (expect_at sequence_tag s c) Err
    (λ t b n.
    on_parts (algorithm_at s b) Err
    (λ p k m.
    on_element (expect_at octet_string_tag s m) Err
    (λ t o e.
    on_checked (finish_at e) Err
    (λ z f. Ok (parsed (with_value p (range_of o)) (k + 2) n)))))

-- Rule 3.15: a key, an opaque SEQUENCE
unfoldable pub key_at : List ℕ → Cursor → Result (Parsed Parts) Fault
key_at s c =
    on_element (expect_at sequence_tag s c) Err
    (λ t b n.
    on_checked (opaque_at opaque_levels s c) Err
    (λ k e. Ok (parsed (parts no_range no_range (range c.at e.at)) k e)))

-- Rules 3.17, 3.19: one opaque element; of a certificate with x509Certificate it is an OCTET STRING
unfoldable pub value_at : Bool → List ℕ → Cursor → Result Checked Fault
value_at true s c = on_element (expect_at octet_string_tag s c) Err (λ t b n. opaque_at opaque_levels s c)
value_at false s c = opaque_at opaque_levels s c

-- Rule 3.17: certificate, CRL, secret, each a SEQUENCE of an identifier and [0] with one opaque
-- element
unfoldable pub typed_at : Bool → List ℕ → Cursor → Result (Parsed Parts) Fault
typed_at is-certificate s c =
    on_element (expect_at sequence_tag s c) Err
    (λ t b n.
    on_element (identifier_at s b) Err
    (λ t i m.
    on_element (expect_at context_tag s m) Err
    (λ t v e.
    on_checked (value_at (if is-certificate then same_bytes (bytes_of s i) x509_certificate else false) s v) Err
    (λ k f.
    on_checked (finish_at f) Err
    (λ z g.
    on_checked (finish_at e) Err
    (λ z h. Ok (parsed (parts (range_of i) no_range (range v.at f.at)) (k + 3) n)))))))

-- Rule 3.10: EncryptedContentInfo, a SEQUENCE of the identifier data, an AlgorithmIdentifier, and
-- tag 80 with the ciphertext. Rules 5.7, 5.35: no ciphertext is 7 at the parent's end
unfoldable pub encrypted_info_at : List ℕ → Cursor → Result (Parsed Parts) Fault
encrypted_info_at s c =
    on_element (expect_at sequence_tag s c) Err
    (λ t b n.
    on_element (identifier_at s b) Err
    (λ t i m.
    if same_bytes (bytes_of s i) data_type then
    on_parts (algorithm_at s m) Err
    (λ p k e.
    if leb e.end e.at then Err (fault not_served e.end) else
    on_element (expect_at ciphertext_tag s e) Err
    (λ t o f.
    on_checked (finish_at f) Err
    (λ z g. Ok (parsed (with_value p (range_of o)) (k + 3) n)))) else
    Err (fault content b.at)))

-- Rule 3.9: a SEQUENCE of the version 0 and an EncryptedContentInfo; version 2 is 7 (Rule 5.7)
unfoldable pub encrypted_at : List ℕ → Cursor → Result (Parsed Parts) Fault
encrypted_at s c =
    on_element (expect_at sequence_tag s c) Err
    (λ t b n.
    on_integer (integer_at s b) Err
    (λ v m.
    if eqb v attributed_version then Err (fault not_served b.at) else
    if eqb v encrypted_version then
    on_parts (encrypted_info_at s m) Err
    (λ p k e.
    on_checked (finish_at e) Err
    (λ z f. Ok (parsed p (k + 2) n))) else
    Err (fault content b.at)))

-- ---- parts that make rows

-- a refusal, or the rows with those of the part and the cursor past it
pub data Walked : Type 0 where
  Refused : Fault → Walked
  Went : Rows → Cursor → Walked

abbrev pub on_walked : {A : Type 0} → Walked → (Fault → A) → (Rows → Cursor → A) → A
on_walked (Refused f) bad good = bad f
on_walked (Went st n) bad good = good st n

-- the loop goes on from where a part ended
abbrev pub go_on : Walked → (Rows → ℕ → Walked) → Walked
go_on x next = on_walked x Refused (λ st n. next st n.at)

-- one after another, each by `step`, up to the cursor's end
unfoldable pub run : (Rows → Cursor → Walked) → Rows → Cursor → Walked
run step st c =
    many go_on (λ st at. Went st (cursor at c.end)) (λ st at. step st (cursor at c.end)) (c.end - c.at) c.end st c.at

-- more elements; a row more, with its elements
abbrev pub counting : Rows → ℕ → Rows
counting st k = record { safes = st.safes; bags = st.bags; attributes = st.attributes; input = st.input; count = st.count + k }

abbrev pub add_safe : Rows → SafeRow → ℕ → Rows
add_safe st r k = record { safes = st.safes ++ (r ∷ []); bags = st.bags; attributes = st.attributes; input = st.input; count = st.count + k }

abbrev pub add_bag : Rows → BagRow → ℕ → Rows
add_bag st r k = record { safes = st.safes; bags = st.bags ++ (r ∷ []); attributes = st.attributes; input = st.input; count = st.count + k }

abbrev pub add_attribute : Rows → AttributeRow → ℕ → Rows
add_attribute st r k = record { safes = st.safes; bags = st.bags; attributes = st.attributes ++ (r ∷ []); input = st.input; count = st.count + k }

-- Rule 3.20: an attribute of the bag with this number; a row too many is 8 (Rule 5.8)
unfoldable pub attribute_at : List ℕ → ℕ → Rows → Cursor → Walked
attribute_at s number st c =
    on_element (expect_at sequence_tag s c) Refused
    (λ t b n.
    if leb attribute_rows (length st.attributes) then Refused (fault too_many c.at) else
    on_element (identifier_at s b) Refused
    (λ t i m.
    on_element (expect_at set_tag s m) Refused
    (λ t v e.
    on_checked (elements_at opaque_levels s v) Refused
    (λ k f.
    on_checked (finish_at e) Refused
    (λ z g. Went (add_attribute st (attribute_row number (range_of i) (range_of v)) (k + 3)) n)))))

-- Rule 3.13: optionally a SET of attributes; any other byte there is 6 (Rule 5.34)
unfoldable pub set_at : List ℕ → ℕ → Rows → Cursor → Walked
set_at s number st c =
    if eqb (tag_at s c) set_tag then
    on_element (expect_at set_tag s c) Refused
    (λ t b n.
    on_walked (run (attribute_at s number) (counting st 1) b) Refused
    (λ st f.
    on_checked (finish_at n) Refused
    (λ z g. Went st n))) else
    on_checked (finish_at c) Refused (λ z g. Went st c)

-- what a bag belongs to: its safe, and its enclosing bag or none
pub record Owner : Type 0 where
  pub safe : ℕ
  pub enclosing : Option ℕ

abbrev pub owner : ℕ → Option ℕ → Owner
owner k e = record { safe = k; enclosing = e }

-- a bag of a kind that holds no bags: its value's parts, then its row
abbrev pub leaf_at : Result (Parsed Parts) Fault → BagKind → Owner → Bool → Rows → Walked
leaf_at x kind w has_set st =
    on_parts x Refused (λ p k f. Went (add_bag st (bag_row kind w.safe w.enclosing p has_set) (k + 3)) f)

-- what is in [0] of a bag, by its kind; `inner` reads the SafeContents of a nested bag. The
-- bag's SEQUENCE, bagId and [0] are counted with its row. (`None` doesn't come here: the bagId was
-- refused.)
abbrev pub content_at : (Owner → Rows → Cursor → Walked) → List ℕ → BagKind → Owner → Bool → Rows → Cursor → Walked
content_at inner s BagKind.None w h st c = Refused (fault not_served c.at)
content_at inner s Key w h st c = leaf_at (key_at s c) Key w h st
content_at inner s ShroudedKey w h st c = leaf_at (sealed_at s c) ShroudedKey w h st
content_at inner s Certificate w h st c = leaf_at (typed_at true s c) Certificate w h st
content_at inner s Crl w h st c = leaf_at (typed_at false s c) Crl w h st
content_at inner s Secret w h st c = leaf_at (typed_at false s c) Secret w h st
content_at inner s Nested w h st c =
    inner (owner w.safe (Some (length st.bags))) (add_bag st (bag_row Nested w.safe w.enclosing no_parts h) 3) c

abbrev pub on_kind : {A : Type 0} → BagKind → A → A → A
on_kind BagKind.None bad good = bad
on_kind Key bad good = good
on_kind ShroudedKey bad good = good
on_kind Certificate bad good = good
on_kind Crl bad good = good
on_kind Secret bad good = good
on_kind Nested bad good = good

-- Rule 3.13: SafeBag, a SEQUENCE of a bagId, [0] with one element, and optionally a SET of
-- attributes. A set is there if [0] doesn't end the bag.
unfoldable pub bag_at : (Owner → Rows → Cursor → Walked) → List ℕ → Owner → Rows → Cursor → Walked
bag_at inner s w st c =
    on_element (expect_at sequence_tag s c) Refused
    (λ t b n.
    if leb bag_rows (length st.bags) then Refused (fault too_many c.at) else
    on_element (identifier_at s b) Refused
    (λ t i m.
    on_kind (kind_of (bytes_of s i)) (Refused (fault not_served b.at))
    (on_element (expect_at context_tag s m) Refused
    (λ t v e.
    on_walked (content_at inner s (kind_of (bytes_of s i)) w (ltb e.at e.end) st v) Refused
    (λ st' f.
    on_checked (finish_at f) Refused
    (λ z g.
    on_walked (set_at s (length st.bags) st' e) Refused (λ st'' h. Went st'' n)))))))

-- Rule 3.12: SafeContents, a SEQUENCE of zero or more SafeBag, with l levels left; level 9 is 8
-- (Rule 5.8)
unfoldable pub safe_contents_at : ℕ → List ℕ → Owner → Rows → Cursor → Walked
safe_contents_at zero s w st c = on_element (expect_at sequence_tag s c) Refused (λ t b n. Refused (fault too_many c.at))
safe_contents_at (suc l) s w st c =
    on_element (expect_at sequence_tag s c) Refused
    (λ t b n. on_walked (run (bag_at (safe_contents_at l s) s w) (counting st 1) b) Refused (λ st f. Went st n))

-- Rules 3.5, 3.8: [0] with an OCTET STRING whose body is one of what `inner` reads and no byte more
unfoldable pub data_at : (Cursor → Walked) → List ℕ → Cursor → Walked
data_at inner s c =
    on_element (expect_at context_tag s c) Refused
    (λ t v e.
    on_element (expect_at octet_string_tag s v) Refused
    (λ t o f.
    on_walked (inner o) Refused
    (λ st g.
    on_checked (finish_at g) Refused
    (λ z h.
    on_checked (finish_at f) Refused (λ z i. Went st e)))))

-- a plain safe: its row, counted with its SEQUENCE, identifier, [0] and OCTET STRING; then its bags
unfoldable pub plain_at : List ℕ → Rows → Cursor → Walked
plain_at s st c = data_at (safe_contents_at levels s (owner (length st.safes) None) (add_safe st (safe_row Plain no_parts) 4)) s c

-- an encrypted safe: its parts, then its row, counted with its SEQUENCE, identifier and [0]
unfoldable pub sealed_safe_at : List ℕ → Rows → Cursor → Walked
sealed_safe_at s st c =
    on_element (expect_at context_tag s c) Refused
    (λ t v e.
    on_parts (encrypted_at s v) Refused
    (λ p k f.
    on_checked (finish_at f) Refused (λ z g. Went (add_safe st (safe_row Encrypted p) (k + 3)) e)))

-- what follows the type of a safe, which is at `at`: envelopedData is 7 (Rule 5.7), another is 5
unfoldable pub safe_value_at : List ℕ → List ℕ → ℕ → Rows → Cursor → Walked
safe_value_at s type at st c =
    if same_bytes type data_type then plain_at s st c else
    if same_bytes type encrypted_type then sealed_safe_at s st c else
    if same_bytes type enveloped_type then Refused (fault not_served at) else
    Refused (fault content at)

-- Rule 3.7: AuthenticatedSafe, a SEQUENCE of zero or more ContentInfo, each with a safe row
unfoldable pub safe_at : List ℕ → Rows → Cursor → Walked
safe_at s st c =
    on_element (expect_at sequence_tag s c) Refused
    (λ t b n.
    if leb safe_rows (length st.safes) then Refused (fault too_many c.at) else
    on_element (identifier_at s b) Refused
    (λ t i m.
    on_walked (safe_value_at s (bytes_of s i) b.at st m) Refused
    (λ st e. on_checked (finish_at e) Refused (λ z g. Went st n))))

-- no row yet, in the body c of the outer OCTET STRING, which is the MAC input (Rule 3.6). Counted
-- so far: PFX, version, ContentInfo, its identifier, [0] and OCTET STRING, and the SEQUENCE of the
-- AuthenticatedSafe.
abbrev pub start_rows : Cursor → Rows
start_rows c = record { safes = []; bags = []; attributes = []; input = range_of c; count = 7 }

-- the AuthenticatedSafe in that body
unfoldable pub safes_at : List ℕ → Cursor → Walked
safes_at s c =
    on_element (expect_at sequence_tag s c) Refused
    (λ t b n.
    on_walked (run (safe_at s) (start_rows c) b) Refused
    (λ st e. Went st n))

-- what follows the outer type, which is at `at`: data (Rule 3.5); signedData is 7 (Rule 5.7),
-- another is 5
unfoldable pub outer_value_at : List ℕ → List ℕ → ℕ → Cursor → Walked
outer_value_at s type at c =
    if same_bytes type data_type then data_at (safes_at s) s c else
    if same_bytes type signed_type then Refused (fault not_served at) else
    Refused (fault content at)

-- the outer ContentInfo
unfoldable pub outer_at : List ℕ → Cursor → Walked
outer_at s c =
    on_element (expect_at sequence_tag s c) Refused
    (λ t b n.
    on_element (identifier_at s b) Refused
    (λ t i m.
    on_walked (outer_value_at s (bytes_of s i) b.at m) Refused
    (λ st e. on_checked (finish_at e) Refused (λ z g. Went st n))))

-- ---- the MAC and the file

abbrev pub on_mac : {A : Type 0} → Result (Parsed Mac) Fault → (Fault → A) → (Mac → ℕ → Cursor → A) → A
on_mac x bad good = on_result x bad (λ p. good p.value p.count p.next)

-- Rule 3.22: iterations are 1 where they are absent, else 2 to 2,147,483,647; any other byte there
-- is 6 (Rule 5.34)
unfoldable pub iterations_at : List ℕ → Parts → Range → ℕ → Cursor → Result (Parsed Mac) Fault
iterations_at s p salt k c =
    if eqb (tag_at s c) integer_tag then
    on_integer (integer_at s c) Err
    (λ v e.
    if leb v default_iterations then Err (fault content c.at) else
    on_checked (finish_at e) Err (λ z f. Ok (parsed (mac_fields p salt v) (k + 1) e))) else
    on_checked (finish_at c) Err (λ z f. Ok (parsed (mac_fields p salt default_iterations) k c))

-- Rule 3.21: MacData, a SEQUENCE of a DigestInfo, the salt, and optionally the iterations
unfoldable pub mac_at : List ℕ → Cursor → Result (Parsed Mac) Fault
mac_at s c =
    on_element (expect_at sequence_tag s c) Err
    (λ t b n.
    on_parts (sealed_at s b) Err
    (λ p k m.
    on_element (expect_at octet_string_tag s m) Err
    (λ t o e.
    on_mac (iterations_at s p (range_of o) (k + 2) e) Err (λ x j f. Ok (parsed x j n)))))

abbrev pub refused : Fault → Reading
refused f = record { answer = Err f; table = empty_table }

-- the parts of a PFX behind its version; no MacData is 7 at the parent's end (Rules 5.7, 5.35)
unfoldable pub body_at : List ℕ → Cursor → Reading
body_at s c =
    on_walked (outer_at s c) refused
    (λ st e.
    if leb e.end e.at then refused (fault not_served e.end) else
    on_mac (mac_at s e) refused
    (λ x k f.
    on_checked (finish_at f) refused (λ z g. record { answer = (Ok tt); table = table_of (counting st k) x })))

abbrev pub on_answer : {A : Type 0} → Result ⊤ Fault → (Fault → A) → A → A
on_answer (Err f) bad good = bad f
on_answer (Ok tt) bad good = good

-- after the whole PFX: it has no byte after it (Rule 4.7)
abbrev pub alone : Cursor → Reading → Reading
alone n r = on_answer r.answer refused (on_checked (finish_at n) refused (λ z g. r))

-- Rule 3.3: PFX, a SEQUENCE of the version 3, a ContentInfo and a MacData
unfoldable pub pfx_at : List ℕ → Cursor → Reading
pfx_at s c =
    on_element (expect_at sequence_tag s c) refused
    (λ t b n.
    on_integer (integer_at s b) refused
    (λ v m. if eqb v pfx_version then alone n (body_at s m) else refused (fault content b.at)))

-- Rule 5.31: 9 is tested first, then the file is read front to back
unfoldable pub read_file : List ℕ → Reading
read_file s = if ltb file_bytes (length s) then refused (fault too_long 0) else pfx_at s (whole_of s)
