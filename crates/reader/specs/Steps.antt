-- Pieces of the walk's definitions, as the private functions take them. Nothing here has to be
-- believed: the reading call's contract names `read_file`, and each piece is proved to be a part of
-- it.
use Rattle.std.specs.Prelude.{Bool, true, false, List, ℕ, ◌+◌, ◌≤◌, length, leb, eqb}
use Rattle.std.specs.Prelude.{if◌then◌else◌}
use Rattle.der.specs.Numbers.{content, too_many, opaque_levels, octet_string_tag, sequence_tag, set_tag, context_tag}
use Rattle.der.specs.Element.{fault, tag_at, finish_at, expect_at, on_result, on_element}
use Rattle.der.specs.Content.{bytes_of, identifier_at, integer_at, on_integer}
use Rattle.der.specs.Opaque.{on_checked, elements_at}
use Rattle.der.specs.declared.Fault.{Fault}
use Rattle.der.specs.declared.Cursor.{Cursor}
use Rattle.der.specs.declared.Checked.{Checked}
use Rattle.pkcs12.specs.Table.{parsed}
use Rattle.pkcs12.specs.declared.answers.Parsed.{Parsed}
use Rattle.pkcs12.specs.declared.row.Mac.{Mac}
use Rattle.reader.specs.declared.bags.Bag.{Bag}
use Rattle.reader.specs.declared.file.Opened.{Opened}
use Rattle.reader.specs.declared.file.Outer.{Outer}
use Rattle.reader.specs.declared.safes.Contents.{Contents}
use Rattle.reader.specs.declared.safes.Octets.{Octets}
use Rattle.std.specs.Prelude.{Err, None, Ok, Option, Result, Some}
use Rattle.buffer.specs.Numbers.{file_bytes}
use Rattle.pkcs12.specs.Numbers.{not_served, pfx_version, default_iterations, levels}
use Rattle.range.specs.Bytes.{same_bytes}
use Rattle.pkcs12.specs.Identifiers.{data_type, signed_type, enveloped_type, encrypted_type, kind_of}
use Rattle.range.specs.Range.{no_range}
use Rattle.pkcs12.specs.Table.{parts, no_parts, safe_row, mac_fields, Rows}
use Rattle.pkcs12.specs.Walk.{range_of, on_parts, sealed_at, key_at, typed_at}
use Rattle.pkcs12.specs.Walk.{encrypted_at, Walked, Refused, Went, on_walked, run, add_safe, attribute_at}
use Rattle.pkcs12.specs.Walk.{set_at, Owner}
use Rattle.pkcs12.specs.Walk.{owner, on_kind, safe_contents_at}
use Rattle.pkcs12.specs.Walk.{on_mac, iterations_at, mac_at}
use Rattle.range.specs.declared.Range.{Range}
use Rattle.pkcs12.specs.declared.row.Parts.{Parts}
use Rattle.pkcs12.specs.declared.kind.BagKind.{BagKind}
use Rattle.pkcs12.specs.declared.kind.BagKind.TheVariants.{Key, ShroudedKey, Certificate, Crl, Secret, Nested}
use Rattle.pkcs12.specs.declared.kind.SafeKind.TheVariants.{Plain}
use Rattle.reader.specs.declared.bags.Set.{Set}

-- ---- what the code holds of a part

abbrev pub set : Cursor → Cursor → Set
set b n = record { body = b; next = n }

abbrev pub bag : BagKind → Parts → ℕ → Cursor → Cursor → Cursor → Bag
bag kind p k v e n = record { kind = kind; parts = p; count = k; value = v; set = e; next = n }

abbrev pub octets : Cursor → Cursor → Cursor → Octets
octets o f e = record { body = o; string = f; content = e }

abbrev pub outer : Cursor → Cursor → Outer
outer m n = record { body = m; next = n }

abbrev pub opened : Cursor → Cursor → Cursor → Cursor → Cursor → Cursor → Cursor → Opened
opened i b n f e mac file =
    record { input = i; body = b; safes = n; string = f; content = e; mac = mac; file = file }

-- ---- attributes and bags, up to the rows that they make

-- the values of an attribute whose identifier is i; n is past it
unfoldable pub attribute_values_at : List ℕ → Cursor → Cursor → Cursor → Result (Parsed Parts) Fault
attribute_values_at s i m n =
    on_element (expect_at set_tag s m) Err
    (λ t v e.
    on_checked (elements_at opaque_levels s v) Err
    (λ k f.
    on_checked (finish_at e) Err
    (λ z g. Ok (parsed (parts (range_of i) no_range (range_of v)) (k + 3) n))))

-- an attribute, with its values as the value of its parts
unfoldable pub attribute_parts_at : List ℕ → Bool → Cursor → Result (Parsed Parts) Fault
attribute_parts_at s full c =
    on_element (expect_at sequence_tag s c) Err
    (λ t b n.
    if full then Err (fault too_many c.at) else
    on_element (identifier_at s b) Err
    (λ t i m. attribute_values_at s i m n))

-- what is made of none, and of a value
abbrev pub on_option : {T A : Type 0} → Option T → A → (T → A) → A
on_option None none good = none
on_option (Some x) none good = good x

abbrev pub on_set : {A : Type 0} → Result (Option Set) Fault → (Fault → A) → A → (Cursor → Cursor → A) → A
on_set x bad none good = on_result x bad (λ y. on_option y none (λ z. good z.body z.next))

-- the set at c, or none, behind [0] of the bag, in whose body e is left
unfoldable pub set_head_at : List ℕ → Cursor → Cursor → Result (Option Set) Fault
set_head_at s e c =
    on_checked (finish_at e) Err
    (λ z g.
    if eqb (tag_at s c) set_tag then on_element (expect_at set_tag s c) Err (λ t b n. Ok (Some (set b n))) else
    on_checked (finish_at c) Err (λ z g. Ok None))

-- the count of parts is at most 65,535, so that a little can be added to it
abbrev pub SmallParts : Result (Parsed Parts) Fault → Type 0
SmallParts (Err f) = Unit {0}
SmallParts (Ok x) = x.count ≤ file_bytes

abbrev pub on_bag : {A : Type 0} → Result Bag Fault → (Fault → A)
    → (BagKind → Parts → ℕ → Cursor → Cursor → Cursor → A) → A
on_bag x bad good = on_result x bad (λ b. good b.kind b.parts b.count b.value b.set b.next)

-- a bag that holds no bags, counted with its SEQUENCE, bagId and [0]
unfoldable pub leaf_of : BagKind → Result (Parsed Parts) Fault → Cursor → Cursor → Result Bag Fault
leaf_of kind x e n = on_parts x Err (λ p k f. Ok (bag kind p (k + 3) f e n))

-- what is in [0], by the kind of the bag
unfoldable pub bag_value_at : List ℕ → BagKind → Cursor → Cursor → Cursor → Result Bag Fault
bag_value_at s BagKind.None v e n = Err (fault not_served v.at)
bag_value_at s Key v e n = leaf_of Key (key_at s v) e n
bag_value_at s ShroudedKey v e n = leaf_of ShroudedKey (sealed_at s v) e n
bag_value_at s Certificate v e n = leaf_of Certificate (typed_at true s v) e n
bag_value_at s Crl v e n = leaf_of Crl (typed_at false s v) e n
bag_value_at s Secret v e n = leaf_of Secret (typed_at false s v) e n
bag_value_at s Nested v e n = Ok (bag Nested no_parts 3 v e n)

unfoldable pub bag_of_at : List ℕ → ℕ → Cursor → Cursor → Cursor → Result Bag Fault
bag_of_at s at i m n =
    on_kind (kind_of (bytes_of s i)) (Err (fault not_served at))
    (on_element (expect_at context_tag s m) Err
    (λ t v e. bag_value_at s (kind_of (bytes_of s i)) v e n))

-- a bag up to its attributes
unfoldable pub bag_head_at : List ℕ → Bool → Cursor → Result Bag Fault
bag_head_at s full c =
    on_element (expect_at sequence_tag s c) Err
    (λ t b n.
    if full then Err (fault too_many c.at) else
    on_element (identifier_at s b) Err
    (λ t i m. bag_of_at s b.at i m n))

-- ---- safes, up to the rows that they make

abbrev pub on_octets : {A : Type 0} → Result Octets Fault → (Fault → A) → (Cursor → Cursor → Cursor → A) → A
on_octets x bad good = on_result x bad (λ o. good o.body o.string o.content)

-- the OCTET STRING in [0]
unfoldable pub data_head_at : List ℕ → Cursor → Result Octets Fault
data_head_at s c =
    on_element (expect_at context_tag s c) Err
    (λ t v e.
    on_element (expect_at octet_string_tag s v) Err
    (λ t o f. Ok (octets o f e)))

unfoldable pub both_at : Cursor → Cursor → Result Checked Fault
both_at a b = on_checked (finish_at a) Err (λ z f. finish_at b)

abbrev pub by_contents : {A : Type 0} → Contents → (Cursor → Cursor → Cursor → Cursor → A)
    → (Parts → ℕ → Cursor → A) → A
by_contents (Contents.Plain o f e n) plain sealed = plain o f e n
by_contents (Contents.Encrypted p k n) plain sealed = sealed p k n

abbrev pub on_contents : {A : Type 0} → Result Contents Fault → (Fault → A)
    → (Cursor → Cursor → Cursor → Cursor → A) → (Parts → ℕ → Cursor → A) → A
on_contents x bad plain sealed = on_result x bad (λ y. by_contents y plain sealed)

unfoldable pub plain_head_at : List ℕ → Cursor → Cursor → Result Contents Fault
plain_head_at s c n = on_octets (data_head_at s c) Err (λ o f e. Ok (Contents.Plain o f e n))

unfoldable pub encrypted_head_at : List ℕ → Cursor → Cursor → Result Contents Fault
encrypted_head_at s c n =
    on_element (expect_at context_tag s c) Err
    (λ t v e.
    on_parts (encrypted_at s v) Err
    (λ p k f. on_checked (both_at f e) Err (λ z g. Ok (Contents.Encrypted p (k + 3) n))))

unfoldable pub safe_of_at : List ℕ → List ℕ → ℕ → Cursor → Cursor → Result Contents Fault
safe_of_at s type at c n =
    if same_bytes type data_type then plain_head_at s c n else
    if same_bytes type encrypted_type then encrypted_head_at s c n else
    if same_bytes type enveloped_type then Err (fault not_served at) else
    Err (fault content at)

-- a safe up to its bags
unfoldable pub safe_head_at : List ℕ → Bool → Cursor → Result Contents Fault
safe_head_at s full c =
    on_element (expect_at sequence_tag s c) Err
    (λ t b n.
    if full then Err (fault too_many c.at) else
    on_element (identifier_at s b) Err
    (λ t i m. safe_of_at s (bytes_of s i) b.at m n))

-- what was read in a data OCTET STRING ends it, and it its [0], and that its ContentInfo
unfoldable pub closed_at : Cursor → Cursor → Cursor → Result Checked Fault
closed_at g f e = on_checked (finish_at g) Err (λ z h. both_at f e)

-- ---- the file, around its safes

abbrev pub on_outer : {A : Type 0} → Result Outer Fault → (Fault → A) → (Cursor → Cursor → A) → A
on_outer x bad good = on_result x bad (λ o. good o.body o.next)

unfoldable pub pfx_head_at : List ℕ → Cursor → Result Outer Fault
pfx_head_at s c =
    on_element (expect_at sequence_tag s c) Err
    (λ t b n.
    on_integer (integer_at s b) Err
    (λ v m. if eqb v pfx_version then Ok (outer m n) else Err (fault content b.at)))

abbrev pub on_opened : {A : Type 0} → Result Opened Fault → (Fault → A)
    → (Cursor → Cursor → Cursor → Cursor → Cursor → Cursor → Cursor → A) → A
on_opened x bad good =
    on_result x bad (λ o. good o.input o.body o.safes o.string o.content o.mac o.file)

unfoldable pub opened_safes_at : List ℕ → Cursor → Cursor → Cursor → Result Opened Fault
opened_safes_at s c mac file =
    on_octets (data_head_at s c) Err
    (λ o f e.
    on_element (expect_at sequence_tag s o) Err
    (λ t b n. Ok (opened o b n f e mac file)))

unfoldable pub opened_value_at : List ℕ → List ℕ → ℕ → Cursor → Cursor → Cursor → Result Opened Fault
opened_value_at s type at c mac file =
    if same_bytes type data_type then opened_safes_at s c mac file else
    if same_bytes type signed_type then Err (fault not_served at) else
    Err (fault content at)

unfoldable pub opened_info_at : List ℕ → Cursor → Cursor → Result Opened Fault
opened_info_at s c file =
    on_element (expect_at sequence_tag s c) Err
    (λ t b n.
    on_element (identifier_at s b) Err
    (λ t i m. opened_value_at s (bytes_of s i) b.at m n file))

-- the file down to its AuthenticatedSafe
unfoldable pub open_at : List ℕ → Cursor → Result Opened Fault
open_at s c = on_outer (pfx_head_at s c) Err (λ m n. opened_info_at s m n)

-- the iterations that are written at c
unfoldable pub stated_at : List ℕ → Parts → Range → ℕ → Cursor → Result (Parsed Mac) Fault
stated_at s p salt k c =
    on_integer (integer_at s c) Err
    (λ v e.
    if leb v default_iterations then Err (fault content c.at) else
    on_checked (finish_at e) Err (λ z f. Ok (parsed (mac_fields p salt v) (k + 1) e)))

-- the salt behind the digest, and the iterations
unfoldable pub salted_at : List ℕ → Parts → ℕ → Cursor → Cursor → Result (Parsed Mac) Fault
salted_at s p k m n =
    on_element (expect_at octet_string_tag s m) Err
    (λ t o e.
    on_mac (iterations_at s p (range_of o) (k + 2) e) Err (λ x j f. Ok (parsed x j n)))

-- the MAC, with which the PFX ends, and the file with it
unfoldable pub last_at : List ℕ → Cursor → Cursor → Result (Parsed Mac) Fault
last_at s c file =
    if leb c.end c.at then Err (fault not_served c.end) else
    on_mac (mac_at s c) Err
    (λ x k n. on_checked (both_at n file) Err (λ z g. Ok (parsed x k n)))

-- the file behind its safes
unfoldable pub close_at : List ℕ → Cursor → Cursor → Cursor → Cursor → Cursor → Result (Parsed Mac) Fault
close_at s safes string content mac file =
    on_checked (closed_at safes string content) Err (λ z g. last_at s mac file)

-- ---- rows

-- a bag's end: [0], in whose body e is left, is finished; then its attributes, at c; n is past the
-- bag
unfoldable pub bag_end_at : List ℕ → ℕ → Rows → Cursor → Cursor → Cursor → Walked
bag_end_at s number st e c n =
    on_checked (finish_at e) Refused (λ z g. on_walked (set_at s number st c) Refused (λ st' h. Went st' n))

-- whether a bag of this kind holds bags
abbrev pub is_nested : BagKind → Bool
is_nested BagKind.None = false
is_nested Key = false
is_nested ShroudedKey = false
is_nested Certificate = false
is_nested Crl = false
is_nested Secret = false
is_nested Nested = true

-- what is in [0] of a bag whose row is stored
unfoldable pub inside_at : (Owner → Rows → Cursor → Walked) → BagKind → ℕ → ℕ → Rows → Cursor → Walked
inside_at inner kind safe number st v =
    if is_nested kind then inner (owner safe (Some number)) st v else
    Went st v

-- the attributes in the body b of a set; e is past the set, and n past the bag
unfoldable pub set_body_at : List ℕ → ℕ → Rows → Cursor → Cursor → Cursor → Walked
set_body_at s number st b e n =
    on_walked (run (attribute_at s number) st b) Refused (λ st' f. on_checked (finish_at e) Refused (λ z g. Went st' n))

-- a plain safe whose contents are at o: its row, its bags, and that they end what they are in
unfoldable pub plain_safe_at : List ℕ → Rows → Cursor → Cursor → Cursor → Cursor → Walked
plain_safe_at s st o f e n =
    on_walked
    (safe_contents_at levels s (owner (length st.safes) None) (add_safe st (safe_row Plain no_parts) 4) o)
    Refused
    (λ st' g. on_checked (closed_at g f e) Refused (λ z h. Went st' n))

-- The number of elements before the first safe, which are counted at the start.
unfoldable pub start_count : ℕ
start_count = 7
