-- What a sound table is written as: a file of bytes that is accepted and shows the table's reading,
-- and the only one.
use mathlib.Core.Bool.{true}
use mathlib.Core.Path.{◌≡◌, refl, sym, ap, ◌∙◌}
use mathlib.Core.List.{List, [], ◌∷◌, ◌++◌, map}
use mathlib.Core.Option.{some}
use Prim.Native.Nat.{ℕ, ◌+◌, ◌≤◌}
use native.Mathlib.Omega.{arith}
use lib.Dec.{ltb}
use lib.ListN.{length, get_or, length-append}
use borrow.Author.Tests.{ltb-true}
use Rattle.der.specs.Numbers.{octet_string_tag, identifier_tag, integer_tag, sequence_tag, set_tag, context_tag}
use Rattle.der.specs.Octets.{tlv, digits, integer_octets, integer, identifier}
use Rattle.der.specs.Span.{Bytes}
use Rattle.der.proofs.Choices.{never, by_test, by_lt, by_eq}
use Rattle.der.proofs.Octets.{bytes_append, digits_bytes, tlv_long, tlv_bytes}
use Rattle.buffer.specs.Numbers.{file_bytes}
use Rattle.pkcs12.specs.Numbers.{ciphertext_tag, encrypted_version, pfx_version, default_iterations}
use Rattle.pkcs12.specs.Identifiers.{data_type, encrypted_type, identifier_of}
use Rattle.pkcs12.specs.Syntax.{Algorithm, Sealed, Attribute, Set, absent, present, Bags, none, bag, nest, Safe}
use Rattle.pkcs12.specs.Syntax.{plain, encrypted, MacData, Pfx, kind_of_leaf}
use Rattle.pkcs12.specs.Encode.{algorithm_bytes, sealed_bytes, content_info, data_bytes, attribute_bytes}
use Rattle.pkcs12.specs.Encode.{attributes_bytes, set_bytes, leaf_bytes, bag_bytes, bags_bytes, encrypted_info}
use Rattle.pkcs12.specs.Encode.{safe_bytes, safes_bytes, iterations_bytes, mac_bytes, encode}
use Rattle.pkcs12.specs.Valid.{bags_in}
use Rattle.pkcs12.specs.Values.{SafeValue, empty_safe, plain_safe, encrypted_safe, Content, empty_bag, leaf}
use Rattle.pkcs12.specs.Values.{nested, BagValue, AttributeValue, Values, bag_values, own_values, set_values}
use Rattle.pkcs12.specs.Values.{attribute_values, safe_values, bags_of_safes, attributes_of_safes, rows_of}
use Rattle.pkcs12.specs.Table.{Rows, algorithm_in, sealed_in, content_in, safe_in, safe_shown, bag_shown}
use Rattle.pkcs12.specs.Table.{attribute_shown, shown, rows_in, values_of, reading_of}
use Rattle.range.specs.Range.{bytes_in}
use Rattle.pkcs12.specs.Accepted.{IsAccepted, Follows, table_from, reading_from}
use Rattle.der.specs.Named.{Each}
use Rattle.pkcs12.specs.Sound.{Sound}
use Rattle.pkcs12.specs.Checks.{all}
use Rattle.pkcs12.specs.Written.{file_of}
use Rattle.pkcs12.specs.declared.row.Parts.{Parts}
use Rattle.pkcs12.specs.declared.kind.SafeKind.{SafeKind}
use Rattle.pkcs12.specs.declared.kind.SafeKind.TheVariants.{Plain, Encrypted}
use Rattle.pkcs12.specs.declared.kind.BagKind.{BagKind}
use Rattle.pkcs12.specs.declared.kind.BagKind.TheVariants.{Key, ShroudedKey, Certificate, Crl, Secret, Nested}
use Rattle.std.specs.Prelude.{None, Option, Some}
use Rattle.pkcs12.specs.declared.row.AttributeRow.{AttributeRow}
use Rattle.pkcs12.specs.declared.row.Mac.{Mac}
use Rattle.pkcs12.specs.declared.table.Table.{Table}
use Rattle.pkcs12.proofs.Rows.{tree_rows}
use Rattle.pkcs12.proofs.Checked.{part_bytes, sound_file}
use Rattle.pkcs12.proofs.Corollaries.{accepted_follows, accepted_sound, follows_accepted, follows_reading}

-- ---- what is written is of bytes

-- x is of bytes, if it is no longer than a file may be
record Fine (x : List ℕ) : Type 0 where
  bytes : length x ≤ file_bytes → Bytes x

fine_any : {x : List ℕ} → Bytes x → Fine x
fine_any b = record { bytes = λ h. b }

fine_join : {x y : List ℕ} → Fine x → Fine y → Fine (x ++ y)
fine_join {x} {y} p q =
    record { bytes = λ h. bytes_append x y (p.bytes (omega (arith, h, length-append x y))) (q.bytes (omega (arith, h, length-append x y))) }

fine_tlv : {x : List ℕ} (t : ℕ) → ltb t 256 ≡ true → Fine x → Fine (tlv t x)
fine_tlv {x} t e p =
    record { bytes = λ h. tlv_bytes t x (ltb-true t 256 e) (omega (arith, h, tlv_long t x)) (p.bytes (omega (arith, h, tlv_long t x))) }

-- INTEGER, and an identifier
integer_fine : (n : ℕ) → Fine (integer n)
unfolding integer_octets
integer_fine n =
    fine_tlv integer_tag refl (fine_any (by_lt Bytes _ _ (get_or (digits n) 0 0) 128 (λ h. digits_bytes n) (λ h. (omega arith, digits_bytes n))))

identifier_fine : (x : List ℕ) → Bytes x → Fine (identifier x)
identifier_fine x b = fine_tlv identifier_tag refl (fine_any b)

-- the identifiers that are named
told_bytes : (x : List ℕ) → all (λ b. ltb b 256) x ≡ true → Bytes x
unfolding all
told_bytes [] e = tt
told_bytes (b ∷ x) e = by_test (λ u. u ≡ true → Bytes (b ∷ x)) _ _ (ltb b 256) (λ h r. (ltb-true b 256 h, told_bytes x r)) (λ h r. never r) e

data_bytes_lem : Bytes data_type
unfolding data_type all
data_bytes_lem = told_bytes data_type refl

encrypted_bytes_lem : Bytes encrypted_type
unfolding encrypted_type all
encrypted_bytes_lem = told_bytes encrypted_type refl

kind_bytes : (k : BagKind) → Bytes (identifier_of k)
unfolding identifier_of all
kind_bytes BagKind.None = tt
kind_bytes Key = told_bytes (identifier_of Key) refl
kind_bytes ShroudedKey = told_bytes (identifier_of ShroudedKey) refl
kind_bytes Certificate = told_bytes (identifier_of Certificate) refl
kind_bytes Crl = told_bytes (identifier_of Crl) refl
kind_bytes Secret = told_bytes (identifier_of Secret) refl
kind_bytes Nested = told_bytes (identifier_of Nested) refl

-- each part
algorithm_fine : (a : Algorithm) → Bytes a.identifier → Bytes a.parameters → Fine (algorithm_bytes a)
unfolding algorithm_bytes
algorithm_fine a i p = fine_tlv sequence_tag refl (fine_join (identifier_fine a.identifier i) (fine_any p))

sealed_fine : (x : Sealed) → Fine (algorithm_bytes x.algorithm) → Bytes x.octets → Fine (sealed_bytes x)
unfolding sealed_bytes
sealed_fine x a o = fine_tlv sequence_tag refl (fine_join a (fine_tlv octet_string_tag refl (fine_any o)))

content_fine : (type x : List ℕ) → Bytes type → Fine x → Fine (content_info type x)
unfolding content_info
content_fine type x b p = fine_tlv sequence_tag refl (fine_join (identifier_fine type b) (fine_tlv context_tag refl p))

data_fine : (x : List ℕ) → Fine x → Fine (data_bytes x)
unfolding data_bytes
data_fine x p = content_fine data_type _ data_bytes_lem (fine_tlv octet_string_tag refl (fine_tlv sequence_tag refl p))

encrypted_fine : (x : Sealed) → Fine (algorithm_bytes x.algorithm) → Bytes x.octets → Fine (safe_bytes (encrypted x))
unfolding safe_bytes encrypted_info
encrypted_fine x a o =
    content_fine encrypted_type _ encrypted_bytes_lem (fine_tlv sequence_tag refl (fine_join (integer_fine encrypted_version)
    (fine_tlv sequence_tag refl (fine_join (identifier_fine data_type data_bytes_lem) (fine_join a (fine_tlv ciphertext_tag refl (fine_any o)))))))

bag_fine : (k : BagKind) (x : List ℕ) (set : Set) → Fine x → Fine (set_bytes set) → Fine (bag_bytes k x set)
unfolding bag_bytes
bag_fine k x set p q = fine_tlv sequence_tag refl (fine_join (identifier_fine (identifier_of k) (kind_bytes k)) (fine_join (fine_tlv context_tag refl p) q))

iterations_fine : (n : ℕ) → Fine (iterations_bytes n)
unfolding iterations_bytes
iterations_fine n = by_eq Fine [] (integer n) n default_iterations (λ h. fine_any tt) (λ h. integer_fine n)

mac_fine : (m : MacData) → Fine (sealed_bytes m.digest) → Bytes m.salt → Fine (mac_bytes m)
unfolding mac_bytes
mac_fine m d s = fine_tlv sequence_tag refl (fine_join d (fine_join (fine_tlv octet_string_tag refl (fine_any s)) (iterations_fine m.iterations)))

-- ---- rows show what is written as bytes

abbrev FineSafe : SafeValue → Type 0
FineSafe empty_safe = Unit {0}
FineSafe plain_safe = Unit {0}
FineSafe (encrypted_safe x) = Fine (safe_bytes (encrypted x))

abbrev FineContent : Content → Type 0
FineContent empty_bag = Unit {0}
FineContent (leaf x) = Fine (leaf_bytes x)
FineContent nested = Unit {0}

abbrev FineBag : BagValue → Type 0
FineBag r = FineContent r.content

abbrev FineAttribute : AttributeValue → Type 0
FineAttribute r = Fine (attribute_bytes r.attribute)

record FineValues (v : Values) : Type 0 where
  safes : Each FineSafe v.safes
  bags : Each FineBag v.bags
  attributes : Each FineAttribute v.attributes
  mac : Fine (mac_bytes v.mac)

-- what holds of all that is shown holds of each
each_shown : {A B : Type 0} (Q : B → Type 0) (f : A → B) → ((a : A) → Q (f a)) → (xs : List A) → Each Q (map f xs)
unfolding Each
each_shown Q f h [] = tt
each_shown Q f h (x ∷ xs) = (h x, each_shown Q f h xs)

module _ (s : List ℕ) (bytes : Bytes s) where
  shown_algorithm : (p : Parts) → Fine (algorithm_bytes (algorithm_in s p))
  shown_algorithm p = algorithm_fine _ (part_bytes s bytes p.identifier) (part_bytes s bytes p.parameters)

  shown_sealed : (p : Parts) → Fine (sealed_bytes (sealed_in s p))
  shown_sealed p = sealed_fine (sealed_in s p) (shown_algorithm p) (part_bytes s bytes p.value)

  shown_typed : (p : Parts) → Fine (content_info (bytes_in s p.identifier) (bytes_in s p.value))
  shown_typed p = content_fine _ _ (part_bytes s bytes p.identifier) (fine_any (part_bytes s bytes p.value))

  shown_safe : (k : SafeKind) (p : Parts) → FineSafe (safe_in s k p)
  shown_safe SafeKind.None p = tt
  shown_safe Plain p = tt
  shown_safe Encrypted p = encrypted_fine (sealed_in s p) (shown_algorithm p) (part_bytes s bytes p.value)

  shown_content : (k : BagKind) (p : Parts) → FineContent (content_in s k p)
  unfolding leaf_bytes content_info
  shown_content BagKind.None p = tt
  shown_content Key p = fine_any (part_bytes s bytes p.value)
  shown_content ShroudedKey p = shown_sealed p
  shown_content Certificate p = shown_typed p
  shown_content Crl p = shown_typed p
  shown_content Secret p = shown_typed p
  shown_content Nested p = tt

  shown_attribute : (r : AttributeRow) → FineAttribute (attribute_shown s r)
  unfolding attribute_bytes
  shown_attribute r =
      fine_tlv sequence_tag refl (fine_join (identifier_fine _ (part_bytes s bytes r.identifier))
      (fine_tlv set_tag refl (fine_any (part_bytes s bytes r.values))))

  shown_fine : (st : Rows) (m : Mac) → FineValues (shown s st m)
  unfolding shown
  shown_fine st m =
      record {
        safes = each_shown FineSafe (safe_shown s) (λ r. shown_safe r.kind r.parts) st.safes;
        bags = each_shown FineBag (bag_shown s) (λ r. shown_content r.kind r.parts) st.bags;
        attributes = each_shown FineAttribute (attribute_shown s) shown_attribute st.attributes;
        mac = mac_fine _ (shown_sealed m.parts) (part_bytes s bytes m.salt);
      }

-- ---- a reading with such rows is written as bytes

-- each of two lists, one behind the other
each_split : {A : Type 0} (P : A → Type 0) (x y : List A) → Each P (x ++ y) → Each P x × Each P y
unfolding Each
each_split P [] y h = (tt, h)
each_split P (a ∷ x) y h = let q = each_split P x y h.1 in ((h.0, q.0), q.1)

own_fine : (n : ℕ) (xs : List Attribute) → Each FineAttribute (own_values n xs) → Fine (attributes_bytes xs)
unfolding Each own_values attributes_bytes
own_fine n [] h = fine_any tt
own_fine n (a ∷ xs) h = fine_join h.0 (own_fine n xs h.1)

set_fine : (n : ℕ) (set : Set) → Each FineAttribute (set_values n set) → Fine (set_bytes set)
unfolding set_bytes
set_fine n absent h = fine_any tt
set_fine n (present xs) h = fine_tlv set_tag refl (own_fine n xs h)

bags_fine : (k : ℕ) (e : Option ℕ) (n : ℕ) (x : Bags) → Each FineBag (bag_values k e n x) → Each FineAttribute (attribute_values n x) → Fine (bags_bytes x)
unfolding Each bag_values attribute_values bags_bytes
bags_fine k e n none p q = fine_any tt
bags_fine k e n (bag x set xs) p q =
    let c = each_split FineAttribute (set_values n set) (attribute_values (n + 1) xs) q in
    fine_join (bag_fine (kind_of_leaf x) (leaf_bytes x) set p.0 (set_fine n set c.0)) (bags_fine k e (n + 1) xs p.1 c.1)
bags_fine k e n (nest inner set xs) p q =
    let m : ℕ = n + 1 + bags_in inner in
    let b = each_split FineBag (bag_values k (Some n) (n + 1) inner) (bag_values k e m xs) p.1 in
    let c = each_split FineAttribute (attribute_values (n + 1) inner) (set_values n set ++ attribute_values m xs) q in
    let d = each_split FineAttribute (set_values n set) (attribute_values m xs) c.1 in
    fine_join (bag_fine Nested _ set (fine_tlv sequence_tag refl (bags_fine k (Some n) (n + 1) inner b.0 c.0)) (set_fine n set d.0))
    (bags_fine k e m xs b.1 d.1)

safes_fine : (k n : ℕ) (xs : List Safe) → Each FineSafe (safe_values xs) → Each FineBag (bags_of_safes k n xs) → Each FineAttribute (attributes_of_safes n xs)
    → Fine (safes_bytes xs)
unfolding Each safe_values bags_of_safes attributes_of_safes safes_bytes safe_bytes
safes_fine k n [] g p q = fine_any tt
safes_fine k n (plain x ∷ xs) g p q =
    let b = each_split FineBag (bag_values k None n x) (bags_of_safes (k + 1) (n + bags_in x) xs) p in
    let c = each_split FineAttribute (attribute_values n x) (attributes_of_safes (n + bags_in x) xs) q in
    fine_join (data_fine (bags_bytes x) (bags_fine k None n x b.0 c.0)) (safes_fine (k + 1) (n + bags_in x) xs g.1 b.1 c.1)
safes_fine k n (encrypted x ∷ xs) g p q = fine_join g.0 (safes_fine (k + 1) (n + 0) xs g.1 p q)

pfx_fine : (x : Pfx) → FineValues (rows_of x) → Fine (encode x)
unfolding rows_of encode
pfx_fine x v =
    fine_tlv sequence_tag refl
    (fine_join (integer_fine pfx_version)
    (fine_join (data_fine _ (safes_fine 0 0 x.safes v.safes v.bags v.attributes)) v.mac))

-- what a table shows of bytes is written as bytes, where it is no longer than a file may be
pub encode_bytes : (t : Table) (s : List ℕ) → Bytes s → (o : Sound t s) → length (encode o.reading) ≤ file_bytes → Bytes (encode o.reading)
unfolding reading_of values_of
encode_bytes t s b o h = (pfx_fine o.reading (rw (tree_rows (values_of t s) o.reading o.shows) (shown_fine s b (rows_in t) t.mac))).bytes h

-- ---- the file of a sound table

module _ (t : Table) (s : List ℕ) where
  -- it is accepted, and shows the table's reading
  pub written_is_read : Bytes s → (o : Sound t s) → length (encode o.reading) ≤ file_bytes
      → IsAccepted (encode o.reading) × (reading_from (encode o.reading) ≡ reading_of t s)
  written_is_read b o h =
      let f : List ℕ = encode o.reading in
      let c : Bytes f = encode_bytes t s b o h in
      let w : Follows f o.reading = record { valid = o.valid; written = refl; size = h } in
      (follows_accepted f c o.reading w, follows_reading f c o.reading w ∙ sym o.shows)

  -- it is the only one that shows it
  pub only_file : (o : Sound t s) (g : List ℕ) → Bytes g → IsAccepted g → reading_from g ≡ reading_of t s → g ≡ encode o.reading
  only_file o g b a e =
      let p = accepted_follows g b a in
      let q : some p.0 ≡ some o.reading = sym (follows_reading g b p.0 p.1) ∙ e ∙ o.shows in
      let r : p.0 ≡ o.reading = cc in
      sym p.1.written ∙ ap encode r

-- a file that is read and written again is as it was
pub read_then_written : (f : List ℕ) → Bytes f → IsAccepted f → file_of (table_from f) f ≡ some f
read_then_written f b a =
    let o = accepted_sound f b a in
    sound_file (table_from f) f b o ∙ ap some (sym (only_file (table_from f) f o f b a refl))
