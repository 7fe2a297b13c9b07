-- Where a reading is in a file (Rule 4.2: every range lies within its parent's body). Elements
-- fill the body of their parent one behind another, from the file down, and each range is the body
-- of its element, or a whole opaque one. The rows are those of the table, and the fields that a
-- row's kind doesn't use are 0 or none (Rule 5.40).
use Rattle.std.specs.Prelude.{◌≡◌, List, [], ◌∷◌, ◌++◌, ℕ, ◌+◌, length}
use Rattle.der.specs.Numbers.{octet_string_tag, identifier_tag, sequence_tag, set_tag, context_tag}
use Rattle.der.specs.Octets.{tlv, integer, octet_string, identifier, sequence}
use Rattle.der.specs.Span.{Span}
use Rattle.pkcs12.specs.Numbers.{ciphertext_tag, pfx_version, encrypted_version}
use Rattle.pkcs12.specs.Identifiers.{data_type, encrypted_type, identifier_of}
use Rattle.pkcs12.specs.Syntax.{Algorithm, Sealed, Leaf, key, shrouded, typed, Attribute, Set, absent, present}
use Rattle.pkcs12.specs.Syntax.{Bags, none, bag, nest, Safe, plain, encrypted, MacData, Pfx, kind_of_leaf}
use Rattle.pkcs12.specs.Encode.{algorithm_bytes, sealed_bytes, data_bytes, attributes_bytes, set_bytes, leaf_bytes}
use Rattle.pkcs12.specs.Encode.{bags_bytes, encrypted_info, safes_bytes, mac_bytes, iterations_bytes}
use Rattle.pkcs12.specs.Valid.{bags_in}
use Rattle.pkcs12.specs.Values.{stands}
use Rattle.range.specs.Range.{no_range}
use Rattle.pkcs12.specs.Table.{parts, no_parts, safe_row, bag_row, Rows}
use Rattle.pkcs12.specs.Walk.{Owner, owner}
use Rattle.range.specs.declared.Range.{Range}
use Rattle.pkcs12.specs.declared.row.Parts.{Parts}
use Rattle.pkcs12.specs.declared.kind.SafeKind.TheVariants.{Plain, Encrypted}
use Rattle.pkcs12.specs.declared.kind.BagKind.{BagKind}
use Rattle.pkcs12.specs.declared.kind.BagKind.TheVariants.{Nested}
use Rattle.std.specs.Prelude.{None, Some}
use Rattle.pkcs12.specs.declared.row.SafeRow.{SafeRow}
use Rattle.pkcs12.specs.declared.row.BagRow.{BagRow}
use Rattle.pkcs12.specs.declared.row.AttributeRow.{AttributeRow}
use Rattle.pkcs12.specs.declared.row.Mac.{Mac}

-- an element with the tag t fills the range from..to; the range r is its body, the bytes x
pub record ElementLaid (s : List ℕ) (from to t : ℕ) (r : Range) (x : List ℕ) : Type 0 where
  pub element : Span s from to (tlv t x)
  pub body : Span s r.start r.end x
  pub ends : r.end ≡ to

-- the range r is from..to, with the bytes x: one opaque element, or nothing
pub record PieceLaid (s : List ℕ) (from to : ℕ) (r : Range) (x : List ℕ) : Type 0 where
  pub starts : r.start ≡ from
  pub ends : r.end ≡ to
  pub bytes : Span s from to x

-- an AlgorithmIdentifier; absent parameters are an empty range at the parent's end (Rule 3.11)
pub record AlgorithmLaid (s : List ℕ) (from to : ℕ) (p : Parts) (a : Algorithm) : Type 0 where
  pub body : Range
  pub rest : ℕ
  pub element : ElementLaid s from to sequence_tag body (identifier a.identifier ++ a.parameters)
  pub type : ElementLaid s body.start rest identifier_tag p.identifier a.identifier
  pub parameters : PieceLaid s rest body.end p.parameters a.parameters

-- a shrouded key's value, or a DigestInfo
pub record SealedLaid (s : List ℕ) (from to : ℕ) (p : Parts) (x : Sealed) : Type 0 where
  pub body : Range
  pub rest : ℕ
  pub element : ElementLaid s from to sequence_tag body (algorithm_bytes x.algorithm ++ octet_string x.octets)
  pub algorithm : AlgorithmLaid s body.start rest p x.algorithm
  pub octets : ElementLaid s rest body.end octet_string_tag p.value x.octets

-- the value of a certificate, CRL or secret
pub record TypedLaid (s : List ℕ) (from to : ℕ) (p : Parts) (t v : List ℕ) : Type 0 where
  pub body : Range
  pub rest : ℕ
  pub explicit : Range
  pub element : ElementLaid s from to sequence_tag body (identifier t ++ tlv context_tag v)
  pub type : ElementLaid s body.start rest identifier_tag p.identifier t
  pub context : ElementLaid s rest body.end context_tag explicit v
  pub value : PieceLaid s explicit.start explicit.end p.value v
  pub unused : p.parameters ≡ no_range

-- the value of a key
pub record KeyLaid (s : List ℕ) (from to : ℕ) (p : Parts) (v : List ℕ) : Type 0 where
  pub value : PieceLaid s from to p.value v
  pub unused : p ≡ parts no_range no_range p.value

-- what fills the body of a bag's [0]
abbrev pub LeafLaid : List ℕ → ℕ → ℕ → Parts → Leaf → Type 0
LeafLaid s from to p (key v) = KeyLaid s from to p v
LeafLaid s from to p (shrouded x) = SealedLaid s from to p x
LeafLaid s from to p (typed k t v) = TypedLaid s from to p t v

-- an attribute of bag n
pub record AttributeLaid (s : List ℕ) (from to n : ℕ) (a : Attribute) (r : AttributeRow) : Type 0 where
  pub names : r.bag ≡ n
  pub body : Range
  pub rest : ℕ
  pub element : ElementLaid s from to sequence_tag body (identifier a.identifier ++ tlv set_tag a.values)
  pub type : ElementLaid s body.start rest identifier_tag r.identifier a.identifier
  pub values : ElementLaid s rest body.end set_tag r.values a.values

-- attributes of bag n, one behind another
pub data AttributesLaid (s : List ℕ) (n : ℕ) : ℕ → ℕ → List Attribute → List AttributeRow → Type 0 where
  no_attribute_laid : {at : ℕ} → AttributesLaid s n at at [] []
  one_attribute : {from mid to : ℕ} {a : Attribute} {xs : List Attribute} {r : AttributeRow} {rs : List AttributeRow}
      → AttributeLaid s from mid n a r → AttributesLaid s n mid to xs rs → AttributesLaid s n from to (a ∷ xs) (r ∷ rs)

-- the set of bag n, or no byte where it is absent
pub data SetLaid (s : List ℕ) (n : ℕ) : ℕ → ℕ → Set → List AttributeRow → Type 0 where
  no_set : {at : ℕ} → SetLaid s n at at absent []
  one_set : {from to : ℕ} {xs : List Attribute} {rs : List AttributeRow} (body : Range)
      → ElementLaid s from to set_tag body (attributes_bytes xs) → AttributesLaid s n body.start body.end xs rs → SetLaid s n from to (present xs) rs

-- one bag, row n: its identifier, [0] whose body `value` holds x, and its set
pub record BagLaid (s : List ℕ) (from to : ℕ) (w : Owner) (n : ℕ) (k : BagKind) (p : Parts) (value : Range)
    (x : List ℕ) (set : Set) (row : BagRow) (own : List AttributeRow) : Type 0 where
  pub shows : row ≡ bag_row k w.safe w.enclosing p (stands set)
  pub body : Range
  pub name : Range
  pub rest : ℕ
  pub after : ℕ
  pub element : ElementLaid s from to sequence_tag body (identifier (identifier_of k) ++ (tlv context_tag x ++ set_bytes set))
  pub type : ElementLaid s body.start rest identifier_tag name (identifier_of k)
  pub context : ElementLaid s rest after context_tag value x
  pub attributes : SetLaid s n after body.end set own

-- bags one behind another, the first of which is row n, with their rows and attribute rows
pub data BagsLaid (s : List ℕ) : ℕ → ℕ → Owner → ℕ → Bags → List BagRow → List AttributeRow → Type 0 where
  no_bag_laid : {at : ℕ} {w : Owner} {n : ℕ} → BagsLaid s at at w n none [] []
  one_bag : {from mid to : ℕ} {w : Owner} {n : ℕ} {x : Leaf} {set : Set} {xs : Bags} {row : BagRow}
      {rows : List BagRow} {own rest : List AttributeRow} (p : Parts) (value : Range)
      → BagLaid s from mid w n (kind_of_leaf x) p value (leaf_bytes x) set row own → LeafLaid s value.start value.end p x
      → BagsLaid s mid to w (n + 1) xs rows rest
      → BagsLaid s from to w n (bag x set xs) (row ∷ rows) (own ++ rest)
  one_nest : {from mid to : ℕ} {w : Owner} {n : ℕ} {inner : Bags} {set : Set} {xs : Bags} {row : BagRow}
      {below rows : List BagRow} {deep own rest : List AttributeRow} (value body : Range)
      → BagLaid s from mid w n Nested no_parts value (sequence (bags_bytes inner)) set row own
      → ElementLaid s value.start value.end sequence_tag body (bags_bytes inner)
      → BagsLaid s body.start body.end (owner w.safe (Some n)) (n + 1) inner below deep
      → BagsLaid s mid to w (n + 1 + bags_in inner) xs rows rest
      → BagsLaid s from to w n (nest inner set xs) (row ∷ (below ++ rows)) (deep ++ (own ++ rest))

-- an EncryptedData
pub record EncryptedLaid (s : List ℕ) (from to : ℕ) (p : Parts) (x : Sealed) : Type 0 where
  pub body : Range
  pub info : Range
  pub name : Range
  pub rest : ℕ
  pub second : ℕ
  pub third : ℕ
  pub element : ElementLaid s from to sequence_tag body (integer encrypted_version ++ encrypted_info x)
  pub version : Span s body.start rest (integer encrypted_version)
  pub content : ElementLaid s rest body.end sequence_tag info (identifier data_type ++ (algorithm_bytes x.algorithm ++ tlv ciphertext_tag x.octets))
  pub type : ElementLaid s info.start second identifier_tag name data_type
  pub algorithm : AlgorithmLaid s second third p x.algorithm
  pub octets : ElementLaid s third info.end ciphertext_tag p.value x.octets

-- a ContentInfo of this type: the body `value` of its [0] holds x
pub record ContentLaid (s : List ℕ) (from to : ℕ) (type : List ℕ) (value : Range) (x : List ℕ) : Type 0 where
  pub body : Range
  pub name : Range
  pub rest : ℕ
  pub element : ElementLaid s from to sequence_tag body (identifier type ++ tlv context_tag x)
  pub named : ElementLaid s body.start rest identifier_tag name type
  pub context : ElementLaid s rest body.end context_tag value x

-- the same of type data: the body `octets` of its OCTET STRING holds one SEQUENCE, with the body
-- `inner`
pub record DataLaid (s : List ℕ) (from to : ℕ) (octets inner : Range) (x : List ℕ) : Type 0 where
  pub value : Range
  pub content : ContentLaid s from to data_type value (octet_string (sequence x))
  pub string : ElementLaid s value.start value.end octet_string_tag octets (sequence x)
  pub element : ElementLaid s octets.start octets.end sequence_tag inner x

-- safes one behind another, from safe k and bag n on, with their rows
pub data SafesLaid (s : List ℕ) : ℕ → ℕ → ℕ → ℕ → List Safe → List SafeRow → List BagRow → List AttributeRow → Type 0 where
  no_safe_laid : {at k n : ℕ} → SafesLaid s at at k n [] [] [] []
  one_plain : {from mid to k n : ℕ} {x : Bags} {xs : List Safe} {safes : List SafeRow} {below rows : List BagRow}
      {deep rest : List AttributeRow} (octets inner : Range)
      → DataLaid s from mid octets inner (bags_bytes x) → BagsLaid s inner.start inner.end (owner k None) n x below deep
      → SafesLaid s mid to (k + 1) (n + bags_in x) xs safes rows rest
      → SafesLaid s from to k n (plain x ∷ xs) (safe_row Plain no_parts ∷ safes) (below ++ rows) (deep ++ rest)
  one_encrypted : {from mid to k n : ℕ} {x : Sealed} {xs : List Safe} {safes : List SafeRow} {rows : List BagRow}
      {rest : List AttributeRow} (p : Parts) (value : Range)
      → ContentLaid s from mid encrypted_type value (sequence (integer encrypted_version ++ encrypted_info x)) → EncryptedLaid s value.start value.end p x
      → SafesLaid s mid to (k + 1) n xs safes rows rest
      → SafesLaid s from to k n (encrypted x ∷ xs) (safe_row Encrypted p ∷ safes) rows rest

-- MacData
pub record MacLaid (s : List ℕ) (from to : ℕ) (m : Mac) (x : MacData) : Type 0 where
  pub body : Range
  pub rest : ℕ
  pub after : ℕ
  pub element : ElementLaid s from to sequence_tag body (sealed_bytes x.digest ++ (octet_string x.salt ++ iterations_bytes x.iterations))
  pub digest : SealedLaid s body.start rest m.parts x.digest
  pub salt : ElementLaid s rest after octet_string_tag m.salt x.salt
  pub last : Span s after body.end (iterations_bytes x.iterations)
  pub iterations : m.iterations ≡ x.iterations

-- the whole file, which is the parent of the outermost element (Rule 2.4); the MAC input is the
-- body of the outer OCTET STRING, without its tag and length (Rule 3.6)
pub record PfxLaid (s : List ℕ) (st : Rows) (m : Mac) (x : Pfx) : Type 0 where
  pub body : Range
  pub inner : Range
  pub rest : ℕ
  pub after : ℕ
  pub element : ElementLaid s 0 (length s) sequence_tag body (integer pfx_version ++ (data_bytes (safes_bytes x.safes) ++ mac_bytes x.mac))
  pub version : Span s body.start rest (integer pfx_version)
  pub content : DataLaid s rest after st.input inner (safes_bytes x.safes)
  pub safes : SafesLaid s inner.start inner.end 0 0 x.safes st.safes st.bags st.attributes
  pub mac : MacLaid s after body.end m x.mac
