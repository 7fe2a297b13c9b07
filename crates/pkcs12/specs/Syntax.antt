-- The values that a file holds (Rule 4.1; sections 1 to 3 of the rules): bytes by value, no
-- offsets. This is what a reading is. Above each type is the ASN.1 production that it represents,
-- and how the two differ. A value of these types may break a rule: Valid.antt has the rules.
use Rattle.std.specs.Prelude.{List, ℕ}
use Rattle.pkcs12.specs.declared.kind.BagKind.{BagKind}
use Rattle.pkcs12.specs.declared.kind.BagKind.TheVariants.{Key, ShroudedKey, Certificate, Crl, Secret}

-- X.509, as RFC 2315 (PKCS #7) takes it over; also RFC 5280, 4.1.1.2:
--   AlgorithmIdentifier ::= SEQUENCE {
--       algorithm   OBJECT IDENTIFIER,
--       parameters  ANY DEFINED BY algorithm OPTIONAL }
-- The identifier is its body; the parameters are one opaque element, whole, of any type
-- (Rule 3.11). Absent parameters have no byte.
pub record Algorithm : Type 0 where
  pub identifier : List ℕ
  pub parameters : List ℕ

-- RFC 5958 (PKCS #8), 3:
--   EncryptedPrivateKeyInfo ::= SEQUENCE {
--       encryptionAlgorithm  AlgorithmIdentifier,
--       encryptedData        OCTET STRING }
-- RFC 2315 (PKCS #7), 9.4:
--   DigestInfo ::= SEQUENCE {
--       digestAlgorithm  AlgorithmIdentifier,
--       digest           OCTET STRING }
-- RFC 2315, 13 and 10.1:
--   EncryptedData ::= SEQUENCE {
--       version               INTEGER,
--       encryptedContentInfo  EncryptedContentInfo }
--   EncryptedContentInfo ::= SEQUENCE {
--       contentType                 OBJECT IDENTIFIER,
--       contentEncryptionAlgorithm  AlgorithmIdentifier,
--       encryptedContent            [0] IMPLICIT OCTET STRING OPTIONAL }
-- One type for all: an algorithm and the bytes that it made, a ciphertext or a digest. Version and
-- contentType have one value each (Rules 3.9, 3.10), so they are left out; encryptedContent must be
-- there (Rules 3.10, 5.7).
pub record Sealed : Type 0 where
  pub algorithm : Algorithm
  pub octets : List ℕ

-- RFC 7292, 4.2:
--   certBag BAG-TYPE ::= {CertBag IDENTIFIED BY {bagtypes 3}}
--   crlBag BAG-TYPE ::= {CRLBag IDENTIFIED BY {bagtypes 4}}
--   secretBag BAG-TYPE ::= {SecretBag IDENTIFIED BY {bagtypes 5}}
-- Only which of the three a bag is; their values have one form (Rule 3.17, below).
pub data Typed : Type 0 where
  certificate : Typed
  crl : Typed
  secret : Typed

-- What a bag that holds no bags holds. RFC 7292, 4.2.1 to 4.2.5:
--   KeyBag ::= PrivateKeyInfo
--   PKCS8ShroudedKeyBag ::= EncryptedPrivateKeyInfo
--   CertBag ::= SEQUENCE {
--       certId     BAG-TYPE.&id ({CertTypes}),
--       certValue  [0] EXPLICIT BAG-TYPE.&Type ({CertTypes}{@certId}) }
-- CRLBag and SecretBag have the same two parts, crlId and crlValue, secretTypeId and secretValue. A
-- key is one opaque SEQUENCE, whole: no part of a PrivateKeyInfo is read (Rule 3.15). The three
-- with a type have any type, and its value is one opaque element, whole (Rules 3.17, 3.19).
pub data Leaf : Type 0 where
  key : List ℕ → Leaf
  shrouded : Sealed → Leaf
  typed : Typed → List ℕ → List ℕ → Leaf

-- RFC 7292, 4.2:
--   PKCS12Attribute ::= SEQUENCE {
--       attrId      ATTRIBUTE.&id ({PKCS12AttrSet}),
--       attrValues  SET OF ATTRIBUTE.&Type ({PKCS12AttrSet}{@attrId}) }
-- Any type, and the body of the SET: zero or more opaque elements in any order (Rule 3.20), one
-- behind another.
pub record Attribute : Type 0 where
  pub identifier : List ℕ
  pub values : List ℕ

-- RFC 7292, 4.2, in SafeBag:
--   bagAttributes  SET OF PKCS12Attribute OPTIONAL
-- No set and an empty one are different readings (Rule 3.13), and the attributes are in any order
-- (Rule 3.20).
pub data Set : Type 0 where
  absent : Set
  present : List Attribute → Set

-- RFC 7292, 4.2 and 4.2.6:
--   SafeContents ::= SEQUENCE OF SafeBag
--   SafeBag ::= SEQUENCE {
--       bagId          BAG-TYPE.&id ({PKCS12BagSet}),
--       bagValue       [0] EXPLICIT BAG-TYPE.&Type ({PKCS12BagSet}{@bagId}),
--       bagAttributes  SET OF PKCS12Attribute OPTIONAL }
--   safeContentsBag BAG-TYPE ::= {SafeContents IDENTIFIED BY {bagtypes 6}}
-- The bags of a SafeContents in order: `bag` and `nest` put one in front, and `nest` is a
-- safeContentsBag. The bagId is known by the value; other kinds than these six have no reading
-- (Rules 3.14, 5.7), and there are at most 8 levels (Rule 3.18).
pub data Bags : Type 0 where
  none : Bags
  bag : Leaf → Set → Bags → Bags
  nest : Bags → Set → Bags → Bags

-- RFC 7292, 4.1:
--   AuthenticatedSafe ::= SEQUENCE OF ContentInfo
-- RFC 2315 (PKCS #7), 7 and 8:
--   ContentInfo ::= SEQUENCE {
--       contentType  OBJECT IDENTIFIER,
--       content      [0] EXPLICIT ANY DEFINED BY contentType OPTIONAL }
--   Data ::= OCTET STRING
-- One of these ContentInfo, with its content: of type data the bags of the SafeContents in the
-- OCTET STRING, of type encryptedData algorithm and ciphertext. EnvelopedData is not served
-- (Rules 3.8, 3.9, 5.7).
pub data Safe : Type 0 where
  plain : Bags → Safe
  encrypted : Sealed → Safe

-- RFC 7292, 4:
--   MacData ::= SEQUENCE {
--       mac         DigestInfo,
--       macSalt     OCTET STRING,
--       iterations  INTEGER DEFAULT 1 }
-- Iterations are a number, 1 where they are absent (Rule 3.22).
pub record MacData : Type 0 where
  pub digest : Sealed
  pub salt : List ℕ
  pub iterations : ℕ

-- RFC 7292, 4:
--   PFX ::= SEQUENCE {
--       version   INTEGER {v3(3)}(v3,...),
--       authSafe  ContentInfo,
--       macData   MacData OPTIONAL }
-- The version is 3, so it is left out; authSafe has the type data, and its safes take its place
-- (Rules 3.3, 3.5); macData must be there (Rules 3.3, 5.7). This is the whole reading (Rule 4.1).
pub record Pfx : Type 0 where
  pub safes : List Safe
  pub mac : MacData

-- the kind of a bag
abbrev pub kind_of_typed : Typed → BagKind
kind_of_typed certificate = Certificate
kind_of_typed crl = Crl
kind_of_typed secret = Secret

abbrev pub kind_of_leaf : Leaf → BagKind
kind_of_leaf (key v) = Key
kind_of_leaf (shrouded x) = ShroudedKey
kind_of_leaf (typed k t v) = kind_of_typed k
