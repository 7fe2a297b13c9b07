-- Elements of a file, each behind its header: what is before the content of a bag, of a
-- ContentInfo and of data, and the whole.
use mathlib.Core.Path.{◌≡◌, refl, sym, ap, ◌∙◌}
use mathlib.Core.List.{List, ◌++◌, append_assoc}
use denote.Bor.{Bor}
use Prim.Native.Nat.{ℕ, ◌+◌, ◌≤◌}
use native.Mathlib.Omega.{arith}
use lib.ListN.{length}
use Rattle.der.specs.Octets.{tlv, integer, identifier, sequence, octet_string}
use Rattle.der.specs.Numbers.{octet_string_tag, sequence_tag, context_tag}
use Rattle.buffer.specs.Numbers.{file_bytes}
use Rattle.pkcs12.specs.Numbers.{pfx_version}
use Rattle.pkcs12.specs.Identifiers.{data_type, encrypted_type, identifier_of}
use Rattle.pkcs12.specs.Syntax.{Sealed, Set, encrypted, Pfx}
use Rattle.pkcs12.specs.Encode.{content_info, data_bytes, set_bytes, bag_bytes, safe_bytes, safes_bytes, mac_bytes, encode}
use Rattle.pkcs12.specs.declared.row.Parts.{Parts}
use Rattle.pkcs12.specs.declared.kind.BagKind.{BagKind}
use Rattle.sizes.specs.Bodies.{content_of, encrypted_data_body, mac_body}
use Rattle.sizes.specs.Picked.{form_of}
use Rattle.sizes.specs.Sizes.{bag_size, content_info_size, data_size, pfx_size}
use Rattle.encode.specs.Sizes.{capped, element_size}
use Rattle.std.specs.Prelude.{None}
use Rattle.encode.proofs.Capped.{Sized, near_told, near_is, near_then, capped_small, element_more}
use Rattle.encode.proofs.Capped.{sized_told, sized_element, length_element}
use Rattle.sizes.proofs.Nears.{near_pfx}
use Rattle.sizes.proofs.Lengths.{bag_body_long, length_bag, info_body_long, length_info, length_data, pfx_body_long}
use Rattle.sizes.proofs.Lengths.{data_type_long, encrypted_type_long}
use Rattle.buffer.specs.declared.write.Out.{Out}
use Rattle.buffer.specs.Wrote.{Wrote}
use Rattle.buffer.proofs.Wrote.{◌then◌}
use Rattle.encode.specs.Header.{header}
use Rattle.writer.specs.Heads.{bag_head, info_head, data_head}
use Rattle.writer.specs.Wrote.{WroteIf, WroteShort}
use Rattle.writer.proofs.Puts.{when, known, sure, short_as, short_then, if_short, near_small, put_element}

-- a SEQUENCE's header with an identifier and the header of [0] behind it; the SEQUENCE has N bytes
head_put : (c : ℕ) {N n : ℕ} {id : List ℕ} {d m m2 e : Out} → n ≡ capped N
    → Wrote d (header sequence_tag n) m → Wrote m id m2 → Wrote m2 (header context_tag c) e
    → WroteIf (N ≤ file_bytes) d (header sequence_tag N ++ (id ++ header context_tag c)) e
head_put c {N} s f g h =
    when (h.same ∙ g.same ∙ f.same) (λ (k : N ≤ file_bytes). (rw (s ∙ capped_small N k) at f) then (g then h))

pub bag_head_put : (k : BagKind) (c q n : ℕ) {d m m2 e : Out} → n ≡ capped (bag_size c q)
    → Wrote d (header sequence_tag n) m → Wrote m (identifier (identifier_of k)) m2 → Wrote m2 (header context_tag c) e
    → WroteIf (bag_size c q ≤ file_bytes) d (bag_head k c q) e
unfolding bag_head
bag_head_put k c q n s f g h = head_put c s f g h

pub info_head_put : (type : List ℕ) (c n : ℕ) {d m m2 e : Out} → n ≡ capped (content_info_size c)
    → Wrote d (header sequence_tag n) m → Wrote m (identifier type) m2 → Wrote m2 (header context_tag c) e
    → WroteIf (content_info_size c ≤ file_bytes) d (info_head type c) e
unfolding info_head
info_head_put type c n s f g h = head_put c s f g h

info_above : (n : ℕ) → n ≤ content_info_size n
unfolding content_info_size
info_above n = omega (arith, element_more n)

pub data_head_put : (type : List ℕ) (n string content : ℕ) {d m m2 e : Out}
    → string ≡ capped (element_size n) → content ≡ capped (element_size string)
    → WroteIf (content_info_size content ≤ file_bytes) d (info_head type content) m
    → Wrote m (header octet_string_tag string) m2 → Wrote m2 (header sequence_tag n) e
    → WroteIf (data_size n ≤ file_bytes) d (data_head type n) e
unfolding data_head data_size
data_head_put type n string content {d} {m} {m2} s c f g h =
    when (h.same ∙ g.same ∙ f.same) (λ (k : data_size n ≤ file_bytes).
    let N : ℕ = element_size (element_size n) in
    let a : N ≤ file_bytes = omega (arith, info_above N, k) in
    let b : element_size n ≤ file_bytes = omega (arith, element_more (element_size n), a) in
    let y : string ≡ element_size n = s ∙ capped_small (element_size n) b in
    let z : content ≡ N = c ∙ ap (λ (x : ℕ). capped (element_size x)) y ∙ capped_small _ a in
    let F : WroteIf (content_info_size N ≤ file_bytes) d (info_head type N) m = rw z at f in
    let G : Wrote m (header octet_string_tag (element_size n)) m2 = rw y at g in
    known F k then (G then h))

data_above : (n : ℕ) → n ≤ data_size n
unfolding data_size
data_above n = omega (arith, info_above (element_size (element_size n)), element_more (element_size n), element_more n)

-- ---- by the kind of a bag

module _ (k j : BagKind) (h : k ≡ j) (d e : Out) where
  -- x is what was lent of the bytes y, which are the identifier of j
  pub id_of_lem : (x y : Bor (List ℕ)) → x ≡ y → identifier_of j ≡ y.now → Wrote d (identifier x.now) e
      → Wrote d (identifier (identifier_of k)) e
  id_of_lem x y p q f = rw (p, ← q, ← h) at f

  pub content_of_lem : (s : List ℕ) (p : Parts) → WroteShort d (content_of s j p) e → WroteShort d (content_of s k p) e
  content_of_lem s p f = rw h f

-- ---- a bag, by its head, its content and its set

-- an element is its header and its body
tlv_is : (t n : ℕ) (b : List ℕ) → n ≡ length b → tlv t b ≡ header t n ++ b
unfolding tlv header
tlv_is t n b e = rw e refl

bag_parts : (k : BagKind) (content : List ℕ) (set : Set) → (form_of k ≡ None → ⊥)
    → bag_bytes k content set ≡ bag_head k (length content) (length (set_bytes set)) ++ (content ++ set_bytes set)
unfolding bag_bytes bag_head
bag_parts k content set h =
    let id : List ℕ = identifier (identifier_of k) in
    let body : List ℕ = id ++ (tlv context_tag content ++ set_bytes set) in
    let z : bag_size (length content) (length (set_bytes set)) ≡ length body = sym (bag_body_long k content set h) in
    tlv_is sequence_tag (bag_size (length content) (length (set_bytes set))) body z
    ∙ rw (
      tlv_is context_tag (length content) content refl,
      append_assoc (header context_tag (length content)) content (set_bytes set),
      append_assoc (header sequence_tag (bag_size (length content) (length (set_bytes set)))) (id ++ header context_tag (length content)) (content ++ set_bytes set),
      append_assoc id (header context_tag (length content)) (content ++ set_bytes set),
    ) refl

pub bag_put : (k : BagKind) (content : List ℕ) (set : Set) (c q : ℕ) {d m m2 e : Out}
    → (form_of k ≡ None → ⊥) → Sized c content → Sized q (set_bytes set)
    → WroteIf (bag_size c q ≤ file_bytes) d (bag_head k c q) m → WroteShort m content m2
    → WroteShort m2 (set_bytes set) e → WroteShort d (bag_bytes k content set) e
unfolding bag_size
bag_put k content set c q {d} {m} h s v f g w =
    if_short (w.same ∙ g.same ∙ f.same) (λ small.
    let C : ℕ = length content in
    let Q : ℕ = length (set_bytes set) in
    let N : ℕ = 13 + (element_size C + Q) in
    let a : N ≤ file_bytes = omega (arith, small, length_bag k content set h, element_more N) in
    let x : c ≡ C = near_small c C s (omega (arith, a, element_more C)) in
    let y : q ≡ Q = near_small q Q v (omega (arith, a)) in
    let F : WroteIf (bag_size C Q ≤ file_bytes) d (bag_head k C Q) m = rw (x, y) at f in
    short_as (sym (bag_parts k content set h)) (short_then (sure (known F a)) (short_then g w)))

-- ---- a ContentInfo, by its head and its content

info_parts : (type content : List ℕ) → length (identifier type) ≡ 11 → content_info type content ≡ info_head type (length content) ++ content
unfolding content_info info_head
info_parts type content h =
    let id : List ℕ = identifier type in
    let z : content_info_size (length content) ≡ length (id ++ tlv context_tag content) = sym (info_body_long type content h) in
    tlv_is sequence_tag (content_info_size (length content)) (id ++ tlv context_tag content) z
    ∙ rw (
      tlv_is context_tag (length content) content refl,
      append_assoc (header sequence_tag (content_info_size (length content))) (id ++ header context_tag (length content)) content,
      append_assoc id (header context_tag (length content)) content,
    ) refl

pub info_put : (type content : List ℕ) (c : ℕ) {d m e : Out}
    → length (identifier type) ≡ 11 → Sized c content → WroteIf (content_info_size c ≤ file_bytes) d (info_head type c) m
    → WroteShort m content e → WroteShort d (content_info type content) e
info_put type content c {d} {m} h s f g =
    if_short (g.same ∙ f.same) (λ small.
    let C : ℕ = length content in
    let a : content_info_size C ≤ file_bytes = omega (arith, small, length_info type content h, element_more (content_info_size C)) in
    let x : c ≡ C = near_small c C s (omega (arith, a, info_above C)) in
    let F : WroteIf (content_info_size C ≤ file_bytes) d (info_head type C) m = rw x at f in
    short_as (sym (info_parts type content h)) (short_then (sure (known F a)) g))

-- an encrypted safe
pub encrypted_put : (x : Sealed) (size content : ℕ) {d m e : Out}
    → size ≡ capped (length (encrypted_data_body x)) → content ≡ capped (element_size size)
    → WroteIf (content_info_size content ≤ file_bytes) d (info_head encrypted_type content) m
    → WroteShort m (sequence (encrypted_data_body x)) e → WroteShort d (safe_bytes (encrypted x)) e
unfolding safe_bytes encrypted_data_body
encrypted_put x size content s c f g =
    info_put encrypted_type (sequence (encrypted_data_body x)) content encrypted_type_long
    (sized_element content size sequence_tag (encrypted_data_body x) c (sized_told size (encrypted_data_body x) s)) f g

-- ---- data, by its head and the elements of its SEQUENCE

data_parts : (x : List ℕ) → data_bytes x ≡ data_head data_type (length x) ++ x
unfolding data_bytes data_head
data_parts x =
    let n : ℕ = length x in
    let a : element_size n ≡ length (sequence x) = sym (length_element sequence_tag x) in
    let b : element_size (element_size n) ≡ length (octet_string (sequence x)) = rw a (sym (length_element octet_string_tag (sequence x))) in
    info_parts data_type (octet_string (sequence x)) data_type_long
    ∙ rw (
      ← b,
      tlv_is octet_string_tag (element_size n) (sequence x) a,
      tlv_is sequence_tag n x refl,
      append_assoc (info_head data_type (element_size (element_size n))) (header octet_string_tag (element_size n) ++ header sequence_tag n) x,
      append_assoc (header octet_string_tag (element_size n)) (header sequence_tag n) x,
    ) refl

pub data_put : (x : List ℕ) (n : ℕ) {d m e : Out} → Sized n x
    → WroteIf (data_size n ≤ file_bytes) d (data_head data_type n) m → WroteShort m x e → WroteShort d (data_bytes x) e
data_put x n {d} {m} s f g =
    if_short (g.same ∙ f.same) (λ small.
    let a : data_size (length x) ≤ file_bytes = omega (arith, small, length_data x, element_more (data_size (length x))) in
    let y : n ≡ length x = near_small n (length x) s (omega (arith, a, data_above (length x))) in
    let F : WroteIf (data_size (length x) ≤ file_bytes) d (data_head data_type (length x)) m = rw y at f in
    short_as (sym (data_parts x)) (short_then (sure (known F a)) g))

-- ---- the file

pub file_put : (x : Pfx) (n mac size : ℕ) {d m m2 m3 m4 e : Out}
    → Sized n (safes_bytes x.safes) → Sized mac (mac_body x.mac) → size ≡ capped (pfx_size n mac)
    → Wrote d (header sequence_tag size) m → Wrote m (integer pfx_version) m2
    → WroteIf (data_size n ≤ file_bytes) m2 (data_head data_type n) m3 → WroteShort m3 (safes_bytes x.safes) m4
    → WroteShort m4 (mac_bytes x.mac) e → WroteShort d (encode x) e
unfolding encode
file_put x n mac size s v z f g h k w =
    let safes : List ℕ = safes_bytes x.safes in
    put_element _ f
    (near_then _ _ _ (near_told size _ z)
    (near_then _ _ _ (near_pfx n mac (length safes) (length (mac_body x.mac)) s v) (near_is _ _ (sym (pfx_body_long x)))))
    (short_then (sure g) (short_then (data_put safes n s h k) w))
