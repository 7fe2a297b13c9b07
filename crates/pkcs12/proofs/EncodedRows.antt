-- What a valid reading is written as is accepted, if it has at most 65,535 bytes. Of the rows on
-- the way only their numbers matter.
use mathlib.Core.Bool.{Bool, true, false}
use mathlib.Core.Path.{◌≡◌, refl}
use mathlib.Core.List.{List, [], ◌∷◌, ◌++◌}
use Prim.Native.Nat.{ℕ, zero, suc, ◌+◌, ◌-◌, ◌≤◌, ◌<◌}
use native.Mathlib.Omega.{arith}
use native.Mathlib.Nat.{add-zero}
use lib.Dec.{ltb}
use lib.ListN.{length, length-append}
use borrow.Author.Tests.{le-ltb, lt-leb}
use Rattle.der.specs.Numbers.{octet_string_tag, opaque_levels, sequence_tag, set_tag, context_tag}
use Rattle.der.specs.Element.{cursor, whole_of}
use Rattle.der.specs.Many.{many}
use Rattle.der.specs.Octets.{tlv, integer, sequence, octet_string}
use Rattle.der.specs.Span.{Span}
use Rattle.der.specs.Follows.{RunIs}
use Rattle.der.specs.Tree as tree
use Rattle.der.specs.declared.Cursor.{Cursor}
use Rattle.der.proofs.Many.{many_end, going_on}
use Rattle.der.proofs.Spans.{span_split, span_whole}
use Rattle.der.proofs.Header.{tag_none}
use Rattle.der.proofs.Values.{integer_then}
use Rattle.der.proofs.Grammar.{elements_complete}
use Rattle.der.proofs.Choices.{never}
use Rattle.pkcs12.specs.Numbers.{safe_rows, bag_rows, attribute_rows, levels, pfx_version, encrypted_version}
use Rattle.buffer.specs.Numbers.{file_bytes}
use Rattle.pkcs12.specs.Identifiers.{data_type, encrypted_type, x509_certificate, identifier_of}
use Rattle.pkcs12.specs.Syntax.{Leaf, key, shrouded, typed, certificate, crl, secret, Attribute, Set, absent}
use Rattle.pkcs12.specs.Syntax.{present, Bags, none, bag, nest, Safe, plain, encrypted, Sealed, Pfx, kind_of_leaf}
use Rattle.pkcs12.specs.Encode.{content_info, data_bytes, attribute_bytes, attributes_bytes, set_bytes, leaf_bytes}
use Rattle.pkcs12.specs.Encode.{bag_bytes, bags_bytes, encrypted_info, safe_bytes, safes_bytes, mac_bytes, encode}
use Rattle.pkcs12.specs.Valid.{ValidLeaf, ValidAttribute, ValidAttributes, ValidSet, ValidBags, ValidSealed}
use Rattle.pkcs12.specs.Valid.{ValidContents, ValidSafe, ValidSafes, bags_in, attributes_of, attributes_in}
use Rattle.pkcs12.specs.Valid.{bags_in_safe, attributes_in_safe, bags_in_safes, attributes_in_safes, Valid}
use Rattle.pkcs12.specs.Table.{Rows}
use Rattle.pkcs12.specs.Walk.{key_at, sealed_at, typed_at, encrypted_at, mac_at, Walked, Refused, Went, go_on, run}
use Rattle.pkcs12.specs.Walk.{counting, attribute_at, set_at, Owner, leaf_at, content_at, bag_at, safe_contents_at}
use Rattle.pkcs12.specs.Walk.{data_at, plain_at, sealed_safe_at, safe_at, safe_value_at, safes_at, start_rows, outer_at}
use Rattle.pkcs12.specs.Walk.{outer_value_at, body_at, pfx_at, read_file}
use Rattle.pkcs12.specs.Accepted.{IsAccepted}
use Rattle.pkcs12.specs.declared.kind.BagKind.{BagKind}
use Rattle.pkcs12.specs.declared.kind.BagKind.TheVariants.{Key, ShroudedKey, Certificate, Crl, Secret, Nested}
use Rattle.der.specs.declared.Fault.{Fault}
use Rattle.pkcs12.specs.declared.answers.Parsed.{Parsed}
use Rattle.pkcs12.specs.declared.row.Parts.{Parts}
use Rattle.std.specs.Prelude.{Err, Ok, Result}
use Rattle.range.proofs.SameBytes.{same_self, same_is}
use Rattle.pkcs12.proofs.Named.{data_rule, encrypted_rule, other_type, Served, on_kind_lem, kind_named}
use Rattle.pkcs12.proofs.EncodedParts.{Ends, parts_then, mac_then, attribute_some, bag_some, safe_some}
use Rattle.pkcs12.proofs.EncodedParts.{mac_some, finished, expect_then, tag_of, sequence_then, named_then}
use Rattle.pkcs12.proofs.EncodedParts.{sealed_passes, key_passes, typed_passes, encrypted_passes, mac_passes}

-- x safe rows, y bag rows and z attribute rows so far
record Sizes (st : Rows) (x y z : ℕ) : Type 0 where
  safes : length st.safes ≡ x
  bags : length st.bags ≡ y
  attributes : length st.attributes ≡ z

-- nothing was refused, n is the cursor past what was read, and there are so many rows
abbrev Reaches : Walked → Cursor → ℕ → ℕ → ℕ → Type 0
Reaches (Refused f) n x y z = ⊥
Reaches (Went st e) n x y z = (e ≡ n) × Sizes st x y z

walked_then : {P : Type 0} (w : Walked) (n : Cursor) (x y z : ℕ) → Reaches w n x y z → ((st : Rows) → w ≡ Went st n → Sizes st x y z → P) → P
walked_then (Refused f) n x y z h k = absurd h
walked_then (Went st e) n x y z h k = k st (rw h.0) h.1

-- a row more
one_more_lem : {A : Type 0} (xs : List A) (r : A) (n : ℕ) → length xs ≡ n → length (xs ++ (r ∷ [])) ≡ n + 1
one_more_lem xs r n h = omega (arith, length-append xs (r ∷ []))

-- what a bag that holds no bags is written with is a kind that is served
leaf_served : (x : Leaf) → Served (kind_of_leaf x)
leaf_served (key v) = refl
leaf_served (shrouded x) = refl
leaf_served (typed certificate t v) = refl
leaf_served (typed crl t v) = refl
leaf_served (typed secret t v) = refl

-- a bag that holds no bags is a row more
leaf_of_lem : (p : Result (Parsed Parts) Fault) (kind : BagKind) (w : Owner) (h : Bool) (st : Rows) (n : Cursor) (x y z : ℕ) → Ends p n → Sizes st x y z
    → Reaches (leaf_at p kind w h st) n x (y + 1) z
leaf_of_lem (Err f) kind w h st n x y z o r = absurd o
leaf_of_lem (Ok v) kind w h st n x y z o r =
    (o, record { safes = r.safes; bags = one_more_lem st.bags _ y r.bags; attributes = r.attributes })

-- the loop, with any fuel that reaches its end: its end, and one part in front of the rest
abbrev looped : (Rows → Cursor → Walked) → ℕ → ℕ → Rows → ℕ → Walked
looped step end fuel st at = many go_on (λ st at. Went st (cursor at end)) (λ st at. step st (cursor at end)) fuel end st at

module _ (s : List ℕ) (step : Rows → Cursor → Walked) (at end fuel : ℕ) (st : Rows) where
  loop_end : (x y z : ℕ) → Span s at end [] → Sizes st x y z → Reaches (looped step end fuel st at) (cursor end end) x y z
  loop_end x y z p n =
      let e : at ≡ end = omega (arith, p.size) in
      rw (many_end go_on (λ st at. Went st (cursor at end)) (λ st at. step st (cursor at end)) end fuel st at (omega arith), e) (refl, n)

  loop_more : (front rest : List ℕ) (x y z x' y' z' : ℕ) → Span s at end (front ++ rest) → end ≤ at + fuel → 1 ≤ length front
      → ((b : ℕ) → Span s at b front → b ≤ end → end ≤ length s → Reaches (step st (cursor at end)) (cursor b end) x y z)
      → ((b f : ℕ) (st' : Rows) → Span s b end rest → end ≤ b + f → Sizes st' x y z → Reaches (looped step end f st' b) (cursor end end) x' y' z')
      → Reaches (looped step end fuel st at) (cursor end end) x' y' z'
  loop_more front rest x y z x' y' z' p h l one go =
      span_split s at end front rest p
      (λ b q r.
      let g =
      going_on go_on (λ st at. Went st (cursor at end)) (λ st at. step st (cursor at end)) end (looped step end fuel st at) st at
      (record { fuel = fuel; enough = h; rest = refl }) (omega (arith, q.size, r.size)) in
      walked_then (step st (cursor at end)) (cursor b end) x y z (one b q (omega (arith, r.size)) r.inside)
      (λ st' o n. rw (g.rest, o) (go b g.fuel st' r (omega (arith, g.enough, q.size)) n)))

-- elements in a run, each read by `step`
run_is : (step : Rows → Cursor → Walked) (at end : ℕ) (st : Rows) (x y z : ℕ) → Reaches (looped step end (end - at) st at) (cursor end end) x y z
    → Reaches (run step st (cursor at end)) (cursor end end) x y z
unfolding run
run_is step at end st x y z h = h

module _ (s : List ℕ) (small : length s ≤ file_bytes) where
  -- an attribute is a row more
  attribute_passes : (a : Attribute) (number at e end : ℕ) (st : Rows) (x y z : ℕ) → ValidAttribute a → Span s at e (attribute_bytes a)
      → Sizes st x y z → z < attribute_rows → e ≤ end → end ≤ length s
      → Reaches (attribute_at s number st (cursor at end)) (cursor e end) x y (z + 1)
  unfolding attribute_bytes attribute_at
  attribute_passes a number at e end st x y z v p n room h i =
      named_then s small at e end a.identifier (tlv set_tag a.values) v.identifier p h i
      (λ b c m f g w r.
      expect_then s small set_tag m e e a.values refl refl r (omega arith) r.inside
      (λ o j t.
      let run : RunIs opaque_levels s (cursor o e) (tree.elements_in v.values.as_trees) (cursor e e) =
      record {
        trees = v.values.as_trees;
        formed = v.values.formed;
        levels = v.values.depth;
        count = refl;
        whole = rw v.values.whole t;
        next = refl;
      } in
      rw (f, lt-leb attribute_rows (length st.attributes) (omega (arith, n.attributes)), g, j, elements_complete _ _ _ _ _ run, finished e)
      (refl, record { safes = n.safes; bags = n.bags; attributes = one_more_lem st.attributes _ z n.attributes })))

  -- the attributes of a set
  attributes_pass : (xs : List Attribute) (number at end fuel : ℕ) (st : Rows) (x y z : ℕ) → ValidAttributes xs → Span s at end (attributes_bytes xs)
      → Sizes st x y z → z + length xs ≤ attribute_rows → end ≤ at + fuel
      → Reaches (looped (attribute_at s number) end fuel st at) (cursor end end) x y (z + length xs)
  unfolding ValidAttributes attributes_bytes
  attributes_pass [] number at end fuel st x y z v p n room h = loop_end s (attribute_at s number) at end fuel st x y (z + 0) p (simp add-zero n)
  attributes_pass (a ∷ xs) number at end fuel st x y z v p n room h =
      let e : z + suc (length xs) ≡ z + 1 + length xs = omega arith in
      loop_more s (attribute_at s number) at end fuel st (attribute_bytes a) (attributes_bytes xs) x y (z + 1) x y (z + suc (length xs)) p h (attribute_some a)
      (λ b q k i. attribute_passes a number at b end st x y z v.0 q n (omega arith) k i)
      (λ b f st' q k m. rw e (attributes_pass xs number b end f st' x y (z + 1) v.1 q m (omega arith) k))

  -- a set, or none
  set_passes : (set : Set) (number at e : ℕ) (st : Rows) (x y z : ℕ) → ValidSet set → Span s at e (set_bytes set) → Sizes st x y z
      → z + attributes_of set ≤ attribute_rows → Reaches (set_at s number st (cursor at e)) (cursor e e) x y (z + attributes_of set)
  unfolding set_bytes set_at
  set_passes absent number at e st x y z v p n room =
      let a : at ≡ e = omega (arith, p.size) in
      rw (a, tag_none s (cursor e e) (omega arith), finished e) (refl, simp add-zero n)
  set_passes (present xs) number at e st x y z v p n room =
      expect_then s small set_tag at e e (attributes_bytes xs) refl refl p (omega arith) p.inside
      (λ b f q.
      walked_then (run (attribute_at s number) (counting st 1) (cursor b e)) (cursor e e) x y (z + length xs)
      (run_is (attribute_at s number) b e (counting st 1) _ _ _
      (attributes_pass xs number b e (e - b) (counting st 1) x y z v q
      (record { safes = n.safes; bags = n.bags; attributes = n.attributes }) room (omega arith)))
      (λ st' g m. rw (tag_of s small set_tag at e e (attributes_bytes xs) p (omega arith) p.inside, f, g, finished e) (refl, m)))

  -- a SafeBag around any content that is read, whether or not the flag says that there is a set
  bag_passes : (inner : Owner → Rows → Cursor → Walked) (kind : BagKind) (content : List ℕ) (set : Set) (w : Owner) (at e end : ℕ) (st : Rows)
      (x y z x' y' z' : ℕ) → Served kind → ValidSet set → Span s at e (bag_bytes kind content set) → Sizes st x y z → y < bag_rows
      → z' + attributes_of set ≤ attribute_rows
      → ((h : Bool) (a m : ℕ) → Span s a m content → Reaches (content_at inner s kind w h st (cursor a m)) (cursor m m) x' y' z')
      → e ≤ end → end ≤ length s → Reaches (bag_at inner s w st (cursor at end)) (cursor e end) x' y' (z' + attributes_of set)
  unfolding bag_bytes bag_at
  bag_passes inner kind content set w at e end st x y z x' y' z' served v p n room more inside h i =
      named_then s small at e end (identifier_of kind) (tlv context_tag content ++ set_bytes set) (kind_named kind served).0 p h i
      (λ b c m f g j r.
      span_split s m e (tlv context_tag content) (set_bytes set) r
      (λ d u t.
      expect_then s small context_tag m d e content refl refl u (omega (arith, t.size)) t.inside
      (λ a o k.
      walked_then (content_at inner s kind w (ltb d e) st (cursor a d)) (cursor d d) x' y' z' (inside (ltb d e) a d k)
      (λ st' o' n'.
      walked_then (set_at s (length st.bags) st' (cursor d e)) (cursor e e) x' y' (z' + attributes_of set)
      (set_passes set (length st.bags) d e st' x' y' z' v t n' more)
      (λ st'' o'' n''.
      rw (f, lt-leb bag_rows (length st.bags) (omega (arith, n.bags)), g, j, (kind_named kind served).1, on_kind_lem kind served, o, o', finished d, o'')
      (refl, n''))))))

  -- the content of a bag that holds no bags
  leaf_passes : (leaf : Leaf) (inner : Owner → Rows → Cursor → Walked) (w : Owner) (h : Bool) (st : Rows) (at e : ℕ) (x y z : ℕ) → ValidLeaf leaf
      → Span s at e (leaf_bytes leaf) → Sizes st x y z → Reaches (content_at inner s (kind_of_leaf leaf) w h st (cursor at e)) (cursor e e) x (y + 1) z
  unfolding leaf_bytes
  leaf_passes (key v) inner w h st at e x y z r p n =
      leaf_of_lem (key_at s (cursor at e)) Key w h st (cursor e e) x y z (key_passes s small v at e e r p (omega arith) p.inside) n
  leaf_passes (shrouded v) inner w h st at e x y z r p n =
      leaf_of_lem (sealed_at s (cursor at e)) ShroudedKey w h st (cursor e e) x y z (sealed_passes s small v at e e r p (omega arith) p.inside) n
  leaf_passes (typed certificate t v) inner w h st at e x y z r p n =
      leaf_of_lem (typed_at true s (cursor at e)) Certificate w h st (cursor e e) x y z
      (typed_passes s small true t v at e e r.0 r.1 (λ o. r.2 (same_is t x509_certificate o)) p (omega arith) p.inside) n
  leaf_passes (typed crl t v) inner w h st at e x y z r p n =
      leaf_of_lem (typed_at false s (cursor at e)) Crl w h st (cursor e e) x y z
      (typed_passes s small false t v at e e r.0 r.1 never p (omega arith) p.inside) n
  leaf_passes (typed secret t v) inner w h st at e x y z r p n =
      leaf_of_lem (typed_at false s (cursor at e)) Secret w h st (cursor e e) x y z
      (typed_passes s small false t v at e e r.0 r.1 never p (omega arith) p.inside) n

  -- a SafeContents whose bags are read
  contents_pass : (l : ℕ) (w : Owner) (st : Rows) (body : List ℕ) (at e x y z : ℕ) → Span s at e (sequence body)
      → ((b : ℕ) → Span s b e body → Reaches (looped (bag_at (safe_contents_at l s) s w) e (e - b) (counting st 1) b) (cursor e e) x y z)
      → Reaches (safe_contents_at (suc l) s w st (cursor at e)) (cursor e e) x y z
  unfolding safe_contents_at
  contents_pass l w st body at e x y z p each =
      expect_then s small sequence_tag at e e body refl refl p (omega arith) p.inside
      (λ b f q.
      walked_then (run (bag_at (safe_contents_at l s) s w) (counting st 1) (cursor b e)) (cursor e e) x y z
      (run_is (bag_at (safe_contents_at l s) s w) b e (counting st 1) x y z (each b q))
      (λ st' g n. rw (f, g) (refl, n)))

  -- the bags of a SafeContents below which there may be l more levels
  bags_pass : (xs : Bags) (l : ℕ) (w : Owner) (at end fuel : ℕ) (st : Rows) (x y z : ℕ) → ValidBags l xs → Span s at end (bags_bytes xs)
      → Sizes st x y z → y + bags_in xs ≤ bag_rows → z + attributes_in xs ≤ attribute_rows → end ≤ at + fuel
      → Reaches (looped (bag_at (safe_contents_at l s) s w) end fuel st at) (cursor end end) x (y + bags_in xs) (z + attributes_in xs)
  unfolding ValidBags bags_bytes bags_in attributes_in
  bags_pass none l w at end fuel st x y z v p n room more h =
      loop_end s (bag_at (safe_contents_at l s) s w) at end fuel st x (y + 0) (z + 0) p (simp add-zero n)
  bags_pass (bag leaf set xs) l w at end fuel st x y z v p n room more h =
      let c : y + (1 + bags_in xs) ≡ y + 1 + bags_in xs = omega arith in
      let d : z + (attributes_of set + attributes_in xs) ≡ z + attributes_of set + attributes_in xs = omega arith in
      loop_more s (bag_at (safe_contents_at l s) s w) at end fuel st (bag_bytes (kind_of_leaf leaf) (leaf_bytes leaf) set) (bags_bytes xs)
      x (y + 1) (z + attributes_of set) x (y + (1 + bags_in xs)) (z + (attributes_of set + attributes_in xs)) p h (bag_some _ _ set)
      (λ b q k i.
      bag_passes (safe_contents_at l s) (kind_of_leaf leaf) (leaf_bytes leaf) set w at b end st x y z x (y + 1) z (leaf_served leaf) v.1 q n
      (omega arith) (omega arith) (λ f a m u. leaf_passes leaf (safe_contents_at l s) w f st a m x y z v.0 u n) k i)
      (λ b f st' q k m. rw (c, d) (bags_pass xs l w b end f st' x (y + 1) (z + attributes_of set) v.2 q m (omega arith) (omega arith) k))
  bags_pass (nest inner set xs) zero w at end fuel st x y z v p n room more h = absurd v
  bags_pass (nest inner set xs) (suc l) w at end fuel st x y z v p n room more h =
      let c : y + (1 + (bags_in inner + bags_in xs)) ≡ y + 1 + bags_in inner + bags_in xs = omega arith in
      let d : z + (attributes_in inner + (attributes_of set + attributes_in xs)) ≡ z + attributes_in inner + attributes_of set + attributes_in xs = omega arith in
      loop_more s (bag_at (safe_contents_at (suc l) s) s w) at end fuel st (bag_bytes Nested (sequence (bags_bytes inner)) set) (bags_bytes xs)
      x (y + 1 + bags_in inner) (z + attributes_in inner + attributes_of set)
      x (y + (1 + (bags_in inner + bags_in xs))) (z + (attributes_in inner + (attributes_of set + attributes_in xs))) p h (bag_some _ _ set)
      (λ b q k i.
      bag_passes (safe_contents_at (suc l) s) Nested (sequence (bags_bytes inner)) set w at b end st x y z
      x (y + 1 + bags_in inner) (z + attributes_in inner) refl v.1 q n (omega arith) (omega arith)
      (λ f a m u.
      contents_pass l _ _ (bags_bytes inner) a m x (y + 1 + bags_in inner) (z + attributes_in inner) u
      (λ o t.
      bags_pass inner l _ o m (m - o) _ x (y + 1) z v.0 t
      (record { safes = n.safes; bags = one_more_lem st.bags _ y n.bags; attributes = n.attributes }) (omega arith) (omega arith) (omega arith))) k i)
      (λ b f st' q k m.
      rw (c, d) (bags_pass xs (suc l) w b end f st' x (y + 1 + bags_in inner)
      (z + attributes_in inner + attributes_of set) v.2 q m (omega arith) (omega arith) k))

  -- [0] with an OCTET STRING whose body is read
  data_passes : (inner : Cursor → Walked) (body : List ℕ) (at e x y z : ℕ) → Span s at e (tlv context_tag (octet_string body))
      → ((a : ℕ) → Span s a e body → Reaches (inner (cursor a e)) (cursor e e) x y z) → Reaches (data_at inner s (cursor at e)) (cursor e e) x y z
  unfolding data_at
  data_passes inner body at e x y z p each =
      expect_then s small context_tag at e e (octet_string body) refl refl p (omega arith) p.inside
      (λ b f q.
      expect_then s small octet_string_tag b e e body refl refl q (omega arith) q.inside
      (λ a g r. walked_then (inner (cursor a e)) (cursor e e) x y z (each a r) (λ st o n. rw (f, g, o, finished e) (refl, n))))

  -- safe contents with l levels left
  levels_pass : (l : ℕ) (xs : Bags) (w : Owner) (at e : ℕ) (st : Rows) (x y z : ℕ) → ValidContents l xs → Span s at e (sequence (bags_bytes xs))
      → Sizes st x y z → y + bags_in xs ≤ bag_rows → z + attributes_in xs ≤ attribute_rows
      → Reaches (safe_contents_at l s w st (cursor at e)) (cursor e e) x (y + bags_in xs) (z + attributes_in xs)
  levels_pass zero xs w at e st x y z v p n room more = absurd v
  levels_pass (suc l) xs w at e st x y z v p n room more =
      contents_pass l w st (bags_bytes xs) at e x (y + bags_in xs) (z + attributes_in xs) p
      (λ b r. bags_pass xs l w b e (e - b) _ x y z v r (record { safes = n.safes; bags = n.bags; attributes = n.attributes }) room more (omega arith))

  -- what follows the type of a plain safe
  plain_passes : (xs : Bags) (at e : ℕ) (st : Rows) (x y z : ℕ) → ValidContents levels xs
      → Span s at e (tlv context_tag (octet_string (sequence (bags_bytes xs)))) → Sizes st x y z → y + bags_in xs ≤ bag_rows
      → z + attributes_in xs ≤ attribute_rows → Reaches (plain_at s st (cursor at e)) (cursor e e) (x + 1) (y + bags_in xs) (z + attributes_in xs)
  unfolding plain_at
  plain_passes xs at e st x y z v p n room more =
      data_passes _ (sequence (bags_bytes xs)) at e (x + 1) (y + bags_in xs) (z + attributes_in xs) p
      (λ a q.
      levels_pass levels xs _ a e _ (x + 1) y z v q
      (record { safes = one_more_lem st.safes _ x n.safes; bags = n.bags; attributes = n.attributes }) room more)

  -- and of an encrypted one
  sealed_safe_passes : (v : Sealed) (at e : ℕ) (st : Rows) (x y z : ℕ) → ValidSealed v
      → Span s at e (tlv context_tag (sequence (integer encrypted_version ++ encrypted_info v))) → Sizes st x y z
      → Reaches (sealed_safe_at s st (cursor at e)) (cursor e e) (x + 1) y z
  unfolding sealed_safe_at
  sealed_safe_passes v at e st x y z r p n =
      expect_then s small context_tag at e e (sequence (integer encrypted_version ++ encrypted_info v)) refl refl p (omega arith) p.inside
      (λ b f q.
      parts_then (encrypted_at s (cursor b e)) (cursor e e) (encrypted_passes s small v b e e r q (omega arith) q.inside)
      (λ u k g.
      rw (f, g, finished e) (refl, record { safes = one_more_lem st.safes _ x n.safes; bags = n.bags; attributes = n.attributes })))

  -- a safe
  safe_passes : (v : Safe) (at e end : ℕ) (st : Rows) (x y z : ℕ) → ValidSafe v → Span s at e (safe_bytes v) → Sizes st x y z → x < safe_rows
      → y + bags_in_safe v ≤ bag_rows → z + attributes_in_safe v ≤ attribute_rows → e ≤ end → end ≤ length s
      → Reaches (safe_at s st (cursor at end)) (cursor e end) (x + 1) (y + bags_in_safe v) (z + attributes_in_safe v)
  unfolding safe_bytes data_bytes content_info safe_at safe_value_at
  safe_passes (plain xs) at e end st x y z r p n room more most h i =
      named_then s small at e end data_type (tlv context_tag (octet_string (sequence (bags_bytes xs)))) data_rule p h i
      (λ b c m f g j t.
      walked_then (plain_at s st (cursor m e)) (cursor e e) _ _ _ (plain_passes xs m e st x y z r t n more most)
      (λ st' o n'. rw (f, lt-leb safe_rows (length st.safes) (omega (arith, n.safes)), g, j, same_self data_type, o, finished e) (refl, n')))
  safe_passes (encrypted v) at e end st x y z r p n room more most h i =
      named_then s small at e end encrypted_type (tlv context_tag (sequence (integer encrypted_version ++ encrypted_info v))) encrypted_rule p h i
      (λ b c m f g j t.
      walked_then (sealed_safe_at s st (cursor m e)) (cursor e e) _ _ _ (sealed_safe_passes v m e st x y z r t n)
      (λ st' o n'.
      rw (f, lt-leb safe_rows (length st.safes) (omega (arith, n.safes)), g, j, other_type, same_self encrypted_type, o, finished e)
      (refl, simp add-zero n')))

  -- the safes, one behind another
  safes_pass : (xs : List Safe) (at end fuel : ℕ) (st : Rows) (x y z : ℕ) → ValidSafes xs → Span s at end (safes_bytes xs) → Sizes st x y z
      → x + length xs ≤ safe_rows → y + bags_in_safes xs ≤ bag_rows → z + attributes_in_safes xs ≤ attribute_rows → end ≤ at + fuel
      → Reaches (looped (safe_at s) end fuel st at) (cursor end end) (x + length xs) (y + bags_in_safes xs) (z + attributes_in_safes xs)
  unfolding ValidSafes safes_bytes bags_in_safes attributes_in_safes
  safes_pass [] at end fuel st x y z v p n room more most h = loop_end s (safe_at s) at end fuel st (x + 0) (y + 0) (z + 0) p (simp add-zero n)
  safes_pass (v ∷ xs) at end fuel st x y z r p n room more most h =
      let a : x + suc (length xs) ≡ x + 1 + length xs = omega arith in
      let b : y + (bags_in_safe v + bags_in_safes xs) ≡ y + bags_in_safe v + bags_in_safes xs = omega arith in
      let c : z + (attributes_in_safe v + attributes_in_safes xs) ≡ z + attributes_in_safe v + attributes_in_safes xs = omega arith in
      loop_more s (safe_at s) at end fuel st (safe_bytes v) (safes_bytes xs) (x + 1) (y + bags_in_safe v) (z + attributes_in_safe v)
      (x + suc (length xs)) (y + (bags_in_safe v + bags_in_safes xs)) (z + (attributes_in_safe v + attributes_in_safes xs)) p h (safe_some v)
      (λ e q k i. safe_passes v at e end st x y z r.0 q n (omega arith) (omega arith) (omega arith) k i)
      (λ e f st' q k m.
      rw (a, b, c)
      (safes_pass xs e end f st' (x + 1) (y + bags_in_safe v) (z + attributes_in_safe v) r.1 q m (omega arith) (omega arith) (omega arith) k))

  -- the AuthenticatedSafe
  all_pass : (v : Pfx) (at e : ℕ) → Valid v → Span s at e (sequence (safes_bytes v.safes))
      → Reaches (safes_at s (cursor at e)) (cursor e e) (0 + length v.safes) (0 + bags_in_safes v.safes) (0 + attributes_in_safes v.safes)
  unfolding safes_at
  all_pass v at e r p =
      expect_then s small sequence_tag at e e (safes_bytes v.safes) refl refl p (omega arith) p.inside
      (λ b f q.
      walked_then (run (safe_at s) _ (cursor b e)) (cursor e e) _ _ _
      (run_is (safe_at s) b e _ _ _ _
      (safes_pass v.safes b e (e - b) (start_rows (cursor at e)) 0 0 0 r.safes q
      (record { safes = refl; bags = refl; attributes = refl })
      (omega (arith, r.safe_count)) (omega (arith, r.bag_count)) (omega (arith, r.attribute_count)) (omega arith)))
      (λ st g n. rw (f, g) (refl, n)))

  -- the outer ContentInfo
  outer_then : {P : Type 0} (v : Pfx) (at e end : ℕ) → Valid v → Span s at e (data_bytes (safes_bytes v.safes)) → e ≤ end → end ≤ length s
      → ((st : Rows) → outer_at s (cursor at end) ≡ Went st (cursor e end) → P) → P
  unfolding data_bytes content_info outer_at outer_value_at
  outer_then v at e end r p h i k =
      named_then s small at e end data_type (tlv context_tag (octet_string (sequence (safes_bytes v.safes)))) data_rule p h i
      (λ b c m f g j t.
      walked_then (data_at (safes_at s) s (cursor m e)) (cursor e e) _ _ _
      (data_passes (safes_at s) (sequence (safes_bytes v.safes)) m e _ _ _ t (λ a u. all_pass v a e r u))
      (λ st o n. k st (rw (f, g, j, same_self data_type, o, finished e))))

  -- what follows the version, and the whole file
  body_passes : (v : Pfx) (at e : ℕ) → Valid v → Span s at e (data_bytes (safes_bytes v.safes) ++ mac_bytes v.mac)
      → (body_at s (cursor at e)).answer ≡ (Ok tt)
  unfolding body_at
  body_passes v at e r p =
      span_split s at e (data_bytes (safes_bytes v.safes)) (mac_bytes v.mac) p
      (λ b q t.
      outer_then v at b e r q (omega (arith, t.size)) t.inside
      (λ st f.
      mac_then (mac_at s (cursor b e)) (cursor e e) (mac_passes s small v.mac b e e r.mac t (omega arith) t.inside)
      (λ x k g. rw (f, lt-leb e b (omega (arith, t.size, mac_some v.mac)), g, finished e) refl)))

  pfx_passes : (v : Pfx) → Valid v → Span s 0 (length s) (encode v) → (pfx_at s (whole_of s)).answer ≡ (Ok tt)
  unfolding encode pfx_at
  pfx_passes v r p =
      sequence_then s small 0 (length s) (length s) (integer pfx_version) (data_bytes (safes_bytes v.safes) ++ mac_bytes v.mac) p (omega arith) (omega arith)
      (λ b m f q t l.
      rw (f, integer_then s b m (length s) pfx_version (omega arith) q l (omega arith), body_passes v m (length s) r t, finished (length s)) refl)

-- what a valid reading is written as is accepted
pub complete : (x : Pfx) (f : List ℕ) → Valid x → encode x ≡ f → length f ≤ file_bytes → IsAccepted f
unfolding read_file
complete x f v e h = rw (le-ltb file_bytes (length f) h) (pfx_passes f h x v (rw e (span_whole f)))
