-- The tests of a table say exactly that it is sound: counts, ranges and contents by `keeps_rules`,
-- the order of the rows by the reading that they show.
use mathlib.Core.Bool.{Bool, true, false}
use mathlib.Core.Logic.{◌↔◌}
use mathlib.Core.Path.{◌≡◌, refl, sym, ap, ◌∙◌}
use mathlib.Core.List.{List, [], ◌∷◌, ◌++◌, map}
use mathlib.Core.Option.{Option, some}
use mathlib.Core.Option as option
use Prim.Native.Nat.{ℕ, zero, suc, ◌+◌, ◌≤◌, ◌<◌}
use native.Mathlib.Omega.{arith}
use lib.Dec.{leb, ltb, eqb}
use lib.ListN.{length, get_or, take, length-append, length-take, length-map}
use borrow.Author.Tests.{ltb-true, leb-true, eqb-true, lt-ltb, le-leb, eq-eqb, ne_eqb}
use Rattle.std.specs.Prelude.{if◌then◌else◌}
use Rattle.der.specs.Choice.{both}
use Rattle.der.specs.Numbers.{opaque_levels}
use Rattle.der.specs.Element.{cursor, whole_of}
use Rattle.der.specs.Octets.{IdentifierRule}
use Rattle.der.specs.Span.{Span, Bytes}
use Rattle.der.specs.Tree.{elements, elements_in}
use Rattle.der.specs.Follows.{OpaqueIs, RunIs}
use Rattle.der.specs.declared.Cursor.{Cursor}
use Rattle.der.proofs.Laws.{identifier_rule_iff, opaque_iff, elements_iff}
use Rattle.der.proofs.Choices.{never, by_test}
use Rattle.der.proofs.Spans.{span_whole, span_same, span_to, bytes_drop, bytes_take}
use Rattle.pkcs12.specs.Numbers.{safe_rows, bag_rows, attribute_rows}
use Rattle.range.specs.Bytes.{same_bytes}
use Rattle.pkcs12.specs.Syntax.{Leaf, Attribute, Set, absent, present, Bags, none, bag, nest, Safe, plain}
use Rattle.pkcs12.specs.Syntax.{encrypted, Pfx}
use Rattle.pkcs12.specs.Encode.{encode}
use Rattle.pkcs12.specs.Valid.{Opaque, Opaques, AtMostOne, OpaqueWith, ValidSealed, ValidLeaf, ValidAttribute}
use Rattle.pkcs12.specs.Valid.{ValidAttributes, ValidSet, ValidBags, ValidSafe, ValidSafes, ValidMac, Valid}
use Rattle.pkcs12.specs.Valid.{bags_in, attributes_of, attributes_in, bags_in_safes, attributes_in_safes}
use Rattle.pkcs12.specs.Values.{SafeValue, empty_safe, plain_safe, encrypted_safe, Content, empty_bag, leaf}
use Rattle.pkcs12.specs.Values.{nested, BagValue, AttributeValue, Values, bag_values, own_values, set_values}
use Rattle.pkcs12.specs.Values.{attribute_values, safe_values, bags_of_safes, attributes_of_safes, rows_of}
use Rattle.pkcs12.specs.Values.{same_enclosing, own_of, past_own, set_of, past_set, Taken, nothing, before}
use Rattle.pkcs12.specs.Values.{on_content, on_level, bags_from, also_safe, contents_from, safes_from, with_mac}
use Rattle.pkcs12.specs.Values.{tree_of}
use Rattle.pkcs12.specs.Table.{Rows, sealed_in, content_in, safe_in, safe_shown, bag_shown, attribute_shown, mac_shown}
use Rattle.pkcs12.specs.Table.{shown, rows_in, values_of, reading_of}
use Rattle.range.specs.Range.{bytes_in, lies}
use Rattle.der.specs.Named.{Each}
use Rattle.pkcs12.specs.Sound.{Lies, SealedLies, TypedLies, PartsLie, SafeLies, RangesLie, Sound}
use Rattle.pkcs12.specs.Checks.{all, counts_fit, names_type, one_opaque, all_opaque, holds_opaque, holds_all}
use Rattle.pkcs12.specs.Checks.{holds_at_most_one, has_tag, holds_tagged, is_sealed, is_typed, is_certificate}
use Rattle.pkcs12.specs.Checks.{safe_holds, bag_holds, safe_test, bag_test, attribute_test, mac_test, rows_test}
use Rattle.pkcs12.specs.Checks.{keeps_rules}
use Rattle.pkcs12.specs.Written.{written_as, file_of}
use Rattle.range.specs.declared.Range.{Range}
use Rattle.pkcs12.specs.declared.row.Parts.{Parts}
use Rattle.pkcs12.specs.declared.kind.SafeKind.{SafeKind}
use Rattle.pkcs12.specs.declared.kind.SafeKind.TheVariants.{Plain, Encrypted}
use Rattle.pkcs12.specs.declared.kind.BagKind.{BagKind}
use Rattle.pkcs12.specs.declared.kind.BagKind.TheVariants.{Key, ShroudedKey, Certificate, Crl, Secret, Nested}
use Rattle.std.specs.Prelude.{None, Option as Maybe, Some}
use Rattle.pkcs12.specs.declared.row.AttributeRow.{AttributeRow}
use Rattle.pkcs12.specs.declared.row.Mac.{Mac}
use Rattle.pkcs12.specs.declared.table.Table.{Table}
use Rattle.range.proofs.SameBytes.{same_self, same_is}
use Rattle.pkcs12.proofs.Parents.{by_opaque, by_elements}
use Rattle.pkcs12.proofs.Shown.{each_join}
use Rattle.pkcs12.proofs.Rows.{tree_rows}

-- ---- what each test says

-- a test passes exactly if P
abbrev Says : Bool → Type 0 → Type 0
Says t P = t ≡ true ↔ P

says_le : (a b : ℕ) → Says (leb a b) (a ≤ b)
says_le a b = (leb-true a b, le-leb a b)

says_lt : (a b : ℕ) → Says (ltb a b) (a < b)
says_lt a b = (ltb-true a b, lt-ltb a b)

says_eq : (a b : ℕ) → Says (eqb a b) (a ≡ b)
says_eq a b = (eqb-true a b, eq-eqb a b)

-- the same in other words
says_as : {t : Bool} {P Q : Type 0} → Says t P → (P → Q) → (Q → P) → Says t Q
says_as h f g = (λ e. f (h.0 e), λ q. h.1 (g q))

-- two tests, and a test where another passes
says_both : {t u : Bool} {P Q : Type 0} → Says t P → Says u Q → Says (both t u) (P × Q)
says_both {t = true} p q = (λ e. (p.0 refl, q.0 e), λ h. q.1 h.1)
says_both {t = false} p q = (λ e. never e, λ h. p.1 h.0)

says_if : {t u : Bool} {P Q : Type 0} → Says t P → Says u Q → Says (if t then u else true) (P → Q)
says_if {t = true} p q = (λ e x. q.0 e, λ h. q.1 (h (p.0 refl)))
says_if {t = false} p q = (λ e x. never (p.1 x), λ h. refl)

-- a span from the first byte to the last is all
all_of : (x y : List ℕ) (e : ℕ) → Span x 0 e y → length x ≤ e → y ≡ x
all_of x y e p h = span_same x 0 (length x) y x (span_to x 0 e (length x) y (omega (arith, p.inside)) p) (span_whole x)

-- one opaque element, and nothing more
one_made : (x : List ℕ) (m : ℕ) (n : Cursor) → OpaqueIs opaque_levels x (whole_of x) m n → n.end ≤ n.at → Opaque x
one_made x m n o h =
    record {
      as_tree = o.tree;
      formed = o.formed;
      depth = o.levels;
      whole = all_of x _ n.at o.whole (omega (arith, h, ap (λ (c : Cursor). c.end) o.moved.next));
    }

one_laid : (x : List ℕ) (o : Opaque x) → OpaqueIs opaque_levels x (whole_of x) (elements o.as_tree) (cursor (length x) (length x))
one_laid x o =
    record {
      tree = o.as_tree;
      formed = o.formed;
      levels = o.depth;
      count = refl;
      whole = rw o.whole (span_whole x);
      moved = record { within = omega arith; inside = omega arith; next = refl };
    }

one_says : (x : List ℕ) → Bytes x → Says (one_opaque x) (Opaque x)
unfolding one_opaque
one_says x b = (
  by_opaque x b (λ u. u ≡ true → Opaque x) (λ f. false) (λ f e. never e) (whole_of x) _ (λ m n o e. one_made x m n o (leb-true _ _ e)),
  λ o. rw ((opaque_iff opaque_levels x (whole_of x) _ _ b).1 (one_laid x o)) (le-leb (length x) (length x) (omega arith)),
)

-- zero or more of them
several_laid : (x : List ℕ) (o : Opaques x) → RunIs opaque_levels x (whole_of x) (elements_in o.as_trees) (cursor (length x) (length x))
several_laid x o =
    record { trees = o.as_trees; formed = o.formed; levels = o.depth; count = refl; whole = rw o.whole (span_whole x); next = refl }

several_says : (x : List ℕ) → Bytes x → Says (all_opaque x) (Opaques x)
unfolding all_opaque
several_says x b = (
  by_elements x b (λ u. u ≡ true → Opaques x) (λ f. false) (λ f e. never e) (whole_of x) _ (omega arith) (omega arith) (λ m n o e. several_made m n o),
  λ o. rw ((elements_iff opaque_levels x (whole_of x) _ _ b (omega arith) (omega arith)).1 (several_laid x o)),
)
  where
    several_made : (m : ℕ) (n : Cursor) → RunIs opaque_levels x (whole_of x) m n → Opaques x
    several_made m n o =
        record { as_trees = o.trees; formed = o.formed; depth = o.levels; whole = all_of x _ (length x) o.whole (omega arith) }

-- at most one
at_most_says : (x : List ℕ) → Bytes x → Says (if eqb (length x) 0 then true else one_opaque x) (AtMostOne x)
at_most_says [] b = rw (eq-eqb 0 0 refl) (λ e. tt, λ p. refl)
at_most_says (y ∷ x) b = rw (ne_eqb (suc (length x)) 0 (λ z. omega arith)) (one_says (y ∷ x) b)

-- bytes are the same
same_says : (x y : List ℕ) → Says (same_bytes x y) (x ≡ y)
same_says x y = (same_is x y, λ e. rw e (same_self y))

-- ---- what each row's test says: its ranges lie in the bytes, and what it shows is good

abbrev GoodSafe : SafeValue → Type 0
GoodSafe empty_safe = ⊥
GoodSafe plain_safe = Unit {0}
GoodSafe (encrypted_safe x) = ValidSealed x

abbrev GoodContent : Content → Type 0
GoodContent empty_bag = ⊥
GoodContent (leaf x) = ValidLeaf x
GoodContent nested = Unit {0}

abbrev GoodBag : BagValue → Type 0
GoodBag r = GoodContent r.content

abbrev GoodAttribute : AttributeValue → Type 0
GoodAttribute r = ValidAttribute r.attribute

module _ (s : List ℕ) (bytes : Bytes s) where
  -- the bytes of a range
  pub part_bytes : (r : Range) → Bytes (bytes_in s r)
  part_bytes r = bytes_drop (take r.end s) r.start (bytes_take s r.end bytes)

  lies_says : (r : Range) → Says (lies s r) (Lies s r)
  unfolding lies
  lies_says r = says_as (says_both (says_le _ _) (says_le _ _)) (λ p. record { order = p.0; inside = p.1 }) (λ l. (l.order, l.inside))

  names_says : (r : Range) → Says (names_type s r) (Lies s r × IdentifierRule (bytes_in s r))
  unfolding names_type
  names_says r = says_both (lies_says r) (identifier_rule_iff (bytes_in s r))

  holds_says : (r : Range) → Says (holds_opaque s r) (Lies s r × Opaque (bytes_in s r))
  unfolding holds_opaque
  holds_says r = says_both (lies_says r) (one_says (bytes_in s r) (part_bytes r))

  tag_says : (r : Range) (tag : ℕ) → Says (has_tag s r tag) (get_or (bytes_in s r) 0 0 ≡ tag)
  unfolding has_tag
  tag_says r tag = says_eq _ _

  key_says : (r : Range) (tag : ℕ) → Says (holds_tagged s r tag) (Lies s r × OpaqueWith tag (bytes_in s r))
  unfolding holds_tagged
  key_says r tag =
      says_as (says_both (holds_says r) (tag_says r tag)) (λ p. (p.0.0, record { opaque = p.0.1; due = p.1 }))
      (λ q. ((q.0, q.1.opaque), q.1.due))

  sealed_says : (p : Parts) → Says (is_sealed s p) (SealedLies s p × ValidSealed (sealed_in s p))
  unfolding is_sealed holds_at_most_one
  sealed_says p =
      says_as
      (says_both (names_says p.identifier)
      (says_both (says_both (lies_says p.parameters)
      (at_most_says (bytes_in s p.parameters) (part_bytes p.parameters))) (lies_says p.value)))
      (λ q. ((q.0.0, q.1.0.0, q.1.1), record { identifier = q.0.1; parameters = q.1.0.1 }))
      (λ q. ((q.0.0, q.1.identifier), ((q.0.1, q.1.parameters), q.0.2)))

  typed_says : (p : Parts) → Says (is_typed s p) (TypedLies s p × (IdentifierRule (bytes_in s p.identifier) × Opaque (bytes_in s p.value) × Unit {0}))
  unfolding is_typed
  typed_says p =
      says_as (says_both (names_says p.identifier) (holds_says p.value)) (λ q. ((q.0.0, q.1.0), (q.0.1, q.1.1, tt)))
      (λ q. ((q.0.0, q.1.0), (q.0.1, q.1.1)))

  safe_says : (k : SafeKind) (p : Parts) → Says (safe_holds s k p) (SafeLies s k p × GoodSafe (safe_in s k p))
  unfolding safe_holds
  safe_says SafeKind.None p = (λ e. never e, λ q. absurd q.1)
  safe_says Plain p = (λ e. (tt, tt), λ q. refl)
  safe_says Encrypted p = sealed_says p

  bag_says : (k : BagKind) (p : Parts) → Says (bag_holds s k p) (PartsLie s k p × GoodContent (content_in s k p))
  unfolding bag_holds is_certificate
  bag_says BagKind.None p = (λ e. never e, λ q. absurd q.1)
  bag_says Key p = key_says p.value _
  bag_says ShroudedKey p = sealed_says p
  bag_says Certificate p =
      says_as (says_both (typed_says p) (says_if (same_says _ _) (tag_says p.value _))) (λ q. (q.0.0, (q.0.1.0, q.0.1.1, q.1)))
      (λ q. ((q.0, (q.1.0, q.1.1, tt)), q.1.2))
  bag_says Crl p = typed_says p
  bag_says Secret p = typed_says p
  bag_says Nested p = (λ e. (tt, tt), λ q. refl)

  attribute_says : (r : AttributeRow) → Says (attribute_test s r) ((Lies s r.identifier × Lies s r.values) × GoodAttribute (attribute_shown s r))
  unfolding attribute_test holds_all
  attribute_says r =
      says_as (says_both (names_says r.identifier) (says_both (lies_says r.values) (several_says (bytes_in s r.values) (part_bytes r.values))))
      (λ q. ((q.0.0, q.1.0), record { identifier = q.0.1; values = q.1.1 })) (λ q. ((q.0.0, q.1.identifier), (q.0.1, q.1.values)))

  mac_says : (m : Mac) → Says (mac_test s m) ((SealedLies s m.parts × Lies s m.salt) × ValidMac (mac_shown s m))
  unfolding mac_test
  mac_says m =
      says_as (says_both (sealed_says m.parts) (says_both (lies_says m.salt) (says_both (says_le _ _) (says_lt _ _))))
      (λ q. ((q.0.0, q.1.0), record { digest = q.0.1; some = q.1.1.0; bound = q.1.1.1 }))
      (λ q. ((q.0.0, q.1.digest), (q.0.1, (q.1.some, q.1.bound))))

-- rows of one kind
rows_say : {R W : Type 0} {test : R → Bool} {P : R → Type 0} (Q : W → Type 0) (f : R → W) → ((r : R) → Says (test r) (P r × Q (f r)))
    → (rows : List R) → Says (all test rows) (Each P rows × Each Q (map f rows))
unfolding all Each
rows_say Q f h [] = (λ e. (tt, tt), λ p. refl)
rows_say Q f h (r ∷ rows) =
    says_as (says_both (h r) (rows_say Q f h rows)) (λ p. ((p.0.0, p.1.0), (p.0.1, p.1.1))) (λ q. ((q.0.0, q.1.0), (q.0.1, q.1.1)))

-- all that rows show is good
record GoodValues (v : Values) : Type 0 where
  safes : Each GoodSafe v.safes
  bags : Each GoodBag v.bags
  attributes : Each GoodAttribute v.attributes
  mac : ValidMac v.mac

module _ (s : List ℕ) (bytes : Bytes s) where
  table_says : (st : Rows) (m : Mac) → Says (rows_test s st m) (RangesLie s st m × GoodValues (shown s st m))
  unfolding rows_test safe_test bag_test shown
  table_says st m =
      says_as
      (says_both (rows_say GoodSafe (safe_shown s) (λ r. safe_says s bytes r.kind r.parts) st.safes)
      (says_both (rows_say GoodBag (bag_shown s) (λ r. bag_says s bytes r.kind r.parts) st.bags)
      (says_both (rows_say GoodAttribute (attribute_shown s) (attribute_says s bytes) st.attributes) (mac_says s bytes m))))
      (λ q. (
        record { safes = q.0.0; bags = q.1.0.0; attributes = q.1.1.0.0; digest = q.1.1.1.0.0; salt = q.1.1.1.0.1 },
        record { safes = q.0.1; bags = q.1.0.1; attributes = q.1.1.0.1; mac = q.1.1.1.1 },
      ))
      (λ q. (
        (q.0.safes, q.1.safes),
        ((q.0.bags, q.1.bags), ((q.0.attributes, q.1.attributes), ((q.0.digest, q.0.salt), q.1.mac))),
      ))

-- ---- rows that are good show what is valid

-- the attributes of a bag, and those behind them
own_good : (n : ℕ) (rs : List AttributeValue) → Each GoodAttribute rs → ValidAttributes (own_of n rs) × Each GoodAttribute (past_own n rs)
unfolding Each own_of past_own ValidAttributes
own_good n [] g = (tt, tt)
own_good n (r ∷ rs) g = go (eqb r.bag n) (own_good n rs g.1)
  where
    go : (t : Bool) → ValidAttributes (own_of n rs) × Each GoodAttribute (past_own n rs)
        → ValidAttributes (if t then r.attribute ∷ own_of n rs else []) × Each GoodAttribute (if t then past_own n rs else r ∷ rs)
    go true h = ((g.0, h.0), h.1)
    go false h = (tt, g)

set_good : (t : Bool) (n : ℕ) (rs : List AttributeValue) → Each GoodAttribute rs → ValidSet (set_of t n rs) × Each GoodAttribute (past_set t n rs)
set_good true n rs g = own_good n rs g
set_good false n rs g = (tt, g)

-- bags that were taken are valid, and what is left is good
record Fine (l : ℕ) (t : Taken) : Type 0 where
  bags : ValidBags l t.bags
  rows : Each GoodBag t.rows
  rest : Each GoodAttribute t.rest

-- what holds of each answer holds of the one that is chosen
by_good : {A : Type 0} (P : A → Type 0) (a : A) (x : Content) (single : Leaf → A) (nests : A) → GoodContent x
    → ((y : Leaf) → ValidLeaf y → P (single y)) → P nests
    → P (on_content x a single nests)
by_good P a empty_bag single nests g q r = absurd g
by_good P a (leaf y) single nests g q r = q y g
by_good P a nested single nests g q r = r

by_level : {A : Type 0} (P : A → Type 0) (a : A) (l : ℕ) (below : ℕ → A) → P a → ((m : ℕ) → l ≡ suc m → P (below m)) → P (on_level l a below)
by_level P a zero below p q = p
by_level P a (suc l) below p q = q l refl

-- nothing was taken; one bag more was, without and with bags in it
fine_nothing : (l n : ℕ) (rows : List BagValue) (rest : List AttributeValue) → Each GoodBag rows → Each GoodAttribute rest → Fine l (nothing n rows rest)
unfolding ValidBags
fine_nothing l n rows rest p q = record { bags = tt; rows = p; rest = q }

module _ (l n : ℕ) (b : Bool) where
  fine_leaf : (x : Leaf) (rest : List AttributeValue) (u : Taken) → ValidLeaf x → Each GoodAttribute rest → (Each GoodAttribute (past_set b n rest) → Fine l u)
      → Fine l (before (bag x (set_of b n rest)) u)
  unfolding ValidBags
  fine_leaf x rest u v q h =
      let g = set_good b n rest q in
      let w = h g.1 in
      record { bags = (v, g.0, w.bags); rows = w.rows; rest = w.rest }

  fine_nest : (m : ℕ) (t u : Taken) → l ≡ suc m → Fine m t → (Each GoodBag t.rows → Each GoodAttribute (past_set b n t.rest) → Fine l u)
      → Fine l (before (nest t.bags (set_of b n t.rest)) u)
  unfolding ValidBags
  fine_nest m t u e f h =
      let g = set_good b n t.rest f.rest in
      let w = h f.rows g.1 in
      record { bags = rw e (f.bags, g.0, rw e at w.bags); rows = w.rows; rest = w.rest }

-- all that is taken is valid
fine_from : (f l k : ℕ) (e : Maybe ℕ) (n : ℕ) (rows : List BagValue) (rest : List AttributeValue) → Each GoodBag rows → Each GoodAttribute rest
    → Fine l (bags_from f l k e n rows rest)
unfolding bags_from Each
fine_from zero l k e n rows rest p q = fine_nothing l n rows rest p q
fine_from (suc f) l k e n [] rest p q = fine_nothing l n [] rest p q
fine_from (suc f) l k e n (r ∷ rs) rest p q =
    by_test (Fine l) _ _ (eqb r.safe k)
    (λ a. by_test (Fine l) _ _ (same_enclosing r.enclosing e)
    (λ b. by_good (Fine l) _ r.content _ _ p.0
    (λ x v. fine_leaf l n r.has_set x rest _ v q (λ g. fine_from f l k e (n + 1) rs _ p.1 g))
    (by_level (Fine l) _ l _ (fine_nothing l n (r ∷ rs) rest p q)
    (λ m h. fine_nest l n r.has_set m _ _ h (fine_from f m k (Some n) (n + 1) rs rest p.1 q) (λ d g. fine_from f l k e _ _ _ d g))))
    (λ b. fine_nothing l n (r ∷ rs) rest p q)) (λ a. fine_nothing l n (r ∷ rs) rest p q)

-- safes that were read, if they were, are valid
abbrev AnyValid : Option (List Safe) → Type 0
AnyValid option.none = Unit {0}
AnyValid (some xs) = ValidSafes xs

also_valid : (x : Safe) (o : Option (List Safe)) → ValidSafe x → AnyValid o → AnyValid (also_safe x o)
unfolding ValidSafes
also_valid x option.none v h = tt
also_valid x (some xs) v h = (v, h)

safes_valid : (k n : ℕ) (xs : List SafeValue) (rows : List BagValue) (rest : List AttributeValue)
    → Each GoodSafe xs → Each GoodBag rows → Each GoodAttribute rest → AnyValid (safes_from k n xs rows rest)
unfolding safes_from Each ValidSafes
safes_valid k n [] [] [] g p q = tt
safes_valid k n [] [] (a ∷ rest) g p q = tt
safes_valid k n [] (r ∷ rows) rest g p q = tt
safes_valid k n (empty_safe ∷ xs) rows rest g p q = tt
safes_valid k n (plain_safe ∷ xs) rows rest g p q =
    let t : Taken = contents_from k n rows rest in
    let h : Fine _ t = fine_from (length rows) _ k None n rows rest p q in
    also_valid (plain t.bags) (safes_from (k + 1) t.next xs t.rows t.rest) h.bags
    (safes_valid (k + 1) t.next xs t.rows t.rest g.1 h.rows h.rest)
safes_valid k n (encrypted_safe x ∷ xs) rows rest g p q =
    also_valid (encrypted x) (safes_from (k + 1) n xs rows rest) g.0 (safes_valid (k + 1) n xs rows rest g.1 p q)

-- nothing is not something
nothing_is : {A B : Type 0} (x : B) → option.none ≡ some x → A
nothing_is x e = let z : ◌≡◌ {A = ℕ} 0 1 = cc in absurd (omega arith)

-- the safes and the MAC of a reading that good rows show
good_valid : (v : Values) (x : Pfx) → GoodValues v → tree_of v ≡ some x → ValidSafes x.safes × ValidMac x.mac
unfolding tree_of
good_valid v x g h =
    go (safes_from 0 0 v.safes v.bags v.attributes)
    (safes_valid 0 0 v.safes v.bags v.attributes g.safes g.bags g.attributes) h
  where
    go : (o : Option (List Safe)) → AnyValid o → with_mac v.mac o ≡ some x → ValidSafes x.safes × ValidMac x.mac
    go option.none s e = nothing_is x e
    go (some ys) s e = let p : record { safes = ys; mac = v.mac } ≡ x = cc in rw (← p) (s, g.mac)

-- ---- the rows of a valid reading are good, and as many as it has

record Rowed {A : Type 0} (P : A → Type 0) (xs : List A) (n : ℕ) : Type 0 where
  good : Each P xs
  long : length xs ≡ n

module _ {A : Type 0} {P : A → Type 0} where
  rowed_none : Rowed P [] 0
  unfolding Each
  rowed_none = record { good = tt; long = refl }

  rowed_more : {x : A} {xs : List A} {m n : ℕ} → P x → Rowed P xs n → m ≡ 1 + n → Rowed P (x ∷ xs) m
  unfolding Each
  rowed_more p h e = record { good = (p, h.good); long = omega (arith, h.long) }

  rowed_join : {xs ys : List A} {n m : ℕ} → Rowed P xs n → Rowed P ys m → Rowed P (xs ++ ys) (n + m)
  rowed_join {xs = xs} {ys = ys} h k = record { good = each_join P xs ys h.good k.good; long = omega (arith, length-append xs ys, h.long, k.long) }

own_rows_lem : (n : ℕ) (xs : List Attribute) → ValidAttributes xs → Rowed GoodAttribute (own_values n xs) (length xs)
unfolding own_values ValidAttributes
own_rows_lem n [] v = rowed_none
own_rows_lem n (a ∷ xs) v = rowed_more v.0 (own_rows_lem n xs v.1) (omega arith)

set_rows : (n : ℕ) (set : Set) → ValidSet set → Rowed GoodAttribute (set_values n set) (attributes_of set)
set_rows n absent v = rowed_none
set_rows n (present xs) v = own_rows_lem n xs v

bag_rows_lem : (l k : ℕ) (e : Maybe ℕ) (n : ℕ) (x : Bags) → ValidBags l x
    → Rowed GoodBag (bag_values k e n x) (bags_in x) × Rowed GoodAttribute (attribute_values n x) (attributes_in x)
unfolding bag_values attribute_values ValidBags bags_in attributes_in
bag_rows_lem l k e n none v = (rowed_none, rowed_none)
bag_rows_lem l k e n (bag x set xs) v =
    let q = bag_rows_lem l k e (n + 1) xs v.2 in
    (rowed_more v.0 q.0 refl, rowed_join (set_rows n set v.1) q.1)
bag_rows_lem zero k e n (nest inner set xs) v = absurd v
bag_rows_lem (suc l) k e n (nest inner set xs) v =
    let d = bag_rows_lem l k (Some n) (n + 1) inner v.0 in
    let q = bag_rows_lem (suc l) k e (n + 1 + bags_in inner) xs v.2 in
    (rowed_more tt (rowed_join d.0 q.0) refl, rowed_join d.1 (rowed_join (set_rows n set v.1) q.1))

safe_rows_lem : (k n : ℕ) (xs : List Safe) → ValidSafes xs
    → Rowed GoodSafe (safe_values xs) (length xs) × Rowed GoodBag (bags_of_safes k n xs) (bags_in_safes xs)
    × Rowed GoodAttribute (attributes_of_safes n xs) (attributes_in_safes xs)
unfolding safe_values bags_of_safes attributes_of_safes ValidSafes bags_in_safes attributes_in_safes
safe_rows_lem k n [] v = (rowed_none, rowed_none, rowed_none)
safe_rows_lem k n (plain x ∷ xs) v =
    let d = bag_rows_lem _ k None n x v.0 in
    let q = safe_rows_lem (k + 1) (n + bags_in x) xs v.1 in
    (rowed_more tt q.0 (omega arith), rowed_join d.0 q.1, rowed_join d.1 q.2)
safe_rows_lem k n (encrypted x ∷ xs) v =
    let q = safe_rows_lem (k + 1) (n + 0) xs v.1 in
    (rowed_more v.0 q.0 (omega arith), rowed_join rowed_none q.1, rowed_join rowed_none q.2)

-- the rows of a reading
module _ (v : Values) (x : Pfx) (e : rows_of x ≡ v) (valid : ValidSafes x.safes) where
  valid_good : ValidMac x.mac → GoodValues v
  unfolding rows_of
  valid_good m = let q = safe_rows_lem 0 0 x.safes valid in rw (← e) record { safes = q.0.good; bags = q.1.good; attributes = q.2.good; mac = m }

  valid_long : (length x.safes ≡ length v.safes) × (bags_in_safes x.safes ≡ length v.bags) × (attributes_in_safes x.safes ≡ length v.attributes)
  unfolding rows_of
  valid_long = let q = safe_rows_lem 0 0 x.safes valid in rw (← e) (sym q.0.long, sym q.1.long, sym q.2.long)

-- ---- the tests of a table

-- no more rows are shown than are counted
shown_long : {A B : Type 0} (f : A → B) (n : ℕ) (xs : List A) → length (map f (take n xs)) ≤ n
shown_long f n xs = rw (length-map (take n xs) f, length-take n xs) (omega arith)

module _ (t : Table) (s : List ℕ) where
  values_long : (length (values_of t s).safes ≤ t.safe_count) × (length (values_of t s).bags ≤ t.bag_count)
      × (length (values_of t s).attributes ≤ t.attribute_count)
  unfolding values_of shown rows_in
  values_long = (shown_long _ _ t.safes, shown_long _ _ t.bags, shown_long _ _ t.attributes)

  keeps_says : Bytes s
      → Says (keeps_rules t s)
      (((t.safe_count ≤ safe_rows) × ((t.bag_count ≤ bag_rows) × (t.attribute_count ≤ attribute_rows)))
      × (RangesLie s (rows_in t) t.mac × GoodValues (values_of t s)))
  unfolding keeps_rules counts_fit values_of
  keeps_says b = says_both (says_both (says_le _ _) (says_both (says_le _ _) (says_le _ _))) (table_says s b (rows_in t) t.mac)

module _ (t : Table) (s : List ℕ) (bytes : Bytes s) where
  -- a sound table passes every test
  pub sound_keeps : Sound t s → keeps_rules t s ≡ true
  unfolding reading_of
  sound_keeps o =
      (keeps_says t s bytes).1 (
        (o.safe_count, (o.bag_count, o.attribute_count)),
        (o.ranges, valid_good (values_of t s) o.reading (tree_rows (values_of t s) o.reading o.shows) o.valid.safes o.valid.mac),
      )

  module _ (keeps : keeps_rules t s ≡ true) (x : Pfx) (shows : reading_of t s ≡ some x) where
    -- a table that passes them and shows x: x is valid
    reading_valid : Valid x
    unfolding reading_of
    reading_valid =
        let k = (keeps_says t s bytes).0 keeps in
        let v = good_valid (values_of t s) x k.1.1 shows in
        let n = valid_long (values_of t s) x (tree_rows (values_of t s) x shows) v.0 in
        let m = values_long t s in
        record {
          safes = v.0;
          mac = v.1;
          safe_count = omega (arith, n.0, m.0, k.0.0);
          bag_count = omega (arith, n.1, m.1, k.0.1.0);
          attribute_count = omega (arith, n.2, m.2, k.0.1.1);
        }

    -- and the table is sound
    pub keeps_sound : (o : Sound t s) × (o.reading ≡ x)
    keeps_sound =
        let k = (keeps_says t s bytes).0 keeps in (
          record {
            safe_count = k.0.0;
            bag_count = k.0.1.0;
            attribute_count = k.0.1.1;
            ranges = k.1.0;
            reading = x;
            shows = shows;
            valid = reading_valid;
          },
          refl,
        )

  -- the file of a sound table is what its reading is written as
  pub sound_file : (o : Sound t s) → file_of t s ≡ some (encode o.reading)
  unfolding file_of
  sound_file o = rw (sound_keeps o, o.shows)

  file_sound : (f : List ℕ) → file_of t s ≡ some f → (o : Sound t s) × (encode o.reading ≡ f)
  unfolding file_of
  file_sound f =
      by_test (λ u. u ≡ some f → (o : Sound t s) × (encode o.reading ≡ f)) _ _ (keeps_rules t s)
      (λ k. go (reading_of t s) (keeps_sound k)) (λ k e. nothing_is f e)
    where
      go : (r : Option Pfx) → ((x : Pfx) → r ≡ some x → (o : Sound t s) × (o.reading ≡ x)) → written_as r ≡ some f
          → (o : Sound t s) × (encode o.reading ≡ f)
      go option.none h e = nothing_is f e
      go (some x) h e = let q = h x refl in (q.0, rw q.1 cc)

-- a table has a file exactly if it is sound, and then that of its reading
pub file_iff_sound : (t : Table) (s : List ℕ) → Bytes s → (f : List ℕ) → file_of t s ≡ some f ↔ ((o : Sound t s) × (encode o.reading ≡ f))
file_iff_sound t s b f = (file_sound t s b f, λ q. sound_file t s b q.0 ∙ ap some q.1)

pub no_file_iff : (t : Table) (s : List ℕ) → Bytes s → file_of t s ≡ option.none ↔ (Sound t s → ⊥)
no_file_iff t s b = (λ e o. nothing_is _ (sym e ∙ sound_file t s b o), go (file_of t s) (file_sound t s b))
  where
    go : (u : Option (List ℕ)) → ((f : List ℕ) → u ≡ some f → (o : Sound t s) × (encode o.reading ≡ f)) → (Sound t s → ⊥) → u ≡ option.none
    go option.none h k = refl
    go (some f) h k = absurd (k (h f refl).0)
