-- Attributes and bags: the walk beside the account.
use mathlib.Core.Bool.{Bool, true, false}
use mathlib.Core.Path.{◌≡◌, refl, sym, ◌∙◌}
use mathlib.Core.List.{List, [], ◌∷◌, ◌++◌}
use Prim.Native.Nat.{ℕ, zero, suc, ◌-◌, ◌≤◌, ◌<◌}
use native.Mathlib.Omega.{arith}
use lib.Dec.{leb, ltb, eqb}
use lib.ListN.{length, length-append}
use lib.Seq.{length-slice}
use Rattle.der.specs.Element.{cursor, tag_at, finish_at, expect_at, on_element}
use Rattle.der.specs.Content.{bytes_of}
use Rattle.der.specs.Opaque.{on_checked, elements_at}
use Rattle.der.specs.declared.Fault.{Fault}
use Rattle.der.specs.declared.Cursor.{Cursor}
use Rattle.der.proofs.Choices.{never, by_test}
use Rattle.range.specs.Bytes.{same_bytes}
use Rattle.pkcs12.specs.Identifiers.{identifier_of, kind_of}
use Rattle.pkcs12.specs.Table.{Rows, no_parts, bag_row}
use Rattle.pkcs12.specs.Walk.{Walked, Refused, Went, on_walked, go_on, run, counting, add_safe, add_bag, add_attribute}
use Rattle.pkcs12.specs.Walk.{attribute_at, set_at, Owner, leaf_at, content_at, on_kind, bag_at, safe_contents_at}
use Rattle.pkcs12.specs.Walk.{key_at, sealed_at, typed_at}
use Rattle.pkcs12.specs.declared.kind.BagKind.{BagKind}
use Rattle.pkcs12.specs.declared.kind.BagKind.TheVariants.{Key, ShroudedKey, Certificate, Crl, Secret, Nested}
use Rattle.pkcs12.specs.declared.row.SafeRow.{SafeRow}
use Rattle.pkcs12.specs.declared.row.BagRow.{BagRow}
use Rattle.pkcs12.specs.declared.row.AttributeRow.{AttributeRow}
use Rattle.pkcs12.specs.declared.answers.Parsed.{Parsed}
use Rattle.pkcs12.specs.declared.row.Parts.{Parts}
use Rattle.std.specs.Prelude.{Err, Ok, Result}
use Rattle.refusals.specs.Element.{Left, Made, Account, stops, goes, Rule, closed, allowed, onwards}
use Rattle.refusals.specs.Element.{front_body, each, if_tag, is, any, constructed, opaque}
use Rattle.refusals.specs.Bodies.{is_identifier, bag_id, any_type, bag_type}
use Rattle.refusals.specs.Grammar.{sealed, typed, more_safes, more_bags, more_attributes, attribute, bag_value, bag}
use Rattle.refusals.specs.Grammar.{safe_contents}
use Rattle.refusals.proofs.Headers.{Lies}
use Rattle.refusals.proofs.Links.{here, left_to, Past, link_test, link_expect, link_identifier}
use Rattle.refusals.proofs.Links.{link_finish, first_tag}
use Rattle.refusals.proofs.Loops.{link_many}
use Rattle.refusals.proofs.Agree.{Agree, Full, full_closed, made_in, parts_out, walked_out, by_checked}
use Rattle.refusals.proofs.Agree.{by_walked}
use Rattle.refusals.proofs.Opaque.{elements_agree}
use Rattle.refusals.proofs.Parts.{any_type_lem, no_type, sealed_agrees, key_agrees, typed_agrees}

-- ---- rows that are counted

one_more_lem : {A : Type 0} (x : List A) (r : A) → length (x ++ (r ∷ [])) ≡ suc (length x)
one_more_lem x r = length-append x (r ∷ []) ∙ omega arith

pub safe_made : (st : Rows) (r : SafeRow) (k : ℕ) → made_in (add_safe st r k) ≡ more_safes (made_in st)
safe_made st r k = rw (one_more_lem st.safes r) refl

pub bag_made : (st : Rows) (r : BagRow) (k : ℕ) → made_in (add_bag st r k) ≡ more_bags (made_in st)
bag_made st r k = rw (one_more_lem st.bags r) refl

pub attribute_made : (st : Rows) (r : AttributeRow) (k : ℕ) → made_in (add_attribute st r k)
    ≡ more_attributes (made_in st)
attribute_made st r k = rw (one_more_lem st.attributes r) refl

module _ (s : List ℕ) where
  -- the rows that a part makes, in a run of such parts
  pub rows_agree : (step : Rows → Cursor → Walked) (rule : Rule)
      → ((st : Rows) (c : Cursor) → Lies s c → Agree s (Past s c) (walked_out (step st c))
      (rule (made_in st) (here s c)))
      → (st : Rows) (c : Cursor) → Lies s c → Agree s (Full c) (walked_out (run step st c))
      (each rule (made_in st) (here s c))
  unfolding run
  rows_agree step rule one st c h =
      rw (length-slice c.at c.end s h.inside)
      (link_many s go_on (λ st at. Went st (cursor at c.end)) (λ st at. step st (cursor at c.end)) c.end
      h.inside rule made_in
      (λ x a. Agree s (Full c) (walked_out x) a) (λ a. a)
      (λ st. (refl, refl))
      (λ st at k next r rest. go at next r rest (step st (cursor at c.end))
      (rule (made_in st) (here s (cursor at c.end)))
      (one st (cursor at c.end) (record { order = omega arith; inside = h.inside })))
      (c.end - c.at) st c.at h.order (omega (arith, h.order)))
    where
      go : (at : ℕ) (next : Rows → ℕ → Walked) (r : Rule)
          → ((st' : Rows) (at' : ℕ) → at < at' → at' ≤ c.end
          → Agree s (Full c) (walked_out (next st' at')) (r (made_in st') (here s (cursor at' c.end))))
          → (x : Walked) (a : Account) → Agree s (Past s (cursor at c.end)) (walked_out x) a
          → Agree s (Full c) (walked_out (go_on x next)) (onwards a r)
      go at next r rest (Refused f) a q = rw q refl
      go at next r rest (Went st n) a q =
          let p = q.1 in
          rw q.0 (rw (left_to s n c.end p.end) at
          (rest st n.at p.on (omega (arith, p.end, p.lies.order))))

  pub attribute_agrees : (number : ℕ) (st : Rows) (c : Cursor) → Lies s c
      → Agree s (Past s c) (walked_out (attribute_at s number st c)) (attribute (made_in st) (here s c))
  unfolding attribute_at attribute
  attribute_agrees number st c h =
      link_expect s Good Refused (λ a. a) (λ f. refl) c h (made_in st) 0x30 _ _ _
      (λ b n d.
      link_test Good (λ x. x) (λ a. a) (leb 128 (length st.attributes)) _ _ _ _ (λ u. refl)
      (λ u.
      link_identifier s Good Refused (λ a. closed (onwards a (constructed 0x31 (each (opaque any 16)))) (here s n))
      (λ f. refl) b d.body more any_type no_type _
      (λ i m e v.
      rw (any_type_lem (bytes_of s i) v)
      (link_expect s Good Refused (λ a. closed a (here s n)) (λ f. refl) m e.past.lies more 0x31 _ _ _
      (λ o g w.
      by_checked s Good Refused (λ a. closed (closed a (here s g)) (here s n)) (λ f. refl) (Full o) more _
      (elements_at 16 s o) _ (elements_agree s more 16 o w.body)
      (λ k f p.
      rw (full_closed s o f more (here s g) p)
      (link_finish s Good Refused (λ a. a) (λ f. refl) g w.past.lies more (here s n) _
      (λ z. (rw (attribute_made st _ _) refl, d.past)))))))))
    where
      Good : Walked → Account → Type 0
      Good x a = Agree s (Past s c) (walked_out x) a

      more : Made
      more = more_attributes (made_in st)

  -- the set of attributes, if it is there, and the end of the bag
  set_link : {A : Type 0} (P : A → Account → Type 0) (bad : Fault → A)
      (strict : (f : Fault) → P (bad f) (stops f.number f.offset))
      (number : ℕ) (st : Rows) (c : Cursor) → Lies s c → (after : Left) (good : Rows → Cursor → A)
      → ((st' : Rows) (n : Cursor) → P (good st' n) (goes (made_in st') after))
      → P (on_walked (set_at s number st c) bad good) (closed
      (if_tag 0x31 (constructed 0x31 (each attribute)) (made_in st) (here s c)) after)
  unfolding set_at
  set_link P bad strict number st c h after good g =
      rw (sym (first_tag s c 0x31 h refl))
      (link_test P (λ x. on_walked x bad good) (λ a. closed a after) (eqb (tag_at s c) 0x31) _ _ _ _
      (λ u.
      link_expect s (λ x a. P (on_walked x bad good) a) Refused (λ a. closed a after) strict c h (made_in st) 0x31 _ _ _
      (λ b n d.
      by_walked s (λ x a. P (on_walked x bad good) a) Refused (λ a. closed (closed a (here s n)) after) strict (Full b)
      _
      (run (attribute_at s number) (counting st 1) b) _
      (rows_agree (attribute_at s number) attribute (attribute_agrees number) (counting st 1) b d.body)
      (λ st' f p.
      rw (full_closed s b f (made_in st') (here s n) p)
      (link_finish s (λ x a. P (on_walked x bad good) a) Refused (λ a. a) strict n d.past.lies (made_in st') after _
      (λ z. g st' n)))))
      (λ u. link_finish s (λ x a. P (on_walked x bad good) a) Refused (λ a. a) strict c h (made_in st) after _
      (λ z. g st c)))

-- ---- what a bag holds

-- the rule of a kind of bag
abbrev value_of : Rule → BagKind → Rule
value_of inner BagKind.None = inner
value_of inner Key = opaque (is 0x30) 16
value_of inner ShroudedKey = sealed
value_of inner Certificate = typed true
value_of inner Crl = typed false
value_of inner Secret = typed false
value_of inner Nested = inner

-- what the account makes of an identifier of this kind
abbrev OfKind : List ℕ → BagKind → Type 0
OfKind x BagKind.None = bag_type x ≡ 7
OfKind x Key = (bag_type x ≡ 0) × ((inner : Rule) → bag_value inner x ≡ value_of inner Key)
OfKind x ShroudedKey = (bag_type x ≡ 0) × ((inner : Rule) → bag_value inner x ≡ value_of inner ShroudedKey)
OfKind x Certificate = (bag_type x ≡ 0) × ((inner : Rule) → bag_value inner x ≡ value_of inner Certificate)
OfKind x Crl = (bag_type x ≡ 0) × ((inner : Rule) → bag_value inner x ≡ value_of inner Crl)
OfKind x Secret = (bag_type x ≡ 0) × ((inner : Rule) → bag_value inner x ≡ value_of inner Secret)
OfKind x Nested = (bag_type x ≡ 0) × ((inner : Rule) → bag_value inner x ≡ value_of inner Nested)

no_kind : (x : List ℕ) → is_identifier x ≡ false → bag_type x ≡ 5
unfolding bag_type
no_kind x e = rw e refl

kind_is : (x : List ℕ) → is_identifier x ≡ true → OfKind x (kind_of x)
unfolding kind_of identifier_of bag_type bag_value
kind_is x e =
    by_test (OfKind x) _ _ (same_bytes x (bag_id 0x01)) (λ a. (rw (e, a) refl, λ inner. rw a refl))
    (λ a. by_test (OfKind x) _ _ (same_bytes x (bag_id 0x02)) (λ b. (rw (e, a, b) refl, λ inner. rw (a, b) refl))
    (λ b. by_test (OfKind x) _ _ (same_bytes x (bag_id 0x03)) (λ c. (rw (e, a, b, c) refl, λ inner. rw (a, b, c) refl))
    (λ c. by_test (OfKind x) _ _ (same_bytes x (bag_id 0x04))
    (λ d. (rw (e, a, b, c, d) refl, λ inner. rw (a, b, c, d) refl))
    (λ d. by_test (OfKind x) _ _ (same_bytes x (bag_id 0x05))
    (λ f. (rw (e, a, b, c, d, f) refl, λ inner. rw (a, b, c, d, f) refl))
    (λ f. by_test (OfKind x) _ _ (same_bytes x (bag_id 0x06))
    (λ g. (rw (e, a, b, c, d, f, g) refl, λ inner. rw (a, b, c, d, f) refl))
    (λ g. rw (e, a, b, c, d, f, g) refl))))))

module _ (s : List ℕ) (inner : Owner → Rows → Cursor → Walked) (rule : Rule)
    (below : (w : Owner) (st : Rows) (c : Cursor) → Lies s c
    → Agree s (Past s c) (walked_out (inner w st c)) (rule (made_in st) (here s c))) where
  leaf_agrees : (kind : BagKind) (w : Owner) (has_set : Bool) (st : Rows) (c : Cursor) (x : Result (Parsed Parts) Fault) (a : Account)
      → Agree s (Past s c) (parts_out (more_bags (made_in st)) x) a
      → Agree s (Past s c) (walked_out (leaf_at x kind w has_set st)) a
  leaf_agrees kind w has_set st c (Err f) a q = q
  leaf_agrees kind w has_set st c (Ok x) a q = (rw (bag_made st _ _) q.0, q.1)

  -- a served kind
  content_agrees : (kind : BagKind) (w : Owner) (has_set : Bool) (st : Rows) (c : Cursor) → Lies s c
      → on_kind kind false true ≡ true
      → Agree s (Past s c) (walked_out (content_at inner s kind w has_set st c))
      (value_of rule kind (more_bags (made_in st)) (here s c))
  content_agrees BagKind.None w y st c h v = never v
  content_agrees Key w y st c h v = leaf_agrees Key w y st c (key_at s c) _ (key_agrees s (more_bags (made_in st)) c h)
  content_agrees ShroudedKey w y st c h v = leaf_agrees ShroudedKey w y st c (sealed_at s c) _
      (sealed_agrees s (more_bags (made_in st)) c h)
  content_agrees Certificate w y st c h v = leaf_agrees Certificate w y st c (typed_at true s c) _
      (typed_agrees s (more_bags (made_in st)) true c h)
  content_agrees Crl w y st c h v = leaf_agrees Crl w y st c (typed_at false s c) _
      (typed_agrees s (more_bags (made_in st)) false c h)
  content_agrees Secret w y st c h v = leaf_agrees Secret w y st c (typed_at false s c) _
      (typed_agrees s (more_bags (made_in st)) false c h)
  content_agrees Nested w y st c h v = rw (sym (bag_made st (bag_row Nested w.safe w.enclosing no_parts y) 3))
      (below _ _ c h)

  pub bag_agrees : (w : Owner) (st : Rows) (c : Cursor) → Lies s c
      → Agree s (Past s c) (walked_out (bag_at inner s w st c)) (bag rule (made_in st) (here s c))
  unfolding bag_at bag
  bag_agrees w st c h =
      link_expect s Good Refused (λ a. a) (λ f. refl) c h (made_in st) 0x30 _ _ _
      (λ b n d.
      link_test Good (λ x. x) (λ a. a) (leb 64 (length st.bags)) _ _ _ _ (λ u. refl)
      (λ u.
      link_identifier s Good Refused (λ a. closed (onwards
      (onwards a (constructed 0xA0 (bag_value rule (front_body (bytes_of s b))))) set) (here s n)) (λ f. refl)
      b d.body more bag_type no_kind _
      (λ i m e v. rw e.front (by_kind b n d.past (bytes_of s i) m e.past.lies (kind_of (bytes_of s i))
      (kind_is (bytes_of s i) v)))))
    where
      Good : Walked → Account → Type 0
      Good x a = Agree s (Past s c) (walked_out x) a

      more : Made
      more = more_bags (made_in st)

      set : Rule
      set = if_tag 0x31 (constructed 0x31 (each attribute))

      -- [0] of a bag of this kind, its set, and the end of the bag
      rest : BagKind → Cursor → Cursor → Walked
      rest k m n =
          on_element (expect_at 0xA0 s m) Refused
          (λ t v e.
          on_walked (content_at inner s k w (ltb e.at e.end) st v) Refused
          (λ st' f. on_checked (finish_at f) Refused (λ z g. on_walked (set_at s (length st.bags) st' e) Refused
          (λ st'' h. Went st'' n))))

      -- what follows an identifier that the account allows or not
      due : ℕ → Rule → Cursor → Cursor → Cursor → Account
      due k value b m n = closed (onwards (onwards (allowed k b.at more (here s m)) (constructed 0xA0 value)) set)
          (here s n)

      served : (b n : Cursor) → Past s c n → (x : List ℕ) (m : Cursor) → Lies s m → (k : BagKind)
          → on_kind k false true ≡ true
          → (bag_type x ≡ 0) × ((inner : Rule) → bag_value inner x ≡ value_of inner k)
          → Good (rest k m n) (due (bag_type x) (bag_value rule x) b m n)
      served b n past x m lies k v q =
          rw (q.0, q.1 rule)
          (link_expect s Good Refused (λ a. closed (onwards a set) (here s n)) (λ f. refl) m lies more 0xA0 _ _ _
          (λ o e g.
          by_walked s Good Refused (λ a. closed (onwards (closed a (here s e)) set) (here s n)) (λ f. refl) (Past s o)
          _
          (content_at inner s k w (ltb e.at e.end) st o) _
          (content_agrees k w (ltb e.at e.end) st o g.body v)
          (λ st' f p.
          link_finish s Good Refused (λ a. closed (onwards a set) (here s n)) (λ f. refl) f p.lies (made_in st')
          (here s e) _
          (λ z. set_link s Good Refused (λ f. refl) (length st.bags) st' e g.past.lies (here s n) _
          (λ st'' y. (refl, past))))))

      by_kind : (b n : Cursor) → Past s c n → (x : List ℕ) (m : Cursor) → Lies s m → (k : BagKind) → OfKind x k
          → Good (on_kind k (Refused (record { number = 7; offset = b.at })) (rest k m n))
          (due (bag_type x) (bag_value rule x) b m n)
      by_kind b n past x m lies BagKind.None q = rw q refl
      by_kind b n past x m lies Key q = served b n past x m lies Key refl q
      by_kind b n past x m lies ShroudedKey q = served b n past x m lies ShroudedKey refl q
      by_kind b n past x m lies Certificate q = served b n past x m lies Certificate refl q
      by_kind b n past x m lies Crl q = served b n past x m lies Crl refl q
      by_kind b n past x m lies Secret q = served b n past x m lies Secret refl q
      by_kind b n past x m lies Nested q = served b n past x m lies Nested refl q

-- SafeContents, with the levels that are left
pub contents_agree : (s : List ℕ) (l : ℕ) (w : Owner) (st : Rows) (c : Cursor) → Lies s c
    → Agree s (Past s c) (walked_out (safe_contents_at l s w st c)) (safe_contents l (made_in st) (here s c))
unfolding safe_contents_at safe_contents
contents_agree s zero w st c h =
    link_expect s (λ x a. Agree s (Past s c) (walked_out x) a) Refused (λ a. a) (λ f. refl) c h (made_in st) 0x30 _ _ _
    (λ b n d. refl)
contents_agree s (suc l) w st c h =
    link_expect s (λ x a. Agree s (Past s c) (walked_out x) a) Refused (λ a. a) (λ f. refl) c h (made_in st) 0x30 _ _ _
    (λ b n d.
    by_walked s (λ x a. Agree s (Past s c) (walked_out x) a) Refused (λ a. closed a (here s n)) (λ f. refl) (Full b)
    (λ st f. Went st n)
    (run (bag_at (safe_contents_at l s) s w) (counting st 1) b) _
    (rows_agree s (bag_at (safe_contents_at l s) s w) (bag (safe_contents l))
    (bag_agrees s (safe_contents_at l s) (safe_contents l) (contents_agree s l) w) (counting st 1) b d.body)
    (λ st' f p. (full_closed s b f (made_in st') (here s n) p, d.past)))
