-- Wherever the account stops, the number is 1 to 8 or 15 and the offset is from the first byte of
-- what was left up to its end; where it goes on, it goes on from there to the same end. Proved of the
-- one rule for elements and of each way to put rules together, then of the grammar.
use mathlib.Core.Bool.{Bool, true, false}
use mathlib.Core.Logic.{◌⊎◌, inl, inr}
use mathlib.Core.Path.{◌≡◌, refl}
use mathlib.Core.List.{List, [], ◌∷◌}
use Prim.Native.Nat.{ℕ, zero, suc, ◌+◌, ◌*◌, ◌/◌, ◌%◌, ◌≤◌, ◌<◌}
use native.Mathlib.Omega.{arith}
use lib.Dec.{leb, ltb, eqb}
use lib.ListN.{length, take, drop, length-drop}
use lib.Seq.{length-take-le}
use Rattle.std.specs.Prelude.{if◌then◌else◌}
use Rattle.der.specs.Octets.{number}
use Rattle.der.proofs.Choices.{by_test, by_lt}
use Rattle.range.specs.Bytes.{same_bytes}
use Rattle.refusals.specs.Element.{Left, left, Made, Account, stops, goes, Rule, Header, wrong, right, on_header}
use Rattle.refusals.specs.Element.{fitting, after81, after82, sized, header, where_none, closed, Content, walked}
use Rattle.refusals.specs.Element.{judged, allowed, inside, element, onwards, ◌before◌, each_of, each, if_any}
use Rattle.refusals.specs.Element.{served, first_is, if_tag, is, any, constructed, primitive, naming, front_body}
use Rattle.refusals.specs.Element.{anything, opaque}
use Rattle.refusals.specs.Bodies.{pkcs7, bag_id, is_identifier, is_integer, any_type, outer_type, safe_type, data_type}
use Rattle.refusals.specs.Bodies.{bag_type, version, encrypted_version, iterations}
use Rattle.refusals.specs.Grammar.{algorithm, sealed, value_tag, typed, encrypted_info, encrypted_data, row}
use Rattle.refusals.specs.Grammar.{attribute, bag_value, bag, safe_contents, safe_value, safe, outer}
use Rattle.refusals.specs.Grammar.{mac_data, pfx}

-- ---- the header

-- the numbers of refusals within a file
abbrev pub Number : ℕ → Type 0
Number n = ((1 ≤ n) × (n ≤ 8)) ⊎ (n ≡ 15)

-- a header that is right has two bytes at least and lies in front of the bytes after it, and the
-- body in these
abbrev pub OfHeader : List ℕ → Header → Type 0
OfHeader x (wrong n) = Number n
OfHeader x (right t h size y) = (h + length y ≡ length x) × (size ≤ length y) × (2 ≤ h)

fitting_of : (x : List ℕ) (t h size : ℕ) (y : List ℕ) → h + length y ≡ length x → 2 ≤ h
    → OfHeader x (fitting t h size y)
unfolding fitting
fitting_of x t h size y e m = by_lt (OfHeader x) _ _ (length y) size (λ k. inr refl) (λ k. (e, k, m))

pub header_of : (x : List ℕ) → OfHeader x (header x)
unfolding header sized after81 after82
header_of [] = inl (omega arith, omega arith)
header_of (t ∷ []) =
    by_test (OfHeader (t ∷ [])) _ _ (eqb t 0) (λ e. inl (omega arith, omega arith))
    (λ e. by_test (OfHeader (t ∷ [])) _ _ (eqb (t % 0x20) 0x1F) (λ f. inl (omega arith, omega arith)) (λ f. inr refl))
header_of (t ∷ n ∷ x) =
    by_test Good _ _ (eqb t 0) (λ e. inl (omega arith, omega arith))
    (λ e. by_test Good _ _ (eqb (t % 0x20) 0x1F) (λ f. inl (omega arith, omega arith))
    (λ f. by_test Good _ _ (ltb n 0x80) (λ g. fitting_of (t ∷ n ∷ x) t 2 n x (omega arith) (omega arith))
    (λ g. by_test Good _ _ (eqb n 0x81) (λ h. one x)
    (λ h. by_test Good _ _ (eqb n 0x82) (λ i. two x) (λ i. inl (omega arith, omega arith))))))
  where
    Good : Header → Type 0
    Good h = OfHeader (t ∷ n ∷ x) h

    one : (y : List ℕ) → OfHeader (t ∷ n ∷ y) (after81 t y)
    one [] = inr refl
    one (a ∷ y) =
        by_test (OfHeader (t ∷ n ∷ a ∷ y)) _ _ (ltb a 0x80) (λ g. inl (omega arith, omega arith))
        (λ g. fitting_of (t ∷ n ∷ a ∷ y) t 3 a y (omega arith) (omega arith))

    two : (y : List ℕ) → OfHeader (t ∷ n ∷ y) (after82 t y)
    two [] = inr refl
    two (a ∷ []) = inr refl
    two (a ∷ b ∷ y) =
        by_test (OfHeader (t ∷ n ∷ a ∷ b ∷ y)) _ _ (eqb a 0) (λ g. inl (omega arith, omega arith))
        (λ g. fitting_of (t ∷ n ∷ a ∷ b ∷ y) t 4 (a * 0x100 + b) y (omega arith) (omega arith))

-- ---- rules

-- an account within what is left from b up to e
abbrev pub Kept : ℕ → ℕ → Account → Type 0
Kept b e (stops n p) = Number n × (b ≤ p) × (p ≤ e)
Kept b e (goes m l) = (b ≤ l.offset) × (l.offset + length l.bytes ≡ e)

kept_from : (b c e : ℕ) (a : Account) → b ≤ c → Kept c e a → Kept b e a
kept_from b c e (stops n p) h k = (k.0, omega (arith, k.1), k.2)
kept_from b c e (goes m l) h k = (omega (arith, k.0), k.1)

pub record Keeps (rule : Rule) : Type 0 where
  pub kept : (made : Made) (l : Left) → Kept l.offset (l.offset + length l.bytes) (rule made l)

-- a body is judged by a number that a refusal may have
pub record Judges (judge : List ℕ → ℕ) : Type 0 where
  pub bound : (x : List ℕ) → judge x ≤ 8

abbrev KeepsIn : Content → Type 0
KeepsIn (walked rule) = Keeps rule
KeepsIn (judged judge) = Judges judge

none_or : {A : Type 0} (P : A → Type 0) (x : List ℕ) (none some : A) → (x ≡ [] → P none) → (0 < length x → P some)
    → P (where_none x none some)
none_or P [] none some f g = f refl
none_or P (b ∷ x) none some f g = g (omega arith)

-- a body that is left from c up to m lies within what is left from b up to e
pub closed_kept : (b c m e : ℕ) (a : Account) (after : Left) → b ≤ c → m ≤ e → Kept c m a → b ≤ after.offset
    → after.offset + length after.bytes ≡ e → Kept b e (closed a after)
closed_kept b c m e (stops n p) after g h k f q = (k.0, omega (arith, k.1), omega (arith, k.2))
closed_kept b c m e (goes made l) after g h k f q =
    none_or (Kept b e) l.bytes (goes made after) (stops 6 l.offset) (λ z. (f, q))
    (λ z. (inl (omega arith, omega arith), omega (arith, k.0), omega (arith, k.1)))

allowed_kept : (n offset e : ℕ) (made : Made) (after : Left) → n ≤ 8 → offset ≤ after.offset
    → after.offset + length after.bytes ≡ e → Kept offset e (allowed n offset made after)
allowed_kept zero offset e made after h k q = (k, q)
allowed_kept (suc n) offset e made after h k q = (inl (omega arith, h), omega arith, omega arith)

inside_kept : (content : Content) → KeepsIn content → (offset e : ℕ) (made : Made) (body after : Left)
    → offset ≤ body.offset → body.offset + length body.bytes ≤ e → offset ≤ after.offset
    → after.offset + length after.bytes ≡ e → Kept offset e (inside content offset made body after)
inside_kept (walked rule) k offset e made body after h i g q =
    closed_kept offset body.offset (body.offset + length body.bytes) e (rule made body) after h i
    (k.kept made body) g q
inside_kept (judged judge) k offset e made body after h i g q =
    allowed_kept (judge body.bytes) offset e made after (k.bound body.bytes) g q

pub element_keeps : (due : ℕ → Bool) (full : Made → Bool) (content : ℕ → Content) → ((t : ℕ) → KeepsIn (content t))
    → Keeps (element due full content)
unfolding element
element_keeps due full content k = record { kept = λ made l. go made l (header l.bytes) (header_of l.bytes) }
  where
    go : (made : Made) (l : Left) (x : Header) → OfHeader l.bytes x
        → Kept l.offset (l.offset + length l.bytes) (on_header x (λ n. stops n l.offset) (λ t h size y.
        if due t then
        if full made then stops 8 l.offset else
        inside (content t) l.offset made (left (l.offset + h) (take size y))
        (left (l.offset + h + size) (drop size y)) else
        stops 4 l.offset))
    go made l (wrong n) q = (q, omega arith, omega arith)
    go made l (right t h size y) q =
        by_test (Kept l.offset (l.offset + length l.bytes)) _ _ (due t)
        (λ z.
        by_test (Kept l.offset (l.offset + length l.bytes)) _ _ (full made)
        (λ w. (inl (omega arith, omega arith), omega arith, omega arith))
        (λ w.
        inside_kept (content t) (k t) l.offset (l.offset + length l.bytes) made _ _ (omega arith)
        (omega (arith, length-take-le size y q.1, q.0, q.1)) (omega arith)
        (omega (arith, length-drop size y, q.0, q.1))))
        (λ z. (inl (omega arith, omega arith), omega arith, omega arith))

onwards_kept : (b e : ℕ) (a : Account) (rule : Rule) → Kept b e a → Keeps rule → Kept b e (onwards a rule)
onwards_kept b e (stops n p) rule k r = k
onwards_kept b e (goes m l) rule k r = kept_from b l.offset e (rule m l) k.0 (rw k.1 at (r.kept m l))

before_keeps : (first second : Rule) → Keeps first → Keeps second → Keeps (first before second)
before_keeps first second p q = record { kept = λ made l. onwards_kept _ _ (first made l) second (p.kept made l) q }

-- what is left as it was
same : (l : Left) → (l.offset ≤ l.offset) × (l.offset + length l.bytes ≡ l.offset + length l.bytes)
same l = (omega arith, refl)

each_kept : (n : ℕ) (rule : Rule) → Keeps rule → Keeps (each_of n rule)
unfolding each_of
each_kept zero rule k = record { kept = λ made l. same l }
each_kept (suc n) rule k =
    record {
      kept = λ made l. none_or (Kept l.offset (l.offset + length l.bytes)) l.bytes _ _ (λ z. same l)
          (λ z. onwards_kept _ _ (rule made l) (each_of n rule) (k.kept made l) (each_kept n rule k));
    }

each_keeps : (rule : Rule) → Keeps rule → Keeps (each rule)
each_keeps rule k = record { kept = λ made l. (each_kept (length l.bytes) rule k).kept made l }

any_keeps : (rule : Rule) → Keeps rule → Keeps (if_any rule)
any_keeps rule k = record {
  kept = λ made l. none_or (Kept l.offset (l.offset + length l.bytes)) l.bytes _ _ (λ z. same l)
      (λ z. k.kept made l);
}

served_keeps : (rule : Rule) → Keeps rule → Keeps (served rule)
served_keeps rule k =
    record {
      kept = λ made l. none_or (Kept l.offset (l.offset + length l.bytes)) l.bytes _ _
          (λ z. (inl (omega arith, omega arith), omega arith, omega arith)) (λ z. k.kept made l);
    }

tag_keeps : (t : ℕ) (rule : Rule) → Keeps rule → Keeps (if_tag t rule)
tag_keeps t rule k =
    record {
      kept = λ made l. by_test (Kept l.offset (l.offset + length l.bytes)) _ _ (first_is t l.bytes)
          (λ e. k.kept made l) (λ e. same l);
    }

constructed_keeps : (tag : ℕ) (rule : Rule) → Keeps rule → Keeps (constructed tag rule)
constructed_keeps tag rule k = element_keeps _ _ _ (λ t. k)

primitive_keeps : (tag : ℕ) (judge : List ℕ → ℕ) → Judges judge → Keeps (primitive tag judge)
primitive_keeps tag judge k = element_keeps _ _ _ (λ t. k)

naming_keeps : (tag : ℕ) (judge : List ℕ → ℕ) (next : List ℕ → Rule) → Judges judge → ((x : List ℕ) → Keeps (next x))
    → Keeps (naming tag judge next)
naming_keeps tag judge next j k =
    record {
      kept = λ made l.
          onwards_kept _ _ (primitive tag judge made l) (next (front_body l.bytes))
          ((primitive_keeps tag judge j).kept made l) (k (front_body l.bytes));
    }

row_keeps : (full : Made → Bool) (counted : Made → Made) (rule : Rule) → Keeps rule → Keeps (row full counted rule)
row_keeps full counted rule k = element_keeps _ full _ (λ t. record { kept = λ made l. k.kept (counted made) l })

chosen_keeps : (u : Bool) (first second : Rule) → Keeps first → Keeps second → Keeps (if u then first else second)
chosen_keeps true first second p q = p
chosen_keeps false first second p q = q

-- ---- bodies

either_judges : (u : Bool) (n m : ℕ) → n ≤ 8 → m ≤ 8 → (if u then n else m) ≤ 8
either_judges true n m p q = p
either_judges false n m p q = q

judges_anything : Judges anything
judges_anything = record { bound = λ x. omega arith }

judges_any : Judges any_type
unfolding any_type
judges_any = record { bound = λ x. either_judges (is_identifier x) 0 5 (omega arith) (omega arith) }

judges_data : Judges data_type
unfolding data_type
judges_data = record {
  bound = λ x. either_judges (is_identifier x) _ 5
      (either_judges (same_bytes x (pkcs7 0x01)) 0 5 (omega arith) (omega arith)) (omega arith);
}

judges_outer : Judges outer_type
unfolding outer_type
judges_outer = record {
  bound = λ x. either_judges (is_identifier x) _ 5
      (either_judges (same_bytes x (pkcs7 0x01)) 0 _ (omega arith)
      (either_judges (same_bytes x (pkcs7 0x02)) 7 5 (omega arith) (omega arith))) (omega arith);
}

judges_safe : Judges safe_type
unfolding safe_type
judges_safe = record {
  bound = λ x. either_judges (is_identifier x) _ 5
      (either_judges (same_bytes x (pkcs7 0x01)) 0 _ (omega arith)
      (either_judges (same_bytes x (pkcs7 0x06)) 0 _ (omega arith)
      (either_judges (same_bytes x (pkcs7 0x03)) 7 5 (omega arith) (omega arith)))) (omega arith);
}

judges_bag : Judges bag_type
unfolding bag_type
judges_bag = record {
  bound = λ x. either_judges (is_identifier x) _ 5
      (either_judges (same_bytes x (bag_id 0x01)) 0 _ (omega arith)
      (either_judges (same_bytes x (bag_id 0x02)) 0 _ (omega arith)
      (either_judges (same_bytes x (bag_id 0x03)) 0 _ (omega arith)
      (either_judges (same_bytes x (bag_id 0x04)) 0 _ (omega arith)
      (either_judges (same_bytes x (bag_id 0x05)) 0 _ (omega arith)
      (either_judges (same_bytes x (bag_id 0x06)) 0 7 (omega arith) (omega arith))))))) (omega arith);
}

judges_version : Judges version
unfolding version
judges_version = record {
  bound = λ x. either_judges (is_integer x) _ 5
      (either_judges (eqb (number x) 3) 0 5 (omega arith) (omega arith)) (omega arith);
}

judges_encrypted : Judges encrypted_version
unfolding encrypted_version
judges_encrypted = record {
  bound = λ x. either_judges (is_integer x) _ 5
      (either_judges (eqb (number x) 2) 7 _ (omega arith)
      (either_judges (eqb (number x) 0) 0 5 (omega arith) (omega arith))) (omega arith);
}

judges_iterations : Judges iterations
unfolding iterations
judges_iterations = record {
  bound = λ x. either_judges (is_integer x) _ 5
      (either_judges (leb 2 (number x)) 0 5 (omega arith) (omega arith)) (omega arith);
}

-- ---- the grammar

opaque_keeps : (n : ℕ) (due : ℕ → Bool) → Keeps (opaque due n)
unfolding opaque
opaque_keeps zero due = element_keeps _ _ _ (λ t. judges_anything)
opaque_keeps (suc n) due =
    element_keeps _ _ _
    (λ t. by_test KeepsIn (judged anything) (walked (each (opaque any n))) (eqb (t / 0x20 % 2) 0)
    (λ e. judges_anything) (λ e. each_keeps _ (opaque_keeps n any)))

algorithm_keeps : Keeps algorithm
unfolding algorithm
algorithm_keeps = constructed_keeps 0x30 _ (before_keeps _ _ (primitive_keeps 0x06 any_type judges_any)
    (any_keeps _ (opaque_keeps 16 any)))

sealed_keeps : Keeps sealed
unfolding sealed
sealed_keeps = constructed_keeps 0x30 _ (before_keeps _ _ algorithm_keeps
    (primitive_keeps 0x04 anything judges_anything))

typed_keeps : (u : Bool) → Keeps (typed u)
unfolding typed
typed_keeps u = constructed_keeps 0x30 _ (naming_keeps 0x06 any_type _ judges_any
    (λ x. constructed_keeps 0xA0 _ (opaque_keeps 16 (value_tag u x))))

info_keeps : Keeps encrypted_info
unfolding encrypted_info
info_keeps =
    constructed_keeps 0x30 _
    (before_keeps _ _ (primitive_keeps 0x06 data_type judges_data)
    (before_keeps _ _ algorithm_keeps (served_keeps _ (primitive_keeps 0x80 anything judges_anything))))

encrypted_keeps : Keeps encrypted_data
unfolding encrypted_data
encrypted_keeps = constructed_keeps 0x30 _ (before_keeps _ _ (primitive_keeps 0x02 encrypted_version judges_encrypted)
    info_keeps)

attribute_keeps : Keeps attribute
unfolding attribute
attribute_keeps =
    row_keeps _ _ _ (before_keeps _ _ (primitive_keeps 0x06 any_type judges_any)
    (constructed_keeps 0x31 _ (each_keeps _ (opaque_keeps 16 any))))

value_keeps : (inner : Rule) → Keeps inner → (x : List ℕ) → Keeps (bag_value inner x)
unfolding bag_value
value_keeps inner k x =
    chosen_keeps (same_bytes x (bag_id 0x01)) _ _ (opaque_keeps 16 (is 0x30))
    (chosen_keeps (same_bytes x (bag_id 0x02)) _ _ sealed_keeps
    (chosen_keeps (same_bytes x (bag_id 0x03)) _ _ (typed_keeps true)
    (chosen_keeps (same_bytes x (bag_id 0x04)) _ _ (typed_keeps false)
    (chosen_keeps (same_bytes x (bag_id 0x05)) _ _ (typed_keeps false) k))))

bag_keeps : (inner : Rule) → Keeps inner → Keeps (bag inner)
unfolding bag
bag_keeps inner k =
    row_keeps _ _ _
    (before_keeps _ _ (naming_keeps 0x06 bag_type _ judges_bag (λ x. constructed_keeps 0xA0 _ (value_keeps inner k x)))
    (tag_keeps 0x31 _ (constructed_keeps 0x31 _ (each_keeps _ attribute_keeps))))

contents_keep : (n : ℕ) → Keeps (safe_contents n)
unfolding safe_contents
contents_keep zero = element_keeps _ _ _ (λ t. judges_anything)
contents_keep (suc n) = constructed_keeps 0x30 _ (each_keeps _ (bag_keeps _ (contents_keep n)))

safe_keeps : Keeps safe
unfolding safe safe_value
safe_keeps =
    row_keeps _ _ _
    (naming_keeps 0x06 safe_type safe_value judges_safe
    (λ x.
    chosen_keeps (same_bytes x (pkcs7 0x01)) _ _ (constructed_keeps 0xA0 _
    (constructed_keeps 0x04 _ (contents_keep 8))) (constructed_keeps 0xA0 _ encrypted_keeps)))

outer_keeps : Keeps outer
unfolding outer
outer_keeps =
    constructed_keeps 0x30 _
    (before_keeps _ _ (primitive_keeps 0x06 outer_type judges_outer)
    (constructed_keeps 0xA0 _ (constructed_keeps 0x04 _ (constructed_keeps 0x30 _ (each_keeps _ safe_keeps)))))

mac_keeps : Keeps mac_data
unfolding mac_data
mac_keeps =
    constructed_keeps 0x30 _
    (before_keeps _ _ sealed_keeps
    (before_keeps _ _ (primitive_keeps 0x04 anything judges_anything)
    (tag_keeps 0x02 _ (primitive_keeps 0x02 iterations judges_iterations))))

-- what is in the SEQUENCE of a file, and the whole
abbrev pub in_pfx : Rule
in_pfx = primitive 0x02 version before outer before served mac_data

pub body_keeps : Keeps in_pfx
body_keeps =
    before_keeps _ _ (primitive_keeps 0x02 version judges_version)
    (before_keeps _ _ outer_keeps (served_keeps _ mac_keeps))

pub pfx_keeps : Keeps pfx
unfolding pfx
pfx_keeps = constructed_keeps 0x30 _ body_keeps
