-- One step of the walk beside one step of the account. P relates what the walk makes of an answer
-- and what the account comes to; K is what the account does with the step, and `strict` says that a
-- refusal stays one.
use mathlib.Core.Bool.{Bool, true, false}
use mathlib.Core.Path.{◌≡◌, refl, sym, ap, ◌∙◌}
use mathlib.Core.List.{List}
use Prim.Native.Nat.{ℕ, ◌+◌, ◌-◌, ◌<◌}
use native.Mathlib.Omega.{arith}
use lib.Dec.{leb, eqb}
use borrow.Author.Tests.{lt-ltb, le-ltb, le-leb, lt-leb, eqb-true}
use Rattle.std.specs.Prelude.{if◌then◌else◌}
use Rattle.der.specs.Element.{cursor, tag_at, finish_at, element_at, expect_at, on_element}
use Rattle.der.specs.Content.{bytes_of, identifier_body, identifier_at, integer_body, integer_value, integer_at, on_integer}
use Rattle.der.specs.Opaque.{on_checked}
use Rattle.der.specs.Octets.{number}
use Rattle.der.specs.declared.Fault.{Fault}
use Rattle.der.specs.declared.Cursor.{Cursor}
use Rattle.der.specs.Element.{element as met, valued}
use Rattle.der.specs.declared.Element.{Element}
use Rattle.std.specs.Prelude.{Err, Ok, Result}
use Rattle.der.proofs.Choices.{either}
use Rattle.der.proofs.Placed.{left_is, left_none}
use Rattle.refusals.specs.Element.{Left, left, Made, Account, stops, goes, Rule, header}
use Rattle.refusals.specs.Element.{closed, Content, judged, allowed, inside, element, front_body, served}
use Rattle.refusals.specs.Element.{first_is, is, never, primitive}
use Rattle.refusals.specs.Bodies.{is_identifier, is_integer}
use Rattle.refusals.proofs.Headers.{Lies, first_left, none_left, some_chosen, none_chosen, body_taken}
use Rattle.refusals.proofs.Headers.{after_dropped, Same, header_same}
use Rattle.refusals.proofs.Bodies.{identifier_same, integer_same, value_same}

-- what is left at a cursor
abbrev pub here : List ℕ → Cursor → Left
here s c = left c.at (bytes_of s c)

-- what is left there, by the end of the parent
pub left_to : (s : List ℕ) (n : Cursor) (e : ℕ) → n.end ≡ e → here s (cursor n.at e) ≡ here s n
left_to s n e p = rw (sym p) refl

-- a cursor n further on in the parent of c
pub record Past (s : List ℕ) (c n : Cursor) : Type 0 where
  pub lies : Lies s n
  pub end : n.end ≡ c.end
  pub on : c.at < n.at

-- an element at c with the tag t, its body b, and n past it
pub record Stands (s : List ℕ) (c : Cursor) (t : ℕ) (b n : Cursor) : Type 0 where
  pub found : element_at s c ≡ Ok (met t b n)
  pub body : Lies s b
  pub past : Past s c n
  pub front : front_body (bytes_of s c) ≡ bytes_of s b

module _ (s : List ℕ) {A : Type 0} (P : A → Account → Type 0) (bad : Fault → A) (K : Account → Account)
    (strict : (f : Fault) → P (bad f) (K (stops f.number f.offset)))
    (c : Cursor) (lies : Lies s c) (made : Made) where
  pub link_element : (due : ℕ → Bool) (full : Made → Bool) (content : ℕ → Content) (good : ℕ → Cursor → Cursor → A)
      → ((t : ℕ) (b n : Cursor) → Stands s c t b n
      → P (good t b n) (K (if due t then (if full made then stops 8 c.at else inside (content t) c.at made
      (here s b) (here s n)) else stops 4 c.at)))
      → P (on_element (element_at s c) bad good) (K (element due full content made (here s c)))
  unfolding element front_body
  link_element due full content good g = go (element_at s c) refl (header_same s c lies)
    where
      go : (x : Result Element Fault) → element_at s c ≡ x → Same s c.at c.end x (header (bytes_of s c))
          → P (on_element x bad good) (K (element due full content made (here s c)))
      go (Err f) o q = rw (q.0, sym q.1) (strict f)
      go (Ok x) o q =
          let e : x.next ≡ cursor x.body.end c.end = q.4 in
          let p : c.at + (x.body.at - c.at) ≡ x.body.at = omega (arith, q.1) in
          let r : x.body.at + (x.body.end - x.body.at) ≡ x.body.end = omega (arith, q.2) in
          let y = body_taken s x.body.at x.body.end c.end q.3 in
          let z = after_dropped s x.body.at x.body.end c.end q.2 in
          rw (q.0, p, r, y, z, e)
          (g x.tag x.body (cursor x.body.end c.end)
          (record {
            found = o ∙ ap (λ m. Ok (met x.tag x.body m)) e;
            body = record { order = q.2; inside = omega (arith, q.3, lies.inside) };
            past = record {
              lies = record { order = q.3; inside = lies.inside };
              end = refl;
              on = omega
                  (arith, q.1, q.2);
            };
            front = rw q.0 y;
          }))

-- a test that both make
pub link_test : {A B C : Type 0} (P : A → Account → Type 0) (F : B → A) (K : C → Account) (u : Bool) (x y : B)
    (v w : C)
    → (u ≡ true → P (F x) (K v)) → (u ≡ false → P (F y) (K w)) → P (F (if u then x else y)) (K (if u then v else w))
link_test P F K true x y v w f g = f refl
link_test P F K false x y v w f g = g refl

module _ (s : List ℕ) {A : Type 0} (P : A → Account → Type 0) (bad : Fault → A) (K : Account → Account)
    (strict : (f : Fault) → P (bad f) (K (stops f.number f.offset)))
    (c : Cursor) (lies : Lies s c) (made : Made) where
  pub link_expect : (due : ℕ) (full : Made → Bool) (content : ℕ → Content) (good : ℕ → Cursor → Cursor → A)
      → ((b n : Cursor) → Stands s c due b n → P (good due b n)
      (K (if full made then stops 8 c.at else inside (content due) c.at made (here s b) (here s n))))
      → P (on_element (expect_at due s c) bad good) (K (element (is due) full content made (here s c)))
  unfolding expect_at
  link_expect due full content good g =
      link_element s (λ e a. P (on_element e bad good) a) Err K strict c lies made (is due) full content _
      (λ t b n d.
      link_test P (λ e. on_element e bad good) K (eqb t due) _ _ _ _
      (λ h.
      let e = eqb-true t due h in
      rw e (g b n (rw e at d)))
      (λ h. strict _))

-- identifiers and integers, whose bodies are judged
module _ (s : List ℕ) {A : Type 0} (P : A → Account → Type 0) (bad : Fault → A) (K : Account → Account)
    (strict : (f : Fault) → P (bad f) (K (stops f.number f.offset)))
    (c : Cursor) (lies : Lies s c) (made : Made) (judge : List ℕ → ℕ) where
  pub link_identifier : ((x : List ℕ) → is_identifier x ≡ false → judge x ≡ 5) → (good : ℕ → Cursor → Cursor → A)
      → ((b n : Cursor) → Stands s c 0x06 b n → is_identifier (bytes_of s b) ≡ true
      → P (good 0x06 b n) (K (allowed (judge (bytes_of s b)) c.at made (here s n))))
      → P (on_element (identifier_at s c) bad good) (K (primitive 0x06 judge made (here s c)))
  unfolding identifier_at
  link_identifier wrong-is good g =
      link_expect s (λ e a. P (on_element e bad good) a) Err K strict c lies made 0x06 never
      (λ t. judged judge) _
      (λ b n d. go b n d (identifier_body (bytes_of s b)) (identifier_same (bytes_of s b)))
    where
      go : (b n : Cursor) → Stands s c 0x06 b n → (u : Bool) → u ≡ is_identifier (bytes_of s b)
          → P (on_element (if u then Ok (met 0x06 b n) else Err (record { number = 5; offset = c.at })) bad
          good) (K (allowed (judge (bytes_of s b)) c.at made (here s n)))
      go b n d true e = g b n d (sym e)
      go b n d false e = rw (wrong-is (bytes_of s b) (sym e)) (strict _)

  pub link_integer : ((x : List ℕ) → is_integer x ≡ false → judge x ≡ 5) → (good : ℕ → Cursor → A)
      → ((b n : Cursor) → Stands s c 0x02 b n → is_integer (bytes_of s b) ≡ true
      → P (good (number (bytes_of s b)) n) (K (allowed (judge (bytes_of s b)) c.at made (here s n))))
      → P (on_integer (integer_at s c) bad good) (K (primitive 0x02 judge made (here s c)))
  unfolding integer_at
  link_integer wrong-is good g =
      link_expect s (λ e a. P (on_integer e bad good) a) Err K strict c lies made 0x02 never
      (λ t. judged judge) _
      (λ b n d. go b n d (integer_body s b) (integer_same s b d.body.inside))
    where
      go : (b n : Cursor) → Stands s c 0x02 b n → (u : Bool) → u ≡ is_integer (bytes_of s b)
          → P (on_integer (if u then Ok (valued (integer_value s b) n) else Err
          (record { number = 5; offset = c.at })) bad good)
          (K (allowed (judge (bytes_of s b)) c.at made (here s n)))
      go b n d true e = rw (value_same s b d.body.inside (sym e)) (g b n d (sym e))
      go b n d false e = rw (wrong-is (bytes_of s b) (sym e)) (strict _)

-- a parent at its end
pub link_finish : (s : List ℕ) {A : Type 0} (P : A → Account → Type 0) (bad : Fault → A) (K : Account → Account)
    (strict : (f : Fault) → P (bad f) (K (stops f.number f.offset)))
    (e : Cursor) (lies : Lies s e) (made : Made) (after : Left) (good : ℕ → Cursor → A)
    → (e.end ≡ e.at → P (good 0 e) (K (goes made after)))
    → P (on_checked (finish_at e) bad good) (K (closed (goes made (here s e)) after))
unfolding finish_at
link_finish s P bad K strict e lies made after good g =
    either e.at e.end
    (λ h. rw (lt-ltb e.at e.end h, first_left s e.at e.end _ h lies.inside refl) (strict _))
    (λ h. rw (le-ltb e.at e.end h, none_left s e.at e.end h) (g (omega (arith, lies.order))))

-- a body that was gone through to its end
pub link_full : (s : List ℕ) (e : Cursor) (made : Made) (after : Left) → e.end ≡ e.at
    → closed (goes made (here s e)) after ≡ goes made after
link_full s e made after h = rw (none_left s e.at e.end (omega arith)) refl

-- an element that is refused by 7, at the parent's end, where it is missing
pub link_served : (s : List ℕ) {A : Type 0} (P : A → Account → Type 0) (bad : Fault → A) (K : Account → Account)
    (strict : (f : Fault) → P (bad f) (K (stops f.number f.offset)))
    (e : Cursor) (lies : Lies s e) (made : Made) (rule : Rule) (good : A)
    → (e.at < e.end → P good (K (rule made (here s e))))
    → P (if leb e.end e.at then bad (record { number = 7; offset = e.end }) else good)
    (K (served rule made (here s e)))
link_served s P bad K strict e lies made rule good g =
    either e.at e.end
    (λ h. rw (
      lt-leb e.end e.at h,
      some_chosen s e.at e.end (stops 7 e.at) (rule made (here s e)) h
          lies.inside,
    ) (g h))
    (λ h.
    let z : e.at ≡ e.end = omega (arith, lies.order) in
    rw (le-leb e.end e.at h, none_chosen s e.at e.end (stops 7 e.at) (rule made (here s e)) h)
    (rw z (strict _)))

-- the tag of an element that may be absent, as both test it
pub first_tag : (s : List ℕ) (c : Cursor) (t : ℕ) → Lies s c → eqb 0 t ≡ false → eqb (tag_at s c) t
    ≡ first_is t (bytes_of s c)
unfolding tag_at
first_tag s c t h e =
    either c.at c.end
    (λ k. rw (left_is s c k h.inside, first_left s c.at c.end _ k h.inside refl) refl)
    (λ k. rw (left_none s c k, none_left s c.at c.end k) e)
