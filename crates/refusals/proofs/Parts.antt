-- Parts that make no row: the walk's productions beside the account's.
use mathlib.Core.Bool.{Bool, true, false}
use mathlib.Core.Path.{◌≡◌, refl}
use mathlib.Core.List.{List}
use Prim.Native.Nat.{ℕ}
use native.Mathlib.Omega.{arith}
use lib.Dec.{eqb}
use borrow.Author.Tests.{lt-ltb, le-ltb}
use Rattle.std.specs.Prelude.{if◌then◌else◌}
use Rattle.der.specs.Element.{expect_at, on_element}
use Rattle.der.specs.Content.{bytes_of}
use Rattle.der.specs.Octets.{number}
use Rattle.der.specs.Opaque.{on_checked, opaque_at}
use Rattle.der.specs.declared.Cursor.{Cursor}
use Rattle.der.specs.declared.Checked.{Checked}
use Rattle.der.specs.declared.Element.{Element}
use Rattle.der.specs.declared.Fault.{Fault}
use Rattle.pkcs12.specs.Table.{parsed}
use Rattle.pkcs12.specs.declared.answers.Parsed.{Parsed}
use Rattle.pkcs12.specs.declared.row.Parts.{Parts}
use Rattle.std.specs.Prelude.{Err, Ok, Result}
use Rattle.der.proofs.Choices.{either}
use Rattle.range.specs.Bytes.{same_bytes}
use Rattle.pkcs12.specs.Identifiers.{x509_certificate}
use Rattle.pkcs12.specs.Identifiers as identifiers
use Rattle.range.specs.Range.{range, no_range}
use Rattle.pkcs12.specs.Table.{parts}
use Rattle.pkcs12.specs.Walk.{algorithm_at, sealed_at, key_at, value_at, typed_at, encrypted_info_at, encrypted_at}
use Rattle.refusals.specs.Element.{Made, Account, goes, closed, allowed, onwards, ◌before◌, front_body, if_any}
use Rattle.refusals.specs.Element.{served, is, any, anything, primitive, constructed, opaque}
use Rattle.refusals.specs.Bodies.{is_identifier, is_integer, any_type, data_type, encrypted_version}
use Rattle.refusals.specs.Grammar.{algorithm, sealed, value_tag, typed, encrypted_info, encrypted_data}
use Rattle.refusals.proofs.Headers.{Lies, some_chosen, none_chosen}
use Rattle.refusals.proofs.Links.{here, Past, link_test, link_expect, link_identifier, link_integer}
use Rattle.refusals.proofs.Links.{link_finish, link_full, link_served}
use Rattle.refusals.proofs.Agree.{Agree, checked_out, parts_out, by_checked, by_parts}
use Rattle.refusals.proofs.Opaque.{opaque_agrees, due_agrees}

-- ---- what is judged of a body that keeps the rule, and of one that doesn't

module _ (x : List ℕ) where
  pub any_type_lem : is_identifier x ≡ true → any_type x ≡ 0
  unfolding any_type
  any_type_lem e = rw e refl

  pub no_type : is_identifier x ≡ false → any_type x ≡ 5
  unfolding any_type
  no_type e = rw e refl

  data_type_lem : is_identifier x ≡ true → data_type x ≡ (if same_bytes x identifiers.data_type then 0 else 5)
  unfolding data_type identifiers.data_type
  data_type_lem e = rw e refl

  no_data : is_identifier x ≡ false → data_type x ≡ 5
  unfolding data_type
  no_data e = rw e refl

  version_is : is_integer x ≡ true → encrypted_version x
      ≡ (if eqb (number x) 2 then 7 else (if eqb (number x) 0 then 0 else 5))
  unfolding encrypted_version
  version_is e = rw e refl

  no_version : is_integer x ≡ false → encrypted_version x ≡ 5
  unfolding encrypted_version
  no_version e = rw e refl

module _ (s : List ℕ) (made : Made) where
  pub algorithm_agrees : (c : Cursor) → Lies s c → Agree s (Past s c) (parts_out made (algorithm_at s c))
      (algorithm made (here s c))
  unfolding algorithm_at algorithm
  algorithm_agrees c h =
      link_expect s Good Err (λ a. a) (λ f. refl) c h made 0x30 _ _ _
      (λ b n d.
      link_identifier s Good Err (λ a. closed (onwards a (if_any (opaque any 16))) (here s n)) (λ f. refl)
      b d.body made any_type no_type _
      (λ i m e v.
      rw (any_type_lem (bytes_of s i) v)
      (either m.at m.end
      (λ k.
      rw (
        lt-ltb m.at m.end k,
        some_chosen s m.at m.end (goes made (here s m))
            (opaque any 16 made (here s m)) k e.past.lies.inside,
      )
      (by_checked s Good Err (λ a. closed a (here s n)) (λ f. refl) (Past s m) made _ (opaque_at 16 s m) _
      (opaque_agrees s made 16 m e.past.lies)
      (λ j g p. link_finish s Good Err (λ a. a) (λ f. refl) g p.lies made (here s n) _
      (λ z. (refl, d.past)))))
      (λ k.
      rw (
        le-ltb m.at m.end k,
        none_chosen s m.at m.end (goes made (here s m))
            (opaque any 16 made (here s m)) k,
      )
      (link_full s m made (here s n) (omega (arith, e.past.lies.order)), d.past)))))
    where
      Good : Result (Parsed Parts) Fault → Account → Type 0
      Good x a = Agree s (Past s c) (parts_out made x) a

  pub sealed_agrees : (c : Cursor) → Lies s c → Agree s (Past s c) (parts_out made (sealed_at s c))
      (sealed made (here s c))
  unfolding sealed_at sealed
  sealed_agrees c h =
      link_expect s Good Err (λ a. a) (λ f. refl) c h made 0x30 _ _ _
      (λ b n d.
      by_parts s Good Err (λ a. closed (onwards a (primitive 0x04 anything)) (here s n)) (λ f. refl)
      (Past s b) made _ (algorithm_at s b) _
      (algorithm_agrees b d.body)
      (λ p k m q.
      link_expect s Good Err (λ a. closed a (here s n)) (λ f. refl) m q.lies made 0x04 _ _ _
      (λ o e g. link_finish s Good Err (λ a. a) (λ f. refl) e g.past.lies made (here s n) _
      (λ z. (refl, d.past)))))
    where
      Good : Result (Parsed Parts) Fault → Account → Type 0
      Good x a = Agree s (Past s c) (parts_out made x) a

  -- a key: its tag, then the whole element
  pub key_agrees : (c : Cursor) → Lies s c → Agree s (Past s c) (parts_out made (key_at s c))
      (opaque (is 0x30) 16 made (here s c))
  unfolding key_at
  key_agrees c h = go (expect_at 0x30 s c) (opaque_at 16 s c) (due_agrees s made 15 0x30 c h)
    where
      go : (x : Result Element Fault) (y : Result Checked Fault)
          → Agree s (Past s c) (checked_out made (on_element x Err (λ t b n. y)))
          (opaque (is 0x30) 16 made (here s c))
          → Agree s (Past s c)
          (parts_out made (on_element x Err (λ t b n. on_checked y Err
          (λ k e. Ok (parsed (parts no_range no_range (range c.at e.at)) k e)))))
          (opaque (is 0x30) 16 made (here s c))
      go (Err f) y q = q
      go (Ok x) (Err f) q = q
      go (Ok x) (Ok y) q = q

  -- a value, where an OCTET STRING may be due
  value_agrees : (due : Bool) (c : Cursor) → Lies s c → Agree s (Past s c) (checked_out made (value_at due s c))
      (opaque (if due then is 0x04 else any) 16 made (here s c))
  unfolding value_at
  value_agrees true c h = due_agrees s made 15 0x04 c h
  value_agrees false c h = opaque_agrees s made 16 c h

  tag_is : (is-certificate : Bool) (x : List ℕ) → value_tag is-certificate x
      ≡ (if (if is-certificate then same_bytes x x509_certificate else false) then is 0x04 else any)
  unfolding x509_certificate
  tag_is true x = refl
  tag_is false x = refl

  pub typed_agrees : (is-certificate : Bool) (c : Cursor) → Lies s c
      → Agree s (Past s c) (parts_out made (typed_at is-certificate s c)) (typed is-certificate made (here s c))
  unfolding typed_at typed
  typed_agrees w c h =
      link_expect s Good Err (λ a. a) (λ f. refl) c h made 0x30 _ _ _
      (λ b n d.
      link_identifier s Good Err
      (λ a. closed (onwards a (constructed 0xA0 (opaque (value_tag w (front_body (bytes_of s b))) 16))) (here s n))
      (λ f. refl) b d.body made any_type no_type _
      (λ i m e v.
      rw (any_type_lem (bytes_of s i) v, e.front)
      (link_expect s Good Err (λ a. closed a (here s n)) (λ f. refl) m e.past.lies made 0xA0 _ _ _
      (λ o g u.
      rw (tag_is w (bytes_of s i))
      (by_checked s Good Err (λ a. closed (closed a (here s g)) (here s n)) (λ f. refl) (Past s o) made _
      (value_at (if w then same_bytes (bytes_of s i) x509_certificate else false) s o) _
      (value_agrees (if w then same_bytes (bytes_of s i) x509_certificate else false) o u.body)
      (λ k f p.
      link_finish s Good Err (λ a. closed a (here s n)) (λ f. refl) f p.lies made (here s g) _
      (λ z. link_finish s Good Err (λ a. a) (λ f. refl) g u.past.lies made (here s n) _
      (λ y. (refl, d.past)))))))))
    where
      Good : Result (Parsed Parts) Fault → Account → Type 0
      Good x a = Agree s (Past s c) (parts_out made x) a

  pub info_agrees : (c : Cursor) → Lies s c → Agree s (Past s c) (parts_out made (encrypted_info_at s c))
      (encrypted_info made (here s c))
  unfolding encrypted_info_at encrypted_info
  info_agrees c h =
      link_expect s Good Err (λ a. a) (λ f. refl) c h made 0x30 _ _ _
      (λ b n d.
      link_identifier s Good Err (λ a. closed
      (onwards a (algorithm before served (primitive 0x80 anything))) (here s n)) (λ f. refl)
      b d.body made data_type no_data _
      (λ i m e v.
      rw (data_type_lem (bytes_of s i) v)
      (link_test Good (λ x. x) (λ k. closed (onwards (allowed k b.at made (here s m))
      (algorithm before served (primitive 0x80 anything))) (here s n))
      (same_bytes (bytes_of s i) identifiers.data_type) _ _ _ _
      (λ u.
      by_parts s Good Err (λ a. closed (onwards a (served (primitive 0x80 anything))) (here s n))
      (λ f. refl) (Past s m) made _ (algorithm_at s m) _
      (algorithm_agrees m e.past.lies)
      (λ p k g q.
      link_served s Good Err (λ a. closed a (here s n)) (λ f. refl) g q.lies made
      (primitive 0x80 anything) _
      (λ l.
      link_expect s Good Err (λ a. closed a (here s n)) (λ f. refl) g q.lies made 0x80 _ _ _
      (λ o f w. link_finish s Good Err (λ a. a) (λ f. refl) f w.past.lies made (here s n) _
      (λ z. (refl, d.past))))))
      (λ u. refl))))
    where
      Good : Result (Parsed Parts) Fault → Account → Type 0
      Good x a = Agree s (Past s c) (parts_out made x) a

  pub encrypted_agrees : (c : Cursor) → Lies s c → Agree s (Past s c) (parts_out made (encrypted_at s c))
      (encrypted_data made (here s c))
  unfolding encrypted_at encrypted_data
  encrypted_agrees c h =
      link_expect s Good Err (λ a. a) (λ f. refl) c h made 0x30 _ _ _
      (λ b n d.
      link_integer s Good Err (λ a. closed (onwards a encrypted_info) (here s n)) (λ f. refl) b d.body
      made encrypted_version no_version _
      (λ i m e v.
      rw (version_is (bytes_of s i) v)
      (link_test Good (λ x. x) (λ k. closed (onwards (allowed k b.at made (here s m)) encrypted_info) (here s n))
      (eqb (number (bytes_of s i)) 2) _ _ _ _
      (λ u. refl)
      (λ u.
      link_test Good (λ x. x) (λ k. closed (onwards (allowed k b.at made (here s m)) encrypted_info) (here s n))
      (eqb (number (bytes_of s i)) 0) _ _ _ _
      (λ w.
      by_parts s Good Err (λ a. closed a (here s n)) (λ f. refl) (Past s m) made _ (encrypted_info_at s m) _
      (info_agrees m e.past.lies)
      (λ p k g q. link_finish s Good Err (λ a. a) (λ f. refl) g q.lies made (here s n) _
      (λ z. (refl, d.past))))
      (λ w. refl)))))
    where
      Good : Result (Parsed Parts) Fault → Account → Type 0
      Good x a = Agree s (Past s c) (parts_out made x) a
