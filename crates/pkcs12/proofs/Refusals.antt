-- A refused reading has the empty table.
use mathlib.Core.Path.{◌≡◌, refl}
use mathlib.Core.List.{List}
use Prim.Native.Nat.{ℕ}
use lib.Dec.{leb, ltb, eqb}
use lib.ListN.{length}
use Rattle.der.specs.Element.{whole_of, finish_at, expect_at}
use Rattle.der.specs.Content.{integer_at, on_integer}
use Rattle.der.specs.Opaque.{on_checked}
use Rattle.der.specs.declared.Fault.{Fault}
use Rattle.der.specs.declared.Cursor.{Cursor}
use Rattle.der.specs.declared.Checked.{Checked}
use Rattle.der.specs.declared.Integer.{Integer}
use Rattle.pkcs12.specs.declared.answers.Parsed.{Parsed}
use Rattle.std.specs.Prelude.{Err, Ok, Result, ⊤}
use Rattle.der.proofs.Choices.{by_test}
use Rattle.der.proofs.Placed.{by_element}
use Rattle.der.proofs.Opaque.{by_checked}
use Rattle.buffer.specs.Numbers.{file_bytes}
use Rattle.der.specs.Numbers.{sequence_tag}
use Rattle.pkcs12.specs.Numbers.{pfx_version}
use Rattle.pkcs12.specs.Table.{Rows, empty_table}
use Rattle.pkcs12.specs.Walk.{Walked, Refused, Went, on_walked, on_mac, outer_at, mac_at, body_at, refused, on_answer}
use Rattle.pkcs12.specs.Walk.{alone, pfx_at, read_file}
use Rattle.pkcs12.specs.declared.row.Mac.{Mac}
use Rattle.pkcs12.specs.declared.table.Table.{Table}
use Rattle.pkcs12.specs.declared.answers.Reading.{Reading}

abbrev Empty : Result ⊤ Fault → Table → Type 0
Empty (Err f) t = t ≡ empty_table
Empty (Ok tt) t = Unit {0}

abbrev OfRefused : Reading → Type 0
OfRefused r = Empty r.answer r.table

-- what holds of a refusal and of an answer, whatever it is, holds of what is made of them
module _ (P : Reading → Type 0) (refusal : (f : Fault) → P (refused f)) where
  any_walked : (good : Rows → Cursor → Reading) → ((st : Rows) (n : Cursor) → P (good st n)) → (x : Walked) → P (on_walked x refused good)
  any_walked good g (Refused f) = refusal f
  any_walked good g (Went st n) = g st n

  any_mac : (good : Mac → ℕ → Cursor → Reading) → ((x : Mac) (m : ℕ) (n : Cursor) → P (good x m n)) → (x : Result (Parsed Mac) Fault) → P (on_mac x refused good)
  any_mac good g (Err f) = refusal f
  any_mac good g (Ok y) = g y.value y.count y.next

  any_integer : (good : ℕ → Cursor → Reading) → ((v : ℕ) (n : Cursor) → P (good v n)) → (x : Result Integer Fault) → P (on_integer x refused good)
  any_integer good g (Err f) = refusal f
  any_integer good g (Ok x) = g x.value x.next

  any_checked : (good : ℕ → Cursor → Reading) → ((m : ℕ) (n : Cursor) → P (good m n)) → (x : Result Checked Fault) → P (on_checked x refused good)
  any_checked good g x = by_checked P (λ y. Unit {0}) refused good refusal (λ m n u. g m n) x tt

body_refused : (s : List ℕ) (c : Cursor) → OfRefused (body_at s c)
unfolding body_at
body_refused s c =
    any_walked OfRefused (λ f. refl) _
    (λ st e.
    by_test OfRefused _ _ (leb e.end e.at) (λ h. refl)
    (λ h. any_mac OfRefused (λ f. refl) _ (λ x k f. any_checked OfRefused (λ f. refl) _ (λ m n. tt) (finish_at f)) (mac_at s e)))
    (outer_at s c)

alone_refused : (n : Cursor) (r : Reading) → OfRefused r → OfRefused (alone n r)
alone_refused n r q = go r.answer
  where
    go : (x : Result ⊤ Fault) → OfRefused (on_answer x refused (on_checked (finish_at n) refused (λ z g. r)))
    go (Err f) = refl
    go (Ok tt) = any_checked OfRefused (λ f. refl) (λ z g. r) (λ m n. q) (finish_at n)

read_refused : (s : List ℕ) → OfRefused (read_file s)
unfolding read_file pfx_at
read_refused s =
    by_test OfRefused _ _ (ltb file_bytes (length s)) (λ h. refl)
    (λ h.
    by_element OfRefused (λ x. Unit {0}) _ _ (λ f. refl)
    (λ t b n u.
    any_integer OfRefused (λ f. refl) _
    (λ v m. by_test OfRefused _ _ (eqb v pfx_version) (λ e. alone_refused n (body_at s m) (body_refused s m)) (λ e. refl))
    (integer_at s b))
    (expect_at sequence_tag s (whole_of s)) tt)

pub refused_empty : (s : List ℕ) (f : Fault) → (read_file s).answer ≡ Err f → (read_file s).table ≡ empty_table
refused_empty s f e = rw e at (read_refused s)
