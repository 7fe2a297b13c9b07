-- The four outcomes of writing, by what measuring the table returned.
use mathlib.Core.Path.{◌≡◌, refl, sym, ap, ◌∙◌}
use mathlib.Core.Bool.{Bool, true, false}
use mathlib.Core.List.{List}
use mathlib.Core.Option.{Option, some}
use mathlib.Core.Option as option
use Prim.Native.Nat.{ℕ, ◌≤◌, ◌<◌}
use native.Mathlib.Omega.{arith}
use lib.Dec.{eqb}
use lib.ListN.{length}
use borrow.Author.Tests.{lt-ltb, le-ltb}
use Rattle.std.specs.Prelude.{if◌then◌else◌}
use Rattle.buffer.specs.Numbers.{file_bytes, too_long, short_buffer, not_sound}
use Rattle.pkcs12.specs.Syntax.{Pfx}
use Rattle.pkcs12.specs.Encode.{encode}
use Rattle.pkcs12.specs.Checks.{keeps_rules}
use Rattle.pkcs12.specs.Table.{reading_of}
use Rattle.pkcs12.specs.Written.{written_as, file_of, on_file, write_file}
use Rattle.buffer.specs.Written.{Outcome, refusal, success}
use Rattle.pkcs12.specs.declared.table.Table.{Table}
use Rattle.std.specs.Prelude.{None, Ok, Option as Maybe, Some}
use Rattle.sizes.specs.Picked.{safes_picked}
use Rattle.encode.specs.Sizes.{capped}
use Rattle.encode.proofs.Capped.{capped_told, by_size}
use Rattle.sizes.proofs.Reading.{CountsFit, reading_law}
use Rattle.sound.specs.Measured.{measured}
use Rattle.sound.proofs.Whole.{Arrays, fits}
use Rattle.buffer.specs.declared.write.Out.{Out}
use Rattle.writer.specs.Rows.{reading_at}
use Rattle.writer.specs.Wrote.{WroteShort}
use Rattle.writer.proofs.Puts.{whole_put}

some_same : {A : Type 0} (x y : A) → some x ≡ some y → x ≡ y
some_same x y e = cc

-- if a choice by tests returns a reading, it is the one behind them
behind : (a b c : Bool) (x y : Pfx) → (if a then (if b then (if c then some x else option.none) else option.none) else option.none) ≡ some y → x ≡ y
behind true true true x y e = some_same x y e
behind true true false x y e = cc
behind true false c x y e = cc
behind false b c x y e = cc

reading_is : (t : Table) (s : List ℕ) → CountsFit t → (x : Pfx) → reading_of t s ≡ some x → x ≡ reading_at t s
unfolding reading_at
reading_is t s f x e =
    sym (behind (eqb (safes_picked t s 0 0 0).safe t.safe_count)
    (eqb (safes_picked t s 0 0 0).bag t.bag_count)
    (eqb (safes_picked t s 0 0 0).attribute t.attribute_count) _ x
    (sym (reading_law t s f) ∙ e))

-- the file of a table is what is written
written_is : (o : Option Pfx) (f : List ℕ) → written_as o ≡ some f → (x : Pfx) × (o ≡ some x) × (encode x ≡ f)
written_is option.none f e = (let z : ◌≡◌ {A = ℕ} 0 1 = cc in absurd (omega arith))
written_is (some x) f e = (x, refl, some_same (encode x) f e)

file_at : (t : Table) (s f : List ℕ) → Arrays t → file_of t s ≡ some f → encode (reading_at t s) ≡ f
unfolding file_of
file_at t s f a e = go (keeps_rules t s) refl e
  where
    go : (u : Bool) → keeps_rules t s ≡ u → (if u then written_as (reading_of t s) else option.none) ≡ some f → encode (reading_at t s) ≡ f
    go true k h =
        let w = written_is (reading_of t s) f h in
        ap encode (sym (reading_is t s (fits t s a k) w.0 w.1)) ∙ w.2
    go false k h = cc

-- what measuring shows of the file
abbrev Tells : Maybe ℕ → Option (List ℕ) → Type 0
Tells None option.none = Unit {0}
Tells None (some f) = ⊥
Tells (Some n) option.none = ⊥
Tells (Some n) (some f) = n ≡ capped (length f)

size_same : (n m : ℕ) → Some n ≡ Some m → n ≡ m
size_same n m e = cc

tells : (r : Maybe ℕ) (o : Option (List ℕ)) → r ≡ on_file o None (λ f. Some (capped (length f))) → Tells r o
tells None option.none e = tt
tells None (some f) e = (let z : ◌≡◌ {A = ℕ} 0 1 = cc in absurd (omega arith))
tells (Some n) option.none e = (let z : ◌≡◌ {A = ℕ} 0 1 = cc in absurd (omega arith))
tells (Some n) (some f) e = size_same n (capped (length f)) e

module _ (t : Table) (s buffer : List ℕ) (r : Maybe ℕ) (p : r ≡ measured t s) where
  no_file : r ≡ None → file_of t s ≡ option.none
  unfolding measured
  no_file e = go (file_of t s) (tells None (file_of t s) (sym e ∙ p))
    where
      go : (o : Option (List ℕ)) → Tells None o → o ≡ option.none
      go option.none h = refl
      go (some f) h = absurd h

  a_file : (n : ℕ) → r ≡ Some n → (f : List ℕ) × (file_of t s ≡ some f) × (n ≡ capped (length f))
  unfolding measured
  a_file n e = go (file_of t s) (tells (Some n) (file_of t s) (sym e ∙ p))
    where
      go : (o : Option (List ℕ)) → Tells (Some n) o → (f : List ℕ) × (o ≡ some f) × (n ≡ capped (length f))
      go option.none h = absurd h
      go (some f) h = (f, refl, h)

  pub refused_unsound : r ≡ None → write_file t s buffer ≡ refusal not_sound buffer
  unfolding write_file
  refused_unsound e = rw (no_file e) refl

  module _ (n : ℕ) (e : r ≡ Some n) where
    pub refused_long : file_bytes < n → write_file t s buffer ≡ refusal too_long buffer
    unfolding write_file
    refused_long h =
        let a = a_file n e in
        let k : file_bytes < length a.0 = by_size (length a.0) (λ l q. absurd (omega (arith, h, l, q, a.2))) (λ l q. l) in
        rw (a.1, lt-ltb file_bytes (length a.0) k) refl

    module _ (h : n ≤ file_bytes) where
      size_is : length (a_file n e).0 ≡ n
      size_is = let a = a_file n e in sym (a.2 ∙ capped_told (length a.0) (omega (arith, h, a.2)))

      pub refused_short : length buffer < n → write_file t s buffer ≡ refusal short_buffer buffer
      unfolding write_file
      refused_short k =
          let a = a_file n e in
          rw (a.1, le-ltb file_bytes (length a.0) (omega (arith, h, size_is)), lt-ltb (length buffer) (length a.0) (omega (arith, k, size_is))) refl

      module _ (k : n ≤ length buffer) where
        written : write_file t s buffer ≡ success (a_file n e).0 buffer
        unfolding write_file
        written =
            let a = a_file n e in
            rw (a.1, le-ltb file_bytes (length a.0) (omega (arith, h, size_is)), le-ltb (length buffer) (length a.0) (omega (arith, k, size_is))) refl

        pub written_answer : Ok n ≡ (write_file t s buffer).answer
        written_answer = ap Ok (sym size_is) ∙ sym (ap (λ (o : Outcome). o.answer) written)

        -- what `to` leaves is what the caller's buffer is afterwards
        pub written_buffer : Arrays t → {q y : Out} {z : List ℕ} → WroteShort q (encode (reading_at t s)) y → q.buffer.now ≡ buffer → q.at ≡ 0
            → z ≡ y.buffer.now → z ≡ (write_file t s buffer).buffer
        written_buffer a w b c d =
            let f : List ℕ = (a_file n e).0 in
            d ∙ whole_put (rw (file_at t s f a (a_file n e).1) at w) b c (omega (arith, k, size_is)) (omega (arith, h, size_is))
            ∙ sym (ap (λ (o : Outcome). o.buffer) written)
