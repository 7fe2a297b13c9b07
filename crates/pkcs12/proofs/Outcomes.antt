-- The answers of writing, and what is true exactly if each is returned.
use mathlib.Core.Bool.{Bool, true, false}
use mathlib.Core.Logic.{◌↔◌}
use mathlib.Core.Path.{◌≡◌, refl, ap}
use mathlib.Core.List.{List, ◌++◌}
use mathlib.Core.Option.{Option, some}
use mathlib.Core.Option as option
use Prim.Native.Nat.{ℕ, ◌+◌, ◌≤◌, ◌<◌}
use native.Mathlib.Omega.{arith}
use lib.ListN.{length, drop}
use Rattle.der.specs.Element.{fault}
use Rattle.der.specs.Span.{Bytes}
use Rattle.der.specs.declared.Fault.{Fault}
use Rattle.der.proofs.Choices.{by_lt}
use Rattle.buffer.specs.Numbers.{file_bytes, too_long, short_buffer, not_sound}
use Rattle.pkcs12.specs.Encode.{encode}
use Rattle.pkcs12.specs.Table.{reading_of}
use Rattle.pkcs12.specs.Accepted.{IsAccepted, reading_from}
use Rattle.pkcs12.specs.Sound.{Sound}
use Rattle.pkcs12.specs.Written.{file_of, write_file}
use Rattle.buffer.specs.Written.{Outcome, refusal, success}
use Rattle.pkcs12.specs.declared.table.Table.{Table}
use Rattle.std.specs.Prelude.{Err, Ok, Result}
use Rattle.pkcs12.proofs.Checked.{sound_file, file_iff_sound, no_file_iff}
use Rattle.pkcs12.proofs.Writing.{written_is_read}
use Rattle.pkcs12.proofs.Delivered.{writes_none, writes_long, writes_short, writes_file}

-- an answer by number: a length is 0, a refusal one more than its number
abbrev code : Result ℕ Fault → ℕ
code (Ok n) = 0
code (Err f) = 1 + f.number

module _ (t : Table) (s buffer : List ℕ) where
  -- what holds of each outcome, with the facts that lead to it, holds of the one that writing has
  by_outcome : (P : Outcome → Type 0)
      → (file_of t s ≡ option.none → P (refusal not_sound buffer))
      → ((f : List ℕ) → file_of t s ≡ some f → file_bytes < length f → P (refusal too_long buffer))
      → ((f : List ℕ) → file_of t s ≡ some f → length f ≤ file_bytes → length buffer < length f
      → P (refusal short_buffer buffer))
      → ((f : List ℕ) → file_of t s ≡ some f → length f ≤ file_bytes → length f ≤ length buffer → P (success f buffer))
      → P (write_file t s buffer)
  by_outcome P unsound long short good = go (file_of t s) refl
    where
      go : (u : Option (List ℕ)) → file_of t s ≡ u → P (write_file t s buffer)
      go option.none h = rw (writes_none t s buffer h) (unsound h)
      go (some f) h =
          by_lt (λ (c : Bool). P (write_file t s buffer)) true false file_bytes (length f)
          (λ a. rw (writes_long t s buffer f h a) (long f h a))
          (λ a. by_lt (λ (c : Bool). P (write_file t s buffer)) true false (length buffer) (length f)
          (λ b. rw (writes_short t s buffer f h a b) (short f h a b))
          (λ b. rw (writes_file t s buffer f h a b) (good f h a b)))

  -- a length: the file is at the front of the buffer, is accepted, and shows the table's reading
  abbrev Begins : List ℕ → ℕ → Type 0
  Begins after n =
      (f : List ℕ) × (length f ≡ n) × (after ≡ f ++ drop n buffer) × IsAccepted f × (reading_from f ≡ reading_of t s)

  pub written_file : Bytes s → (n : ℕ) → (write_file t s buffer).answer ≡ Ok n
      → Begins (write_file t s buffer).buffer n
  written_file b n =
      by_outcome (λ w. w.answer ≡ Ok n → Begins w.buffer n)
      (λ h e. absurd (omega (arith, ap code e))) (λ f h k e. absurd (omega (arith, ap code e)))
      (λ f h k m e. absurd (omega (arith, ap code e)))
      (λ f h k m e.
      let o = (file_iff_sound t s b f).0 h in
      let a = written_is_read t s b o.0 (rw o.1 k) in
      let l : length f ≡ n = cc in
      (f, l, rw l refl, rw (← o.1) a.0, rw (← o.1) a.1))

  -- a refusal: the buffer is as before
  pub refused_buffer : (fault : Fault) → (write_file t s buffer).answer ≡ Err fault
      → (write_file t s buffer).buffer ≡ buffer
  refused_buffer fault =
      by_outcome (λ w. w.answer ≡ Err fault → w.buffer ≡ buffer)
      (λ h e. refl) (λ f h k e. refl) (λ f h k m e. refl) (λ f h k m e. absurd (omega (arith, ap code e)))

  -- a refusal by number n: the facts that lead to it
  by_number : {A : Type 0} (n : ℕ)
      → (n ≡ not_sound → file_of t s ≡ option.none → A)
      → ((f : List ℕ) → n ≡ too_long → file_of t s ≡ some f → file_bytes < length f → A)
      → ((f : List ℕ) → n ≡ short_buffer → file_of t s ≡ some f → length f ≤ file_bytes → length buffer < length f → A)
      → (write_file t s buffer).answer ≡ Err (fault n 0) → A
  by_number {A} n unsound long short =
      by_outcome (λ w. w.answer ≡ Err (fault n 0) → A)
      (λ h e. unsound (omega (arith, ap code e)) h) (λ f h k e. long f (omega (arith, ap code e)) h k)
      (λ f h k m e. short f (omega (arith, ap code e)) h k m) (λ f h k m e. absurd (omega (arith, ap code e)))

  module _ (bytes : Bytes s) where
    -- 11 exactly if the table is not sound
    pub refused_11_iff : (write_file t s buffer).answer ≡ Err (fault not_sound 0) ↔ (Sound t s → ⊥)
    refused_11_iff = (
      λ e. (no_file_iff t s bytes).0
          (by_number not_sound (λ n h. h) (λ f n. absurd (omega arith)) (λ f n. absurd (omega arith)) e),
      λ h. rw (writes_none t s buffer ((no_file_iff t s bytes).1 h)),
    )

    -- 9 exactly if it is, and its file is too long
    pub refused_9_iff : (write_file t s buffer).answer ≡ Err (fault too_long 0)
        ↔ ((o : Sound t s) × (file_bytes < length (encode o.reading)))
    refused_9_iff = (
      by_number too_long (λ n h. absurd (omega arith))
          (λ f n h a. let o = (file_iff_sound t s bytes f).0 h in (o.0, rw o.1 a)) (λ f n. absurd (omega arith)),
      λ q. rw (writes_long t s buffer _ (sound_file t s bytes q.0) q.1),
    )

    -- 10 exactly if it is, its file is not too long, and the buffer is shorter
    pub refused_10_iff : (write_file t s buffer).answer ≡ Err (fault short_buffer 0)
        ↔ ((o : Sound t s) × (length (encode o.reading) ≤ file_bytes)
        × (length buffer < length (encode o.reading)))
    refused_10_iff = (
      by_number short_buffer (λ n h. absurd (omega arith)) (λ f n. absurd (omega arith))
          (λ f n h a b. let o = (file_iff_sound t s bytes f).0 h in (o.0, rw o.1 a, rw o.1 b)),
      λ q. rw (writes_short t s buffer _ (sound_file t s bytes q.0) q.1 q.2),
    )
