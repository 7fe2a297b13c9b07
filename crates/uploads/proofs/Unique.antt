-- What is due is one status and one answer.
use mathlib.Core.Path.{◌≡◌, refl, sym, ◌∙◌}
use mathlib.Core.List.{List}
use mathlib.Core.Option.{Option, some}
use Prim.Native.Nat.{ℕ, ◌≤◌}
use native.Mathlib.Omega.{arith}
use lib.ListN.{length, take}
use lib.Seq.{length-take-le}
use Rattle.std.specs.Prelude.{Err, Result, ⊤}
use Rattle.der.specs.Span.{Bytes}
use Rattle.der.specs.declared.Fault.{Fault}
use Rattle.der.proofs.Choices.{either}
use Rattle.der.proofs.Spans.{bytes_take}
use Rattle.stream.specs.Upload.{refusal}
use Rattle.stream.specs.declared.Counts.{Counts}
use Rattle.stream.specs.declared.Refusal.{Refusal}
use Rattle.uploads.specs.Whole.{Tally, Refused, Passed, whole}
use Rattle.uploads.specs.Certain.{Certain}
use Rattle.uploads.specs.Judged.{FirstFault, NoneCertain, StatusIs, faulty, beyond, fine}
use Rattle.uploads.specs.Judged.{EndIs, ends_faulty, ends_beyond, ends_short, ends_whole, answer_of}
use Rattle.uploads.proofs.Certain.{certain_certainly}
use Rattle.uploads.proofs.Ends.{end_whole_is}

-- one fault is certain
pub one_certain : (n : ℕ) (p : List ℕ) (f g : Fault) → Bytes p → length p ≤ n → Certain n p f → Certain n p g → f ≡ g
one_certain n p f g h l c d = of_some (sym (certain_certainly n p f h l c) ∙ certain_certainly n p g h l d)
  where
    of_some : ◌≡◌ {A = Option Fault} (some f) (some g) → f ≡ g
    of_some e = cc

pub record Same (f g : Fault) (k j : ℕ) : Type 0 where
  pub fault : f ≡ g
  pub bytes : k ≡ j

same_first : (n : ℕ) (b : List ℕ) (f g : Fault) (k j : ℕ) → Bytes b → FirstFault n b f k → FirstFault n b g j
    → Same f g k j
same_first n b f g k j h v w =
    let z : k ≡ j =
    either k j
    (λ l. absurd (w.first k f l v.certain))
    (λ l. either j k (λ i. absurd (v.first j g i w.certain)) (λ i. omega arith)) in
    let l : length (take j b) ≤ n = omega (arith, length-take-le j b w.here, w.within) in
    record {
      fault = one_certain n (take j b) f g (bytes_take b j h) l (rw z at v.certain) w.certain;
      bytes = z;
    }

first_none : {A : Type 0} (n : ℕ) (b : List ℕ) (f : Fault) (k : ℕ) → FirstFault n b f k → NoneCertain n b → A
unfolding NoneCertain
first_none n b f k v c = absurd (c k f v.within v.here v.certain)

pub status_one : (n : ℕ) (b : List ℕ) (s t : Result ⊤ Refusal) → Bytes b → StatusIs n b s → StatusIs n b t → s ≡ t
status_one n b s t h (faulty f k v) (faulty g j w) =
    let e = same_first n b f g k j h v w in
    rw (e.fault, e.bytes)
status_one n b s t h (faulty f k v) (beyond l c) = first_none n b f k v c
status_one n b s t h (faulty f k v) (fine l c) = first_none n b f k v c
status_one n b s t h (beyond l c) (faulty g j w) = first_none n b g j w c
status_one n b s t h (beyond l c) (beyond m d) = refl
status_one n b s t h (beyond l c) (fine m d) = absurd (omega arith)
status_one n b s t h (fine l c) (faulty g j w) = first_none n b g j w c
status_one n b s t h (fine l c) (beyond m d) = absurd (omega arith)
status_one n b s t h (fine l c) (fine m d) = refl

-- a whole that passes has no fault
passed_first : {A : Type 0} (n : ℕ) (b : List ℕ) (f : Fault) (k : ℕ) (tl : Tally) → Bytes b → length b ≡ n
    → FirstFault n b f k → whole b ≡ Passed tl → A
unfolding answer_of
passed_first n b f k tl h l v p =
    let e : Refused f ≡ whole b = end_whole_is n b (Err (refusal f k)) h l (ends_faulty f k v) in
    let z : ◌≡◌ {A = ℕ} 0 1 = cc in
    absurd (omega arith)

pub end_one : (n : ℕ) (b : List ℕ) (s t : Result Counts Refusal) → Bytes b → EndIs n b s → EndIs n b t → s ≡ t
end_one n b s t h (ends_faulty f k v) (ends_faulty g j w) =
    let e = same_first n b f g k j h v w in
    rw (e.fault, e.bytes)
end_one n b s t h (ends_faulty f k v) (ends_beyond l c) = first_none n b f k v c
end_one n b s t h (ends_faulty f k v) (ends_short l c) = first_none n b f k v c
end_one n b s t h (ends_faulty f k v) (ends_whole tl l p) = passed_first n b f k tl h l v p
end_one n b s t h (ends_beyond l c) (ends_faulty g j w) = first_none n b g j w c
end_one n b s t h (ends_beyond l c) (ends_beyond m d) = refl
end_one n b s t h (ends_beyond l c) (ends_short m d) = absurd (omega arith)
end_one n b s t h (ends_beyond l c) (ends_whole tl m p) = absurd (omega arith)
end_one n b s t h (ends_short l c) (ends_faulty g j w) = first_none n b g j w c
end_one n b s t h (ends_short l c) (ends_beyond m d) = absurd (omega arith)
end_one n b s t h (ends_short l c) (ends_short m d) = refl
end_one n b s t h (ends_short l c) (ends_whole tl m p) = absurd (omega arith)
end_one n b s t h (ends_whole tl l p) (ends_faulty g j w) = passed_first n b g j tl h l w p
end_one n b s t h (ends_whole tl l p) (ends_beyond m d) = absurd (omega arith)
end_one n b s t h (ends_whole tl l p) (ends_short m d) = absurd (omega arith)
end_one n b s t h (ends_whole tl l p) (ends_whole tl' m q) =
    let e : Passed tl ≡ Passed tl' = sym p ∙ q in
    let z : tl ≡ tl' = cc in
    rw z
