-- The status and the answer at the end are what is due.
use mathlib.Core.Path.{◌≡◌, refl, sym, ap, ◌∙◌}
use mathlib.Core.List.{List, [], ◌∷◌}
use mathlib.Core.Option.{Option, some}
use mathlib.Core.Option as option
use Prim.Native.Nat.{ℕ, suc, ◌+◌, ◌≤◌, ◌<◌}
use native.Mathlib.Omega.{arith}
use native.Mathlib.Nat.{zero-add}
use lib.Dec.{ltb, eqb}
use lib.ListN.{length, take, get_or}
use lib.Seq.{take_all, length-take-le, take-suc}
use borrow.Author.Tests.{ltb-false}
use Rattle.std.specs.Prelude.{Err, Ok, Result, ⊤}
use Rattle.der.specs.Element.{fault}
use Rattle.der.specs.Numbers.{missing}
use Rattle.der.specs.Span.{Bytes}
use Rattle.der.specs.declared.Fault.{Fault}
use Rattle.der.proofs.Choices.{either}
use Rattle.der.proofs.Spans.{bytes_take}
use Rattle.buffer.specs.Numbers.{file_bytes, too_long}
use Rattle.header.specs.Numbers.{surplus}
use Rattle.header.specs.declared.Due.{Due}
use Rattle.header.specs.declared.Due.TheVariants.{Tag, Length, One, First, Second, Body, Nothing}
use Rattle.stream.specs.declared.Upload.{Upload}
use Rattle.stream.specs.declared.Refusal.{Refusal}
use Rattle.stream.specs.Upload.{refusal, taken, no_ends, first, begun, status_at, status_of}
use Rattle.stream.proofs.Taken.{taken_refused}
use Rattle.uploads.specs.Whole.{Tally, no_element}
use Rattle.uploads.specs.Certain.{Certain}
use Rattle.uploads.specs.Judged.{FirstFault, NoneCertain, StatusIs, faulty, beyond, fine}
use Rattle.uploads.proofs.Machine.{State, Failed, Open, Done, step, feed, start, certainly}
use Rattle.uploads.proofs.Fed.{cases, fed_append}
use Rattle.uploads.proofs.Kept.{Given, Kept, announced, given, start_given}
use Rattle.uploads.proofs.Certain.{certainly_certain, certain_certainly}
use Rattle.uploads.proofs.Follows.{ends_in, state_at, state_of, Follows}
use Rattle.uploads.proofs.Runs.{Ran, found, ran, run}

-- ---- with the announcement

-- an announced length that is refused at once
pub record AtOnce (n : ℕ) (f : Fault) : Type 0 where
  pub begins : (begun n).due ≡ Due.Refused f.number f.offset 0
  pub starts : start n ≡ Failed f

pub record Begins (n : ℕ) : Type 0 where
  pub long : n ≤ file_bytes
  pub follows : Follows n 0 (start n) (begun n)
  pub none : certainly (start n) ≡ option.none

follows_first : (m : ℕ) → Follows m 0 (Open (Tag 0) [] no_element) (first m (Tag 0))
unfolding first no_ends ends_in
follows_first m = record { total = refl; ends = refl; depth = omega arith; state = refl; since = tt }

pub begin_by : {A : Type 0} (n : ℕ) → ((f : Fault) → AtOnce n f → A) → (Begins n → A) → A
unfolding begun first start certainly
begin_by n f g =
    cases (ltb file_bytes n)
    (λ k. f (fault too_long 0) record { begins = rw k; starts = rw k })
    (λ k. cases (eqb n 0)
    (λ j. f (fault missing 0) record { begins = rw (k, j); starts = rw (k, j) })
    (λ j. g
    record {
      long = ltb-false file_bytes n k;
      follows = rw (k, j) (follows_first n);
      none = rw (k, j);
    }))

-- ---- the status

some_none : {A : Type 0} (f : Fault) (x : Option Fault) → x ≡ some f → x ≡ option.none → A
some_none f x p q = let z : ◌≡◌ {A = ℕ} 0 1 = cc in absurd (omega arith)

-- a fault of a beginning is certain, and where the machine has none, none is
first_certain : (n : ℕ) (b : List ℕ) (j : ℕ) (f : Fault) → Bytes b → feed n (start n) (take j b) ≡ Failed f
    → Certain n (take j b) f
unfolding certainly
first_certain n b j f h q = certainly_certain n (take j b) f (bytes_take b j h) (ap certainly q)

none_certain : (n : ℕ) (b : List ℕ) (j : ℕ) (g : Fault) → Bytes b → j ≤ n → j ≤ length b
    → certainly (feed n (start n) (take j b)) ≡ option.none → Certain n (take j b) g → ⊥
none_certain n b j g h k l q c =
    let w : length (take j b) ≤ n = omega (arith, length-take-le j b l) in
    some_none g _ (certain_certainly n (take j b) g (bytes_take b j h) w c) q

-- after all announced bytes without a fault the next one is too many
done_next : (n : ℕ) (st : State) (b : ℕ) → Given n n st → certainly st ≡ option.none
    → step n st b ≡ Failed (fault surplus 0)
unfolding Given step certainly
done_next n (Failed f) b g c = some_none f _ refl c
done_next n (Done tl) b g c = refl
done_next n (Open x ends tl) b g c = absurd (no_byte n x ends tl g)
  where
    no_byte : (n : ℕ) (x : Due) (ends : List ℕ) (tl : Tally) → Kept n n x ends tl → ⊥
    no_byte n x ends tl k = omega (arith, announced n n x ends tl k)

full_next : (n : ℕ) (b : List ℕ) → n < length b → certainly (feed n (start n) (take n b)) ≡ option.none
    → feed n (start n) (take (suc n) b) ≡ Failed (fault surplus 0)
unfolding feed
full_next n b h c =
    let l : length (take n b) ≡ n = length-take-le n b (omega arith) in
    let g : Given n n (feed n (start n) (take n b)) = rw l at (given n (take n b) (omega (arith, l))) in
    ap (feed n (start n)) (take-suc b n 0 h)
    ∙ (fed_append n (start n) (take n b) (get_or b n 0 ∷ [])
    ∙ done_next n (feed n (start n) (take n b)) (get_or b n 0) g c)

status_to : (n : ℕ) (b : List ℕ) (s t : Result ⊤ Refusal) → s ≡ t → StatusIs n b t → StatusIs n b s
status_to n b s t e i = rw e i

status_none : (x : Due) (u : Upload) → certainly (state_at x u) ≡ option.none → status_at x ≡ Ok tt
unfolding certainly
status_none (Tag at) u c = refl
status_none (Length at t) u c = refl
status_none (One at t) u c = refl
status_none (First at t) u c = refl
status_none (Second at t h) u c = refl
status_none (Body at e) u c = refl
status_none Nothing u c = refl
status_none (Due.Refused m p after) u c = some_none (fault m p) _ refl c

at_once : (n : ℕ) (b : List ℕ) (f : Fault) → Bytes b → AtOnce n f → FirstFault n b f 0
unfolding feed certainly
at_once n b f h a =
    record {
      within = omega arith;
      here = omega arith;
      certain = certainly_certain n [] f tt (ap certainly a.starts);
      first = λ j g w c. absurd (omega arith);
    }

-- without a fault there are no more bytes than announced
short_enough : (n : ℕ) (b : List ℕ)
    → ((k : ℕ) → k ≤ length b → certainly (feed n (start n) (take k b)) ≡ option.none) → length b ≤ n
unfolding certainly
short_enough n b all =
    either n (length b)
    (λ k.
    let full = full_next n b k (all n (omega arith)) in
    some_none (fault surplus 0) _ (ap certainly full) (all (suc n) (omega arith)))
    (λ k. k)

-- the first fault is within the announced length, or with the first byte too many
pub data Found (n : ℕ) (b : List ℕ) (m o j : ℕ) : Type 0 where
  inside : FirstFault n b (fault m o) j → Found n b m o j
  past : n < length b → NoneCertain n b → fault m o ≡ fault surplus 0 → j ≡ n + 1 → Found n b m o j

found_is : (n : ℕ) (b : List ℕ) (j m o : ℕ) → Bytes b → j ≤ length b → feed n (start n) (take j b) ≡ Failed (fault m o)
    → ((k : ℕ) → k < j → certainly (feed n (start n) (take k b)) ≡ option.none) → Found n b m o j
unfolding NoneCertain certainly
found_is n b j m o h l q all =
    either n j
    (λ k.
    let full = full_next n b (omega arith) (all n k) in
    let next = ap certainly (at_next full) in
    let z : j ≡ n + 1 =
    either (n + 1) j (λ i. some_none (fault surplus 0) _ next (all (n + 1) i)) (λ i. omega arith) in
    past (omega arith)
    (λ i g w v. none_certain n b i g h w v (all i (omega arith)))
    (same_fault (sym q ∙ (ap (λ x. feed n (start n) (take x b)) z ∙ at_next full))) z)
    (λ k.
    inside
    record {
      within = k;
      here = l;
      certain = first_certain n b j (fault m o) h q;
      first = λ i g w. none_certain n b i g h (omega arith) (omega arith) (all i w);
    })
  where
    at_next : feed n (start n) (take (suc n) b) ≡ Failed (fault surplus 0)
        → feed n (start n) (take (n + 1) b) ≡ Failed (fault surplus 0)
    at_next e = let y : n + 1 ≡ suc n = omega arith in rw y e

    same_fault : Failed (fault m o) ≡ Failed (fault surplus 0) → fault m o ≡ fault surplus 0
    same_fault e = cc

pub status_is : (n : ℕ) (b : List ℕ) → Bytes b → StatusIs n b (status_of (taken (begun n) b))
unfolding NoneCertain
status_is n b h =
    begin_by n
    (λ f a.
    let e = taken_refused (begun n) f.number f.offset 0 b a.begins in
    status_to n b _ (Err (refusal f 0)) (ap status_of e ∙ ap status_at a.begins) (faulty f 0 (at_once n b f h a)))
    (λ g. by_run (run n 0 0 (start n) (begun n) b g.long g.follows (start_given n) g.none refl))
  where
    by_run : Ran n 0 (start n) (begun n) b → StatusIs n b (status_of (taken (begun n) b))
    by_run (found j m o pos l d q all) =
        let e : status_of (taken (begun n) b) ≡ Err (refusal (fault m o) j) = ap status_at (rw (zero-add j) at d) in
        status_to n b _ (Err (refusal (fault m o) j)) e (of_found (found_is n b j m o h l q all))
      where
        of_found : Found n b m o j → StatusIs n b (Err (refusal (fault m o) j))
        of_found (inside f) = faulty (fault m o) j f
        of_found (past k c e z) = rw (e, z) (beyond k c)
    by_run (ran f g all) =
        let c : certainly (feed n (start n) (take (length b) b)) ≡ option.none = all (length b) (omega arith) in
        let w : certainly (state_of (taken (begun n) b)) ≡ option.none =
        ap certainly f.state ∙ (rw (take_all (length b) b (omega arith)) at c) in
        status_to n b _ (Ok tt) (status_none (taken (begun n) b).due (taken (begun n) b) w)
        (fine (short_enough n b all) (λ j v s t. none_certain n b j v h s t (all j t)))
