-- The answer at the end is what is due; and what is due is one status and one answer.
use mathlib.Core.Path.{◌≡◌, refl, sym, ap, ◌∙◌}
use mathlib.Core.Bool.{Bool, true, false}
use mathlib.Core.List.{List}
use mathlib.Core.Option as option
use Prim.Native.Nat.{ℕ, ◌+◌, ◌<◌}
use native.Mathlib.Omega.{arith}
use native.Mathlib.Nat.{zero-add}
use lib.ListN.{length, take, drop, take-append-drop}
use lib.Seq.{take_all}
use Rattle.std.specs.Prelude.{if◌then◌else◌}
use Rattle.std.specs.Prelude.{Err, Ok, Result, ⊤}
use Rattle.der.specs.Element.{fault}
use Rattle.der.specs.Span.{Bytes}
use Rattle.der.specs.declared.Fault.{Fault}
use Rattle.der.proofs.Spans.{bytes_drop}
use Rattle.header.specs.Numbers.{surplus, early}
use Rattle.header.specs.Header.{arrived_at}
use Rattle.header.specs.declared.Due.{Due}
use Rattle.header.specs.declared.Due.TheVariants.{Tag, Length, One, First, Second, Body, Nothing}
use Rattle.stream.specs.declared.Upload.{Upload}
use Rattle.stream.specs.declared.Counts.{Counts}
use Rattle.stream.specs.declared.Refusal.{Refusal}
use Rattle.stream.specs.Upload.{counts, refusal, taken, begun, status_at, status_of, is_whole, on_status, ended}
use Rattle.stream.proofs.Taken.{taken_refused}
use Rattle.uploads.specs.Whole.{Tally, Answer, Refused, Passed, whole}
use Rattle.uploads.specs.Certain.{Certain}
use Rattle.uploads.specs.Judged.{NoneCertain, StatusIs, faulty, beyond, fine}
use Rattle.uploads.specs.Judged.{EndIs, ends_faulty, ends_beyond, ends_short, ends_whole, answer_of}
use Rattle.uploads.proofs.Machine.{Done, feed, start, certainly}
use Rattle.uploads.proofs.Link.{after, whole_fed}
use Rattle.uploads.proofs.Kept.{Given, Awaits, announced, start_given}
use Rattle.uploads.proofs.Follows.{tally_of, state_at, state_of}
use Rattle.uploads.proofs.Runs.{Ran, found, ran, run}
use Rattle.uploads.proofs.Judged.{begin_by, status_is}

-- an upload without a fault: every byte is here, or i of them
pub data Still (n i : ℕ) (x : Due) (u : Upload) : Type 0 where
  all_here : i ≡ n → is_whole x ≡ true → state_at x u ≡ Done (tally_of u) → Still n i x u
  some_left : i < n → is_whole x ≡ false → arrived_at x u.total ≡ i → Still n i x u

still : (n i : ℕ) (x : Due) (u : Upload) → Given n i (state_at x u) → certainly (state_at x u) ≡ option.none
    → Still n i x u
unfolding Given Awaits certainly
still n i (Tag at) u g c = some_left (announced n i _ _ _ g) refl (sym g.awaits.0)
still n i (Length at t) u g c = some_left (announced n i _ _ _ g) refl (sym g.awaits.0)
still n i (One at t) u g c = some_left (announced n i _ _ _ g) refl (sym g.awaits.0)
still n i (First at t) u g c = some_left (announced n i _ _ _ g) refl (sym g.awaits.0)
still n i (Second at t h) u g c = some_left (announced n i _ _ _ g) refl (sym g.awaits.0)
still n i (Body at e) u g c = some_left (announced n i _ _ _ g) refl (sym g.awaits.0)
still n i Nothing u g c = all_here g.all refl refl
still n i (Due.Refused m p after) u g c = let z : ◌≡◌ {A = ℕ} 0 1 = cc in absurd (omega arith)

-- the answer by the status, and by whether every byte is here
abbrev end_by : Upload → Result ⊤ Refusal → Bool → Result Counts Refusal
end_by u s t =
    on_status s
    (if t then Ok (counts u.elements u.level) else Err (refusal (fault early 0) (arrived_at u.due u.total)))
    (λ f k. Err (refusal f k))

end_by_lem : (u : Upload) (s : Result ⊤ Refusal) (t : Bool) → status_of u ≡ s → is_whole u.due ≡ t
    → ended u ≡ end_by u s t
unfolding ended
end_by_lem u s t e w = ap (λ x. end_by u x (is_whole u.due)) e ∙ ap (end_by u s) w

end_to : (n : ℕ) (b : List ℕ) (s t : Result Counts Refusal) → s ≡ t → EndIs n b t → EndIs n b s
end_to n b s t e i = rw e i

-- all announced bytes without a fault are a whole that passes
passed_whole : (n : ℕ) (b : List ℕ) (tl : Tally) → Bytes b → length b ≡ n → feed n (start n) b ≡ Done tl
    → whole b ≡ Passed tl
unfolding after
passed_whole n b tl h l q = of_after (whole b) (sym (whole_fed b h) ∙ (rw (sym l) at q))
  where
    of_after : (a : Answer) → after a ≡ Done tl → a ≡ Passed tl
    of_after (Refused f) e = let z : ◌≡◌ {A = ℕ} 0 1 = cc in absurd (omega arith)
    of_after (Passed tl') e = let z : tl' ≡ tl = cc in rw z

-- without a fault
refused_none : {A : Type 0} (s : Result ⊤ Refusal) (f : Fault) (k : ℕ) → s ≡ Err (refusal f k) → s ≡ Ok tt → A
refused_none s f k p q = let z : ◌≡◌ {A = ℕ} 0 1 = cc in absurd (omega arith)

pub record Without (n : ℕ) (b : List ℕ) (u : Upload) : Type 0 where
  pub still : Still n (length b) u.due u
  pub state : state_of u ≡ feed n (start n) b

without : (n : ℕ) (b : List ℕ) → status_of (taken (begun n) b) ≡ Ok tt → Without n b (taken (begun n) b)
without n b e =
    begin_by n
    (λ f a.
    let kept = taken_refused (begun n) f.number f.offset 0 b a.begins in
    refused_none _ f 0 (ap status_of kept ∙ ap status_at a.begins) e)
    (λ g. by_run (run n 0 0 (start n) (begun n) b g.long g.follows (start_given n) g.none refl))
  where
    u : Upload
    u = taken (begun n) b

    by_run : Ran n 0 (start n) (begun n) b → Without n b u
    by_run (found j m o pos l d q all) = refused_none _ (fault m o) (0 + j) (ap status_at d) e
    by_run (ran f g all) =
        let q = f.state in
        let c : certainly (feed n (start n) (take (length b) b)) ≡ option.none = all (length b) (omega arith) in
        let w : certainly (feed n (start n) b) ≡ option.none = rw (take_all (length b) b (omega arith)) at c in
        let i : Given n (length b) (feed n (start n) b) = rw (zero-add (length b)) at g in
        record {
          still = still n (length b) u.due u (rw (sym q) at i) (ap certainly q ∙ w);
          state = q;
        }

end_without : (n : ℕ) (b : List ℕ) → Bytes b → (u : Upload) → status_of u ≡ Ok tt → NoneCertain n b → Without n b u
    → EndIs n b (ended u)
end_without n b h u e c w = by_still w.still
  where
    by_still : Still n (length b) u.due u → EndIs n b (ended u)
    by_still (all_here l t d) =
        end_to n b _ _ (end_by_lem u (Ok tt) true e t)
        (ends_whole (tally_of u) l (passed_whole n b (tally_of u) h l (sym w.state ∙ d)))
    by_still (some_left l t a) =
        end_to n b _ _ (end_by_lem u (Ok tt) false e t ∙ ap (λ k. Err (refusal (fault early 0) k)) a) (ends_short l c)

pub end_is : (n : ℕ) (b : List ℕ) → Bytes b → EndIs n b (ended (taken (begun n) b))
end_is n b h = by_status (status_of u) refl (status_is n b h)
  where
    u : Upload
    u = taken (begun n) b

    by_status : (s : Result ⊤ Refusal) → status_of u ≡ s → StatusIs n b s → EndIs n b (ended u)
    by_status s e (faulty f k w) = end_to n b _ _ (end_by_lem u (Err (refusal f k)) _ e refl) (ends_faulty f k w)
    by_status s e (beyond k c) =
        let r = Err (refusal (fault surplus 0) (n + 1)) in
        end_to n b _ _ (end_by_lem u r _ e refl) (ends_beyond k c)
    by_status s e (fine k c) = end_without n b h u e c (without n b e)

-- ---- of bytes that have the announced length the answer is that of the whole check

certain_whole : (n : ℕ) (b : List ℕ) (f : Fault) (k : ℕ) → Bytes b → length b ≡ n → Certain n (take k b) f
    → whole b ≡ Refused f
unfolding Certain
certain_whole n b f k h l c =
    let z = take-append-drop k b in
    rw z at (c (drop k b) (bytes_drop b k h) (ap length z ∙ l))

pub end_whole_is : (n : ℕ) (b : List ℕ) (r : Result Counts Refusal) → Bytes b → length b ≡ n → EndIs n b r
    → answer_of r ≡ whole b
unfolding answer_of
end_whole_is n b r h l (ends_faulty f k w) = sym (certain_whole n b f k h l w.certain)
end_whole_is n b r h l (ends_beyond k c) = absurd (omega arith)
end_whole_is n b r h l (ends_short k c) = absurd (omega arith)
end_whole_is n b r h l (ends_whole tl k p) = sym p
