-- The theorems about uploads, stated over the definitions of `stream`: `begun`, `taken`, `status_of`
-- and `ended` are what its calls return. Whole runs, any cuts.
use mathlib.Core.Path.{◌≡◌, refl, sym, ap, ◌∙◌}
use mathlib.Core.Logic.{◌↔◌}
use mathlib.Core.List.{List, [], ◌∷◌}
use mathlib.Core.Option.{some}
use Prim.Native.Nat.{ℕ, ◌≤◌, ◌<◌}
use native.Mathlib.Omega.{arith}
use lib.ListN.{length, take, drop, take-append-drop}
use lib.Seq.{take_all}
use borrow.Author.Tests.{lt-ltb}
use Rattle.std.specs.Prelude.{Err, Ok, Result, ⊤}
use Rattle.der.specs.Element.{fault}
use Rattle.der.specs.Span.{Bytes}
use Rattle.der.specs.Tree.{Tree, encode, depth, Formed}
use Rattle.der.specs.Tree as trees
use Rattle.der.specs.declared.Fault.{Fault}
use Rattle.buffer.specs.Numbers.{file_bytes}
use Rattle.header.specs.Numbers.{upload_levels}
use Rattle.header.specs.declared.Due.{Due}
use Rattle.header.specs.declared.Due.TheVariants.{Tag, Length, One, First, Second, Body, Nothing}
use Rattle.stream.specs.declared.Upload.{Upload}
use Rattle.stream.specs.declared.Counts.{Counts}
use Rattle.stream.specs.declared.Refusal.{Refusal}
use Rattle.stream.specs.Upload.{refusal, taken, first, begun, status_at, status_of, ended}
use Rattle.der.proofs.Spans.{bytes_drop}
use Rattle.stream.proofs.Taken.{taken_append, taken_refused}
use Rattle.uploads.specs.Whole.{Tally, Passed, whole}
use Rattle.uploads.specs.Same.{opaque_then_finish, forgotten, PassedTree}
use Rattle.uploads.specs.Certain.{Certain}
use Rattle.uploads.specs.Judged.{joined, taken_all, FirstFault, NoneCertain, StatusIs, faulty, beyond, fine}
use Rattle.uploads.specs.Judged.{EndIs, Returned, fault_of, answer_of}
use Rattle.uploads.specs.Bench.{Holds, bench_cases}
use Rattle.uploads.proofs.Same as same
use Rattle.uploads.proofs.Grown as grown
use Rattle.uploads.proofs.Certain.{still_certain}
use Rattle.uploads.proofs.Bench as bench
use Rattle.uploads.proofs.Judged as judged
use Rattle.uploads.proofs.Ends as ends
use Rattle.uploads.proofs.Unique as unique
use Rattle.uploads.proofs.Unique.{one_certain}

-- ---- the check of the whole (Rule 10.2)

-- It is `opaque` of `der` with 20 levels, and then `finish`.
pub whole_is_opaque : (s : List ℕ) → length s ≤ file_bytes → forgotten (length s) (whole s) ≡ opaque_then_finish s
whole_is_opaque = same.whole_opaque

-- It passes exactly what one tree of 20 levels at most is written as, with the number of the tree's
-- elements and its depth.
pub tree_passes : (x : Tree) → Formed x → depth x ≤ upload_levels → length (encode x) ≤ file_bytes
    → whole (encode x) ≡ Passed (record { elements = trees.elements x; level = depth x })
tree_passes = grown.tree_passes

pub passed_is_tree : (s : List ℕ) → Bytes s → (tl : Tally) → whole s ≡ Passed tl → PassedTree s tl
passed_is_tree = grown.passes_tree

-- ---- however it is cut (Rule 10.3)

-- What portions make of an upload, whatever it is, depends only on their bytes joined.
pub only_joined : (u : Upload) (ps : List (List ℕ)) → taken_all u ps ≡ taken u (joined ps)
unfolding taken_all joined taken
only_joined u [] = refl
only_joined u (p ∷ ps) = only_joined (taken u p) ps ∙ sym (taken_append u p (joined ps))

-- So the upload that the calls return is known by the announced length and the bytes: the theorems
-- below are about `taken (begun n) b`, and with it about every one.
pub returned_is : (n : ℕ) (b : List ℕ) (u : Upload) → Returned n b u → u ≡ taken (begun n) b
returned_is n b u r =
    sym r.made ∙ (only_joined (begun n) r.portions ∙ ap (taken (begun n)) r.cut)

-- Portions that together have the announced length get the answer of the whole check on the bytes
-- joined, with the number of elements and the greatest level.
pub however_cut : (ps : List (List ℕ)) → Bytes (joined ps)
    → answer_of (ended (taken_all (begun (length (joined ps))) ps)) ≡ whole (joined ps)
however_cut ps h =
    let b = joined ps in
    let n = length b in
    ap (λ u. answer_of (ended u)) (only_joined (begun n) ps) ∙ ends.end_whole_is n b _ h refl (ends.end_is n b h)

-- ---- reported at once, and never before (Rule 10.4)

-- After any bytes p, at most the announced n, the status is the fault f exactly if every completion
-- of p by bytes to n bytes is refused by the whole check with f.
pub reported_at_once : (n : ℕ) (p : List ℕ) (f : Fault) → Bytes p → length p ≤ n
    → (fault_of (status_of (taken (begun n) p)) ≡ some f) ↔ Certain n p f
unfolding fault_of NoneCertain
reported_at_once n p f h l = (λ e. to _ (judged.status_is n p h) e, λ c. from _ (judged.status_is n p h) c)
  where
    certain_all : (g : Fault) (k : ℕ) → FirstFault n p g k → Certain n p g
    certain_all g k v =
        let z = take-append-drop k p in
        rw z at (still_certain n (take k p) (drop k p) g (bytes_drop p k h) v.certain)

    to : (s : Result ⊤ Refusal) → StatusIs n p s → fault_of s ≡ some f → Certain n p f
    to s (faulty g k v) e = let z : g ≡ f = cc in rw z at (certain_all g k v)
    to s (beyond k c) e = absurd (omega arith)
    to s (fine k c) e = let z : ◌≡◌ {A = ℕ} 0 1 = cc in absurd (omega arith)

    from : (s : Result ⊤ Refusal) → StatusIs n p s → Certain n p f → fault_of s ≡ some f
    from s (faulty g k v) c = ap some (one_certain n p g f h l (certain_all g k v) c)
    from s (beyond k d) c = absurd (omega arith)
    from s (fine k d) c =
        let z = take_all (length p) p (omega arith) in
        absurd (d (length p) f l (omega arith) (rw (sym z) at c))

-- ---- the status and the answer at the end (Rules 10.4 to 10.6)

-- After portions that join to b the status is that of `StatusIs`, and no other one is.
pub status_is : (n : ℕ) (b : List ℕ) → Bytes b → StatusIs n b (status_of (taken (begun n) b))
status_is = judged.status_is

pub status_one : (n : ℕ) (b : List ℕ) (s t : Result ⊤ Refusal) → Bytes b → StatusIs n b s → StatusIs n b t → s ≡ t
status_one = unique.status_one

-- The answer at the end is that of `EndIs`, and no other one is.
pub end_is : (n : ℕ) (b : List ℕ) → Bytes b → EndIs n b (ended (taken (begun n) b))
end_is = ends.end_is

pub end_one : (n : ℕ) (b : List ℕ) (s t : Result Counts Refusal) → Bytes b → EndIs n b s → EndIs n b t → s ≡ t
end_one = unique.end_one

-- A fault, 19 too, is kept by every further portion, whatever the upload is.
pub fault_kept : (u : Upload) (f : Fault) (after : ℕ) (q : List ℕ) → status_of u ≡ Err (refusal f after)
    → taken u q ≡ u
fault_kept u f after q e = by_due u.due refl e
  where
    other : {A : Type 0} → ◌≡◌ {A = Result ⊤ Refusal} (Ok tt) (Err (refusal f after)) → A
    other p = let z : ◌≡◌ {A = ℕ} 0 1 = cc in absurd (omega arith)

    by_due : (x : Due) → u.due ≡ x → status_at x ≡ Err (refusal f after) → taken u q ≡ u
    by_due (Tag at) d p = other p
    by_due (Length at t) d p = other p
    by_due (One at t) d p = other p
    by_due (First at t) d p = other p
    by_due (Second at t h) d p = other p
    by_due (Body at k) d p = other p
    by_due Nothing d p = other p
    by_due (Due.Refused m o k) d p = taken_refused u m o k q d

-- An announced length of 0 is 1 at 0, and one over 65,535 is 9 at 0, at once and whatever arrives.
pub announced_nothing : (b : List ℕ) → status_of (taken (begun 0) b) ≡ Err (refusal (fault 1 0) 0)
unfolding begun first
announced_nothing b = ap status_of (taken_refused (begun 0) 1 0 0 b refl)

pub announced_too_long : (n : ℕ) (b : List ℕ) → 65_535 < n
    → status_of (taken (begun n) b) ≡ Err (refusal (fault 9 0) 0)
unfolding begun first
announced_too_long n b h =
    let d : (begun n).due ≡ Due.Refused 9 0 0 = rw (lt-ltb 65_535 n h) in
    ap status_of (taken_refused (begun n) 9 0 0 b d) ∙ ap status_at d

-- Uploads with every number written out, computed: M whole, early and with a byte too many, and each
-- case in which a fault is certain before the check of the whole would meet it.
pub bench_uploads : Holds bench_cases
bench_uploads = bench.bench_uploads
