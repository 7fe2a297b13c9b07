-- What is due of an upload that was announced with n bytes and of which b has arrived, cut in any
-- way (Rules 10.3 to 10.6).
use Rattle.std.specs.Prelude.{◌≡◌, List, [], ◌∷◌, ◌++◌, ℕ, ◌+◌, ◌≤◌, ◌<◌, length, take}
use Rattle.std.proofs.Math.Option.{Option, some}
use Rattle.std.proofs.Math.Option as option
use Rattle.std.specs.Prelude.{Err, Ok, Result, ⊤}
use Rattle.der.specs.Element.{fault}
use Rattle.der.specs.declared.Fault.{Fault}
use Rattle.header.specs.Numbers.{surplus, early}
use Rattle.stream.specs.declared.Upload.{Upload}
use Rattle.stream.specs.declared.Counts.{Counts}
use Rattle.stream.specs.declared.Refusal.{Refusal}
use Rattle.stream.specs.Upload.{counts, refusal, begun, taken}
use Rattle.uploads.specs.Whole.{Tally, Answer, Refused, Passed, whole}
use Rattle.uploads.specs.Certain.{Certain}

-- portions one after another, and what they make of an upload
unfoldable pub joined : List (List ℕ) → List ℕ
joined [] = []
joined (p ∷ ps) = p ++ joined ps

unfoldable pub taken_all : Upload → List (List ℕ) → Upload
taken_all u [] = u
taken_all u (p ∷ ps) = taken_all (taken u p) ps

-- the uploads that the calls return: announced with n bytes, and then portions, cut anywhere, that
-- join to b
pub record Returned (n : ℕ) (b : List ℕ) (u : Upload) : Type 0 where
  pub portions : List (List ℕ)
  pub cut : joined portions ≡ b
  pub made : taken_all (begun n) portions ≡ u

-- the shortest beginning of b, within the announced length, after which a fault is certain has k
-- bytes, and the fault is f
pub record FirstFault (n : ℕ) (b : List ℕ) (f : Fault) (k : ℕ) : Type 0 where
  pub within : k ≤ n
  pub here : k ≤ length b
  pub certain : Certain n (take k b) f
  pub first : (j : ℕ) (g : Fault) → j < k → Certain n (take j b) g → ⊥

-- no beginning of b, within the announced length, has one
unfoldable pub NoneCertain : ℕ → List ℕ → Type 0
NoneCertain n b = (j : ℕ) (g : Fault) → j ≤ n → j ≤ length b → Certain n (take j b) g → ⊥

-- the status: the fault of the shortest beginning that has one; else 19 at 0 if b is longer than
-- announced, certain with the first byte too many; else none
pub data StatusIs (n : ℕ) (b : List ℕ) : Result ⊤ Refusal → Type 0 where
  faulty : (f : Fault) (k : ℕ) → FirstFault n b f k → StatusIs n b (Err (refusal f k))
  beyond : n < length b → NoneCertain n b → StatusIs n b (Err (refusal (fault surplus 0) (n + 1)))
  fine : length b ≤ n → NoneCertain n b → StatusIs n b (Ok tt)

-- the answer at the end: the same fault, or 19; else 20 at 0 if b is shorter than announced; else
-- that of the whole check
pub data EndIs (n : ℕ) (b : List ℕ) : Result Counts Refusal → Type 0 where
  ends_faulty : (f : Fault) (k : ℕ) → FirstFault n b f k → EndIs n b (Err (refusal f k))
  ends_beyond : n < length b → NoneCertain n b → EndIs n b (Err (refusal (fault surplus 0) (n + 1)))
  ends_short : length b < n → NoneCertain n b → EndIs n b (Err (refusal (fault early 0) (length b)))
  ends_whole : (tl : Tally) → length b ≡ n → whole b ≡ Passed tl → EndIs n b (Ok (counts tl.elements tl.level))

-- the fault that a status reports, if any
unfoldable pub fault_of : Result ⊤ Refusal → Option Fault
fault_of (Ok x) = option.none
fault_of (Err x) = some x.fault

-- an answer at the end as one of the whole check: without the number of bytes after which a fault
-- was certain
unfoldable pub answer_of : Result Counts Refusal → Answer
answer_of (Err x) = Refused x.fault
answer_of (Ok x) = Passed (record { elements = x.elements; level = x.level })
