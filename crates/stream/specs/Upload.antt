-- An upload: what each call makes of it. `ends` has the ends of the open elements, the outermost
-- first, and `depth` of them count.
use Rattle.std.specs.Prelude.{Bool, true, false, List, [], ◌∷◌, ℕ, zero, suc, ◌+◌, ◌/◌, ◌%◌, max, leb, ltb, eqb, get_or, set}
use Rattle.std.specs.Prelude.{if◌then◌else◌}
use Rattle.std.specs.Prelude.{Err, Ok, Result, ⊤}
use Rattle.der.specs.Element.{fault}
use Rattle.der.specs.Numbers.{missing, left_over, too_many}
use Rattle.der.specs.declared.Fault.{Fault}
use Rattle.buffer.specs.Numbers.{file_bytes, too_long}
use Rattle.header.specs.Numbers.{surplus, early, upload_levels}
use Rattle.header.specs.Header.{arrived_at, moved}
use Rattle.header.specs.declared.Due.{Due}
use Rattle.header.specs.declared.Due.TheVariants.{Tag, Length, One, First, Second, Body, Nothing}
use Rattle.header.specs.declared.Move.{Move}
use Rattle.header.specs.declared.Move.TheVariants.{Refuse, Await, Enter, Pass, Surplus, Stay}
use Rattle.stream.specs.declared.Upload.{Upload}
use Rattle.stream.specs.declared.Counts.{Counts}
use Rattle.stream.specs.declared.Refusal.{Refusal}

-- a fault and the number of bytes after which it was certain
abbrev pub refusal : Fault → ℕ → Refusal
refusal f k = record { fault = f; after = k }

-- the number of elements and the greatest level
abbrev pub counts : ℕ → ℕ → Counts
counts m v = record { elements = m; level = v }

-- where open element i ends
unfoldable pub end_at : List ℕ → ℕ → ℕ
end_at ends i = if ltb i 20 then get_or ends i 0 else 0

-- where the parent of the next element ends
unfoldable pub parent_end : ℕ → List ℕ → ℕ → ℕ
parent_end total ends zero = total
parent_end total ends (suc k) = end_at ends k

-- how many of the first elements do not end at p
unfoldable pub still_open : List ℕ → ℕ → ℕ → ℕ
still_open ends zero p = zero
still_open ends (suc k) p = if ltb p (end_at ends k) then suc k else still_open ends k p

abbrev pub with_due : Upload → Due → ℕ → Upload
with_due u x k =
    record {
      total = u.total;
      due = x;
      ends = u.ends;
      depth = k;
      elements = u.elements;
      level = u.level;
    }

-- at p, where an element ends or a body begins: every element that ends there is closed. Where all
-- are, the upload ends too, or the next byte is left over (6).
unfoldable pub closed_to : Upload → ℕ → ℕ → ℕ → Upload
closed_to u p after k =
    if ltb 0 k then with_due u (Tag p) k else
    if ltb p u.total then with_due u (Due.Refused left_over p after) k else
    with_due u Nothing k

unfoldable pub closed_at : Upload → ℕ → ℕ → Upload
closed_at u p after = closed_to u p after (still_open u.ends u.depth p)

abbrev pub is_refused : Due → Bool
is_refused (Tag at) = false
is_refused (Length at t) = false
is_refused (One at t) = false
is_refused (First at t) = false
is_refused (Second at t h) = false
is_refused (Body at e) = false
is_refused Nothing = false
is_refused (Due.Refused n p after) = true

-- Rule 2.6: a body that isn't examined; a fault right after it is certain before it
unfoldable pub body_before : Upload → ℕ → ℕ → Upload → Upload
body_before u start stop next =
    if is_refused next.due then next else
    if ltb start stop then with_due u (Body start stop) u.depth else
    next

unfoldable pub body_from : Upload → ℕ → ℕ → Upload
body_from u start stop = body_before u start stop (closed_at u stop start)

unfoldable pub one_more : ℕ → ℕ
one_more n = if ltb n 65_535 then n + 1 else n

-- one element more, on this level
abbrev pub counted : Upload → ℕ → Upload
counted u v =
    record {
      total = u.total;
      due = u.due;
      ends = u.ends;
      depth = u.depth;
      elements = one_more u.elements;
      level = max u.level v;
    }

-- one element more is open
abbrev pub pushed : Upload → ℕ → Upload
pushed u stop =
    record {
      total = u.total;
      due = u.due;
      ends = set u.ends u.depth stop;
      depth = u.depth + 1;
      elements = u.elements;
      level = u.level;
    }

-- Rule 10.2: level 21 is one too many (8). Rule 2.6: bit 20 (hex) of the tag
unfoldable pub entered : Upload → (at t start stop : ℕ) → Upload
entered u at t start stop =
    if leb upload_levels u.depth then with_due u (Due.Refused too_many at start) u.depth else
    if eqb (t / 0x20 % 2) 0 then body_from (counted u (u.depth + 1)) start stop else
    closed_at (pushed (counted u (u.depth + 1)) stop) start start

-- k bytes of a body that isn't examined
unfoldable pub passed : Upload → (at end k : ℕ) → Upload
passed u at end k =
    if ltb (at + k) end then with_due u (Body (at + k) end) u.depth else
    closed_at u end end

abbrev pub applied : Upload → Move → Upload
applied u (Refuse n at after) = with_due u (Due.Refused n at after) u.depth
applied u (Await x) = with_due u x u.depth
applied u (Enter at t start stop) = entered u at t start stop
applied u (Pass at end) = passed u at end 1
applied u Surplus = with_due u (Due.Refused surplus 0 (u.total + 1)) u.depth
applied u Stay = u

-- one byte
unfoldable pub stepped : Upload → ℕ → Upload
stepped u b =
    applied u (moved u.due b (parent_end u.total u.ends u.depth) (leb upload_levels u.depth))

-- a portion
unfoldable pub taken : Upload → List ℕ → Upload
taken u [] = u
taken u (b ∷ bs) = taken (stepped u b) bs

-- the ends of no open element
unfoldable pub no_ends : List ℕ
no_ends = 0 ∷ 0 ∷ 0 ∷ 0 ∷ 0 ∷ 0 ∷ 0 ∷ 0 ∷ 0 ∷ 0 ∷ 0 ∷ 0 ∷ 0 ∷ 0 ∷ 0 ∷ 0 ∷ 0 ∷ 0 ∷ 0 ∷ 0 ∷ []

unfoldable pub first : ℕ → Due → Upload
first n x = record { total = n; due = x; ends = no_ends; depth = 0; elements = 0; level = 0 }

-- the length is announced
unfoldable pub begun : ℕ → Upload
begun n =
    if ltb file_bytes n then first 0 (Due.Refused too_long 0 0) else
    if eqb n 0 then first 0 (Due.Refused missing 0 0) else
    first n (Tag 0)

-- the fault that is certain
abbrev pub status_at : Due → Result ⊤ Refusal
status_at (Tag at) = Ok tt
status_at (Length at t) = Ok tt
status_at (One at t) = Ok tt
status_at (First at t) = Ok tt
status_at (Second at t h) = Ok tt
status_at (Body at e) = Ok tt
status_at Nothing = Ok tt
status_at (Due.Refused n p after) = Err (refusal (fault n p) after)

abbrev pub status_of : Upload → Result ⊤ Refusal
status_of u = status_at u.due

-- whether every byte that was announced is here
abbrev pub is_whole : Due → Bool
is_whole (Tag at) = false
is_whole (Length at t) = false
is_whole (One at t) = false
is_whole (First at t) = false
is_whole (Second at t h) = false
is_whole (Body at e) = false
is_whole Nothing = true
is_whole (Due.Refused n p after) = false

-- what is made of no fault, and of one
abbrev pub on_status : {A : Type 0} → Result ⊤ Refusal → A → (Fault → ℕ → A) → A
on_status (Ok x) none refused = none
on_status (Err x) none refused = refused x.fault x.after

-- the answer at the end: Rule 5.20, 20 at 0 for an early end without a fault
unfoldable pub ended : Upload → Result Counts Refusal
ended u =
    on_status (status_of u)
    (if is_whole u.due then Ok (counts u.elements u.level) else
    Err (refusal (fault early 0) (arrived_at u.due u.total)))
    (λ f k. Err (refusal f k))
