-- The cells of an upload, the upload that cells hold, and what each call makes of them.
use Rattle.std.specs.Prelude.{List, ◌∷◌, ◌++◌, ℕ, ◌+◌, ◌*◌, ◌/◌, ◌%◌, ltb, eqb, length, get_or, take, drop}
use Rattle.std.specs.Prelude.{if◌then◌else◌}
use Rattle.std.specs.Prelude.{Err, Result, ⊤}
use Rattle.der.specs.Element.{fault}
use Rattle.buffer.specs.Numbers.{short_buffer, not_sound}
use Rattle.header.specs.declared.Due.{Due}
use Rattle.header.specs.declared.Due.TheVariants.{Tag, Length, One, First, Second, Body, Nothing}
use Rattle.stream.specs.declared.Upload.{Upload}
use Rattle.stream.specs.declared.Counts.{Counts}
use Rattle.stream.specs.declared.Refusal.{Refusal}
use Rattle.stream.specs.Upload.{refusal, begun, taken, status_of, ended}
use Rattle.cells.specs.declared.Plain.{Plain}

-- how many cells an upload takes
abbrev pub upload_length : ℕ
upload_length = 29

-- the ends among them: how many, and from where on
abbrev pub end_count : ℕ
end_count = 20

abbrev pub ends_at : ℕ
ends_at = 9

abbrev pub plain : (kind at tag low high : ℕ) → Plain
plain k a t l h = record { kind = k; at = a; tag = t; low = l; high = h }

-- what is due as plain numbers, by its kind; what a kind has no use for is 0
abbrev pub plain_of : Due → Plain
plain_of (Tag at) = plain 1 at 0 0 0
plain_of (Length at t) = plain 2 at t 0 0
plain_of (One at t) = plain 3 at t 0 0
plain_of (First at t) = plain 4 at t 0 0
plain_of (Second at t h) = plain 5 at t h 0
plain_of (Body at e) = plain 6 at 0 e 0
plain_of Nothing = plain 7 0 0 0 0
plain_of (Due.Refused n p after) = plain 8 p n (after % 65_536) (after / 65_536)

-- the cells: kind, length, offset, tag, two more numbers, open elements, elements, level, ends
unfoldable pub cells_of : Upload → List ℕ
cells_of u =
    (plain_of u.due).kind ∷ u.total ∷ (plain_of u.due).at
    ∷ (plain_of u.due).tag ∷ (plain_of u.due).low ∷ (plain_of u.due).high
    ∷ u.depth ∷ u.elements ∷ u.level
    ∷ u.ends

-- a refusal; cells of no other kind hold an upload (Rule 5.11)
unfoldable pub refusal_of : Plain → Due
refusal_of p =
    if eqb p.kind 8 then Due.Refused (p.tag % 256) p.at (p.low + 65_536 * p.high) else
    Due.Refused not_sound 0 0

-- what is due by plain numbers
unfoldable pub due_of : Plain → Due
due_of p =
    if eqb p.kind 1 then Tag p.at else
    if eqb p.kind 2 then Length p.at (p.tag % 256) else
    if eqb p.kind 3 then One p.at (p.tag % 256) else
    if eqb p.kind 4 then First p.at (p.tag % 256) else
    if eqb p.kind 5 then Second p.at (p.tag % 256) (p.low % 256) else
    if eqb p.kind 6 then Body p.at p.low else
    if eqb p.kind 7 then Nothing else
    refusal_of p

abbrev pub cell_at : List ℕ → ℕ → ℕ
cell_at s i = get_or s i 0

unfoldable pub plain_in : List ℕ → Plain
plain_in s = plain (cell_at s 0) (cell_at s 2) (cell_at s 3) (cell_at s 4) (cell_at s 5)

abbrev pub ends_in : List ℕ → List ℕ
ends_in s = take end_count (drop ends_at s)

-- the upload that cells hold
unfoldable pub upload_in : List ℕ → Upload
upload_in s =
    record {
      total = cell_at s 1;
      due = due_of (plain_in s);
      ends = ends_in s;
      depth = cell_at s 6 % 256;
      elements = cell_at s 7;
      level = cell_at s 8 % 256;
    }

-- ---- the calls

-- what a call leaves: its answer, and the cells afterwards
pub record Outcome : Type 0 where
  pub answer : Result ⊤ Refusal
  pub cells : List ℕ

-- a call that is refused at once
abbrev pub refused_by : ℕ → Result ⊤ Refusal
refused_by n = Err (refusal (fault n 0) 0)

-- the cells are as before
abbrev pub leaving : ℕ → List ℕ → Outcome
leaving n s = record { answer = refused_by n; cells = s }

-- the upload is at the front, and every cell behind it is as before
abbrev pub storing : Upload → List ℕ → Outcome
storing u s = record { answer = status_of u; cells = cells_of u ++ drop upload_length s }

-- the length is announced; Rule 5.10: 10 for fewer cells
unfoldable pub begun_in : ℕ → List ℕ → Outcome
begun_in n s = if ltb (length s) upload_length then leaving short_buffer s else storing (begun n) s

-- a portion; Rule 5.11: 11 for fewer cells
unfoldable pub taken_in : List ℕ → List ℕ → Outcome
taken_in s portion =
    if ltb (length s) upload_length then leaving not_sound s else storing (taken (upload_in s) portion) s

-- what is certain so far; 11 for fewer cells
unfoldable pub status_in : List ℕ → Result ⊤ Refusal
status_in s = if ltb (length s) upload_length then refused_by not_sound else status_of (upload_in s)

-- the answer at the end; 11 for fewer cells
unfoldable pub end_in : List ℕ → Result Counts Refusal
end_in s = if ltb (length s) upload_length then Err (refusal (fault not_sound 0) 0) else ended (upload_in s)
