-- The loops over rows: the code's invariant, what it begins with, its ways out and its turn, for
-- any step of the walk.
use mathlib.Core.Path.{◌≡◌, refl, sym, ap, ◌∙◌}
use mathlib.Core.List.{List}
use Prim.Native.Nat.{ℕ, ◌≤◌, ◌<◌}
use native.Mathlib.Omega.{arith}
use lib.ListN.{length}
use Rattle.der.specs.Element.{cursor}
use Rattle.der.specs.declared.Fault.{Fault}
use Rattle.der.specs.declared.Cursor.{Cursor}
use Rattle.der.proofs.Many.{Going, going_start, going_on, going_end}
use Rattle.pkcs12.specs.Table.{Rows}
use Rattle.pkcs12.specs.Walk.{Walked, Refused, Went, go_on, run}
use Rattle.words.specs.declared.Counts.{Counts}
use Rattle.load.specs.Holds.{Holds, rows_at}
use Rattle.load.proofs.Held.{count_of}
use Rattle.reader.specs.Memory.{Ready}
use Rattle.parts.proofs.Past.{Past}

-- rows so far in the memory, which keeps its length, at an offset; the answer that is due is the
-- loop's from here
pub record Rowing (step : Rows → Cursor → Walked) (end : ℕ) (whole : Walked) (size : ℕ) (m : List ℕ) (k : Counts)
    (at : ℕ) : Type 0 where
  pub long : length m ≡ size
  pub ready : Ready m k at
  pub going : Going go_on (λ st at. Went st (cursor at end)) (λ st at. step st (cursor at end)) end whole (rows_at m k)
      at

module _ (step : Rows → Cursor → Walked) where
  pub rowing_start : (m : List ℕ) (k : Counts) (c : Cursor) → Ready m k c.at
      → Rowing step c.end (run step (rows_at m k) c) (length m) m k c.at
  unfolding run
  rowing_start m k c r = record { long = refl; ready = r; going = going_start _ _ _ c.end (rows_at m k) c.at }

  module _ (end : ℕ) (whole : Walked) (size : ℕ) (m : List ℕ) (k : Counts) (at : ℕ)
      (g : Rowing step end whole size m k at) where
    pub rowing_end : end ≤ at → whole ≡ Went (rows_at m k) (cursor at end)
    rowing_end h = sym (going_end _ _ _ end whole (rows_at m k) at g.going h)

    pub rowing_refused : (f : Fault) → at < end → step (rows_at m k) (cursor at end) ≡ Refused f → whole ≡ Refused f
    rowing_refused f h e = (going_on _ _ _ end whole (rows_at m k) at g.going h).rest ∙ rw e

    -- one turn, to memory and counts with the rows st'
    pub rowing_on : (s : List ℕ) (st' : Rows) (n : Cursor) (m' : List ℕ) (k' : Counts) → at < end
        → step (rows_at m k) (cursor at end) ≡ Went st' n
        → Past s (cursor at end) (rows_at m k).count st'.count n → length m' ≡ length m → rows_at m' k' ≡ st'
        → Holds m' (rows_at m' k') → Rowing step end whole size m' k' n.at
    rowing_on s st' n m' k' h e p l q v =
        let o = going_on _ _ _ end whole (rows_at m k) at g.going h in
        let j : k'.elements ≡ st'.count = sym (count_of m' k') ∙ ap (λ (x : Rows). x.count) q in
        let i : (rows_at m k).count ≡ k.elements = count_of m k in
        record {
          long = l ∙ g.long;
          ready = record { held = v; counted = omega (arith, g.ready.counted, p.long, j, i) };
          going = rw q record { fuel = o.fuel; enough = omega (arith, o.enough, p.some); rest = o.rest ∙ rw e };
        }
