-- The ways out of the functions.
use mathlib.Core.Path.{◌≡◌, sym, ◌∙◌}
use mathlib.Core.Bool.{Bool, true, false}
use mathlib.Core.List.{List}
use Prim.Native.Nat.{ℕ, ◌≤◌, ◌<◌}
use native.Mathlib.Omega.{arith}
use lib.ListN.{length, take, drop}
use lib.Seq.{take_at}
use Rattle.der.specs.Element.{fault}
use Rattle.buffer.specs.Numbers.{short_buffer}
use Rattle.pkcs12.specs.declared.kind.BagKind.{BagKind}
use Rattle.pkcs12.specs.declared.answers.Reading.{Reading}
use Rattle.der.specs.declared.Fault.{Fault}
use Rattle.std.specs.Prelude.{Err, Ok, Result}
use Rattle.buffer.specs.Placed.{greatest, Placed}
use Rattle.buffer.proofs.Placing.{placed_end, placed_whole}
use Rattle.buffer.proofs.Wrote.{wrote_nothing}
use Rattle.buffer.specs.Wrote.{Wrote}
use Rattle.buffer.specs.declared.write.Out.{Out}
use Rattle.buffer.proofs.Outcomes.{too_short, wrote}
use Rattle.pairing.specs.Pairs.{is_key}
use Rattle.pair_lines.specs.Lines.{pair_line, bag_line, pairs_text}
use Rattle.pair_lines.specs.Listed.{pairs_bytes, pairs_listed}
use Rattle.pair_lines.proofs.Short.{short}

-- the line of one bag
module _ (d : Out) (kind : BagKind) (u : Bool) (e : u ≡ is_key kind) where
  pub is_line : (m : Out) → u ≡ true → (i : ℕ) (p q : Result ℕ Fault) → p ≡ q → Wrote d (pair_line i p) m
      → Wrote d (bag_line kind i q) m
  unfolding bag_line
  is_line m t i p q w h = rw (sym e ∙ t) (rw w at h)

  pub no_line : u ≡ false → (i : ℕ) (p : Result ℕ Fault) → Wrote d (bag_line kind i p) d
  unfolding bag_line
  no_line t i p = rw (sym e ∙ t) (wrote_nothing d)

-- the text of a file's pairs, which was made in a buffer that holds any
module _ (s : List ℕ) (r : Reading) (d e : Out) (w : Wrote d (pairs_text s r) e) (a : d.at ≡ 0) where
  made : Placed d.buffer.now 0 (pairs_text s r) e.buffer.now e.at
  made = rw a at w.put

  below : length (pairs_text s r) ≤ greatest
  below = omega (arith, short s r)

  made_length : e.at ≡ length (pairs_text s r)
  made_length = placed_end made below

  pub made_most : e.at ≤ pairs_bytes
  made_most = omega (arith, made_length, short s r)

  -- its first bytes
  made_whole : pairs_bytes ≡ length d.buffer.now → take e.at e.buffer.now ≡ pairs_text s r
  made_whole h =
      let x : List ℕ = pairs_text s r in
      rw (placed_whole made (omega (arith, short s r, h)) below) (take_at x (drop (length x) d.buffer.now) e.at (sym made_length))

  module _ (buffer : List ℕ) where
    -- the answer and the buffer afterwards are those of `list`
    abbrev pub Left : Result ℕ Fault → List ℕ → Type 0
    Left v z = (v ≡ (pairs_listed s r buffer).answer) × (z ≡ (pairs_listed s r buffer).buffer)

    pub list_refused : length buffer < e.at → Left (Err (fault short_buffer 0)) buffer
    list_refused h = too_short (pairs_text s r) buffer e.at made_length h

    pub list_wrote : e.at ≤ length buffer → pairs_bytes ≡ length d.buffer.now → (x : List ℕ) → x ≡ take e.at e.buffer.now
        → (z : List ℕ) (k : ℕ) → Placed buffer 0 x z k → Left (Ok e.at) z
    list_wrote h l x q z k w = wrote (pairs_text s r) buffer e.at made_length h below z k (rw (q ∙ made_whole l) at w)
