-- The algebra of writing what is no longer than a file: parts behind parts, an element behind its
-- header.
use mathlib.Core.Path.{◌≡◌, ◌∙◌}
use mathlib.Core.List.{List, [], ◌++◌}
use Prim.Native.Nat.{ℕ, ◌≤◌}
use native.Mathlib.Omega.{arith}
use lib.ListN.{length, drop}
use Rattle.der.specs.Octets.{tlv}
use Rattle.der.proofs.Octets.{tlv_long}
use Rattle.buffer.specs.Numbers.{file_bytes}
use Rattle.buffer.specs.Placed.{Short}
use Rattle.buffer.specs.declared.write.Out.{Out}
use Rattle.buffer.specs.Wrote.{Wrote}
use Rattle.buffer.proofs.Placing.{short_parted, placed_whole}
use Rattle.buffer.proofs.Wrote.{wrote_nothing, ◌then◌}
use Rattle.encode.specs.Header.{header}
use Rattle.encode.specs.Sizes.{capped}
use Rattle.encode.proofs.Capped.{Near, Sized, near_cases, sized_told}
use Rattle.encode.proofs.Writes.{element_by}
use Rattle.writer.specs.Wrote.{WroteIf, WroteShort}

-- what is written if a condition holds
pub when : {P : Type 0} {d : Out} {x : List ℕ} {e : Out} → e.buffer.ghost_name ≡ d.buffer.ghost_name → (P → Wrote d x e) → WroteIf P d x e
when s f = record { put = λ h. (f h).put; same = s }

-- the condition holds
pub known : {P : Type 0} {d : Out} {x : List ℕ} {e : Out} → WroteIf P d x e → P → Wrote d x e
known w h = record { put = w.put h; same = w.same }

-- what needs no condition
pub sure : {P : Type 0} {d : Out} {x : List ℕ} {e : Out} → Wrote d x e → WroteIf P d x e
sure w = record { put = λ h. w.put; same = w.same }

pub short_nothing : (d : Out) → WroteShort d [] d
short_nothing d = sure (wrote_nothing d)

-- what is written is the same by another name
pub short_as : {d : Out} {x y : List ℕ} {e : Out} → x ≡ y → WroteShort d x e → WroteShort d y e
short_as q w = rw (← q) w

-- y is written behind x
pub short_then : {d : Out} {x : List ℕ} {m : Out} {y : List ℕ} {e : Out} → WroteShort d x m → WroteShort m y e → WroteShort d (x ++ y) e
short_then {x = x} {y = y} f g =
    when (g.same ∙ f.same) (λ (h : Short (x ++ y)). known f (short_parted.front x y h) then known g (short_parted.back x y h))

-- it is enough to write what is no more than a file has
pub if_short : {d : Out} {x : List ℕ} {e : Out} → e.buffer.ghost_name ≡ d.buffer.ghost_name
    → (length x ≤ file_bytes → WroteShort d x e) → WroteShort d x e
if_short {x = x} s f = when s (λ (h : Short x). known (f h.short) h)

-- a number that is near a small one is that one
pub near_small : (a b : ℕ) → Near a b → b ≤ file_bytes → a ≡ b
near_small a b n h = near_cases a b n (λ e. e) (λ u v. absurd (omega (arith, v, h)))

-- the body of an element is written behind its header, which has the body's size
pub put_element : (t : ℕ) {d : Out} {n : ℕ} {m : Out} {b : List ℕ} {e : Out}
    → Wrote d (header t n) m → Sized n b → WroteShort m b e → WroteShort d (tlv t b) e
put_element t {d} {n} {m} {b} {e} f s g = when (g.same ∙ f.same) go
  where
    go : Short (tlv t b) → Wrote d (tlv t b) e
    go h =
        let l : length b ≤ file_bytes = omega (arith, h.short, tlv_long t b) in
        element_by n d t m b e (near_small n (length b) s l) f (known g (record { short = l }))

-- the same with the capped size of the body
pub put_sized : (t : ℕ) {d : Out} {n : ℕ} {m : Out} {b : List ℕ} {e : Out}
    → Wrote d (header t n) m → n ≡ capped (length b) → WroteShort m b e → WroteShort d (tlv t b) e
put_sized t {n = n} {b = b} f s g = put_element t f (sized_told n b s) g

-- the file at the front of a buffer that is long enough
pub whole_put : {q : Out} {f : List ℕ} {e : Out} {d : List ℕ} → WroteShort q f e → q.buffer.now ≡ d → q.at ≡ 0
    → length f ≤ length d → length f ≤ file_bytes → e.buffer.now ≡ f ++ drop (length f) d
whole_put {f = f} w a b h k = placed_whole (rw (a, b) at (w.put (record { short = k }))) h (omega (arith, k))
