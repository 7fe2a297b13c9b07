-- The laws of `Span`: bytes from one offset up to another.
use mathlib.Core.Path.{◌≡◌, refl, sym, ap, ◌∙◌}
use mathlib.Core.List.{List, [], ◌∷◌, ◌++◌, append_assoc, append-nil}
use Prim.Native.Nat.{ℕ, zero, suc, ◌+◌, ◌≤◌, ◌<◌}
use native.Mathlib.Omega.{arith}
use native.Mathlib.Numerals.{add-one}
use lib.ListN.{length, get_or, take, drop, length-append, length-drop, take-append-drop, get_or-append}
use lib.Seq.{slice, drop-cons, drop-drop, drop-append_seam, drop-append-le}
use lib.Seq.{drop-length, get_or-drop, length-slice, length-take-le}
use Rattle.der.specs.Span.{Span, Bytes}
use Rattle.der.proofs.Octets.{append_same}

module _ (s : List ℕ) where
  pub span_whole : Span s 0 (length s) s
  span_whole = record { bytes = rw (drop-length s, append-nil s); size = omega arith; inside = omega arith }

  pub span_empty : (a : ℕ) → a ≤ length s → Span s a a []
  span_empty a h = record { bytes = refl; size = omega arith; inside = h }

  pub span_one : (a : ℕ) → a < length s → Span s a (a + 1) (get_or s a 0 ∷ [])
  span_one a h = record { bytes = rw add-one (drop-cons s a 0 h); size = refl; inside = omega arith }

  -- the bytes alone, where the offsets are known
  pub span_of : (a b : ℕ) (x : List ℕ) → drop a s ≡ x ++ drop b s → a ≤ b → b ≤ length s → Span s a b x
  span_of a b x e h k =
      record {
        bytes = e;
        size = omega (arith, ap length e, length-append x (drop b s), length-drop a s, length-drop b s);
        inside = k;
      }

  pub span_join : (a b c : ℕ) (x y : List ℕ) → Span s a b x → Span s b c y → Span s a c (x ++ y)
  span_join a b c x y p q =
      record {
        bytes = p.bytes ∙ ap (λ (l : List ℕ). x ++ l) q.bytes ∙ sym (append_assoc x y (drop c s));
        size = rw (length-append x y) (omega (arith, p.size, q.size));
        inside = q.inside;
      }

  -- a span of two lists is a span of each; the continuation k takes the offset where they meet
  pub span_split : {P : Type 0} (a c : ℕ) (x y : List ℕ) → Span s a c (x ++ y)
      → ((b : ℕ) → Span s a b x → Span s b c y → P) → P
  span_split a c x y p k =
      let z : a + (length x + length y) ≡ c = rw (← length-append x y) p.size in
      let e : drop (a + length x) s ≡ y ++ drop c s =
      rw (← drop-drop)
      (ap (drop (length x)) (p.bytes ∙ append_assoc x y (drop c s)) ∙ drop-append_seam x (y ++ drop c s)) in
      k (a + length x)
      (record {
        bytes = p.bytes ∙ append_assoc x y (drop c s) ∙ ap (λ (l : List ℕ). x ++ l) (sym e);
        size = refl;
        inside = omega (arith, p.inside);
      })
      (record { bytes = e; size = omega arith; inside = p.inside })

  pub span_same : (a b : ℕ) (x y : List ℕ) → Span s a b x → Span s a b y → x ≡ y
  span_same a b x y p q =
      (append_same x y (drop b s) (drop b s) (omega (arith, p.size, q.size)) (sym p.bytes ∙ q.bytes)).0

  -- the same bytes up to an end that is written otherwise
  pub span_to : (a b c : ℕ) (x : List ℕ) → b ≡ c → Span s a b x → Span s a c x
  span_to a b c x e p = rw e at p

  -- the bytes of a range, as a list
  pub span_slice : (a b : ℕ) → a ≤ b → b ≤ length s → Span s a b (slice a b s)
  span_slice a b h k =
      let l : a ≤ length (take b s) = rw (length-take-le b s k) h in
      record {
        bytes = ap (drop a) (sym (take-append-drop b s)) ∙ drop-append-le a (take b s) (drop b s) l;
        size = rw (length-slice a b s k) (omega arith);
        inside = k;
      }

  pub slice_span : (a b : ℕ) (x : List ℕ) → Span s a b x → slice a b s ≡ x
  slice_span a b x p = span_same a b (slice a b s) x (span_slice a b (omega (arith, p.size)) p.inside) p

  -- the byte i of a span, which is at the offset j
  pub span_at : (a b i j : ℕ) (x : List ℕ) → Span s a b x → a + i ≡ j → i < length x → get_or s j 0 ≡ get_or x i 0
  span_at a b i j x p e h =
      rw (← e)
      (sym (get_or-drop a s i 0) ∙ ap (λ (l : List ℕ). get_or l i 0) p.bytes ∙ get_or-append x (drop b s) 0 i h)

pub bytes_drop : (s : List ℕ) (a : ℕ) → Bytes s → Bytes (drop a s)
bytes_drop s zero b = b
bytes_drop [] (suc a) b = b
bytes_drop (x ∷ s) (suc a) b = bytes_drop s a b.1

pub bytes_take : (s : List ℕ) (a : ℕ) → Bytes s → Bytes (take a s)
bytes_take s zero b = tt
bytes_take [] (suc a) b = tt
bytes_take (x ∷ s) (suc a) b = (b.0, bytes_take s a b.1)
