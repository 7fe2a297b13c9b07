-- A write hands on from where the text stands, as many bytes as it took.
use Rattle.std.proofs.Common.{◌≡◌, ℕ, ◌+◌, ◌-◌, ◌≤◌, List, ◌++◌, arith}
use Rattle.std.proofs.Common.{length, take, drop, sym, ap, ◌∙◌, subst}
use Rattle.std.proofs.lemmas.List.{length-take, take-take}
use Rattle.std.specs.Io.KnownBytes.{Appends}
use Rattle.std.proofs.KnownBytes.{Appends-trans}
use lib.Seq.{take-add}
use Rattle.stdio.proofs.write_text.Goals as goal

-- no more is taken of what is left than there is
room : (a n : ℕ) (xs : List ℕ) → n ≤ length (take (length xs - a) (drop a xs)) → n ≤ length xs - a
room a n xs h = omega (arith, h, length-take (length xs - a) (drop a xs))

-- the front, and the first bytes of what is left
front_grown : (a n : ℕ) (xs : List ℕ) → n ≤ length xs - a
    → take a xs ++ take n (take (length xs - a) (drop a xs)) ≡ take (a + n) xs
front_grown a n xs h =
    ap (λ l. take a xs ++ l) (take-take n (length xs - a) (drop a xs) h) ∙ sym (take-add a n xs)

pub loop-sent-preserved : goal.loop-sent-preserved
loop-sent-preserved g c =
    let text = c.args.text.now in
    let from = c.loop-sent.sent in
    let n = c.in_ok-n.n in
    let fits : n ≤ length text - from = room from n text c.in_ok-n.ensures.bound in
    let within = c.loop-sent.invariant.within in
    record {
      within = omega (arith, fits, within);
      given =
          subst (Appends _ _) (front_grown from n text fits)
          (Appends-trans _ _ _ _ _ c.loop-sent.invariant.given c.in_ok-n.ensures.bytes);
    }
