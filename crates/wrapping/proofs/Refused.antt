-- Texts of the form by their bytes and by their characters; where a text is refused, and how many
-- bytes one of the form wraps.
use mathlib.Core.Path.{◌≡◌, refl, sym, ap, ◌∙◌}
use mathlib.Core.Logic.{◌↔◌, inl, inr}
use mathlib.Core.List.{List, [], ◌∷◌, ◌++◌}
use Prim.Native.Nat.{ℕ, suc, ◌≤◌, ◌<◌}
use native.Mathlib.Omega.{arith}
use lib.ListN.{length, take}
use lib.Seq.{take-length}
use Rattle.der.specs.Span.{Bytes}
use Rattle.der.proofs.Choices.{either}
use Rattle.base64_chars.specs.Encoded.{encoded}
use Rattle.base64_chars.proofs.Encoded.{encoded_coded, coded_encoded, encoded_count, coded_count, encoded_nonempty}
use Rattle.pem.specs.Wrap.{begin, end, fill, lines_of, wrap}
use Rattle.pem.specs.Judged.{judged, break_at}
use Rattle.pem.specs.declared.Break.{Break}
use Rattle.std.specs.Prelude.{Err, Ok, Result}
use Rattle.wrapping.specs.Text.{Text, Begins, GoesWrong, IsCut, RefusedAt, WrapsOf}
use Rattle.wrapping.proofs.Account.{BeginsIn, Broken, Account, wraps, breaks, account_broken, account_wraps}
use Rattle.wrapping.proofs.Account.{broken_breaks, broken_none}
use Rattle.wrapping.proofs.Judged.{TextIn, judged_account, text_number}

-- ---- bytes and characters

text_in : (t : List ℕ) (x : Text t) → TextIn (length x.bytes) t
unfolding wrap lines_of
text_in t x =
    record {
      chars = encoded x.bytes;
      coded = encoded_coded x.bytes 0;
      some = λ e. omega (arith, x.some, ap length (encoded_nonempty x.bytes e));
      is = x.is;
      number = sym (encoded_count x.bytes);
    }

-- characters of no bytes are none
bytes_some : (bytes cs : List ℕ) → encoded bytes ≡ cs → (cs ≡ [] → ⊥) → 1 ≤ length bytes
unfolding encoded
bytes_some [] cs e s = absurd (s (sym e))
bytes_some (b ∷ bytes) cs e s = omega arith

in_text : (t : List ℕ) (m : ℕ) → TextIn m t → WrapsOf t m
unfolding wrap lines_of
in_text t m x =
    let e = coded_encoded x.chars 0 x.coded in
    record {
      text =
          record {
            bytes = e.bytes;
            fit = e.fit;
            some = bytes_some e.bytes x.chars e.is x.some;
            is = x.is ∙ ap (λ cs. begin ++ fill 64 cs ++ end) (sym e.is);
          };
      number = x.number ∙ coded_count x.chars e;
    }

begins_in : (u : List ℕ) → Begins u → BeginsIn TextIn u
begins_in u b = record { rest = b.rest; number = _; word = text_in (u ++ b.rest) b.text }

in_begins : (u : List ℕ) → BeginsIn TextIn u → Begins u
in_begins u b = record { rest = b.rest; text = (in_text (u ++ b.rest) b.number b.word).text }

-- ---- where a text is refused

broken_refused : (t : List ℕ) (p : ℕ) → Broken TextIn t 0 p → RefusedAt t p
broken_refused t p x = either p (length t) (λ h. inl (wrong h)) (λ h. inr (cut (omega (arith, z, x.inside))))
  where
    z : x.k ≡ p
    z = omega (arith, x.offset)

    wrong : p < length t → GoesWrong t p
    wrong h =
        record {
          inside = h;
          good = in_begins (take p t) (rw z at x.good);
          bad = λ b. x.bad (omega (arith, z)) (rw z (begins_in (take (suc p) t) b));
        }

    cut : p ≡ length t → IsCut t p
    cut h =
        record {
          whole = h;
          good = in_begins t (rw (z, h, take-length t) at x.good);
          bad = λ b. x.cut (omega (arith, z)) _ (text_in t b);
        }

refused_broken : (t : List ℕ) (p : ℕ) → RefusedAt t p → Broken TextIn t 0 p
refused_broken t p (inl x) =
    record {
      k = p;
      offset = omega arith;
      inside = omega (arith, x.inside);
      good = begins_in (take p t) x.good;
      bad = λ h b. x.bad (in_begins (take (suc p) t) b);
      cut = λ h. absurd (omega (arith, x.inside));
    }
refused_broken t p (inr x) =
    record {
      k = p;
      offset = omega arith;
      inside = omega (arith, x.whole);
      good = rw (x.whole, take-length t) (begins_in t x.good);
      bad = λ h. absurd (omega (arith, x.whole));
      cut = λ h m w. x.bad (in_text t m w).text;
    }

-- `judged` refuses at the offset of Rule 11.7, and there only
pub refused_at : (t : List ℕ) (p : ℕ) → (judged t ≡ Err (break_at p)) ↔ RefusedAt t p
refused_at t p = (
  λ e. broken_refused t p (account_broken TextIn t 0 p (rw e at (judged_account t))),
  λ r. broken_breaks TextIn t 0 p (judged_account t) (refused_broken t p r),
)

-- ---- how many bytes a text wraps

pub judged_wraps : (t : List ℕ) (m : ℕ) → judged t ≡ Ok m → WrapsOf t m
judged_wraps t m e = in_text t m (account_wraps TextIn t 0 m (rw e at (judged_account t)))

text_wraps : (t : List ℕ) (m : ℕ) (j : Result ℕ Break) → Account TextIn t 0 j → TextIn m t → j ≡ Ok m
text_wraps t m j (wraps n x) y = ap Ok (text_number n m t x y)
text_wraps t m j (breaks p x) y = absurd (broken_none TextIn t 0 p m x y)

pub wrap_judged : (x : List ℕ) → Bytes x → 1 ≤ length x → judged (wrap x) ≡ Ok (length x)
wrap_judged x h l =
    text_wraps (wrap x) (length x) (judged (wrap x)) (judged_account (wrap x))
    (text_in (wrap x) (record { bytes = x; fit = h; some = l; is = refl }))
