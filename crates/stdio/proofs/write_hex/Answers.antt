-- As many bytes are handed on as there are digits, and a byte has two.
use Rattle.std.proofs.Common.{◌≡◌, ◌∙◌, ap, arith}
use Rattle.io.specs.Digits.{last_digits}
use Rattle.stdio.proofs.Handed.{at_ok, equal_begun, equal_bytes, all_digits, two_digits}
use Rattle.stdio.proofs.write_hex.Goals as goal

pub returns-clause-count : goal.returns-clause-count
returns-clause-count g c =
    at_ok c.write_text.result _ _
    (λ k e.
    let same : k ≡ c.hex-two.result = omega (arith, e, c.hex-two.ensures.in_bounds.1) in
    two_digits c.args.b k (omega arith) (all_digits 16 2 c.args.b c.hex-two.result k same c.hex-two.ensures.len))
    c.write_text.ensures.count

pub returns-clause-bytes : goal.returns-clause-bytes
returns-clause-bytes g c =
    let two : c.hex-two.result ≡ 2 = two_digits c.args.b c.hex-two.result (omega arith) c.hex-two.ensures.len in
    equal_bytes c.write_text.result _ _ _ _
    (c.hex-two.ensures.digits ∙ ap (λ k. last_digits 16 k c.args.b) two) c.write_text.ensures.bytes

pub returns-clause-err : goal.returns-clause-err
returns-clause-err g c =
    let two : c.hex-two.result ≡ 2 = two_digits c.args.b c.hex-two.result (omega arith) c.hex-two.ensures.len in
    equal_begun c.write_text.result _ _ _ _
    (c.hex-two.ensures.digits ∙ ap (λ k. last_digits 16 k c.args.b) two) c.write_text.ensures.err
