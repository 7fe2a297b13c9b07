-- By whether the call was refused.
use Rattle.stdio.proofs.Handed.{at_ok, equal_begun, equal_bytes, of_length, of_refusal}
use Rattle.stdio.proofs.Handed.{bytes_of_length, bytes_of_refusal}
use Rattle.stdio.proofs.write_result.Goals as goal

pub returns-in-Ok-clause-count : goal.returns-in-Ok-clause-count
returns-in-Ok-clause-count g c =
    at_ok c.write_front.result _ _
    (λ k e. of_length c.args.buffer.now c.args.res c.in-Ok.n k c.in-Ok.is e)
    c.write_front.ensures.count

pub returns-in-Ok-clause-bytes : goal.returns-in-Ok-clause-bytes
returns-in-Ok-clause-bytes g c =
    equal_bytes c.write_front.result _ _ _ _
    (bytes_of_length c.args.buffer.now c.args.res c.in-Ok.n c.in-Ok.is) c.write_front.ensures.bytes

pub returns-in-Err-clause-count : goal.returns-in-Err-clause-count
returns-in-Err-clause-count g c =
    at_ok c.write_refused.result _ _
    (λ k e. of_refusal c.args.buffer.now c.args.res c.in-Err.fault k c.in-Err.is e)
    c.write_refused.ensures.count

pub returns-in-Err-clause-bytes : goal.returns-in-Err-clause-bytes
returns-in-Err-clause-bytes g c =
    equal_bytes c.write_refused.result _ _ _ _
    (bytes_of_refusal c.args.buffer.now c.args.res c.in-Err.fault c.in-Err.is) c.write_refused.ensures.bytes

pub returns-in-Ok-clause-err : goal.returns-in-Ok-clause-err
returns-in-Ok-clause-err g c =
    equal_begun c.write_front.result _ _ _ _
    (bytes_of_length c.args.buffer.now c.args.res c.in-Ok.n c.in-Ok.is) c.write_front.ensures.err

pub returns-in-Err-clause-err : goal.returns-in-Err-clause-err
returns-in-Err-clause-err g c =
    equal_begun c.write_refused.result _ _ _ _
    (bytes_of_refusal c.args.buffer.now c.args.res c.in-Err.fault c.in-Err.is) c.write_refused.ensures.err
