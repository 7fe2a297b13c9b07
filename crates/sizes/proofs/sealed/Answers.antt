-- The sizes of the parts make that of the whole.
use Rattle.pkcs12.specs.Encode.{algorithm_bytes}
use Rattle.sizes.specs.Bodies.{algorithm_body, sealed_body}
use Rattle.encode.proofs.Capped.{sizing}
use Rattle.sizes.proofs.sealed.Goals as goal

pub returns : goal.returns
unfolding sealed_body algorithm_bytes algorithm_body
returns c = search sizing depth 14
