-- The sizes of the parts make that of the whole.
use Rattle.pkcs12.specs.Encode.{sealed_bytes}
use Rattle.sizes.specs.Bodies.{sealed_body, mac_body}
use Rattle.encode.proofs.Capped.{sizing}
use Rattle.sizes.proofs.mac.Goals as goal

pub returns : goal.returns
unfolding mac_body sealed_bytes sealed_body
returns c = search sizing depth 14
