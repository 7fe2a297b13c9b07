-- The sizes of the parts make that of the whole.
use Rattle.pkcs12.specs.Encode.{algorithm_bytes}
use Rattle.sizes.specs.Bodies.{algorithm_body, encrypted_info_body}
use Rattle.encode.proofs.Capped.{sizing}
use Rattle.sizes.proofs.Leaves.{data_type_sized}
use Rattle.sizes.proofs.encrypted_info.Goals as goal

pub returns : goal.returns
unfolding encrypted_info_body algorithm_bytes algorithm_body
returns c = search (sizing, data_type_sized) depth 14
