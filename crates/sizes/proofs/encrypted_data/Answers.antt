-- The sizes of the parts make that of the whole.
use Rattle.pkcs12.specs.Encode.{encrypted_info}
use Rattle.sizes.specs.Bodies.{encrypted_info_body, encrypted_data_body}
use Rattle.encode.proofs.Capped.{sizing}
use Rattle.sizes.proofs.Leaves.{encrypted_version_sized}
use Rattle.sizes.proofs.encrypted_data.Goals as goal

pub returns : goal.returns
unfolding encrypted_data_body encrypted_info encrypted_info_body
returns c = search (sizing, encrypted_version_sized) depth 14
