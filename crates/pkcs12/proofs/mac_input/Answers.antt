-- The part is the definition's; what a `&[u8]` holds are bytes.
use Rattle.der.proofs.Promised.{all_bytes}
use Rattle.pkcs12.proofs.mac_input.Goals as goal

pub returns-clause-bytes : goal.returns-clause-bytes
returns-clause-bytes c = search all_bytes
