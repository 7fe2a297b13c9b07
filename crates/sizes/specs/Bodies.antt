-- The bodies of the elements that `Encode` writes, by name.
use Rattle.std.specs.Prelude.{List, [], ◌++◌, ℕ}
use Rattle.der.specs.Octets.{tlv, integer, octet_string, identifier}
use Rattle.der.specs.Numbers.{set_tag, context_tag}
use Rattle.pkcs12.specs.Numbers.{ciphertext_tag, encrypted_version}
use Rattle.pkcs12.specs.Identifiers.{data_type}
use Rattle.pkcs12.specs.Syntax.{Algorithm, Sealed, Attribute, MacData}
use Rattle.pkcs12.specs.Encode.{algorithm_bytes, sealed_bytes, leaf_bytes, encrypted_info, iterations_bytes}
use Rattle.pkcs12.specs.Values.{on_content}
use Rattle.range.specs.Range.{bytes_in}
use Rattle.pkcs12.specs.Table.{content_in}
use Rattle.pkcs12.specs.declared.row.Parts.{Parts}
use Rattle.pkcs12.specs.declared.kind.BagKind.{BagKind}
use Rattle.pkcs12.specs.declared.row.AttributeRow.{AttributeRow}

unfoldable pub algorithm_body : Algorithm → List ℕ
algorithm_body a = identifier a.identifier ++ a.parameters

unfoldable pub sealed_body : Sealed → List ℕ
sealed_body x = algorithm_bytes x.algorithm ++ octet_string x.octets

unfoldable pub typed_body : List ℕ → List ℕ → List ℕ
typed_body t v = identifier t ++ tlv context_tag v

-- what is in [0] of a bag that holds no bags; an empty row and a nested bag have nothing here
unfoldable pub content_of : List ℕ → BagKind → Parts → List ℕ
content_of s k p = on_content (content_in s k p) [] leaf_bytes []

unfoldable pub attribute_in : List ℕ → AttributeRow → Attribute
attribute_in s r = record { identifier = bytes_in s r.identifier; values = bytes_in s r.values }

unfoldable pub attribute_body : Attribute → List ℕ
attribute_body a = identifier a.identifier ++ tlv set_tag a.values

unfoldable pub encrypted_info_body : Sealed → List ℕ
encrypted_info_body x = identifier data_type ++ (algorithm_bytes x.algorithm ++ tlv ciphertext_tag x.octets)

unfoldable pub encrypted_data_body : Sealed → List ℕ
encrypted_data_body x = integer encrypted_version ++ encrypted_info x

unfoldable pub mac_body : MacData → List ℕ
mac_body m = sealed_bytes m.digest ++ (octet_string m.salt ++ iterations_bytes m.iterations)
