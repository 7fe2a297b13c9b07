-- What is before the contents of bags, ContentInfos and data, by their sizes.
use Rattle.std.specs.Prelude.{List, ◌++◌, ℕ}
use Rattle.der.specs.Octets.{identifier}
use Rattle.der.specs.Numbers.{octet_string_tag, sequence_tag, context_tag}
use Rattle.pkcs12.specs.Identifiers.{identifier_of}
use Rattle.pkcs12.specs.declared.kind.BagKind.{BagKind}
use Rattle.encode.specs.Header.{header}
use Rattle.sizes.specs.Sizes.{bag_size, content_info_size}
use Rattle.encode.specs.Sizes.{element_size}

-- what is before the content of a bag, by the sizes of its content and of its set
unfoldable pub bag_head : BagKind → ℕ → ℕ → List ℕ
bag_head k content set = header sequence_tag (bag_size content set) ++ (identifier (identifier_of k) ++ header context_tag content)

-- what is before the content of a ContentInfo of a type
unfoldable pub info_head : List ℕ → ℕ → List ℕ
info_head type content = header sequence_tag (content_info_size content) ++ (identifier type ++ header context_tag content)

-- what is before the elements of the SEQUENCE in an OCTET STRING of data
unfoldable pub data_head : List ℕ → ℕ → List ℕ
data_head type n = info_head type (element_size (element_size n)) ++ (header octet_string_tag (element_size n) ++ header sequence_tag n)
