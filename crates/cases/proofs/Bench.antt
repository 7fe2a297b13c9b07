-- The bench set, and the files that detect slips and wrong numbers, computed.
use mathlib.Core.Path.{refl}
use Rattle.der.specs.Element.{no_byte_left, tag_at, finish_at, within, one_octet, two_octets, extent_at, element_at, expect_at}
use Rattle.der.specs.Content.{parts, identifier_body, identifier_at, integer_body, and_digit, integer_value, integer_at}
use Rattle.der.specs.Many.{many}
use Rattle.der.specs.Opaque.{opaque_at, elements_at}
use Rattle.der.specs.Opaque as opaque
use Rattle.pkcs12.specs.Identifiers.{data_type, signed_type, enveloped_type, encrypted_type, x509_certificate}
use Rattle.pkcs12.specs.Identifiers.{identifier_of, kind_of}
use Rattle.range.specs.Bytes.{same_bytes}
use Rattle.pkcs12.specs.Table.{table_of, empty_table}
use Rattle.pkcs12.specs.Walk.{algorithm_at, sealed_at, key_at, value_at, typed_at, encrypted_info_at, encrypted_at, run}
use Rattle.pkcs12.specs.Walk.{attribute_at, set_at, bag_at, safe_contents_at, data_at, plain_at, sealed_safe_at}
use Rattle.pkcs12.specs.Walk.{safe_value_at, safe_at, safes_at, outer_value_at, outer_at, iterations_at, mac_at, body_at}
use Rattle.pkcs12.specs.Walk.{pfx_at, read_file}
use Rattle.cases.specs.Bench.{Holds, bench_cases}
use Rattle.cases.specs.Telling.{slip_cases, number_cases, times, deep, nests}
use Rattle.der.specs.Octets.{tlv, length_octets, digits, digits_from}

computed : Holds bench_cases × Holds slip_cases × Holds number_cases
unfolding no_byte_left tag_at finish_at within one_octet two_octets extent_at element_at expect_at parts identifier_body
    identifier_at integer_body and_digit integer_value integer_at many opaque_at elements_at opaque.run data_type signed_type
    enveloped_type encrypted_type x509_certificate identifier_of same_bytes kind_of table_of empty_table algorithm_at
    sealed_at key_at value_at typed_at encrypted_info_at encrypted_at run attribute_at set_at bag_at safe_contents_at data_at
    plain_at sealed_safe_at safe_value_at safe_at safes_at outer_value_at outer_at iterations_at mac_at body_at pfx_at read_file
    bench_cases slip_cases number_cases times deep nests tlv length_octets digits digits_from
computed = (refl, refl, refl)

pub bench : Holds bench_cases
bench = computed.0

pub slips : Holds slip_cases
slips = computed.1

pub numbers : Holds number_cases
numbers = computed.2
