-- Each name is its number, computed.
use mathlib.Core.Path.{refl}
use Rattle.der.specs.Named.{Named}
use Rattle.der.proofs.Named.{each_named}
use Rattle.pkcs12.specs.Identifiers.{data_type, signed_type, enveloped_type, encrypted_type, x509_certificate}
use Rattle.pkcs12.specs.Identifiers.{identifier_of}
use Rattle.pkcs12.specs.Numbered.{NumbersNamed, named_refusals, named_sizes, named_tags, named_integers}
use Rattle.pkcs12.specs.Numbered.{named_identifiers}

identifiers_named : Named named_identifiers
unfolding named_identifiers data_type signed_type enveloped_type encrypted_type x509_certificate identifier_of
identifiers_named = each_named named_identifiers refl

pub numbers_named : NumbersNamed
unfolding named_refusals named_sizes named_tags named_integers
numbers_named =
    record {
      refusals = each_named named_refusals refl;
      sizes = each_named named_sizes refl;
      tags = each_named named_tags refl;
      integers = each_named named_integers refl;
      identifiers = identifiers_named;
    }
