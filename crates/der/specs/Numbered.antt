-- The numbers, sizes and tags of this crate, each beside the name that the definitions use for it.
-- They are written out as the rules have them, and `numbers_named` (proofs/Numbered.antt) says
-- that each name has the value beside it.
use Rattle.std.specs.Prelude.{List, [], ◌∷◌, ℕ}
use Rattle.der.specs.Named.{Named}
use Rattle.der.specs.Numbers.{missing, tag_form, length_form, other_tag, content, left_over, too_many, overrun}
use Rattle.der.specs.Numbers.{integer_tag, octet_string_tag, identifier_tag, sequence_tag, set_tag, context_tag}
use Rattle.der.specs.Numbers.{length_bound, integer_bound, opaque_levels}

-- Rules 5.1 to 5.6, 5.8, 5.15
unfoldable pub named_refusals : List (ℕ × ℕ)
named_refusals =
    (missing, 1)
    ∷ (tag_form, 2)
    ∷ (length_form, 3)
    ∷ (other_tag, 4)
    ∷ (content, 5)
    ∷ (left_over, 6)
    ∷ (too_many, 8)
    ∷ (overrun, 15)
    ∷ []

-- Rules 2.7 (levels of an opaque element), 2.3 (lengths are below 10000, hex)
unfoldable pub named_sizes : List (ℕ × ℕ)
named_sizes = (opaque_levels, 16) ∷ (length_bound, 0x10000) ∷ []

-- Rules 3.3 (SEQUENCE), 3.13 (SET), 3.4 ([0]), 2.9 (INTEGER), 2.10 (OCTET STRING), 2.8 (OBJECT
-- IDENTIFIER)
unfoldable pub named_tags : List (ℕ × ℕ)
named_tags =
    (sequence_tag, 0x30)
    ∷ (set_tag, 0x31)
    ∷ (context_tag, 0xA0)
    ∷ (integer_tag, 0x02)
    ∷ (octet_string_tag, 0x04)
    ∷ (identifier_tag, 0x06)
    ∷ []

-- Rule 2.9: numbers are below this bound
unfoldable pub named_integers : List (ℕ × ℕ)
named_integers = (integer_bound, 2_147_483_648) ∷ []

-- all of them
pub record NumbersNamed : Type 0 where
  pub refusals : Named named_refusals
  pub sizes : Named named_sizes
  pub tags : Named named_tags
  pub integers : Named named_integers
