-- The sizes, the tags and the numbers of refusals that the definitions name, beside those of `der`
-- and `buffer`.
use Rattle.std.specs.Prelude.{ℕ}

-- Rule 1.3: a table has 16 safe rows, 64 bag rows and 128 attribute rows
abbrev pub safe_rows : ℕ
safe_rows = 16

abbrev pub bag_rows : ℕ
bag_rows = 64

abbrev pub attribute_rows : ℕ
attribute_rows = 128

-- Rule 1.4: the levels of safe contents, of which those of a plain safe are level 1
abbrev pub levels : ℕ
levels = 8

-- Rule 5.7: PKCS #12 that isn't served
abbrev pub not_served : ℕ
not_served = 7

-- Rule 5.12: a row number that isn't in the table, or a row that isn't a key's
abbrev pub no_row : ℕ
no_row = 12

-- Rule 3.10: the tag of the ciphertext
abbrev pub ciphertext_tag : ℕ
ciphertext_tag = 0x80

-- Rules 3.3, 3.9, 5.7: the versions of a PFX and of EncryptedData, and the one of EncryptedData
-- that is 7
abbrev pub pfx_version : ℕ
pfx_version = 3

abbrev pub encrypted_version : ℕ
encrypted_version = 0

abbrev pub attributed_version : ℕ
attributed_version = 2

-- Rule 3.22: iterations that are absent are 1
abbrev pub default_iterations : ℕ
default_iterations = 1
