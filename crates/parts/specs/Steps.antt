-- Pieces of the definitions of parts, as the private functions take them. Nothing here has to be
-- believed: contracts of public functions name the definitions of `pkcs12`, and each piece is
-- proved to be a part of one.
use Rattle.std.specs.Prelude.{Bool, List, ℕ, ◌+◌, leb, ltb}
use Rattle.std.specs.Prelude.{if◌then◌else◌}
use Rattle.der.specs.Numbers.{opaque_levels}
use Rattle.der.specs.Element.{fault, finish_at, expect_at, on_element}
use Rattle.der.specs.Opaque.{on_checked, opaque_at}
use Rattle.der.specs.declared.Cursor.{Cursor}
use Rattle.range.specs.Range.{range, no_range}
use Rattle.pkcs12.specs.Numbers.{not_served, ciphertext_tag}
use Rattle.pkcs12.specs.Table.{parts}
use Rattle.pkcs12.specs.Walk.{range_of, on_parts, algorithm_at, with_value, value_at, encrypted_info_at}
use Rattle.pkcs12.specs.declared.row.Parts.{Parts}
use Rattle.der.specs.declared.Fault.{Fault}
use Rattle.pkcs12.specs.Table.{parsed}
use Rattle.pkcs12.specs.declared.answers.Parsed.{Parsed}
use Rattle.std.specs.Prelude.{Err, Ok, Result}

-- the parameters that are at m, of the algorithm with identifier i; n is past its SEQUENCE
unfoldable pub some_parameters_at : List ℕ → Cursor → Cursor → Cursor → Result (Parsed Parts) Fault
some_parameters_at s i m n =
    on_checked (opaque_at opaque_levels s m) Err
    (λ k e.
    on_checked (finish_at e) Err
    (λ z f. Ok (parsed (parts (range_of i) (range m.at e.at) no_range) (k + 2) n)))

-- the parameters of the algorithm with identifier i, from m on; its SEQUENCE ends at `stop`, and n
-- is past it
unfoldable pub parameters_at : List ℕ → Cursor → Cursor → ℕ → Cursor → Result (Parsed Parts) Fault
parameters_at s i m stop n =
    if ltb m.at m.end then some_parameters_at s i m n else
    Ok (parsed (parts (range_of i) (range stop stop) no_range) 2 n)

-- the value with this tag behind an algorithm; k is the count of all of them
unfoldable pub sealed_value_at : ℕ → List ℕ → Parts → ℕ → Cursor → Cursor → Result (Parsed Parts) Fault
sealed_value_at tag s p k m n =
    on_element (expect_at tag s m) Err
    (λ t o e.
    on_checked (finish_at e) Err
    (λ z f. Ok (parsed (with_value p (range_of o)) k n)))

-- the value in [0] behind the identifier i of its type
unfoldable pub typed_value_at : Bool → List ℕ → Cursor → Cursor → Cursor → Cursor → Result (Parsed Parts) Fault
typed_value_at octets s i v e n =
    on_checked (value_at octets s v) Err
    (λ k f.
    on_checked (finish_at f) Err
    (λ z g.
    on_checked (finish_at e) Err
    (λ z h. Ok (parsed (parts (range_of i) no_range (range v.at f.at)) (k + 3) n))))

-- the algorithm at m and its ciphertext
unfoldable pub encrypted_parts_at : List ℕ → Cursor → Cursor → Result (Parsed Parts) Fault
encrypted_parts_at s m n =
    on_parts (algorithm_at s m) Err
    (λ p k e.
    if leb e.end e.at then Err (fault not_served e.end) else
    sealed_value_at ciphertext_tag s p (k + 3) e n)

-- the EncryptedContentInfo at m, which ends the EncryptedData
unfoldable pub encrypted_content_at : List ℕ → Cursor → Cursor → Result (Parsed Parts) Fault
encrypted_content_at s m n =
    on_parts (encrypted_info_at s m) Err
    (λ p k e.
    on_checked (finish_at e) Err
    (λ z f. Ok (parsed p (k + 2) n)))
