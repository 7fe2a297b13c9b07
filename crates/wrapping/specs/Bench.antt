-- Bytes and their characters as RFC 4648, section 10, lists them; and texts with what each is
-- judged to be, every number written out.
use Rattle.std.specs.Prelude.{◌≡◌, List, [], ◌∷◌, ◌++◌, map, ℕ, zero, suc, Err, Ok, Result}
use Rattle.buffer.specs.Text.{ascii}
use Rattle.base64_chars.specs.Encoded.{encoded}
use Rattle.pem.specs.Wrap.{newline, begin, end}
use Rattle.pem.specs.Judged.{judged, break_at}
use Rattle.pem.specs.declared.Break.{Break}

-- ---- RFC 4648, section 10

unfoldable pub listed : List (List ℕ × List ℕ)
listed =
    (ascii "", ascii "")
    ∷ (ascii "f", ascii "Zg==")
    ∷ (ascii "fo", ascii "Zm8=")
    ∷ (ascii "foo", ascii "Zm9v")
    ∷ (ascii "foob", ascii "Zm9vYg==")
    ∷ (ascii "fooba", ascii "Zm9vYmE=")
    ∷ (ascii "foobar", ascii "Zm9vYmFy")
    ∷ []

abbrev pub Encodes : List (List ℕ × List ℕ) → Type 0
Encodes cases = map (λ (c : List ℕ × List ℕ). encoded c.0) cases ≡ map (λ (c : List ℕ × List ℕ). c.1) cases

-- ---- texts

-- a text, and what it is judged to be
pub record Case : Type 0 where
  pub text : List ℕ
  pub result : Result ℕ Break

abbrev pub Holds : List Case → Type 0
Holds cases = map (λ (c : Case). judged c.text) cases ≡ map (λ (c : Case). c.result) cases

-- lines between the first and the last
abbrev pub between : List ℕ → List ℕ
between lines = begin ++ lines ++ end

-- a line of these characters
abbrev pub row : List ℕ → List ℕ
row x = x ++ newline ∷ []

-- n times `A`
unfoldable pub many_a : ℕ → List ℕ
many_a zero = []
many_a (suc n) = 0x41 ∷ many_a n

abbrev pub wraps : List ℕ → ℕ → Case
wraps t n = record { text = t; result = Ok n }

abbrev pub breaks : List ℕ → ℕ → Case
breaks t p = record { text = t; result = Err (break_at p) }

unfoldable pub bench_texts : List Case
bench_texts =
    -- one, two and three bytes; a full line; a full line and another
    wraps (between (row (ascii "Zg=="))) 1
    ∷ wraps (between (row (ascii "Zm8="))) 2
    ∷ wraps (between (row (ascii "Zm9v"))) 3
    ∷ wraps (between (row (many_a 64))) 48
    ∷ wraps (between (row (many_a 64) ++ row (ascii "Zm9v"))) 51
    -- no byte; a blank in front; another label; lower-case words; the first line without its end,
    -- and with 0D in front of it
    ∷ breaks [] 0
    ∷ breaks (0x20 ∷ between (row (ascii "Zm9v"))) 0
    ∷ breaks (row (ascii "-----BEGIN CERTIFICATE-----")) 11
    ∷ breaks (row (ascii "-----begin pkcs12-----")) 5
    ∷ breaks (ascii "-----BEGIN PKCS12-----") 22
    ∷ breaks (ascii "-----BEGIN PKCS12-----" ++ 0x0D ∷ 0x0A ∷ []) 22
    -- no line of characters, an empty one; an empty line behind a full one
    ∷ breaks (between []) 23
    ∷ breaks (between (row [])) 23
    ∷ breaks (between (row (many_a 64) ++ row [])) 88
    -- unused bits that aren't zero
    ∷ breaks (between (row (ascii "Zh=="))) 25
    ∷ breaks (between (row (ascii "Zm9="))) 26
    -- padding: first, after one character, too short, too long; a blank between characters
    ∷ breaks (between (row (ascii "===="))) 23
    ∷ breaks (between (row (ascii "Z==="))) 24
    ∷ breaks (between (row (ascii "Zg="))) 26
    ∷ breaks (between (row (ascii "Zg==="))) 27
    ∷ breaks (between (row (ascii "Zm 9v"))) 25
    -- a line of 68; a short and a padded line before another; a line without its end
    ∷ breaks (between (row (many_a 68))) 87
    ∷ breaks (between (row (ascii "Zm9v") ++ row (ascii "Zm9v"))) 28
    ∷ breaks (between (row (ascii "Zg==") ++ row (ascii "Zm9v"))) 28
    ∷ breaks (between (ascii "Zm9v")) 27
    -- the last line without its end; a byte behind it
    ∷ breaks (begin ++ row (ascii "Zm9v") ++ ascii "-----END PKCS12-----") 48
    ∷ breaks (between (row (ascii "Zm9v")) ++ 0x0A ∷ []) 49
    ∷ []
