-- What is proved of listings, beside the contract of `list`.
use mathlib.Core.Path.{◌≡◌}
use mathlib.Core.List.{List}
use Prim.Native.Nat.{ℕ, ◌≤◌}
use native.Mathlib.Omega.{arith}
use lib.ListN.{length}
use Rattle.cases.specs.Bench.{m}
use Rattle.pkcs12.specs.Walk.{read_file}
use Rattle.buffer.specs.Written.{success}
use Rattle.pkcs12.specs.declared.answers.Reading.{Reading}
use Rattle.buffer.specs.Text.{ascii}
use Rattle.listing.specs.Lines.{listing}
use Rattle.listing.specs.Listed.{listed}
use Rattle.listing.proofs.Bench.{m_listed}
use Rattle.listing.proofs.Short.{short}
use Rattle.buffer.proofs.Outcomes.{written}

-- Rule 8.2: the whole listing of M
pub bench_listing : listing (length m) (read_file m)
    ≡ ascii "pfx 47 bytes, 13 elements\nsafes 0, bags 0, attributes 0\nmac input 22..24, digest 43..44, salt 46..47, iterations 1\n"
bench_listing = m_listed

-- every listing fits 65,536 bytes
pub listing_short : (size : ℕ) (r : Reading) → length (listing size r) ≤ 65536
listing_short size r = short size r

-- `list` refuses no buffer of 65,536 bytes or more
pub listed_in : (size : ℕ) (r : Reading) (buffer : List ℕ) → 65536 ≤ length buffer → listed size r buffer ≡ success (listing size r) buffer
listed_in size r buffer h = written (listing size r) buffer (omega (arith, h, short size r))
