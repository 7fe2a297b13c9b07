-- The characters that RFC 4648 lists, and the texts of the bench set, computed.
use mathlib.Core.Path.{refl}
use Rattle.buffer.specs.Text.{ascii}
use Rattle.base64_chars.specs.Alphabet.{alphabet, letter_of, index_of, value_of}
use Rattle.base64_chars.specs.Encoded.{encoded}
use Rattle.pem.specs.Wrap.{begin, end}
use Rattle.pem.specs.Judged.{agreeing, ending, closed_by, ended, in_line, judged}
use Rattle.wrapping.specs.Bench.{Encodes, listed, Holds, many_a, bench_texts}

pub listed_encodes : Encodes listed
unfolding listed encoded letter_of alphabet ascii
listed_encodes = refl

pub bench_texts_lem : Holds bench_texts
unfolding bench_texts many_a begin end ascii judged in_line ended closed_by ending agreeing value_of index_of alphabet
bench_texts_lem = refl
