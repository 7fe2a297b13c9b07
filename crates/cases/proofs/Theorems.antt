-- What reading returns for files that the rules name, computed.
use Rattle.cases.specs.Bench.{Holds, bench_cases}
use Rattle.cases.specs.Telling.{slip_cases, number_cases}
use Rattle.cases.proofs.Bench as bench

-- Cases (a) to (j) of Rule 8.4, files that detect slips of Rule 8.5, and files that detect a wrong
-- number: what reading each returns, with every field of the table.
pub bench_table : Holds bench_cases
bench_table = bench.bench

pub slips_table : Holds slip_cases
slips_table = bench.slips

pub numbers_table : Holds number_cases
numbers_table = bench.numbers
