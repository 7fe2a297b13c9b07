-- The uploads of the bench set, computed.
use mathlib.Core.Path.{refl}
use Rattle.header.specs.Header.{entering, on_tag, on_length, on_one, on_first, on_second}
use Rattle.stream.specs.Upload.{end_at, parent_end, still_open, closed_to, closed_at, body_before, body_from, one_more}
use Rattle.stream.specs.Upload.{entered, passed, stepped, taken, no_ends, first, begun, ended}
use Rattle.uploads.specs.Bench.{Holds, m, nested, nested_long, bench_cases}

pub bench_uploads : Holds bench_cases
unfolding bench_cases m nested nested_long begun first no_ends taken stepped ended entering on_tag on_length on_one on_first
    on_second end_at parent_end still_open closed_to closed_at body_before body_from one_more entered passed
bench_uploads = refl
