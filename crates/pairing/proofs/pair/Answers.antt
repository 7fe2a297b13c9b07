-- Each way out is the definition's, by what the callees returned. What a `&[u8]` holds are bytes.
use Rattle.std.proofs.Common.{arith, ◌≡◌, get_or, ap}
use Rattle.std.proofs.lemmas.Grind.{common_steps}
use Rattle.std.proofs.lemmas.Option.{gets}
use Rattle.der.proofs.Promised.{all_bytes}
use Rattle.pairing.specs.Pairs.{no_identity}
use Rattle.pairing.specs.Report.{paired_report}
use Rattle.pairing.proofs.Rules.{unsound, no_key_row, key_row}
use Rattle.pairing.proofs.pair.Goals as goal

pub returns-then-not-ids_lie-clause-value : goal.returns-then-not-ids_lie-clause-value
returns-then-not-ids_lie-clause-value c = search unsound

pub returns-then-not-ids_lie-clause-report : goal.returns-then-not-ids_lie-clause-report
returns-then-not-ids_lie-clause-report c = ap paired_report (returns-then-not-ids_lie-clause-value c)

pub returns-then-not-ids_lie-clause-bytes : goal.returns-then-not-ids_lie-clause-bytes
returns-then-not-ids_lie-clause-bytes c = search all_bytes

pub returns-then-not-is_key-clause-value : goal.returns-then-not-is_key-clause-value
returns-then-not-is_key-clause-value c =
    let row : c.unwrap_or-row.result ≡ get_or c.args.rows.now c.args.key no_identity =
    grind (arith, common_steps, gets) in
    search no_key_row

pub returns-then-not-is_key-clause-report : goal.returns-then-not-is_key-clause-report
returns-then-not-is_key-clause-report c = ap paired_report (returns-then-not-is_key-clause-value c)

pub returns-then-not-is_key-clause-bytes : goal.returns-then-not-is_key-clause-bytes
returns-then-not-is_key-clause-bytes c = search all_bytes

pub returns-clause-value : goal.returns-clause-value
returns-clause-value c =
    let row : c.unwrap_or-row.result ≡ get_or c.args.rows.now c.args.key no_identity =
    grind (arith, common_steps, gets) in
    search key_row

pub returns-clause-report : goal.returns-clause-report
returns-clause-report c = ap paired_report (returns-clause-value c)

pub returns-clause-bytes : goal.returns-clause-bytes
returns-clause-bytes c = search all_bytes
