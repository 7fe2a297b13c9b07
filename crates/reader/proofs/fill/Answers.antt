-- The walk, then the end of the table, or of an empty one.
use borrow.Author.Rules.{rules}
use Rattle.der.proofs.Promised.{all_bytes}
use Rattle.reader.proofs.Filled.{refused_answer, refused_words, accepted_answer, accepted_words}
use Rattle.reader.proofs.fill.Goals as goal

pub returns-in-Err-clause-value : goal.returns-in-Err-clause-value
returns-in-Err-clause-value c =
    refused_answer c.args.memory.now c.requires _ _ _ c.walk.ensures (search rules) _ c.in-Err.is

pub returns-in-Err-clause-memory_after : goal.returns-in-Err-clause-memory_after
returns-in-Err-clause-memory_after c =
    refused_words c.args.memory.now c.requires _ _ _ c.walk.ensures (search rules) _ c.in-Err.is _ c.clear.ensures

pub returns-in-Err-clause-bytes : goal.returns-in-Err-clause-bytes
returns-in-Err-clause-bytes c = search all_bytes

pub returns-in-Ok-clause-value : goal.returns-in-Ok-clause-value
returns-in-Ok-clause-value c =
    accepted_answer c.args.memory.now c.requires _ _ _ c.walk.ensures (search rules) _ c.in-Ok.is

pub returns-in-Ok-clause-memory_after : goal.returns-in-Ok-clause-memory_after
returns-in-Ok-clause-memory_after c =
    accepted_words c.args.memory.now c.requires _ _ _ c.walk.ensures (search rules) _ c.in-Ok.is _ c.finish.ensures

pub returns-in-Ok-clause-bytes : goal.returns-in-Ok-clause-bytes
returns-in-Ok-clause-bytes c = search all_bytes
