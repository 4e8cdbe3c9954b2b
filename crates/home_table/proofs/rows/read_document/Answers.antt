use Rattle.std.proofs.Common.{refl}
use Rattle.home_table.proofs.BlankLaws.{blank_reads}
use Rattle.home_table.proofs.rows.read_document.Goals as goal

pub returns-in-Ok-clause-blank : goal.returns-in-Ok-clause-blank
returns-in-Ok-clause-blank c = λ blank. (let is = c.in-Ok.ensures.ok in let empty = blank_reads c.args.text.now blank in cc, refl)

pub returns-else-is_memory-clause-blank : goal.returns-else-is_memory-clause-blank
returns-else-is_memory-clause-blank c = λ blank.
    (let none = c.in-Err.ensures.refused (λ memory. (let is = c.if-is_memory.ensures.1 memory in let no = c.if-is_memory.false in cc)) in
    let some = blank_reads c.args.text.now blank in cc)
