use Rattle.session_rows.proofs.DurableLaws.{text-wanted}
use Rattle.session_rows.proofs.session.text_of.Goals as goal

pub returns-in-Err-NoMemory-clause-no_memory : goal.returns-in-Err-NoMemory-clause-no_memory
returns-in-Err-NoMemory-clause-no_memory c = λ _.
    text-wanted c.args.bytes.now c.in-Ok.text.now c.in-Ok.ensures.cases.0 c.in-Ok.ensures.cases.1 (λ bad. let h = c.in-Err-NoMemory.ensures.malformed.1 bad in cc)
