use Rattle.std.proofs.Common.{Some, refl, ap, leb}
use Rattle.broker_sockets.specs.declared.network.Answer.TheVariants.{Later, Bytes, Gone}
use Rattle.broker_turns.proofs.lines.write_line.Goals as goal

pub returns-in-Later : goal.returns-in-Later
returns-in-Later g c = record { answer = Some Later; tried = (c.in-Later.ensures, refl, refl, refl, refl, refl, refl); comes_to = ap (λ n. leb n 536870912) c.len-in-Later.ensures }

pub returns-in-Bytes : goal.returns-in-Bytes
returns-in-Bytes g c = record { answer = Some (Bytes c.in-Bytes.field-0); tried = (c.in-Bytes.ensures, refl, refl, refl, refl, refl, refl); comes_to = ap (λ n. leb n 536870912) c.len-in-Bytes.ensures }

pub returns-in-Gone : goal.returns-in-Gone
returns-in-Gone g c = record { answer = Some Gone; tried = (c.in-Gone.ensures, refl, refl, refl, refl, refl, refl); comes_to = refl }
