use Rattle.std.proofs.Common.{Some, refl, arith}
use Rattle.std.proofs.lemmas.Grind.{common_steps}
use Rattle.broker_sockets.specs.declared.network.Answer.TheVariants.{Later, Bytes}
use Rattle.script_loopback.proofs.carrying.offer.Goals as goal

pub returns-in-Later-clause-ok : goal.returns-in-Later-clause-ok
returns-in-Later-clause-ok g c = record { answer = Some Later; by_answer = (grind (arith, common_steps), c.in-Later.ensures.carried, refl) }

pub returns-in-Bytes-clause-ok : goal.returns-in-Bytes-clause-ok
returns-in-Bytes-clause-ok g c = record {
  answer = Some (Bytes c.in-Bytes.count);
  by_answer = (grind (arith, common_steps), c.in-Bytes.ensures.carried, grind (arith, common_steps));
}
