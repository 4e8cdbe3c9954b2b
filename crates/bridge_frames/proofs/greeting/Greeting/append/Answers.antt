use Rattle.std.proofs.Common.{Result, Ok, Err}
use Rattle.std.specs.Prelude.{OnOk}
use Rattle.bridge_frames.proofs.GreetingLaws.{greeting_written}
use Rattle.bridge_frames.proofs.greeting.Greeting.append.Goals as goal

on_ok : {A E P Q : Type 0} (r : Result A E) → (P → Q) → OnOk r P → OnOk r Q
on_ok (Ok a) f p = f p
on_ok (Err e) f p = p

pub returns-clause-ok : goal.returns-clause-ok
returns-clause-ok c =
    on_ok c.write.result
    (greeting_written c.args.self.now c.args.out.now.items c.put_u16.new.out.items c.put_number.new.out.items c.put_number-2.new.out.items c.write.new.out.items c.in_ok-put_u16.ensures.ok c.in_ok-put_number.ensures.ok c.in_ok-put_number-2.ensures.ok)
    c.write.ensures.ok
