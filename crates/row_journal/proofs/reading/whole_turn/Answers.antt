use Rattle.std.proofs.Common.{Vec, Global, arith, map}
use Rattle.row_store.specs.declared.row.Change.{Change}
use Rattle.mqtt_fields.proofs.Whole.{whole_found, whole_more, whole_none}
use Rattle.row_store.specs.Noted.{pair_of}
use Rattle.row_journal.specs.Spelling.{turn}
use Rattle.row_journal.proofs.TurnLaws.{turn_is}
use Rattle.row_journal.proofs.reading.whole_turn.Goals as goal

pub returns-in-Ok-default-empty : goal.returns-in-Ok-default-empty
returns-in-Ok-default-empty c = whole_found turn turn_is c.args.bytes.now (_, _) c.are_bytes.ensures c.in-Ok-default-empty.ensures (let h = c.in-Ok-default-empty.len_below in omega (arith, h))

pub returns-in-Ok : goal.returns-in-Ok
returns-in-Ok c = whole_more turn turn_is c.args.bytes.now (_, _) c.in-Ok.ensures (let h = c.in-Ok.len_at_least in omega (arith, h))

pub returns-in-Err : goal.returns-in-Err
returns-in-Err c = whole_none turn turn_is c.args.bytes.now (λ (x : Vec Change Global). map pair_of x.items) c.in-Err.fault c.in-Err.ensures
