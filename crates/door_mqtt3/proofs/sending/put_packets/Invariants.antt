use Rattle.std.proofs.Common.{length}
use Rattle.door_mqtt3.proofs.SentLaws.{IsSending}
use Rattle.door_mqtt3.proofs.sending.put_packets.Given as goal

abbrev pub invariant-loop-count : goal.invariant-loop-count
invariant-loop-count l = IsSending l.level l.fn.exchanges l.fn.sent.items l.bytes (length l.bytes) l.sent.items l.exchanges l.rest l.count
