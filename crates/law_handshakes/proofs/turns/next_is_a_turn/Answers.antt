use Rattle.law_handshakes.proofs.TurnLaws.{next-is-a-turn}
use Rattle.law_handshakes.proofs.turns.next_is_a_turn.Goals as goal

pub returns : goal.returns
returns c = next-is-a-turn
