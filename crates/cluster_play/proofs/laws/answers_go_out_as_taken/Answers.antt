use Rattle.cluster_play.proofs.Offering.{answers_as_sent, send_alike}
use Rattle.cluster_play.proofs.laws.answers_go_out_as_taken.Goals as goal

pub returns : goal.returns
returns c = record { sent = answers_as_sent; alike = send_alike }
