use Rattle.status_texts.specs.Metrics.{with_info}
use Rattle.status_texts.proofs.metrics.push_info.Goals as goal

pub returns : goal.returns
unfolding with_info
returns c = rw (c.in_ok-push_info_name.ensures, c.in_ok-push_family.ensures) at c.push_info_number.ensures
