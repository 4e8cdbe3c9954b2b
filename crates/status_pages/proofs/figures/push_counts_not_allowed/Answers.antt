use Rattle.status_pages.specs.Status.{with_counts_not_allowed}
use Rattle.status_pages.proofs.figures.push_counts_not_allowed.Goals as goal

pub returns : goal.returns
unfolding with_counts_not_allowed
returns c =
    rw (c.in_ok-push_number-2.ensures, c.in_ok-push_number.ensures) at c.push_number-3.ensures
