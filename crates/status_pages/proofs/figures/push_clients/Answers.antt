use Rattle.status_pages.specs.Status.{with_clients}
use Rattle.status_pages.proofs.figures.push_clients.Goals as goal

pub returns : goal.returns
unfolding with_clients
returns c =
    rw (c.in_ok-push_number-3.ensures, c.in_ok-push_number-2.ensures, c.in_ok-push_number.ensures) at c.push_number-4.ensures
