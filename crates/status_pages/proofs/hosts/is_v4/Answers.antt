use Rattle.status_pages.proofs.hosts.is_v4.Goals as goal

pub returns-in-Err : goal.returns-in-Err
returns-in-Err c = (λ wrong. cc, λ some. absurd (c.in-Err.ensures some.0 some.1))
