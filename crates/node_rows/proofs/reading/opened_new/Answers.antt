use Rattle.std.proofs.Common.{refl, ap, ◌∙◌}
use Rattle.std.specs.Cmp.Lexicographic.{slice_cmp}
use Rattle.std.specs.Ordering.{nat_cmp}
use Rattle.std.specs.FinMap as map
use Rattle.node_rows.proofs.Lanes.{new_opened}
use Rattle.node_rows.proofs.reading.opened_new.Goals as goal

pub returns-clause-opened : goal.returns-clause-opened
returns-clause-opened c = record {
  named = refl;
  sessions = λ client. ap (λ m. map.get m client) c.new-2.ensures ∙ map.get-empty (slice_cmp nat_cmp) client;
  store = c.new-store.ensures;
  links = c.in-Ok.ensures.ok ∙ new_opened c.args.id c.args.nodes;
}
