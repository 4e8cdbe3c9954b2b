use Rattle.std.proofs.Common.{◌∙◌, sym, ap}
use Rattle.std.specs.Cmp.{nat_cmp_total}
use Rattle.std.specs.FinMap.{nat_cmp-IsAntisymmetric}
use Rattle.std.specs.FinMap as map
use Rattle.std.proofs.lemmas.Result.{on_ok_weaker}
use Rattle.node_work.specs.Held.Connections.{changed_at, with_client}
use Rattle.law_maps.proofs.Tables.{remove_absent, insert_taken}
use Rattle.node_work.proofs.held.connections.Connections.accept.Goals as goal

pub returns-in-Some-clause-ok : goal.returns-in-Some-clause-ok
returns-in-Some-clause-ok c =
    on_ok_weaker c.put.result
    (λ e. e ∙ (λ i. map.insert (c.in-Some.ensures.left i) c.args.connection (c.accept.ensures i)) ∙ insert_taken nat_cmp_total nat_cmp-IsAntisymmetric c.args.self.now c.args.connection _
    ∙ ap (changed_at (with_client c.args.client) c.args.connection c.args.self.now) c.in-Some.ensures.found)
    c.put.ensures.ok

pub returns-in-None-clause-ok : goal.returns-in-None-clause-ok
returns-in-None-clause-ok c =
    c.in-None.ensures.left ∙ remove_absent nat_cmp_total nat_cmp-IsAntisymmetric c.args.self.now c.args.connection (sym c.in-None.ensures.found)
    ∙ ap (changed_at (with_client c.args.client) c.args.connection c.args.self.now) c.in-None.ensures.found
