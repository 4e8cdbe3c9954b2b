use Rattle.std.proofs.Common.{◌≡◌, ◌∙◌, ap, subst, inr, rules}
use Rattle.std.proofs.lemmas.Result.{on_ok_weaker}
use Rattle.std.specs.Io.KnownBytes.{Appends}
use Rattle.home_table.specs.Table.{Table}
use Rattle.node_server.proofs.Opened.{was_opened}
use Rattle.node_server.proofs.Printed.{appends-both}
use Rattle.node_server.specs.Printing.{ready_line}
use Rattle.node_work.specs.View.{NodeView}
use Rattle.node_server.proofs.run.serve.Goals as goal

pub returns-clause-printed : goal.returns-clause-printed
returns-clause-printed g c =
    let own : c.homes-homes.result.now ≡ c.args.place.0 =
    c.homes-homes.ensures ∙ ap (λ (n : NodeView). n.homes) c.node.ensures ∙ c.in-Ok.ensures.homes in
    let ready =
    subst (λ (homes : Table). Appends (g.W.Write.contents c.args.out.now) (g.W.Write.contents c.tell_ready.new.out) (ready_line homes c.args.place.1)) own
    c.in_ok-tell_ready.ensures in
    on_ok_weaker c.tell_turns.result (λ more. appends-both _ _ _ _ _ ready more) c.tell_turns.ensures

pub returns-in_err-setting-clause-opened : goal.returns-in_err-setting-clause-opened
returns-in_err-setting-clause-opened g c = inr (was_opened _ _ _ _ _ _ c.in-Ok.keeper c.in-Ok.ensures.homes (search rules) c.in-Ok.ensures.ok)

pub returns-in_err-desk-clause-opened : goal.returns-in_err-desk-clause-opened
returns-in_err-desk-clause-opened g c = inr (was_opened _ _ _ _ _ _ c.in-Ok.keeper c.in-Ok.ensures.homes (search rules) c.in-Ok.ensures.ok)

pub returns-in_err-tell_ready-clause-opened : goal.returns-in_err-tell_ready-clause-opened
returns-in_err-tell_ready-clause-opened g c = inr (was_opened _ _ _ _ _ _ c.in-Ok.keeper c.in-Ok.ensures.homes (search rules) c.in-Ok.ensures.ok)

pub returns-in_err-run_node-clause-opened : goal.returns-in_err-run_node-clause-opened
returns-in_err-run_node-clause-opened g c = inr (was_opened _ _ _ _ _ _ c.in-Ok.keeper c.in-Ok.ensures.homes (search rules) c.in-Ok.ensures.ok)

pub returns-clause-opened : goal.returns-clause-opened
returns-clause-opened g c = inr (was_opened _ _ _ _ _ _ c.in-Ok.keeper c.in-Ok.ensures.homes (search rules) c.in-Ok.ensures.ok)
