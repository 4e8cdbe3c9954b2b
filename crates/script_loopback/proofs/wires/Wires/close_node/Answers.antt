use Rattle.std.proofs.Common.{rules, not, eqb, refl}
use Rattle.std.proofs.lemmas.Fn.{filter_same}
use Rattle.script_loopback.specs.Network.{is_of}
use Rattle.script_loopback.proofs.wires.Wires.close_node.Goals as goal

pub returns : goal.returns
returns g c =
    let clients = filter_same _ (λ w. not (eqb w.node c.args.node)) _ (λ x b f' k. search rules) _ _ c.retain.ensures.filtered in
    let links = filter_same _ (λ w. not (is_of c.args.node w)) _ (λ x b f' k. search rules) _ _ c.retain-2.ensures.filtered in
    cc
