use Rattle.std.proofs.Common.{rules, not}
use Rattle.std.proofs.lemmas.Fn.{filter_same}
use Rattle.script_loopback.specs.Network.{is_at}
use Rattle.script_loopback.proofs.wire.remove.Goals as goal

pub returns : goal.returns
returns g c = filter_same _ (λ w. not (is_at c.args.node c.args.number w)) _ (λ x b f' k. search rules) _ _ c.retain.ensures.filtered
