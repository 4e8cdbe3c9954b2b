use Rattle.std.proofs.Common.{◌∙◌, ap}
use Rattle.std.specs.FinSet as set
use Rattle.causal_context.specs.Dots.{dot_cmp, dot_cmp_total, dot_cmp_antisym}
use Rattle.law_maps.proofs.Tables.{add_table}
use Rattle.subscription_set.proofs.dots.both.Goals as goal

pub returns : goal.returns
returns c =
    add_table dot_cmp_total dot_cmp_antisym c.insert.new.self.keys c.insert-2.new.self.keys c.args.second c.in_ok-insert-2.ensures.updates.0
    ∙ ap (λ s. set.insert s c.args.second) (add_table dot_cmp_total dot_cmp_antisym c.new-dots.result.keys c.insert.new.self.keys c.args.first c.in_ok-insert.ensures.updates.0
    ∙ ap (λ ks. set.insert (set.from_list {R = dot_cmp} ks) c.args.first) c.new-dots.ensures.empty)
