use Rattle.std.proofs.Common.{sym, ap, ◌∙◌}
use Rattle.std.specs.FinMap as map
use Rattle.std.specs.FinMap.Entries.{where_key}
use Rattle.std.proofs.lemmas.List.Elements.{filter_agree}
use Rattle.causal_context.specs.Dots.{dot_cmp}
use Rattle.causal_context.specs.Ranges.{covers}
use Rattle.subscription_set.specs.Standing.{Entries}
use Rattle.subscription_set.proofs.Indexing.{entries_table}
use Rattle.subscription_set.proofs.Spans.{between_is, dot_is}
use Rattle.subscription_set.proofs.indexed.IndexedEntries.within.Goals as goal

pub returns : goal.returns
returns c =
    let fs = c.self.inside.entries.entries in
    c.range.ensures.between c.new-3.ensures.exhausted
    ∙ filter_agree _ _ (λ e. between_is c.args.range _ _
    (c.new-3.ensures.start ∙ dot_is c.args.range.node c.args.range.first c.unwrap-first.result (sym c.new.ensures ∙ c.unwrap-first.ensures))
    (c.new-3.ensures.end ∙ dot_is c.args.range.node c.args.range.last c.unwrap-last.result (sym c.new-2.ensures ∙ c.unwrap-last.ensures)) e.0) fs
    ∙ ap (λ (es : Entries). where_key dot_cmp (λ d. covers d c.args.range) es) (sym (entries_table fs c.range.ensures.ordered) ∙ ap map.entries c.self.view_is)
