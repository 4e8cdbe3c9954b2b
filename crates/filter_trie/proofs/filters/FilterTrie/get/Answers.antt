use Rattle.std.proofs.Common.{sym, ap, ◌∙◌}
use Rattle.std.specs.FinMap as map
use Rattle.law_maps.proofs.Texts.{get_table}
use Rattle.filter_trie.proofs.filters.FilterTrie.get.Goals as goal

pub returns : goal.returns
returns g c = c.get.ensures.value ∙ sym (get_table c.self.inside.pairs.entries c.args.filter.now) ∙ ap (λ m. map.get m c.args.filter.now) c.self.view_is
