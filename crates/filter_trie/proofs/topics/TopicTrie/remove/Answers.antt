use Rattle.std.proofs.Common.{sym, ap, ◌∙◌}
use Rattle.std.specs.FinMap as map
use Rattle.law_maps.proofs.Texts.{get_table, remove_table}
use Rattle.filter_trie.proofs.topics.TopicTrie.remove.Goals as goal

pub returns-clause-before : goal.returns-clause-before
returns-clause-before g c = c.remove.ensures.value ∙ sym (get_table c.self.inside.pairs.entries c.args.name.now) ∙ ap (λ m. map.get m c.args.name.now) c.self.view_is

pub returns-clause-left : goal.returns-clause-left
returns-clause-left g c =
    remove_table c.self.inside.pairs.entries c.remove.new.self.entries c.args.name.now c.remove.ensures.updates.0
    ∙ ap (λ m. map.remove m c.args.name.now) c.self.view_is
