use Rattle.std.proofs.Common.{sym, ap, ◌∙◌}
use Rattle.std.specs.FinMap as map
use Rattle.law_maps.proofs.Texts.{get_table, insert_table}
use Rattle.filter_trie.proofs.topics.TopicTrie.insert.Goals as goal

pub returns-in-Ok-clause-before : goal.returns-in-Ok-clause-before
returns-in-Ok-clause-before g c = c.in-Ok.ensures.old ∙ sym (get_table c.self.inside.pairs.entries c.args.name) ∙ ap (λ m. map.get m c.args.name) c.self.view_is

pub returns-in-Ok-clause-ok : goal.returns-in-Ok-clause-ok
returns-in-Ok-clause-ok g c =
    insert_table c.self.inside.pairs.entries c.insert.new.self.entries c.args.name c.args.value c.in-Ok.ensures.updates.0
    ∙ ap (λ m. map.insert m c.args.name c.args.value) c.self.view_is

pub returns-in-Err-clause-absent : goal.returns-in-Err-clause-absent
returns-in-Err-clause-absent g c = ap (λ m. map.get m c.args.name) (sym c.self.view_is) ∙ get_table c.self.inside.pairs.entries c.args.name ∙ c.in-Err.ensures.absent
