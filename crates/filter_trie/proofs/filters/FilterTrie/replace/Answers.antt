use Rattle.std.proofs.Common.{Some, rules, sym, ap, ◌∙◌}
use Rattle.std.specs.Option.{option_copied_mut}
use Rattle.std.specs.FinMap as map
use Rattle.law_maps.proofs.Texts.{get_table, insert_table}
use Rattle.filter_trie.proofs.filters.FilterTrie.replace.Goals as goal

pub returns-clause-before : goal.returns-clause-before
returns-clause-before g c =
    ap (λ m. map.get m c.args.filter.now) (sym c.self.view_is) ∙ get_table c.self.inside.pairs.entries c.args.filter.now
    ∙ sym c.get_mut.ensures.value ∙ ap option_copied_mut c.in-Some.is ∙ ap Some (sym c.replace.ensures.value)

pub returns-clause-ok : goal.returns-clause-ok
returns-clause-ok g c =
    insert_table c.self.inside.pairs.entries (c.get_mut.follows.lender c.replace.new.dest).entries c.args.filter.now c.replace.new.dest
    ((c.get_mut.follows.holds c.replace.new.dest).3 (search rules)).0
    ∙ (λ i. map.insert (c.self.view_is i) c.args.filter.now (c.replace.ensures.after i))

pub returns-in_default-clause-absent : goal.returns-in_default-clause-absent
returns-in_default-clause-absent g c =
    ap (λ m. map.get m c.args.filter.now) (sym c.self.view_is) ∙ get_table c.self.inside.pairs.entries c.args.filter.now
    ∙ sym c.get_mut.ensures.value ∙ ap option_copied_mut c.in_default.is
