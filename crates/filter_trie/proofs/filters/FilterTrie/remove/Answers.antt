use Rattle.std.proofs.Common.{ℕ, List, ◌+◌, sym, ap, subst, ◌∙◌}
use Rattle.std.specs.FinMap as map
use Rattle.law_maps.proofs.Texts.{get_table, remove_table}
use Rattle.filter_trie.specs.Search.Counting.{hashes, times, Covers}
use Rattle.filter_trie.specs.Search.Filing.{counted}
use Rattle.filter_trie.proofs.CountLaws.{still_removed}
use Rattle.filter_trie.proofs.filters.FilterTrie.remove.Goals as goal

pub returns-in-Some-clause-before : goal.returns-in-Some-clause-before
returns-in-Some-clause-before g c = c.in-Some.ensures.value ∙ sym (get_table c.self.inside.pairs.entries c.args.filter.now) ∙ ap (λ m. map.get m c.args.filter.now) c.self.view_is

pub returns-in-None-clause-before : goal.returns-in-None-clause-before
returns-in-None-clause-before g c = c.in-None.ensures.value ∙ sym (get_table c.self.inside.pairs.entries c.args.filter.now) ∙ ap (λ m. map.get m c.args.filter.now) c.self.view_is

pub returns-in-Some-clause-left : goal.returns-in-Some-clause-left
returns-in-Some-clause-left g c =
    remove_table c.self.inside.pairs.entries c.remove.new.self.entries c.args.filter.now c.in-Some.ensures.updates.0
    ∙ ap (λ m. map.remove m c.args.filter.now) c.self.view_is

pub returns-in-None-clause-left : goal.returns-in-None-clause-left
returns-in-None-clause-left g c =
    remove_table c.self.inside.pairs.entries c.remove.new.self.entries c.args.filter.now c.in-None.ensures.updates.0
    ∙ ap (λ m. map.remove m c.args.filter.now) c.self.view_is

pub invariant_of-self : goal.invariant_of-self
invariant_of-self g c =
    let B : List ℕ → Type 0 = λ s. (h n : ℕ) → Covers (counted c.self.inside.beginnings h) (times h (hashes 0 s) + n) → Covers (counted c.unfile.new.self h) n in
    still_removed c.self.inside.pairs.entries c.remove.new.self.entries c.args.filter.now (counted c.self.inside.beginnings) c.self.invariant c.in-Some.value (counted c.unfile.new.self)
    (sym c.in-Some.ensures.value) c.in-Some.ensures.entries (subst B c.as_str.ensures.same c.unfile.ensures)
