use Rattle.std.proofs.Common.{ℕ, List, ◌+◌, sym, ap, subst, ◌∙◌}
use Rattle.std.specs.Prelude.{is_some, if◌then◌else◌}
use Rattle.std.specs.Map.{lookup}
use Rattle.std.specs.BTreeMap.{is_at}
use Rattle.std.specs.FinMap as map
use Rattle.filter_trie.specs.Search.Counting.{hashes, times, Covers}
use Rattle.filter_trie.specs.Search.Filing.{counted}
use Rattle.law_maps.proofs.Texts.{text_cmp, get_table, insert_table}
use Rattle.filter_trie.proofs.CountLaws.{none_from, still_inserted, still_refused}
use Rattle.filter_trie.proofs.filters.FilterTrie.insert.Goals as goal

pub returns-in-Ok-clause-before : goal.returns-in-Ok-clause-before
returns-in-Ok-clause-before g c = c.in-Ok.ensures.old ∙ sym (get_table c.self.inside.pairs.entries c.args.filter) ∙ ap (λ m. map.get m c.args.filter) c.self.view_is

pub returns-in-Ok-clause-ok : goal.returns-in-Ok-clause-ok
returns-in-Ok-clause-ok g c =
    insert_table c.self.inside.pairs.entries c.insert.new.self.entries c.args.filter c.args.value c.in-Ok.ensures.updates.0
    ∙ ap (λ m. map.insert m c.args.filter c.args.value) c.self.view_is

pub returns-in-Err-clause-absent : goal.returns-in-Err-clause-absent
returns-in-Err-clause-absent g c = ap (λ m. map.get m c.args.filter) (sym c.self.view_is) ∙ get_table c.self.inside.pairs.entries c.args.filter
    ∙ none_from (lookup (is_at (text_cmp c.args.filter)) c.self.inside.pairs.entries) (sym c.contains_key-is_there.ensures ∙ c.in-Err.ensures.absent)

pub returns-in-Err-insert-clause-absent : goal.returns-in-Err-insert-clause-absent
returns-in-Err-insert-clause-absent g c = ap (λ m. map.get m c.args.filter) (sym c.self.view_is) ∙ get_table c.self.inside.pairs.entries c.args.filter ∙ c.in-Err-insert.ensures.absent

pub invariant_of-self-in-Ok : goal.invariant_of-self-in-Ok
invariant_of-self-in-Ok g c =
    let F : List ℕ → Type 0 = λ s. (h n : ℕ) → Covers (counted c.self.inside.beginnings h) n
    → Covers (counted c.file.new.self h) ((if c.contains_key-is_there.result then 0 else times h (hashes 0 s)) + n) in
    still_inserted c.self.inside.pairs.entries c.insert.new.self.entries c.args.filter (counted c.self.inside.beginnings) c.self.invariant c.args.value (counted c.file.new.self)
    c.contains_key-is_there.result c.contains_key-is_there.ensures (subst F c.as_str.ensures.same c.in_default.ensures.ok) c.in-Ok.ensures.entries
    (λ t. c.in-Ok.ensures.keys_stay (ap is_some c.in-Ok.ensures.old ∙ t))

pub invariant_of-self-in-Err-insert : goal.invariant_of-self-in-Err-insert
invariant_of-self-in-Err-insert g c =
    let F : List ℕ → Type 0 = λ s. (h n : ℕ) → Covers (counted c.self.inside.beginnings h) n
    → Covers (counted c.file.new.self h) ((if c.contains_key-is_there.result then 0 else times h (hashes 0 s)) + n) in
    let B : List ℕ → Type 0 = λ s. (h n : ℕ) → Covers (counted c.file.new.self h) (times h (hashes 0 s) + n) → Covers (counted c.unfile.new.self h) n in
    still_refused c.self.inside.pairs.entries c.insert.new.self.entries c.args.filter (counted c.self.inside.beginnings) c.self.invariant (counted c.file.new.self) (counted c.unfile.new.self)
    c.contains_key-is_there.result c.contains_key-is_there.ensures c.in-Err-insert.ensures.absent (subst F c.as_str.ensures.same c.in_default.ensures.ok)
    (subst B (c.as_str-in-Err-insert.ensures.same ∙ ap (λ p. p.0) c.in-Err-insert.ensures.value_returned) c.unfile.ensures) c.in-Err-insert.ensures.err
