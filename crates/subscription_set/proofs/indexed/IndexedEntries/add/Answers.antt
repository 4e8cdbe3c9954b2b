use Rattle.std.proofs.Common.{◌≡◌, ◌+◌, Some, None, not, length, sym, ap, ◌∙◌, arith}
use Rattle.std.specs.FinMap as map
use Rattle.std.specs.FinSet as set
use Rattle.causal_context.specs.Dots.{dot_cmp, dot_cmp_total, dot_cmp_antisym}
use Rattle.subscription_set.specs.Standing.{Entries}
use Rattle.subscription_set.proofs.Spreading.{filed_total, filed_anti, places_total, places_anti}
use Rattle.subscription_set.specs.Indexing.{ByDot, stands_as, stands_to}
use Rattle.subscription_set.proofs.Filtered.{matched_added, matched_kept}
use Rattle.law_maps.proofs.Tables.{insert_table}
use Rattle.subscription_set.proofs.Indexing.{live_few, entries_table, live_more, live_same, stands_by, stands_not, added, kept, undone}
use Rattle.subscription_set.proofs.indexed.IndexedEntries.add.Goals as goal

pub prove-unreachable-requires : goal.prove-unreachable-requires
prove-unreachable-requires c =
    let fs = c.self.inside.entries.entries in
    let few = live_few (map.entries (map.from_entries {R = dot_cmp} fs)) in
    let same = ap length (entries_table fs c.len-count.ensures.ordered) in
    let counted = c.self.invariant.indexed.live in
    let n = c.len-count.ensures.len in omega arith

pub file-requires : goal.file-requires
file-requires c =
    let m : ByDot = map.from_entries c.self.inside.entries.entries in
    let none : map.get m c.args.dot ≡ None = ap (λ x. map.get x c.args.dot) c.self.view_is ∙ c.requires in
    record { clients = c.self.invariant.indexed.of_client c.args.entry.client c.args.dot ∙ ap (stands_as c.args.entry.client None) none; filters = c.self.invariant.indexed.of_filter c.args.entry.client c.args.entry.filter c.args.dot ∙ ap (stands_as c.args.entry.client (Some c.args.entry.filter)) none }

pub invariant_of-self-then-fresh : goal.invariant_of-self-then-fresh
invariant_of-self-then-fresh c =
    let fs = c.self.inside.entries.entries in
    let m : ByDot = map.from_entries fs in
    let none : map.get m c.args.dot ≡ None = ap (λ x. map.get x c.args.dot) c.self.view_is ∙ c.requires in
    let written = insert_table dot_cmp_total dot_cmp_antisym fs c.insert.new.self.entries c.args.dot c.args.entry c.in_default.ensures.updates.0 in
    let more = live_more m c.args.dot c.args.entry none (λ s. stands_not m c.self.inside.index.clients c.self.inside.index.filters c.self.inside.live c.self.invariant.indexed c.client.result.now c.filter.result.now c.under.result c.under.ensures (c.is_none-fresh.ensures ∙ ap not c.if-fresh.true)
    (s.0, (λ i. stands_as (c.client.ensures i) (Some (c.filter.ensures i)) (map.get m s.0)) ∙ s.1)) in
    record {
      indexed = added m (map.from_entries c.insert.new.self.entries) c.args.dot c.args.entry c.self.inside.index.clients c.file.new.self.clients c.self.inside.index.filters c.file.new.self.filters c.self.inside.live (c.self.inside.live + 1) c.self.invariant.indexed none written c.in_ok-file.ensures.clients c.in_ok-file.ensures.filters
          (ap (λ n. n + 1) c.self.invariant.indexed.live ∙ sym more);
      matched = matched_added m c.args.dot c.args.entry c.self.inside.index.matches c.self.invariant.matched (map.from_entries c.insert.new.self.entries) c.file.new.self.matches none written c.in_ok-file.ensures.matches;
    }

pub invariant_of-self-else-fresh : goal.invariant_of-self-else-fresh
invariant_of-self-else-fresh c =
    let fs = c.self.inside.entries.entries in
    let m : ByDot = map.from_entries fs in
    let none : map.get m c.args.dot ≡ None = ap (λ x. map.get x c.args.dot) c.self.view_is ∙ c.requires in
    let written = insert_table dot_cmp_total dot_cmp_antisym fs c.insert.new.self.entries c.args.dot c.args.entry c.in_default.ensures.updates.0 in
    let there = stands_by m c.self.inside.index.clients c.self.inside.index.filters c.self.inside.live c.self.invariant.indexed c.client.result.now c.filter.result.now c.under.result c.under.ensures (c.is_none-fresh.ensures ∙ ap not c.if-fresh.false) in
    let same = live_same m c.args.dot c.args.entry none (there.0, (λ i. stands_as (sym c.client.ensures i) (Some (sym c.filter.ensures i)) (map.get m there.0)) ∙ there.1) in
    record {
      indexed = added m (map.from_entries c.insert.new.self.entries) c.args.dot c.args.entry c.self.inside.index.clients c.file.new.self.clients c.self.inside.index.filters c.file.new.self.filters c.self.inside.live c.self.inside.live c.self.invariant.indexed none written c.in_ok-file.ensures.clients c.in_ok-file.ensures.filters
          (c.self.invariant.indexed.live ∙ sym same);
      matched = matched_added m c.args.dot c.args.entry c.self.inside.index.matches c.self.invariant.matched (map.from_entries c.insert.new.self.entries) c.file.new.self.matches none written c.in_ok-file.ensures.matches;
    }

pub invariant_of-self-in-Err : goal.invariant_of-self-in-Err
invariant_of-self-in-Err c =
    let m : ByDot = map.from_entries c.self.inside.entries.entries in
    let none : map.get m c.args.dot ≡ None = ap (λ x. map.get x c.args.dot) c.self.view_is ∙ c.requires in
    let back = c.in-Err.ensures.value_returned in
    record {
      indexed = kept m (map.from_entries c.insert.new.self.entries) c.args.dot c.args.entry c.self.inside.index.clients c.unfile.new.self.clients c.self.inside.index.filters c.unfile.new.self.filters c.self.inside.live c.self.inside.live c.self.invariant.indexed
          (ap (λ (x : Entries). map.from_entries {R = dot_cmp} x) c.in-Err.ensures.err)
          (c.unfile.ensures.clients ∙ (λ i. set.remove (c.in_ok-file.ensures.clients i) ((back i).1.client, c.args.dot)) ∙ undone filed_total filed_anti c.self.inside.index.clients (c.args.entry.client, c.args.dot) (c.self.invariant.indexed.of_client c.args.entry.client c.args.dot ∙ ap (stands_as c.args.entry.client None) none))
          (c.unfile.ensures.filters ∙ (λ i. set.remove (c.in_ok-file.ensures.filters i) ((back i).1.client, ((back i).1.filter, c.args.dot)))
          ∙ undone places_total places_anti c.self.inside.index.filters (c.args.entry.client, (c.args.entry.filter, c.args.dot)) (c.self.invariant.indexed.of_filter c.args.entry.client c.args.entry.filter c.args.dot ∙ ap (stands_as c.args.entry.client (Some c.args.entry.filter)) none));
      matched = matched_kept m c.args.dot c.args.entry c.self.inside.index.matches c.self.invariant.matched (map.from_entries c.insert.new.self.entries) c.unfile.new.self.matches
          (ap (λ (x : Entries). map.from_entries {R = dot_cmp} x) c.in-Err.ensures.err)
          (c.unfile.ensures.matches ∙ (λ i. set.remove (c.in_ok-file.ensures.matches i) ((back i).1.filter, c.args.dot))
          ∙ undone filed_total filed_anti c.self.inside.index.matches (c.args.entry.filter, c.args.dot) (c.self.invariant.matched c.args.entry.filter c.args.dot ∙ ap (stands_to c.args.entry.filter) none));
    }

pub returns-then-fresh-clause-ok : goal.returns-then-fresh-clause-ok
returns-then-fresh-clause-ok c =
    insert_table dot_cmp_total dot_cmp_antisym c.self.inside.entries.entries c.insert.new.self.entries c.args.dot c.args.entry c.in_default.ensures.updates.0
    ∙ ap (λ x. map.insert x c.args.dot c.args.entry) c.self.view_is

pub returns-else-fresh-clause-ok : goal.returns-else-fresh-clause-ok
returns-else-fresh-clause-ok c =
    insert_table dot_cmp_total dot_cmp_antisym c.self.inside.entries.entries c.insert.new.self.entries c.args.dot c.args.entry c.in_default.ensures.updates.0
    ∙ ap (λ x. map.insert x c.args.dot c.args.entry) c.self.view_is
