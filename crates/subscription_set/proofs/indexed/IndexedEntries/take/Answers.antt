use Rattle.std.proofs.Common.{◌≡◌, ◌-◌, Some, not, length, refl, sym, ap, ◌∙◌, arith}
use Rattle.std.specs.FinMap as map
use Rattle.causal_context.specs.Dots.{dot_cmp, dot_cmp_total, dot_cmp_antisym}
use Rattle.subscription_set.specs.Standing.{latest}
use Rattle.subscription_set.specs.Indexing.{ByDot, stands_as}
use Rattle.subscription_set.proofs.Filtered.{matched_taken}
use Rattle.law_maps.proofs.Tables.{get_table, remove_table}
use Rattle.subscription_set.proofs.Indexing.{live_less, live_left, stands_by, stands_not, taken}
use Rattle.subscription_set.proofs.indexed.IndexedEntries.take.Goals as goal
use Rattle.subscription_set.proofs.indexed.IndexedEntries.take.Goals.{then-is_none, else-is_none}

pub overflow_sub-self : goal.overflow_sub-self
overflow_sub-self c =
    let m : ByDot = map.from_entries c.self.inside.entries.entries in
    let e = c.in-Some.entry in
    let here : map.get m c.args.dot ≡ Some e = get_table dot_cmp_total c.self.inside.entries.entries c.args.dot ∙ sym c.remove.ensures.value ∙ c.in-Some.is in
    let left : ByDot = map.remove m c.args.dot in
    let filed = taken m left c.args.dot e c.self.inside.index.clients c.unfile.new.self.clients c.self.inside.index.filters c.unfile.new.self.filters c.self.inside.live (length (latest (map.entries left))) c.self.invariant.indexed here refl c.unfile.ensures.clients c.unfile.ensures.filters refl in
    let less = live_less m c.args.dot e here (λ s. stands_not left c.unfile.new.self.clients c.unfile.new.self.filters (length (latest (map.entries left))) filed c.client.result.now c.filter.result.now c.under.result c.under.ensures (c.is_none.ensures ∙ ap not c.if-is_none.true)
    (s.0, (λ i. stands_as (c.client.ensures i) (Some (c.filter.ensures i)) (map.get left s.0)) ∙ s.1)) in
    let counted = c.self.invariant.indexed.live in omega (arith, less, counted)

pub invariant_of-self-then-is_none : goal.invariant_of-self-then-is_none
invariant_of-self-then-is_none c =
    let m : ByDot = map.from_entries c.self.inside.entries.entries in
    let e = c.in-Some.entry in
    let here : map.get m c.args.dot ≡ Some e = get_table dot_cmp_total c.self.inside.entries.entries c.args.dot ∙ sym c.remove.ensures.value ∙ c.in-Some.is in
    let left : ByDot = map.remove m c.args.dot in
    let filed = taken m left c.args.dot e c.self.inside.index.clients c.unfile.new.self.clients c.self.inside.index.filters c.unfile.new.self.filters c.self.inside.live (length (latest (map.entries left))) c.self.invariant.indexed here refl c.unfile.ensures.clients c.unfile.ensures.filters refl in
    let less = live_less m c.args.dot e here (λ s. stands_not left c.unfile.new.self.clients c.unfile.new.self.filters (length (latest (map.entries left))) filed c.client.result.now c.filter.result.now c.under.result c.under.ensures (c.is_none.ensures ∙ ap not c.if-is_none.true)
    (s.0, (λ i. stands_as (c.client.ensures i) (Some (c.filter.ensures i)) (map.get left s.0)) ∙ s.1)) in
    let gone : map.from_entries {R = dot_cmp} c.remove.new.self.entries ≡ left = remove_table dot_cmp_total dot_cmp_antisym c.self.inside.entries.entries c.remove.new.self.entries c.args.dot c.remove.ensures.updates.0 in
    let counted = c.self.invariant.indexed.live in
    record {
      indexed = taken m (map.from_entries c.remove.new.self.entries) c.args.dot e c.self.inside.index.clients c.unfile.new.self.clients c.self.inside.index.filters c.unfile.new.self.filters c.self.inside.live (c.self.inside.live - 1) c.self.invariant.indexed here gone c.unfile.ensures.clients c.unfile.ensures.filters
          (omega (arith, less, counted));
      matched = matched_taken m c.args.dot e c.self.inside.index.matches c.self.invariant.matched (map.from_entries c.remove.new.self.entries) c.unfile.new.self.matches here gone c.unfile.ensures.matches;
    }

pub invariant_of-self-else-is_none : goal.invariant_of-self-else-is_none
invariant_of-self-else-is_none c =
    let m : ByDot = map.from_entries c.self.inside.entries.entries in
    let e = c.in-Some.entry in
    let here : map.get m c.args.dot ≡ Some e = get_table dot_cmp_total c.self.inside.entries.entries c.args.dot ∙ sym c.remove.ensures.value ∙ c.in-Some.is in
    let left : ByDot = map.remove m c.args.dot in
    let filed = taken m left c.args.dot e c.self.inside.index.clients c.unfile.new.self.clients c.self.inside.index.filters c.unfile.new.self.filters c.self.inside.live (length (latest (map.entries left))) c.self.invariant.indexed here refl c.unfile.ensures.clients c.unfile.ensures.filters refl in
    let gone : map.from_entries {R = dot_cmp} c.remove.new.self.entries ≡ left = remove_table dot_cmp_total dot_cmp_antisym c.self.inside.entries.entries c.remove.new.self.entries c.args.dot c.remove.ensures.updates.0 in
    let there = stands_by left c.unfile.new.self.clients c.unfile.new.self.filters (length (latest (map.entries left))) filed c.client.result.now c.filter.result.now c.under.result c.under.ensures (c.is_none.ensures ∙ ap not c.if-is_none.false) in
    let same = live_left m c.args.dot e here (there.0, (λ i. stands_as (sym c.client.ensures i) (Some (sym c.filter.ensures i)) (map.get left there.0)) ∙ there.1) in
    record {
      indexed = taken m (map.from_entries c.remove.new.self.entries) c.args.dot e c.self.inside.index.clients c.unfile.new.self.clients c.self.inside.index.filters c.unfile.new.self.filters c.self.inside.live c.self.inside.live c.self.invariant.indexed here gone c.unfile.ensures.clients c.unfile.ensures.filters
          (c.self.invariant.indexed.live ∙ same);
      matched = matched_taken m c.args.dot e c.self.inside.index.matches c.self.invariant.matched (map.from_entries c.remove.new.self.entries) c.unfile.new.self.matches here gone c.unfile.ensures.matches;
    }

pub returns-in_default-clause-value : goal.returns-in_default-clause-value
returns-in_default-clause-value c = sym (get_table dot_cmp_total c.self.inside.entries.entries c.args.dot ∙ sym c.remove.ensures.value ∙ c.in_default.is) ∙ ap (λ (x : ByDot). map.get x c.args.dot) c.self.view_is

pub returns-in_default-clause-left : goal.returns-in_default-clause-left
returns-in_default-clause-left c = remove_table dot_cmp_total dot_cmp_antisym c.self.inside.entries.entries c.remove.new.self.entries c.args.dot c.remove.ensures.updates.0 ∙ ap (λ (x : ByDot). map.remove x c.args.dot) c.self.view_is

pub returns-clause-value : goal.returns-clause-value
returns-clause-value c = sym (get_table dot_cmp_total c.self.inside.entries.entries c.args.dot ∙ sym c.remove.ensures.value ∙ c.in-Some.is) ∙ ap (λ (x : ByDot). map.get x c.args.dot) c.self.view_is

pub returns-clause-left : goal.returns-clause-left
returns-clause-left c =
    let gone = remove_table dot_cmp_total dot_cmp_antisym c.self.inside.entries.entries c.remove.new.self.entries c.args.dot c.remove.ensures.updates.0 ∙ ap (λ (x : ByDot). map.remove x c.args.dot) c.self.view_is in
    elim c.if-is_none.branch [ then-is_none w ↦ w.self-is ∙ gone | else-is_none w ↦ w.self-is ∙ gone ]
