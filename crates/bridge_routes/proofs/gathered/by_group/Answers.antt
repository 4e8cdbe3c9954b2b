use Rattle.std.proofs.Common.{◌∷◌, ◌++◌, [], take, sym, ap, subst, ◌∙◌}
use Rattle.std.proofs.lemmas.List.{map_more, take_all}
use Rattle.subscription_set.proofs.Spreading.{text_total, text_anti, pair_total, pair_anti}
use Rattle.bridge_routes.specs.Gathered.{group_of, group_cmp}
use Rattle.bridge_routes.specs.Tables.{referents, shown}
use Rattle.bridge_routes.proofs.Gathering.{Holds, holds_more, holds_all, rises_shown}
use Rattle.bridge_routes.proofs.gathered.by_group.Goals as goal

pub loop-entry-preserved : goal.loop-entry-preserved
loop-entry-preserved c =
    let put = c.in_ok-put_with_group.ensures in
    let grown = map_more (λ r. r.now) c.args.entries.now c.loop-entry.entry-index c.entry-item.result c.loop-entry-test.true in
    let item = sym c.entry-item.is in
    record {
      holds = subst (λ es. Holds group_cmp group_of es (shown c.put_with_group.new.table.entries)) (sym (grown ∙ ap (λ r. referents (take c.loop-entry.entry-index c.args.entries.now) ++ r.now ∷ []) item))
          (holds_more (pair_total text_total text_anti text_total text_anti) (pair_anti text_total text_anti text_total text_anti) group_of (referents (take c.loop-entry.entry-index c.args.entries.now)) c.entry-item.result.now (shown c.loop-entry.table.entries) (shown c.put_with_group.new.table.entries) c.loop-entry.invariant.holds put.put);
      ordered = put.ordered;
    }

pub returns-clause-table : goal.returns-clause-table
returns-clause-table c =
    let whole = take_all c.loop-entry.entry-index c.args.entries.now c.loop-entry-test.false in
    holds_all (pair_total text_total text_anti text_total text_anti) (pair_anti text_total text_anti text_total text_anti) group_of (referents c.args.entries.now) (shown c.loop-entry.table.entries) (rises_shown group_cmp (λ v. referents v.items) c.loop-entry.table.entries c.loop-entry.invariant.ordered)
    (subst (λ es. Holds group_cmp group_of (referents es) (shown c.loop-entry.table.entries)) whole c.loop-entry.invariant.holds)
