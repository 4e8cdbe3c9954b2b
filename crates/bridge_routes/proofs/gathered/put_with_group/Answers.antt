use Rattle.std.proofs.Common.{◌∷◌, ◌++◌, [], cond, Some, None, ap, ◌∙◌}
use Rattle.std.proofs.lemmas.List.{map_push}
use Rattle.std.specs.Map.{lookup}
use Rattle.std.specs.Ordering.{is_eq}
use Rattle.mqtt_topics.specs.Topics.{share_name, share_filter}
use Rattle.subscription_set.proofs.Spreading.{text_total, text_anti, pair_total}
use Rattle.bridge_routes.specs.Gathered.{group_cmp, group_of}
use Rattle.bridge_routes.specs.Tables.{referents}
use Rattle.bridge_routes.proofs.Gathering.{put_again}
use Rattle.bridge_routes.proofs.gathered.put_with_group.Goals as goal

pub returns-clause-put : goal.returns-clause-put
returns-clause-put c =
    let es = c.args.table.now.entries in
    let ms = c.remove.new.self.entries in
    let key = c.in_ok-group.ensures ∙ ap (λ f. (share_name f, share_filter f)) c.filter.ensures in
    put_again group_cmp (λ v. referents v.items) (pair_total text_total text_anti text_total text_anti) es ms c.insert.new.self.entries (group_of c.args.entry.now) c.remove.result c.new.result c.push.new.self c.args.entry.now
    (c.remove.ensures.value ∙ ap (λ k. lookup (λ y. is_eq (group_cmp k y)) es) key)
    (λ q. c.remove.ensures.updates.0 q ∙ ap (λ k. cond (is_eq (group_cmp k q)) None (lookup (λ y. is_eq (group_cmp q y)) es)) key)
    (ap referents c.new.ensures.items)
    (ap referents c.in_ok-push.ensures.items ∙ map_push (λ r. r.now) c.unwrap_or-own.result.items c.args.entry ∙ ap (λ v. referents v.items ++ c.args.entry.now ∷ []) c.unwrap_or-own.ensures)
    (λ q. c.in_ok-insert.ensures.updates.0 q ∙ ap (λ k. cond (is_eq (group_cmp k q)) (Some c.push.new.self) (lookup (λ y. is_eq (group_cmp q y)) ms)) key)
