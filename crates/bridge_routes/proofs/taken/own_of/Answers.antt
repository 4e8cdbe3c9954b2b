use Rattle.std.proofs.Common.{◌∷◌, ◌++◌, List, [], Bor, Vec, Global, Option, Some, sym, ap, subst, ◌∙◌}
use Rattle.std.specs.Option.{option_copied, option_to_list}
use Rattle.mqtt_topics.specs.Matching.{Matches}
use Rattle.bridge_routes.specs.Copies.{AreLive}
use Rattle.bridge_routes.specs.Tables.{referents}
use Rattle.subscription_set.specs.Entries.{Entry}
use Rattle.subscription_set.specs.Standing.{dots_of, live}
use Rattle.bridge_routes.specs.Taken.{IsPicked}
use Rattle.bridge_routes.proofs.LatestLive.{latest_is_live, matches_nothing}
use Rattle.bridge_routes.proofs.taken.own_of.Goals as goal
use Rattle.bridge_routes.proofs.taken.own_of.Goals.{in-Some+in_ok-push, in_default}

pub returns-then-not-matches : goal.returns-then-not-matches
returns-then-not-matches c =
    let m = c.args.message.now in
    let p = c.args.pick.now in
    subst (λ (es : List (Bor Entry)). AreLive (IsPicked m p) (live c.args.subscriptions.now) (referents es)) (sym c.new-out.ensures.items)
    (matches_nothing m p c.args.subscriptions.now (λ h. absurd (let never = c.matches.ensures.1 (subst (λ f. Matches f m.topic) (sym c.as_filter-filter.ensures.same) h) in let is = c.if-not-matches.true in cc)))

pub returns : goal.returns
returns c =
    let m = c.args.message.now in
    let p = c.args.pick.now in
    let s = c.args.subscriptions.now in
    let hit : Matches p.filter m.topic = subst (λ f. Matches f m.topic) c.as_filter-filter.ensures.same (c.matches.ensures.0 c.if-not-matches.false) in
    let found = latest_is_live m p s c.in_ok-dots.dots (option_copied c.latest_at.result) hit (c.in_ok-dots.ensures.dots ∙ ap (λ f. dots_of p.client (Some f) s) c.as_filter-filter.ensures.same) c.latest_at.ensures in
    let Live : Option (Bor Entry) → Type 0 = λ o. AreLive (IsPicked m p) (live s) (option_to_list (option_copied o)) in
    let Shown : List (Bor Entry) → Type 0 = λ es. AreLive (IsPicked m p) (live s) (referents es) in
    elim c.match-latest_at.branch [
      | in-Some+in_ok-push w ↦ subst Shown (sym (ap (λ (o : Vec (Bor Entry) Global). o.items) w.out-is ∙ w.in_ok-push.ensures.items ∙ ap (λ es. es ++ w.in-Some.entry ∷ []) c.new-out.ensures.items)) (subst Live w.in-Some.is found)
      | in_default w ↦ subst Shown (sym (ap (λ (o : Vec (Bor Entry) Global). o.items) w.out-is ∙ c.new-out.ensures.items)) (subst Live w.in_default.is found)
    ]
