use Rattle.std.proofs.Common.{◌++◌, Option, Bor, ℕ, List, map as map_list, option_copied, sym, ap, subst, ◌∙◌}
use Rattle.std.proofs.lemmas.List.{append-nil}
use Rattle.std.proofs.lemmas.Result.{on_ok_weaker}
use Rattle.subscription_set.specs.Members.{IsInTurn}
use Rattle.subscription_set.proofs.Turns.{nobody_live, turn_dots, turn_stands}
use Rattle.subscription_set.proofs.live.add_in_turn.Goals as goal

pub returns-in_default : goal.returns-in_default
returns-in_default c =
    let m = c.args.entries.now in
    let f = c.args.filter.now in
    let shown = map_list (λ r. r.now) c.args.out.now.items in
    let t = subst (λ (r : Option (Bor (List ℕ))). IsInTurn m f c.args.turn (option_copied r)) c.in_default.is c.in_turn.ensures in
    sym (append-nil shown) ∙ ap (λ l. shown ++ l) (sym (nobody_live m f c.args.turn t))

pub returns-in-None : goal.returns-in-None
returns-in-None c =
    let m = c.args.entries.now in
    let f = c.args.filter.now in
    let t = subst (λ (r : Option (Bor (List ℕ))). IsInTurn m f c.args.turn (option_copied r)) c.in-Some.is c.in_turn.ensures in
    absurd (turn_stands m f c.args.turn c.in-Some.client.now t c.in-None.ensures)

pub returns-in-Some-standing : goal.returns-in-Some-standing
returns-in-Some-standing c =
    let m = c.args.entries.now in
    let f = c.args.filter.now in
    let shown = map_list (λ r. r.now) c.args.out.now.items in
    let t = subst (λ (r : Option (Bor (List ℕ))). IsInTurn m f c.args.turn (option_copied r)) c.in-Some.is c.in_turn.ensures in
    on_ok_weaker c.add_latest.result (λ e. e ∙ ap (λ l. shown ++ l) (turn_dots m f c.args.turn c.in-Some.client.now c.in-Some-standing.dots.now t c.in-Some-standing.ensures)) c.add_latest.ensures.latest
