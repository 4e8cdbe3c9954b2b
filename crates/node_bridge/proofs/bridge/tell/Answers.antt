use Rattle.std.proofs.Common.{◌≡◌, ◌+◌, ◌<◌, [], length, ap, subst, arith, rules}
use Rattle.std.specs.Prelude.{vec_len, vec_capacity}
use Rattle.std.proofs.lemmas.Grind.{common_steps}
use Rattle.bridge_lanes.specs.Changes.{AreLaneChanges, now_of, told_of}
use Rattle.node_bridge.proofs.Telling.{lanes_told, no_changes}
use Rattle.node_bridge.proofs.bridge.tell.Goals as goal

pub returns-in_ok-append-in-Ok-clause-tells : goal.returns-in_ok-append-in-Ok-clause-tells
returns-in_ok-append-in-Ok-clause-tells c =
    let ks = c.args.links.now.lanes in
    lanes_told (told_of ks) (now_of ks) c.args.changes.now.items c.append.new.self.items c.in-Ok.own.items c.in_ok-append-in-Ok.ensures.items c.in-Ok.ensures.changes

pub returns-in_err-append-in-Ok-clause-nothing : goal.returns-in_err-append-in-Ok-clause-nothing
returns-in_err-append-in-Ok-clause-nothing c = λ e.
    let ks = c.args.links.now.lanes in
    let own = c.in-Ok.own in
    let none : own.items ≡ [] = no_changes (now_of ks) own.items (subst (λ ls. AreLaneChanges ls (now_of ks) own.items) e c.in-Ok.ensures.changes) in
    let full : vec_capacity c.args.changes.now < vec_len c.args.changes.now + vec_len own = search rules in
    let count : vec_len own ≡ 0 = omega (arith, own.ok.0, ap length none) in
    absurd (grind (arith, common_steps, full, count))
