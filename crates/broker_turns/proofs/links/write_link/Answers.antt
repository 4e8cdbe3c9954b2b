use Rattle.std.proofs.Common.{◌≡◌, ◌<◌, Some, None, length, slice_set, Bool, sym, subst, arith, ◌∙◌}
use Rattle.std.proofs.lemmas.Grind.{common_steps}
use Rattle.broker_turns.specs.Bridging.{Relinks, left_if}
use Rattle.broker_turns.specs.Lines.{link_of}
use Rattle.broker_turns.proofs.Linking.{Relinks-over, Relinks-set, get_or-default, written-at}
use Rattle.broker_turns.proofs.links.write_link.Goals as goal

pub returns-then-write_line : goal.returns-then-write_line
returns-then-write_line g c =
    let d = c.args.links.now in
    let left = c.write_line.new.line in
    let found : link_of d c.args.peer ≡ Some c.in-Some.line = get_or-default d c.args.peer None c.index-links-peer.result c.requires ∙ c.in-Some.is in
    let K : Bool → Type 0 = λ b. Relinks d (slice_set d c.args.peer (Some left)) c.args.peer (left_if b left) in
    written-at _ c.args.peer _ left _ _ d _ c.write_line.result found c.write_line.ensures (subst K (sym c.if-write_line.true) (Relinks-set d c.args.peer (Some left) c.requires))

pub returns : goal.returns
returns g c =
    let d = c.args.links.now in
    let left = c.write_line.new.line in
    let found : link_of d c.args.peer ≡ Some c.in-Some.line = get_or-default d c.args.peer None c.index-links-peer.result c.requires ∙ c.in-Some.is in
    let m = slice_set d c.args.peer (Some left) in
    let K : Bool → Type 0 = λ b. Relinks d (slice_set m c.args.peer None) c.args.peer (left_if b left) in
    let within : c.args.peer < length m = grind (arith, common_steps, c.requires) in
    written-at _ c.args.peer _ left _ _ d _ c.write_line.result found c.write_line.ensures
    (subst K (sym c.if-write_line.false) (Relinks-over d m _ c.args.peer _ _ (Relinks-set d c.args.peer (Some left) c.requires) (Relinks-set m c.args.peer None within)))
