use Rattle.std.proofs.Common.{◌+◌, ◌||◌, take, get_or, inr, refl, sym, ap, ◌∙◌}
use Rattle.std.specs.Prelude.{is_some, unwrap_or}
use Rattle.std.specs.FinMap as finite
use Rattle.home_table.specs.Table.{number_of}
use Rattle.home_table.proofs.PrefixLaws.{is_placed, place_more}
use Rattle.home_table.proofs.TwiceLaws.{twice_more, twice_in_front}
use Rattle.home_table.proofs.table.place_homes.Goals as goal

pub returns-then-is_some-clause-fault : goal.returns-then-is_some-clause-fault
returns-then-is_some-clause-fault c =
    let home = c.home-item.result in
    let before = take c.loop-home.home-index c.args.homes.now in
    let more = twice_more (λ h. h.prefix) c.args.homes.now c.loop-home.home-index home c.loop-home-test.true in
    let same = c.as_bytes-prefix.ensures.value ∙ c.as_str.ensures.same ∙ ap (λ h. h.prefix) c.home-item.is in
    let found = ap is_some c.get.ensures ∙ (λ j. is_some (finite.get (c.loop-home.invariant.0 j) (same j))) ∙ is_placed c.args.nodes.now before (get_or c.args.homes.now c.loop-home.home-index home).prefix in
    let any = sym found ∙ sym c.if-is_some.ensures in
    inr (refl, twice_in_front (λ h. h.prefix) c.args.homes.now (c.loop-home.home-index + 1) (more ∙ (λ j. c.loop-home.invariant.1 j || any j)))

pub loop-home-preserved : goal.loop-home-preserved
loop-home-preserved c =
    let home = c.home-item.result in
    let before = take c.loop-home.home-index c.args.homes.now in
    let more = twice_more (λ h. h.prefix) c.args.homes.now c.loop-home.home-index home c.loop-home-test.true in
    let same = c.as_bytes-prefix.ensures.value ∙ c.as_str.ensures.same ∙ ap (λ h. h.prefix) c.home-item.is in
    let found = ap is_some c.get.ensures ∙ (λ j. is_some (finite.get (c.loop-home.invariant.0 j) (same j))) ∙ is_placed c.args.nodes.now before (get_or c.args.homes.now c.loop-home.home-index home).prefix in
    let any = sym found ∙ sym c.if-is_some.ensures in
    let new = ap (λ p. is_some (finite.get c.loop-home.prefixes p)) (sym same) ∙ ap is_some (sym c.get.ensures) ∙ sym c.if-is_some.ensures in
    let named = c.as_str-in-loop-home.ensures.same ∙ ap (λ h. h.node) c.home-item.is in
    let number = c.unwrap_or-node.ensures ∙ (λ j. unwrap_or (c.number_of.ensures j) 0) ∙ ap (λ n. unwrap_or (number_of c.args.nodes.now n) 0) named in (
      c.in_ok-add.ensures.ok ∙ (λ j. finite.insert c.loop-home.prefixes (same j) (number j))
          ∙ place_more c.args.nodes.now c.args.homes.now c.loop-home.home-index home c.loop-home.prefixes c.loop-home-test.true c.loop-home.invariant.0 new,
      more ∙ (λ j. c.loop-home.invariant.1 j || any j),
    )
