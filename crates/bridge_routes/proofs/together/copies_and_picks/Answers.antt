use Rattle.std.proofs.Common.{sym, subst, arith}
use Rattle.subscription_set.specs.Members.{AreInTurn}
use Rattle.subscription_set.specs.Standing.{live}
use Rattle.bridge_routes.specs.Copies.{AreLive, IsPlainFor, entries_in}
use Rattle.bridge_routes.specs.Tables.{referents}
use Rattle.bridge_routes.proofs.InTurn.{picks_in_turn}
use Rattle.bridge_routes.proofs.Sharing.{picks_shared}
use Rattle.bridge_routes.proofs.Selecting.{plain_copies, plain_again, nothing_plain, nothing_in_turn}
use Rattle.bridge_routes.proofs.together.copies_and_picks.Goals as goal

pub returns-in_err-copies-clause-none : goal.returns-in_err-copies-clause-none
returns-in_err-copies-clause-none c = λ none.
    let zero = nothing_plain (live c.args.subscriptions.now) c.args.message.now c.in_ok-found.found.plain.items c.in_ok-found.ensures.plain none in
    absurd (omega (arith, zero, c.in_err-copies.ensures.memory))

pub returns-in_err-picks-clause-none : goal.returns-in_err-picks-clause-none
returns-in_err-picks-clause-none c = λ none.
    let own = subst (λ rs. AreInTurn c.args.turn c.args.message.now.topic (entries_in (live c.args.subscriptions.now)) (referents rs)) (sym c.as_slice.ensures.value) c.in_ok-found.ensures.in_turn in
    let zero = nothing_in_turn c.args.turn (live c.args.subscriptions.now) c.args.message.now c.as_slice.result.now own none in
    absurd (omega (arith, zero, c.in_err-picks.ensures.memory))

pub returns-clause-copies : goal.returns-clause-copies
returns-clause-copies c =
    plain_copies (live c.args.subscriptions.now) c.args.message.now (referents c.in_ok-found.found.plain.items) c.in_ok-copies.copies.items c.in_ok-found.ensures.plain c.in_ok-copies.ensures.copies

pub returns-clause-picks : goal.returns-clause-picks
returns-clause-picks c =
    let own = subst (λ rs. AreInTurn c.args.turn c.args.message.now.topic (entries_in (live c.args.subscriptions.now)) (referents rs)) (sym c.as_slice.ensures.value) c.in_ok-found.ensures.in_turn in
    picks_in_turn c.args.turn (live c.args.subscriptions.now) c.args.message.now (referents c.as_slice.result.now) c.in_ok-picks.picks.items own c.in_ok-picks.ensures.picks

pub returns-clause-shared : goal.returns-clause-shared
returns-clause-shared c = picks_shared c.args.turn (live c.args.subscriptions.now) c.args.message.now c.in_ok-picks.picks.items (returns-clause-picks c)

pub returns-clause-matching : goal.returns-clause-matching
returns-clause-matching c =
    let plain = subst (λ rs. AreLive (IsPlainFor c.args.message.now) (live c.args.subscriptions.now) (referents rs)) (sym c.as_slice-2.ensures.value) c.in_ok-found.ensures.plain in
    plain_again (live c.args.subscriptions.now) c.args.message.now (referents c.as_slice-2.result.now) (referents c.in_ok-matching.matching.items) plain c.in_ok-matching.ensures.selected

pub returns-in_err-matching-clause-none : goal.returns-in_err-matching-clause-none
returns-in_err-matching-clause-none c = λ none.
    let plain = subst (λ rs. AreLive (IsPlainFor c.args.message.now) (live c.args.subscriptions.now) (referents rs)) (sym c.as_slice-2.ensures.value) c.in_ok-found.ensures.plain in
    let zero = nothing_plain (live c.args.subscriptions.now) c.args.message.now c.as_slice-2.result.now plain none in
    absurd (omega (arith, zero, c.in_err-matching.ensures.memory))
