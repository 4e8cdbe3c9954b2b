use Rattle.std.proofs.lemmas.Result.{IfOk-weaker}
use Rattle.subscription_set.specs.Standing.{live}
use Rattle.bridge_routes.specs.Copies.{AreCopies, AreCopiesAmong}
use Rattle.bridge_routes.specs.Tables.{referents}
use Rattle.bridge_routes.proofs.Selecting.{copies_found, nothing_found, is_ok_of_none}
use Rattle.bridge_routes.proofs.plain.copies.Goals as goal

pub returns-clause-copies : goal.returns-clause-copies
returns-clause-copies c =
    let m = c.args.message.now in
    let es = c.in_ok-found.found.items in
    let found = c.in_ok-found.ensures.found in
    IfOk-weaker c.copies_among.result (λ out. AreCopiesAmong (referents es) m out.items) (λ out. AreCopies (live c.args.subscriptions.now) m out.items)
    (λ out among. copies_found (live c.args.subscriptions.now) m (referents es) out.items found among) c.copies_among.ensures.copies

pub returns-clause-none : goal.returns-clause-none
returns-clause-none c = λ none.
    let m = c.args.message.now in
    let es = c.in_ok-found.found.items in
    let found = c.in_ok-found.ensures.found in
    is_ok_of_none _ c.copies_among.result (nothing_found (live c.args.subscriptions.now) m es found none) c.copies_among.ensures.memory
