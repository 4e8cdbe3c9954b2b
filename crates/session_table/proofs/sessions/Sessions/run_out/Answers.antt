use Rattle.std.proofs.Common.{◌≡◌, true, false, ap, ◌∙◌}
use Rattle.std.proofs.lemmas.Result.{IfOk-weaker}
use Rattle.std.specs.List.{flat_map}
use Rattle.session_table.specs.Dues.{in_order}
use Rattle.session_table.specs.Listing.{on_connection, table}
use Rattle.session_table.specs.Seats.{run_outs}
use Rattle.session_table.proofs.Numbers.{run_outs_are, none_listed}
use Rattle.session_table.proofs.sessions.Sessions.run_out.Goals as goal

pub returns-in_err-dues-clause-none : goal.returns-in_err-dues-clause-none
returns-in_err-dues-clause-none c = λ none.
    absurd (let z : false ≡ true = c.in_err-dues.ensures.none (none_listed c.args.now c.ranges.now.fits (table c.self.inside.seats.entries) c.self.inside.listing.run_outs (λ k. (c.self.invariant.listed k).run_out) c.self.invariant.run
    (ap (λ m. run_outs m c.args.now) c.self.view_is ∙ none)) in cc)

pub returns-clause-due : goal.returns-clause-due
returns-clause-due c =
    IfOk-weaker c.by_connection.result _ _ (λ out is.
    is ∙ ap (λ ds. in_order (flat_map (on_connection (table c.self.inside.seats.entries)) ds)) c.in_ok-dues.ensures.due
    ∙ run_outs_are c.args.now c.ranges.now.fits (table c.self.inside.seats.entries) c.self.inside.listing.run_outs (λ k. (c.self.invariant.listed k).run_out) c.self.invariant.run
    ∙ ap (λ m. run_outs m c.args.now) c.self.view_is) c.by_connection.ensures.pairs

pub returns-clause-none : goal.returns-clause-none
returns-clause-none c = λ none.
    c.by_connection.ensures.none (c.in_ok-dues.ensures.due
    ∙ none_listed c.args.now c.ranges.now.fits (table c.self.inside.seats.entries) c.self.inside.listing.run_outs (λ k. (c.self.invariant.listed k).run_out) c.self.invariant.run
    (ap (λ m. run_outs m c.args.now) c.self.view_is ∙ none))
