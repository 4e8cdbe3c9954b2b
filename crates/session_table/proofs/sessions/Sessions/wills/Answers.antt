use Rattle.std.proofs.Common.{refl, ap, ◌∙◌}
use Rattle.std.proofs.lemmas.Result.{IfOk-weaker}
use Rattle.mqtt_sessions.specs.Ending.{will_due}
use Rattle.session_table.specs.Listing.{table}
use Rattle.session_table.specs.Seats.{wills_due}
use Rattle.session_table.proofs.Numbers.{due_is}
use Rattle.session_table.proofs.sessions.Sessions.wills.Goals as goal

pub returns-clause-due : goal.returns-clause-due
returns-clause-due c =
    let are = due_is c.args.now (λ s. will_due s.kept) (λ m. m.will) (table c.self.inside.seats.entries) c.self.inside.listing.wills (λ k. (c.self.invariant.listed k).will) c.self.invariant.run refl (λ s o. refl)
    ∙ ap (λ m. wills_due m c.args.now) c.self.view_is in
    IfOk-weaker c.due.result _ _ (λ out is. is ∙ are) c.due.ensures.due

pub returns-clause-none : goal.returns-clause-none
returns-clause-none c = λ none.
    c.due.ensures.none (due_is c.args.now (λ s. will_due s.kept) (λ m. m.will) (table c.self.inside.seats.entries) c.self.inside.listing.wills (λ k. (c.self.invariant.listed k).will) c.self.invariant.run refl (λ s o. refl)
    ∙ ap (λ m. wills_due m c.args.now) c.self.view_is ∙ none)
