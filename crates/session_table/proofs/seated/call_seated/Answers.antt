use Rattle.std.proofs.Common.{◌≡◌, Option, ℕ, IfSome, sym, subst, ◌∙◌}
use Rattle.mqtt_sessions.specs.Saved.{state_of}
use Rattle.session_table.specs.Calls.{event_of, on_of}
use Rattle.session_table.specs.Listing.{moments_of}
use Rattle.session_table.specs.Rows.{IsAllTold, TellsAgain}
use Rattle.session_table.specs.Wants.{WantsAt}
use Rattle.session_table.specs.declared.seated.Seated.{Seated}
use Rattle.session_table.proofs.Calling.{due_anew}
use Rattle.session_table.proofs.seated.call_seated.Goals as goal

pub returns-clause-tells : goal.returns-clause-tells
returns-clause-tells c =
    let same : c.deref_mut-seated.result.now ≡ c.args.seated.now = c.deref_mut-seated.ensures.value ∙ c.seated.view_is in
    let P : Seated → Type 0 = λ x. IsAllTold c.args.seated.now.key.1 x.session in
    let Q : Seated → Type 0 = λ x. TellsAgain c.args.seated.now.key.1 x.session c.args.changes.now.items c.turn_and_tell.new.changes.items c.turn_and_tell.new.session in
    subst Q same (c.in_ok-reaction.ensures.tells c.args.seated.now.key.1 (subst P (sym same) c.requires.told))

pub returns-in_err-relist-clause-wants : goal.returns-in_err-relist-clause-wants
returns-in_err-relist-clause-wants c = λ refused.
    let same : c.deref_mut-seated.result.now ≡ c.args.seated.now = c.deref_mut-seated.ensures.value ∙ c.seated.view_is in
    let x = c.deref_mut-seated.result.now in
    let P : Seated → Type 0 = λ y. IfSome (state_of y.session) (λ s. WantsAt (event_of c.args.call) (on_of c.args.on) s y.connection) in
    let M : Seated → Type 0 = λ y. IfSome (state_of y.session) (λ s. y.listed ≡ moments_of s y.connection) in
    let A : Option ℕ → Type 0 = λ k. IfSome (state_of c.turn_and_tell.new.session) (λ s. c.moments_of-moments.result ≡ moments_of s k) in
    subst P same
    (due_anew (event_of c.args.call) (on_of c.args.on) (state_of x.session) x.connection c.in_ok-reaction.reaction (state_of c.turn_and_tell.new.session) x.listed c.moments_of-moments.result
    c.in_ok-reaction.ensures.turned (subst M (sym same) c.requires.moments) (subst A c.land-connection.ensures c.moments_of-moments.ensures) c.in_err-relist.ensures.want)
