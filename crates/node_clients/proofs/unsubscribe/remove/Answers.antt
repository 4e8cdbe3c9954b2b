use Rattle.std.proofs.Common.{Some, Ok, Err, Result, cond, ℕ, Bool, sym, subst}
use Rattle.mqtt_topics.specs.Topics.{IsFilter}
use Rattle.node_work.specs.declared.fault.NodeFault.{NodeFault}
use Rattle.node_clients.specs.Parsing.{IsFilterOf}
use Rattle.node_work.specs.Doings.{Removes}
use Rattle.node_work.specs.Working.{ComesTo, Did, Returns, Then}
use Rattle.node_work.proofs.Working.{comes_else, comes_where, then_stops, did_then, did_nothing}
use Rattle.node_clients.proofs.unsubscribe.remove.Goals as goal

pub returns-in_err-stood : goal.returns-in_err-stood
returns-in_err-stood c =
    let w = c.args.work.now in
    let m = c.remove.new.self in
    let client = c.args.client.now in
    let text = c.args.text.now in
    let r = c.from_residual-in_err-stood.result in
    let fault = c.in_err-stood.field-0.0 in
    let is = subst (IsFilterOf text) c.in-Some.is c.in_ok-filter.ensures.ok in
    let d = subst (λ f. ComesTo {T = Bool} (λ x. x) (Err fault) w m (Removes client (Some f))) is.1 c.in_err-stood.ensures.comes in
    comes_where (λ x. x) r w m (IsFilter text) (Then (Removes client (Some text)) (λ stood. Returns (cond stood 0 17))) (Returns 143) is.0
    (then_stops (Removes client (Some text)) (λ stood. Returns (cond stood 0 17)) (λ x. x) (λ x. x) r fault w m c.from_residual-in_err-stood.ensures.1 d)

pub returns : goal.returns
returns c =
    let w = c.args.work.now in
    let m = c.remove.new.self in
    let client = c.args.client.now in
    let text = c.args.text.now in
    let stood = c.in_ok-stood.stood in
    let done : Result ℕ NodeFault = Ok c.removal_reason.result in
    let is = subst (IsFilterOf text) c.in-Some.is c.in_ok-filter.ensures.ok in
    let d = subst (λ f. Did w m (Removes client (Some f) (Some stood))) is.1 c.in_ok-stood.ensures.comes in
    comes_where (λ x. x) done w m (IsFilter text) (Then (Removes client (Some text)) (λ b. Returns (cond b 0 17))) (Returns 143) is.0
    (did_then (Removes client (Some text)) (λ b. Returns (cond b 0 17)) w m m stood (Some c.removal_reason.result) d
    (subst (λ n. Did m m (Returns (cond stood 0 17) (Some n))) (sym c.removal_reason.ensures) (did_nothing m (cond stood 0 17))))

pub returns-in_default : goal.returns-in_default
returns-in_default c =
    let w = c.args.work.now in
    let text = c.args.text.now in
    let done : Result ℕ NodeFault = Ok 143 in
    let is = subst (IsFilterOf text) c.in_default.is c.in_ok-filter.ensures.ok in
    comes_else (λ x. x) done w w (IsFilter text) (Then (Removes c.args.client.now (Some text)) (λ b. Returns (cond b 0 17))) (Returns 143) is (did_nothing w 143)
