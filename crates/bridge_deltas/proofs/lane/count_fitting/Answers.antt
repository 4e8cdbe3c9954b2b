use Rattle.std.proofs.Common.{◌≡◌, ◌+◌, ◌-◌, ◌<◌, ℕ, min, List, length, drop, ap, sym, ◌∙◌, arith, rules}
use Rattle.std.proofs.lemmas.Grind.{common_steps}
use Rattle.mqtt_message.specs.declared.message.Message.{Message}
use Rattle.bridge_deltas.specs.More.{fitting}
use Rattle.bridge_deltas.proofs.Framing.{all_fit, next_fits, no_more_fit}
use Rattle.bridge_deltas.proofs.lane.count_fitting.Goals as goal

pub returns-then-bytes-eq0-clause-count : goal.returns-then-bytes-eq0-clause-count
returns-then-bytes-eq0-clause-count c =
    let all = c.args.messages.now.items in
    no_more_fit (4096 - c.loop-i.i) c.loop-i.bytes (fitting 4096 4194304 (drop c.args.place all)) c.loop-i.i (drop (c.args.place + c.loop-i.i) all) c.if-bytes-eq0.true c.loop-i.invariant

pub loop-i-preserved : goal.loop-i-preserved
loop-i-preserved c =
    let all = c.args.messages.now.items in
    let few : c.loop-i.i < 4096 = first_of (omega (arith, c.loop-i-test.true, c.min-count.ensures), search rules, grind (arith, common_steps)) in
    let inside : c.args.place + c.loop-i.i < length all = first_of (search rules, grind (arith, common_steps)) in
    let less : c.saturating_sub-bytes.result ≡ c.loop-i.bytes - length c.index.result.now.message.payload =
    c.saturating_sub-bytes.ensures ∙ ap (λ (p : List ℕ). c.loop-i.bytes - length p) (c.as_slice.ensures.same ∙ ap (λ (m : Message). m.payload) c.message-message.ensures) in
    next_fits 4096 c.loop-i.bytes (fitting 4096 4194304 (drop c.args.place all)) c.args.place c.loop-i.i all c.index.result.now few inside c.index.ensures c.if-bytes-eq0.false c.loop-i.invariant
    ∙ ap (λ n. (c.loop-i.i + 1) + fitting (4096 - (c.loop-i.i + 1)) n (drop (c.args.place + (c.loop-i.i + 1)) all)) (sym less)

pub returns-clause-count : goal.returns-clause-count
returns-clause-count c =
    let all = c.args.messages.now.items in
    let end : c.loop-i.i ≡ c.min-count.result = first_of (omega (arith, c.loop-i-test.false, c.loop-i.auto.i-end), search rules, grind (arith, common_steps)) in
    let whole : c.loop-i.i ≡ min (length all - c.args.place) 4096 = first_of (omega (arith, end, c.min-count.ensures, c.len.ensures), grind (arith, common_steps)) in
    sym end ∙ all_fit 4096 c.loop-i.bytes (fitting 4096 4194304 (drop c.args.place all)) c.args.place c.loop-i.i all c.requires whole c.loop-i.invariant
