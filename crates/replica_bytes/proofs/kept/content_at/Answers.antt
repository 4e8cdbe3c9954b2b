use Rattle.std.proofs.Common.{rules, Ok, ap, ◌∙◌}
use Rattle.mqtt_message.proofs.BeginLaws.{message_begins}
use Rattle.replica_bytes.specs.Memory.{HasText, MessageBegins}
use Rattle.replica_bytes.proofs.kept.content_at.Goals as goal

pub returns-in_err-message-clause-no_memory : goal.returns-in_err-message-clause-no_memory
returns-in_err-message-clause-no_memory c =
    let begins : HasText c.in_ok-present.rest.now → MessageBegins c.args.bytes.now = λ topic. record { rest = c.in_ok-present.rest.now; read = c.in_ok-present.ensures.exact ∙ ap (λ b. Ok (b, c.in_ok-present.rest.now)) c.if-not-present.false; topic = topic } in
    search (rules, begins)

pub returns-in_err-shared-clause-no_memory : goal.returns-in_err-shared-clause-no_memory
returns-in_err-shared-clause-no_memory c = λ _. record {
  rest = c.in_ok-present.rest.now;
  read = c.in_ok-present.ensures.exact ∙ ap (λ b. Ok (b, c.in_ok-present.rest.now)) c.if-not-present.false;
  topic = message_begins c.in_ok-present.rest.now (c.in_ok-message.message, c.in_ok-message.rest.now) c.in_ok-message.ensures.exact;
}
