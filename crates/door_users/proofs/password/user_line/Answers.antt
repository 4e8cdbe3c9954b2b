use Rattle.std.proofs.Common.{List, ℕ, ap, ap₂, ◌∙◌}
use Rattle.std.proofs.lemmas.Result.{IfOk-weaker}
use Rattle.base64.specs.Engines.{standard}
use Rattle.base64.specs.GeneralPurpose.{encode_of}
use Rattle.door_users.specs.Writing.{head_of, line_of}
use Rattle.door_users.proofs.password.user_line.Goals as goal

pub returns : goal.returns
returns c =
    let front = c.as_str.ensures.value ∙ c.in_ok-head.ensures in
    let salt = c.as_str-2.ensures.value ∙ c.in_ok-salt.ensures.text in
    let hash = c.as_str-3.ensures.value ∙ c.in_ok-hash.ensures.text ∙ ap (encode_of standard) c.pbkdf2_hmac_sha512-key.ensures in
    IfOk-weaker c.line_of.result _ _
    (λ line so. so ∙ ap (λ (h : List ℕ). line_of h c.as_str-2.result.now c.as_str-3.result.now) front ∙ ap₂ (line_of (head_of c.args.name.now c.args.iterations)) salt hash) c.line_of.ensures
