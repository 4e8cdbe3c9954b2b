use Rattle.std.proofs.Common.{◌≡◌, ◌∙◌, true, ap, ap₂, codes}
use Rattle.std.proofs.lemmas.Result.{IfOk-weaker}
use Rattle.clap.specs.Words.{App, app_of, new_app, with_subcommand}
use Rattle.clap.specs.Simple.{app_of_fields, on_top}
use Rattle.broker_command.specs.Line.{broker}
use Rattle.broker_command.proofs.line.commands.Goals as goal

pub returns : goal.returns
unfolding broker
returns c =
    let bare : app_of c.about.result ≡ new_app (codes "broker") = ap app_of_fields c.about.ensures ∙ c.new.ensures.app in
    let numbered = ap app_of_fields c.version.ensures ∙ ap (on_top (λ s. record s { has_version = true })) bare in
    let unnamed = ap app_of_fields c.no_binary_name.ensures ∙ ap (on_top (λ s. record s { no_binary_name = true })) numbered in
    let top = ap app_of_fields c.subcommand_required.ensures ∙ ap (on_top (λ s. record s { subcommand_required = true })) unnamed in
    let played = c.in_ok-subcommand.ensures.shape c.in_ok-play.ensures.1 ∙ ap₂ with_subcommand top (ap (λ (a : App). a.top) c.in_ok-play.ensures.0) in
    let looped = c.in_ok-subcommand-2.ensures.shape c.in_ok-loopback.ensures.1 ∙ ap₂ with_subcommand played (ap (λ (a : App). a.top) c.in_ok-loopback.ensures.0) in
    let served = c.in_ok-subcommand-3.ensures.shape c.in_ok-serve.ensures.1 ∙ ap₂ with_subcommand looped (ap (λ (a : App). a.top) c.in_ok-serve.ensures.0) in
    let ran = c.in_ok-subcommand-4.ensures.shape c.in_ok-run.ensures.1 ∙ ap₂ with_subcommand served (ap (λ (a : App). a.top) c.in_ok-run.ensures.0) in
    let checked = c.in_ok-subcommand-5.ensures.shape c.in_ok-check.ensures.1 ∙ ap₂ with_subcommand ran (ap (λ (a : App). a.top) c.in_ok-check.ensures.0) in
    let written = c.in_ok-subcommand-6.ensures.shape c.in_ok-password.ensures.1 ∙ ap₂ with_subcommand checked (ap (λ (a : App). a.top) c.in_ok-password.ensures.0) in
    let balanced = c.in_ok-subcommand-7.ensures.shape c.in_ok-balancer.ensures.1 ∙ ap₂ with_subcommand written (ap (λ (a : App). a.top) c.in_ok-balancer.ensures.0) in
    IfOk-weaker c.subcommand-8.result _ _
    (λ r added. added.shape c.in_ok-drop.ensures.1 ∙ ap₂ with_subcommand balanced (ap (λ (a : App). a.top) c.in_ok-drop.ensures.0)) c.subcommand-8.ensures
