use Rattle.std.proofs.Common.{◌≡◌, ◌∙◌, subst, List, ℕ, Some, None}
use Rattle.mqtt_topics.specs.Topics.{IsName}
use Rattle.mqtt_sessions.proofs.ArrivingLaws.{acceptable}
use Rattle.mqtt_sessions.proofs.arriving.is_acceptable.Goals as goal

same : (s t : List ℕ) → Some s ≡ Some t → s ≡ t
same s t e = (cc e)

none : (t : List ℕ) → None ≡ Some t → IsName t
none t e = (cc e)

pub returns-in-Some : goal.returns-in-Some
returns-in-Some c =
    acceptable c.args.connection.now c.args.publish.now c.spelled_is_acceptable.ensures c.requires.spelled c.as_str-own.ensures.fits
    (λ t e. subst IsName (same c.in-Some.topic.now t (c.in-Some.ensures ∙ e)) c.as_str-name.ensures.name) c.requires.taken

pub returns-in-None : goal.returns-in-None
returns-in-None c =
    acceptable c.args.connection.now c.args.publish.now c.spelled_is_acceptable.ensures c.requires.spelled c.as_str-own.ensures.fits (λ t e. none t (c.in-None.ensures ∙ e)) c.requires.taken
