-- The file of rules: what stands under a `user` line is for that user, what stands before the first one for clients without a name.
use Rattle.std.specs.Prelude.{ℕ, ◌+◌, List, [], ◌∷◌, ◌++◌, Bool, true, false, Option, Some, None, Result, Ok, Err}
use Rattle.std.specs.Str.{trim}
use Rattle.mqtt_access.specs.declared.rule.ClientRule.{ClientRule}
use Rattle.mqtt_access.specs.declared.rule.Scope.{Scope}
use Rattle.mqtt_access.specs.declared.rule.Scope.TheVariants.{Nameless, User, Pattern}
use Rattle.mqtt_access.specs.declared.rule.TopicRule.{TopicRule}
use Rattle.door_users.specs.declared.fault.LineFlaw.{LineFlaw}
use Rattle.door_users.specs.declared.fault.LineFlaw.TheVariants.{BadIdentifier, NoUser}
use Rattle.door_users.specs.declared.line.RuleLine.{RuleLine}
use Rattle.door_users.specs.declared.line.RuleLine.TheVariants as lines
use Rattle.door_users.specs.declared.rules.Reading.{Reading}
use Rattle.door_users.specs.Accounts.{carried}
use Rattle.door_users.specs.Lines.{file_lines}
use Rattle.door_users.specs.Outcomes.{◌>>=◌, at_line}
use Rattle.door_users.specs.RuleLines.{line_in}

-- the user whose rules are read, and the rules so far
pub record State : Type 0 where
  pub user : Option (List ℕ)
  pub topics : List TopicRule
  pub clients : List ClientRule

abbrev pub state_of : Reading → State
state_of r = record { user = r.user; topics = r.topics.items; clients = r.clients.items }

abbrev pub scope_of : Option (List ℕ) → Scope
scope_of None = Nameless
scope_of (Some name) = User name

-- an identifier, with the user's name in front where that is asked for
abbrev pub identifier_for : Bool → Option (List ℕ) → List ℕ → Result (List ℕ) LineFlaw
identifier_for false user identifier = Ok identifier
identifier_for true None identifier = Err NoUser
identifier_for true (Some name) identifier = carried BadIdentifier (name ++ identifier)

abbrev pub after_line : State → RuleLine → Result State LineFlaw
after_line s lines.Nothing = Ok s
after_line s (lines.User name) = Ok (record { user = Some name; topics = s.topics; clients = s.clients })
after_line s (lines.Topic access filter) =
    Ok (record { user = s.user; topics = s.topics ++ record { scope = scope_of s.user; access = access; filter = filter } ∷ []; clients = s.clients })
after_line s (lines.Pattern access filter) =
    Ok (record { user = s.user; topics = s.topics ++ record { scope = Pattern; access = access; filter = filter } ∷ []; clients = s.clients })
after_line s (lines.Client named identifier prefix) =
    identifier_for named s.user identifier
    >>= λ whole. Ok (record { user = s.user; topics = s.topics; clients = s.clients ++ record { user = s.user; identifier = whole; is_prefix = prefix } ∷ [] })

-- a line without white space at its ends
abbrev pub after_text : State → List ℕ → Result State LineFlaw
after_text s line = line_in line >>= after_line s

-- the lines from this number on
abbrev pub after_lines : ℕ → State → List (List ℕ) → Result State (ℕ × LineFlaw)
after_lines number s [] = Ok s
after_lines number s (line ∷ more) = at_line number (after_text s (trim line)) >>= λ t. after_lines (number + 1) t more

-- the rules so far: those on topics, and those on identifiers
abbrev pub rules_in : Result State (ℕ × LineFlaw) → Result (List TopicRule × List ClientRule) (ℕ × LineFlaw)
rules_in read = read >>= λ s. Ok (s.topics, s.clients)

-- the rules of a file
abbrev pub rules_of : List ℕ → Result (List TopicRule × List ClientRule) (ℕ × LineFlaw)
rules_of text = rules_in (after_lines 1 (record { user = None; topics = []; clients = [] }) (file_lines text))
