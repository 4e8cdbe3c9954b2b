-- A line of the file of rules: Mosquitto's `acl_file`, and lines that begin with `client`.
use Rattle.std.specs.Prelude.{ℕ, List, [], ◌∷◌, drop, Bool, true, not, ◌&&◌, ◌||◌, ◌==◌, nat_eq, Result, Ok, Err, codes, if◌then◌else◌}
use Rattle.std.specs.List.{after_first, before_first, list_any, starts_with}
use Rattle.std.specs.Str.{bytes_eq, trim_start}
use Rattle.mqtt_topics.specs.Levels.{levels}
use Rattle.mqtt_topics.specs.Testing.{is_filter, is_shared}
use Rattle.mqtt_access.specs.declared.rule.Access.{Access}
use Rattle.mqtt_access.specs.declared.rule.Access.TheVariants.{Read, Write, ReadWrite, Deny}
use Rattle.mqtt_access.specs.Filled.{client_place, user_place}
use Rattle.door_users.specs.declared.fault.LineFlaw.{LineFlaw}
use Rattle.door_users.specs.declared.fault.LineFlaw.TheVariants.{NoName, BadName, UnknownWord, NoFilter, BadAccess, BadFilter, BadPlace, NoIdentifier, BadIdentifier}
use Rattle.door_users.specs.declared.line.RuleLine.{RuleLine}
use Rattle.door_users.specs.declared.line.RuleLine.TheVariants.{Nothing, User, Topic, Pattern, Client}
use Rattle.door_users.specs.Accounts.{carried, has_none, is_skipped}
use Rattle.door_users.specs.Lines.{is_space}
use Rattle.door_users.specs.Outcomes.{◌>>=◌}

-- a filter of a rule: a topic filter, and no shared one
abbrev pub plain_in : List ℕ → Result (List ℕ) LineFlaw
plain_in text = if is_filter text && not (is_shared text) then Ok text else Err BadFilter

abbrev pub filter_in : List ℕ → Result (List ℕ) LineFlaw
filter_in text = carried BadFilter text >>= plain_in

abbrev pub is_percent : ℕ → Bool
is_percent b = b == 37

-- each level with a `%` is `%u` or `%c`
abbrev pub are_places : List (List ℕ) → Bool
are_places [] = true
are_places (level ∷ later) = (not (list_any is_percent level) || (bytes_eq level user_place || bytes_eq level client_place)) && are_places later

abbrev pub pattern_in : List ℕ → Result (List ℕ) LineFlaw
pattern_in text = filter_in text >>= λ f. (if are_places (levels f) then Ok f else Err BadPlace)

abbrev pub access_in : List ℕ → Result Access LineFlaw
access_in word =
    if bytes_eq word (codes "read") then Ok Read
    else (if bytes_eq word (codes "write") then Ok Write
    else (if bytes_eq word (codes "readwrite") then Ok ReadWrite
    else (if bytes_eq word (codes "deny") then Ok Deny else Err BadAccess)))

-- a filter alone may be read and written; before it may stand what may be done
abbrev pub access_and_filter : List ℕ → Result (Access × List ℕ) LineFlaw
access_and_filter rest =
    if has_none rest then Err NoFilter
    else (if list_any is_space rest then (access_in (before_first is_space rest) >>= λ access. Ok (access, trim_start (after_first is_space rest)))
    else Ok (ReadWrite, rest))

abbrev pub topic_line : List ℕ → Result RuleLine LineFlaw
topic_line rest = access_and_filter rest >>= λ x. filter_in x.1 >>= λ f. Ok (Topic x.0 f)

abbrev pub pattern_line : List ℕ → Result RuleLine LineFlaw
pattern_line rest = access_and_filter rest >>= λ x. pattern_in x.1 >>= λ f. Ok (Pattern x.0 f)

abbrev pub user_name_line : List ℕ → Result RuleLine LineFlaw
user_name_line rest = if has_none rest then Err NoName else (carried BadName rest >>= λ name. Ok (User name))

abbrev pub is_star : ℕ → Bool
is_star b = b == 42

abbrev pub is_named : List ℕ → Bool
is_named text = starts_with nat_eq text user_place

abbrev pub after_name : List ℕ → List ℕ
after_name text = if is_named text then drop 2 text else text

-- an identifier, or with a `*` behind it the beginning of one; `%u` in front stands for the user's name
abbrev pub client_line : List ℕ → Result RuleLine LineFlaw
client_line rest =
    if has_none rest then Err NoIdentifier
    else (if not (has_none (after_first is_star rest)) then Err BadIdentifier
    else (carried BadIdentifier (after_name (before_first is_star rest)) >>= λ identifier. Ok (Client (is_named (before_first is_star rest)) identifier (list_any is_star rest))))

abbrev pub line_by : List ℕ → List ℕ → Result RuleLine LineFlaw
line_by word rest =
    if bytes_eq word (codes "user") then user_name_line rest
    else (if bytes_eq word (codes "topic") then topic_line rest
    else (if bytes_eq word (codes "pattern") then pattern_line rest
    else (if bytes_eq word (codes "client") then client_line rest else Err UnknownWord)))

-- a line without white space at its ends: a word, a space, and the rest
abbrev pub line_in : List ℕ → Result RuleLine LineFlaw
line_in line = if is_skipped line then Ok Nothing else line_by (before_first is_space line) (trim_start (after_first is_space line))
