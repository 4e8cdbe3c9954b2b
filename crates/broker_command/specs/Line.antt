-- The command lines of the program, and what each asks for.
use Rattle.std.specs.Prelude.{◌≡◌, ◌≢◌, ◌≤◌, ◌⊎◌, ℕ, List, [], Some, None, Option, String, Bool, true, false, pos, codes}
use Rattle.std.specs.declared.alloc.Global.{Global}
use Rattle.std.specs.Str.Parse.{IsNumeral, digits_value, without_leading_plus}
use Rattle.clap.specs.Words.{App, IsAmong, Row, Rule, Text, fault_of, first_of, new_app, new_rule, one_of, subcommand_of, with_rule, with_subcommand}
use Rattle.clap.specs.Simple.{on_top}
use Rattle.clap.specs.declared.builder.action.ArgAction.TheVariants.{Set, SetTrue}
use Rattle.clap.specs.declared.builder.value_parser.ValueParser.TheVariants.{Signed}
use Rattle.clap.specs.declared.error.kind.ErrorKind.{ErrorKind}
use Rattle.clap.specs.declared.error.kind.ErrorKind.TheVariants.{DisplayHelp, DisplayVersion, OutOfMemory}
use Rattle.cli_stops.specs.declared.stop.Stop.{Stop}
use Rattle.cli_stops.specs.declared.stop.Stop.TheVariants.{Help, CommandLine, Run}
use Rattle.cli_stops.specs.declared.run_fault.RunFault.TheVariants.{NoMemory}
use Rattle.broker_command.specs.declared.task.AskedLimits.{AskedLimits}
use Rattle.broker_command.specs.declared.task.AskedUsers.{AskedUsers}
use Rattle.broker_command.specs.declared.task.Task.{Task}
use Rattle.broker_command.specs.declared.task.Task.TheVariants.{Play, Loopback, Serve, Password, Check, DropRows, Balancer}

-- an argument that has to be there, with one value
abbrev pub word_rule : Text → Rule
word_rule id = record (new_rule id) { required = true; action = Some Set }

-- an argument that may be there, with one value
abbrev pub option_rule : Text → Rule
option_rule id = record (new_rule id) { action = Some Set }

-- `--turns N`, with N from 1 to 1,000,000,000
abbrev pub turns_rule : Rule
turns_rule = record (word_rule (codes "turns")) {
  long = Some (codes "turns");
  value_names = 1;
  parser = Some (Signed (pos 1) (pos 1000000000));
}

-- `--most-clients N`, with N from 1 to 1,000,000,000
abbrev pub most_clients_rule : Rule
most_clients_rule = record (option_rule (codes "most-clients")) {
  long = Some (codes "most-clients");
  value_names = 1;
  parser = Some (Signed (pos 1) (pos 1000000000));
}

-- `--connect-within SECONDS`, with SECONDS from 1 to 1,000,000,000
abbrev pub connect_within_rule : Rule
connect_within_rule = record (option_rule (codes "connect-within")) {
  long = Some (codes "connect-within");
  value_names = 1;
  parser = Some (Signed (pos 1) (pos 1000000000));
}

-- `play SCRIPT`
abbrev pub play : App
play = with_rule (new_app (codes "play")) (word_rule (codes "SCRIPT"))

-- `loopback SCRIPT`
abbrev pub loopback : App
loopback = with_rule (new_app (codes "loopback")) (word_rule (codes "SCRIPT"))

-- `--mqtt3`
abbrev pub mqtt3_rule : Rule
mqtt3_rule = record (new_rule (codes "mqtt3")) {
  long = Some (codes "mqtt3");
  action = Some SetTrue;
}

-- `--log`
abbrev pub log_rule : Rule
log_rule = record (new_rule (codes "log")) {
  long = Some (codes "log");
  action = Some SetTrue;
}

-- `--ID ADDRESS`
abbrev pub address_rule : Text → Rule
address_rule id = record (option_rule id) {
  long = Some id;
  value_names = 1;
}

-- `--ID N`, with N from 1 to 1,000,000,000
abbrev pub number_rule : Text → Rule
number_rule id = record (option_rule id) {
  long = Some id;
  value_names = 1;
  parser = Some (Signed (pos 1) (pos 1000000000));
}

-- `--careful`
abbrev pub careful_rule : Rule
careful_rule = record (new_rule (codes "careful")) {
  long = Some (codes "careful");
  action = Some SetTrue;
}

-- the limits on what clients send: `[--most-memory MEGABYTES] [--longest-packet BYTES] [--most-filters N] [--most-levels N] [--most-properties N]
-- [--longest-expiry SECONDS] [--careful]`
abbrev pub with_limits : App → App
with_limits app =
    with_rule (with_rule (with_rule (with_rule (with_rule (with_rule (with_rule app
    (number_rule (codes "most-memory"))) (number_rule (codes "longest-packet"))) (number_rule (codes "most-filters"))) (number_rule (codes "most-levels")))
    (number_rule (codes "most-properties"))) (number_rule (codes "longest-expiry"))) careful_rule

-- `--ID FILE`
abbrev pub file_rule : Text → Rule
file_rule id = record (option_rule id) {
  long = Some id;
  value_names = 1;
}

-- `--anonymous`
abbrev pub anonymous_rule : Rule
anonymous_rule = record (new_rule (codes "anonymous")) {
  long = Some (codes "anonymous");
  action = Some SetTrue;
}

-- who may come: `[--users FILE] [--permissions FILE] [--anonymous]`
abbrev pub with_users : App → App
with_users app = with_rule (with_rule (with_rule app (file_rule (codes "users"))) (file_rule (codes "permissions"))) anonymous_rule

-- `CONFIG NODE DATABASE` behind the name of a command
abbrev pub node_words : Text → App
node_words name = with_rule (with_rule (with_rule (new_app name) (word_rule (codes "CONFIG"))) (word_rule (codes "NODE"))) (word_rule (codes "DATABASE"))

-- `--bridge-from-anywhere`
abbrev pub anywhere_rule : Rule
anywhere_rule = record (new_rule (codes "bridge-from-anywhere")) {
  long = Some (codes "bridge-from-anywhere");
  action = Some SetTrue;
}

-- where a node tells its status, by which hosts it may be asked, where it waits for clients and for other nodes, and whether these may come from anywhere:
-- `[--status ADDRESS] [--status-host NAMES] [--listen ADDRESS] [--bridge-listen ADDRESS] [--bridge-from-anywhere]`
abbrev pub with_addresses : App → App
with_addresses app =
    with_rule (with_rule (with_rule (with_rule (with_rule app (address_rule (codes "status"))) (address_rule (codes "status-host"))) (address_rule (codes "listen"))) (address_rule (codes "bridge-listen")))
    anywhere_rule

-- the options of a node: `[--most-clients N] [--connect-within SECONDS] [--mqtt3] [--log]`, the addresses, the limits and who may come
abbrev pub with_options : App → App
with_options app = with_users (with_limits (with_addresses (with_rule (with_rule (with_rule (with_rule app most_clients_rule) connect_within_rule) mqtt3_rule) log_rule)))

-- `serve CONFIG NODE DATABASE --turns N`, and the options
abbrev pub serve : App
serve = with_options (with_rule (node_words (codes "serve")) turns_rule)

-- `run CONFIG NODE DATABASE`, and the options
abbrev pub run : App
run = with_options (node_words (codes "run"))

-- `check CONFIG NODE DATABASE`
abbrev pub check : App
check = node_words (codes "check")

-- `password NAME`
abbrev pub password : App
password = with_rule (new_app (codes "password")) (word_rule (codes "NAME"))

-- `drop CONFIG NODE DATABASE [--session CLIENT] [--queue CLIENT] [--lane NODE]`
abbrev pub dropping : App
dropping = with_rule (with_rule (with_rule (node_words (codes "drop")) (address_rule (codes "session"))) (address_rule (codes "queue"))) (address_rule (codes "lane"))

-- `balancer CONFIG`
abbrev pub balancer : App
balancer = with_rule (new_app (codes "balancer")) (word_rule (codes "CONFIG"))

-- the program's words: one of the eight commands, without the program's name
unfoldable pub broker : App
broker = with_subcommand (with_subcommand (with_subcommand (with_subcommand (with_subcommand (with_subcommand (with_subcommand (with_subcommand
    (on_top (λ s. record s { has_version = true; no_binary_name = true; subcommand_required = true }) (new_app (codes "broker")))
    play.top) loopback.top) serve.top) run.top) check.top) password.top) balancer.top) dropping.top

-- the path of a script
abbrev pub IsScript : List Row → String Global → Type 0
IsScript rows script = first_of (codes "SCRIPT") rows ≡ Some script.bytes.items

-- a script to play
abbrev pub IsPlay : List Row → Task → Type 0
IsPlay rows (Play script) = IsScript rows script
IsPlay rows (Loopback script) = ⊥
IsPlay rows (Serve asked) = ⊥
IsPlay rows (Check configuration node database) = ⊥
IsPlay rows (Password name) = ⊥
IsPlay rows (DropRows asked) = ⊥
IsPlay rows (Balancer configuration) = ⊥

-- a script to play over sockets
abbrev pub IsLoopback : List Row → Task → Type 0
IsLoopback rows (Play script) = ⊥
IsLoopback rows (Loopback script) = IsScript rows script
IsLoopback rows (Serve asked) = ⊥
IsLoopback rows (Check configuration node database) = ⊥
IsLoopback rows (Password name) = ⊥
IsLoopback rows (DropRows asked) = ⊥
IsLoopback rows (Balancer configuration) = ⊥

-- the number that an option is given, in range, as its text spells it
pub record IsNumber (rows : List Row) (id : Text) (number : ℕ) : Type 0 where
  pub text : Text
  pub given : one_of id rows ≡ Some text
  pub numeral : IsNumeral 10 (without_leading_plus text)
  pub value : number ≡ digits_value 10 (without_leading_plus text)
  pub least : 1 ≤ number
  pub most : number ≤ 1000000000

-- none where the option isn't given
abbrev pub IsNumberIf : List Row → Text → Option ℕ → Type 0
IsNumberIf rows id None = one_of id rows ≡ None
IsNumberIf rows id (Some number) = IsNumber rows id number

-- whether a flag is given, as its row says
pub record IsFlag (rows : List Row) (id : Text) (given : Bool) : Type 0 where
  pub absent : one_of id rows ≡ None → given ≡ false
  pub off : one_of id rows ≡ Some (codes "false") → given ≡ false
  pub on : one_of id rows ≡ Some (codes "true") → given ≡ true

-- the text that an option is given, and none where it isn't given
abbrev pub IsTextIf : List Row → Text → Option (String Global) → Type 0
IsTextIf rows id None = first_of id rows ≡ None
IsTextIf rows id (Some text) = first_of id rows ≡ Some text.bytes.items

-- the limits on what clients send, each as its option is given
pub record AreLimits (rows : List Row) (limits : AskedLimits) : Type 0 where
  pub memory : IsNumberIf rows (codes "most-memory") limits.most_memory
  pub packet : IsNumberIf rows (codes "longest-packet") limits.longest_packet
  pub filters : IsNumberIf rows (codes "most-filters") limits.most_filters
  pub levels : IsNumberIf rows (codes "most-levels") limits.most_levels
  pub properties : IsNumberIf rows (codes "most-properties") limits.most_properties
  pub expiry : IsNumberIf rows (codes "longest-expiry") limits.longest_expiry
  pub careful : IsFlag rows (codes "careful") limits.careful

-- who may come, as the options say
pub record AreUsers (rows : List Row) (users : AskedUsers) : Type 0 where
  pub users_file : IsTextIf rows (codes "users") users.users
  pub permissions_file : IsTextIf rows (codes "permissions") users.permissions
  pub nameless : IsFlag rows (codes "anonymous") users.anonymous

-- a node to be, for so many turns or until it is stopped
abbrev pub IsNode : List Row → Option ℕ → Task → Type 0
IsNode rows made (Play script) = ⊥
IsNode rows made (Loopback script) = ⊥
IsNode rows made (Serve asked) =
    (first_of (codes "CONFIG") rows ≡ Some asked.configuration.bytes.items)
    × (first_of (codes "NODE") rows ≡ Some asked.node.bytes.items)
    × (first_of (codes "DATABASE") rows ≡ Some asked.database.bytes.items) × (asked.turns ≡ made)
    × IsNumberIf rows (codes "most-clients") asked.most_clients × IsNumberIf rows (codes "connect-within") asked.connect_within
    × IsFlag rows (codes "mqtt3") asked.mqtt3 × IsFlag rows (codes "log") asked.log
    × IsTextIf rows (codes "status") asked.status × IsTextIf rows (codes "status-host") asked.status_hosts
    × IsTextIf rows (codes "listen") asked.listen × IsTextIf rows (codes "bridge-listen") asked.bridge_listen
    × IsFlag rows (codes "bridge-from-anywhere") asked.from_anywhere
    × AreLimits rows asked.limits × AreUsers rows asked.users
IsNode rows made (Check configuration node database) = ⊥
IsNode rows made (Password name) = ⊥
IsNode rows made (DropRows asked) = ⊥
IsNode rows made (Balancer configuration) = ⊥

-- one for as many turns as are asked for
abbrev pub IsServe : List Row → Task → Type 0
IsServe rows task = (turns : ℕ) × IsNumber rows (codes "turns") turns × IsNode rows (Some turns) task

-- one until it is stopped
abbrev pub IsRun : List Row → Task → Type 0
IsRun rows task = IsNode rows None task

-- a node whose rows are to be told
abbrev pub IsCheck : List Row → Task → Type 0
IsCheck rows (Play script) = ⊥
IsCheck rows (Loopback script) = ⊥
IsCheck rows (Serve asked) = ⊥
IsCheck rows (Password name) = ⊥
IsCheck rows (Check configuration node database) =
    (first_of (codes "CONFIG") rows ≡ Some configuration.bytes.items)
    × (first_of (codes "NODE") rows ≡ Some node.bytes.items)
    × (first_of (codes "DATABASE") rows ≡ Some database.bytes.items)
IsCheck rows (DropRows asked) = ⊥
IsCheck rows (Balancer configuration) = ⊥

-- a node that is down, and what is dropped of it
abbrev pub IsDrop : List Row → Task → Type 0
IsDrop rows (Play script) = ⊥
IsDrop rows (Loopback script) = ⊥
IsDrop rows (Serve asked) = ⊥
IsDrop rows (Check configuration node database) = ⊥
IsDrop rows (DropRows asked) =
    (first_of (codes "CONFIG") rows ≡ Some asked.configuration.bytes.items)
    × (first_of (codes "NODE") rows ≡ Some asked.node.bytes.items)
    × (first_of (codes "DATABASE") rows ≡ Some asked.database.bytes.items)
    × IsTextIf rows (codes "session") asked.session × IsTextIf rows (codes "queue") asked.queue × IsTextIf rows (codes "lane") asked.lane
IsDrop rows (Password name) = ⊥
IsDrop rows (Balancer configuration) = ⊥

-- a table of homes for which HAProxy is to send each client to its home
abbrev pub IsBalancer : List Row → Task → Type 0
IsBalancer rows (Play script) = ⊥
IsBalancer rows (Loopback script) = ⊥
IsBalancer rows (Serve asked) = ⊥
IsBalancer rows (Check configuration node database) = ⊥
IsBalancer rows (Password name) = ⊥
IsBalancer rows (DropRows asked) = ⊥
IsBalancer rows (Balancer configuration) = first_of (codes "CONFIG") rows ≡ Some configuration.bytes.items

-- a user whose line is wanted
abbrev pub IsPassword : List Row → Task → Type 0
IsPassword rows (Play script) = ⊥
IsPassword rows (Loopback script) = ⊥
IsPassword rows (Serve asked) = ⊥
IsPassword rows (Check configuration node database) = ⊥
IsPassword rows (Password name) = first_of (codes "NAME") rows ≡ Some name.bytes.items
IsPassword rows (DropRows asked) = ⊥
IsPassword rows (Balancer configuration) = ⊥

-- the task of a command with what follows it
abbrev pub IsOf : Option (Text × List Row) → Task → Type 0
IsOf None task = ⊥
IsOf (Some (name, rows)) (Play script) = (name ≡ codes "play") × IsPlay rows (Play script)
IsOf (Some (name, rows)) (Loopback script) = (name ≡ codes "loopback") × IsLoopback rows (Loopback script)
IsOf (Some (name, rows)) (Serve asked) = ((name ≡ codes "serve") × IsServe rows (Serve asked)) ⊎ ((name ≡ codes "run") × IsRun rows (Serve asked))
IsOf (Some (name, rows)) (Check configuration node database) =
    (name ≡ codes "check") × IsCheck rows (Check configuration node database)
IsOf (Some (name, rows)) (Password user) = (name ≡ codes "password") × IsPassword rows (Password user)
IsOf (Some (name, rows)) (DropRows asked) = (name ≡ codes "drop") × IsDrop rows (DropRows asked)
IsOf (Some (name, rows)) (Balancer configuration) = (name ≡ codes "balancer") × IsBalancer rows (Balancer configuration)

-- the words are a command line without a fault, and ask for the task
pub record IsTask (words : List Text) (task : Task) : Type 0 where
  pub faultless : fault_of broker words ≡ []
  pub asked : IsOf (subcommand_of broker words) task

-- what is said of an error of that kind
abbrev pub IsStopOf : ErrorKind → Stop → Type 0
IsStopOf kind (Help text) = (kind ≡ DisplayHelp) ⊎ (kind ≡ DisplayVersion)
IsStopOf kind (CommandLine text) = kind ≢ OutOfMemory
IsStopOf kind (Run fault) = fault ≡ NoMemory
IsStopOf kind other = ⊥

-- the words ask for help or for the version, or there is something wrong with them, or memory ran out
abbrev pub IsRefusal : List Text → Stop → Type 0
IsRefusal words (Help text) = IsAmong DisplayHelp (fault_of broker words) ⊎ IsAmong DisplayVersion (fault_of broker words)
IsRefusal words (CommandLine text) = Unit {0}
IsRefusal words (Run fault) = fault ≡ NoMemory
IsRefusal words other = ⊥
