-- What is wrong with a line, in words.
use Rattle.std.specs.Prelude.{ℕ, List, ◌++◌, codes}
use Rattle.std.specs.Fmt.{decimal}
use Rattle.door_users.specs.declared.fault.FileFault.{FileFault}
use Rattle.door_users.specs.declared.fault.FileFault.TheVariants.{NoMemory, Line}
use Rattle.door_users.specs.declared.fault.LineFlaw.{LineFlaw}
use Rattle.door_users.specs.declared.fault.LineFlaw.TheVariants.{NoName, BadName, NameTwice, NotPbkdf2, BadIterations, BadSalt, BadHash, UnknownWord, NoFilter, BadAccess, BadFilter, BadPlace, NoIdentifier, BadIdentifier, NoUser}

abbrev pub flaw_text : LineFlaw → List ℕ
flaw_text NoName = codes "there is no user name"
flaw_text BadName = codes "the user name has more than 65,535 bytes, or U+0000"
flaw_text NameTwice = codes "the user name stands in an earlier line too"
flaw_text NotPbkdf2 = codes "after the user name and a colon does not stand $7$"
flaw_text BadIterations = codes "the iterations are no number from 1 to 100,000"
flaw_text BadSalt = codes "the salt is not base64"
flaw_text BadHash = codes "the hash is not base64 of 64 bytes"
flaw_text UnknownWord = codes "it begins with none of user, topic, pattern and client"
flaw_text NoFilter = codes "there is no filter"
flaw_text BadAccess = codes "before the filter stands none of read, write, readwrite and deny"
flaw_text BadFilter = codes "the filter is no topic filter, or a shared one"
flaw_text BadPlace = codes "a level with % is neither %u nor %c"
flaw_text NoIdentifier = codes "there is no client identifier"
flaw_text BadIdentifier = codes "the client identifier has more than 65,535 bytes, or U+0000, or * before its end"
flaw_text NoUser = codes "%u stands before the first user"

-- lines are counted from 1
abbrev pub fault_text : FileFault → List ℕ
fault_text NoMemory = codes "memory ran out"
fault_text (Line number flaw) = codes "line " ++ decimal number ++ codes ": " ++ flaw_text flaw
