-- What the system answered to a call on a file or a socket, and the words for it.
use Rattle.std.specs.Prelude.{ℕ, ℤ, unsigned_abs, List, ◌++◌, Option, Some, None, codes}
use Rattle.std.specs.Fmt.{decimal}
use Rattle.std.specs.declared.io.ErrorKind.{ErrorKind}
use Rattle.std.specs.declared.io.ErrorKind.TheVariants as kinds
use Rattle.cli_stops.specs.declared.answer.Answer.{Answer}
use Rattle.cli_stops.specs.declared.answer.Answer.TheVariants.{NotThere, Denied, IsFolder, NoFolder, InUse, Elsewhere, NoRoom, ReadOnly, NoMemory, Number, Unnumbered}

-- an answer by its number, where the system gave one
abbrev pub numbered_in : Option ℤ → Answer
numbered_in (Some number) = Number (unsigned_abs number)
numbered_in None = Unnumbered

-- what an error of this kind and with this number answers
abbrev pub answer_in : ErrorKind → Option ℤ → Answer
answer_in kinds.NotFound number = NotThere
answer_in kinds.PermissionDenied number = Denied
answer_in kinds.IsADirectory number = IsFolder
answer_in kinds.NotADirectory number = NoFolder
answer_in kinds.AddrInUse number = InUse
answer_in kinds.AddrNotAvailable number = Elsewhere
answer_in kinds.StorageFull number = NoRoom
answer_in kinds.QuotaExceeded number = NoRoom
answer_in kinds.ReadOnlyFilesystem number = ReadOnly
answer_in kinds.OutOfMemory number = NoMemory
answer_in _ number = numbered_in number

abbrev pub answer_text : Answer → List ℕ
answer_text NotThere = codes "no such file or folder"
answer_text Denied = codes "permission denied"
answer_text IsFolder = codes "it is a folder"
answer_text NoFolder = codes "a part of the path is no folder"
answer_text InUse = codes "the address is in use"
answer_text Elsewhere = codes "the address is none of this machine"
answer_text NoRoom = codes "no space is left"
answer_text ReadOnly = codes "it can only be read"
answer_text NoMemory = codes "memory ran out"
answer_text (Number number) = codes "system error " ++ decimal number
answer_text Unnumbered = codes "it failed"
