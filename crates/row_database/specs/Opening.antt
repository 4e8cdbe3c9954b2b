-- Why a database isn't opened.
use Rattle.row_store.specs.declared.store.RowFault.{RowFault}
use Rattle.row_store.specs.declared.store.RowFault.TheVariants as rows
use Rattle.sqlite.specs.declared.error.Error.{Error}
use Rattle.sqlite.specs.declared.error.Error.TheVariants.{SqliteFailure}
use Rattle.sqlite.specs.declared.error.ErrorCode.TheVariants as codes
use Rattle.row_database.specs.declared.fault.OpenFault.{OpenFault}
use Rattle.row_database.specs.declared.fault.OpenFault.TheVariants.{NoMemory, Locked, Refused, NoDatabase, Foreign, Device}

-- an error of the database's files
abbrev pub fault_of_error : Error → OpenFault
fault_of_error (SqliteFailure codes.OutOfMemory) = NoMemory
fault_of_error (SqliteFailure codes.DatabaseBusy) = Locked
fault_of_error (SqliteFailure codes.CannotOpen) = Refused
fault_of_error (SqliteFailure codes.NotADatabase) = NoDatabase
fault_of_error (SqliteFailure codes.DatabaseCorrupt) = NoDatabase
fault_of_error _ = Device

-- a fault of its rows
abbrev pub fault_of_rows : RowFault → OpenFault
fault_of_rows rows.NoMemory = NoMemory
fault_of_rows rows.BadRow = Foreign
fault_of_rows rows.Device = Device
