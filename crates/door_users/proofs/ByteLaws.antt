-- Bytes in base64.
use Rattle.std.proofs.Common.{◌≡◌, ℕ, List, ap}
use Rattle.std.specs.Prelude.{Ok, Err}
use Rattle.base64.specs.declared.decode.DecodeError.{DecodeError}
use Rattle.base64.specs.Engines.{standard}
use Rattle.base64.specs.GeneralPurpose.{decode_of}
use Rattle.door_users.specs.declared.fault.LineFlaw.{LineFlaw}
use Rattle.door_users.specs.Accounts.{bytes_by, bytes_in}

pub decoded : (flaw : LineFlaw) (text bytes : List ℕ) → decode_of standard text ≡ Ok bytes → bytes_in flaw text ≡ Ok bytes
decoded flaw text bytes e = ap (bytes_by flaw) e

pub undecoded : (flaw : LineFlaw) (text : List ℕ) (error : DecodeError) → decode_of standard text ≡ Err error → bytes_in flaw text ≡ Err flaw
undecoded flaw text error e = ap (bytes_by flaw) e
