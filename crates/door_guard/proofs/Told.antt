-- What follows where a call succeeds.
use Rattle.std.proofs.Common.{Result, Ok, Err, OnOk}

pub if_ok : {X E P Q : Type 0} (result : Result X E) → (P → Q) → OnOk result P → OnOk result Q
if_ok (Ok x) f p = f p
if_ok (Err e) f p = tt
