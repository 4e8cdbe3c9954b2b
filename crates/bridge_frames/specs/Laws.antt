-- Laws of the bytes of frames.
use Rattle.std.specs.Prelude.{◌≡◌, ℕ, List, Some}
use Rattle.mqtt_fields.specs.Field.{IsBytes}
use Rattle.bridge_frames.specs.Frames.{Frame, HasSpelling, Spells, spelling, frame_in}

-- what is spelled is read again
abbrev pub SpellingsAreRead : Type 0
SpellingsAreRead = (f : Frame) → HasSpelling f → frame_in (spelling f) ≡ Some f

-- what is read is spelled so
abbrev pub ReadAreSpellings : Type 0
ReadAreSpellings = (bs : List ℕ) (f : Frame) → IsBytes bs → frame_in bs ≡ Some f → Spells bs f

-- no bytes are the spelling of two frames
abbrev pub SpellOne : Type 0
SpellOne = (bs : List ℕ) (f g : Frame) → Spells bs f → Spells bs g → f ≡ g
