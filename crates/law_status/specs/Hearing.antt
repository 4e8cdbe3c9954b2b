-- What is read in the heads of frames.
use Rattle.std.specs.Prelude.{◌≡◌, ℕ, Bool, true, false, List, Some}
use Rattle.bridge_frames.specs.Frames.{Frame, Spells}
use Rattle.bridge_frames.specs.declared.body.FrameBody.{FrameBody}
use Rattle.bridge_frames.specs.declared.body.FrameBody.TheVariants.{Hello, Delta, Know, Forward, Got}
use Rattle.status_tally.specs.Links.{head_of}

-- it says what its sender has taken, or brings some of it
abbrev pub tells_by : FrameBody → Bool
tells_by (Hello greeting) = true
tells_by (Delta state) = true
tells_by (Know dots) = true
tells_by (Forward number message) = false
tells_by (Got number) = false

-- what is read in the head of a frame's bytes is so of the frame
abbrev pub HeadsAreOfFrames : Type 0
HeadsAreOfFrames = (bytes : List ℕ) (f : Frame) → Spells bytes f → head_of bytes ≡ Some (f.from, tells_by f.body)
