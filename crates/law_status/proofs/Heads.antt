-- What is read in the head of a frame's bytes.
use Rattle.std.proofs.Common.{◌≡◌, ◌∙◌, ℕ, ◌<◌, ◌^◌, Some, true, false, ap}
use Rattle.std.proofs.lemmas.Nat.{from_be_bytes-to_be_bytes_2}
use Rattle.bridge_frames.specs.Frames.{Frame, content, spelling}
use Rattle.bridge_frames.specs.declared.body.FrameBody.{FrameBody}
use Rattle.bridge_frames.specs.declared.body.FrameBody.TheVariants.{Hello, Delta, Know, Forward, Got}
use Rattle.law_status.specs.Hearing.{HeadsAreOfFrames, tells_by}
use Rattle.status_tally.specs.Links.{head_of}

in_head : (from to : ℕ) (body : FrameBody) → from < 2 ^ 16 → head_of (spelling (record { from = from; to = to; body = body })) ≡ Some (from, tells_by body)
unfolding content
in_head from to (Hello greeting) below = ap (λ n. Some (n, true)) (from_be_bytes-to_be_bytes_2 from below)
in_head from to (Delta state) below = ap (λ n. Some (n, true)) (from_be_bytes-to_be_bytes_2 from below)
in_head from to (Know dots) below = ap (λ n. Some (n, true)) (from_be_bytes-to_be_bytes_2 from below)
in_head from to (Forward number message) below = ap (λ n. Some (n, false)) (from_be_bytes-to_be_bytes_2 from below)
in_head from to (Got number) below = ap (λ n. Some (n, false)) (from_be_bytes-to_be_bytes_2 from below)

small : (f : Frame) → content.Fits f → f.from < 2 ^ 16
unfolding content
small f fits = fits.1.0

pub heads_are_of_frames : HeadsAreOfFrames
heads_are_of_frames bytes f s = ap head_of s.is ∙ in_head f.from f.to f.body (small f s.has.fits)
