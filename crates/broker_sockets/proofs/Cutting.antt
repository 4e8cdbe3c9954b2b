-- Frames of bytes that come in pieces.
use Rattle.std.proofs.Common.{◌≡◌, ◌≤◌, ◌+◌, ◌*◌, ℕ, List, [], ◌∷◌, ◌++◌, length, Some, Vec, refl, append_assoc, append-nil, slice_index_or, arith}
use Rattle.std.specs.declared.alloc.Global.{Global}
use Rattle.std.proofs.lemmas.List.Elements.{All-push}
use Rattle.broker_sockets.specs.Buffers.{joined}
use Rattle.broker_sockets.specs.Frames.{AreFrames, IsFrame, announced}
use Rattle.broker_sockets.proofs.Buffering.{joined-append}

pub announced-by : (bytes : List ℕ) (x : ℕ) → 4 ≤ length bytes → announced bytes ≡ Some (((slice_index_or bytes 0 x * 256 + slice_index_or bytes 1 x) * 256 + slice_index_or bytes 2 x) * 256 + slice_index_or bytes 3 x)
announced-by [] x most = absurd (omega (arith, most))
announced-by (a ∷ []) x most = absurd (omega (arith, most))
announced-by (a ∷ b ∷ []) x most = absurd (omega (arith, most))
announced-by (a ∷ b ∷ c ∷ []) x most = absurd (omega (arith, most))
announced-by (a ∷ b ∷ c ∷ d ∷ rest) x most = refl

-- bytes behind the first four don't change what these announce
pub announced-more : (bytes more : List ℕ) (n : ℕ) → announced bytes ≡ Some n → announced (bytes ++ more) ≡ Some n
announced-more [] more n is = absurd (cc)
announced-more (a ∷ []) more n is = absurd (cc)
announced-more (a ∷ b ∷ []) more n is = absurd (cc)
announced-more (a ∷ b ∷ c ∷ []) more n is = absurd (cc)
announced-more (a ∷ b ∷ c ∷ d ∷ rest) more n is = is

-- bytes of the rest are held now
pub shift : (parts held rest front after whole held' : List ℕ) → held' ≡ held ++ front → front ++ after ≡ rest → parts ++ held ++ rest ≡ whole → parts ++ held' ++ after ≡ whole
shift parts held rest front after whole held' is split before =
    rw (is, ← append_assoc parts held front, append_assoc (parts ++ held) front after, split) before

-- a frame is whole
pub finish : (frames frames' : List (Vec ℕ Global)) (frame : Vec ℕ Global) (held after whole : List ℕ) → frames' ≡ frames ++ frame ∷ [] → frame.items ≡ held → joined frames ++ held ++ after ≡ whole → joined frames' ++ after ≡ whole
finish frames frames' frame held after whole is same before =
    rw (is, joined-append frames (frame ∷ []), same, append-nil held) before

pub frames-more : (frames frames' : List (Vec ℕ Global)) (frame : Vec ℕ Global) (held : List ℕ) → frames' ≡ frames ++ frame ∷ [] → frame.items ≡ held → IsFrame held → AreFrames frames → AreFrames frames'
frames-more frames frames' frame held is same whole all =
    rw is (All-push (λ f. IsFrame f.items) frames frame all (rw same whole))
