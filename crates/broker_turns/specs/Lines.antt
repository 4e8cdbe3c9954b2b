-- The sockets between nodes: links that were dialled, by the number of the peer, and links that were accepted.
use Rattle.std.specs.Prelude.{◌≡◌, ℕ, ◌+◌, ◌*◌, ◌-◌, List, [], ◌∷◌, ◌++◌, length, Bool, true, false, not, ◌&&◌, ◌||◌, eqb, leb, ltb, is_none, is_some, if◌then◌else◌, slice_index_or, Option, Some, None}
use Rattle.broker_sockets.specs.declared.bridge.PeerEventKind.{PeerEventKind}
use Rattle.broker_sockets.specs.declared.bridge.PeerEventKind.TheVariants.{More, Ship}
use Rattle.broker_sockets.specs.declared.bridge.PeerFrame.{PeerFrame}
use Rattle.broker_turns.specs.declared.lines.Line.{Line}

-- so many milliseconds have passed since a moment, if there was one; a clock that is set back doesn't make it longer
abbrev pub is_rested : ℕ → ℕ → Option ℕ → Bool
is_rested pause at None = true
is_rested pause at (Some last) = ltb at last || leb pause (at - last)

-- a frame's sixth and seventh byte are the number of the node that sends it, the higher one first
abbrev pub is_from : ℕ → List ℕ → Bool
is_from peer frame = ltb 6 (length frame) && eqb (slice_index_or frame 5 0 * 256 + slice_index_or frame 6 0) peer

-- a frame's fifth byte is its kind; a Forward (4) and a Delta (6) are answered by the peer they go to, a Forward by a Got (5) and a Delta by a Know (3)
abbrev pub is_of : ℕ → List ℕ → Bool
is_of kind frame = ltb 4 (length frame) && eqb (slice_index_or frame 4 0) kind

-- a Forward and a Got have a number in the eight bytes from the tenth on, the highest first; what a frame lacks of them is 0
abbrev pub byte_at : ℕ → List ℕ → ℕ
byte_at place frame = slice_index_or frame place 0

abbrev pub four_at : ℕ → List ℕ → ℕ
four_at place frame = (byte_at place frame * 256 + byte_at (place + 1) frame) * 65536 + (byte_at (place + 2) frame * 256 + byte_at (place + 3) frame)

abbrev pub number_in : List ℕ → ℕ
number_in frame = four_at 9 frame * 4294967296 + four_at 13 frame

-- a moment in place of another one, where there was one
abbrev pub again : ℕ → Option ℕ → Option ℕ
again at None = None
again at (Some last) = Some at

module _ {T : Type 0} where
  -- nothing has come, and nothing waits
  abbrev pub fresh_line : T → Line T
  fresh_line stream = record { stream = stream; held = []; unsent = []; heard = false; asked = None; awaited = false; sent = 0; got = 0 }

  -- the peer owes a Know, or a Got for the last Forward
  abbrev pub is_unanswered : Line T → Bool
  is_unanswered line = line.awaited || ltb line.got line.sent

  -- all is asked for that the peer may lack where the peer was heard and nothing waits: at first, and once the peer owes an answer and has given none for a second
  abbrev pub is_due : ℕ → Line T → Bool
  is_due at line = line.heard && (eqb (length line.unsent) 0 && (is_none line.asked || (is_unanswered line && is_rested 1000 at line.asked)))

  -- and then what wasn't given yet, while fewer than 65,536 bytes wait, no Know is owed, and fewer than 16,384 messages are unconfirmed
  abbrev pub takes_more : Line T → Bool
  takes_more line = is_some line.asked && ltb (length line.unsent) 65536 && not line.awaited && ltb (line.sent - line.got) 16384

  -- what is asked for on the link of a peer
  abbrev pub asks_for : ℕ → ℕ → Line T → Option PeerEventKind
  asks_for at peer line = if is_due at line then Some (Ship peer) else if takes_more line then Some (More peer line.sent) else None

  -- more was asked for, and frames came of it, where something waits now
  abbrev pub marked : ℕ → Line T → Line T
  marked at line = if eqb (length line.unsent) 0 then line else record line { asked = Some at }

  -- the link that was dialled to a peer
  abbrev pub link_of : List (Option (Line T)) → ℕ → Option (Line T)
  link_of links peer = slice_index_or links peer None

  -- a frame of the peer: a Got has the number of the last message that it has taken, and a Know answers a Delta
  abbrev pub heard_from : ℕ → List ℕ → Line T → Line T
  heard_from at frame line =
      if is_of 5 frame then record line { heard = true; asked = again at line.asked; got = number_in frame }
      else if is_of 3 frame then record line { heard = true; asked = again at line.asked; awaited = false }
      else record line { heard = true }

  abbrev pub noted : ℕ → ℕ → List ℕ → Option (Line T) → Option (Line T)
  noted peer at frame None = None
  noted peer at frame (Some line) = Some (if is_from peer frame then heard_from at frame line else line)

  -- a frame is noted on the link of the peer that has sent it
  abbrev pub Noted : ℕ → List ℕ → List (Option (Line T)) → List (Option (Line T)) → Type 0
  Noted at frame old new = (peer : ℕ) → link_of new peer ≡ noted peer at frame (link_of old peer)

  -- a frame waits behind what waits; a Delta is to be answered, and a Forward is the last one that was given
  abbrev pub pushed : List ℕ → Line T → Line T
  pushed bytes line = record line { unsent = line.unsent ++ bytes; awaited = line.awaited || is_of 6 bytes; sent = if is_of 4 bytes then number_in bytes else line.sent }

  -- a frame waits behind what waits on its peer's link
  abbrev pub framed : ℕ → PeerFrame → Line T → Line T
  framed peer frame line = if eqb frame.peer peer then pushed frame.bytes.items line else line

  abbrev pub framed_all : ℕ → List PeerFrame → Line T → Line T
  framed_all peer [] line = line
  framed_all peer (frame ∷ frames) line = framed_all peer frames (framed peer frame line)

  abbrev pub framed_at : ℕ → List PeerFrame → Option (Line T) → Option (Line T)
  framed_at peer frames None = None
  framed_at peer frames (Some line) = Some (framed_all peer frames line)

  -- each link has what the frames make of it; a frame for a peer without a link comes to nothing
  abbrev pub Framed : List PeerFrame → List (Option (Line T)) → List (Option (Line T)) → Type 0
  Framed frames old new = (peer : ℕ) → link_of new peer ≡ framed_at peer frames (link_of old peer)
