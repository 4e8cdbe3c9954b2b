-- How it stands with the peers.
use Rattle.std.specs.Prelude.{ℕ, ◌+◌, ◌*◌, ◌-◌, ◌==◌, ◌&&◌, ◌||◌, Bool, true, false, not, nat_le, List, [], ◌∷◌, Option, Some, None, slice_index_or, slice_set, if◌then◌else◌}
use Rattle.broker_sockets.specs.declared.bridge.PeerEventKind.{PeerEventKind}
use Rattle.broker_sockets.specs.declared.bridge.PeerEventKind.TheVariants.{Linked, Frame, More, Ship}
use Rattle.status_tally.specs.declared.links.Link.{Link}

-- no link yet, and nothing was heard
abbrev pub new_link : Link
new_link = record { up = false; since = 0; first = 0; told = false }

abbrev pub link_at : ℕ → List Link → Link
link_at peer links = slice_index_or links peer new_link

-- the node that sends a frame, and whether it tells in it what it has taken, or brings some of it: behind the length, in four bytes, stand the kind, which is 3 (Know),
-- 6 (Delta) or 7 (Hello) then, and the sender in two bytes
abbrev pub head_of : List ℕ → Option (ℕ × Bool)
head_of (_ ∷ _ ∷ _ ∷ _ ∷ kind ∷ high ∷ low ∷ rest) = Some (high * 256 + low, kind == 3 || kind == 6 || kind == 7)
head_of _ = None

-- a link is begun anew: one that was up has failed by then
abbrev pub after_dial : ℕ → Link → Link
after_dial at link = if link.up then record link { up = false; since = at } else link

-- all is written that was given for it: it is up
abbrev pub after_written : ℕ → Link → Link
after_written at link = if link.up then link else record link { up = true; since = at }

-- a frame of it came, which tells what it has, or doesn't
abbrev pub after_frame : ℕ → Bool → Link → Link
after_frame at tells link = record link { first = if link.first == 0 then at else link.first; told = link.told || tells }

abbrev pub framed : ℕ → Option (ℕ × Bool) → List Link → List Link
framed at None links = links
framed at (Some head) links = slice_set links head.0 (after_frame at head.1 (link_at head.0 links))

-- it has told what it has taken, or has brought some of it, or its first frame came a second ago
abbrev pub heard_by : ℕ → Link → Bool
heard_by at link = link.told || (not (link.first == 0) && nat_le 1000 (at - link.first))

-- after an event of other nodes at a moment
abbrev pub links_after : ℕ → PeerEventKind → List Link → List Link
links_after at (Linked peer) links = slice_set links peer (after_dial at (link_at peer links))
links_after at (Frame bytes) links = framed at (head_of bytes.items) links
links_after at (Ship peer) links = slice_set links peer (after_written at (link_at peer links))
links_after at (More peer after) links = slice_set links peer (after_written at (link_at peer links))
