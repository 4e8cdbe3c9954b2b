-- What a door has counted after events and what was given out.
use Rattle.std.specs.Prelude.{ℕ, List, [], replicate}
use Rattle.broker_sockets.specs.declared.bridge.PeerEventKind.{PeerEventKind}
use Rattle.broker_sockets.specs.declared.bridge.PeerFrame.{PeerFrame}
use Rattle.broker_sockets.specs.declared.events.EventKind.{EventKind}
use Rattle.broker_sockets.specs.declared.events.EventKind.TheVariants.{Started, Opened, Piece, Room, Closed, Tick}
use Rattle.broker_sockets.specs.declared.events.Output.{Output}
use Rattle.status_figures.specs.declared.codes.CodeCount.{CodeCount}
use Rattle.status_figures.specs.declared.traffic.Traffic.{Traffic}
use Rattle.status_tally.specs.Codes.{ended_after, refused_after, told_below}
use Rattle.status_tally.specs.Counting.{open_after, open_with, with_event, with_frames, with_outputs, with_peer_event}
use Rattle.status_tally.specs.Links.{link_at, links_after, new_link}
use Rattle.status_tally.specs.Ticks.{longest_by, no_ticks, ticked}
use Rattle.status_tally.specs.Windows.{base, is_due, less, longest_of, no_traffic, noted}
use Rattle.status_tally.specs.declared.links.Link.{Link}
use Rattle.status_tally.specs.declared.tally.Tally.{Tally}
use Rattle.status_tally.specs.declared.ticks.Ticks.{Ticks}
use Rattle.status_tally.specs.declared.window.Mark.{Mark}

-- nothing has gone through, in a cluster of so many nodes
abbrev pub new_tally : ℕ → Tally
new_tally nodes = record {
  total = no_traffic;
  clients = 0;
  links = replicate nodes new_link;
  window = [];
  ticks = no_ticks;
  refused = replicate 256 0;
  ended = replicate 256 0;
}

-- the total is noted at a tick, and the longest time between two ticks
abbrev pub window_after : ℕ → EventKind → Traffic → Ticks → List Mark → List Mark
window_after at Started total ticks window = window
window_after at (Opened connection) total ticks window = window
window_after at (Piece connection bytes) total ticks window = window
window_after at (Room connection bytes) total ticks window = window
window_after at (Closed connection) total ticks window = window
window_after at Tick total ticks window = noted at total (longest_by at ticks) window

abbrev pub ticks_after : ℕ → EventKind → List Mark → Ticks → Ticks
ticks_after at Started window ticks = ticks
ticks_after at (Opened connection) window ticks = ticks
ticks_after at (Piece connection bytes) window ticks = ticks
ticks_after at (Room connection bytes) window ticks = ticks
ticks_after at (Closed connection) window ticks = ticks
ticks_after at Tick window ticks = ticked at (is_due at window) ticks

-- ---- what comes, and what is given out

abbrev pub met : ℕ → EventKind → Tally → Tally
met at kind t = record t {
  total = with_event kind t.total;
  clients = open_after kind t.clients;
  window = window_after at kind t.total t.ticks t.window;
  ticks = ticks_after at kind t.window t.ticks;
}

abbrev pub heard : ℕ → PeerEventKind → Tally → Tally
heard at kind t = record t { total = with_peer_event kind t.total; links = links_after at kind t.links }

abbrev pub gave : List Output → Tally → Tally
gave outputs t = record t {
  total = with_outputs outputs t.total;
  clients = open_with outputs t.clients;
  refused = refused_after outputs t.refused;
  ended = ended_after outputs t.ended;
}

abbrev pub gave_frames : List PeerFrame → Tally → Tally
gave_frames frames t = record t { total = with_frames frames t.total }

-- ---- what is told

-- since the oldest mark that is at most ten seconds away
abbrev pub recent : ℕ → Tally → Traffic
recent at t = less t.total (base at t.window)

-- the longest time between two ticks in the last ten seconds
abbrev pub longest_turn : ℕ → Tally → ℕ
longest_turn at t = longest_of at t.ticks.longest t.window

-- how it stands with a peer
abbrev pub link_of : ℕ → Tally → Link
link_of peer t = link_at peer t.links

-- the codes that were given, with their counts
abbrev pub refused_told : Tally → List CodeCount
refused_told t = told_below 256 t.refused

abbrev pub ended_told : Tally → List CodeCount
ended_told t = told_below 256 t.ended
