-- The peers of a node, as the page shows them.
use Rattle.std.specs.Prelude.{ℕ, ◌/◌, ◌==◌, List, [], ◌∷◌, ◌++◌, codes, Option, Some, None, String, if◌then◌else◌}
use Rattle.std.specs.declared.alloc.Global.{Global}
use Rattle.std.specs.Fmt.{decimal}
use Rattle.status_figures.specs.declared.figures.Figures.{Figures}
use Rattle.status_figures.specs.declared.peer.Peer.{Peer}
use Rattle.status_figures.specs.declared.usage.Usage.{Usage}
use Rattle.status_figures.specs.Figures.{agrees, has_room, is_equal, is_short}
use Rattle.status_texts.specs.Escapes.{escaped}
use Rattle.status_texts.specs.Rows.{cell, number_cell, row_start, uptime_text}

abbrev pub class_of : Peer → List ℕ
class_of peer = if agrees peer then codes "agrees" else codes "apart"

-- for how long there has been no link
abbrev pub link_text : Peer → List ℕ
link_text peer = if peer.linked then codes "linked" else codes "not linked for " ++ uptime_text (peer.away / 1000)

-- what it lacks, and what it has more than the node
unfoldable pub counts_text : ℕ → ℕ → List ℕ
counts_text lacking missing = codes "lacking operations: " ++ decimal lacking ++ codes ", more than here: " ++ decimal missing

-- where it isn't equal
abbrev pub differing_text : Peer → List ℕ
differing_text peer = if peer.heard then counts_text peer.lacking peer.missing else codes "not heard since the start"

abbrev pub equal_text : Peer → List ℕ
equal_text peer = if is_equal peer then codes "equal" else differing_text peer

-- where no more messages can wait for it
abbrev pub room_text : Peer → List ℕ
room_text peer = if has_room peer then [] else codes ", lane full"

abbrev pub state_text : Peer → List ℕ
state_text peer = equal_text peer ++ room_text peer

-- the text, and then the line of a peer
unfoldable pub with_peer : Peer → List ℕ → List ℕ
with_peer peer text =
    text
    ++ row_start (class_of peer)
    ++ cell (escaped peer.name.bytes.items)
    ++ cell (escaped peer.bridge.bytes.items)
    ++ cell (link_text peer)
    ++ cell (state_text peer)
    ++ number_cell peer.waiting
    ++ codes "</tr>\n"

-- and then those of all peers
abbrev pub with_peers : List Peer → List ℕ → List ℕ
with_peers [] text = text
with_peers (peer ∷ peers) text = with_peers peers (with_peer peer text)

-- ---- whether a node is caught up, and what holds it up

unfoldable pub apart_line : List ℕ → List ℕ → List ℕ → List ℕ
apart_line name link state = name ++ codes ": " ++ link ++ codes ", " ++ state ++ codes "\n"

-- a line for a peer that isn't linked, isn't equal, or has a full lane
unfoldable pub apart_text : Peer → List ℕ
apart_text peer = if agrees peer then [] else apart_line peer.name.bytes.items (link_text peer) (state_text peer)

abbrev pub with_apart : List Peer → List ℕ → List ℕ
with_apart [] text = text
with_apart (peer ∷ peers) text = with_apart peers (text ++ apart_text peer)

-- a line where the table of homes in the node's file isn't taken, with the reason
unfoldable pub untaken_line : List ℕ → List ℕ
untaken_line reason = codes "the table of homes in the file is not taken: " ++ reason ++ codes "\n"

abbrev pub with_untaken : Option (String Global) → List ℕ → List ℕ
with_untaken None text = text
with_untaken (Some refusal) text = text ++ untaken_line refusal.bytes.items

-- a line where the program is short of memory
abbrev pub short_line : Usage → List ℕ
short_line usage = if is_short usage then codes "the program holds nearly all the memory that it may\n" else []

abbrev pub gate_text : Figures → List ℕ
gate_text figures = with_apart figures.peers.items (with_untaken figures.refusal (codes "not caught up\n") ++ short_line figures.usage)
