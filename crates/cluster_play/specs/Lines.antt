-- How a line of a trace is printed: words with one space between them, numbers in decimal, bytes as two lower case
-- hexadecimal digits each.
use Rattle.std.specs.Prelude.{ℕ, List, ◌++◌, codes}
use Rattle.std.specs.Fmt.{decimal}
use Rattle.hex.specs.Hex.{encode_lower}
use Rattle.node_keeper.specs.Names.{keeper_fault_name}
use Rattle.node_work.specs.Names.{frame_name}
use Rattle.cluster_play.specs.declared.line.Line.{Line}
use Rattle.cluster_play.specs.declared.line.Line.TheVariants.{Sent, Closed, Frame, Fault, Crash, Down}

abbrev pub line_text : Line → List ℕ
line_text (Sent node connection bytes) = codes "sent " ++ decimal node ++ codes " " ++ decimal connection ++ codes " " ++ encode_lower bytes
line_text (Closed node connection) = codes "closed " ++ decimal node ++ codes " " ++ decimal connection
line_text (Frame number from to kind) = codes "frame " ++ decimal number ++ codes " " ++ decimal from ++ codes " " ++ decimal to ++ codes " " ++ frame_name kind
line_text (Fault node fault) = codes "fault " ++ decimal node ++ codes " " ++ keeper_fault_name fault
line_text (Crash node) = codes "crash " ++ decimal node
line_text (Down node) = codes "down " ++ decimal node
