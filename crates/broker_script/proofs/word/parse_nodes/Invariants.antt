use Rattle.std.proofs.Common.{◌≡◌, ◌<◌, ◌^◌, map, take, length}
use Rattle.std.specs.List.{All}
use Rattle.std.specs.Fmt.{decimal}
use Rattle.broker_script.proofs.word.parse_nodes.Given as goal

abbrev pub invariant-loop-i : goal.invariant-loop-i
invariant-loop-i g l = record {
  read : map (λ w. w.now) (take l.i l.words) ≡ map decimal (take l.i l.nodes);
  fits : All (λ n. n < 2 ^ 16) l.nodes;
  long : length l.nodes ≡ length l.words;
}
