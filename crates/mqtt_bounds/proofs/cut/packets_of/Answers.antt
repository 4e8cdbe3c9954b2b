use Rattle.std.proofs.Common.{List, ℕ, map, sym, ap, ◌∙◌}
use Rattle.std.proofs.lemmas.List.{map_push}
use Rattle.mqtt_bounds.specs.Pieces.{cut}
use Rattle.mqtt_bounds.proofs.Growing.{loop_more}
use Rattle.mqtt_bounds.proofs.cut.packets_of.Goals as goal
use denote.Ref.{Bor}

pub loop-used-preserved : goal.loop-used-preserved
loop-used-preserved c =
    loop_more c.args.limit c.in-Whole.used (map (λ (p : Bor (List ℕ)). p.now) c.loop-used.packets.items) (map (λ (p : Bor (List ℕ)). p.now) c.push.new.self.items) c.loop-used.rest.now
    c.split_at.result.0.now c.split_at.result.1.now (cut c.args.limit c.args.bytes.now) (sym c.in-Whole.ensures.exact) c.loop-used.invariant c.split_at.ensures.front c.split_at.ensures.back
    (ap (map (λ (p : Bor (List ℕ)). p.now)) c.in_ok-push-in-Whole.ensures.items ∙ map_push (λ (p : Bor (List ℕ)). p.now) c.loop-used.packets.items c.split_at.result.0)
