use Rattle.std.proofs.Common.{false, rules, sym, ◌∙◌}
use Rattle.std.specs.Prelude.{Bool}
use Rattle.std.proofs.lemmas.Map.Made.{map_same_pairs}
use Rattle.qos_handshakes.proofs.Arrivals.{before-is_map}
use Rattle.qos_handshakes.proofs.incoming.mark_of_before.Goals as goal

pub returns : goal.returns
returns c = map_same_pairs _ (λ (x : Bool). false) _ (λ k v b w f' t. search rules) _ _ c.retain.ensures.filtered ∙ sym (before-is_map c.args.exchanges.now.entries)
