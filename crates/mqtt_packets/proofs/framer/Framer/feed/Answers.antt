use Rattle.std.proofs.Common.{◌≡◌, ℕ, List, [], Option, Some, None, false, is_some, sym, ap, subst, ◌∙◌, arith}
use Rattle.std.proofs.lemmas.Grind.{common_steps}
use Rattle.mqtt_packets.specs.Memory.{FaultWants}
use Rattle.mqtt_packets.specs.Stream.{Held, held_rest}
use Rattle.mqtt_packets.proofs.MemoryLaws.{first_piece}
use Rattle.mqtt_packets.proofs.framer.Framer.feed.Goals as goal

nothing_held : (at_fault : Option ℕ) (bytes : List ℕ) → is_some at_fault ≡ false → bytes ≡ [] → held_rest at_fault bytes ≡ []
nothing_held None bytes sound none = none
nothing_held (Some first) bytes sound none = absurd cc

pub returns-in_err-fed-clause-no_memory : goal.returns-in_err-fed-clause-no_memory
returns-in_err-fed-clause-no_memory c =
    let none : c.self.inside.buffer.items ≡ [] = grind (arith, common_steps) in
    let held : c.args.self.now.rest ≡ [] = ap (λ (h : Held). h.rest) (sym c.self.view_is) ∙ nothing_held _ _ (sym c.is_some.ensures ∙ c.if-is_some.false) none in
    λ _. first_piece c.args.self.now.limit c.args.self.now.rest c.args.piece.now held (subst (λ (n : ℕ). FaultWants n c.args.piece.now) (ap (λ (h : Held). h.limit) c.self.view_is) c.in_err-fed.ensures.no_memory)
