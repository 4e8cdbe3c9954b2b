use Rattle.std.proofs.Common.{◌∙◌, ◌++◌, ◌&&◌, ap, ℕ, Bool, sym, take, slice_index_or}
use Rattle.slab.specs.Slab.{get}
use Rattle.std.proofs.lemmas.List.{take_more}
use Rattle.broker_turns.specs.Clients.{takes_more_at}
use Rattle.broker_turns.specs.Numbers.{is_among}
use Rattle.broker_turns.proofs.Numbering.{noted-among}
use Rattle.broker_turns.proofs.Stepping.{noted}
use Rattle.broker_turns.proofs.clients.that_take_more.Goals as goal

pub loop-key-preserved : goal.loop-key-preserved
loop-key-preserved g c number =
    let keys = c.args.keys.now in
    let i = c.loop-key.key-index in
    let key = slice_index_or keys i 0 in
    let test : ℕ → Bool = λ n. takes_more_at (get c.args.slab.now n) in
    ap (λ k. is_among k number) c.in_ok-note_if.ensures
    ∙ ap (λ b. is_among (c.loop-key.takers.items ++ noted b key) number) c.takes_more_at.ensures
    ∙ noted-among c.loop-key.takers.items (take i keys) test key number (c.loop-key.invariant number)
    ∙ sym (ap (λ k. is_among k number && test number) (take_more keys i 0 c.loop-key-test.true))
