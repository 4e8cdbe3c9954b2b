use Rattle.std.proofs.Common.{◌≡◌, ◌++◌, length, rules, arith, inl, ap, ◌∙◌}
use Rattle.node_work.specs.Handed.{found}
use Rattle.node_work.specs.Passing.{seated, unseated}
use Rattle.node_clients.proofs.Handing.{found_or_gone}
use Rattle.node_clients.proofs.Seating.{seated_joined}
use Rattle.node_clients.proofs.arriving.alive_of.Goals as goal

pub overflow_sub-lost : goal.overflow_sub-lost
overflow_sub-lost c =
    let all = found_or_gone c.in_ok-picked.picked.items in
    let same = ap length c.in_ok-found.ensures.ok in
    omega (arith, all, same, c.seated-found.ensures.others)

pub returns-clause-ok : goal.returns-clause-ok
returns-clause-ok c =
    let plain = c.in_ok-plain.plain.items in
    let picked = c.in_ok-picked.picked.items in
    let h = c.args.work.now.held in
    let held = c.held-held.ensures in
    let own = c.in_ok-found.ensures.ok in
    let all = found_or_gone picked in
    let same = ap length own in
    let lost : length (unseated c.held-held.result.now c.in_ok-found.found.items) ≡ length (unseated c.args.work.now.held (found picked)) = λ i. length (unseated (held i) (own i)) in
    inl (
      c.requires,
      record {
        plain = plain;
        picked = picked;
        are_copies = c.in_ok-plain.ensures.ok;
        are_picked = search rules;
        copies_are =
            ap (seated h) (c.in_ok-copies.ensures.ok ∙ ap (λ xs. plain ++ xs) (c.seated-found.ensures.seated ∙ (λ i. seated (held i) (own i))))
            ∙ seated_joined h plain (found picked);
        lost_are = omega (arith, all, same, lost, c.seated-found.ensures.others);
      },
    )
