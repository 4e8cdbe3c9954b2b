use Rattle.std.proofs.Common.{rules, arith, ◌≡◌, ◌+◌, ◌-◌, ◌∙◌, refl, sym, ap, length, take, drop}
use Rattle.std.proofs.lemmas.List.{drop-drop, length-drop, take_all}
use Rattle.sqlite.specs.Held.{state}
use Rattle.sqlite.specs.State.{HasCleanDisk}
use Rattle.row_store.specs.Rows.{after_all}
use Rattle.session_records.specs.Connections.{IsBegun}
use Rattle.session_records.specs.Stored.{held}
use Rattle.session_records.proofs.Effects.{goes_then, all_after}
use Rattle.session_records.proofs.statements.make_changes.Goals as goal

pub loop-made-preserved : goal.loop-made-preserved
loop-made-preserved g c =
    let old = state g.S.Store c.args.tx.now.conn.now in
    let mid = state g.S.Store c.loop-made.tx.conn.now in
    let new = state g.S.Store c.make_first.new.tx.conn.now in
    let before = c.loop-made.invariant in
    let changes = c.args.changes.now in
    let rest = drop c.loop-made.made changes in
    let whole : take (length changes - c.loop-made.made) rest ≡ rest = take_all (length changes - c.loop-made.made) rest (omega (arith, length-drop c.loop-made.made changes)) in
    let made = c.in_ok-made.field-0 in
    let back : HasCleanDisk new → HasCleanDisk mid = λ clean. omega (arith, c.in_ok-made.ensures.survives.clean) in
    record {
      within = omega (arith, c.in_ok-made.ensures.made, before.within, ap length whole, length-drop c.loop-made.made changes);
      same = search rules;
      survives = search rules;
      kept = search rules;
      goes = λ clean begun is.
          let until = before.goes (back clean) begun is in
          let still : IsBegun mid = record { is_open = until.shown.is_open; mode = until.shown.mode } in
          let step = c.in_ok-made.ensures.goes clean still until.formed in
          goes_then old mid new (held mid.now) (held new.now) until (record { formed = step.formed; holds = refl; shown = step.shown });
      left = λ clean begun is.
          let until = before.goes (back clean) begun is in
          let still : IsBegun mid = record { is_open = until.shown.is_open; mode = until.shown.mode } in
          let step = c.in_ok-made.ensures.goes clean still until.formed in
          ap (λ h. after_all h (drop (c.loop-made.made + made) changes)) (step.holds ∙ ap (λ xs. after_all (held mid.now) (take made xs)) whole)
          ∙ ap (after_all (after_all (held mid.now) (take made rest))) (sym (drop-drop made c.loop-made.made changes))
          ∙ all_after (held mid.now) made rest ∙ before.left (back clean) begun is;
    }
