use Rattle.std.proofs.Common.{rules, arith, ◌+◌, ◌∙◌, ap, take}
use Rattle.sqlite.specs.Held.{state}
use Rattle.sqlite.specs.State.{HasCleanDisk}
use Rattle.row_store.specs.Rows.{after_all}
use Rattle.session_records.specs.Apart.{after_at}
use Rattle.session_records.specs.Stored.{held}
use Rattle.session_records.proofs.Effects.{goes_then}
use Rattle.session_records.proofs.Interleaving.{interleaved}
use Rattle.session_records.proofs.statements.make_both.Goals as goal

pub loop-i-preserved : goal.loop-i-preserved
loop-i-preserved g c =
    let old = state g.S.Store c.args.tx.now.conn.now in
    let mid = state g.S.Store c.loop-i.tx.conn.now in
    let new = state g.S.Store c.make_at.new.tx.conn.now in
    let before = c.loop-i.invariant in
    let first = c.args.first.now in
    let second = c.args.second.now in
    let i = c.loop-i.i in
    let back : HasCleanDisk new → HasCleanDisk mid = λ clean. omega (arith, c.in_ok-make_at.ensures.survives.clean) in
    record {
      same = search rules;
      survives = search rules;
      kept = search rules;
      goes = λ clean begun is.
          let until = before.goes (back clean) begun is in
          let step = c.in_ok-make_at.ensures.goes clean until.formed in
          let whole = step.holds ∙ ap (λ d. after_at (after_at d first i) second i) until.holds ∙ interleaved (held old.now) first second i c.requires.apart in
          goes_then old mid new _ (after_all (after_all (held old.now) (take (i + 1) first)) (take (i + 1) second)) until (record { formed = step.formed; holds = whole; shown = step.shown });
    }
