use Rattle.std.proofs.Common.{rules}
use Rattle.replica_rows.specs.Memory.{FirstWants, RowsWant}
use Rattle.replica_rows.specs.ReadingSteps.{said}
use Rattle.replica_rows.specs.Reading.{IsStore, AreAllRowsOf}
use Rattle.replica_rows.proofs.Told.{made_by, refused_by, made_rows, made_store}
use Rattle.replica_rows.proofs.reading.store_in.Goals as goal

pub returns-clause-ok : goal.returns-clause-ok
returns-clause-ok c = made_by c.store_of.result (AreAllRowsOf c.args.rows.now) (said c.in_ok-parts.parts) c.store_of.ensures.ok (λ seen. made_rows (said c.in_ok-parts.parts) seen c.args.rows.now (c.are_rising.ensures.0 c.if-not-are_rising.false) c.in_ok-parts.ensures.ok)

pub returns-clause-store : goal.returns-clause-store
returns-clause-store c = made_by c.store_of.result IsStore (said c.in_ok-parts.parts) c.store_of.ensures.ok (λ seen. made_store (said c.in_ok-parts.parts) seen c.in_ok-parts.ensures.ok.sound)

pub returns-clause-bad : goal.returns-clause-bad
returns-clause-bad c = refused_by c.store_of.result c.args.rows.now (said c.in_ok-parts.parts) c.store_of.ensures.bad c.in_ok-parts.ensures.ok

pub returns-in_err-parts-clause-no_memory : goal.returns-in_err-parts-clause-no_memory
returns-in_err-parts-clause-no_memory c =
    let wants : FirstWants c.args.rows.now → RowsWant c.args.rows.now = λ first. record { rise = c.are_rising.ensures.0 c.if-not-are_rising.false; first = first } in
    search (rules, wants)

pub returns-clause-no_memory : goal.returns-clause-no_memory
returns-clause-no_memory c = λ _ some. record { rise = c.are_rising.ensures.0 c.if-not-are_rising.false; first = c.in_ok-parts.ensures.begun some }
