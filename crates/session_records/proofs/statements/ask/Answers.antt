use Rattle.std.proofs.Common.{IsTrue, Result, Ok, Err, IfOk, IfErr, OnOk, Vec, Global, [], List, ℕ}
use Rattle.sqlite_value.specs.Order.{Row}
use Rattle.sqlite.specs.declared.error.Error.{Error}
use Rattle.sqlite.specs.Given.{IsPlain}
use Rattle.sqlite.specs.Listing.{understood}
use Rattle.sqlite.specs.State.{State, Shown, FailsToQuery}
use Rattle.sqlite.specs.Held.{state}
use Rattle.session_records.specs.Connections.{IsSameAs, Stays}
use Rattle.session_records.proofs.Loads.{shown_same, shown_stays, fails_stays, query_survives, shown_was_open, fails_was_open}
use Rattle.session_records.proofs.statements.ask.Goals as goal

module _ (sql : List ℕ) (old new : State) where
  same_of : (r : Result (Vec Row Global) Error) → IsPlain (understood old.now.schema sql) → IfOk r (λ v. Shown sql [] old new v.items) → OnOk r (IsSameAs old new)
  same_of (Ok v) plain shown = shown_same sql old new plain v.items shown
  same_of (Err e) plain shown = tt

  stays_of : (r : Result (Vec Row Global) Error) → IsPlain (understood old.now.schema sql) → IfOk r (λ v. Shown sql [] old new v.items) → IfErr r (FailsToQuery sql [] old new) → Stays old new
  stays_of (Ok v) plain shown fails = shown_stays sql old new plain v.items shown
  stays_of (Err e) plain shown fails = fails_stays sql old new plain e fails

  was_of : (r : Result (Vec Row Global) Error) → IfOk r (λ v. Shown sql [] old new v.items) → IfErr r (FailsToQuery sql [] old new) → IsTrue new.is_open → IsTrue old.is_open
  was_of (Ok v) shown fails = shown_was_open sql [] old new v.items shown
  was_of (Err e) shown fails = fails_was_open sql [] old new e fails

pub returns-clause-same : goal.returns-clause-same
returns-clause-same g c clean plain = same_of c.args.sql.now (state g.S.Store c.args.conn.now) (state g.S.Store c.query_all.new.self) c.query_all.result plain (c.query_all.ensures.ok clean)

pub returns-clause-stays : goal.returns-clause-stays
returns-clause-stays g c clean plain = stays_of c.args.sql.now (state g.S.Store c.args.conn.now) (state g.S.Store c.query_all.new.self) c.query_all.result plain (c.query_all.ensures.ok clean) (c.query_all.ensures.err clean)

pub returns-clause-was_open : goal.returns-clause-was_open
returns-clause-was_open g c clean = was_of c.args.sql.now (state g.S.Store c.args.conn.now) (state g.S.Store c.query_all.new.self) c.query_all.result (c.query_all.ensures.ok clean) (c.query_all.ensures.err clean)

pub returns-clause-survives : goal.returns-clause-survives
returns-clause-survives g c plain = query_survives c.args.sql.now (state g.S.Store c.args.conn.now) (state g.S.Store c.query_all.new.self) plain c.query_all.ensures.survives
