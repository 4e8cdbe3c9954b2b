-- What is opened holds the rows in its files.
use Rattle.std.proofs.Common.{◌≡◌, sym, ap, subst, ◌∙◌}
use Rattle.sqlite.specs.Effect.{Database}
use Rattle.sqlite.specs.Files.{AreFoundIn, HoldsDatabase}
use Rattle.sqlite.specs.Recovery.{Image}
use Rattle.sqlite.specs.Start.{FindsIn}
use Rattle.sqlite.specs.State.{State, IsLive, Opens}
use Rattle.sqlite.specs.Tree.{Trees}
use Rattle.session_records.specs.Connections.{Adopts}
use Rattle.session_records.specs.Stored.{held}
use Rattle.row_database.specs.Files.{IsIn, AreRowsIn}

is_in : (files : Image) (opened : State) → Opens opened → IsLive opened → FindsIn files opened → IsIn files opened.now
is_in files opened is live found =
    let same = ap (λ (db : Database). db.trees) is.clean in
    record {
      sound = (live is.is_open).0;
      found = subst (AreFoundIn files) (sym same) found.reads;
      only = λ trees holds. same ∙ found.holds trees holds;
    }

pub is_found : (files : Image) (opened : State) → Opens opened × IsLive opened
    → ((db : Trees) → HoldsDatabase files db → opened.committed.trees ≡ db) → AreFoundIn files opened.committed.trees → IsIn files opened.now
is_found files opened is holds reads = is_in files opened is.0 is.1 (record { holds = holds; reads = reads })

pub rows_in : (files : Image) (opened rows : State) → Opens opened → IsLive opened → FindsIn files opened → Adopts opened rows → AreRowsIn files (held rows.committed)
rows_in files opened rows is live found adopted = record { database = opened.now; is_in = is_in files opened is live found; are_its = adopted }
