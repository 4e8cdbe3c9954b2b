-- Why rows are no node's: what is wrong with the mark that they begin with, and else with what follows.
use Rattle.std.specs.Prelude.{ℕ, ◌==◌, ◌&&◌, not, List, [], ◌∷◌, Option, Some, None, if◌then◌else◌}
use Rattle.session_rows.specs.Reading.{whole}
use Rattle.node_rows.specs.Rows.{marked}
use Rattle.row_store.specs.Rows.{Plain}
use Rattle.cli_reports.specs.declared.flaw.Flaw.{Flaw}
use Rattle.cli_reports.specs.declared.flaw.Flaw.TheVariants.{NoMark, OtherVersion, OtherNode, Unsound}

-- a mark of node `id` says version 1, 2 or 3 and its number
abbrev pub marked_flaw : ℕ → Option (ℕ × (ℕ × ℕ)) → Flaw
marked_flaw id None = NoMark
marked_flaw id (Some (version, (node, named))) =
    if not (version == 1) && not (version == 2) && not (version == 3) then OtherVersion version
    else if not (node == id) then OtherNode node
    else Unsound

-- a mark is of kind 1, without owner and place
abbrev pub flaw_at : ℕ → List ℕ → List ℕ → List ℕ → Flaw
flaw_at id value [] [] = marked_flaw id (whole marked value)
flaw_at id value [] (b ∷ place) = NoMark
flaw_at id value (b ∷ owner) place = NoMark

abbrev pub flaw_in : ℕ → Plain → Flaw
flaw_in id row = if row.0.0 == 1 then flaw_at id row.1 row.0.1.0 row.0.1.1 else NoMark

abbrev pub flaw_of : ℕ → List Plain → Flaw
flaw_of id [] = Unsound
flaw_of id (row ∷ rows) = flaw_in id row
