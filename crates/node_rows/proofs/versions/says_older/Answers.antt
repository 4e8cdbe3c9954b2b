use Rattle.node_rows.proofs.Raising.{says_older}
use Rattle.node_rows.proofs.versions.says_older.Goals as goal

pub returns-in-Some : goal.returns-in-Some
returns-in-Some c =
    let same = says_older c.args.value.now c.in-Some.version (c.in-Some.field-0-1, c.in-Some.field-0-2) c.in-Some.ensures in
    (λ is. same.0 (c.is_older_version.ensures.0 is), λ older. c.is_older_version.ensures.1 (same.1 older))
