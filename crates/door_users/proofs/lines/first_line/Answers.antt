use Rattle.std.proofs.Common.{Some, None}
use Rattle.door_users.proofs.LineLaws.{lines_split}
use Rattle.door_users.proofs.lines.first_line.Goals as goal

pub returns-in-Some : goal.returns-in-Some
returns-in-Some c = lines_split c.args.text.now (Some (c.in-Some.line, c.in-Some.rest)) c.in-Some.ensures.cases

pub returns-in-None : goal.returns-in-None
returns-in-None c = lines_split c.args.text.now None c.in-None.ensures.cases
