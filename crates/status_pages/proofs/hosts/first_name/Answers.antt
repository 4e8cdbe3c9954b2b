use Rattle.std.proofs.Common.{Some, None}
use Rattle.status_pages.proofs.Names.{names_split}
use Rattle.status_pages.proofs.hosts.first_name.Goals as goal

pub returns-in-Some : goal.returns-in-Some
returns-in-Some c = names_split c.args.names.now (Some (c.in-Some.name, c.in-Some.rest)) c.in-Some.ensures.cases

pub returns-in-None : goal.returns-in-None
returns-in-None c = names_split c.args.names.now None c.in-None.ensures.cases
