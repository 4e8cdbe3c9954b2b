use Rattle.std.proofs.Common.{◌≡◌, false, [], ◌∷◌, rules}
use Rattle.std.specs.Prelude.{nat_eq}
use Rattle.std.specs.List.{starts_with}
use Rattle.door_users.proofs.CountLaws.{count_unread, read_by}
use Rattle.door_users.proofs.account.iterations_of.Goals as goal

pub bounded-requires-clause-value : goal.bounded-requires-clause-value
bounded-requires-clause-value c =
    let no_plus : starts_with nat_eq c.args.text.now (43 ∷ []) ≡ false = search rules in
    read_by c.args.text.now c.parse.result c.in-Ok.number no_plus c.parse.ensures.value.0 c.in-Ok.is

pub returns-in-Err-clause-exact : goal.returns-in-Err-clause-exact
returns-in-Err-clause-exact c =
    let no_plus : starts_with nat_eq c.args.text.now (43 ∷ []) ≡ false = search rules in
    count_unread c.args.text.now c.in-Err.field-0 no_plus c.in-Err.ensures.value.0
