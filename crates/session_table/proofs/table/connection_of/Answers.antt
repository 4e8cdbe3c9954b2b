use Rattle.std.proofs.Common.{sym, ap, ◌∙◌}
use Rattle.std.specs.Option.{option_copied}
use Rattle.session_table.specs.Listing.{connection_in}
use Rattle.session_table.specs.declared.seated.Seated.{Seated}
use Rattle.law_maps.proofs.Texts.{get_table}
use Rattle.session_table.proofs.table.connection_of.Goals as goal

pub returns-in-Some : goal.returns-in-Some
returns-in-Some c = ap (λ (x : Seated). x.connection) c.deref.ensures ∙ sym (ap connection_in (get_table c.args.seats.now.entries c.args.client.now ∙ sym c.get.ensures.value ∙ ap option_copied c.in-Some.is))

pub returns-in-None : goal.returns-in-None
returns-in-None c = sym (ap connection_in (get_table c.args.seats.now.entries c.args.client.now ∙ sym c.get.ensures.value ∙ ap option_copied c.in-None.is))
