use Rattle.std.proofs.Common.{Some, sym, ap, ◌∙◌}
use Rattle.session_table.specs.Listing.{session_in, table}
use Rattle.law_maps.proofs.Texts.{get_table, remove_table}
use Rattle.session_table.proofs.Calling.{listed_here, out_listed, still_listed}
use Rattle.session_table.proofs.table.take_out.Goals as goal

pub returns-in_default-clause-gone : goal.returns-in_default-clause-gone
returns-in_default-clause-gone c = remove_table c.args.seats.now.entries c.remove.new.self.entries c.args.client.now c.remove.ensures.updates.0

pub returns-in_default-clause-listed : goal.returns-in_default-clause-listed
returns-in_default-clause-listed c =
    still_listed c.args.client.now (table c.args.seats.now.entries) (table c.remove.new.self.entries) c.args.listing.now
    (get_table c.args.seats.now.entries c.args.client.now ∙ sym c.remove.ensures.value ∙ c.in_default.is)
    (remove_table c.args.seats.now.entries c.remove.new.self.entries c.args.client.now c.remove.ensures.updates.0) c.requires.listed

pub unseat-requires : goal.unseat-requires
unseat-requires c =
    listed_here c.args.client.now (table c.args.seats.now.entries) c.args.listing.now c.into_inner.result c.requires.listed c.requires.keyed
    (get_table c.args.seats.now.entries c.args.client.now ∙ sym c.remove.ensures.value ∙ c.in-Some.is ∙ ap Some (sym c.into_inner.ensures))

pub returns-clause-gone : goal.returns-clause-gone
returns-clause-gone c = remove_table c.args.seats.now.entries c.remove.new.self.entries c.args.client.now c.remove.ensures.updates.0

pub returns-clause-listed : goal.returns-clause-listed
returns-clause-listed c =
    out_listed c.args.client.now (table c.args.seats.now.entries) (table c.remove.new.self.entries) c.args.listing.now c.unseat.new.listing c.into_inner.result c.requires.listed c.requires.keyed
    (get_table c.args.seats.now.entries c.args.client.now ∙ sym c.remove.ensures.value ∙ c.in-Some.is ∙ ap Some (sym c.into_inner.ensures))
    (remove_table c.args.seats.now.entries c.remove.new.self.entries c.args.client.now c.remove.ensures.updates.0) c.unseat.ensures.at c.unseat.ensures.others

pub returns-in_default-clause-session : goal.returns-in_default-clause-session
returns-in_default-clause-session c = sym (ap session_in (get_table c.args.seats.now.entries c.args.client.now ∙ sym c.remove.ensures.value ∙ c.in_default.is))

pub returns-clause-session : goal.returns-clause-session
returns-clause-session c = ap Some c.unseat.ensures.session ∙ sym (ap session_in (get_table c.args.seats.now.entries c.args.client.now ∙ sym c.remove.ensures.value ∙ c.in-Some.is ∙ ap Some (sym c.into_inner.ensures)))
