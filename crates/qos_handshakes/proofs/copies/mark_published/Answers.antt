use Rattle.std.proofs.Common.{ℕ, sym, ◌∙◌, ap}
use Rattle.std.specs.BTreeMap.{BTreeMap}
use Rattle.qos_handshakes.specs.declared.copies.Entry.{Entry}
use Rattle.qos_handshakes.specs.Entries.{as_published}
use Rattle.qos_handshakes.proofs.Indexed.{set-written, none-written}
use Rattle.qos_handshakes.proofs.copies.mark_published.Goals as goal

pub returns-in-Some-clause-written : goal.returns-in-Some-clause-written
returns-in-Some-clause-written c = (c.get_mut.follows.holds (as_published c.args.id c.in-Some.entry.now)).0 ∙ set-written (as_published c.args.id) c.args.place c.in-Some.entry.now c.args.entries.now.entries (sym c.in-Some.ensures.value)

pub returns-in_default-clause-written : goal.returns-in_default-clause-written
returns-in_default-clause-written c = ap (λ (m : BTreeMap ℕ Entry). m.entries) c.get_mut.follows.holds-at-none ∙ sym (none-written (as_published c.args.id) c.args.place c.args.entries.now.entries (sym c.in_default.ensures.value))
