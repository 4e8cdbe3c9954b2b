use Rattle.std.proofs.Common.{◌≡◌, ◌∙◌, sym, ap, rules, Some, None, Err}
use Rattle.std.specs.Option.{option_copied_mut}
use Rattle.std.specs.Cmp.{nat_cmp_total}
use Rattle.std.specs.FinMap.{nat_cmp-IsAntisymmetric}
use Rattle.std.specs.FinMap as map
use Rattle.law_maps.proofs.Tables.{get_table, insert_table, insert_same}
use Rattle.node_work.proofs.held.connections.Connections.feed.Goals.{in-Ok, in-Err-Failed, in-Err-NoMemory}
use Rattle.node_work.proofs.held.connections.Connections.feed.Goals as goal

pub returns-in_default-clause-fed : goal.returns-in_default-clause-fed
returns-in_default-clause-fed c = (
  ap (λ m. map.get m c.args.connection) (sym c.self.view_is) ∙ get_table nat_cmp_total c.self.inside.table.entries c.args.connection
      ∙ sym c.get_mut.ensures.value ∙ ap option_copied_mut c.in_default.is,
  ap (λ t. map.from_entries t.entries) c.get_mut.follows.holds-at-none ∙ c.self.view_is,
)

pub returns-clause-idle : goal.returns-clause-idle
returns-clause-idle c = λ e.
    let found : map.get c.args.self.now c.args.connection ≡ Some c.in-Some.found.now =
    ap (λ m. map.get m c.args.connection) (sym c.self.view_is) ∙ get_table nat_cmp_total c.self.inside.table.entries c.args.connection
    ∙ sym c.get_mut.ensures.value ∙ ap option_copied_mut c.in-Some.is in
    absurd (let z : Some c.in-Some.found.now ≡ None = sym found ∙ e in cc)

pub returns-clause-fed : goal.returns-clause-fed
returns-clause-fed c =
    let found : map.get c.args.self.now c.args.connection ≡ Some c.in-Some.found.now =
    ap (λ m. map.get m c.args.connection) (sym c.self.view_is) ∙ get_table nat_cmp_total c.self.inside.table.entries c.args.connection
    ∙ sym c.get_mut.ensures.value ∙ ap option_copied_mut c.in-Some.is in
    let written = insert_table nat_cmp_total nat_cmp-IsAntisymmetric c.self.inside.table.entries (c.get_mut.follows.lender c.feed.new.self).entries c.args.connection c.feed.new.self
    ((c.get_mut.follows.holds c.feed.new.self).3 (search rules)).0
    ∙ ap (λ m. map.insert m c.args.connection c.feed.new.self) c.self.view_is in
    elim c.match-feed.branch [
      | in-Ok w ↦ rw w.result-is (let e = w.in-Ok.ensures in
          (c.in-Some.found.now, found, e.sound, e.packets, e.fault, written ∙ ap (λ x. map.insert c.args.self.now c.args.connection x) e.stream))
      | in-Err-Failed w ↦ rw w.result-is (let e = w.in-Err-Failed.ensures in (
        c.in-Some.found.now,
        found,
        e.failed.0 (ap Err w.in-Err-Failed.field-0-is),
        written ∙ ap (λ x. map.insert c.args.self.now c.args.connection x) e.err ∙ insert_same nat_cmp_total nat_cmp-IsAntisymmetric c.args.self.now c.args.connection _ found,
      ))
      | in-Err-NoMemory w ↦ rw w.result-is tt
    ]
