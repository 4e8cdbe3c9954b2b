use Rattle.std.proofs.Common.{◌≡◌, ◌∙◌, sym, ap, rules, Some, None}
use Rattle.std.specs.Option.{option_copied_mut}
use Rattle.std.specs.Cmp.{nat_cmp_total}
use Rattle.std.specs.FinMap.{nat_cmp-IsAntisymmetric}
use Rattle.std.specs.FinMap as map
use Rattle.law_maps.proofs.Tables.{get_table, insert_table}
use Rattle.node_work.specs.Held.Connections.{changed_at, with_room}
use Rattle.node_work.proofs.held.connections.Connections.keep_room.Goals as goal

pub returns-in_default : goal.returns-in_default
returns-in_default c =
    let none : map.get c.args.self.now c.args.connection ≡ None =
    ap (λ m. map.get m c.args.connection) (sym c.self.view_is) ∙ get_table nat_cmp_total c.self.inside.table.entries c.args.connection
    ∙ sym c.get_mut.ensures.value ∙ ap option_copied_mut c.in_default.is in
    ap (λ t. map.from_entries t.entries) c.get_mut.follows.holds-at-none ∙ c.self.view_is
    ∙ sym (ap (changed_at (with_room c.args.bytes) c.args.connection c.args.self.now) none)

pub returns : goal.returns
returns c =
    let found : map.get c.args.self.now c.args.connection ≡ Some c.in-Some.found.now =
    ap (λ m. map.get m c.args.connection) (sym c.self.view_is) ∙ get_table nat_cmp_total c.self.inside.table.entries c.args.connection
    ∙ sym c.get_mut.ensures.value ∙ ap option_copied_mut c.in-Some.is in
    insert_table nat_cmp_total nat_cmp-IsAntisymmetric c.self.inside.table.entries (c.get_mut.follows.lender c.keep_room.new.self).entries c.args.connection c.keep_room.new.self
    ((c.get_mut.follows.holds c.keep_room.new.self).3 (search rules)).0
    ∙ ap (λ m. map.insert m c.args.connection c.keep_room.new.self) c.self.view_is
    ∙ ap (λ x. map.insert c.args.self.now c.args.connection x) c.keep_room.ensures
    ∙ sym (ap (changed_at (with_room c.args.bytes) c.args.connection c.args.self.now) found)
