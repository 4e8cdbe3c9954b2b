use Rattle.std.proofs.Common.{Some, None, [], Err, Result, refl, sym, subst}
use Rattle.std.proofs.lemmas.List.{append-nil}
use Rattle.node_work.specs.View.{WorkView}
use Rattle.node_work.specs.Working.{Did, FindsWhere, Stops}
use Rattle.node_work.specs.declared.fault.NodeFault.{NodeFault}
use Rattle.node_work.specs.declared.fault.NodeFault.TheVariants.{NumbersAtEnd}
use Rattle.node_work.proofs.Telling.{no_names, tells_none}
use Rattle.node_work.proofs.Working.{comes_finds, comes_where}
use Rattle.node_clients.specs.Connecting.{NamesBy, RefusesConnect, WillIsNamed}
use Rattle.node_clients.specs.Naming.{IsNextNumber}
use Rattle.node_clients.proofs.connect.name.Goals as goal

did_stop : (w : WorkView) → Did w w (Stops {A = Unit {0}} None)
did_stop w = record { acts = []; does = (refl, refl); runs = refl; given = sym (append-nil w.outputs); tells = tells_none w w refl refl; begins = λ old lead begins. begins; names = no_names w w [] refl; place = refl }

pub returns-in_default : goal.returns-in_default
returns-in_default c =
    let p = c.args.packet.now in
    let at = c.args.connection in
    let w = c.args.work.now in
    let r : Result (Unit {0}) NodeFault = Err NumbersAtEnd in
    let is = subst (IsNextNumber w.place w.held) c.in_default.is c.in_ok-number.ensures.ok in
    comes_where (λ x. x) r w w (WillIsNamed p.will) (FindsWhere IsNextNumber (NamesBy at p)) (RefusesConnect at p 144 None) (c.will_is_named.ensures.named.0 c.if-not-will_is_named.false)
    (comes_finds (λ x. x) r w w IsNextNumber (NamesBy at p) None is (w, did_stop w))

pub returns : goal.returns
returns c =
    let p = c.args.packet.now in
    let at = c.args.connection in
    let w = c.args.work.now in
    let r = c.name_by.result in
    let new = c.name_by.new.work in
    let is = subst (IsNextNumber w.place w.held) c.in-Some.is c.in_ok-number.ensures.ok in
    comes_where (λ x. x) r w new (WillIsNamed p.will) (FindsWhere IsNextNumber (NamesBy at p)) (RefusesConnect at p 144 None) (c.will_is_named.ensures.named.0 c.if-not-will_is_named.false)
    (comes_finds (λ x. x) r w new IsNextNumber (NamesBy at p) (Some c.in-Some.number) is c.name_by.ensures)
