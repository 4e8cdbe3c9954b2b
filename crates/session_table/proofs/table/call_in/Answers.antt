use Rattle.std.proofs.Common.{◌≡◌, Some, None, Err, rules, sym, ap, ◌∙◌}
use Rattle.std.specs.FinMap as map
use Rattle.std.specs.Option.{option_copied_mut}
use Rattle.mqtt_sessions.specs.declared.fault.SessionFault.{SessionFault}
use Rattle.session_table.specs.Calls.{event_of, on_of}
use Rattle.session_table.specs.Listing.{seats_in, table}
use Rattle.session_table.specs.declared.seated.Seated.{Seated}
use Rattle.law_maps.proofs.Texts.{get_table, insert_table}
use Rattle.session_table.proofs.RowLaws.{called-leads, still}
use Rattle.session_table.proofs.Calling.{told_here, called_none, called_ok, goes_here, called_err, moments_here, kept_ok, broken, listed_here, may_here}
use Rattle.session_table.proofs.table.call_in.Goals as goal

pub returns-in_default-clause-called : goal.returns-in_default-clause-called
returns-in_default-clause-called c =
    let none : map.get (table c.args.seats.now.entries) c.args.client.now ≡ None = get_table c.args.seats.now.entries c.args.client.now ∙ sym c.get_mut.ensures.value ∙ ap option_copied_mut c.in_default.is in
    called_none (event_of c.args.call) (on_of c.args.on) c.args.client.now (table c.args.seats.now.entries) _ none (ap (λ t. table t.entries) c.get_mut.follows.holds-at-none)

pub call_seated-requires-clause-listed : goal.call_seated-requires-clause-listed
call_seated-requires-clause-listed c =
    let is : map.get (table c.args.seats.now.entries) c.args.client.now ≡ Some c.in-Some.seated.now = get_table c.args.seats.now.entries c.args.client.now ∙ sym c.get_mut.ensures.value ∙ ap option_copied_mut c.in-Some.is in
    listed_here c.args.client.now (table c.args.seats.now.entries) c.args.listing.now c.in-Some.seated.now c.requires.kept.listed c.requires.kept.keyed is

pub call_seated-requires-clause-may : goal.call_seated-requires-clause-may
call_seated-requires-clause-may c =
    let is : map.get (table c.args.seats.now.entries) c.args.client.now ≡ Some c.in-Some.seated.now = get_table c.args.seats.now.entries c.args.client.now ∙ sym c.get_mut.ensures.value ∙ ap option_copied_mut c.in-Some.is in
    may_here (event_of c.args.call) c.args.client.now (table c.args.seats.now.entries) c.in-Some.seated.now is c.requires.may

pub returns-in-Ok-clause-called : goal.returns-in-Ok-clause-called
returns-in-Ok-clause-called c =
    let is : map.get (table c.args.seats.now.entries) c.args.client.now ≡ Some c.in-Some.seated.now = get_table c.args.seats.now.entries c.args.client.now ∙ sym c.get_mut.ensures.value ∙ ap option_copied_mut c.in-Some.is in
    let y = c.call_seated.new.seated in
    let written = insert_table c.args.seats.now.entries (c.get_mut.follows.lender y).entries c.args.client.now y ((c.get_mut.follows.holds y).3 (search rules)).0 in
    called_ok (event_of c.args.call) (on_of c.args.on) c.args.client.now (table c.args.seats.now.entries) (table (c.get_mut.follows.lender y).entries) c.in-Some.seated.now y
    (c.requires.kept.run c.args.client.now c.in-Some.seated.now is) is written c.in-Ok.reaction c.in-Ok.ensures.turned

pub returns-in-Ok-clause-goes : goal.returns-in-Ok-clause-goes
returns-in-Ok-clause-goes c =
    let y = c.call_seated.new.seated in
    let written = insert_table c.args.seats.now.entries (c.get_mut.follows.lender y).entries c.args.client.now y ((c.get_mut.follows.holds y).3 (search rules)).0 in
    goes_here c.args.client.now (table c.args.seats.now.entries) (table (c.get_mut.follows.lender y).entries) y c.deref.result.now.connection written (ap (λ (x : Seated). x.connection) c.deref.ensures)

pub returns-in-Ok-clause-ok : goal.returns-in-Ok-clause-ok
returns-in-Ok-clause-ok c =
    let is : map.get (table c.args.seats.now.entries) c.args.client.now ≡ Some c.in-Some.seated.now = get_table c.args.seats.now.entries c.args.client.now ∙ sym c.get_mut.ensures.value ∙ ap option_copied_mut c.in-Some.is in
    let y = c.call_seated.new.seated in
    let written = insert_table c.args.seats.now.entries (c.get_mut.follows.lender y).entries c.args.client.now y ((c.get_mut.follows.holds y).3 (search rules)).0 in
    kept_ok (event_of c.args.call) (on_of c.args.on) c.args.client.now (table c.args.seats.now.entries) (table (c.get_mut.follows.lender y).entries) c.in-Some.seated.now y
    (c.requires.kept.run c.args.client.now c.in-Some.seated.now is) is written c.in-Ok.reaction c.args.listing.now c.call_seated.new.listing c.in-Ok.ensures.turned c.call_seated.ensures.key c.requires.kept c.call_seated.ensures.at c.call_seated.ensures.others c.in-Ok.ensures.tells.told

pub returns-in-Err-clause-called : goal.returns-in-Err-clause-called
returns-in-Err-clause-called c =
    let is : map.get (table c.args.seats.now.entries) c.args.client.now ≡ Some c.in-Some.seated.now = get_table c.args.seats.now.entries c.args.client.now ∙ sym c.get_mut.ensures.value ∙ ap option_copied_mut c.in-Some.is in
    let y = c.call_seated.new.seated in
    let written = insert_table c.args.seats.now.entries (c.get_mut.follows.lender y).entries c.args.client.now y ((c.get_mut.follows.holds y).3 (search rules)).0 in
    called_err (event_of c.args.call) (on_of c.args.on) c.args.client.now (table c.args.seats.now.entries) (table (c.get_mut.follows.lender y).entries) c.in-Some.seated.now y
    (c.requires.kept.run c.args.client.now c.in-Some.seated.now is) is written c.in-Err.fault c.in-Err.ensures.turned (λ refused. c.in-Err.ensures.wants (ap (λ (f : SessionFault). Err f) refused))

pub returns-in-Err-clause-err : goal.returns-in-Err-clause-err
returns-in-Err-clause-err c =
    let is : map.get (table c.args.seats.now.entries) c.args.client.now ≡ Some c.in-Some.seated.now = get_table c.args.seats.now.entries c.args.client.now ∙ sym c.get_mut.ensures.value ∙ ap option_copied_mut c.in-Some.is in
    let y = c.call_seated.new.seated in
    let written = insert_table c.args.seats.now.entries (c.get_mut.follows.lender y).entries c.args.client.now y ((c.get_mut.follows.holds y).3 (search rules)).0 in
    broken (event_of c.args.call) (on_of c.args.on) c.args.client.now (table c.args.seats.now.entries) (table (c.get_mut.follows.lender y).entries) c.in-Some.seated.now y
    (c.requires.kept.run c.args.client.now c.in-Some.seated.now is) is written c.args.listing.now c.call_seated.new.listing c.call_seated.ensures.key c.requires.kept c.call_seated.ensures.at c.call_seated.ensures.others

pub call_seated-requires-clause-told : goal.call_seated-requires-clause-told
call_seated-requires-clause-told c =
    let is : map.get (table c.args.seats.now.entries) c.args.client.now ≡ Some c.in-Some.seated.now = get_table c.args.seats.now.entries c.args.client.now ∙ sym c.get_mut.ensures.value ∙ ap option_copied_mut c.in-Some.is in
    told_here c.args.client.now (table c.args.seats.now.entries) c.args.listing.now c.in-Some.seated.now c.requires.kept is

pub call_seated-requires-clause-moments : goal.call_seated-requires-clause-moments
call_seated-requires-clause-moments c =
    let is : map.get (table c.args.seats.now.entries) c.args.client.now ≡ Some c.in-Some.seated.now = get_table c.args.seats.now.entries c.args.client.now ∙ sym c.get_mut.ensures.value ∙ ap option_copied_mut c.in-Some.is in
    moments_here c.in-Some.seated.now (c.requires.kept.run c.args.client.now c.in-Some.seated.now is)

pub returns-in_default-clause-leads : goal.returns-in_default-clause-leads
returns-in_default-clause-leads c = still (seats_in (table c.args.seats.now.entries)) (seats_in (table _)) c.args.changes.now.items (ap (λ t. seats_in (table t.entries)) c.get_mut.follows.holds-at-none)

pub returns-in-Ok-clause-leads : goal.returns-in-Ok-clause-leads
returns-in-Ok-clause-leads c =
    let is : map.get (table c.args.seats.now.entries) c.args.client.now ≡ Some c.in-Some.seated.now = get_table c.args.seats.now.entries c.args.client.now ∙ sym c.get_mut.ensures.value ∙ ap option_copied_mut c.in-Some.is in
    let y = c.call_seated.new.seated in
    let written = insert_table c.args.seats.now.entries (c.get_mut.follows.lender y).entries c.args.client.now y ((c.get_mut.follows.holds y).3 (search rules)).0 in
    called-leads c.args.client.now (table c.args.seats.now.entries) (table (c.get_mut.follows.lender y).entries) c.in-Some.seated.now y c.args.changes.now.items c.call_seated.new.changes.items is written
    (c.requires.kept.keyed c.args.client.now c.in-Some.seated.now is) c.requires.kept.told c.in-Ok.ensures.tells
