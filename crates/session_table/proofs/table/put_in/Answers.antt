use Rattle.std.proofs.Common.{◌≡◌, None, Option, IfSome, sym, ap, subst, ◌∙◌}
use Rattle.std.specs.FinMap as map
use Rattle.mqtt_sessions.specs.Saved.{Saved, state_of}
use Rattle.mqtt_sessions.specs.State.{State}
use Rattle.session_table.specs.Rows.{IsAllTold}
use Rattle.session_table.specs.Listing.{Table, IsKept, seats_in, table}
use Rattle.session_table.specs.declared.seated.Seated.{Seated}
use Rattle.session_table.proofs.Calling.{absent_here, put_kept, put_seats, put_taken_back}
use Rattle.session_table.proofs.table.put_in.Goals as goal

pub relist-requires : goal.relist-requires
relist-requires c =
    absent_here c.args.client (table c.args.seats.now.entries) c.args.listing.now c.seat-seated.result.key.1 c.seat-seated.result.listed c.requires.kept.listed c.requires.absent
    (c.seat-seated.ensures.key ∙ c.in_ok-name.ensures) c.seat-seated.ensures.listed

pub returns-in-Err-clause-kept : goal.returns-in-Err-clause-kept
returns-in-Err-clause-kept c =
    put_taken_back c.args.client (table c.args.seats.now.entries) c.args.listing.now c.relist.new.listing c.unlist_seated.new.listing c.seat-seated.result.key.1 c.relist.new.key.1 c.requires.kept c.requires.absent
    (c.seat-seated.ensures.key ∙ c.in_ok-name.ensures) c.relist.ensures.others c.relist.ensures.key c.unlist_seated.ensures.at c.unlist_seated.ensures.others

pub returns-in-Ok-clause-kept : goal.returns-in-Ok-clause-kept
returns-in-Ok-clause-kept c =
    let y : Seated = record { session = c.seat-seated.result.session; connection = c.seat-seated.result.connection; listed = c.relist.new.listed; key = c.relist.new.key } in
    put_kept c.args.client (table c.args.seats.now.entries) (table c.insert_boxed.new.seats.entries) c.args.listing.now c.relist.new.listing c.seat-seated.result.key.1 y c.moments_of-moments.result c.requires.kept
    c.in-Ok.ensures.ok (c.seat-seated.ensures.key ∙ c.in_ok-name.ensures) c.relist.ensures.key c.relist.ensures.at
    c.relist.ensures.others c.in_default.ensures.ok (subst (λ (o : Option Saved). IsAllTold c.args.client o) (sym c.seat-seated.ensures.session) c.requires.told) c.seat-seated.ensures.connection c.moments_of-moments.ensures

pub returns-in-Ok-clause-ok : goal.returns-in-Ok-clause-ok
returns-in-Ok-clause-ok c =
    let y : Seated = record { session = c.seat-seated.result.session; connection = c.seat-seated.result.connection; listed = c.relist.new.listed; key = c.relist.new.key } in
    let P : Option Saved → Type 0 = λ o. IfSome (state_of o) (λ (s : State). seats_in (table c.insert_boxed.new.seats.entries) ≡ map.insert (seats_in (table c.args.seats.now.entries)) c.args.client (record { session = s; connection = None })) in
    subst P c.seat-seated.ensures.session
    (put_seats c.args.client (table c.args.seats.now.entries) (table c.insert_boxed.new.seats.entries) y c.in-Ok.ensures.ok c.seat-seated.ensures.connection)

pub returns-in-Err-insert_boxed-clause-kept : goal.returns-in-Err-insert_boxed-clause-kept
returns-in-Err-insert_boxed-clause-kept c =
    let P : Table → Type 0 = λ t. IsKept t c.unlist_seated-in-Err-insert_boxed.new.listing in
    subst P (sym c.in-Err-insert_boxed.ensures.err)
    (put_taken_back c.args.client (table c.args.seats.now.entries) c.args.listing.now c.relist.new.listing c.unlist_seated-in-Err-insert_boxed.new.listing c.seat-seated.result.key.1 c.in-Err-insert_boxed.back.key.1
    c.requires.kept c.requires.absent (c.seat-seated.ensures.key ∙ c.in_ok-name.ensures) c.relist.ensures.others (ap (λ (x : Seated). x.key.1) c.in-Err-insert_boxed.ensures.back ∙ c.relist.ensures.key)
    c.unlist_seated-in-Err-insert_boxed.ensures.at c.unlist_seated-in-Err-insert_boxed.ensures.others)
