-- Moves, one after the other.
use Rattle.std.proofs.Common.{◌≡◌, List, [], ◌∷◌, ◌++◌, sym, ap, subst, ◌∙◌}
use Rattle.std.specs.FinMap as map
use Rattle.std.specs.Cmp.Lexicographic.{nat_list_cmp_total}
use Rattle.home_table.specs.Table.{Table}
use Rattle.session_table.specs.Seats.{Seats}
use Rattle.law_maps.proofs.Texts.{alike}
use Rattle.node_rows.specs.Rows.{Lasting}
use Rattle.node_work.specs.Acts.{Act, Runs}
use Rattle.node_work.specs.Lasting.{IsWoken, lasting}
use Rattle.node_work.specs.View.{Place, HeldView, woken}
use Rattle.law_nodes.specs.Moves.{Move, Acted, Reopened, Moves, did, ActsAreMoves, MovesLeadToOne}

pub moves_join : (p : Place) (xs ys : List Move) (a m b : HeldView) → Moves p a xs m → Moves p m ys b → Moves p a (xs ++ ys) b
moves_join p [] ys a m b r q = subst (λ v. Moves p v ys b) r q
moves_join p (x ∷ xs) ys a m b r q = (r.0, r.1, moves_join p xs ys r.0 m b r.2 q)

pub acts_are_moves : ActsAreMoves
acts_are_moves = λ p h h' acts runs. go p acts h h' runs
  where
    go : (p : Place) (acts : List Act) (h h' : HeldView) → Runs p h acts h' → Moves p h (did acts) h'
    go p [] h h' runs = runs
    go p (a ∷ acts) h h' runs = (runs.0, runs.1, go p acts runs.0 h' runs.2)

woken_one : (homes : Table) (x : Lasting) (a b : HeldView) → IsWoken homes x a → IsWoken homes x b → a ≡ b
woken_one homes x a b r q =
    let seats : r.0 ≡ q.0 = map.same_map nat_list_cmp_total alike _ _ (λ client. r.1 client ∙ sym (q.1 client)) in
    r.2 ∙ ap (λ (s : Seats). woken homes x.named s x.store x.lanes) seats ∙ sym q.2

pub moves_lead_to_one : MovesLeadToOne
moves_lead_to_one = λ p h a b moves r q. go p moves h a b r q
  where
    go : (p : Place) (moves : List Move) (h a b : HeldView) → Moves p h moves a → Moves p h moves b → a ≡ b
    go p [] h a b r q = r ∙ sym q
    go p (Acted x ∷ moves) h a b r q = go p moves q.0 a b (subst (λ v. Moves p v moves a) (r.1.1 ∙ sym q.1.1) r.2) q.2
    go p (Reopened homes ∷ moves) h a b r q = go p moves q.0 a b (subst (λ v. Moves p v moves a) (woken_one homes (lasting h) r.0 q.0 r.1 q.1) r.2) q.2
