-- Two steps of one run, amid which their nodes have taken the same.
use Rattle.std.proofs.Common.{◌≡◌, List, ◌∷◌, ◌++◌, refl, sym, ap, ◌∙◌, inl, inr, subst}
use Rattle.std.specs.FinSet as set
use Rattle.causal_context.specs.Dots.{Dot}
use Rattle.replica_store.specs.declared.operation.Operation.{Operation}
use Rattle.replica_store.specs.Operations.{dot_of, Among, HaveOwnDots}
use Rattle.replica_store.specs.States.{State}
use Rattle.replica_store.specs.StateOf.{IsStateOf}
use Rattle.replica_store.proofs.Deltas.{one_state}
use Rattle.replica_store.proofs.Unions.{among_left, among_right, among_cases}
use Rattle.node_work.specs.Acts.{Act, gather, op_in}
use Rattle.cluster_play.specs.Worlds.{World}
use Rattle.cluster_play.specs.Runs.{Played}
use Rattle.cluster_play.specs.Histories.{Reached, site, acts_of, ops_of, made, taken_amid, operations_amid}
use Rattle.cluster_play.proofs.Operations.{among_some, own_part}
use Rattle.cluster_play.proofs.Agreeing.{own_dots}
use Rattle.cluster_play.proofs.Amid.{Amid, amid_state}
use Rattle.cluster_play.proofs.Paths.{made_both}
use Rattle.cluster_play.proofs.Splits.{gather_both}

-- states of some of the operations, each with its own dot, that list the same dots are one
same_from : (ms O P : List Operation) (s t : State) → HaveOwnDots ms → ((o : Operation) → Among o O → Among o ms) → ((o : Operation) → Among o P → Among o ms)
    → IsStateOf O s → IsStateOf P t → ((d : Dot) → set.contains s.taken d ≡ set.contains t.taken d) → s ≡ t
same_from ms O P s t own first second x y same =
    one_state O P (record {
      there = λ o a. (let p = (y.taken (dot_of o)).0 (sym (same (dot_of o)) ∙ (x.taken (dot_of o)).1 (o, a, refl)) in
          subst (λ q. Among q P) (own p.0 o (second p.0 p.1) (first o a) p.2) p.1);
      back = λ o a. (let p = (x.taken (dot_of o)).0 (same (dot_of o) ∙ (y.taken (dot_of o)).1 (o, a, refl)) in
          subst (λ q. Among q O) (own p.0 o (first p.0 p.1) (second o a) p.2) p.1);
    }) (own_part ms O own first) s t x y

-- what was made until amid a step was made in the run
made_amid : (run later : List Played) (m : Played) (before rest : List Act) → acts_of m.fate ≡ before ++ rest → (o : Operation) → Among o (made run ++ gather op_in before) → Among o (made (run ++ m ∷ later))
made_amid run later m before rest acts o a =
    let all = made_both run (m ∷ later) in
    subst (λ os. Among o os) (sym all) (elim (among_cases o (made run) (gather op_in before) a) [
      | inl x ↦ among_left o (made run) (made (m ∷ later)) x
      | inr y ↦ (let here : ops_of m.fate ≡ gather op_in before ++ gather op_in rest = ap (gather op_in) acts ∙ gather_both op_in before rest in
          among_right o (made run) (made (m ∷ later)) (among_left o (ops_of m.fate) (made later) (subst (λ os. Among o os) (sym here) (among_left o (gather op_in before) (gather op_in rest) y))))
    ])

-- two nodes that have taken the same amid their steps hold the same there
pub states_agree_amid : (whole run later run' later' : List Played) (m m' : Played) (w : World) → Reached whole w → whole ≡ run ++ m ∷ later → whole ≡ run' ++ m' ∷ later'
    → (before rest before' rest' : List Act) → acts_of m.fate ≡ before ++ rest → acts_of m'.fate ≡ before' ++ rest'
    → (a : Amid run w (site m.fate) before rest) (b : Amid run' w (site m'.fate) before' rest')
    → ((d : Dot) → taken_amid (site m.fate) run before d ≡ taken_amid (site m'.fate) run' before' d) → a.held.store ≡ b.held.store
states_agree_amid whole run later run' later' m m' w r is is' before rest before' rest' acts acts' a b same =
    let i = site m.fate in
    let j = site m'.fate in
    same_from (made whole) (operations_amid i run before) (operations_amid j run' before') a.held.store b.held.store (own_dots whole w r)
    (λ o x. subst (λ ms. Among o (made ms)) (sym is) (made_amid run later m before rest acts o (among_some (λ p. taken_amid i run before (dot_of p)) o _ x).0))
    (λ o x. subst (λ ms. Among o (made ms)) (sym is') (made_amid run' later' m' before' rest' acts' o (among_some (λ p. taken_amid j run' before' (dot_of p)) o _ x).0))
    (amid_state run w i before rest a) (amid_state run' w j before' rest' b)
    (λ d. a.listed d ∙ same d ∙ sym (b.listed d))
