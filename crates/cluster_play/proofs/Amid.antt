-- Amid a step.
use Rattle.std.proofs.Common.{◌≡◌, ℕ, ◌<◌, length, true, ◌||◌, ◌&&◌, List, ◌∷◌, ◌++◌, refl, sym, ap, ◌∙◌, subst, eq-eqb}
use Rattle.std.specs.FinSet as set
use Rattle.causal_context.specs.Dots.{Dot}
use Rattle.replica_store.specs.StateOf.{IsStateOf}
use Rattle.node_work.specs.Acts.{Act, Runs, gather, op_in}
use Rattle.node_work.specs.View.{Place, HeldView, fresh}
use Rattle.law_nodes.specs.Moves.{Moves, did}
use Rattle.law_nodes.proofs.MoveLaws.{moves_join, acts_are_moves}
use Rattle.cluster_play.specs.Worlds.{World}
use Rattle.cluster_play.specs.Runs.{Played}
use Rattle.cluster_play.specs.Histories.{Reached, site, acts_of, made, gained, gains, taken, taken_amid, operations_amid, moves_at, moves_amid, moment_amid}
pub use Rattle.cluster_play.proofs.Splits.{runs_split}
use Rattle.cluster_play.proofs.Bools.{or_left, or_assoc}
use Rattle.cluster_play.proofs.Bridging.{IsKept}
use Rattle.cluster_play.proofs.Sites.{get_within}
use Rattle.cluster_play.proofs.Sound.{Grown, state_by}
use Rattle.cluster_play.proofs.Brought.{site_amid}
use Rattle.cluster_play.proofs.Explaining.{past}
use Rattle.cluster_play.proofs.Kept.{explained}
use Rattle.cluster_play.proofs.Moments.{moves_moment}
use Rattle.cluster_play.proofs.Parts.{AreParts}
use Rattle.cluster_play.proofs.Paths.{midway, commits_acts, known_event, run_sites, taken_both}
use Rattle.cluster_play.proofs.Plain.{AllPlain}
use Rattle.cluster_play.proofs.Rows.{committed}

-- what node i holds after some acts of a step that comes after a run
pub record Amid (run : List Played) (w : World) (i : ℕ) (before rest : List Act) : Type 0 where
  pub within : i < length w.sites
  pub held : HeldView
  pub last : HeldView
  pub grown : Grown i (made run ++ gather op_in before) held.store
  pub deltas : AreParts (made run ++ gather op_in before) held.store held.bridge.deltas
  pub plain : AllPlain (length w.sites) (made run ++ gather op_in before)
  pub kept : IsKept (length w.sites) (λ j d. taken j run d) held.bridge
  pub listed : (d : Dot) → set.contains held.store.taken d ≡ taken_amid i run before d
  pub place : Place
  pub id : place.id ≡ i
  pub runs : Runs place held rest last
  pub moment : held.at ≡ moment_amid i run before

pub amid_acts : (run later : List Played) (m : Played) (w : World) → Reached (run ++ m ∷ later) w → (before rest : List Act) (a : Act) → acts_of m.fate ≡ before ++ a ∷ rest → Amid run w (site m.fate) before (a ∷ rest)
amid_acts run later m w r before rest a is =
    let i = site m.fate in
    let half = midway run (m ∷ later) w r in
    let e = commits_acts m.fate before rest a is in
    let c = committed half.mid m.step m.fate half.path.0 e.0 half.path.1 e.1 in
    let known = known_event half.mid m.step m.fate half.path.0 e.0 half.honest.0 half.path.1 e.1 in
    let x = explained run half.mid half.reached in
    let here = x.sites i c.was c.at in
    let place = c.was.node.place in
    let same : here.held ≡ c.before = sym (here.up c.before c.up) in
    let parts = runs_split place before (a ∷ rest) c.before c.after (subst (λ acts. Runs place c.before acts c.after) is c.steps.runs) in
    let g = site_amid (past half.reached.start run) half.mid x i e.0 (acts_of m.fate) half.path.0 c known before (a ∷ rest) parts.0 is parts.1 in
    let first = fresh here.first in
    let moves : Moves place first (moves_at i run) c.before = subst (Moves place first (moves_at i run)) same here.moves in
    let many : length half.mid.sites ≡ length w.sites = sym (run_sites (m ∷ later) half.mid w half.path) in
    record {
      within = subst (λ n. i < n) many (get_within half.mid.sites i c.was c.at);
      held = parts.0;
      last = c.after;
      grown = g.grows.holding.grown;
      deltas = g.grows.holding.deltas;
      plain = subst (λ n. AllPlain n (made run ++ gather op_in before)) many g.plain;
      kept = subst (λ n. IsKept n (λ j d. taken j run d) parts.0.bridge) many g.kept;
      listed = λ d. g.grows.takes d ∙ ap (λ (v : HeldView). set.contains v.store.taken d || gained before d) (sym same) ∙ ap (λ b. b || gained before d) (here.listed d);
      place = place;
      id = here.id;
      runs = parts.2;
      moment = moves_moment place (moves_amid i run before) first parts.0 (moves_join place (moves_at i run) (did before) first c.before parts.0 moves (acts_are_moves place c.before parts.0 before parts.1));
    }

-- what it holds there is the state of what it had taken there
pub amid_state : (run : List Played) (w : World) (i : ℕ) (before rest : List Act) (a : Amid run w i before rest) → IsStateOf (operations_amid i run before) a.held.store
amid_state run w i before rest a = state_by (made run ++ gather op_in before) a.held.store (taken_amid i run before) a.grown.sound a.listed

-- what an act of the step takes is taken from then on
pub taken_step : (run later : List Played) (m : Played) (d : Dot) → taken_amid (site m.fate) run (acts_of m.fate) d ≡ true → taken (site m.fate) (run ++ m ∷ later) d ≡ true
taken_step run later m d h =
    let i = site m.fate in
    let gain : gains i m.fate d ≡ gained (acts_of m.fate) d = ap (λ b. b && gained (acts_of m.fate) d) (eq-eqb i i refl) in
    taken_both i run (m ∷ later) d ∙ sym (or_assoc (taken i run d) (gains i m.fate d) (taken i later d)) ∙ ap (λ b. (taken i run d || b) || taken i later d) gain ∙ or_left _ (taken i later d) h
