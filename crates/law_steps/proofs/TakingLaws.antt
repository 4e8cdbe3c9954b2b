-- A Forward frame: its message is taken where it is the next, and Got goes out.
use Rattle.std.proofs.Common.{◌≡◌, inl, inr, ℕ, Bool, true, false, cond, List, [], ◌∷◌, ◌++◌, Some, sym, ap, ◌∙◌, subst}
use Rattle.bridge_frames.specs.declared.body.FrameBody.TheVariants.{Got}
use Rattle.bridge_frames.specs.declared.forward.Forward.{Forward}
use Rattle.bridge_routes.specs.declared.plain.PlainCopy.{PlainCopy as Copy}
use Rattle.node_bridge.specs.View.{BridgeView, lane_to, is_next}
use Rattle.node_work.specs.Acts.{Act, Bridge, Runs}
use Rattle.node_work.specs.Calling.{Queues}
use Rattle.node_work.specs.Held.Bridge.{Took}
use Rattle.node_work.specs.View.{Place, HeldView}
use Rattle.node_work.specs.Working.{Returns, Acting, If, Then}
use Rattle.node_clients.specs.Passing as passing
use Rattle.node_clients.proofs.Determined.{runs_determined}
use Rattle.broker_node.specs.Bridge as bridge
use Rattle.law_runs.proofs.Keeping.{none_some}
use Rattle.law_runs.proofs.Splits.{runs_split}
use Rattle.law_steps.specs.Frames.{frames_given, frame_to}
use Rattle.law_steps.proofs.Giving.{GivesOne, gives_one}
use Rattle.law_steps.proofs.Silent.{AllSilent, queues_silent, none_given}

-- acts that take the message first, and then only call sessions
pub record TakesFirst (from number : ℕ) (m : Forward) (acts : List Act) : Type 0 where
  pub copies : List Copy
  pub lost : ℕ
  pub calls : List Act
  pub is : acts ≡ Bridge (Took from number m copies lost) ∷ calls
  pub silent : AllSilent calls

-- where it is the next; else none
abbrev pub Takes_if : Bool → ℕ → ℕ → Forward → List Act → Type 0
Takes_if next from number m acts = cond next (TakesFirst from number m acts) (acts ≡ [])

-- and then Got
pub record TakesNext (from number : ℕ) (m : Forward) (p : Place) (h last : HeldView) (acts : List Act) : Type 0 where
  pub taken : List Act
  pub rest : List Act
  pub mid : HeldView
  pub is : acts ≡ taken ++ rest
  pub runs : Runs p h taken mid
  pub takes : Takes_if (is_next from number h.bridge) from number m taken
  pub got : GivesOne p mid last (frame_to p from (Got (lane_to mid.bridge from).took)) rest
  pub took : (lane_to last.bridge from).took ≡ (lane_to mid.bridge from).took

copies_then : (from number : ℕ) (m : Forward) (copies : List Copy) (lost : ℕ) (x : Unit {0}) (p : Place) (h : HeldView) (acts : List Act)
    → Then (Acting (λ p h. Bridge (Took from number m copies lost))) (λ _. Queues copies) (Some x) p h acts → TakesFirst from number m acts
copies_then from number m copies lost x p h acts (inl d) = none_some (sym d.0)
copies_then from number m copies lost x p h acts (inr (y, own, mid, rest, one, runs, more, is)) = record {
  copies = copies;
  lost = lost;
  calls = rest;
  is = is ∙ ap (λ xs. xs ++ rest) one.1;
  silent = (queues_silent copies).of x p mid rest more;
}

next_by : (next : Bool) (from number : ℕ) (m : Forward) (x : Unit {0}) (p : Place) (h : HeldView) (acts : List Act) → If next (passing.TakesForward from number m) (Returns tt) (Some x) p h acts → Takes_if next from number m acts
next_by true from number m x p h acts d = copies_then from number m d.0.0 d.0.1 x p h acts d.2
next_by false from number m x p h acts d = d.1

pub takes_next : (from number : ℕ) (m : Forward) (x : Unit {0}) (p : Place) (h last : HeldView) (acts : List Act) → bridge.TakesMessage from number m (Some x) p h acts → Runs p h acts last → TakesNext from number m p h last acts
takes_next from number m x p h last acts (inl d) runs = none_some (sym d.0)
takes_next from number m x p h last acts (inr (y, own, mid, rest, one, ran, more, is)) runs =
    let both = runs_split p own rest h last (subst (λ xs. Runs p h xs last) is runs) in
    let same : both.0 ≡ mid = runs_determined p own h both.0 mid both.1 ran in
    let g = gives_one (frame_to p from (Got (lane_to mid.bridge from).took)) x p mid last rest more (subst (λ v. Runs p v rest last) same both.2) in
    record {
      taken = own;
      rest = rest;
      mid = mid;
      is = is;
      runs = ran;
      takes = next_by (is_next from number h.bridge) from number m y p h own one;
      got = g;
      took = ap (λ (b : BridgeView). (lane_to b from).took) g.bridge;
    }

-- no frame goes out before Got
taken_gives : (b : Bool) (from number : ℕ) (m : Forward) (acts : List Act) → Takes_if b from number m acts → frames_given acts ≡ []
taken_gives true from number m acts t = ap frames_given t.is ∙ none_given t.calls t.silent
taken_gives false from number m acts t = ap frames_given t

pub gives_none : (from number : ℕ) (m : Forward) (p : Place) (h last : HeldView) (acts : List Act) (t : TakesNext from number m p h last acts) → frames_given t.taken ≡ []
gives_none from number m p h last acts t = taken_gives (is_next from number h.bridge) from number m t.taken t.takes
