-- A Forward frame is taken where it is the next, and answered by Got.
use Rattle.std.proofs.Common.{◌≡◌, ℕ, Bool, true, false, cond, List, [], ◌∷◌, ◌++◌, Option, Some, refl, sym, ap, ◌∙◌, subst, eq-eqb}
use Rattle.std.proofs.lemmas.List.{append-nil}
use Rattle.bridge_frames.specs.declared.body.FrameBody.TheVariants.{Forward as Carried, Got}
use Rattle.bridge_frames.specs.declared.forward.Forward.{Forward}
use Rattle.bridge_frames.specs.declared.frame.BridgeFrame.{BridgeFrame}
use Rattle.bridge_lanes.specs.Lanes.{lane_of, with_took}
use Rattle.bridge_lanes.proofs.Tables.{lane_here}
use Rattle.node_bridge.specs.View.{is_next, lane_to}
use Rattle.node_work.specs.declared.counts.Missed.TheVariants.{BadFrame}
use Rattle.node_work.specs.Acts.{Act, Runs, gather, heard_in}
use Rattle.node_work.specs.Doings.{Misses}
use Rattle.node_work.specs.Frames.{is_for_node}
use Rattle.node_work.specs.View.{Place, HeldView}
use Rattle.node_work.specs.Working.{If}
use Rattle.node_work.proofs.Working.{gather-append}
use Rattle.node_clients.proofs.Determined.{runs_determined}
use Rattle.broker_node.specs.declared.event.Event.{Event}
use Rattle.broker_node.specs.declared.event.EventKind.TheVariants as kinds
use Rattle.broker_node.specs.Bridge as bridge
use Rattle.broker_node.specs.Turns.{AnswersEvent, Decides}
use Rattle.law_runs.proofs.Splits.{runs_split}
use Rattle.law_runs.specs.LaneHistories.{by_bridge, took_by}
use Rattle.law_steps.specs.Frames.{given_in, frames_given, frame_to}
use Rattle.law_steps.specs.Forwards.{BringsForward, TakesIt, IsForwarded, ForwardsAreAnswered}
use Rattle.law_steps.proofs.Giving.{got_small}
use Rattle.law_steps.proofs.Silent.{AllSilent, TookAlike, answering_of, none_given, none_heard, none_taken, took_alike, next_of, next_within}
use Rattle.law_steps.proofs.TakingLaws.{TakesFirst, Takes_if, TakesNext, takes_next, gives_none}

-- the frame is for this node, and so its message is looked at
heard_by : (here : Bool) (from number : ℕ) (m : Forward) (p : Place) (h last : HeldView) (acts : List Act) → here ≡ true
    → If here (bridge.TakesBody from (Carried number m)) (Misses BadFrame) (Some tt) p h acts → Runs p h acts last → TakesNext from number m p h last acts
heard_by true from number m p h last acts is d runs = takes_next from number m tt p h last acts d runs
heard_by false from number m p h last acts is d runs = absurd (let z : false ≡ true = is in cc)

-- what a step comes to in which a Forward frame comes
pub record Forwarding (p : Place) (h last : HeldView) (acts : List Act) (from number : ℕ) (m : Forward) : Type 0 where
  pub first : List Act
  pub rest : List Act
  pub mid : HeldView
  pub is : acts ≡ first ++ rest
  pub runs : Runs p h first mid
  pub silent : AllSilent first
  pub alike : TookAlike h mid
  pub takes : TakesNext from number m p mid last rest

pub forwarding : (e : Event) (p : Place) (h last : HeldView) (acts : List Act) → Decides e (Some tt) p h acts → Runs p h acts last → (from number : ℕ) (m : Forward) → BringsForward p h e from number m → Forwarding p h last acts from number m
forwarding e p h last acts d runs from number m b =
    let a = answering_of e p h acts b.started d in
    let both = runs_split p a.first a.rest h last (subst (λ xs. Runs p h xs last) a.is runs) in
    let same : both.0 ≡ a.mid = runs_determined p a.first h both.0 a.mid both.1 a.runs in
    let f : BridgeFrame = record { from = from; to = b.to; body = Carried number m } in
    let does : AnswersEvent (kinds.Frame b.bytes) (Some tt) p a.mid a.rest = subst (λ k. AnswersEvent k (Some tt) p a.mid a.rest) b.event a.does in
    let hears : bridge.HearsFrame (Some f) (Some tt) p a.mid a.rest = subst (λ (x : Option BridgeFrame). bridge.HearsFrame x (Some tt) p a.mid a.rest) b.read does in
    record {
      first = a.first;
      rest = a.rest;
      mid = a.mid;
      is = a.is;
      runs = a.runs;
      silent = a.silent;
      alike = took_alike p a.first h a.mid a.silent a.runs;
      takes = heard_by (is_for_node p f) from number m p a.mid last a.rest b.here hears (subst (λ v. Runs p v a.rest last) same both.2);
    }

-- ---- what the acts take
one_taken : (from number : ℕ) (m : Forward) (acts first taken rest : List Act) → acts ≡ first ++ (taken ++ rest) → TakesFirst from number m taken → TakesIt acts from number m
one_taken from number m acts first taken rest is t = record {
  copies = t.copies;
  lost = t.lost;
  before = first;
  after = t.calls ++ rest;
  is = is ∙ ap (λ xs. first ++ (xs ++ rest)) t.is;
}

taken_by : (b next : Bool) (from number : ℕ) (m : Forward) (acts first taken rest : List Act) → b ≡ next → acts ≡ first ++ (taken ++ rest) → Takes_if b from number m taken → next ≡ true → TakesIt acts from number m
taken_by true next from number m acts first taken rest same is t so = one_taken from number m acts first taken rest is t
taken_by false next from number m acts first taken rest same is t so = absurd (let z : false ≡ true = same ∙ so in cc)

none_by : (b next : Bool) (from number : ℕ) (m : Forward) (taken : List Act) → b ≡ next → Takes_if b from number m taken → next ≡ false → taken ≡ []
none_by true next from number m taken same t never = absurd (let z : true ≡ false = same ∙ never in cc)
none_by false next from number m taken same t never = t

module _ (p : Place) (h last : HeldView) (acts : List Act) (from number : ℕ) (m : Forward) (x : Forwarding p h last acts from number m) where
  abbrev t : TakesNext from number m p x.mid last x.rest
  t = x.takes

  pub whole : acts ≡ x.first ++ (t.taken ++ t.rest)
  whole = x.is ∙ ap (λ xs. x.first ++ xs) t.is

  pub next_is : is_next from number x.mid.bridge ≡ is_next from number h.bridge
  next_is = next_of h x.mid from number x.alike

  pub frames : frames_given acts ≡ frame_to p from (Got (lane_to last.bridge from).took) ∷ []
  frames =
      ap frames_given whole ∙ gather-append given_in x.first (t.taken ++ t.rest) ∙ ap (λ xs. frames_given x.first ++ xs) (gather-append given_in t.taken t.rest)
      ∙ (λ i. none_given x.first x.silent i ++ (gives_none from number m p x.mid last x.rest t i ++ t.got.frames i))
      ∙ (λ i. cond (got_small p.id from (lane_to t.mid.bridge from).took i) (frame_to p from (Got (sym t.took i)) ∷ []) [])

  is_forwarded : IsForwarded p h last acts from number m
  is_forwarded = record {
    next = taken_by (is_next from number x.mid.bridge) (is_next from number h.bridge) from number m acts x.first t.taken t.rest next_is whole t.takes;
    other = λ never. (let none = none_by (is_next from number x.mid.bridge) (is_next from number h.bridge) from number m t.taken next_is t.takes never in
        ap (gather heard_in) whole ∙ gather-append heard_in x.first (t.taken ++ t.rest) ∙ (λ i. none_heard x.first x.silent i ++ gather heard_in (none i ++ t.rest)) ∙ t.got.hears);
    answered = frames;
  }

pub forwards_are_answered : ForwardsAreAnswered
forwards_are_answered = λ e p h last acts d runs from number m b. is_forwarded p h last acts from number m (forwarding e p h last acts d runs from number m b)

-- ---- the messages that they take, and the number of the last one
pub record Tells (p : Place) (h last : HeldView) (acts : List Act) (from number : ℕ) (m : Forward) : Type 0 where
  pub next : is_next from number h.bridge ≡ true → (gather (by_bridge (took_by from)) acts ≡ m ∷ []) × ((lane_to last.bridge from).took ≡ number)
  pub other : is_next from number h.bridge ≡ false → (gather (by_bridge (took_by from)) acts ≡ []) × ((lane_to last.bridge from).took ≡ (lane_to h.bridge from).took)

module _ (from number : ℕ) (m : Forward) (p : Place) where
  abbrev taken_in : List Act → List Forward
  taken_in acts = gather (by_bridge (took_by from)) acts

  first_in : (taken : List Act) → TakesFirst from number m taken → taken_in taken ≡ m ∷ []
  first_in taken f = ap taken_in f.is ∙ (λ i. cond (eq-eqb from from refl i) (m ∷ []) [] ++ none_taken from f.calls f.silent i)

  first_took : (v mid : HeldView) (taken : List Act) → TakesFirst from number m taken → Runs p v taken mid → (lane_to mid.bridge from).took ≡ number
  first_took v mid taken f runs =
      let r = subst (λ xs. Runs p v xs mid) f.is runs in
      (took_alike p f.calls r.0 mid f.silent r.2).took from ∙ ap (λ (w : HeldView). (lane_to w.bridge from).took) r.1.1
      ∙ ap (λ l. l.took) (lane_here v.bridge.lanes from (with_took number (lane_of v.bridge.lanes from)) (next_within v from number r.1.0.0))

  tells_by : (b next : Bool) (v mid : HeldView) (taken : List Act) → b ≡ next → Takes_if b from number m taken → Runs p v taken mid
      → (next ≡ true → (taken_in taken ≡ m ∷ []) × ((lane_to mid.bridge from).took ≡ number)) × (next ≡ false → (taken_in taken ≡ []) × ((lane_to mid.bridge from).took ≡ (lane_to v.bridge from).took))
  tells_by true next v mid taken same f runs = (λ so. (first_in taken f, first_took v mid taken f runs), λ never. absurd (let z : true ≡ false = same ∙ never in cc))
  tells_by false next v mid taken same f runs = (λ so. absurd (let z : false ≡ true = same ∙ so in cc), λ never. (ap taken_in f, ap (λ (w : HeldView). (lane_to w.bridge from).took) (subst (λ xs. Runs p v xs mid) f runs)))

  pub forward_tells : (h last : HeldView) (acts : List Act) (x : Forwarding p h last acts from number m) → Tells p h last acts from number m
  forward_tells h last acts x =
      let t = x.takes in
      let both = tells_by (is_next from number x.mid.bridge) (is_next from number h.bridge) x.mid t.mid t.taken (next_is p h last acts from number m x) t.takes t.runs in
      let all : taken_in acts ≡ taken_in t.taken =
      ap taken_in (whole p h last acts from number m x) ∙ gather-append (by_bridge (took_by from)) x.first (t.taken ++ t.rest) ∙ ap (λ xs. taken_in x.first ++ xs) (gather-append (by_bridge (took_by from)) t.taken t.rest)
      ∙ (λ i. none_taken from x.first x.silent i ++ (taken_in t.taken ++ t.got.takes from i)) ∙ append-nil (taken_in t.taken) in
      record {
        next = λ so. (let b = both.0 so in (all ∙ b.0, t.took ∙ b.1));
        other = λ never. (let b = both.1 never in (all ∙ b.0, t.took ∙ b.1 ∙ x.alike.took from));
      }
