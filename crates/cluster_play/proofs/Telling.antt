-- What the frames that nodes give out tell is so.
use Rattle.std.proofs.Common.{◌≡◌, ℕ, ◌<◌, Bool, true, false, List, Some, sym, ap, ◌∙◌, subst}
use Rattle.std.specs.FinSet as set
use Rattle.bridge_frames.specs.declared.body.FrameBody.{FrameBody}
use Rattle.bridge_frames.specs.declared.body.FrameBody.TheVariants.{Hello, Delta, Know, Forward, Got}
use Rattle.bridge_frames.specs.declared.frame.BridgeFrame.{BridgeFrame}
use Rattle.bridge_frames.specs.declared.greeting.Greeting.{Greeting}
use Rattle.bridge_frames.specs.Frames.{HasSpelling, IsPlain as CanGo, frame_in}
use Rattle.bridge_frames.proofs.FrameLaws.{read_again}
use Rattle.causal_context.specs.Dots.{Dot, Dots, dot_cmp}
use Rattle.replica_store.specs.declared.operation.Operation.{Operation}
use Rattle.replica_store.specs.States.{State}
use Rattle.node_work.specs.declared.frame.Frame.{Frame}
use Rattle.node_work.specs.Held.Bridge.{Carries, IsGiven, written_frame}
use Rattle.node_work.specs.View.{Place, HeldView}
use Rattle.cluster_play.proofs.Bridging.{IsKept, waits_numbered}
use Rattle.cluster_play.proofs.Growing.{Holding}
use Rattle.cluster_play.proofs.Parts.{IsPart, shipped_part}
use Rattle.cluster_play.proofs.Sound.{Sound, lists}

-- the dots that a frame lists as taken
abbrev pub dots_in : FrameBody → Dots
dots_in (Hello g) = g.dots
dots_in (Delta s) = s.taken
dots_in (Know dots) = dots
dots_in (Forward number m) = set.empty
dots_in (Got number) = set.empty

-- a frame of a node has a spelling; its state is that of the operations that it lists, and what it lists the node has taken
pub record IsTold (count : ℕ) (ms : List Operation) (took : ℕ → Dot → Bool) (f : BridgeFrame) : Type 0 where
  pub spelled : HasSpelling f
  pub from : f.from < count
  pub sound : (s : State) → f.body ≡ Delta s → Sound ms s
  pub lists : (d : Dot) → set.contains (dots_in f.body) d ≡ true → took f.from d ≡ true

-- a frame that goes out is the spelling of such a one
pub record WasGiven (count : ℕ) (ms : List Operation) (took : ℕ → Dot → Bool) (sent : Frame) : Type 0 where
  pub frame : BridgeFrame
  pub is : sent ≡ written_frame frame
  pub told : IsTold count ms took frame

pub given_more : (count : ℕ) (ms ns : List Operation) (took more : ℕ → Dot → Bool) (sent : Frame) → ((s : State) → Sound ms s → Sound ns s) → ((i : ℕ) (d : Dot) → took i d ≡ true → more i d ≡ true) → WasGiven count ms took sent → WasGiven count ns more sent
given_more count ms ns took more sent sound taken g = record {
  frame = g.frame;
  is = g.is;
  told = record { spelled = g.told.spelled; from = g.told.from; sound = λ s e. sound s (g.told.sound s e); lists = λ d h. taken g.frame.from d (g.told.lists d h) };
}

-- and its bytes are read as that one
pub given_read : (count : ℕ) (ms : List Operation) (took : ℕ → Dot → Bool) (sent : Frame) (g : WasGiven count ms took sent) → frame_in sent.bytes ≡ Some g.frame
given_read count ms took sent g = ap (λ (f : Frame). frame_in f.bytes) g.is ∙ read_again g.frame g.told.spelled

-- ---- what a node gives out
module _ (count i : ℕ) (ms : List Operation) (took : ℕ → Dot → Bool) (h : HeldView) (g : Holding i ms h) (k : IsKept count took h.bridge) where
  part_shipped : (to : ℕ) (s : State) → Carries h to (Delta s) → IsPart ms h.store s
  part_shipped to s c = shipped_part ms h.store g.grown.own_dots _ h.bridge.deltas s g.grown.sound g.deltas c.2

  can_go : (to : ℕ) (b : FrameBody) → Carries h to b → CanGo b
  can_go to (Hello g) c = tt
  can_go to (Delta s) c = tt
  can_go to (Know dots) c = tt
  can_go to (Forward number m) c = waits_numbered count took h.bridge to number m k c
  can_go to (Got number) c = tt

  pub sound_in : (to : ℕ) (b : FrameBody) → Carries h to b → (s : State) → b ≡ Delta s → Sound ms s
  sound_in to b c s e = (part_shipped to s (subst (Carries h to) e c)).sound

  none_in : (d : Dot) → set.contains {R = dot_cmp} set.empty d ≡ true → set.contains h.store.taken d ≡ true
  none_in d e = absurd (let no : false ≡ true = sym (set.contains-empty dot_cmp d) ∙ e in cc)

  listed_in : (to : ℕ) (b : FrameBody) → Carries h to b → (d : Dot) → set.contains (dots_in b) d ≡ true → set.contains h.store.taken d ≡ true
  listed_in to (Hello g) c d e = sym (ap (λ (x : Greeting). set.contains x.dots d) c) ∙ e
  listed_in to (Delta s) c d e = (part_shipped to s c).within d e
  listed_in to (Know dots) c d e = sym (ap (λ (t : Dots). set.contains t d) c) ∙ e
  listed_in to (Forward number m) c d e = none_in d e
  listed_in to (Got number) c d e = none_in d e

  pub given_spelled : (p : Place) (f : BridgeFrame) → IsGiven p h f → HasSpelling f
  given_spelled p f x = x.spelled (can_go f.to f.body x.carries)

  -- by what was made and taken until some time after it
  pub told : (ns : List Operation) (more : ℕ → Dot → Bool) (p : Place) (f : BridgeFrame) → p.id ≡ i → i < count → ((s : State) → Sound ms s → Sound ns s) → ((d : Dot) → set.contains h.store.taken d ≡ true → more i d ≡ true) → IsGiven p h f
      → IsTold count ns more f
  told ns more p f own low sound taken x =
      let from : f.from ≡ i = x.from ∙ own in
      record {
        spelled = given_spelled p f x;
        from = subst (λ j. j < count) (sym from) low;
        sound = λ s e. sound s (sound_in f.to f.body x.carries s e);
        lists = λ d e. subst (λ j. more j d ≡ true) (sym from) (taken d (listed_in f.to f.body x.carries d e));
      }
