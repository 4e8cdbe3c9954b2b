-- What nodes hold, and where they agree.
use Rattle.std.proofs.Common.{◌≡◌, ◌↔◌, ℕ, Bool, List, filter, length, Some, sym, ap, ◌∙◌, subst}
use Rattle.std.specs.FinMap as map
use Rattle.std.specs.FinSet as set
use Rattle.causal_context.specs.Dots.{Dot, dot_cmp_total, dot_cmp_antisym}
use Rattle.mqtt_message.specs.declared.message.Message.{Message}
use Rattle.subscription_set.specs.Standing.{live}
use Rattle.replica_store.specs.Answers.{IsAnswer}
use Rattle.replica_store.specs.Operations.{dot_of, HaveOwnDots}
use Rattle.replica_store.specs.States.{State}
use Rattle.replica_store.specs.StateOf.{IsStateOf}
use Rattle.replica_store.proofs.Answered.{one_answer}
use Rattle.replica_store.proofs.Deltas.{one_state}
use Rattle.bridge_frames.specs.declared.body.FrameBody.TheVariants.{Delta}
use Rattle.bridge_frames.specs.declared.frame.BridgeFrame.{BridgeFrame}
use Rattle.bridge_frames.specs.Frames.{HasSpelling, frame_in}
use Rattle.node_work.specs.declared.frame.Frame.{Frame}
use Rattle.node_work.specs.Held.Bridge.{written_frame}
use Rattle.node_work.specs.View.{HeldView}
use Rattle.cluster_play.specs.Worlds.{World, nth_from_one}
use Rattle.cluster_play.specs.Runs.{Played}
use Rattle.cluster_play.specs.Histories.{Reached, made, taken, operations}
use Rattle.cluster_play.specs.Agreement.{Holds, AreAlike}
use Rattle.cluster_play.proofs.Bools.{some_is}
use Rattle.cluster_play.proofs.Sites.{number_is}
use Rattle.cluster_play.proofs.Telling.{given_read}
use Rattle.cluster_play.proofs.Operations.{own_some}
use Rattle.cluster_play.proofs.Sound.{Sound, state_by}
use Rattle.cluster_play.proofs.Kept.{explained}

pub node_holds : (run : List Played) (w : World) → Reached run w → (i : ℕ) (h : HeldView) → Holds w i h → IsStateOf (operations i run) h.store × ((d : Dot) → set.contains h.store.taken d ≡ taken i run d)
node_holds run w r i h at =
    let x = (explained run w r).sites i at.site at.at in
    let same : x.held ≡ h = sym (x.up h at.up) in
    let listed : (d : Dot) → set.contains h.store.taken d ≡ taken i run d = subst (λ (v : HeldView). (d : Dot) → set.contains v.store.taken d ≡ taken i run d) same x.listed in
    (state_by (made run) h.store (taken i run) (subst (λ (v : HeldView). Sound (made run) v.store) same x.holding.grown.sound) listed, listed)

pub own_dots : (run : List Played) (w : World) → Reached run w → HaveOwnDots (made run)
own_dots run w r = (explained run w r).own_dots

pub frames_spelled : (run : List Played) (w : World) → Reached run w → (number : ℕ) (sent : Frame) → nth_from_one w.frames number ≡ Some sent → (f : BridgeFrame) × (sent ≡ written_frame f) × HasSpelling f × (frame_in sent.bytes ≡ Some f)
frames_spelled run w r number sent at =
    let k = number_is w.frames number sent at in
    let g = (explained run w r).frames k.0 sent k.1 in
    (g.frame, g.is, g.told.spelled, given_read (length w.sites) (made run) (λ i d. taken i run d) sent g)

pub delta_frames : (run : List Played) (w : World) → Reached run w → (number : ℕ) (sent : Frame) (f : BridgeFrame) (s : State) → nth_from_one w.frames number ≡ Some sent → frame_in sent.bytes ≡ Some f → f.body ≡ Delta s
    → IsStateOf (filter (λ o. set.contains s.taken (dot_of o)) (made run)) s
delta_frames run w r number sent f s at reads is =
    let k = number_is w.frames number sent at in
    let g = (explained run w r).frames k.0 sent k.1 in
    let same : g.frame ≡ f = some_is (sym (given_read (length w.sites) (made run) (λ i d. taken i run d) sent g) ∙ reads) in
    g.told.sound s (ap (λ (x : BridgeFrame). x.body) same ∙ is)

pub same_taken : (run : List Played) (w : World) → Reached run w → (i j : ℕ) (h g : HeldView) → Holds w i h → Holds w j g → (h.store.taken ≡ g.store.taken) ↔ ((d : Dot) → taken i run d ≡ taken j run d)
same_taken run w r i j h g a b =
    let x = (node_holds run w r i h a).1 in
    let y = (node_holds run w r j g b).1 in
    (λ e d. sym (x d) ∙ ap (λ s. set.contains s d) e ∙ y d, λ e. set.same_set dot_cmp_total dot_cmp_antisym h.store.taken g.store.taken (λ d. x d ∙ e d ∙ sym (y d)))

pub states_agree : (run : List Played) (w : World) → Reached run w → (i j : ℕ) (h g : HeldView) → Holds w i h → Holds w j g → ((d : Dot) → taken i run d ≡ taken j run d) → h.store ≡ g.store
states_agree run w r i j h g a b same =
    let O = operations i run in
    let other : IsStateOf O g.store = subst (λ (p : Dot → Bool). IsStateOf (filter (λ o. p (dot_of o)) (made run)) g.store) (λ n d. sym (same d) n) (node_holds run w r j g b).0 in
    one_state O O (record { there = λ o x. x; back = λ o x. x }) (own_some (made run) (λ o. taken i run (dot_of o)) (own_dots run w r)) h.store g.store (node_holds run w r i h a).0 other

pub nodes_alike : (run : List Played) (w : World) → Reached run w → (i j : ℕ) (h g : HeldView) → Holds w i h → Holds w j g → ((d : Dot) → taken i run d ≡ taken j run d) → AreAlike h.store g.store
nodes_alike run w r i j h g a b same =
    let one = states_agree run w r i j h g a b same in
    record { same = one; live = ap (λ (s : State). live s.subscriptions) one; kept = λ topic. ap (λ (s : State). map.get s.retained topic) one }

pub answers_agree : (run : List Played) (w : World) → Reached run w → (i j : ℕ) (h g : HeldView) → Holds w i h → Holds w j g → ((d : Dot) → taken i run d ≡ taken j run d)
    → (filter : List ℕ) (now : ℕ) (out out' : List Message) → IsAnswer filter now (map.entries h.store.retained) out → IsAnswer filter now (map.entries g.store.retained) out' → out ≡ out'
answers_agree run w r i j h g a b same filter now out out' x y =
    one_answer filter now (map.entries h.store.retained) out out' x (subst (λ (s : State). IsAnswer filter now (map.entries s.retained) out') (sym (states_agree run w r i j h g a b same)) y)
