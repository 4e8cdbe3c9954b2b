-- Frames that acts give out.
use Rattle.std.proofs.Common.{◌≡◌, ℕ, zero, suc, true, false, cond, ◌==◌, map, List, [], ◌∷◌, ◌++◌, Option, Some, None, refl, sym, ap, ◌∙◌, subst, append_assoc}
use Rattle.std.specs.List.{slice_get}
use Rattle.bridge_frames.specs.declared.frame.BridgeFrame.{BridgeFrame}
use Rattle.mqtt_packets.specs.Written.{written}
use Rattle.mqtt_sessions.specs.declared.reaction.Output.{Output as Packet}
use Rattle.mqtt_sessions.specs.Answers.{disconnect}
use Rattle.mqtt_sessions.specs.Reaction.{Reaction}
use Rattle.node_work.specs.declared.frame.Frame.{Frame}
use Rattle.node_work.specs.declared.outcome.Output.{Output}
use Rattle.node_work.specs.declared.outcome.Output.TheVariants.{Send, Close, Frame as Release}
use Rattle.node_work.specs.Acts.{Act, MomentTaken, Began, Moved, Store, Connection, Session, Bridge, Out, Named, Acknowledged, Passed, Dropped, Runs, gather, output_in}
use Rattle.node_work.specs.Held.Bridge.{Put, Took, Got, Believed, Greeted, Gave, Left_out, written_frame}
use Rattle.node_work.specs.Held.Sessions.{SessionAct, Begun, Called, Over, outputs_on, end_outputs, packet_output, session_outputs}
use Rattle.node_work.specs.View.{Place, HeldView}
use Rattle.cluster_play.specs.Worlds.{frames_in}
use Rattle.cluster_play.proofs.Bools.{some_is, none-some}

-- acts give out a frame, after the first of them
pub record GivesOut (acts : List Act) (sent : Frame) : Type 0 where
  pub frame : BridgeFrame
  pub is : sent ≡ written_frame frame
  pub before : List Act
  pub after : List Act
  pub acts_are : acts ≡ before ++ Bridge (Gave frame) ∷ after

after_act : (a : Act) (acts : List Act) (sent : Frame) → GivesOut acts sent → GivesOut (a ∷ acts) sent
after_act a acts sent g = record { frame = g.frame; is = g.is; before = a ∷ g.before; after = g.after; acts_are = ap (λ xs. a ∷ xs) g.acts_are }

-- what a session gives out is no frame
no_packet_frame : (c at : ℕ) (packets : List Packet) (more : List Output) → frames_in (map (packet_output c at) packets ++ more) ≡ frames_in more
no_packet_frame c at [] more = refl
no_packet_frame c at (p ∷ ps) more = no_packet_frame c at ps more

no_last_frame : (c : ℕ) (end : Option ℕ) (more : List Output) → frames_in (end_outputs c end ++ more) ≡ frames_in more
no_last_frame c None more = refl
no_last_frame c (Some code) more = elim (code == 0) as (λ b. frames_in (cond b [] (Send c (written (disconnect code)) ∷ []) ++ more) ≡ frames_in more) [ true ↦ refl | false ↦ refl ]

no_reaction_frame : (on : Option ℕ) (at : ℕ) (r : Reaction) (more : List Output) → frames_in (outputs_on on at r ++ more) ≡ frames_in more
no_reaction_frame None at r more = refl
no_reaction_frame (Some c) at r more =
    ap frames_in (append_assoc (map (packet_output c at) r.packets) (end_outputs c r.end) more) ∙ no_packet_frame c at r.packets (end_outputs c r.end ++ more) ∙ no_last_frame c r.end more

no_session_frame : (a : SessionAct) (more : List Output) → frames_in (session_outputs a ++ more) ≡ frames_in more
no_session_frame (Begun client) more = refl
no_session_frame (Called s) more = no_reaction_frame s.on s.at s.reaction more
no_session_frame (Over client) more = refl

-- a frame goes out only by an act of its own
pub given_out : (p : Place) (acts : List Act) (h h' : HeldView) → Runs p h acts h' → (k : ℕ) (sent : Frame) → slice_get (frames_in (gather output_in acts)) k ≡ Some sent → GivesOut acts sent
given_out p [] h h' r k sent e = none-some e
given_out p (MomentTaken at ∷ acts) h h' r k sent e = after_act (MomentTaken at) acts sent (given_out p acts r.0 h' r.2 k sent e)
given_out p (Began ∷ acts) h h' r k sent e = after_act Began acts sent (given_out p acts r.0 h' r.2 k sent e)
given_out p (Moved homes ∷ acts) h h' r k sent e = after_act (Moved homes) acts sent (given_out p acts r.0 h' r.2 k sent e)
given_out p (Store a ∷ acts) h h' r k sent e = after_act (Store a) acts sent (given_out p acts r.0 h' r.2 k sent e)
given_out p (Connection a ∷ acts) h h' r k sent e = after_act (Connection a) acts sent (given_out p acts r.0 h' r.2 k sent e)
given_out p (Session a ∷ acts) h h' r k sent e =
    after_act (Session a) acts sent (given_out p acts r.0 h' r.2 k sent (subst (λ fs. slice_get fs k ≡ Some sent) (no_session_frame a (gather output_in acts)) e))
given_out p (Bridge (Put peer m) ∷ acts) h h' r k sent e = after_act (Bridge (Put peer m)) acts sent (given_out p acts r.0 h' r.2 k sent e)
given_out p (Bridge (Took peer number m copies lost) ∷ acts) h h' r k sent e = after_act (Bridge (Took peer number m copies lost)) acts sent (given_out p acts r.0 h' r.2 k sent e)
given_out p (Bridge (Got peer number) ∷ acts) h h' r k sent e = after_act (Bridge (Got peer number)) acts sent (given_out p acts r.0 h' r.2 k sent e)
given_out p (Bridge (Believed peer dots) ∷ acts) h h' r k sent e = after_act (Bridge (Believed peer dots)) acts sent (given_out p acts r.0 h' r.2 k sent e)
given_out p (Bridge (Greeted peer g) ∷ acts) h h' r k sent e = after_act (Bridge (Greeted peer g)) acts sent (given_out p acts r.0 h' r.2 k sent e)
given_out p (Bridge (Gave f) ∷ acts) h h' r zero sent e = record { frame = f; is = sym (some_is e); before = []; after = acts; acts_are = refl }
given_out p (Bridge (Gave f) ∷ acts) h h' r (suc k) sent e = after_act (Bridge (Gave f)) acts sent (given_out p acts r.0 h' r.2 k sent e)
given_out p (Bridge (Left_out what) ∷ acts) h h' r k sent e = after_act (Bridge (Left_out what)) acts sent (given_out p acts r.0 h' r.2 k sent e)
given_out p (Out (Send c bytes) ∷ acts) h h' r k sent e = after_act (Out (Send c bytes)) acts sent (given_out p acts r.0 h' r.2 k sent e)
given_out p (Out (Close c) ∷ acts) h h' r k sent e = after_act (Out (Close c)) acts sent (given_out p acts r.0 h' r.2 k sent e)
given_out p (Out (Release f) ∷ acts) h h' r k sent e = absurd r.1.0
given_out p (Named number ∷ acts) h h' r k sent e = after_act (Named number) acts sent (given_out p acts r.0 h' r.2 k sent e)
given_out p (Acknowledged client packet at grants offers ∷ acts) h h' r k sent e = after_act (Acknowledged client packet at grants offers) acts sent (given_out p acts r.0 h' r.2 k sent e)
given_out p (Passed m copies lost routes ∷ acts) h h' r k sent e = after_act (Passed m copies lost routes) acts sent (given_out p acts r.0 h' r.2 k sent e)
given_out p (Dropped ∷ acts) h h' r k sent e = after_act Dropped acts sent (given_out p acts r.0 h' r.2 k sent e)
