-- Each packet that goes out is of a call, or the node's own.
use Rattle.std.proofs.Common.{◌≡◌, ◌⊎◌, inl, inr, ℕ, ◌==◌, Bool, true, false, cond, List, [], ◌∷◌, ◌++◌, map as map_list, Option, Some, None, refl, sym, ap, ◌∙◌, subst, append_assoc}
use Rattle.std.proofs.lemmas.List.{append-nil}
use Rattle.mqtt_packets.specs.Written.{written}
use Rattle.mqtt_sessions.specs.declared.reaction.Output.{Output as Reply}
use Rattle.mqtt_sessions.specs.Answers.{disconnect}
use Rattle.mqtt_sessions.specs.Reaction.{packet_of}
use Rattle.bridge_frames.specs.declared.forward.Forward.{Forward}
use Rattle.bridge_routes.specs.declared.plain.PlainCopy.{PlainCopy as Copy}
use Rattle.node_work.specs.declared.outcome.Output.TheVariants.{Send, Close, Frame as Release}
use Rattle.node_work.specs.Acts.{Act, MomentTaken, Began, Moved, Store, Connection, Session, Bridge, Out, Named, Acknowledged, Passed, Dropped, Runs, gather, output_in}
use Rattle.node_work.specs.Held.Bridge.{Put, Took, Got, Believed, Greeted, Gave, Left_out}
use Rattle.node_work.specs.Held.Sessions.{SessionStep, Begun, Called, Over, end_outputs, outputs_on, packet_output}
use Rattle.node_work.specs.View.{Place, HeldView}
use Rattle.node_work.proofs.Working.{gather-append}
use Rattle.law_runs.specs.StepSending.{IsIn, SentBy, IsOwnPacket, SentAmong, SendsAreOfCalls}
use Rattle.law_runs.proofs.Keeping.{Property, IsPlain, Joins}
use Rattle.law_runs.proofs.Work.{serves, takes_forward}
use Rattle.law_runs.proofs.Events.{decides}

in_both : {A : Type 0} (x : A) (xs ys : List A) → IsIn x (xs ++ ys) → IsIn x xs ⊎ IsIn x ys
in_both x [] ys i = inr i
in_both x (y ∷ xs) ys (inl e) = inl (inl e)
in_both x (y ∷ xs) ys (inr i) = elim (in_both x xs ys i) [ inl a ↦ inl (inr a) | inr b ↦ inr b ]

-- ---- one call
module _ (s : SessionStep) (connection : ℕ) (bytes : List ℕ) where
  abbrev Is : Type 0
  Is = SentBy s connection bytes ⊎ IsOwnPacket bytes

  given : (c : ℕ) → s.on ≡ Some c → (os : List Reply) → ((o : Reply) → IsIn o os → IsIn o s.reaction.packets) → IsIn (Send connection bytes) (map_list (packet_output c s.at) os) → Is
  given c on [] all i = absurd i
  given c on (o ∷ os) all (inl e) =
      let same : c ≡ connection = cc e in
      let spelled : written (packet_of s.at o) ≡ bytes = cc e in
      inl (record { on = on ∙ ap Some same; reply = o; given = all o (inl refl); spelled = sym spelled })
  given c on (o ∷ os) all (inr i) = given c on os (λ x j. all x (inr j)) i

  last_by : (c code : ℕ) (b : Bool) → IsIn (Send connection bytes) (cond b [] (Send c (written (disconnect code)) ∷ [])) → Is
  last_by c code true i = absurd i
  last_by c code false (inl e) = let spelled : written (disconnect code) ≡ bytes = cc e in inr (record { packet = disconnect code; own = refl; spelled = sym spelled })
  last_by c code false (inr i) = absurd i

  last : (c : ℕ) (end : Option ℕ) → IsIn (Send connection bytes) (end_outputs c end) → Is
  last c None i = absurd i
  last c (Some code) i = last_by c code (code == 0) i

  on_by : (on : Option ℕ) → s.on ≡ on → IsIn (Send connection bytes) (outputs_on on s.at s.reaction) → Is
  on_by None is i = absurd i
  on_by (Some c) is i =
      elim (in_both (Send connection bytes) (map_list (packet_output c s.at) s.reaction.packets) (end_outputs c s.reaction.end) i) [
        | inl a ↦ given c is s.reaction.packets (λ o j. j) a
        | inr b ↦ last c s.reaction.end b
      ]

-- ---- among acts
abbrev Sent : Property
Sent p h acts = (connection : ℕ) (bytes : List ℕ) → IsIn (Send connection bytes) (gather output_in acts) → SentAmong acts connection bytes ⊎ IsOwnPacket bytes

sent_call : (p : Place) (h : HeldView) (s : SessionStep) → Sent p h (Session (Called s) ∷ [])
sent_call p h s connection bytes i =
    elim (on_by s connection bytes s.on refl (subst (IsIn (Send connection bytes)) (append-nil (outputs_on s.on s.at s.reaction)) i)) [
      | inl sent ↦ inl (record { before = []; step = s; after = []; acts_are = refl; sent = sent })
      | inr own ↦ inr own
    ]

sent_one : (p : Place) (h : HeldView) (a : Act) → IsPlain a → Sent p h (a ∷ [])
sent_one p h (MomentTaken at) plain connection bytes i = absurd i
sent_one p h Began plain connection bytes i = absurd i
sent_one p h (Moved homes) plain connection bytes i = absurd i
sent_one p h (Store a) plain connection bytes i = absurd i
sent_one p h (Connection a) plain connection bytes i = absurd i
sent_one p h (Session (Begun client)) plain connection bytes i = absurd i
sent_one p h (Session (Called s)) plain connection bytes i = sent_call p h s connection bytes i
sent_one p h (Session (Over client)) plain connection bytes i = absurd i
sent_one p h (Bridge (Put peer m)) plain connection bytes i = absurd i
sent_one p h (Bridge (Took peer number m copies lost)) plain connection bytes i = absurd plain
sent_one p h (Bridge (Got peer number)) plain connection bytes i = absurd i
sent_one p h (Bridge (Believed peer dots)) plain connection bytes i = absurd i
sent_one p h (Bridge (Greeted peer g)) plain connection bytes i = absurd i
sent_one p h (Bridge (Gave f)) plain connection bytes (inl e) = cc e
sent_one p h (Bridge (Gave f)) plain connection bytes (inr i) = absurd i
sent_one p h (Bridge (Left_out what)) plain connection bytes i = absurd i
sent_one p h (Out (Send c sent)) plain connection bytes (inl e) = let same : sent ≡ bytes = cc e in inr (subst IsOwnPacket same plain)
sent_one p h (Out (Send c sent)) plain connection bytes (inr i) = absurd i
sent_one p h (Out (Close c)) plain connection bytes (inl e) = cc e
sent_one p h (Out (Close c)) plain connection bytes (inr i) = absurd i
sent_one p h (Out (Release frame)) plain connection bytes (inl e) = cc e
sent_one p h (Out (Release frame)) plain connection bytes (inr i) = absurd i
sent_one p h (Named number) plain connection bytes i = absurd i
sent_one p h (Acknowledged client packet at grants offers) plain connection bytes i = absurd i
sent_one p h (Passed m copies lost routes) plain connection bytes i = absurd i
sent_one p h Dropped plain connection bytes i = absurd i

sent_first : (xs ys : List Act) (connection : ℕ) (bytes : List ℕ) → SentAmong xs connection bytes → SentAmong (xs ++ ys) connection bytes
sent_first xs ys connection bytes s = record { before = s.before; step = s.step; after = s.after ++ ys; acts_are = ap (λ zs. zs ++ ys) s.acts_are ∙ append_assoc s.before (Session (Called s.step) ∷ s.after) ys; sent = s.sent }

sent_second : (xs ys : List Act) (connection : ℕ) (bytes : List ℕ) → SentAmong ys connection bytes → SentAmong (xs ++ ys) connection bytes
sent_second xs ys connection bytes s = record { before = xs ++ s.before; step = s.step; after = s.after; acts_are = ap (λ zs. xs ++ zs) s.acts_are ∙ sym (append_assoc xs s.before (Session (Called s.step) ∷ s.after)); sent = s.sent }

sent_both : (p : Place) (h mid : HeldView) (xs ys : List Act) → Runs p h xs mid → Sent p h xs → Sent p mid ys → Sent p h (xs ++ ys)
sent_both p h mid xs ys runs f g connection bytes i =
    elim (in_both (Send connection bytes) (gather output_in xs) (gather output_in ys) (subst (IsIn (Send connection bytes)) (gather-append output_in xs ys) i)) [
      | inl a ↦ elim (f connection bytes a) [ inl s ↦ inl (sent_first xs ys connection bytes s) | inr own ↦ inr own ]
      | inr b ↦ elim (g connection bytes b) [ inl s ↦ inl (sent_second xs ys connection bytes s) | inr own ↦ inr own ]
    ]

sent : Joins Sent
sent = record { none = λ p h connection bytes i. absurd i; one = sent_one; both = sent_both }

-- a message that is taken of a lane gives nothing out
sent_took : (from number : ℕ) (m : Forward) (copies : List Copy) (lost : ℕ) (p : Place) (h : HeldView) → Sent p h (Bridge (Took from number m copies lost) ∷ [])
sent_took from number m copies lost p h connection bytes i = absurd i

pub sends_are_of_calls : SendsAreOfCalls
sends_are_of_calls = λ e p h acts d connection bytes i. (decides Sent sent (serves Sent sent sent_call) (takes_forward Sent sent sent_took) e).of tt p h acts d connection bytes i
