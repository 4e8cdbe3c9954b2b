-- The copies on their way to one client, and what each call does to them.
use Rattle.std.specs.Prelude.{◌≡◌, ◌≢◌, ℕ, ◌+◌, ◌<◌, ◌≤◌, ◌^◌, Bool, true, false, cond, not, ◌&&◌, List, [], ◌∷◌, ◌++◌, ◌⊎◌, Option, Some, None, length, nat_le, nat_lt, MatchBool}
use Rattle.std.specs.BTreeMap.{insert_entry}
use Rattle.std.specs.Map.{values_of}
use Rattle.std.specs.Ordering.{nat_cmp}
use Rattle.mqtt_fields.specs.declared.options.Qos.{Qos}
use Rattle.mqtt_fields.specs.declared.options.Qos.TheVariants.{AtMostOnce, AtLeastOnce, ExactlyOnce}
use Rattle.qos_handshakes.specs.declared.copies.Entry.{Entry}
use Rattle.qos_handshakes.specs.declared.copies.Stage.{Stage}
use Rattle.qos_handshakes.specs.declared.copies.Stage.TheVariants.{Waiting, Published, Released}
use Rattle.qos_handshakes.specs.declared.answers.Offer.{Offer}
use Rattle.qos_handshakes.specs.declared.answers.Offer.TheVariants.{Queued, Full, AtEnd}
use Rattle.qos_handshakes.specs.declared.answers.Ack.{Ack}
use Rattle.qos_handshakes.specs.declared.answers.Ack.TheVariants.{Done, Unknown}
use Rattle.qos_handshakes.specs.declared.answers.Rec.{Rec}
use Rattle.qos_handshakes.specs.declared.answers.Rec.TheVariants as rec
use Rattle.mqtt_message.specs.declared.delivery.Delivery.{Delivery}
use Rattle.mqtt_message.specs.Messages.{is_alive}
use Rattle.qos_handshakes.specs.Length.{length_of}
use Rattle.qos_handshakes.specs.Entries.{Entries, find_id, drop_id, write_id, write_at, at_place, as_here, as_released, IsLeastFree, NoneFree, AllPlacesBelow}
use Rattle.std.specs.List.{AllByRecursion}

-- the copies by place, the next place, the next order of release, and the Receive Maximum of the connection
pub record Outbox : Type 0 where
  pub copies : Entries
  pub next_place : ℕ
  pub next_order : ℕ
  pub maximum : ℕ

-- of a session that has just been made
abbrev pub empty_outbox : Outbox
empty_outbox = record { copies = []; next_place = 1; next_order = 1; maximum = 0 }

-- a PUBLISH on its way
pub record Sent : Type 0 where
  pub id : ℕ
  pub dup : Bool
  pub copy : Delivery

abbrev pub waits : Stage → Bool
waits Waiting = true
waits (Published id) = false
waits (Released id order) = false

-- the copies that wait, in order
abbrev pub waiting : Entries → List Delivery
waiting [] = []
waiting (e ∷ es) = cond (waits e.1.stage) (e.1.delivery ∷ waiting es) (waiting es)

-- how many PUBLISHes of this connection are unfinished
abbrev pub in_flight : Entries → ℕ
in_flight [] = 0
in_flight (e ∷ es) = cond e.1.here 1 0 + in_flight es

-- what each entry gives, in order
abbrev pub chosen : {A : Type 0} → (Entry → List A) → Entries → List A
chosen p [] = []
chosen p (e ∷ es) = p e.1 ++ chosen p es

-- ---- offer
abbrev pub waiting_entry : Delivery → Entry
waiting_entry c = record { stage = Waiting; here = false; delivery = c }

abbrev pub OfferStep : Outbox → Delivery → Offer → Outbox → Type 0
OfferStep old c Queued new = (length (waiting old.copies) < 65536) × (old.next_place < 2 ^ 62) × (new ≡ record old { copies = old.copies ++ (old.next_place, waiting_entry c) ∷ []; next_place = old.next_place + 1 })
OfferStep old c Full new = (65536 ≤ length (waiting old.copies)) × (new ≡ old)
OfferStep old c AtEnd new = (length (waiting old.copies) < 65536) × (2 ^ 62 ≤ old.next_place) × (new ≡ old)

-- ---- PUBACK and PUBCOMP
abbrev pub takes_puback : Qos → Stage → Bool
takes_puback AtLeastOnce (Published id) = true
takes_puback AtLeastOnce Waiting = false
takes_puback AtLeastOnce (Released id order) = false
takes_puback AtMostOnce s = false
takes_puback ExactlyOnce s = false

abbrev pub is_acknowledged : Option Entry → Bool
is_acknowledged None = false
is_acknowledged (Some x) = takes_puback x.delivery.qos x.stage

abbrev pub is_released : Stage → Bool
is_released Waiting = false
is_released (Published id) = false
is_released (Released id order) = true

abbrev pub is_completed : Option Entry → Bool
is_completed None = false
is_completed (Some x) = is_released x.stage

-- an exchange ends where the answer came for it
abbrev pub EndStep : Bool → Outbox → ℕ → Ack → Outbox → Type 0
EndStep ends old id Done new = (ends ≡ true) × (new ≡ record old { copies = drop_id id old.copies })
EndStep ends old id Unknown new = (ends ≡ false) × (new ≡ old)

abbrev pub AcknowledgeStep : Outbox → ℕ → Ack → Outbox → Type 0
AcknowledgeStep old id answer new = EndStep (is_acknowledged (find_id id old.copies)) old id answer new

abbrev pub CompleteStep : Outbox → ℕ → Ack → Outbox → Type 0
CompleteStep old id answer new = EndStep (is_completed (find_id id old.copies)) old id answer new

-- ---- PUBREC
abbrev pub takes_pubrec : Qos → Stage → Bool
takes_pubrec ExactlyOnce (Published id) = true
takes_pubrec ExactlyOnce Waiting = false
takes_pubrec ExactlyOnce (Released id order) = false
takes_pubrec AtMostOnce s = false
takes_pubrec AtLeastOnce s = false

-- for an exchange
abbrev pub ReceivedFor : Outbox → ℕ → ℕ → Entry → Rec → Outbox → Type 0
ReceivedFor old id reason x rec.Release new =
    (((takes_pubrec x.delivery.qos x.stage ≡ true) × (reason < 128) × (old.next_order < 2 ^ 62)
    × (new ≡ record old { copies = write_id (as_released id old.next_order) id old.copies; next_order = old.next_order + 1 }))
    ⊎ ((is_released x.stage ≡ true) × (new ≡ old)))
ReceivedFor old id reason x rec.Ended new = (takes_pubrec x.delivery.qos x.stage ≡ true) × (128 ≤ reason) × (new ≡ record old { copies = drop_id id old.copies })
ReceivedFor old id reason x rec.Unknown new = (takes_pubrec x.delivery.qos x.stage ≡ false) × (is_released x.stage ≡ false) × (new ≡ old)
ReceivedFor old id reason x rec.AtEnd new = (takes_pubrec x.delivery.qos x.stage ≡ true) × (reason < 128) × (2 ^ 62 ≤ old.next_order) × (new ≡ old)

abbrev pub ReceivedIf : Option Entry → Outbox → ℕ → ℕ → Rec → Outbox → Type 0
ReceivedIf None old id reason answer new = (answer ≡ rec.Unknown) × (new ≡ old)
ReceivedIf (Some x) old id reason answer new = ReceivedFor old id reason x answer new

abbrev pub ReceivedStep : Outbox → ℕ → ℕ → Rec → Outbox → Type 0
ReceivedStep old id reason answer new = ReceivedIf (find_id id old.copies) old id reason answer new

-- ---- a new connection
abbrev pub away : Entries → Entries
away [] = []
away (e ∷ es) = (e.0, record e.1 { here = false }) ∷ away es

abbrev pub ResumeStep : Outbox → ℕ → Outbox → Type 0
ResumeStep old maximum new = new ≡ record old { copies = away old.copies; maximum = maximum }

-- the order of release, and the identifier
abbrev pub stage_pair : Stage → List (ℕ × ℕ)
stage_pair Waiting = []
stage_pair (Published id) = []
stage_pair (Released id order) = (order, id) ∷ []

abbrev pub released_pair : Entry → List (ℕ × ℕ)
released_pair x = stage_pair x.stage

-- pairs by rising first part
abbrev pub sorted : List (ℕ × ℕ) → List (ℕ × ℕ)
sorted [] = []
sorted (x ∷ xs) = insert_entry nat_cmp (sorted xs) x.0 x.1

-- the released exchanges by the order of their release
abbrev pub by_release : Entries → List (ℕ × ℕ)
by_release es = sorted (chosen released_pair es)

-- their identifiers, for the PUBRELs at the beginning of the connection
abbrev pub ReleasesStep : Outbox → List ℕ → Outbox → Type 0
ReleasesStep old ids new = (ids ≡ values_of (by_release old.copies)) × (new ≡ old)

-- ---- a crash
abbrev pub stage_order : Stage → ℕ
stage_order Waiting = 0
stage_order (Published id) = 0
stage_order (Released id order) = order

-- one above the greatest order
abbrev pub order_above : Entries → ℕ
order_above [] = 1
order_above (e ∷ es) = cond (nat_lt (stage_order e.1.stage) (order_above es)) (order_above es) (stage_order e.1.stage + 1)

-- the copies with their places, identifiers, stages and orders stay, and the next place; there is no connection
abbrev pub LostStep : Outbox → Outbox → Type 0
LostStep old new = new ≡ record { copies = away old.copies; next_place = old.next_place; next_order = order_above old.copies; maximum = 0 }

-- ---- next
abbrev pub stage_id : Stage → ℕ
stage_id Waiting = 0
stage_id (Published id) = id
stage_id (Released id order) = id

abbrev pub is_published : Stage → Bool
is_published Waiting = false
is_published (Published id) = true
is_published (Released id order) = false

-- a resend is owed
abbrev pub is_owed : Entry → Bool
is_owed x = is_published x.stage && not x.here

abbrev pub fits : ℕ → ℕ → Delivery → Bool
fits now limit c = nat_le (length_of now c) limit

abbrev pub is_sendable : ℕ → ℕ → Delivery → Bool
is_sendable now limit c = is_alive c.message now && fits now limit c

abbrev pub resent : Entry → Sent
resent x = record { id = stage_id x.stage; dup = true; copy = x.delivery }

-- the first resend that fits, and what is left once it is sent: those before it that do not fit end
abbrev pub first_owed : ℕ → ℕ → Entries → Option Sent
first_owed now limit [] = None
first_owed now limit (e ∷ es) = cond (is_owed e.1) (cond (fits now limit e.1.delivery) (Some (resent e.1)) (first_owed now limit es)) (first_owed now limit es)

abbrev pub after_resend : ℕ → ℕ → Entries → Entries
after_resend now limit [] = []
after_resend now limit (e ∷ es) = cond (is_owed e.1) (cond (fits now limit e.1.delivery) ((e.0, record e.1 { here = true }) ∷ es) (after_resend now limit es)) (e ∷ after_resend now limit es)

-- the first copy of the queue that is not left out, and what is left once it is sent under an identifier
abbrev pub first_waiting : ℕ → ℕ → Entries → Option Delivery
first_waiting now limit [] = None
first_waiting now limit (e ∷ es) = cond (waits e.1.stage) (cond (is_sendable now limit e.1.delivery) (Some e.1.delivery) (first_waiting now limit es)) (first_waiting now limit es)

abbrev pub after_send : ℕ → ℕ → ℕ → Entries → Entries
after_send now limit id [] = []
after_send now limit id (e ∷ es) = cond (waits e.1.stage) (cond (is_sendable now limit e.1.delivery) ((e.0, record e.1 { stage = Published id; here = true }) ∷ es) (after_send now limit id es)) (e ∷ after_send now limit id es)

-- nothing is sent: no quota, no identifier, or nothing that is not left out; and nothing is left out of the queue while no
-- identifier is free
pub record SendsNothing (now limit : ℕ) (old new : Outbox) : Type 0 where
  pub step : ((old.maximum ≤ in_flight old.copies) × (new ≡ old))
      ⊎ (((in_flight old.copies < old.maximum) × (first_owed now limit old.copies ≡ None) × NoneFree (after_resend now limit old.copies) × (new ≡ record old { copies = after_resend now limit old.copies }))
      ⊎ ((in_flight old.copies < old.maximum) × (first_owed now limit old.copies ≡ None) × (first_waiting now limit (after_resend now limit old.copies) ≡ None)
      × (new ≡ record old { copies = after_send now limit 0 (after_resend now limit old.copies) })
      × (NoneFree (after_resend now limit old.copies) → waiting (after_resend now limit old.copies) ≡ [])))

-- an exchange of an earlier connection is sent again
pub record Resends (now limit : ℕ) (old : Outbox) (s : Sent) (new : Outbox) : Type 0 where
  pub quota : in_flight old.copies < old.maximum
  pub sent : first_owed now limit old.copies ≡ Some s
  pub left : new ≡ record old { copies = after_resend now limit old.copies }

-- the first copy of the queue is sent, once no resend is owed
pub record Sends (now limit : ℕ) (old : Outbox) (s : Sent) (new : Outbox) : Type 0 where
  pub quota : in_flight old.copies < old.maximum
  pub none_owed : first_owed now limit old.copies ≡ None
  pub first : s.dup ≡ false
  pub number : IsLeastFree (after_resend now limit old.copies) s.id
  pub sent : first_waiting now limit (after_resend now limit old.copies) ≡ Some s.copy
  pub left : new ≡ record old { copies = after_send now limit s.id (after_resend now limit old.copies) }

abbrev pub NextStep : ℕ → ℕ → Outbox → Option Sent → Outbox → Type 0
NextStep now limit old None new = SendsNothing now limit old new
NextStep now limit old (Some s) new = Resends now limit old s new ⊎ Sends now limit old s new

-- what is handed out has a spelling as a PUBLISH: an identifier that is not 0, at QoS 1 or 2, and no longer than the limit
pub record CanBeSent (now limit id : ℕ) (d : Delivery) : Type 0 where
  pub least : 1 ≤ id
  pub most : id ≤ 65535
  pub asked : d.qos ≢ AtMostOnce
  pub short : length_of now d ≤ limit

-- ---- how the code keeps it
-- the copies that wait stand at the places from first to next, past all others
abbrev pub IsQueued : ℕ → ℕ → Entries → Type 0
IsQueued first next [] = first ≡ next
IsQueued first next (e ∷ es) = MatchBool (waits e.1.stage) ((e.0 ≡ first) × (e.1.here ≡ false) × IsQueued (first + 1) next es) ((e.0 < first) × IsQueued first next es)

-- no resend is owed at a place below
abbrev pub AreOwedFrom : ℕ → Entries → Type 0
AreOwedFrom place es = AllByRecursion (λ e. is_owed e.1 ≡ true → place ≤ e.0) es

-- each delivery is at QoS 1 or 2, which a client answers
abbrev pub AreAnswered : Entries → Type 0
AreAnswered es = AllByRecursion (λ e. e.1.delivery.qos ≢ AtMostOnce) es

-- each order of release is below 2^62
abbrev pub HaveOrders : Entries → Type 0
HaveOrders es = AllByRecursion (λ e. stage_order e.1.stage < 2 ^ 62) es

-- what the code keeps beside the copies
pub record IsCounted (es : Entries) (first flight next from : ℕ) : Type 0 where
  pub flight_is : flight ≡ in_flight es
  pub below : AllPlacesBelow es next
  pub queued : IsQueued first next es
  pub start : 1 ≤ next
  pub owed : AreOwedFrom from es
  pub answered : AreAnswered es
  pub orders : HaveOrders es

-- the copies without those at the head of the queue that are left out
abbrev pub without_left_out : ℕ → ℕ → Entries → Entries
without_left_out now limit [] = []
without_left_out now limit (e ∷ es) = cond (waits e.1.stage) (cond (is_sendable now limit e.1.delivery) (e ∷ es) (without_left_out now limit es)) (e ∷ without_left_out now limit es)

-- the copies without those owed before the first that is not too large to be sent again
abbrev pub without_large : ℕ → ℕ → Entries → Entries
without_large now limit [] = []
without_large now limit (e ∷ es) = cond (is_owed e.1) (cond (fits now limit e.1.delivery) (e ∷ es) (without_large now limit es)) (e ∷ without_large now limit es)

-- the resends owed stand at places from one up to another
abbrev pub AreOwedWithin : ℕ → ℕ → Entries → Type 0
AreOwedWithin from until es = AllByRecursion (λ e. is_owed e.1 ≡ true → (from ≤ e.0) × (e.0 < until)) es

-- the first resend owed stands at a place, and is not too large
pub record IsFirstOwed (now limit place : ℕ) (es : Entries) : Type 0 where
  pub entry : Entry
  pub at : at_place place es ≡ Some entry
  pub owed : is_owed entry ≡ true
  pub sent : first_owed now limit es ≡ Some (resent entry)
  pub left : after_resend now limit es ≡ write_at as_here place es

-- the copy chosen to be sent stands at a place
abbrev pub ChoosesAt : ℕ → ℕ → Outbox → ℕ → Bool → Outbox → Type 0
ChoosesAt now limit old place dup new = (x : Entry) × (at_place place new.copies ≡ Some x) × NextStep now limit old (Some (record { id = stage_id x.stage; dup = dup; copy = x.delivery })) new
