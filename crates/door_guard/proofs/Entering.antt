-- Who was let in is named by the first packet that came.
use Rattle.std.proofs.Common.{◌≡◌, ℕ, Bool, true, false, cond, List, [], ◌∷◌, ◌++◌, Option, Some, None, Result, Ok, Err, refl, sym, ap, subst, ◌∙◌}
use Rattle.std.specs.Prelude.{◌&&◌}
use Rattle.std.proofs.lemmas.Option.{same_Some}
use Rattle.mqtt_packets.specs.Stream.{packet_at}
use Rattle.mqtt_packets.specs.declared.connect.Connect.{Connect}
use Rattle.mqtt_packets.specs.declared.fault.PacketFault.{PacketFault}
use Rattle.mqtt_packets.specs.declared.packet.Packet.{Packet}
use Rattle.mqtt_packets.specs.declared.packet.Packet.TheVariants as packets
use Rattle.mqtt_packets.specs.declared.publish.Publish.{Publish}
use Rattle.mqtt_packets.specs.declared.subscribe.Subscribe.{Subscribe}
use Rattle.mqtt_bounds.specs.PieceLaws.{more, more_at}
use Rattle.mqtt_bounds.specs.Pieces.{Cut, cut, ends_at, front_at}
use Rattle.mqtt_bounds.specs.declared.cut.End.{End}
use Rattle.mqtt_bounds.specs.declared.cut.End.TheVariants as ends
use Rattle.mqtt_bounds.proofs.Growing.{cut_waits, cuts_alike}
use Rattle.door_packets.specs.Rights.{Rights}
use Rattle.door_packets.specs.declared.access.Admission.{Admission}
use Rattle.door_packets.specs.declared.access.Admission.TheVariants.{Admitted, WrongPassword, NoName}
use Rattle.door_packets.specs.declared.access.Login.{Login}
use Rattle.door_packets.specs.Packets.{code_by, connect_code, is_allowed, is_will_allowed, publish_step}
use Rattle.door_packets.specs.Packets.{login_of as names_of}
use Rattle.door_packets.specs.Walk.{Walked, begun, entered, entered_by, entered_with, fresh, is_leaving, left, next, next_by, published_by, stage_by, started, subscribed_by, told_first, took, took_at, walked, with_step}
use Rattle.door_packets.specs.Coming.{come_at, come_on, ended, kept, limit, unread_at}
use Rattle.door_packets.specs.declared.client.Client.{Client}
use Rattle.door_packets.specs.declared.client.Stage.{Stage}
use Rattle.door_packets.specs.declared.client.Stage.TheVariants as stages
use Rattle.door_packets.specs.declared.step.Step.{Step}
use Rattle.door_packets.specs.declared.step.Step.TheVariants as steps
use Rattle.door_guard.specs.Laws.{IsEntered, IsNamed, came_by, came_since, login_of}
use Rattle.door_guard.specs.Stages.{Effect, Happening, Held, after, does_next, done, effect, got, held_after, quiet, says, sends, spaced_by}
use Rattle.door_guard.specs.Stages.{ends as ends_of}
use Rattle.door_guard.specs.Stages.Happening.{Opens, Goes, Spaces, Comes, Does, Rests, Gets, Closes, Leaves}
use Rattle.door_guard.specs.Stages.Notice.{Gone}
use Rattle.door_guard.specs.Stages.Said.{Same}
use Rattle.door_packets.specs.Sending.{mended}
use Rattle.door_packets.specs.Going.{may_go}

-- ---- behind the first packet

abbrev IsPast : Stage → Type 0
IsPast (stages.Waiting room) = ⊥
IsPast stages.Open = Unit {0}
IsPast stages.Over = Unit {0}
IsPast stages.Leaving = Unit {0}

past_by : (step : Step) (stage : Stage) → IsPast stage → IsPast (stage_by step stage)
past_by steps.Opens stage past = past
past_by (steps.Rooms n) stage past = past
past_by (steps.Tells bs) stage past = past
past_by (steps.Asks p a) stage past = past
past_by (steps.Acks bs) stage past = past
past_by (steps.Subacks bs n) stage past = past
past_by steps.Drops stage past = past
past_by (steps.TurnsAway code) stage past = past
past_by steps.Ends stage past = tt

-- this one was let in, or nobody was
record IsBy (o : Option Login) (w : Walked) : Type 0 where
  past : IsPast w.client.stage
  login : w.client.login ≡ o

module _ (r : Rights) (o : Option Login) where
  published : (w : Walked) (bs : List ℕ) (p : Publish) (x : Option Login) → IsBy o w → IsBy o (published_by r w bs p x)
  published w bs p None is = is
  published w bs p (Some l) is = record { past = past_by (publish_step (is_allowed r l w.client.aliases p) bs p) w.client.stage is.past; login = is.login }

  subscribed : (w : Walked) (bs : List ℕ) (s : Subscribe) (x : Option Login) → IsBy o w → IsBy o (subscribed_by r w bs s x)
  subscribed w bs s None is = is
  subscribed w bs s (Some l) is = record { past = is.past; login = is.login }

  told : (w : Walked) (bs : List ℕ) → IsBy o w → IsBy o (with_step w (steps.Tells bs))
  told w bs is = record { past = is.past; login = is.login }

  next_is : (w : Walked) (bs : List ℕ) (p : Packet) → IsBy o w → IsBy o (next_by r w bs p)
  next_is w bs (packets.Publish p) is = published w bs p w.client.login is
  next_is w bs (packets.Subscribe s) is = subscribed w bs s w.client.login is
  next_is w bs (packets.Connect c) is = told w bs is
  next_is w bs (packets.Connack c) is = told w bs is
  next_is w bs (packets.Puback a) is = told w bs is
  next_is w bs (packets.Pubrec a) is = told w bs is
  next_is w bs (packets.Pubrel a) is = told w bs is
  next_is w bs (packets.Pubcomp a) is = told w bs is
  next_is w bs (packets.Suback s) is = told w bs is
  next_is w bs (packets.Unsubscribe u) is = told w bs is
  next_is w bs (packets.Unsuback s) is = told w bs is
  next_is w bs packets.Pingreq is = told w bs is
  next_is w bs packets.Pingresp is = told w bs is
  next_is w bs (packets.Disconnect e) is = told w bs is
  next_is w bs (packets.Auth e) is = told w bs is

  read_is : (w : Walked) (bs : List ℕ) (x : Result (Option (Packet × List ℕ)) PacketFault) → IsBy o w → IsBy o (next r w bs x)
  read_is w bs (Ok (Some (p, rest))) is = next_is w bs p is
  read_is w bs (Ok None) is = told w bs is
  read_is w bs (Err f) is = told w bs is

  took_is : (marked : List ℕ → Bool) (w : Walked) (bs : List ℕ) (stage : Stage) → w.client.stage ≡ stage → IsBy o w → IsBy o (took_at r marked w bs stage)
  took_is marked w bs (stages.Waiting room) e is = absurd (subst IsPast e is.past)
  took_is marked w bs stages.Open e is = read_is w bs (packet_at bs) is
  took_is marked w bs stages.Over e is = is
  took_is marked w bs stages.Leaving e is = is

  walked_is : (marked : List ℕ → Bool) (w : Walked) (ps : List (List ℕ)) → IsBy o w → IsBy o (walked r marked w ps)
  walked_is marked w [] is = is
  walked_is marked w (p ∷ ps) is = walked_is marked (took r marked w p) ps (took_is marked w p w.client.stage refl is)

  unread_is : (w : Walked) (rest : List ℕ) (stage : Stage) → w.client.stage ≡ stage → IsBy o w → IsBy o (unread_at w rest stage)
  unread_is w rest (stages.Waiting room) e is = absurd (subst IsPast e is.past)
  unread_is w rest stages.Open e is = record { past = tt; login = is.login }
  unread_is w rest stages.Over e is = is
  unread_is w rest stages.Leaving e is = is

  ended_is : (end : End) (rest : List ℕ) (w : Walked) → IsBy o w → IsBy o (ended end rest w)
  ended_is ends.Open rest w is = is
  ended_is ends.TooLong rest w is = unread_is w rest w.client.stage refl is
  ended_is ends.Broken rest w is = unread_is w rest w.client.stage refl is

-- ---- the first packet

none_some : (x : Login) → None ≡ Some x → ⊥
none_some x e = absurd cc

both_true : (a b : Bool) → (a && b) ≡ true → (a ≡ true) × (b ≡ true)
both_true true true e = (refl, refl)
both_true true false e = absurd cc
both_true false b e = absurd cc

some_none : (b : Bool) → ◌≡◌ {A = Option ℕ} (cond b None (Some 135)) None → b ≡ true
some_none true e = refl
some_none false e = absurd cc

named_by : (r : Rights) (bs rest : List ℕ) (c : Connect) (a : Admission) → packet_at bs ≡ Ok (Some (packets.Connect c, rest)) → r.admission c.user_name c.password ≡ a → code_by r c a ≡ None → IsNamed r bs (names_of c)
named_by r bs rest c WrongPassword read is e = absurd cc
named_by r bs rest c NoName read is e = absurd cc
named_by r bs rest c Admitted read is e =
    let may = both_true (r.may_connect (names_of c)) (is_will_allowed r (names_of c) c.will) (some_none (r.may_connect (names_of c) && is_will_allowed r (names_of c) c.will) e) in
    record { connect = c; rest = rest; read = read; names = refl; admitted = is; connects = may.0; will = may.1 }

-- who was let in by it, if anyone was
record IsFirst (r : Rights) (bs : List ℕ) (w : Walked) : Type 0 where
  login : Option Login
  by : IsBy login w
  named : (l : Login) → login ≡ Some l → IsNamed r bs l

begun_login : (w : Walked) (room : Option ℕ) → (begun w room).client.login ≡ w.client.login
begun_login w None = refl
begun_login w (Some n) = refl

module _ (r : Rights) (marked : List ℕ → Bool) (w : Walked) (room : Option ℕ) (bs : List ℕ) (nobody : w.client.login ≡ None) where
  told_is : IsFirst r bs (told_first w room bs)
  told_is = record { login = None; by = record { past = tt; login = begun_login w room ∙ nobody }; named = λ l e. absurd (none_some l e) }

  with_is : (c : Connect) (rest : List ℕ) (code : Option ℕ) → packet_at bs ≡ Ok (Some (packets.Connect c, rest)) → connect_code r c ≡ code → IsFirst r bs (entered_with marked w room bs c code)
  with_is c rest (Some code) read is = record { login = None; by = record { past = tt; login = nobody }; named = λ l e. absurd (none_some l e) }
  with_is c rest None read is = record {
    login = Some (names_of c);
    by = record { past = tt; login = refl };
    named = λ l e. subst (IsNamed r bs) (same_Some (names_of c) l e) (named_by r bs rest c (r.admission c.user_name c.password) read refl is);
  }

  packet_is : (p : Packet) (rest : List ℕ) → packet_at bs ≡ Ok (Some (p, rest)) → IsFirst r bs (entered_by r marked w room bs p)
  packet_is (packets.Connect c) rest read = with_is c rest (connect_code r c) read refl
  packet_is (packets.Publish p) rest read = told_is
  packet_is (packets.Subscribe s) rest read = told_is
  packet_is (packets.Connack c) rest read = told_is
  packet_is (packets.Puback a) rest read = told_is
  packet_is (packets.Pubrec a) rest read = told_is
  packet_is (packets.Pubrel a) rest read = told_is
  packet_is (packets.Pubcomp a) rest read = told_is
  packet_is (packets.Suback s) rest read = told_is
  packet_is (packets.Unsubscribe u) rest read = told_is
  packet_is (packets.Unsuback s) rest read = told_is
  packet_is packets.Pingreq rest read = told_is
  packet_is packets.Pingresp rest read = told_is
  packet_is (packets.Disconnect e) rest read = told_is
  packet_is (packets.Auth e) rest read = told_is

  first_is : (x : Result (Option (Packet × List ℕ)) PacketFault) → packet_at bs ≡ x → IsFirst r bs (entered r marked w room bs x)
  first_is (Ok (Some (p, rest))) e = packet_is p rest e
  first_is (Ok None) e = told_is
  first_is (Err f) e = told_is

-- ---- what came

-- more came
more_packets : (n : ℕ) (ps : List (List ℕ)) (rest b p : List ℕ) (qs : List (List ℕ)) (end : End) → ps ≡ p ∷ qs → (later : List (List ℕ)) × ((more_at n ps rest end b).packets ≡ p ∷ later)
more_packets n ps rest b p qs ends.Open e = (qs ++ (cut n (rest ++ b)).packets, ap (λ (xs : List (List ℕ)). xs ++ (cut n (rest ++ b)).packets) e)
more_packets n ps rest b p qs ends.TooLong e = (qs, e)
more_packets n ps rest b p qs ends.Broken e = (qs, e)

entered_more : (r : Rights) (came b : List ℕ) (l : Login) → IsEntered r came l → IsEntered r (came ++ b) l
entered_more r came b l is =
    let c : Cut = cut limit came in
    let m = more_packets limit c.packets c.rest b is.bytes is.later c.end is.first in
    record { bytes = is.bytes; later = m.0; first = ap (λ (x : Cut). x.packets) (cuts_alike limit came b) ∙ m.1; named = is.named }

-- a client, of which these bytes came: where nothing of it was a whole packet, they are kept
record IsOf (r : Rights) (came : List ℕ) (c : Client) : Type 0 where
  waits : (room : Option ℕ) → c.stage ≡ stages.Waiting room → (cut limit came ≡ ends_at ends.Open c.partial) × (c.login ≡ None)
  named : (l : Login) → c.login ≡ Some l → IsEntered r came l

-- it is past its first packet
past_of : (r : Rights) (came : List ℕ) (o : Option Login) (w : Walked) → IsBy o w → ((l : Login) → o ≡ Some l → IsEntered r came l) → IsOf r came w.client
past_of r came o w is entered = record {
  waits = λ room e. absurd (subst IsPast e is.past);
  named = λ l e. entered l (sym is.login ∙ e);
}

module _ (r : Rights) (marked : List ℕ → Bool) (came : List ℕ) (c : Client) (room : Option ℕ) (waits : c.stage ≡ stages.Waiting room) (nobody : c.login ≡ None) where
  unread_of : (rest partial : List ℕ) (stage : Stage) → stage ≡ stages.Waiting room → IsOf r came (unread_at (started (record c { partial = partial })) rest stage).client
  unread_of rest partial (stages.Waiting other) is =
      let begin : Walked = started (record c { partial = partial }) in
      past_of r came None (told_first begin other rest) (record { past = tt; login = begun_login begin other ∙ nobody }) (λ l e. absurd (none_some l e))
  unread_of rest partial stages.Open is = absurd cc
  unread_of rest partial stages.Over is = absurd cc
  unread_of rest partial stages.Leaving is = absurd cc

  -- no packet is whole
  end_of : (rest : List ℕ) (end : End) → cut limit came ≡ ends_at end rest → IsOf r came (ended end rest (started (record c { partial = kept end rest }))).client
  end_of rest ends.Open e = record { waits = λ other is. (e, nobody); named = λ l is. absurd (none_some l (sym nobody ∙ is)) }
  end_of rest ends.TooLong e = unread_of rest (kept ends.TooLong rest) c.stage waits
  end_of rest ends.Broken e = unread_of rest (kept ends.Broken rest) c.stage waits

  packets_of : (ps : List (List ℕ)) (rest : List ℕ) (end : End) → cut limit came ≡ record { packets = ps; rest = rest; end = end }
      → IsOf r came (ended end rest (walked r marked (started (record c { partial = kept end rest })) ps)).client
  packets_of [] rest end e = end_of rest end e
  packets_of (p ∷ ps) rest end e =
      let begin : Walked = started (record c { partial = kept end rest }) in
      let first : Walked = took r marked begin p in
      let f : IsFirst r p first = subst (λ (s : Stage). IsFirst r p (took_at r marked begin p s)) (sym waits) (first_is r marked begin room p nobody (packet_at p) refl) in
      let by : IsBy f.login (ended end rest (walked r marked first ps)) = ended_is r f.login end rest (walked r marked first ps) (walked_is r f.login marked first ps f.by) in
      past_of r came f.login (ended end rest (walked r marked first ps)) by (λ l is. record { bytes = p; later = ps; first = ap (λ (x : Cut). x.packets) e; named = f.named l is })

come_of : (r : Rights) (marked : List ℕ → Bool) (came bytes : List ℕ) (c : Client) (stage : Stage) → c.stage ≡ stage → IsOf r came c → IsOf r (came ++ bytes) (come_at r marked c bytes stage).client
come_of r marked came bytes c (stages.Waiting room) e is =
    let w = is.waits room e in
    let parts : Cut = cut limit (c.partial ++ bytes) in
    let whole : cut limit (came ++ bytes) ≡ parts = cuts_alike limit came bytes ∙ ap (λ (x : Cut). more limit x bytes) w.0 in
    packets_of r marked (came ++ bytes) c room e w.1 parts.packets parts.rest parts.end whole
come_of r marked came bytes c stages.Open e is =
    let parts : Cut = cut limit (c.partial ++ bytes) in
    let begin : Walked = started (record c { partial = kept parts.end parts.rest }) in
    let by : IsBy c.login (come_on r marked c bytes) =
    ended_is r c.login parts.end parts.rest (walked r marked begin parts.packets) (walked_is r c.login marked begin parts.packets (record { past = subst IsPast (sym e) tt; login = refl })) in
    past_of r (came ++ bytes) c.login (come_on r marked c bytes) by (λ l h. entered_more r came bytes l (is.named l h))
come_of r marked came bytes c stages.Over e is = record {
  waits = λ room h. absurd (let bad : stages.Over ≡ stages.Waiting room = sym e ∙ h in cc);
  named = λ l h. entered_more r came bytes l (is.named l h);
}
come_of r marked came bytes c stages.Leaving e is = record {
  waits = λ room h. absurd (let bad : stages.Leaving ≡ stages.Waiting room = sym e ∙ h in cc);
  named = λ l h. entered_more r came bytes l (is.named l h);
}

-- ---- what happens

abbrev IsSince : Rights → List ℕ → Option Held → Type 0
IsSince r came None = Unit {0}
IsSince r came (Some x) = IsOf r came x.client

nothing_cut : cut limit [] ≡ ends_at ends.Open []
unfolding front_at
nothing_cut = cut_waits limit [] refl

fresh_of : (r : Rights) → IsOf r [] fresh
fresh_of r = record { waits = λ room e. (nothing_cut, refl); named = λ l e. absurd (none_some l e) }

left_of : (r : Rights) (came : List ℕ) (c : Client) → IsOf r came c → IsOf r came (left c)
left_of r came c is = record { waits = λ room e. absurd (let bad : stages.Leaving ≡ stages.Waiting room = e in cc); named = is.named }

since_if : (r : Rights) (came : List ℕ) (b : Bool) (e f : Effect) → IsSince r came e.held → IsSince r came f.held → IsSince r came (cond b e f).held
since_if r came true e f a b = a
since_if r came false e f a b = b

spaced_of : (r : Rights) (came : List ℕ) (n : ℕ) (x : Held) (stage : Stage) → x.client.stage ≡ stage → IsOf r came x.client → IsSince r came (spaced_by n x stage).held
spaced_of r came n x (stages.Waiting room) e is = record { waits = λ other h. is.waits room e; named = is.named }
spaced_of r came n x stages.Open e is = is
spaced_of r came n x stages.Over e is = is
spaced_of r came n x stages.Leaving e is = is

done_of : (r : Rights) (came : List ℕ) (x : Held) (more : List Step) (step : Step) → IsOf r came x.client → IsSince r came (done x more step).held
done_of r came x more steps.Opens is = is
done_of r came x more (steps.Rooms n) is = is
done_of r came x more (steps.Tells bs) is = is
done_of r came x more (steps.Asks p a) is = is
done_of r came x more (steps.Acks bs) is = is
done_of r came x more (steps.Subacks bs n) is = is
done_of r came x more steps.Drops is = is
done_of r came x more (steps.TurnsAway code) is = tt
done_of r came x more steps.Ends is = left_of r came x.client is

does_of : (r : Rights) (came : List ℕ) (x : Held) (todo : List Step) → IsOf r came x.client → IsSince r came (does_next x todo).held
does_of r came x [] is = is
does_of r came x (step ∷ more) is = since_if r came (is_leaving x.client) (quiet (after x more None)) (done x more step) is (done_of r came x more step is)

effect_of : (r : Rights) (came : List ℕ) (s : Option Held) (h : Happening) → IsSince r came s → IsSince r (came_by came h) (effect r s h).held
effect_of r came s Opens is = fresh_of r
effect_of r came None Goes is = tt
effect_of r came (Some x) Goes is = tt
effect_of r came None (Spaces n) is = tt
effect_of r came (Some x) (Spaces n) is = spaced_of r came n x x.client.stage refl is
effect_of r came None (Comes marked bytes) is = tt
effect_of r came (Some x) (Comes marked bytes) is = come_of r marked came bytes x.client x.client.stage refl is
effect_of r came None Does is = tt
effect_of r came (Some x) Does is = does_of r came x x.doing.todo is
effect_of r came None Rests is = tt
effect_of r came (Some x) Rests is = is
effect_of r came None (Gets bytes) is = tt
effect_of r came (Some x) (Gets bytes) is =
    let put : List ℕ = mended x.doing.awaited bytes in
    since_if r came (is_leaving x.client) (quiet (Some x)) (got r x put) is
    (since_if r came (may_go r x.client.login put) (sends (Some x) put) (ends_of x) is (left_of r came x.client is))
effect_of r came None Closes is = tt
effect_of r came (Some x) Closes is = tt
effect_of r came None Leaves is = tt
effect_of r came (Some x) Leaves is = since_if r came (is_leaving x.client) (says None (Same Gone)) (quiet (Some x)) tt is

all_of : (r : Rights) (came : List ℕ) (s : Option Held) (hs : List Happening) → IsSince r came s → IsSince r (came_since came hs) (held_after r s hs)
all_of r came s [] is = is
all_of r came s (h ∷ hs) is = all_of r (came_by came h) (effect r s h).held hs (effect_of r came s h is)

held_entered : (r : Rights) (came : List ℕ) (s : Option Held) (l : Login) → IsSince r came s → login_of s ≡ Some l → IsEntered r came l
held_entered r came None l is e = absurd (none_some l e)
held_entered r came (Some x) l is e = is.named l e

pub each_entered : (r : Rights) (hs : List Happening) (l : Login) → login_of (held_after r None hs) ≡ Some l → IsEntered r (came_since [] hs) l
each_entered r hs l e = held_entered r (came_since [] hs) (held_after r None hs) l (all_of r [] None hs tt) e
