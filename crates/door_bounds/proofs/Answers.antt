-- What clients get of what breaks a limit.
use Rattle.std.proofs.Common.{◌≡◌, ◌⊎◌, ℕ, Bool, true, false, cond, eqb, suc, List, [], ◌∷◌, ◌++◌, length, Option, Some, None, is_some, inl, inr, refl, sym, ap, subst, ◌∙◌, append_assoc, arith}
use Rattle.std.specs.Prelude.{◌==◌, ◌||◌, not, flat_map}
use Rattle.std.proofs.lemmas.Bool.{ne_eqb}
use Rattle.std.proofs.lemmas.Grind.{flat_map-append}
use Rattle.std.proofs.lemmas.List.{append-nil}
use Rattle.std.proofs.lemmas.Option.{same_Some}
use Rattle.broker_sockets.specs.declared.bridge.Given.{Given}
use Rattle.broker_sockets.specs.declared.bridge.PeerEvent.{PeerEvent}
use Rattle.broker_sockets.specs.declared.events.Event.{Event}
use Rattle.broker_sockets.specs.declared.events.EventKind.TheVariants.{Opened, Piece, Tick}
use Rattle.broker_sockets.specs.declared.events.Output.{Output}
use Rattle.broker_sockets.specs.declared.events.Output.TheVariants.{Close, Send}
use Rattle.mqtt_packets.specs.Stream.{packet_at}
use Rattle.mqtt_packets.specs.declared.packet.Packet.{Packet}
use Rattle.mqtt_bounds.specs.declared.bounds.Bounds.{Bounds}
use Rattle.mqtt_bounds.specs.declared.verdict.Mend.{Mend}
use Rattle.mqtt_bounds.specs.declared.verdict.Mend.TheVariants as mends
use Rattle.mqtt_bounds.specs.declared.verdict.Verdict.{Verdict}
use Rattle.mqtt_bounds.specs.declared.verdict.Verdict.TheVariants as verdicts
use Rattle.mqtt_bounds.specs.Pieces.{Cut, cut}
use Rattle.door_bounds.specs.Answering.{IsAnswered, IsAnsweredIf, IsAnsweredOn, IsCameFrom, IsHeard, IsSettled, IsWeighed, is_let_in}
use Rattle.door_bounds.specs.Answers.{AreAnswered, AreSentOn, IsReached, RefusalsAreTold, answer_by, answers_to}
use Rattle.door_bounds.specs.Calls.{AreMade, Call, Handled, Heard, IsMade, Settled}
use Rattle.door_bounds.specs.Clients.{AreNoted, client_of, noted, noted_one}
use Rattle.door_bounds.specs.Laws.{is_answer}
use Rattle.door_bounds.specs.Limits.{full_after, limit_of}
use Rattle.door_bounds.specs.Mending.{Buffer, IsMendedTo, IsSpelled}
use Rattle.door_bounds.specs.Telling.{AreSteps, IsOutIf, IsStep, IsTellingIf, is_silent}
use Rattle.door_bounds.specs.Walk.{Walked, answered_with, begins_connect, come, come_on, ended, finish_with, put, refused, started, told_with, too_large, took, verdict_at, walked, with_step}
use Rattle.door_bounds.specs.declared.bounded.Bounded.{Bounded}
use Rattle.door_bounds.specs.declared.client.Client.{Client}
use Rattle.door_bounds.specs.declared.clients.Clients.{Clients}
use Rattle.door_bounds.specs.declared.door.Door.{Door}
use Rattle.door_bounds.specs.declared.limits.BoundLimits.{BoundLimits}
use Rattle.door_bounds.specs.declared.step.Step.{Step}
use Rattle.door_bounds.specs.declared.step.Step.TheVariants as steps
use Rattle.door_bounds.proofs.Following.{handed, heard_limits, weighed_limits}
use Rattle.door_bounds.proofs.Ordering.{answers_in, with_told}

-- ---- which answers there are

step_in : (w : Walked) (s : Step) → answers_in (with_step w s) ≡ answers_in w ++ is_answer s
step_in w s =
    flat_map-append is_answer (w.steps ++ steps.Tells w.run mends.Nothing ∷ []) (s ∷ [])
    ∙ ap (λ (ps : List Packet). ps ++ (is_answer s ++ [])) (flat_map-append is_answer w.steps (steps.Tells w.run mends.Nothing ∷ []) ∙ append-nil (flat_map is_answer w.steps))
    ∙ ap (λ (ps : List Packet). answers_in w ++ ps) (append-nil (is_answer s))

told_greeted : (w : Walked) (x : List ℕ) (m : Mend) → (told_with w x m).greeted ≡ w.greeted
told_greeted w x mends.Nothing = refl
told_greeted w x (mends.Connack longest expiry) = refl
told_greeted w x (mends.Suback identifier codes) = refl
told_greeted w x (mends.Disconnect reason) = refl

-- a packet of a client that was greeted
record Put (v w : Walked) (ps : List Packet) : Type 0 where
  greeted : v.greeted ≡ true
  same : answers_in v ≡ answers_in w ++ ps

refused_in : (w : Walked) (x : List ℕ) (answer : Option Packet) (t : Bool) → w.greeted ≡ true → t ≡ true
    → Put (cond t (answered_with w answer) (record w { run = w.run ++ too_large x })) w (answer_by (verdicts.Refused answer))
refused_in w x answer false greeted e = absurd cc
refused_in w x None true greeted e = record { greeted = greeted; same = sym (append-nil (answers_in w)) }
refused_in w x (Some p) true greeted e = record { greeted = greeted; same = step_in w (steps.Answers p) }

put_in : (w : Walked) (x : List ℕ) (v : Verdict) → w.greeted ≡ true → Put (put w x v) w (answer_by v)
put_in w x (verdicts.Goes m) greeted = record { greeted = told_greeted w x m ∙ greeted; same = (with_told w x m).1 ∙ sym (append-nil (answers_in w)) }
put_in w x (verdicts.Becomes p m) greeted = record { greeted = greeted; same = step_in w (steps.Asks p m) }
put_in w x (verdicts.Refused answer) greeted = refused_in w x answer w.greeted greeted greeted
put_in w x (verdicts.Ends reason) greeted = record { greeted = greeted; same = step_in w (steps.Tells (too_large x) (mends.Disconnect reason)) }

walked_in : (b : Bounds) (full : Bool) (w : Walked) (ps : List (List ℕ)) → w.greeted ≡ true → answers_in (walked b full w ps) ≡ answers_in w ++ flat_map (answers_to b full) ps
walked_in b full w [] greeted = sym (append-nil (answers_in w))
walked_in b full w (p ∷ ps) greeted =
    let still : (w.greeted || begins_connect p) ≡ true = rw greeted refl in
    let one = put_in (record w { greeted = w.greeted || begins_connect p }) p (verdict_at b full (packet_at p)) still in
    walked_in b full (took b full w p) ps one.greeted ∙ ap (λ (xs : List Packet). xs ++ flat_map (answers_to b full) ps) one.same
    ∙ append_assoc (answers_in w) (answers_to b full p) (flat_map (answers_to b full) ps)

finished_in : (c : Cut) (w : Walked) → flat_map is_answer (finish_with c w).steps ≡ answers_in w
finished_in c w = flat_map-append is_answer w.steps (steps.Tells (w.run ++ ended c.end c.rest) mends.Nothing ∷ []) ∙ append-nil (flat_map is_answer w.steps)

came_in : (b : Bounds) (full : Bool) (c : Client) (bytes : List ℕ) → c.greeted ≡ true
    → flat_map is_answer (come_on b full c bytes).steps ≡ flat_map (answers_to b full) (cut (limit_of b.longest_packet) (c.partial ++ bytes)).packets
came_in b full c bytes greeted =
    let parts = cut (limit_of b.longest_packet) (c.partial ++ bytes) in
    finished_in parts (walked b full (started c.greeted) parts.packets) ∙ walked_in b full (started c.greeted) parts.packets greeted

come_in : (b : Bounds) (full : Bool) (c : Client) (bytes : List ℕ) → c.greeted ≡ true → c.over ≡ false
    → flat_map is_answer (come b full c bytes).steps ≡ flat_map (answers_to b full) (cut (limit_of b.longest_packet) (c.partial ++ bytes)).packets
come_in b full c bytes greeted on = rw on (came_in b full c bytes greeted)

-- ---- that they go out

sent_later : (q : ℕ) (ps : List Packet) (front outputs : List Output) → AreSentOn q ps outputs → AreSentOn q ps (front ++ outputs)
sent_later q [] front outputs sent = tt
sent_later q (p ∷ ps) front outputs (bs, spelled, how) = (
  bs,
  spelled,
  elim how [
    | inl x ↦ inl (x.0, sent_later q ps front outputs x.1)
    | inr x ↦ inr (front ++ x.0, x.1, x.2, x.3, ap (λ (xs : List Output). front ++ xs) x.4 ∙ sym (append_assoc front x.0 (Send q x.1 ∷ x.2)), x.5)
  ],
)

none_case : (t : Bool) (x y : Option Client) → x ≡ None → y ≡ None → cond t x y ≡ None
none_case true x y a b = a
none_case false x y a b = b

noted_none : (q : ℕ) (outputs : List Output) → noted q outputs None ≡ None
noted_none q [] = refl
noted_none q (Send to bytes ∷ outputs) = noted_none q outputs
noted_none q (Close to ∷ outputs) = ap (noted q outputs) (none_case (eqb to q) None None refl refl) ∙ noted_none q outputs

stays_closed : (q : ℕ) (given : List Output) (k k' : Clients) → client_of k q ≡ None → AreNoted given k k' → client_of k' q ≡ None
stays_closed q given k k' none noted_all = noted_all q ∙ ap (noted q given) none ∙ noted_none q given

mended_more : (q : ℕ) (m : Mend) (given o o' : List Output) → IsMendedTo q m given o o' → (more : List Output) × (o' ≡ o ++ more)
mended_more q mends.Nothing given o o' is = (given, is)
mended_more q (mends.Connack longest expiry) given o o' is = (is.0, is.2)
mended_more q (mends.Suback identifier codes) given o o' is = (is.0, is.2)
mended_more q (mends.Disconnect reason) given o o' is = (is.0, is.2)

-- a step puts something behind what went out, and leaves what is closed so
record Goes (q : ℕ) (k k' : Clients) (o o' : List Output) (answers : List Packet) : Type 0 where
  more : List Output
  is : o' ≡ o ++ more
  closed : client_of k q ≡ None → client_of k' q ≡ None
  sent : AreSentOn q answers more ⊎ (client_of k' q ≡ None)

module _ {H : Type 0} (handles : H → Event → List Output → H → Type 0) where
  telling : (t : Bool) (at q : ℕ) (bs : List ℕ) (m : Mend) (h h' : H) (k k' : Clients) (o o' : List Output) → IsTellingIf handles t at q bs m h h' k k' o o' → Goes q k k' o o' []
  telling true at q bs m h h' k k' o o' is = record {
    more = [];
    is = is.2 ∙ sym (append-nil o);
    closed = λ none. ap (λ (x : Clients). client_of x q) is.1 ∙ none;
    sent = inl tt;
  }
  telling false at q bs m h h' k k' o o' is =
      let x = mended_more q m is.given o o' is.sent in
      record { more = x.0; is = x.1; closed = λ none. stays_closed q is.given k k' none is.told.clients; sent = inl tt }

  silent_case : (q : ℕ) (bs : List ℕ) (o : Option Client) → ((length bs == 0) || not (is_some o)) ≡ true → (bs ≡ []) ⊎ (o ≡ None)
  silent_case q [] o e = inl refl
  silent_case q (b ∷ bs) None e = inr refl
  silent_case q (b ∷ bs) (Some c) e =
      let none : eqb (length (b ∷ bs)) 0 ≡ false = ne_eqb (suc (length bs)) 0 (λ z. omega (arith, z)) in
      let bad : false ≡ true = sym (ap (λ (t : Bool). t || false) none) ∙ e in
      absurd cc

  sending : (t : Bool) (q : ℕ) (p : Packet) (bs : List ℕ) (k : Clients) (o o' : List Output) → is_silent q bs k ≡ t → IsSpelled p bs → IsOutIf t q bs o o' → Goes q k k o o' (p ∷ [])
  sending true q p bs k o o' silent spelled is = record {
    more = [];
    is = is ∙ sym (append-nil o);
    closed = λ none. none;
    sent = elim (silent_case q bs (client_of k q) silent) [
      | inl empty ↦ inl (bs, spelled, inl (empty, tt))
      | inr none ↦ inr none
    ];
  }
  sending false q p bs k o o' silent spelled (bytes, same, is) = record {
    more = Send q bytes ∷ [];
    is = is;
    closed = λ none. none;
    sent = inl (bs, spelled, inr ([], bytes, [], same, refl, tt));
  }

  goes : (at q : ℕ) (s : Step) (h h' : H) (k k' : Clients) (o o' : List Output) → IsStep handles at q s h h' k k' o o' → Goes q k k' o o' (is_answer s)
  goes at q (steps.Tells bs m) h h' k k' o o' is = telling (is_silent q bs k) at q bs m h h' k k' o o' is
  goes at q (steps.Asks p m) h h' k k' o o' (bs, spelled, is) = telling (is_silent q bs k) at q bs m h h' k k' o o' is
  goes at q (steps.Answers p) h h' k k' o o' (bs, spelled, out, same, kept) =
      let Are : Clients → Type 0 = λ x. Goes q k x o o' (p ∷ []) in
      subst Are (sym kept) (sending (is_silent q bs k) q p bs k o o' refl spelled out)

  both_sent : (q : ℕ) (xs ys : List Packet) (front back : List Output) → AreSentOn q xs front → AreSentOn q ys back → AreSentOn q (xs ++ ys) (front ++ back)
  both_sent q [] ys front back one rest = sent_later q ys front back rest
  both_sent q (x ∷ xs) ys front back (bs, spelled, how) rest = (
    bs,
    spelled,
    elim how [
      | inl e ↦ inl (e.0, both_sent q xs ys front back e.1 rest)
      | inr y ↦ inr (y.0, y.1, y.2 ++ back, y.3, ap (λ (os : List Output). os ++ back) y.4 ∙ append_assoc y.0 (Send q y.1 ∷ y.2) back, both_sent q xs ys y.2 back y.5 rest)
    ],
  )

  sent_all : (at q : ℕ) (ss : List Step) (h h' : H) (k k' : Clients) (o o' : List Output) → AreSteps handles at q ss h h' k k' o o' → Goes q k k' o o' (flat_map is_answer ss)
  sent_all at q [] h h' k k' o o' is = record {
    more = [];
    is = is.2 ∙ sym (append-nil o);
    closed = λ none. ap (λ (x : Clients). client_of x q) is.1 ∙ none;
    sent = inl tt;
  }
  sent_all at q (s ∷ ss) h h' k k' o o' (m, l, p, first, rest) =
      let one = goes at q s h m k l o p first in
      let then_ = sent_all at q ss m h' l k' p o' rest in
      record {
        more = one.more ++ then_.more;
        is = then_.is ∙ ap (λ (os : List Output). os ++ then_.more) one.is ∙ append_assoc o one.more then_.more;
        closed = λ none. then_.closed (one.closed none);
        sent = elim (one.sent) [
          | inr none ↦ inr (then_.closed none)
          | inl sent ↦ elim (then_.sent) [
            | inr none ↦ inr none
            | inl more ↦ inl (both_sent q (is_answer s) (flat_map is_answer ss) one.more then_.more sent more)
          ]
        ];
      }

  -- bytes that came
  came_so : (o : Option Client) (b : Bounds) (full : Bool) (at q : ℕ) (bs : List ℕ) (outputs : List Output) (h h' : H) (k k' : Clients) (c : Client) → o ≡ Some c
      → IsCameFrom handles o b full at q bs h h' k k' outputs → c.greeted ≡ true → c.over ≡ false
      → AreSentOn q (flat_map (answers_to b full) (cut (limit_of b.longest_packet) (c.partial ++ bs)).packets) outputs ⊎ (client_of k' q ≡ None)
  came_so None b full at q bs outputs h h' k k' c is a greeted on = absurd cc
  came_so (Some x) b full at q bs outputs h h' k k' c is a greeted on =
      let same : x ≡ c = same_Some x c is in
      let all = sent_all at q (come b full x bs).steps h h' a.known k' [] outputs a.did in
      let answers : flat_map is_answer (come b full x bs).steps ≡ flat_map (answers_to b full) (cut (limit_of b.longest_packet) (c.partial ++ bs)).packets =
      ap (λ (y : Client). flat_map is_answer (come b full y bs).steps) same ∙ come_in b full c bs greeted on in
      elim (all.sent) [
        | inr none ↦ inr none
        | inl sent ↦
            let On : List Output → Type 0 = λ os. AreSentOn q (flat_map is_answer (come b full x bs).steps) os in
            let here : AreSentOn q (flat_map is_answer (come b full x bs).steps) outputs = subst On (sym all.is) sent in
            inl (subst (λ (ps : List Packet). AreSentOn q ps outputs) answers here)
      ]

  piece_if : (let_in : Bool) (at q : ℕ) (bytes : Buffer) (outputs : List Output) (h h' : H) (k k' : Door) → is_some (client_of k.clients q) ≡ let_in
      → IsAnsweredOn handles let_in (record { at = at; kind = Piece q bytes }) h h' k k' outputs → AreAnswered k.limits.packets k q bytes.items outputs k'
  piece_if true at q bytes outputs h h' k k' e a = λ c there greeted on.
      came_so (client_of k.clients q) k.limits.packets k.full at q bytes.items outputs h h' k.clients k'.clients c there a.0 greeted on
  piece_if false at q bytes outputs h h' k k' e a = λ c there greeted on. absurd (let bad : true ≡ false = ap is_some (sym there) ∙ e in cc)

  opened_if : (let_in : Bool) (at q : ℕ) (outputs : List Output) (h h' : H) (k k' : Door) → let_in ≡ false
      → IsAnsweredOn handles let_in (record { at = at; kind = Opened q }) h h' k k' outputs → (outputs ≡ Close q ∷ []) × (h' ≡ h)
  opened_if true at q outputs h h' k k' e a = absurd cc
  opened_if false at q outputs h h' k k' e a = (a.0, a.1)

  tick_if : (at : ℕ) (outputs : List Output) (h h' : H) (k k' : Door) → IsAnsweredOn handles true (record { at = at; kind = Tick }) h h' k k' outputs → k'.full ≡ k.full
  tick_if at outputs h h' k k' a = a.1.1

  piece_at : (door door' : Option Door) (at q : ℕ) (bytes : Buffer) (outputs : List Output) (h h' : H) (l l' : Door) → door ≡ Some l → door' ≡ Some l'
      → IsAnsweredIf handles door door' (record { at = at; kind = Piece q bytes }) h h' outputs → AreAnswered l.limits.packets l q bytes.items outputs l'
  piece_at None door' at q bytes outputs h h' l l' e e' a = absurd cc
  piece_at (Some x) None at q bytes outputs h h' l l' e e' a = absurd a
  piece_at (Some x) (Some x') at q bytes outputs h h' l l' e e' (m, w, a) =
      let same : x ≡ l = same_Some x l e in
      let same' : x' ≡ l' = same_Some x' l' e' in
      let m_is : m ≡ l = w ∙ same in
      let one = piece_if (is_some (client_of m.clients q)) at q bytes outputs h h' m x' refl a in
      let two = subst (λ (y : Door). AreAnswered y.limits.packets y q bytes.items outputs x') m_is one in
      subst (λ (y : Door). AreAnswered l.limits.packets l q bytes.items outputs y) same' two

  opened_at : (door door' : Option Door) (at q : ℕ) (outputs : List Output) (h h' : H) (l : Door) → door ≡ Some l → l.full ≡ true
      → IsAnsweredIf handles door door' (record { at = at; kind = Opened q }) h h' outputs → (outputs ≡ Close q ∷ []) × (h' ≡ h)
  opened_at None door' at q outputs h h' l e full a = absurd cc
  opened_at (Some x) None at q outputs h h' l e full a = absurd a
  opened_at (Some x) (Some x') at q outputs h h' l e full (m, w, a) =
      let m_is : m ≡ l = w ∙ same_Some x l e in
      let off : not m.full ≡ false = ap (λ (y : Door). not y.full) m_is ∙ ap not full in
      opened_if (not m.full) at q outputs h h' m x' off a

  tick_at : (door door' : Option Door) (at : ℕ) (outputs : List Output) (h h' : H) (l l' : Door) → door ≡ Some l → door' ≡ Some l'
      → IsAnsweredIf handles door door' (record { at = at; kind = Tick }) h h' outputs → (held : Option ℕ) × (l'.full ≡ full_after l.limits.most_memory held l.full)
  tick_at None door' at outputs h h' l l' e e' a = absurd cc
  tick_at (Some x) None at outputs h h' l l' e e' a = absurd a
  tick_at (Some x) (Some x') at outputs h h' l l' e e' (m, w, a) =
      let same : x ≡ l = same_Some x l e in
      let same' : l' ≡ x' = sym (same_Some x' l' e') in
      (w.0, ap (λ (y : Door). y.full) same' ∙ tick_if at outputs h h' m x' a ∙ ap (λ (y : Door). y.full) w.1 ∙ ap (λ (y : Door). full_after y.limits.most_memory w.0 y.full) same)

-- ---- after calls

module _ {H G : Type 0} (handles : H → Event → List Output → H → Type 0) (hears : H → PeerEvent → Given → H → Type 0) (settles : H → H → Type 0) where
  abbrev Kept : Door → Bounded H G → Type 0
  Kept k d' = (k' : Door) × (d'.door ≡ Some k') × (k'.limits ≡ k.limits)

  call_keeps : (k : Door) (call : Call) (d d' : Bounded H G) → d.door ≡ Some k → IsMade (IsAnswered handles) (IsHeard hears) (IsSettled settles) call d d' → Kept k d'
  call_keeps k (Handled e outputs) d d' is a =
      let (k', there, x) = handed handles d.door d'.door k e outputs d.inside d'.inside is a in
      (k', there, x.answered.limits ∙ weighed_limits e.kind k x.weighs x.is)
  call_keeps k (Heard e given) d d' is a = heard_limits handles d.door d'.door k given.outputs.items is a.1
  call_keeps k Settled d d' is a = (k, a.1 ∙ is, refl)

  calls_keep : (k : Door) (calls : List Call) (d d' : Bounded H G) → d.door ≡ Some k → AreMade (IsAnswered handles) (IsHeard hears) (IsSettled settles) calls d d' → Kept k d'
  calls_keep k [] d d' is same = (k, ap (λ (x : Bounded H G). x.door) same ∙ is, refl)
  calls_keep k (call ∷ more) d d' is (m, first, rest) =
      let one = call_keeps k call d m is first in
      let all = calls_keep one.0 more m d' one.1 rest in
      (all.0, all.1, all.2 ∙ one.2)

  abbrev Reached : Door → Bounded H G → Bounded H G → Type 0
  Reached k d m = IsReached (IsAnswered handles) (IsHeard hears) (IsSettled settles) k d m

  limits_stay : (k : Door) (d m : Bounded H G) (l : Door) → Reached k d m → m.door ≡ Some l → l.limits ≡ k.limits
  limits_stay k d m l reached is =
      let kept = calls_keep k reached.calls d m reached.had reached.made in
      let same : kept.0 ≡ l = same_Some kept.0 l (sym kept.1 ∙ is) in
      ap (λ (x : Door). x.limits) (sym same) ∙ kept.2

  pub refusals_are_told : RefusalsAreTold {H = H} {G = G} (IsAnswered handles) (IsHeard hears) (IsSettled settles)
  refusals_are_told = record {
    answered = λ k d m d' at q bytes outputs reached a l l' is is'.
        let same = limits_stay k d m l reached is in
        subst (λ (x : BoundLimits). AreAnswered x.packets l q bytes.items outputs l') same (piece_at handles m.door d'.door at q bytes outputs m.inside d'.inside l l' is is' a);
    closed = λ k d m d' at q outputs reached a l is full. opened_at handles m.door d'.door at q outputs m.inside d'.inside l is full a;
    weighed = λ k d m d' at outputs reached a l l' is is'.
        let same = limits_stay k d m l reached is in
        let one = tick_at handles m.door d'.door at outputs m.inside d'.inside l l' is is' a in
        (one.0, one.1 ∙ ap (λ (x : BoundLimits). full_after x.most_memory one.0 l.full) same);
  }
