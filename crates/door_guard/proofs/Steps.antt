-- What is done for packets that came.
use Rattle.std.proofs.Common.{◌≡◌, ℕ, Bool, true, false, cond, List, [], ◌∷◌, ◌++◌, Option, Some, None, refl, sym, ap, subst, ◌∙◌, append_assoc}
use Rattle.std.specs.Prelude.{◌==◌, not}
use Rattle.std.proofs.lemmas.List.{append-nil}
use Rattle.broker_sockets.specs.declared.events.Event.{Event}
use Rattle.broker_sockets.specs.declared.events.EventKind.{EventKind}
use Rattle.broker_sockets.specs.declared.events.EventKind.TheVariants as kinds
use Rattle.broker_sockets.specs.declared.events.Output.{Output}
use Rattle.mqtt_packets.specs.declared.packet.Packet.{Packet}
use Rattle.door_guard.specs.Clients.{IsBut, client_of, is_live, restaged}
use Rattle.door_guard.specs.Counts.{Refusal, Refused, all_counted, counted, refused_by, refused_on}
use Rattle.door_guard.specs.Doing.{IsTurned}
use Rattle.door_guard.specs.Giving.{IsEnded}
use Rattle.door_packets.specs.Rights.{Rights}
use Rattle.door_packets.specs.Sending.{Buffer, IsSpelled}
use Rattle.door_guard.specs.Stages.{AreSaid, Doing, Effect, Held, IsSaid, Notice, Said, after, at, done, effect, held_by, noted, on, quiet, refused_at, says, staged}
use Rattle.door_guard.specs.Stages.Happening.{Does, Rests}
use Rattle.door_guard.specs.Stages.Notice.{Open, Space, Piece}
use Rattle.door_guard.specs.Stages.Outgoing.{Bytes}
use Rattle.door_guard.specs.Stages.Said.{Same, Made}
use Rattle.door_guard.specs.Telling.{AreDone, AreGiven, ArePaths, IsAsked, IsPart, IsSent, IsTold, Ledger, Stages, none}
use Rattle.door_packets.specs.Walk.{is_leaving}
use Rattle.door_packets.specs.declared.client.Client.{Client}
use Rattle.door_packets.specs.declared.client.Stage.TheVariants.{Leaving}
use Rattle.door_guard.specs.declared.clients.Clients.{Clients}
use Rattle.door_guard.specs.declared.counts.Refusals.{Refusals}
use Rattle.door_packets.specs.declared.codes.Awaited.{Awaited}
use Rattle.door_packets.specs.declared.step.Step.{Step}
use Rattle.door_packets.specs.declared.step.Step.TheVariants as steps
use Rattle.door_guard.proofs.Outs.{sent_none}
use Rattle.door_guard.proofs.Paths.{counts_then, itself, one, part_quiet, part_then, paths_as, paths_none, paths_then, staged_here, staged_there, tagged, tagged_counted, tagged_here, tagged_there}

abbrev pub working_on : List Step → Option Awaited → Doing
working_on todo awaited = record { todo = todo; awaited = awaited }

stays_case : (b : Bool) → not b ≡ true → b ≡ false
stays_case true live = absurd cc
stays_case false live = refl

leaves_case : (b : Bool) → not b ≡ false → b ≡ true
leaves_case true live = refl
leaves_case false live = absurd cc

known_case : (y : Option Client) → is_live y ≡ true → (x : Client) × (y ≡ Some x) × (is_leaving x ≡ false)
known_case None live = absurd cc
known_case (Some x) live = (x, refl, stays_case (is_leaving x) live)

module _ {H : Type 0} (handles : H → Event → List Output → H → Type 0) (r : Rights) (moment : ℕ) where
  pub told_so : (c : ℕ) (awaited : Option Awaited) (kind : EventKind) (given : List Output) (h h' : H) (k k' : Clients) (o p : Ledger) → handles h (record { at = moment; kind = kind }) given h'
      → AreGiven r c awaited given k k' o p → IsTold handles r moment c awaited kind h h' k k' o p
  told_so c awaited kind given h h' k k' o p handled gives = record { given = given; handled = handled; gives = gives }

  module _ (c : ℕ) where
    -- a step, of a connection that is open
    does_is : (x : Client) (step : Step) (more : List Step) (k : Clients) → client_of k c ≡ Some x → is_leaving x ≡ false
        → effect r (staged (at c (working_on (step ∷ more) None)) k c) Does ≡ done (record { client = x; doing = working_on (step ∷ more) None }) more step
    does_is x step more k is stays =
        let held : Held = record { client = x; doing = working_on (step ∷ more) None } in
        ap (λ (s : Option Held). effect r s Does) (staged_here c (working_on (step ∷ more) None) k ∙ ap (held_by (working_on (step ∷ more) None)) is)
        ∙ ap (λ (b : Bool). cond b (quiet (after held more None)) (done held more step)) stays

    refuses_is : (x : Client) (step : Step) (more : List Step) (k : Clients) → client_of k c ≡ Some x → is_leaving x ≡ false → refused_at r (staged (at c (working_on (step ∷ more) None)) k c) Does ≡ refused_by step
    refuses_is x step more k is stays =
        ap (λ (s : Option Held). refused_at r s Does) (staged_here c (working_on (step ∷ more) None) k ∙ ap (held_by (working_on (step ∷ more) None)) is)
        ∙ ap (λ (b : Bool). cond b [] (refused_by step)) stays

    refuses_here : (x : Client) (step : Step) (more : List Step) (k : Clients) → client_of k c ≡ Some x → is_leaving x ≡ false
        → refused_on c (tagged c (refused_by step)) ≡ refused_at r (staged (at c (working_on (step ∷ more) None)) k c) Does
    refuses_here x step more k is stays = tagged_here c (refused_by step) ∙ sym (refuses_is x step more k is stays)

    -- the handler inside is told, and then this is so
    tells_path : (x : Client) (step : Step) (said : Said) (a : Option Awaited) (n : Notice) (met : ℕ → List Notice) (more : List Step) (k : Clients) (o : List Output) → client_of k c ≡ Some x → is_leaving x ≡ false
        → ((y : Held) → done y more step ≡ says (after y more a) said) → IsSaid said n → met c ≡ n ∷ [] → ((q : ℕ) → (c == q) ≡ false → met q ≡ [])
        → ArePaths r none met [] (tagged c (refused_by step)) (staged (at c (working_on (step ∷ more) None)) k) (staged (at c (working_on more a)) k) o o
    tells_path x step said a n met more k o is stays does so here there =
        let held : Held = record { client = x; doing = working_on (step ∷ more) None } in
        one r c Does (says (after held more a) said) (staged (at c (working_on (step ∷ more) None)) k) (staged (at c (working_on more a)) k) none met [] (tagged c (refused_by step)) o o
        (does_is x step more k is stays ∙ does held) (staged_here c (working_on more a) k ∙ ap (held_by (working_on more a)) is)
        (λ q apart. staged_there c q (working_on (step ∷ more) None) (working_on more a) k k apart refl) (λ no. absurd (no refl)) refl
        (subst (λ (ns : List Notice). AreSaid (said ∷ []) ns) (sym here) (so, tt)) refl (refuses_here x step more k is stays) (sym (append-nil (on c o)))
        (λ q apart. record { meets = refl; tells = there q apart; gives = refl; refuses = tagged_there c q (refused_by step) apart; goes = refl })

    rests_case : (y : Option Client) (more : List Step) (a : Option Awaited) → effect r (held_by (working_on more a) y) Rests ≡ quiet (held_by (working_on more None) y)
    rests_case None more a = refl
    rests_case (Some x) more a = refl

    rests_path : (more : List Step) (a : Option Awaited) (k : Clients) (o : List Output) → ArePaths r none none [] [] (staged (at c (working_on more a)) k) (staged (at c (working_on more None)) k) o o
    rests_path more a k o =
        one r c Rests (quiet (held_by (working_on more None) (client_of k c))) (staged (at c (working_on more a)) k) (staged (at c (working_on more None)) k) none none [] [] o o
        (ap (λ (s : Option Held). effect r s Rests) (staged_here c (working_on more a) k) ∙ rests_case (client_of k c) more a) (staged_here c (working_on more None) k)
        (λ q apart. staged_there c q (working_on more a) (working_on more None) k k apart refl) (λ no. absurd (no refl)) refl tt refl refl (sym (append-nil (on c o)))
        (λ q apart. record { meets = refl; tells = refl; gives = refl; refuses = refl; goes = refl })

    -- the counts are those behind it
    done_tell : (x : Client) (step : Step) (said : Said) (a : Option Awaited) (n : Notice) (kind : EventKind) (h h' : H) (k k' : Clients) (old new : Refusals) (o : List Output) (p : Ledger) → client_of k c ≡ Some x → is_leaving x ≡ false
        → ((y : Held) (more : List Step) → done y more step ≡ says (after y more a) said) → IsSaid said n → noted c kind ≡ n ∷ [] → ((q : ℕ) → (c == q) ≡ false → noted q kind ≡ [])
        → new ≡ counted (refused_by step) old → IsTold handles r moment c a kind h h' k k' (new, o) p → AreDone handles r moment c (step ∷ []) h h' k k' (old, o) p
    done_tell x step said a n kind h h' k k' old new o p is stays does so here there counts t = record {
      part = λ more.
          let s0 : Stages = staged (at c (working_on (step ∷ more) None)) k in
          let s1 : Stages = staged (at c (working_on more a)) k in
          let s2 : Stages = staged (at c (working_on more a)) k' in
          let s3 : Stages = staged (at c (working_on more None)) k' in
          let met : ℕ → List Notice = λ q. noted q kind in
          let mine : List Refused = tagged c (refused_by step) in
          let theirs : List Refused = t.gives.refused in
          let first = tells_path x step said a n met more k o is stays (λ y. does y more) so here there in
          let second = paths_then r s0 s1 s2 none none met none [] t.given mine theirs o o p.1 first (t.gives.paths more) in
          let third = paths_then r s0 s2 s3 none none (λ q. noted q kind ++ []) none t.given [] (mine ++ theirs) [] o p.1 p.1 second (rests_path more a k' p.1) in
          let noted_all : new ≡ all_counted mine old = counts ∙ sym (tagged_counted c (refused_by step) old) in
          let both : p.0 ≡ all_counted (mine ++ theirs) old = counts_then mine theirs old new p.0 noted_all t.gives.counts in
          record {
            calls = (record { at = moment; kind = kind }, t.given) ∷ [];
            refused = (mine ++ theirs) ++ [];
            told = (h', t.handled, refl);
            moments = (refl, tt);
            counts = counts_then (mine ++ theirs) [] old p.0 p.0 both refl;
            paths = paths_as r s0 s3 none none (λ q. (noted q kind ++ []) ++ []) (λ q. noted q kind ++ []) (t.given ++ []) (t.given ++ []) ((mine ++ theirs) ++ []) o p.1
                (λ q. refl) (λ q. append-nil (noted q kind ++ [])) refl third;
          };
    }

    tell_live : (step : Step) (said : Said) (a : Option Awaited) (n : Notice) (kind : EventKind) (h h' : H) (k k' : Clients) (old new : Refusals) (o : List Output) (p : Ledger) → is_live (client_of k c) ≡ true
        → ((y : Held) (more : List Step) → done y more step ≡ says (after y more a) said) → IsSaid said n → noted c kind ≡ n ∷ [] → ((q : ℕ) → (c == q) ≡ false → noted q kind ≡ [])
        → new ≡ counted (refused_by step) old → IsTold handles r moment c a kind h h' k k' (new, o) p → AreDone handles r moment c (step ∷ []) h h' k k' (old, o) p
    tell_live step said a n kind h h' k k' old new o p live does so here there counts t =
        let y = known_case (client_of k c) live in
        done_tell y.0 step said a n kind h h' k k' old new o p y.1 y.2 does so here there counts t

    pub done_as : (step x : Step) (h h' : H) (k k' : Clients) (o p : Ledger) → step ≡ x → AreDone handles r moment c (x ∷ []) h h' k k' o p → AreDone handles r moment c (step ∷ []) h h' k k' o p
    done_as step x h h' k k' o p is d = subst (λ (y : Step). AreDone handles r moment c (y ∷ []) h h' k k' o p) (sym is) d

    counted_as : (step x : Step) (old new : Refusals) → step ≡ x → new ≡ counted (refused_by step) old → new ≡ counted (refused_by x) old
    counted_as step x old new is counts = counts ∙ ap (λ (y : Step). counted (refused_by y) old) is

    pub done_opens : (h h' : H) (k k' : Clients) (old new : Refusals) (o : List Output) (p : Ledger) (step : Step) → step ≡ steps.Opens → is_live (client_of k c) ≡ true → new ≡ counted (refused_by step) old
        → IsTold handles r moment c None (kinds.Opened c) h h' k k' (new, o) p → AreDone handles r moment c (step ∷ []) h h' k k' (old, o) p
    done_opens h h' k k' old new o p step is live counts t =
        done_as step steps.Opens h h' k k' (old, o) p is
        (tell_live steps.Opens (Same Open) None Open (kinds.Opened c) h h' k k' old new o p live (λ y more. refl) refl (rw (itself c) refl) (λ q e. rw e refl) (counted_as step steps.Opens old new is counts) t)

    pub done_rooms : (n : ℕ) (h h' : H) (k k' : Clients) (old new : Refusals) (o : List Output) (p : Ledger) (step : Step) → step ≡ steps.Rooms n → is_live (client_of k c) ≡ true → new ≡ counted (refused_by step) old
        → IsTold handles r moment c None (kinds.Room c n) h h' k k' (new, o) p → AreDone handles r moment c (step ∷ []) h h' k k' (old, o) p
    done_rooms n h h' k k' old new o p step is live counts t =
        done_as step (steps.Rooms n) h h' k k' (old, o) p is
        (tell_live (steps.Rooms n) (Same (Space n)) None (Space n) (kinds.Room c n) h h' k k' old new o p live (λ y more. refl) refl (rw (itself c) refl) (λ q e. rw e refl) (counted_as step (steps.Rooms n) old new is counts) t)

    pub done_tells : (bs : List ℕ) (bytes : Buffer) (h h' : H) (k k' : Clients) (old new : Refusals) (o : List Output) (p : Ledger) (step : Step) → step ≡ steps.Tells bs → bytes.items ≡ bs → is_live (client_of k c) ≡ true
        → new ≡ counted (refused_by step) old → IsTold handles r moment c None (kinds.Piece c bytes) h h' k k' (new, o) p → AreDone handles r moment c (step ∷ []) h h' k k' (old, o) p
    done_tells bs bytes h h' k k' old new o p step is same live counts t =
        let so : step ≡ steps.Tells bytes.items = is ∙ ap (λ (xs : List ℕ). steps.Tells xs) (sym same) in
        done_as step (steps.Tells bytes.items) h h' k k' (old, o) p so
        (tell_live (steps.Tells bytes.items) (Same (Piece bytes.items)) None (Piece bytes.items) (kinds.Piece c bytes) h h' k k' old new o p live (λ y more. refl) refl (rw (itself c) refl) (λ q e. rw e refl)
        (counted_as step (steps.Tells bytes.items) old new so counts) t)

    pub asked : (p : Packet) (a : Option Awaited) (bytes : Buffer) (h h' : H) (k k' : Clients) (o x : Ledger) → IsSpelled p bytes.items → IsTold handles r moment c a (kinds.Piece c bytes) h h' k k' o x
        → IsAsked handles r moment c p a h h' k k' o x
    asked p a bytes h h' k k' o x spelled t = record { bytes = bytes; spelled = spelled; told = t }

    pub done_asks : (p : Packet) (a : Option Awaited) (h h' : H) (k k' : Clients) (old new : Refusals) (o : List Output) (x : Ledger) (step : Step) → step ≡ steps.Asks p a → is_live (client_of k c) ≡ true
        → new ≡ counted (refused_by step) old → IsAsked handles r moment c p a h h' k k' (new, o) x → AreDone handles r moment c (step ∷ []) h h' k k' (old, o) x
    done_asks p a h h' k k' old new o x step is live counts t =
        done_as step (steps.Asks p a) h h' k k' (old, o) x is
        (tell_live (steps.Asks p a) (Made p) a (Piece t.bytes.items) (kinds.Piece c t.bytes) h h' k k' old new o x live (λ y more. refl) (t.bytes.items, t.spelled, refl) (rw (itself c) refl) (λ q e. rw e refl)
        (counted_as step (steps.Asks p a) old new is counts) t.told)

    -- ---- what the handler inside isn't told of

    untold_path : (x : Client) (step : Step) (more : List Step) (y : Option Client) (k k' : Clients) (o p : List Output) → client_of k c ≡ Some x → is_leaving x ≡ false → IsBut c y k k'
        → held_by (working_on more None) y ≡ (done (record { client = x; doing = working_on (step ∷ more) None }) more step).held
        → (done (record { client = x; doing = working_on (step ∷ more) None }) more step).told ≡ [] → IsSent c (done (record { client = x; doing = working_on (step ∷ more) None }) more step).out o p
        → ArePaths r none none [] (tagged c (refused_by step)) (staged (at c (working_on (step ∷ more) None)) k) (staged (at c (working_on more None)) k') o p
    untold_path x step more y k k' o p is stays but held untold sent =
        let e : Effect = done (record { client = x; doing = working_on (step ∷ more) None }) more step in
        one r c Does e (staged (at c (working_on (step ∷ more) None)) k) (staged (at c (working_on more None)) k') none none [] (tagged c (refused_by step)) o p
        (does_is x step more k is stays) (staged_here c (working_on more None) k' ∙ ap (held_by (working_on more None)) but.at ∙ held)
        (λ q apart. staged_there c q (working_on (step ∷ more) None) (working_on more None) k k' apart (but.others q apart)) (λ no. absurd (no refl)) refl
        (subst (λ (ss : List Said). AreSaid ss []) (sym untold) tt) refl (refuses_here x step more k is stays) sent.here
        (λ q apart. record { meets = refl; tells = refl; gives = refl; refuses = tagged_there c q (refused_by step) apart; goes = sent.there q apart })

    untold_part : (step : Step) (y : Option Client) (h : H) (k k' : Clients) (old new : Refusals) (o p : List Output) → is_live (client_of k c) ≡ true → IsBut c y k k'
        → ((x : Client) (more : List Step) → client_of k c ≡ Some x → held_by (working_on more None) y ≡ (done (record { client = x; doing = working_on (step ∷ more) None }) more step).held)
        → ((x : Held) (more : List Step) → (done x more step).told ≡ []) → ((x : Held) (more : List Step) → IsSent c (done x more step).out o p) → new ≡ counted (refused_by step) old
        → AreDone handles r moment c (step ∷ []) h h k k' (old, o) (new, p)
    untold_part step y h k k' old new o p live but held untold sent counts = record {
      part = λ more.
          let x = known_case (client_of k c) live in
          let held_x : Held = record { client = x.0; doing = working_on (step ∷ more) None } in
          part_quiet handles r moment none (tagged c (refused_by step)) (staged (at c (working_on (step ∷ more) None)) k) (staged (at c (working_on more None)) k') h (old, o) (new, p)
          (counts ∙ sym (tagged_counted c (refused_by step) old))
          (untold_path x.0 step more y k k' o p x.1 x.2 but (held x.0 more x.1) (untold held_x more) (sent held_x more));
    }

    same_but : (k : Clients) → IsBut c (client_of k c) k k
    same_but k = record { at = refl; others = λ q e. refl }

    known_held : (k : Clients) (x : Client) (more : List Step) → client_of k c ≡ Some x → held_by (working_on more None) (client_of k c) ≡ held_by (working_on more None) (Some x)
    known_held k x more is = ap (held_by (working_on more None)) is

    pub done_acks : (bs : List ℕ) (bytes : Buffer) (h : H) (k : Clients) (old new : Refusals) (o p : List Output) (step : Step) → step ≡ steps.Acks bs → bytes.items ≡ bs → is_live (client_of k c) ≡ true
        → new ≡ counted (refused_by step) old → IsSent c (Bytes bytes.items ∷ []) o p → AreDone handles r moment c (step ∷ []) h h k k (old, o) (new, p)
    done_acks bs bytes h k old new o p step is same live counts sent =
        let so : step ≡ steps.Acks bytes.items = is ∙ ap (λ (xs : List ℕ). steps.Acks xs) (sym same) in
        done_as step (steps.Acks bytes.items) h h k k (old, o) (new, p) so
        (untold_part (steps.Acks bytes.items) (client_of k c) h k k old new o p live (same_but k) (known_held k) (λ x more. refl) (λ x more. sent) (counted_as step (steps.Acks bytes.items) old new so counts))

    pub done_subacks : (bs : List ℕ) (n : ℕ) (bytes : Buffer) (h : H) (k : Clients) (old new : Refusals) (o p : List Output) (step : Step) → step ≡ steps.Subacks bs n → bytes.items ≡ bs → is_live (client_of k c) ≡ true
        → new ≡ counted (refused_by step) old → IsSent c (Bytes bytes.items ∷ []) o p → AreDone handles r moment c (step ∷ []) h h k k (old, o) (new, p)
    done_subacks bs n bytes h k old new o p step is same live counts sent =
        let so : step ≡ steps.Subacks bytes.items n = is ∙ ap (λ (xs : List ℕ). steps.Subacks xs n) (sym same) in
        done_as step (steps.Subacks bytes.items n) h h k k (old, o) (new, p) so
        (untold_part (steps.Subacks bytes.items n) (client_of k c) h k k old new o p live (same_but k) (known_held k) (λ x more. refl) (λ x more. sent) (counted_as step (steps.Subacks bytes.items n) old new so counts))

    pub done_drops : (h : H) (k : Clients) (old new : Refusals) (o : List Output) (step : Step) → step ≡ steps.Drops → is_live (client_of k c) ≡ true → new ≡ counted (refused_by step) old
        → AreDone handles r moment c (step ∷ []) h h k k (old, o) (new, o)
    done_drops h k old new o step is live counts =
        done_as step steps.Drops h h k k (old, o) (new, o) is
        (untold_part steps.Drops (client_of k c) h k k old new o o live (same_but k) (known_held k) (λ x more. refl) (λ x more. sent_none c o) (counted_as step steps.Drops old new is counts))

    pub done_turns : (code : ℕ) (h : H) (k k' : Clients) (old new last : Refusals) (o p : List Output) (step : Step) → step ≡ steps.TurnsAway code → is_live (client_of k c) ≡ true → new ≡ counted (refused_by step) old → last ≡ new
        → IsTurned c code k k' o p → AreDone handles r moment c (step ∷ []) h h k k' (old, o) (last, p)
    done_turns code h k k' old new last o p step is live counts same t =
        done_as step (steps.TurnsAway code) h h k k' (old, o) (last, p) is
        (untold_part (steps.TurnsAway code) None h k k' old last o p live t.clients (λ x more e. refl) (λ x more. refl) (λ x more. t.sent) (same ∙ counted_as step (steps.TurnsAway code) old new is counts))

    pub done_ends : (h : H) (k k' : Clients) (old new last : Refusals) (o p : List Output) (step : Step) → step ≡ steps.Ends → is_live (client_of k c) ≡ true → new ≡ counted (refused_by step) old → last ≡ new
        → IsEnded c k k' o p → AreDone handles r moment c (step ∷ []) h h k k' (old, o) (last, p)
    done_ends h k k' old new last o p step is live counts same t =
        done_as step steps.Ends h h k k' (old, o) (last, p) is
        (untold_part steps.Ends (restaged Leaving (client_of k c)) h k k' old last o p live t.clients (λ x more e. ap (λ (y : Option Client). held_by (working_on more None) (restaged Leaving y)) e) (λ x more. refl) (λ x more. t.sent)
        (same ∙ counted_as step steps.Ends old new is counts))

    silent_refuses : (y : Option Client) (step : Step) (more : List Step) → is_live y ≡ false → ◌≡◌ {A = List Refusal} [] (refused_at r (held_by (working_on (step ∷ more) None) y) Does)
    silent_refuses None step more live = refl
    silent_refuses (Some x) step more live = sym (ap (λ (b : Bool). cond b [] (refused_by step)) (leaves_case (is_leaving x) live))

    silent_case : (y : Option Client) (step : Step) (more : List Step) → is_live y ≡ false → effect r (held_by (working_on (step ∷ more) None) y) Does ≡ quiet (held_by (working_on more None) y)
    silent_case None step more live = refl
    silent_case (Some x) step more live =
        let held : Held = record { client = x; doing = working_on (step ∷ more) None } in
        ap (λ (b : Bool). cond b (quiet (after held more None)) (done held more step)) (leaves_case (is_leaving x) live)

    -- the connection isn't open any more
    pub done_silent : (step : Step) (h : H) (k : Clients) (o : Ledger) → is_live (client_of k c) ≡ false → AreDone handles r moment c (step ∷ []) h h k k o o
    done_silent step h k o live = record {
      part = λ more.
          let s0 : Stages = staged (at c (working_on (step ∷ more) None)) k in
          let s1 : Stages = staged (at c (working_on more None)) k in
          part_quiet handles r moment none [] s0 s1 h o o refl
          (one r c Does (quiet (held_by (working_on more None) (client_of k c))) s0 s1 none none [] [] o.1 o.1
          (ap (λ (s : Option Held). effect r s Does) (staged_here c (working_on (step ∷ more) None) k) ∙ silent_case (client_of k c) step more live) (staged_here c (working_on more None) k)
          (λ q apart. staged_there c q (working_on (step ∷ more) None) (working_on more None) k k apart refl) (λ no. absurd (no refl)) refl tt refl
          (silent_refuses (client_of k c) step more live ∙ sym (ap (λ (s : Option Held). refused_at r s Does) (staged_here c (working_on (step ∷ more) None) k))) (sym (append-nil (on c o.1)))
          (λ q apart. record { meets = refl; tells = refl; gives = refl; refuses = refl; goes = refl }));
    }

    -- ---- one after another

    pub done_none : (h : H) (k : Clients) (o : Ledger) → AreDone handles r moment c [] h h k k o o
    done_none h k o = record { part = λ more. part_quiet handles r moment none [] (staged (at c (working_on more None)) k) (staged (at c (working_on more None)) k) h o o refl (paths_none r (staged (at c (working_on more None)) k) o.1) }

    pub done_then : (did : List Step) (step : Step) (h m h' : H) (k l k' : Clients) (o p x : Ledger) → AreDone handles r moment c did h m k l o p → AreDone handles r moment c (step ∷ []) m h' l k' p x
        → AreDone handles r moment c (did ++ step ∷ []) h h' k k' o x
    done_then did step h m h' k l k' o p x a b = record {
      part = λ more.
          let s : Stages = staged (at c (working_on (did ++ step ∷ more) None)) k in
          let t : Stages = staged (at c (working_on (step ∷ more) None)) l in
          let u : Stages = staged (at c (working_on more None)) k' in
          let both : IsPart handles r moment none s u h h' o x = part_then handles r moment none none s t u h m h' o p x (a.part (step ∷ more)) (b.part more) in
          subst (λ (ss : List Step). IsPart handles r moment none (staged (at c (working_on ss None)) k) u h h' o x) (sym (append_assoc did (step ∷ []) more)) both;
    }
