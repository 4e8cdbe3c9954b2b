-- What happens on a connection, one thing after another.
use Rattle.std.proofs.Common.{◌≡◌, Vec, Global, arith, ℕ, Bool, cond, true, false, List, [], ◌∷◌, ◌++◌, Option, Some, None, refl, sym, ap, subst, ◌∙◌, append_assoc}
use Rattle.std.specs.Prelude.{◌==◌, ◌↔◌, IsTrue, is_some, length}
use Rattle.std.proofs.lemmas.Bool.{eqb-true, eq-eqb}
use Rattle.std.proofs.lemmas.List.{append-nil, map-append}
use Rattle.std.proofs.lemmas.Grind.{flat_map-append}
use Rattle.broker_sockets.specs.declared.events.EventKind.{EventKind}
use Rattle.broker_sockets.specs.declared.events.EventKind.TheVariants.{Started, Opened, Piece, Room, Closed, Tick}
use Rattle.broker_sockets.specs.declared.events.Output.{Output}
use Rattle.broker_sockets.specs.declared.events.Output.TheVariants.{Send, Close}
use Rattle.mqtt_packets.specs.declared.fault.PacketFault.TheVariants.{Malformed}
use Rattle.door_mqtt3.specs.Client.{AreSpelled, IsSpelled, Notice}
use Rattle.mqtt_packets.specs.declared.packet.Packet.{Packet}
use Rattle.mqtt_packets.specs.Written.{HasSpelling, written}
use Rattle.door_mqtt3.specs.Client.Notice.{Asks, Faults, Same}
use Rattle.door_mqtt3.specs.Doing.{Appends}
use Rattle.door_mqtt3.specs.Knowing.{IsComing, IsGot}
use Rattle.door_mqtt3.specs.Stages.{AreDealt, Dealing, Effect, Happening, IsBut, IsDealt, IsPath, Outgoing, effect, gave, given_one, goes_on, has_ended, met_by, met_in, met_one, of_output, on, out_in, piece_of, sent_if, stage_after, stage_of, told_if}
use Rattle.door_mqtt3.specs.Stages.Happening.{Opens, Goes, Comes, GoesOn, Gets, Closes, Ends}
use Rattle.door_mqtt3.specs.Stages.Dealing.{Gives}
use Rattle.door_mqtt3.specs.Stages.Outgoing.{Bytes, End}
use Rattle.door_mqtt3.specs.Telling.{ArePaths, IsMet, IsPut, at_one, giving, is_held, none_dealt, none_met, telling}
use Rattle.door_mqtt3.specs.declared.clients.Clients.{Clients}
use Rattle.door_mqtt3.specs.declared.clients.Stage.{Stage}
use Rattle.door_mqtt3.specs.declared.clients.Stage.TheVariants as stages
use Rattle.door_mqtt3.specs.declared.taken.Taken.{Taken}

-- bytes of an event, or of what goes out
abbrev pub Buffer : Type 0
Buffer = Vec ℕ Global

-- ---- one behind the other

pub spelled_then : (ns ms : List Notice) (xs ys : List ℕ) → AreSpelled ns xs → AreSpelled ms ys → AreSpelled (ns ++ ms) (xs ++ ys)
spelled_then [] ms xs ys none more = subst (λ (zs : List ℕ). AreSpelled ms (zs ++ ys)) (sym none) more
spelled_then (n ∷ ns) ms xs ys (front, back, is, one, all) more =
    (front, back ++ ys, ap (λ (zs : List ℕ). zs ++ ys) is ∙ append_assoc front back ys, one, spelled_then ns ms back ys all more)

pub spelled_one : (n : Notice) (xs : List ℕ) → IsSpelled n xs → AreSpelled (n ∷ []) xs
spelled_one n xs is = (xs, [], sym (append-nil xs), is, refl)

stage_then : (s : Option Stage) (hs gs : List Happening) → stage_after s (hs ++ gs) ≡ stage_after (stage_after s hs) gs
stage_then s [] gs = refl
stage_then s (h ∷ hs) gs = stage_then (effect s h).stage hs gs

dealt_then : (s : Option Stage) (hs gs : List Happening) (xs ys : List Dealing) → AreDealt s hs xs → AreDealt (stage_after s hs) gs ys → AreDealt s (hs ++ gs) (xs ++ ys)
dealt_then s [] gs xs ys none more = subst (λ (zs : List Dealing). AreDealt s gs (zs ++ ys)) (sym none) more
dealt_then s (h ∷ hs) gs xs ys (front, back, is, one, all) more =
    (front, back ++ ys, ap (λ (zs : List Dealing). zs ++ ys) is ∙ append_assoc front back ys, one, dealt_then (effect s h).stage hs gs back ys all more)

out_then : (s : Option Stage) (hs gs : List Happening) → out_in s (hs ++ gs) ≡ out_in s hs ++ out_in (stage_after s hs) gs
out_then s [] gs = refl
out_then s (h ∷ hs) gs =
    ap (λ (os : List Outgoing). (effect s h).out ++ os) (out_then (effect s h).stage hs gs)
    ∙ sym (append_assoc (effect s h).out (out_in (effect s h).stage hs) (out_in (stage_after (effect s h).stage hs) gs))

pub on_then : (q : ℕ) (xs ys : List Output) → on q (xs ++ ys) ≡ on q xs ++ on q ys
on_then q xs ys = flat_map-append (of_output q) xs ys

pub path_none : (q : ℕ) (s : Option Stage) (o : List Output) → IsPath q s s [] [] o o
path_none q s o = record { happenings = []; stage = refl; comes = refl; deals = refl; sends = sym (append-nil (on q o)) }

pub path_then : (q : ℕ) (s m s' : Option Stage) (met met' : List Happening) (dealt dealt' : List Dealing) (o p r : List Output)
    → IsPath q s m met dealt o p → IsPath q m s' met' dealt' p r → IsPath q s s' (met ++ met') (dealt ++ dealt') o r
path_then q s m s' met met' dealt dealt' o p r a b =
    let hs = a.happenings in
    let gs = b.happenings in
    let behind : stage_after m gs ≡ stage_after (stage_after s hs) gs = ap (λ (x : Option Stage). stage_after x gs) a.stage in
    record {
      happenings = hs ++ gs;
      stage = b.stage ∙ behind ∙ sym (stage_then s hs gs);
      comes = flat_map-append met_one hs gs ∙ ap (λ (xs : List Happening). xs ++ met_in gs) a.comes ∙ ap (λ (xs : List Happening). met ++ xs) b.comes;
      deals = dealt_then s hs gs dealt dealt' a.deals (subst (λ (x : Option Stage). AreDealt x gs dealt') a.stage b.deals);
      sends =
          b.sends ∙ ap (λ (xs : List Outgoing). xs ++ out_in m gs) a.sends ∙ append_assoc (on q o) (out_in s hs) (out_in m gs)
          ∙ ap (λ (x : Option Stage). on q o ++ (out_in s hs ++ out_in x gs)) a.stage ∙ ap (λ (xs : List Outgoing). on q o ++ xs) (sym (out_then s hs gs));
    }

pub path_one : (q : ℕ) (s : Option Stage) (h : Happening) (met : List Happening) (dealt : List Dealing) (o p : List Output) → met_one h ≡ met → IsDealt s h dealt
    → on q p ≡ on q o ++ (effect s h).out → IsPath q s (effect s h).stage met dealt o p
path_one q s h met dealt o p meets deals goes = record {
  happenings = h ∷ [];
  stage = refl;
  comes = append-nil (met_one h) ∙ meets;
  deals = (dealt, [], sym (append-nil dealt), deals, refl);
  sends = goes ∙ ap (λ (xs : List Outgoing). on q o ++ xs) (sym (append-nil (effect s h).out));
}

-- nothing is told of it, or nothing is given at it
none_told : (s : Option Stage) (h : Happening) (dealt : List Dealing) → AreSpelled (effect s h).told [] → dealt ≡ gave (given_one h) → IsDealt s h dealt
none_told s h dealt tells is = ([], tells, is)

none_given : (s : Option Stage) (h : Happening) (bytes : List ℕ) (dealt : List Dealing) → AreSpelled (effect s h).told bytes → given_one h ≡ [] → dealt ≡ told_if bytes → IsDealt s h dealt
none_given s h bytes dealt tells none is =
    (bytes, tells, is ∙ sym (append-nil (told_if bytes)) ∙ ap (λ (xs : List Outgoing). told_if bytes ++ gave xs) (sym none))

-- ---- one thing on one connection

-- nothing of it is for this one
pub record IsApart (q : ℕ) (met : List Happening) (dealt : List Dealing) (o p : List Output) : Type 0 where
  pub meets : met ≡ []
  pub deals : dealt ≡ []
  pub sends : on q p ≡ on q o

apart_path : (q : ℕ) (s s' : Option Stage) (met : List Happening) (dealt : List Dealing) (o p : List Output) → s' ≡ s → IsApart q met dealt o p → IsPath q s s' met dealt o p
apart_path q s s' met dealt o p same a = record {
  happenings = [];
  stage = same;
  comes = sym a.meets;
  deals = a.deals;
  sends = a.sends ∙ sym (append-nil (on q o));
}

module _ (c : ℕ) (h : Happening) (k k' : Clients) (met : ℕ → List Happening) (dealt : ℕ → List Dealing) (o p : List Output) where
  but_at : (q : ℕ) (b : Bool) → (c == q) ≡ b → IsBut c (effect (stage_of k c) h).stage k k' → IsPath c (stage_of k c) (effect (stage_of k c) h).stage (met c) (dealt c) o p
      → ((c == q) ≡ false → IsApart q (met q) (dealt q) o p) → IsPath q (stage_of k q) (stage_of k' q) (met q) (dealt q) o p
  but_at q true e is one apart =
      let here : IsPath c (stage_of k c) (stage_of k' c) (met c) (dealt c) o p = subst (λ (x : Option Stage). IsPath c (stage_of k c) x (met c) (dealt c) o p) (sym is.at) one in
      subst (λ (n : ℕ). IsPath n (stage_of k n) (stage_of k' n) (met n) (dealt n) o p) (eqb-true c q e) here
  but_at q false e is one apart = apart_path q (stage_of k q) (stage_of k' q) (met q) (dealt q) o p (is.others q e) (apart e)

  pub but : IsBut c (effect (stage_of k c) h).stage k k' → met_one h ≡ met c → IsDealt (stage_of k c) h (dealt c)
      → on c p ≡ on c o ++ (effect (stage_of k c) h).out → ((q : ℕ) → (c == q) ≡ false → IsApart q (met q) (dealt q) o p) → ArePaths met dealt k k' o p
  but is meets deals goes apart q = but_at q (c == q) refl is (path_one c (stage_of k c) h (met c) (dealt c) o p meets deals goes) (apart q)

pub paths_none : (k : Clients) (o : List Output) → ArePaths none_met none_dealt k k o o
paths_none k o q = path_none q (stage_of k q) o

pub paths_then : (k m k' : Clients) (met met' : ℕ → List Happening) (dealt dealt' : ℕ → List Dealing) (o p r : List Output)
    → ArePaths met dealt k m o p → ArePaths met' dealt' m k' p r → ArePaths (λ q. met q ++ met' q) (λ q. dealt q ++ dealt' q) k k' o r
paths_then k m k' met met' dealt dealt' o p r a b q = path_then q (stage_of k q) (stage_of m q) (stage_of k' q) (met q) (met' q) (dealt q) (dealt' q) o p r (a q) (b q)

-- with other words for the same
pub paths_as : (k k' : Clients) (met met' : ℕ → List Happening) (dealt dealt' : ℕ → List Dealing) (o p : List Output) → ((q : ℕ) → met q ≡ met' q) → ((q : ℕ) → dealt q ≡ dealt' q)
    → ArePaths met dealt k k' o p → ArePaths met' dealt' k k' o p
paths_as k k' met met' dealt dealt' o p e f a q =
    let first : IsPath q (stage_of k q) (stage_of k' q) (met' q) (dealt q) o p = subst (λ (m : List Happening). IsPath q (stage_of k q) (stage_of k' q) m (dealt q) o p) (e q) (a q) in
    subst (λ (d : List Dealing). IsPath q (stage_of k q) (stage_of k' q) (met' q) d o p) (f q) first

-- what is given, and more
paths_given_as : (q : ℕ) (xs ys : List Output) → giving xs q ++ giving ys q ≡ giving (xs ++ ys) q
paths_given_as q xs ys = sym (ap gave (on_then q xs ys) ∙ map-append Gives (on q xs) (on q ys))

pub paths_given : (k m k' : Clients) (xs ys : List Output) (o p r : List Output) → ArePaths none_met (giving xs) k m o p → ArePaths none_met (giving ys) m k' p r → ArePaths none_met (giving (xs ++ ys)) k k' o r
paths_given k m k' xs ys o p r a b =
    paths_as k k' none_met none_met (λ q. giving xs q ++ giving ys q) (giving (xs ++ ys)) o r (λ q. refl) (λ q. paths_given_as q xs ys)
    (paths_then k m k' none_met none_met (giving xs) (giving ys) o p r a b)

-- ---- its cases

itself : (c : ℕ) → (c == c) ≡ true
itself c = eq-eqb c c refl

send_here : (c : ℕ) (bytes : Buffer) → on c (Send c bytes ∷ []) ≡ Bytes bytes.items ∷ []
send_here c bytes = rw (itself c) refl

send_there : (c q : ℕ) (bytes : Buffer) → (c == q) ≡ false → on q (Send c bytes ∷ []) ≡ []
send_there c q bytes e = rw e refl

close_here : (c : ℕ) → on c (Close c ∷ []) ≡ End ∷ []
close_here c = rw (itself c) refl

close_there : (c q : ℕ) → (c == q) ≡ false → on q (Close c ∷ []) ≡ []
close_there c q e = rw e refl

-- nothing is put
pub put_none : (c : ℕ) (bytes : List ℕ) (o : List Output) → (length bytes == 0) ≡ true → IsPut c bytes o o
put_none c [] o none = record { here = sym (append-nil (on c o)); there = λ q e. refl }
put_none c (b ∷ bytes) o none = let e : length (b ∷ bytes) ≡ 0 = eqb-true (length (b ∷ bytes)) 0 none in absurd (omega arith)

some_sent : (xs : List ℕ) → (length xs == 0) ≡ false → Bytes xs ∷ [] ≡ sent_if xs
some_sent [] some = absurd cc
some_sent (x ∷ xs) some = rw some refl

-- bytes are put
pub put_some : (c : ℕ) (bytes : Buffer) (o p : List Output) → (length bytes.items == 0) ≡ false → p ≡ o ++ Send c bytes ∷ [] → IsPut c bytes.items o p
put_some c bytes o p some is = record {
  here = ap (on c) is ∙ on_then c o (Send c bytes ∷ []) ∙ ap (λ (xs : List Outgoing). on c o ++ xs) (send_here c bytes ∙ some_sent bytes.items some);
  there = λ q e. ap (on q) is ∙ on_then q o (Send c bytes ∷ []) ∙ ap (λ (xs : List Outgoing). on q o ++ xs) (send_there c q bytes e) ∙ append-nil (on q o);
}

-- what is given for a client of an earlier version
gets_case : (c : ℕ) (bytes : Buffer) (k k' : Clients) (o p : List Output) (sent : List ℕ) (s : Option Stage) → stage_of k c ≡ s → is_some s ≡ true → IsGot s c bytes.items sent k k' → IsPut c sent o p
    → ArePaths none_met (giving (Send c bytes ∷ [])) k k' o p
gets_case c bytes k k' o p sent None at some got_so put = absurd cc
gets_case c bytes k k' o p sent (Some s) at some got_so put =
    let is : effect (stage_of k c) (Gets bytes.items) ≡ effect (Some s) (Gets bytes.items) = ap (λ (x : Option Stage). effect x (Gets bytes.items)) at in
    but c (Gets bytes.items) k k' none_met (giving (Send c bytes ∷ [])) o p
    (subst (λ (x : Option Stage). IsBut c x k k') (ap (λ (e : Effect). e.stage) (sym is)) got_so.0) refl
    (none_told (stage_of k c) (Gets bytes.items) (giving (Send c bytes ∷ []) c) (subst (λ (e : Effect). AreSpelled e.told []) (sym is) refl) (ap gave (send_here c bytes)))
    (put.here ∙ ap (λ (xs : List ℕ). on c o ++ sent_if xs) got_so.1 ∙ ap (λ (e : Effect). on c o ++ e.out) (sym is))
    (λ q e. record { meets = refl; deals = ap gave (send_there c q bytes e); sends = put.there q e })

pub gets_path : (c : ℕ) (bytes : Buffer) (k k' : Clients) (o p : List Output) (sent : List ℕ) → is_some (stage_of k c) ≡ true → IsGot (stage_of k c) c bytes.items sent k k' → IsPut c sent o p
    → ArePaths none_met (giving (Send c bytes ∷ [])) k k' o p
gets_path c bytes k k' o p sent some got_so put = gets_case c bytes k k' o p sent (stage_of k c) refl some got_so put

-- what is given for a client of MQTT 5.0
sends_case : (c : ℕ) (bytes : Buffer) (k : Clients) (o p : List Output) (s : Option Stage) → stage_of k c ≡ s → is_some s ≡ false → p ≡ o ++ Send c bytes ∷ [] → ArePaths none_met (giving (Send c bytes ∷ [])) k k o p
sends_case c bytes k o p (Some s) at none is = absurd cc
sends_case c bytes k o p None at none is =
    let same : effect (stage_of k c) (Gets bytes.items) ≡ effect None (Gets bytes.items) = ap (λ (x : Option Stage). effect x (Gets bytes.items)) at in
    but c (Gets bytes.items) k k none_met (giving (Send c bytes ∷ [])) o p
    (record { at = at ∙ ap (λ (e : Effect). e.stage) (sym same); others = λ q e. refl }) refl
    (none_told (stage_of k c) (Gets bytes.items) (giving (Send c bytes ∷ []) c) (subst (λ (e : Effect). AreSpelled e.told []) (sym same) refl) (ap gave (send_here c bytes)))
    (ap (on c) is ∙ on_then c o (Send c bytes ∷ []) ∙ ap (λ (xs : List Outgoing). on c o ++ xs) (send_here c bytes) ∙ ap (λ (e : Effect). on c o ++ e.out) (sym same))
    (λ q e. record {
      meets = refl;
      deals = ap gave (send_there c q bytes e);
      sends = ap (on q) is ∙ on_then q o (Send c bytes ∷ []) ∙ ap (λ (xs : List Outgoing). on q o ++ xs) (send_there c q bytes e) ∙ append-nil (on q o);
    })

pub sends_path : (c : ℕ) (bytes : Buffer) (k : Clients) (o p : List Output) (output : Output) → output ≡ Send c bytes → is_some (stage_of k c) ≡ false → p ≡ o ++ Send c bytes ∷ [] → ArePaths none_met (giving (output ∷ [])) k k o p
sends_path c bytes k o p output same none is =
    subst (λ (x : Output). ArePaths none_met (giving (x ∷ [])) k k o p) (sym same) (sends_case c bytes k o p (stage_of k c) refl none is)

-- the same for a client of an earlier version
pub known_path : (c : ℕ) (bytes : Buffer) (k k' : Clients) (o p : List Output) (output : Output) → output ≡ Send c bytes → ArePaths none_met (giving (Send c bytes ∷ [])) k k' o p → ArePaths none_met (giving (output ∷ [])) k k' o p
known_path c bytes k k' o p output same paths = subst (λ (x : Output). ArePaths none_met (giving (x ∷ [])) k k' o p) (sym same) paths

-- the handler inside closes it
pub closes_path : (c : ℕ) (k k' : Clients) (o p : List Output) (output : Output) → output ≡ Close c → IsBut c None k k' → p ≡ o ++ Close c ∷ [] → ArePaths none_met (giving (output ∷ [])) k k' o p
closes_path c k k' o p output same but_one is =
    subst (λ (x : Output). ArePaths none_met (giving (x ∷ [])) k k' o p) (sym same)
    (but c Closes k k' none_met (giving (Close c ∷ [])) o p but_one refl (none_told (stage_of k c) Closes (giving (Close c ∷ []) c) refl (ap gave (close_here c)))
    (ap (on c) is ∙ on_then c o (Close c ∷ []) ∙ ap (λ (xs : List Outgoing). on c o ++ xs) (close_here c))
    (λ q e. record {
      meets = refl;
      deals = ap gave (close_there c q e);
      sends = ap (on q) is ∙ on_then q o (Close c ∷ []) ∙ ap (λ (xs : List Outgoing). on q o ++ xs) (close_there c q e) ∙ append-nil (on q o);
    }))

piece_here : (c : ℕ) (bytes : Buffer) → piece_of c (Piece c bytes) ≡ bytes.items
piece_here c bytes = rw (itself c) refl

pub piece_there : (c q : ℕ) (bytes : Buffer) → (c == q) ≡ false → piece_of q (Piece c bytes) ≡ []
piece_there c q bytes e = rw e refl

one_here : (c : ℕ) (h : Happening) → at_one c h c ≡ h ∷ []
one_here c h = rw (itself c) refl

one_there : (c q : ℕ) (h : Happening) → (c == q) ≡ false → at_one c h q ≡ []
one_there c q h e = rw e refl

-- bytes come
pub comes_path : (c : ℕ) (bytes : Buffer) (k k' : Clients) (o p : List Output) (taken : Taken) → IsComing c bytes.items taken k k' → IsPut c taken.first.items o p
    → ArePaths (at_one c (Comes bytes.items)) (telling (Piece c taken.told)) k k' o p
comes_path c bytes k k' o p taken come put =
    but c (Comes bytes.items) k k' (at_one c (Comes bytes.items)) (telling (Piece c taken.told)) o p come.stage (sym (one_here c (Comes bytes.items)))
    (none_given (stage_of k c) (Comes bytes.items) taken.told.items (telling (Piece c taken.told) c) come.told refl (ap told_if (piece_here c taken.told)))
    (put.here ∙ ap (λ (xs : List ℕ). on c o ++ sent_if xs) come.first)
    (λ q e. record { meets = one_there c q (Comes bytes.items) e; deals = ap told_if (piece_there c q taken.told e); sends = put.there q e })

-- what was held back is handed on
pub goes_on_path : (c : ℕ) (told : Buffer) (k k' : Clients) (o : List Output) → AreSpelled (goes_on (stage_of k c)).told told.items → IsBut c (goes_on (stage_of k c)).stage k k'
    → ArePaths (at_one c GoesOn) (telling (Piece c told)) k k' o o
goes_on_path c told k k' o tells is =
    but c GoesOn k k' (at_one c GoesOn) (telling (Piece c told)) o o is (sym (one_here c GoesOn))
    (none_given (stage_of k c) GoesOn told.items (telling (Piece c told) c) tells refl (ap told_if (piece_here c told))) (sym (append-nil (on c o)))
    (λ q e. record { meets = one_there c q GoesOn e; deals = ap told_if (piece_there c q told e); sends = refl })

-- bytes come, and then what was held back is handed on
both_case : (b : Bool) (bytes : List ℕ) → cond b (Comes bytes ∷ []) [] ++ cond b (GoesOn ∷ []) [] ≡ cond b (Comes bytes ∷ GoesOn ∷ []) []
both_case true bytes = refl
both_case false bytes = refl

pub both_met : (c q : ℕ) (bytes : Buffer) → at_one c (Comes bytes.items) q ++ at_one c GoesOn q ≡ met_by q (Piece c bytes)
both_met c q bytes = both_case (c == q) bytes.items

-- it has to end
ends_told : (s : Option Stage) → has_ended s ≡ true → AreSpelled (effect s Ends).told (0 ∷ [])
ends_told s over = rw over (spelled_one (Faults Malformed) (0 ∷ []) refl)

pub ends_path : (c : ℕ) (bytes : Buffer) (k : Clients) (o : List Output) → has_ended (stage_of k c) ≡ true → bytes.items ≡ 0 ∷ [] → ArePaths none_met (telling (Piece c bytes)) k k o o
ends_path c bytes k o over zero =
    but c Ends k k none_met (telling (Piece c bytes)) o o (record { at = refl; others = λ q e. refl }) refl
    (none_given (stage_of k c) Ends (0 ∷ []) (telling (Piece c bytes) c) (ends_told (stage_of k c) over) refl (ap told_if (piece_here c bytes ∙ zero))) (sym (append-nil (on c o)))
    (λ q e. record { meets = refl; deals = ap told_if (piece_there c q bytes e); sends = refl })

opens_here : (c : ℕ) → met_by c (Opened c) ≡ Opens ∷ []
opens_here c = rw (itself c) refl

opens_there : (c q : ℕ) → (c == q) ≡ false → met_by q (Opened c) ≡ []
opens_there c q e = rw e refl

goes_here : (c : ℕ) → met_by c (Closed c) ≡ Goes ∷ []
goes_here c = rw (itself c) refl

goes_there : (c q : ℕ) → (c == q) ≡ false → met_by q (Closed c) ≡ []
goes_there c q e = rw e refl

-- it is opened, or gone
pub opens_path : (c : ℕ) (kind : EventKind) (k k' : Clients) → kind ≡ Opened c → IsBut c (Some (stages.Coming [])) k k' → IsMet kind k k'
opens_path c kind k k' same is =
    subst (λ (x : EventKind). IsMet x k k') (sym same)
    (λ o. but c Opens k k' (λ q. met_by q (Opened c)) (telling (Opened c)) o o is (sym (opens_here c)) (none_told (stage_of k c) Opens [] refl refl) (sym (append-nil (on c o)))
    (λ q e. record { meets = opens_there c q e; deals = refl; sends = refl }))

pub goes_path : (c : ℕ) (kind : EventKind) (k k' : Clients) → kind ≡ Closed c → IsBut c None k k' → IsMet kind k k'
goes_path c kind k k' same is =
    subst (λ (x : EventKind). IsMet x k k') (sym same)
    (λ o. but c Goes k k' (λ q. met_by q (Closed c)) (telling (Closed c)) o o is (sym (goes_here c)) (none_told (stage_of k c) Goes [] refl refl) (sym (append-nil (on c o)))
    (λ q e. record { meets = goes_there c q e; deals = refl; sends = refl }))

-- room, a start, or a tick
pub room_path : (c n : ℕ) (kind : EventKind) (k : Clients) → kind ≡ Room c n → IsMet kind k k
room_path c n kind k same = subst (λ (x : EventKind). IsMet x k k) (sym same) (λ o. paths_none k o)

pub started_path : (kind : EventKind) (k : Clients) → kind ≡ Started → IsMet kind k k
started_path kind k same = subst (λ (x : EventKind). IsMet x k k) (sym same) (λ o. paths_none k o)

pub tick_path : (kind : EventKind) (k : Clients) → kind ≡ Tick → IsMet kind k k
tick_path kind k same = subst (λ (x : EventKind). IsMet x k k) (sym same) (λ o. paths_none k o)

-- bytes of a client of MQTT 5.0: nothing of it was held back
plain_comes : (c : ℕ) (bytes : Buffer) (k : Clients) (s : Option Stage) → stage_of k c ≡ s → is_some s ≡ false → (o : List Output) → ArePaths (at_one c (Comes bytes.items)) (telling (Piece c bytes)) k k o o
plain_comes c bytes k (Some s) at none o = absurd cc
plain_comes c bytes k None at none o =
    let same : effect (stage_of k c) (Comes bytes.items) ≡ effect None (Comes bytes.items) = ap (λ (x : Option Stage). effect x (Comes bytes.items)) at in
    let tells : AreSpelled (effect (stage_of k c) (Comes bytes.items)).told bytes.items =
    subst (λ (e : Effect). AreSpelled e.told bytes.items) (sym same) (spelled_one (Same bytes.items) bytes.items refl) in
    but c (Comes bytes.items) k k (at_one c (Comes bytes.items)) (telling (Piece c bytes)) o o
    (record { at = at ∙ ap (λ (e : Effect). e.stage) (sym same); others = λ q e. refl }) (sym (one_here c (Comes bytes.items)))
    (none_given (stage_of k c) (Comes bytes.items) bytes.items (telling (Piece c bytes) c) tells refl (ap told_if (piece_here c bytes)))
    (sym (append-nil (on c o)) ∙ ap (λ (e : Effect). on c o ++ e.out) (sym same))
    (λ q e. record { meets = one_there c q (Comes bytes.items) e; deals = ap told_if (piece_there c q bytes e); sends = refl })

plain_goes : (c : ℕ) (k : Clients) (s : Option Stage) → stage_of k c ≡ s → is_some s ≡ false → (o : List Output) → ArePaths (at_one c GoesOn) none_dealt k k o o
plain_goes c k (Some s) at none o = absurd cc
plain_goes c k None at none o =
    let same : effect (stage_of k c) GoesOn ≡ effect None GoesOn = ap (λ (x : Option Stage). effect x GoesOn) at in
    but c GoesOn k k (at_one c GoesOn) none_dealt o o
    (record { at = at ∙ ap (λ (e : Effect). e.stage) (sym same); others = λ q e. refl }) (sym (one_here c GoesOn))
    (none_told (stage_of k c) GoesOn [] (subst (λ (e : Effect). AreSpelled e.told []) (sym same) refl) refl)
    (sym (append-nil (on c o)) ∙ ap (λ (e : Effect). on c o ++ e.out) (sym same))
    (λ q e. record { meets = one_there c q GoesOn e; deals = refl; sends = refl })

plain_case : (c : ℕ) (bytes : Buffer) (k : Clients) → is_some (stage_of k c) ≡ false → IsMet (Piece c bytes) k k
plain_case c bytes k none o =
    paths_as k k (λ q. at_one c (Comes bytes.items) q ++ at_one c GoesOn q) (λ q. met_by q (Piece c bytes)) (λ q. telling (Piece c bytes) q ++ []) (telling (Piece c bytes)) o o
    (λ q. both_met c q bytes) (λ q. append-nil (telling (Piece c bytes) q))
    (paths_then k k k (at_one c (Comes bytes.items)) (at_one c GoesOn) (telling (Piece c bytes)) none_dealt o o o (plain_comes c bytes k (stage_of k c) refl none o) (plain_goes c k (stage_of k c) refl none o))

pub plain_path : (c : ℕ) (bytes : Buffer) (kind : EventKind) (k : Clients) → kind ≡ Piece c bytes → is_held k kind ≡ false → IsMet kind k k
plain_path c bytes kind k same free =
    let none : is_some (stage_of k c) ≡ false = ap (is_held k) (sym same) ∙ free in
    subst (λ (x : EventKind). IsMet x k k) (sym same) (plain_case c bytes k none)

-- a packet is told
pub asks_spelled : (p : Packet) (b : Bool) (old new : List ℕ) → b ≡ true → IsTrue b ↔ HasSpelling p → new ≡ old ++ written p → Appends (Asks p ∷ []) old new
asks_spelled p false old new e sound is = absurd cc
asks_spelled p true old new e sound is = (written p, is, spelled_one (Asks p) (written p) ((λ has. refl), (λ none. absurd (none (sound.0 refl)))))

pub asks_unspelled : (p : Packet) (b : Bool) (old new : List ℕ) → b ≡ false → IsTrue b ↔ HasSpelling p → new ≡ old ++ 0 ∷ [] → Appends (Asks p ∷ []) old new
asks_unspelled p true old new e sound is = absurd cc
asks_unspelled p false old new e sound is = (0 ∷ [], is, spelled_one (Asks p) (0 ∷ []) ((λ has. absurd (let bad : false ≡ true = sound.1 has in cc)), (λ none. refl)))
