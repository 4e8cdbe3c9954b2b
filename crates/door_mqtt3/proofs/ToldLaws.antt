-- What the handler inside is told, one event after another.
use Rattle.std.proofs.Common.{◌≡◌, arith, inr, ℕ, Bool, cond, true, false, List, [], ◌∷◌, ◌++◌, refl, sym, ap, subst, ◌∙◌, append_assoc}
use Rattle.std.specs.Prelude.{◌==◌, length}
use Rattle.std.specs.List.{AllByRecursion}
use Rattle.std.proofs.lemmas.Bool.{eqb-true}
use Rattle.std.proofs.lemmas.List.{append-nil}
use Rattle.std.proofs.lemmas.Grind.{flat_map-append}
use Rattle.broker_sockets.specs.declared.bridge.Given.{Given}
use Rattle.broker_sockets.specs.declared.bridge.PeerEvent.{PeerEvent}
use Rattle.broker_sockets.specs.declared.events.Event.{Event}
use Rattle.broker_sockets.specs.declared.events.EventKind.{EventKind}
use Rattle.broker_sockets.specs.declared.events.EventKind.TheVariants.{Piece}
use Rattle.broker_sockets.specs.declared.events.Output.{Output}
use Rattle.door_mqtt3.specs.Client.{AreSpelled}
use Rattle.door_mqtt3.specs.Knowing.{IsComing}
use Rattle.door_mqtt3.specs.Stages.{Dealing, Happening, IsBut, gave, goes_on, has_ended, met_by, on, piece_of, stage_of, told_if}
use Rattle.door_mqtt3.specs.Telling.{ArePaths, AreTold, IsGivenOn, IsDeclinedOn, IsMet, IsOwed, IsPart, IsPassedOn, IsPieceAt, IsPut, IsRefusing, IsStopped, IsTelling, IsTold, IsToldOne, IsTranslated, Told, at_one, dealt_at, dealt_in, giving, is_held, is_piece, none_dealt, none_met, telling}
use Rattle.door_mqtt3.specs.Stages.Happening.{Comes, GoesOn}
use Rattle.door_mqtt3.specs.declared.clients.Clients.{Clients}
use Rattle.door_mqtt3.specs.declared.fault.Mqtt3Fault.{Mqtt3Fault}
use Rattle.door_mqtt3.specs.declared.fault.Mqtt3Fault.TheVariants.{NoMemory, Inside}
use Rattle.door_mqtt3.specs.declared.taken.Taken.{Taken}
use Rattle.door_mqtt3.proofs.Paths.{Buffer, both_met, comes_path, ends_path, goes_on_path, paths_as, paths_none, paths_then}

abbrev all_at : ℕ → List Told → Type 0
all_at at calls = AllByRecursion (IsPieceAt at) calls

empty_is : (xs : List ℕ) → (length xs == 0) ≡ true → xs ≡ []
empty_is [] e = refl
empty_is (x ∷ xs) e = let zero : length (x ∷ xs) ≡ 0 = eqb-true (length (x ∷ xs)) 0 e in absurd (omega arith)

empty_case : (xs : List ℕ) (b : Bool) → xs ≡ [] → cond b xs [] ≡ []
empty_case xs true e = e
empty_case xs false e = refl

-- no bytes are owed
empty_piece : (c q : ℕ) (bytes : Buffer) → bytes.items ≡ [] → ◌≡◌ {A = List Dealing} [] (told_if (piece_of q (Piece c bytes)) ++ [])
empty_piece c q bytes none = sym (append-nil (told_if (piece_of q (Piece c bytes))) ∙ ap told_if (empty_case bytes.items (c == q) none))

pub dealt_then : (q : ℕ) (xs ys : List Told) → dealt_in q (xs ++ ys) ≡ dealt_in q xs ++ dealt_in q ys
dealt_then q xs ys = flat_map-append (dealt_at q) xs ys

pub pieces_then : (at : ℕ) (xs ys : List Told) → all_at at xs → all_at at ys → all_at at (xs ++ ys)
pieces_then at [] ys a b = b
pieces_then at (t ∷ xs) ys a b = (a.0, pieces_then at xs ys a.1 b)

module _ {H : Type 0} (handles : H → Event → List Output → H → Type 0) where
  pub told_then : (xs ys : List Told) (h m h' : H) → AreTold handles xs h m → AreTold handles ys m h' → AreTold handles (xs ++ ys) h h'
  told_then [] ys h m h' same more = subst (λ x. AreTold handles ys x h') same more
  told_then (t ∷ xs) ys h m h' all more = (all.0, all.1, told_then xs ys all.0 m h' all.2 more)

  pub telling_none : (at : ℕ) (h : H) (k : Clients) (o : List Output) → IsTelling handles at h h k k o o
  telling_none at h k o = record { calls = []; told = refl; pieces = tt; paths = paths_none k o }

  pub parts_then : (at : ℕ) (met met' : ℕ → List Happening) (h m h' : H) (k l k' : Clients) (o p r : List Output) → IsPart handles at met h m k l o p → IsPart handles at met' m h' l k' p r
      → IsPart handles at (λ q. met q ++ met' q) h h' k k' o r
  parts_then at met met' h m h' k l k' o p r a b = record {
    calls = a.calls ++ b.calls;
    told = told_then a.calls b.calls h m h' a.told b.told;
    pieces = pieces_then at a.calls b.calls a.pieces b.pieces;
    paths = paths_as k k' (λ q. met q ++ met' q) (λ q. met q ++ met' q) (λ q. dealt_in q a.calls ++ dealt_in q b.calls) (λ q. dealt_in q (a.calls ++ b.calls)) o r
        (λ q. refl) (λ q. sym (dealt_then q a.calls b.calls))
        (paths_then k l k' met met' (λ q. dealt_in q a.calls) (λ q. dealt_in q b.calls) o p r a.paths b.paths);
  }

  -- what it is told in one call, and what it gives then
  one_call : (c : ℕ) (bytes : Buffer) (e : Event) (given : List Output) (q : ℕ) → e.kind ≡ Piece c bytes → telling (Piece c bytes) q ++ giving given q ≡ dealt_in q ((e, given) ∷ [])
  one_call c bytes e given q kind = ap (λ (x : EventKind). told_if (piece_of q x) ++ gave (on q given)) (sym kind) ∙ sym (append-nil (dealt_at q (e, given)))

  -- a connection that has to end
  pub telling_last : (at c : ℕ) (bytes : Buffer) (e : Event) (h h' : H) (k k' : Clients) (o p : List Output) → has_ended (stage_of k c) ≡ true → bytes.items ≡ 0 ∷ [] → e ≡ record { at = at; kind = Piece c bytes }
      → IsToldOne handles e h h' k k' o p → IsTelling handles at h h' k k' o p
  telling_last at c bytes e h h' k k' o p over is same t =
      let kind : e.kind ≡ Piece c bytes = ap (λ (x : Event). x.kind) same in
      record {
        calls = (e, t.given) ∷ [];
        told = (h', t.handled, refl);
        pieces = ((ap (λ (x : Event). x.at) same, ap is_piece kind), tt);
        paths = paths_as k k' none_met none_met (λ q. telling (Piece c bytes) q ++ giving t.given q) (λ q. dealt_in q ((e, t.given) ∷ [])) o p (λ q. refl) (λ q. one_call c bytes e t.given q kind)
            (paths_then k k k' none_met none_met (telling (Piece c bytes)) (giving t.given) o o p (ends_path c bytes k o over is) t.paths);
      }

  pub telling_then : (at : ℕ) (h m h' : H) (k l k' : Clients) (o p r : List Output) → IsTelling handles at h m k l o p → IsTelling handles at m h' l k' p r → IsTelling handles at h h' k k' o r
  telling_then at h m h' k l k' o p r a b = parts_then at none_met none_met h m h' k l k' o p r a b

  -- bytes that are owed
  pub owed_none : (at c : ℕ) (bytes : Buffer) (h : H) (k : Clients) (o : List Output) → (length bytes.items == 0) ≡ true → IsOwed handles at (λ q. piece_of q (Piece c bytes)) h h k k o o
  owed_none at c bytes h k o none = record { calls = []; told = refl; pieces = tt; more = none_dealt; deals = λ q. empty_piece c q bytes (empty_is bytes.items none); paths = paths_none k o }

  pub owed_told : (at c : ℕ) (bytes : Buffer) (e : Event) (h h' : H) (k k' : Clients) (o p : List Output) → e ≡ record { at = at; kind = Piece c bytes } → IsTold handles e h h' k k' o p → IsOwed handles at (λ q. piece_of q (Piece c bytes)) h h' k k' o p
  owed_told at c bytes e h h' k k' o p same t =
      let kind : e.kind ≡ Piece c bytes = ap (λ (x : Event). x.kind) same in
      let moment : e.at ≡ at = ap (λ (x : Event). x.at) same in
      record {
        calls = (e, t.first.given) ∷ t.more.calls;
        told = (t.reached, t.first.handled, t.more.told);
        pieces = ((moment, ap is_piece kind), subst (λ (n : ℕ). all_at n t.more.calls) moment t.more.pieces);
        more = λ q. giving t.first.given q ++ dealt_in q t.more.calls;
        deals = λ q.
            append_assoc (told_if (piece_of q e.kind)) (giving t.first.given q) (dealt_in q t.more.calls)
            ∙ ap (λ (x : EventKind). told_if (piece_of q x) ++ (giving t.first.given q ++ dealt_in q t.more.calls)) kind;
        paths = paths_then k t.between k' none_met none_met (giving t.first.given) (λ q. dealt_in q t.more.calls) o t.sent p t.first.paths t.more.paths;
      }

  -- what is owed is told
  owed_part : (at : ℕ) (met : ℕ → List Happening) (owed : ℕ → List ℕ) (h h' : H) (k l k' : Clients) (o p r : List Output) → ArePaths met (λ q. told_if (owed q)) k l o p → IsOwed handles at owed h h' l k' p r
      → IsPart handles at met h h' k k' o r
  owed_part at met owed h h' k l k' o p r first w = record {
    calls = w.calls;
    told = w.told;
    pieces = w.pieces;
    paths = paths_as k k' (λ q. met q ++ none_met q) met (λ q. told_if (owed q) ++ w.more q) (λ q. dealt_in q w.calls) o r (λ q. append-nil (met q)) (λ q. sym (w.deals q))
        (paths_then k l k' met none_met (λ q. told_if (owed q)) w.more o p r first w.paths);
  }

  pub piece_taken : (at c : ℕ) (bytes : Buffer) (taken : Taken) (h h' : H) (k l k' : Clients) (o p r : List Output) → IsComing c bytes.items taken k l → IsPut c taken.first.items o p
      → IsOwed handles at (λ q. piece_of q (Piece c taken.told)) h h' l k' p r → IsPart handles at (at_one c (Comes bytes.items)) h h' k k' o r
  piece_taken at c bytes taken h h' k l k' o p r come put w =
      owed_part at (at_one c (Comes bytes.items)) (λ q. piece_of q (Piece c taken.told)) h h' k l k' o p r (comes_path c bytes k l o p taken come put) w

  pub went_on : (at c : ℕ) (told : Buffer) (h h' : H) (k l k' : Clients) (o r : List Output) → AreSpelled (goes_on (stage_of k c)).told told.items → IsBut c (goes_on (stage_of k c)).stage k l
      → IsOwed handles at (λ q. piece_of q (Piece c told)) h h' l k' o r → IsPart handles at (at_one c GoesOn) h h' k k' o r
  went_on at c told h h' k l k' o r tells is w = owed_part at (at_one c GoesOn) (λ q. piece_of q (Piece c told)) h h' k l k' o o r (goes_on_path c told k l o tells is) w

  -- bytes of a client that isn't known to be of MQTT 5.0
  pub translated_held : (e : Event) (at c : ℕ) (bytes : Buffer) (h m h' : H) (k l k' : Clients) (o p outputs : List Output) → is_held k e.kind ≡ true → at ≡ e.at → e.kind ≡ Piece c bytes → o ≡ []
      → IsPart handles at (at_one c (Comes bytes.items)) h m k l o p → IsPart handles at (at_one c GoesOn) m h' l k' p outputs → IsTranslated handles e h h' k k' outputs
  translated_held e at c bytes h m h' k l k' o p outputs held moment kind none a b =
      let t = parts_then at (at_one c (Comes bytes.items)) (at_one c GoesOn) h m h' k l k' o p outputs a b in
      let met : ℕ → List Happening = λ q. at_one c (Comes bytes.items) q ++ at_one c GoesOn q in
      record {
        calls = t.calls;
        told = t.told;
        events = rw held (subst (λ (n : ℕ). all_at n t.calls) moment t.pieces);
        paths = paths_as k k' met (λ q. met_by q e.kind) (λ q. dealt_in q t.calls) (λ q. dealt_in q t.calls) [] outputs (λ q. both_met c q bytes ∙ ap (met_by q) (sym kind)) (λ q. refl)
            (subst (λ (xs : List Output). ArePaths met (λ q. dealt_in q t.calls) k k' xs outputs) none t.paths);
      }

  -- any other event
  pub translated_told : (e : Event) (h h' : H) (k l k' : Clients) (o outputs : List Output) → is_held k e.kind ≡ false → o ≡ []
      → IsMet e.kind k l → IsTold handles e h h' l k' o outputs → IsTranslated handles e h h' k k' outputs
  translated_told e h h' k l k' o outputs free none met t =
      let calls : List Told = (e, t.first.given) ∷ t.more.calls in
      let after : ArePaths none_met (λ q. giving t.first.given q ++ dealt_in q t.more.calls) l k' o outputs =
      paths_then l t.between k' none_met none_met (giving t.first.given) (λ q. dealt_in q t.more.calls) o t.sent outputs t.first.paths t.more.paths in
      let all : ArePaths (λ q. met_by q e.kind ++ none_met q) (λ q. telling e.kind q ++ (giving t.first.given q ++ dealt_in q t.more.calls)) k k' o outputs =
      paths_then k l k' (λ q. met_by q e.kind) none_met (telling e.kind) (λ q. giving t.first.given q ++ dealt_in q t.more.calls) o o outputs (met o) after in
      record {
        calls = calls;
        told = (t.reached, t.first.handled, t.more.told);
        events = rw free (refl, t.more.pieces);
        paths = paths_as k k' (λ q. met_by q e.kind ++ none_met q) (λ q. met_by q e.kind) (λ q. telling e.kind q ++ (giving t.first.given q ++ dealt_in q t.more.calls)) (λ q. dealt_in q calls) [] outputs
            (λ q. append-nil (met_by q e.kind)) (λ q. sym (append_assoc (telling e.kind q) (giving t.first.given q) (dealt_in q t.more.calls)))
            (subst (λ (xs : List Output). ArePaths (λ q. met_by q e.kind ++ none_met q) (λ q. telling e.kind q ++ (giving t.first.given q ++ dealt_in q t.more.calls)) k k' xs outputs) none all);
      }

  pub given_on : (at : ℕ) (given : List Output) (h h' : H) (k l k' : Clients) (o p outputs : List Output) → o ≡ [] → ArePaths none_met (giving given) k l o p → IsTelling handles at h h' l k' p outputs → IsGivenOn handles at given h h' k k' outputs
  given_on at given h h' k l k' o p outputs none first more = record {
    between = l;
    sent = p;
    first = subst (λ (xs : List Output). ArePaths none_met (giving given) k l xs p) none first;
    more = more;
  }

  -- the same of what other nodes bring about
  pub passed_so : (hears : H → PeerEvent → Given → H → Type 0) (h m h' : H) (e : PeerEvent) (first given : Given) (k k' : Clients) → hears h e first m
      → given.frames ≡ first.frames → IsGivenOn handles e.at first.outputs.items m h' k k' given.outputs.items → IsPassedOn handles hears e h h' k k' given
  passed_so hears h m h' e first given k k' heard frames made = record { first = first; reached = m; heard = heard; frames = frames; outputs = made }

module _ {H F : Type 0} (handles : H → Event → List Output → H → Type 0) (refuses : H → Event → F → H → Type 0) where
  pub refusing_one : (e : Event) (f : F) (h h' : H) → refuses h e f h' → IsRefusing handles refuses e.at f h h'
  refusing_one e f h h' r = record { calls = []; reached = h; told = refl; event = e; moment = refl; refused = r }

  pub refusing_more : (at : ℕ) (f : F) (calls : List Told) (h m h' : H) → AreTold handles calls h m → IsRefusing handles refuses at f m h' → IsRefusing handles refuses at f h h'
  refusing_more at f calls h m h' told r = record {
    calls = calls ++ r.calls;
    reached = r.reached;
    told = told_then handles calls r.calls h m r.reached told r.told;
    event = r.event;
    moment = r.moment;
    refused = r.refused;
  }

  pub stopped_at : (n at : ℕ) (fault : Mqtt3Fault F) (h h' : H) → n ≡ at → IsStopped handles refuses n fault h h' → IsStopped handles refuses at fault h h'
  stopped_at n at fault h h' same s = subst (λ (m : ℕ). IsStopped handles refuses m fault h h') same s

  pub stopped_part : (at : ℕ) (met : ℕ → List Happening) (fault : Mqtt3Fault F) (h m h' : H) (k l : Clients) (o p : List Output) → IsPart handles at met h m k l o p → IsStopped handles refuses at fault m h' → IsStopped handles refuses at fault h h'
  stopped_part at met NoMemory h m h' k l o p a s = tt
  stopped_part at met (Inside f) h m h' k l o p a s = refusing_more at f a.calls h m h' a.told s

  pub stopped_one : (e : Event) (fault : Mqtt3Fault F) (h m h' : H) (k l : Clients) (o p : List Output) → IsToldOne handles e h m k l o p → IsStopped handles refuses e.at fault m h' → IsStopped handles refuses e.at fault h h'
  stopped_one e NoMemory h m h' k l o p t s = tt
  stopped_one e (Inside f) h m h' k l o p t s = refusing_more e.at f ((e, t.given) ∷ []) h m h' (m, t.handled, refl) s

  pub declined_on : (hears : H → PeerEvent → Given → H → Type 0) (declines : H → PeerEvent → F → H → Type 0) (e : PeerEvent) (fault : Mqtt3Fault F) (h m h' : H) (first : Given) → hears h e first m
      → IsStopped handles refuses e.at fault m h' → IsDeclinedOn handles refuses hears declines e fault h h'
  declined_on hears declines e NoMemory h m h' first heard s = tt
  declined_on hears declines e (Inside f) h m h' first heard s = inr (record { first = first; reached = m; heard = heard; refused = s })

  pub stopped_telling : (at : ℕ) (fault : Mqtt3Fault F) (h m h' : H) (k l : Clients) (o p : List Output) → IsTelling handles at h m k l o p → IsStopped handles refuses at fault m h' → IsStopped handles refuses at fault h h'
  stopped_telling at fault h m h' k l o p a s = stopped_part at none_met fault h m h' k l o p a s
