-- Calls, one after another, and what happens on each connection.
use Rattle.std.proofs.Common.{◌≡◌, ℕ, List, [], ◌∷◌, ◌++◌, Option, Some, None, refl, sym, ap, subst, ◌∙◌}
use Rattle.std.proofs.lemmas.List.{append-nil}
use Rattle.std.proofs.lemmas.Grind.{flat_map-append}
use Rattle.std.proofs.lemmas.Option.{same_Some}
use Rattle.broker_sockets.specs.declared.bridge.Given.{Given}
use Rattle.broker_sockets.specs.declared.bridge.PeerEvent.{PeerEvent}
use Rattle.broker_sockets.specs.declared.events.Event.{Event}
use Rattle.broker_sockets.specs.declared.events.Output.{Output}
use Rattle.door_mqtt3.specs.Calls.{AreMade, Call, IsMade, dealt_by, dealt_of, given_at, given_of, met_at, met_of}
use Rattle.door_mqtt3.specs.Calls.Call.{Handled, Heard, Settled}
use Rattle.door_mqtt3.specs.Laws.{EachIsFollowed}
use Rattle.door_mqtt3.specs.Stages.{Dealing, Happening, IsPath, Outgoing, met_by, on, stage_of}
use Rattle.door_mqtt3.specs.Telling.{ArePaths, AreTold, IsAnswered, IsAnsweredIf, IsHeard, IsHeardIf, IsPassedOn, IsSettled, IsTranslated, Told, dealt_at, dealt_in, giving, none_met}
use Rattle.door_mqtt3.specs.declared.clients.Clients.{Clients}
use Rattle.door_mqtt3.specs.declared.clients.Stage.{Stage}
use Rattle.door_mqtt3.specs.declared.handler.Mqtt3.{Mqtt3}
use Rattle.door_mqtt3.proofs.Paths.{on_then, path_none, path_then, paths_as, paths_then}

-- what the handler inside was told, as calls
abbrev as_calls : List Told → List Call
as_calls [] = []
as_calls (t ∷ ts) = Handled t.0 t.1 ∷ as_calls ts

dealt_as : (q : ℕ) (ts : List Told) → dealt_in q ts ≡ dealt_of q (as_calls ts)
dealt_as q [] = refl
dealt_as q (t ∷ ts) = ap (λ (xs : List Dealing). dealt_at q t ++ xs) (dealt_as q ts)

dealt_both : (q : ℕ) (xs ys : List Call) → dealt_of q xs ++ dealt_of q ys ≡ dealt_of q (xs ++ ys)
dealt_both q xs ys = sym (flat_map-append (dealt_by q) xs ys)

-- what goes out is put behind what went out before
moved : (q : ℕ) (s s' : Option Stage) (met : List Happening) (dealt : List Dealing) (p front : List Output) → IsPath q s s' met dealt [] p → IsPath q s s' met dealt front (front ++ p)
moved q s s' met dealt p front a = record {
  happenings = a.happenings;
  stage = a.stage;
  comes = a.comes;
  deals = a.deals;
  sends = on_then q front p ∙ ap (λ (xs : List Outgoing). on q front ++ xs) a.sends;
}

-- the paths of one call, and then of others
pub paths_both : (call : Call) (more xs ys : List Call) (k l k' : Clients) → ArePaths (λ q. met_of q (call ∷ [])) (λ q. dealt_of q xs) k l [] (given_of (call ∷ []))
    → ArePaths (λ q. met_of q more) (λ q. dealt_of q ys) l k' [] (given_of more) → ArePaths (λ q. met_of q (call ∷ more)) (λ q. dealt_of q (xs ++ ys)) k k' [] (given_of (call ∷ more))
paths_both call more xs ys k l k' a b = λ q.
    let second = moved q (stage_of l q) (stage_of k' q) (met_of q more) (dealt_of q ys) (given_of more) (given_of (call ∷ [])) (b q) in
    let joined = path_then q (stage_of k q) (stage_of l q) (stage_of k' q) (met_of q (call ∷ [])) (met_of q more) (dealt_of q xs) (dealt_of q ys) [] (given_of (call ∷ [])) (given_of (call ∷ []) ++ given_of more) (a q) second in
    let met : met_of q (call ∷ []) ++ met_of q more ≡ met_of q (call ∷ more) = ap (λ (xs : List Happening). xs ++ met_of q more) (append-nil (met_at q call)) in
    let given : given_of (call ∷ []) ++ given_of more ≡ given_of (call ∷ more) = ap (λ (xs : List Output). xs ++ given_of more) (append-nil (given_at call)) in
    let one = subst (λ (ms : List Happening). IsPath q (stage_of k q) (stage_of k' q) ms (dealt_of q xs ++ dealt_of q ys) [] (given_of (call ∷ []) ++ given_of more)) met joined in
    let two = subst (λ (ds : List Dealing). IsPath q (stage_of k q) (stage_of k' q) (met_of q (call ∷ more)) ds [] (given_of (call ∷ []) ++ given_of more)) (dealt_both q xs ys) one in
    subst (λ (os : List Output). IsPath q (stage_of k q) (stage_of k' q) (met_of q (call ∷ more)) (dealt_of q (xs ++ ys)) [] os) given two

-- nothing passes
pub paths_still : (k k' : Clients) → k' ≡ k → ArePaths (λ q. []) (λ q. []) k k' [] []
paths_still k k' kept = λ q. subst (λ (x : Clients). IsPath q (stage_of k q) (stage_of x q) [] [] [] []) (sym kept) (path_none q (stage_of k q) [])

module _ {H : Type 0} (handles : H → Event → List Output → H → Type 0) (hears : H → PeerEvent → Given → H → Type 0) (settles : H → H → Type 0) where
  abbrev Inside : List Call → H → H → Type 0
  Inside calls h h' = AreMade handles hears settles calls h h'

  made_then : (xs ys : List Call) (h m h' : H) → Inside xs h m → Inside ys m h' → Inside (xs ++ ys) h h'
  made_then [] ys h m h' same more = subst (λ x. Inside ys x h') same more
  made_then (c ∷ xs) ys h m h' all more = (all.0, all.1, made_then xs ys all.0 m h' all.2 more)

  made_as : (ts : List Told) (h h' : H) → AreTold handles ts h h' → Inside (as_calls ts) h h'
  made_as [] h h' same = same
  made_as (t ∷ ts) h h' all = (all.0, all.1, made_as ts all.0 h' all.2)

  -- one call of the handler that translates: calls of the one inside, and paths
  pub record Followed (calls : List Call) (h h' : H) (k k' : Clients) : Type 0 where
    pub inside : List Call
    pub made : Inside inside h h'
    pub paths : ArePaths (λ q. met_of q calls) (λ q. dealt_of q inside) k k' [] (given_of calls)

  handled : (e : Event) (outputs : List Output) (h h' : H) (k k' : Clients) → IsTranslated handles e h h' k k' outputs → Followed (Handled e outputs ∷ []) h h' k k'
  handled e outputs h h' k k' t = record {
    inside = as_calls t.calls;
    made = made_as t.calls h h' t.told;
    paths = paths_as k k' (λ q. met_by q e.kind) (λ q. met_of q (Handled e outputs ∷ [])) (λ q. dealt_in q t.calls) (λ q. dealt_of q (as_calls t.calls)) [] (given_of (Handled e outputs ∷ []))
        (λ q. sym (append-nil (met_by q e.kind))) (λ q. dealt_as q t.calls)
        (subst (λ (xs : List Output). ArePaths (λ q. met_by q e.kind) (λ q. dealt_in q t.calls) k k' [] xs) (sym (append-nil outputs)) t.paths);
  }

  heard : (e : PeerEvent) (given : Given) (h h' : H) (k k' : Clients) → IsPassedOn handles hears e h h' k k' given → Followed (Heard e given ∷ []) h h' k k'
  heard e given h h' k k' t =
      let more = t.outputs.more in
      let first = t.first.outputs.items in
      let all = paths_then k t.outputs.between k' none_met none_met (giving first) (λ q. dealt_in q more.calls) [] t.outputs.sent given.outputs.items t.outputs.first more.paths in
      record {
        inside = Heard e t.first ∷ as_calls more.calls;
        made = (t.reached, t.heard, made_as more.calls t.reached h' more.told);
        paths = paths_as k k' none_met (λ q. met_of q (Heard e given ∷ [])) (λ q. giving first q ++ dealt_in q more.calls) (λ q. dealt_of q (Heard e t.first ∷ as_calls more.calls)) [] (given_of (Heard e given ∷ []))
            (λ q. refl) (λ q. ap (λ (xs : List Dealing). giving first q ++ xs) (dealt_as q more.calls))
            (subst (λ (xs : List Output). ArePaths none_met (λ q. giving first q ++ dealt_in q more.calls) k k' [] xs) (sym (append-nil given.outputs.items)) all);
      }

  both : (call : Call) (more : List Call) (h m h' : H) (k l k' : Clients) → Followed (call ∷ []) h m k l → Followed more m h' l k' → Followed (call ∷ more) h h' k k'
  both call more h m h' k l k' a b = record {
    inside = a.inside ++ b.inside;
    made = made_then a.inside b.inside h m h' a.made b.made;
    paths = paths_both call more a.inside b.inside k l k' a.paths b.paths;
  }

  none : (h h' : H) (k k' : Clients) → h' ≡ h → k' ≡ k → Followed [] h h' k k'
  none h h' k k' same kept = record { inside = []; made = same; paths = paths_still k k' kept }

  settled : (h h' : H) (k k' : Clients) → settles h h' → k' ≡ k → Followed (Settled ∷ []) h h' k k'
  settled h h' k k' s kept = record { inside = Settled ∷ []; made = (h', s, refl); paths = paths_still k k' kept }

  -- ---- of the handler that translates

  pub answered_case : (c c' : Option Clients) (k : Clients) (e : Event) (outputs : List Output) (h h' : H) → c ≡ Some k → IsAnsweredIf handles c c' e h h' outputs → (k' : Clients) × (c' ≡ Some k') × Followed (Handled e outputs ∷ []) h h' k k'
  answered_case None c' k e outputs h h' is t = absurd cc
  answered_case (Some x) None k e outputs h h' is t = absurd t
  answered_case (Some x) (Some k') k e outputs h h' is t =
      (k', refl, handled e outputs h h' k k' (subst (λ (y : Clients). IsTranslated handles e h h' y k' outputs) (same_Some x k is) t))

  pub heard_case : (c c' : Option Clients) (k : Clients) (e : PeerEvent) (given : Given) (h h' : H) → c ≡ Some k → IsHeardIf handles hears c c' e h h' given → (k' : Clients) × (c' ≡ Some k') × Followed (Heard e given ∷ []) h h' k k'
  heard_case None c' k e given h h' is t = absurd cc
  heard_case (Some x) None k e given h h' is t = absurd t
  heard_case (Some x) (Some k') k e given h h' is t =
      (k', refl, heard e given h h' k k' (subst (λ (y : Clients). IsPassedOn handles hears e h h' y k' given) (same_Some x k is) t))

  abbrev Outside : Call → Mqtt3 H → Mqtt3 H → Type 0
  Outside call d d' = IsMade (IsAnswered handles) (IsHeard handles hears) (IsSettled settles) call d d'

  one : (call : Call) (d d' : Mqtt3 H) (k : Clients) → d.clients ≡ Some k → Outside call d d' → (k' : Clients) × (d'.clients ≡ Some k') × Followed (call ∷ []) d.inside d'.inside k k'
  one (Handled e outputs) d d' k is t = answered_case d.clients d'.clients k e outputs d.inside d'.inside is t
  one (Heard e given) d d' k is t = heard_case d.clients d'.clients k e given d.inside d'.inside is t
  one Settled d d' k is t = (k, t.1 ∙ is, settled d.inside d'.inside k k t.0 refl)

  all : (calls : List Call) (d d' : Mqtt3 H) (k : Clients) → d.clients ≡ Some k → AreMade (IsAnswered handles) (IsHeard handles hears) (IsSettled settles) calls d d' → (k' : Clients) × Followed calls d.inside d'.inside k k'
  all [] d d' k is same = (k, none d.inside d'.inside k k (ap (λ (x : Mqtt3 H). x.inside) same) refl)
  all (call ∷ more) d d' k is made =
      let first = one call d made.0 k is made.1 in
      let rest = all more made.0 d' first.0 first.1 made.2 in
      (rest.0, both call more d.inside made.0.inside d'.inside k first.0 rest.0 first.2 rest.1)

  pub followed : EachIsFollowed handles hears settles (IsAnswered handles) (IsHeard handles hears) (IsSettled settles)
  followed calls d d' k is none_open made =
      let f = all calls d d' k is made in (
        f.1.inside,
        f.1.made,
        λ q.
            let path = f.1.paths q in
            let from : IsPath q None (stage_of f.0 q) (met_of q calls) (dealt_of q f.1.inside) [] (given_of calls) =
            subst (λ (s : Option Stage). IsPath q s (stage_of f.0 q) (met_of q calls) (dealt_of q f.1.inside) [] (given_of calls)) (none_open q) path in
            record { happenings = from.happenings; met = from.comes; dealt = from.deals; out = from.sends },
      )
