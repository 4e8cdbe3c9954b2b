-- Each connection is followed behind a handler that translates.
use Rattle.std.proofs.Common.{◌≡◌, List, [], ◌∷◌, ◌++◌, map, Option, Some, append_assoc, append-nil, refl, sym, ap, subst, ◌∙◌}
use Rattle.std.proofs.lemmas.List.{map-append}
use Rattle.broker_turns.specs.Handling.Told.{Of_client, Of_peer}
use Rattle.door_mqtt3.proofs.Following.{Followed, answered_case, heard_case, paths_both, paths_still}
use Rattle.door_mqtt3.specs.Calls as levels
use Rattle.door_mqtt3.specs.Calls.{dealt_of, given_of, met_of}
use Rattle.door_mqtt3.specs.Stages.{IsPath, stage_of}
use Rattle.door_mqtt3.specs.Telling.{ArePaths}
use Rattle.door_mqtt3.specs.declared.clients.Clients.{Clients}
use Rattle.door_mqtt3.specs.declared.clients.Stage.{Stage}
use Rattle.law_doors.specs.Calls.{ArePassed, Call, Settles, Tells, notes, notes_peer}
use Rattle.law_doors.specs.Levels.{LevelsFollow, Levels_pass, as_level_call}

abbrev notes_settled : List Call → List Call → Type 0
notes_settled xs ys = ys ≡ xs ++ Settles ∷ []

-- what is noted is what was called
noted_calls : (cs : List levels.Call) (xs ys : List Call) → levels.AreMade notes notes_peer notes_settled cs xs ys → map as_level_call ys ≡ map as_level_call xs ++ cs
noted_calls [] xs ys same = ap (λ (zs : List Call). map as_level_call zs) same ∙ sym (append-nil (map as_level_call xs))
noted_calls (levels.Handled e outputs ∷ cs) xs ys all =
    noted_calls cs all.0 ys all.2 ∙ ap (λ (zs : List Call). map as_level_call zs ++ cs) all.1 ∙ ap (λ (zs : List levels.Call). zs ++ cs) (map-append as_level_call xs (Tells (Of_client e outputs) ∷ []))
    ∙ append_assoc (map as_level_call xs) (levels.Handled e outputs ∷ []) cs
noted_calls (levels.Heard e given ∷ cs) xs ys all =
    noted_calls cs all.0 ys all.2 ∙ ap (λ (zs : List Call). map as_level_call zs ++ cs) all.1 ∙ ap (λ (zs : List levels.Call). zs ++ cs) (map-append as_level_call xs (Tells (Of_peer e given) ∷ []))
    ∙ append_assoc (map as_level_call xs) (levels.Heard e given ∷ []) cs
noted_calls (levels.Settled ∷ cs) xs ys all =
    noted_calls cs all.0 ys all.2 ∙ ap (λ (zs : List Call). map as_level_call zs ++ cs) all.1 ∙ ap (λ (zs : List levels.Call). zs ++ cs) (map-append as_level_call xs (Settles ∷ []))
    ∙ append_assoc (map as_level_call xs) (levels.Settled ∷ []) cs

-- paths of these calls
abbrev Paths : List levels.Call → List levels.Call → Clients → Clients → Type 0
Paths calls inside k k' = ArePaths (λ q. met_of q calls) (λ q. dealt_of q inside) k k' [] (given_of calls)

abbrev Ends : List levels.Call → List levels.Call → Clients → Option Clients → Type 0
Ends calls inside k o = (k' : Clients) × (o ≡ Some k') × Paths calls inside k k'

of_followed : (call : levels.Call) (first : List Call) (k k' : Clients) → Followed notes notes_peer notes_settled (call ∷ []) [] first k k' → Paths (call ∷ []) (map as_level_call first) k k'
of_followed call first k k' f =
    let Of : List levels.Call → Type 0 = λ inside. Paths (call ∷ []) inside k k' in
    subst Of (sym (noted_calls f.inside [] first f.made)) f.paths

one : (call : Call) (first : List Call) (k : Clients) (o : Option Clients) → Levels_pass (Some k) call first o → Ends (as_level_call call ∷ []) (map as_level_call first) k o
one (Tells (Of_client e outputs)) first k o is =
    let a = answered_case notes notes_peer notes_settled (Some k) o k e outputs [] first refl is in
    (a.0, a.1, of_followed (levels.Handled e outputs) first k a.0 a.2)
one (Tells (Of_peer e given)) first k o is =
    let a = heard_case notes notes_peer notes_settled (Some k) o k e given [] first refl is in
    (a.0, a.1, of_followed (levels.Heard e given) first k a.0 a.2)
one Settles first k o is =
    let Of : List Call → Type 0 = λ xs. Paths (levels.Settled ∷ []) (map as_level_call xs) k k in
    (k, is.1, subst Of (sym is.0) (paths_still k k refl))

all : (calls inside : List Call) (k : Clients) (o : Option Clients) → ArePassed Levels_pass (Some k) calls inside o → Ends (map as_level_call calls) (map as_level_call inside) k o
all [] inside k o passed =
    let Of : List Call → Type 0 = λ xs. Paths [] (map as_level_call xs) k k in
    (k, passed.1, subst Of (sym passed.0) (paths_still k k refl))
all (call ∷ calls) inside k o passed =
    let first = one call passed.1 k passed.0 passed.3 in
    let From : Option Clients → Type 0 = λ m. ArePassed Levels_pass m calls passed.2 o in
    let rest = all calls passed.2 first.0 o (subst From first.1 passed.4) in
    let Of : List levels.Call → Type 0 = λ xs. Paths (as_level_call call ∷ map as_level_call calls) xs k rest.0 in
    let inside_is : map as_level_call passed.1 ++ map as_level_call passed.2 ≡ map as_level_call inside =
    sym (map-append as_level_call passed.1 passed.2) ∙ ap (λ (xs : List Call). map as_level_call xs) (sym passed.5) in (
      rest.0,
      rest.1,
      subst Of inside_is (paths_both (as_level_call call) (map as_level_call calls) (map as_level_call passed.1) (map as_level_call passed.2) k first.0 rest.0 first.2 rest.2),
    )

pub levels_follow : LevelsFollow
levels_follow k o calls inside none_open passed =
    let f = all calls inside k o passed in
    λ q.
    let path = f.2 q in
    let came = map as_level_call calls in
    let told = map as_level_call inside in
    let From : Option Stage → Type 0 = λ s. IsPath q s (stage_of f.0 q) (met_of q came) (dealt_of q told) [] (given_of came) in
    let from = subst From (none_open q) path in
    record { happenings = from.happenings; met = from.comes; dealt = from.deals; out = from.sends }
