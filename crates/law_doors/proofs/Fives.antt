-- A client of MQTT 5.0 goes through byte for byte.
use Rattle.std.proofs.Common.{◌≡◌, ℕ, Bool, true, false, cond, List, [], ◌∷◌, ◌++◌, length, map, Option, Some, None, refl, sym, ap, subst, ◌∙◌, append_assoc, arith}
use Rattle.std.specs.Prelude.{◌==◌, flat_map}
use Rattle.std.specs.List.{concat, list_all}
use Rattle.std.proofs.lemmas.Bool.{eqb-true}
use Rattle.std.proofs.lemmas.List.{append-nil}
use Rattle.std.proofs.lemmas.Grind.{flat_map-append}
use Rattle.broker_sockets.specs.declared.bridge.Given.{Given}
use Rattle.broker_sockets.specs.declared.bridge.PeerEvent.{PeerEvent}
use Rattle.broker_sockets.specs.declared.events.Event.{Event}
use Rattle.broker_sockets.specs.declared.events.EventKind.{EventKind}
use Rattle.broker_sockets.specs.declared.events.EventKind.TheVariants.{Started, Opened, Piece, Room, Closed, Tick}
use Rattle.broker_sockets.specs.declared.events.Output.{Output}
use Rattle.mqtt_fields.proofs.Laws.{IsBytes}
use Rattle.mqtt_packets.proofs.GrowLaws.{IsBytes-front}
use Rattle.mqtt3_packets.specs.Version.{version_of}
use Rattle.mqtt3_packets.specs.declared.version.Version.{Version}
use Rattle.mqtt3_packets.specs.declared.version.Version.TheVariants.{Five}
use Rattle.door_mqtt3.specs.Calls as levels
use Rattle.door_mqtt3.specs.Calls.{Call, bytes_of, dealt_of, given_of, met_of}
use Rattle.door_mqtt3.specs.Calls.Call.{Handled, Heard, Settled}
use Rattle.door_mqtt3.specs.Client.{AreSpelled, Notice, limit}
use Rattle.door_mqtt3.specs.Client.Notice.{Same}
use Rattle.door_mqtt3.specs.Laws.{IsFollowed}
use Rattle.door_mqtt3.specs.Stages.{AreDealt, Dealing, Happening, Outgoing, begun, effect, gave, given_one, met_by, met_in, met_one, on, out_in, piece_of, sent_if, told_if}
use Rattle.door_mqtt3.specs.Stages.Dealing.{Tells, Gives}
use Rattle.door_mqtt3.specs.Stages.Happening.{Opens, Goes, Comes, GoesOn, Gets, Closes, Ends}
use Rattle.door_mqtt3.specs.Stages.Outgoing.{Bytes, End}
use Rattle.door_mqtt3.specs.Telling.{IsAnswered, IsHeard, IsSettled}
use Rattle.door_mqtt3.specs.declared.clients.Stage.{Stage}
use Rattle.door_mqtt3.specs.declared.clients.Stage.TheVariants as stages
use Rattle.door_mqtt3.proofs.Following.{followed}
use Rattle.door_mqtt3.proofs.Paths.{on_then}
use Rattle.law_doors.specs.Fives.{FivesGoThrough, GoesThrough, IsOfFive, from_outside, given_untold, is_later}
use Rattle.law_doors.specs.Turns.{bytes_at, bytes_in}
use Rattle.law_doors.proofs.Ordered.{and_both}
use Rattle.law_doors.proofs.Versions.{version_steady}

-- ---- what is told and given

abbrev told_by : Dealing → List ℕ
told_by (Tells bytes) = bytes
told_by (Gives out) = []

abbrev told_in_all : List Dealing → List ℕ
told_in_all dealt = flat_map told_by dealt

abbrev given_by : Dealing → List Outgoing
given_by (Tells bytes) = []
given_by (Gives out) = out ∷ []

abbrev given_in_all : List Dealing → List Outgoing
given_in_all dealt = flat_map given_by dealt

told_gave : (outs : List Outgoing) → told_in_all (gave outs) ≡ []
told_gave [] = refl
told_gave (out ∷ outs) = told_gave outs

given_gave : (outs : List Outgoing) → given_in_all (gave outs) ≡ outs
given_gave [] = refl
given_gave (out ∷ outs) = ap (λ (xs : List Outgoing). out ∷ xs) (given_gave outs)

nothing : (xs : List ℕ) → (length xs == 0) ≡ true → xs ≡ []
nothing [] e = refl
nothing (x ∷ xs) e = let zero : length (x ∷ xs) ≡ 0 = eqb-true (length (x ∷ xs)) 0 e in absurd (omega arith)

told_case : (xs : List ℕ) (b : Bool) → (length xs == 0) ≡ b → told_in_all (cond b [] (Tells xs ∷ [])) ≡ xs
told_case xs true e = sym (nothing xs e)
told_case xs false e = append-nil xs

given_case : (xs : List ℕ) (b : Bool) → given_in_all (cond b [] (Tells xs ∷ [])) ≡ []
given_case xs true = refl
given_case xs false = refl

told_both : (xs ys : List Dealing) → told_in_all (xs ++ ys) ≡ told_in_all xs ++ told_in_all ys
told_both xs ys = flat_map-append told_by xs ys

given_both : (xs ys : List Dealing) → given_in_all (xs ++ ys) ≡ given_in_all xs ++ given_in_all ys
given_both xs ys = flat_map-append given_by xs ys

-- of bytes that are told in one piece, and what is given then
told_one : (bytes : List ℕ) (outs : List Outgoing) → told_in_all (told_if bytes ++ gave outs) ≡ bytes
told_one bytes outs =
    told_both (told_if bytes) (gave outs) ∙ ap (λ (xs : List ℕ). told_in_all (told_if bytes) ++ xs) (told_gave outs) ∙ append-nil (told_in_all (told_if bytes))
    ∙ told_case bytes (length bytes == 0) refl

given_one_piece : (bytes : List ℕ) (outs : List Outgoing) → given_in_all (told_if bytes ++ gave outs) ≡ outs
given_one_piece bytes outs =
    given_both (told_if bytes) (gave outs) ∙ ap (λ (xs : List Outgoing). xs ++ given_in_all (gave outs)) (given_case bytes (length bytes == 0)) ∙ given_gave outs

-- ---- one thing that happens, and more

module _ (dealt front back : List Dealing) (bytes : List ℕ) (outs : List Outgoing) (is : dealt ≡ front ++ back) (first : front ≡ told_if bytes ++ gave outs) where
  told_first : told_in_all dealt ≡ bytes ++ told_in_all back
  told_first =
      ap told_in_all is ∙ told_both front back ∙ ap (λ (xs : List Dealing). told_in_all xs ++ told_in_all back) first
      ∙ ap (λ (xs : List ℕ). xs ++ told_in_all back) (told_one bytes outs)

  given_first : given_in_all dealt ≡ outs ++ given_in_all back
  given_first =
      ap given_in_all is ∙ given_both front back ∙ ap (λ (xs : List Dealing). given_in_all xs ++ given_in_all back) first
      ∙ ap (λ (xs : List Outgoing). xs ++ given_in_all back) (given_one_piece bytes outs)

  -- nothing is told
  dealt_given : bytes ≡ [] → dealt ≡ gave outs ++ back
  dealt_given none = is ∙ ap (λ (xs : List Dealing). xs ++ back) (first ∙ ap (λ (xs : List ℕ). told_if xs ++ gave outs) none)

-- what is told is what came, behind these bytes, and what goes out is what was given
record IsThrough (s : Option Stage) (came : List ℕ) (hs : List Happening) (dealt : List Dealing) : Type 0 where
  told : told_in_all dealt ≡ came ++ bytes_in hs
  sent : given_in_all dealt ≡ out_in s hs

-- ---- a connection of which nothing is known: its client is of MQTT 5.0

free_told : (h : Happening) (bytes : List ℕ) → is_later h ≡ true → AreSpelled (effect None h).told bytes → bytes ≡ bytes_at h
free_told Opens bytes later none = absurd cc
free_told Goes bytes later none = none
free_told GoesOn bytes later none = none
free_told (Gets given) bytes later none = none
free_told Closes bytes later none = none
free_told Ends bytes later none = none
free_told (Comes came) bytes later (front, back, is, same, none) = is ∙ ap (λ (xs : List ℕ). front ++ xs) none ∙ append-nil front ∙ same

free_out : (h : Happening) → is_later h ≡ true → given_one h ≡ (effect None h).out
free_out Opens later = absurd cc
free_out Goes later = refl
free_out GoesOn later = refl
free_out (Gets given) later = refl
free_out Closes later = refl
free_out Ends later = refl
free_out (Comes came) later = refl

free_stage : (h : Happening) → is_later h ≡ true → (effect None h).stage ≡ None
free_stage Opens later = absurd cc
free_stage Goes later = refl
free_stage GoesOn later = refl
free_stage (Gets given) later = refl
free_stage Closes later = refl
free_stage Ends later = refl
free_stage (Comes came) later = refl

free : (hs : List Happening) (dealt : List Dealing) → list_all is_later hs ≡ true → AreDealt None hs dealt → IsThrough None [] hs dealt
free [] dealt later none = record { told = ap told_in_all none; sent = ap given_in_all none }
free (h ∷ hs) dealt later (front, back, is, (bytes, tells, first), all) =
    let both = and_both (is_later h) (list_all is_later hs) later in
    let stays = free_stage h both.0 in
    let more = free hs back both.1 (subst (λ (s : Option Stage). AreDealt s hs back) stays all) in
    record {
      told =
          told_first dealt front back bytes (given_one h) is first ∙ ap (λ (xs : List ℕ). xs ++ told_in_all back) (free_told h bytes both.0 tells)
          ∙ ap (λ (xs : List ℕ). bytes_at h ++ xs) more.told;
      sent =
          given_first dealt front back bytes (given_one h) is first ∙ ap (λ (xs : List Outgoing). xs ++ given_in_all back) (free_out h both.0)
          ∙ ap (λ (xs : List Outgoing). (effect None h).out ++ xs) (more.sent ∙ ap (λ (s : Option Stage). out_in s hs) (sym stays));
    }

-- ---- what comes from outside

met_later : (hs : List Happening) → list_all is_later (from_outside (met_in hs)) ≡ true → list_all is_later hs ≡ true
met_later [] later = refl
met_later (Opens ∷ hs) later = later
met_later (Goes ∷ hs) later = met_later hs later
met_later (Comes bytes ∷ hs) later = met_later hs later
met_later (GoesOn ∷ hs) later = met_later hs later
met_later (Gets bytes ∷ hs) later = met_later hs later
met_later (Closes ∷ hs) later = met_later hs later
met_later (Ends ∷ hs) later = met_later hs later

comes_later : (pieces : List (List ℕ)) (later : List Happening) → list_all is_later later ≡ true → list_all is_later (map Comes pieces ++ later) ≡ true
comes_later [] later once = once
comes_later (bytes ∷ pieces) later once = comes_later pieces later once

-- the first thing, and the others
abbrev head_of : List Happening → Happening
head_of [] = Ends
head_of (h ∷ hs) = h

abbrev tail_of : List Happening → List Happening
tail_of [] = []
tail_of (h ∷ hs) = hs

bytes_of_first : (a b : List ℕ) → Comes a ≡ Comes b → a ≡ b
bytes_of_first a b e = ap bytes_at e

-- ---- a connection whose version isn't told yet

nothing_told : version_of limit [] ≡ None
unfolding version_of
nothing_told = refl

abbrev coming : List ℕ → Option Stage
coming held = Some (stages.Coming held)

-- without more bytes no version is told
no_more : (held : List ℕ) → version_of limit held ≡ None → version_of limit (held ++ []) ≡ Some Five → ⊥
no_more held none five = let bad : None ≡ Some Five = sym none ∙ ap (version_of limit) (sym (append-nil held)) ∙ five in cc

-- nothing is given before something is told
untold_given : (dealt back : List Dealing) (out : Outgoing) → dealt ≡ Gives out ∷ back → given_untold dealt ≡ [] → ⊥
untold_given dealt back out is silent = let bad : out ∷ given_untold back ≡ [] = sym (ap given_untold is) ∙ silent in cc

-- all that is known of such a connection: what is met, and what is dealt
record Knows (held : List ℕ) (pieces : List (List ℕ)) (later hs : List Happening) (dealt : List Dealing) : Type 0 where
  none : version_of limit held ≡ None
  met : from_outside (met_in hs) ≡ map Comes pieces ++ later
  once : list_all is_later later ≡ true
  fits : IsBytes (held ++ concat pieces)
  five : version_of limit (held ++ concat pieces) ≡ Some Five
  silent : given_untold dealt ≡ []

same_is : (a bs : List ℕ) → AreSpelled (Same a ∷ []) bs → bs ≡ a
same_is a bs (front, back, is, same, none) = is ∙ ap (λ (xs : List ℕ). front ++ xs) none ∙ append-nil front ∙ same

-- bytes come: what comes of them, by the version that they tell with those before them
abbrev told_of : List ℕ → Option Version → List Notice
told_of bytes v = (begun bytes v).told

abbrev out_of : List ℕ → Option Version → List Happening → List Outgoing
out_of bytes v hs = sent_if (begun bytes v).first ++ out_in (begun bytes v).stage hs

module _ (held bytes : List ℕ) (hs : List Happening) (dealt front back : List Dealing) (told : List ℕ) (is : dealt ≡ front ++ back) (first : front ≡ told_if told ++ gave [])
    (tells : AreSpelled (told_of (held ++ bytes) (version_of limit (held ++ bytes))) told) where
  waits_on : version_of limit (held ++ bytes) ≡ None → IsThrough (coming (held ++ bytes)) (held ++ bytes) hs back → IsThrough (coming held) held (Comes bytes ∷ hs) dealt
  waits_on none more =
      let nothing_is : told ≡ [] = subst (λ (v : Option Version). AreSpelled (told_of (held ++ bytes) v) told) none tells in
      record {
        told = told_first dealt front back told [] is first ∙ ap (λ (xs : List ℕ). xs ++ told_in_all back) nothing_is ∙ more.told ∙ append_assoc held bytes (bytes_in hs);
        sent = given_first dealt front back told [] is first ∙ subst (λ (v : Option Version). given_in_all back ≡ out_of (held ++ bytes) v hs) (sym none) more.sent;
      }

  goes_through : version_of limit (held ++ bytes) ≡ Some Five → IsThrough None [] hs back → IsThrough (coming held) held (Comes bytes ∷ hs) dealt
  goes_through five more =
      let all : told ≡ held ++ bytes = same_is (held ++ bytes) told (subst (λ (v : Option Version). AreSpelled (told_of (held ++ bytes) v) told) five tells) in
      record {
        told =
            told_first dealt front back told [] is first ∙ ap (λ (xs : List ℕ). xs ++ told_in_all back) all ∙ ap (λ (xs : List ℕ). (held ++ bytes) ++ xs) more.told
            ∙ append_assoc held bytes (bytes_in hs);
        sent = given_first dealt front back told [] is first ∙ subst (λ (v : Option Version). given_in_all back ≡ out_of (held ++ bytes) v hs) (sym five) more.sent;
      }

-- more that is known behind one thing
known_on : (held : List ℕ) (pieces : List (List ℕ)) (later hs : List Happening) (dealt back : List Dealing) → dealt ≡ back → Knows held pieces later hs dealt → Knows held pieces later hs back
known_on held pieces later hs dealt back same k = record { none = k.none; met = k.met; once = k.once; fits = k.fits; five = k.five; silent = ap given_untold (sym same) ∙ k.silent }

abbrev Untils : List Happening → Type 0
Untils hs =
    (held : List ℕ) (pieces : List (List ℕ)) (later : List Happening) (dealt : List Dealing) → Knows held pieces later hs dealt → AreDealt (coming held) hs dealt → IsThrough (coming held) held hs dealt

-- nothing is told, given or met
still : (h : Happening) (hs : List Happening) (held : List ℕ) (dealt back : List Dealing) → bytes_at h ≡ [] → (effect (coming held) h).out ≡ [] → (effect (coming held) h).stage ≡ coming held
    → dealt ≡ back → IsThrough (coming held) held hs back → IsThrough (coming held) held (h ∷ hs) dealt
still h hs held dealt back none_met none_out stays same more = record {
  told = ap told_in_all same ∙ more.told ∙ ap (λ (xs : List ℕ). held ++ (xs ++ bytes_in hs)) (sym none_met);
  sent = ap given_in_all same ∙ more.sent ∙ ap (λ (s : Option Stage). out_in s hs) (sym stays) ∙ ap (λ (xs : List Outgoing). xs ++ out_in (effect (coming held) h).stage hs) (sym none_out);
}

comes_case : (hs : List Happening) → Untils hs → (held bytes : List ℕ) (pieces : List (List ℕ)) (later : List Happening) (dealt front back : List Dealing) (told : List ℕ) → Knows held (bytes ∷ pieces) later (Comes bytes ∷ hs) dealt
    → from_outside (met_in hs) ≡ map Comes pieces ++ later → dealt ≡ front ++ back → front ≡ told_if told ++ gave [] → AreSpelled (told_of (held ++ bytes) (version_of limit (held ++ bytes))) told
    → AreDealt (effect (coming held) (Comes bytes)).stage hs back → (v : Option Version) → version_of limit (held ++ bytes) ≡ v → IsThrough (coming held) held (Comes bytes ∷ hs) dealt
comes_case hs next held bytes pieces later dealt front back told k met is first tells all None e =
    let regrouped : held ++ (bytes ++ concat pieces) ≡ (held ++ bytes) ++ concat pieces = sym (append_assoc held bytes (concat pieces)) in
    let nothing_is : told ≡ [] = subst (λ (v : Option Version). AreSpelled (told_of (held ++ bytes) v) told) e tells in
    let same : dealt ≡ back = dealt_given dealt front back told [] is first nothing_is in
    let known : Knows (held ++ bytes) pieces later hs back = record {
      none = e;
      met = met;
      once = k.once;
      fits = subst IsBytes regrouped k.fits;
      five = ap (version_of limit) (sym regrouped) ∙ k.five;
      silent = ap given_untold (sym same) ∙ k.silent;
    } in
    let more = next (held ++ bytes) pieces later back known (subst (λ (v : Option Version). AreDealt (begun (held ++ bytes) v).stage hs back) e all) in
    waits_on held bytes hs dealt front back told is first tells e more
comes_case hs next held bytes pieces later dealt front back told k met is first tells all (Some v) e =
    let regrouped : held ++ (bytes ++ concat pieces) ≡ (held ++ bytes) ++ concat pieces = sym (append_assoc held bytes (concat pieces)) in
    let front_fits : IsBytes (held ++ bytes) = IsBytes-front (held ++ bytes) (concat pieces) (subst IsBytes regrouped k.fits) in
    let steady : version_of limit ((held ++ bytes) ++ concat pieces) ≡ Some v = version_steady limit (held ++ bytes) (concat pieces) v front_fits e in
    let five : version_of limit (held ++ bytes) ≡ Some Five = e ∙ sym steady ∙ ap (version_of limit) (sym regrouped) ∙ k.five in
    let ends : list_all is_later hs ≡ true = met_later hs (ap (list_all is_later) met ∙ comes_later pieces later k.once) in
    let more = free hs back ends (subst (λ (v : Option Version). AreDealt (begun (held ++ bytes) v).stage hs back) five all) in
    goes_through held bytes hs dealt front back told is first tells five more

comes_by : (hs : List Happening) → Untils hs → (held bytes : List ℕ) (pieces : List (List ℕ)) (later : List Happening) (dealt front back : List Dealing) (told : List ℕ) → Knows held pieces later (Comes bytes ∷ hs) dealt
    → dealt ≡ front ++ back → front ≡ told_if told ++ gave [] → AreSpelled (told_of (held ++ bytes) (version_of limit (held ++ bytes))) told → AreDealt (effect (coming held) (Comes bytes)).stage hs back
    → IsThrough (coming held) held (Comes bytes ∷ hs) dealt
comes_by hs next held bytes [] later dealt front back told k is first tells all = absurd (no_more held k.none k.five)
comes_by hs next held bytes (piece ∷ pieces) later dealt front back told k is first tells all =
    let same : piece ≡ bytes = sym (bytes_of_first bytes piece (ap head_of k.met)) in
    let met : from_outside (met_in hs) ≡ map Comes pieces ++ later = ap tail_of k.met in
    let known : Knows held (bytes ∷ pieces) later (Comes bytes ∷ hs) dealt = subst (λ (xs : List ℕ). Knows held (xs ∷ pieces) later (Comes bytes ∷ hs) dealt) same k in
    comes_case hs next held bytes pieces later dealt front back told known met is first tells all (version_of limit (held ++ bytes)) refl

-- it is opened, or gone: not before its version is told
not_met : (h : Happening) (hs : List Happening) (held : List ℕ) (pieces : List (List ℕ)) (later : List Happening) (dealt : List Dealing) → Knows held pieces later (h ∷ hs) dealt → ((bytes : List ℕ) → h ≡ Comes bytes → ⊥)
    → from_outside (met_in (h ∷ hs)) ≡ h ∷ from_outside (met_in hs) → ⊥
not_met h hs held [] later dealt k other one = no_more held k.none k.five
not_met h hs held (piece ∷ pieces) later dealt k other one = other piece (ap head_of (sym one ∙ k.met))

until : (hs : List Happening) → Untils hs
until [] held [] later dealt k all = absurd (no_more held k.none k.five)
until [] held (piece ∷ pieces) later dealt k all = let bad : [] ≡ Comes piece ∷ (map Comes pieces ++ later) = k.met in absurd cc
until (Opens ∷ hs) held pieces later dealt k all = absurd (not_met Opens hs held pieces later dealt k (λ bytes e. cc) refl)
until (Goes ∷ hs) held pieces later dealt k all = absurd (not_met Goes hs held pieces later dealt k (λ bytes e. cc) refl)
until (Comes bytes ∷ hs) held pieces later dealt k (front, back, is, (told, tells, first), all) = comes_by hs (until hs) held bytes pieces later dealt front back told k is first tells all
until (GoesOn ∷ hs) held pieces later dealt k (front, back, is, (told, tells, first), all) =
    let same : dealt ≡ back = dealt_given dealt front back told [] is first tells in
    let known : Knows held pieces later hs dealt = record { none = k.none; met = k.met; once = k.once; fits = k.fits; five = k.five; silent = k.silent } in
    still GoesOn hs held dealt back refl refl refl same (until hs held pieces later back (known_on held pieces later hs dealt back same known) all)
until (Ends ∷ hs) held pieces later dealt k (front, back, is, (told, tells, first), all) =
    let same : dealt ≡ back = dealt_given dealt front back told [] is first tells in
    let known : Knows held pieces later hs dealt = record { none = k.none; met = k.met; once = k.once; fits = k.fits; five = k.five; silent = k.silent } in
    still Ends hs held dealt back refl refl refl same (until hs held pieces later back (known_on held pieces later hs dealt back same known) all)
until (Gets bytes ∷ hs) held pieces later dealt k (front, back, is, (told, tells, first), all) =
    absurd (untold_given dealt back (Bytes bytes) (dealt_given dealt front back told (Bytes bytes ∷ []) is first tells) k.silent)
until (Closes ∷ hs) held pieces later dealt k (front, back, is, (told, tells, first), all) = absurd (untold_given dealt back End (dealt_given dealt front back told (End ∷ []) is first tells) k.silent)

-- ---- a connection that is opened

-- what is known before it is opened
record Begins (pieces : List (List ℕ)) (later hs : List Happening) (dealt : List Dealing) : Type 0 where
  met : from_outside (met_in hs) ≡ Opens ∷ (map Comes pieces ++ later)
  once : list_all is_later later ≡ true
  fits : IsBytes (concat pieces)
  five : version_of limit (concat pieces) ≡ Some Five
  silent : given_untold dealt ≡ []

-- nothing happens to it before
unopened : (h : Happening) (hs : List Happening) (dealt back : List Dealing) → bytes_at h ≡ [] → (effect None h).out ≡ [] → (effect None h).stage ≡ None → dealt ≡ back → IsThrough None [] hs back
    → IsThrough None [] (h ∷ hs) dealt
unopened h hs dealt back none_met none_out stays same more = record {
  told = ap told_in_all same ∙ more.told ∙ ap (λ (xs : List ℕ). xs ++ bytes_in hs) (sym none_met);
  sent = ap given_in_all same ∙ more.sent ∙ ap (λ (s : Option Stage). out_in s hs) (sym stays) ∙ ap (λ (xs : List Outgoing). xs ++ out_in (effect None h).stage hs) (sym none_out);
}

begins : (hs : List Happening) (pieces : List (List ℕ)) (later : List Happening) (dealt : List Dealing) → Begins pieces later hs dealt → AreDealt None hs dealt → IsThrough None [] hs dealt
begins [] pieces later dealt b all = let bad : [] ≡ Opens ∷ (map Comes pieces ++ later) = b.met in absurd cc
begins (Opens ∷ hs) pieces later dealt b (front, back, is, (told, tells, first), all) =
    let same : dealt ≡ back = dealt_given dealt front back told [] is first tells in
    let known : Knows [] pieces later hs back = record {
      none = nothing_told;
      met = ap tail_of b.met;
      once = b.once;
      fits = b.fits;
      five = b.five;
      silent = ap given_untold (sym same) ∙ b.silent;
    } in
    let more = until hs [] pieces later back known all in
    record { told = ap told_in_all same ∙ more.told; sent = ap given_in_all same ∙ more.sent }
begins (Goes ∷ hs) pieces later dealt b all = let bad : Goes ≡ Opens = ap head_of b.met in absurd cc
begins (Comes bytes ∷ hs) pieces later dealt b all = let bad : Comes bytes ≡ Opens = ap head_of b.met in absurd cc
begins (GoesOn ∷ hs) pieces later dealt b (front, back, is, (told, tells, first), all) =
    let same : dealt ≡ back = dealt_given dealt front back told [] is first tells in
    let known : Begins pieces later hs back = record { met = b.met; once = b.once; fits = b.fits; five = b.five; silent = ap given_untold (sym same) ∙ b.silent } in
    unopened GoesOn hs dealt back refl refl refl same (begins hs pieces later back known all)
begins (Ends ∷ hs) pieces later dealt b (front, back, is, (told, tells, first), all) =
    let same : dealt ≡ back = dealt_given dealt front back told [] is first tells in
    let known : Begins pieces later hs back = record { met = b.met; once = b.once; fits = b.fits; five = b.five; silent = ap given_untold (sym same) ∙ b.silent } in
    unopened Ends hs dealt back refl refl refl same (begins hs pieces later back known all)
begins (Gets bytes ∷ hs) pieces later dealt b (front, back, is, (told, tells, first), all) =
    absurd (untold_given dealt back (Bytes bytes) (dealt_given dealt front back told (Bytes bytes ∷ []) is first tells) b.silent)
begins (Closes ∷ hs) pieces later dealt b (front, back, is, (told, tells, first), all) = absurd (untold_given dealt back End (dealt_given dealt front back told (End ∷ []) is first tells) b.silent)

-- ---- the bytes of calls are those of what happens

bytes_both : (xs ys : List Happening) → bytes_in (xs ++ ys) ≡ bytes_in xs ++ bytes_in ys
bytes_both xs ys = flat_map-append bytes_at xs ys

no_bytes : (h : Happening) (b : Bool) → bytes_at h ≡ [] → ◌≡◌ {A = List ℕ} [] (bytes_in (cond b (h ∷ []) []))
no_bytes h true e = sym (append-nil (bytes_at h) ∙ e)
no_bytes h false e = refl

some_bytes : (bytes : List ℕ) (b : Bool) → cond b bytes [] ≡ bytes_in (cond b (Comes bytes ∷ GoesOn ∷ []) [])
some_bytes bytes true = sym (append-nil bytes)
some_bytes bytes false = refl

kind_bytes : (q : ℕ) (kind : EventKind) → piece_of q kind ≡ bytes_in (met_by q kind)
kind_bytes q Started = refl
kind_bytes q (Opened c) = no_bytes Opens (c == q) refl
kind_bytes q (Piece c bytes) = some_bytes bytes.items (c == q)
kind_bytes q (Room c n) = refl
kind_bytes q (Closed c) = no_bytes Goes (c == q) refl
kind_bytes q Tick = refl

call_bytes : (q : ℕ) (call : Call) → levels.bytes_at q call ≡ bytes_in (levels.met_at q call)
call_bytes q (Handled e outputs) = kind_bytes q e.kind
call_bytes q (Heard e given) = refl
call_bytes q Settled = refl

calls_bytes : (q : ℕ) (calls : List Call) → bytes_of q calls ≡ bytes_in (met_of q calls)
calls_bytes q [] = refl
calls_bytes q (call ∷ calls) =
    ap (λ (xs : List ℕ). xs ++ bytes_of q calls) (call_bytes q call) ∙ ap (λ (xs : List ℕ). bytes_in (levels.met_at q call) ++ xs) (calls_bytes q calls)
    ∙ sym (bytes_both (levels.met_at q call) (met_of q calls))

one_bytes : (h : Happening) → bytes_in (met_one h) ≡ bytes_at h
one_bytes Opens = refl
one_bytes Goes = refl
one_bytes (Comes bytes) = append-nil bytes
one_bytes GoesOn = refl
one_bytes (Gets bytes) = refl
one_bytes Closes = refl
one_bytes Ends = refl

met_bytes : (hs : List Happening) → bytes_in (met_in hs) ≡ bytes_in hs
met_bytes [] = refl
met_bytes (h ∷ hs) =
    bytes_both (met_one h) (met_in hs) ∙ ap (λ (xs : List ℕ). xs ++ bytes_in (met_in hs)) (one_bytes h) ∙ ap (λ (xs : List ℕ). bytes_at h ++ xs) (met_bytes hs)

-- ---- what calls tell and give is what is dealt in them

dealt_told : (q : ℕ) (call : Call) → told_in_all (levels.dealt_by q call) ≡ levels.bytes_at q call
dealt_told q (Handled e outputs) = told_one (piece_of q e.kind) (on q outputs)
dealt_told q (Heard e given) = told_gave (on q given.outputs.items)
dealt_told q Settled = refl

all_told : (q : ℕ) (calls : List Call) → told_in_all (dealt_of q calls) ≡ bytes_of q calls
all_told q [] = refl
all_told q (call ∷ calls) =
    told_both (levels.dealt_by q call) (dealt_of q calls) ∙ ap (λ (xs : List ℕ). xs ++ told_in_all (dealt_of q calls)) (dealt_told q call)
    ∙ ap (λ (xs : List ℕ). levels.bytes_at q call ++ xs) (all_told q calls)

dealt_given_at : (q : ℕ) (call : Call) → given_in_all (levels.dealt_by q call) ≡ on q (levels.given_at call)
dealt_given_at q (Handled e outputs) = given_one_piece (piece_of q e.kind) (on q outputs)
dealt_given_at q (Heard e given) = given_gave (on q given.outputs.items)
dealt_given_at q Settled = refl

all_given : (q : ℕ) (calls : List Call) → given_in_all (dealt_of q calls) ≡ on q (given_of calls)
all_given q [] = refl
all_given q (call ∷ calls) =
    given_both (levels.dealt_by q call) (dealt_of q calls) ∙ ap (λ (xs : List Outgoing). xs ++ given_in_all (dealt_of q calls)) (dealt_given_at q call)
    ∙ ap (λ (xs : List Outgoing). on q (levels.given_at call) ++ xs) (all_given q calls) ∙ sym (on_then q (levels.given_at call) (given_of calls))

-- ---- the law

goes_so : (q : ℕ) (calls inside : List Call) → IsFollowed q calls inside → IsOfFive q calls inside → GoesThrough q calls inside
goes_so q calls inside f five =
    let b : Begins five.pieces five.later f.happenings (dealt_of q inside) =
    record { met = ap from_outside f.met ∙ five.met; once = five.once; fits = five.bytes; five = five.version; silent = five.silent } in
    let t = begins f.happenings five.pieces five.later (dealt_of q inside) b f.dealt in
    record {
      told = sym (all_told q inside) ∙ t.told ∙ sym (calls_bytes q calls ∙ ap bytes_in (sym f.met) ∙ met_bytes f.happenings);
      sent = f.out ∙ sym t.sent ∙ all_given q inside;
    }

module _ {H : Type 0} (handles : H → Event → List Output → H → Type 0) (hears : H → PeerEvent → Given → H → Type 0) (settles : H → H → Type 0) where
  pub fives_go_through : FivesGoThrough handles hears settles (IsAnswered handles) (IsHeard handles hears) (IsSettled settles)
  fives_go_through calls d d' k is none_open made =
      let f = followed handles hears settles calls d d' k is none_open made in
      (f.0, f.1, λ q five. goes_so q calls f.0 (f.2 q) five)
