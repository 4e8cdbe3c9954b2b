-- What is given out for a stream is what it takes, and then what waits.
use Rattle.std.proofs.Common.{◌≡◌, ℕ, List, [], ◌∷◌, ◌++◌, ◌&&◌, Bool, true, false, not, if◌then◌else◌, Option, Some, None, append_assoc, append-nil, refl, sym, ap, subst, ◌∙◌}
use Rattle.std.specs.Prelude.{flat_map}
use Rattle.std.specs.List.{AllByRecursion}
use Rattle.broker_sockets.specs.Answers.{carried, left_after}
use Rattle.broker_sockets.specs.declared.network.Answer.{Answer}
use Rattle.broker_sockets.specs.declared.ready.Watched.{Watched}
use Rattle.broker_sockets.specs.declared.ready.Watched.TheVariants as watched
use Rattle.broker_turns.proofs.OrderLaws.{whole}
use Rattle.law_serving.specs.Calls.{Accepts, Accepts_link, Call, Dials, Finds, Lets_go, Reads, Reads_link, Settles, Tells, Through, Watches, Writes}
use Rattle.law_serving.specs.Channels.{Channel, Gift, Goes, IsLetGo, IsLinkRead, IsNew, IsOf, IsRead, IsWritten, gifts_in, given, is_gone, is_same, most, put}
use Rattle.law_serving.specs.Flows.{StreamsTakeWhatIsGiven, for_name, gives, given_for, taken_by, takes, turns, until_end}

join_if : (b : Bool) (bytes : Option (List ℕ)) (all first more : List (Option (List ℕ))) → all ≡ first ++ more → (if b then bytes ∷ all else all) ≡ (if b then bytes ∷ first else first) ++ more
join_if true bytes all first more is = ap (λ (xs : List (Option (List ℕ))). bytes ∷ xs) is
join_if false bytes all first more is = is

for_join : (name : Watched) (xs ys : List Gift) → for_name name (xs ++ ys) ≡ for_name name xs ++ for_name name ys
for_join name [] ys = refl
for_join name (gift ∷ xs) ys = join_if (is_same gift.name name) gift.bytes (for_name name (xs ++ ys)) (for_name name xs) (for_name name ys) (for_join name xs ys)

-- what comes of it where it closes already
abbrev if_open : Bool → List ℕ → List ℕ
if_open true bytes = []
if_open false bytes = bytes

module _ {T : Type 0} where
  -- all that waits, with all that will be given
  abbrev owed : Channel T → List (Option (List ℕ)) → List ℕ
  owed x gifts = x.waits ++ if_open x.closing (until_end gifts)

  put-owed : (bytes : Option (List ℕ)) (gifts : List (Option (List ℕ))) (x : Channel T) → owed (put bytes x) gifts ≡ owed x (bytes ∷ gifts)
  put-owed None gifts x = closed x.closing
    where
      closed : (b : Bool) → x.waits ++ [] ≡ x.waits ++ if_open b []
      closed true = refl
      closed false = refl
  put-owed (Some bytes) gifts x = by x.closing refl
    where
      by : (b : Bool) → x.closing ≡ b → owed (if b then x else record x { waits = x.waits ++ bytes }) gifts ≡ x.waits ++ if_open b (bytes ++ until_end gifts)
      by true shut = ap (λ (c : Bool). x.waits ++ if_open c (until_end gifts)) shut
      by false wide = ap (λ (c : Bool). (x.waits ++ bytes) ++ if_open c (until_end gifts)) wide ∙ append_assoc x.waits bytes (until_end gifts)

  owed-if : (b : Bool) (bytes : Option (List ℕ)) (name : Watched) (gifts : List Gift) (more : List (Option (List ℕ))) (x : Channel T)
      → owed (given name gifts (put bytes x)) more ≡ owed (put bytes x) (for_name name gifts ++ more) → owed (given name gifts x) more ≡ owed x (for_name name gifts ++ more)
      → owed (given name gifts (if b then put bytes x else x)) more ≡ owed x ((if b then bytes ∷ for_name name gifts else for_name name gifts) ++ more)
  owed-if true bytes name gifts more x its others = its ∙ put-owed bytes (for_name name gifts ++ more) x
  owed-if false bytes name gifts more x its others = others

  given-owed : (name : Watched) (gifts : List Gift) (more : List (Option (List ℕ))) (x : Channel T) → owed (given name gifts x) more ≡ owed x (for_name name gifts ++ more)
  given-owed name [] more x = refl
  given-owed name (gift ∷ gifts) more x = owed-if (is_same gift.name name) gift.bytes name gifts more x (given-owed name gifts more (put gift.bytes x)) (given-owed name gifts more x)

  -- one call of a channel that stays
  record Steps (name : Watched) (call : Call T) (x : Channel T) (o : Option (Channel T)) : Type 0 where
    after : Channel T
    is : o ≡ Some after
    owes : (more : List (Option (List ℕ))) → owed x (for_name name (gives call) ++ more) ≡ takes name call ++ owed after more

  same_steps : (name : Watched) (call : Call T) (x : Channel T) (o : Option (Channel T)) → o ≡ Some x → gives call ≡ [] → takes name call ≡ [] → Steps name call x o
  same_steps name call x o same nothing none = record {
    after = x;
    is = same;
    owes = λ more. ap (λ (gs : List Gift). owed x (for_name name gs ++ more)) nothing ∙ ap (λ (bs : List ℕ). bs ++ owed x more) (sym none);
  }

  reads_step : (b : Bool) (name : Watched) (call : Call T) (x : Channel T) (o : Option (Channel T)) (does : Channel T → Option (Channel T) → Type 0)
      → ((v : Option (Channel T)) → does x v → (y : Channel T) × (v ≡ Some y) × (y.waits ≡ x.waits) × (y.closing ≡ x.closing)) → gives call ≡ [] → takes name call ≡ [] → IsOf b does (Some x) o → Steps name call x o
  reads_step true name call x o does keeps nothing none is =
      let y = keeps o is in
      record {
        after = y.0;
        is = y.1;
        owes = λ more.
            ap (λ (gs : List Gift). owed x (for_name name gs ++ more)) nothing ∙ ap (λ (ws : List ℕ). ws ++ if_open x.closing (until_end more)) (sym y.2)
            ∙ ap (λ (c : Bool). y.0.waits ++ if_open c (until_end more)) (sym y.3) ∙ ap (λ (bs : List ℕ). bs ++ owed y.0 more) (sym none);
      }
  reads_step false name call x o does keeps nothing none is = same_steps name call x o is nothing none

  writes_step : (b : Bool) (stream : T) (offered : List ℕ) (answer : Answer) (after : T) (x : Channel T) (o : Option (Channel T)) → IsOf b (IsWritten stream offered answer after) (Some x) o
      → (y : Channel T) × (o ≡ Some y) × ((more : List (Option (List ℕ))) → owed x more ≡ (if b then carried answer offered else []) ++ owed y more)
  writes_step true stream offered answer after x o is = (
    record x { stream = after; waits = left_after answer x.waits; gone = is_gone answer },
    is.now,
    λ more.
        ap (λ (ws : List ℕ). ws ++ if_open x.closing (until_end more)) (sym (whole answer x.waits offered is.first is.within))
        ∙ append_assoc (carried answer offered) (left_after answer x.waits) (if_open x.closing (until_end more)),
  )
  writes_step false stream offered answer after x o is = (x, is, λ more. refl)

  new_step : (b : Bool) (stream : T) (x : Channel T) (o : Option (Channel T)) → b ≡ false → IsNew b stream (Some x) o → o ≡ Some x
  new_step true stream x o differ is = absurd cc
  new_step false stream x o differ is = is

  let_go_step : (b : Bool) (most : ℕ) (asked : Bool) (x : Channel T) (o : Option (Channel T)) → b ≡ false → IsOf b (IsLetGo most asked) (Some x) o → o ≡ Some x
  let_go_step true most asked x o differ is = absurd cc
  let_go_step false most asked x o differ is = is

  one_step : (name : Watched) (call : Call T) (x : Channel T) (o : Option (Channel T)) → turns name call ≡ false → Goes name call (Some x) o → Steps name call x o
  one_step name (Accepts stream) x o differ is = same_steps name (Accepts stream) x o is refl refl
  one_step name (Accepts_link stream) x o differ is = same_steps name (Accepts_link stream) x o is refl refl
  one_step name (Dials address stream) x o differ is = same_steps name (Dials address stream) x o is refl refl
  one_step name (Watches other stream answer) x o differ is = same_steps name (Watches other stream answer) x o (new_step (answer && is_same other name) stream x o differ is) refl refl
  one_step name (Reads key stream answer bytes after) x o differ is =
      reads_step (is_same (watched.Client key) name) name (Reads key stream answer bytes after) x o (IsRead stream answer after) (λ v r. (record x { stream = after; gone = is_gone answer }, r.now, refl, refl)) refl refl is
  one_step name (Reads_link other stream answer bytes frames goes_on after) x o differ is =
      reads_step (is_same other name) name (Reads_link other stream answer bytes frames goes_on after) x o (IsLinkRead stream answer bytes frames goes_on after)
      (λ v r. (record x { stream = after; held = r.held; gone = not goes_on }, r.now, refl, refl)) refl refl is
  one_step name (Writes other stream offered answer after) x o differ is =
      let w = writes_step (is_same other name) stream offered answer after x o is in
      record { after = w.0; is = w.1; owes = w.2 }
  one_step name (Lets_go other asked) x o differ is = same_steps name (Lets_go other asked) x o (let_go_step (is_same other name) (most other) asked x o differ is) refl refl
  one_step name (Finds ready) x o differ is = same_steps name (Finds ready) x o is refl refl
  one_step name (Tells told) x o differ is =
      record { after = given name (gifts_in told) x; is = is.1; owes = λ more. sym (given-owed name (gifts_in told) more x) }
  one_step name Settles x o differ is = same_steps name Settles x o is refl refl

  all_steps : (name : Watched) (calls : List (Call T)) (x x' : Channel T) → Through (Goes name) calls (Some x) (Some x') → AllByRecursion (λ call. turns name call ≡ false) calls
      → owed x (for_name name (flat_map gives calls)) ≡ taken_by name calls ++ owed x' []
  all_steps name [] x x' same differ =
      let is : x' ≡ x = cc in
      ap (λ (y : Channel T). owed y []) (sym is)
  all_steps name (call ∷ calls) x x' all differ =
      let one = one_step name call x all.0 differ.0 all.1 in
      let Rest : Option (Channel T) → Type 0 = λ o. Through (Goes name) calls o (Some x') in
      let rest = all_steps name calls one.after x' (subst Rest one.is all.2) differ.1 in
      ap (λ (gs : List (Option (List ℕ))). owed x gs) (for_join name (gives call) (flat_map gives calls)) ∙ one.owes (for_name name (flat_map gives calls))
      ∙ ap (λ (bs : List ℕ). takes name call ++ bs) rest ∙ sym (append_assoc (takes name call) (taken_by name calls) (owed x' []))

nothing-more : (b : Bool) (xs : List ℕ) → xs ++ if_open b [] ≡ xs
nothing-more true xs = append-nil xs
nothing-more false xs = append-nil xs

pub streams_take_what_is_given : (T : Type 0) → StreamsTakeWhatIsGiven T
streams_take_what_is_given T name calls x x' wide all differ =
    ap (λ (c : Bool). x.waits ++ if_open c (given_for name calls)) (sym wide) ∙ all_steps name calls x x' all differ ∙ ap (λ (bs : List ℕ). taken_by name calls ++ bs) (nothing-more x'.closing x'.waits)
