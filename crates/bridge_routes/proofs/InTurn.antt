-- One pick for each group, by the subscriptions of the member whose turn it is, is one pick for each by all that is live.
use Rattle.std.proofs.Common.{◌≡◌, ◌≢◌, ℕ, zero, suc, ◌+◌, ◌<◌, ◌%◌, Bool, true, false, cond, ◌||◌, ◌&&◌, T, List, [], ◌∷◌, ◌++◌, map as map_list, filter, flat_map, length, get_or, take, drop, slice_get, Option, Some, None, option_map, is_some, ⊎_elim, refl, sym, ap, subst, ◌∙◌, arith}
use Rattle.std.specs.Prelude.{codes}
use Rattle.std.specs.List.{AllByRecursion, IsDistinct, list_any, before_first, after_first, position_or_len}
use Rattle.std.specs.Cmp.{IsTotalOrder, Equal-is, both_ways}
use Rattle.std.specs.Cmp.Lexicographic.{bytes_decides}
use Rattle.std.specs.Ordering.{eq_by_cmp, is_eq, is_lt, ordering_reverse}
use Rattle.std.specs.declared.cmp.Ordering.{Ordering}
use Rattle.std.specs.declared.cmp.Ordering.TheVariants.{Less, Equal, Greater}
use Rattle.std.specs.FinMap.{IsAntisymmetric, find}
use Rattle.std.specs.FinMap.Entries.{below_all, is_sorted, is_some-find, same_entries}
use Rattle.std.specs.FinMap as map
use Rattle.std.proofs.lemmas.Bool.{cases_lt}
use Rattle.std.proofs.lemmas.Bool.Decides.{nat_tests}
use Rattle.std.proofs.lemmas.Cmp.{tied_itself}
use Rattle.std.proofs.Math.Nat.{mod-lt}
use Rattle.std.proofs.lemmas.List.{append-nil, drop_all, length-map, take-append-drop}
use Rattle.std.proofs.lemmas.List.Elements.{filter-append}
use Rattle.std.proofs.lemmas.List.Sums.{passes_at_first, split_at_first}
use Rattle.filter_trie.specs.Selected.{IsSelected}
use Rattle.mqtt_message.specs.declared.message.Message.{Message}
use Rattle.mqtt_topics.specs.Levels.{is_separator}
use Rattle.mqtt_topics.specs.Topics.{IsFilter, IsShared, share_name, share_filter}
use Rattle.mqtt_topics.specs.Matching.{Matches}
use Rattle.subscription_set.specs.Entries.{Entry, same_text}
use Rattle.subscription_set.specs.Filing.{text_cmp}
use Rattle.subscription_set.specs.Members.{AreGroups, AreInTurn, HasLive, clients_of, in_turn, of_client, to_filter}
use Rattle.subscription_set.specs.Standing.{Entries}
use Rattle.subscription_set.proofs.Latest.{any_map, any_one, text_eq}
use Rattle.subscription_set.proofs.Lists.{filter-filter}
use Rattle.subscription_set.proofs.Seating.{same_sorted}
use Rattle.subscription_set.proofs.Spreading.{text_total, text_anti, pair_total, pair_anti}
use Rattle.subscription_set.proofs.Turns.{filter_alike}
use Rattle.subscription_set.proofs.Walking.{selected_filter}
use Rattle.bridge_routes.specs.declared.groups.GroupPick.{GroupPick}
use Rattle.bridge_routes.specs.Copies.{entries_in}
use Rattle.bridge_routes.specs.Gathered.{Group, by_client, by_group, client_of, group_cmp, group_of}
use Rattle.bridge_routes.specs.Picks.{ArePicks, pick_of, picked}
use Rattle.bridge_routes.proofs.Gathering.{some_of, gathered_holds, gathered_rises, holds_all}

and_first : (a b : Bool) → (a && b) ≡ true → a ≡ true
and_first true b e = refl
and_first false b e = cc

and_second : (a b : Bool) → (a && b) ≡ true → b ≡ true
and_second true b e = e
and_second false b e = cc

either : (b : Bool) → (b || true) ≡ true
either true = refl
either false = refl

clash : (b : Bool) → b ≡ true → b ≡ false → ⊥
clash b t f = (let z : true ≡ false = sym t ∙ f in cc)

first_part : (a b : Bool) → T (a && b) → T a
first_part true b p = tt
first_part false b p = absurd p

second_part : (a b : Bool) → T (a && b) → T b
second_part true b p = p
second_part false b p = absurd p

both : (a b : Bool) → T a → T b → T (a && b)
both true b p q = q
both false b p q = p

less : (r : Ordering) → T (is_lt r) → r ≡ Less
less Less p = refl
less Equal p = absurd p
less Greater p = absurd p

some_is : {X : Type 0} (xs ys : List X) → some_of xs ≡ Some ys → xs ≡ ys
some_is [] ys e = absurd cc
some_is (x ∷ xs) ys e = cc

-- ---- a shared filter is its group

separator_is : (b : ℕ) → is_separator b ≡ true → b ≡ 47
separator_is b h = grind (arith, nat_tests)

parted : (t : List ℕ) → after_first is_separator t ≢ [] → t ≡ before_first is_separator t ++ 47 ∷ after_first is_separator t
parted t some =
    let n = position_or_len is_separator t in
    ⊎_elim
    (λ inside. split_at_first is_separator t 47 inside ∙ ap (λ b. before_first is_separator t ++ b ∷ after_first is_separator t) (separator_is (get_or t n 47) (passes_at_first is_separator t 47 inside)))
    (λ past. absurd (some (drop_all (n + 1) t (omega arith))))
    (cases_lt n (length t))

spelled : (f : List ℕ) → IsFilter f → IsShared f → f ≡ codes "$share/" ++ (share_name f ++ 47 ∷ share_filter f)
spelled f is shared = sym (take-append-drop 7 f) ∙ (λ i. sym ((bytes_decides (codes "$share/") (take 7 f)).0 shared) i ++ parted (drop 7 f) (is.share shared).2 i)

abbrev group : List ℕ → Group
group f = (share_name f, share_filter f)

one_filter : (f g : List ℕ) → IsFilter f → IsShared f → IsFilter g → IsShared g → group f ≡ group g → f ≡ g
one_filter f g a s b t same = spelled f a s ∙ (λ i. codes "$share/" ++ ((same i).0 ++ 47 ∷ (same i).1)) ∙ sym (spelled g b t)

group_total : IsTotalOrder group_cmp
group_total = pair_total text_total text_anti text_total text_anti

group_anti : IsAntisymmetric group_cmp
group_anti = pair_anti text_total text_anti text_total text_anti

abbrev is_group : Group → List ℕ → Bool
is_group q f = eq_by_cmp group_cmp q (group f)

the_group : (q : Group) (f : List ℕ) → is_group q f ≡ true → q ≡ group f
the_group q f t = group_anti q (group f) ((Equal-is (group_cmp q (group f))).0 t)

group_itself : (f : List ℕ) → is_group (group f) f ≡ true
group_itself f = ap is_eq (tied_itself group_total (group f))

-- ---- lists

all_in : {X : Type 0} (P : X → Type 0) (xs : List X) → AllByRecursion P xs → (t : X → Bool) → list_any t xs ≡ true → (x : X) × (P x × (t x ≡ true))
all_in P [] h t e = absurd (let no : false ≡ true = e in cc)
all_in {X = X} P (x ∷ xs) h t e = elim (t x) as (λ b. t x ≡ b → (b || list_any t xs) ≡ true → (y : X) × (P y × (t y ≡ true))) [
  | true ↦ λ is _. (x, (h.0, is))
  | false ↦ λ is g. all_in P xs h.1 t g
] refl e

none_kept : {X : Type 0} (p : X → Bool) (xs : List X) → AllByRecursion (λ x. p x ≡ false) xs → filter p xs ≡ []
none_kept p [] h = refl
none_kept p (x ∷ xs) h = ap (λ b. cond b (x ∷ filter p xs) (filter p xs)) h.0 ∙ none_kept p xs h.1

all_kept : {X : Type 0} (p : X → Bool) (xs : List X) → AllByRecursion (λ x. p x ≡ true) xs → filter p xs ≡ xs
all_kept p [] h = refl
all_kept p (x ∷ xs) h = ap (λ b. cond b (x ∷ filter p xs) (filter p xs)) h.0 ∙ ap (λ l. x ∷ l) (all_kept p xs h.1)

passed : {X : Type 0} (p : X → Bool) (xs : List X) → AllByRecursion (λ x. p x ≡ true) (filter p xs)
passed p [] = tt
passed p (x ∷ xs) = elim (p x) as (λ b. p x ≡ b → AllByRecursion (λ y. p y ≡ true) (cond b (x ∷ filter p xs) (filter p xs))) [
  | true ↦ λ is. (is, passed p xs)
  | false ↦ λ is. passed p xs
] refl

-- what holds of all that pass one test holds of those that pass another one too
still : {X : Type 0} (P : X → Type 0) (p : X → Bool) (xs : List X) → AllByRecursion P xs → AllByRecursion P (filter p xs)
still P p [] h = tt
still P p (x ∷ xs) h = elim (p x) as (λ b. AllByRecursion P (cond b (x ∷ filter p xs) (filter p xs))) [ true ↦ (h.0, still P p xs h.1) | false ↦ still P p xs h.1 ]

all_as : {X : Type 0} (P Q : X → Type 0) → ((x : X) → P x → Q x) → (xs : List X) → AllByRecursion P xs → AllByRecursion Q xs
all_as P Q f [] h = tt
all_as P Q f (x ∷ xs) h = (f x h.0, all_as P Q f xs h.1)

at_place : {X Y : Type 0} (g : X → Y) (xs : List X) (n : ℕ) → slice_get (map_list g xs) n ≡ option_map g (slice_get xs n)
at_place g [] n = refl
at_place g (x ∷ xs) zero = refl
at_place g (x ∷ xs) (suc n) = at_place g xs n

there_is : {X : Type 0} (xs : List X) (n : ℕ) → n < length xs → (x : X) × (slice_get xs n ≡ Some x)
there_is [] n lt = absurd (omega arith)
there_is (x ∷ xs) zero lt = (x, refl)
there_is (x ∷ xs) (suc n) lt = there_is xs n (omega arith)

-- the entry in a place of sorted ones is found by its key
module _ {K X : Type 0} {R : K → K → Ordering} (o : IsTotalOrder R) where
  not_below : (k : K) (es : List (K × X)) (n : ℕ) (e : K × X) → T (below_all R k es) → slice_get es n ≡ Some e → R k e.0 ≡ Less
  not_below k [] n e h is = absurd (let no : None ≡ Some e = is in cc)
  not_below k (x ∷ es) zero e h is = subst (λ y. R k y.0 ≡ Less) (let same : x ≡ e = cc in same) (less _ (first_part _ _ h))
  not_below k (x ∷ es) (suc n) e h is = not_below k es n e (second_part _ _ h) is

  found_at : (es : List (K × X)) (n : ℕ) (e : K × X) → T (is_sorted R es) → slice_get es n ≡ Some e → find R e.0 es ≡ Some e.1
  found_at [] n e h is = absurd (let no : None ≡ Some e = is in cc)
  found_at (x ∷ es) zero e h is = subst (λ y. find R y.0 (x ∷ es) ≡ Some y.1) (let same : x ≡ e = cc in same) (ap (λ r. cond (is_eq r) (Some x.1) (find R x.0 es)) (tied_itself o x.0))
  found_at (x ∷ es) (suc n) e h is =
      let below = not_below x.0 es n e (first_part _ _ h) is in
      let past : eq_by_cmp R e.0 x.0 ≡ false = ap is_eq (o.antisymm e.0 x.0 ∙ ap ordering_reverse below) in
      ap (λ b. cond b (Some x.1) (find R e.0 es)) past ∙ found_at es n e (second_part _ _ h) is

-- ---- the clients of subscriptions

abbrev key_is : List ℕ → Entry → Bool
key_is c e = eq_by_cmp text_cmp c (client_of e)

client_keys : (es : List Entry) → map_list (λ e. e.0) (by_client es) ≡ clients_of es
client_keys es =
    let ps = map_list (λ (e : Entry). (client_of e, filter (key_is (client_of e)) es)) es in
    let qs = map_list (λ (e : Entry). (e.client, e)) es in
    same_sorted text_total text_anti (by_client es) (map.entries (map.from_entries {R = text_cmp} qs)) (gathered_rises text_total text_anti client_of es) (map.entries_sorted (map.from_entries {R = text_cmp} qs))
    (λ c.
    let firsts : list_any (eq_by_cmp text_cmp c) (map_list (λ p. p.0) ps) ≡ list_any (key_is c) es = any_map (eq_by_cmp text_cmp c) (λ (p : List ℕ × List Entry). p.0) ps ∙ any_map (λ (p : List ℕ × List Entry). eq_by_cmp text_cmp c p.0) (λ (e : Entry). (client_of e, filter (key_is (client_of e)) es)) es in
    let seconds : list_any (eq_by_cmp text_cmp c) (map_list (λ p. p.0) qs) ≡ list_any (key_is c) es = any_map (eq_by_cmp text_cmp c) (λ (p : List ℕ × Entry). p.0) qs ∙ any_map (λ (p : List ℕ × Entry). eq_by_cmp text_cmp c p.0) (λ (e : Entry). (e.client, e)) es in
    keys_made ps c ∙ firsts ∙ sym (keys_made qs c ∙ seconds))
  where
    keys_made : {X : Type 0} (ps : List (List ℕ × X)) (c : List ℕ) → list_any (eq_by_cmp text_cmp c) (map_list (λ e. e.0) (map.entries (map.from_entries {R = text_cmp} ps))) ≡ list_any (eq_by_cmp text_cmp c) (map_list (λ p. p.0) ps)
    keys_made ps c = sym (map.contains_key-keys (map.from_entries {R = text_cmp} ps) c) ∙ ap is_some (map.get-from_entries text_total ps c) ∙ is_some-find text_cmp c ps

-- all of one client: it is the only one
one_client : (c : List ℕ) (es : List Entry) → AllByRecursion (λ e. key_is c e ≡ true) es → 0 < length es → by_client es ≡ (c, es) ∷ []
one_client c es all some = sym (holds_all text_total text_anti client_of es ((c, es) ∷ []) tt (λ q. by q (eq_by_cmp text_cmp q c) refl))
  where
    kept_some : (xs : List Entry) → 0 < length xs → Some xs ≡ some_of xs
    kept_some [] h = absurd (omega arith)
    kept_some (x ∷ xs) h = refl

    other : (q : List ℕ) → eq_by_cmp text_cmp q c ≡ false → (e : Entry) → key_is c e ≡ true → key_is q e ≡ false
    other q apart e own = ap (eq_by_cmp text_cmp q) (sym (text_anti c e.client ((Equal-is (text_cmp c e.client)).0 own))) ∙ apart

    by : (q : List ℕ) (b : Bool) → eq_by_cmp text_cmp q c ≡ b → cond b (Some es) None ≡ some_of (filter (key_is q) es)
    by q true t = kept_some es some ∙ ap some_of (sym (ap (λ k. filter (key_is k) es) (text_anti q c ((Equal-is (text_cmp q c)).0 t)) ∙ all_kept (key_is c) es all))
    by q false t = ap some_of (sym (none_kept (key_is q) es (all_as (λ e. key_is c e ≡ true) (λ e. key_is q e ≡ false) (other q t) es all)))

by_text : (c : List ℕ) (es : List Entry) → filter (λ (e : Entry). same_text c e.client) es ≡ filter (key_is c) es
by_text c es = filter_alike (λ (e : Entry). same_text c e.client) (key_is c) es (λ e h. sym (text_eq c e.client))

-- the client in its place, among those of all the subscriptions
place_of : (turn : ℕ) (es : List Entry) (c : List ℕ) (x : List Entry) → slice_get (by_client es) (turn % length (by_client es)) ≡ Some (c, x) → slice_get (clients_of es) (turn % length (clients_of es)) ≡ Some c
place_of turn es c x at =
    ap (λ cs. slice_get cs (turn % length cs)) (sym (client_keys es))
    ∙ ap (λ l. slice_get (map_list (λ e. e.0) (by_client es)) (turn % l)) (length-map (by_client es) (λ e. e.0))
    ∙ at_place (λ e. e.0) (by_client es) (turn % length (by_client es))
    ∙ ap (option_map (λ e. e.0)) at

-- the only client has each turn
alone_picked : (turn : ℕ) (own : List Entry) (c : List ℕ) → by_client own ≡ (c, own) ∷ [] → picked turn own ≡ Some (c, own)
alone_picked turn own c alone = ap (λ l. slice_get l (turn % length l)) alone ∙ ap (slice_get ((c, own) ∷ [])) (first turn)
  where
    first : (turn : ℕ) → turn % 1 ≡ 0
    first turn = omega arith

abbrev HasOwn : ℕ → List Entry → Type 0
HasOwn turn es = (own : List Entry) × ((own ≡ in_turn turn es) × ((0 < length own) × (picked turn es ≡ picked turn own)))

own_of : (turn : ℕ) (es : List Entry) (c : List ℕ) (x : List Entry) → slice_get (by_client es) (turn % length (by_client es)) ≡ Some (c, x) → filter (key_is c) es ≡ x → 0 < length (filter (key_is c) es) → HasOwn turn es
own_of turn es c x at is some = (
  filter (key_is c) es,
  (
    sym (ap (λ k. of_client k es) (place_of turn es c x at) ∙ by_text c es),
    (some, at ∙ ap (λ y. Some (c, y)) (sym is) ∙ sym (alone_picked turn (filter (key_is c) es) c (one_client c (filter (key_is c) es) (passed (key_is c) es) some))),
  ),
)

-- the member whose turn it is, by all of its group's subscriptions and by its own
picked_own : (turn : ℕ) (es : List Entry) → 0 < length es → HasOwn turn es
picked_own turn es some =
    let n = turn % length (by_client es) in
    let counted : 0 < length (by_client es) = has_client (by_client es) refl in
    let at = there_is (by_client es) n (below turn (length (by_client es)) counted) in
    let holds = sym (gathered_holds text_total text_anti client_of es at.0.0) ∙ found_at text_total (by_client es) n at.0 (gathered_rises text_total text_anti client_of es) at.1 in
    own_of turn es at.0.0 at.0.1 at.1 (some_is (filter (key_is at.0.0) es) at.0.1 holds) (own_some (filter (key_is at.0.0) es) at.0.1 holds)
  where
    below : (turn n : ℕ) → 0 < n → turn % n < n
    below turn n h = mod-lt turn h

    own_some : (xs ys : List Entry) → some_of xs ≡ Some ys → 0 < length xs
    own_some [] ys e = absurd (let no : None ≡ Some ys = e in cc)
    own_some (x ∷ xs) ys e = omega arith

    has_client : (l : List (List ℕ × List Entry)) → by_client es ≡ l → 0 < length l
    has_client (e ∷ l) is = omega arith
    has_client [] is = absurd (no_client es some (λ q. sym (gathered_holds text_total text_anti client_of es q) ∙ ap (find text_cmp q) is))
      where
        no_client : (xs : List Entry) → 0 < length xs → ((q : List ℕ) → some_of (filter (key_is q) xs) ≡ None) → ⊥
        no_client [] h k = absurd (omega arith)
        no_client (x ∷ xs) h k =
            let here : key_is x.client x ≡ true = ap is_eq (tied_itself text_total x.client) in
            let no : some_of (x ∷ filter (key_is x.client) xs) ≡ None = ap (λ b. some_of (cond b (x ∷ filter (key_is x.client) xs) (filter (key_is x.client) xs))) (sym here) ∙ k x.client in cc

-- ---- the groups

module _ (turn : ℕ) (name : List ℕ) (live : List Entry) (fs : List (List ℕ)) (are : AreGroups (HasLive live) name fs) where
  abbrev IsGroupOf : List ℕ → Type 0
  IsGroupOf f = HasLive live f × IsFilter f × IsShared f × Matches f name

  -- those to one of the filters
  abbrev inside : Entry → Bool
  inside e = list_any (same_text e.filter) fs

  abbrev shared : List Entry
  shared = filter inside live

  abbrev chosen : List ℕ → List Entry
  chosen f = in_turn turn (to_filter f live)

  valid : (f : List ℕ) → list_any (same_text f) fs ≡ true → IsGroupOf f
  valid f e = (let one = all_in IsGroupOf fs are.each (same_text f) e in subst IsGroupOf (sym ((bytes_decides f one.0).0 one.1.1)) one.1.0)

  pub selected_shared : IsSelected (λ (e : Entry). IsShared e.filter × Matches e.filter name) live shared
  selected_shared = selected_filter (λ (e : Entry). IsShared e.filter × Matches e.filter name) inside live (λ e h. (
    (λ t. (let v = valid e.filter t in (v.2, v.3))),
    (λ p. are.all e.filter (h (λ (x : Entry). same_text e.filter x.filter) ((bytes_decides e.filter e.filter).1 refl)) p.0 p.1),
  ))

  abbrev of : Group → List Entry → List Entry
  of q es = filter (λ e. eq_by_cmp group_cmp q (group_of e)) es

  -- of all of them, those of a group are those to its filter
  own_shared : (q : Group) (f : List ℕ) → list_any (same_text f) fs ≡ true → q ≡ group f → of q shared ≡ to_filter f live
  own_shared q f in_fs is = filter-filter (λ e. eq_by_cmp group_cmp q (group_of e)) inside live ∙ filter_alike (λ e. eq_by_cmp group_cmp q (group_of e) && inside e) (λ (e : Entry). same_text f e.filter) live (λ e h. both_ways (eq_by_cmp group_cmp q (group_of e) && inside e) (same_text f e.filter) (to e) (from e))
    where
      to : (e : Entry) → (eq_by_cmp group_cmp q (group_of e) && inside e) ≡ true → same_text f e.filter ≡ true
      to e t =
          let a = valid f in_fs in let b = valid e.filter (and_second (eq_by_cmp group_cmp q (group_of e)) (inside e) t) in
          (bytes_decides f e.filter).1 (one_filter f e.filter a.1 a.2 b.1 b.2 (sym is ∙ the_group q e.filter (and_first (eq_by_cmp group_cmp q (group_of e)) (inside e) t)))

      from : (e : Entry) → same_text f e.filter ≡ true → (eq_by_cmp group_cmp q (group_of e) && inside e) ≡ true
      from e t =
          let same = (bytes_decides f e.filter).0 t in
          let first : is_group q e.filter ≡ true = (λ i. is_group (is i) (sym same i)) ∙ group_itself f in
          let then : inside e ≡ true = ap (λ g. list_any (same_text g) fs) (sym same) ∙ in_fs in
          λ i. first i && then i

  none_shared : (q : Group) → list_any (is_group q) fs ≡ false → of q shared ≡ []
  none_shared q none = filter-filter (λ e. eq_by_cmp group_cmp q (group_of e)) inside live ∙ filter_alike (λ e. eq_by_cmp group_cmp q (group_of e) && inside e) (λ _. false) live (λ e h. by e (eq_by_cmp group_cmp q (group_of e) && inside e) refl) ∙ nothing live
    where
      nothing : (es : List Entry) → filter (λ _. false) es ≡ []
      nothing [] = refl
      nothing (e ∷ es) = nothing es

      by : (e : Entry) (b : Bool) → (eq_by_cmp group_cmp q (group_of e) && inside e) ≡ b → b ≡ false
      by e false t = refl
      by e true t =
          absurd (clash (list_any (is_group q) fs) (any_in fs (same_text e.filter) (is_group q) (λ g s. ap (is_group q) (sym ((bytes_decides e.filter g).0 s)) ∙ and_first (eq_by_cmp group_cmp q (group_of e)) (inside e) t) (and_second (eq_by_cmp group_cmp q (group_of e)) (inside e) t)) none)
        where
          any_in : (gs : List (List ℕ)) (s t : List ℕ → Bool) → ((g : List ℕ) → s g ≡ true → t g ≡ true) → list_any s gs ≡ true → list_any t gs ≡ true
          any_in [] s t f e = e
          any_in (g ∷ gs) s t f e = elim (s g) as (λ b. s g ≡ b → (b || list_any s gs) ≡ true → list_any t (g ∷ gs) ≡ true) [
            | true ↦ λ is _. ap (λ b. b || list_any t gs) (f g is)
            | false ↦ λ is k. ap (λ b. t g || b) (any_in gs s t f k) ∙ either (t g)
          ] refl e

  -- ---- of those that are chosen

  chosen_own : (f : List ℕ) → AllByRecursion (λ (e : Entry). same_text f e.filter ≡ true) (chosen f)
  chosen_own f = by (slice_get (clients_of (to_filter f live)) (turn % length (clients_of (to_filter f live))))
    where
      by : (c : Option (List ℕ)) → AllByRecursion (λ (e : Entry). same_text f e.filter ≡ true) (of_client c (to_filter f live))
      by None = tt
      by (Some c) = still (λ (e : Entry). same_text f e.filter ≡ true) (λ e. same_text c e.client) (to_filter f live) (passed (λ (e : Entry). same_text f e.filter) live)

  abbrev part : Group → List ℕ → List Entry
  part q g = cond (is_group q g) (chosen g) []

  of_chosen : (q : Group) (g : List ℕ) → of q (chosen g) ≡ part q g
  of_chosen q g = by (is_group q g) refl
    where
      same : (e : Entry) → same_text g e.filter ≡ true → is_group q e.filter ≡ is_group q g
      same e s = ap (is_group q) (sym ((bytes_decides g e.filter).0 s))

      by : (b : Bool) → is_group q g ≡ b → of q (chosen g) ≡ cond b (chosen g) []
      by true t = all_kept (λ e. eq_by_cmp group_cmp q (group_of e)) (chosen g) (all_as (λ (e : Entry). same_text g e.filter ≡ true) (λ e. eq_by_cmp group_cmp q (group_of e) ≡ true) (λ e s. same e s ∙ t) (chosen g) (chosen_own g))
      by false t = none_kept (λ e. eq_by_cmp group_cmp q (group_of e)) (chosen g) (all_as (λ (e : Entry). same_text g e.filter ≡ true) (λ e. eq_by_cmp group_cmp q (group_of e) ≡ false) (λ e s. same e s ∙ t) (chosen g) (chosen_own g))

  of_all : (q : Group) (gs : List (List ℕ)) → of q (flat_map chosen gs) ≡ flat_map (part q) gs
  of_all q [] = refl
  of_all q (g ∷ gs) = filter-append (λ e. eq_by_cmp group_cmp q (group_of e)) (chosen g) (flat_map chosen gs) ∙ (λ i. of_chosen q g i ++ of_all q gs i)

  no_part : (q : Group) (gs : List (List ℕ)) → AllByRecursion (λ g. is_group q g ≡ false) gs → flat_map (part q) gs ≡ []
  no_part q [] h = refl
  no_part q (g ∷ gs) h = (λ i. cond (h.0 i) (chosen g) [] ++ no_part q gs h.1 i)

  none_of : {X : Type 0} (t : X → Bool) (xs : List X) → list_any t xs ≡ false → AllByRecursion (λ x. t x ≡ false) xs
  none_of t [] e = tt
  none_of t (x ∷ xs) e = elim (t x) as (λ b. t x ≡ b → (b || list_any t xs) ≡ false → AllByRecursion (λ y. t y ≡ false) (x ∷ xs)) [
    | true ↦ λ is no. absurd (let f : true ≡ false = no in cc)
    | false ↦ λ is rest. (is, none_of t xs rest)
  ] refl e

  others : (q : Group) (f g : List ℕ) (gs : List (List ℕ)) → IsGroupOf f → q ≡ group f → f ≡ g → AllByRecursion (λ h. same_text g h ≡ false) gs → AllByRecursion IsGroupOf gs → AllByRecursion (λ h. is_group q h ≡ false) gs
  others q f g [] v is same apart all = tt
  others q f g (h ∷ gs) v is same apart all = (by (is_group q h) refl, others q f g gs v is same apart.1 all.1)
    where
      by : (b : Bool) → is_group q h ≡ b → is_group q h ≡ false
      by true t = absurd (clash (same_text g h) ((bytes_decides g h).1 (sym same ∙ one_filter f h v.1 v.2 all.0.1 all.0.2 (sym is ∙ the_group q h t))) apart.0)
      by false t = t

  one_part : (q : Group) (f : List ℕ) (gs : List (List ℕ)) → IsGroupOf f → q ≡ group f → AllByRecursion IsGroupOf gs → IsDistinct same_text gs → list_any (same_text f) gs ≡ true → flat_map (part q) gs ≡ chosen f
  unfolding IsDistinct
  one_part q f [] v is all apart e = cc
  one_part q f (g ∷ gs) v is all apart e = by (λ k. one_part q f gs v is all.1 apart.1 k) (same_text f g) refl e
    where
      by : (list_any (same_text f) gs ≡ true → flat_map (part q) gs ≡ chosen f) → (b : Bool) → same_text f g ≡ b → (b || list_any (same_text f) gs) ≡ true → part q g ++ flat_map (part q) gs ≡ chosen f
      by rest true t k =
          (let same = (bytes_decides f g).0 t in
          let here : is_group q g ≡ true = (λ i. is_group (is i) (sym same i)) ∙ group_itself f in
          (λ i. cond (here i) (chosen g) [] ++ no_part q gs (others q f g gs v is same apart.0 all.1) i) ∙ append-nil (chosen g) ∙ ap chosen (sym same))
      by rest false t k = (λ i. cond (not_here (is_group q g) refl t i) (chosen g) [] ++ rest k i)
        where
          not_here : (b : Bool) → is_group q g ≡ b → same_text f g ≡ false → is_group q g ≡ false
          not_here true u s = absurd (clash (same_text f g) ((bytes_decides f g).1 (one_filter f g v.1 v.2 all.0.1 all.0.2 (sym is ∙ the_group q g u))) s)
          not_here false u s = u

  -- ---- the pick of each group is the same

  module _ (m : Message) where
    abbrev pick : List Entry → List GroupPick
    pick es = pick_of m (picked turn es)

    live_some : (f : List ℕ) → HasLive live f → 0 < length (to_filter f live)
    live_some f h = some live h
      where
        some : (es : List Entry) → list_any (λ (e : Entry). same_text f e.filter) es ≡ true → 0 < length (to_filter f es)
        some [] k = cc
        some (e ∷ es) k = elim (same_text f e.filter) as (λ b. (b || list_any (λ (x : Entry). same_text f x.filter) es) ≡ true → 0 < length (cond b (e ∷ to_filter f es) (to_filter f es))) [
          | true ↦ λ _. omega arith
          | false ↦ λ g. some es g
        ] k

    some_list : {X : Type 0} (xs : List X) → 0 < length xs → some_of xs ≡ Some xs
    some_list [] h = absurd (omega arith)
    some_list (x ∷ xs) h = refl

    same_pick : (q : Group) → option_map pick (some_of (of q shared)) ≡ option_map pick (some_of (of q (flat_map chosen fs)))
    same_pick q = by (list_any (is_group q) fs) refl
      where
        by : (b : Bool) → list_any (is_group q) fs ≡ b → option_map pick (some_of (of q shared)) ≡ option_map pick (some_of (of q (flat_map chosen fs)))
        by false t = (λ i. option_map pick (some_of ((none_shared q t ∙ sym (of_all q fs ∙ no_part q fs (none_of (is_group q) fs t))) i)))
        by true t =
            let one = any_one (is_group q) fs t in
            let f = one.0 in
            let in_fs : list_any (same_text f) fs ≡ true = one.1.0 (same_text f) ((bytes_decides f f).1 refl) in
            let v = valid f in_fs in
            let is = the_group q f one.1.1 in
            let es = to_filter f live in
            let own = picked_own turn es (live_some f v.0) in
            ap (λ xs. option_map pick (some_of xs)) (own_shared q f in_fs is) ∙ ap (option_map pick) (some_list es (live_some f v.0))
            ∙ ap (λ p. Some (pick_of m p)) own.1.1.1
            ∙ sym (ap (λ xs. option_map pick (some_of xs)) (of_all q fs ∙ one_part q f fs v is are.each are.once in_fs ∙ sym own.1.0) ∙ ap (option_map pick) (some_list own.0 own.1.1.0))

    find_pick : (q : Group) (gs : List (Group × List Entry)) → find group_cmp q (map_list (λ g. (g.0, pick g.1)) gs) ≡ option_map pick (find group_cmp q gs)
    find_pick q [] = refl
    find_pick q (g ∷ gs) = elim (eq_by_cmp group_cmp q g.0) as (λ b. cond b (Some (pick g.1)) (find group_cmp q (map_list (λ h. (h.0, pick h.1)) gs)) ≡ option_map pick (cond b (Some g.1) (find group_cmp q gs))) [
      | true ↦ refl
      | false ↦ find_pick q gs
    ]

    below_pick : (k : Group) (gs : List (Group × List Entry)) → T (below_all group_cmp k gs) → T (below_all group_cmp k (map_list (λ g. (g.0, pick g.1)) gs))
    below_pick k [] h = tt
    below_pick k (g ∷ gs) h = both _ _ (first_part _ _ h) (below_pick k gs (second_part _ _ h))

    sorted_pick : (gs : List (Group × List Entry)) → T (is_sorted group_cmp gs) → T (is_sorted group_cmp (map_list (λ g. (g.0, pick g.1)) gs))
    sorted_pick [] h = tt
    sorted_pick (g ∷ gs) h = both _ _ (below_pick g.0 gs (first_part _ _ h)) (sorted_pick gs (second_part _ _ h))

    flat_pick : (gs : List (Group × List Entry)) → flat_map (λ (g : Group × List Entry). pick g.1) gs ≡ flat_map (λ (g : Group × List GroupPick). g.1) (map_list (λ (g : Group × List Entry). (g.0, pick g.1)) gs)
    flat_pick [] = refl
    flat_pick (g ∷ gs) = ap (λ l. pick g.1 ++ l) (flat_pick gs)

    pub same_picks : flat_map (λ g. pick g.1) (by_group (flat_map chosen fs)) ≡ flat_map (λ g. pick g.1) (by_group shared)
    same_picks =
        let a = by_group (flat_map chosen fs) in
        let b = by_group shared in
        flat_pick a
        ∙ ap (flat_map (λ (g : Group × List GroupPick). g.1)) (same_entries group_cmp group_total group_anti (map_list (λ g. (g.0, pick g.1)) a) (map_list (λ g. (g.0, pick g.1)) b)
        (sorted_pick a (gathered_rises group_total group_anti group_of (flat_map chosen fs))) (sorted_pick b (gathered_rises group_total group_anti group_of shared))
        (λ q. find_pick q a ∙ ap (option_map pick) (gathered_holds group_total group_anti group_of (flat_map chosen fs) q) ∙ sym (same_pick q) ∙ sym (find_pick q b ∙ ap (option_map pick) (gathered_holds group_total group_anti group_of shared q))))
        ∙ sym (flat_pick b)

-- picks by the subscriptions of the members whose turn it is are picks by all that is live
pub picks_in_turn : (turn : ℕ) (live : Entries) (m : Message) (own : List Entry) (out : List GroupPick) → AreInTurn turn m.topic (entries_in live) own → out ≡ flat_map (λ g. pick_of m (picked turn g.1)) (by_group own) → ArePicks turn live m out
picks_in_turn turn live m own out a is = (
  filter (λ (e : Entry). list_any (same_text e.filter) a.0) (entries_in live),
  selected_shared turn m.topic (entries_in live) a.0 a.1,
  is ∙ ap (λ es. flat_map (λ g. pick_of m (picked turn g.1)) (by_group es)) a.2 ∙ same_picks turn m.topic (entries_in live) a.0 a.1 m,
)
