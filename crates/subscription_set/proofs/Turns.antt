-- What is live to a shared filter of the client whose turn it is.
use Rattle.std.proofs.Common.{◌≡◌, ◌↔◌, ℕ, zero, suc, ◌<◌, ◌%◌, Bor, get_or, inl, inr, arith, Bool, true, false, cond, ◌||◌, ◌&&◌, List, [], ◌∷◌, map as map_list, filter, length, slice_get, Option, Some, None, is_some, refl, sym, ap, subst, ◌∙◌}
use Rattle.std.specs.List.{AllByRecursion, list_any}
use Rattle.std.specs.List.Sorted.{IsStrictlySortedBy}
use Rattle.std.specs.Cmp.{both_ways}
use Rattle.std.specs.Cmp.Lexicographic.{bytes_decides}
use Rattle.std.specs.Ordering.{eq_by_cmp, is_eq}
use Rattle.std.specs.FinMap as map
use Rattle.std.specs.FinMap.Entries.{is_some-find}
use Rattle.std.specs.FinSet as set
use Rattle.std.proofs.lemmas.Cmp.{tied_itself}
use Rattle.std.proofs.lemmas.Map.Keys.{any_passes_from_place}
use Rattle.causal_context.specs.Dots.{Dot, Dots}
use Rattle.filter_trie.specs.Selected.{IsSelected}
use Rattle.mqtt_topics.specs.Matching.{Matches}
use Rattle.subscription_set.specs.Entries.{Entry, is_of, same_text}
use Rattle.subscription_set.specs.Filing.{text_cmp}
use Rattle.subscription_set.specs.Indexing.{ByDot, IsFilterAt, IsStanding, Stands, stands_as, stands_to}
use Rattle.subscription_set.specs.Members.{AreGroups, HasEntry, HasLive, IsInTurn, clients_of, in_turn, latest_entries, latest_of_dots, of_client, to_filter}
use Rattle.subscription_set.specs.Standing.{Entries, is_latest, latest}
use Rattle.subscription_set.proofs.Filtered.{to_entry}
use Rattle.subscription_set.proofs.Grouping.{groups_as, no_match}
use Rattle.subscription_set.proofs.Indexing.{found_any, in_found}
use Rattle.subscription_set.proofs.Latest.{IsIn, any_filter, any_map, one_is_latest, text_eq}
use Rattle.subscription_set.proofs.Lists.{filter-filter}
use Rattle.subscription_set.proofs.Seating.{same_keys}
use Rattle.subscription_set.proofs.Spreading.{text_total, text_anti}
use Rattle.subscription_set.proofs.Walking.{found_in, in_filtered}

and_first : (a b : Bool) → (a && b) ≡ true → a ≡ true
and_first true b e = refl
and_first false b e = cc

and_second : (a b : Bool) → (a && b) ≡ true → b ≡ true
and_second true b e = e
and_second false b e = cc

either : (b : Bool) → (b || true) ≡ true
either true = refl
either false = refl

-- ---- lists

filter_mapped : {X Y : Type 0} (p : Y → Bool) (g : X → Y) (xs : List X) → filter p (map_list g xs) ≡ map_list g (filter (λ x. p (g x)) xs)
filter_mapped p g [] = refl
filter_mapped p g (x ∷ xs) = elim (p (g x)) as (λ b. cond b (g x ∷ filter p (map_list g xs)) (filter p (map_list g xs)) ≡ map_list g (cond b (x ∷ filter (λ y. p (g y)) xs) (filter (λ y. p (g y)) xs))) [
  | true ↦ ap (λ l. g x ∷ l) (filter_mapped p g xs)
  | false ↦ filter_mapped p g xs
]

pub filter_alike : {X : Type 0} (p q : X → Bool) (xs : List X) → ((x : X) → IsIn xs x → p x ≡ q x) → filter p xs ≡ filter q xs
filter_alike p q [] h = refl
filter_alike p q (x ∷ xs) h =
    let rest = filter_alike p q xs (λ y i. h y (λ t e. ap (λ b. t x || b) (i t e) ∙ either (t x))) in
    let own = h x (λ t e. ap (λ b. b || list_any t xs) e) in
    λ i. cond (own i) (x ∷ rest i) (rest i)

-- where none has a property, none has one that says more
pub none_weaker : {A : Type 0} (P Q : A → Type 0) → ((x : A) → Q x → P x) → (xs : List A) → IsSelected P xs [] → IsSelected Q xs []
none_weaker P Q f [] h = refl
none_weaker P Q f (x ∷ xs) (inl h) = absurd (let no = h.1.1 in cc)
none_weaker P Q f (x ∷ xs) (inr h) = inr ((λ q. h.0 (f x q)), none_weaker P Q f xs h.1)

-- what holds of all that references point to holds of each
pub at_reference : {X : Type 0} (P : X → Type 0) (rs : List (Bor X)) (i : ℕ) (r : Bor X) → r ≡ get_or rs i r → i < length rs → AllByRecursion P (map_list (λ x. x.now) rs) → P r.now
at_reference P [] i r is lt h = absurd (omega arith)
at_reference P (x ∷ rs) zero r is lt h = subst (λ y. P y.now) (sym is) h.0
at_reference P (x ∷ rs) (suc i) r is lt h = at_reference P rs i r is (omega arith) h.1

pub no_references : {X : Type 0} (rs : List (Bor X)) → map_list (λ x. x.now) rs ≡ [] → length rs ≡ 0
no_references [] e = refl
no_references (r ∷ rs) e = absurd (let f : length (r.now ∷ map_list (λ x. x.now) rs) ≡ 0 = ap length e in omega (arith, f))

module _ (m : ByDot) where
  abbrev es : Entries
  es = map.entries m

  -- ---- something stands just where something is live

  latest_like : (d : Dot) (e : Entry) → map.get m d ≡ Some e → (y : Dot × Entry) × (IsIn es y × (((e.client ≡ y.1.client) × (e.filter ≡ y.1.filter)) × (is_latest es y ≡ true)))
  latest_like d e is =
      let l = one_is_latest es (d, e) (in_found es d e (sym (map.get-entries m d) ∙ is)) in
      let y = l.0 in
      (y, (l.1.0, ((sym ((bytes_decides y.1.client e.client).0 (and_first _ _ l.1.1.0)), sym ((bytes_decides y.1.filter e.filter).0 (and_second _ _ l.1.1.0))), l.1.1.1)))

  module _ (f : List ℕ) where
    abbrev own : List Entry
    own = to_filter f (latest_entries m)

    stands_live : (c : List ℕ) → Stands m c (Some f) → list_any (λ x. is_of c (Some f) x.1) (latest es) ≡ true
    stands_live c (d, s) = by (map.get m d) refl s
      where
        by : (g : Option Entry) → map.get m d ≡ g → stands_as c (Some f) g ≡ true → list_any (λ x. is_of c (Some f) x.1) (latest es) ≡ true
        by None is s = cc
        by (Some e) is s =
            let l = latest_like d e is in
            let y = l.0 in
            let client : c ≡ y.1.client = (bytes_decides c e.client).0 (and_first _ _ s) ∙ l.1.1.0.0 in
            let filter_is : f ≡ y.1.filter = (bytes_decides f e.filter).0 (and_second _ _ s) ∙ l.1.1.0.1 in
            let here : is_of c (Some f) y.1 ≡ true = λ i. (bytes_decides c y.1.client).1 client i && (bytes_decides f y.1.filter).1 filter_is i in
            any_filter (λ x. is_of c (Some f) x.1) (is_latest es) es ∙ l.1.0 (λ x. is_of c (Some f) x.1 && is_latest es x) (λ i. here i && l.1.1.1 i)

    live_stands : (c : List ℕ) → list_any (λ x. is_of c (Some f) x.1) (latest es) ≡ true → Stands m c (Some f)
    live_stands c e =
        let g = found_any (λ x. is_of c (Some f) x.1 && is_latest es x) es (map.entries_sorted m) (sym (any_filter (λ x. is_of c (Some f) x.1) (is_latest es) es) ∙ e) in
        (g.0, ap (stands_as c (Some f)) (map.get-entries m g.0 ∙ g.2.0) ∙ and_first _ _ g.2.1)

    -- ---- the clients

    abbrev pairs : List (List ℕ × Entry)
    pairs = map_list (λ e. (e.client, e)) own

    any_client : (c : List ℕ) → list_any (eq_by_cmp text_cmp c) (clients_of own) ≡ list_any (λ x. is_of c (Some f) x.1) (latest es)
    any_client c =
        sym (map.contains_key-keys (map.from_entries {R = text_cmp} pairs) c) ∙ ap is_some (map.get-from_entries text_total pairs c) ∙ is_some-find text_cmp c pairs
        ∙ any_map (eq_by_cmp text_cmp c) (λ (p : List ℕ × Entry). p.0) pairs ∙ any_map (λ (p : List ℕ × Entry). eq_by_cmp text_cmp c p.0) (λ (e : Entry). (e.client, e)) own
        ∙ any_filter (λ (e : Entry). eq_by_cmp text_cmp c e.client) (λ (e : Entry). same_text f e.filter) (latest_entries m)
        ∙ any_map (λ (e : Entry). eq_by_cmp text_cmp c e.client && same_text f e.filter) (λ x. x.1) (latest es)
        ∙ (λ i. list_any (λ x. text_eq c x.1.client i && same_text f x.1.filter) (latest es))

    clients_are : (cs : List (List ℕ)) → IsStrictlySortedBy text_cmp cs → ((c : List ℕ) → (list_any (eq_by_cmp text_cmp c) cs ≡ true) ↔ Stands m c (Some f)) → clients_of own ≡ cs
    clients_are cs rise same = same_keys text_total text_anti (map.entries (map.from_entries {R = text_cmp} pairs)) cs (map.entries_sorted (map.from_entries {R = text_cmp} pairs)) rise (λ c.
        both_ways (list_any (eq_by_cmp text_cmp c) (clients_of own)) (list_any (eq_by_cmp text_cmp c) cs) (λ e. (same c).1 (live_stands c (sym (any_client c) ∙ e))) (λ e. any_client c ∙ stands_live c ((same c).0 e)))

    turn_is : (turn : ℕ) (client : Option (List ℕ)) → IsInTurn m f turn client → in_turn turn own ≡ of_client client own
    turn_is turn client t = ap (λ cs. of_client (slice_get cs (turn % length cs)) own) (clients_are t.clients t.rise t.same) ∙ ap (λ c. of_client c own) (sym t.place)

    -- ---- what the code finds

    pub nobody_live : (turn : ℕ) → IsInTurn m f turn None → in_turn turn own ≡ []
    nobody_live turn t = turn_is turn None t

    pub turn_stands : (turn : ℕ) (c : List ℕ) → IsInTurn m f turn (Some c) → ((d : Dot) → stands_as c (Some f) (map.get m d) ≡ false) → ⊥
    turn_stands turn c t none =
        let there = any_passes_from_place (eq_by_cmp text_cmp c) t.clients (turn % length t.clients) c (sym t.place) (ap is_eq (tied_itself text_total c)) in
        let s = (t.same c).0 there in
        let no : true ≡ false = sym s.1 ∙ none s.0 in cc

    pub turn_dots : (turn : ℕ) (c : List ℕ) (s : Dots) → IsInTurn m f turn (Some c) → IsStanding m c (Some f) s → latest_of_dots m s ≡ in_turn turn own
    turn_dots turn c s t st =
        let both : Entry → Bool = λ e. same_text c e.client && same_text f e.filter in
        ap (map_list (λ x. x.1)) (filter_alike (λ x. set.contains s x.0) (λ x. both x.1) (latest es) (λ x h. st.same x.0 ∙ ap (stands_as c (Some f)) (found_in m x (in_filtered (is_latest es) es x h))))
        ∙ sym (filter_mapped both (λ x. x.1) (latest es))
        ∙ sym (filter-filter (λ (e : Entry). same_text c e.client) (λ (e : Entry). same_text f e.filter) (latest_entries m))
        ∙ sym (turn_is turn (Some c) t)

  -- ---- the groups

  entry_live : (f : List ℕ) → HasEntry m f → HasLive (latest_entries m) f
  entry_live f (d, s) = by (map.get m d) refl s
    where
      by : (g : Option Entry) → map.get m d ≡ g → stands_to f g ≡ true → list_any (λ (e : Entry). same_text f e.filter) (latest_entries m) ≡ true
      by None is s = cc
      by (Some e) is s =
          let l = latest_like d e is in
          let y = l.0 in
          let here : same_text f y.1.filter ≡ true = (bytes_decides f y.1.filter).1 ((bytes_decides f e.filter).0 s ∙ l.1.1.0.1) in
          any_map (λ (e : Entry). same_text f e.filter) (λ x. x.1) (latest es) ∙ any_filter (λ x. same_text f x.1.filter) (is_latest es) es ∙ l.1.0 (λ x. same_text f x.1.filter && is_latest es x) (λ i. here i && l.1.1.1 i)

  live_entry : (f : List ℕ) → HasLive (latest_entries m) f → HasEntry m f
  live_entry f h =
      let g = found_any (λ x. same_text f x.1.filter && is_latest es x) es (map.entries_sorted m)
      (sym (any_map (λ (e : Entry). same_text f e.filter) (λ x. x.1) (latest es) ∙ any_filter (λ x. same_text f x.1.filter) (is_latest es) es) ∙ h) in
      (g.0, ap (stands_to f) (map.get-entries m g.0 ∙ g.2.0) ∙ and_first _ _ g.2.1)

  pub live_groups : (name : List ℕ) (fs : List (List ℕ)) → AreGroups (HasEntry m) name fs → AreGroups (HasLive (latest_entries m)) name fs
  live_groups name fs a = groups_as (HasEntry m) (HasLive (latest_entries m)) name fs entry_live live_entry a

  -- where nothing that stands matches, there is no group
  pub groups_none : (name : List ℕ) (fs : List (List ℕ)) → ((d : Dot) → IsFilterAt (λ f. Matches f name) (map.get m d) → ⊥) → AreGroups (HasEntry m) name fs → fs ≡ []
  groups_none name fs none a = no_match (HasEntry m) name fs (λ f h k. none h.0 (to_entry (λ g. Matches g name) (map.get m h.0) f h.1 k)) a
