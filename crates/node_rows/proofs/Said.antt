-- What rows say, cut by kind.
use Rattle.std.proofs.Common.{◌≡◌, ◌≢◌, inl, inr, ℕ, zero, suc, ◌<◌, ◌≤◌, false, T, List, [], ◌∷◌, ◌++◌, Option, Some, None, Less, arith, refl, sym, ap, ◌∙◌}
use Rattle.std.specs.FinMap.{find, get-from_entries, is_sorted}
use Rattle.std.specs.List.{AllByRecursion}
use Rattle.std.proofs.lemmas.Bool.{cases_Bool, cases_lt}
use Rattle.row_store.specs.Rows.{Key, key_cmp, Plain}
use Rattle.row_store.proofs.Keys.{keys_total}
use Rattle.qos_handshakes.specs.Entries.{Entries}
use Rattle.session_rows.specs.Durable.{Durable, IsDurable}
use Rattle.session_rows.specs.Fields.{main}
use Rattle.session_rows.specs.Rows.{main_key, copy_rows, rows_of}
use Rattle.node_rows.specs.Rows.{Lasting, mark, mark_key, node_row, session_row}
use Rattle.node_rows.specs.Sessions.{AreSessions, own_row}
use Rattle.node_rows.proofs.Lists.{IsAbove, all_front, each_found, either, find_none, itself, kind_up, least_first, other_key, same_is, same_key, sorted_back, sorted_front, sorted_head, sorted_tail}
use Rattle.node_rows.proofs.Clients.{IsOwn, HaveOwn, complete}
use Rattle.node_rows.proofs.Cuts.{among, copy_kind, find_cut, in_last, in_middle, last_row, no_last_row, other_row, own_kind}

-- ---- parts of what is said
-- a state that has such rows, cut behind the mark, behind the sessions' own rows and behind their copies
module _ (id : ℕ) (x : Lasting) (sound : (client : List ℕ) (d : Durable) → x.sessions client ≡ Some d → IsDurable d × (d.client ≡ client)) (first : Plain) (own copies others : List Plain)
    (up : T (is_sorted key_cmp (first ∷ (own ++ (copies ++ others))))) (are : (q : Key) → find key_cmp q (first ∷ (own ++ (copies ++ others))) ≡ node_row id x q)
    (own_low : AllByRecursion (λ e. e.0.0 ≤ 2) own) (copies_high : AllByRecursion (λ e. 2 < e.0.0) copies) (copies_low : AllByRecursion (λ e. e.0.0 ≤ 3) copies) (others_high : AllByRecursion (λ e. 3 < e.0.0) others) where
  rest : List Plain
  rest = own ++ (copies ++ others)

  all_found : AllByRecursion (λ e. find key_cmp e.0 (first ∷ rest) ≡ Some e.1) (first ∷ rest)
  unfolding rest
  all_found = each_found (first ∷ (own ++ (copies ++ others))) up

  rest_up : T (is_sorted key_cmp rest)
  unfolding rest
  rest_up = sorted_tail first (own ++ (copies ++ others)) up

  no_bytes : (o : Option (List ℕ)) (v : List ℕ) → o ≡ None → o ≡ Some v → ⊥
  no_bytes o v none some = (let other : None ≡ Some v = sym none ∙ some in cc)

  -- ---- the mark
  below_mark : (k : Key) (v : List ℕ) → node_row id x k ≡ Some v → key_cmp k mark_key ≡ Less → ⊥
  below_mark (zero, (owner, place)) v is low = absurd (cc)
  below_mark (suc zero, ([], [])) v is low = absurd (cc)
  below_mark (suc zero, ([], b ∷ place)) v is low = absurd (cc)
  below_mark (suc zero, (b ∷ owner, place)) v is low = absurd (cc)
  below_mark (suc (suc n), (owner, place)) v is low = absurd (omega (arith, kind_up (suc (suc n), (owner, place)) mark_key low))

  pub first_mark : first ≡ (mark_key, mark id x.named)
  unfolding rest
  first_mark = least_first first rest mark_key (mark id x.named) up (are mark_key) (below_mark first.0 first.1 (sym (are first.0) ∙ all_found.0))

  not_first : (q : Key) → q.0 ≢ 1 → same_key q first.0 ≡ false
  not_first q other = other_key q first.0 (λ e. other (ap (λ (k : Key). k.0) (e ∙ ap (λ (f : Plain). f.0) first_mark)))

  no_own : (q : Key) → 2 < q.0 → find key_cmp q own ≡ None
  no_own q high = find_none q (λ k. k.0 ≤ 2) own own_low (λ low. absurd (omega (arith, low, high)))

  no_copies : (q : Key) → q.0 ≢ 3 → find key_cmp q copies ≡ None
  no_copies q other = by q other copies copies_high copies_low
    where
      by : (q : Key) → q.0 ≢ 3 → (es : List Plain) → AllByRecursion (λ e. 2 < e.0.0) es → AllByRecursion (λ e. e.0.0 ≤ 3) es → find key_cmp q es ≡ None
      by q other [] high low = refl
      by q other (e ∷ es) high low = rw (other_key q e.0 (λ same. other (omega (arith, ap (λ (k : Key). k.0) same, high.0, low.0)))) (by q other es high.1 low.1)

  no_others : (q : Key) → q.0 ≤ 3 → find key_cmp q others ≡ None
  no_others q low = find_none q (λ k. 3 < k.0) others others_high (λ high. absurd (omega (arith, low, high)))

  cut : (q : Key) → among (same_key q first.0) first.1 (find key_cmp q own) (find key_cmp q copies) (find key_cmp q others) ≡ node_row id x q
  cut q = sym (find_cut q first own copies others) ∙ are q

  -- ---- the state and the lanes
  pub others_up : T (is_sorted key_cmp others)
  unfolding rest
  others_up = sorted_back copies others (sorted_back own (copies ++ others) rest_up)

  pub of_last : (q : Key) → find key_cmp q others ≡ last_row x q
  of_last q = elim (cases_lt 3 q.0) [
    | inl high ↦
        sym (in_last _ first.1 _ _ _ (not_first q (λ e. absurd (omega (arith, e, high)))) (no_own q (omega (arith, high))) (no_copies q (λ e. absurd (omega (arith, e, high)))))
        ∙ cut q ∙ other_row id x q (λ e. absurd (omega (arith, e, high))) (λ e. absurd (omega (arith, e, high))) (λ e. absurd (omega (arith, e, high)))
    | inr low ↦ no_others q low ∙ sym (no_last_row x q low)
  ]

  -- ---- the sessions
  of_one : (q : Key) (d : Durable) (v : List ℕ) → q.0 ≡ 2 → find key_cmp q (rows_of d) ≡ Some v → own_row d ≡ (q, v)
  of_one q d v two is =
      let none = find_none q (λ k. k.0 ≡ 3) (copy_rows d.client d.copies) (kinds d.client d.copies) (λ three. absurd (omega (arith, two, three))) in
      elim (cases_Bool (same_key q (main_key d.client))) [
        | inl t ↦ (let same : Some (main.bytes d.main) ≡ Some v = rw t at is in let value : main.bytes d.main ≡ v = cc in λ i. (sym (same_is q (main_key d.client) t) i, value i))
        | inr f ↦ absurd (let other : find key_cmp q (copy_rows d.client d.copies) ≡ Some v = rw f at is in no_bytes _ v none other)
      ]
    where
      kinds : (client : List ℕ) (es : Entries) → AllByRecursion (λ e. e.0.0 ≡ 3) (copy_rows client es)
      kinds client [] = tt
      kinds client (e ∷ es) = (refl, kinds client es)

  of_session : (e : Plain) → e.0.0 ≡ 2 → node_row id x e.0 ≡ Some e.1 → IsOwn x.sessions sound e
  of_session e two is = by (x.sessions e.0.1.0) refl (sym (own_kind id x e.0 two) ∙ is)
    where
      by : (o : Option Durable) → x.sessions e.0.1.0 ≡ o → session_row o e.0 ≡ Some e.1 → IsOwn x.sessions sound e
      by None h g = absurd cc
      by (Some d) h g = (d, h, of_one e.0 d e.1 two (sym (get-from_entries keys_total (rows_of d) e.0) ∙ g))

  above_mark : (k : Key) (v : List ℕ) → k.0 ≤ 2 → key_cmp mark_key k ≡ Less → node_row id x k ≡ Some v → k.0 ≡ 2
  above_mark (zero, (owner, place)) v low above is = absurd (cc)
  above_mark (suc zero, ([], [])) v low above is = absurd (cc)
  above_mark (suc zero, ([], b ∷ place)) v low above is = absurd (cc)
  above_mark (suc zero, (b ∷ owner, place)) v low above is = absurd (cc)
  above_mark (suc (suc n), (owner, place)) v low above is = omega (arith, low)

  own_all : (es : List Plain) → AllByRecursion (λ e. e.0.0 ≤ 2) es → AllByRecursion (IsAbove first.0) es → AllByRecursion (λ e. find key_cmp e.0 (first ∷ rest) ≡ Some e.1) es → AllByRecursion (IsOwn x.sessions sound) es
  unfolding rest
  own_all [] low above is = tt
  own_all (e ∷ es) low above is =
      let row = sym (are e.0) ∙ is.0 in
      let mark_above : key_cmp mark_key e.0 ≡ Less = sym (ap (λ (f : Plain). key_cmp f.0 e.0) first_mark) ∙ above.0 in
      (of_session e (above_mark e.0 e.1 low.0 mark_above row) row, own_all es low.1 above.1 is.1)

  have_own : HaveOwn x.sessions sound own
  have_own client d is =
      let q = main_key client in
      let same = (sound client d is).1 in
      let row : session_row (x.sessions client) q ≡ Some (main.bytes d.main) = ap (λ (o : Option Durable). session_row o q) is ∙ get-from_entries keys_total (rows_of d) q ∙ rw (same, itself (main_key client)) refl in
      sym (only (find key_cmp q own)) ∙ sym (in_middle _ first.1 (find key_cmp q own) None _ (not_first q (λ e. absurd (omega (arith, e)))) (no_others q (omega arith)))
      ∙ ap (λ (o : Option (List ℕ)). among (same_key q first.0) first.1 (find key_cmp q own) o (find key_cmp q others)) (sym (no_copies q (λ e. absurd (omega (arith, e)))))
      ∙ cut q ∙ row
    where
      only : (o : Option (List ℕ)) → either o None ≡ o
      only None = refl
      only (Some v) = refl

  copies_rows : (q : Key) → q.0 ≡ 3 → find key_cmp q copies ≡ session_row (x.sessions q.1.0) q
  copies_rows q three =
      ap (λ (o : Option (List ℕ)). either o (find key_cmp q copies)) (sym (no_own q (omega (arith, three))))
      ∙ sym (in_middle _ first.1 _ _ _ (not_first q (λ e. absurd (omega (arith, e, three)))) (no_others q (omega (arith, three)))) ∙ cut q ∙ copy_kind id x q three

  kinds_three : (es : List Plain) → AllByRecursion (λ e. 2 < e.0.0) es → AllByRecursion (λ e. e.0.0 ≤ 3) es → AllByRecursion (λ e. e.0.0 ≡ 3) es
  kinds_three [] high low = tt
  kinds_three (e ∷ es) high low = (omega (arith, high.0, low.0), kinds_three es high.1 low.1)

  pub of_sessions : (ds : List Durable) × AreSessions own copies ds
  unfolding rest
  of_sessions =
      complete x.sessions sound own copies (sorted_front own (copies ++ others) rest_up) (sorted_front copies others (sorted_back own (copies ++ others) rest_up))
      (own_all own own_low (all_front (IsAbove first.0) own (copies ++ others) (sorted_head first rest up)) (all_front _ own (copies ++ others) all_found.1))
      have_own (kinds_three copies copies_high copies_low) copies_rows
