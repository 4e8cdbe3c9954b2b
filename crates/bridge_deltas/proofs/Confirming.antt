-- The oldest deltas that peers are known to have taken.
use Rattle.std.proofs.Common.{◌≡◌, inr, ℕ, zero, suc, ◌-◌, ◌<◌, List, [], ◌∷◌, ◌++◌, map, length, take, drop, get_or, length-append, refl, sym, ap, subst, ◌∙◌, arith}
use Rattle.std.specs.List.{AllByRecursion}
use Rattle.std.specs.FinSet as finset
use Rattle.std.proofs.Math.ListN.{set}
use Rattle.std.proofs.lemmas.List.{get_or-set_same, get_or_read, length-map, length-set, take-append-le}
use Rattle.causal_context.specs.Dots.{Dots, dot_cmp_antisym, dot_cmp_total}
use Rattle.causal_context.specs.Lattices.{lattice_from_join}
use Rattle.causal_context.specs.SetLattice.{IsSubset, set_lattice}
use Rattle.filter_trie.specs.Selected.{IsSelected}
use Rattle.replica_store.specs.States.{State, nothing}
use Rattle.bridge_deltas.specs.Shipped.{IsNew, dots_with}
use Rattle.bridge_deltas.specs.Confirmed.{AreConfirmed, IsConfirmed}
use Rattle.bridge_deltas.proofs.Shipping.{Joins}

abbrev IsTaken : Dots → State → Type 0
IsTaken belief d = IsSubset d.taken belief

-- ---- what is shipped is found behind them

absorbed : (s t : Dots) → IsSubset t s → finset.union s t ≡ s
absorbed s t below =
    let laws = set_lattice dot_cmp_total dot_cmp_antisym in
    laws.commutative s t ∙ laws.from_order t s below

dots_passed : (belief : Dots) (n : ℕ) (ds : List State) → AllByRecursion (IsTaken belief) (take n ds) → dots_with belief (drop n ds) ≡ dots_with belief ds
dots_passed belief zero ds all = refl
dots_passed belief (suc n) [] all = refl
dots_passed belief (suc n) (d ∷ ds) all = dots_passed belief n ds all.1 ∙ ap (λ s. dots_with s ds) (sym (absorbed belief d.taken all.0))

pub dots_behind : (belief : Dots) (n : ℕ) (ds : List State) → IsConfirmed belief n ds → dots_with belief (drop n ds) ≡ dots_with belief ds
dots_behind belief n ds confirmed = dots_passed belief n ds confirmed.taken

selected_passed : (belief : Dots) (n : ℕ) (ds news : List State) → AllByRecursion (IsTaken belief) (take n ds) → IsSelected (IsNew belief) (drop n ds) news → IsSelected (IsNew belief) ds news
selected_passed belief zero ds news all sel = sel
selected_passed belief (suc n) [] news all sel = sel
selected_passed belief (suc n) (d ∷ ds) news all sel = inr (λ new. new all.0, selected_passed belief n ds news all.1 sel)

pub joins_behind : (belief : Dots) (n : ℕ) (ds : List State) (s : State) → s ≡ nothing → IsConfirmed belief n ds → Joins belief ds (drop n ds) s
joins_behind belief n ds s is confirmed =
    subst (λ (t : State). Joins belief ds (drop n ds) t) (sym is) (λ news sel. (news, selected_passed belief n ds news confirmed.taken sel, refl))

-- ---- more is known of a peer

taken_still : (old new : Dots) (ds : List State) → IsSubset old new → AllByRecursion (IsTaken old) ds → AllByRecursion (IsTaken new) ds
taken_still old new [] grew all = tt
taken_still old new (d ∷ ds) grew all = (λ q has. grew q (all.0 q has), taken_still old new ds grew all.1)

still_confirmed : (old new : Dots) (n : ℕ) (ds : List State) → IsSubset old new → IsConfirmed old n ds → IsConfirmed new n ds
still_confirmed old new n ds grew confirmed = record { some = confirmed.some; taken = taken_still old new (take n ds) grew confirmed.taken }

grown_has : (s t : Dots) → IsSubset s (finset.union s t)
grown_has = (lattice_from_join (set_lattice dot_cmp_total dot_cmp_antisym)).above_left

-- what was counted stays so
pub known_still : (beliefs : List Dots) (counts : List ℕ) (ds : List State) (peer : ℕ) (old dots grown new : Dots) (known : ℕ) → peer < length beliefs → AreConfirmed beliefs counts ds
    → old ≡ get_or beliefs peer old → grown ≡ finset.union old dots → new ≡ get_or (set beliefs peer grown) peer new → known ≡ get_or counts peer known → IsConfirmed new known ds
known_still beliefs counts ds peer old dots grown new known inside confirmed was grew is counted =
    let before : old ≡ get_or beliefs peer finset.empty = get_or_read beliefs peer old inside was finset.empty in
    let after : new ≡ finset.union old dots = get_or_read (set beliefs peer grown) peer new (omega (arith, length-set beliefs peer grown, inside)) is finset.empty ∙ get_or-set_same beliefs peer grown finset.empty inside ∙ grew in
    let count : known ≡ get_or counts peer 0 = get_or_read counts peer known (omega (arith, confirmed.count, inside)) counted 0 in
    let first : IsConfirmed old known ds = subst (λ b. IsConfirmed b known ds) (sym before) (subst (λ k. IsConfirmed (get_or beliefs peer finset.empty) k ds) (sym count) (confirmed.each peer)) in
    still_confirmed old new known ds (subst (λ (b : Dots). IsSubset old b) (sym after) (grown_has old dots)) first

-- ---- one more delta

put_behind : (belief : Dots) (n : ℕ) (ds : List State) (d : State) → IsConfirmed belief n ds → IsConfirmed belief n (ds ++ d ∷ [])
put_behind belief n ds d confirmed = record {
  some = omega (arith, length-append ds (d ∷ []), confirmed.some);
  taken = subst (AllByRecursion (IsTaken belief)) (sym (take-append-le n ds (d ∷ []) confirmed.some)) confirmed.taken;
}

oldest_gone : (belief : Dots) (n : ℕ) (ds : List State) (d : State) → IsConfirmed belief n ds → IsConfirmed belief (n - 1) (drop 1 (ds ++ d ∷ []))
oldest_gone belief zero ds d confirmed = record { some = omega arith; taken = tt }
oldest_gone belief (suc n) [] d confirmed = absurd (omega (arith, confirmed.some))
oldest_gone belief (suc n) (x ∷ xs) d confirmed =
    let fewer : n ≡ suc n - 1 = omega arith in
    subst (λ k. IsConfirmed belief k (xs ++ d ∷ [])) fewer (put_behind belief n xs d (record { some = omega (arith, confirmed.some); taken = confirmed.taken.1 }))

lowered_at : (counts : List ℕ) (peer : ℕ) → get_or counts peer 0 - 1 ≡ get_or (map (λ n. n - 1) counts) peer 0
lowered_at [] peer = refl
lowered_at (n ∷ counts) zero = refl
lowered_at (n ∷ counts) (suc peer) = lowered_at counts peer

-- ---- of each peer

pub all_still : (beliefs : List Dots) (counts : List ℕ) (ds new : List State) (d : State) → new ≡ ds ++ d ∷ [] → AreConfirmed beliefs counts ds → AreConfirmed beliefs counts new
all_still beliefs counts ds new d put confirmed = subst (AreConfirmed beliefs counts) (sym put) (record {
  count = confirmed.count;
  each = λ peer. put_behind (get_or beliefs peer finset.empty) (get_or counts peer 0) ds d (confirmed.each peer);
})

pub all_lowered : (beliefs : List Dots) (counts lower : List ℕ) (ds new : List State) (d : State) → new ≡ drop 1 (ds ++ d ∷ []) → lower ≡ map (λ n. n - 1) counts → AreConfirmed beliefs counts ds → AreConfirmed beliefs lower new
all_lowered beliefs counts lower ds new d gone lowered confirmed = subst (λ cs. AreConfirmed beliefs cs new) (sym lowered) (subst (AreConfirmed beliefs (map (λ n. n - 1) counts)) (sym gone) (record {
  count = length-map counts (λ n. n - 1) ∙ confirmed.count;
  each = λ peer. subst (λ n. IsConfirmed (get_or beliefs peer finset.empty) n (drop 1 (ds ++ d ∷ []))) (lowered_at counts peer)
      (oldest_gone (get_or beliefs peer finset.empty) (get_or counts peer 0) ds d (confirmed.each peer));
}))
