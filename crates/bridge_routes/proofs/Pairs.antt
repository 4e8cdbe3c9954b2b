-- Lists of one length, place by place.
use Rattle.std.proofs.Common.{◌≡◌, ℕ, ◌<◌, ◌+◌, List, [], ◌∷◌, ◌++◌, length, take, get_or, sym, subst}
use Rattle.mqtt_packets.proofs.MeasureLaws.{front_more}
use Rattle.bridge_routes.specs.Routes.{Pairwise}
use Rattle.bridge_routes.specs.Tables.{referents}
use denote.Ref.{Bor}

module _ {A B : Type 0} (P : A → B → Type 0) where
  -- with one more of each
  pub pairs_more : (xs : List A) (ys : List B) (x : A) (y : B) → Pairwise P xs ys → P x y → Pairwise P (xs ++ x ∷ []) (ys ++ y ∷ [])
  pairs_more [] [] x y h has = (has, tt)
  pairs_more [] (b ∷ ys) x y h has = absurd h
  pairs_more (a ∷ xs) [] x y h has = absurd h
  pairs_more (a ∷ xs) (b ∷ ys) x y h has = (h.0, pairs_more xs ys x y h.1 has)

  -- a walk takes one step
  pub pairs_step : (xs : List A) (i : ℕ) (x : A) (ys new : List B) (y : B) → i < length xs → x ≡ get_or xs i x → new ≡ ys ++ y ∷ [] → P x y → Pairwise P (take i xs) ys → Pairwise P (take (i + 1) xs) new
  pairs_step xs i x ys new y inside is added has h =
      subst (Pairwise P (take (i + 1) xs)) (sym added) (subst (λ l. Pairwise P l (ys ++ y ∷ [])) (sym (front_more xs i x inside is)) (pairs_more (take i xs) ys x y h has))

  -- what references point to
  pub pairs_referred : (rs : List (Bor A)) (ys : List B) → Pairwise (λ r y. P r.now y) rs ys → Pairwise P (referents rs) ys
  pairs_referred [] [] h = tt
  pairs_referred [] (b ∷ ys) h = absurd h
  pairs_referred (r ∷ rs) [] h = absurd h
  pairs_referred (r ∷ rs) (b ∷ ys) h = (h.0, pairs_referred rs ys h.1)
