-- Places whose copies are gone.
use Rattle.std.proofs.Common.{◌≡◌, ◌≢◌, ◌⊎◌, inl, inr, ℕ, ◌<◌, ◌+◌, List, [], ◌∷◌, ◌++◌, length, take, get_or, refl, sym, ap, ◌∙◌, append_assoc, append-nil, true≢false}
use Rattle.std.specs.Prelude.{◌==◌}
use Rattle.std.proofs.lemmas.Bool.{eq-eqb, or_left}
use Rattle.std.proofs.lemmas.List.{take_more}
use Rattle.qos_handshakes.specs.Entries.{Entries, at_place}
use Rattle.qos_handshakes.specs.Touched.{AreListed, is_in}
use Rattle.mqtt_sessions.specs.Removed.{gone_at, gone_of}

-- places are listed where some were touched
listed-want : (ts places : List ℕ) → AreListed ts places → places ≢ [] → ts ≢ []
listed-want ts [] listed some = absurd (some refl)
listed-want [] (p ∷ ps) listed some = absurd (true≢false (sym (or_left (p == p) (is_in p ps) (eq-eqb p p refl)) ∙ listed.same p))
listed-want (t ∷ ts) (p ∷ ps) listed some = λ none. absurd cc

-- a removal is of a copy that is there, or of a place that was touched
pub removals-want : (Told : Type 0) (es copies : Entries) (ts places listed : List ℕ) → copies ≡ es → AreListed ts places → listed ≡ places → (copies ≢ []) ⊎ (listed ≢ []) → Told ⊎ ((es ≢ []) ⊎ (ts ≢ []))
removals-want Told es copies ts places listed same are is (inl some) = inr (inl (λ none. some (same ∙ none)))
removals-want Told es copies ts places listed same are is (inr some) = inr (inr (listed-want ts places are (λ none. some (is ∙ none))))

gone-last : (es : Entries) (p : ℕ) (ps : List ℕ) → gone_of es (ps ++ p ∷ []) ≡ gone_of es ps ++ gone_at p (at_place p es)
gone-last es p [] = append-nil (gone_at p (at_place p es))
gone-last es p (q ∷ ps) = ap (λ (r : List ℕ). gone_at q (at_place q es) ++ r) (gone-last es p ps) ∙ sym (append_assoc (gone_at q (at_place q es)) (gone_of es ps) (gone_at p (at_place p es)))

pub gone-step : (es : Entries) (ps : List ℕ) (i : ℕ) (base now new : List ℕ) → i < length ps → new ≡ now ++ gone_at (get_or ps i 0) (at_place (get_or ps i 0) es) → now ≡ base ++ gone_of es (take i ps) → new ≡ base ++ gone_of es (take (i + 1) ps)
gone-step es ps i base now new lt one so_far =
    one ∙ ap (λ (r : List ℕ). r ++ gone_at (get_or ps i 0) (at_place (get_or ps i 0) es)) so_far
    ∙ append_assoc base (gone_of es (take i ps)) (gone_at (get_or ps i 0) (at_place (get_or ps i 0) es))
    ∙ ap (λ (r : List ℕ). base ++ r) (sym (ap (gone_of es) (take_more ps i 0 lt) ∙ gone-last es (get_or ps i 0) (take i ps)))
