-- One rule more among those for the same clients.
use Rattle.std.proofs.Common.{◌≡◌, ℕ, Bool, true, false, ◌||◌, ◌&&◌, List, [], ◌∷◌, ◌++◌, Some, refl, ap, ◌∙◌}
use Rattle.std.specs.List.{list_any}
use Rattle.mqtt_topics.specs.Levels.{levels}
use Rattle.mqtt_access.specs.Own.{IsAdded, own_forbids, own_gives}
use Rattle.mqtt_access.specs.Rules.{Asked, meets_asked, passes, suits}
use Rattle.mqtt_access.specs.Rules.Asked.{ToWrite, ToRead, ToSubscribe}
use Rattle.mqtt_access.specs.declared.own.OwnRules.{OwnRules}
use Rattle.mqtt_access.specs.declared.rule.Access.TheVariants.{Read, Write, ReadWrite, Deny}

pub any_more : {A : Type 0} (test : A → Bool) (xs : List A) (x : A) → list_any test (xs ++ x ∷ []) ≡ (list_any test xs || test x)
any_more test [] x = last (test x)
  where
    last : (b : Bool) → (b || false) ≡ (false || b)
    last true = refl
    last false = refl
any_more test (y ∷ xs) x = ap (λ (b : Bool). test y || b) (any_more test xs x) ∙ again (test y) (list_any test xs) (test x)
  where
    again : (a b c : Bool) → (a || (b || c)) ≡ ((a || b) || c)
    again true b c = refl
    again false b c = refl

pub no_more : (b : Bool) → b ≡ (b || false)
no_more true = refl
no_more false = refl

-- a list of filters with one more, and one that stays
one_more : (asked : Asked) (fs fs' : List (List ℕ)) (f : List ℕ) → fs' ≡ fs ++ f ∷ [] → list_any (λ x. passes (levels x) asked) fs' ≡ (list_any (λ x. passes (levels x) asked) fs || passes (levels f) asked)
one_more asked fs fs' f e = ap (list_any (λ x. passes (levels x) asked)) e ∙ any_more (λ x. passes (levels x) asked) fs f

stays : (asked : Asked) (fs fs' : List (List ℕ)) → fs' ≡ fs → list_any (λ x. passes (levels x) asked) fs' ≡ (list_any (λ x. passes (levels x) asked) fs || false)
stays asked fs fs' e = ap (list_any (λ x. passes (levels x) asked)) e ∙ no_more (list_any (λ x. passes (levels x) asked) fs)

denies_stay : (asked : Asked) (g g' : OwnRules) → g'.denying.items ≡ g.denying.items → own_forbids g' asked ≡ (own_forbids g asked || false)
denies_stay asked g g' e = ap (list_any (λ x. meets_asked (levels x) asked)) e ∙ no_more (own_forbids g asked)

pub put_reading : (f : List ℕ) (g g' : OwnRules) → g'.reading.items ≡ g.reading.items ++ f ∷ [] → g'.writing.items ≡ g.writing.items → g'.denying.items ≡ g.denying.items → IsAdded Read f (Some g) (Some g')
put_reading f g g' r w d = record { gives = each; forbids = λ asked. denies_stay asked g g' d }
  where
    each : (asked : Asked) → own_gives g' asked ≡ (own_gives g asked || (suits Read asked && passes (levels f) asked))
    each (ToWrite t) = stays (ToWrite t) g.writing.items g'.writing.items w
    each (ToRead t) = one_more (ToRead t) g.reading.items g'.reading.items f r
    each (ToSubscribe t) = one_more (ToSubscribe t) g.reading.items g'.reading.items f r

pub put_writing : (f : List ℕ) (g g' : OwnRules) → g'.writing.items ≡ g.writing.items ++ f ∷ [] → g'.reading.items ≡ g.reading.items → g'.denying.items ≡ g.denying.items → IsAdded Write f (Some g) (Some g')
put_writing f g g' w r d = record { gives = each; forbids = λ asked. denies_stay asked g g' d }
  where
    each : (asked : Asked) → own_gives g' asked ≡ (own_gives g asked || (suits Write asked && passes (levels f) asked))
    each (ToWrite t) = one_more (ToWrite t) g.writing.items g'.writing.items f w
    each (ToRead t) = stays (ToRead t) g.reading.items g'.reading.items r
    each (ToSubscribe t) = stays (ToSubscribe t) g.reading.items g'.reading.items r

pub put_both : (f h : List ℕ) (g g' : OwnRules) → h ≡ f → g'.writing.items ≡ g.writing.items ++ h ∷ [] → g'.reading.items ≡ g.reading.items ++ f ∷ [] → g'.denying.items ≡ g.denying.items → IsAdded ReadWrite f (Some g) (Some g')
put_both f h g g' same w r d = record { gives = each; forbids = λ asked. denies_stay asked g g' d }
  where
    each : (asked : Asked) → own_gives g' asked ≡ (own_gives g asked || (suits ReadWrite asked && passes (levels f) asked))
    each (ToWrite t) = one_more (ToWrite t) g.writing.items g'.writing.items h w ∙ ap (λ (x : List ℕ). own_gives g (ToWrite t) || passes (levels x) (ToWrite t)) same
    each (ToRead t) = one_more (ToRead t) g.reading.items g'.reading.items f r
    each (ToSubscribe t) = one_more (ToSubscribe t) g.reading.items g'.reading.items f r

pub put_denying : (f : List ℕ) (g g' : OwnRules) → g'.denying.items ≡ g.denying.items ++ f ∷ [] → g'.writing.items ≡ g.writing.items → g'.reading.items ≡ g.reading.items → IsAdded Deny f (Some g) (Some g')
put_denying f g g' d w r = record {
  gives = each;
  forbids = λ asked. ap (list_any (λ x. meets_asked (levels x) asked)) d ∙ any_more (λ x. meets_asked (levels x) asked) g.denying.items f;
}
  where
    each : (asked : Asked) → own_gives g' asked ≡ (own_gives g asked || (suits Deny asked && passes (levels f) asked))
    each (ToWrite t) = stays (ToWrite t) g.writing.items g'.writing.items w
    each (ToRead t) = stays (ToRead t) g.reading.items g'.reading.items r
    each (ToSubscribe t) = stays (ToSubscribe t) g.reading.items g'.reading.items r
