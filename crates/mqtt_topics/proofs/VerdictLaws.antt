-- A text is a topic name, or a topic filter, or has exactly one fault.
use Rattle.std.proofs.Common.{◌≡◌, ◌⊎◌, ℕ, Bool, true, false, IsTrue, List, [], ◌∷◌, inl, inr, refl, sym}
use Rattle.std.specs.List.{list_any, starts_with}
use Rattle.std.specs.Prelude.{nat_eq, codes}
use Rattle.std.proofs.lemmas.Bool.{true≢false}
use Rattle.std.proofs.lemmas.Slice.Eq.{bytes_eq-Decides}
use Rattle.std.specs.Str.{bytes_eq}
use Rattle.mqtt_fields.specs.Numbers.{IsText}
use Rattle.mqtt_topics.specs.declared.fault.TopicFault.{TopicFault}
use Rattle.mqtt_topics.specs.declared.fault.TopicFault.TheVariants.{Empty, BadShare, Wildcard, NoMemory}
use Rattle.mqtt_topics.specs.Levels.{levels, is_wildcard, IsPlaced, ArePlaced, single_level, multi_level}
use Rattle.mqtt_topics.specs.Topics.{IsName, IsNameFault, IsFilter, IsFilterFault, IsShared, IsShare, share_name, share_filter, filter_part}
use Rattle.mqtt_topics.specs.Laws.{NamesOrFaults, FiltersOrFaults}

-- P holds or doesn't
abbrev Known : Type 0 → Type 0
Known P = P ⊎ (P → ⊥)

known_bool : (b : Bool) → Known (IsTrue b)
known_bool true = inl refl
known_bool false = inr (λ e. cc)

known_not : {P : Type 0} → Known P → Known (P → ⊥)
known_not (inl holds) = inr (λ fails. fails holds)
known_not (inr fails) = inl fails

known_and : {P Q : Type 0} → Known P → Known Q → Known (P × Q)
known_and (inl p) (inl q) = inl (p, q)
known_and (inl p) (inr q) = inr (λ both. q both.1)
known_and (inr p) q = inr (λ both. p both.0)

known_all : {P Q R : Type 0} → Known P → Known Q → Known R → Known (P × Q × R)
known_all (inl p) (inl q) (inl r) = inl (p, q, r)
known_all (inl p) (inl q) (inr r) = inr (λ all. r all.2)
known_all (inl p) (inr q) r = inr (λ all. q all.1)
known_all (inr p) q r = inr (λ all. p all.0)

known_or : {P Q : Type 0} → Known P → Known Q → Known (P ⊎ Q)
known_or (inl p) q = inl (inl p)
known_or (inr p) (inl q) = inl (inr q)
known_or (inr p) (inr q) = inr (λ either. elim either [ inl holds ↦ p holds | inr holds ↦ q holds ])

known_empty : {X : Type 0} (xs : List X) → Known (xs ≡ [])
known_empty [] = inl refl
known_empty (x ∷ xs) = inr (λ e. cc)

known_tested : (b : Bool) (P : Type 0) → (b ≡ true → P) → (P → b ≡ true) → Known P
known_tested true P to from = inl (to refl)
known_tested false P to from = inr (λ p. true≢false (sym (from p)))

known_same : (xs ys : List ℕ) → Known (xs ≡ ys)
known_same xs ys = let decides = bytes_eq-Decides xs ys in known_tested (bytes_eq xs ys) (xs ≡ ys) decides.0 decides.1

known_placed : (level : List ℕ) (later : List (List ℕ)) → Known (IsPlaced level later)
known_placed level later =
    let wild = known_not (known_bool (list_any is_wildcard level)) in
    let single = known_same level single_level in
    let last = known_and (known_same level multi_level) (known_empty later) in
    known_or wild (known_or single last)

known_all_placed : (all : List (List ℕ)) → Known (ArePlaced all)
known_all_placed [] = inl tt
known_all_placed (level ∷ later) = known_and (known_placed level later) (known_all_placed later)

known_share : (text : List ℕ) → Known (IsShare text)
known_share text =
    known_all (known_not (known_empty (share_name text)))
    (known_not (known_bool (list_any is_wildcard (share_name text))))
    (known_not (known_empty (share_filter text)))

-- topic names
name_found : (text : List ℕ) → IsText text → IsName text ⊎ ((fault : TopicFault) × IsNameFault text fault)
name_found text fits = elim (known_empty text) [
  | inl none ↦ inr (Empty, none)
  | inr some ↦ elim (known_bool (list_any is_wildcard text)) [
    | inl wild ↦ inr (Wildcard, (some, wild))
    | inr plain ↦ inl (record { fits = fits; some = some; plain = plain })
  ]
]

name_sound : (text : List ℕ) → IsName text → (fault : TopicFault) → IsNameFault text fault → ⊥
name_sound text name Empty bad = name.some bad
name_sound text name BadShare bad = bad
name_sound text name Wildcard bad = name.plain bad.1
name_sound text name NoMemory bad = bad

name_once : (text : List ℕ) (one other : TopicFault) → IsNameFault text one → IsNameFault text other → one ≡ other
name_once text Empty Empty a b = refl
name_once text Empty BadShare a b = absurd b
name_once text Empty Wildcard a b = absurd (b.0 a)
name_once text Empty NoMemory a b = absurd b
name_once text BadShare other a b = absurd a
name_once text Wildcard Empty a b = absurd (a.0 b)
name_once text Wildcard BadShare a b = absurd b
name_once text Wildcard Wildcard a b = refl
name_once text Wildcard NoMemory a b = absurd b
name_once text NoMemory other a b = absurd a

pub names_or_faults : NamesOrFaults
names_or_faults text fits = (name_found text fits, name_sound text, name_once text)

-- topic filters
filter_found : (text : List ℕ) → IsText text → IsFilter text ⊎ ((fault : TopicFault) × IsFilterFault text fault)
filter_found text fits = elim (known_empty text) [
  | inl none ↦ inr (Empty, none)
  | inr some ↦ elim (known_bool (starts_with nat_eq text (codes "$share/"))) [
    | inl shared ↦ elim (known_share text) [
      | inl share ↦ elim (known_all_placed (levels (filter_part text))) [
        | inl placed ↦ inl (record { fits = fits; some = some; share = λ _. share; placed = placed })
        | inr bad ↦ inr (Wildcard, (some, (λ _. share), bad))
      ]
      | inr bad ↦ inr (BadShare, (shared, bad))
    ]
    | inr not_shared ↦ elim (known_all_placed (levels (filter_part text))) [
      | inl placed ↦ inl (record { fits = fits; some = some; share = λ shared. absurd (not_shared shared); placed = placed })
      | inr bad ↦ inr (Wildcard, (some, (λ shared. absurd (not_shared shared)), bad))
    ]
  ]
]

filter_sound : (text : List ℕ) → IsFilter text → (fault : TopicFault) → IsFilterFault text fault → ⊥
filter_sound text filter Empty bad = filter.some bad
filter_sound text filter BadShare bad = bad.1 (filter.share bad.0)
filter_sound text filter Wildcard bad = bad.2 filter.placed
filter_sound text filter NoMemory bad = bad

-- the empty text begins with nothing
empty_not_shared : (text : List ℕ) → text ≡ [] → IsShared text → ⊥
empty_not_shared [] none shared = cc
empty_not_shared (b ∷ rest) none shared = cc

filter_once : (text : List ℕ) (one other : TopicFault) → IsFilterFault text one → IsFilterFault text other → one ≡ other
filter_once text Empty Empty a b = refl
filter_once text Empty BadShare a b = absurd (empty_not_shared text a b.0)
filter_once text Empty Wildcard a b = absurd (b.0 a)
filter_once text Empty NoMemory a b = absurd b
filter_once text BadShare Empty a b = absurd (empty_not_shared text b a.0)
filter_once text BadShare BadShare a b = refl
filter_once text BadShare Wildcard a b = absurd (a.1 (b.1 a.0))
filter_once text BadShare NoMemory a b = absurd b
filter_once text Wildcard Empty a b = absurd (a.0 b)
filter_once text Wildcard BadShare a b = absurd (b.1 (a.1 b.0))
filter_once text Wildcard Wildcard a b = refl
filter_once text Wildcard NoMemory a b = absurd b
filter_once text NoMemory other a b = absurd a

pub filters_or_faults : FiltersOrFaults
filters_or_faults text fits = (filter_found text fits, filter_sound text, filter_once text)
