-- Facts on counts of hashes.
use Rattle.std.proofs.Common.{◌≡◌, ◌≢◌, ◌+◌, ◌-◌, ◌≤◌, ◌<◌, ◌⊎◌, ◌==◌, ℕ, suc, Bool, true, false, cond, min, List, [], ◌∷◌, ◌++◌, length, Option, Some, None, inl, inr, refl, sym, ap, subst, ◌∙◌, arith, append_assoc, Ordering, Less, Equal, Greater}
use Rattle.std.specs.Prelude.{nat_eq, is_some, if◌then◌else◌}
use Rattle.std.specs.Option.{unwrap_or}
use Rattle.std.specs.Ordering.{match_ordering, is_eq}
use Rattle.std.specs.Map.{lookup, keys_of, remove_entry}
use Rattle.std.specs.BTreeMap.{insert_entry, is_at}
use Rattle.std.specs.FinMap.{nat_cmp-IsAntisymmetric, slice_cmp-IsAntisymmetric}
use Rattle.std.proofs.lemmas.Bool.Decides.{nat_tests}
use Rattle.std.proofs.lemmas.Grind.{fold-append}
use Rattle.filter_trie.specs.Search.Counting.{turn, hash_on, hashes, one, times, total, count, Covers}
use Rattle.filter_trie.specs.Search.Branching.{Holds}
use Rattle.law_maps.proofs.Texts.{text_cmp}

pub hashes_length : (h : ℕ) (t : List ℕ) → length (hashes h t) ≤ length t + 1
hashes_length h [] = omega arith
hashes_length h (b ∷ bs) = by (b == 47) (hashes_length (turn h b) bs)
  where
    by : (s : Bool) → length (hashes (turn h b) bs) ≤ length bs + 1 → length (if s then turn h b ∷ hashes (turn h b) bs else hashes (turn h b) bs) ≤ length (b ∷ bs) + 1
    by true r = omega arith
    by false r = omega arith

same_key : (k h : ℕ) → nat_eq k h ≡ true → k ≡ h
same_key k h e = grind (arith, nat_tests)

-- the counts after one is changed
pub count_put : (es fs : List (ℕ × ℕ)) (k v : ℕ) → ((q : ℕ) → lookup (nat_eq q) fs ≡ cond (nat_eq k q) (Some v) (lookup (nat_eq q) es)) → (h : ℕ) → count fs h ≡ cond (nat_eq k h) v (count es h)
count_put es fs k v u h = ap (λ o. unwrap_or o 0) (u h) ∙ by (nat_eq k h)
  where
    by : (s : Bool) → unwrap_or (cond s (Some v) (lookup (nat_eq h) es)) 0 ≡ cond s v (count es h)
    by true = refl
    by false = refl

pub count_out : (es fs : List (ℕ × ℕ)) (k : ℕ) → ((q : ℕ) → lookup (nat_eq q) fs ≡ cond (nat_eq k q) None (lookup (nat_eq q) es)) → (h : ℕ) → count fs h ≡ cond (nat_eq k h) 0 (count es h)
count_out es fs k u h = ap (λ o. unwrap_or o 0) (u h) ∙ by (nat_eq k h)
  where
    by : (s : Bool) → unwrap_or (cond s None (lookup (nat_eq h) es)) 0 ≡ cond s 0 (count es h)
    by true = refl
    by false = refl

add_step : (s : Bool) (old new n before v : ℕ) → new ≡ cond s v old → (s ≡ true → old ≡ before) → v ≡ min (before + 1) 4294967295 → Covers old n → Covers new (cond s 1 0 + n)
add_step true old new n before v e f g (inl l) = let o = f refl in grind arith
add_step true old new n before v e f g (inr l) = let o = f refl in grind arith
add_step false old new n before v e f g (inl l) = inl (omega arith)
add_step false old new n before v e f g (inr l) = inr (e ∙ l)

pub added : (es fs : List (ℕ × ℕ)) (k v : ℕ) → ((q : ℕ) → lookup (nat_eq q) fs ≡ cond (nat_eq k q) (Some v) (lookup (nat_eq q) es)) → v ≡ min (count es k + 1) 4294967295
    → (h n : ℕ) → Covers (count es h) n → Covers (count fs h) (one k h + n)
added es fs k v u e h n c = add_step (nat_eq k h) (count es h) (count fs h) n (count es k) v (count_put es fs k v u h) (λ s. ap (count es) (sym (same_key k h s))) e c

take_step : (s : Bool) (old new n before : ℕ) → (s ≡ true → old ≡ before) → (s ≡ true → before ≤ new + 1) → (s ≡ false → new ≡ old) → before ≢ 4294967295
    → Covers old (cond s 1 0 + n) → Covers new n
take_step true old new n before f g k ne (inl l) = let o = f refl in let p = g refl in inl (omega arith)
take_step true old new n before f g k ne (inr l) = absurd (ne (sym (f refl) ∙ l))
take_step false old new n before f g k ne (inl l) = let p = k refl in inl (omega arith)
take_step false old new n before f g k ne (inr l) = inr (k refl ∙ l)

-- a count that is lower by one at one key
pub taken : (es : List (ℕ × ℕ)) (new : ℕ → ℕ) (k w : ℕ) → ((h : ℕ) → new h ≡ cond (nat_eq k h) w (count es h)) → count es k ≤ w + 1 → count es k ≢ 4294967295
    → (h n : ℕ) → Covers (count es h) (one k h + n) → Covers (new h) n
taken es new k w u low ne h n c = take_step (nat_eq k h) (count es h) (new h) n (count es k) (λ s. ap (count es) (sym (same_key k h s)))
    (λ s. let e : new h ≡ w = u h ∙ ap (λ t. cond t w (count es h)) s in omega arith)
    (λ s. u h ∙ ap (λ t. cond t w (count es h)) s) ne c

-- nothing changes: less is covered
pub less_covered : (c d n : ℕ) → Covers c (d + n) → Covers c n
less_covered c d n (inl l) = inl (omega arith)
less_covered c d n (inr l) = inr l

pub covers_at : (c d n : ℕ) → d ≡ c → Covers c n → Covers d n
covers_at c d n e (inl l) = inl (omega arith)
covers_at c d n e (inr l) = inr (e ∙ l)

-- one more of what is left to add
pub more_added : (Old New : ℕ → Type 0) (d left all m : ℕ) → New 0 → ((n : ℕ) → Old n → New (d + n)) → ((n : ℕ) → n + (d + left) ≡ all → Old n) → m + left ≡ all → d ≤ 1 → New m
more_added Old New d left all m zero step was e small = by (low_or_not d m)
  where
    low_or_not : (d m : ℕ) → (d ≤ m) ⊎ (m < d)
    low_or_not d m = grind arith

    by : (d ≤ m) ⊎ (m < d) → New m
    by (inl l) = let N : ℕ → Type 0 = New in subst N (omega arith) (step (m - d) (was (m - d) (omega arith)))
    by (inr l) = let N : ℕ → Type 0 = New in let z : 0 ≡ m = omega arith in subst N z zero

pub one_small : (x h : ℕ) → one x h ≤ 1
one_small x h = by (nat_eq x h)
  where
    by : (s : Bool) → cond s 1 0 ≤ 1
    by true = omega arith
    by false = omega arith

-- the hashes of a text with its first byte
pub times_separator : (h x : ℕ) (b : ℕ) (bs : List ℕ) → b ≡ 47 → times h (hashes x (b ∷ bs)) ≡ one (turn x b) h + times h (hashes (turn x b) bs)
times_separator h x b bs e = let s : (b == 47) ≡ true = grind (arith, nat_tests) in ap (λ t. times h (if t then turn x b ∷ hashes (turn x b) bs else hashes (turn x b) bs)) s

pub hashes_separator : (x b : ℕ) (bs : List ℕ) → b ≡ 47 → hashes x (b ∷ bs) ≡ turn x b ∷ hashes (turn x b) bs
hashes_separator x b bs e = let s : (b == 47) ≡ true = grind (arith, nat_tests) in ap (λ t. if t then turn x b ∷ hashes (turn x b) bs else hashes (turn x b) bs) s

pub hashes_other : (x b : ℕ) (bs : List ℕ) → b ≢ 47 → hashes x (b ∷ bs) ≡ hashes (turn x b) bs
hashes_other x b bs e = let s : (b == 47) ≡ false = grind (arith, nat_tests) in ap (λ t. if t then turn x b ∷ hashes (turn x b) bs else hashes (turn x b) bs) s

here : (x : ℕ) (xs : List ℕ) → times x (x ∷ xs) ≢ 0
here x xs e = let s : nat_eq x x ≡ true = grind (arith, nat_tests) in let o : one x x ≡ 1 = ap (λ t. cond t 1 0) s in omega arith

later : (h x : ℕ) (xs : List ℕ) → times h xs ≢ 0 → times h (x ∷ xs) ≢ 0
later h x xs ne e = ne (omega arith)

-- what stands up to a separator is among the hashes, and so is the whole
pub up_to_separator : (h : ℕ) (p g : List ℕ) → times (hash_on h (p ++ 47 ∷ [])) (hashes h (p ++ 47 ∷ g)) ≢ 0
up_to_separator h [] g = here (turn h 47) (hashes (turn h 47) g)
up_to_separator h (b ∷ p) g = by (b == 47) (up_to_separator (turn h b) p g)
  where
    by : (s : Bool) → times (hash_on (turn h b) (p ++ 47 ∷ [])) (hashes (turn h b) (p ++ 47 ∷ g)) ≢ 0
        → times (hash_on (turn h b) (p ++ 47 ∷ [])) (if s then turn h b ∷ hashes (turn h b) (p ++ 47 ∷ g) else hashes (turn h b) (p ++ 47 ∷ g)) ≢ 0
    by true r = later (hash_on (turn h b) (p ++ 47 ∷ [])) (turn h b) (hashes (turn h b) (p ++ 47 ∷ g)) r
    by false r = r

pub whole_text : (h : ℕ) (p : List ℕ) → times (hash_on h p) (hashes h p) ≢ 0
whole_text h [] = here h []
whole_text h (b ∷ p) = by (b == 47) (whole_text (turn h b) p)
  where
    by : (s : Bool) → times (hash_on (turn h b) p) (hashes (turn h b) p) ≢ 0
        → times (hash_on (turn h b) p) (if s then turn h b ∷ hashes (turn h b) p else hashes (turn h b) p) ≢ 0
    by true r = later (hash_on (turn h b) p) (turn h b) (hashes (turn h b) p) r
    by false r = r

pub alike : (a b : List ℕ) → text_cmp a b ≡ Equal → a ≡ b
alike = slice_cmp-IsAntisymmetric nat_cmp-IsAntisymmetric

module _ {X : Type 0} where
  -- a new key counts once
  pub total_insert : (es : List (List ℕ × X)) (k : List ℕ) (v : X) (h : ℕ) → lookup (is_at (text_cmp k)) es ≡ None
      → total (keys_of (insert_entry text_cmp es k v)) h ≡ times h (hashes 0 k) + total (keys_of es) h
  total_insert [] k v h n = refl
  total_insert (e ∷ es) k v h n = by (text_cmp k e.0) n (total_insert es k v h)
    where
      by : (r : Ordering) → cond (is_eq r) (Some e.1) (lookup (is_at (text_cmp k)) es) ≡ None
          → (lookup (is_at (text_cmp k)) es ≡ None → total (keys_of (insert_entry text_cmp es k v)) h ≡ times h (hashes 0 k) + total (keys_of es) h)
          → total (keys_of (match_ordering r ((k, v) ∷ e ∷ es) ((e.0, v) ∷ es) (e ∷ insert_entry text_cmp es k v))) h ≡ times h (hashes 0 k) + total (keys_of (e ∷ es)) h
      by Less m r = refl
      by Equal m r = absurd (let f : Some e.1 ≡ None = m in cc)
      by Greater m r = let f : total (keys_of (insert_entry text_cmp es k v)) h ≡ times h (hashes 0 k) + total (keys_of es) h = r m in omega arith

  pub total_remove : (es : List (List ℕ × X)) (k : List ℕ) (v : X) (h : ℕ) → lookup (is_at (text_cmp k)) es ≡ Some v
      → total (keys_of es) h ≡ times h (hashes 0 k) + total (keys_of (remove_entry (is_at (text_cmp k)) es)) h
  total_remove [] k v h s = absurd (let f : None ≡ Some v = s in cc)
  total_remove (e ∷ es) k v h s = by (text_cmp k e.0) refl s (total_remove es k v h)
    where
      by : (r : Ordering) → text_cmp k e.0 ≡ r → cond (is_eq r) (Some e.1) (lookup (is_at (text_cmp k)) es) ≡ Some v
          → (lookup (is_at (text_cmp k)) es ≡ Some v → total (keys_of es) h ≡ times h (hashes 0 k) + total (keys_of (remove_entry (is_at (text_cmp k)) es)) h)
          → total (keys_of (e ∷ es)) h ≡ times h (hashes 0 k) + total (keys_of (cond (is_eq r) es (e ∷ remove_entry (is_at (text_cmp k)) es))) h
      by Less p m r = let f = r m in omega arith
      by Equal p m r = ap (λ t. times h (hashes 0 t) + total (keys_of es) h) (sym (alike k e.0 p))
      by Greater p m r = let f = r m in omega arith

  -- a key counts
  pub total_has : (es : List (List ℕ × X)) (t : List ℕ) (h : ℕ) → Holds es t → times h (hashes 0 t) ≤ total (keys_of es) h
  total_has [] t h a = absurd a
  total_has (e ∷ es) t h (inl a) = let f : times h (hashes 0 e.0) ≡ times h (hashes 0 t) = ap (λ u. times h (hashes 0 u)) a in omega arith
  total_has (e ∷ es) t h (inr a) = let f = total_has es t h a in omega arith

  -- and so it is filed
  pub filed : (counted : ℕ → ℕ) (es : List (List ℕ × X)) → ((h : ℕ) → Covers (counted h) (total (keys_of es) h)) → (t : List ℕ) → Holds es t
      → (h : ℕ) → times h (hashes 0 t) ≢ 0 → counted h ≢ 0
  filed counted es c t a h ne z = by (c h)
    where
      by : Covers (counted h) (total (keys_of es) h) → ⊥
      by (inl l) = let f : times h (hashes 0 t) ≤ total (keys_of es) h = total_has es t h a in ne (omega arith)
      by (inr l) = let f : 4294967295 ≡ 0 = sym l ∙ z in omega arith

-- a turn of the loops over the bytes of a filter
module _ (start old new all : ℕ → ℕ) (x b t : ℕ) (left rest : List ℕ) (cut : left ≡ b ∷ rest) (is : t ≡ turn x b) where
  times_left : (h : ℕ) → b ≡ 47 → times h (hashes x left) ≡ one t h + times h (hashes t rest)
  times_left h e = ap (λ l. times h (hashes x l)) cut ∙ times_separator h x b rest e ∙ ap (λ u. one u h + times h (hashes u rest)) (sym is)

  times_on : (h : ℕ) → b ≢ 47 → times h (hashes x left) ≡ times h (hashes t rest)
  times_on h e = ap (λ l. times h (hashes x l)) cut ∙ ap (times h) (hashes_other x b rest e) ∙ ap (λ u. times h (hashes u rest)) (sym is)

  pub room_separator : b ≡ 47 → length (hashes x left) ≡ suc (length (hashes t rest))
  room_separator e = ap (λ l. length (hashes x l)) cut ∙ ap length (hashes_separator x b rest e) ∙ ap (λ u. suc (length (hashes u rest))) (sym is)

  pub room_other : b ≢ 47 → length (hashes x left) ≡ length (hashes t rest)
  room_other e = ap (λ l. length (hashes x l)) cut ∙ ap length (hashes_other x b rest e) ∙ ap (λ u. length (hashes u rest)) (sym is)

  pub on_separator : b ≡ 47 → ((h n : ℕ) → Covers (old h) n → Covers (new h) (one t h + n))
      → ((h n m : ℕ) → Covers (start h) n → m + times h (hashes x left) ≡ all h + n → Covers (old h) m)
      → (h n m : ℕ) → Covers (start h) n → m + times h (hashes t rest) ≡ all h + n → Covers (new h) m
  on_separator e step was h n m c f = more_added (Covers (old h)) (Covers (new h)) (one t h) (times h (hashes t rest)) (all h + n) m (inl (omega arith))
      (step h) (λ k g. was h n k c (let u = times_left h e in omega arith)) f (one_small t h)

  pub on_other : b ≢ 47 → ((h n m : ℕ) → Covers (start h) n → m + times h (hashes x left) ≡ all h + n → Covers (old h) m)
      → (h n m : ℕ) → Covers (start h) n → m + times h (hashes t rest) ≡ all h + n → Covers (old h) m
  on_other e was h n m c f = was h n m c (let u = times_on h e in omega arith)

  pub off_separator : b ≡ 47 → ((h n : ℕ) → Covers (old h) (one t h + n) → Covers (new h) n)
      → ((h n : ℕ) → Covers (start h) (all h + n) → Covers (old h) (times h (hashes x left) + n))
      → (h n : ℕ) → Covers (start h) (all h + n) → Covers (new h) (times h (hashes t rest) + n)
  off_separator e step was h n c =
      let u = times_left h e in
      let C : ℕ → Type 0 = Covers (old h) in
      let s : times h (hashes x left) + n ≡ one t h + (times h (hashes t rest) + n) = omega arith in
      step h (times h (hashes t rest) + n) (subst C s (was h n c))

  pub off_other : b ≢ 47 → ((h n : ℕ) → Covers (start h) (all h + n) → Covers (old h) (times h (hashes x left) + n))
      → (h n : ℕ) → Covers (start h) (all h + n) → Covers (old h) (times h (hashes t rest) + n)
  off_other e was h n c =
      let u = times_on h e in
      let C : ℕ → Type 0 = Covers (old h) in
      let s : times h (hashes x left) + n ≡ times h (hashes t rest) + n = omega arith in
      subst C s (was h n c)

-- their ends
module _ (start old new all : ℕ → ℕ) (x : ℕ) (left : List ℕ) (over : left ≡ []) where
  times_last : (h : ℕ) → times h (hashes x left) ≡ one x h + 0
  times_last h = ap (λ l. times h (hashes x l)) over

  pub last_added : ((h n : ℕ) → Covers (old h) n → Covers (new h) (one x h + n))
      → ((h n m : ℕ) → Covers (start h) n → m + times h (hashes x left) ≡ all h + n → Covers (old h) m)
      → (h n : ℕ) → Covers (start h) n → Covers (new h) (all h + n)
  last_added step was h n c = more_added (Covers (old h)) (Covers (new h)) (one x h) 0 (all h + n) (all h + n) (inl (omega arith))
      (step h) (λ k g. was h n k c (let u = times_last h in omega arith)) (omega arith) (one_small x h)

  pub last_taken : ((h n : ℕ) → Covers (old h) (one x h + n) → Covers (new h) n)
      → ((h n : ℕ) → Covers (start h) (all h + n) → Covers (old h) (times h (hashes x left) + n))
      → (h n : ℕ) → Covers (start h) (all h + n) → Covers (new h) n
  last_taken step was h n c =
      let u = times_last h in
      let C : ℕ → Type 0 = Covers (old h) in
      let s : times h (hashes x left) + n ≡ one x h + n = omega arith in
      step h n (subst C s (was h n c))

-- where no count is there a text isn't filed
pub not_filed : (counted : ℕ → ℕ) (hash c : ℕ) (text level f : List ℕ) → hash ≡ hash_on 0 text → c ≡ hash_on hash level → counted c ≡ 0
    → ((h : ℕ) → times h (hashes 0 f) ≢ 0 → counted h ≢ 0) → f ≡ text ++ level → ⊥
not_filed counted hash c text level f e d zero filed is =
    let same : c ≡ hash_on 0 f = d ∙ ap (λ h. hash_on h level) e ∙ sym (fold-append turn 0 text level) ∙ ap (hash_on 0) (sym is) in
    let N : ℕ → Type 0 = λ h. times h (hashes 0 f) ≢ 0 in
    filed c (subst N (sym same) (whole_text 0 f)) zero

pub not_begun : (counted : ℕ → ℕ) (hash c d : ℕ) (text level f g : List ℕ) → hash ≡ hash_on 0 text → c ≡ hash_on hash level → d ≡ hash_on c (47 ∷ []) → counted d ≡ 0
    → ((h : ℕ) → times h (hashes 0 f) ≢ 0 → counted h ≢ 0) → f ≡ text ++ (level ++ 47 ∷ g) → ⊥
not_begun counted hash c d text level f g e k l zero filed is =
    let p : List ℕ = text ++ level in
    let same : d ≡ hash_on 0 (p ++ 47 ∷ []) = l ∙ ap (λ h. hash_on h (47 ∷ [])) (k ∙ ap (λ h. hash_on h level) e ∙ sym (fold-append turn 0 text level)) ∙ sym (fold-append turn 0 p (47 ∷ [])) in
    let whole : f ≡ p ++ 47 ∷ g = is ∙ sym (append_assoc text level (47 ∷ g)) in
    let N : ℕ → Type 0 = λ h. times h (hashes 0 f) ≢ 0 in
    let M : List ℕ → Type 0 = λ t. times (hash_on 0 (p ++ 47 ∷ [])) (hashes 0 t) ≢ 0 in
    filed d (subst N (sym same) (subst M (sym whole) (up_to_separator 0 p g))) zero

pub none_from : {A : Type 0} → (o : Option A) → is_some o ≡ false → o ≡ None
none_from None e = refl
none_from (Some x) e = absurd (let f : true ≡ false = e in cc)

-- what stays counted of the keys of a map
module _ {X : Type 0} (es fs : List (List ℕ × X)) (k : List ℕ) (old : ℕ → ℕ) (inside : (h : ℕ) → Covers (old h) (total (keys_of es) h)) where
  pub still_inserted : (v : X) (new : ℕ → ℕ) (there : Bool) → there ≡ is_some (lookup (is_at (text_cmp k)) es)
      → ((h n : ℕ) → Covers (old h) n → Covers (new h) ((if there then 0 else times h (hashes 0 k)) + n))
      → fs ≡ insert_entry text_cmp es k v → (is_some (lookup (is_at (text_cmp k)) es) ≡ true → keys_of fs ≡ keys_of es)
      → (h : ℕ) → Covers (new h) (total (keys_of fs) h)
  still_inserted v new true e step is stay h =
      let C : ℕ → Type 0 = Covers (new h) in
      let u : total (keys_of es) h ≡ total (keys_of fs) h = ap (λ ks. total ks h) (sym (stay (sym e))) in
      let t : 0 + total (keys_of es) h ≡ total (keys_of fs) h = omega arith in
      subst C t (step h (total (keys_of es) h) (inside h))
  still_inserted v new false e step is stay h =
      let C : ℕ → Type 0 = Covers (new h) in
      let t : total (keys_of fs) h ≡ times h (hashes 0 k) + total (keys_of es) h = ap (λ l. total (keys_of l) h) is ∙ total_insert es k v h (none_from (lookup (is_at (text_cmp k)) es) (sym e)) in
      subst C (sym t) (step h (total (keys_of es) h) (inside h))

  pub still_refused : (mid new : ℕ → ℕ) (there : Bool) → there ≡ is_some (lookup (is_at (text_cmp k)) es) → lookup (is_at (text_cmp k)) es ≡ None
      → ((h n : ℕ) → Covers (old h) n → Covers (mid h) ((if there then 0 else times h (hashes 0 k)) + n))
      → ((h n : ℕ) → Covers (mid h) (times h (hashes 0 k) + n) → Covers (new h) n) → fs ≡ es
      → (h : ℕ) → Covers (new h) (total (keys_of fs) h)
  still_refused mid new there e none step back is h =
      let C : ℕ → Type 0 = Covers (new h) in
      let no : there ≡ false = e ∙ ap is_some none in
      let M : Bool → Type 0 = λ b. Covers (mid h) ((if b then 0 else times h (hashes 0 k)) + total (keys_of es) h) in
      let t : total (keys_of es) h ≡ total (keys_of fs) h = ap (λ l. total (keys_of l) h) (sym is) in
      subst C t (back h (total (keys_of es) h) (subst M no (step h (total (keys_of es) h) (inside h))))

  pub still_removed : (v : X) (new : ℕ → ℕ) → lookup (is_at (text_cmp k)) es ≡ Some v → fs ≡ remove_entry (is_at (text_cmp k)) es
      → ((h n : ℕ) → Covers (old h) (times h (hashes 0 k) + n) → Covers (new h) n)
      → (h : ℕ) → Covers (new h) (total (keys_of fs) h)
  still_removed v new some is back h =
      let C : ℕ → Type 0 = Covers (new h) in
      let O : ℕ → Type 0 = Covers (old h) in
      let r = remove_entry (is_at (text_cmp k)) es in
      let t : total (keys_of r) h ≡ total (keys_of fs) h = ap (λ l. total (keys_of l) h) (sym is) in
      subst C t (back h (total (keys_of r) h) (subst O (total_remove es k v h some) (inside h)))
