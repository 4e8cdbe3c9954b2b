-- Work, one part after the other.
use Rattle.std.proofs.Common.{◌≡◌, ℕ, ◌+◌, ◌<◌, ◌≤◌, zero, suc, arith, Bool, true, false, cond, List, [], ◌∷◌, ◌++◌, length, get_or, drop, drop-cons, Option, Some, None, Result, Ok, Err, inl, inr, refl, sym, ap, subst, ◌∙◌, append_assoc}
use Rattle.std.specs.Result.{OnOk, IfErr, IsErrAnd}
use Rattle.std.proofs.lemmas.Result.{err_from_is_err_and}
use Rattle.std.proofs.lemmas.List.{append-nil}
use Rattle.row_store.specs.declared.row.Change.{Change}
use Rattle.node_work.specs.declared.fault.NodeFault.{NodeFault}
use Rattle.node_work.specs.declared.fault.NodeFault.TheVariants.{NoMemory, NumbersAtEnd, Stopped}
use Rattle.node_work.specs.declared.outcome.Output.{Output}
use Rattle.node_work.specs.Lasting.{held_row, work_row}
use Rattle.node_work.specs.View.{Place, HeldView, WorkView}
use Rattle.node_work.specs.Acts.{Act, Out, Allowed, Runs, next, gather, output_in}
use Rattle.node_work.proofs.Telling.{Tell, TellsFrom, begins_same, begins_then, names_one, names_then, no_names, still_begin, tells_none, tells_of, tells_then, told_none}
use Rattle.node_work.specs.Working.{Doing, Returns, Acting, Numbered, Looks, FindsWhere, If, Where, Then, InTurn, Each, Did, ComesTo}

pub gather-append : {A : Type 0} (f : Act → List A) (xs ys : List Act) → gather f (xs ++ ys) ≡ gather f xs ++ gather f ys
gather-append f [] ys = refl
gather-append f (x ∷ xs) ys = ap (λ zs. f x ++ zs) (gather-append f xs ys) ∙ sym (append_assoc (f x) (gather f xs) (gather f ys))

pub runs_join : (p : Place) (xs ys : List Act) (a m b : HeldView) → Runs p a xs m → Runs p m ys b → Runs p a (xs ++ ys) b
runs_join p [] ys a m b r q = subst (λ v. Runs p v ys b) r q
runs_join p (x ∷ xs) ys a m b r q = (r.0, r.1, runs_join p xs ys r.0 m b r.2 q)

-- nothing is done
pub did_nothing : {A : Type 0} (w : WorkView) (x : A) → Did w w (Returns x (Some x))
did_nothing w x = record { acts = []; does = (refl, refl); runs = refl; given = sym (append-nil w.outputs); tells = tells_none w w refl refl; begins = λ old lead begins. begins; names = no_names w w [] refl; place = refl }

-- the same acts, as those of another relation
pub did_as : (w w' : WorkView) (P Q : Doing) → ((acts : List Act) → P w.place w.held acts → Q w.place w.held acts) → Did w w' P → Did w w' Q
did_as w w' P Q f d = record { acts = d.acts; does = f d.acts d.does; runs = d.runs; given = d.given; tells = d.tells; begins = d.begins; names = d.names; place = d.place }

pub comes_as : {T A : Type 0} (see : T → A) (r : Result T NodeFault) (w w' : WorkView) (P Q : Option A → Doing) → ((out : Option A) (acts : List Act) → P out w.place w.held acts → Q out w.place w.held acts) → ComesTo see r w w' P → ComesTo see r w w' Q
comes_as see (Ok x) w w' P Q f d = did_as w w' (P (Some (see x))) (Q (Some (see x))) (f (Some (see x))) d
comes_as see (Err NumbersAtEnd) w w' P Q f d = (d.0, did_as w d.0 (P None) (Q None) (f None) d.1)
comes_as see (Err NoMemory) w w' P Q f d = tt
comes_as see (Err Stopped) w w' P Q f d = d

-- by what holds
module _ {T A : Type 0} (see : T → A) (r : Result T NodeFault) (w w' : WorkView) (X : Type 0) (P Q : Option A → Doing) where
  pub comes_where : X → ComesTo see r w w' P → ComesTo see r w w' (Where X P Q)
  comes_where x d = comes_as see r w w' P (Where X P Q) (λ out acts p. inl (x, p)) d

  pub comes_else : ¬ X → ComesTo see r w w' Q → ComesTo see r w w' (Where X P Q)
  comes_else x d = comes_as see r w w' Q (Where X P Q) (λ out acts p. inr (x, p)) d

-- by a test of what is held
module _ {T A : Type 0} (see : T → A) (r : Result T NodeFault) (w w' : WorkView) (test : Place → HeldView → Bool) (P Q : Option A → Doing) where
  pub comes_when : test w.place w.held ≡ true → ComesTo see r w w' P → ComesTo see r w w' (Looks test (λ b. If b P Q))
  comes_when e d = comes_as see r w w' P (Looks test (λ b. If b P Q)) (λ out acts p. subst (λ b. If b P Q out w.place w.held acts) (sym e) p) d

  pub comes_unless : test w.place w.held ≡ false → ComesTo see r w w' Q → ComesTo see r w w' (Looks test (λ b. If b P Q))
  comes_unless e d = comes_as see r w w' Q (Looks test (λ b. If b P Q)) (λ out acts p. subst (λ b. If b P Q out w.place w.held acts) (sym e) p) d

module _ {A B : Type 0} (P : Option A → Doing) (Q : A → Option B → Doing) where
  -- the first part goes on to the second
  pub did_then : (w m w' : WorkView) (x : A) (out : Option B) → Did w m (P (Some x)) → Did m w' (Q x out) → Did w w' (Then P Q out)
  did_then w m w' x out d e = record {
    acts = d.acts ++ e.acts;
    does = inr (x, d.acts, m.held, e.acts, d.does, d.runs, subst (λ v. Q x out v m.held e.acts) d.place e.does, refl);
    runs = runs_join w.place d.acts e.acts w.held m.held w'.held d.runs (subst (λ v. Runs v m.held e.acts w'.held) d.place e.runs);
    given = e.given ∙ ap (λ fs. fs ++ gather output_in e.acts) d.given ∙ append_assoc w.outputs (gather output_in d.acts) (gather output_in e.acts) ∙ ap (λ fs. w.outputs ++ fs) (sym (gather-append output_in d.acts e.acts));
    tells = tells_then w m w' d.tells e.tells;
    begins = begins_then w m w' d.tells d.begins e.begins;
    names = names_then w m w' d.acts e.acts d.place d.runs d.names e.names;
    place = e.place ∙ d.place;
  }

  pub did_stop : (w w' : WorkView) → Did w w' (P None) → Did w w' (Then P Q None)
  did_stop w w' d = record { acts = d.acts; does = inl (refl, d.does); runs = d.runs; given = d.given; tells = d.tells; begins = d.begins; names = d.names; place = d.place }

  -- what comes of both parts
  pub then_goes : {T : Type 0} (see : T → B) (r : Result T NodeFault) (w m w' : WorkView) (x : A) → Did w m (P (Some x)) → ComesTo see r m w' (Q x) → ComesTo see r w w' (Then P Q)
  then_goes see (Ok y) w m w' x d e = did_then w m w' x (Some (see y)) d e
  then_goes see (Err NumbersAtEnd) w m w' x d e = (e.0, did_then w m e.0 x None d e.1)
  then_goes see (Err NoMemory) w m w' x d e = tt
  then_goes see (Err Stopped) w m w' x d e = e

  stops : {S T : Type 0} (look : S → A) (see : T → B) (f : NodeFault) (w w' : WorkView) → ComesTo look (Err f) w w' P → ComesTo see (Err f) w w' (Then P Q)
  stops look see NumbersAtEnd w w' d = (d.0, did_stop w d.0 d.1)
  stops look see NoMemory w w' d = tt
  stops look see Stopped w w' d = d

  -- the fault of the first part, handed on by a `?`
  pub then_stops : {S T : Type 0} (look : S → A) (see : T → B) (r : Result T NodeFault) (f : NodeFault) (w w' : WorkView) → IsErrAnd r (λ e. e ≡ f) → ComesTo look (Err f) w w' P → ComesTo see r w w' (Then P Q)
  then_stops look see r f w w' is d =
      let p = err_from_is_err_and r is in
      subst (λ q. ComesTo see q w w' (Then P Q)) (sym p.1) (subst (λ e. ComesTo see (Err e) w w' (Then P Q)) (sym p.2) (stops look see f w w' d))

-- want of memory, handed on by a `?`
pub comes_wanting : {T A : Type 0} (see : T → A) (r : Result T NodeFault) (w w' : WorkView) (P : Option A → Doing) → IsErrAnd r (λ e. e ≡ NoMemory) → ComesTo see r w w' P
comes_wanting see r w w' P is = let p = err_from_is_err_and r is in subst (λ q. ComesTo see q w w' P) (sym p.1) (subst (λ e. ComesTo see (Err e) w w' P) (sym p.2) tt)

-- what holds whatever the result
pub on_ok_always : {T E X : Type 0} (r : Result T E) → X → OnOk r X
on_ok_always (Ok y) x = x
on_ok_always (Err e) x = tt

-- where only memory may be wanting
pub comes_fine : {T A : Type 0} (see : T → A) (r : Result T NodeFault) (w w' : WorkView) (P : Option A → Doing) → OnOk r ((x : T) → Did w w' (P (Some (see x)))) → IfErr r (λ e. e ≡ NoMemory) → ComesTo see r w w' P
comes_fine see (Ok x) w w' P d e = d x
comes_fine see (Err NoMemory) w w' P d e = tt
comes_fine see (Err NumbersAtEnd) w w' P d e = absurd (let z : NumbersAtEnd ≡ NoMemory = e in cc)
comes_fine see (Err Stopped) w w' P d e = absurd (let z : Stopped ≡ NoMemory = e in cc)

-- one act, with the changes that it tells
pub did_telling : (a : Place → HeldView → Act) (w w' : WorkView) → Allowed w.place w.held (a w.place w.held) → w'.place ≡ w.place → w'.held ≡ next w.held (a w.place w.held) → w'.outputs ≡ w.outputs ++ output_in (a w.place w.held) → Tell w w'
    → Did w w' (Acting a (Some tt))
did_telling a w w' may place held outputs tells =
    let x = a w.place w.held in
    record {
      acts = x ∷ [];
      does = (refl, refl);
      runs = (w'.held, (may, held), refl);
      given = outputs ∙ ap (λ os. w.outputs ++ os) (sym (append-nil (output_in x)));
      tells = tells_of w w' tells;
      begins = still_begin w w' tells;
      names = names_one w w' x tells place held;
      place = place;
    }

-- an act that changes nothing of what lasts
abbrev pub IsQuiet : (Place → HeldView → Act) → WorkView → Type 0
IsQuiet a w = held_row w.place.id (next w.held (a w.place w.held)) ≡ held_row w.place.id w.held

pub did_act : (a : Place → HeldView → Act) (w w' : WorkView) → Allowed w.place w.held (a w.place w.held) → IsQuiet a w → w' ≡ record w { held = next w.held (a w.place w.held); outputs = w.outputs ++ output_in (a w.place w.held) } → Did w w' (Acting a (Some tt))
did_act a w w' may quiet e =
    did_telling a w w' may (ap (λ (v : WorkView). v.place) e) (ap (λ (v : WorkView). v.held) e) (ap (λ (v : WorkView). v.outputs) e)
    (told_none w w' (ap (λ (v : WorkView). v.changes) e) (ap work_row e ∙ quiet))

pub comes_act : (r : Result (Unit {0}) NodeFault) (a : Place → HeldView → Act) (w w' : WorkView) → Allowed w.place w.held (a w.place w.held) → IsQuiet a w
    → OnOk r (w' ≡ record w { held = next w.held (a w.place w.held); outputs = w.outputs ++ output_in (a w.place w.held) }) → IfErr r (λ e. e ≡ NoMemory) → ComesTo (λ x. x) r w w' (Acting a)
comes_act (Ok x) a w w' may quiet e f = did_act a w w' may quiet e
comes_act (Err NoMemory) a w w' may quiet e f = tt
comes_act (Err NumbersAtEnd) a w w' may quiet e f = absurd (let z : NumbersAtEnd ≡ NoMemory = f in cc)
comes_act (Err Stopped) a w w' may quiet e f = absurd (let z : Stopped ≡ NoMemory = f in cc)

-- one act that gives nothing out
module _ (a : Place → HeldView → Act) (w : WorkView) (h' : HeldView) (may : Allowed w.place w.held (a w.place w.held)) (none : output_in (a w.place w.held) ≡ []) (quiet : IsQuiet a w) where
  pub did_silent : h' ≡ next w.held (a w.place w.held) → Did w (record w { held = h' }) (Acting a (Some tt))
  did_silent e = did_act a w (record w { held = h' }) may quiet (λ i. record w { held = e i; outputs = (sym (append-nil w.outputs) ∙ ap (λ os. w.outputs ++ os) (sym none)) i })

  pub comes_silent : (r : Result (Unit {0}) NodeFault) → OnOk r (h' ≡ next w.held (a w.place w.held)) → IfErr r (λ e. e ≡ NoMemory) → ComesTo (λ x. x) r w (record w { held = h' }) (Acting a)
  comes_silent (Ok x) e f = did_silent e
  comes_silent (Err NoMemory) e f = tt
  comes_silent (Err NumbersAtEnd) e f = absurd (let z : NumbersAtEnd ≡ NoMemory = f in cc)
  comes_silent (Err Stopped) e f = absurd (let z : Stopped ≡ NoMemory = f in cc)

-- one act that gives nothing out, with the changes that it tells
module _ (a : Place → HeldView → Act) (w : WorkView) (h' : HeldView) (cs : List Change) (may : Allowed w.place w.held (a w.place w.held)) (none : output_in (a w.place w.held) ≡ []) where
  abbrev told : WorkView
  told = record w { held = h'; changes = cs }

  pub did_told : h' ≡ next w.held (a w.place w.held) → TellsFrom (work_row w) w.changes cs (held_row w.place.id h') → Did w told (Acting a (Some tt))
  did_told e t = did_telling a w told may refl e (sym (append-nil w.outputs) ∙ ap (λ os. w.outputs ++ os) (sym none)) t

  pub comes_told : (r : Result (Unit {0}) NodeFault) → OnOk r (h' ≡ next w.held (a w.place w.held)) → OnOk r (TellsFrom (work_row w) w.changes cs (held_row w.place.id h')) → IfErr r (λ e. e ≡ NoMemory) → ComesTo (λ x. x) r w told (Acting a)
  comes_told (Ok x) e t f = did_told e t
  comes_told (Err NoMemory) e t f = tt
  comes_told (Err NumbersAtEnd) e t f = absurd (let z : NumbersAtEnd ≡ NoMemory = f in cc)
  comes_told (Err Stopped) e t f = absurd (let z : Stopped ≡ NoMemory = f in cc)

-- an act whose number can be had, and one whose number can't
pub did_numbered : (at_end : Place → HeldView → Bool) (a : Place → HeldView → Act) (w w' : WorkView) → at_end w.place w.held ≡ false → Did w w' (Acting a (Some tt)) → Did w w' (Numbered at_end a (Some tt))
did_numbered at_end a w w' e d = did_as w w' (Acting a (Some tt)) (Numbered at_end a (Some tt)) (λ acts p. subst (λ b. cond b ((Some tt ≡ None) × (acts ≡ [])) (Acting a (Some tt) w.place w.held acts)) (sym e) p) d

at_end_by : (b : Bool) (out : Option (Unit {0})) (acts : List Act) (X : Type 0) → b ≡ true → out ≡ None → acts ≡ [] → cond b ((out ≡ None) × (acts ≡ [])) X
at_end_by true out acts X e f g = (f, g)
at_end_by false out acts X e f g = absurd (let z : false ≡ true = e in cc)

pub did_at_end : (at_end : Place → HeldView → Bool) (a : Place → HeldView → Act) (w w' : WorkView) → at_end w.place w.held ≡ true → w' ≡ w → Did w w' (Numbered at_end a None)
did_at_end at_end a w w' e same =
    record {
      acts = [];
      does = at_end_by (at_end w.place w.held) None [] (Acting a None w.place w.held []) e refl refl;
      runs = ap (λ (v : WorkView). v.held) same;
      given = ap (λ (v : WorkView). v.outputs) same ∙ sym (append-nil w.outputs);
      tells = tells_none w w' (ap (λ (v : WorkView). v.changes) same) (ap work_row same);
      begins = begins_same w w' (ap (λ (v : WorkView). v.changes) same);
      names = no_names w w' [] (ap (λ (v : WorkView). v.changes) same);
      place = ap (λ (v : WorkView). v.place) same;
    }

-- ---- parts of a whole

pub drop_past : {A : Type 0} (xs : List A) (i : ℕ) → length xs ≤ i → drop i xs ≡ []
drop_past [] zero h = refl
drop_past [] (suc i) h = refl
drop_past (x ∷ xs) zero h = absurd (omega (arith, h))
drop_past (x ∷ xs) (suc i) h = drop_past xs i (omega (arith, h))

-- what comes of the rest, comes of the whole
abbrev pub Reaches : {B : Type 0} → WorkView → (Option B → Doing) → WorkView → (Option B → Doing) → Type 0
Reaches {B} w P m Q = (out : Option B) (w' : WorkView) → Did m w' (Q out) → Did w w' (P out)

pub reaches_comes : {T B : Type 0} (see : T → B) (r : Result T NodeFault) (w m w' : WorkView) (P Q : Option B → Doing) → Reaches w P m Q → ComesTo see r m w' Q → ComesTo see r w w' P
reaches_comes see (Ok x) w m w' P Q h d = h (Some (see x)) w' d
reaches_comes see (Err NumbersAtEnd) w m w' P Q h d = (d.0, h None d.0 d.1)
reaches_comes see (Err NoMemory) w m w' P Q h d = tt
reaches_comes see (Err Stopped) w m w' P Q h d = d

pub reaches_then : {A B : Type 0} (w m m' : WorkView) (P : Option B → Doing) (Q : Option A → Doing) (R : A → Option B → Doing) (x : A) → Reaches w P m (Then Q R) → Did m m' (Q (Some x)) → Reaches w P m' (R x)
reaches_then w m m' P Q R x h d out w' e = h out w' (did_then Q R m m' w' x out d e)

one_more : (i : ℕ) → suc i ≡ i + 1
one_more i = omega arith

-- the rest of a slice at a place
pub rest_at : {A : Type 0} (xs : List A) (i : ℕ) (x d : A) → i < length xs → x ≡ get_or xs i d → drop i xs ≡ x ∷ drop (i + 1) xs
rest_at xs i x d below at = drop-cons xs i d below ∙ (λ j. sym at j ∷ drop (one_more i j) xs)

-- one more item of a slice
pub turn_next : {A B : Type 0} (One : A → Option B → Doing) (w m m' : WorkView) (P : Option (List B) → Doing) (xs : List A) (i : ℕ) (x d : A) (given given' : List B) (y : B) → i < length xs → x ≡ get_or xs i d
    → Reaches w P m (InTurn One (drop i xs) given) → Did m m' (One x (Some y)) → given' ≡ given ++ y ∷ [] → Reaches w P m' (InTurn One (drop (i + 1) xs) given')
turn_next One w m m' P xs i x d given given' y below at h did e =
    subst (λ ys. Reaches w P m' (InTurn One (drop (i + 1) xs) ys)) (sym e)
    (reaches_then w m m' P (One x) (λ z. InTurn One (drop (i + 1) xs) (given ++ z ∷ [])) y (subst (λ zs. Reaches w P m (InTurn One zs given)) (rest_at xs i x d below at) h) did)

-- one that stops
pub turn_stops : {A B S T : Type 0} (One : A → Option B → Doing) (look : S → B) (see : T → List B) (w m m' : WorkView) (P : Option (List B) → Doing) (xs : List A) (i : ℕ) (x d : A) (given : List B) → i < length xs → x ≡ get_or xs i d
    → Reaches w P m (InTurn One (drop i xs) given) → (r : Result T NodeFault) (f : NodeFault) → IsErrAnd r (λ e. e ≡ f) → ComesTo look (Err f) m m' (One x) → ComesTo see r w m' P
turn_stops One look see w m m' P xs i x d given below at h r f is comes =
    reaches_comes see r w m m' P (InTurn One (x ∷ drop (i + 1) xs) given) (subst (λ zs. Reaches w P m (InTurn One zs given)) (rest_at xs i x d below at) h)
    (then_stops (One x) (λ z. InTurn One (drop (i + 1) xs) (given ++ z ∷ [])) look see r f m m' is comes)

-- all of them
pub turn_ends : {A B : Type 0} (One : A → Option B → Doing) (w m : WorkView) (P : Option (List B) → Doing) (xs : List A) (i : ℕ) (given : List B) → length xs ≤ i → Reaches w P m (InTurn One (drop i xs) given) → Did w m (P (Some given))
turn_ends One w m P xs i given end h = subst (λ zs. Reaches w P m (InTurn One zs given)) (drop_past xs i end) h (Some given) m (did_nothing m given)

-- by what is seen of what is held
pub comes_looks : {T A B : Type 0} (look : T → B) (r : Result T NodeFault) (w w' : WorkView) (see : Place → HeldView → A) (P : A → Option B → Doing) (x : A) → see w.place w.held ≡ x → ComesTo look r w w' (P x) → ComesTo look r w w' (Looks see P)
comes_looks look r w w' see P x e d = comes_as look r w w' (P x) (Looks see P) (λ out acts p. subst (λ y. P y out w.place w.held acts) (sym e) p) d

pub comes_if_not : {T A : Type 0} (see : T → A) (r : Result T NodeFault) (w w' : WorkView) (b : Bool) (P Q : Option A → Doing) → b ≡ false → ComesTo see r w w' Q → ComesTo see r w w' (If b P Q)
comes_if_not see r w w' b P Q e d = comes_as see r w w' Q (If b P Q) (λ out acts p. subst (λ t. If t P Q out w.place w.held acts) (sym e) p) d

pub comes_if : {T A : Type 0} (see : T → A) (r : Result T NodeFault) (w w' : WorkView) (b : Bool) (P Q : Option A → Doing) → b ≡ true → ComesTo see r w w' P → ComesTo see r w w' (If b P Q)
comes_if see r w w' b P Q e d = comes_as see r w w' P (If b P Q) (λ out acts p. subst (λ t. If t P Q out w.place w.held acts) (sym e) p) d

-- by what is found
pub comes_finds : {T A B : Type 0} (look : T → B) (r : Result T NodeFault) (w w' : WorkView) (Is : Place → HeldView → A → Type 0) (P : A → Option B → Doing) (x : A) → Is w.place w.held x → ComesTo look r w w' (P x) → ComesTo look r w w' (FindsWhere Is P)
comes_finds look r w w' Is P x is d = comes_as look r w w' (P x) (FindsWhere Is P) (λ out acts p. (x, is, p)) d

-- ---- each of a list
pub each_next : {A : Type 0} (One : A → Option (Unit {0}) → Doing) (w m m' : WorkView) (P : Option (Unit {0}) → Doing) (xs : List A) (i : ℕ) (x d : A) → i < length xs → x ≡ get_or xs i d
    → Reaches w P m (Each One (drop i xs)) → Did m m' (One x (Some tt)) → Reaches w P m' (Each One (drop (i + 1) xs))
each_next One w m m' P xs i x d below at h did =
    reaches_then w m m' P (One x) (λ _. Each One (drop (i + 1) xs)) tt (subst (λ zs. Reaches w P m (Each One zs)) (rest_at xs i x d below at) h) did

pub each_stops : {A S T : Type 0} (One : A → Option (Unit {0}) → Doing) (look : S → Unit {0}) (see : T → Unit {0}) (w m m' : WorkView) (P : Option (Unit {0}) → Doing) (xs : List A) (i : ℕ) (x d : A) → i < length xs → x ≡ get_or xs i d
    → Reaches w P m (Each One (drop i xs)) → (r : Result T NodeFault) (f : NodeFault) → IsErrAnd r (λ e. e ≡ f) → ComesTo look (Err f) m m' (One x) → ComesTo see r w m' P
each_stops One look see w m m' P xs i x d below at h r f is comes =
    reaches_comes see r w m m' P (Each One (x ∷ drop (i + 1) xs)) (subst (λ zs. Reaches w P m (Each One zs)) (rest_at xs i x d below at) h)
    (then_stops (One x) (λ _. Each One (drop (i + 1) xs)) look see r f m m' is comes)

pub each_ends : {A : Type 0} (One : A → Option (Unit {0}) → Doing) (w m : WorkView) (P : Option (Unit {0}) → Doing) (xs : List A) (i : ℕ) → length xs ≤ i → Reaches w P m (Each One (drop i xs)) → Did w m (P (Some tt))
each_ends One w m P xs i end h = subst (λ zs. Reaches w P m (Each One zs)) (drop_past xs i end) h (Some tt) m (did_nothing m tt)
