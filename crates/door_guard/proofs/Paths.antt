-- What happens on a connection, one thing after another.
use Rattle.std.proofs.Common.{◌≡◌, ℕ, Bool, true, false, cond, List, [], ◌∷◌, ◌++◌, Option, Some, None, refl, sym, ap, subst, ◌∙◌, append_assoc}
use Rattle.std.specs.Prelude.{◌==◌}
use Rattle.std.specs.List.{AllByRecursion}
use Rattle.std.proofs.lemmas.Bool.{eqb-true, eq-eqb}
use Rattle.std.proofs.lemmas.List.{append-nil}
use Rattle.std.proofs.lemmas.Grind.{flat_map-append}
use Rattle.broker_sockets.specs.declared.events.Event.{Event}
use Rattle.broker_sockets.specs.declared.events.Output.{Output}
use Rattle.broker_sockets.specs.declared.events.Output.TheVariants.{Send, Close}
use Rattle.door_guard.specs.Clients.{IsBut, client_of}
use Rattle.door_guard.specs.Counts.{Refusal, Refused, all_counted, counted, refused_on, refused_one, with_one}
use Rattle.door_packets.specs.Rights.{Rights}
use Rattle.door_packets.specs.Sending.{Buffer}
use Rattle.door_guard.specs.Stages.{AreSaid, Doing, Effect, Happening, Held, IsOrderly, IsPath, Notice, Outgoing, Said, at, effect, given_in, given_one, held_after, held_by, idle, met_in, met_one, none_busy, noted, of_output, on, out_in, refused_at, refused_in, staged, todo_of, told_in}
use Rattle.door_guard.specs.Stages.Outgoing.{Bytes, End}
use Rattle.door_guard.specs.Telling.{ArePaths, AreTold, IsPart, Ledger, Stages, Told, given_by, none, noted_in}
use Rattle.door_packets.specs.declared.client.Client.{Client}
use Rattle.door_guard.specs.declared.clients.Clients.{Clients}
use Rattle.door_guard.specs.declared.counts.Refusals.{Refusals}

-- ---- one behind the other

said_then : (ss ts : List Said) (ms ns : List Notice) → AreSaid ss ms → AreSaid ts ns → AreSaid (ss ++ ts) (ms ++ ns)
said_then [] ts [] ns a b = b
said_then [] ts (m ∷ ms) ns a b = absurd a
said_then (s ∷ ss) ts [] ns a b = absurd a
said_then (s ∷ ss) ts (m ∷ ms) ns a b = (a.0, said_then ss ts ms ns a.1 b)

held_then : (r : Rights) (s : Option Held) (hs gs : List Happening) → held_after r s (hs ++ gs) ≡ held_after r (held_after r s hs) gs
held_then r s [] gs = refl
held_then r s (h ∷ hs) gs = held_then r (effect r s h).held hs gs

told_then : (r : Rights) (s : Option Held) (hs gs : List Happening) → told_in r s (hs ++ gs) ≡ told_in r s hs ++ told_in r (held_after r s hs) gs
told_then r s [] gs = refl
told_then r s (h ∷ hs) gs =
    ap (λ (ns : List Said). (effect r s h).told ++ ns) (told_then r (effect r s h).held hs gs)
    ∙ sym (append_assoc (effect r s h).told (told_in r (effect r s h).held hs) (told_in r (held_after r (effect r s h).held hs) gs))

out_then : (r : Rights) (s : Option Held) (hs gs : List Happening) → out_in r s (hs ++ gs) ≡ out_in r s hs ++ out_in r (held_after r s hs) gs
out_then r s [] gs = refl
out_then r s (h ∷ hs) gs =
    ap (λ (os : List Outgoing). (effect r s h).out ++ os) (out_then r (effect r s h).held hs gs)
    ∙ sym (append_assoc (effect r s h).out (out_in r (effect r s h).held hs) (out_in r (held_after r (effect r s h).held hs) gs))

refused_then : (r : Rights) (s : Option Held) (hs gs : List Happening) → refused_in r s (hs ++ gs) ≡ refused_in r s hs ++ refused_in r (held_after r s hs) gs
refused_then r s [] gs = refl
refused_then r s (h ∷ hs) gs =
    ap (λ (xs : List Refusal). refused_at r s h ++ xs) (refused_then r (effect r s h).held hs gs)
    ∙ sym (append_assoc (refused_at r s h) (refused_in r (effect r s h).held hs) (refused_in r (held_after r (effect r s h).held hs) gs))

orderly_then : (r : Rights) (s : Option Held) (hs gs : List Happening) → IsOrderly r s hs → IsOrderly r (held_after r s hs) gs → IsOrderly r s (hs ++ gs)
orderly_then r s [] gs a b = b
orderly_then r s (h ∷ hs) gs a b = (a.0, orderly_then r (effect r s h).held hs gs a.1 b)

pub on_then : (q : ℕ) (xs ys : List Output) → on q (xs ++ ys) ≡ on q xs ++ on q ys
on_then q xs ys = flat_map-append (of_output q) xs ys

refused_both : (q : ℕ) (xs ys : List Refused) → refused_on q (xs ++ ys) ≡ refused_on q xs ++ refused_on q ys
refused_both q xs ys = flat_map-append (refused_one q) xs ys

pub path_none : (r : Rights) (q : ℕ) (s : Option Held) (o : List Output) → IsPath r q s s [] [] [] [] o o
path_none r q s o = record { happenings = []; held = refl; orderly = tt; comes = refl; tells = tt; gives = refl; refuses = refl; goes = sym (append-nil (on q o)) }

pub path_then : (r : Rights) (q : ℕ) (s m s' : Option Held) (met met' told told' : List Notice) (given given' : List Output) (refused refused' : List Refused) (o p x : List Output)
    → IsPath r q s m met told given refused o p → IsPath r q m s' met' told' given' refused' p x → IsPath r q s s' (met ++ met') (told ++ told') (given ++ given') (refused ++ refused') o x
path_then r q s m s' met met' told told' given given' refused refused' o p x a b =
    let hs = a.happenings in
    let gs = b.happenings in
    let behind : held_after r m gs ≡ held_after r (held_after r s hs) gs = ap (λ (y : Option Held). held_after r y gs) a.held in
    let ordered : IsOrderly r (held_after r s hs) gs = subst (λ (y : Option Held). IsOrderly r y gs) a.held b.orderly in
    let said : AreSaid (told_in r (held_after r s hs) gs) told' = subst (λ (y : Option Held). AreSaid (told_in r y gs) told') a.held b.tells in
    record {
      happenings = hs ++ gs;
      held = b.held ∙ behind ∙ sym (held_then r s hs gs);
      orderly = orderly_then r s hs gs a.orderly ordered;
      comes = flat_map-append met_one hs gs ∙ ap (λ (xs : List Notice). xs ++ met_in gs) a.comes ∙ ap (λ (xs : List Notice). met ++ xs) b.comes;
      tells = subst (λ (ns : List Said). AreSaid ns (told ++ told')) (sym (told_then r s hs gs)) (said_then (told_in r s hs) (told_in r (held_after r s hs) gs) told told' a.tells said);
      gives =
          flat_map-append given_one hs gs ∙ ap (λ (xs : List Outgoing). xs ++ given_in gs) a.gives ∙ ap (λ (xs : List Outgoing). on q given ++ xs) b.gives
          ∙ sym (on_then q given given');
      refuses =
          refused_both q refused refused' ∙ ap (λ (xs : List Refusal). xs ++ refused_on q refused') a.refuses ∙ ap (λ (xs : List Refusal). refused_in r s hs ++ xs) b.refuses
          ∙ ap (λ (y : Option Held). refused_in r s hs ++ refused_in r y gs) a.held ∙ sym (refused_then r s hs gs);
      goes =
          b.goes ∙ ap (λ (xs : List Outgoing). xs ++ out_in r m gs) a.goes ∙ append_assoc (on q o) (out_in r s hs) (out_in r m gs)
          ∙ ap (λ (y : Option Held). on q o ++ (out_in r s hs ++ out_in r y gs)) a.held ∙ ap (λ (xs : List Outgoing). on q o ++ xs) (sym (out_then r s hs gs));
    }

path_one : (r : Rights) (q : ℕ) (s : Option Held) (h : Happening) (met told : List Notice) (given : List Output) (refused : List Refused) (o p : List Output) → ((met_one h ≡ [] → ⊥) → todo_of s ≡ []) → met_one h ≡ met
    → AreSaid (effect r s h).told told → given_one h ≡ on q given → refused_on q refused ≡ refused_at r s h → on q p ≡ on q o ++ (effect r s h).out → IsPath r q s (effect r s h).held met told given refused o p
path_one r q s h met told given refused o p ordered meets tells gives refuses goes = record {
  happenings = h ∷ [];
  held = refl;
  orderly = (ordered, tt);
  comes = append-nil (met_one h) ∙ meets;
  tells = subst (λ (ns : List Said). AreSaid ns told) (sym (append-nil (effect r s h).told)) tells;
  gives = append-nil (given_one h) ∙ gives;
  refuses = refuses ∙ sym (append-nil (refused_at r s h));
  goes = goes ∙ ap (λ (xs : List Outgoing). on q o ++ xs) (sym (append-nil (effect r s h).out));
}

-- ---- one thing on one connection

-- nothing of it is for this one
pub record IsApart (q : ℕ) (met told : List Notice) (given : List Output) (refused : List Refused) (o p : List Output) : Type 0 where
  pub meets : met ≡ []
  pub tells : told ≡ []
  pub gives : on q given ≡ []
  pub refuses : refused_on q refused ≡ []
  pub goes : on q p ≡ on q o

nothing_said : (told : List Notice) → told ≡ [] → AreSaid [] told
nothing_said told none = subst (AreSaid []) (sym none) tt

apart_path : (r : Rights) (q : ℕ) (s s' : Option Held) (met told : List Notice) (given : List Output) (refused : List Refused) (o p : List Output) → s' ≡ s → IsApart q met told given refused o p → IsPath r q s s' met told given refused o p
apart_path r q s s' met told given refused o p same a = record {
  happenings = [];
  held = same;
  orderly = tt;
  comes = sym a.meets;
  tells = nothing_said told a.tells;
  gives = sym a.gives;
  refuses = a.refuses;
  goes = a.goes ∙ sym (append-nil (on q o));
}

module _ (r : Rights) (c : ℕ) (h : Happening) (e : Effect) (s s' : Stages) (met told : ℕ → List Notice) (given : List Output) (refused : List Refused) (o p : List Output) where
  one_at : (q : ℕ) (b : Bool) → (c == q) ≡ b → s' c ≡ (effect r (s c) h).held → ((x : ℕ) → (c == x) ≡ false → s' x ≡ s x)
      → IsPath r c (s c) (effect r (s c) h).held (met c) (told c) given refused o p → ((c == q) ≡ false → IsApart q (met q) (told q) given refused o p) → IsPath r q (s q) (s' q) (met q) (told q) given refused o p
  one_at q true is here there path apart =
      let at_it : IsPath r c (s c) (s' c) (met c) (told c) given refused o p = subst (λ (x : Option Held). IsPath r c (s c) x (met c) (told c) given refused o p) (sym here) path in
      subst (λ (n : ℕ). IsPath r n (s n) (s' n) (met n) (told n) given refused o p) (eqb-true c q is) at_it
  one_at q false is here there path apart = apart_path r q (s q) (s' q) (met q) (told q) given refused o p (there q is) (apart is)

  -- what comes of it is this
  pub one : effect r (s c) h ≡ e → s' c ≡ e.held → ((x : ℕ) → (c == x) ≡ false → s' x ≡ s x) → ((met_one h ≡ [] → ⊥) → todo_of (s c) ≡ []) → met_one h ≡ met c → AreSaid e.told (told c) → given_one h ≡ on c given
      → refused_on c refused ≡ refused_at r (s c) h → on c p ≡ on c o ++ e.out → ((q : ℕ) → (c == q) ≡ false → IsApart q (met q) (told q) given refused o p) → ArePaths r met told given refused s s' o p
  one is here there ordered meets tells gives refuses goes apart q =
      let said : AreSaid (effect r (s c) h).told (told c) = subst (λ (x : Effect). AreSaid x.told (told c)) (sym is) tells in
      let sent : on c p ≡ on c o ++ (effect r (s c) h).out = goes ∙ ap (λ (x : Effect). on c o ++ x.out) (sym is) in
      one_at q (c == q) refl (here ∙ ap (λ (x : Effect). x.held) (sym is)) there (path_one r c (s c) h (met c) (told c) given refused o p ordered meets said gives refuses sent) (apart q)

pub paths_none : (r : Rights) (s : Stages) (o : List Output) → ArePaths r none none [] [] s s o o
paths_none r s o q = path_none r q (s q) o

pub paths_then : (r : Rights) (s m s' : Stages) (met met' told told' : ℕ → List Notice) (given given' : List Output) (refused refused' : List Refused) (o p x : List Output)
    → ArePaths r met told given refused s m o p → ArePaths r met' told' given' refused' m s' p x → ArePaths r (λ q. met q ++ met' q) (λ q. told q ++ told' q) (given ++ given') (refused ++ refused') s s' o x
paths_then r s m s' met met' told told' given given' refused refused' o p x a b q =
    path_then r q (s q) (m q) (s' q) (met q) (met' q) (told q) (told' q) given given' refused refused' o p x (a q) (b q)

-- with other words for the same
pub paths_as : (r : Rights) (s s' : Stages) (met met' told told' : ℕ → List Notice) (given given' : List Output) (refused : List Refused) (o p : List Output) → ((q : ℕ) → met q ≡ met' q) → ((q : ℕ) → told q ≡ told' q) → given ≡ given'
    → ArePaths r met told given refused s s' o p → ArePaths r met' told' given' refused s s' o p
paths_as r s s' met met' told told' given given' refused o p e f g a q =
    let first : IsPath r q (s q) (s' q) (met' q) (told q) given refused o p = subst (λ (m : List Notice). IsPath r q (s q) (s' q) m (told q) given refused o p) (e q) (a q) in
    let second : IsPath r q (s q) (s' q) (met' q) (told' q) given refused o p = subst (λ (t : List Notice). IsPath r q (s q) (s' q) (met' q) t given refused o p) (f q) first in
    subst (λ (x : List Output). IsPath r q (s q) (s' q) (met' q) (told' q) x refused o p) g second

-- from and to other names of the same stages
pub paths_at : (r : Rights) (s t s' t' : Stages) (met told : ℕ → List Notice) (given : List Output) (refused : List Refused) (o p : List Output) → ((q : ℕ) → s q ≡ t q) → ((q : ℕ) → s' q ≡ t' q)
    → ArePaths r met told given refused s s' o p → ArePaths r met told given refused t t' o p
paths_at r s t s' t' met told given refused o p e f a q =
    let first : IsPath r q (t q) (s' q) (met q) (told q) given refused o p = subst (λ (x : Option Held). IsPath r q x (s' q) (met q) (told q) given refused o p) (e q) (a q) in
    subst (λ (x : Option Held). IsPath r q (t q) x (met q) (told q) given refused o p) (f q) first

-- ---- what is refused

-- on one connection
abbrev pub tagged : ℕ → List Refusal → List Refused
tagged c [] = []
tagged c (x ∷ xs) = (c, x) ∷ tagged c xs

pub tagged_here : (c : ℕ) (xs : List Refusal) → refused_on c (tagged c xs) ≡ xs
tagged_here c [] = refl
tagged_here c (x ∷ xs) = ap (λ (b : Bool). cond b (x ∷ []) [] ++ refused_on c (tagged c xs)) (eq-eqb c c refl) ∙ ap (λ (ys : List Refusal). x ∷ ys) (tagged_here c xs)

pub tagged_there : (c q : ℕ) (xs : List Refusal) → (c == q) ≡ false → refused_on q (tagged c xs) ≡ []
tagged_there c q [] e = refl
tagged_there c q (x ∷ xs) e = ap (λ (b : Bool). cond b (x ∷ []) [] ++ refused_on q (tagged c xs)) e ∙ tagged_there c q xs e

pub tagged_counted : (c : ℕ) (xs : List Refusal) (n : Refusals) → all_counted (tagged c xs) n ≡ counted xs n
tagged_counted c [] n = refl
tagged_counted c (x ∷ xs) n = tagged_counted c xs (with_one x n)

counted_then : (xs ys : List Refused) (n : Refusals) → all_counted (xs ++ ys) n ≡ all_counted ys (all_counted xs n)
counted_then [] ys n = refl
counted_then (x ∷ xs) ys n = counted_then xs ys (with_one x.1 n)

-- some and then others
pub counts_then : (xs ys : List Refused) (n m l : Refusals) → m ≡ all_counted xs n → l ≡ all_counted ys m → l ≡ all_counted (xs ++ ys) n
counts_then xs ys n m l a b = b ∙ ap (all_counted ys) a ∙ sym (counted_then xs ys n)

-- ---- its cases

pub itself : (c : ℕ) → (c == c) ≡ true
itself c = eq-eqb c c refl

pub send_here : (c : ℕ) (bytes : Buffer) → on c (Send c bytes ∷ []) ≡ Bytes bytes.items ∷ []
send_here c bytes = rw (itself c) refl

pub send_there : (c q : ℕ) (bytes : Buffer) → (c == q) ≡ false → on q (Send c bytes ∷ []) ≡ []
send_there c q bytes e = rw e refl

pub close_here : (c : ℕ) → on c (Close c ∷ []) ≡ End ∷ []
close_here c = rw (itself c) refl

pub close_there : (c q : ℕ) → (c == q) ≡ false → on q (Close c ∷ []) ≡ []
close_there c q e = rw e refl

-- ---- stages of clients

pub at_here : (c : ℕ) (d : Doing) → at c d c ≡ d
at_here c d = ap (λ (b : Bool). cond b d idle) (itself c)

pub at_there : (c q : ℕ) (d : Doing) → (c == q) ≡ false → at c d q ≡ idle
at_there c q d e = ap (λ (b : Bool). cond b d idle) e

-- nothing is to be done where nothing is being done
pub idle_todo : (y : Option Client) → todo_of (held_by idle y) ≡ []
idle_todo None = refl
idle_todo (Some x) = refl

idle_case : (b : Bool) → cond b idle idle ≡ idle
idle_case true = refl
idle_case false = refl

pub at_idle : (c : ℕ) (k : Clients) (q : ℕ) → staged (at c idle) k q ≡ staged none_busy k q
at_idle c k q = ap (λ (d : Doing). held_by d (client_of k q)) (idle_case (c == q))

-- of the connection for which something is done
pub staged_here : (c : ℕ) (d : Doing) (k : Clients) → staged (at c d) k c ≡ held_by d (client_of k c)
staged_here c d k = ap (λ (x : Doing). held_by x (client_of k c)) (at_here c d)

pub staged_there : (c q : ℕ) (d e : Doing) (k k' : Clients) → (c == q) ≡ false → client_of k' q ≡ client_of k q → staged (at c e) k' q ≡ staged (at c d) k q
staged_there c q d e k k' apart same =
    ap (λ (x : Doing). held_by x (client_of k' q)) (at_there c q e apart ∙ sym (at_there c q d apart)) ∙ ap (held_by (at c d q)) same

-- of any other
pub staged_but : (busy : ℕ → Doing) (c q : ℕ) (x : Option Client) (k k' : Clients) → IsBut c x k k' → (c == q) ≡ false → staged busy k' q ≡ staged busy k q
staged_but busy c q x k k' but apart = ap (held_by (busy q)) (but.others q apart)

pub but_same : (c : ℕ) (x : Option Client) (k k' : Clients) → client_of k c ≡ x → k' ≡ k → IsBut c x k k'
but_same c x k k' is same = subst (λ (y : Clients). IsBut c x k y) (sym same) (record { at = is; others = λ q e. refl })

pub but_then : (c : ℕ) (x y : Option Client) (k l m : Clients) → IsBut c x k l → IsBut c y l m → IsBut c y k m
but_then c x y k l m a b = record { at = b.at; others = λ q e. b.others q e ∙ a.others q e }

-- ---- calls

given_then : (xs ys : List Told) → given_by (xs ++ ys) ≡ given_by xs ++ given_by ys
given_then xs ys = flat_map-append (λ (t : Told). t.1) xs ys

noted_then : (q : ℕ) (xs ys : List Told) → noted_in q (xs ++ ys) ≡ noted_in q xs ++ noted_in q ys
noted_then q xs ys = flat_map-append (λ (t : Told). noted q t.0.kind) xs ys

pub all_then : {A : Type 0} (P : A → Type 0) (xs ys : List A) → AllByRecursion P xs → AllByRecursion P ys → AllByRecursion P (xs ++ ys)
all_then P [] ys a b = b
all_then P (x ∷ xs) ys a b = (a.0, all_then P xs ys a.1 b)

module _ {H : Type 0} (handles : H → Event → List Output → H → Type 0) where
  pub calls_then : (xs ys : List Told) (h m h' : H) → AreTold handles xs h m → AreTold handles ys m h' → AreTold handles (xs ++ ys) h h'
  calls_then [] ys h m h' same more = subst (λ x. AreTold handles ys x h') same more
  calls_then (t ∷ xs) ys h m h' all more = (all.0, all.1, calls_then xs ys all.0 m h' all.2 more)

  module _ (r : Rights) (moment : ℕ) where
    -- nothing is told
    pub part_quiet : (met : ℕ → List Notice) (refused : List Refused) (s s' : Stages) (h : H) (o p : Ledger) → p.0 ≡ all_counted refused o.0 → ArePaths r met none [] refused s s' o.1 p.1 → IsPart handles r moment met s s' h h o p
    part_quiet met refused s s' h o p counts paths = record { calls = []; refused = refused; told = refl; moments = tt; counts = counts; paths = paths }

    pub part_then : (met met' : ℕ → List Notice) (s m s' : Stages) (h i h' : H) (o p x : Ledger) → IsPart handles r moment met s m h i o p → IsPart handles r moment met' m s' i h' p x
        → IsPart handles r moment (λ q. met q ++ met' q) s s' h h' o x
    part_then met met' s m s' h i h' o p x a b = record {
      calls = a.calls ++ b.calls;
      refused = a.refused ++ b.refused;
      told = calls_then a.calls b.calls h i h' a.told b.told;
      moments = all_then (λ (t : Told). t.0.at ≡ moment) a.calls b.calls a.moments b.moments;
      counts = counts_then a.refused b.refused o.0 p.0 x.0 a.counts b.counts;
      paths = paths_as r s s' (λ q. met q ++ met' q) (λ q. met q ++ met' q) (λ q. noted_in q a.calls ++ noted_in q b.calls) (λ q. noted_in q (a.calls ++ b.calls)) (given_by a.calls ++ given_by b.calls) (given_by (a.calls ++ b.calls)) (a.refused ++ b.refused) o.1 x.1
          (λ q. refl) (λ q. sym (noted_then q a.calls b.calls)) (sym (given_then a.calls b.calls))
          (paths_then r s m s' met met' (λ q. noted_in q a.calls) (λ q. noted_in q b.calls) (given_by a.calls) (given_by b.calls) a.refused b.refused o.1 p.1 x.1 a.paths b.paths);
    }

    pub part_as : (met met' : ℕ → List Notice) (s t s' t' : Stages) (h h' : H) (o p : Ledger) → ((q : ℕ) → met q ≡ met' q) → ((q : ℕ) → s q ≡ t q) → ((q : ℕ) → s' q ≡ t' q)
        → IsPart handles r moment met s s' h h' o p → IsPart handles r moment met' t t' h h' o p
    part_as met met' s t s' t' h h' o p e f g a = record {
      calls = a.calls;
      refused = a.refused;
      told = a.told;
      moments = a.moments;
      counts = a.counts;
      paths = paths_as r t t' met met' (λ q. noted_in q a.calls) (λ q. noted_in q a.calls) (given_by a.calls) (given_by a.calls) a.refused o.1 p.1 e (λ q. refl) refl
          (paths_at r s t s' t' met (λ q. noted_in q a.calls) (given_by a.calls) a.refused o.1 p.1 f g a.paths);
    }
