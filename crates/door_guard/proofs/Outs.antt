-- What goes out where the handler inside gives something.
use Rattle.std.proofs.Common.{◌≡◌, ℕ, Bool, true, false, cond, List, [], ◌∷◌, ◌++◌, Option, Some, None, refl, sym, ap, subst, ◌∙◌, append_assoc}
use Rattle.std.specs.Prelude.{◌==◌, not}
use Rattle.std.proofs.lemmas.List.{append-nil}
use Rattle.broker_sockets.specs.declared.events.Output.{Output}
use Rattle.broker_sockets.specs.declared.events.Output.TheVariants.{Send, Close}
use Rattle.door_packets.specs.Answers.{connack, disconnect}
use Rattle.door_guard.specs.Clients.{IsBut, client_of, is_live, restaged}
use Rattle.door_guard.specs.Counts.{Refusal, Refused, refused_on, with_one}
use Rattle.door_guard.specs.Counts.Refusal.{Message}
use Rattle.door_guard.specs.Doing.{IsTurned}
use Rattle.door_guard.specs.Giving.{IsEnded, awaited_for}
use Rattle.door_packets.specs.Rights.{Rights}
use Rattle.door_packets.specs.Sending.{Buffer, mended}
use Rattle.door_packets.specs.Going.{may_go}
use Rattle.door_guard.specs.Stages.{AreSaid, Doing, Effect, Held, Outgoing, Said, at, closed, effect, ends, gets, got, held_by, idle, on, quiet, refused_at, sends, staged, unsent, unsent_by}
use Rattle.door_guard.specs.Stages.Happening.{Gets, Closes}
use Rattle.door_guard.specs.Stages.Outgoing.{Bytes, End}
use Rattle.door_guard.specs.Telling.{AreGiven, ArePaths, IsSent, Ledger, none}
use Rattle.door_packets.specs.Walk.{is_leaving}
use Rattle.door_packets.specs.declared.client.Client.{Client}
use Rattle.door_packets.specs.declared.client.Stage.TheVariants.{Leaving}
use Rattle.door_guard.specs.declared.clients.Clients.{Clients}
use Rattle.door_guard.specs.declared.counts.Refusals.{Refusals}
use Rattle.door_packets.specs.declared.codes.Awaited.{Awaited}
use Rattle.door_packets.specs.declared.step.Step.{Step}
use Rattle.door_guard.proofs.Paths.{close_here, close_there, counts_then, on_then, one, paths_none, paths_then, send_here, send_there, staged_but, tagged, tagged_here, tagged_there}

-- ---- outputs

pub sent : (c : ℕ) (bytes : Buffer) (o p : List Output) → p ≡ o ++ Send c bytes ∷ [] → IsSent c (Bytes bytes.items ∷ []) o p
sent c bytes o p is = record {
  here = ap (on c) is ∙ on_then c o (Send c bytes ∷ []) ∙ ap (λ (xs : List Outgoing). on c o ++ xs) (send_here c bytes);
  there = λ q e. ap (on q) is ∙ on_then q o (Send c bytes ∷ []) ∙ ap (λ (xs : List Outgoing). on q o ++ xs) (send_there c q bytes e) ∙ append-nil (on q o);
}

pub shut : (c : ℕ) (o p : List Output) → p ≡ o ++ Close c ∷ [] → IsSent c (End ∷ []) o p
shut c o p is = record {
  here = ap (on c) is ∙ on_then c o (Close c ∷ []) ∙ ap (λ (xs : List Outgoing). on c o ++ xs) (close_here c);
  there = λ q e. ap (on q) is ∙ on_then q o (Close c ∷ []) ∙ ap (λ (xs : List Outgoing). on q o ++ xs) (close_there c q e) ∙ append-nil (on q o);
}

pub sent_none : (c : ℕ) (o : List Output) → IsSent c [] o o
sent_none c o = record { here = sym (append-nil (on c o)); there = λ q e. refl }

-- bytes, and then the end
sent_last : (c : ℕ) (bytes : Buffer) (xs : List ℕ) (o p x : List Output) → bytes.items ≡ xs → IsSent c (Bytes bytes.items ∷ []) o p → IsSent c (End ∷ []) p x → IsSent c (Bytes xs ∷ End ∷ []) o x
sent_last c bytes xs o p x is a b = record {
  here =
      b.here ∙ ap (λ (os : List Outgoing). os ++ End ∷ []) a.here ∙ append_assoc (on c o) (Bytes bytes.items ∷ []) (End ∷ [])
      ∙ ap (λ (ys : List ℕ). on c o ++ (Bytes ys ∷ End ∷ [])) is;
  there = λ q e. b.there q e ∙ a.there q e;
}

pub ended : (c : ℕ) (bytes : Buffer) (k k' : Clients) (o p x : List Output) → bytes.items ≡ disconnect → IsSent c (Bytes bytes.items ∷ []) o p → IsSent c (End ∷ []) p x
    → IsBut c (restaged Leaving (client_of k c)) k k' → IsEnded c k k' o x
ended c bytes k k' o p x is a b but = record { clients = but; sent = sent_last c bytes disconnect o p x is a b }

pub turned : (c code : ℕ) (bytes : Buffer) (k k' : Clients) (o p x : List Output) → bytes.items ≡ connack code → IsSent c (Bytes bytes.items ∷ []) o p → IsSent c (End ∷ []) p x
    → IsBut c None k k' → IsTurned c code k k' o x
turned c code bytes k k' o p x is a b but = record { clients = but; sent = sent_last c bytes (connack code) o p x is a b }

-- ---- bytes that are given

awaited_case : (b : Bool) (d : Doing) → (cond b d idle).awaited ≡ cond b d.awaited None
awaited_case true d = refl
awaited_case false d = refl

module _ (r : Rights) (place c : ℕ) (awaited : Option Awaited) (bytes : Buffer) (todo : List Step) where
  abbrev busy : ℕ → Doing
  busy q = at place (record { todo = todo; awaited = awaited }) q

  gets_path : (k k' : Clients) (e : Effect) (x : Option Client) (rs : List Refusal) (o p : List Output) → effect r (staged busy k c) (Gets bytes.items) ≡ e → IsBut c x k k' → held_by (busy c) x ≡ e.held → e.told ≡ []
      → refused_at r (staged busy k c) (Gets bytes.items) ≡ rs → IsSent c e.out o p → ArePaths r none none (Send c bytes ∷ []) (tagged c rs) (staged busy k) (staged busy k') o p
  gets_path k k' e x rs o p is but held untold refuses sent =
      one r c (Gets bytes.items) e (staged busy k) (staged busy k') none none (Send c bytes ∷ []) (tagged c rs) o p is (ap (held_by (busy c)) but.at ∙ held)
      (λ q apart. staged_but busy c q x k k' but apart) (λ no. absurd (no refl)) refl (subst (λ (ss : List Said). AreSaid ss []) (sym untold) tt) (sym (send_here c bytes))
      (tagged_here c rs ∙ sym refuses) sent.here
      (λ q apart. record { meets = refl; tells = refl; gives = send_there c q bytes apart; refuses = tagged_there c q rs apart; goes = sent.there q apart })

  -- the connection isn't open
  gets_none_path : (k : Clients) (o : List Output) → client_of k c ≡ None → ArePaths r none none (Send c bytes ∷ []) [] (staged busy k) (staged busy k) o o
  gets_none_path k o is =
      gets_path k k (quiet None) None [] o o (ap (λ (y : Option Client). effect r (held_by (busy c) y) (Gets bytes.items)) is) (record { at = is; others = λ q e. refl }) refl refl
      (ap (λ (y : Option Client). refused_at r (held_by (busy c) y) (Gets bytes.items)) is) (sent_none c o)

  abbrev held : Client → Held
  held x = record { client = x; doing = busy c }

  gets_known : (k : Clients) (x : Client) → client_of k c ≡ Some x → effect r (staged busy k c) (Gets bytes.items) ≡ gets r bytes.items (Some (held x))
  gets_known k x is = ap (λ (y : Option Client). effect r (held_by (busy c) y) (Gets bytes.items)) is

  refuses_known : (k : Clients) (x : Client) → client_of k c ≡ Some x → refused_at r (staged busy k c) (Gets bytes.items) ≡ unsent r bytes.items (Some (held x))
  refuses_known k x is = ap (λ (y : Option Client). refused_at r (held_by (busy c) y) (Gets bytes.items)) is

  abbrev refused_if : Client → Bool → List Refusal
  refused_if x leaving = cond leaving [] (unsent_by r (held x) (mended (busy c).awaited bytes.items))

  abbrev gets_by : Client → Bool → Effect
  gets_by x leaving = cond leaving (quiet (Some (held x))) (got r (held x) (mended (busy c).awaited bytes.items))

  -- its end went out
  gets_leaving_path : (k : Clients) (x : Client) (o : List Output) → client_of k c ≡ Some x → is_leaving x ≡ true → ArePaths r none none (Send c bytes ∷ []) [] (staged busy k) (staged busy k) o o
  gets_leaving_path k x o is leaving =
      gets_path k k (quiet (Some (held x))) (Some x) [] o o (gets_known k x is ∙ ap (gets_by x) leaving) (record { at = is; others = λ q e. refl }) refl refl
      (refuses_known k x is ∙ ap (refused_if x) leaving) (sent_none c o)

  abbrev got_by : Client → List ℕ → Bool → Effect
  got_by x put goes = cond goes (sends (Some (held x)) put) (ends (held x))

  put_is : (put : List ℕ) → put ≡ mended (awaited_for place awaited c) bytes.items → put ≡ mended (busy c).awaited bytes.items
  put_is put is = is ∙ ap (λ (a : Option Awaited). mended a bytes.items) (sym (awaited_case (place == c) (record { todo = todo; awaited = awaited })))

  got_is : (k : Clients) (x : Client) (put : List ℕ) (goes : Bool) → client_of k c ≡ Some x → is_leaving x ≡ false → put ≡ mended (awaited_for place awaited c) bytes.items → may_go r x.login put ≡ goes
      → effect r (staged busy k c) (Gets bytes.items) ≡ got_by x put goes
  got_is k x put goes is stays mend may =
      gets_known k x is ∙ ap (gets_by x) stays ∙ ap (got r (held x)) (sym (put_is put mend)) ∙ ap (got_by x put) may

  abbrev unsent_if : Bool → List Refusal
  unsent_if goes = cond goes [] (Message ∷ [])

  unsent_is : (k : Clients) (x : Client) (put : List ℕ) (goes : Bool) → client_of k c ≡ Some x → is_leaving x ≡ false → put ≡ mended (awaited_for place awaited c) bytes.items → may_go r x.login put ≡ goes
      → refused_at r (staged busy k c) (Gets bytes.items) ≡ unsent_if goes
  unsent_is k x put goes is stays mend may =
      refuses_known k x is ∙ ap (refused_if x) stays ∙ ap (unsent_by r (held x)) (sym (put_is put mend)) ∙ ap unsent_if may

  gets_sent_path : (k : Clients) (x : Client) (put : List ℕ) (o p : List Output) → client_of k c ≡ Some x → is_leaving x ≡ false → put ≡ mended (awaited_for place awaited c) bytes.items → may_go r x.login put ≡ true
      → IsSent c (Bytes put ∷ []) o p → ArePaths r none none (Send c bytes ∷ []) [] (staged busy k) (staged busy k) o p
  gets_sent_path k x put o p is stays mend may sent =
      gets_path k k (sends (Some (held x)) put) (Some x) [] o p (got_is k x put true is stays mend may) (record { at = is; others = λ q e. refl }) refl refl (unsent_is k x put true is stays mend may) sent

  gets_ended_path : (k k' : Clients) (x : Client) (put : List ℕ) (o p : List Output) → client_of k c ≡ Some x → is_leaving x ≡ false → put ≡ mended (awaited_for place awaited c) bytes.items → may_go r x.login put ≡ false
      → IsEnded c k k' o p → ArePaths r none none (Send c bytes ∷ []) (tagged c (Message ∷ [])) (staged busy k) (staged busy k') o p
  gets_ended_path k k' x put o p is stays mend may e =
      gets_path k k' (ends (held x)) (restaged Leaving (client_of k c)) (Message ∷ []) o p (got_is k x put false is stays mend may) e.clients
      (ap (λ (y : Option Client). held_by (busy c) (restaged Leaving y)) is) refl (unsent_is k x put false is stays mend may) e.sent

module _ (r : Rights) (place c : ℕ) (awaited : Option Awaited) (bytes : Buffer) where
  pub gets_none : (k : Clients) (o : Ledger) → None ≡ client_of k c → AreGiven r place awaited (Send c bytes ∷ []) k k o o
  gets_none k o is = record { refused = []; counts = refl; paths = λ todo. gets_none_path r place c awaited bytes todo k o.1 (sym is) }

  pub gets_leaving : (k : Clients) (x : Client) (o : Ledger) → Some x ≡ client_of k c → is_leaving x ≡ true → AreGiven r place awaited (Send c bytes ∷ []) k k o o
  gets_leaving k x o is leaving = record { refused = []; counts = refl; paths = λ todo. gets_leaving_path r place c awaited bytes todo k x o.1 (sym is) leaving }

  pub gets_sent : (k : Clients) (x : Client) (put : Buffer) (n : Refusals) (o p : List Output) → Some x ≡ client_of k c → is_leaving x ≡ false → put.items ≡ mended (awaited_for place awaited c) bytes.items → may_go r x.login put.items ≡ true
      → IsSent c (Bytes put.items ∷ []) o p → AreGiven r place awaited (Send c bytes ∷ []) k k (n, o) (n, p)
  gets_sent k x put n o p is stays mend may sent = record { refused = []; counts = refl; paths = λ todo. gets_sent_path r place c awaited bytes todo k x put.items o p (sym is) stays mend may sent }

  pub gets_ended : (k k' : Clients) (x : Client) (put : Buffer) (n m l : Refusals) (o p : List Output) → Some x ≡ client_of k c → is_leaving x ≡ false → put.items ≡ mended (awaited_for place awaited c) bytes.items → may_go r x.login put.items ≡ false
      → m ≡ with_one Message n → l ≡ m → IsEnded c k k' o p → AreGiven r place awaited (Send c bytes ∷ []) k k' (n, o) (l, p)
  gets_ended k k' x put n m l o p is stays mend may counts same e = record { refused = tagged c (Message ∷ []); counts = same ∙ counts; paths = λ todo. gets_ended_path r place c awaited bytes todo k k' x put.items o p (sym is) stays mend may e }

-- ---- a close

abbrev closed_by : Doing → Option Client → List Outgoing
closed_by d y = closed (held_by d y)

live_case : (x : Client) (b : Bool) → is_leaving x ≡ b → not (is_leaving x) ≡ true → ◌≡◌ {A = List Outgoing} (End ∷ []) (cond (is_leaving x) [] (End ∷ []))
live_case x true is live = let bad : false ≡ true = sym (ap not is) ∙ live in absurd cc
live_case x false is live = sym (ap (λ (b : Bool). cond b [] (End ∷ [])) is)

live_closed : (d : Doing) (y : Option Client) → is_live y ≡ true → End ∷ [] ≡ closed_by d y
live_closed d None live = absurd cc
live_closed d (Some x) live = live_case x (is_leaving x) refl live

not_case : (x : Client) (b : Bool) → is_leaving x ≡ b → not (is_leaving x) ≡ false → ◌≡◌ {A = List Outgoing} [] (cond (is_leaving x) [] (End ∷ []))
not_case x true is live = sym (ap (λ (b : Bool). cond b [] (End ∷ [])) is)
not_case x false is live = let bad : true ≡ false = sym (ap not is) ∙ live in absurd cc

not_closed : (d : Doing) (y : Option Client) → is_live y ≡ false → ◌≡◌ {A = List Outgoing} [] (closed_by d y)
not_closed d None live = refl
not_closed d (Some x) live = not_case x (is_leaving x) refl live

module _ (r : Rights) (place c : ℕ) (awaited : Option Awaited) where
  closes_path : (todo : List Step) (k k' : Clients) (more : List Outgoing) (o p : List Output) → IsBut c None k k' → ((d : Doing) → more ≡ closed_by d (client_of k c)) → IsSent c more o p
      → ArePaths r none none (Close c ∷ []) [] (staged (at place (record { todo = todo; awaited = awaited })) k) (staged (at place (record { todo = todo; awaited = awaited })) k') o p
  closes_path todo k k' more o p but is sent =
      let busy : ℕ → Doing = at place (record { todo = todo; awaited = awaited }) in
      one r c Closes (effect r (staged busy k c) Closes) (staged busy k) (staged busy k') none none (Close c ∷ []) [] o p refl (ap (held_by (busy c)) but.at)
      (λ q apart. staged_but busy c q None k k' but apart) (λ no. absurd (no refl)) refl tt (sym (close_here c)) refl (sent.here ∙ ap (λ (os : List Outgoing). on c o ++ os) (is (busy c)))
      (λ q apart. record { meets = refl; tells = refl; gives = close_there c q apart; refuses = refl; goes = sent.there q apart })

  pub closes_live : (k k' : Clients) (n : Refusals) (o p : List Output) → is_live (client_of k c) ≡ true → IsBut c None k k' → IsSent c (End ∷ []) o p → AreGiven r place awaited (Close c ∷ []) k k' (n, o) (n, p)
  closes_live k k' n o p live but sent = record { refused = []; counts = refl; paths = λ todo. closes_path todo k k' (End ∷ []) o p but (λ d. live_closed d (client_of k c) live) sent }

  pub closes_not : (k k' : Clients) (o : Ledger) → is_live (client_of k c) ≡ false → IsBut c None k k' → AreGiven r place awaited (Close c ∷ []) k k' o o
  closes_not k k' o live but = record { refused = []; counts = refl; paths = λ todo. closes_path todo k k' [] o.1 o.1 but (λ d. not_closed d (client_of k c) live) (sent_none c o.1) }

-- ---- one after another

module _ (r : Rights) (place : ℕ) (awaited : Option Awaited) where
  pub given_as : (output x : Output) (k k' : Clients) (o p : Ledger) → output ≡ x → AreGiven r place awaited (x ∷ []) k k' o p → AreGiven r place awaited (output ∷ []) k k' o p
  given_as output x k k' o p is a = subst (λ (y : Output). AreGiven r place awaited (y ∷ []) k k' o p) (sym is) a

  pub given_none : (k : Clients) (o : Ledger) → AreGiven r place awaited [] k k o o
  given_none k o = record { refused = []; counts = refl; paths = λ todo. paths_none r (staged (at place (record { todo = todo; awaited = awaited })) k) o.1 }

  pub given_then : (xs ys : List Output) (k l k' : Clients) (o p x : Ledger) → AreGiven r place awaited xs k l o p → AreGiven r place awaited ys l k' p x → AreGiven r place awaited (xs ++ ys) k k' o x
  given_then xs ys k l k' o p x a b = record {
    refused = a.refused ++ b.refused;
    counts = counts_then a.refused b.refused o.0 p.0 x.0 a.counts b.counts;
    paths = λ todo.
        let busy : ℕ → Doing = at place (record { todo = todo; awaited = awaited }) in
        paths_then r (staged busy k) (staged busy l) (staged busy k') none none none none xs ys a.refused b.refused o.1 p.1 x.1 (a.paths todo) (b.paths todo);
  }
