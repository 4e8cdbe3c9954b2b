-- What comes of an event.
use Rattle.std.proofs.Common.{◌≡◌, ℕ, Bool, true, false, cond, List, [], ◌∷◌, ◌++◌, Option, Some, None, refl, sym, ap, subst, ◌∙◌}
use Rattle.std.specs.Prelude.{◌==◌, not, option_map}
use Rattle.std.proofs.lemmas.List.{append-nil}
use Rattle.std.proofs.lemmas.Option.{same_Some}
use Rattle.broker_sockets.specs.declared.bridge.Given.{Given}
use Rattle.broker_sockets.specs.declared.bridge.PeerEvent.{PeerEvent}
use Rattle.broker_sockets.specs.declared.events.Event.{Event}
use Rattle.broker_sockets.specs.declared.events.EventKind.{EventKind}
use Rattle.broker_sockets.specs.declared.events.EventKind.TheVariants as kinds
use Rattle.broker_sockets.specs.declared.events.Output.{Output}
use Rattle.door_guard.specs.Answering.{IsAnsweredIf, IsHeardIf, IsPassedOn}
use Rattle.door_guard.specs.Clients.{GoesOn, IsBut, client_of, is_leaving_of, is_live, is_told_at, is_told_of, restaged}
use Rattle.door_guard.specs.Counts.{Refused}
use Rattle.door_packets.specs.Rights.{Rights}
use Rattle.door_packets.specs.Sending.{Buffer}
use Rattle.door_guard.specs.Stages.{AreSaid, Doing, Effect, Happening, Held, Notice, Outgoing, Said, at, effect, gone_at, given_one, gone_by, held_by, idle, leaves, met_one, none_busy, noted, on, quiet, refused_at, says, spaced, spaced_by, staged, working}
use Rattle.door_guard.specs.Stages.Happening.{Opens, Goes, Spaces, Comes, Leaves}
use Rattle.door_guard.specs.Stages.Notice.{Open, Gone, Space, Piece}
use Rattle.door_guard.specs.Stages.Said.{Same}
use Rattle.door_guard.specs.Telling.{AreDone, AreGiven, ArePaths, IsMet, IsPart, IsTold, Ledger, Stages, none}
use Rattle.door_packets.specs.Walk.{Walked, fresh, is_leaving_at}
use Rattle.door_packets.specs.Coming.{come, come_at}
use Rattle.door_packets.specs.Passing.{told_alone}
use Rattle.door_packets.specs.declared.client.Client.{Client}
use Rattle.door_packets.specs.declared.client.Stage.{Stage}
use Rattle.door_packets.specs.declared.client.Stage.TheVariants as stages
use Rattle.door_guard.specs.declared.clients.Clients.{Clients}
use Rattle.door_guard.specs.declared.counts.Refusals.{Refusals}
use Rattle.door_guard.specs.declared.door.Door.{Door}
use Rattle.door_guard.specs.declared.known.Known.{Known}
use Rattle.door_packets.specs.declared.step.Step.{Step}
use Rattle.door_packets.specs.declared.step.Step.TheVariants as steps
use Rattle.door_guard.proofs.Paths.{at_idle, but_then, idle_todo, itself, one, part_as, part_quiet, part_then, paths_as, paths_at, paths_none, paths_then, staged_but, staged_here, staged_there}

-- an event of one connection alone
of_one : (c q : ℕ) (n : Notice) → (c == q) ≡ false → cond (c == q) (n ∷ []) [] ≡ []
of_one c q n e = ap (λ (b : Bool). cond b (n ∷ []) []) e

of_it : (c : ℕ) (n : Notice) → cond (c == c) (n ∷ []) [] ≡ n ∷ []
of_it c n = ap (λ (b : Bool). cond b (n ∷ []) []) (itself c)

some_stage : (x stage : Stage) → Some x ≡ Some stage → x ≡ stage
some_stage x stage e = same_Some x stage e

none_of : (y : Option Client) → option_map (λ (x : Client). x.stage) y ≡ None → y ≡ None
none_of None e = refl
none_of (Some x) e = absurd cc

gone_stage : (stage : Stage) → is_told_at stage ≡ false → ◌≡◌ {A = List Said} (gone_by stage) []
gone_stage (stages.Waiting room) untold = refl
gone_stage stages.Open untold = absurd cc
gone_stage stages.Over untold = absurd cc
gone_stage stages.Leaving untold = absurd cc

said_stage : (stage : Stage) → is_told_at stage ≡ true → gone_by stage ≡ Same Gone ∷ []
said_stage (stages.Waiting room) told = absurd cc
said_stage stages.Open told = refl
said_stage stages.Over told = refl
said_stage stages.Leaving told = refl

abbrev gone_with : List Said → Effect
gone_with ss = record { held = None; told = ss; out = [] }

abbrev walk_of : Client → List Step → Walked
walk_of c did = record { client = c; steps = did }

stage_case : (y : Option Client) (stage : Stage) → option_map (λ (x : Client). x.stage) y ≡ Some stage → (x : Client) × (y ≡ Some x) × (x.stage ≡ stage)
stage_case None stage e = absurd cc
stage_case (Some x) stage e = (x, refl, some_stage x.stage stage e)

module _ {H : Type 0} (handles : H → Event → List Output → H → Type 0) (r : Rights) (moment : ℕ) where
  abbrev idly : Clients → Stages
  idly k = staged none_busy k

  pub met_none : (h : H) (k : Clients) (o : Ledger) → IsMet handles r moment none h h k k o o
  met_none h k o = record { part = part_quiet handles r moment none [] (idly k) (idly k) h o o refl (paths_none r (idly k) o.1) }

  pub met_then : (h i h' : H) (k l k' : Clients) (o p x : Ledger) → IsMet handles r moment none h i k l o p → IsMet handles r moment none i h' l k' p x → IsMet handles r moment none h h' k k' o x
  met_then h i h' k l k' o p x a b = record { part = part_then handles r moment none none (idly k) (idly l) (idly k') h i h' o p x a.part b.part }

  pub met_as : (kind x : EventKind) (h h' : H) (k k' : Clients) (o p : Ledger) → kind ≡ x → IsMet handles r moment (λ q. noted q x) h h' k k' o p → IsMet handles r moment (λ q. noted q kind) h h' k k' o p
  met_as kind x h h' k k' o p is m = subst (λ (y : EventKind). IsMet handles r moment (λ q. noted q y) h h' k k' o p) (sym is) m

  -- ---- the handler inside is told

  given_idly : (c : ℕ) (given : List Output) (k k' : Clients) (o p : Ledger) (g : AreGiven r c None given k k' o p) → ArePaths r none none given g.refused (idly k) (idly k') o.1 p.1
  given_idly c given k k' o p g =
      paths_at r (staged (at c idle) k) (idly k) (staged (at c idle) k') (idly k') none none given g.refused o.1 p.1 (at_idle c k) (at_idle c k') (g.paths [])

  -- behind what came
  told_part : (met : ℕ → List Notice) (c : ℕ) (kind : EventKind) (h h' : H) (k l k' : Clients) (o p : Ledger) → ArePaths r met (λ q. noted q kind) [] [] (idly k) (idly l) o.1 o.1
      → IsTold handles r moment c None kind h h' l k' o p → IsMet handles r moment met h h' k k' o p
  told_part met c kind h h' k l k' o p first t =
      let second = paths_then r (idly k) (idly l) (idly k') met none (λ q. noted q kind) none [] t.given [] t.gives.refused o.1 o.1 p.1 first (given_idly c t.given l k' o p t.gives) in
      record {
        part = record {
          calls = (record { at = moment; kind = kind }, t.given) ∷ [];
          refused = t.gives.refused;
          told = (h', t.handled, refl);
          moments = (refl, tt);
          counts = t.gives.counts;
          paths = paths_as r (idly k) (idly k') (λ q. met q ++ []) met (λ q. noted q kind ++ []) (λ q. noted q kind ++ []) t.given (t.given ++ []) t.gives.refused o.1 p.1
              (λ q. append-nil (met q)) (λ q. refl) (sym (append-nil t.given)) second;
        };
      }

  pub met_started : (kind : EventKind) (h h' : H) (k k' : Clients) (o p : Ledger) → kind ≡ kinds.Started → IsTold handles r moment 0 None kinds.Started h h' k k' o p → IsMet handles r moment (λ q. noted q kind) h h' k k' o p
  met_started kind h h' k k' o p is t =
      met_as kind kinds.Started h h' k k' o p is (told_part (λ q. noted q kinds.Started) 0 kinds.Started h h' k k k' o p (paths_none r (idly k) o.1) t)

  pub met_tick : (kind : EventKind) (h h' : H) (k k' : Clients) (o p : Ledger) → kind ≡ kinds.Tick → IsTold handles r moment 0 None kinds.Tick h h' k k' o p → IsMet handles r moment (λ q. noted q kind) h h' k k' o p
  met_tick kind h h' k k' o p is t =
      met_as kind kinds.Tick h h' k k' o p is (told_part (λ q. noted q kinds.Tick) 0 kinds.Tick h h' k k k' o p (paths_none r (idly k) o.1) t)

  -- ---- one thing on one connection, of which nothing goes out

  module _ (c : ℕ) where
    -- of these events some tell the handler inside, and some don't
    one_path : (happening : Happening) (e : Effect) (x : Option Client) (met told : ℕ → List Notice) (k k' : Clients) (o : List Output) → effect r (idly k c) happening ≡ e → held_by idle x ≡ e.held → IsBut c x k k' → e.out ≡ []
        → met_one happening ≡ met c → AreSaid e.told (told c) → given_one happening ≡ [] → ((q : ℕ) → (c == q) ≡ false → met q ≡ []) → ((q : ℕ) → (c == q) ≡ false → told q ≡ [])
        → [] ≡ refused_at r (idly k c) happening → ArePaths r met told [] [] (idly k) (idly k') o o
    one_path happening e x met told k k' o is held but out meets tells gives away untold refuses =
        one r c happening e (idly k) (idly k') met told [] [] o o is (ap (held_by idle) but.at ∙ held) (λ q apart. staged_but none_busy c q x k k' but apart) (λ some. idle_todo (client_of k c)) meets tells gives refuses
        (sym (append-nil (on c o)) ∙ ap (λ (os : List Outgoing). on c o ++ os) (sym out))
        (λ q apart. record { meets = away q apart; tells = untold q apart; gives = refl; refuses = refl; goes = refl })

    -- ---- it is opened

    pub met_open : (kind : EventKind) (x : Client) (h : H) (k k' : Clients) (o : Ledger) → kind ≡ kinds.Opened c → x ≡ fresh → IsBut c (Some x) k k' → IsMet handles r moment (λ q. noted q kind) h h k k' o o
    met_open kind x h k k' o is new but =
        let put : IsBut c (Some fresh) k k' = subst (λ (y : Client). IsBut c (Some y) k k') new but in
        met_as kind (kinds.Opened c) h h k k' o o is (record {
          part = part_quiet handles r moment (λ q. noted q (kinds.Opened c)) [] (idly k) (idly k') h o o refl
              (one_path Opens (quiet (held_by idle (Some fresh))) (Some fresh) (λ q. noted q (kinds.Opened c)) none k k' o.1 refl refl put refl (sym (of_it c Open)) tt refl (λ q e. of_one c q Open e) (λ q e. refl) refl);
        })

    -- ---- it is gone

    gone_case : (y : Option Client) → is_told_of y ≡ false → ◌≡◌ {A = List Said} (gone_at (held_by idle y)) []
    gone_case None untold = refl
    gone_case (Some x) untold = gone_stage x.stage untold

    gone_said : (y : Option Client) → is_told_of y ≡ true → gone_at (held_by idle y) ≡ Same Gone ∷ []
    gone_said None told = absurd cc
    gone_said (Some x) told = said_stage x.stage told

    pub gone_untold : (h : H) (k k' : Clients) (o : Ledger) → is_told_of (client_of k c) ≡ false → IsBut c None k k' → IsMet handles r moment (λ q. noted q (kinds.Closed c)) h h k k' o o
    gone_untold h k k' o untold but = record {
      part = part_quiet handles r moment (λ q. noted q (kinds.Closed c)) [] (idly k) (idly k') h o o refl
          (one_path Goes (gone_with []) None (λ q. noted q (kinds.Closed c)) none k k' o.1 (ap gone_with (gone_case (client_of k c) untold)) refl but refl
          (sym (of_it c Gone)) tt refl (λ q e. of_one c q Gone e) (λ q e. refl) refl);
    }

    pub gone_told : (h h' : H) (k l k' : Clients) (o p : Ledger) → is_told_of (client_of k c) ≡ true → IsBut c None k l → IsTold handles r moment c None (kinds.Closed c) h h' l k' o p
        → IsMet handles r moment (λ q. noted q (kinds.Closed c)) h h' k k' o p
    gone_told h h' k l k' o p told but t =
        told_part (λ q. noted q (kinds.Closed c)) c (kinds.Closed c) h h' k l k' o p
        (one_path Goes (gone_with (Same Gone ∷ [])) None (λ q. noted q (kinds.Closed c)) (λ q. noted q (kinds.Closed c)) k l o.1
        (ap gone_with (gone_said (client_of k c) told)) refl but refl (sym (of_it c Gone))
        (subst (λ (ns : List Notice). AreSaid (Same Gone ∷ []) ns) (sym (of_it c Gone)) (refl, tt)) refl (λ q e. of_one c q Gone e) (λ q e. of_one c q Gone e) refl) t

    -- its end went out, and the handler inside is told

    leaving_case : (y : Option Client) → is_leaving_of y ≡ true → leaves (held_by idle y) ≡ says None (Same Gone)
    leaving_case None leaving = absurd cc
    leaving_case (Some x) leaving = ap (λ (b : Bool). cond b (says None (Same Gone)) (quiet (held_by idle (Some x)))) leaving

    pub left_told : (h h' : H) (k l k' : Clients) (o p : Ledger) → is_leaving_of (client_of k c) ≡ true → IsBut c None k l → IsTold handles r moment c None (kinds.Closed c) h h' l k' o p
        → IsMet handles r moment none h h' k k' o p
    left_told h h' k l k' o p leaving but t =
        told_part none c (kinds.Closed c) h h' k l k' o p
        (one_path Leaves (says None (Same Gone)) None none (λ q. noted q (kinds.Closed c)) k l o.1 (leaving_case (client_of k c) leaving) refl but refl refl
        (subst (λ (ns : List Notice). AreSaid (Same Gone ∷ []) ns) (sym (of_it c Gone)) (refl, tt)) refl (λ q e. refl) (λ q e. of_one c q Gone e) refl) t

    -- ---- it has so much room

    module _ (n : ℕ) where
      abbrev space_met : ℕ → List Notice
      space_met q = noted q (kinds.Room c n)

      space_quiet : (e : Effect) (x : Option Client) (h : H) (k k' : Clients) (o : Ledger) → spaced n (held_by idle (client_of k c)) ≡ e → held_by idle x ≡ e.held → e.told ≡ [] → e.out ≡ [] → IsBut c x k k'
          → IsMet handles r moment space_met h h k k' o o
      space_quiet e x h k k' o is held untold out but = record {
        part = part_quiet handles r moment space_met [] (idly k) (idly k') h o o refl
            (one_path (Spaces n) e x space_met none k k' o.1 is held but out (sym (of_it c (Space n))) (subst (λ (ss : List Said). AreSaid ss []) (sym untold) tt) refl (λ q e. of_one c q (Space n) e) (λ q e. refl) refl);
      }

      pub spaced_none : (h : H) (k : Clients) (o : Ledger) → None ≡ option_map (λ (x : Client). x.stage) (client_of k c) → IsMet handles r moment space_met h h k k o o
      spaced_none h k o is =
          let gone : client_of k c ≡ None = none_of (client_of k c) (sym is) in
          space_quiet (quiet None) None h k k o (ap (λ (y : Option Client). spaced n (held_by idle y)) gone) refl refl refl (record { at = gone; others = λ q e. refl })

      spaced_at : (y : Option Client) (stage : Stage) (known : (x : Client) × (y ≡ Some x) × (x.stage ≡ stage)) → spaced n (held_by idle y) ≡ spaced_by n (record { client = known.0; doing = idle }) stage
      spaced_at y stage known = ap (λ (z : Option Client). spaced n (held_by idle z)) known.1 ∙ ap (spaced_by n (record { client = known.0; doing = idle })) known.2

      pub spaced_leaving : (h : H) (k : Clients) (o : Ledger) → Some stages.Leaving ≡ option_map (λ (x : Client). x.stage) (client_of k c) → IsMet handles r moment space_met h h k k o o
      spaced_leaving h k o is =
          let x = stage_case (client_of k c) stages.Leaving (sym is) in
          space_quiet (quiet (held_by idle (Some x.0))) (Some x.0) h k k o (spaced_at (client_of k c) stages.Leaving x) refl refl refl (record { at = x.1; others = λ q e. refl })

      pub spaced_kept : (room : Option ℕ) (h : H) (k k' : Clients) (o : Ledger) → Some (stages.Waiting room) ≡ option_map (λ (x : Client). x.stage) (client_of k c)
          → IsBut c (restaged (stages.Waiting (Some n)) (client_of k c)) k k' → IsMet handles r moment space_met h h k k' o o
      spaced_kept room h k k' o is but =
          let x = stage_case (client_of k c) (stages.Waiting room) (sym is) in
          let put : IsBut c (restaged (stages.Waiting (Some n)) (Some x.0)) k k' = subst (λ (y : Option Client). IsBut c (restaged (stages.Waiting (Some n)) y) k k') x.1 but in
          space_quiet (quiet (held_by idle (restaged (stages.Waiting (Some n)) (Some x.0)))) (restaged (stages.Waiting (Some n)) (Some x.0)) h k k' o (spaced_at (client_of k c) (stages.Waiting room) x) refl refl refl put

      space_said : (stage : Stage) (h h' : H) (k k' : Clients) (o p : Ledger) → Some stage ≡ option_map (λ (x : Client). x.stage) (client_of k c)
          → ((x : Held) → spaced_by n x stage ≡ says (Some x) (Same (Space n))) → IsTold handles r moment c None (kinds.Room c n) h h' k k' o p → IsMet handles r moment space_met h h' k k' o p
      space_said stage h h' k k' o p is says_so t =
          let x = stage_case (client_of k c) stage (sym is) in
          told_part space_met c (kinds.Room c n) h h' k k k' o p
          (one_path (Spaces n) (says (held_by idle (Some x.0)) (Same (Space n))) (Some x.0) space_met space_met k k o.1 (spaced_at (client_of k c) stage x ∙ says_so (record { client = x.0; doing = idle })) refl
          (record { at = x.1; others = λ q e. refl }) refl (sym (of_it c (Space n))) (subst (λ (ns : List Notice). AreSaid (Same (Space n) ∷ []) ns) (sym (of_it c (Space n))) (refl, tt)) refl
          (λ q e. of_one c q (Space n) e) (λ q e. of_one c q (Space n) e) refl) t

      pub spaced_open : (h h' : H) (k k' : Clients) (o p : Ledger) → Some stages.Open ≡ option_map (λ (x : Client). x.stage) (client_of k c) → IsTold handles r moment c None (kinds.Room c n) h h' k k' o p
          → IsMet handles r moment space_met h h' k k' o p
      spaced_open h h' k k' o p is t = space_said stages.Open h h' k k' o p is (λ x. refl) t

      pub spaced_over : (h h' : H) (k k' : Clients) (o p : Ledger) → Some stages.Over ≡ option_map (λ (x : Client). x.stage) (client_of k c) → IsTold handles r moment c None (kinds.Room c n) h h' k k' o p
          → IsMet handles r moment space_met h h' k k' o p
      spaced_over h h' k k' o p is t = space_said stages.Over h h' k k' o p is (λ x. refl) t

    -- ---- bytes

    came_away : (bytes : Buffer) (q : ℕ) → (c == q) ≡ false → noted q (kinds.Piece c bytes) ≡ []
    came_away bytes q e = of_one c q (Piece bytes.items) e

    pub came_none : (bytes : Buffer) (h : H) (k k' : Clients) (o : Ledger) → None ≡ client_of k c → IsBut c None k k' → IsMet handles r moment (λ q. noted q (kinds.Piece c bytes)) h h k k' o o
    came_none bytes h k k' o is but = record {
      part = part_quiet handles r moment (λ q. noted q (kinds.Piece c bytes)) [] (idly k) (idly k') h o o refl
          (one_path (Comes (λ x. false) bytes.items) (quiet None) None (λ q. noted q (kinds.Piece c bytes)) none k k' o.1 (ap (λ (y : Option Client). effect r (held_by idle y) (Comes (λ x. false) bytes.items)) (sym is)) refl but refl
          (sym (of_it c (Piece bytes.items))) tt refl (came_away bytes) (λ q e. refl) refl);
    }

    came_on : (bytes : Buffer) (marked : List ℕ → Bool) (x y : Client) (did : List Step) (h h' : H) (k m k' : Clients) (o p : Ledger) → Some x ≡ client_of k c
        → walk_of y did ≡ come r marked x bytes.items → IsBut c (Some y) k m → AreDone handles r moment c did h h' m k' o p → IsMet handles r moment (λ q. noted q (kinds.Piece c bytes)) h h' k k' o p
    came_on bytes marked x y did h h' k m k' o p is walk but d =
        let met : ℕ → List Notice = λ q. noted q (kinds.Piece c bytes) in
        let doing : Doing = record { todo = did; awaited = None } in
        let s1 : Stages = staged (at c doing) m in
        let e : Effect = quiet (held_by doing (Some y)) in
        let comes : effect r (idly k c) (Comes marked bytes.items) ≡ e =
        ap (λ (z : Option Client). effect r (held_by idle z) (Comes marked bytes.items)) (sym is) ∙ ap (λ (w : Walked). quiet (Some (working w))) (sym walk) in
        let first : ArePaths r met none [] [] (idly k) s1 o.1 o.1 =
        one r c (Comes marked bytes.items) e (idly k) s1 met none [] [] o.1 o.1 comes (staged_here c doing m ∙ ap (held_by doing) but.at)
        (λ q apart. staged_there c q idle doing k m apart (but.others q apart) ∙ at_idle c k q) (λ some. idle_todo (client_of k c)) (sym (of_it c (Piece bytes.items))) tt refl refl (sym (append-nil (on c o.1)))
        (λ q apart. record { meets = came_away bytes q apart; tells = refl; gives = refl; refuses = refl; goes = refl }) in
        let nothing : did ++ [] ≡ did = append-nil did in
        let second : IsPart handles r moment none s1 (staged (at c idle) k') h h' o p =
        subst (λ (ss : List Step). IsPart handles r moment none (staged (at c (record { todo = ss; awaited = None })) m) (staged (at c idle) k') h h' o p) nothing (d.part []) in
        let all = part_then handles r moment met none (idly k) s1 (staged (at c idle) k') h h h' o o p (part_quiet handles r moment met [] (idly k) s1 h o o refl first) second in
        record { part = part_as handles r moment (λ q. met q ++ none q) met (idly k) (idly k) (staged (at c idle) k') (idly k') h h' o p (λ q. append-nil (met q)) (λ q. refl) (at_idle c k') all }

    pub came_some : (bytes : Buffer) (marked : List ℕ → Bool) (x y : Client) (did : List Step) (h h' : H) (k l m k' : Clients) (o p : Ledger) → Some x ≡ client_of k c → IsBut c None k l
        → walk_of y did ≡ come r marked x bytes.items → IsBut c (Some y) l m → AreDone handles r moment c did h h' m k' o p → IsMet handles r moment (λ q. noted q (kinds.Piece c bytes)) h h' k k' o p
    came_some bytes marked x y did h h' k l m k' o p is gone walk put d = came_on bytes marked x y did h h' k m k' o p is walk (but_then c None (Some y) k l m gone put) d

    came_alone : (bytes : Buffer) (h h' : H) (k k' : Clients) (o p : Ledger) (z : Option Client) → z ≡ client_of k c → GoesOn r bytes.items z → AreDone handles r moment c (steps.Tells bytes.items ∷ []) h h' k k' o p
        → IsMet handles r moment (λ q. noted q (kinds.Piece c bytes)) h h' k k' o p
    came_alone bytes h h' k k' o p None is goes d = absurd goes
    came_alone bytes h h' k k' o p (Some x) is goes d =
        came_on bytes (λ b. false) x x (steps.Tells bytes.items ∷ []) h h' k k k' o p is (sym (goes (λ b. false))) (record { at = sym is; others = λ q e. refl }) d

    live_at : (marked : List ℕ → Bool) (bs : List ℕ) (x : Client) (stage : Stage) → come_at r marked x bs stage ≡ told_alone x bs → not (is_leaving_at stage) ≡ true
    live_at marked bs x (stages.Waiting room) e = refl
    live_at marked bs x stages.Open e = refl
    live_at marked bs x stages.Over e = refl
    live_at marked bs x stages.Leaving e = absurd (let steps_are : ◌≡◌ {A = List Step} [] (steps.Tells bs ∷ []) = ap (λ (w : Walked). w.steps) e in cc)

    -- what goes on came on a connection whose end didn't go out
    pub goes_live : (bs : List ℕ) (z : Option Client) → GoesOn r bs z → is_live z ≡ true
    goes_live bs None goes = absurd goes
    goes_live bs (Some x) goes = live_at (λ b. false) bs x x.stage (goes (λ b. false))

    pub came_told : (bytes : Buffer) (xs : List ℕ) (h h' : H) (k k' : Clients) (o p : Ledger) → xs ≡ bytes.items → GoesOn r bytes.items (client_of k c)
        → AreDone handles r moment c (steps.Tells xs ∷ []) h h' k k' o p → IsMet handles r moment (λ q. noted q (kinds.Piece c bytes)) h h' k k' o p
    came_told bytes xs h h' k k' o p same goes d =
        came_alone bytes h h' k k' o p (client_of k c) refl goes (subst (λ (ys : List ℕ). AreDone handles r moment c (steps.Tells ys ∷ []) h h' k k' o p) same d)

-- ---- an event, behind what is told of connections whose end went out

pub answered : {H : Type 0} (handles : H → Event → List Output → H → Type 0) (r : Rights) (n : ℕ) (e : Event) (kind : EventKind) (h i h' : H) (k l k' : Clients) (first : Refusals) (o : List Output) (p x : Ledger) → n ≡ e.at → e.kind ≡ kind → o ≡ []
    → IsMet handles r n none h i k l (first, o) p → IsMet handles r n (λ q. noted q kind) i h' l k' p x → IsMet handles r e.at (λ q. noted q e.kind) h h' k k' (first, []) x
answered handles r n e kind h i h' k l k' first o p x at_it of_kind empty a b =
    let s : Stages = staged none_busy k in
    let t : Stages = staged none_busy l in
    let u : Stages = staged none_busy k' in
    let part : IsPart handles r n (λ q. noted q kind) s u h h' (first, o) x = part_then handles r n none (λ q. noted q kind) s t u h i h' (first, o) p x a.part b.part in
    let met : IsMet handles r n (λ q. noted q kind) h h' k k' (first, []) x = record { part = subst (λ (os : List Output). IsPart handles r n (λ q. noted q kind) s u h h' (first, os) x) empty part } in
    let same : IsMet handles r n (λ q. noted q e.kind) h h' k k' (first, []) x = subst (λ (y : EventKind). IsMet handles r n (λ q. noted q y) h h' k k' (first, []) x) (sym of_kind) met in
    subst (λ (m : ℕ). IsMet handles r m (λ q. noted q e.kind) h h' k k' (first, []) x) at_it same

-- ---- what other nodes bring about

pub passed : {H : Type 0} (hears : H → PeerEvent → Given → H → Type 0) (r : Rights) (e : PeerEvent) (h h' : H) (k k' : Known) (first given : Given) (o : List Output) → hears h e first h' → given.frames ≡ first.frames
    → o ≡ [] → AreGiven r 0 None first.outputs.items k.clients k'.clients (k.refusals, o) (k'.refusals, given.outputs.items) → IsPassedOn hears r e h h' k k' given
passed hears r e h h' k k' first given o heard frames none gives = record {
  first = first;
  heard = heard;
  frames = frames;
  gives = subst (λ (os : List Output). AreGiven r 0 None first.outputs.items k.clients k'.clients (k.refusals, os) (k'.refusals, given.outputs.items)) none gives;
}

-- ---- the handler that guards

module _ {H A : Type 0} (handles : H → Event → List Output → H → Type 0) (rights : A → Rights) where
  pub handled : (e : Event) (h h' : H) (k k' : Door A) (outputs : List Output) → IsMet handles (rights k.access) e.at (λ q. noted q e.kind) h h' k.known.clients k'.known.clients (k.known.refusals, []) (k'.known.refusals, outputs) → k'.access ≡ k.access
      → IsAnsweredIf handles rights (Some k) (Some k') e h h' outputs
  handled e h h' k k' outputs met same = (met, same)

module _ {H A : Type 0} (hears : H → PeerEvent → Given → H → Type 0) (rights : A → Rights) where
  pub heard : (e : PeerEvent) (h h' : H) (k k' : Door A) (given : Given) → IsPassedOn hears (rights k.access) e h h' k.known k'.known given → k'.access ≡ k.access
      → IsHeardIf hears rights (Some k) (Some k') e h h' given
  heard e h h' k k' given passed same = (passed, same)
