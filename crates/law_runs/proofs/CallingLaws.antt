-- A call of a session stays one of its calls until it is over.
use Rattle.std.proofs.Common.{◌≡◌, ◌⊎◌, inl, inr, ℕ, Bool, true, false, cond, List, [], ◌∷◌, ◌++◌, refl, sym, ap, ◌∙◌, append_assoc, eq-eqb}
use Rattle.std.proofs.lemmas.List.{append-nil}
use Rattle.law_sessions.specs.Runs.{Step}
use Rattle.law_maps.proofs.Texts.{itself, same_text}
use Rattle.law_nodes.specs.Lives.{is_client, step_in, after_act, after_move, life, lost_step}
use Rattle.law_nodes.specs.Moves.{Move, Acted, Reopened, did}
use Rattle.node_work.specs.Acts.{Act, MomentTaken, Began, Moved, Store, Connection, Session, Bridge, Out, Named, Acknowledged, Passed, Dropped}
use Rattle.node_work.specs.Held.Sessions.{Begun, Called, Over}
use Rattle.cluster_play.specs.Worlds.{World, Fate, Released, Lost, Cut, Faulted, Was_down, Restarted}
use Rattle.cluster_play.specs.Runs.{Played}
use Rattle.cluster_play.specs.Histories.{Reached, site, acts_of, moves_of, own_moves, moves_at}
use Rattle.cluster_play.proofs.Amid.{amid_acts}
use Rattle.law_runs.proofs.Splits.{none_there}
use Rattle.law_runs.specs.Staying.{CallsSession}
use Rattle.law_runs.specs.Calling.{SessionIsOver, StaysCalled, CallsStay}

-- ---- what moves add to the calls of a session
abbrev Adds : List Step → List Step → Type 0
Adds given after = (more : List Step) × (after ≡ given ++ more)

-- the client's own session begins or is over
abbrev Ends : List ℕ → Move → Type 0
Ends client m = (m ≡ Acted (Session (Over client))) ⊎ (m ≡ Acted (Session (Begun client)))

same : (given : List Step) → Adds given given
same given = ([], sym (append-nil given))

begins : (client other : List ℕ) (b : Bool) → is_client client other ≡ b → (given : List Step) → Ends client (Acted (Session (Begun other))) ⊎ Adds given (cond b [] given)
begins client other true is given = inl (inr (ap (λ c. Acted (Session (Begun c))) (sym (same_text client other is))))
begins client other false is given = inr (same given)

ends : (client other : List ℕ) (b : Bool) → is_client client other ≡ b → (given : List Step) → Ends client (Acted (Session (Over other))) ⊎ Adds given (cond b [] given)
ends client other true is given = inl (inl (ap (λ c. Acted (Session (Over c))) (sym (same_text client other is))))
ends client other false is given = inr (same given)

calls : (b : Bool) (s : Step) (given : List Step) → Adds given (cond b (given ++ s ∷ []) given)
calls true s given = (s ∷ [], refl)
calls false s given = same given

adds_act : (client : List ℕ) (a : Act) (given : List Step) → Ends client (Acted a) ⊎ Adds given (after_act client a given)
adds_act client (MomentTaken at) given = inr (same given)
adds_act client Began given = inr (same given)
adds_act client (Moved homes) given = inr (same given)
adds_act client (Store a) given = inr (same given)
adds_act client (Connection a) given = inr (same given)
adds_act client (Session (Begun other)) given = begins client other (is_client client other) refl given
adds_act client (Session (Called s)) given = inr (calls (is_client client s.client) (step_in s) given)
adds_act client (Session (Over other)) given = ends client other (is_client client other) refl given
adds_act client (Bridge a) given = inr (same given)
adds_act client (Out o) given = inr (same given)
adds_act client (Named number) given = inr (same given)
adds_act client (Acknowledged other packet at grants offers) given = inr (same given)
adds_act client (Passed m copies lost routes) given = inr (same given)
adds_act client Dropped given = inr (same given)

adds_move : (client : List ℕ) (m : Move) (given : List Step) → Ends client m ⊎ Adds given (after_move client m given)
adds_move client (Acted a) given = adds_act client a given
adds_move client (Reopened homes) given = inr (lost_step ∷ [], refl)

over_first : (client : List ℕ) (m : Move) (moves : List Move) → Ends client m → SessionIsOver client (m ∷ moves)
over_first client m moves (inl e) = record { before = []; after = moves; is = inl (ap (λ n. n ∷ moves) e) }
over_first client m moves (inr e) = record { before = []; after = moves; is = inr (ap (λ n. n ∷ moves) e) }

over_later : (client : List ℕ) (m : Move) (moves : List Move) → SessionIsOver client moves → SessionIsOver client (m ∷ moves)
over_later client m moves o = record {
  before = m ∷ o.before;
  after = o.after;
  is = elim o.is [ inl e ↦ inl (ap (λ ns. m ∷ ns) e) | inr e ↦ inr (ap (λ ns. m ∷ ns) e) ];
}

adds_moves : (client : List ℕ) (moves : List Move) (given : List Step) → SessionIsOver client moves ⊎ Adds given (life client moves given)
adds_moves client [] given = inr (same given)
adds_moves client (m ∷ moves) given =
    elim (adds_move client m given) [
      | inl e ↦ inl (over_first client m moves e)
      | inr a ↦ elim (adds_moves client moves (after_move client m given)) [
        | inl o ↦ inl (over_later client m moves o)
        | inr b ↦ inr (a.0 ++ b.0, b.1 ∙ ap (λ zs. zs ++ b.0) a.1 ∙ append_assoc given a.0 b.0)
      ]
    ]

life_both : (client : List ℕ) (ms ns : List Move) (given : List Step) → life client (ms ++ ns) given ≡ life client ns (life client ms given)
life_both client [] ns given = refl
life_both client (m ∷ ms) ns given = life_both client ms ns (after_move client m given)

called : (client : List ℕ) (b : Bool) → b ≡ true → (s : Step) (given : List Step) → cond b (given ++ s ∷ []) given ≡ given ++ s ∷ []
called client true e s given = refl
called client false e s given = absurd (let z : false ≡ true = e in cc)

-- ---- the moves of a step
did_both : (xs ys : List Act) → did (xs ++ ys) ≡ did xs ++ did ys
did_both [] ys = refl
did_both (x ∷ xs) ys = ap (λ zs. Acted x ∷ zs) (did_both xs ys)

moves_did : (fate : Fate) (before after : List Act) (a : Act) → acts_of fate ≡ before ++ a ∷ after → moves_of fate ≡ did (before ++ a ∷ after)
moves_did (Released i e acts outputs) before after a is = ap did is
moves_did (Lost i e acts) before after a is = ap did is
moves_did (Cut i) before after a is = none_there before after a is
moves_did (Faulted i fault) before after a is = none_there before after a is
moves_did (Was_down i) before after a is = none_there before after a is
moves_did (Restarted i homes) before after a is = none_there before after a is

moves_both : (i : ℕ) (ms ns : List Played) → moves_at i (ms ++ ns) ≡ moves_at i ms ++ moves_at i ns
moves_both i [] ns = refl
moves_both i (m ∷ ms) ns = ap (λ xs. own_moves i m.fate ++ xs) (moves_both i ms ns) ∙ sym (append_assoc (own_moves i m.fate) (moves_at i ms) (moves_at i ns))

stays_called : (run later : List Played) (m : Played) (w : World) → Reached (run ++ m ∷ later) w → (before : List Act) (c : CallsSession m before) → StaysCalled run later m before c
stays_called run later m w r before c =
    let i = site m.fate in
    let client = c.step.client in
    let a = Session (Called c.step) in
    let own : own_moves i m.fate ≡ did before ++ Acted a ∷ did c.after = ap (λ b. cond b (moves_of m.fate) []) (eq-eqb i i refl) ∙ moves_did m.fate before c.after a c.acts ∙ did_both before (a ∷ c.after) in
    let earlier = moves_at i run ++ did before in
    let after = did c.after ++ moves_at i later in
    let moves : moves_at i (run ++ m ∷ later) ≡ earlier ++ Acted a ∷ after =
    moves_both i run (m ∷ later) ∙ ap (λ xs. moves_at i run ++ (xs ++ moves_at i later)) own ∙ ap (λ xs. moves_at i run ++ xs) (append_assoc (did before) (Acted a ∷ did c.after) (moves_at i later))
    ∙ sym (append_assoc (moves_at i run) (did before) (Acted a ∷ after)) in
    let past = life client earlier [] in
    let so_far : life client (moves_at i (run ++ m ∷ later)) [] ≡ life client after (past ++ step_in c.step ∷ []) =
    ap (λ ms. life client ms []) moves ∙ life_both client earlier (Acted a ∷ after) [] ∙ ap (life client after) (called client (is_client client client) (itself client) (step_in c.step) past) in
    let here = amid_acts run later m w r before c.after a c.acts in
    record {
      at = here.runs.1.0.at ∙ here.moment;
      earlier = earlier;
      after = after;
      moves = moves;
      stays = elim (adds_moves client after (past ++ step_in c.step ∷ [])) [
        | inl o ↦ inl o
        | inr b ↦ inr (b.0, so_far ∙ b.1 ∙ append_assoc past (step_in c.step ∷ []) b.0)
      ];
    }

pub calls_stay : CallsStay
calls_stay = λ run later m w r before c. stays_called run later m w r before c
