-- In a step directly behind each DISCONNECT its connection is closed.
use Rattle.std.proofs.Common.{◌≡◌, ◌⊎◌, inl, inr, ℕ, List, [], ◌∷◌, ◌++◌, Some, sym, ap, subst}
use Rattle.std.specs.List.{AllByRecursion}
use Rattle.node_work.specs.declared.outcome.Output.TheVariants.{Send, Close}
use Rattle.node_work.specs.Acts.{Act, Connection, Session, Out}
use Rattle.node_work.specs.Held.Connections.{Opened, Closed}
use Rattle.node_work.specs.Held.Sessions.{SessionStep, Called}
use Rattle.law_sessions.specs.Runs.{Event, takes, ticks}
use Rattle.law_causes.specs.Disconnects.{IsFarewell}
use Rattle.law_causes.proofs.Farewells.{IsMild}

-- the connection is closed, and a close goes out
abbrev pub Shuts : ℕ → List Act → Type 0
Shuts c after = (rest : List Act) × (after ≡ Connection (Closed c) ∷ Out (Close c) ∷ rest)

-- where a call ends its connection with a code
abbrev pub EndShuts : SessionStep → List Act → Type 0
EndShuts s after = (c code : ℕ) → s.on ≡ Some c → s.reaction.end ≡ Some code → (code ≡ 0) ⊎ Shuts c after

-- calls at other events end none
abbrev pub CallShuts : SessionStep → Event → List Act → Type 0
CallShuts s (takes k now room) after = EndShuts s after
CallShuts s (ticks now) after = EndShuts s after
CallShuts s e after = Unit {0}

-- what stands behind an act; a connection is opened by none of these
abbrev pub Parts : Act → List Act → Type 0
Parts (Session (Called s)) after = CallShuts s s.event after
Parts (Out (Send c bytes)) after = IsFarewell bytes → Shuts c after
Parts (Connection (Opened c)) after = ⊥
Parts a after = Unit {0}

abbrev pub Tidy : List Act → Type 0
Tidy [] = Unit {0}
Tidy (a ∷ after) = Parts a after × Tidy after

-- ---- one after the other
shuts_more : (c : ℕ) (after more : List Act) → Shuts c after → Shuts c (after ++ more)
shuts_more c after more s = (s.0 ++ more, ap (λ xs. xs ++ more) s.1)

end_more : (s : SessionStep) (after more : List Act) → EndShuts s after → EndShuts s (after ++ more)
end_more s after more f c code on end = elim (f c code on end) [ inl zero ↦ inl zero | inr shuts ↦ inr (shuts_more c after more shuts) ]

call_more : (s : SessionStep) (e : Event) (after more : List Act) → CallShuts s e after → CallShuts s e (after ++ more)
call_more s (takes k now room) after more f = end_more s after more f
call_more s (ticks now) after more f = end_more s after more f
call_more s e after more f = tt

parts_more : (a : Act) (after more : List Act) → Parts a after → Parts a (after ++ more)
parts_more (Session (Called s)) after more f = call_more s s.event after more f
parts_more (Out (Send c bytes)) after more f = λ farewell. shuts_more c after more (f farewell)
parts_more (Connection (Opened c)) after more f = absurd f
parts_more a after more f = tt

pub tidy_both : (xs ys : List Act) → Tidy xs → Tidy ys → Tidy (xs ++ ys)
tidy_both [] ys a b = b
tidy_both (x ∷ xs) ys a b = (parts_more x xs ys a.0, tidy_both xs ys a.1 b)

pub tidy_is : (xs ys : List Act) → xs ≡ ys → Tidy ys → Tidy xs
tidy_is xs ys is t = subst Tidy (sym is) t

pub tidy_parts : (acts xs ys : List Act) → acts ≡ xs ++ ys → Tidy xs → Tidy ys → Tidy acts
tidy_parts acts xs ys is a b = tidy_is acts (xs ++ ys) is (tidy_both xs ys a b)

pub tidy_none : (acts : List Act) → acts ≡ [] → Tidy acts
tidy_none acts is = tidy_is acts [] is tt

pub shuts_at : (c : ℕ) (acts rest : List Act) → acts ≡ rest → Shuts c rest → Shuts c acts
shuts_at c acts rest is s = subst (Shuts c) (sym is) s

-- ---- acts that give out no DISCONNECT
abbrev pub IsPlain : Act → Type 0
IsPlain (Session (Called s)) = IsMild s.event
IsPlain (Out (Send c bytes)) = ⊥
IsPlain (Connection (Opened c)) = ⊥
IsPlain a = Unit {0}

mild_shuts : (s : SessionStep) (e : Event) (after : List Act) → IsMild e → CallShuts s e after
mild_shuts s (takes k now room) after mild = absurd mild
mild_shuts s (ticks now) after mild = absurd mild
mild_shuts s e after mild = tt

plain_parts : (a : Act) (after : List Act) → IsPlain a → Parts a after
plain_parts (Session (Called s)) after plain = mild_shuts s s.event after plain
plain_parts (Out (Send c bytes)) after plain = absurd plain
plain_parts (Connection (Opened c)) after plain = absurd plain
plain_parts a after plain = tt

pub plain_tidy : (acts : List Act) → AllByRecursion IsPlain acts → Tidy acts
plain_tidy [] plain = tt
plain_tidy (a ∷ acts) plain = (plain_parts a acts plain.0, plain_tidy acts plain.1)

-- a call at such an event
pub mild_by : (s : SessionStep) (e : Event) → s.event ≡ e → IsMild e → IsMild s.event
mild_by s e is mild = subst IsMild (sym is) mild
