-- Amid acts.
use Rattle.std.proofs.Common.{List, [], ◌∷◌, ◌++◌, refl}
use Rattle.node_work.specs.Acts.{Act, Runs}
use Rattle.node_work.specs.View.{Place, HeldView}
use Rattle.law_nodes.specs.Amid.{PassedAreCopies, AcknowledgedAreAnswers}

pub runs_split : (p : Place) (xs ys : List Act) (h h' : HeldView) → Runs p h (xs ++ ys) h' → (mid : HeldView) × Runs p h xs mid × Runs p mid ys h'
runs_split p [] ys h h' r = (h, refl, r)
runs_split p (x ∷ xs) ys h h' r = let s = runs_split p xs ys r.0 h' r.2 in (s.0, (r.0, r.1, s.1), s.2)

pub passed_are_copies : PassedAreCopies
passed_are_copies = λ p h h' before after m copies lost routes runs. (let s = runs_split p before _ h h' runs in (s.0, s.1, s.2.1.0.1))

pub acknowledged_are_answers : AcknowledgedAreAnswers
acknowledged_are_answers = λ p h h' before after client packet at grants offers runs. (let s = runs_split p before _ h h' runs in (s.0, s.1, s.2.1.0))
