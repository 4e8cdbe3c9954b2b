-- Served nodes among others reach what runs reach.
use Rattle.std.proofs.Common.{◌≡◌, List, [], ◌∷◌, ◌++◌, append_assoc, sym, subst, ap, ◌∙◌}
use Rattle.cluster_play.proofs.Onward.{goes_on}
use Rattle.cluster_play.specs.Histories.{Reached}
use Rattle.cluster_play.specs.Runs.{Played}
use Rattle.cluster_play.specs.Worlds.{world_with}
use Rattle.row_store.specs.Rows.{Content}
use Rattle.law_serving.specs.Settling.{served_site}
use Rattle.law_serving.specs.Turns.{frames_of}
use Rattle.law_serving.specs.Reaching.{ServedIsReached, run_among}

module _ {R : Type 0} (is_open : R → Type 0) (content : R → Content) where
  pub served_is_reached : ServedIsReached is_open content
  served_is_reached past w w' i k k' [] runs reached among = goes_on past among.0.run w w' reached among.0.path among.0.honest
  served_is_reached past w w' i k k' (events ∷ more) runs reached among =
      let others = among.1 in
      let one = runs.1.run among.0 i among.2 in
      let next = world_with among.0 i (served_site content runs.0) (frames_of events) in
      let rest = run_among is_open content next i runs.0 more k' runs.2 w' among.4 in
      let first = goes_on past others.run w among.0 reached others.path others.honest in
      let second = goes_on (past ++ others.run) one.run among.0 next first one.leads (one.honest among.3) in
      let last = served_is_reached ((past ++ others.run) ++ one.run) next w' i runs.0 k' more runs.2 second among.4 in
      let To : List Played → Type 0 = λ run. Reached run w' in
      let order : ((past ++ others.run) ++ one.run) ++ rest ≡ past ++ ((others.run ++ one.run) ++ rest) =
      append_assoc (past ++ others.run) one.run rest ∙ append_assoc past others.run (one.run ++ rest) ∙ ap (λ (run : List Played). past ++ run) (sym (append_assoc others.run one.run rest)) in
      subst To order last
