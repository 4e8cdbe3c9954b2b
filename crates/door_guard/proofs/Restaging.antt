-- A client that has come so far.
use Rattle.std.proofs.Common.{◌≡◌, ℕ, Option, Some, None, subst, ◌∙◌}
use Rattle.door_guard.specs.Clients.{IsBut, client_of, restaged}
use Rattle.door_packets.specs.declared.client.Client.{Client}
use Rattle.door_packets.specs.declared.client.Stage.{Stage}
use Rattle.door_guard.specs.declared.clients.Clients.{Clients}

pub restage_none : (c : ℕ) (stage : Stage) (k l : Clients) → None ≡ client_of k c → IsBut c None k l → IsBut c (restaged stage (client_of k c)) k l
restage_none c stage k l is gone = subst (λ (x : Option Client). IsBut c (restaged stage x) k l) is gone

pub restage_some : (c : ℕ) (stage : Stage) (x : Client) (k l m : Clients) → Some x ≡ client_of k c → IsBut c None k l → IsBut c (Some (record x { stage = stage })) l m → IsBut c (restaged stage (client_of k c)) k m
restage_some c stage x k l m is gone put =
    let all : IsBut c (Some (record x { stage = stage })) k m = record { at = put.at; others = λ q e. put.others q e ∙ gone.others q e } in
    subst (λ (y : Option Client). IsBut c (restaged stage y) k m) is all
