-- By which messages for another node are told apart.
use Rattle.std.specs.Prelude.{ℕ, Bool, List, refl}
use Rattle.std.specs.Coded.{Coded, code_by, coded×, coded_ℕ, coded_bool, coded_list}
use Rattle.mqtt_message.specs.declared.message.Message.{Message}
use Rattle.mqtt_message.specs.Codes.{coded_message}
use Rattle.bridge_frames.specs.declared.forward.Forward.{Forward}
use Rattle.bridge_frames.specs.declared.pick.Pick.{Pick}

abbrev pub coded_bytes : Coded (List ℕ)
coded_bytes = coded_list coded_ℕ

abbrev pub coded_pick : Coded Pick
coded_pick = code_by (List ℕ × List ℕ) (coded× coded_bytes coded_bytes) (λ p. (p.client, p.filter)) (λ x. record { client = x.0; filter = x.1 }) (λ _. refl)

abbrev pub coded_forward : Coded Forward
coded_forward =
    code_by (Bool × (List Pick × Message)) (coded× coded_bool (coded× (coded_list coded_pick) coded_message))
    (λ f. (f.plain, (f.picks, f.message))) (λ x. record { plain = x.0; picks = x.1.0; message = x.1.1 }) (λ _. refl)
