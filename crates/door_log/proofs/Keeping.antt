-- What is kept of a connection.
use Rattle.std.proofs.Common.{◌≡◌, ◌∙◌, ℕ, List, Option, Some, sym, ap}
use Rattle.std.specs.Cmp.{nat_cmp_total}
use Rattle.std.specs.FinMap.{nat_cmp-IsAntisymmetric}
use Rattle.std.specs.FinMap as map
use Rattle.law_maps.proofs.Tables.{insert_taken}
use Rattle.door_log.specs.Noting.{came, came_on}
use Rattle.door_log.specs.Stages.{Stages, more_of}
use Rattle.door_log.specs.declared.clients.Stage.{Stage}
use Rattle.door_log.specs.declared.clients.Stage.TheVariants.{Coming}
use Rattle.door_log.specs.declared.notes.Notes.{Notes}

-- what came is taken out, grows, and is put in again
pub grown : (n : Notes) (c : ℕ) (bytes held more : List ℕ) (left after : Stages) → map.get n.clients c ≡ Some (Coming held) → left ≡ map.remove n.clients c
    → more ≡ more_of held bytes → after ≡ map.insert left c (Coming more) → record n { clients = after } ≡ came c bytes n
grown n c bytes held more left after got was is put =
    let clients : after ≡ map.insert n.clients c (Coming (more_of held bytes)) =
    put ∙ ap (λ (m : Stages). map.insert m c (Coming more)) was ∙ insert_taken nat_cmp_total nat_cmp-IsAntisymmetric n.clients c (Coming more)
    ∙ ap (λ x. map.insert n.clients c (Coming x)) is in
    ap (λ (m : Stages). record n { clients = m }) clients ∙ sym (ap (λ (o : Option Stage). came_on c bytes o n) got)
