use Rattle.status_texts.proofs.Plain.{within_quotes}
use Rattle.status_texts.proofs.laws.labels_stay_in_their_quotes.Goals as goal

pub returns : goal.returns
returns c = within_quotes
