-- What comes of a client when it is asked to take what waits for it.
use Rattle.std.specs.Prelude.{◌≡◌, ℕ, List, [], ◌&&◌, eqb, ltb, if◌then◌else◌, length, Option, Some, None}
use Rattle.broker_sockets.specs.declared.network.Answer.{Answer}
use Rattle.broker_sockets.specs.declared.network.Answer.TheVariants.{Later, Bytes, Gone}
use Rattle.broker_turns.specs.declared.clients.Client.{Client}
use Rattle.broker_turns.specs.declared.turn.Fate.{Fate}
use Rattle.broker_turns.specs.declared.turn.Fate.TheVariants.{Stays, Done, Lost}
use Rattle.broker_sockets.specs.Answers.{Offers}

module _ {S T : Type 0} (writes : S → T → List ℕ → Answer → S → T → Type 0) where
  -- its stream is asked exactly where something waits
  abbrev pub Tried : S → Client T → Option Answer → S → Client T → Type 0
  Tried s client None s' left = (client.unsent ≡ []) × (s' ≡ s) × (left ≡ client)
  Tried s client (Some answer) s' left =
      Offers writes client.unsent s client.stream answer left.unsent s' left.stream × (left.closing ≡ client.closing) × (left.untold ≡ client.untold)

module _ {T : Type 0} where
  abbrev pub fate_by_size : Client T → Fate
  fate_by_size client =
      if ltb 16777216 (length client.unsent) then Lost else (if client.closing && eqb (length client.unsent) 0 then Done else Stays)

  -- a socket is lost that fails or for which more than 16,777,216 bytes wait, and one that closes is done once nothing waits
  abbrev pub fate_of : Option Answer → Client T → Fate
  fate_of None client = fate_by_size client
  fate_of (Some Later) client = fate_by_size client
  fate_of (Some (Bytes n)) client = fate_by_size client
  fate_of (Some Gone) client = Lost

-- what the stream took doesn't wait any more, and what comes of the client follows
pub record IsWritten {S T : Type 0} (writes : S → T → List ℕ → Answer → S → T → Type 0) (s : S) (client : Client T) (fate : Fate) (s' : S) (left : Client T) : Type 0 where
  pub answer : Option Answer
  pub tried : Tried writes s client answer s' left
  pub comes_to : fate ≡ fate_of answer left
