-- What Reason Codes stand for: those of failures (MQTT 5.0, 2.4, Table 2-6).
use Rattle.std.specs.Prelude.{ℕ, ◌==◌, List, [], ◌∷◌, codes, if◌then◌else◌}

-- a code, and what it stands for
abbrev pub reasons : List (ℕ × List ℕ)
reasons =
    (128, codes "Unspecified error")
    ∷ (129, codes "Malformed Packet")
    ∷ (130, codes "Protocol Error")
    ∷ (131, codes "Implementation specific error")
    ∷ (132, codes "Unsupported Protocol Version")
    ∷ (133, codes "Client Identifier not valid")
    ∷ (134, codes "Bad User Name or Password")
    ∷ (135, codes "Not authorized")
    ∷ (136, codes "Server unavailable")
    ∷ (137, codes "Server busy")
    ∷ (138, codes "Banned")
    ∷ (139, codes "Server shutting down")
    ∷ (140, codes "Bad authentication method")
    ∷ (141, codes "Keep Alive timeout")
    ∷ (142, codes "Session taken over")
    ∷ (143, codes "Topic Filter invalid")
    ∷ (144, codes "Topic Name invalid")
    ∷ (145, codes "Packet Identifier in use")
    ∷ (146, codes "Packet Identifier not found")
    ∷ (147, codes "Receive Maximum exceeded")
    ∷ (148, codes "Topic Alias invalid")
    ∷ (149, codes "Packet too large")
    ∷ (150, codes "Message rate too high")
    ∷ (151, codes "Quota exceeded")
    ∷ (152, codes "Administrative action")
    ∷ (153, codes "Payload format invalid")
    ∷ (154, codes "Retain not supported")
    ∷ (155, codes "QoS not supported")
    ∷ (156, codes "Use another server")
    ∷ (157, codes "Server moved")
    ∷ (158, codes "Shared Subscriptions not supported")
    ∷ (159, codes "Connection rate exceeded")
    ∷ (160, codes "Maximum connect time")
    ∷ (161, codes "Subscription Identifiers not supported")
    ∷ (162, codes "Wildcard Subscriptions not supported") ∷ []

-- what a code stands for in a table
abbrev pub words_in : List (ℕ × List ℕ) → ℕ → List ℕ
words_in [] code = codes "Unknown reason"
words_in (row ∷ more) code = if code == row.0 then row.1 else words_in more code

abbrev pub words_of : ℕ → List ℕ
words_of code = words_in reasons code
