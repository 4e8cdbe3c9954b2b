-- Lines of Prometheus' text format (version 0.0.4).
use Rattle.std.specs.Prelude.{ℕ, List, ◌++◌, codes}
use Rattle.std.specs.Fmt.{decimal}

unfoldable pub help_line : List ℕ → List ℕ → List ℕ
help_line name help = codes "# HELP " ++ name ++ codes " " ++ help ++ codes "\n"

unfoldable pub kind_line : List ℕ → List ℕ → List ℕ
kind_line name kind = codes "# TYPE " ++ name ++ codes " " ++ kind ++ codes "\n"

unfoldable pub value_line : List ℕ → ℕ → List ℕ
value_line name n = name ++ codes " " ++ decimal n ++ codes "\n"

unfoldable pub reason_line : List ℕ → List ℕ → ℕ → List ℕ
reason_line name reason n = name ++ codes "{reason=\"" ++ reason ++ codes "\"} " ++ decimal n ++ codes "\n"

unfoldable pub peer_line : List ℕ → List ℕ → ℕ → List ℕ
peer_line name peer n = name ++ codes "{peer=\"" ++ peer ++ codes "\"} " ++ decimal n ++ codes "\n"

-- the text, and then a metric with one value
unfoldable pub with_metric : List ℕ → List ℕ → List ℕ → ℕ → List ℕ → List ℕ
with_metric kind name help n text = text ++ help_line name help ++ kind_line name kind ++ value_line name n

abbrev pub with_gauge : List ℕ → List ℕ → ℕ → List ℕ → List ℕ
with_gauge = with_metric (codes "gauge")

abbrev pub with_counter : List ℕ → List ℕ → ℕ → List ℕ → List ℕ
with_counter = with_metric (codes "counter")
