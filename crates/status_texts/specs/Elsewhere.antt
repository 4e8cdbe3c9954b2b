-- What the page names beyond its own host.
use Rattle.std.specs.Prelude.{◌≢◌, ℕ, List, ◌++◌, codes}
use Rattle.status_texts.specs.declared.page.TheConstants.{HEAD, STYLE, SCRIPT}

-- these bytes stand nowhere in the text
abbrev pub IsWithout : List ℕ → List ℕ → Type 0
IsWithout bytes text = (before after : List ℕ) → text ≢ before ++ bytes ++ after

-- the text has neither `http` nor `//`, of which an address at another host has one
abbrev pub NamesNoHost : List ℕ → Type 0
NamesNoHost text = IsWithout (codes "http") text × IsWithout (codes "//") text

-- so it is of the head of the page, of its look and of its script
abbrev pub HeadLookAndScriptNameNoHost : Type 0
HeadLookAndScriptNameNoHost = NamesNoHost HEAD.now × NamesNoHost STYLE.now × NamesNoHost SCRIPT.now
