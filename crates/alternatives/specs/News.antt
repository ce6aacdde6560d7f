-- What is new of the rows of an edge, row by row.
use Rattle.std.specs.Prelude.{List, [], ◌∷◌, ◌≡◌, ℕ, ◌+◌, ◌*◌, length, take, drop, replicate}
use Rattle.base.specs.Lists.{put}
use Rattle.definition.specs.Limits.{most_characters, most_rows, most_alternative}
use Rattle.definition.specs.Texts.{Text}
use Rattle.definition.specs.Tables.{Rule}
use Rattle.definition.specs.Edges.{Edge}
use Rattle.definition.specs.Rules.{holds_at}
use Rattle.definition.specs.RuleRows.{rule_of}
use Rattle.definition.specs.Offers.{offers, all_offers}
use Rattle.definition.specs.Listing.{row_head_bytes}
use Rattle.offers.specs.declared.Asked.{Asked}
use Rattle.offers.specs.Texts.{texts, most_offers, holding}

-- the texts that the first `n` rows of an edge offer it
abbrev pub offered : Edge → Text → Asked → List ℕ → ℕ → List Text
offered x code a rules n = texts (all_offers a.readings x (holding code a.start a.end rules a.first n))

-- and its own before them
abbrev pub earlier : Edge → Text → Asked → List ℕ → ℕ → List Text
earlier x code a rules n = x.text ∷ offered x code a rules n

-- the first `k` texts that the rule in a row offers it
abbrev pub row_offered : Edge → Asked → List ℕ → ℕ → ℕ → List Text
row_offered x a rules row k = take k (texts (offers a.readings x (rule_of (drop row rules))))

-- what a rule offers it, where the rule holds
abbrev pub holding_offers : Edge → Text → Asked → Rule → List Edge
holding_offers x code a r = all_offers a.readings x (put (holds_at code a.start a.end r) r [])

-- an empty filter
abbrev pub Blank : List ℕ → Type 0
Blank cells = cells ≡ replicate (length cells) 0

-- How much of the listing an alternative takes at most, a row's head and its text; those of a row, of an edge, of a path
abbrev pub offer_bytes : ℕ
offer_bytes = row_head_bytes + most_alternative

abbrev pub row_bytes : ℕ
row_bytes = most_offers * offer_bytes

abbrev pub edge_bytes : ℕ
edge_bytes = most_rows * row_bytes

abbrev pub path_bytes : ℕ
path_bytes = most_characters * edge_bytes
