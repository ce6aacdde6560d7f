-- What the engine answers: of every world that the lent slices stand for, what the definition does.
use Rattle.std.specs.Prelude.{List, ℕ}
use Rattle.definition.specs.Texts.{Text}
use Rattle.definition.specs.Tables.{Lexicon}
use Rattle.definition.specs.RuleRows.{rules_of}
use Rattle.definition.specs.Edges.{View, M}
use Rattle.words.specs.Did.{Asked}
use Rattle.words.specs.Given.{World, kinds, seen, Told, Lent}
use Rattle.words.specs.declared.given.Dicts.{Dicts}

-- rules, classes and code as the definition has them
abbrev pub lexicon_of : List ℕ → World → List ℕ → Lexicon
lexicon_of rules w code = record { rules = rules_of rules; classes = kinds w; code = code }

-- `f` is the definition's question, `r` the answer; `before` and `after` are the places
abbrev pub Answers : {A : Type 0} → Dicts → List ℕ → List ℕ → List ℕ → (Lexicon → Text → View → M A) → A → Type 0
Answers dicts line before after f r =
    (w : World) → Told w dicts.ready.now → Lent w line before
    → Asked w (f (lexicon_of dicts.rules.now w dicts.code.now) w.text (seen w)) before after r
