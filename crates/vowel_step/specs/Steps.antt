-- What the vowel step promises.
use Rattle.std.specs.Prelude.{ℕ, ◌+◌, ◌≤◌, List, ◌≡◌}
use Rattle.definition.specs.Texts.{Text}
use Rattle.definition.specs.Tables.{Lexicon}
use Rattle.definition.specs.Edges.{View, M}
use Rattle.definition.specs.Building.{grown}
use Rattle.rom.specs.declared.Rom.{Rom}
use Rattle.rom.specs.Rom.{text, held, Clean}
use Rattle.rule_choice.specs.Lent.{Answers}
use Rattle.vowel_step.specs.declared.Voiced.{Voiced}
use Rattle.vowel_step.specs.declared.Grown.{Grown}
use Rattle.words.specs.declared.given.Dicts.{Dicts}

-- The romanization afterwards is what the definition's `f` says, `most` bytes longer than `r` at most, and it is told
-- whether only vowels were put behind it
abbrev pub Voices : Dicts → List ℕ → List ℕ → List ℕ → (Lexicon → Text → View → M Text) → Rom → ℕ → Voiced → Type 0
Voices dicts line before after f r most v =
    Answers dicts line before after f (text v.rom) × Clean v.rom × (v.rom.len ≤ r.len + most) × (v.grown ≡ grown (text r) (text v.rom))

-- what was made in an array, as a value
abbrev pub voiced : List ℕ → Grown → Voiced
voiced b v = record { rom = held b v.len; grown = v.grown }
