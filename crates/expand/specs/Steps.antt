-- What the steps of the expansion need, and what those by script promise.
use Rattle.std.specs.Prelude.{ℕ, ◌+◌, ◌≤◌, ◌<◌, List, ◌≡◌}
use Rattle.std.specs.declared.ops.ControlFlow.{ControlFlow}
use Rattle.std.specs.declared.ops.ControlFlow.TheVariants.{Break, Continue}
use Rattle.definition.specs.Limits.{most_bytes, most_target}
use Rattle.definition.specs.Texts.{Text}
use Rattle.definition.specs.Tables.{Lexicon}
use Rattle.definition.specs.Edges.{View, M, ret}
use Rattle.definition.specs.Expansion.{Work, rest}
use Rattle.words.specs.Given.{World, seen, size_in, Prepared, Lent}
use Rattle.rule_choice.specs.Lent.{lexicon_of}
use Rattle.steps.specs.declared.Growing.{Growing}
use Rattle.steps.specs.Works.{work_in, Held}

-- A step may go on with `g` in the array `b`, which came from a span that starts at `o`: the tables are as they were checked,
-- the romanization is clean and, as `Short` says, short enough for what may be put to it, and its span is one of the text
abbrev pub Workable : Type 0 → List ℕ → List ℕ → List ℕ → ℕ → List ℕ → Growing → Type 0
Workable Short rules ready line o b g =
    Prepared rules ready × Held b g × Short × (o ≤ g.to) × (g.from < g.to) × (g.to ≤ size_in line)

-- What the steps by script left in the array `b` is the definition's `f`: all of it where they broke off, and else with the
-- rest of the expansion, which may go on with it
abbrev pub Opens : List ℕ → List ℕ → List ℕ → List ℕ → ℕ → (Lexicon → Text → View → M Work) → List ℕ → ControlFlow Growing Growing → Type 0
Opens rules ready line places o f b (Break g) =
    ((x : World) (code : List ℕ) → Lent x line places → ret (work_in b g) ≡ f (lexicon_of rules x code) x.text (seen x)) × Held b g
Opens rules ready line places o f b (Continue g) =
    ((x : World) (code : List ℕ) → Lent x line places
    → rest (lexicon_of rules x code) x.text (seen x) o (work_in b g) ≡ f (lexicon_of rules x code) x.text (seen x))
    × Workable (g.len + most_target < most_bytes) rules ready line o b g
