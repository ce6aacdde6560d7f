-- The edge of a span as it is answered, and the text of a fallback.
use Rattle.std.specs.Prelude.{Option, Some, None, List, ◌≡◌, refl, ℕ, eqb, take}
use mathlib.Core.Option.{none, some}
use mathlib.Core.Option as math
use Rattle.base.specs.Pick.{pick}
use Rattle.base.specs.Lists.{tail, maybe}
use Rattle.definition.specs.Texts.{Text}
use Rattle.definition.specs.Notes.{note_none, note_Mn, note_Cf, note_Co, note_Zs}
use Rattle.definition.specs.Tables.{category_Mn, category_Cf, category_Co, category_Zs}
use Rattle.definition.specs.Edges.{Edge, View, M}
use Rattle.definition.specs.Tables.{Tables}
use Rattle.definition.specs.Call.{tables_of}
use Rattle.definition.specs.Expansion.{Work, expand}
use Rattle.definition.specs.Building.{fallback_plus}
use Rattle.rom.specs.Rom.{held, Clean}
use Rattle.words.specs.declared.given.Span.{Span}
use Rattle.words.specs.Did.{Asked}
use Rattle.words.specs.Given.{World, seen, Told, Lent}
use Rattle.rule_choice.specs.Lent.{lexicon_of}
use Rattle.edge.specs.declared.Numbers.{Numbers}
use Rattle.spans.specs.declared.Spanned.{Spanned}

-- What a step that asks all tables answers: of every world that the lent slices stand for, what the definition does
abbrev pub Finds : {A : Type 0} → List ℕ → List ℕ → List ℕ → List ℕ → List ℕ → List ℕ → List ℕ → (Tables → Text → View → M A) → A → Type 0
Finds rules ready vowels code line before after f r =
    (w : World) → Told w ready → Lent w line before → Asked w (f (tables_of w.choices rules w.classes vowels code) w.text (seen w)) before after r

-- an edge by its numbers and its text
abbrev pub edge_with : Numbers → Text → Edge
edge_with e w = record { from = e.from; to = e.to; note = e.note; core = e.core; text = w }

-- what was answered, with its text in the array `b`
abbrev pub found : List ℕ → Option Spanned → math.Option Edge
found b None = none
found b (Some r) = some (edge_with r.numbers (take r.len b))

pub found-there : (b : List ℕ) (r : Spanned) → found b (Some r) ≡ some (edge_with r.numbers (take r.len b))
found-there b r = refl

-- An edge is found, that of the definition's `f`, and its text in the array `b` is clean
abbrev pub FindsEdge : List ℕ → List ℕ → List ℕ → List ℕ → List ℕ → List ℕ → List ℕ → (Tables → Text → View → M Edge) → List ℕ → Spanned → Type 0
FindsEdge rules ready vowels code line before after f b r =
    Finds rules ready vowels code line before after f (edge_with r.numbers (take r.len b)) × Clean (held b r.len)

-- What is left in the array: a clean text where there is an edge, and else what was in it
abbrev pub Leaves : List ℕ → List ℕ → Option Spanned → Type 0
Leaves before after None = after ≡ before
Leaves before after (Some r) = Clean (held after r.len)

-- The expansion with the call's choices, of every world that the lent slices stand for
abbrev pub Expands : List ℕ → List ℕ → List ℕ → List ℕ → List ℕ → List ℕ → Text → Span → Work → Type 0
Expands rules ready code line before after w span x =
    (u : World) → Told u ready → Lent u line before
    → Asked u (expand (lexicon_of rules u code) u.text (seen u) u.choices w span.from span.to) before after x

-- a target without its plus before m, n, g or r
unfoldable pub plus_dropped : Text → Text
plus_dropped w = pick (fallback_plus w) (tail w) w

-- the bytes of a fallback: a target, or those of the character itself
unfoldable pub fallback_bytes : math.Option Text → List ℕ → Text
fallback_bytes o own = maybe o own plus_dropped

-- the annotation of a category that has no letters; none for another
unfoldable pub category_note : ℕ → ℕ
category_note k =
    pick (eqb k category_Mn) note_Mn
    (pick (eqb k category_Cf) note_Cf
    (pick (eqb k category_Co) note_Co
    (pick (eqb k category_Zs) note_Zs note_none)))
