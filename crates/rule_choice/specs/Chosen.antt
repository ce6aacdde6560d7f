-- What an answer stands for: the rule of a row, and the stretch of the rule table that holds a target. `Option` is the
-- program's, `maybe.Option` the definition's.
use Rattle.std.specs.Prelude.{Bool, true, not, ◌&&◌, ◌||◌, List, [], ◌≡◌, refl, ℕ, drop, Option, Some, None, is_some}
use mathlib.Core.Option as maybe
use Rattle.base.specs.Lists.{has}
use Rattle.definition.specs.Texts.{Text}
use Rattle.definition.specs.Tables.{Rule}
use Rattle.definition.specs.RuleRows.{rule_of, rule_flag, target_bit, end_target_bit, target_at, end_target_at, text_of}
use Rattle.words.specs.Found.{Row}
use Rattle.rule_choice.specs.declared.Target.{Target}
use Rattle.rule_choice.specs.declared.Target.TheVariants.{Own, AtEnd}

-- the rule that was chosen, in a row that can be read
abbrev pub choice_means : List ℕ → Option ℕ → maybe.Option Rule
choice_means rules (Some row) = maybe.some (rule_of (drop row rules))
choice_means rules None = maybe.none

abbrev pub Rowed : List ℕ → Option ℕ → Type 0
Rowed rules (Some row) = Row (drop row rules)
Rowed rules None = Unit {0}

-- the text that was chosen: the row's own target, its end-of-syllable target, or none
abbrev pub chosen_means : List ℕ → Option Target → maybe.Option Text
chosen_means rules (Some (Own row)) = maybe.some (text_of (drop (target_at (drop row rules)) (drop row rules)))
chosen_means rules (Some (AtEnd row)) = maybe.some (text_of (drop (end_target_at (drop row rules)) (drop row rules)))
chosen_means rules None = maybe.none

-- is there one?
pub has-chosen : (rules : List ℕ) (chosen : Option Target) → is_some chosen ≡ has (chosen_means rules chosen)
has-chosen rules (Some (Own row)) = refl
has-chosen rules (Some (AtEnd row)) = refl
has-chosen rules None = refl

-- its bytes; none where there is no text
abbrev pub or_nothing : maybe.Option Text → Text
or_nothing maybe.none = []
or_nothing (maybe.some w) = w

abbrev pub Said : List ℕ → Option Target → Type 0
Said rules (Some (Own row)) = Row (drop row rules) × (rule_flag (drop row rules) target_bit ≡ true)
Said rules (Some (AtEnd row)) = Row (drop row rules) × (rule_flag (drop row rules) end_target_bit ≡ true)
Said rules None = Unit {0}

-- what three flags allow: one asks that the span is there, one that it is not, and the one for whole words that it is
unfoldable pub allowed : Bool → Bool → Bool → Bool → Bool
allowed only never whole there = (not only || there) && (not never || not there) && (not whole || there)

-- of a start and of an end of word
unfoldable pub start_holds : Rule → Bool → Bool
start_holds r b = allowed r.start_only r.not_start r.whole_word b

unfoldable pub asks_end : Rule → Bool
asks_end r = r.end_only || r.not_end || r.whole_word

unfoldable pub end_holds : Rule → Bool → Bool
end_holds r w = allowed r.end_only r.not_end r.whole_word w
