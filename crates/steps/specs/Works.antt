-- What the expansion works on, as the definition has it, and its letters.
use Rattle.std.specs.Prelude.{Bool, ◌&&◌, ◌||◌, Option, Some, None, List, [], ◌∷◌, reverse, ◌≡◌, ℕ, ◌+◌, ◌≤◌, eqb, get_or, take}
use mathlib.Core.Option.{none, some}
use mathlib.Core.Option as math
use Rattle.base.specs.Pick.{pick}
use Rattle.base.specs.Lists.{all, head, tail, is}
use Rattle.definition.specs.Texts.{Text, the_space, long_mark, vowels, consonants, last_is, without_last}
use Rattle.definition.specs.Tables.{script_thai, script_hiragana, script_katakana}
use Rattle.definition.specs.Expansion.{work}
use Rattle.definition.specs.Expansion as expansion
use Rattle.rom.specs.Rom.{text, held, Clean}
use Rattle.steps.specs.declared.Work.{Work}
use Rattle.steps.specs.declared.Growing.{Growing}

abbrev pub work_of : Work → expansion.Work
work_of w = work (text w.rom) w.from w.to w.note

-- while its romanization is in the array `b`
abbrev pub work_in : List ℕ → Growing → expansion.Work
work_in b g = work (take g.len b) g.from g.to g.note

abbrev pub Held : List ℕ → Growing → Type 0
Held b g = Clean (held b g.len)

-- what came of a try, as the definition has it: the work in the array `b`, or none
abbrev pub outcome : List ℕ → Option Growing → math.Option expansion.Work
outcome b None = none
outcome b (Some g) = some (work_in b g)

-- what a try left in the array: a clean romanization of `most` bytes at most, and what was there where it was not done
abbrev pub Left : ℕ → List ℕ → List ℕ → Option Growing → Type 0
Left most before after None = after ≡ before
Left most before after (Some g) = Held after g × (g.len ≤ most)

-- the first letter of a text and the last, 0 where there is none
abbrev pub first_of : Text → ℕ
first_of w = get_or w 0 0

abbrev pub last_of : Text → ℕ
last_of w = get_or (reverse w) 0 0

-- a letter as a text, and none as the empty one
unfoldable pub letter_of : Option ℕ → Text
letter_of None = []
letter_of (Some b) = b ∷ []

-- the tests of the two Thai steps, by what is told of the character before the span
unfoldable pub framed_by : Bool → expansion.Work → Bool
framed_by pre w = eqb (w.from + 1) w.to && all consonants w.rom && pre

unfoldable pub before_by : ℕ → Bool → Text → Bool
before_by k pre w = eqb k script_thai && pre && is consonants (head w)

-- does a character after a script and a text lengthen it?
unfoldable pub kana : ℕ → Bool
kana k = eqb k script_hiragana || eqb k script_katakana

unfoldable pub long_by : ℕ → ℕ → Text → Bool
long_by c k w = eqb c long_mark && kana k && last_is vowels w

-- a text without its space in front, where a character is one, and without the one behind, where one is there
unfoldable pub front_of : ℕ → Text → Text
front_of c w = pick (is (eqb the_space) (head w) && eqb c the_space) (tail w) w

unfoldable pub back_of : Bool → Text → Text
back_of there w = pick (last_is (eqb the_space) w && there) (without_last w) w
