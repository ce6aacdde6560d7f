-- What a driver sees, the statement: a line's string is the strings of its words, joined by single spaces.
-- (proofs/Strings and proofs/Driven prove it; proofs/Labels applies it, and shows that both premises are needed.)
use Rattle.std.specs.Prelude.{true, ◌≡◌, List, [], ◌∷◌, ◌++◌, map, ℕ, ◌≤◌, take}
use Rattle.base.specs.Lists.{all}
use Rattle.base.specs.Alls.{All}
use Rattle.definition.specs.Texts.{Text, the_space}
use Rattle.definition.specs.Tables.{Decomposition, Tables}
use Rattle.definition.specs.Paths.{joined}
use Rattle.definition.specs.Decomposing.{path}
use Rattle.definition.specs.Call.{Inputs, tables, decompositions, characters, Called, called}
use Rattle.stretches.specs.Demand.{spaceless_rule, Taken, First_if}

-- Words joined by single spaces, as characters or as bytes: U+0020 is the byte 0x20. A word may be empty. That it has
-- no space need not be asked: what stands here of words holds of phrases too
unfoldable pub spaced : List (List ℕ) → List ℕ
spaced [] = []
spaced (w ∷ ws) = the_space ∷ (w ++ spaced ws)

unfoldable pub line_of : List (List ℕ) → List ℕ
line_of [] = []
line_of (w ∷ ws) = w ++ spaced ws

-- A text's string: the path's texts, one behind the other
unfoldable pub string : Tables → List Decomposition → Text → Text
string D ds t = joined (path D ds t)

-- In characters: take an accepted line, rules with no space, and, where the choice of O ang is 0, U+0E2D in no word
-- past its first character. The line's string is its words' own strings, joined by single spaces
abbrev pub Strings : Type 0
Strings = (i : Inputs) → Taken i → (ws : List Text) → characters i ≡ line_of ws
    → All (First_if (tables i).choices) ws
    → string (tables i) (decompositions i) (characters i) ≡ line_of (map (string (tables i) (decompositions i)) ws)

-- A word's call: the line's mode, choices, tables and code; slots, room and output at least as large
pub record WordCall (i j : Inputs) : Type 0 where
  pub mode : j.mode ≡ i.mode
  pub choices : j.choices ≡ i.choices
  pub rules : j.rules ≡ i.rules
  pub classes : j.classes ≡ i.classes
  pub vowels : j.vowels ≡ i.vowels
  pub decompositions : j.decompositions ≡ i.decompositions
  pub code : j.code ≡ i.code
  pub slots : i.slots ≤ j.slots
  pub room : i.room ≤ j.room
  pub out : i.out ≤ j.out

-- A line's call and its words' calls: the line's, in mode 0, ends with number 0, and the line's bytes are the words',
-- joined by 0x20. (That each word's bytes are UTF-8 need not be asked: a byte 0x20 is no part of another character)
pub record Line (i : Inputs) (words : List Inputs) : Type 0 where
  pub mode : i.mode ≡ 0
  pub done : (called i).number ≡ 0
  pub text : i.text ≡ line_of (map (λ j. j.text) words)
  pub calls : All (WordCall i) words

-- no rule has a space in its source or in a target; where the choice of O ang is 0, U+0E2D stands in no word past its
-- first character
abbrev pub Spaceless : Inputs → Type 0
Spaceless i = all spaceless_rule (tables i).rules ≡ true

abbrev pub Firsts : Inputs → List Inputs → Type 0
Firsts i words = All (λ j. First_if i.choices (characters j)) words

-- the output up to its length
unfoldable pub wrote : Called → List ℕ
wrote r = take r.length r.output

-- In bytes: each word's call ends with number 0, and the line's output is the words' outputs, joined by 0x20
pub record Reads (i : Inputs) (words : List Inputs) : Type 0 where
  pub done : All (λ j. (called j).number ≡ 0) words
  pub output : wrote (called i) ≡ line_of (map (λ j. wrote (called j)) words)

abbrev pub Promise : Type 0
Promise = (i : Inputs) (words : List Inputs) → Line i words → Spaceless i → Firsts i words → Reads i words
