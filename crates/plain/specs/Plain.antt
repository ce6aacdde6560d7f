-- A target that is an edge's text as it is, and what is asked for it.
use Rattle.std.specs.Prelude.{Bool, false, List, ◌≡◌, ℕ, eqb}
use Rattle.base.specs.Lists.{head, is}
use Rattle.definition.specs.Texts.{Text, at, prev, last_is, the_space, coptic_grave, long_mark}
use Rattle.definition.specs.Tables.{Class, Choices, Vowel, Lexicon}
use Rattle.definition.specs.Notes.{note_none}
use Rattle.definition.specs.Classes.{class}
use Rattle.definition.specs.Edges.{View, ret}
use Rattle.definition.specs.Vowels.{vowel_step}
use Rattle.definition.specs.Expansion.{work, small_tsu, small_ya, expand}
use Rattle.words.specs.Given.{World, kinds}

-- a character behind a span that the expansion doesn't ask for
pub record Unasked (c : ℕ) : Type 0 where
  pub grave : eqb c coptic_grave ≡ false
  pub small : small_ya c ≡ false
  pub long : eqb c long_mark ≡ false

-- a text without a space at either end
pub record Unspaced (w : Text) : Type 0 where
  pub front : is (eqb the_space) (head w) ≡ false
  pub back : last_is (eqb the_space) w ≡ false

-- a span with nothing around it that the expansion asks for
pub record Alone (ks : List Class) (t : Text) (s e : ℕ) : Type 0 where
  pub single : small_tsu (prev t s) ≡ false
  pub unasked : Unasked (at t e)
  pub voiced : (class ks (at t e)).virama ≡ false

-- the expansion doesn't change a text, whatever rules, code and edges there are
abbrev pub Untouched : World → Choices → Text → ℕ → ℕ → Type 0
Untouched x c w s e = (L : Lexicon) → L.classes ≡ kinds x → (v : View) → expand L x.text v c w s e ≡ ret (work w s e note_none)

-- nor does the vowel step change any text over a span
abbrev pub Voiceless : World → List Vowel → ℕ → ℕ → Type 0
Voiceless x vs s e = (L : Lexicon) → L.classes ≡ kinds x → (v : View) (tail : Bool) (w : Text) → vowel_step L x.text v vs tail w s e ≡ ret w
