-- What the arguments and the text on standard input say.
use Rattle.std.specs.Prelude.{Bool, true, ◌&&◌, List, [], ◌∷◌, ℕ, ◌-◌, eqb, leb, Option, None, Some, unwrap_or}
use Rattle.base.specs.Pick.{pick}
use Rattle.base.specs.Lists.{same}
use Rattle.definition.specs.Texts.{chars, last_is, without_last}
use Rattle.romanize.specs.declared.Chosen.{Chosen}

-- one digit 0 to 9 is its value, and anything else is no mode
unfoldable pub mode_of : List ℕ → Option ℕ
mode_of [] = None
mode_of (d ∷ []) = pick (leb 48 d && leb d 57) (Some (d - 48)) None
mode_of (d ∷ e ∷ w) = None

-- no mode, which the call refuses
abbrev pub no_mode : ℕ
no_mode = 255

-- the mode that the call is asked
unfoldable pub mode_asked : List ℕ → ℕ
mode_asked w = unwrap_or (mode_of w) no_mode

-- what words behind the mode choose: one more names a choice, and no word may name one twice or name none
abbrev chosen_as : Bool → Bool → Bool → Chosen
chosen_as capitals o_ang readings = record { capitals = capitals; o_ang = o_ang; readings = readings }

unfoldable pub with_choice : List ℕ → Chosen → Option Chosen
with_choice w c =
    pick (same w (chars "capitals")) (pick c.capitals None (Some (chosen_as true c.o_ang c.readings)))
    (pick (same w (chars "o_ang")) (pick c.o_ang None (Some (chosen_as c.capitals true c.readings)))
    (pick (same w (chars "readings")) (pick c.readings None (Some (chosen_as c.capitals c.o_ang true)))
    None))

-- and a wrong word is not forgotten
unfoldable pub with_word : List ℕ → Option Chosen → Option Chosen
with_word w None = None
with_word w (Some c) = with_choice w c

-- a dash is no language code
unfoldable pub code_of : List ℕ → List ℕ
code_of w = pick (same w (chars "-")) [] w

-- one line end at the end is no part of the text
unfoldable pub without_line_end : List ℕ → List ℕ
without_line_end w = pick (last_is (eqb 10) w) (without_last w) w
