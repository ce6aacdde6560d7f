-- What is asked has numbers that no test refuses.
use Prim.Native.Nat.{ℕ, ◌≤◌, ◌<◌}
use mathlib.Core.List.{List, [], ◌∷◌}
use mathlib.Core.Option.{Option, none, some}
use mathlib.Core.Path.{◌≡◌, sym, ◌∙◌}
use native.Mathlib.Omega.{arith}
use lib.Dec.{ltb}
use Rattle.base.specs.Lists.{first_of}
use Rattle.definition.specs.Limits.{most_mode, most_choice}
use Rattle.definition.specs.Tables.{Choices}
use Rattle.definition.specs.Refusals.{Refusal, refuse, when, refused_mode, refused_capitals, refused_o_ang, refused_readings}
use Rattle.jettyfig.specs.declared.Mode.{Mode}
use Rattle.jettyfig.specs.declared.Capitals.{Capitals}
use Rattle.jettyfig.specs.declared.OAng.{OAng}
use Rattle.jettyfig.specs.declared.Readings.{Readings}
use Rattle.jettyfig.specs.declared.Asked.{Asked}
use Rattle.jettyfig.specs.Verdicts.{mode_number, capitals_number, o_ang_number, readings_number, chosen, by_asked, above, not_above}

pub mode_few : (m : Mode) → mode_number m ≤ most_mode
mode_few Mode.String = omega arith
mode_few Mode.Path = omega arith
mode_few Mode.Alternatives = omega arith
mode_few Mode.AllEdges = omega arith

pub capitals_few : (c : Capitals) → capitals_number c ≤ most_choice
capitals_few Capitals.Stay = omega arith
capitals_few Capitals.FirstStays = omega arith

pub o_ang_few : (c : OAng) → o_ang_number c ≤ most_choice
o_ang_few OAng.ToStart = omega arith
o_ang_few OAng.ToSpace = omega arith

pub readings_few : (c : Readings) → readings_number c ≤ most_choice
readings_few Readings.Unlisted = omega arith
readings_few Readings.Listed = omega arith

-- the tests from each choice on, where those before them refuse nothing
module _ (mode : ℕ) (c : Choices) where
  abbrev from-readings : List (Option Refusal)
  from-readings = when (ltb most_choice c.readings) refused_readings 0 ∷ []

  abbrev from-o-ang : List (Option Refusal)
  from-o-ang = when (ltb most_choice c.o_ang) refused_o_ang 0 ∷ from-readings

  abbrev from-capitals : List (Option Refusal)
  from-capitals = when (ltb most_choice c.capitals) refused_capitals 0 ∷ from-o-ang

  pub mode_refused : most_mode < mode → some (refuse refused_mode 0) ≡ by_asked mode c
  unfolding by_asked
  mode_refused h = above most_mode mode refused_mode from-capitals h

  past-mode : mode ≤ most_mode → first_of from-capitals ≡ by_asked mode c
  unfolding by_asked
  past-mode m = not_above most_mode mode refused_mode from-capitals m

  pub capitals_refused : mode ≤ most_mode → most_choice < c.capitals → some (refuse refused_capitals 0) ≡ by_asked mode c
  capitals_refused m h = above most_choice c.capitals refused_capitals from-o-ang h ∙ past-mode m

  past-capitals : mode ≤ most_mode → c.capitals ≤ most_choice → first_of from-o-ang ≡ by_asked mode c
  past-capitals m n = not_above most_choice c.capitals refused_capitals from-o-ang n ∙ past-mode m

  pub o_ang_refused : mode ≤ most_mode → c.capitals ≤ most_choice → most_choice < c.o_ang → some (refuse refused_o_ang 0) ≡ by_asked mode c
  o_ang_refused m n h = above most_choice c.o_ang refused_o_ang from-readings h ∙ past-capitals m n

  past-o-ang : mode ≤ most_mode → c.capitals ≤ most_choice → c.o_ang ≤ most_choice → first_of from-readings ≡ by_asked mode c
  past-o-ang m n k = not_above most_choice c.o_ang refused_o_ang from-readings k ∙ past-capitals m n

  pub readings_refused : mode ≤ most_mode → c.capitals ≤ most_choice → c.o_ang ≤ most_choice → most_choice < c.readings
      → some (refuse refused_readings 0) ≡ by_asked mode c
  readings_refused m n k h = above most_choice c.readings refused_readings [] h ∙ past-o-ang m n k

  pub none_refused : mode ≤ most_mode → c.capitals ≤ most_choice → c.o_ang ≤ most_choice → c.readings ≤ most_choice → none ≡ by_asked mode c
  unfolding first_of
  none_refused m n k r = not_above most_choice c.readings refused_readings [] r ∙ past-o-ang m n k

pub asked_right : (a : Asked) → by_asked (mode_number a.mode) (chosen a) ≡ none
asked_right a = sym (none_refused (mode_number a.mode) (chosen a) (mode_few a.mode) (capitals_few a.capitals) (o_ang_few a.o_ang) (readings_few a.readings))
