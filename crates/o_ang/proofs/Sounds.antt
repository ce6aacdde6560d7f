-- A text beside O ang, by its bytes.
use mathlib.Core.Bool.{false}
use mathlib.Core.List.{[], ◌∷◌}
use mathlib.Core.Option.{Option, none, some}
use mathlib.Core.Path.{◌≡◌, refl}
use native.Mathlib.Omega.{arith}
use lib.ListN.{length}
use Rattle.base.specs.Lists.{all, is, same}
use Rattle.definition.specs.Texts.{Text}
use Rattle.definition.specs.Expansion.{o_ang_side}
use Rattle.rom.specs.Sets.{member, o_ang_side_set, in_o_ang_side, all_as}
use Rattle.rule_choice.specs.Chosen.{or_nothing}
use Rattle.o_ang.specs.Sides.{beside}

-- one or more of them
pub none_beside : (w : Text) → length w ≡ 0 → false ≡ beside w
unfolding beside same
none_beside [] h = refl
none_beside (c ∷ w) h = absurd (omega arith)

pub some_beside : (w : Text) → (length w ≡ 0 → ⊥) → all (member o_ang_side_set) w ≡ beside w
unfolding beside same
some_beside [] h = absurd (h refl)
some_beside (c ∷ w) h = all_as o_ang_side_set o_ang_side in_o_ang_side (c ∷ w)

-- of what may be absent
pub beside_text : (o : Option Text) → beside (or_nothing o) ≡ is beside o
unfolding beside same
beside_text none = refl
beside_text (some w) = refl
