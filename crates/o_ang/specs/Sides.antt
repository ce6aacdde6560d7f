-- What may stand beside O ang.
use Rattle.std.specs.Prelude.{Bool, not, ◌&&◌, []}
use Rattle.base.specs.Lists.{all, same}
use Rattle.definition.specs.Texts.{Text}
use Rattle.definition.specs.Expansion.{o_ang_side}

-- one or more of the consonants that may stand beside O ang
unfoldable pub beside : Text → Bool
beside y = not (same y []) && all o_ang_side y
