-- The digits of lower-case hex by their values.
use Rattle.std.specs.Prelude.{ℕ, get_or}
use Rattle.definition.specs.Texts.{chars}

unfoldable pub hex_digit : ℕ → ℕ
hex_digit x = get_or (chars "0123456789abcdef") x 0
