-- How large a row can be.
use Rattle.std.specs.Prelude.{ℕ}

-- every row's size is below this: two bytes count what follows them
abbrev pub size_limit : ℕ
size_limit = 65538
