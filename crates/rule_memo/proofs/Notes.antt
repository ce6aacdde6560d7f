-- A note by whether a longer source starts with its character.
use Prim.Native.Nat.{◌+◌, ◌*◌, ◌/◌, ℕ}
use mathlib.Core.Bool.{true, false}
use mathlib.Core.Path.{◌≡◌, sym}
use Rattle.rule_table.specs.declared.Found.{Found}
use Rattle.rule_memo.specs.Kept.{note_of, note-longer, note-last}

pub note_longer : (c : ℕ) (f : Found) → f.more ≡ true → note_of c f ≡ c / 256 + f.count * 32768 + 16384
note_longer c f e = sym (note-longer c f e)

pub note_last : (c : ℕ) (f : Found) → f.more ≡ false → note_of c f ≡ c / 256 + f.count * 32768
note_last c f e = sym (note-last c f e)
