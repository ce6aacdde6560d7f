-- Annotations by name, each with its number in a listing. Under `note_core` a text's first bytes are its core.
use Rattle.std.specs.Prelude.{ℕ}

-- "rom", "rom c:.. s:..", "rom tail", "rom exp", "rom del"
abbrev pub note_rom : ℕ
note_rom = 1

abbrev pub note_core : ℕ
note_core = 2

abbrev pub note_tail : ℕ
note_tail = 3

abbrev pub note_exp : ℕ
note_exp = 4

abbrev pub note_del : ℕ
note_del = 5

-- a fallback: "rom single", "Mn", "Cf", "Co", "Zs", "orig"
abbrev pub note_single : ℕ
note_single = 6

abbrev pub note_Mn : ℕ
note_Mn = 7

abbrev pub note_Cf : ℕ
note_Cf = 8

abbrev pub note_Co : ℕ
note_Co = 9

abbrev pub note_Zs : ℕ
note_Zs = 10

abbrev pub note_orig : ℕ
note_orig = 11

-- an alternative: "rom-alt", "rom-alt2" (only where readings are chosen: Alt2), "rom-alt3"
abbrev pub note_alt : ℕ
note_alt = 12

abbrev pub note_alt2 : ℕ
note_alt2 = 13

abbrev pub note_alt3 : ℕ
note_alt3 = 14

-- "rom decomp": a character read by those that it stands for
abbrev pub note_decomp : ℕ
note_decomp = 15

-- nothing yet: what the expansion leaves where it acts on nothing
abbrev pub note_none : ℕ
note_none = 0
