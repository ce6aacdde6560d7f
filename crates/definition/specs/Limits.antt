-- The limits of document 01, each named once.
use Rattle.std.specs.Prelude.{ℕ, ◌+◌, ◌-◌}

-- the highest mode, the highest number of a choice, and the letters of a language code
abbrev pub most_mode : ℕ
most_mode = 3

abbrev pub most_choice : ℕ
most_choice = 1

abbrev pub code_letters : ℕ
code_letters = 3

-- characters of a text
abbrev pub most_characters : ℕ
most_characters = 4096

-- rows of a rule table, a class table and a decomposition table
abbrev pub most_rows : ℕ
most_rows = 8192

-- characters of a source; language codes and alternatives of a rule
abbrev pub most_source : ℕ
most_source = 16

abbrev pub most_codes : ℕ
most_codes = 8

abbrev pub most_alternatives : ℕ
most_alternatives = 8

-- characters that one stands for
abbrev pub most_into : ℕ
most_into = 18

-- bytes of a target text
abbrev pub most_target : ℕ
most_target = 200

-- letters of an inherent vowel, and the highest script
abbrev pub most_vowel : ℕ
most_vowel = 4

abbrev pub most_script : ℕ
most_script = 127

-- ASCII characters, all bytes of a target text among them
abbrev pub ascii_characters : ℕ
ascii_characters = 128

-- bytes of a listing's rows: the length before them has four bytes
abbrev pub most_listed : ℕ
most_listed = 4294967295

-- bytes of a slot
abbrev pub slot_bytes : ℕ
slot_bytes = 12

-- What follows from these, as the laws prove. Bytes of a target with an inherent vowel: so long is an alternative's text
abbrev pub most_alternative : ℕ
most_alternative = most_target + most_vowel

-- bytes of an edge's text: to these the expansion adds 1 of a doubled letter, a Thai pre-vowel's target, 1 of a Coptic
-- grave, the target of a small ya in the place of 1, and 1 of a long mark
abbrev pub most_bytes : ℕ
most_bytes = most_alternative + 1 + most_target + 1 + (most_target - 1) + 1

-- edges for each character: one for each length of a source, and a fallback
abbrev pub most_edges : ℕ
most_edges = most_source + 1
