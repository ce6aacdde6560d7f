-- Texts are lists of characters, a character being its scalar value. Outside a text there is a space.
use Rattle.std.specs.Prelude.{Bool, true, false, ◌&&◌, ◌||◌, List, [], ◌∷◌, reverse, ℕ, zero, suc, ◌+◌, eqb, leb, ltb, get_or, length}
use Prim.Native.String.{String}
use Prim.Native.Char.{code}
use Rattle.base.specs.Pick.{pick}
use Rattle.base.specs.Lists.{head, tail, is}

abbrev pub Text : Type 0
Text = List ℕ

-- the characters of a quoted text
abbrev pub chars : String → Text
chars String.[] = []
chars (String.◌∷◌ c s) = code c ∷ chars s

-- Characters that are named in what follows
abbrev pub the_space : ℕ
the_space = 0x20

abbrev pub plus_sign : ℕ
plus_sign = 43

abbrev pub hyphen : ℕ
hyphen = 45

abbrev pub letter_a : ℕ
letter_a = 97

abbrev pub letter_e : ℕ
letter_e = 101

abbrev pub letter_i : ℕ
letter_i = 105

abbrev pub letter_n : ℕ
letter_n = 110

abbrev pub letter_o : ℕ
letter_o = 111

abbrev pub letter_y : ℕ
letter_y = 121

abbrev pub coptic_grave : ℕ
coptic_grave = 0x0300

abbrev pub addak : ℕ
addak = 0x0A71

abbrev pub o_ang : ℕ
o_ang = 0x0E2D

abbrev pub khmer_yo : ℕ
khmer_yo = 0x1799

abbrev pub en_dash : ℕ
en_dash = 0x2013

abbrev pub slash : ℕ
slash = 47

abbrev pub fraction_slash : ℕ
fraction_slash = 0x2044

abbrev pub long_mark : ℕ
long_mark = 0x30FC

-- is it one of the quoted characters?
unfoldable pub among : String → ℕ → Bool
among String.[] c = false
among (String.◌∷◌ d s) c = eqb (code d) c || among s c

-- The character at a position, and the one before it. Outside the text both read a space
unfoldable pub at : Text → ℕ → ℕ
at t p = get_or t p the_space

unfoldable pub prev : Text → ℕ → ℕ
prev t zero = the_space
prev t (suc p) = at t p

-- does the character `c` stand in the text, at `p`?
unfoldable pub stands : Text → ℕ → ℕ → Bool
stands t p c = ltb p (length t) && eqb c (at t p)

-- does the text `w` stand there; do its first `k` characters?
unfoldable pub fits : Text → Text → ℕ → Bool
fits t [] p = true
fits t (c ∷ w) p = stands t p c && fits t w (p + 1)

unfoldable pub begins : Text → Text → ℕ → ℕ → Bool
begins t w p zero = true
begins t [] p (suc k) = false
begins t (c ∷ w) p (suc k) = stands t p c && begins t w (p + 1) k

-- Letters of a romanization: A-Z or a-z (the vowel step's `is_alphabetic`), small vowels, the 21 small consonants
unfoldable pub latin : ℕ → Bool
latin c = (leb 65 c && leb c 90) || (leb 97 c && leb c 122)

unfoldable pub vowels : ℕ → Bool
vowels = among "aeiou"

unfoldable pub consonants : ℕ → Bool
consonants = among "bcdfghjklmnpqrstvwxyz"

-- Tibetan, Braille and Hangul syllables, which are left out
unfoldable pub left_out : ℕ → Bool
left_out c = (leb 0x0F00 c && leb c 0x0FFF) || (leb 0x2800 c && leb c 0x28FF) || (leb 0xAC00 c && leb c 0xD7A3)

-- A-Z; and a capital letter made small
unfoldable pub capital : ℕ → Bool
capital c = leb 65 c && leb c 90

unfoldable pub lower : ℕ → ℕ
lower c = pick (capital c) (c + 32) c

-- does the last character pass; the text without it
unfoldable pub last_is : (ℕ → Bool) → Text → Bool
last_is q w = is q (head (reverse w))

abbrev pub without_last : Text → Text
without_last w = reverse (tail (reverse w))
