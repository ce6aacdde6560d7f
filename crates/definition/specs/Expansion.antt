-- Expansion (`expand_rom_with_special_chars`), step by step in the file's order. The Braille marker is left out. The
-- capitalizing step never acts in the Rust, as its iterator is used up by its own test: it is a choice.
-- A position outside the text reads as a space: in an accepted table of no script and no flag (Blank).
use Rattle.std.specs.Prelude.{Bool, not, ◌&&◌, ◌||◌, List, [], ◌∷◌, ◌++◌, map, reverse, ℕ, zero, suc, ◌+◌, ◌-◌, eqb, length, take, drop}
use Rattle.std.proofs.Math.Option.{Option, none, some}
use Rattle.base.specs.Pick.{pick}
use Rattle.base.specs.Lists.{keep, any, all, head, tail, or_else, has, is, maybe, bind, same, starts}
use Rattle.definition.specs.Texts.{Text, chars, among, at, prev, stands, fits, vowels, consonants, capital, lower, last_is, without_last, the_space, letter_e, letter_i}
use Rattle.definition.specs.Texts.{addak, en_dash, long_mark, coptic_grave, o_ang}
use Rattle.definition.specs.Blocks.{small}
use Rattle.definition.specs.Tables.{Rule, Class, Choices, Lexicon, script_thai, script_coptic, script_hiragana, script_katakana}
use Rattle.definition.specs.Notes.{note_none, note_exp, note_del}
use Rattle.definition.specs.Classes.{class, script}
use Rattle.definition.specs.Edges.{View, M, ret, ◌>>=◌}
use Rattle.definition.specs.Rules.{first_rule, simple}

-- What it works on: a romanization, its span, and its annotation, none while nothing was expanded
pub record Work : Type 0 where
  pub rom : Text
  pub from : ℕ
  pub to : ℕ
  pub note : ℕ

abbrev pub work : Text → ℕ → ℕ → ℕ → Work
work w s e n = record { rom = w; from = s; to = e; note = n }

-- Capitals, where that is chosen: over one character before a lower-case one, a romanization in upper case keeps its first
-- byte, and its later letters become small. Upper case is a letter A-Z at least, and none a-z
unfoldable pub upper_case : Text → Bool
upper_case w = any capital w && not (any small w)

unfoldable pub capitalized : Text → Text
capitalized [] = []
capitalized (c ∷ w) = c ∷ map lower w

unfoldable pub capitalizes : Choices → List Class → Text → Work → Bool
capitalizes c ks t w =
    eqb c.capitals 1 && eqb (w.from + 1) w.to && upper_case w.rom && (class ks (at t w.to)).lowercase

unfoldable pub capitalize : Choices → List Class → Text → Work → Work
capitalize c ks t w =
    pick (capitalizes c ks t w) (work (capitalized w.rom) w.from w.to w.note) w

-- Doubling. DOUBLE_CONSONANT_RE: ^(ch|[bcdfghjklmnpqrstwz]); ch is doubled by t, after addak by c
unfoldable pub doubling : ℕ → Bool
doubling = among "bcdfghjklmnpqrstwz"

unfoldable pub doubled : ℕ → Text → Text
doubled c rom =
    pick (starts (chars "ch") rom) (pick (eqb c addak) (chars "c") (chars "t"))
    (pick (is doubling (head rom)) (take 1 rom) [])

-- small tsu or addak before the span's start `o`, of the same script as the character there
unfoldable pub small_tsu : ℕ → Bool
small_tsu = among "っッੱ"

unfoldable pub double : List Class → Text → ℕ → Work → Work
double ks t o w =
    pick (small_tsu (prev t o) && eqb (script ks (prev t o)) (script ks (at t o))
    && not (same (doubled (prev t o) w.rom) []))
    (work (doubled (prev t o) w.rom ++ w.rom) (w.from - 1) w.to note_exp) w

-- Thai pattern: the first rule whose source is the pre-vowel, an en dash and the `k` characters after the consonant
unfoldable pub framed : Text → ℕ → ℕ → ℕ → Rule → Bool
framed t c k e r =
    same (take 2 r.source) (c ∷ en_dash ∷ []) && eqb (length r.source) (k + 2)
    && fits t (drop 2 r.source) e

-- its target put behind, over the pre-vowel to the left and `k` characters to the right
unfoldable pub widen : ℕ → Work → Option Text → Option Work
widen k w o = bind o (λ y. some (work (w.rom ++ y) (w.from - 1) (w.to + k) note_exp))

unfoldable pub around_by : List Rule → Text → ℕ → Work → Option Work
around_by rs t k w = widen k w (bind (head (keep (framed t (prev t w.from) k w.to) rs)) (λ r. r.target))

-- one character, THAI_CONSONANT_END_RE: ^[bcdfghjklmnpqrstvwxyz]+$, a pre-vowel of any script; 3 before 2 before 1
unfoldable pub around : List Rule → List Class → Text → Work → Option Work
around rs ks t w =
    pick (eqb (w.from + 1) w.to && all consonants w.rom && (class ks (prev t w.from)).pre)
    (or_else (around_by rs t 3 w) (or_else (around_by rs t 2 w) (around_by rs t 1 w))) none

-- Thai pre-vowel: written before, spoken behind. THAI_CONSONANT_START_RE: ^[bcdfghjklmnpqrstvwxyz]
unfoldable pub pre_vowel : List Rule → List Class → Text → Work → Option Text
pre_vowel rs ks t w =
    pick (eqb (script ks (prev t w.from)) script_thai && (class ks (prev t w.from)).pre
    && is consonants (head w.rom))
    (first_rule rs (prev t w.from ∷ [])) none

unfoldable pub before : List Rule → List Class → Text → Work → Work
before rs ks t w = maybe (pre_vowel rs ks t w) w (λ y. work (w.rom ++ y) (w.from - 1) w.to note_exp)

-- The stretch in which a position stands begins behind the nearest space to the left, or where the text does
unfoldable pub stretch_start : Text → ℕ → ℕ
stretch_start t zero = 0
stretch_start t (suc p) = pick (eqb (at t p) the_space) (suc p) (stretch_start t p)

-- Where the walk back behind O ang ends: at the text's start, or, where that is chosen, at the stretch's
unfoldable pub walk_start : Choices → Text → ℕ → ℕ
walk_start c t p = pick (eqb c.o_ang 1) (stretch_start t p) 0

-- O ang is silent unless between consonants: both neighbours Thai, what stands behind it, as far as the walk back goes,
-- ends in one
-- (THAI_CONSONANT_XZ_END_RE: [bcdfghjklmnpqrstvwxz]+$), and the next one's first rule is one or more
-- (THAI_CONSONANT_XZ_ONLY_RE: ^[bcdfghjklmnpqrstvwxz]+$)
unfoldable pub o_ang_side : ℕ → Bool
o_ang_side = among "bcdfghjklmnpqrstvwxz"

unfoldable pub between : Choices → List Rule → List Class → Text → View → Work → Bool
between c rs ks t v w =
    eqb (script ks (prev t w.from)) script_thai && eqb (script ks (at t w.to)) script_thai
    && last_is o_ang_side (v.behind (walk_start c t w.from) w.from)
    && is (λ y. not (same y []) && all o_ang_side y) (first_rule rs (at t w.to ∷ []))

unfoldable pub silent : Choices → List Rule → List Class → Text → View → ℕ → Work → Bool
silent c rs ks t v o w = eqb (at t o) o_ang && eqb (w.from + 1) w.to && not (between c rs ks t v w)

-- Small ya, yu, yo of the same script as the span's last character, after JP_Y_ENDING_RE:
-- ([bcdfghjklmnpqrstvwxyz])i$; its first rule's target stands in the i's place
unfoldable pub small_ya : ℕ → Bool
small_ya = among "ゃゅょャュョ"

unfoldable pub small_target : List Rule → List Class → Text → Work → Option Text
small_target rs ks t w =
    pick (small_ya (at t w.to) && eqb (script ks (prev t w.to)) (script ks (at t w.to))
    && is (eqb letter_i) (head (reverse w.rom)) && is consonants (head (tail (reverse w.rom))))
    (first_rule rs (at t w.to ∷ [])) none

-- The long mark after a kana whose romanization ends in a vowel doubles that vowel
unfoldable pub lengthens : List Class → Text → Work → Bool
lengthens ks t w =
    eqb (at t w.to) long_mark
    && (eqb (script ks (prev t w.to)) script_hiragana || eqb (script ks (prev t w.to)) script_katakana)
    && last_is vowels w.rom

-- One space at each side of the romanization goes, where the text has one there;
-- the front of the text counts as one, its end does not
unfoldable pub trim_front : Text → Text → ℕ → Text
trim_front t w s = pick (is (eqb the_space) (head w) && eqb (prev t s) the_space) (tail w) w

unfoldable pub trim_back : Text → Text → ℕ → Text
trim_back t w e = pick (last_is (eqb the_space) w && stands t e the_space) (without_last w) w

unfoldable pub trim : Text → Work → Work
trim t w = work (trim_back t (trim_front t w.rom w.from) w.to) w.from w.to w.note

-- the long mark, or a virama, which is absorbed, or else spaces trimmed
unfoldable pub finish : List Class → Text → Work → Work
finish ks t w =
    pick (lengthens ks t w) (work (w.rom ++ take 1 (reverse w.rom)) w.from (w.to + 1) note_exp)
    (pick (class ks (at t w.to)).virama (work w.rom w.from (w.to + 1) note_exp)
    (trim t w))

module _ (L : Lexicon) (t : Text) (v : View) where
  -- Coptic: a grave over the last character puts an e in front, unless a rule has both from the first start `o`
  unfoldable pub grave : ℕ → Work → M Work
  grave o w = pick (eqb (at t w.to) coptic_grave && eqb (script L.classes (prev t w.to)) script_coptic)
      (do
        r ← simple L t v o (w.to + 1)
        ret (pick (has r) w (work (letter_e ∷ w.rom) w.from (w.to + 1) note_exp)))
      (ret w)

  -- small ya, unless a rule has it too, from the first start or from where the span starts now
  unfoldable pub small_y : ℕ → Work → M Work
  small_y o w = maybe (small_target L.rules L.classes t w) (ret w) (λ y. do
    r ← simple L t v o (w.to + 1)
    pick (has r) (ret w) (do
      u ← simple L t v w.from (w.to + 1)
      ret (pick (has u) w (work (without_last w.rom ++ y) w.from (w.to + 1) note_exp))))

  unfoldable pub rest : ℕ → Work → M Work
  rest o w = do
    u ← grave o w
    x ← small_y o u
    ret (finish L.classes t x)

  -- Thai: the pattern ends the expansion; then the pre-vowel; a silent O ang is deleted
  unfoldable pub o_ang_step : Choices → ℕ → Work → M Work
  o_ang_step c o w =
      pick (silent c L.rules L.classes t v o w) (ret (work [] w.from w.to note_del)) (rest o w)

  unfoldable pub thai : Choices → ℕ → Work → M Work
  thai c o w = maybe (around L.rules L.classes t w) (o_ang_step c o (before L.rules L.classes t w)) ret

  -- after doubling, by the script of the span's first character, at `o`
  unfoldable pub by_script : Choices → ℕ → Work → M Work
  by_script c o w = pick (eqb (script L.classes (at t o)) script_thai) (thai c o w) (rest o w)

  -- an empty romanization is not expanded; in another, capitals go before doubling
  unfoldable pub expand : Choices → Text → ℕ → ℕ → M Work
  expand c rom s e = pick (same rom []) (ret (work rom s e note_none))
      (by_script c s (double L.classes t s (capitalize c L.classes t (work rom s e note_none))))
