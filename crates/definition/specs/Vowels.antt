-- The vowel step (`add_default_abugida_vowel`).
-- A position outside the text reads as a space: in an accepted table of no script and no flag (Blank), while the
-- span's first character has the script of a vowel row, at least 1. So the Rust's answers for no character before
-- and none after are those for a space.
use Rattle.std.specs.Prelude.{Bool, not, ◌&&◌, ◌||◌, List, [], ◌∷◌, ◌++◌, reverse, ℕ, ◌+◌, eqb, get_or}
use Rattle.std.proofs.Math.Option.{Option, none, some}
use Rattle.base.specs.Pick.{pick}
use Rattle.base.specs.Lists.{put, keep, any, all, head, tail, is, maybe, front, after, same}
use Rattle.definition.specs.Texts.{Text, chars, among, at, prev, latin, vowels, consonants, last_is, letter_a, letter_o, letter_y, hyphen, khmer_yo}
use Rattle.definition.specs.Tables.{Class, Vowel, Lexicon, script_devanagari}
use Rattle.definition.specs.Classes.{class, mark, script}
use Rattle.definition.specs.Edges.{View, M, ret, ◌>>=◌}
use Rattle.definition.specs.Boundaries.{word_start, word_end}

-- the vowel row of a script (`abugida_for_char`)
unfoldable pub vowel_row : List Vowel → ℕ → Option Vowel
vowel_row vs k = head (keep (λ y. eqb y.script k) vs)

-- The two patterns, searched and not anchored at the front, on a romanization read backwards without its hyphen:
-- the base (first group), and the base with its vowel (both groups). `q` is a under A, a or o under AO.

-- RE_A.0: ([cfghkmnqrstxy]?y)(a+)-?$ and RE_AO.0: ([cfghkmnqrstxy]?y)(a+|o+)-?$
unfoldable pub before_y : ℕ → Bool
before_y = among "cfghkmnqrstxy"

unfoldable pub pattern_y : (ℕ → Bool) → Text → Option (Text × Text)
pattern_y q [] = none
pattern_y q (v ∷ w) =
    let y = after (eqb v) w in
    let b = put (is before_y (head (tail y))) (get_or y 1 0) (letter_y ∷ []) in
    pick (q v && is (eqb letter_y) (head y)) (some (b, b ++ front (eqb v) (v ∷ w))) none

-- RE_A.1: ([bcdfghjklmnpqrstvwxyz]+)(a)-?$ and RE_AO.1: ([bcdfghjklmnpqrstvwxyz]+)(a|o)-?$
unfoldable pub pattern_c : (ℕ → Bool) → Text → Option (Text × Text)
pattern_c q [] = none
pattern_c q (v ∷ w) =
    let b = reverse (front consonants w) in
    pick (q v && is consonants (head w)) (some (b, b ++ v ∷ [])) none

-- The romanization (`rom`), the base, the base with its vowel. The hyphen goes only under the second pattern,
-- where the span is `one` character and a letter A-Z or a-z is first
unfoldable pub bases : Bool → Text → Text → Bool → Text × Text × Text
bases ao vowel rom one =
    let q : ℕ → Bool = λ c. eqb c letter_a || (ao && eqb c letter_o) in
    let dash = last_is (eqb hyphen) rom in
    let back = pick dash (tail (reverse rom)) (reverse rom) in
    maybe (pattern_y q back) (maybe (pattern_c q back) (rom, rom, rom ++ vowel)
    (λ u. (pick (dash && one && is latin (head rom)) (reverse back) rom, u.0, u.1))) (λ u. (rom, u.0, u.1))

-- ABUGIDA_CONSONANT_RE: ^[bcdfghjklmnpqrstvwxyz]+$
unfoldable pub consonant_only : Text → Bool
consonant_only base = not (same base []) && all consonants base

-- the languages that, besides Devanagari other than Sanskrit, keep the romanization at a word's end
unfoldable pub keeps_end : Text → ℕ → Bool
keeps_end code k =
    (eqb k script_devanagari && not (same code (chars "san")))
    || any (same code) (chars "asm" ∷ chars "ben" ∷ chars "guj" ∷ chars "kas" ∷ chars "pan" ∷ [])

-- No vowel is spoken before what follows at `e`. In the file's order: Khmer yo after b, c, d, z or ng; vowel sign,
-- medial, subjoined; a nonspacing mark and a vowel sign; virama; a nonspacing mark and a virama
unfoldable pub before_yo : Text → Bool
before_yo base = any (same base) (chars "b" ∷ chars "c" ∷ chars "d" ∷ chars "z" ∷ chars "ng" ∷ [])

unfoldable pub bare : List Class → Text → Text → ℕ → Bool
bare ks t base e =
    (before_yo base && eqb (at t e) khmer_yo)
    || (class ks (at t e)).sign
    || (class ks (at t e)).medial
    || (class ks (at t e)).subjoined
    || (mark ks (at t e) && (class ks (at t (e + 1))).sign)
    || (class ks (at t e)).virama
    || (mark ks (at t e) && (class ks (at t (e + 1))).virama)

module _ (L : Lexicon) (t : Text) (v : View) where
  -- The base, the base with its vowel (`plus`) or the romanization itself, test by test in the file's order.
  -- CONTAINS_VOWEL_RE: [aeiou]
  unfoldable pub vowel_in : Text → Text → Text → ℕ → ℕ → M Text
  vowel_in rom base plus s e =
      pick (bare L.classes t base e) (ret base)
      (pick (class L.classes (prev t s)).virama (ret plus)
      (do
        b ← word_start L.classes t v s
        ret (pick (b && not (any vowels rom)) plus
            (pick (word_end L.rules L.classes t e)
            (pick (keeps_end L.code (script L.classes (at t s))) rom plus)
            (pick (not (eqb (script L.classes (prev t s)) (script L.classes (at t s)))) plus
            (pick (class L.classes (prev t e)).vocalic base
            (pick (eqb (script L.classes (at t e)) (script L.classes (at t s))) plus
            rom)))))))

  -- a base that is not consonants only, or a tail, takes no vowel
  unfoldable pub vowel_by : Bool → Text × Text × Text → ℕ → ℕ → M Text
  vowel_by tail-edge u s e =
      pick (not (consonant_only u.1)) (ret u.0)
      (pick tail-edge (ret u.0)
      (vowel_in u.0 u.1 u.2 s e))

  -- by the vowel row of the script of the span's first character
  unfoldable pub vowel_step : List Vowel → Bool → Text → ℕ → ℕ → M Text
  vowel_step vs tail-edge rom s e =
      maybe (vowel_row vs (script L.classes (at t s))) (ret rom)
      (λ y. vowel_by tail-edge (bases y.ao y.letters rom (eqb (s + 1) e)) s e)
