-- What makes a target plain: one law for each test, and the steps without what they ask for.
use Rattle.std.specs.Prelude.{Bool, false, List, [], ◌∷◌, ◌≡◌, ℕ, ◌-◌, ◌<◌, eqb, length, get_or}
use Rattle.std.proofs.Math.Option.{none}
use Rattle.std.proofs.Math.Path.{refl, ap}
use Rattle.std.proofs.Common.{sym, ◌∙◌, arith}
use borrow.Author.Tests.{ne_eqb}
use Rattle.base.specs.Pick.{pick, pick_all}
use Rattle.base.specs.Lists.{head, is, maybe, same}
use Rattle.definition.specs.Texts.{Text, among, at, prev, the_space, coptic_grave, long_mark}
use Rattle.definition.specs.Tables.{Choices, Vowel, Lexicon, script_thai}
use Rattle.definition.specs.Notes.{note_none}
use Rattle.definition.specs.Classes.{class, script}
use Rattle.definition.specs.Edges.{View, M, ret, ◌>>=◌}
use Rattle.definition.specs.Vowels.{vowel_row, vowel_step}
use Rattle.definition.specs.Expansion.{Work, work, capitalizes, capitalize, small_tsu, double, small_ya, small_target, lengthens, trim_front, trim_back, trim, finish, grave, small_y, rest, by_script, expand}
use Rattle.rom.proofs.Walks.{no_last, last-there}
use Rattle.words.specs.Given.{World, kinds}
use Rattle.plain.specs.Plain.{Unasked, Unspaced, Alone, Untouched, Voiceless}

-- a character that is none of a set's
module _ (c : ℕ) where
  pub no_tsu : (c ≡ 0x3063 → ⊥) → (c ≡ 0x30C3 → ⊥) → (c ≡ 0x0A71 → ⊥) → small_tsu c ≡ false
  unfolding small_tsu among
  no_tsu e f g = rw (ne_eqb 0x3063 c (λ k. e (sym k)), ne_eqb 0x30C3 c (λ k. f (sym k)), ne_eqb 0x0A71 c (λ k. g (sym k)))

  no_ya : (c ≡ 0x3083 → ⊥) → (c ≡ 0x3085 → ⊥) → (c ≡ 0x3087 → ⊥) → (c ≡ 0x30E3 → ⊥) → (c ≡ 0x30E5 → ⊥) → (c ≡ 0x30E7 → ⊥) → small_ya c ≡ false
  unfolding small_ya among
  no_ya a b d e f g =
      rw (
        ne_eqb 0x3083 c (λ k. a (sym k)),
        ne_eqb 0x3085 c (λ k. b (sym k)),
        ne_eqb 0x3087 c (λ k. d (sym k)),
        ne_eqb 0x30E3 c (λ k. e (sym k)),
        ne_eqb 0x30E5 c (λ k. f (sym k)),
        ne_eqb 0x30E7 c (λ k. g (sym k)),
      )

  pub none_asked : (c ≡ coptic_grave → ⊥) → (c ≡ 0x3083 → ⊥) → (c ≡ 0x3085 → ⊥) → (c ≡ 0x3087 → ⊥) → (c ≡ 0x30E3 → ⊥) → (c ≡ 0x30E5 → ⊥)
      → (c ≡ 0x30E7 → ⊥) → (c ≡ long_mark → ⊥) → Unasked c
  none_asked z a b d e f g l = record { grave = ne_eqb c coptic_grave z; small = no_ya a b d e f g; long = ne_eqb c long_mark l }

-- a text without a space at either end, by its bytes
no_front : (w : Text) → (get_or w 0 0 ≡ the_space → ⊥) → is (eqb the_space) (head w) ≡ false
unfolding head
no_front [] h = refl
no_front (x ∷ w) h = ne_eqb the_space x (λ e. h (sym e))

no_head : (w : Text) → length w ≡ 0 → is (eqb the_space) (head w) ≡ false
unfolding head
no_head [] e = refl
no_head (x ∷ w) e = absurd (omega arith)

pub nothing_spaced : (w : Text) → length w ≡ 0 → Unspaced w
nothing_spaced w e = record { front = no_head w e; back = sym (no_last (eqb the_space) w e) }

pub no_spaces : (w : Text) → 0 < length w → (get_or w 0 0 ≡ the_space → ⊥) → (get_or w (length w - 1) 0 ≡ the_space → ⊥) → Unspaced w
no_spaces w h f l = record {
  front = no_front w f;
  back = sym (last-there (eqb the_space) w h) ∙ ne_eqb the_space (get_or w (length w - 1) 0) (λ e. l (sym e));
}

-- the vowel step without a vowel
module _ (L : Lexicon) (t : Text) (v : View) where
  pub no_vowel : (vs : List Vowel) (tail : Bool) (w : Text) (s e : ℕ) → vowel_row vs (script L.classes (at t s)) ≡ none
      → vowel_step L t v vs tail w s e ≡ ret w
  unfolding vowel_step maybe
  no_vowel vs tail w s e h = rw h

  -- and the expansion, step by step
  no_grave : (o : ℕ) (w : Work) → eqb (at t w.to) coptic_grave ≡ false → grave L t v o w ≡ ret w
  unfolding grave pick
  no_grave o w h = rw h

  no_small : (o : ℕ) (w : Work) → small_ya (at t w.to) ≡ false → small_y L t v o w ≡ ret w
  unfolding small_y small_target maybe pick
  no_small o w h = rw h

  no_end : (w : Work) → eqb (at t w.to) long_mark ≡ false → (class L.classes (at t w.to)).virama ≡ false → finish L.classes t w ≡ trim t w
  unfolding finish lengthens pick
  no_end w h k = rw (h, k)

  no_space : (w : Work) → Unspaced w.rom → trim t w ≡ w
  unfolding trim trim_front trim_back pick
  no_space w u = rw (u.front, u.back)

  rest-none : (o : ℕ) (w : Work) → Unasked (at t w.to) → (class L.classes (at t w.to)).virama ≡ false → Unspaced w.rom → rest L t v o w ≡ ret w
  unfolding rest ret ◌>>=◌
  rest-none o w a k u =
      ap (λ (f : M Work). f >>= (λ (y : Work). small_y L t v o y >>= (λ (z : Work). ret (finish L.classes t z)))) (no_grave o w a.grave)
      ∙ ap (λ (f : M Work). f >>= (λ (z : Work). ret (finish L.classes t z))) (no_small o w a.small)
      ∙ ap ret (no_end w a.long k ∙ no_space w u)

  module _ (c : Choices) (w : Text) (s e : ℕ) where
    abbrev W : Work
    W = work w s e note_none

    no_capital : (c.capitals ≡ 1 → ⊥) → capitalize c L.classes t W ≡ W
    unfolding capitalize capitalizes pick
    no_capital h = rw (ne_eqb c.capitals 1 h)

    no_double : small_tsu (prev t s) ≡ false → double L.classes t s W ≡ W
    unfolding double pick
    no_double h = rw h

    no_thai : (script L.classes (at t s) ≡ script_thai → ⊥) → by_script L t v c s W ≡ rest L t v s W
    unfolding by_script pick
    no_thai h = rw (ne_eqb (script L.classes (at t s)) script_thai h)

    pub no_change : (c.capitals ≡ 1 → ⊥) → (script L.classes (at t s) ≡ script_thai → ⊥) → Alone L.classes t s e → Unspaced w
        → expand L t v c w s e ≡ ret W
    unfolding expand
    no_change h k a u =
        pick_all (λ (f : M Work). f ≡ ret W) (same w []) refl
        (ap (λ (y : Work). by_script L t v c s (double L.classes t s y)) (no_capital h)
        ∙ ap (by_script L t v c s) (no_double a.single) ∙ no_thai k ∙ rest-none s W a.unasked a.voiced u)

-- in a world
module _ (x : World) (s e : ℕ) where
  pub untouched : (c : Choices) (w : Text) → (c.capitals ≡ 1 → ⊥) → (script (kinds x) (at x.text s) ≡ script_thai → ⊥) → Alone (kinds x) x.text s e
      → Unspaced w → Untouched x c w s e
  untouched c w h k a u = λ L q v. no_change L x.text v c w s e h (rw q k) (rw q a) u

  pub voiceless : (vs : List Vowel) → vowel_row vs (script (kinds x) (at x.text s)) ≡ none → Voiceless x vs s e
  voiceless vs n = λ L q v tail w. no_vowel L x.text v vs tail w s e (rw q n)
