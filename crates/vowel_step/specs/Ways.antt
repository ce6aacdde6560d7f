-- The vowel step: what is asked of packed classes, the form that the answers choose, and one law for each way out.
use Rattle.std.specs.Prelude.{Bool, true, false, not, ◌&&◌, ◌||◌, List, [], ◌∷◌, ◌≡◌, refl, ℕ, ◌+◌, ◌/◌, ◌%◌, eqb}
use Rattle.std.proofs.Math.Option.{none, some}
use Rattle.std.proofs.Common.{sym, ◌∙◌}
use Rattle.std.proofs.Math.Path.{ap}
use borrow.Author.Tests.{eq-eqb, ne_eqb}
use Rattle.base.specs.Pick.{pick}
use Rattle.base.specs.Bits.{flagged}
use Rattle.base.specs.Lists.{any, same, maybe}
use Rattle.definition.specs.Texts.{Text, chars, at, prev, vowels}
use Rattle.definition.specs.Tables.{Class, Vowel, Lexicon, script_devanagari}
use Rattle.definition.specs.Classes.{class, script}
use Rattle.definition.specs.Edges.{View, Mem, M, ret, ◌>>=◌}
use Rattle.definition.specs.Boundaries.{word_start, word_end}
use Rattle.definition.specs.Vowels.{vowel_row, bases, consonant_only, keeps_end, bare, vowel_in, vowel_by, vowel_step}
use Rattle.ends.specs.Shown.{form_means}
use Rattle.ends.specs.declared.Which.{Which}
use Rattle.words.specs.Did.{Did, did, outcome}

-- the languages that keep the romanization at a word's end in every script
unfoldable pub keeping : Text → Bool
keeping code = any (same code) (chars "asm" ∷ chars "ben" ∷ chars "guj" ∷ chars "kas" ∷ chars "pan" ∷ [])

-- what two packed classes say of a base before their characters
unfoldable pub silent : ℕ → ℕ → Bool
silent k j =
    flagged (k / 1024) 0
    || (flagged (k / 1024) 1
    || (flagged (k / 1024) 2
    || ((eqb (k % 8) 2 && flagged (j / 1024) 0)
    || (flagged (k / 1024) 3
    || (eqb (k % 8) 2 && flagged (j / 1024) 3)))))

-- The form inside a word, and the form once the start of word has not decided it: the last tests of `vowel_in`
unfoldable pub inside : List Class → Text → ℕ → ℕ → Which
inside ks t s e =
    pick (not (eqb (script ks (prev t s)) (script ks (at t s)))) Which.Plus
    (pick (class ks (prev t e)).vocalic Which.Base
    (pick (eqb (script ks (at t e)) (script ks (at t s))) Which.Plus
    Which.Rom))

unfoldable pub settled : Lexicon → Text → ℕ → ℕ → Which
settled L t s e =
    pick (word_end L.rules L.classes t e)
    (pick (keeps_end L.code (script L.classes (at t s))) Which.Rom Which.Plus)
    (inside L.classes t s e)

-- the end of a word is kept
module _ (code : Text) (k : ℕ) where
  pub of_sanskrit : k ≡ script_devanagari → same code (chars "san") ≡ true → keeping code ≡ keeps_end code k
  unfolding keeps_end keeping
  of_sanskrit e d = simp (eq-eqb k script_devanagari e, d)

  pub of_devanagari : k ≡ script_devanagari → same code (chars "san") ≡ false → true ≡ keeps_end code k
  unfolding keeps_end
  of_devanagari e d = simp (eq-eqb k script_devanagari e, d)

  pub of_another : (k ≡ script_devanagari → ⊥) → keeping code ≡ keeps_end code k
  unfolding keeps_end keeping
  of_another e = simp (ne_eqb k script_devanagari e)

-- the ways inside a word
module _ (ks : List Class) (t : Text) (s e : ℕ) where
  pub other-before : (script ks (prev t s) ≡ script ks (at t s) → ⊥) → Which.Plus ≡ inside ks t s e
  unfolding inside pick
  other-before d = simp (ne_eqb (script ks (prev t s)) (script ks (at t s)) d)

  module _ (d : script ks (prev t s) ≡ script ks (at t s)) where
    pub vocalic-last : (class ks (prev t e)).vocalic ≡ true → Which.Base ≡ inside ks t s e
    unfolding inside pick
    vocalic-last f = simp (eq-eqb (script ks (prev t s)) (script ks (at t s)) d, f)

    module _ (f : (class ks (prev t e)).vocalic ≡ false) where
      pub same_next : script ks (at t e) ≡ script ks (at t s) → Which.Plus ≡ inside ks t s e
      unfolding inside pick
      same_next g = simp (eq-eqb (script ks (prev t s)) (script ks (at t s)) d, f, eq-eqb (script ks (at t e)) (script ks (at t s)) g)

      pub other-next : (script ks (at t e) ≡ script ks (at t s) → ⊥) → Which.Rom ≡ inside ks t s e
      unfolding inside pick
      other-next g = simp (eq-eqb (script ks (prev t s)) (script ks (at t s)) d, f, ne_eqb (script ks (at t e)) (script ks (at t s)) g)

-- at its end, and before it
module _ (L : Lexicon) (t : Text) (s e : ℕ) where
  pub in_word : word_end L.rules L.classes t e ≡ false → inside L.classes t s e ≡ settled L t s e
  unfolding settled pick
  in_word d = simp d

  module _ (d : word_end L.rules L.classes t e ≡ true) where
    pub end_kept : keeps_end L.code (script L.classes (at t s)) ≡ true → Which.Rom ≡ settled L t s e
    unfolding settled pick
    end_kept f = simp (d, f)

    pub end-voiced : keeps_end L.code (script L.classes (at t s)) ≡ false → Which.Plus ≡ settled L t s e
    unfolding settled pick
    end-voiced f = simp (d, f)

-- a form chosen by a test
chosen-pick : (u : Text × Text × Text) (c : Bool) (x y : Which) → form_means (pick c x y) u ≡ pick c (form_means x u) (form_means y u)
unfolding pick
chosen-pick u true x y = refl
chosen-pick u false x y = refl

settled_as : (L : Lexicon) (t : Text) (s e : ℕ) (u : Text × Text × Text) → form_means (settled L t s e) u
    ≡ pick (word_end L.rules L.classes t e) (pick (keeps_end L.code (script L.classes (at t s))) u.0 u.2)
    (pick (not (eqb (script L.classes (prev t s)) (script L.classes (at t s)))) u.2
    (pick (class L.classes (prev t e)).vocalic u.1
    (pick (eqb (script L.classes (at t e)) (script L.classes (at t s))) u.2 u.0)))
unfolding settled inside form_means
settled_as L t s e u = simp chosen-pick

-- two tests that lead to `x`, as one that leads away from it
both : (c d : Bool) (x y : M Text) → pick (not c) x (pick d x y) ≡ pick (c && not d) y x
unfolding pick
both false d x y = refl
both true true x y = refl
both true false x y = refl

module _ (L : Lexicon) (t : Text) (v : View) where
  -- the ways of the step with a vowel
  module _ (tail : Bool) (u : Text × Text × Text) (s e : ℕ) (m : Mem) where
    abbrev step : Text × Mem
    step = vowel_by L t v tail u s e m

    one-test : step ≡ pick (consonant_only u.1 && not tail) (vowel_in L t v u.0 u.1 u.2 s e) (ret u.0) m
    unfolding vowel_by
    one-test = ap (λ (f : M Text). f m) (both (consonant_only u.1) tail (ret u.0) (vowel_in L t v u.0 u.1 u.2 s e))

    -- a base that takes no vowel, and one that may
    pub takes_none : (consonant_only u.1 && not tail) ≡ false → Did step (form_means Which.Rom u) m
    unfolding ret pick form_means
    takes_none a = did (one-test ∙ rw a)

    module _ (a : (consonant_only u.1 && not tail) ≡ true) where
      pub stays_bare : bare L.classes t u.1 e ≡ true → Did step (form_means Which.Base u) m
      unfolding vowel_in ret pick form_means
      stays_bare c = did (one-test ∙ rw (a, c))

      module _ (c : bare L.classes t u.1 e ≡ false) where
        pub after-virama : (class L.classes (prev t s)).virama ≡ true → Did step (form_means Which.Plus u) m
        unfolding vowel_in ret pick form_means
        after-virama d = did (one-test ∙ rw (a, c, d))

        module _ (d : (class L.classes (prev t s)).virama ≡ false) {o : Bool} {m₁ : Mem} (w : Did (word_start L.classes t v s m) o m₁) where
          pub word_starts : (o && not (any vowels u.0)) ≡ true → Did step (form_means Which.Plus u) m₁
          unfolding vowel_in ret ◌>>=◌ pick form_means
          word_starts f = did (one-test ∙ rw (a, c, d, outcome w, f))

          pub by-settled : (o && not (any vowels u.0)) ≡ false → Did step (form_means (settled L t s e) u) m₁
          unfolding vowel_in ret ◌>>=◌ pick
          by-settled f = did (one-test ∙ rw (a, c, d, outcome w, f) (ap (λ (x : Text). (x, m₁)) (sym (settled_as L t s e u))))

  -- of forms that are equal
  pub by-forms : (tail : Bool) (s e : ℕ) (m : Mem) {m₁ : Mem} (u w : Text × Text × Text) {r : Text} → u ≡ w
      → Did (vowel_by L t v tail u s e m) r m₁ → Did (vowel_by L t v tail w s e m) r m₁
  by-forms tail s e m u w h d = rw (sym h) d

  -- by the row
  module _ (vs : List Vowel) (tail : Bool) (rom : Text) (s e : ℕ) (m : Mem) where
    pub no_row : vowel_row vs (script L.classes (at t s)) ≡ none → Did (vowel_step L t v vs tail rom s e m) rom m
    unfolding vowel_step ret maybe
    no_row a = did (rw a)

    pub by_row : (y : Vowel) → vowel_row vs (script L.classes (at t s)) ≡ some y → {r : Text} {m₁ : Mem}
        → Did (vowel_by L t v tail (bases y.ao y.letters rom (eqb (s + 1) e)) s e m) r m₁ → Did (vowel_step L t v vs tail rom s e m) r m₁
    unfolding vowel_step maybe
    by_row y a d = did (rw a (outcome d))
