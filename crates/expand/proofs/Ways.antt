-- The ways out of the expansion's tests.
use mathlib.Core.Bool.{Bool, true, false, ◌&&◌, true≢false}
use mathlib.Core.List.{List, [], ◌∷◌, reverse}
use mathlib.Core.Option.{Option, none, some}
use mathlib.Core.Path.{◌≡◌, refl, sym, ap, ◌∙◌}
use Prim.Native.Nat.{ℕ, ◌≤◌}
use native.Mathlib.Omega.{arith}
use lib.Dec.{eqb}
use lib.ListN.{length}
use Rattle.base.specs.Pick.{pick}
use Rattle.base.specs.Bools.{and_left}
use Rattle.base.specs.Lists.{has, is, head, tail, same}
use Rattle.definition.specs.Texts.{Text, at, consonants, letter_i, coptic_grave}
use Rattle.definition.specs.Tables.{Rule, Class}
use Rattle.definition.specs.Rules.{first_rule}
use Rattle.definition.specs.Within.{inner}
use Rattle.definition.specs.ExpandBounds.{space_not_small}
use Rattle.definition.specs.Expansion.{Work, small_ya, small_target}
use Rattle.rule_choice.specs.Chosen.{or_nothing}
use Rattle.expand.specs.Tests.{has_grave}
use Rattle.std.specs.declared.ops.ControlFlow.{ControlFlow}
use Rattle.std.specs.declared.ops.ControlFlow.TheVariants.{Break, Continue}
use Rattle.definition.specs.Tables.{Lexicon}
use Rattle.definition.specs.Edges.{View, M}
use Rattle.words.specs.Given.{World, seen, Lent}
use Rattle.rule_choice.specs.Lent.{lexicon_of}
use Rattle.steps.specs.declared.Growing.{Growing}
use Rattle.expand.specs.Steps.{Opens}
use Rattle.expand.specs.Sides.{after_consonant, small_here}

-- what is there, and what is not
pub told : (o : Option Text) → has o ≡ true → o ≡ some (or_nothing o)
told none e = absurd (true≢false (sym e))
told (some y) e = refl

pub absent : {A : Type 0} (o : Option A) → has o ≡ false → o ≡ none
absent none e = refl
absent (some y) e = absurd (true≢false e)

pub no_text : (w : Text) → length w ≡ 0 → same w [] ≡ true
unfolding same
no_text [] h = refl
no_text (c ∷ w) h = absurd (omega arith)

none_so : (b : Bool) → (b ≡ true → ⊥) → false ≡ b
none_so true f = absurd (f refl)
none_so false f = refl

-- a grave and a small ya stand within the text
pub no_grave-past : (ks : List Class) (t : Text) (p : ℕ) → length t ≤ p → false ≡ has_grave ks t p
unfolding has_grave
no_grave-past ks t p h = none_so (has_grave ks t p) (λ e. omega (arith, inner t p (λ c. eqb c coptic_grave) refl (and_left _ _ e)))

pub no_small-past : (ks : List Class) (t : Text) (p : ℕ) → length t ≤ p → false ≡ small_here ks t p
unfolding small_here
no_small-past ks t p h = none_so (small_here ks t p) (λ e. omega (arith, inner t p small_ya space_not_small (and_left _ _ e)))

both : (x c d : Bool) → (x && c && d) ≡ (x && (c && d))
both true c d = refl
both false c d = refl

module _ (rs : List Rule) (ks : List Class) (t : Text) (w : Work) where
  -- A small ya
  by_tests : {b c : Bool} → small_here ks t w.to ≡ b → after_consonant w.rom ≡ c
      → pick (b && c) (first_rule rs (at t w.to ∷ [])) none ≡ small_target rs ks t w
  unfolding small_target small_here
  by_tests {b} {c} e f =
      ap (λ (x : Bool). pick x (first_rule rs (at t w.to ∷ [])) none)
      (ap (λ (x : Bool). b && x) (sym f) ∙ ap (λ (x : Bool). x && after_consonant w.rom) (sym e)
      ∙ sym (both (small_here ks t w.to) (is (eqb letter_i) (head (reverse w.rom))) (is consonants (head (tail (reverse w.rom))))))

  pub not_next : small_here ks t w.to ≡ false → none ≡ small_target rs ks t w
  unfolding pick
  not_next e = by_tests e refl

  module _ (e : small_here ks t w.to ≡ true) where
    pub no_i : after_consonant w.rom ≡ false → none ≡ small_target rs ks t w
    unfolding pick
    no_i f = by_tests e f

    pub small-ruled-by : after_consonant w.rom ≡ true → first_rule rs (at t w.to ∷ []) ≡ small_target rs ks t w
    unfolding pick
    small-ruled-by f = by_tests e f

-- What opens one step opens another that does the same
pub opens_as : (rules ready line places : List ℕ) (o : ℕ) (f g : Lexicon → Text → View → M Work) (b : List ℕ) (r : ControlFlow Growing Growing)
    → ((x : World) (code : List ℕ) → Lent x line places
    → f (lexicon_of rules x code) x.text (seen x) ≡ g (lexicon_of rules x code) x.text (seen x))
    → Opens rules ready line places o f b r → Opens rules ready line places o g b r
opens_as rules ready line places o f g b (Break z) e h = (λ x code l. h.0 x code l ∙ e x code l, h.1)
opens_as rules ready line places o f g b (Continue z) e h = (λ x code l. h.0 x code l ∙ e x code l, h.1)
