-- What is one of some quoted characters has what each of them has.
use Rattle.std.specs.Prelude.{Bool, true, false, ◌≡◌, refl, [], ◌∷◌, ◌++◌, ℕ, eqb}
use Rattle.std.proofs.Common.{true≢false, sym, ap, ◌∙◌, subst, eqb-true}
use Prim.Native.String.{String}
use Prim.Native.Char.{code}
use Rattle.base.specs.Bools.{and_left, and_right, or_cases}
use Rattle.base.specs.Lists.{all, front}
use Rattle.base.specs.Alls.{All}
use Rattle.definition.specs.Blocks.{small}
use Rattle.definition.specs.Texts.{Text, chars, among, vowels, consonants, the_space}

pub among_all : (s : String) (P : ℕ → Type 0) → All P (chars s) → (c : ℕ) → among s c ≡ true → P c
unfolding among
among_all String.[] P h c e = absurd (true≢false (sym e))
among_all (String.◌∷◌ d s) P h c e = or_cases (eqb (code d) c) (among s c)
    (λ q. subst P (eqb-true (code d) c q) h.0) (among_all s P h.1 c) e

-- a vowel is no consonant, and a small letter; neither of both is a space
pub vowel_no_consonant : (c : ℕ) → vowels c ≡ true → consonants c ≡ false
unfolding vowels consonants among
vowel_no_consonant = among_all "aeiou" (λ c. consonants c ≡ false) (refl, (refl, (refl, (refl, (refl, tt)))))

pub vowel-small : (c : ℕ) → vowels c ≡ true → small c ≡ true
unfolding vowels among small
vowel-small = among_all "aeiou" (λ c. small c ≡ true) (refl, (refl, (refl, (refl, (refl, tt)))))

pub vowel_no_space : (c : ℕ) → vowels c ≡ true → eqb the_space c ≡ false
unfolding vowels among
vowel_no_space = among_all "aeiou" (λ c. eqb the_space c ≡ false) (refl, (refl, (refl, (refl, (refl, tt)))))

pub consonant_no_space : (c : ℕ) → consonants c ≡ true → eqb the_space c ≡ false
unfolding consonants among
consonant_no_space c e = go (eqb the_space c) refl
  where
    go : (b : Bool) → eqb the_space c ≡ b → b ≡ false
    go false q = refl
    go true q = absurd (true≢false (sym e ∙ ap consonants (sym (eqb-true the_space c q))))

-- consonants before a vowel are the longest front of consonants
pub front-consonants : (w u : Text) → all consonants w ≡ true → all vowels u ≡ true → front consonants (w ++ u) ≡ w
unfolding front all
front-consonants [] [] p q = refl
front-consonants [] (c ∷ u) p q = stop (consonants c) (vowel_no_consonant c (and_left _ _ q))
  where
    stop : (b : Bool) → b ≡ false → ◌≡◌ {A = Text} (elim b [ true ↦ c ∷ front consonants u | false ↦ [] ]) []
    stop false e = refl
    stop true e = absurd (true≢false e)
front-consonants (c ∷ w) u p q = more (consonants c) (and_left _ _ p) (front-consonants w u (and_right (consonants c) _ p) q)
  where
    more : (b : Bool) → b ≡ true → front consonants (w ++ u) ≡ w → ◌≡◌ {A = Text} (elim b [ true ↦ c ∷ front consonants (w ++ u) | false ↦ [] ]) (c ∷ w)
    more true e r = ap (λ l. c ∷ l) r
    more false e r = absurd (true≢false (sym e))
