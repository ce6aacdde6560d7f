-- How a text begins, by bytes.
use Rattle.std.specs.Prelude.{false, [], ◌∷◌, ◌≡◌, refl, length, get_or}
use Rattle.std.proofs.Math.Option.{Option, none, some}
use Rattle.std.proofs.Common.{arith}
use Rattle.base.specs.Pick.{pick}
use Rattle.base.specs.Lists.{head, is}
use Rattle.definition.specs.Texts.{Text, among, vowels, capital, lower}
use Rattle.definition.specs.Syllables.{opens}
use Rattle.rule_choice.specs.Chosen.{or_nothing}

-- no text begins with none
pub none-opens : (w : Text) → length w ≡ 0 → false ≡ is (λ c. vowels (lower c)) (head w)
unfolding head
none-opens [] e = refl
none-opens (c ∷ w) e = absurd (omega arith)

-- a byte past the end is 0, which begins no text
pub first-opens : (w : Text) → vowels (lower (get_or w 0 0)) ≡ is (λ c. vowels (lower c)) (head w)
unfolding head vowels capital lower among pick
first-opens [] = refl
first-opens (c ∷ w) = refl

-- of what may be absent
pub opens_text : (o : Option Text) → is (λ c. vowels (lower c)) (head (or_nothing o)) ≡ opens o
unfolding opens head
opens_text none = refl
opens_text (some w) = refl
