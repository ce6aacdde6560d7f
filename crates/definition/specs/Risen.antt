-- Rows of an accepted table rise: each rule's source is at most each later one's, characters and scripts strictly.
-- (Proved in proofs/Risen.)
use Rattle.std.specs.Prelude.{Bool, true, ◌&&◌, ◌||◌, ◌≡◌, refl, List, [], ◌∷◌, ℕ, ◌≤◌, ◌<◌, eqb, ltb}
use Rattle.std.proofs.Common.{true≢false, sym, ap, ◌∙◌, arith, ltb-true, eqb-true, lt-ltb, eq-eqb}
use Rattle.std.proofs.Math.Bool.{or-true}
use Rattle.std.proofs.Math.Option.{none}
use Rattle.base.specs.Bools.{and_left, and_right, or_cases}
use Rattle.base.specs.Alls.{All, Ordered}
use Rattle.definition.specs.Texts.{Text}
use Rattle.definition.specs.RuleRows.{rises}
use Rattle.definition.specs.VowelRows.{vowel_size, vowel_next, vowel_right, vowel_of, vowel_fault, vowels_of}
use Rattle.definition.specs.BlockTurns.{chain_ordered}
use Rattle.definition.specs.Checked.{vowel-checked}
use Rattle.definition.specs.Accepted.{vowel_moves, vowels-chain}

-- The order of sources goes through
first-lower : (x y : ℕ) (b : Bool) → x < y → (ltb x y || b) ≡ true
first-lower x y b l = ap (λ (c : Bool). c || b) (lt-ltb x y l)

first_equal : (x y : ℕ) (a b : Text) → x ≡ y → rises a b ≡ true → (ltb x y || (eqb x y && rises a b)) ≡ true
first_equal x y a b e r =
    ap (λ (c : Bool). ltb x y || (c && rises a b)) (eq-eqb x y e) ∙ ap (λ (c : Bool). ltb x y || c) r ∙ or-true (ltb x y)

pub rises_trans : (a b c : Text) → rises a b ≡ true → rises b c ≡ true → rises a c ≡ true
unfolding rises
rises_trans [] b c p q = refl
rises_trans (x ∷ a) [] c p q = absurd (true≢false (sym p))
rises_trans (x ∷ a) (y ∷ b) [] p q = absurd (true≢false (sym q))
rises_trans (x ∷ a) (y ∷ b) (z ∷ c) p q =
    or_cases (ltb x y) _ (λ l. or_cases (ltb y z) _
    (λ k. let u = ltb-true x y l in let v = ltb-true y z k in first-lower x z _ (omega arith))
    (λ k. let u = ltb-true x y l in let v = eqb-true y z (and_left _ _ k) in first-lower x z _ (omega arith)) q)
    (λ l. or_cases (ltb y z) _
    (λ k. let u = eqb-true x y (and_left _ _ l) in let v = ltb-true y z k in first-lower x z _ (omega arith))
    (λ k. let u = eqb-true x y (and_left _ _ l) in let v = eqb-true y z (and_left _ _ k) in
    first_equal x z a c (omega arith) (rises_trans a b c (and_right (eqb x y) _ l) (and_right (eqb y z) _ k))) q) p

-- Vowels: scripts, from 1 on
pub vowels-after : (b : List ℕ) → vowel_fault b ≡ none
    → All (λ y. 1 ≤ y.script) (vowels_of b) × Ordered (λ x y. x.script < y.script) (vowels_of b)
unfolding vowels_of vowel_next vowel_of
vowels-after b e = chain_ordered vowel_size vowel_next vowel_right vowel_moves vowel_of
    (λ k y. k ≤ y.script) (λ x y. x.script < y.script)
    (λ k s p. (vowel-checked k s p).risen)
    (λ k s y p q. let l = (vowel-checked k s p).risen in omega arith)
    (λ s y q. omega arith) (vowels-chain b e)
