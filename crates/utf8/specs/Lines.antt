-- A text between spaces, as the definition reads it: one before it and two after it.
use Rattle.std.specs.Prelude.{◌≡◌, refl, List, [], ◌∷◌, ◌++◌, ℕ, suc, ◌+◌, ◌≤◌, length, take, drop, set}
use Rattle.std.proofs.Common.{sym, ap, ◌∙◌, arith, take-append-drop, length-append, length-drop, length-take-le}
use Rattle.std.proofs.lemmas.List.{take-append-le}
use borrow.Rule.Slice.PartMut.{put_mid, mid_of, same_len_mid}
use Rattle.definition.specs.Texts.{Text, the_space}
use Rattle.utf8.specs.Puts.{puts, puts-length, puts-front}

abbrev pub line_spaces : ℕ
line_spaces = 3

unfoldable pub spaced : Text → List ℕ
spaced t = the_space ∷ (t ++ the_space ∷ the_space ∷ [])

-- two spaces put behind a text
closed : (t r : List ℕ) → 2 ≤ length r
    → take (suc (suc (length t))) (set (set (t ++ r) (length t) the_space) (suc (length t)) the_space) ≡ t ++ the_space ∷ the_space ∷ []
closed [] [] h = absurd (omega arith)
closed [] (a ∷ []) h = absurd (omega arith)
closed [] (a ∷ b ∷ r) h = refl
closed (c ∷ t) r h = ap (◌∷◌ c) (closed t r h)

-- and one before it
spaced-by : (t l : List ℕ) (n : ℕ) → n ≡ length t → n + 3 ≤ length l → take n (drop 1 l) ≡ t
    → take (n + 3) (set (set (set l 0 the_space) (n + 1) the_space) (n + 2) the_space) ≡ spaced t
unfolding spaced
spaced-by t [] n e h q = absurd (omega arith)
spaced-by t (x ∷ l) n e h q =
    ap (λ (k : ℕ). take k (set (set (the_space ∷ l) (n + 1) the_space) (n + 2) the_space)) {x = n + 3} {y = suc (suc (suc (length t)))} (omega arith)
    ∙ ap (λ (k : ℕ). take (suc (suc (suc (length t)))) (set (set (the_space ∷ l) k the_space) (n + 2) the_space)) {x = n + 1} {y = suc (length t)} (omega arith)
    ∙ ap (λ (k : ℕ). take (suc (suc (suc (length t)))) (set (the_space ∷ set l (length t) the_space) k the_space)) {x = n + 2} {y = suc (suc (length t))} (omega arith)
    ∙ ap (λ (m : List ℕ). the_space ∷ take (suc (suc (length t))) (set (set m (length t) the_space) (suc (length t)) the_space)) whole
    ∙ ap (◌∷◌ the_space) (closed t (drop n l) (omega (arith, ap length whole, length-append t (drop n l))))
  where
    whole : l ≡ t ++ drop n l
    whole = sym (take-append-drop n l) ∙ ap (λ (w : List ℕ). w ++ drop n l) q

-- a line whose middle was lent and has come back with the text's characters
pub spaced-is : (t l back : List ℕ) (n m : ℕ) → n ≡ length t → n ≤ m → m + 3 ≤ length l → back ≡ puts 0 t (mid_of 1 m l)
    → take (n + 3) (set (set (set (put_mid 1 m l back) 0 the_space) (n + 1) the_space) (n + 2) the_space) ≡ spaced t
spaced-is t [] back n m e f h p = absurd (omega arith)
spaced-is t (x ∷ l) back n m e f h p = spaced-by t (put_mid 1 m (x ∷ l) back) n e long front
  where
    lent : length (take m l) ≡ m
    lent = length-take-le m l (omega arith)

    came : length back ≡ m
    came = ap length p ∙ puts-length 0 t (take m l) ∙ lent

    long : n + 3 ≤ length (put_mid 1 m (x ∷ l) back)
    long = omega (arith, came, length-append back (drop m l), length-drop m l)

    front : take n (back ++ drop m l) ≡ t
    front =
        take-append-le n back (drop m l) (omega (arith, came))
        ∙ ap (take n) p ∙ ap (λ (k : ℕ). take k (puts 0 t (take m l))) e ∙ puts-front t (take m l) (omega (arith, lent))

-- which is as long as before
pub lent_length : (t l back : List ℕ) (m : ℕ) → back ≡ puts 0 t (mid_of 1 m l) → length (put_mid 1 m l back) ≡ length l
lent_length t l back m p = same_len_mid 1 m l back (ap length p ∙ puts-length 0 t (mid_of 1 m l))
