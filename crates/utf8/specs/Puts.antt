-- Characters put into a list one after another.
use Rattle.std.specs.Prelude.{◌≡◌, refl, List, [], ◌∷◌, ◌++◌, ℕ, suc, ◌+◌, ◌≤◌, length, take, drop, set}
use Rattle.std.proofs.Common.{sym, ap, ◌∙◌, add-one, length-set, take_all}
use Rattle.std.proofs.Math.Seq.{take-append_seam}

-- from place `n` on; those past the list's end go nowhere
unfoldable pub puts : ℕ → List ℕ → List ℕ → List ℕ
puts n [] l = l
puts n (c ∷ w) l = puts (n + 1) w (set l n c)

pub puts-length : (n : ℕ) (w l : List ℕ) → length (puts n w l) ≡ length l
unfolding puts
puts-length n [] l = refl
puts-length n (c ∷ w) l = puts-length (n + 1) w (set l n c) ∙ length-set l n c

-- past the end nothing changes
puts-out : (n : ℕ) (w : List ℕ) → puts n w [] ≡ []
unfolding puts
puts-out n [] = refl
puts-out n (c ∷ w) = puts-out (n + 1) w

-- a list's first element stands where characters are put behind it
puts-behind : (n : ℕ) (w : List ℕ) (x : ℕ) (l : List ℕ) → puts (suc n) w (x ∷ l) ≡ x ∷ puts n w l
unfolding puts
puts-behind n [] x l = refl
puts-behind n (c ∷ w) x l =
    ap (λ m. puts m w (x ∷ set l n c)) (add-one (suc n))
    ∙ puts-behind (suc n) w x (set l n c)
    ∙ ap (λ m. x ∷ puts m w (set l n c)) (sym (add-one n))

-- in closed form: as many as there is room for, and the list's own elements after them
pub puts-all : (w l : List ℕ) → puts 0 w l ≡ take (length l) w ++ drop (length w) l
unfolding puts
puts-all [] [] = refl
puts-all [] (x ∷ l) = refl
puts-all (c ∷ w) [] = puts-out 1 w
puts-all (c ∷ w) (x ∷ l) = puts-behind 0 w c l ∙ ap (λ t. c ∷ t) (puts-all w l)

-- where there is room for all, they stand in front
pub puts-front : (w l : List ℕ) → length w ≤ length l → take (length w) (puts 0 w l) ≡ w
puts-front w l h =
    ap (take (length w)) (puts-all w l ∙ ap (λ t. t ++ drop (length w) l) (take_all (length l) w h))
    ∙ take-append_seam w (drop (length w) l)
