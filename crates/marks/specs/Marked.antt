-- Which cells a text has, and that texts are marked: each has its three cells at 1. Where there are no cells it has them
-- all the same, since what stands nowhere reads as 1.
use Rattle.std.specs.Prelude.{Bool, ◌||◌, ◌≡◌, ℕ, zero, suc, ◌+◌, ◌*◌, ◌/◌, ◌%◌, ◌<◌, ◌≤◌, eqb, length, get_or, drop, set}
use Rattle.std.proofs.Math.Bool.{true, false}
use Rattle.std.proofs.Common.{true≢false, sym, ◌∙◌, subst, arith, length-set, drop-cons, eq-eqb}
use mathlib.Core.List.{List, [], ◌∷◌, ◌++◌}
use Rattle.std.proofs.Math.Path.{refl, ap}
use Rattle.base.specs.Lists.{any, same}
use Rattle.base.specs.ListLaws.{same_true}
use Rattle.base.specs.Alls.{All, All-map, All-append}
use Rattle.definition.specs.Texts.{Text}

-- where the hash starts, what a turn multiplies by, and what it stays below
abbrev pub hash_start : ℕ
hash_start = 2166136261

abbrev pub hash_times : ℕ
hash_times = 16777619

abbrev pub hash_limit : ℕ
hash_limit = 4294967296

-- one character more, of a text from a hash on, of a whole text
abbrev pub hash_turn : ℕ → ℕ → ℕ
hash_turn h c = (h * hash_times + c) % hash_limit

unfoldable pub hash_from : ℕ → Text → ℕ
hash_from h [] = h
hash_from h (c ∷ w) = hash_from (hash_turn h c) w

abbrev pub hash : Text → ℕ
hash w = hash_from hash_start w

-- what the hash is divided by for each cell
abbrev pub by_first : ℕ
by_first = 1

abbrev pub by_second : ℕ
by_second = 7

abbrev pub by_third : ℕ
by_third = 61

-- the cell of a hash divided by a number is at 1
abbrev pub Set : List ℕ → ℕ → ℕ → Type 0
Set cells h by = get_or cells (h / by % length cells) 1 ≡ 1

pub record Held (cells : List ℕ) (w : Text) : Type 0 where
  pub first : Set cells (hash w) by_first
  pub second : Set cells (hash w) by_second
  pub third : Set cells (hash w) by_third

abbrev pub Marked : List Text → List ℕ → Type 0
Marked ws cells = All (Held cells) ws

-- the hash goes on
pub hash-over : (w : Text) (h i : ℕ) → length w ≤ i → hash_from h (drop i w) ≡ h
unfolding hash_from
hash-over [] h zero l = refl
hash-over [] h (suc i) l = refl
hash-over (c ∷ w) h zero l = absurd (omega arith)
hash-over (c ∷ w) h (suc i) l = hash-over w h i (omega arith)

pub hash_on : (w : Text) (h i : ℕ) → i < length w → hash_from (hash_turn h (get_or w i 0)) (drop (i + 1) w) ≡ hash_from h (drop i w)
unfolding hash_from
hash_on w h i l =
    let e : suc i ≡ i + 1 = omega arith in
    sym (ap (hash_from h) (drop-cons w i 0 l) ∙ ap (λ j. hash_from (hash_turn h (get_or w i 0)) (drop j w)) e)

-- A text that lacks a cell is not among those marked
module _ (cells : List ℕ) (w : Text) (by : ℕ) (f : (u : Text) → Held cells u → Set cells (hash u) by) where
  lacking : eqb (get_or cells (hash w / by % length cells) 1) 1 ≡ false → (ws : List Text) → Marked ws cells → any (same w) ws ≡ false
  unfolding any
  lacking e [] m = refl
  lacking e (u ∷ ws) m = ap (λ (b : Bool). b || any (same w) ws) (go (same w u) refl) ∙ lacking e ws m.1
    where
      go : (b : Bool) → same w u ≡ b → b ≡ false
      go false q = refl
      go true q = absurd (true≢false (sym (eq-eqb _ 1 (subst (λ v. Set cells (hash v) by) (sym (same_true w u q)) (f u m.0))) ∙ e))

  -- by the hash and the answer of the cell, as they were worked out
  pub unheld : (h : ℕ) → h ≡ hash w → (r : Bool) → r ≡ eqb (get_or cells (h / by % length cells) 1) 1
      → (ws : List Text) → Marked ws cells → r ≡ false → any (same w) ws ≡ false
  unheld h e r q ws m z = lacking (ap (λ g. eqb (get_or cells (g / by % length cells) 1) 1) (sym e) ∙ sym q ∙ z) ws m

-- where there are no cells
pub none_told : (l : List ℕ) (i : ℕ) → length l ≡ 0 → true ≡ eqb (get_or l i 1) 1
none_told [] i e = refl
none_told (x ∷ l) i e = absurd (omega arith)

pub none-set : (l : List ℕ) (i : ℕ) → length l ≡ 0 → l ≡ set l i 1
none-set [] i e = refl
none-set (x ∷ l) i e = absurd (omega arith)

-- a cell that is there reads the same with any default
pub there-told : (l : List ℕ) (i : ℕ) → i < length l → eqb (get_or l i 0) 1 ≡ eqb (get_or l i 1) 1
there-told [] i h = absurd (omega arith)
there-told (x ∷ l) zero h = refl
there-told (x ∷ l) (suc i) h = there-told l i (omega arith)

-- what a cell of lent bytes asks
pub ruleset cells = (none_told, none-set, there-told)

-- A cell that is set, and the others stay
set_here : (l : List ℕ) (i : ℕ) → get_or (set l i 1) i 1 ≡ 1
set_here [] i = refl
set_here (x ∷ l) zero = refl
set_here (x ∷ l) (suc i) = set_here l i

set_stays : (l : List ℕ) (i j : ℕ) → get_or l j 1 ≡ 1 → get_or (set l i 1) j 1 ≡ 1
set_stays [] i j e = e
set_stays (x ∷ l) zero zero e = refl
set_stays (x ∷ l) zero (suc j) e = e
set_stays (x ∷ l) (suc i) zero e = e
set_stays (x ∷ l) (suc i) (suc j) e = set_stays l i j e

module _ (cells after : List ℕ) (h by : ℕ) (q : after ≡ set cells (h / by % length cells) 1) where
  kept-size : length after ≡ length cells
  kept-size = ap length q ∙ length-set cells (h / by % length cells) 1

  pub cell_set : Set after h by
  cell_set = ap (λ n. get_or after (h / by % n) 1) kept-size ∙ ap (λ l. get_or l (h / by % length cells) 1) q
      ∙ set_here cells (h / by % length cells)

  pub cell_stays : (g to : ℕ) → Set cells g to → Set after g to
  cell_stays g to e = ap (λ n. get_or after (g / to % n) 1) kept-size ∙ ap (λ l. get_or l (g / to % length cells) 1) q
      ∙ set_stays cells (h / by % length cells) (g / to % length cells) e

  pub held_stays : (w : Text) → Held cells w → Held after w
  held_stays w m = record {
    first = cell_stays (hash w) by_first m.first;
    second = cell_stays (hash w) by_second m.second;
    third = cell_stays (hash w) by_third m.third;
  }

-- A text whose three cells were set is marked, besides those before
module _ (a b c d : List ℕ) (w : Text) (h : ℕ) (e : h ≡ hash w) (p : b ≡ set a (h / by_first % length a) 1) (q : c ≡ set b (h / by_second % length b) 1)
    (r : d ≡ set c (h / by_third % length c) 1) where
  pub marked_more : (ws : List Text) → Marked ws a → Marked (ws ++ w ∷ []) d
  marked_more ws m = All-append (Held d) ws (w ∷ []) (All-map stays ws m) (own, tt)
    where
      stays : (u : Text) → Held a u → Held d u
      stays u k = held_stays c d h by_third r u (held_stays b c h by_second q u (held_stays a b h by_first p u k))

      own : Held d w
      own = record {
        first = subst (λ g. Set d g by_first) e (cell_stays c d h by_third r h by_first (cell_stays b c h by_second q h by_first (cell_set a b h by_first p)));
        second = subst (λ g. Set d g by_second) e (cell_stays c d h by_third r h by_second (cell_set b c h by_second q));
        third = subst (λ g. Set d g by_third) e (cell_set c d h by_third r);
      }
