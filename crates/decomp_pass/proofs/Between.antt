-- Starts up to the next character that stands for others: none of them adds more than its spans, and the last one adds the edge
-- of its character.
use Prim.Native.Nat.{ℕ, zero, suc, ◌+◌, ◌-◌, ◌≤◌, ◌<◌}
use mathlib.Core.List.{List}
use mathlib.Core.Option.{none}
use mathlib.Core.Path.{◌≡◌, refl, sym, ap, ◌∙◌}
use native.Mathlib.Omega.{arith}
use Rattle.base.specs.Lists.{maybe}
use Rattle.definition.specs.Texts.{Text, at as char}
use Rattle.definition.specs.Tables.{Decomposition, Tables}
use Rattle.definition.specs.Edges.{State, add}
use Rattle.definition.specs.Building.{each, build}
use Rattle.definition.specs.Decomposing.{stands_for, decomp_edge, start}
use Rattle.table_decompositions.specs.Next.{next_form, next_least, next-most, next-none}
use Rattle.words.specs.Given.{World, size, Lined, char_at}
use Rattle.decomp.specs.Steps.{put_decomp}

-- some steps, then the others
each_split : (f : ℕ → State → State) (j k p : ℕ) (st : State) → each f (j + k) p st ≡ each f k (p + j) (each f j p st)
unfolding each
each_split f zero k p st =
    let a : 0 + k ≡ k = omega arith in
    let b : p + 0 ≡ p = omega arith in
    rw (a, b)
each_split f (suc j) k p st =
    let a : suc j + k ≡ suc (j + k) = omega arith in
    let b : p + suc j ≡ p + 1 + j = omega arith in
    rw (a, b) (each_split f j k (p + 1) (f p st))

module _ (D : Tables) (ds : List Decomposition) (t : Text) where
  -- no character from `p` to before `e` stands for others
  abbrev pub Off : ℕ → ℕ → Type 0
  Off p e = (q : ℕ) → p ≤ q → q < e → stands_for ds (char t q) ≡ none

  start_off : (p : ℕ) (st : State) → stands_for ds (char t p) ≡ none → start D ds t p st ≡ build D t p st
  unfolding start decomp_edge maybe add
  start_off p st e = rw e

  starts_off : (k p : ℕ) (st : State) → Off p (p + k) → each (start D ds t) k p st ≡ each (build D t) k p st
  unfolding each
  starts_off zero p st off = refl
  starts_off (suc k) p st off =
      ap (each (start D ds t) k (p + 1)) (start_off p st (off p (omega arith) (omega arith)))
      ∙ starts_off k (p + 1) (build D t p st) (λ q l h. off q (omega arith) (omega arith))

  starts-form : (k p : ℕ) (st : State) → Off p (p + k) → each (start D ds t) (suc k) p st ≡ put_decomp (p + k) D ds t (each (build D t) (suc k) p st)
  unfolding each start
  starts-form zero p st off = let e : p + 0 ≡ p = omega arith in rw e
  starts-form (suc k) p st off =
      ap (each (start D ds t) (suc k) (p + 1)) (start_off p st (off p (omega arith) (omega arith)))
      ∙ starts-form k (p + 1) (build D t p st) (λ q l h. off q (omega arith) (omega arith))
      ∙ (let e : p + 1 + k ≡ p + suc k = omega arith in ap (λ (i : ℕ). put_decomp i D ds t (each (build D t) (suc k) (p + 1) (build D t p st))) e)

  module _ (n s : ℕ) (st : State) where
    -- a stretch with the edge of its last character, then the others
    pub turn_form : (at : ℕ) → Off s at → s ≤ at → at < n
        → each (start D ds t) (n - s) s st ≡ each (start D ds t) (n - (at + 1)) (at + 1) (put_decomp at D ds t (each (build D t) (at + 1 - s) s st))
    turn_form at off l h =
        let j = at - s in
        let a : n - s ≡ suc j + (n - (at + 1)) = omega arith in
        let b : s + suc j ≡ at + 1 = omega arith in
        let c : s + j ≡ at = omega arith in
        let d : suc j ≡ at + 1 - s = omega arith in
        ap (λ (k : ℕ). each (start D ds t) k s st) a ∙ each_split (start D ds t) (suc j) (n - (at + 1)) s st
        ∙ ap (λ (p : ℕ). each (start D ds t) (n - (at + 1)) p (each (start D ds t) (suc j) s st)) b
        ∙ ap (each (start D ds t) (n - (at + 1)) (at + 1))
        (starts-form j s st (λ q l h. off q l (omega arith)) ∙ ap (λ (p : ℕ). put_decomp p D ds t (each (build D t) (suc j) s st)) c
        ∙ ap (λ (k : ℕ). put_decomp at D ds t (each (build D t) k s st)) d)

    -- the rest, where there is no other
    pub turn_rest : Off s n → s ≤ n → each (start D ds t) (n - s) s st ≡ each (build D t) (n - s) s st
    turn_rest off l = starts_off (n - s) s st (λ q l h. off q l (omega arith))

-- up to the next that is found in the line
module _ {w : World} {line : List ℕ} (g : Lined w line) (D : Tables) (ds : List Decomposition) (n s : ℕ) (e : n ≡ size w) (l : s ≤ n) where
  pub next_off : (at : ℕ) → at ≡ next_form ds line (n - s) s → Off D ds w.text s at
  next_off at f q h k =
      let m = next-most ds line (n - s) s in
      ap (stands_for ds) (sym (char_at g q (omega (arith, m, f, e, k, l)))) ∙ next-none ds line (n - s) s q h (omega (arith, f, k))

-- it lies behind the stretch's start, in the text
pub next-inside : (ds : List Decomposition) (line : List ℕ) (n s at : ℕ) → s ≤ n → at ≡ next_form ds line (n - s) s → (s ≤ at) × (at ≤ n)
next-inside ds line n s at l f =
    let a = next_least ds line (n - s) s in
    let b = next-most ds line (n - s) s in
    (omega (arith, a, f), omega (arith, b, f, l))
