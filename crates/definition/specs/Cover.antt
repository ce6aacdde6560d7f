-- The path covers the text: its edges abut, from the text's start to its end.
-- (proofs/Cover: so it is with every accepted text.)
use Rattle.std.proofs.Math.Bool.{true≢false}
use Rattle.std.specs.Prelude.{true, eqb, ltb}
use Rattle.std.proofs.Math.Path.{◌≡◌, refl}
use Rattle.std.proofs.Common.{sym, subst, eqb-true}
use mathlib.Core.List.{List, [], ◌∷◌}
use Rattle.std.proofs.Math.Option.{Option, none, some}
use Prim.Native.Nat.{ℕ, zero, suc, ◌+◌, ◌-◌, ◌≤◌, ◌<◌}
use native.Mathlib.Omega.{arith}
use Rattle.std.proofs.Math.Decide.{dec_lt}
use Rattle.base.specs.Lists.{keep, any, best}
use Rattle.base.specs.Alls.{All, All-put, All-best, Opt}
use Rattle.definition.specs.Edges.{Edge, starting, covered, right_best}
use Rattle.definition.specs.Paths.{join, next, path_from}
use Rattle.definition.specs.Bounds.{Formed}

-- Some edges one after another, from `p` to `q`
abbrev pub Abut : ℕ → ℕ → List Edge → Type 0
Abut p q [] = p ≡ q
Abut p q (x ∷ l) = (x.from ≡ p) × (p < x.to) × Abut x.to q l

-- The longest edge from a covered position
All-from : (P : Edge → Type 0) (p : ℕ) (es : List Edge) → All P es → All (λ x. P x × (x.from ≡ p)) (starting es p)
unfolding starting keep
All-from P p [] h = tt
All-from P p (x ∷ es) h = All-put (λ x. P x × (x.from ≡ p)) (eqb x.from p) x (keep (λ x. eqb x.from p) es)
    (λ e. (h.0, eqb-true x.from p e)) (All-from P p es h.1)

pub right-all : (P : Edge → Type 0) (p : ℕ) (es : List Edge) → All P es → Opt (λ x. P x × (x.from ≡ p)) (right_best es p)
unfolding right_best
right-all P p es h = All-best (λ x. P x × (x.from ≡ p)) (λ x y. ltb y.to x.to) (starting es p) (All-from P p es h)

right_there : (p : ℕ) (es : List Edge) → covered es p ≡ true → right_best es p ≡ none → ⊥
unfolding covered right_best
right_there p es e q = go (starting es p) e q
  where
    go : (l : List Edge) → any (λ x. eqb x.to (p + 1)) l ≡ true → best (λ x y. ltb y.to x.to) l ≡ none → ⊥
    go [] e q = unfold any in true≢false (sym e)
    go (x ∷ l) e q = unfold best in (let w : ◌≡◌ {A = ℕ} 0 1 = cc in omega arith)

module _ (n : ℕ) (es : List Edge) (formed : All (Formed n) es) (cover : (p : ℕ) → p < n → covered es p ≡ true) where
  ended : (k p : ℕ) → n ≤ p → path_from k p es ≡ []
  unfolding path_from
  ended zero p l = refl
  ended (suc k) p l = go (right_best es p) (right-all (Formed n) p es formed) (ended k (p + 1) (omega arith))
    where
      go : (o : Option Edge) → Opt (λ x. Formed n x × (x.from ≡ p)) o → path_from k (p + 1) es ≡ [] → join o (path_from k (next o p) es) ≡ []
      go none s h = h
      go (some x) s h = let a = s.0.forward in let b = s.0.inside in let c = s.1 in absurd (omega arith)

  pub path_abuts : (k p : ℕ) → p ≤ n → n ≤ p + k → Abut p n (path_from k p es)
  unfolding path_from
  path_abuts zero p l m = omega arith
  path_abuts (suc k) p l m = go (dec_lt p n) (λ q a b. path_abuts k q a b)
    where
      step : (o : Option Edge) → right_best es p ≡ o → Opt (λ x. Formed n x × (x.from ≡ p)) o → p < n
          → ((q : ℕ) → q ≤ n → n ≤ q + k → Abut q n (path_from k q es)) → Abut p n (join o (path_from k (next o p) es))
      step none e s d f = absurd (right_there p es (cover p d) e)
      step (some x) e s d f = let a = s.0.forward in let b = s.0.inside in let c = s.1 in (c, omega arith, f x.to b (omega arith))

      go : Dec (p < n) → ((q : ℕ) → q ≤ n → n ≤ q + k → Abut q n (path_from k q es)) → Abut p n (join (right_best es p) (path_from k (next (right_best es p) p) es))
      go (yes d) f = step (right_best es p) refl (right-all (Formed n) p es formed) d f
      go (no d) f = subst (Abut p n) (sym (ended (suc k) p (omega arith))) (let e : p ≡ n = omega arith in e)

-- so the widths sum to the text's length
unfoldable pub widths : List Edge → ℕ
widths [] = 0
widths (x ∷ l) = x.to - x.from + widths l

pub widths_abut : (p q : ℕ) (l : List Edge) → Abut p q l → p + widths l ≡ q
unfolding widths
widths_abut p q [] e = omega arith
widths_abut p q (x ∷ l) h = let a = h.0 in let b = h.1 in let r = widths_abut x.to q l h.2 in omega arith
