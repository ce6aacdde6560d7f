-- Ends of the edges that start at a position, from the farthest on.
use Rattle.std.specs.Prelude.{ℕ, zero, suc, ◌+◌, ◌-◌, ◌<◌, ◌≤◌, Bool, ◌&&◌, ◌≡◌}
use Rattle.std.proofs.Math.Bool.{true, false, and-false}
use Rattle.std.proofs.Common.{true≢false, sym, ◌∙◌}
use mathlib.Core.List.{List, [], ◌∷◌, ◌++◌}
use Rattle.std.proofs.Math.Path.{refl, ap}
use native.Mathlib.Omega.{arith}
use Rattle.std.proofs.Math.Decide.{dec_le, ℕ_discrete}
use Rattle.std.proofs.Math.Dec.{eqb, ltb}
use borrow.Author.Tests.{lt-ltb, le-ltb, ne_eqb, ltb-true, ltb-false}
use Rattle.base.specs.Pick.{pick, pick_ind}
use Rattle.base.specs.Bools.{and_left, and_right}
use Rattle.base.specs.Lists.{keep}
use Rattle.base.specs.Alls.{All, All-kept}
use Rattle.base.specs.ListLaws.{keep-none, keep_append}
use Rattle.definition.specs.Edges.{Edge, starting}
use Rattle.definition.specs.Paths.{longer}

-- an edge from `p` that ends before `bound` and after `best`
unfoldable pub farther : ℕ → ℕ → ℕ → Edge → Bool
farther p bound best x = eqb x.from p && ltb x.to bound && ltb best x.to

-- of the edges from `p` the last end before `bound`, or `best` where none ends after that
unfoldable pub last_end : ℕ → ℕ → ℕ → List Edge → ℕ
last_end p bound best [] = best
last_end p bound best (x ∷ l) = last_end p bound (pick (farther p bound best x) x.to best) l

-- the edges of a span, as added
unfoldable pub over : List Edge → ℕ → ℕ → List Edge
over es p e = keep (λ x. eqb x.to e) (starting es p)

-- those of a list, then those of what follows it
pub over-append : (l k : List Edge) (p e : ℕ) → over (l ++ k) p e ≡ over l p e ++ over k p e
unfolding over starting
over-append l k p e =
    ap (keep (λ x. eqb x.to e)) (keep_append (λ x. eqb x.from p) l k)
    ∙ keep_append (λ x. eqb x.to e) (keep (λ x. eqb x.from p) l) (keep (λ x. eqb x.from p) k)

-- of one edge
module _ (x : Edge) (p e : ℕ) where
  pub over-from : eqb x.from p ≡ false → over (x ∷ []) p e ≡ []
  unfolding over starting keep
  over-from f = rw f

  pub over-to : eqb x.from p ≡ true → eqb x.to e ≡ false → over (x ∷ []) p e ≡ []
  unfolding over starting keep
  over-to f t = rw f (rw t)

  pub over-one : eqb x.from p ≡ true → eqb x.to e ≡ true → over (x ∷ []) p e ≡ x ∷ []
  unfolding over starting keep
  over-one f t = rw f (rw t)

module _ (p bound : ℕ) where
  -- what a farther edge is
  ends_before : (best : ℕ) (x : Edge) → farther p bound best x ≡ true → x.to < bound
  unfolding farther
  ends_before best x e =
      ltb-true x.to bound (and_right (eqb x.from p) (ltb x.to bound) (and_left (eqb x.from p && ltb x.to bound) (ltb best x.to) e))

  ends_after : (best : ℕ) (x : Edge) → farther p bound best x ≡ true → best < x.to
  unfolding farther
  ends_after best x e = ltb-true best x.to (and_right (eqb x.from p && ltb x.to bound) (ltb best x.to) e)

  -- The last end lies from the first guess on, and before the bound
  pub last-from : (best : ℕ) (l : List Edge) → best ≤ last_end p bound best l
  unfolding last_end
  last-from best [] = omega arith
  last-from best (x ∷ l) =
      pick_ind (λ n. n ≤ last_end p bound n l → best ≤ last_end p bound n l) (farther p bound best x) x.to best
      (λ e k. let h = ends_after best x e in omega arith) (λ e k. k)
      (last-from (pick (farther p bound best x) x.to best) l)

  pub last-before : (best : ℕ) (l : List Edge) → best < bound → last_end p bound best l < bound
  unfolding last_end
  last-before best [] h = h
  last-before best (x ∷ l) h =
      last-before (pick (farther p bound best x) x.to best) l
      (pick_ind (λ n. n < bound) (farther p bound best x) x.to best (ends_before best x) (λ e. h))

  -- an edge is not farther than its own end or a later one; nor than a later guess where it is not than an earlier
  reached : (n : ℕ) (x : Edge) → x.to ≤ n → farther p bound n x ≡ false
  unfolding farther
  reached n x h = ap (◌&&◌ (eqb x.from p && ltb x.to bound)) (le-ltb n x.to h) ∙ and-false (eqb x.from p && ltb x.to bound)

  still : (best n : ℕ) (x : Edge) → best ≤ n → farther p bound best x ≡ false → farther p bound n x ≡ false
  unfolding farther
  still best n x h e = go (eqb x.from p && ltb x.to bound) e
    where
      go : (b : Bool) → (b && ltb best x.to) ≡ false → (b && ltb n x.to) ≡ false
      go true e = le-ltb n x.to (let k = ltb-false best x.to e in omega arith)
      go false e = refl

  -- and so none is farther than the last end
  none-farther : (best : ℕ) (l : List Edge) → All (λ x. farther p bound (last_end p bound best l) x ≡ false) l
  unfolding last_end
  none-farther best [] = tt
  none-farther best (x ∷ l) = (
    pick_ind (λ n. n ≤ last_end p bound n l → farther p bound (last_end p bound n l) x ≡ false) (farther p bound best x) x.to best
        (λ e k. reached (last_end p bound x.to l) x k) (λ e k. still best (last_end p bound best l) x k e)
        (last-from (pick (farther p bound best x) x.to best) l),
    none-farther (pick (farther p bound best x) x.to best) l,
  )

  -- one from `p` that is not farther than `n` does not end between `n` and the bound
  elsewhere : (n e : ℕ) (x : Edge) → n < e → e < bound → farther p bound n x ≡ false → eqb x.from p ≡ true → eqb x.to e ≡ false
  unfolding farther
  elsewhere n e x h k f g = go (ℕ_discrete x.to e)
    where
      there : x.to ≡ e → (eqb x.from p && ltb x.to bound && ltb n x.to) ≡ true
      there q =
          ap (λ (b : Bool). b && ltb x.to bound && ltb n x.to) g
          ∙ ap (λ (b : Bool). b && ltb n x.to) (lt-ltb x.to bound (omega arith)) ∙ lt-ltb n x.to (omega arith)

      go : Dec (x.to ≡ e) → eqb x.to e ≡ false
      go (yes q) = absurd (true≢false (sym (there q) ∙ f))
      go (no q) = ne_eqb x.to e q

  -- Between the last end and the bound no edge ends
  none_over : (es : List Edge) (e : ℕ) → last_end p bound p es < e → e < bound → over es p e ≡ []
  unfolding over starting
  none_over es e h k =
      keep-none (λ x. (farther p bound (last_end p bound p es) x ≡ false) × (eqb x.from p ≡ true)) (λ x. eqb x.to e) (keep (λ x. eqb x.from p) es)
      (All-kept (λ x. farther p bound (last_end p bound p es) x ≡ false) (λ x. eqb x.from p) es (none-farther p es))
      (λ x z. elsewhere (last_end p bound p es) e x h k z.0 z.1)

module _ (es : List Edge) (p : ℕ) where
  -- one width more
  pub longer-next : (k : ℕ) → longer es p (suc k) ≡ over es p (p + suc k) ++ longer es p k
  unfolding longer over
  longer-next k = refl

  -- widths that no edge has are passed over
  pass : (n m : ℕ) → m ≤ n → ((i : ℕ) → m < i → i ≤ n → over es p (p + i) ≡ []) → longer es p n ≡ longer es p m
  pass zero m h f = ap (longer es p) {x = 0} {y = m} (omega arith)
  pass (suc n) m h f = go (dec_le m n) (λ k. pass n m k (λ i a b. f i a (omega arith)))
    where
      go : Dec (m ≤ n) → (m ≤ n → longer es p n ≡ longer es p m) → longer es p (suc n) ≡ longer es p m
      go (yes k) r = longer-next n ∙ ap (λ l. l ++ longer es p n) (f (suc n) (omega arith) (omega arith)) ∙ r k
      go (no k) r = ap (longer es p) {x = suc n} {y = m} (omega arith)

  -- so the widths below a bound are those up to the last end below it
  pub longer-last : (bound : ℕ) → p < bound → longer es p (bound - 1 - p) ≡ longer es p (last_end p bound p es - p)
  longer-last bound h =
      let a = last-from p bound p es in
      let b = last-before p bound p es h in
      pass (bound - 1 - p) (last_end p bound p es - p) (omega arith) (λ i c d. none_over p bound es (p + i) (omega arith) (omega arith))

  -- the edges to `e`, then the shorter ones
  pub longer-here : (e : ℕ) → p < e → longer es p (e - p) ≡ over es p e ++ longer es p (last_end p e p es - p)
  longer-here e h =
      ap (longer es p) {x = e - p} {y = suc (e - 1 - p)} (omega arith) ∙ longer-next (e - 1 - p)
      ∙ ap (λ n. over es p n ++ longer es p (e - 1 - p)) {x = p + suc (e - 1 - p)} {y = e} (omega arith)
      ∙ ap (◌++◌ (over es p e)) (longer-last e h)
