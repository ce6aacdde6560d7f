-- Every edge goes forward, within the text: so the path has ended where it has come to the text's end, and how many
-- more steps it might take doesn't matter.
use Prim.Native.Nat.{ℕ, zero, suc, ◌+◌, ◌<◌, ◌≤◌}
use Rattle.std.specs.Prelude.{true, List, [], ◌≡◌}
use Rattle.std.proofs.Math.Option.{Option, none, some}
use Rattle.std.proofs.Math.Path.{refl, sym, ap}
use Rattle.std.proofs.Common.{◌∙◌, arith}
use Rattle.std.proofs.Math.Dec.{eqb, ltb}
use borrow.Author.Tests.{ne_eqb, eqb-true}
use Rattle.base.specs.Lists.{keep, best}
use Rattle.base.specs.ListLaws.{keep-none}
use Rattle.base.specs.Alls.{All, All-map, All-kept, All-best, Opt}
use Rattle.definition.specs.Edges.{Edge, starting, right_best}
use Rattle.definition.specs.Paths.{join, next, path_from}
use Rattle.standing.specs.Stands.{Ahead}

module _ (n : ℕ) (es : List Edge) (a : All (λ x. Ahead n x.from x.to) es) where
  -- the best edge at `p` goes on from there
  best_ahead : (p : ℕ) → Opt (λ x. (p < x.to) × (x.to ≤ n)) (right_best es p)
  unfolding right_best starting
  best_ahead p =
      All-best (λ x. (p < x.to) × (x.to ≤ n)) (λ x y. ltb y.to x.to) (keep (λ x. eqb x.from p) es)
      (All-map {P = λ x. Ahead n x.from x.to × (eqb x.from p ≡ true)} {Q = λ x. (p < x.to) × (x.to ≤ n)}
      (λ x h. let e = eqb-true x.from p h.1 in (omega (arith, h.0.0, e), h.0.1)) (keep (λ x. eqb x.from p) es)
      (All-kept (λ x. Ahead n x.from x.to) (λ x. eqb x.from p) es a))

  next_ahead : (p : ℕ) → p < next (right_best es p) p
  next_ahead p = go (right_best es p) (best_ahead p)
    where
      go : (o : Option Edge) → Opt (λ x. (p < x.to) × (x.to ≤ n)) o → p < next o p
      go none h = omega arith
      go (some x) h = h.0

  next-within : (p : ℕ) → p < n → next (right_best es p) p ≤ n
  next-within p l = go (right_best es p) (best_ahead p)
    where
      go : (o : Option Edge) → Opt (λ x. (p < x.to) × (x.to ≤ n)) o → next o p ≤ n
      go none h = omega arith
      go (some x) h = h.1

  -- where the path goes on: farther, and not past the text's end
  pub step_ahead : (p q : ℕ) (o : Option Edge) → o ≡ right_best es p → q ≡ next o p → p < n → (p < q) × (q ≤ n)
  step_ahead p q o e f l =
      let g : q ≡ next (right_best es p) p = f ∙ ap (λ (u : Option Edge). next u p) e in
      (omega (arith, next_ahead p, g), omega (arith, next-within p l, g))

  -- at the text's end none starts
  none-past : (p : ℕ) → n ≤ p → right_best es p ≡ none
  unfolding right_best starting best
  none-past p l = ap (best (λ x y. ltb y.to x.to))
      (keep-none (λ x. Ahead n x.from x.to) (λ x. eqb x.from p) es a (λ x h. ne_eqb x.from p (λ z. omega (arith, h.0, h.1))))

  path-past : (k p : ℕ) → n ≤ p → path_from k p es ≡ []
  unfolding path_from
  path-past zero p l = refl
  path-past (suc k) p l =
      ap (λ (o : Option Edge). join o (path_from k (next o p) es)) (none-past p l) ∙ path-past k (p + 1) (omega arith)

  pub path-same : (k j p : ℕ) → n ≤ p + k → n ≤ p + j → path_from k p es ≡ path_from j p es
  unfolding path_from
  path-same zero j p h i = sym (path-past j p (omega arith))
  path-same (suc k) zero p h i = path-past (suc k) p (omega arith)
  path-same (suc k) (suc j) p h i =
      let q = next_ahead p in
      ap (join (right_best es p)) (path-same k j (next (right_best es p) p) (omega arith) (omega arith))
