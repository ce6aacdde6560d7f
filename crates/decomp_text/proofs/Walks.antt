-- The best edge at a position of the path can be read, and a rule or a fallback gives it.
use Rattle.std.specs.Prelude.{Some, None}
use Prim.Native.Nat.{ℕ, ◌<◌}
use mathlib.Core.List.{List, [], ◌∷◌}
use mathlib.Core.Option.{Option}
use mathlib.Core.Path.{◌≡◌, sym, subst}
use native.Mathlib.Omega.{arith}
use lib.ListN.{drop}
use Rattle.base.specs.Alls.{All, Opt, Opt-map}
use Rattle.definition.specs.Texts.{Text}
use Rattle.definition.specs.Edges.{Edge, right_best}
use Rattle.definition.specs.Bounds.{Ruled}
use Rattle.definition.specs.Cover.{right-all}
use Rattle.edge.specs.Slots.{from_of, edge_by, numbers_of, edges_of}
use Rattle.edge.specs.Asked.{Readable}
use Rattle.edge.specs.Best.{BestEdge, best_means, Found, found-slot}
use Rattle.words.specs.Given.{size_in}
use Rattle.decomp_text.specs.Walking.{BestRead}

-- whatever is said of no edge is said of all
anything : (es : List Edge) → All (λ x. Unit {0}) es
anything [] = tt
anything (x ∷ es) = (tt, anything es)

module _ (line slots room : List ℕ) (count p : ℕ) (read : Readable slots room count) (l : p < size_in line) where
  pub best-read : (best : BestEdge) → Found count best → best_means room slots best ≡ right_best (edges_of room count slots) p → BestRead line slots room best
  best-read (Some o) f e =
      (found-slot slots room count o read f, (let z = starts-here in omega (arith, z, l)))
    where
      starts-here : from_of (drop o slots) ≡ p
      starts-here = unfold edge_by numbers_of in
          (subst (Opt (λ x. Unit {0} × (x.from ≡ p))) (sym e) (right-all (λ x. Unit {0}) p (edges_of room count slots) (anything (edges_of room count slots)))).1
  best-read None f e = tt

pub best-ruled : (t : Text) (es : List Edge) (p : ℕ) (o : Option Edge) → All (Ruled t) es → o ≡ right_best es p → Opt (Ruled t) o
best-ruled t es p o h e = subst (Opt (Ruled t)) (sym e) (Opt-map (λ x z. z.0) (right_best es p) (right-all (Ruled t) p es h))
