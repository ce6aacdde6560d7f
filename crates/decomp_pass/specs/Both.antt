-- Both passes: a refusal of either is the whole lattice's, and where both fit nothing has overflowed.
use Rattle.std.specs.Prelude.{Ok, ℕ, List, [], ◌≡◌, refl, length, replicate}
use Rattle.std.proofs.Math.Option.{none, some}
use Rattle.std.proofs.Common.{sym, ap, ◌∙◌, arith}
use Rattle.base.specs.Alls.{All-map}
use Rattle.definition.specs.Texts.{Text}
use Rattle.definition.specs.Tables.{Class, Decomposition, Tables}
use Rattle.definition.specs.Edges.{State}
use Rattle.definition.specs.Building.{each, fall, lattice_by}
use Rattle.definition.specs.Decomposing.{start, lattice}
use Rattle.definition.specs.Refusals.{Refusal}
use Rattle.definition.specs.Capacity.{misfit, overflow}
use Rattle.definition.specs.Growth.{Added, each-added, each-grown, fall-grown}
use Rattle.definition.specs.Bounds.{Bounded, Ruled}
use Rattle.definition.proofs.Bounds.{fall-ruled}
use Rattle.definition.proofs.Decomposed.{overflow-grown}
use Rattle.edge.specs.declared.Taken.{Taken}
use Rattle.passes.specs.Reached.{Reached}
use Rattle.decomp.specs.Grown.{GrewTo, overflow-behind}

-- the passes make the lattice
pub lattice-is : (D : Tables) (ds : List Decomposition) (t : Text) → each (fall D t) (length t) 0 (each (start D ds t) (length t) 0 ([], replicate (length t) 0)) ≡ lattice D ds t
unfolding lattice lattice_by
lattice-is D ds t = refl

module _ (D : Tables) (ds : List Decomposition) (t : Text) (k r : ℕ) (st : State) where
  abbrev fallen : State
  fallen = each (fall D t) (length t) 0 st

  -- what the first pass is refused for
  pub first-refused : (x : Refusal) → overflow D ds t k r st.0 ≡ some x → overflow D ds t k r fallen.0 ≡ some x
  first-refused x e =
      let g = (each-grown (fall D t) 1 (fall-grown D t) (length t) 0 st).added in
      ap (overflow D ds t k r) g.is ∙ overflow-grown D ds t k r st.0 g.more x e

  -- behind edges that fit, fallbacks ask slots and room alone
  pub second_asks : Bounded D → overflow D ds t k r st.0 ≡ none → misfit k r st.0 ≡ none → overflow D ds t k r fallen.0 ≡ misfit k r fallen.0
  second_asks ok h f =
      let g : Added (Ruled t) st.0 fallen.0 = each-added (length t) (fall D t) (fall-ruled D ok t) (length t) 0 st (omega arith) in
      ap (overflow D ds t k r) g.is ∙ overflow-behind D ds t k r st.0 h f g.more (All-map (λ x y. y.note) g.more g.all) ∙ ap (misfit k r) (sym g.is)

-- what is kept of the first pass has found room
pub grew-fits : {D : Tables} {ds : List Decomposition} {t : Text} {ks : List Class} {n : ℕ} {S R S' R' P' : List ℕ} {most : ℕ} {st : State} {y : Taken}
    → GrewTo D ds t ks n S R S' R' P' most st (Ok y) → Reached ks n S R S' R' P' most st (Ok y)
grew-fits g = record { slots = g.slots; room = g.room; came = (g.came.0, g.came.1) }
