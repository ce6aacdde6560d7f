-- The edge of a span inside a stretch: the one that the stretch gives, moved.
use Rattle.std.specs.Prelude.{Bool, List, ℕ, ◌≤◌, length}
use Rattle.std.proofs.Math.Option.{none, some}
use Rattle.definition.specs.Texts.{Text}
use Rattle.definition.specs.Tables.{Decomposition, Tables}
use Rattle.definition.specs.Edges.{Edge, View}
use Rattle.definition.specs.Building.{is_tail, without_plus, edge_of, span_edge}
use Rattle.stretches.specs.Demand.{shift}
use Rattle.stretches.specs.Given.{Solid, FairTables, Stretch, Span}
use Rattle.stretches.specs.Windows.{Sim, sim_ret-by, sim_ret, sim_maybe, sim_bind}
use Rattle.stretches.specs.Boundaries.{See}
use Rattle.stretches.specs.Syllables.{full-inside}
use Rattle.stretches.specs.Vowels.{vowel_step-inside}
use Rattle.stretches.proofs.Expansion.{expand-inside}
use Rattle.stretches.specs.Building.{Finds, Inside, as_edge-held, as_edge-moved, plus_solid}

module _ {D : Tables} {ds : List Decomposition} (fair : FairTables D ds) {T st : Text} {a : ℕ} (h : Stretch T st a)
    {W v : View} (g : See D.choices T st a W v) where
  edge_of-inside : (b : Bool) (rom : Text) {P E p e : ℕ} → Span a (length st) P E p e → e ≤ length st → Solid rom
      → Sim a (length st) Edge (shift a) (Inside 0 (length st)) (edge_of D T W b rom P E) (edge_of D st v b rom p e)
  unfolding edge_of
  edge_of-inside b rom {p = p} z l s =
      sim_bind _ (vowel_step-inside fair.lexicon h g D.vowels fair.vowels b rom z l s)
      (λ new q. sim_bind _ (expand-inside fair.lexicon h g new z l q)
      (λ x y. sim_ret-by _ _ (as_edge-moved a b rom new x) (as_edge-held (length st) p b rom new x y)))

  pub span_edge-inside : {P E p e : ℕ} → Span a (length st) P E p e → e ≤ length st
      → Finds a (length st) (span_edge D T W P E) (span_edge D st v p e)
  unfolding span_edge
  span_edge-inside z l = sim_bind _ (full-inside fair.lexicon h g z l)
      (λ o q. sim_maybe Solid o q (sim_ret none tt)
      (λ w s. sim_bind _ (edge_of-inside (is_tail w) (without_plus w) z l (plus_solid w s))
      (λ x y. sim_ret (some x) y)))
