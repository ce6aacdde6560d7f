-- Where no row of the decomposition table gives an edge, the lattice and the call are as they were before there was the table.
use Rattle.std.specs.Prelude.{◌≡◌, List, ℕ, ◌/◌, ◌<◌, length}
use Rattle.std.proofs.Math.Path.{refl}
use Rattle.std.proofs.Common.{sym, ap, ◌∙◌, subst}
use Rattle.std.proofs.Math.Option.{Option, none, some}
use Rattle.base.specs.Lists.{maybe}
use Rattle.base.specs.Alls.{All-map}
use Rattle.definition.specs.Limits.{slot_bytes}
use Rattle.definition.specs.Refusals.{Refusal}
use Rattle.definition.specs.Texts.{Text, at}
use Rattle.definition.specs.Tables.{Decomposition, Tables}
use Rattle.definition.specs.DecompositionRows.{decompositions_of, decomposition_fault}
use Rattle.definition.specs.Building.{rule_lattice}
use Rattle.definition.specs.Decomposing.{stands_for, lattice}
use Rattle.definition.specs.Capacity.{misfit, overflow}
use Rattle.definition.specs.Call.{Inputs, tables, decompositions, characters, refusal, refused, within_room, with_lattice, accepted, unless_refused, called}
use Rattle.definition.specs.Sample.{no_decompositions}
use Rattle.definition.specs.Accepted.{accepted_of}
use Rattle.definition.specs.Bounds.{Bounded}
use Rattle.definition.proofs.Bounds.{rule_lattice-ruled}
use Rattle.definition.proofs.Decomposed.{overflow-ruled, lattice_off}
use Rattle.definition.proofs.Promises.{bounded}
use Rattle.definition.specs.FormsOff.{Silent, by_rules_alone, empty-silent, empty_right, former, refusal-former, stands_off}

module _ (D : Tables) (ds : List Decomposition) (t : Text) where
  -- The lattice is that of rules and fallbacks
  pub lattice-silent : Silent ds → lattice D ds t ≡ rule_lattice D t
  lattice-silent h = lattice_off D ds t (λ p l. stands_off ds h (at t p))

  -- Of that one nothing is asked besides slots and room, whatever the table is
  pub overflow-rules : Bounded D → (k r : ℕ) → overflow D ds t k r (rule_lattice D t).0 ≡ misfit k r (rule_lattice D t).0
  overflow-rules ok k r =
      overflow-ruled D ds t k r (rule_lattice D t).0 (All-map (λ x q. q.note) (rule_lattice D t).0 (rule_lattice-ruled D ok t))

pub accepted_off : (i : Inputs) (D : Tables) (t : Text) → Bounded D → ((p : ℕ) → p < length t → stands_for (decompositions i) (at t p) ≡ none)
    → accepted i D t ≡ by_rules_alone i D t
unfolding accepted with_lattice by_rules_alone
accepted_off i D t ok off =
    let ds = decompositions i in
    rw (lattice_off D ds t off) (ap (within_room i D t (rule_lattice D t)) (overflow-rules D ds t ok (i.slots / slot_bytes) i.room))

-- A table without fault whose rows give no edge changes nothing
pub called-former : (i : Inputs) → decomposition_fault i.decompositions ≡ none → Silent (decompositions i) → called i ≡ former i
unfolding called former
called-former i e h = go (refusal i) refl ∙ ap (λ o. maybe o (by_rules_alone i (tables i) (characters i)) (refused i)) (refusal-former i e)
  where
    go : (o : Option Refusal) → refusal i ≡ o → unless_refused i o ≡ maybe o (by_rules_alone i (tables i) (characters i)) (refused i)
    go none q = unfold unless_refused maybe in
        (accepted_off i (tables i) (characters i) (bounded i (accepted_of i q)) (λ p l. stands_off (decompositions i) h (at (characters i) p)))
    go (some r) q = unfold unless_refused maybe in refl

pub called-empty : (i : Inputs) → i.decompositions ≡ no_decompositions → called i ≡ former i
unfolding decompositions
called-empty i e = called-former i (ap decomposition_fault e ∙ empty_right) (subst Silent (sym (ap decompositions_of e ∙ empty-silent)) tt)
