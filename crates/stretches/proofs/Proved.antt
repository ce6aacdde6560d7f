-- Demand 3, proved.
use Rattle.std.specs.Prelude.{◌≡◌, List, ◌++◌, length}
use Rattle.std.proofs.Common.{sym}
use Rattle.std.proofs.Math.Path.{subst}
use Rattle.definition.specs.Texts.{Text}
use Rattle.definition.specs.Tables.{Decomposition, Tables}
use Rattle.definition.specs.Decomposing.{edges, path, alternatives}
use Rattle.definition.specs.Call.{Inputs, tables, decompositions, characters}
use Rattle.definition.proofs.Alternatives.{listed}
use Rattle.definition.specs.Parts.{with_text, Accepts}
use Rattle.definition.proofs.Parts.{part-accepted}
use Rattle.stretches.specs.Demand.{Taken, Before, After, First_if, within, shift, Alone, Demand}
use Rattle.stretches.specs.Given.{Stretch}
use Rattle.stretches.proofs.Given.{fair_tables, stretch}
use Rattle.stretches.proofs.Lattice.{lattice-inside}
use Rattle.stretches.proofs.Path.{path_inside}
use Rattle.stretches.proofs.Alternatives.{listed-inside}
use Rattle.stretches.proofs.Order.{all_edges-inside}
use Rattle.stretches.proofs.Spaces.{own-edge}
use Rattle.stretches.specs.Proved.{Whole, second-part}

module _ (i : Inputs) (taken : Taken i) where
  listed-alone : (st : Text) → Accepts i st → Whole i taken (tables i) (decompositions i) st
  listed-alone st a = subst (λ E. Whole i taken E (decompositions i) st) a.tables
      (subst (λ es. Whole i taken D es st) a.decompositions
      (subst (Whole i taken D ds) a.characters (listed (with_text i st) a.accepted).whole))
    where
      D : Tables
      D = tables (with_text i st)

      ds : List Decomposition
      ds = decompositions (with_text i st)

  alone : (x st y : Text) → characters i ≡ x ++ (st ++ y) → Before x → After y → First_if (tables i).choices st
      → Accepts i st
      → Alone (tables i) (decompositions i) (characters i) st (length x)
  unfolding edges
  alone x st y e b c first accepts =
      let D = tables i in
      let ds = decompositions i in
      let f = fair_tables i taken in
      let h = subst (λ T. Stretch T st (length x)) (sym e) (stretch x st y b c) in
      let p = (path_inside f h first).cut in
      let l = listed-inside f h first in
      record {
        edges = (lattice-inside f h first).edges.cut;
        path = p;
        with_alternatives = l;
        alternatives = second-part (within (length x) (length st)) (shift (length x))
            (path D ds (characters i)) (alternatives D ds (characters i)) (path D ds st) (alternatives D ds st)
            (listed i taken.accepted).whole (listed-alone st accepts) l p;
        all_edges = all_edges-inside f h first;
      }

-- Demand 3
pub demand : (i : Inputs) → Taken i → Demand i
unfolding edges
demand i taken = record {
  spaces = λ q l e. own-edge (fair_tables i taken) (characters i) q l e;
  stretches = λ x st y e b c first.
      let a = part-accepted i taken.accepted x st y e in
      (alone i taken x st y e b c first a, a);
}
