-- What the proof of demand 3 takes of lists in two parts. (The proof: proofs/Proved.)
use Rattle.std.specs.Prelude.{Bool, ◌≡◌, List, ◌++◌, map}
use Rattle.std.proofs.Common.{sym, ◌∙◌, ap}
use Rattle.std.proofs.lemmas.List.{map-append, append_cancel_left}
use Rattle.base.specs.Lists.{keep}
use Rattle.base.specs.ListLaws.{keep_append}
use Rattle.definition.specs.Texts.{Text}
use Rattle.definition.specs.Tables.{Decomposition, Tables}
use Rattle.definition.specs.Edges.{Edge}
use Rattle.definition.specs.Decomposing.{path, with_alternatives, alternatives}
use Rattle.definition.specs.Call.{Inputs}
use Rattle.stretches.specs.Demand.{Taken}

-- The second part of a list, where the whole and the first part are known
pub second-part : (q : Edge → Bool) (s : Edge → Edge) (P A p a : List Edge) {W w : List Edge} → W ≡ P ++ A → w ≡ p ++ a
    → keep q W ≡ map s w → keep q P ≡ map s p → keep q A ≡ map s a
second-part q s P A p a E e h k = append_cancel_left (map s p) (keep q A) (map s a)
    (ap (λ l. l ++ keep q A) (sym k) ∙ sym (keep_append q P A) ∙ ap (keep q) (sym E) ∙ h ∙ ap (map s) e
    ∙ map-append s p a)

module _ (i : Inputs) (taken : Taken i) where
  -- mode 2 lists the path, then the alternatives: for the stretch too, as it is accepted
  abbrev pub Whole : Tables → List Decomposition → Text → Type 0
  Whole D ds t = with_alternatives D ds t ≡ path D ds t ++ alternatives D ds t
