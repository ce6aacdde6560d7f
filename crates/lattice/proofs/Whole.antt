-- Both passes, one behind the other, make the lattice.
use Rattle.std.specs.Prelude.{Ok, Err}
use Prim.Native.Nat.{ℕ, ◌+◌, ◌≤◌}
use mathlib.Core.List.{List, []}
use mathlib.Core.Path.{◌≡◌, refl, sym, ap, ◌∙◌, subst}
use native.Mathlib.Omega.{arith}
use lib.ListN.{length, set, replicate, length-replicate}
use Rattle.base.specs.Rows.{counted}
use Rattle.definition.specs.Texts.{Text}
use Rattle.definition.specs.Tables.{Tables}
use Rattle.definition.specs.Edges.{Edge, Mem}
use Rattle.definition.specs.Building.{each, build, fall, lattice_by, rule_lattice}
use Rattle.edge.specs.Answers.{Answer}
use Rattle.edge.specs.Slots.{edges_of}
use Rattle.edge_places.specs.Shows.{memory, memory-none}
use Rattle.standing.specs.Starts.{begun}
use Rattle.standing.specs.Begun.{Begun}
use Rattle.table_vowels.specs.Told.{FineVowels}
use Rattle.words.specs.Given.{World, size, size_in, Prepared}
use Rattle.passes.specs.Reached.{nothing, Over, Somewhere, state_of}
use Rattle.passes.specs.Starts.{Began}
use Rattle.first_pass.specs.declared.Stretch.{Stretch}
use Rattle.first_pass.specs.FirstPass.{PassReady, BeganTo}
use Rattle.first_pass.proofs.Passes.{begun-zeros}

both_passes : (D : Tables) (t : Text) (n : ℕ) (m : Mem) → length t ≡ n → m ≡ replicate n 0
    → each (fall D t) n 0 (each (build D t) n 0 ([], m)) ≡ rule_lattice D t
unfolding rule_lattice lattice_by
both_passes D t n m l e =
    ap (λ (m : Mem). each (fall D t) n 0 (each (build D t) n 0 ([], m))) e
    ∙ ap (λ (k : ℕ). each (fall D t) k 0 (each (build D t) k 0 ([], replicate k 0))) (sym l)

-- from no edges and nothing remembered, where the first goes over `m` starts, which are all
pub whole-lattice : (D : Tables) {w : World} {ready line slots room places : List ℕ} → Over w ready line slots room places nothing
    → (m k : ℕ) → m ≡ size w → places ≡ replicate k 0 → size w ≤ k
    → each (fall D w.text) (size w) 0 (each (build D w.text) m 0 (state_of w places)) ≡ rule_lattice D w.text
unfolding counted
whole-lattice D {w} {ready} {line} {slots} {room} {places} o m k l e h =
    ap (λ (m : ℕ). each (fall D w.text) (size w) 0 (each (build D w.text) m 0 (state_of w places))) l
    ∙ ap (λ (es : List Edge). each (fall D w.text) (size w) 0 (each (build D w.text) (size w) 0 (es, memory (size w) places))) (sym o.edges)
    ∙ both_passes D w.text (size w) (memory (size w) places) refl (ap (memory (size w)) e ∙ memory-none (size w) k h)

-- the stretch of a whole text of `n` characters, with no edge before it
abbrev pub all_starts : ℕ → Stretch
all_starts n = record { count = 0; used = 0; from = 0; to = n }

-- it is ready where starts are zeros
pub whole_ready : {rules ready vowels line slots room places starts : List ℕ} → Prepared rules ready → FineVowels vowels
    → Somewhere ready line slots room places nothing → starts ≡ replicate (size_in line + 1) 0 → (n : ℕ) → n ≡ size_in line
    → PassReady rules ready vowels line slots room places starts (all_starts n)
unfolding counted
whole_ready {line = line} table inherent there zeros n e = record {
  table = table;
  inherent = inherent;
  forward = omega arith;
  inside = omega (arith, e);
  somewhere = there;
  begun = subst (λ (l : List ℕ). Begun [] 0 (set l 0 0)) (sym zeros) (begun-zeros (size_in line + 1) (omega arith));
  ahead = tt;
  sized = ap length zeros ∙ length-replicate (size_in line + 1) 0;
  few = omega arith;
  little = omega arith;
}

-- and behind it starts have begun up to the text's end
pub whole_began : (slots room starts : List ℕ) (m n : ℕ) → m ≡ n → (r : Answer) → BeganTo slots room n starts (all_starts m) r → Began slots room n starts r
whole_began slots room starts m n e (Ok t) b = (
  subst (λ (k : ℕ). Begun (edges_of room t.count slots) k starts) e b.0,
  ap (begun starts) (sym e) ∙ b.1,
  b.2,
  b.3,
)
whole_began slots room starts m n e (Err f) b = tt
