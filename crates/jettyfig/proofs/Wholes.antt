-- A lattice that was built: all that showing it needs, and what is then written is what the call returns.
use Prim.Native.Nat.{ℕ, ◌+◌, ◌/◌, ◌≤◌, ◌<◌}
use mathlib.Core.List.{List, ◌++◌}
use mathlib.Core.Option.{none}
use mathlib.Core.Path.{◌≡◌, sym, ap, ◌∙◌, subst}
use native.Mathlib.Omega.{arith}
use lib.ListN.{length, take, replicate, length-append}
use lib.Seq.{take_at}
use Rattle.base.specs.Alls.{All}
use Rattle.base.specs.ListLaws.{take-replicate}
use Rattle.definition.specs.Limits.{slot_bytes}
use Rattle.definition.specs.Texts.{Text}
use Rattle.definition.specs.Tables.{Decomposition, Tables}
use Rattle.definition.specs.Edges.{Mem}
use Rattle.definition.specs.Decomposing.{lattice}
use Rattle.definition.specs.Bounds.{Bounded, Sound}
use Rattle.definition.proofs.Decomposed.{lattice_few, lattice_sound}
use Rattle.definition.proofs.Promises.{tables-bounded}
use Rattle.definition.specs.Listing.{shown}
use Rattle.definition.specs.Capacity.{overflow}
use Rattle.definition.specs.DecompositionRows.{decompositions_of}
use Rattle.definition.specs.Call.{Called, tables_of, decompositions, written, accepted}
use Rattle.table_vowels.specs.Told.{FineVowels}
use Rattle.edge.specs.Answers.{fits}
use Rattle.edge_places.specs.Shows.{memory}
use Rattle.standing.specs.Stands.{Stands}
use Rattle.words.specs.Given.{World, kinds, size, size_in, Prepared, Told, Lined, Lent, line-size}
use Rattle.passes.specs.Reached.{with_edges, told_with, Reached}
use Rattle.output.specs.Whole.{Whole}
use Rattle.jettyfig.specs.Verdicts.{given}
use Rattle.jettyfig.specs.Calls.{built-all, reached-count, reached_sound}

-- zeros cut to the text, and what came back in their place
pub cut-zeros : (size n k : ℕ) → n < size → k ≡ n + 1 → take k (replicate {A = ℕ} size 0) ≡ replicate (n + 1) 0
cut-zeros size n k h q = ap (λ (m : ℕ). take m (replicate {A = ℕ} size 0)) q ∙ take-replicate 0 (n + 1) size (omega arith)

-- what was lent has come back, and is lent again
module _ (back rest : List ℕ) (k : ℕ) (e : length back ≡ k) where
  pub back_is : take k (back ++ rest) ≡ back
  back_is = take_at back rest k e

  pub back_inside : k ≤ length (back ++ rest)
  back_inside = omega (arith, length-append back rest)

  pub back_long : k ≡ length (take k (back ++ rest))
  back_long = sym (ap length back_is ∙ e)

module _ (rules vowels code : List ℕ) (ds : List Decomposition) {ready line S R S' R' P' : List ℕ} {w : World} (told : Told w ready) (lined : Lined w line)
    (table : Prepared rules ready) (fine : FineVowels vowels) {c u most : ℕ}
    (b : Reached (kinds w) (size w) S R S' R' P' most (lattice (tables_of w.choices rules w.classes vowels code) ds w.text) (fits c u))
    (held : overflow (tables_of w.choices rules w.classes vowels code) ds w.text (length S / slot_bytes) (length R)
    (lattice (tables_of w.choices rules w.classes vowels code) ds w.text).0 ≡ none) where
  abbrev D : Tables
  D = tables_of w.choices rules w.classes vowels code

  abbrev t : Text
  t = w.text

  pub built-lent : Lent (with_edges w (lattice D ds t).0) line P'
  built-lent = record { text = record { fine = lined.fine; few = lined.few; is = lined.is }; edges = b.came.0.shown }

  ok : Bounded D
  ok = tables-bounded w.choices rules w.classes vowels code table.table.accepted lined.fine fine

  pub built-whole : (mode : ℕ) → mode ≤ 3 → (starts : List ℕ) → Stands S' starts c → length starts ≡ size_in line + 1
      → Whole rules ready line S' R' P' starts (record { mode = mode; count = c; used = u })
  built-whole mode h starts s l =
      let few = lined.few in
      let is = line-size lined in
      record {
        table = table;
        stored = b.came.0.stored;
        stands = s;
        sized = l;
        sound = reached_sound b (size_in line) (subst (λ (k : ℕ). All (Sound k) (lattice D ds t).0) (sym is)
            (lattice_sound D ds t ok (length S / slot_bytes) (length R) held));
        short = omega (arith, few, is);
        few = omega (arith, reached-count b, lattice_few D ds t, few);
        mode = h;
        world = with_edges w (lattice D ds t).0;
        told = told_with told (lattice D ds t).0;
        lent = built-lent;
        edges = b.came.0.edges;
      }

  pub built-written : (mode out : ℕ) (decompositions text : List ℕ) → ds ≡ decompositions_of decompositions → (r : Called)
      → r ≡ written (given mode w.choices rules w.classes vowels decompositions code text (length S) (length R) out) c (shown D t mode ((lattice D ds t).0, memory (size w) P'))
      → r ≡ accepted (given mode w.choices rules w.classes vowels decompositions code text (length S) (length R) out) D t
  unfolding decompositions
  built-written mode out bytes text q r e =
      let i = given mode w.choices rules w.classes vowels bytes code text (length S) (length R) out in
      e ∙ ap (λ (m : Mem). written i c (shown D t mode ((lattice D ds t).0, m))) b.came.0.remembered
      ∙ ap (λ (k : ℕ). written i k (shown D t mode (lattice D ds t))) (reached-count b)
      ∙ ap (λ (l : List Decomposition). written i (length (lattice D l t).0) (shown D t mode (lattice D l t))) q
      ∙ built-all i D t (subst (λ (l : List Decomposition). overflow D l t (length S / slot_bytes) (length R) (lattice D l t).0 ≡ none) q held)
