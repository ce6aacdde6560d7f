-- A row's characters as a world of their own, and the text that is told of a line's lattice.
use Rattle.std.specs.Prelude.{Ok, Err}
use Prim.Native.Nat.{ℕ, ◌+◌, ◌*◌, ◌≤◌}
use mathlib.Core.List.{List, [], ◌++◌}
use mathlib.Core.Path.{◌≡◌, refl, sym, ap, ◌∙◌, subst}
use native.Mathlib.Omega.{arith}
use lib.ListN.{length, drop, replicate}
use Rattle.base.specs.Alls.{All}
use Rattle.definition.specs.Limits.{most_characters, most_edges, most_bytes, most_into}
use Rattle.definition.specs.Texts.{Text}
use Rattle.definition.specs.Utf8.{encoded}
use Rattle.definition.specs.Tables.{Tables}
use Rattle.definition.specs.Edges.{Edge, State}
use Rattle.definition.specs.Building.{rule_lattice}
use Rattle.definition.specs.Paths.{joined, path_from, path_of}
use Rattle.definition.specs.Bounds.{Bounded, Ruled}
use Rattle.definition.proofs.Bounds.{rule_lattice-ruled}
use Rattle.definition.proofs.Promises.{tables-bounded}
use Rattle.definition.specs.DecompositionRows.{decomposition_count, decomposition_into}
use Rattle.definition.specs.DecompositionLaws.{into-length}
use Rattle.definition.specs.Call.{tables_of}
use Rattle.utf8.specs.Lines.{spaced}
use Rattle.utf8.specs.Encodings.{Scalars}
use Rattle.table_classes.specs.Told.{kinds_of}
use Rattle.table_decompositions.specs.Told.{Placed}
use Rattle.edge.specs.declared.Taken.{Taken}
use Rattle.edge.specs.declared.Full.{Full}
use Rattle.edge.specs.declared.Full.TheVariants.{Slots, Room}
use Rattle.edge.specs.Answers.{Answer}
use Rattle.edge.specs.Slots.{edges_of}
use Rattle.edge.specs.Asked.{stored_readable}
use Rattle.standing.specs.Starts.{end_of}
use Rattle.standing.specs.Stands.{Stands}
use Rattle.words.specs.Given.{World, kinds, size, size_in, choices_in, Told, Lined, lined, line-size}
use Rattle.words.specs.declared.given.Dicts.{Dicts}
use Rattle.passes.specs.Reached.{nothing, Over, Reached}
use Rattle.second_pass.specs.Fallback.{chars_are}
use Rattle.lattice.specs.Lattice.{Lattice}
use Rattle.decomp_line.specs.Rows.{into-scalars, into_few}
use Rattle.decomp_text.specs.declared.Beside.{Beside}
use Rattle.decomp_text.specs.declared.Spelling.{Spelling}
use Rattle.decomp_text.specs.Spelling.{Spells, Held}
use Rattle.decomp_text.specs.Reading.{read_as}
use Rattle.decomp_text.specs.Walking.{Lying}
use Rattle.decomp.specs.First.{first-over}
use Rattle.decomp.specs.Rows.{Formable, RowRead, LineReady}
use Rattle.decomp.specs.Steps.{reached-fits}
use Rattle.table_vowels.specs.Told.{FineVowels}

-- The lattice of a world without edges, built in slots and room
module _ (dicts : Dicts) (inherent : FineVowels dicts.vowels.now) {line S R P : List ℕ} (w : World) (o : Over w dicts.ready.now line S R P nothing)
    (S' R' P' : List ℕ) (a : Answer) (built : Lattice dicts.rules.now dicts.ready.now dicts.vowels.now [] line (S, R, P) (S', R', P') a) where
  abbrev D : Tables
  D = tables_of w.choices dicts.rules.now w.classes dicts.vowels.now []

  abbrev lattice_of : State
  lattice_of = rule_lattice D w.text

  abbrev Told_of : Answer → Type 0
  Told_of = Reached (kinds w) (size w) S R S' R' P' (most_edges * most_characters * most_bytes) lattice_of

  came : Told_of a
  came = built w o

  lined_so : Lined w line
  lined_so = o.lent.text

  ok : Bounded D
  ok = tables-bounded w.choices dicts.rules.now w.classes dicts.vowels.now [] dicts.prepared.table.accepted lined_so.fine inherent

  module _ (t : Taken) (e : a ≡ Ok t) where
    fits : Told_of (Ok t)
    fits = subst Told_of e came

    module _ (starts : List ℕ) (stands : Stands S' starts t.count) (sized : length starts ≡ size_in line + 1) where
      pub lying : Lying line S' R' starts
      lying = record {
        count = t.count;
        laid = record {
          read = stored_readable S' R' t.count t.used fits.came.0.stored;
          stands = stands;
          short = omega (arith, sized, lined_so.few, line-size lined_so);
        };
        sized = sized;
      }

      ruled : All (Ruled w.text) (edges_of R' t.count S')
      ruled = subst (All (Ruled w.text)) (sym fits.came.0.edges) (rule_lattice-ruled D ok w.text)

      -- all fits: the text is spelled
      pub line_read : (b : Beside) (bytes : List ℕ) (s : Spelling) → Held bytes s
          → ((v : World) (count : ℕ) → Told v dicts.ready.now → Lined v line → Stands S' starts count → All (Ruled v.text) (edges_of R' count S')
          → Spells (kinds v) bytes s (read_as b (joined (path_from (end_of starts) 0 (edges_of R' count S')))))
          → RowRead dicts.rules.now w.choices w.classes dicts.vowels.now w.text b (length S) (length R) bytes (Ok s)
      unfolding path_of
      line_read b bytes s held h = (
        subst (λ (es : List Edge). Spells (kinds w) bytes s (read_as b (joined (path_from (size w) 0 es)))) fits.came.0.edges
            (subst (λ (k : ℕ). Spells (kinds w) bytes s (read_as b (joined (path_from k 0 (edges_of R' t.count S'))))) {x = end_of starts} {y = size w}
            (omega (arith, sized, line-size lined_so)) (h w t.count o.told lined_so stands ruled)),
        held,
        reached-fits fits,
      )

  -- or there is too little
  pub line-lacks : (b : Beside) (bytes : List ℕ) (f : Full) → a ≡ Err f → RowRead dicts.rules.now w.choices w.classes dicts.vowels.now w.text b (length S) (length R) bytes (Err f)
  line-lacks b bytes (Slots q) e = (subst Told_of e came).came
  line-lacks b bytes (Room q) e = (subst Told_of e came).came

-- The line that a row's characters were laid out as
module _ (dicts : Dicts) (f : Formable dicts) (row : ℕ) (p : Placed dicts.decompositions.now row) (line : List ℕ)
    (is : line ≡ spaced (decomposition_into (drop row dicts.decompositions.now)) ++ kinds_of dicts.classes.now (spaced (decomposition_into (drop row dicts.decompositions.now)))) where
  abbrev into : Text
  into = decomposition_into (drop row dicts.decompositions.now)

  -- its world
  abbrev pub own : World
  own = record { classes = dicts.classes.now; choices = choices_in dicts.ready.now; text = into; edges = [] }

  few : length into ≤ most_into
  few = omega (arith, into_few p, into-length (drop row dicts.decompositions.now))

  pub own_lined : Lined own line
  own_lined = subst (Lined own) (sym is) (lined own f.kinds (omega (arith, few)))

  pub own-told : Told own dicts.ready.now
  own-told = record { letters = f.letters; choices = refl }

  pub own-size : size_in line ≡ decomposition_count (drop row dicts.decompositions.now)
  own-size = line-size own_lined ∙ into-length (drop row dicts.decompositions.now)

  pub own_ready : (bytes S R starts : List ℕ) → bytes ≡ encoded into → starts ≡ replicate (size_in line + 1) 0 → LineReady dicts bytes line S R starts
  own_ready bytes S R starts e y = (
    (
      dicts.prepared,
      f.inherent,
      record { bytes = e ∙ ap encoded (sym (chars_are own_lined)); scalars = subst Scalars (sym (chars_are own_lined)) (into-scalars p) },
      record { world = own; over = first-over own-told own_lined S R (replicate (size_in line + 1) 0) refl },
      refl,
      y,
    ),
    omega (arith, few, line-size own_lined),
  )
