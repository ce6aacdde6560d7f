-- The edge of a character that stands for others: from what was read of its row to where the definition's step leads.
use Rattle.std.specs.Prelude.{Ok, Err}
use Prim.Native.Nat.{ℕ, ◌+◌, ◌-◌, ◌*◌, ◌/◌, ◌≤◌, ◌<◌}
use mathlib.Core.Bool.{Bool, true, false}
use mathlib.Core.List.{List, []}
use mathlib.Core.Option.{Option, none, some}
use mathlib.Core.Path.{◌≡◌, refl, sym, ap, ◌∙◌, subst}
use native.Mathlib.Omega.{arith}
use lib.ListN.{length, drop}
use borrow.Author.Tests.{eq-eqb, ne_eqb}
use Rattle.base.specs.Pick.{pick}
use Rattle.definition.specs.Limits.{slot_bytes, most_bytes}
use Rattle.definition.specs.Texts.{Text, at}
use Rattle.definition.specs.Tables.{Choices, Decomposition, Tables}
use Rattle.definition.specs.Edges.{add}
use Rattle.definition.specs.Building.{single, rule_lattice}
use Rattle.definition.specs.Paths.{joined, path_of}
use Rattle.definition.specs.Decomposing.{stands_for, inner_lattice, inner_string, decomp_text}
use Rattle.definition.specs.Refusals.{Refusal, refuse, refused_slots, refused_room}
use Rattle.definition.specs.Capacity.{bytes, misfit, overflow}
use Rattle.definition.specs.DecompositionRows.{decomposition_into, decompositions_of}
use Rattle.definition.specs.Growth.{all_bytes}
use Rattle.definition.specs.ClassRows.{classes_of}
use Rattle.definition.specs.Call.{tables_of}
use Rattle.table_decompositions.specs.Told.{into_means, EdgeFound}
use Rattle.edge.specs.declared.Filled.{Filled}
use Rattle.edge.specs.declared.Full.{Full}
use Rattle.edge.specs.declared.Full.TheVariants as full
use Rattle.edge.specs.Answers.{Answer}
use Rattle.edge.specs.Stored.{edge_count}
use Rattle.noting.specs.Keeps.{Keeps}
use Rattle.words.specs.Given.{World, kinds, size, choices_in}
use Rattle.words.specs.declared.given.Dicts.{Dicts}
use Rattle.passes.specs.Reached.{Over, over_keeps, state_of, Reached, reached_since}
use Rattle.decomp_text.specs.declared.Beside.{Beside}
use Rattle.decomp_text.specs.declared.Spelling.{Spelling}
use Rattle.decomp_text.specs.Spelling.{Spells, held-length}
use Rattle.decomp_text.specs.Reading.{read_as, Besides, read_text}
use Rattle.decomp.specs.declared.Unfit.TheVariants.{TooLong}
use Rattle.decomp.specs.Answers.{Grew, as_grew, unfit_at}
use Rattle.decomp.specs.Rows.{RowRead}
use Rattle.decomp.specs.Grown.{Before, GrewTo}
use Rattle.decomp.specs.Adding.{TextAdded}
use Rattle.decomp.specs.Steps.{put_decomp, own, step-none, step-slot, step_room, step-long, step_added}

-- a row's offset says what its character stands for
module _ {b : List ℕ} {c row : ℕ} (f : EdgeFound b c row) where
  pub stands-none : row ≡ 0 → stands_for (decompositions_of b) c ≡ none
  unfolding into_means pick
  stands-none e = sym f.means ∙ rw (eq-eqb row 0 e) refl

  pub stands_some : 0 < row → stands_for (decompositions_of b) c ≡ some (decomposition_into (drop row b))
  unfolding into_means pick
  stands_some l = sym f.means ∙ rw (ne_eqb row 0 (λ z. omega arith)) refl

-- A world over what was lent, of which nothing has overflowed, and no character from `p` on has its edge yet
module _ (dicts : Dicts) (code line S R P : List ℕ) (filled : Filled) (p : ℕ) (w : World) (same : w.classes ≡ dicts.classes.now)
    (o : Over w dicts.ready.now line S R P filled)
    (held : overflow (tables_of w.choices dicts.rules.now w.classes dicts.vowels.now code) (decompositions_of dicts.decompositions.now) w.text
    (length S / slot_bytes) (length R) w.edges ≡ none)
    (before : Before p w.edges) where
  abbrev D : Tables
  D = tables_of w.choices dicts.rules.now w.classes dicts.vowels.now code

  abbrev ds : List Decomposition
  ds = decompositions_of dicts.decompositions.now

  abbrev most : ℕ
  most = filled.used + most_bytes

  abbrev Leads : List ℕ → List ℕ → List ℕ → Grew → Type 0
  Leads S' R' P' r = GrewTo D ds w.text (kinds w) (size w) S R S' R' P' most (put_decomp p D ds w.text (state_of w P)) r

  -- it stands for nothing
  pub leads_none : stands_for ds (at w.text p) ≡ none → Leads S R P (Ok record { count = filled.count; used = filled.used })
  leads_none e = step-none D ds w.text (kinds w) (size w) S R P filled.count filled.used p most (state_of w P) (over_keeps o) held before e (omega arith)

  -- or its row was read, in what was free
  module _ (into : Text) (e : stands_for ds (at w.text p) ≡ some into) (b : Beside) (near : Besides (kinds w) w.text p b) (k r : ℕ)
      (k-is : k ≡ length S - filled.count * slot_bytes) (r-is : r ≡ length R - filled.used) (bytes_read : List ℕ) where
    -- the tables that it was read by are those of the text, without their code
    abbrev inner : Tables
    inner = tables_of (choices_in dicts.ready.now) dicts.rules.now dicts.classes.now dicts.vowels.now []

    uncoded-is : inner ≡ tables_of w.choices dicts.rules.now w.classes dicts.vowels.now []
    uncoded-is =
        ap (λ (c : Choices). tables_of c dicts.rules.now dicts.classes.now dicts.vowels.now []) o.told.choices
        ∙ ap (λ (l : List ℕ). tables_of w.choices dicts.rules.now l dicts.vowels.now []) (sym same)

    -- slots and room that were free are what its edges leave
    free : misfit (k / slot_bytes) r (inner_lattice D into).0 ≡ misfit (length S / slot_bytes - length w.edges) (length R - all_bytes w.edges) (inner_lattice D into).0
    free =
        let fill = o.stored in
        let n : length w.edges ≡ filled.count = ap length (sym o.edges) ∙ edge_count S R filled.count in
        let u : filled.used ≡ all_bytes w.edges = fill.sum ∙ ap all_bytes o.edges in
        let a : k / slot_bytes ≡ length S / slot_bytes - length w.edges = omega (arith, k-is, n, fill.slot) in
        let c : r ≡ length R - all_bytes w.edges = omega (arith, r-is, u) in
        ap (λ (m : ℕ). misfit m r (inner_lattice D into).0) a
        ∙ ap (λ (m : ℕ). misfit (length S / slot_bytes - length w.edges) m (inner_lattice D into).0) c

    inner-fits : (x : Option Refusal) → misfit (k / slot_bytes) r (rule_lattice inner into).0 ≡ x
        → misfit (length S / slot_bytes - length w.edges) (length R - all_bytes w.edges) (inner_lattice D into).0 ≡ x
    unfolding inner_lattice tables_of
    inner-fits x q = sym free ∙ ap (λ (E : Tables). misfit (k / slot_bytes) r (rule_lattice E into).0) (sym uncoded-is) ∙ q

    module _ (S₁ R₁ : List ℕ) (a : length S₁ ≡ length S) (c : length R₁ ≡ length R) where
      pub leads_lacks : (f : Full) → RowRead dicts.rules.now (choices_in dicts.ready.now) dicts.classes.now dicts.vowels.now into b k r bytes_read (Err f) → Leads S₁ R₁ P (Err (unfit_at f p))
      leads_lacks (full.Slots q) h =
          step-slot D ds w.text (kinds w) (size w) S R P filled.count filled.used p most (state_of w P) (over_keeps o) held before into e S₁ R₁ P a c
          q (inner-fits (some (refuse refused_slots q)) h)
      leads_lacks (full.Room q) h =
          step_room D ds w.text (kinds w) (size w) S R P filled.count filled.used p most (state_of w P) (over_keeps o) held before into e S₁ R₁ P a c
          q (inner-fits (some (refuse refused_room q)) h)

    -- all fits: the text is told, and added unless it is too long
    module _ (spelling : Spelling) (h : RowRead dicts.rules.now (choices_in dicts.ready.now) dicts.classes.now dicts.vowels.now into b k r bytes_read (Ok spelling)) where
      spelled : Spells (kinds w) bytes_read spelling (decomp_text D w.text p into)
      unfolding inner_string inner_lattice tables_of
      spelled =
          subst (Spells (kinds w) bytes_read spelling)
          (ap (λ (E : Tables). read_as b (joined (path_of E into (rule_lattice E into)))) uncoded-is ∙ read_text D w.text p b near into)
          (subst (λ (l : List ℕ). Spells (classes_of l) bytes_read spelling (read_as b (joined (path_of inner into (rule_lattice inner into))))) (sym same) h.0)

      module _ (S₁ R₁ : List ℕ) (stay : Keeps (kinds w) (size w) S₁ R₁ P filled.count filled.used (state_of w P)) (a : length S₁ ≡ length S) (c : length R₁ ≡ length R)
          (inside : p + 1 ≤ size w) (S' R' P' : List ℕ) (a' : length S' ≡ length S) (c' : length R' ≡ length R) (g : Grew)
          (done : TextAdded (S₁, R₁, P) (S', R', P') filled bytes_read spelling p g) where
        fit : misfit (length S / slot_bytes - length w.edges) (length R - all_bytes w.edges) (inner_lattice D into).0 ≡ none
        fit = inner-fits none h.2

        pub leads_text : Leads S' R' P' g
        unfolding bytes single
        leads_text = go spelling.full refl
          where
            told : (spelling.full ≡ true → g ≡ Err (TooLong p)) × (spelling.full ≡ false → (x : Answer)
                × Reached (kinds w) (size w) S₁ R₁ S' R' P' most (add w.edges (some (own D ds w.text p into e)), (state_of w P).1) x × (g ≡ as_grew x))
            told = done (kinds w) (size w) (state_of w P) (decomp_text D w.text p into) stay inside spelled

            go : (full : Bool) → spelling.full ≡ full → Leads S' R' P' g
            go true q =
                subst (Leads S' R' P') (sym (told.0 q))
                (step-long D ds w.text (kinds w) (size w) S R P filled.count filled.used p most (state_of w P) (over_keeps o) held before into e S' R' P' a' c' fit
                (spelled.long q))
            go false q =
                let x = told.1 q in
                subst (Leads S' R' P') (sym x.2)
                (step_added D ds w.text (kinds w) (size w) S R P filled.count filled.used p most (state_of w P) (over_keeps o) held before into e S' R' P' a' c' fit
                (omega (arith, ap length (spelled.bytes q), held-length h.1, h.1.fits)) x.0 (reached_since S R a c x.0 x.1))
