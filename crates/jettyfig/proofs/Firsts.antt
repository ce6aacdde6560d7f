-- The first pass from zeros: it is done in every world that the line and what was made ready stand for, or its refusal is the call's.
use Prim.Native.Nat.{ℕ, ◌+◌, ◌*◌, ◌/◌}
use mathlib.Core.List.{List, []}
use mathlib.Core.Option.{some}
use mathlib.Core.Path.{◌≡◌, refl, sym, ap, ◌∙◌, subst}
use native.Mathlib.Omega.{arith}
use lib.ListN.{length, replicate}
use Rattle.definition.specs.Limits.{slot_bytes, most_edges, most_bytes}
use Rattle.definition.specs.Texts.{Text}
use Rattle.definition.specs.Tables.{Class, Decomposition, Tables}
use Rattle.definition.specs.Edges.{Mem, State}
use Rattle.definition.specs.Building.{each}
use Rattle.definition.specs.Decomposing.{start}
use Rattle.definition.specs.Refusals.{refuse}
use Rattle.definition.specs.Capacity.{overflow}
use Rattle.definition.specs.DecompositionRows.{decompositions_of}
use Rattle.definition.specs.Call.{Inputs, Called, tables_of, decompositions, accepted}
use Rattle.edge_places.specs.Shows.{memory, memory-none}
use Rattle.words.specs.Given.{World, kinds, size, size_in, Told, Lined, line-size}
use Rattle.words.specs.declared.given.Dicts.{Dicts}
use Rattle.passes.specs.Reached.{with_edges}
use Rattle.std.specs.Prelude.{Result, Ok, Err, IsErrAnd}
use Rattle.decomp.specs.declared.Unfit.{Unfit}
use Rattle.decomp.specs.declared.Unfit.TheVariants.{Slots, Room, TooLong}
use Rattle.decomp.specs.Answers.{Grew}
use Rattle.decomp.specs.Grown.{GrewTo}
use Rattle.decomp.specs.First.{first-over}
use Rattle.decomp_pass.specs.Passes.{Passes}
use Rattle.decomp_pass.specs.Both.{lattice-is, first-refused}
use Rattle.jettyfig.specs.declared.Refusal.{Refusal as Refused}
use Rattle.jettyfig.specs.declared.Romanized.{Romanized}
use Rattle.jettyfig.specs.Verdicts.{refusal_means, of_unfit, refusing, given, answered, returned, answered_err}
use Rattle.jettyfig.specs.Steps.{FirstPassed}
use Rattle.jettyfig.specs.Calls.{as_refused, built-refused}
use Rattle.table_vowels.specs.Told.{FineVowels}

module _ (dicts : Dicts) (S R : List ℕ) (w : World) where
  abbrev D : Tables
  D = tables_of w.choices dicts.rules.now w.classes dicts.vowels.now dicts.code.now

  abbrev ds : List Decomposition
  ds = decompositions_of dicts.decompositions.now

  abbrev t : Text
  t = w.text

  abbrev first : State
  first = each (start D ds t) (length t) 0 ([], replicate (length t) 0)

  -- the call, in slots and text room of so many bytes
  abbrev call : ℕ → List ℕ → ℕ → ℕ → ℕ → Inputs
  call mode text =
      given mode w.choices dicts.rules.now w.classes dicts.vowels.now dicts.decompositions.now dicts.code.now text

  -- an edge that did not fit is what the call refuses
  pub first_stops : (mode : ℕ) (text out : List ℕ) → out ≡ replicate (length out) 0 → (n p : ℕ)
      → overflow D ds t (length S / slot_bytes) (length R) first.0 ≡ some (refuse n p)
      → returned (refusing n p) out ≡ accepted (call mode text (length S) (length R) (length out)) D t
  unfolding decompositions
  first_stops mode text out z n p e =
      let i = call mode text (length S) (length R) (length out) in
      as_refused i out z n p ∙ built-refused i D t (refuse n p)
      (ap (λ (s : State). overflow D ds t (length S / slot_bytes) (length R) s.0) (sym (lattice-is D ds t))
      ∙ first-refused D ds t (length S / slot_bytes) (length R) first (refuse n p) e)

  stopped : {ks : List Class} {n : ℕ} {S' R' P' : List ℕ} {most : ℕ} (f : Unfit) → GrewTo D ds t ks n S R S' R' P' most first (Err f)
      → overflow D ds t (length S / slot_bytes) (length R) first.0 ≡ some (refusal_means (of_unfit f))
  stopped (Slots p) g = g.came
  stopped (Room p) g = g.came
  stopped (TooLong p) g = g.came

  pub first_refused : (mode : ℕ) (text out : List ℕ) → out ≡ replicate (length out) 0 → {ks : List Class} {n : ℕ} {S' R' P' : List ℕ} {most : ℕ}
      (f : Unfit) → GrewTo D ds t ks n S R S' R' P' most first (Err f) → (v : Result Romanized Refused) → IsErrAnd v (λ e. e ≡ of_unfit f)
      → returned (answered v) out ≡ accepted (call mode text (length S) (length R) (length out)) D t
  first_refused mode text out z f g v h =
      let r = refusal_means (of_unfit f) in
      ap (λ a. returned a out) (answered_err v (of_unfit f) h) ∙ first_stops mode text out z r.number r.place (stopped f g)

  module _ {line : List ℕ} (told : Told w dicts.ready.now) (lined : Lined w line) where
    abbrev most : ℕ
    most = size_in line * (most_edges * most_bytes)

    -- nothing is remembered of zeros, and without edges nothing has overflowed
    pub first-came : (P S' R' P' : List ℕ) → w.classes ≡ dicts.classes.now → P ≡ replicate (size_in line + 1) 0
        → (r : Grew) → Passes dicts line (S, R, P) (S', R', P') r
        → (r' : Grew) → r ≡ r' → GrewTo D ds t (kinds w) (size w) S R S' R' P' most first r'
    unfolding overflow
    first-came P S' R' P' same zeros r passes r' e =
        subst (GrewTo D ds t (kinds w) (size w) S R S' R' P' most first) e
        (subst (λ (m : Mem). GrewTo D ds t (kinds w) (size w) S R S' R' P' most (each (start D ds t) (length t) 0 ([], m)) r)
        (ap (memory (size w)) zeros ∙ memory-none (size w) (size_in line + 1) (omega (arith, line-size lined)))
        (passes (with_edges w []) same (first-over told lined S R P zeros) refl tt))

    -- It has answered; slots and room are as long as they were
    module _ {S' R' P' : List ℕ} (r : Grew) (g : GrewTo D ds t (kinds w) (size w) S R S' R' P' most first r) where
      same-lost : overflow D ds t (length S' / slot_bytes) (length R') first.0 ≡ overflow D ds t (length S / slot_bytes) (length R) first.0
      same-lost =
          ap (λ (k : ℕ). overflow D ds t (k / slot_bytes) (length R') first.0) g.slots
          ∙ ap (λ (k : ℕ). overflow D ds t (length S / slot_bytes) k first.0) g.room

      pub first-passed
          : FineVowels dicts.vowels.now → FirstPassed dicts.rules.now dicts.ready.now line dicts.vowels.now dicts.decompositions.now dicts.code.now S' R' P' r w
      first-passed fine = record {
        told = told;
        lined = lined;
        fine = fine;
        grew = go r g;
      }
        where
          go : (r : Grew) → GrewTo D ds t (kinds w) (size w) S R S' R' P' most first r → GrewTo D ds t (kinds w) (size w) S' R' S' R' P' most first r
          go (Ok k) h = record { slots = refl; room = refl; came = (h.came.0, h.came.1, same-lost ∙ h.came.2) }
          go (Err (Slots p)) h = record { slots = refl; room = refl; came = same-lost ∙ h.came }
          go (Err (Room p)) h = record { slots = refl; room = refl; came = same-lost ∙ h.came }
          go (Err (TooLong p)) h = record { slots = refl; room = refl; came = same-lost ∙ h.came }

      -- and what is then concluded is what the call returns
      pub first_concluded : (mode n out : ℕ) → mode ≡ n → (text : List ℕ) (r : Called)
          → r ≡ accepted (call mode text (length S') (length R') out) D t → r ≡ accepted (call n text (length S) (length R) out) D t
      first_concluded mode n out q text r e =
          e ∙ ap (λ (m : ℕ). accepted (call m text (length S') (length R') out) D t) q
          ∙ ap (λ (k : ℕ). accepted (call n text k (length R') out) D t) g.slots
          ∙ ap (λ (k : ℕ). accepted (call n text (length S) k out) D t) g.room
