-- The second pass behind a first one that is done: what it needs, and that it makes the whole lattice or its refusal.
use Prim.Native.Nat.{ℕ, ◌+◌, ◌*◌, ◌/◌, ◌≤◌}
use mathlib.Core.List.{List, []}
use mathlib.Core.Option.{none, some}
use mathlib.Core.Path.{◌≡◌, refl, ap, ◌∙◌, subst}
use native.Mathlib.Omega.{arith}
use lib.ListN.{length, replicate}
use Rattle.definition.specs.Limits.{slot_bytes, most_bytes}
use Rattle.definition.specs.Texts.{Text}
use Rattle.definition.specs.Tables.{Class, Decomposition, Tables}
use Rattle.definition.specs.Edges.{Mem, State}
use Rattle.definition.specs.Building.{each, fall}
use Rattle.definition.specs.Decomposing.{start, lattice}
use Rattle.definition.specs.Bounds.{Bounded}
use Rattle.definition.proofs.Promises.{tables-bounded}
use Rattle.definition.specs.Refusals.{refuse}
use Rattle.definition.specs.Capacity.{misfit, overflow}
use Rattle.definition.specs.DecompositionRows.{decompositions_of}
use Rattle.definition.specs.Call.{Called, tables_of, decompositions, accepted}
use Rattle.edge.specs.declared.Filled.{Filled}
use Rattle.std.specs.Prelude.{Result, Err, IsErrAnd}
use Rattle.edge.specs.Answers.{Answer, fits}
use Rattle.edge.specs.declared.Full.{Full}
use Rattle.edge.specs.declared.Full.TheVariants.{Slots, Room}
use Rattle.standing.specs.Stands.{Stands}
use Rattle.words.specs.Given.{World, kinds, size, size_in, Prepared, line-size}
use Rattle.words.specs.declared.given.Dicts.{Dicts}
use Rattle.passes.specs.Reached.{Over, with_edges, told_with, over_now, Reached, reached_as}
use Rattle.second_pass.specs.SecondPass.{FallReady, SecondPass}
use Rattle.decomp.specs.Steps.{reached-fits}
use Rattle.decomp_pass.specs.Both.{lattice-is, second_asks, grew-fits}
use Rattle.output.specs.Whole.{Whole}
use Rattle.jettyfig.specs.declared.Refusal.{Refusal as Refused}
use Rattle.jettyfig.specs.declared.Romanized.{Romanized}
use Rattle.jettyfig.specs.Verdicts.{refusal_means, of_full, refusing, given, answered, returned, answered_err}
use Rattle.jettyfig.specs.Steps.{FirstDone, FinishReady, Writes}
use Rattle.jettyfig.specs.Calls.{as_refused, built-refused}
use Rattle.jettyfig.proofs.Wholes.{built-lent, built-whole, built-written}

-- an edge that did not fit is what the scan of the edges refuses
stopped : {ks : List Class} {n : ℕ} {S R S' R' P' : List ℕ} {most : ℕ} {st : State} (f : Full) → Reached ks n S R S' R' P' most st (Err f)
    → misfit (length S / slot_bytes) (length R) st.0 ≡ some (refusal_means (of_full f))
stopped (Slots p) r = r.came
stopped (Room p) r = r.came

-- In a world that the first pass is done in
module _ {rules ready line vowels bytes code S R P : List ℕ} {filled : Filled} {w : World}
    (f : FirstDone rules ready line vowels bytes code S R P filled w) where
  abbrev D : Tables
  D = tables_of w.choices rules w.classes vowels code

  abbrev ds : List Decomposition
  ds = decompositions_of bytes

  abbrev t : Text
  t = w.text

  abbrev first : State
  first = each (start D ds t) (length t) 0 ([], replicate (length t) 0)

  -- the second pass is lent its edges
  pub first-lent : Over (with_edges w first.0) ready line S R P filled
  first-lent = over_now f.done.told f.done.lined S R P filled first f.done.grew.came.0

  -- and goes on from them to the lattice
  pub both_passes : {S' R' P' : List ℕ} (r : Answer) → SecondPass rules ready code line filled (S, R, P) (S', R', P') r
      → Reached (kinds w) (size w) S R S' R' P' (filled.used + size_in line * most_bytes) (lattice D ds t) r
  both_passes r second =
      reached_as (lattice D ds t) (ap (λ (m : Mem). each (fall D t) (length t) 0 (first.0, m)) f.done.grew.came.0.remembered ∙ lattice-is D ds t) r
      (second vowels (with_edges w first.0) first-lent)

  module _ (table : Prepared rules ready) where
    -- behind edges that fit, fallbacks ask slots and room alone
    asks_room : overflow D ds t (length S / slot_bytes) (length R) (lattice D ds t).0 ≡ misfit (length S / slot_bytes) (length R) (lattice D ds t).0
    asks_room =
        let ok : Bounded D = tables-bounded w.choices rules w.classes vowels code table.table.accepted f.done.lined.fine f.done.fine in
        subst (λ (s : State). overflow D ds t (length S / slot_bytes) (length R) s.0 ≡ misfit (length S / slot_bytes) (length R) s.0) (lattice-is D ds t)
        (second_asks D ds t (length S / slot_bytes) (length R) first ok f.done.grew.came.2 (reached-fits (grew-fits f.done.grew)))

    module _ (mode : ℕ) (text : List ℕ) where
      -- a fallback that did not fit is what the call refuses
      pub second_stops : (out : List ℕ) → out ≡ replicate (length out) 0 → (n p : ℕ)
          → misfit (length S / slot_bytes) (length R) (lattice D ds t).0 ≡ some (refuse n p)
          → returned (refusing n p) out ≡ accepted (given mode w.choices rules w.classes vowels bytes code text (length S) (length R) (length out)) D t
      unfolding decompositions
      second_stops out z n p e =
          let i = given mode w.choices rules w.classes vowels bytes code text (length S) (length R) (length out) in
          as_refused i out z n p ∙ built-refused i D t (refuse n p) (asks_room ∙ e)

      pub second_refused : (out : List ℕ) → out ≡ replicate (length out) 0 → {S' R' P' : List ℕ} (f : Full)
          → SecondPass rules ready code line filled (S, R, P) (S', R', P') (Err f) → (v : Result Romanized Refused) → IsErrAnd v (λ e. e ≡ of_full f)
          → returned (answered v) out ≡ accepted (given mode w.choices rules w.classes vowels bytes code text (length S) (length R) (length out)) D t
      second_refused out z f second v h =
          let r = refusal_means (of_full f) in
          ap (λ a. returned a out) (answered_err v (of_full f) h) ∙ second_stops out z r.number r.place (stopped f (both_passes (Err f) second))

      -- Where all fitted, the lattice is whole, and what is shown of it is what the call returns
      module _ {S' R' P' : List ℕ} {c u : ℕ} (second : SecondPass rules ready code line filled (S, R, P) (S', R', P') (fits c u)) where
        abbrev reached : Reached (kinds w) (size w) S R S' R' P' (filled.used + size_in line * most_bytes) (lattice D ds t) (fits c u)
        reached = both_passes (fits c u) second

        held : overflow D ds t (length S / slot_bytes) (length R) (lattice D ds t).0 ≡ none
        held = asks_room ∙ reached-fits reached

        pub second-whole : mode ≤ 3 → (starts : List ℕ) → Stands S' starts c → length starts ≡ size_in line + 1
            → Whole rules ready line S' R' P' starts (record { mode = mode; count = c; used = u })
        second-whole = built-whole rules vowels code ds f.done.told f.done.lined table f.done.fine reached held mode

        pub second-shown : (out : ℕ) (r : Called)
            → Writes (given mode w.choices rules w.classes vowels bytes code text (length S) (length R) out) rules ready code line S' R' P'
            (record { mode = mode; count = c; used = u }) r
            → r ≡ accepted (given mode w.choices rules w.classes vowels bytes code text (length S) (length R) out) D t
        second-shown out r writes =
            let l = (lattice D ds t).0 in
            built-written rules vowels code ds f.done.told f.done.lined table f.done.fine reached held mode out bytes text refl r
            (writes vowels (with_edges w l) (told_with f.done.told l) (built-lent rules vowels code ds f.done.told f.done.lined table f.done.fine reached held) reached.came.0.edges)

-- What the second pass needs
pub fall_ready : {dicts : Dicts} {line text S R P starts : List ℕ} {filled : Filled} → FinishReady dicts line text S R P starts filled
    → FallReady dicts.rules.now dicts.ready.now text line S R P starts filled
fall_ready {dicts} h =
    let l = h.first.done.lined in
    let used = h.first.done.grew.came.1 in (
      dicts.prepared,
      h.own,
      omega (arith, used, l.few, line-size l),
      record { world = with_edges h.world _; over = first-lent h.first },
      h.began,
    )
