-- An edge that is found at a start equals none from before the starts near it.
use Rattle.std.specs.Prelude.{ℕ, ◌+◌, ◌≤◌, false, List, ◌≡◌, length, take}
use Rattle.std.proofs.Common.{sym, ap, ◌∙◌, arith, length-append}
use Rattle.std.proofs.lemmas.List.{take-append-le}
use Rattle.definition.specs.Edges.{Edge}
use Rattle.definition.specs.Growth.{Added}
use Rattle.edge.specs.declared.Filled.{Filled}
use Rattle.edge.specs.Slots.{edges_of}
use Rattle.edge.specs.Stored.{edge_count}
use Rattle.edge.specs.Adding.{there}
use Rattle.standing.specs.Begun.{edges-first}

-- no edge found at `s` equals one of the first `since`
pub record Fresh (s : ℕ) (slots room : List ℕ) (filled : Filled) : Type 0 where
  pub most : filled.since ≤ filled.count
  pub new : (x : Edge) → s ≤ x.from + 2 → there (edges_of room filled.since slots) x ≡ false

-- with more edges behind them the first are the same
pub fresh-later : {s : ℕ} {slots room : List ℕ} {filled : Filled} → Fresh s slots room filled → (slots' room' : List ℕ) (count used : ℕ)
    → Added (λ x. Unit {0}) (edges_of room filled.count slots) (edges_of room' count slots')
    → Fresh s slots' room' (record { count = count; used = used; since = filled.since })
fresh-later {s} {slots} {room} {filled} f slots' room' count used g =
    let m = f.most in
    let l : filled.since ≤ count = omega (
      arith,
      m,
      ap length g.is,
      length-append (edges_of room filled.count slots) g.more,
      edge_count slots room filled.count,
      edge_count slots' room' count,
    ) in
    record {
      most = l;
      new = λ x h.
          ap (λ (es : List Edge). there es x)
          (edges-first room' slots' filled.since count l ∙ ap (take filled.since) g.is
          ∙ take-append-le filled.since (edges_of room filled.count slots) g.more (omega (arith, m, edge_count slots room filled.count))
          ∙ sym (edges-first room slots filled.since filled.count m))
          ∙ f.new x h;
    }
