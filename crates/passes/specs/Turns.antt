-- The passes of building, a turn at a time.
use Prim.Native.Nat.{ℕ, suc, ◌+◌}
use Rattle.std.specs.Prelude.{List, ◌≡◌}
use Rattle.std.proofs.Math.Option.{Option}
use Rattle.std.proofs.Common.{sym, arith}
use Rattle.std.proofs.Math.Path.{ap}
use Rattle.definition.specs.Edges.{Edge, Mem, M, State, add}
use Rattle.definition.specs.Building.{put_in, each}
use Rattle.words.specs.Did.{Did, outcome}

-- What a step found is added
pub put_in_did : (f : List Edge → M (Option Edge)) (es : List Edge) (m : Mem) {o : Option Edge} {m₁ : Mem} → Did (f es m) o m₁
    → ◌≡◌ {A = State} (add es o, m₁) (put_in f (es, m))
unfolding put_in
put_in_did f es m d = sym (ap (λ (r : Option Edge × Mem). (add es r.0, r.1)) (outcome d))

module _ (f : ℕ → State → State) where
  pub each_over : (k p : ℕ) (st : State) → k ≡ 0 → each f k p st ≡ st
  unfolding each
  each_over k p st e = ap (λ (k : ℕ). each f k p st) e

  pub each_turn : (k j p : ℕ) (st : State) → k ≡ j + 1 → each f k p st ≡ each f j (p + 1) (f p st)
  unfolding each
  each_turn k j p st e = ap (λ (n : ℕ). each f n p st) {x = k} {y = suc j} (omega arith)
