-- States on the whole text and on the stretch, and a pass over the positions.
use Rattle.std.specs.Prelude.{Bool, ◌≡◌, List, ◌⊎◌}
use Rattle.std.proofs.Math.Bool.{true, false}
use Rattle.std.proofs.Common.{sym, ◌∙◌, ⊎_elim, arith, zero-add, add-zero, suc-add}
use Rattle.std.proofs.Math.Path.{ap, subst}
use Rattle.std.proofs.Math.Logic.{inl, inr}
use Rattle.std.proofs.Math.Option.{Option, map}
use Prim.Native.Nat.{ℕ, zero, suc, ◌+◌, ◌-◌, ◌≤◌, ◌<◌}
use Rattle.base.specs.Pick.{pick}
use Rattle.base.specs.Alls.{Opt}
use Rattle.definition.specs.Edges.{Edge, add, M, State}
use Rattle.definition.specs.Building.{put_in, each}
use Rattle.definition.specs.Growth.{Added}
use Rattle.stretches.specs.Demand.{shift}
use Rattle.stretches.specs.Windows.{window}
use Rattle.stretches.specs.Building.{Inside, Finds}
use Rattle.stretches.specs.Edges.{Outside, Same, add-inside, added_outside}

pub record Rel (a n : ℕ) (S s : State) : Type 0 where
  pub edges : Same a n S.0 s.0
  pub memory : window a n S.1 ≡ s.1

module _ {a n : ℕ} where
  pub rel_pick : (b : Bool) {X Y x y : State} → Rel a n X x → Rel a n Y y → Rel a n (pick b X Y) (pick b x y)
  unfolding pick
  rel_pick true r s = r
  rel_pick false r s = s

  -- A step inside: it finds on both
  pub put_in-inside : (F f : List Edge → M (Option Edge)) (S s : State) → Finds a n (F S.0) (f s.0)
      → Rel a n S s
      → Rel a n (put_in F S) (put_in f s)
  unfolding put_in
  put_in-inside F f S s k r = record {
    edges = subst (λ o. Same a n (add S.0 o) (add s.0 found)) (sym value)
        (add-inside found r.edges (subst (λ m. Opt (Inside 0 n) (f s.0 m).0) r.memory (k.post S.1)));
    memory = k.known S.1 ∙ ap (λ m. (f s.0 m).1) r.memory;
  }
    where
      found : Option Edge
      found = (f s.0 s.1).0

      value : (F S.0 S.1).0 ≡ map (shift a) found
      value = k.value S.1 ∙ ap (λ m. map (shift a) (f s.0 m).0) r.memory

  -- A step outside: what it adds and remembers is outside
  pub rel_outside : {S R s : State} → Added (Outside a n) S.0 R.0 → window a n R.1 ≡ window a n S.1
      → Rel a n S s → Rel a n R s
  rel_outside g e r = record { edges = added_outside g r.edges; memory = e ∙ r.memory }

  -- Positions inside, and positions outside
  each-inside : (F f : ℕ → State → State)
      → ((P p : ℕ) (S s : State) → P ≡ a + p → p < n → Rel a n S s → Rel a n (F P S) (f p s))
      → (k P p : ℕ) (S s : State) → P ≡ a + p → p + k ≤ n → Rel a n S s → Rel a n (each F k P S) (each f k p s)
  unfolding each
  each-inside F f h zero P p S s e l r = r
  each-inside F f h (suc k) P p S s e l r =
      each-inside F f h k (P + 1) (p + 1) (F P S) (f p s) (omega arith) (omega arith) (h P p S s e (omega arith) r)

  each_outside : (F : ℕ → State → State)
      → ((P : ℕ) (S s : State) → (P < a) ⊎ (a + n ≤ P) → Rel a n S s → Rel a n (F P S) s)
      → (k P : ℕ) (S s : State) → (P + k ≤ a) ⊎ (a + n ≤ P) → Rel a n S s → Rel a n (each F k P S) s
  unfolding each
  each_outside F h zero P S s o r = r
  each_outside F h (suc k) P S s o r =
      each_outside F h k (P + 1) (F P S) s (⊎_elim (λ d. inl (omega arith)) (λ d. inr (omega arith)) o)
      (h P S s (⊎_elim (λ d. inl (omega arith)) (λ d. inr (omega arith)) o) r)

pub each_split : (F : ℕ → State → State) (j k P : ℕ) (S : State)
    → each F (j + k) P S ≡ each F k (P + j) (each F j P S)
unfolding each
each_split F zero k P S = rw (zero-add k, add-zero P)
each_split F (suc j) k P S =
    let e : P + 1 + j ≡ P + suc j = omega arith in
    rw (suc-add j k, ← e) (each_split F j k (P + 1) (F P S))

-- A pass over the whole text is, for the stretch, a pass over the stretch
pub pass : {a n : ℕ} (F f : ℕ → State → State)
    → ((P p : ℕ) (S s : State) → P ≡ a + p → p < n → Rel a n S s → Rel a n (F P S) (f p s))
    → ((P : ℕ) (S s : State) → (P < a) ⊎ (a + n ≤ P) → Rel a n S s → Rel a n (F P S) s)
    → (N : ℕ) → a + n ≤ N → (S s : State) → Rel a n S s → Rel a n (each F N 0 S) (each f n 0 s)
pass {a} {n} F f h k N l S s r =
    let e : N ≡ a + (n + (N - (a + n))) = omega arith in
    rw (e, each_split F a (n + (N - (a + n))) 0 S, each_split F n (N - (a + n)) (0 + a) (each F a 0 S))
    (each_outside F k (N - (a + n)) (0 + a + n) (each F n (0 + a) (each F a 0 S)) (each f n 0 s) (inr (omega arith))
    (each-inside F f h n (0 + a) 0 (each F a 0 S) s (omega arith) (omega arith)
    (each_outside F k a 0 S s (inl (omega arith)) r)))
