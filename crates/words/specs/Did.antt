-- What a function that may remember more did: its answer and what is remembered afterwards are the definition's.
use Rattle.std.specs.Prelude.{List, ◌≡◌, refl, ℕ}
use Rattle.std.proofs.Common.{sym, ap, ◌∙◌}
use Rattle.definition.specs.Edges.{Mem, M}
use Rattle.edge_places.specs.Shows.{memory, told}
use Rattle.words.specs.Given.{World, size}

pub record Did {A : Type 0} (o : A × Mem) (r : A) (m : Mem) : Type 0 where
  pub value : r ≡ o.0
  pub memory : m ≡ o.1

-- by the outcome as a whole
pub did : {A : Type 0} {o : A × Mem} {r : A} {m : Mem} → o ≡ (r, m) → Did o r m
did {A} {o} {r} {m} e = record { value = sym (ap (λ (x : A × Mem). x.0) e); memory = sym (ap (λ (x : A × Mem). x.1) e) }

pub outcome : {A : Type 0} {o : A × Mem} {r : A} {m : Mem} → Did o r m → o ≡ (r, m)
outcome {A} {o} {r} {m} d = sym (ap (λ (x : A). (x, m)) d.value ∙ ap (λ (y : Mem). (o.0, y)) d.memory)

-- with an answer that is equal
pub did_by : {A : Type 0} {o : A × Mem} {r u : A} {m : Mem} → r ≡ u → Did o u m → Did o r m
did_by e d = record { value = e ∙ d.value; memory = d.memory }

-- The same by places: they remember what the definition does, and tell of the edges what they told before
pub record Asked {A : Type 0} (w : World) (f : M A) (before after : List ℕ) (r : A) : Type 0 where
  pub did : Did (f (memory (size w) before)) r (memory (size w) after)
  pub kept : told after ≡ told before

-- with an answer that is equal; and where nothing was remembered
pub asked_by : {A : Type 0} {w : World} {f : M A} {before after : List ℕ} {r u : A} → r ≡ u → Asked w f before after u → Asked w f before after r
asked_by e a = record { did = did_by e a.did; kept = a.kept }

pub asked-none : {A : Type 0} {w : World} {f : M A} {before : List ℕ} {r : A}
    → Did (f (memory (size w) before)) r (memory (size w) before) → Asked w f before before r
asked-none d = record { did = d; kept = refl }
