-- The edge of a character that stands for others, behind edges that are there: what was true of all stays true.
use Prim.Native.Nat.{ℕ, ◌+◌, ◌≤◌, ◌<◌}
use mathlib.Core.List.{List}
use mathlib.Core.Option.{Option}
use mathlib.Core.Path.{◌≡◌, sym, ap, ◌∙◌, subst}
use native.Mathlib.Omega.{arith}
use lib.ListN.{length, take}
use lib.Seq.{take-length}
use Rattle.base.specs.Alls.{All, All-map, All-append, Opt, Opt-map}
use Rattle.definition.specs.Notes.{note_decomp}
use Rattle.definition.specs.Texts.{Text}
use Rattle.definition.specs.Tables.{Decomposition, Tables}
use Rattle.definition.specs.Edges.{Edge, State, add}
use Rattle.definition.specs.Building.{each}
use Rattle.definition.specs.Decomposing.{decomp_edge, start}
use Rattle.definition.specs.Growth.{Added, add-added, each-added}
use Rattle.definition.specs.Near.{Near}
use Rattle.definition.proofs.Decomposed.{decomp_own, start-grown}
use Rattle.standing.specs.Starts.{begun as begun-at}
use Rattle.standing.specs.Begun.{Begun, begun-add}
use Rattle.standing.specs.Stands.{Ahead}
use Rattle.decomp.specs.Grown.{Before}

-- what is true of all edges, and of one more
add-all : (P : Edge → Type 0) (es : List Edge) (o : Option Edge) → All P es → Opt P o → All P (add es o)
add-all P es o h q = let g = add-added {P = P} es o q in subst (All P) (sym g.is) (All-append P es g.more h g.all)

-- where no edge came at `s + 1` yet, the search stands at `s` still
pub begun_still : {es : List Edge} {s : ℕ} {starts : List ℕ} → Begun es (s + 1) starts → begun-at starts (s + 1) ≡ length es → Begun es s starts
begun_still {es} {s} {starts} b e =
    let low = subst (All (λ x. x.from < s + 1)) (ap (λ (m : ℕ). take m es) e ∙ take-length es) (b.parts (s + 1) (omega arith)).low in
    let i = b.inside in
    record {
      inside = omega arith;
      left = All-map {P = λ x. x.from < s + 1} {Q = λ x. x.from ≤ s} (λ x h. omega arith) es low;
      parts = λ f l. b.parts f (omega arith);
      unfallen = λ f l. b.unfallen f (omega arith);
    }

-- A character's edge, where it has one, behind others
module _ (D : Tables) (ds : List Decomposition) (t : Text) (es : List Edge) (s : ℕ) where
  pub form-begun : (starts : List ℕ) → Begun es s starts → Begun (add es (decomp_edge D ds t s)) s starts
  form-begun starts b =
      begun-add b (decomp_edge D ds t s)
      (Opt-map {Q = Near s} (λ x y. let f = y.from in record { left = omega arith; near = omega arith }) (decomp_edge D ds t s) (decomp_own D ds t s))

  pub form_ahead : (n : ℕ) → s < n → All (λ x. Ahead n x.from x.to) es → All (λ x. Ahead n x.from x.to) (add es (decomp_edge D ds t s))
  form_ahead n l h =
      add-all (λ x. Ahead n x.from x.to) es (decomp_edge D ds t s) h
      (Opt-map {Q = λ x. Ahead n x.from x.to} (λ x y. let f = y.from in let e = y.to in (omega arith, omega arith)) (decomp_edge D ds t s) (decomp_own D ds t s))

  pub form-before : Before s es → Before (s + 1) (add es (decomp_edge D ds t s))
  form-before h =
      add-all (λ x. x.note ≡ note_decomp → x.from < s + 1) es (decomp_edge D ds t s)
      (All-map {P = λ x. x.note ≡ note_decomp → x.from < s} {Q = λ x. x.note ≡ note_decomp → x.from < s + 1} (λ x f e. let z = f e in omega arith) es h)
      (Opt-map {Q = λ x. x.note ≡ note_decomp → x.from < s + 1} (λ x y e. let f = y.from in omega arith) (decomp_edge D ds t s) (decomp_own D ds t s))

-- starts only append
pub starts-added : (D : Tables) (ds : List Decomposition) (t : Text) (k p : ℕ) (st : State) → Added (λ x. Unit {0}) st.0 (each (start D ds t) k p st).0
starts-added D ds t k p st = each-added (p + k) (start D ds t) (λ q st l. (start-grown D ds t q st).added) k p st (omega arith)
