-- What a step does in a stretch stays in it: it adds and remembers only there.
use Rattle.std.specs.Prelude.{Bool, ◌≡◌, refl, length}
use Rattle.std.proofs.Math.Bool.{true, false}
use Rattle.std.proofs.Common.{sym, ◌∙◌}
use Rattle.std.proofs.Math.Path.{subst}
use mathlib.Core.List.{List}
use Rattle.std.proofs.Math.Option.{Option}
use Prim.Native.Nat.{ℕ, zero, suc, ◌+◌, ◌≤◌, ◌<◌}
use native.Mathlib.Omega.{arith}
use Rattle.base.specs.Pick.{pick_all}
use Rattle.definition.specs.Limits.{most_source}
use Rattle.definition.specs.Texts.{Text}
use Rattle.definition.specs.Tables.{Decomposition, Tables, lexicon}
use Rattle.definition.specs.Edges.{Edge, covered, add, view, M, State}
use Rattle.definition.specs.Rules.{is_prefix}
use Rattle.definition.specs.Building.{put_in, fallback_edge, span_edge, rise, build, fall}
use Rattle.definition.specs.Decomposing.{decomp_edge, start}
use Rattle.definition.specs.Growth.{Added}
use Rattle.definition.specs.Within.{prefix_bound}
use Rattle.stretches.specs.Given.{FairTables, Stretch, Span}
use Rattle.stretches.specs.Boundaries.{see_moved}
use Rattle.stretches.specs.Rules.{prefix_inside}
use Rattle.stretches.specs.Building.{Inside, fallback_inside, decomp_inside, decomp_held}
use Rattle.stretches.proofs.Building.{span_edge-inside}
use Rattle.stretches.specs.Elsewhere.{Near, Stays, added-moved, near-put_in, near_not, near_twice}

-- Steps at a position of the stretch `u`. What it would find on `u` alone, seeing what the whole text's edges show
-- there, it finds on the whole text
module _ {D : Tables} {ds : List Decomposition} (fair : FairTables D ds) {T u : Text} {b : ℕ} (h : Stretch T u b) where
  -- a span that is a prefix of a source ends inside
  prefix_ends : {P E p e : ℕ} → Span b (length u) P E p e → is_prefix D.rules T P E ≡ true → e ≤ length u
  prefix_ends {p = p} {e = e} z q = prefix_bound D.rules u p e z.begins z.forward
      (sym (prefix_inside fair.lexicon h z) ∙ q)

  rise-near : (k : ℕ) (c : Bool) {P E p e : ℕ} (S : State) → Span b (length u) P E p e → (c ≡ true → e ≤ length u)
      → Near b (length u) S (rise D T k c P E S)
  unfolding rise
  rise-near zero c S z q = near_not S
  rise-near (suc k) false S z q = near_not S
  rise-near (suc k) true {P} {E} {p} {e} S z q =
      let y : Span b (length u) P (E + 1) p (e + 1) = omega arith in
      near_twice
      (near-put_in (λ es. span_edge D T (view D.classes es) P E) S
      (span_edge-inside fair h (see_moved D.choices h (view D.classes S.0)) z (q refl)))
      (rise-near k (is_prefix D.rules T P (E + 1)) _ y (prefix_ends y))

  build-near : (P p : ℕ) (S : State) → P ≡ b + p → p < length u → Near b (length u) S (build D T P S)
  unfolding build
  build-near P p S i l =
      let z : Span b (length u) P (P + 1) p (p + 1) = omega arith in
      rise-near most_source (is_prefix D.rules T P (P + 1)) S z (prefix_ends z)

  start-near : (P p : ℕ) (S : State) → P ≡ b + p → p < length u → Near b (length u) S (start D ds T P S)
  unfolding start
  start-near P p S i l =
      let R = build D T P S in
      near_twice (build-near P p S i l) (record {
        added = subst (λ o. Added (Inside b (length u)) R.0 (add R.0 o)) (sym (decomp_inside D ds h P p i l))
            (added-moved R.0 (decomp_edge D ds u p) (decomp_held D ds h p l));
        frame = λ a n d. refl;
      })

  fall-near : (P p : ℕ) (S : State) → P ≡ b + p → p < length u → Near b (length u) S (fall D T P S)
  unfolding fall
  fall-near P p S i l =
      let F : List Edge → M (Option Edge) = λ es. fallback_edge (lexicon D) T (view D.classes es) P in
      pick_all (Near b (length u) S) (covered S.0 P) {x = S} {y = put_in F S} (near_not S)
      (near-put_in F S (fallback_inside fair.lexicon h (see_moved D.choices h (view D.classes S.0)) P p i l))

pub start_stays : {D : Tables} {ds : List Decomposition} → FairTables D ds → (T : Text) → Stays T (start D ds T)
start_stays fair T u b h = start-near fair h

pub fall_stays : {D : Tables} {ds : List Decomposition} → FairTables D ds → (T : Text) → Stays T (fall D T)
fall_stays fair T u b h = fall-near fair h
