-- What stands behind a position, by places: the walk back over positions where no edge ends and over empty texts.
use Rattle.std.specs.Prelude.{ℕ, zero, suc, ◌-◌, ◌<◌, ◌≤◌, Bool, not, ◌≡◌, get_or}
use Rattle.std.proofs.Math.Bool.{true, false}
use Rattle.std.proofs.Common.{true≢false, ◌∙◌, arith}
use mathlib.Core.List.{List, [], ◌∷◌}
use Rattle.std.proofs.Math.Option.{Option, none, some}
use Rattle.std.proofs.Math.Path.{refl, sym, ap}
use Rattle.std.proofs.Math.Decide.{ℕ_discrete}
use Rattle.std.proofs.Math.Dec.{eqb}
use borrow.Author.Tests.{eq-eqb, ne_eqb, lt-ltb, le-ltb, not-true, not-false}
use Rattle.base.specs.Pick.{pick}
use Rattle.base.specs.Lists.{empty, head}
use Rattle.definition.specs.Texts.{Text, last_is}
use Rattle.definition.specs.Tables.{Class}
use Rattle.definition.specs.Expansion.{o_ang_side}
use Rattle.definition.specs.Edges.{Edge, left_best, walk, view}
use Rattle.edge_places.specs.Entry.{side_in, empty_in, back_in}
use Rattle.edge_places.specs.Shows.{Best, Shows}

-- Does an edge end here whose text is not empty; and how far back does the walk go on where none does?
unfoldable pub spoken_in : ℕ → Bool
spoken_in x = pick (eqb (back_in x) 0) false (not (empty_in x))

unfoldable pub step_in : ℕ → ℕ
step_in x = pick (eqb (back_in x) 0) 1 (back_in x)

pub step_some : (x : ℕ) → 0 < step_in x
unfolding step_in pick
step_some x = go (ℕ_discrete (back_in x) 0)
  where
    go : Dec (back_in x ≡ 0) → 0 < step_in x
    go (yes k) = rw (eq-eqb (back_in x) 0 k) (omega arith)
    go (no k) = rw (ne_eqb (back_in x) 0 k) (omega arith)

-- does the text found end in a letter beside which O ang is spoken?
abbrev pub side_behind : List Edge → ℕ → ℕ → ℕ → Bool
side_behind es a k p = last_is o_ang_side (walk es a k p)

module _ (es : List Edge) (a k p x : ℕ) where
  abbrev step : Option Edge → Text
  step o = elim o as (λ _. Text) [
    | none ↦ walk es a k (p - 1)
    | some z ↦ elim z.text as (λ _. Text) [ [] ↦ walk es a k z.from | c ∷ w ↦ c ∷ w ]
  ]

  silent-text : (w : Text) (q : ℕ) → empty w ≡ true → (elim w as (λ _. Text) [ [] ↦ walk es a k q | c ∷ w ↦ c ∷ w ]) ≡ walk es a k q
  unfolding empty
  silent-text [] q e = refl
  silent-text (c ∷ w) q e = absurd (true≢false (sym e))

  spoken_text : (w : Text) (q : ℕ) → empty w ≡ false → (elim w as (λ _. Text) [ [] ↦ walk es a k q | c ∷ w ↦ c ∷ w ]) ≡ w
  unfolding empty
  spoken_text [] q e = absurd (true≢false e)
  spoken_text (c ∷ w) q e = refl

  goes_on : (o : Option Edge) → Best p x o → spoken_in x ≡ false → walk es a k (p - step_in x) ≡ step o
  unfolding spoken_in step_in pick
  goes_on none b e = rw (eq-eqb (back_in x) 0 b.0) refl
  goes_on (some z) b e =
      let t = b.there in
      let q : eqb (back_in x) 0 ≡ false = ne_eqb (back_in x) 0 (λ y. omega arith) in
      let f : empty z.text ≡ true = sym b.empty ∙ not-false (empty_in x) (sym (ap (λ (c : Bool). pick c false (not (empty_in x))) q) ∙ e) in
      ap (λ (c : Bool). walk es a k (p - pick c 1 (back_in x))) q
      ∙ ap (walk es a k) {x = p - back_in x} {y = z.from} (omega (arith, b.far)) ∙ sym (silent-text z.text z.from f)

  stops : (o : Option Edge) → Best p x o → spoken_in x ≡ true → side_in x ≡ last_is o_ang_side (step o)
  unfolding spoken_in pick
  stops none b e = absurd (true≢false (sym e ∙ ap (λ (c : Bool). pick c false (not (empty_in x))) (eq-eqb (back_in x) 0 b.0)))
  stops (some z) b e =
      let t = b.there in
      let q : eqb (back_in x) 0 ≡ false = ne_eqb (back_in x) 0 (λ y. omega arith) in
      let f : empty z.text ≡ false = sym b.empty ∙ not-true (empty_in x) (sym (ap (λ (c : Bool). pick c false (not (empty_in x))) q) ∙ e) in
      b.side ∙ ap (last_is o_ang_side) (sym (spoken_text z.text z.from f))

  -- one step of the walk, where it has not come to its end
  pub walk_step : a < p → step (left_best es p) ≡ walk es a (suc k) p
  unfolding walk
  walk_step l = sym (ap (λ (b : Bool). elim b as (λ _. Text) [ false ↦ [] | true ↦ step (left_best es p) ]) (lt-ltb a p l))

module _ {ks : List Class} {es : List Edge} {n : ℕ} {places : List ℕ} (s : Shows ks es n places) (a k p : ℕ) (h : p ≤ n) (l : a < p) where
  abbrev x : ℕ
  x = get_or places p 0

  pub walk-goes_on : spoken_in x ≡ false → walk es a k (p - step_in x) ≡ walk es a (suc k) p
  walk-goes_on e = goes_on es a k p x (left_best es p) (s.each p h).longest e ∙ walk_step es a k p x l

  pub walk_stops : spoken_in x ≡ true → side_in x ≡ side_behind es a (suc k) p
  walk_stops e = stops es a k p x (left_best es p) (s.each p h).longest e ∙ ap (last_is o_ang_side) (walk_step es a k p x l)

-- where the walk ends nothing stands behind
pub walk_end : (es : List Edge) (a k p : ℕ) → p ≤ a → walk es a k p ≡ []
unfolding walk
walk_end es a zero p h = refl
walk_end es a (suc k) p h =
    ap (λ (b : Bool). elim b as (λ _. Text) [ false ↦ [] | true ↦ step es a k p 0 (left_best es p) ]) (le-ltb a p h)

-- How far the walk from `p` back to `a` has come: it goes on from `at` as from `p`, with steps enough to reach the text's start
pub record Walked (es : List Edge) (a p at : ℕ) : Type 0 where
  pub steps : ℕ
  pub enough : at ≤ steps
  pub same : walk es a steps at ≡ walk es a p p

pub walked_none : (es : List Edge) (a p : ℕ) → Walked es a p p
walked_none es a p = record { steps = p; enough = omega arith; same = refl }

module _ {ks : List Class} {es : List Edge} {n : ℕ} {places : List ℕ} (s : Shows ks es n places) {a p at : ℕ} (h : at ≤ n) (g : Walked es a p at) where
  abbrev here : ℕ
  here = get_or places at 0

  steps_some : a < at → suc (g.steps - 1) ≡ g.steps
  steps_some k = let l = g.enough in omega arith

  pub walked_on : a < at → spoken_in here ≡ false → Walked es a p (at - step_in here)
  walked_on k e = record {
    steps = g.steps - 1;
    enough = let l = g.enough in omega (arith, step_some here);
    same = walk-goes_on s a (g.steps - 1) at h k e ∙ ap (λ (j : ℕ). walk es a j at) (steps_some k) ∙ g.same;
  }

  pub walked_stops : a < at → spoken_in here ≡ true → side_in here ≡ last_is o_ang_side ((view ks es).behind a p)
  unfolding view
  walked_stops k e =
      walk_stops s a (g.steps - 1) at h k e ∙ ap (λ (j : ℕ). side_behind es a j at) (steps_some k) ∙ ap (last_is o_ang_side) g.same

  pub walked_start : at ≤ a → false ≡ last_is o_ang_side ((view ks es).behind a p)
  unfolding view last_is head
  walked_start e = ap (last_is o_ang_side) (sym (walk_end es a g.steps at e) ∙ g.same)

-- by whether an edge ends here
module _ (x : ℕ) where
  pub none_spoken : back_in x ≡ 0 → false ≡ spoken_in x
  unfolding spoken_in pick
  none_spoken e = sym (ap (λ (c : Bool). pick c false (not (empty_in x))) (eq-eqb (back_in x) 0 e))

  pub one_spoken : (back_in x ≡ 0 → ⊥) → not (empty_in x) ≡ spoken_in x
  unfolding spoken_in pick
  one_spoken e = sym (ap (λ (c : Bool). pick c false (not (empty_in x))) (ne_eqb (back_in x) 0 e))

  pub none-back : back_in x ≡ 0 → 1 ≡ step_in x
  unfolding step_in pick
  none-back e = sym (ap (λ (c : Bool). pick c 1 (back_in x)) (eq-eqb (back_in x) 0 e))

  pub one-back : (back_in x ≡ 0 → ⊥) → back_in x ≡ step_in x
  unfolding step_in pick
  one-back e = sym (ap (λ (c : Bool). pick c 1 (back_in x)) (ne_eqb (back_in x) 0 e))
