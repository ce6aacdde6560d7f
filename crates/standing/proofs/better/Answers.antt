-- `standing::better`: one law for each way out.
use mathlib.Core.Bool.{true, false}
use mathlib.Core.List.{List}
use mathlib.Core.Path.{◌≡◌, sym, ap, ◌∙◌}
use Prim.Native.Nat.{ℕ}
use native.Mathlib.Omega.{arith}
use lib.Dec.{eqb}
use lib.ListN.{drop}
use borrow.Author.Tests.{eq-eqb, ne_eqb}
use Rattle.edge.specs.Slots.{from_of, edge_by, numbers_of, edge_of}
use Rattle.standing.specs.Right.{here, elsewhere, first_one, longer-one, shorter_one}
use Rattle.standing.proofs.better.Goals as goal

-- by the start that was read
is-here : (room s : List ℕ) (f p : ℕ) → f ≡ from_of s → f ≡ p → here p (edge_of room s) ≡ true
unfolding edge_by numbers_of
is-here room s f p e h = ap (λ (n : ℕ). eqb n p) (sym e) ∙ eq-eqb f p h

not-here : (room s : List ℕ) (f p : ℕ) → f ≡ from_of s → (f ≡ p → ⊥) → here p (edge_of room s) ≡ false
unfolding edge_by numbers_of
not-here room s f p e h = ap (λ (n : ℕ). eqb n p) (sym e) ∙ ne_eqb f p h

pub returns-then-two-p : goal.returns-then-two-p
returns-then-two-p c =
    let S = c.args.slots.now in
    λ room. elsewhere c.args.p room S c.args.slot c.args.best
    (not-here room (drop c.args.slot S) _ c.args.p c.two.ensures.0 (λ z. omega arith))

pub returns-in-Some : goal.returns-in-Some
returns-in-Some c =
    let S = c.args.slots.now in
    λ room. longer-one c.args.p room S c.args.slot c.args.best c.in-Some.other
    (is-here room (drop c.args.slot S) _ c.args.p c.two.ensures.0 (omega arith)) c.in-Some.is
    (sym (c.is_longer.ensures room) ∙ c.if-is_longer.true)

pub returns-in-None : goal.returns-in-None
returns-in-None c =
    let S = c.args.slots.now in
    λ room. first_one c.args.p room S c.args.slot c.args.best
    (is-here room (drop c.args.slot S) _ c.args.p c.two.ensures.0 (omega arith)) c.in-None.is

pub returns-in-Some-2 : goal.returns-in-Some-2
returns-in-Some-2 c =
    let S = c.args.slots.now in
    λ room. sym c.in-Some.is ∙ shorter_one c.args.p room S c.args.slot c.args.best c.in-Some.other
    (is-here room (drop c.args.slot S) _ c.args.p c.two.ensures.0 (omega arith)) c.in-Some.is
    (sym (c.is_longer.ensures room) ∙ c.if-is_longer.false)
