-- `jettyfig::show`: what fits stands over zeros; what doesn't, and a listing that is too large, leave zeros.
use mathlib.Core.Bool.{Bool}
use mathlib.Core.List.{List}
use mathlib.Core.Path.{◌≡◌, sym, ap, ◌∙◌}
use Prim.Native.Nat.{ℕ}
use native.Mathlib.Omega.{arith}
use lib.ListN.{length, replicate}
use Rattle.std.proofs.Common.{rules}
use Rattle.definition.specs.Call.{uncounted}
use Rattle.jettyfig.specs.Calls.{shown_large, shown-fits, shown_misses}
use Rattle.jettyfig.proofs.show.Goals as goal

-- a listing that is told to be too large, or not, is so
large : (w : List ℕ) (b : Bool) (m n : ℕ) → m ≡ n → b ≡ uncounted n w → (t : Bool) → b ≡ t → uncounted m w ≡ t
large w b m n e h t k = ap (λ (i : ℕ). uncounted i w) e ∙ sym h ∙ k

pub returns-then-is_uncounted-clause-written : goal.returns-then-is_uncounted-clause-written
returns-then-is_uncounted-clause-written c = λ i l m vowels w told lent e.
    let s = c.put_shown-needed.ensures vowels w told lent e in
    let z : c.clear.new.s ≡ replicate (length c.put_shown-needed.new.out) 0 = search rules in
    shown_large _ _ _ _ s c.requires.1 i l c.args.built.count _ z
    (large _ c.is_uncounted.result i.mode c.args.built.mode m (c.is_uncounted.ensures _ s.needed) _ c.if-is_uncounted.true)

pub returns-then-memory-needed-clause-written : goal.returns-then-memory-needed-clause-written
returns-then-memory-needed-clause-written c = λ i l m vowels w told lent e.
    let s = c.put_shown-needed.ensures vowels w told lent e in
    let z : c.clear-then-memory-needed.new.s ≡ replicate (length c.put_shown-needed.new.out) 0 = search rules in
    shown_misses _ _ _ _ s c.requires.1 i l c.args.built.count _ z
    (large _ c.is_uncounted.result i.mode c.args.built.mode m (c.is_uncounted.ensures _ s.needed) _ c.if-is_uncounted.false) (omega arith)

pub returns-clause-written : goal.returns-clause-written
returns-clause-written c = λ i l m vowels w told lent e.
    let s = c.put_shown-needed.ensures vowels w told lent e in
    shown-fits _ _ _ _ s c.requires.1 i l c.args.built.count
    (large _ c.is_uncounted.result i.mode c.args.built.mode m (c.is_uncounted.ensures _ s.needed) _ c.if-is_uncounted.false) (omega arith)
