-- The Thai steps of the expansion inside a stretch: the pattern around a consonant, the pre-vowel, the silent O ang.
use Rattle.std.proofs.Math.Bool.{Bool, false, not}
use Rattle.std.specs.Prelude.{true, ◌&&◌, ◌≡◌, [], ◌∷◌, ◌++◌, ℕ, ◌+◌, ◌-◌, ◌≤◌, ◌<◌, length, drop}
use Rattle.std.proofs.Math.Path.{refl, ap}
use Rattle.std.proofs.Common.{⊎_elim, eqb-true}
use Rattle.std.proofs.Math.Option.{Option, none, some, map}
use native.Mathlib.Omega.{arith}
use Rattle.std.proofs.Math.Dec.{eqb}
use Rattle.base.specs.Pick.{pick_ind, pick_all}
use Rattle.base.specs.Bools.{and_left, and_right, eqb_alike, and_then}
use Rattle.base.specs.Lists.{keep, all, head, maybe, bind}
use Rattle.base.specs.Alls.{All-append, Opt, or_else-all, All-drop, maybe-all, bind_all, head-keep, Opt-map, Opt_with}
use Rattle.definition.specs.Notes.{note_exp}
use Rattle.definition.specs.Texts.{Text, o_ang, at, prev, consonants}
use Rattle.definition.specs.Tables.{Rule, script_thai, Choices, Lexicon}
use Rattle.definition.specs.Classes.{class, script}
use Rattle.definition.specs.Edges.{View}
use Rattle.definition.specs.Rules.{first_rule}
use Rattle.definition.specs.Expansion.{Work, work, framed, widen, around_by, around, pre_vowel, before, between, silent}
use Rattle.definition.specs.Blank.{blank_script}
use Rattle.definition.specs.ExpandBounds.{framed_bound}
use Rattle.stretches.specs.Given.{Ink, Solid, SolidRule, Fair, keep-rules, Stretch, prev_zero}
use Rattle.stretches.specs.Texts.{fits-inside, later}
use Rattle.stretches.specs.Boundaries.{See}
use Rattle.stretches.specs.Rules.{first_solid}
use Rattle.stretches.specs.Works.{move, Held, or_else-move, pick-move_if}
use Rattle.stretches.specs.Thai.{widen-move}

module _ {L : Lexicon} (fair : Fair L) {T st : Text} {a : ℕ} (h : Stretch T st a) where
  -- The pattern
  framed-inside : (c k E e : ℕ) → E ≡ a + e → e ≤ length st → (r : Rule) → Solid r.source
      → framed T c k E r ≡ framed st c k e r
  unfolding framed
  framed-inside c k E e j l r s = rw (fits-inside h (drop 2 r.source) E e (All-drop Ink 2 r.source s) j l)

  around_by-inside : (k : ℕ) (w : Work) → 0 < w.from → w.from ≤ length st → w.to ≤ length st
      → around_by L.rules T k (move a w) ≡ map (move a) (around_by L.rules st k w)
  unfolding around_by move
  around_by-inside k w z l m =
      let c = prev st w.from in
      rw (
        h.back (a + w.from) w.from refl l,
        keep-rules fair (framed T c k (a + w.to)) (framed st c k w.to)
            (framed-inside c k (a + w.to) w.to refl m),
      )
      (widen-move a k w _ z)

  pub around-inside : (w : Work) → w.from ≤ length st → w.to ≤ length st
      → around L.rules L.classes T (move a w) ≡ map (move a) (around L.rules L.classes st w)
  unfolding around move
  around-inside w l m = rw (
    h.back (a + w.from) w.from refl l,
    eqb_alike (a + w.from + 1) (a + w.to) (w.from + 1) w.to (λ q. omega arith) (λ q. omega arith),
  )
      (pick-move_if a _ _ (λ b.
      let c = and_right (eqb (w.from + 1) w.to && all consonants w.rom) _ b in
      let z = later st w.from (λ c. (class L.classes c).pre) fair.blank.pre c in
      rw (
        around_by-inside 3 w z l m,
        around_by-inside 2 w z l m,
        around_by-inside 1 w z l m,
        or_else-move,
        or_else-move,
      )))

  around_by-held : (p k : ℕ) (w : Work) → Held (length st) p w
      → Opt (Held (length st) p) (around_by L.rules st k w)
  unfolding around_by widen
  around_by-held p k w y =
      bind_all (Held (length st) p) Y (bind (head (keep f L.rules)) (λ r. r.target))
      (λ o. some (work (w.rom ++ o) (w.from - 1) (w.to + k) note_exp))
      (bind_all Y (λ r. SolidRule r × (f r ≡ true)) (head (keep f L.rules)) (λ r. r.target)
      (head-keep SolidRule f L.rules fair.rules)
      (λ r q. Opt_with Solid r.target q.0.target
      (framed_bound st (prev st w.from) k w.to r y.fit q.1)))
      (λ o q. record {
        low = omega arith;
        high = omega arith;
        fit = q.1;
        ink = All-append Ink w.rom o y.ink q.0;
      })
    where
      f : Rule → Bool
      f = framed st (prev st w.from) k w.to

      Y : Text → Type 0
      Y o = Solid o × (w.to + k ≤ length st)

  pub around-held : (p : ℕ) (w : Work) → Held (length st) p w
      → Opt (Held (length st) p) (around L.rules L.classes st w)
  unfolding around
  around-held p w y =
      let H = Held (length st) p in
      pick_all (Opt H) _
      (or_else-all H (around_by L.rules st 3 w) _ (around_by-held p 3 w y)
      (or_else-all H (around_by L.rules st 2 w) _ (around_by-held p 2 w y) (around_by-held p 1 w y))) tt

  -- The pre-vowel
  before_by : (o : Option Text) (w : Work) → Opt (λ y. 0 < w.from) o
      → maybe o (move a w) (λ y. work (w.rom ++ y) (a + w.from - 1) (a + w.to) note_exp)
      ≡ move a (maybe o w (λ y. work (w.rom ++ y) (w.from - 1) w.to note_exp))
  unfolding maybe move
  before_by none w z = refl
  before_by (some y) w z = let e : a + w.from - 1 ≡ a + (w.from - 1) = omega arith in rw e

  pub before-inside : (w : Work) → w.from ≤ length st
      → before L.rules L.classes T (move a w) ≡ move a (before L.rules L.classes st w)
  unfolding before pre_vowel move
  before-inside w l = rw (h.back (a + w.from) w.from refl l) (before_by _ w
      (pick_ind (Opt (λ y. 0 < w.from)) _ _ _
      (λ b.
      let c = and_right (eqb (script L.classes (prev st w.from)) script_thai) _ (and_left _ _ b) in
      let z = later st w.from (λ c. (class L.classes c).pre) fair.blank.pre c in
      Opt-map (λ y s. z) (first_rule L.rules (prev st w.from ∷ [])) (first_solid fair (prev st w.from ∷ [])))
      (λ b. tt)))

  pub before_held : (p : ℕ) (w : Work) → Held (length st) p w
      → Held (length st) p (before L.rules L.classes st w)
  unfolding before pre_vowel
  before_held p w y = maybe-all (Held (length st) p) Solid _
      (pick_all (Opt Solid) _ {x = first_rule L.rules (prev st w.from ∷ [])} {y = none}
      (first_solid fair (prev st w.from ∷ [])) tt) y
      (λ o q. record {
        low = omega arith;
        high = y.high;
        fit = y.fit;
        ink = All-append Ink w.rom o y.ink q;
      })

  -- The silent O ang: what stands behind is seen alike, or O ang is first and has no Thai before it
  module _ {c : Choices} {W v : View} (g : See c T st a W v) where
    between-inside : (p : ℕ) (w : Work) → Held (length st) p w → at st p ≡ o_ang
        → between c L.rules L.classes T W (move a w) ≡ between c L.rules L.classes st v w
    unfolding between move
    between-inside p w y o =
        rw (h.back (a + w.from) w.from refl (omega arith), h.look (a + w.to) w.to refl y.fit)
        (⊎_elim (λ k. rw (k w.from (omega arith))) (λ first. rw (no_thai (first p o))) g.behind)
      where
        no_thai : p ≡ 0 → eqb (script L.classes (prev st w.from)) script_thai ≡ false
        no_thai e =
            let f : w.from ≡ 0 = omega arith in
            rw (f, prev_zero st, blank_script L.classes fair.blank)

    pub silent-inside : (p : ℕ) (w : Work) → Held (length st) p w
        → silent c L.rules L.classes T W (a + p) (move a w) ≡ silent c L.rules L.classes st v p w
    unfolding silent
    silent-inside p w y = rw (h.look (a + p) p refl (omega arith), same_width)
        (and_then (eqb (at st p) o_ang) _ (λ b. ap not (between-inside p w y (eqb-true (at st p) o_ang b))))
      where
        same_width : eqb ((move a w).from + 1) (move a w).to ≡ eqb (w.from + 1) w.to
        same_width = unfold move in
            eqb_alike (a + w.from + 1) (a + w.to) (w.from + 1) w.to (λ q. omega arith) (λ q. omega arith)
