-- The expansion inside a stretch, step by step: each makes of moved work what it makes of the work, moved, and holds it inside.
use Rattle.std.specs.Prelude.{Bool, ◌≡◌, [], ◌∷◌, ◌++◌, reverse, ℕ, ◌+◌, ◌≤◌, ◌<◌}
use Rattle.std.proofs.Math.Path.{refl, sym, subst}
use Rattle.std.proofs.Common.{arith}
use Rattle.std.proofs.Math.Dec.{eqb}
use Rattle.std.proofs.Math.ListN.{length, take}
use Rattle.base.specs.Pick.{pick, pick_ind, pick_all}
use Rattle.base.specs.Bools.{and_left}
use Rattle.base.specs.Lists.{has, same}
use Rattle.base.specs.Alls.{All-append, All-reverse, All-one, Opt, Opt_with}
use Rattle.definition.specs.Notes.{note_exp, note_none}
use Rattle.definition.specs.Texts.{Text, letter_e, coptic_grave, long_mark, at, without_last}
use Rattle.definition.specs.Tables.{Choices, Lexicon}
use Rattle.definition.specs.Classes.{class}
use Rattle.definition.specs.Edges.{View, ret}
use Rattle.definition.specs.Rules.{first_rule}
use Rattle.definition.specs.Expansion.{Work, work, capitalize, double, around, before, small_ya, small_target, lengthens}
use Rattle.definition.specs.Expansion.{finish, grave, small_y, rest, o_ang_step, thai, by_script, expand}
use Rattle.definition.specs.Within.{inner}
use Rattle.definition.specs.ExpandBounds.{space_not_small}
use Rattle.stretches.specs.Given.{Ink, Solid, Fair, Stretch, Span}
use Rattle.stretches.specs.Windows.{Sim, sim_ret-by, sim_ret, sim_if, sim_pick, sim_maybe, sim_maybe-moved, sim_bind}
use Rattle.stretches.specs.Boundaries.{See}
use Rattle.stretches.specs.Rules.{simple-inside, first_solid}
use Rattle.stretches.specs.Works.{move, Held, work-move, pick-move}
use Rattle.stretches.specs.Works.{capitalize-inside, capitalize_held, capitalize-from, double-inside, double_held}
use Rattle.stretches.proofs.Thai.{around-inside, around-held, before-inside, before_held, silent-inside}
use Rattle.stretches.specs.Expansion.{Moved, longer-held, trim_solid, without_last_solid}

module _ {L : Lexicon} (fair : Fair L) {T st : Text} {a : ℕ} (h : Stretch T st a) where
  -- Small ya's target has no space, and stands inside
  small_target-inside : (w : Work) → w.to ≤ length st
      → small_target L.rules L.classes T (move a w) ≡ small_target L.rules L.classes st w
  unfolding small_target move
  small_target-inside w l = rw (h.look (a + w.to) w.to refl l, h.back (a + w.to) w.to refl l)

  small_target_solid : (w : Work)
      → Opt (λ y. Solid y × (w.to < length st)) (small_target L.rules L.classes st w)
  unfolding small_target
  small_target_solid w = pick_ind (Opt (λ y. Solid y × (w.to < length st))) _ _ _
      (λ b. Opt_with Solid (first_rule L.rules (at st w.to ∷ [])) (first_solid fair (at st w.to ∷ []))
      (inner st w.to small_ya space_not_small (and_left _ _ (and_left _ _ (and_left _ _ b)))))
      (λ b. tt)

  -- The last step: long mark, virama or trimming
  lengthens-inside : (w : Work) → w.to ≤ length st
      → lengthens L.classes T (move a w) ≡ lengthens L.classes st w
  unfolding lengthens move
  lengthens-inside w l = rw (h.look (a + w.to) w.to refl l, h.back (a + w.to) w.to refl l)

  finish-inside : (p : ℕ) (w : Work) → Held (length st) p w
      → finish L.classes T (move a w) ≡ move a (finish L.classes st w)
  unfolding finish move
  finish-inside p w y = rw (
    lengthens-inside w y.fit,
    trim_solid T (move a w) y.ink,
    trim_solid st w y.ink,
    h.look (a + w.to) w.to refl y.fit,
  )
      (pick-move a _ _ _ (λ b. longer (w.rom ++ take 1 (reverse w.rom)))
      (pick-move a _ _ _ (λ b. longer w.rom) refl))
    where
      longer : (u : Text)
          → work u (a + w.from) (a + w.to + 1) note_exp ≡ move a (work u w.from (w.to + 1) note_exp)
      longer u = work-move a u w.from _ (w.to + 1) _ note_exp refl (omega arith)

  finish_held : (p : ℕ) (w : Work) → Held (length st) p w → Held (length st) p (finish L.classes st w)
  unfolding finish lengthens
  finish_held p w y = pick_ind (Held (length st) p) _ _ _
      (λ b. longer-held y (inner st w.to (λ c. eqb c long_mark) refl (and_left _ _ (and_left _ _ b)))
      (All-append Ink w.rom (take 1 (reverse w.rom)) y.ink
      (All-one Ink (reverse w.rom) (All-reverse Ink w.rom y.ink))))
      (λ b. pick_ind (Held (length st) p) _ _ _
      (λ d. longer-held y (inner st w.to (λ c. (class L.classes c).virama) fair.blank.virama d) y.ink)
      (λ d. subst (Held (length st) p) (sym (trim_solid st w y.ink)) y))

  module _ {c : Choices} {W v : View} (g : See c T st a W v) where
    -- one more character, with another romanization, unless a rule had it
    longer_unless : (b : Bool) (p : ℕ) (w : Work) (u : Text) → Held (length st) p w → w.to < length st → Solid u
        → Moved fair h g p (ret (pick b (move a w) (work u (a + w.from) (a + w.to + 1) note_exp)))
        (ret (pick b w (work u w.from (w.to + 1) note_exp)))
    longer_unless b p w u y l s = sim_ret-by _ _
        (pick-move a b w _ (λ e. refl) (work-move a u w.from _ (w.to + 1) _ note_exp refl (omega arith)))
        (pick_all (Held (length st) p) b y (longer-held y l s))

    grave-inside : (p : ℕ) (w : Work) → Held (length st) p w
        → Moved fair h g p (grave L T W (a + p) (move a w)) (grave L st v p w)
    unfolding grave move
    grave-inside p w y = rw (h.look (a + w.to) w.to refl y.fit, h.back (a + w.to) w.to refl y.fit)
        (sim_if _ (λ b.
        let z = inner st w.to (λ c. eqb c coptic_grave) refl (and_left _ _ b) in
        sim_bind _ (simple-inside fair h g (omega arith))
        (λ r q. longer_unless (has r) p w (letter_e ∷ w.rom) y z ((λ e. omega arith), y.ink)))
        (λ b. sim_ret w y))

    small_y-inside : (p : ℕ) (w : Work) → Held (length st) p w
        → Moved fair h g p (small_y L T W (a + p) (move a w)) (small_y L st v p w)
    unfolding small_y move
    small_y-inside p w y = rw (small_target-inside w y.fit)
        (sim_maybe _ (small_target L.rules L.classes st w) (small_target_solid w) (sim_ret w y)
        (λ o q. sim_bind _ (simple-inside fair h g (omega arith))
        (λ r x. sim_pick (has r) (sim_ret w y)
        (sim_bind _ (simple-inside fair h g (omega arith))
        (λ u z. longer_unless (has u) p w (without_last w.rom ++ o) y q.1
        (All-append Ink (without_last w.rom) o (without_last_solid w.rom y.ink) q.0))))))

    rest-inside : (p : ℕ) (w : Work) → Held (length st) p w → Moved fair h g p (rest L T W (a + p) (move a w)) (rest L st v p w)
    unfolding rest
    rest-inside p w y = sim_bind _ (grave-inside p w y)
        (λ u q. sim_bind _ (small_y-inside p u q) (λ x z. sim_ret-by _ _ (finish-inside p x z) (finish_held p x z)))

    -- Thai
    o_ang_step-inside : (p : ℕ) (w : Work) → Held (length st) p w
        → Moved fair h g p (o_ang_step L T W c (a + p) (move a w)) (o_ang_step L st v c p w)
    unfolding o_ang_step move
    o_ang_step-inside p w y = rw (silent-inside fair h g p w y)
        (sim_pick _ (sim_ret-by _ _ refl (record { low = y.low; high = y.high; fit = y.fit; ink = tt }))
        (rest-inside p w y))

    thai-inside : (p : ℕ) (w : Work) → Held (length st) p w
        → Moved fair h g p (thai L T W c (a + p) (move a w)) (thai L st v c p w)
    unfolding thai
    thai-inside p w y =
        rw (around-inside fair h w (omega arith) y.fit, before-inside fair h w (omega arith))
        (sim_maybe-moved (move a) (Held (length st) p) (around L.rules L.classes st w) ret
        (around-held fair h p w y)
        (o_ang_step-inside p (before L.rules L.classes st w) (before_held fair h p w y))
        (λ x q. sim_ret x q))

    -- All steps
    by_script-inside : (p : ℕ) (w : Work) → Held (length st) p w
        → Moved fair h g p (by_script L T W c (a + p) (move a w)) (by_script L st v c p w)
    unfolding by_script
    by_script-inside p w y =
        rw (h.look (a + p) p refl (omega arith)) (sim_pick _ (thai-inside p w y) (rest-inside p w y))

    expand-held-inside : (rom : Text) (p e : ℕ) → p < e → e ≤ length st → Solid rom
        → Moved fair h g p (expand L T W c rom (a + p) (a + e)) (expand L st v c rom p e)
    unfolding expand
    expand-held-inside rom p e k l s =
        let w = work rom p e note_none in
        let y : Held (length st) p w = record { low = omega arith; high = k; fit = l; ink = s } in
        let own : move a w ≡ work rom (a + p) (a + e) note_none = sym (work-move a rom p _ e _ note_none refl refl) in
        let u = capitalize c L.classes st w in
        let z : Held (length st) p u = capitalize_held c L.classes h p w y in
        rw (
          ← own,
          capitalize-inside c L.classes h w l,
          double-inside L.classes h p u (omega arith) (capitalize-from c L.classes h w),
        )
        (sim_pick (same rom []) (sim_ret w y)
        (by_script-inside p (double L.classes st p u) (double_held L.classes h p u z)))

    pub expand-inside : (rom : Text) {P E p e : ℕ} → Span a (length st) P E p e → e ≤ length st → Solid rom
        → Sim a (length st) Work (move a) (Held (length st) p) (expand L T W c rom P E) (expand L st v c rom p e)
    expand-inside rom {P} {E} {p} {e} z l s = rw (z.from, z.to) (expand-held-inside rom p e z.forward l s)
