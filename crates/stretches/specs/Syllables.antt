-- End of syllable, and full search, inside a stretch.
use Rattle.std.specs.Prelude.{Bool, not, ◌≡◌, ℕ, ◌+◌, ◌-◌, ◌≤◌, ◌<◌}
use Rattle.std.proofs.Math.Bool.{true, false}
use Rattle.std.proofs.Math.Path.{refl}
use Rattle.std.proofs.Math.Option.{Option, none, some}
use native.Mathlib.Omega.{arith}
use Rattle.std.proofs.Math.Dec.{eqb}
use Rattle.std.proofs.Math.ListN.{length}
use Rattle.std.proofs.lemmas.Bool.{not-false}
use Rattle.base.specs.Pick.{pick, pick_all}
use Rattle.base.specs.Lists.{has}
use Rattle.base.specs.Alls.{Opt}
use Rattle.definition.specs.Texts.{Text, o_ang, at}
use Rattle.definition.specs.Tables.{Choices, Lexicon}
use Rattle.definition.specs.Classes.{class, alpha}
use Rattle.definition.specs.Edges.{View}
use Rattle.definition.specs.Syllables.{opens, past_tone, next_rom, o_ang_test, vowel_test, syllable_at, syllable_end, full}
use Rattle.definition.specs.Blank.{blank_alpha}
use Rattle.definition.specs.Within.{inner}
use Rattle.stretches.specs.Given.{Solid, SolidRule, Fair, Stretch, Span}
use Rattle.stretches.specs.Windows.{Sim, Agree, sim_ret, sim_if, sim_pick, sim_maybe, sim_bind}
use Rattle.stretches.specs.Texts.{later}
use Rattle.stretches.specs.Boundaries.{See}
use Rattle.stretches.specs.Rules.{choose-inside, simple-inside}

module _ {L : Lexicon} (fair : Fair L) {T st : Text} {a : ℕ} (h : Stretch T st a) where
  -- past a tone mark is inside still: a space is none
  past_tone-inside : (P p : ℕ) → P ≡ a + p → p ≤ length st
      → (past_tone L.classes T P ≡ a + past_tone L.classes st p) × (past_tone L.classes st p ≤ length st)
  unfolding past_tone pick
  past_tone-inside P p e l = rw (h.look P p e l) (go (class L.classes (at st p)).tone refl)
    where
      go : (b : Bool) → (class L.classes (at st p)).tone ≡ b
          → (pick b (P + 1) P ≡ a + pick b (p + 1) p) × (pick b (p + 1) p ≤ length st)
      go true k =
          let j = inner st p (λ c. (class L.classes c).tone) fair.blank.tone k in
          (omega arith, omega arith)
      go false k = (omega arith, omega arith)

  module _ {c : Choices} {W v : View} (g : See c T st a W v) where
    next_rom-inside : (Q q : ℕ) → Q ≡ a + q → q ≤ length st
        → Agree a (length st) (Option Text) (next_rom L T W Q) (next_rom L st v q)
    unfolding next_rom
    next_rom-inside Q q j k = sim_bind _ (simple-inside fair h g (omega arith))
        (λ w n. sim_pick (has w) (sim_ret w tt) (simple-inside fair h g (omega arith)))

    -- where U+0E2D stands, the next position is inside
    o_ang_test-inside : (Q q : ℕ) → Q ≡ a + q → q ≤ length st
        → Agree a (length st) Bool (o_ang_test L T W Q) (o_ang_test L st v q)
    unfolding o_ang_test
    o_ang_test-inside Q q j k = rw (h.look Q q j k) (sim_if _
        (λ o. let d = inner st q (λ c. eqb c o_ang) refl o in
        sim_bind _ (simple-inside fair h g (omega arith)) (λ u n. sim_ret (opens u) tt))
        (λ o. sim_ret false tt))

    vowel_test-inside : (Q q : ℕ) → Q ≡ a + q → q ≤ length st
        → Agree a (length st) Bool (vowel_test L T W Q) (vowel_test L st v q)
    unfolding vowel_test
    vowel_test-inside Q q j k = sim_bind _ (next_rom-inside Q q j k)
        (λ w n. sim_pick (not (opens w)) (sim_ret true tt) (o_ang_test-inside Q q j k))

    -- the edge one back is asked only where a letter stands two back, so inside
    syllable_at-inside : (P Q p q : ℕ) → P ≡ a + p → Q ≡ a + q → 0 < p → p ≤ length st → q ≤ length st
        → Agree a (length st) Bool (syllable_at L T W P Q) (syllable_at L st v p q)
    unfolding syllable_at
    syllable_at-inside P Q p q i j z l k = rw (h.back (P - 1) (p - 1) (omega arith) (omega arith), h.look Q q j k)
        (sim_if _ (λ e. sim_ret false tt)
        (λ e.
        let b = later st (p - 1) (alpha L.classes) (blank_alpha L.classes fair.blank) (not-false _ e) in
        sim_pick _ (sim_ret false tt) (sim_pick _ (sim_ret true tt) (sim_pick _ (sim_ret true tt)
        (rw (g.closed (P - 1) (p - 1) (omega arith) b (omega arith))
        (sim_pick _ (sim_ret false tt) (vowel_test-inside Q q j k)))))))

    syllable_end-inside : (P p : ℕ) → P ≡ a + p → 0 < p → p ≤ length st
        → Agree a (length st) Bool (syllable_end L T W P) (syllable_end L st v p)
    unfolding syllable_end
    syllable_end-inside P p i z l =
        let q = past_tone-inside P p i l in
        syllable_at-inside P (past_tone L.classes T P) p (past_tone L.classes st p) i q.0 z l q.1

    -- what full search answers has no space
    pub full-inside : {P E p e : ℕ} → Span a (length st) P E p e → e ≤ length st
        → Sim a (length st) (Option Text) (λ x. x) (Opt Solid) (full L T W P E) (full L st v p e)
    unfolding full
    full-inside {P} {E} {p} {e} z l = sim_bind _ (choose-inside fair h g z)
        (λ o q. sim_maybe SolidRule o q (sim_ret none tt)
        (λ r s. sim_maybe Solid r.end_target s.end_target (sim_ret r.target s.target)
        (λ w y. sim_bind _ (syllable_end-inside E e z.to (omega arith) l)
        (λ b q. sim_ret _ (pick_all (Opt Solid) b {x = some w} {y = r.target} y s.target)))))
