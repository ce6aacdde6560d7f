-- `syllables::is_at_end_of_syllable`: one law for each way out.
use mathlib.Core.Bool.{Bool, not}
use mathlib.Core.Path.{◌≡◌, refl, sym, ap, ◌∙◌}
use mathlib.Core.List.{List}
use Prim.Native.Nat.{ℕ, ◌+◌, ◌-◌, ◌/◌, ◌≤◌}
use native.Mathlib.Omega.{arith}
use Rattle.definition.specs.Texts.{at, prev}
use Rattle.definition.specs.Classes.{class, alpha}
use Rattle.definition.specs.Syllables.{past_tone}
use Rattle.edge_places.specs.Shows.{memory, closed-shown}
use Rattle.words.specs.Did.{asked_by, asked-none}
use Rattle.words.specs.Given.{World, Lined, kinds, seen, size, size_in, kind_in, line-size, alpha_kind}
use Rattle.words.specs.Characters.{alpha-prev, flag_prev, alpha-here, flag_here}
use Rattle.rule_choice.specs.Lent.{lexicon_of}
use Rattle.syllables.specs.Tests.{word_begins, pre-left, pre-right, word_ends, consonant_left, by-vowel}
use Rattle.syllables.proofs.Tones.{tone-told, tone-near}
use Rattle.base.specs.Pick.{pick}
use Rattle.base.specs.Bits.{flagged}
use Rattle.syllables.proofs.is_at_end_of_syllable.Goals as goal
use Rattle.syllables.proofs.is_at_end_of_syllable.Goals.{then-not-is_alpha_kind-via-then-not-is_alpha_kind, then-not-is_alpha_kind-via-else-not-is_alpha_kind+then-class_flag, then-class_flag-2-via-then-class_flag-2, then-class_flag-2-via-else-class_flag-2+then-not-is_alpha_kind-2}

-- The character two back is known, by its packed class `k`: where a letter or mark stands there, its flag was asked
module _ {w : World} {line : List ℕ} (g : Lined w line) (p : ℕ) (h : p ≤ size_in line) where
  near-back : p - 1 ≤ size w
  near-back = omega (arith, line-size g)

  module _ {k : ℕ} (e : k ≡ kind_in line (p - 1)) where
    back-alpha : {r m : Bool} → r ≡ alpha_kind k → r ≡ m → alpha (kinds w) (prev w.text (p - 1)) ≡ m
    back-alpha q t = sym (alpha-prev g (p - 1) (omega (arith, near-back)) e q) ∙ t

    back-pre : {r m : Bool} → r ≡ flagged (k / 1024) 6 → r ≡ m → (class (kinds w) (prev w.text (p - 1))).pre ≡ m
    back-pre q t = sym (flag_prev g (p - 1) (omega (arith, near-back)) e 6 (λ k. k.pre) (λ m k z. z.pre) q) ∙ t

  -- and the next one, past a tone mark, was asked too
  module _ (q : ℕ) (t : q ≡ pick (flagged (kind_in line (p + 1) / 1024) 5) (p + 1) p) where
    tone : q ≡ past_tone (kinds w) w.text p
    tone = tone-told line p q t g (omega (arith, line-size g))

    near_next : q ≤ size w + 1
    near_next = omega (arith, line-size g, tone-near line p q t)

    module _ {k : ℕ} (e : k ≡ kind_in line (q + 1)) where
      next-pre : {r m : Bool} → r ≡ flagged (k / 1024) 6 → r ≡ m → (class (kinds w) (at w.text q)).pre ≡ m
      next-pre v u = sym (flag_here g q near_next e 6 (λ k. k.pre) (λ m k z. z.pre) v) ∙ u

      next-alpha : {r m : Bool} → r ≡ alpha_kind k → r ≡ m → alpha (kinds w) (at w.text q) ≡ m
      next-alpha v u = sym (alpha-here g q near_next e v) ∙ u

pub returns-then-not-is_alpha_kind : goal.returns-then-not-is_alpha_kind
returns-then-not-is_alpha_kind c =
    elim c.then-not-is_alpha_kind.branch [
      | then-not-is_alpha_kind-via-then-not-is_alpha_kind v ↦ λ w e g.
          asked-none (word_begins (lexicon_of c.args.dicts.now.rules.now w c.args.dicts.now.code.now) w.text (seen w) c.args.p _ (memory (size w) c.args.places.now) refl
          (back-alpha g.text c.args.p c.requires.1 c.kind_at-back.ensures c.is_alpha_kind.ensures v.if-not-is_alpha_kind.true))
      | then-not-is_alpha_kind-via-else-not-is_alpha_kind+then-class_flag v ↦ λ w e g.
          asked-none (pre-left (lexicon_of c.args.dicts.now.rules.now w c.args.dicts.now.code.now) w.text (seen w) c.args.p _ (memory (size w) c.args.places.now) refl
          (back-alpha g.text c.args.p c.requires.1 c.kind_at-back.ensures c.is_alpha_kind.ensures v.if-not-is_alpha_kind.false)
          (back-pre g.text c.args.p c.requires.1 c.kind_at-back.ensures v.class_flag.ensures v.if-class_flag.true))
    ]

pub overflow_add-q : goal.overflow_add-q
overflow_add-q c =
    let near = tone-near c.args.line.now c.args.p c.past_tone-q.result c.past_tone-q.ensures in
    omega arith

pub kind_at-next-requires : goal.kind_at-next-requires
kind_at-next-requires c =
    let near = tone-near c.args.line.now c.args.p c.past_tone-q.result c.past_tone-q.ensures in
    omega arith

pub returns-then-class_flag-2 : goal.returns-then-class_flag-2
returns-then-class_flag-2 c =
    elim c.then-class_flag-2.branch [
      | then-class_flag-2-via-then-class_flag-2 v ↦ λ w e g.
          asked-none (pre-right (lexicon_of c.args.dicts.now.rules.now w c.args.dicts.now.code.now) w.text (seen w) c.args.p c.past_tone-q.result (memory (size w) c.args.places.now) (tone g.text c.args.p c.requires.1 c.past_tone-q.result c.past_tone-q.ensures) (back-alpha g.text c.args.p c.requires.1 c.kind_at-back.ensures c.is_alpha_kind.ensures c.if-not-is_alpha_kind.false) (back-pre g.text c.args.p c.requires.1 c.kind_at-back.ensures c.class_flag.ensures c.if-class_flag.false) (next-pre g.text c.args.p c.requires.1 c.past_tone-q.result c.past_tone-q.ensures c.kind_at-next.ensures c.class_flag-2.ensures v.if-class_flag-2.true))
      | then-class_flag-2-via-else-class_flag-2+then-not-is_alpha_kind-2 v ↦ λ w e g.
          asked-none (word_ends (lexicon_of c.args.dicts.now.rules.now w c.args.dicts.now.code.now) w.text (seen w) c.args.p c.past_tone-q.result (memory (size w) c.args.places.now) (tone g.text c.args.p c.requires.1 c.past_tone-q.result c.past_tone-q.ensures) (back-alpha g.text c.args.p c.requires.1 c.kind_at-back.ensures c.is_alpha_kind.ensures c.if-not-is_alpha_kind.false) (back-pre g.text c.args.p c.requires.1 c.kind_at-back.ensures c.class_flag.ensures c.if-class_flag.false) (next-pre g.text c.args.p c.requires.1 c.past_tone-q.result c.past_tone-q.ensures c.kind_at-next.ensures c.class_flag-2.ensures v.if-class_flag-2.false)
          (next-alpha g.text c.args.p c.requires.1 c.past_tone-q.result c.past_tone-q.ensures c.kind_at-next.ensures v.is_alpha_kind-else-class_flag-2.ensures v.if-not-is_alpha_kind-2.true))
    ]

pub vowel_test-requires : goal.vowel_test-requires
vowel_test-requires c =
    let near = tone-near c.args.line.now c.args.p c.past_tone-q.result c.past_tone-q.ensures in
    omega (arith, near, c.requires.1)

pub returns-then-not-is_closed : goal.returns-then-not-is_closed
returns-then-not-is_closed c =
    λ w e g. let A = c.vowel_test.ensures w e g in record {
      did = by-vowel (lexicon_of c.args.dicts.now.rules.now w c.args.dicts.now.code.now) w.text (seen w) c.args.p c.past_tone-q.result (memory (size w) c.args.places.now) (tone g.text c.args.p c.requires.1 c.past_tone-q.result c.past_tone-q.ensures) (back-alpha g.text c.args.p c.requires.1 c.kind_at-back.ensures c.is_alpha_kind.ensures c.if-not-is_alpha_kind.false) (back-pre g.text c.args.p c.requires.1 c.kind_at-back.ensures c.class_flag.ensures c.if-class_flag.false) (next-pre g.text c.args.p c.requires.1 c.past_tone-q.result c.past_tone-q.ensures c.kind_at-next.ensures c.class_flag-2.ensures c.if-class_flag-2.false)
          (next-alpha g.text c.args.p c.requires.1 c.past_tone-q.result c.past_tone-q.ensures c.kind_at-next.ensures c.is_alpha_kind-else-class_flag-2.ensures c.if-not-is_alpha_kind-2.false)
          (sym (closed-shown g.edges (c.args.p - 1) (omega (arith, near-back g.text c.args.p c.requires.1))) ∙ sym c.is_closed.ensures ∙ c.if-not-is_closed.true) A.did;
      kept = A.kept;
    }

pub returns-else-not-is_closed : goal.returns-else-not-is_closed
returns-else-not-is_closed c =
    λ w e g. asked_by (ap not c.if-not-is_closed.false) (asked-none (consonant_left (lexicon_of c.args.dicts.now.rules.now w c.args.dicts.now.code.now) w.text (seen w) c.args.p c.past_tone-q.result (memory (size w) c.args.places.now) (tone g.text c.args.p c.requires.1 c.past_tone-q.result c.past_tone-q.ensures) (back-alpha g.text c.args.p c.requires.1 c.kind_at-back.ensures c.is_alpha_kind.ensures c.if-not-is_alpha_kind.false) (back-pre g.text c.args.p c.requires.1 c.kind_at-back.ensures c.class_flag.ensures c.if-class_flag.false) (next-pre g.text c.args.p c.requires.1 c.past_tone-q.result c.past_tone-q.ensures c.kind_at-next.ensures c.class_flag-2.ensures c.if-class_flag-2.false)
    (next-alpha g.text c.args.p c.requires.1 c.past_tone-q.result c.past_tone-q.ensures c.kind_at-next.ensures c.is_alpha_kind-else-class_flag-2.ensures c.if-not-is_alpha_kind-2.false) (sym (closed-shown g.edges (c.args.p - 1) (omega (arith, near-back g.text c.args.p c.requires.1))) ∙ sym c.is_closed.ensures ∙ c.if-not-is_closed.false)))
