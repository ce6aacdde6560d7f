-- End of syllable and full search: one law for each way out.
use Rattle.std.specs.Prelude.{Bool, true, false, ◌≡◌, ℕ, ◌+◌, ◌-◌, eqb}
use Rattle.std.proofs.Math.Option.{Option, none, some}
use Rattle.std.proofs.Common.{sym}
use Rattle.base.specs.Pick.{pick}
use Rattle.base.specs.Lists.{has, maybe}
use Rattle.definition.specs.Texts.{Text, at, prev, o_ang}
use Rattle.definition.specs.Tables.{Rule, Lexicon}
use Rattle.definition.specs.Classes.{class, alpha}
use Rattle.definition.specs.Edges.{View, Mem, ret, ◌>>=◌}
use Rattle.definition.specs.Rules.{choose, simple}
use Rattle.definition.specs.Syllables.{opens, past_tone, next_rom, o_ang_test, vowel_test, syllable_at, syllable_end, full}
use Rattle.words.specs.Did.{Did, did, outcome}

module _ (L : Lexicon) (t : Text) (v : View) where
  -- a source of two characters, or else of one
  module _ (q : ℕ) (m : Mem) {m₁ : Mem} {w : Option Text} (d : Did (simple L t v q (q + 2) m) w m₁) where
    pub two-told : has w ≡ true → Did (next_rom L t v q m) w m₁
    unfolding next_rom ret ◌>>=◌ pick
    two-told e = did (rw (outcome d, e))

    pub one_told : has w ≡ false → {u : Option Text} {m₂ : Mem} → Did (simple L t v q (q + 1) m₁) u m₂ → Did (next_rom L t v q m) u m₂
    unfolding next_rom ret ◌>>=◌ pick
    one_told e f = did (rw (outcome d, e) (outcome f))

  pub o_ang_follows : (q : ℕ) (m : Mem) {m₁ : Mem} {u : Option Text} → eqb (at t q) o_ang ≡ true → Did (simple L t v (q + 1) (q + 2) m) u m₁
      → Did (o_ang_test L t v q m) (opens u) m₁
  unfolding o_ang_test ret ◌>>=◌ pick
  o_ang_follows q m e d = did (rw (e, outcome d))

  pub no_o_ang : (q : ℕ) (m : Mem) → eqb (at t q) o_ang ≡ false → Did (o_ang_test L t v q m) false m
  unfolding o_ang_test ret pick
  no_o_ang q m e = did (rw e)

  module _ (q : ℕ) (m : Mem) {m₁ : Mem} {w : Option Text} (d : Did (next_rom L t v q m) w m₁) where
    pub no_vowel : opens w ≡ false → Did (vowel_test L t v q m) true m₁
    unfolding vowel_test ret ◌>>=◌ pick
    no_vowel e = did (rw (outcome d, e))

    pub a_vowel : opens w ≡ true → {b : Bool} {m₂ : Mem} → Did (o_ang_test L t v q m₁) b m₂ → Did (vowel_test L t v q m) b m₂
    unfolding vowel_test ret ◌>>=◌ pick
    a_vowel e f = did (rw (outcome d, e) (outcome f))

  -- the tests of a syllable's end, `q` being `p` past a tone mark
  module _ (p q : ℕ) (m : Mem) (tone : q ≡ past_tone L.classes t p) where
    pub word_begins : alpha L.classes (prev t (p - 1)) ≡ false → Did (syllable_end L t v p m) false m
    unfolding syllable_end syllable_at ret pick
    word_begins a = did (rw a)

    module _ (a : alpha L.classes (prev t (p - 1)) ≡ true) where
      pub pre-left : (class L.classes (prev t (p - 1))).pre ≡ true → Did (syllable_end L t v p m) false m
      unfolding syllable_end syllable_at ret pick
      pre-left b = did (rw (a, b))

      module _ (b : (class L.classes (prev t (p - 1))).pre ≡ false) where
        pub pre-right : (class L.classes (at t q)).pre ≡ true → Did (syllable_end L t v p m) true m
        unfolding syllable_end syllable_at ret pick
        pre-right c = did (rw (sym tone, a, b, c))

        module _ (c : (class L.classes (at t q)).pre ≡ false) where
          pub word_ends : alpha L.classes (at t q) ≡ false → Did (syllable_end L t v p m) true m
          unfolding syllable_end syllable_at ret pick
          word_ends d = did (rw (sym tone, a, b, c, d))

          module _ (d : alpha L.classes (at t q) ≡ true) where
            pub consonant_left : v.closed (p - 1) ≡ true → Did (syllable_end L t v p m) false m
            unfolding syllable_end syllable_at ret pick
            consonant_left e = did (rw (sym tone, a, b, c, d, e))

            pub by-vowel : v.closed (p - 1) ≡ false → {r : Bool} {m₁ : Mem} → Did (vowel_test L t v q m) r m₁ → Did (syllable_end L t v p m) r m₁
            unfolding syllable_end syllable_at ret pick
            by-vowel e f = did (rw (sym tone, a, b, c, d, e) (outcome f))

  -- full search
  module _ (s e : ℕ) (m : Mem) {m₁ : Mem} where
    pub no_rule : Did (choose L t v s e m) none m₁ → Did (full L t v s e m) none m₁
    unfolding full ret ◌>>=◌ maybe
    no_rule d = did (rw (outcome d))

    module _ (r : Rule) (d : Did (choose L t v s e m) (some r) m₁) where
      pub no_end_target : r.end_target ≡ none → Did (full L t v s e m) r.target m₁
      unfolding full ret ◌>>=◌ maybe
      no_end_target n = did (rw (outcome d, n))

      module _ (w : Text) (n : r.end_target ≡ some w) {m₂ : Mem} where
        pub at_end : Did (syllable_end L t v e m₁) true m₂ → Did (full L t v s e m) (some w) m₂
        unfolding full ret ◌>>=◌ maybe pick
        at_end f = did (rw (outcome d, n, outcome f))

        pub inside : Did (syllable_end L t v e m₁) false m₂ → Did (full L t v s e m) r.target m₂
        unfolding full ret ◌>>=◌ maybe pick
        inside f = did (rw (outcome d, n, outcome f))
