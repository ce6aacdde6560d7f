-- The edge of a span: one law for each way out, and the bytes of what full search answers.
use Rattle.std.specs.Prelude.{Bool, true, false, [], ◌∷◌, ◌≡◌, refl, ℕ, ◌≤◌, length}
use Rattle.std.proofs.Math.Option.{Option, none, some}
use Rattle.std.proofs.Math.Path.{sym}
use Rattle.std.proofs.Common.{ap, ◌∙◌, arith, eq-eqb, ne_eqb}
use Rattle.base.specs.Pick.{pick, pick_all}
use Rattle.base.specs.Lists.{tail, has, maybe}
use Rattle.definition.specs.Notes.{note_none, note_rom, note_core, note_tail}
use Rattle.definition.specs.Texts.{Text}
use Rattle.definition.specs.Tables.{Tables, lexicon}
use Rattle.definition.specs.Edges.{Edge, View, Mem, ret, ◌>>=◌}
use Rattle.definition.specs.Syllables.{full}
use Rattle.definition.specs.Vowels.{vowel_step}
use Rattle.definition.specs.Expansion.{Work, work, expand}
use Rattle.definition.specs.Building.{is_tail, without_plus, grown, as_edge, edge_of, span_edge}
use Rattle.words.specs.Did.{Did, did, did_by, outcome}
use Rattle.rule_choice.specs.Chosen.{or_nothing}

-- an edge by its parts
abbrev pub edge_by : ℕ → ℕ → ℕ → ℕ → Text → Edge
edge_by s e n k w = record { from = s; to = e; note = n; core = k; text = w }

-- The annotation: by the expansion, or else by what the vowel step did and whether it is a tail
module _ (tail : Bool) (rom new w : Text) (s e n : ℕ) where
  pub by_expansion : (n ≡ note_none → ⊥) → edge_by s e n 0 w ≡ as_edge tail rom new (work w s e n)
  unfolding as_edge pick
  by_expansion a = simp (ne_eqb n note_none a)

  module _ (a : n ≡ note_none) where
    pub by-vowels : grown rom new ≡ true → edge_by s e note_core (length rom) w ≡ as_edge tail rom new (work w s e n)
    unfolding as_edge pick
    by-vowels g = simp (eq-eqb n note_none a, g)

    module _ (g : grown rom new ≡ false) where
      pub by-tail : tail ≡ true → edge_by s e note_tail 0 w ≡ as_edge tail rom new (work w s e n)
      unfolding as_edge pick
      by-tail b = simp (eq-eqb n note_none a, g, b)

      pub as_plain : tail ≡ false → edge_by s e note_rom 0 w ≡ as_edge tail rom new (work w s e n)
      unfolding as_edge pick
      as_plain b = simp (eq-eqb n note_none a, g, b)

-- a text that is there, and none
there-is : (o : Option Text) → has o ≡ true → o ≡ some (or_nothing o)
there-is none e = absurd (let z : ◌≡◌ {A = ℕ} 0 1 = cc in omega arith)
there-is (some w) e = refl

none-there : (o : Option Text) → has o ≡ false → o ≡ none
none-there none e = refl
none-there (some w) e = absurd (let z : ◌≡◌ {A = ℕ} 0 1 = cc in omega arith)

module _ (D : Tables) (t : Text) (v : View) where
  -- vowel step, then expansion
  pub edge-done : (tail : Bool) (rom new : Text) (x : Work) (s e : ℕ) (m : Mem) {m₁ m₂ : Mem}
      → Did (vowel_step (lexicon D) t v D.vowels tail rom s e m) new m₁ → Did (expand (lexicon D) t v D.choices new s e m₁) x m₂
      → Did (edge_of D t v tail rom s e m) (as_edge tail rom new x) m₂
  unfolding edge_of ret ◌>>=◌
  edge-done tail rom new x s e m d f = did (rw (outcome d, outcome f))

  -- by what full search answers
  module _ (s e : ℕ) (m : Mem) {m₁ : Mem} (o : Option Text) (d : Did (full (lexicon D) t v s e m) o m₁) where
    pub span_untold : has o ≡ false → Did (span_edge D t v s e m) none m₁
    unfolding span_edge ret ◌>>=◌ maybe
    span_untold a = did (rw (outcome (did_by (sym (none-there o a)) d)))

    module _ (a : has o ≡ true) (w : Text) (b : w ≡ or_nothing o) where
      told_as : some w ≡ o
      told_as = ap some b ∙ sym (there-is o a)

      pub span_told : (tail : Bool) (rom : Text) → tail ≡ is_tail w → rom ≡ without_plus w → {x : Edge} {m₂ : Mem}
          → Did (edge_of D t v tail rom s e m₁) x m₂ → Did (span_edge D t v s e m) (some x) m₂
      unfolding span_edge ret ◌>>=◌ maybe
      span_told tail rom p q f = did (rw (outcome (did_by told_as d), sym p, sym q, outcome f))

-- a tail's bytes are no more without its plus
pub plus_few : (w : Text) → length (without_plus w) ≤ length w
unfolding without_plus
plus_few w = pick_all (λ (u : Text). length u ≤ length w) (is_tail w) {x = tail w} {y = w} (shorter w) (omega arith)
  where
    shorter : (w : Text) → length (tail w) ≤ length w
    shorter [] = omega arith
    shorter (c ∷ w) = omega arith
