-- End of syllable (`is_at_end_of_syllable`), and the full search that asks it.
-- A position outside the text reads as a space. In an accepted table that is no letter or mark, no tone mark and
-- not written before a consonant (Blank), so the Rust's answers for the text's start and end are those for a space.
use Rattle.std.specs.Prelude.{Bool, true, false, not, List, ℕ, ◌+◌, ◌-◌, eqb}
use Rattle.std.proofs.Math.Option.{Option, none, some}
use Rattle.base.specs.Pick.{pick}
use Rattle.base.specs.Lists.{head, has, is, maybe}
use Rattle.definition.specs.Texts.{Text, at, prev, vowels, lower, o_ang}
use Rattle.definition.specs.Tables.{Class, Lexicon}
use Rattle.definition.specs.Classes.{class, alpha}
use Rattle.definition.specs.Edges.{View, M, ret, ◌>>=◌}
use Rattle.definition.specs.Rules.{choose, simple}

-- VOWEL_START_RE: ^[aeiou], asked of the romanization in lower case
unfoldable pub opens : Option Text → Bool
opens o = is (λ w. is (λ c. vowels (lower c)) (head w)) o

-- one tone mark is skipped
unfoldable pub past_tone : List Class → Text → ℕ → ℕ
past_tone ks t p = pick (class ks (at t p)).tone (p + 1) p

module _ (L : Lexicon) (t : Text) (v : View) where
  -- a source of two characters before a source of one
  unfoldable pub next_rom : ℕ → M (Option Text)
  next_rom q = do
    w ← simple L t v q (q + 2)
    pick (has w) (ret w) (simple L t v q (q + 1))

  -- "o-ang-followed-by-vowel", else "not-at-syllable-end-by-default"
  unfoldable pub o_ang_test : ℕ → M Bool
  o_ang_test q = pick (eqb (at t q) o_ang)
      (do
        u ← simple L t v (q + 1) (q + 2)
        ret (opens u))
      (ret false)

  -- "not-followed-by-vowel"
  unfoldable pub vowel_test : ℕ → M Bool
  vowel_test q = do
    w ← next_rom q
    pick (not (opens w)) (ret true) (o_ang_test q)

  -- End of syllable at `p`; `q` is `p` past a tone mark. The tests in the file's order, each with the Rust's reason:
  -- the character two back from `p` is none or no letter or mark ("start-of-string", "start-of-token")
  -- or written before its consonant ("pre-post-vowel-on-left");
  -- the next one is written before its consonant ("pre-post-vowel-on-right"),
  -- is none or no letter or mark ("end-of-string", "end-of-token");
  -- the edge that ends one back from `p` ends in a consonant ("consonant-to-the-left")
  unfoldable pub syllable_at : ℕ → ℕ → M Bool
  syllable_at p q =
      pick (not (alpha L.classes (prev t (p - 1)))) (ret false)
      (pick (class L.classes (prev t (p - 1))).pre (ret false)
      (pick (class L.classes (at t q)).pre (ret true)
      (pick (not (alpha L.classes (at t q))) (ret true)
      (pick (v.closed (p - 1)) (ret false)
      (vowel_test q)))))

  unfoldable pub syllable_end : ℕ → M Bool
  syllable_end p = syllable_at p (past_tone L.classes t p)

  -- Full search: the winner's end-of-syllable target where it has one and the span's end is an end of syllable,
  -- else its target
  unfoldable pub full : ℕ → ℕ → M (Option Text)
  full s e = do
    o ← choose L t v s e
    maybe o (ret none) (λ r. maybe r.end_target (ret r.target) (λ w. do
      b ← syllable_end e
      ret (pick b (some w) r.target)))
