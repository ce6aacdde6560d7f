-- A position past a tone mark, by the packed classes.
use mathlib.Core.Bool.{Bool}
use mathlib.Core.List.{List}
use mathlib.Core.Path.{◌≡◌, sym, ap, ◌∙◌, subst}
use Prim.Native.Nat.{ℕ, ◌+◌, ◌/◌, ◌≤◌}
use native.Mathlib.Omega.{arith}
use Rattle.base.specs.Pick.{pick, pick_all}
use Rattle.base.specs.Bits.{flagged}
use Rattle.definition.specs.Syllables.{past_tone}
use Rattle.words.specs.Given.{World, kinds, size, kind_in, Lined, kind_at}

-- `q` is what was answered of the line at `p`
module _ (line : List ℕ) (p q : ℕ) (e : q ≡ pick (flagged (kind_in line (p + 1) / 1024) 5) (p + 1) p) where
  pub tone-near : q ≤ p + 1
  tone-near = subst (λ (x : ℕ). x ≤ p + 1) (sym e) (pick_all (λ (x : ℕ). x ≤ p + 1) (flagged (kind_in line (p + 1) / 1024) 5) {x = p + 1} {y = p} (omega arith) (omega arith))

  pub tone-told : {w : World} → Lined w line → p ≤ size w + 1 → q ≡ past_tone (kinds w) w.text p
  unfolding past_tone
  tone-told g h = e ∙ ap (λ (b : Bool). pick b (p + 1) p) (kind_at g p h).tone
