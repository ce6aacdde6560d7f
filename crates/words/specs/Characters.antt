-- What the packed classes of the line tell of its characters: `k` is a number that was read there, `r` what was answered
-- of it.
use Rattle.std.specs.Prelude.{Bool, List, ◌≡◌, ℕ, ◌+◌, ◌/◌, ◌%◌, ◌≤◌}
use Rattle.std.proofs.Common.{ap, ◌∙◌}
use Rattle.base.specs.Bits.{flagged}
use Rattle.definition.specs.Texts.{Text, at, prev}
use Rattle.definition.specs.Tables.{Class}
use Rattle.definition.specs.Classes.{class, alpha, script}
use Rattle.table_classes.specs.Packing.{Says, says_script}
use Rattle.words.specs.Given.{World, kinds, size, kind_in, Lined, alpha_kind, alpha-before, alpha-at, kind_before, kind_at}

-- A flag by its number and its name
abbrev pub Named : ℕ → (Class → Bool) → Type 0
Named i f = (m : ℕ) (c : Class) → Says m c → flagged (m / 1024) i ≡ f c

module _ {w : World} {line : List ℕ} (g : Lined w line) (p : ℕ) where
  abbrev ks : List Class
  ks = kinds w

  abbrev t : Text
  t = w.text

  abbrev n : ℕ
  n = size w

  -- of the character before a position
  module _ (h : p ≤ n + 2) {k : ℕ} (e : k ≡ kind_in line p) where
    pub alpha-prev : {r : Bool} → r ≡ alpha_kind k → r ≡ alpha ks (prev t p)
    alpha-prev q = q ∙ ap alpha_kind e ∙ alpha-before g p h

    pub flag_prev : (i : ℕ) (f : Class → Bool) → Named i f → {r : Bool} → r ≡ flagged (k / 1024) i → r ≡ f (class ks (prev t p))
    flag_prev i f said q = q ∙ ap (λ (x : ℕ). flagged (x / 1024) i) e ∙ said (kind_in line p) (class ks (prev t p)) (kind_before g p h)

    pub script-prev : {s : ℕ} → s ≡ k / 8 % 128 → s ≡ script ks (prev t p)
    script-prev q = q ∙ ap (λ (x : ℕ). x / 8 % 128) e ∙ says_script (kind_in line p) (prev t p) ks (kind_before g p h)

  -- of the one at a position
  module _ (h : p ≤ n + 1) {k : ℕ} (e : k ≡ kind_in line (p + 1)) where
    pub alpha-here : {r : Bool} → r ≡ alpha_kind k → r ≡ alpha ks (at t p)
    alpha-here q = q ∙ ap alpha_kind e ∙ alpha-at g p h

    pub flag_here : (i : ℕ) (f : Class → Bool) → Named i f → {r : Bool} → r ≡ flagged (k / 1024) i → r ≡ f (class ks (at t p))
    flag_here i f said q = q ∙ ap (λ (x : ℕ). flagged (x / 1024) i) e ∙ said (kind_in line (p + 1)) (class ks (at t p)) (kind_at g p h)

    pub script-here : {s : ℕ} → s ≡ k / 8 % 128 → s ≡ script ks (at t p)
    script-here q = q ∙ ap (λ (x : ℕ). x / 8 % 128) e ∙ says_script (kind_in line (p + 1)) (at t p) ks (kind_at g p h)
