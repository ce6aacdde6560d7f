-- The three forms that `Forms` stands for, and the chosen one.
use Rattle.std.specs.Prelude.{ℕ, ◌≤◌, [], ◌++◌, true, ◌≡◌, take}
use Rattle.std.proofs.Math.Seq.{slice}
use Rattle.base.specs.Pick.{pick}
use Rattle.definition.specs.Texts.{Text}
use Rattle.ends.specs.declared.Forms.{Forms}
use Rattle.ends.specs.declared.Which.{Which}

-- inside a text of `n` bytes; a vowel is added to the whole
abbrev pub Within : ℕ → Forms → Type 0
Within n f =
    (f.rom ≤ n) × (f.from ≤ f.to) × (f.to ≤ f.end) × (f.end ≤ n)
    × (f.add ≡ true → (f.from ≡ 0) × (f.end ≡ n))

-- where no pattern is found
abbrev pub unmatched : ℕ → Forms
unmatched n = record { rom = n; from = 0; to = n; end = n; add = true }

-- the romanization, the base, the base with its vowel
unfoldable pub shown : Text → Text → Forms → Text × Text × Text
shown s vowel f =
    (take f.rom s, slice f.from f.to s, slice f.from f.end s ++ pick f.add vowel [])

unfoldable pub form_means : Which → Text × Text × Text → Text
form_means Which.Rom u = u.0
form_means Which.Base u = u.1
form_means Which.Plus u = u.2
