-- What the expansion makes of a romanization: it goes forward, within the text, in 606 bytes at most.
-- The bytes grow step by step: 1 doubled, 200 of a pre-vowel, 1 of a grave, 200 of a small ya in the place of 1,
-- 1 of a long mark.
-- (proofs/ExpandBounds: step by step.)
use Rattle.std.specs.Prelude.{true, false, ◌&&◌, ◌≡◌, List, [], ◌∷◌, ℕ, ◌+◌, ◌-◌, ◌≤◌, ◌<◌, take, drop}
use Rattle.std.proofs.Math.Path.{refl}
use Rattle.std.proofs.Common.{arith, length-drop, eqb-true}
use Rattle.std.proofs.Math.Dec.{eqb}
use Rattle.std.proofs.Math.ListN.{length}
use Rattle.base.specs.Pick.{pick, pick_all}
use Rattle.base.specs.Bools.{and_left, and_right}
use Rattle.base.specs.Lists.{keep, head, is, same, starts}
use Rattle.base.specs.Alls.{All, All-keep, All-head, Opt, bind_all}
use Rattle.definition.specs.Limits.{most_target}
use Rattle.definition.specs.Texts.{Text, chars, among, the_space, en_dash, addak}
use Rattle.definition.specs.Tables.{Rule, Lexicon}
use Rattle.definition.specs.Classes.{class}
use Rattle.definition.specs.Rules.{first_rule}
use Rattle.definition.specs.Expansion.{Work, doubling, doubled, framed, small_ya}
use Rattle.definition.specs.Shorts.{Short, short_none, short-wide, short-letter, short-one}
use Rattle.definition.specs.Within.{fits_bound}
use Rattle.definition.specs.VowelBounds.{voiced_bytes}

-- Bytes after each step
abbrev pub doubled_bytes : ℕ
doubled_bytes = 1 + voiced_bytes

abbrev pub pre_bytes : ℕ
pre_bytes = doubled_bytes + most_target

abbrev pub grave_bytes : ℕ
grave_bytes = 1 + pre_bytes

abbrev pub small_bytes : ℕ
small_bytes = grave_bytes - 1 + most_target

-- Work that goes forward, within a text of `n`, with `k` bytes at most
pub record Held (n k : ℕ) (w : Work) : Type 0 where
  pub forward : w.from < w.to
  pub inside : w.to ≤ n
  pub short : Short k w.rom

pub held-wide : {n : ℕ} (j : ℕ) {k : ℕ} {w : Work} → j ≤ k → Held n j w → Held n k w
held-wide j l h = record { forward = h.forward; inside = h.inside; short = short-wide j l h.short }

-- What of a rule is spoken: its texts have 200 bytes at most
pub record Spoken (r : Rule) : Type 0 where
  pub target : Opt (Short most_target) r.target
  pub end_target : Opt (Short most_target) r.end_target
  pub others : All (Short most_target) r.others

pub first_short : (rs : List Rule) → All Spoken rs → (w : Text) → Opt (Short most_target) (first_rule rs w)
unfolding first_rule
first_short rs h w =
    bind_all (Short most_target) Spoken (head (keep (λ r. same r.source w) rs)) (λ r. r.target)
    (All-head Spoken _ (All-keep Spoken (λ r. same r.source w) rs h)) (λ r q. q.target)

pub doubled-short : (n c : ℕ) (rom : Text) → Short n rom → Short 1 (doubled c rom)
unfolding doubled
doubled-short n c rom h =
    let P = Short 1 in
    pick_all P (starts (chars "ch") rom)
    {x = pick (eqb c addak) (chars "c") (chars "t")} {y = pick (is doubling (head rom)) (take 1 rom) []}
    (pick_all P (eqb c addak) {x = chars "c"} {y = chars "t"}
    (short-letter 1 99 (omega arith) (omega arith)) (short-letter 1 116 (omega arith) (omega arith)))
    (pick_all P (is doubling (head rom)) {x = take 1 rom} {y = []} (short-one h) (short_none 1))

-- what the Thai pattern takes after the consonant is in the text
pub framed_bound : (t : Text) (c k e : ℕ) (r : Rule) → e ≤ length t → framed t c k e r ≡ true → e + k ≤ length t
unfolding framed
framed_bound t c k e r l b =
    let first = same (take 2 r.source) (c ∷ en_dash ∷ []) in
    let sized = eqb (length r.source) (k + 2) in
    let f = fits_bound t (drop 2 r.source) e l (and_right (first && sized) _ b) in
    let n = eqb-true (length r.source) (k + 2) (and_right first _ (and_left _ _ b)) in
    omega (arith, length-drop 2 r.source)

pub space_not_small : small_ya the_space ≡ false
unfolding small_ya among
space_not_small = refl

module _ (L : Lexicon) (t : Text) (spoken : All Spoken L.rules) (blank : (class L.classes the_space).virama ≡ false) where
  abbrev pub Work_of : ℕ → Work → Type 0
  Work_of k = Held (length t) k
