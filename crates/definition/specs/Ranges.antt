-- What the engine relies on in accepted tables: sources of 1 to 16 characters, and vowel scripts of at least 1.
-- (proofs/Ranges: the sources. proofs/Risen: the vowel scripts.)
use Rattle.std.specs.Prelude.{Bool, ◌≡◌, List, [], ◌∷◌, eqb, length}
use Rattle.std.proofs.Math.Bool.{true, false}
use Rattle.std.proofs.Math.Path.{refl}
use Rattle.std.proofs.Common.{ap, ◌∙◌, ne_eqb}
use Rattle.std.proofs.Math.Option.{none}
use Prim.Native.Nat.{ℕ, zero, suc, ◌+◌, ◌-◌, ◌≤◌, ◌<◌}
use native.Mathlib.Omega.{arith}
use Rattle.base.specs.Lists.{put, keep, head}
use Rattle.base.specs.Alls.{All, All-map}
use Rattle.definition.specs.Limits.{most_source}
use Rattle.definition.specs.Texts.{Text}
use Rattle.definition.specs.Tables.{Rule, Vowel, Tables, script_none}
use Rattle.definition.specs.Edges.{State, view}
use Rattle.definition.specs.Rules.{is_prefix}
use Rattle.definition.specs.Vowels.{vowel_row}
use Rattle.definition.specs.Building.{put_in, span_edge, rise, build}
use Rattle.definition.specs.Within.{prefix_most}

-- Sources
pub record Sourced (r : Rule) : Type 0 where
  pub least : 1 ≤ length r.source
  pub most : length r.source ≤ most_source

-- so 16 rising ends are all: with more allowed, the same edges come
module _ (D : Tables) (t : Text) (sourced : All Sourced D.rules) where
  rise_enough : (f g : ℕ) (b : Bool) (s e : ℕ) (st : State) → s < e → most_source < e - s + f → most_source < e - s + g
      → (b ≡ true → e - s ≤ most_source) → rise D t f b s e st ≡ rise D t g b s e st
  unfolding rise
  rise_enough zero zero b s e st l m n h = refl
  rise_enough zero (suc g) false s e st l m n h = refl
  rise_enough zero (suc g) true s e st l m n h = let z = h refl in absurd (omega arith)
  rise_enough (suc f) zero false s e st l m n h = refl
  rise_enough (suc f) zero true s e st l m n h = let z = h refl in absurd (omega arith)
  rise_enough (suc f) (suc g) false s e st l m n h = refl
  rise_enough (suc f) (suc g) true s e st l m n h =
      rise_enough f g (is_prefix D.rules t s (e + 1)) s (e + 1)
      (put_in (λ es. span_edge D t (view D.classes es) s e) st) (omega arith) (omega arith) (omega arith)
      (prefix_most most_source D.rules t s (e + 1) (All-map (λ r q. q.most) D.rules sourced))

  pub ends_enough : (k p : ℕ) (st : State) → most_source ≤ k
      → rise D t k (is_prefix D.rules t p (p + 1)) p (p + 1) st ≡ build D t p st
  unfolding build
  ends_enough k p st l =
      rise_enough k most_source (is_prefix D.rules t p (p + 1)) p (p + 1) st (omega arith) (omega arith) (omega arith)
      (prefix_most most_source D.rules t p (p + 1) (All-map (λ r q. q.most) D.rules sourced))

-- A character of no script takes no vowel, as the Rust says before it looks for a row
pub no_vowel : (vs : List Vowel) → All (λ y. 1 ≤ y.script) vs → vowel_row vs script_none ≡ none
unfolding vowel_row keep head
no_vowel [] h = refl
no_vowel (y ∷ vs) h =
    let l = h.0 in
    ap (λ b. head (put b y (keep (λ y. eqb y.script script_none) vs))) (ne_eqb y.script script_none (λ e. omega arith)) ∙ no_vowel vs h.1
