-- One start of the first pass: its ends rise while the span is a prefix of a source.
use Prim.Native.Nat.{ℕ, zero, suc, ◌+◌, ◌≤◌, ◌<◌}
use Rattle.std.specs.Prelude.{Bool, true, false, List, ◌≡◌, length}
use Rattle.std.proofs.Math.Path.{refl, ap}
use Rattle.std.proofs.Common.{◌∙◌, arith}
use Rattle.definition.specs.Texts.{Text}
use Rattle.definition.specs.Tables.{Rule, Tables}
use Rattle.definition.specs.Edges.{State, view}
use Rattle.definition.specs.Rules.{is_prefix}
use Rattle.definition.specs.Building.{put_in, span_edge, rise}
use Rattle.definition.specs.Within.{prefix_bound}

-- past the text no span is a prefix
pub prefix_past : (rs : List Rule) (t : Text) (s e : ℕ) → s ≤ length t → s < e → length t < e → false ≡ is_prefix rs t s e
prefix_past rs t s e l h k = go (is_prefix rs t s e) refl
  where
    go : (b : Bool) → is_prefix rs t s e ≡ b → false ≡ b
    go true q = absurd (let z = prefix_bound rs t s e l h q in omega arith)
    go false q = refl

module _ (D : Tables) (t : Text) where
  -- what a span adds
  abbrev pub put_span : ℕ → ℕ → State → State
  put_span s e st = put_in (λ es. span_edge D t (view D.classes es) s e) st

  -- what is left of a start from the end `e` on, with `k` ends at most
  module _ (s e : ℕ) where
    abbrev pub rises : ℕ → State → State
    rises k st = rise D t k (is_prefix D.rules t s e) s e st

    pub rise-over : (k : ℕ) (st : State) → k ≡ 0 → rises k st ≡ st
    unfolding rise
    rise-over k st h = ap (λ (k : ℕ). rise D t k (is_prefix D.rules t s e) s e st) h

    pub rise_stops : (k : ℕ) (st : State) → is_prefix D.rules t s e ≡ false → rises k st ≡ st
    unfolding rise
    rise_stops zero st h = refl
    rise_stops (suc k) st h = ap (λ (b : Bool). rise D t (suc k) b s e st) h

    pub rise_turn : (k j : ℕ) (st : State) → k ≡ j + 1 → is_prefix D.rules t s e ≡ true
        → rises k st ≡ rise D t j (is_prefix D.rules t s (e + 1)) s (e + 1) (put_span s e st)
    unfolding rise
    rise_turn k j st l h =
        ap (λ (n : ℕ). rise D t n (is_prefix D.rules t s e) s e st) {x = k} {y = suc j} (omega arith)
        ∙ ap (λ (b : Bool). rise D t (suc j) b s e st) h
