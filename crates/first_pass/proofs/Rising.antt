-- One start: what a look-up tells of its span, and that no edge from before equals the next.
use Prim.Native.Nat.{ℕ, ◌+◌, ◌≤◌}
use Rattle.std.specs.Prelude.{Ok}
use mathlib.Core.Bool.{Bool, true, false, ◌||◌}
use mathlib.Core.Option.{none}
use lib.Dec.{ltb}
use mathlib.Core.List.{List}
use mathlib.Core.Path.{◌≡◌, sym, ap, ◌∙◌}
use Rattle.definition.specs.Texts.{Text}
use Rattle.definition.specs.RuleRows.{rules_of}
use Rattle.definition.specs.RuleFaults.{rule_fault}
use Rattle.definition.specs.Tables.{Tables}
use Rattle.definition.specs.Edges.{State, view}
use Rattle.definition.specs.Rules.{is_prefix}
use Rattle.definition.specs.Limits.{most_bytes}
use Rattle.definition.specs.Building.{span_edge, build}
use Rattle.definition.specs.Growth.{put_in-grown, rise-grown}
use Rattle.definition.specs.Call.{tables_of}
use Rattle.edge.specs.declared.Filled.{Filled}
use Rattle.edge.specs.declared.Taken.{Taken}
use Rattle.edge.specs.Answers.{Answer}
use Rattle.edge.specs.Slots.{edges_of}
use Rattle.words.specs.declared.Look.{Look}
use Rattle.words.specs.Given.{World, kinds, size, Lined}
use Rattle.words.specs.Looks.{Looked, looked_prefix, looked_last}
use Rattle.passes.specs.Reached.{Over, state_of, Reached, Refused, reached_as}
use Rattle.passes.proofs.Passing.{kept, Going, going_over, going_refused, going_next, going_used, going_edges}
use Rattle.first_pass.specs.Rises.{put_span, rises, rise-over, rise_stops, rise_turn}
use Rattle.first_pass.specs.Fresh.{Fresh, fresh-later}

-- with the edge of a span behind them the first edges are the same
pub rising_fresh : (D : Tables) (t : Text) (n s e : ℕ) {S R : List ℕ} {filled : Filled} → Fresh s S R filled → (P S' R' : List ℕ) (k v : ℕ)
    → edges_of R' k S' ≡ (put_span D t s e (kept n S R P filled.count)).0 → Fresh s S' R' (record { count = k; used = v; since = filled.since })
rising_fresh D t n s e {S} {R} {filled} f P S' R' k v q =
    let g = (put_in-grown (λ es. span_edge D t (view D.classes es) s e) (kept n S R P filled.count)).added in
    fresh-later f S' R' k v (record { more = g.more; is = q ∙ g.is; all = g.all })

-- What was looked up of a span tells whether it is a prefix of a source, and whether the next one is
module _ {rules line : List ℕ} (a : rule_fault rules ≡ none) {look : Look} (d : Looked rules line look) (s e : ℕ) (f : look.span.from ≡ s) (g : look.span.to ≡ e)
    {w : World} (l : Lined w line) where
  pub look_prefix : (b : Bool) → b ≡ (ltb 0 look.found.count || look.found.more) → is_prefix (rules_of rules) w.text s e ≡ b
  look_prefix b q =
      ap (λ (k : ℕ). is_prefix (rules_of rules) w.text k e) (sym f) ∙ ap (is_prefix (rules_of rules) w.text look.span.from) (sym g)
      ∙ looked_prefix a d l ∙ sym q

  pub look_last : look.found.more ≡ false → is_prefix (rules_of rules) w.text s (e + 1) ≡ false
  look_last q =
      ap (λ (k : ℕ). is_prefix (rules_of rules) w.text k (e + 1)) (sym f)
      ∙ ap (λ (k : ℕ). is_prefix (rules_of rules) w.text look.span.from (k + 1)) (sym g) ∙ looked_last a d l q

  -- the edge of the span, by its ends
  pub look_span : (D : Tables) (t : Text) (st : State) → put_span D t look.span.from look.span.to st ≡ put_span D t s e st
  look_span D t st = ap (λ (k : ℕ). put_span D t k look.span.to st) f ∙ ap (λ (k : ℕ). put_span D t s k st) g

-- What is left of a start from its end `e` on: `left` ends at most, of the whole that was begun with `P₀`
module _ (rules vowels code : List ℕ) {ready line S₀ R₀ P₀ : List ℕ} {w : World} {filled : Filled} (o : Over w ready line S₀ R₀ P₀ filled)
    (s e left most : ℕ) {S R P : List ℕ} {t : Taken}
    (g : Going (rises (tables_of w.choices rules w.classes vowels code) w.text s e left) (kinds w) (size w) S₀ R₀
    (build (tables_of w.choices rules w.classes vowels code) w.text s (state_of w P₀)) S R P t.count t.used) where
  abbrev D : Tables
  D = tables_of w.choices rules w.classes vowels code

  abbrev whole : State
  whole = build D w.text s (state_of w P₀)

  abbrev now : State
  now = kept (size w) S R P t.count

  -- past what is a prefix nothing is left
  pub rising_ended : t.used ≤ most → is_prefix D.rules w.text s e ≡ false → Reached (kinds w) (size w) S₀ R₀ S R P most whole (Ok t)
  rising_ended l h = going_over g most l (rise_stops D w.text s e left now h)

  pub rising_over : t.used ≤ most → left ≡ 0 → Reached (kinds w) (size w) S₀ R₀ S R P most whole (Ok t)
  rising_over l h = going_over g most l (rise-over D w.text s e left now h)

  -- the edge of the span to `e`, which was looked up, is added
  module _ (a : rule_fault rules ≡ none) {look : Look} (d : Looked rules line look) (f : look.span.from ≡ s) (k : look.span.to ≡ e)
      (known : true ≡ (ltb 0 look.found.count || look.found.more)) (j : ℕ) (n : left ≡ j + 1) {S' R' P' : List ℕ} (r : Answer)
      (b : Reached (kinds w) (size w) S R S' R' P' (t.used + most_bytes) (put_span D w.text look.span.from look.span.to now) r) where
    turned : rises D w.text s e left now ≡ rises D w.text s (e + 1) j (put_span D w.text s e now)
    unfolding tables_of
    turned = rise_turn D w.text s e left j now n (look_prefix a d s e f k o.lent.text true known)

    asked : Reached (kinds w) (size w) S R S' R' P' (t.used + most_bytes) (put_span D w.text s e now) r
    asked = reached_as _ (look_span a d s e f k o.lent.text D w.text now) r b

    pub rising_refused : Refused r → Reached (kinds w) (size w) S₀ R₀ S' R' P' most whole r
    rising_refused = going_refused g (put_span D w.text s e) (rises D w.text s (e + 1) j) turned r asked
        (rise-grown D w.text j (is_prefix D.rules w.text s (e + 1)) s (e + 1) (put_span D w.text s e now)).added most

    module _ (u : Taken) (q : r ≡ Ok u) where
      pub rising_next : Going (rises D w.text s (e + 1) j) (kinds w) (size w) S₀ R₀ whole S' R' P' u.count u.used
      rising_next = going_next g (put_span D w.text s e) (rises D w.text s (e + 1) j) turned r asked u.count u.used q

      pub rising_used : u.used ≤ t.used + most_bytes
      rising_used = going_used g (put_span D w.text s e) (rises D w.text s (e + 1) j) turned r asked u.count u.used q

      pub rising-fresh : (since : ℕ) → Fresh s S R (record { count = t.count; used = t.used; since = since })
          → Fresh s S' R' (record { count = u.count; used = u.used; since = since })
      rising-fresh since h = rising_fresh D w.text (size w) s e h P S' R' u.count u.used
          (going_edges g (put_span D w.text s e) (rises D w.text s (e + 1) j) turned r asked u.count u.used q)
