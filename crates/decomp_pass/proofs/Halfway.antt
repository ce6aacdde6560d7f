-- The pass when it comes to a start: of every world over what was lent it is underway, and what speaks of no world holds. From
-- there a stretch of starts can be run.
use Rattle.std.specs.Prelude.{Ok, Err}
use Prim.Native.Nat.{ℕ, ◌+◌, ◌-◌, ◌*◌, ◌≤◌}
use mathlib.Core.List.{List, []}
use mathlib.Core.Path.{◌≡◌, refl, sym, ap, ◌∙◌, subst}
use native.Mathlib.Omega.{arith}
use lib.ListN.{length, set, length-replicate}
use Rattle.base.specs.Rows.{counted}
use Rattle.base.specs.Alls.{All}
use Rattle.definition.specs.Limits.{most_source, most_edges, most_bytes}
use Rattle.definition.specs.Texts.{Text}
use Rattle.definition.specs.Tables.{Decomposition, Tables}
use Rattle.definition.specs.Edges.{State}
use Rattle.definition.specs.Building.{each, build}
use Rattle.definition.specs.Decomposing.{start}
use Rattle.definition.specs.DecompositionRows.{decompositions_of}
use Rattle.definition.specs.Growth.{Added, each-added}
use Rattle.definition.specs.Bounds.{Bounded, Ruled}
use Rattle.definition.proofs.Bounds.{build-ruled}
use Rattle.definition.proofs.Promises.{tables-bounded}
use Rattle.definition.specs.Call.{tables_of}
use Rattle.edge.specs.Answers.{Answer}
use Rattle.edge.specs.Slots.{edges_of}
use Rattle.standing.specs.Starts.{begun as begun-at}
use Rattle.standing.specs.Begun.{Begun}
use Rattle.standing.specs.Stands.{Ahead}
use Rattle.words.specs.Given.{World, kinds, size, size_in, line-size}
use Rattle.words.specs.declared.given.Dicts.{Dicts}
use Rattle.passes.specs.Reached.{nothing, Over, state_of, with_edges}
use Rattle.passes.proofs.Passing.{kept, going_lent}
use Rattle.first_pass.specs.declared.Stretch.{Stretch}
use Rattle.first_pass.specs.FirstPass as first
use Rattle.first_pass.proofs.Passes.{begun-zeros}
use Rattle.decomp.specs.Answers.{as_grew}
use Rattle.decomp.specs.Grown.{Before, GrewTo}
use Rattle.decomp_pass.specs.Passes.{PassReady, Passes, Begins}
use Rattle.decomp_pass.proofs.Onward.{spans-grew, spans-before}
use Rattle.decomp_pass.proofs.Passing.{Underway, underway_first, underway_over}
use Rattle.decomp_pass.proofs.Between.{turn_rest, next_off}
use Rattle.table_decompositions.specs.Next.{next_form}

-- the tables of a world
abbrev pub tables : Dicts → World → Tables
tables dicts w = tables_of w.choices dicts.rules.now w.classes dicts.vowels.now dicts.code.now

module _ (dicts : Dicts) (line S₀ R₀ P₀ : List ℕ) where
  abbrev ds : List Decomposition
  ds = decompositions_of dicts.decompositions.now

  -- it is underway, with `rest` left
  abbrev pub On : (Tables → Text → State → State) → List ℕ → List ℕ → List ℕ → ℕ → ℕ → ℕ → Type 0
  On rest S R P c u s =
      (w : World) → w.classes ≡ dicts.classes.now → Over w dicts.ready.now line S₀ R₀ P₀ nothing
      → Underway (tables dicts w) ds w.text (kinds w) (size w) S₀ R₀ (each (start (tables dicts w) ds w.text) (size w) 0 (state_of w P₀))
      (rest (tables dicts w) w.text) S R P c u s

  pub record Halfway (S R P starts : List ℕ) (c u s : ℕ) : Type 0 where
    pub on : On (λ D t. each (start D ds t) (size_in line - s) s) S R P c u s
    pub begun : Begun (edges_of R c S) s (set starts s c)
    pub sized : length starts ≡ size_in line + 1
    pub ahead : All (λ x. Ahead (size_in line) x.from x.to) (edges_of R c S)
    pub few : c ≤ s * most_edges
    pub little : u ≤ s * (most_edges * most_bytes)
    pub inside : s ≤ size_in line

module _ {dicts : Dicts} {line S₀ R₀ P₀ noted : List ℕ} (pre : PassReady dicts line S₀ R₀ P₀ noted) where
  abbrev n : ℕ
  n = size_in line

  abbrev forms : List Decomposition
  forms = decompositions_of dicts.decompositions.now

  abbrev D : World → Tables
  D = tables dicts

  abbrev Half : List ℕ → List ℕ → List ℕ → List ℕ → ℕ → ℕ → ℕ → Type 0
  Half = Halfway dicts line S₀ R₀ P₀

  -- it begins with no edges
  pub halfway_first : Half S₀ R₀ P₀ noted 0 0 0
  unfolding counted
  halfway_first = record {
    on = λ w same o. underway_first (D w) forms o (n - 0) (omega (arith, line-size o.lent.text));
    begun = subst (λ (l : List ℕ). Begun [] 0 (set l 0 0)) (sym pre.starts) (begun-zeros (n + 1) (omega arith));
    sized = ap length pre.starts ∙ length-replicate (n + 1) 0;
    ahead = tt;
    few = omega arith;
    little = omega arith;
    inside = omega arith;
  }

  -- From a start on, up to another
  module _ {S R P starts : List ℕ} {c u s : ℕ} (h : Half S R P starts c u s) (to : ℕ) (l : s ≤ to) (m : to ≤ n) where
    abbrev pub stretch : Stretch
    stretch = record { count = c; used = u; from = s; to = to }

    pub stretch_ready : first.PassReady dicts.rules.now dicts.ready.now dicts.vowels.now line S R P starts stretch
    stretch_ready =
        let w = pre.somewhere.world in
        let o = pre.somewhere.over in
        record {
          table = dicts.prepared;
          inherent = pre.forms.inherent;
          forward = l;
          inside = m;
          somewhere = record { world = with_edges w (edges_of R c S); over = going_lent o c (h.on w pre.same o).going };
          begun = h.begun;
          ahead = h.ahead;
          sized = h.sized;
          few = h.few;
          little = h.little;
        }

    -- what it answers, in a world
    module _ (S' R' P' : List ℕ) (a : Answer) (built : first.FirstPass dicts.rules.now dicts.ready.now dicts.vowels.now dicts.code.now line (S, R, P) (S', R', P') stretch a)
        (w : World) (same : w.classes ≡ dicts.classes.now) (o : Over w dicts.ready.now line S₀ R₀ P₀ nothing) where
      abbrev pub st : State
      st = kept (size w) S R P c

      abbrev pub spans : State → State
      spans = each (build (D w) w.text) (to - s) s

      ok : Bounded (D w)
      ok = tables-bounded w.choices dicts.rules.now w.classes dicts.vowels.now dicts.code.now dicts.prepared.table.accepted o.lent.text.fine pre.forms.inherent

      more : Added (Ruled w.text) st.0 (spans st).0
      more = each-added (size w) (build (D w) w.text) (build-ruled (D w) ok w.text) (to - s) s st (omega (arith, l, m, line-size o.lent.text))

      pub stretch-grew : GrewTo (D w) forms w.text (kinds w) (size w) S R S' R' P' (u + (to - s) * (most_source * most_bytes)) (spans st) (as_grew a)
      stretch-grew =
          let r = h.on w same o in
          spans-grew (D w) forms w.text st (spans st) r.going.keeps r.held more a
          (built (with_edges w (edges_of R c S)) (going_lent o c r.going))

      pub stretch-before : (e : ℕ) → s ≤ e → Before e (spans st).0
      stretch-before e q =
          let r = h.on w same o in
          spans-before (D w) forms w.text st (spans st) r.going.keeps r.held more s e q r.before

  -- The rest, where no character stands for others: its answer is the whole pass's
  module _ {S R P starts : List ℕ} {c u s : ℕ} (h : Half S R P starts c u s) (f : n ≡ next_form forms line (n - s) s)
      (to : ℕ) (e : to ≡ n) (S' R' P' : List ℕ) (a : Answer) where
    pub rest_passes : first.FirstPass dicts.rules.now dicts.ready.now dicts.vowels.now dicts.code.now line (S, R, P) (S', R', P') (record { count = c; used = u; from = s; to = to }) a
        → Passes dicts line (S₀, R₀, P₀) (S', R', P') (as_grew a)
    rest_passes built w same o held before =
        let t = w.text in
        let l = h.inside in
        let whole = subst (λ (m : ℕ). first.FirstPass dicts.rules.now dicts.ready.now dicts.vowels.now dicts.code.now line (S, R, P) (S', R', P')
        (record { count = c; used = u; from = s; to = m }) a) e built in
        underway_over (h.on w same o) (each (build (D w) t) (n - s) s) (λ (x : State). x)
        (turn_rest (D w) forms t n s (kept (size w) S R P c) (next_off o.lent.text (D w) forms n s (line-size o.lent.text) l n f) l)
        (as_grew a) (stretch-grew h n l (omega arith) S' R' P' a whole w same o) refl
        (n * (most_edges * most_bytes)) (omega (arith, h.little, l))

-- and what starts tell is what they tell of all
pub rest-begins : (S R : List ℕ) (n : ℕ) (starts : List ℕ) (x : Stretch) (a : Answer) → x.to ≡ n → first.BeganTo S R n starts x a → Begins S R n starts (as_grew a)
rest-begins S R n starts x (Ok t) e b =
    (subst (λ (m : ℕ). Begun (edges_of R t.count S) m starts) e b.0, ap (begun-at starts) (sym e) ∙ b.1, b.2, b.3)
rest-begins S R n starts x (Err f) e b = tt
