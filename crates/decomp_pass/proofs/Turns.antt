-- A turn of the pass: a stretch of starts up to and with a character that stands for others, and the edge of that character.
use Rattle.std.specs.Prelude.{Ok}
use Prim.Native.Nat.{ℕ, ◌+◌, ◌-◌, ◌*◌, ◌≤◌, ◌<◌}
use mathlib.Core.List.{List}
use mathlib.Core.Path.{◌≡◌, refl, sym, ap, ◌∙◌, subst}
use native.Mathlib.Omega.{arith}
use lib.ListN.{length, set}
use Rattle.base.specs.Alls.{All}
use Rattle.definition.specs.Limits.{most_source, most_edges, most_bytes}
use Rattle.definition.specs.Tables.{Decomposition, Tables}
use Rattle.definition.specs.Edges.{Edge, State, add}
use Rattle.definition.specs.Building.{each, build}
use Rattle.definition.specs.Decomposing.{decomp_edge, start}
use Rattle.definition.specs.DecompositionRows.{decompositions_of}
use Rattle.definition.specs.Growth.{added_twice, add-grown}
use Rattle.edge.specs.Answers.{Answer, fits}
use Rattle.edge.specs.Slots.{edges_of}
use Rattle.edge.specs.Stored.{edge_count}
use Rattle.standing.specs.Starts.{since_in}
use Rattle.standing.specs.Begun.{Begun}
use Rattle.standing.specs.Stands.{Ahead}
use Rattle.words.specs.Given.{World, kinds, size, size_in, line-size}
use Rattle.words.specs.declared.given.Dicts.{Dicts}
use Rattle.passes.specs.Reached.{nothing, Over, with_edges}
use Rattle.passes.proofs.Passing.{kept, going_lent}
use Rattle.first_pass.specs.FirstPass as first
use Rattle.first_pass.proofs.Passes.{fresh-begun, begun_turn}
use Rattle.table_decompositions.specs.Next.{next_form}
use Rattle.decomp.specs.Answers.{Grew, as_grew}
use Rattle.decomp.specs.Grown.{GrewTo, GrowsAt}
use Rattle.decomp.specs.Steps.{AddReady, put_decomp}
use Rattle.decomp_pass.specs.Passes.{PassReady, Passes}
use Rattle.decomp_pass.proofs.Onward.{Refused}
use Rattle.decomp_pass.proofs.Passing.{underway_refused, underway_edges, underway_used, underway_next}
use Rattle.decomp_pass.proofs.Between.{turn_form, next_off, next-inside}
use Rattle.decomp_pass.proofs.Halfway.{tables, On, Halfway, stretch-grew, stretch-before}
use Rattle.decomp_pass.proofs.Forms.{begun_still, form-begun, form_ahead, form-before, starts-added}

module _ {dicts : Dicts} {line S₀ R₀ P₀ noted : List ℕ} (pre : PassReady dicts line S₀ R₀ P₀ noted) where
  abbrev n : ℕ
  n = size_in line

  abbrev ds : List Decomposition
  ds = decompositions_of dicts.decompositions.now

  abbrev tab : World → Tables
  tab = tables dicts

  -- The stretch has answered
  module _ {S R P starts : List ℕ} {c u s : ℕ} (h : Halfway dicts line S₀ R₀ P₀ S R P starts c u s)
      (at : ℕ) (f : at ≡ next_form ds line (n - s) s) (l : at < n) (S' R' P' starts' : List ℕ) (a : Answer)
      (built : first.FirstPass dicts.rules.now dicts.ready.now dicts.vowels.now dicts.code.now line (S, R, P) (S', R', P') (record { count = c; used = u; from = s; to = at + 1 }) a)
      (begins : first.BeganTo S' R' n starts' (record { count = c; used = u; from = s; to = at + 1 }) a) where
    behind : s ≤ at
    behind = (next-inside ds line n s at h.inside f).0

    -- in a world
    module _ (w : World) (same : w.classes ≡ dicts.classes.now) (o : Over w dicts.ready.now line S₀ R₀ P₀ nothing) where
      abbrev st : State
      st = kept (size w) S R P c

      abbrev spans : State → State
      spans = each (build (tab w) w.text) (at + 1 - s) s

      -- what is left behind it, and behind the character's edge
      abbrev later : State → State
      later x = each (start (tab w) ds w.text) (n - (at + 1)) (at + 1) x

      abbrev left : State → State
      left x = later (put_decomp at (tab w) ds w.text x)

      turn : each (start (tab w) ds w.text) (n - s) s st ≡ left (spans st)
      turn = turn_form (tab w) ds w.text n s st at
          (next_off o.lent.text (tab w) ds n s (line-size o.lent.text) h.inside at f) behind l

      grew : GrewTo (tab w) ds w.text (kinds w) (size w) S R S' R' P' (u + (at + 1 - s) * (most_source * most_bytes)) (spans st) (as_grew a)
      grew = stretch-grew pre h (at + 1) (omega (arith, behind)) (omega (arith, l)) S' R' P' a built w same o

    -- a refusal is the whole pass's
    pub stretch-refused : Refused (as_grew a) → Passes dicts line (S₀, R₀, P₀) (S', R', P') (as_grew a)
    stretch-refused q w same o held before =
        underway_refused (h.on w same o) (spans w same o) (left w same o) (turn w same o) (as_grew a) (grew w same o)
        (added_twice (add-grown (spans w same o (st w same o)).0 (decomp_edge (tab w) ds w.text at)).added
        (starts-added (tab w) ds w.text (n - (at + 1)) (at + 1) (put_decomp at (tab w) ds w.text (spans w same o (st w same o)))))
        (n * (most_edges * most_bytes)) q

    -- With edges that fit
    module _ (c' u' : ℕ) (e : a ≡ fits c' u') where
      abbrev es : List Edge
      es = edges_of R' c' S'

      began : first.BeganTo S' R' n starts' (record { count = c; used = u; from = s; to = at + 1 }) (fits c' u')
      began = subst (first.BeganTo S' R' n starts' (record { count = c; used = u; from = s; to = at + 1 })) e begins

      -- it is underway, and the character's edge is next
      mid : On dicts line S₀ R₀ P₀
          (λ D t x. each (start D ds t) (n - (at + 1)) (at + 1) (put_decomp at D ds t x)) S' R' P' c' u' at
      mid w same o =
          underway_next (h.on w same o) (spans w same o) (left w same o) (turn w same o) (as_grew a) (grew w same o) c' u' (ap as_grew e) at
          (stretch-before pre h (at + 1) (omega (arith, behind)) (omega (arith, l)) S' R' P' a built w same o
          at behind)

      begun-here : Begun es at starts'
      begun-here = begun_still began.0 (began.1 ∙ sym (edge_count S' R' c'))

      used_here : u' ≤ u + (at + 1 - s) * (most_source * most_bytes)
      used_here =
          let w = pre.somewhere.world in
          let o = pre.somewhere.over in
          underway_used (h.on w pre.same o) (spans w pre.same o) (left w pre.same o) (turn w pre.same o) (as_grew a) (grew w pre.same o) c' u' (ap as_grew e)

      pub form_ready : (since : ℕ) → since ≡ since_in starts' at
          → AddReady dicts line S' R' P' (record { count = c'; used = u'; since = since }) at
      form_ready since q =
          let w = pre.somewhere.world in
          let o = pre.somewhere.over in
          record {
            forms = pre.forms;
            somewhere = record { world = with_edges w es; over = going_lent o since (mid w pre.same o).going };
            inside = l;
            fresh = fresh-begun S' R' at c' u' since starts' begun-here q;
            offset = omega (arith, used_here, h.little, behind, l, line-size o.lent.text, o.lent.text.few);
          }

      -- The character's edge has answered
      module _ (since : ℕ) (S'' R'' P'' : List ℕ) (r : Grew)
          (grows : GrowsAt dicts dicts.code.now line (S', R', P') (S'', R'', P'') (record { count = c'; used = u'; since = since }) at (u' + most_bytes)
          (put_decomp at) r) where
        module _ (w : World) (same : w.classes ≡ dicts.classes.now) (o : Over w dicts.ready.now line S₀ R₀ P₀ nothing) where
          own : GrewTo (tab w) ds w.text (kinds w) (size w) S' R' S'' R'' P'' (u' + most_bytes) (put_decomp at (tab w) ds w.text (kept (size w) S' R' P' c')) r
          own =
              let x = mid w same o in
              grows (with_edges w es) same (going_lent o since x.going) x.held x.before

        -- a refusal is the whole pass's
        pub form-refused : Refused r → Passes dicts line (S₀, R₀, P₀) (S'', R'', P'') r
        form-refused q w same o held before =
            underway_refused (mid w same o) (put_decomp at (tab w) ds w.text) (later w same o) refl r (own w same o)
            (starts-added (tab w) ds w.text (n - (at + 1)) (at + 1) (put_decomp at (tab w) ds w.text (kept (size w) S' R' P' c')))
            (n * (most_edges * most_bytes)) q

        -- or it goes on behind it
        pub form-next : (k v : ℕ) → r ≡ Ok record { count = k; used = v } → Halfway dicts line S₀ R₀ P₀ S'' R'' P'' starts' k v (at + 1)
        form-next k v q =
            let w = pre.somewhere.world in
            let o = pre.somewhere.over in
            let D = tab w in
            let t = w.text in
            let x = mid w pre.same o in
            let is : edges_of R'' k S'' ≡ add es (decomp_edge D ds t at) =
            underway_edges x (put_decomp at D ds t) (later w pre.same o) refl r (own w pre.same o) k v q in
            let used = underway_used x (put_decomp at D ds t) (later w pre.same o) refl r (own w pre.same o) k v q in
            let many : k ≤ c' + 1 = omega (arith, edge_count S'' R'' k, ap length is, (add-grown es (decomp_edge D ds t at)).few, edge_count S' R' c') in
            record {
              on = λ w same o. underway_next (mid w same o) (put_decomp at (tab w) ds w.text) (later w same o) refl r (own w same o) k v q (at + 1)
                  (form-before (tab w) ds w.text es at (mid w same o).before);
              begun = subst (λ (x : List Edge). Begun x (at + 1) (set starts' (at + 1) k)) (sym is)
                  (begun_turn starts' n k (form-begun D ds t es at starts' begun-here) refl (sym (edge_count S'' R'' k) ∙ ap length is) began.2 l
                  (omega (arith, many, began.4, h.few, behind, l, line-size o.lent.text, o.lent.text.few)));
              sized = began.2;
              ahead = subst (All (λ y. Ahead n y.from y.to)) (sym is) (form_ahead D ds t es at n l began.3);
              few = omega (arith, many, began.4, h.few, behind);
              little = omega (arith, used, used_here, h.little, behind);
              inside = omega (arith, l);
            }
