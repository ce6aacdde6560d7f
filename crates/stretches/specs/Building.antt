-- The edges that a step finds inside a stretch: those that it finds on the stretch, moved.
-- (proofs/Building: the edge of a span.)
use Rattle.std.specs.Prelude.{Bool, ◌≡◌, List, [], ◌∷◌, ℕ, ◌+◌, ◌≤◌, ◌<◌, length}
use Rattle.std.proofs.Math.Path.{refl, ap}
use Rattle.std.proofs.Math.Option.{Option, none, some, map}
use Rattle.std.proofs.Common.{arith}
use Rattle.base.specs.Pick.{pick_all}
use Rattle.base.specs.Lists.{tail, maybe}
use Rattle.base.specs.Alls.{All-tail, Opt}
use Rattle.definition.specs.Notes.{note_single, note_Mn, note_Cf, note_Co, note_Zs, note_orig, note_decomp}
use Rattle.definition.specs.Texts.{Text, the_space, at}
use Rattle.definition.specs.Tables.{Decomposition, Choices, Lexicon, Tables}
use Rattle.definition.specs.Edges.{Edge, View, M, ret}
use Rattle.definition.specs.Expansion.{Work}
use Rattle.definition.specs.Building.{is_tail, without_plus, as_edge, single, fallback_by, fallback_edge}
use Rattle.definition.specs.Decomposing.{stands_for, decomp_text, decomp_edge}
use Rattle.stretches.specs.Demand.{shift}
use Rattle.stretches.specs.Given.{Ink, Solid, Fair, Stretch}
use Rattle.stretches.specs.Windows.{Sim, sim_ret-by, sim_pick, sim_bind}
use Rattle.stretches.specs.Boundaries.{See}
use Rattle.stretches.specs.Rules.{simple-inside}
use Rattle.stretches.specs.Works.{move, Held}

-- An edge inside the stretch of length `n` from `a` on; of the stretch by itself, from 0 on
pub record Inside (a n : ℕ) (x : Edge) : Type 0 where
  pub starts : a ≤ x.from
  pub goes : x.from < x.to
  pub ends : x.to ≤ a + n

pub shift-inside : (a n : ℕ) (x : Edge) → Inside 0 n x → Inside a n (shift a x)
unfolding shift
shift-inside a n x i = omega arith

-- what a step does on the whole text and on the stretch, where it may find an edge
abbrev pub Finds : ℕ → ℕ → M (Option Edge) → M (Option Edge) → Type 0
Finds a n f g = Sim a n (Option Edge) (map (shift a)) (Opt (Inside 0 n)) f g

pub as_edge-moved : (a : ℕ) (b : Bool) (rom new : Text) (x : Work)
    → as_edge b rom new (move a x) ≡ shift a (as_edge b rom new x)
unfolding as_edge move shift
as_edge-moved a b rom new x = refl

pub as_edge-held : (n p : ℕ) (b : Bool) (rom new : Text) (x : Work) → Held n p x → Inside 0 n (as_edge b rom new x)
unfolding as_edge
as_edge-held n p b rom new x y = omega arith

single-moved : (a p n : ℕ) (w : Text) → single (a + p) n w ≡ shift a (single p n w)
unfolding single shift
single-moved a p n w = let e : a + p + 1 ≡ a + (p + 1) = omega arith in rw e

single-held : (m p n : ℕ) (w : Text) → p < m → Inside 0 m (single p n w)
unfolding single
single-held m p n w l = omega arith

pub plus_solid : (w : Text) → Solid w → Solid (without_plus w)
unfolding without_plus
plus_solid w s = pick_all Solid (is_tail w) {x = tail w} {y = w} (All-tail Ink w s) s

-- The fallback
module _ {L : Lexicon} (fair : Fair L) {T st : Text} {a : ℕ} (h : Stretch T st a) {c : Choices} {W v : View}
    (g : See c T st a W v) where
  fallback_by-inside : (p : ℕ) (o : Option Text) → p < length st
      → fallback_by T (a + p) o ≡ shift a (fallback_by st p o)
  unfolding fallback_by maybe
  fallback_by-inside p none l = rw (h.look (a + p) p refl (omega arith)) (single-moved a p note_orig (at st p ∷ []))
  fallback_by-inside p (some w) l = single-moved a p note_single _

  fallback_by-held : (p : ℕ) (o : Option Text) → p < length st → Inside 0 (length st) (fallback_by st p o)
  unfolding fallback_by maybe
  fallback_by-held p none l = single-held (length st) p note_orig _ l
  fallback_by-held p (some w) l = single-held (length st) p note_single _ l

  pub fallback_inside : (P p : ℕ) → P ≡ a + p → p < length st
      → Finds a (length st) (fallback_edge L T W P) (fallback_edge L st v p)
  unfolding fallback_edge
  fallback_inside P p i l = rw (i, h.look (a + p) p refl (omega arith))
      (sim_pick _ (one note_Mn []) (sim_pick _ (one note_Cf []) (sim_pick _ (one note_Co [])
      (sim_pick _ (one note_Zs (the_space ∷ []))
      (sim_bind _ (simple-inside fair h g (omega arith))
      (λ o q. sim_ret-by _ _ (ap some (fallback_by-inside p o l)) (fallback_by-held p o l)))))))
    where
      one : (n : ℕ) (w : Text) → Finds a (length st) (ret (some (single (a + p) n w))) (ret (some (single p n w)))
      one n w = sim_ret-by _ _ (ap some (single-moved a p n w)) (single-held (length st) p n w l)

-- The edge of a character that stands for others. What is beside it is read alike: at the stretch's ends a space
module _ (D : Tables) (ds : List Decomposition) {T st : Text} {a : ℕ} (h : Stretch T st a) where
  decomp_text-inside : (P p : ℕ) (w : Text) → P ≡ a + p → p < length st → decomp_text D T P w ≡ decomp_text D st p w
  unfolding decomp_text
  decomp_text-inside P p w i l = rw (
    h.look P p i (omega arith),
    h.back P p i (omega arith),
    h.look (P + 1) (p + 1) (omega arith) (omega arith),
  )

  pub decomp_inside : (P p : ℕ) → P ≡ a + p → p < length st
      → decomp_edge D ds T P ≡ map (shift a) (decomp_edge D ds st p)
  unfolding decomp_edge
  decomp_inside P p i l = rw (h.look P p i (omega arith)) (go (stands_for ds (at st p)))
    where
      go : (o : Option Text) → maybe o none (λ w. some (single P note_decomp (decomp_text D T P w)))
          ≡ map (shift a) (maybe o none (λ w. some (single p note_decomp (decomp_text D st p w))))
      go none = unfold maybe in refl
      go (some w) = unfold maybe in
          ap some (rw (decomp_text-inside P p w i l, i) (single-moved a p note_decomp (decomp_text D st p w)))

  pub decomp_held : (p : ℕ) → p < length st → Opt (Inside 0 (length st)) (decomp_edge D ds st p)
  unfolding decomp_edge
  decomp_held p l = go (stands_for ds (at st p))
    where
      go : (o : Option Text)
          → Opt (Inside 0 (length st)) (maybe o none (λ w. some (single p note_decomp (decomp_text D st p w))))
      go none = unfold maybe in tt
      go (some w) = unfold maybe in single-held (length st) p note_decomp (decomp_text D st p w) l
