-- Start of word and end of word inside a stretch.
use Rattle.std.proofs.Math.Bool.{Bool, false, not}
use Rattle.std.specs.Prelude.{true, ◌&&◌, ◌≡◌, ◌⊎◌, eqb, length}
use Rattle.std.proofs.Math.Path.{refl}
use Rattle.std.proofs.Common.{ap, inl, arith}
use Prim.Native.Nat.{ℕ, zero, suc, ◌+◌, ◌≤◌, ◌<◌}
use Rattle.std.proofs.Math.ListN.{get_or}
use Rattle.base.specs.Pick.{pick}
use Rattle.definition.specs.Texts.{Text, at}
use Rattle.definition.specs.Tables.{Choices, Lexicon}
use Rattle.definition.specs.Classes.{alpha}
use Rattle.definition.specs.Edges.{View, Mem}
use Rattle.definition.specs.Boundaries.{goes_on, word_end, fresh, recall, word_start}
use Rattle.definition.specs.Expansion.{stretch_start, walk_start}
use Rattle.stretches.specs.Demand.{First}
use Rattle.stretches.specs.Given.{Fair, any-rules, Stretch}
use Rattle.stretches.specs.Windows.{window-at, Agree, sim_ret, remember-inside}
use Rattle.stretches.specs.Texts.{fits-inside, stretch_start-inside}

-- What is seen of the edges so far on the whole text (`W`) and on the stretch (`v`), under these choices. What stands
-- behind a position, as far back as the walk goes, is seen alike, or it doesn't matter: only U+0E2D asks it, and at the
-- stretch's start it has no Thai before it
pub record See (c : Choices) (T st : Text) (a : ℕ) (W v : View) : Type 0 where
  pub letter : (P p : ℕ) → P ≡ a + p → p < length st → W.letter P ≡ v.letter p
  pub closed : (P p : ℕ) → P ≡ a + p → 0 < p → p ≤ length st → W.closed P ≡ v.closed p
  pub behind : ((p : ℕ) → p ≤ length st
      → W.behind (walk_start c T (a + p)) (a + p) ≡ v.behind (walk_start c st p) p) ⊎ First st

-- a view from the stretch's start, of what is seen on the whole. Where the walk back ends at a space, that is counted
-- from the stretch's start too, and else it goes on to the text's start
unfoldable pub moved_view : Choices → ℕ → View → View
moved_view c a W = record {
  letter = λ p. W.letter (a + p);
  closed = λ p. W.closed (a + p);
  behind = λ s p. W.behind (pick (eqb c.o_ang 1) (a + s) s) (a + p);
}

pub see_moved : (c : Choices) {T st : Text} {a : ℕ} → Stretch T st a → (W : View) → See c T st a W (moved_view c a W)
unfolding moved_view walk_start
see_moved c {T} {st} {a} h W = record {
  letter = λ P p i l. rw i;
  closed = λ P p i z l. rw i;
  behind = inl (λ p l. ap (λ s. W.behind s (a + p)) (ends (eqb c.o_ang 1) p l));
}
  where
    ends : (b : Bool) (p : ℕ) → p ≤ length st → pick b (stretch_start T (a + p)) 0
        ≡ pick b (a + pick b (stretch_start st p) 0) (pick b (stretch_start st p) 0)
    ends true p l = unfold pick in stretch_start-inside h (a + p) p refl l
    ends false p l = unfold pick in refl

module _ {L : Lexicon} (fair : Fair L) {T st : Text} {a : ℕ} (h : Stretch T st a) where
  pub word_end-inside : (P p : ℕ) → P ≡ a + p → p ≤ length st
      → word_end L.rules L.classes T P ≡ word_end L.rules L.classes st p
  unfolding word_end goes_on
  word_end-inside P p e l = rw (h.look P p e l) (ap (λ b. not (alpha L.classes (at st p)) && not b)
      (any-rules fair (goes_on L.classes T P) (goes_on L.classes st p)
      (λ r s. rw (fits-inside h r.source P p s e l))))

  module _ {c : Choices} {W v : View} (g : See c T st a W v) where
    fresh-inside : (P p : ℕ) → P ≡ a + p → p < length st → fresh L.classes T W P ≡ fresh L.classes st v p
    unfolding fresh
    fresh-inside P p e l = rw (h.back P p e (omega arith), g.letter P p e l)

    recall-inside : (P p k : ℕ) → P ≡ a + p → p < length st
        → Agree a (length st) Bool (recall L.classes T W P k) (recall L.classes st v p k)
    unfolding recall
    recall-inside P p zero e l =
        rw (fresh-inside P p e l, e) (remember-inside a (length st) p (fresh L.classes st v p) l)
    recall-inside P p (suc k) e l = sim_ret (eqb k 0) tt

    pub word_start-inside : (P p : ℕ) → P ≡ a + p → p < length st
        → Agree a (length st) Bool (word_start L.classes T W P) (word_start L.classes st v p)
    unfolding word_start
    word_start-inside P p e l = record {
      value = λ m. rw (window-at a (length st) m p l, ← e) ((one m).value m);
      post = λ m. tt;
      known = λ m. rw (window-at a (length st) m p l, ← e) ((one m).known m);
      frame = λ m b k d. (one m).frame m b k d;
    }
      where
        one : (m : Mem) → (let k = get_or m P 0 in
            Agree a (length st) Bool (recall L.classes T W P k) (recall L.classes st v p k))
        one m = recall-inside P p (get_or m P 0) e l
