-- Start of word: one law for each answer.
use mathlib.Core.Bool.{Bool, true, false, not, ◌&&◌}
use mathlib.Core.List.{List}
use mathlib.Core.Path.{◌≡◌, refl, sym, ap, ◌∙◌}
use Prim.Native.Nat.{ℕ, zero, suc, ◌<◌}
use native.Mathlib.Omega.{arith}
use lib.Dec.{eqb}
use lib.ListN.{get_or, set}
use Rattle.base.specs.Pick.{pick, pick_all}
use Rattle.base.specs.Bools.{eqb_alike}
use Rattle.definition.specs.Texts.{Text, prev}
use Rattle.definition.specs.Tables.{Class}
use Rattle.definition.specs.Classes.{alpha}
use Rattle.definition.specs.Edges.{View, Mem, M, ret, remember}
use Rattle.definition.specs.Boundaries.{fresh, recall, word_start}
use Rattle.edge_places.specs.Entry.{start_in}
use Rattle.edge_places.specs.Shows.{memory, told, remembered, remembered-told, remembered-memory, recalled}
use Rattle.words.specs.Did.{Did, Asked, asked-none}
use Rattle.words.specs.Given.{World, kinds, seen, size}

module _ (ks : List Class) (t : Text) (v : View) (p : ℕ) where
  pub by_text : alpha ks (prev t p) ≡ true → false ≡ fresh ks t v p
  unfolding fresh
  by_text a = sym (ap (λ (b : Bool). not b && not (v.letter p)) a)

  pub by-edge : alpha ks (prev t p) ≡ false → (b : Bool) → b ≡ v.letter p → not b ≡ fresh ks t v p
  unfolding fresh
  by-edge a b e = ap not e ∙ sym (ap (λ (x : Bool). not x && not (v.letter p)) a)

  -- by what is remembered
  pub asked : (m m' : Mem) (r : Bool) → get_or m p 0 ≡ 0 → r ≡ fresh ks t v p → m' ≡ set m p (pick r 1 2)
      → Did (word_start ks t v p m) r m'
  unfolding word_start recall remember
  asked m m' r e f g =
      let q = ap (λ (k : ℕ). recall ks t v p k m) e in
      record {
        value = f ∙ sym (ap (λ (o : Bool × Mem). o.0) q);
        memory = g ∙ ap (λ (b : Bool). set m p (pick b 1 2)) f ∙ sym (ap (λ (o : Bool × Mem). o.1) q);
      }

  pub known : (m : Mem) (k : ℕ) → k ≡ get_or m p 0 → (k ≡ 0 → ⊥) → Did (word_start ks t v p m) (eqb k 1) m
  unfolding word_start recall ret
  known m zero e h = absurd (h refl)
  known m (suc k) e h =
      let q = ap (λ (k : ℕ). recall ks t v p k m) (sym e) in
      record {
        value = eqb_alike (suc k) 1 k 0 (λ z. omega arith) (λ z. omega arith) ∙ sym (ap (λ (o : Bool × Mem). o.0) q);
        memory = sym (ap (λ (o : Bool × Mem). o.1) q);
      }

-- the same by places
module _ (w : World) (p : ℕ) (h : p < size w) (places : List ℕ) (k : ℕ) (e : k ≡ start_in (get_or places p 0)) where
  abbrev start : M Bool
  start = word_start (kinds w) w.text (seen w) p

  small : (r : Bool) → pick r 1 2 < 4
  small r = pick_all (λ (v : ℕ). v < 4) r (omega arith) (omega arith)

  pub start-asked : k ≡ 0 → (r : Bool) → r ≡ fresh (kinds w) w.text (seen w) p → (after : List ℕ) → after ≡ remembered places p (pick r 1 2)
      → Asked w start places after r
  start-asked z r f after g = record {
    did = asked (kinds w) w.text (seen w) p (memory (size w) places) (memory (size w) after) r
        (recalled places (size w) p h ∙ sym e ∙ z) f (ap (memory (size w)) g ∙ remembered-memory places p (pick r 1 2) (small r) (size w) h);
    kept = ap told g ∙ remembered-told places p (pick r 1 2) (small r);
  }

  pub start-known : (k ≡ 0 → ⊥) → Asked w start places places (eqb k 1)
  start-known z = asked-none (known (kinds w) w.text (seen w) p (memory (size w) places) k (e ∙ sym (recalled places (size w) p h)) z)
