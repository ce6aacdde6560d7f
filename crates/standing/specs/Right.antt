-- The best edge that starts at a position: of its stretch, or else its fallback.
use Prim.Native.Nat.{ℕ, zero, suc, ◌+◌, ◌-◌, ◌*◌, ◌<◌, ◌≤◌}
use Rattle.std.specs.Prelude.{Some, None, Bool, ◌&&◌, ◌≡◌, ltb, take, drop}
use Rattle.std.proofs.Math.Bool.{true, false}
use mathlib.Core.List.{List, [], ◌∷◌, ◌++◌, append-nil}
use Rattle.std.proofs.Math.Option.{Option, none, some}
use Rattle.std.proofs.Math.Path.{refl, sym, ap}
use Rattle.std.proofs.Common.{◌∙◌, subst, length-drop, drop-drop}
use native.Mathlib.Omega.{arith}
use Rattle.std.proofs.Math.Dec.{eqb}
use Rattle.std.proofs.Math.ListN.{length}
use borrow.Author.Tests.{eqb-true, eqb-false, ne_eqb, le-ltb}
use Rattle.base.specs.Pick.{pick, pick_all}
use Rattle.base.specs.Lists.{keep, best_of, best}
use Rattle.base.specs.Rows.{counted_some}
use Rattle.base.specs.Alls.{All, All-map, All-left, All-kept}
use Rattle.definition.specs.Limits.{slot_bytes}
use Rattle.definition.specs.Edges.{Edge, starting, right_best}
use Rattle.definition.specs.Paths.{join}
use Rattle.edge.specs.Slots.{edge_of, edges_of}
use Rattle.edge.specs.Stored.{edge_count}
use Rattle.edge.specs.Asked.{better, best_after, best-here, best-next}
use Rattle.edge.specs.Best.{BestEdge, best_means, Found}
use Rattle.standing.specs.Starts.{begun, fall_of, end_of, stretch_of, fallback_of}
use Rattle.standing.specs.Fallen.{numbered, only_within}
use Rattle.standing.specs.Stands.{Stands, Ahead, fallbacks, between, edges-from, edges-between, stretch-within, fallen_of, by-stretch, fallen-over, fallen_few}

unfoldable pub longer : Edge → Edge → Bool
longer x y = ltb y.to x.to

abbrev pub here : ℕ → Edge → Bool
here p x = eqb x.from p

-- the best of the first `count` edges that starts at `p`
abbrev pub RightBest : List ℕ → ℕ → ℕ → BestEdge → Type 0
RightBest slots count p b = ((room : List ℕ) → best_means room slots b ≡ right_best (edges_of room count slots) p) × Found count b

-- A turn of the search through a stretch
module _ (p : ℕ) (room slots : List ℕ) where
  -- the slot `o`, where its edge is better than the best so far
  unfoldable pub improved : ℕ → BestEdge → BestEdge
  improved o b =
      let x = edge_of room (drop o slots) in
      pick (here p x && better longer (best_means room slots b) x) (Some o) b

  module _ (o : ℕ) (b : BestEdge) where
    abbrev x : Edge
    x = edge_of room (drop o slots)

    pub elsewhere : here p x ≡ false → b ≡ improved o b
    unfolding improved pick
    elsewhere e = sym (rw e)

    pub first_one : here p x ≡ true → b ≡ None → Some o ≡ improved o b
    unfolding improved pick
    first_one e f = sym (rw (e, f))

    module _ (r : ℕ) (e : here p x ≡ true) (f : b ≡ Some r) where
      pub longer-one : longer x (edge_of room (drop r slots)) ≡ true → Some o ≡ improved o b
      unfolding improved pick
      longer-one g = sym (rw (e, f, g))

      pub shorter_one : longer x (edge_of room (drop r slots)) ≡ false → b ≡ improved o b
      unfolding improved pick
      shorter_one g = sym (rw (e, f, g))

    pub best_turn : (n : ℕ) → 0 < n
        → best_after longer (best_means room slots (improved o b)) (starting (edges_of room (n - 1) (drop (o + slot_bytes) slots)) p)
        ≡ best_after longer (best_means room slots b) (starting (edges_of room n (drop o slots)) p)
    unfolding improved pick starting
    best_turn n h = go (here p x && better longer (best_means room slots b) x) refl
      where
        go : (t : Bool) → (here p x && better longer (best_means room slots b) x) ≡ t
            → best_after longer (best_means room slots (pick t (Some o) b)) (keep (here p) (edges_of room (n - 1) (drop (o + slot_bytes) slots)))
            ≡ best_after longer (best_means room slots b) (keep (here p) (edges_of room n (drop o slots)))
        go true e = best-here (edge_of room) slot_bytes slots n o (here p) longer (best_means room slots b) h e
        go false e = best-next (edge_of room) slot_bytes slots n o (here p) longer (best_means room slots b) h e

    pub improved-found : (count i : ℕ) → i < count → o ≡ i * slot_bytes → Found count b → Found count (improved o b)
    unfolding improved pick
    improved-found count i h e f = go (here p x && better longer (best_means room slots b) x)
      where
        go : (t : Bool) → Found count (pick t (Some o) b)
        go true = (i, h, e)
        go false = f

pub found-wide : (m n : ℕ) → m ≤ n → (b : BestEdge) → Found m b → Found n b
found-wide m n h None f = tt
found-wide m n h (Some o) f = (f.0, omega (arith, f.1), f.2)

-- Edges behind which one over one character is put: it is the best only where there is no other
best_none : (l : List Edge) → best longer l ≡ none → l ≡ []
unfolding best
best_none [] e = refl
best_none (x ∷ l) e = absurd (let z : ◌≡◌ {A = ℕ} 0 1 = cc in omega arith)

best_of-last : (p : ℕ) (y : Edge) (l : List Edge) (x : Edge) → p < y.to → All (λ z. p < z.to) l → x.to ≡ p + 1
    → best_of longer y (l ++ x ∷ []) ≡ best_of longer y l
unfolding best_of longer pick
best_of-last p y [] x h a e = ap (λ (b : Bool). pick b x y) (le-ltb y.to x.to (omega arith))
best_of-last p y (z ∷ l) x h a e =
    best_of-last p (pick (longer z y) z y) l x (pick_all (λ (w : Edge). p < w.to) (longer z y) {x = z} {y = y} a.0 h) a.1 e

best-last : (p : ℕ) (l t : List Edge) → All (λ z. p < z.to) l → All (λ z. (z.from ≡ p) × (z.to ≡ p + 1)) t → length t ≤ 1
    → (y : Edge) → best longer l ≡ some y → best longer (l ++ t) ≡ some y
unfolding best
best-last p [] t a b k y e = absurd (let z : ◌≡◌ {A = ℕ} 0 1 = cc in omega arith)
best-last p (x ∷ l) [] a b k y e = ap (best longer) (append-nil (x ∷ l)) ∙ e
best-last p (x ∷ l) (u ∷ []) a b k y e = ap some (best_of-last p x l u a.0 a.1 b.0.1) ∙ e
best-last p (x ∷ l) (u ∷ w ∷ t) a b k y e = absurd (omega arith)

-- Edge number `j` of the slots
numbered-edge : (room slots : List ℕ) (j count : ℕ) → j < count
    → take 1 (drop j (edges_of room count slots)) ≡ edge_of room (drop (j * slot_bytes) slots) ∷ []
numbered-edge room slots j count h =
    ap (take 1) (edges-from room slots j count (omega arith) ∙ counted_some (edge_of room) slot_bytes (count - j) (j * slot_bytes) slots (omega arith))

module _ (slots starts : List ℕ) (count : ℕ) (s : Stands slots starts count) (p : ℕ) (l : p + 1 < length starts) where
  abbrev made : ℕ
  made = begun starts (end_of starts)

  -- what is named is there
  inside : (room : List ℕ) → fall_of starts p ≤ count - made
  inside room =
      let es = edges_of room count slots in
      let o = only_within (fallbacks starts es) p (fall_of starts p) ((s.fallen room).named p (omega arith)) in
      omega (arith, o, length-drop made es, edge_count slots room count)

  pub fallback_found : Found count (fallback_of starts p)
  unfolding fallback_of pick
  fallback_found = go (eqb (fall_of starts p) 0) refl
    where
      go : (t : Bool) → eqb (fall_of starts p) 0 ≡ t → Found count (pick t None (Some ((made + (fall_of starts p - 1)) * slot_bytes)))
      go true e = tt
      go false e = (made + (fall_of starts p - 1), (let z = eqb-false (fall_of starts p) 0 e in omega (arith, inside [], some_fall z)), refl)
        where
          some_fall : (fall_of starts p ≡ 0 → ⊥) → 0 < fall_of starts p
          some_fall z = omega arith

  module _ (room : List ℕ) where
    abbrev es : List Edge
    es = edges_of room count slots

    -- the fallback's slot has the definition's fallback
    fallback_edge : best_means room slots (fallback_of starts p) ≡ best longer (fallen_of slots starts count s p l room)
    unfolding fallback_of fallen_of pick numbered best best_of
    fallback_edge = go (fall_of starts p) (inside room)
      where
        go : (k : ℕ) → k ≤ count - made
            → best_means room slots (pick (eqb k 0) None (Some ((made + (k - 1)) * slot_bytes))) ≡ best longer (numbered (fallbacks starts es) k)
        go zero h = refl
        go (suc i) h =
            ap (λ (t : Bool). best_means room slots (pick t None (Some ((made + (suc i - 1)) * slot_bytes)))) (ne_eqb (suc i) 0 (λ z. omega arith))
            ∙ ap (λ (j : ℕ). some (edge_of room (drop (j * slot_bytes) slots))) {x = made + (suc i - 1)} {y = made + i} (omega arith)
            ∙ sym (ap (best longer) (ap (take 1) (drop-drop i made es) ∙ numbered-edge room slots (made + i) count (omega arith)))

    -- and for readers that write it, as a list
    pub fallback_list : join (best_means room slots (fallback_of starts p)) [] ≡ fallen_of slots starts count s p l room
    unfolding best best_of
    fallback_list = go (fallen_of slots starts count s p l room) (fallen_few slots starts count s p l room) fallback_edge
      where
        go : (k : List Edge) → length k ≤ 1 → best_means room slots (fallback_of starts p) ≡ best longer k
            → join (best_means room slots (fallback_of starts p)) [] ≡ k
        go [] h e = ap (λ (o : Option Edge). join o []) e
        go (x ∷ []) h e = ap (λ (o : Option Edge). join o []) e
        go (x ∷ y ∷ k) h e = absurd (omega arith)

    -- what was found in the stretch, as what starts there
    module _ (b : BestEdge)
        (e : best_means room slots b ≡ best longer (starting (edges_of room ((stretch_of starts p).end - (stretch_of starts p).first)
        (drop ((stretch_of starts p).first * slot_bytes) slots)) p)) where
      abbrev near : List Edge
      near = starting (between es (stretch_of starts p).first (stretch_of starts p).end) p

      found : best_means room slots b ≡ best longer near
      found =
          let w = stretch-within slots starts count s p l in
          e ∙ ap (λ (k : List Edge). best longer (starting k p))
          (sym (edges-between room slots (stretch_of starts p).first (stretch_of starts p).end count w.0 w.1))

      all_of : right_best es p ≡ best longer (near ++ fallen_of slots starts count s p l room)
      unfolding right_best longer
      all_of = ap (best longer) (by-stretch slots starts count s p l room)

      -- none
      pub right-single : b ≡ None → best_means room slots (fallback_of starts p) ≡ right_best es p
      right-single q =
          let n : near ≡ [] = best_none near (sym found ∙ ap (best_means room slots) q) in
          fallback_edge ∙ sym (all_of ∙ ap (λ (k : List Edge). best longer (k ++ fallen_of slots starts count s p l room)) n)

      -- one: it goes forward, and so is as long as a fallback at least
      near_forward : All (λ z. p < z.to) near
      unfolding starting
      near_forward =
          All-left (λ z. p < z.to) near (fallen_of slots starts count s p l room)
          (subst (All (λ z. p < z.to)) (by-stretch slots starts count s p l room)
          (All-map {P = λ z. Ahead (end_of starts) z.from z.to × (eqb z.from p ≡ true)} {Q = λ z. p < z.to}
          (λ z j. let q = eqb-true z.from p j.1 in omega (arith, j.0.0, q)) (starting es p)
          (All-kept (λ z. Ahead (end_of starts) z.from z.to) (here p) es (s.ahead room))))

      pub right_near : (o : ℕ) → b ≡ Some o → best_means room slots b ≡ right_best es p
      right_near o q =
          let x = edge_of room (drop o slots) in
          let f : best_means room slots b ≡ some x = ap (best_means room slots) q in
          f ∙ sym (all_of ∙ best-last p near (fallen_of slots starts count s p l room) near_forward
          (fallen-over slots starts count s p l room) (fallen_few slots starts count s p l room) x (sym found ∙ f))
