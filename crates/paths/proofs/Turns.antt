-- One turn of each loop: what it finds or writes, and what is left.
use Prim.Native.Nat.{ℕ, suc, ◌+◌, ◌-◌, ◌*◌, ◌<◌}
use mathlib.Core.Bool.{Bool, true}
use mathlib.Core.List.{List, [], ◌∷◌, ◌++◌}
use mathlib.Core.Path.{◌≡◌, refl, sym, ap, ◌∙◌}
use native.Mathlib.Omega.{arith}
use lib.ListN.{length, drop}
use Rattle.base.specs.Pick.{pick}
use Rattle.base.specs.Rows.{counted_some}
use Rattle.definition.specs.Limits.{slot_bytes}
use Rattle.definition.specs.Edges.{Edge}
use Rattle.definition.specs.Paths.{longer, sorted}
use Rattle.edge.specs.Best.{BestEdge}
use Rattle.edge.specs.Slots.{edge_of, edges_of}
use Rattle.listing.specs.Items.{Written, put_items, put_items-append}
use Rattle.standing.specs.declared.Stretch.{Stretch}
use Rattle.standing.specs.Starts.{stretch_of, fallback_of}
use Rattle.standing.specs.Stands.{Stands, fallen_of}
use Rattle.standing.specs.Right.{fallback_list}
use Rattle.paths.specs.Steps.{best_list}
use Rattle.paths.specs.Nearby.{longer-by-stretch}
use Rattle.paths.specs.Orders.{farther, last_end, over, over-append, longer-here}

-- the last end so far, and those still to come
pub last_on : (room slots : List ℕ) (n o p bound best end : ℕ) → 0 < n
    → (t : Bool) → farther p bound best (edge_of room (drop o slots)) ≡ t → end ≡ pick t (edge_of room (drop o slots)).to best
    → last_end p bound end (edges_of room (n - 1) (drop (o + slot_bytes) slots)) ≡ last_end p bound best (edges_of room n (drop o slots))
unfolding last_end
last_on room slots n o p bound best end h t f e =
    let x = edge_of room (drop o slots) in
    let more = edges_of room (n - 1) (drop (o + slot_bytes) slots) in
    ap (λ b. last_end p bound b more) e ∙ ap (λ t. last_end p bound (pick t x.to best) more) (sym f)
    ∙ ap (last_end p bound best) (sym (counted_some (edge_of room) slot_bytes n o slots h))

-- a list's first part is written: the rest leaves what the whole leaves
on : (l k m : List Edge) (w v : Written) → m ≡ l ++ k → w ≡ put_items true l v → put_items true k w ≡ put_items true m v
on l k m w v s e = ap (put_items true k) e ∙ sym (put_items-append true l k v) ∙ ap (λ l. put_items true l v) (sym s)

-- one slot, one end, one start
pub span_on : (room slots : List ℕ) (n o p e : ℕ) (w v : Written) → 0 < n
    → w ≡ put_items true (over (edge_of room (drop o slots) ∷ []) p e) v
    → put_items true (over (edges_of room (n - 1) (drop (o + slot_bytes) slots)) p e) w
    ≡ put_items true (over (edges_of room n (drop o slots)) p e) v
span_on room slots n o p e w v h =
    let x = edge_of room (drop o slots) in
    let more = edges_of room (n - 1) (drop (o + slot_bytes) slots) in
    on (over (x ∷ []) p e) (over more p e) (over (edges_of room n (drop o slots)) p e) w v
    (ap (λ l. over l p e) (counted_some (edge_of room) slot_bytes n o slots h) ∙ over-append (x ∷ []) more p e)

module _ (es : List Edge) (p : ℕ) (w v : Written) where
  pub longer_on : (e : ℕ) → p < e → w ≡ put_items true (over es p e) v
      → put_items true (longer es p (last_end p e p es - p)) w ≡ put_items true (longer es p (e - p)) v
  longer_on e h = on (over es p e) (longer es p (last_end p e p es - p)) (longer es p (e - p)) w v (longer-here es p e h)

  pub sorted_on : (n : ℕ) → p < n → w ≡ put_items true (longer es p (n - p)) v
      → put_items true (sorted es (n - (p + 1)) (p + 1)) w ≡ put_items true (sorted es (n - p) p) v
  unfolding sorted
  sorted_on n h = on (longer es p (n - p)) (sorted es (n - (p + 1)) (p + 1)) (sorted es (n - p) p) w v (split (n - p) (omega arith))
    where
      sorted-next : (k : ℕ) → sorted es (suc k) p ≡ longer es p (suc k) ++ sorted es k (p + 1)
      sorted-next k = refl

      split : (k : ℕ) → k ≡ suc (n - (p + 1)) → sorted es k p ≡ longer es p k ++ sorted es (n - (p + 1)) (p + 1)
      split k e = ap (λ k. sorted es k p) e ∙ sorted-next (n - (p + 1)) ∙ ap (λ k. longer es p k ++ sorted es (n - (p + 1)) (p + 1)) (sym e)

-- the edges of a start: its stretch's, then its fallback
module _ (slots starts : List ℕ) (count : ℕ) (s : Stands slots starts count) (p : ℕ) (l : p + 1 < length starts) where
  pub start_on : (room : List ℕ) (n : ℕ) → p < n → (near : List ℕ) (x : Stretch) → x ≡ stretch_of starts p → near ≡ drop (x.first * slot_bytes) slots
      → (b : BestEdge) → b ≡ fallback_of starts p → (v w u : Written)
      → w ≡ put_items true (longer (edges_of room (x.end - x.first) near) p (n - p)) v → u ≡ put_items true (best_list room slots b) w
      → u ≡ put_items true (longer (edges_of room count slots) p (n - p)) v
  start_on room n h near x e f b g v w u i j =
      let whole = longer (edges_of room count slots) p (n - p) in
      let single = fallen_of slots starts count s p l room in
      let some_of : Stretch → List Edge = λ y. longer (edges_of room (y.end - y.first) (drop (y.first * slot_bytes) slots)) p (n - p) in
      let k : longer (edges_of room (x.end - x.first) near) p (n - p) ≡ some_of (stretch_of starts p) =
      ap (λ (r : List ℕ). longer (edges_of room (x.end - x.first) r) p (n - p)) f ∙ ap some_of e in
      let m : best_list room slots b ≡ single = ap (best_list room slots) g ∙ fallback_list slots starts count s p l room in
      j ∙ ap (λ (r : List Edge). put_items true r w) m
      ∙ on (some_of (stretch_of starts p)) single whole w v (longer-by-stretch slots starts count s p l room n h)
      (i ∙ ap (λ (r : List Edge). put_items true r v) k)
