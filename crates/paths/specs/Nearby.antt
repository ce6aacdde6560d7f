-- The edges of a start, longest first: those of its stretch, and behind them its fallback.
use Prim.Native.Nat.{ℕ, zero, suc, ◌+◌, ◌-◌, ◌*◌, ◌<◌, ◌≤◌}
use Rattle.std.proofs.Math.Bool.{Bool}
use Rattle.std.specs.Prelude.{true, ◌≡◌, length, drop}
use mathlib.Core.List.{List, ◌++◌, append-nil, append_assoc}
use Rattle.std.proofs.Math.Path.{sym, ap}
use Rattle.std.proofs.Common.{◌∙◌, subst, arith, eq-eqb, ne_eqb}
use Rattle.std.proofs.Math.Dec.{eqb}
use Rattle.base.specs.Lists.{keep}
use Rattle.base.specs.ListLaws.{keep_append, keep-none, keep_every}
use Rattle.base.specs.Alls.{All, All-map}
use Rattle.definition.specs.Limits.{slot_bytes}
use Rattle.definition.specs.Edges.{Edge, starting}
use Rattle.definition.specs.Paths.{longer}
use Rattle.edge.specs.Slots.{edges_of}
use Rattle.edge.specs.Counted.{all-behind, all-front}
use Rattle.edge.specs.Stored.{Slot}
use Rattle.edge.specs.Asked.{Readable}
use Rattle.standing.specs.Starts.{stretch_of}
use Rattle.standing.specs.Stands.{Stands, edges-between, stretch-within, fallen_of, by-stretch, fallen-over}

module _ (es near single : List Edge) (p : ℕ) (s : starting es p ≡ starting near p ++ single) (o : All (λ x. (x.from ≡ p) × (x.to ≡ p + 1)) single) where
  -- some width: over one character there are the stretch's and the fallback, over more the stretch's alone
  wide : (k : ℕ) → keep (λ x. eqb x.to (p + suc (suc k))) (starting es p) ≡ keep (λ x. eqb x.to (p + suc (suc k))) (starting near p)
  wide k =
      let q : Edge → Bool = λ x. eqb x.to (p + suc (suc k)) in
      ap (keep q) s ∙ keep_append q (starting near p) single
      ∙ ap (λ (r : List Edge). keep q (starting near p) ++ r)
      (keep-none (λ x. (x.from ≡ p) × (x.to ≡ p + 1)) q single o (λ x h. ne_eqb x.to (p + suc (suc k)) (λ z. omega (arith, h.1))))
      ∙ append-nil (keep q (starting near p))

  one : keep (λ x. eqb x.to (p + 1)) (starting es p) ≡ keep (λ x. eqb x.to (p + 1)) (starting near p) ++ single
  one =
      let q : Edge → Bool = λ x. eqb x.to (p + 1) in
      ap (keep q) s ∙ keep_append q (starting near p) single
      ∙ ap (λ (r : List Edge). keep q (starting near p) ++ r)
      (keep_every q single (All-map {P = λ x. (x.from ≡ p) × (x.to ≡ p + 1)} {Q = λ x. q x ≡ true} (λ x h. eq-eqb x.to (p + 1) h.1) single o))

  longer-near : (k : ℕ) → longer es p (suc k) ≡ longer near p (suc k) ++ single
  unfolding longer
  longer-near zero =
      let q : Edge → Bool = λ x. eqb x.to (p + 1) in
      append-nil (keep q (starting es p)) ∙ one ∙ ap (λ (r : List Edge). r ++ single) (sym (append-nil (keep q (starting near p))))
  longer-near (suc k) =
      let q : Edge → Bool = λ x. eqb x.to (p + suc (suc k)) in
      ap (λ (r : List Edge). r ++ longer es p (suc k)) (wide k)
      ∙ ap (λ (r : List Edge). keep q (starting near p) ++ r) (longer-near k)
      ∙ sym (append_assoc (keep q (starting near p)) (longer near p (suc k)) single)

-- of slots and starts
pub longer-by-stretch : (slots starts : List ℕ) (count : ℕ) (s : Stands slots starts count) (p : ℕ) (l : p + 1 < length starts)
    → (room : List ℕ) (n : ℕ) → p < n
    → longer (edges_of room count slots) p (n - p)
    ≡ longer (edges_of room ((stretch_of starts p).end - (stretch_of starts p).first) (drop ((stretch_of starts p).first * slot_bytes) slots)) p (n - p)
    ++ fallen_of slots starts count s p l room
longer-by-stretch slots starts count s p l room n h =
    let es = edges_of room count slots in
    let w = stretch-within slots starts count s p l in
    let S = stretch_of starts p in
    let near = edges_of room (S.end - S.first) (drop (S.first * slot_bytes) slots) in
    let e = edges-between room slots S.first S.end count w.0 w.1 in
    let T = fallen_of slots starts count s p l room in
    let z : starting es p ≡ starting near p ++ T =
    by-stretch slots starts count s p l room ∙ ap (λ (r : List Edge). starting r p ++ T) e in
    subst (λ (k : ℕ). longer es p k ≡ longer near p k ++ T) {x = suc (n - p - 1)} {y = n - p} (omega arith)
    (longer-near es near T p z (fallen-over slots starts count s p l room) (n - p - 1))

-- the slots of a stretch can be read
pub readable_near : (slots room near : List ℕ) (count first end : ℕ) → near ≡ drop (first * slot_bytes) slots → first ≤ end → end ≤ count
    → Readable slots room count → Readable near room (end - first)
readable_near slots room near count first end e h k r =
    let P = Slot room (length room) in
    subst (λ (l : List ℕ). Readable l room (end - first)) (sym e)
    (all-front slot_bytes P (end - first) (count - first) (drop (first * slot_bytes) slots) (omega arith)
    (all-behind slot_bytes P first (count - first) slots
    (subst (Readable slots room) {x = count} {y = first + (count - first)} (omega arith) r)))
