-- Both passes are done: slots and starts as readers need them, whatever the text room has, since spans don't depend on
-- it. The edges of a start are those of its stretch that start there, and behind them its fallback.
use Prim.Native.Nat.{ℕ, zero, suc, ◌+◌, ◌-◌, ◌*◌, ◌<◌, ◌≤◌}
use Rattle.std.specs.Prelude.{Bool, true, ◌≡◌, refl, ltb, get_or, take, drop}
use mathlib.Core.List.{List, [], ◌++◌, append-nil}
use Rattle.std.proofs.Common.{sym, ◌∙◌, length-take, length-drop, take-append-drop, drop-drop, drop_at, length-take-le, get_or-take, get_or-drop}
use Rattle.std.proofs.Math.Path.{ap, subst}
use native.Mathlib.Omega.{arith}
use Rattle.std.proofs.Math.Decide.{dec_le, dec_lt}
use Rattle.std.proofs.Math.Dec.{eqb}
use Rattle.std.proofs.Math.ListN.{length}
use Rattle.std.proofs.Math.Seq.{take-append_seam, drop-append_seam, drop-length}
use Rattle.std.proofs.lemmas.List.{take-append-le, drop-append-le}
use borrow.Author.Tests.{eqb-true, ne_eqb, lt-ltb, le-ltb}
use Rattle.base.specs.Pick.{pick}
use Rattle.base.specs.Lists.{keep}
use Rattle.base.specs.ListLaws.{keep_append, keep-none, take-most}
use Rattle.base.specs.Rows.{counted}
use Rattle.base.specs.Alls.{All, All-map, All-at, All-drop, All-kept}
use Rattle.definition.specs.Limits.{slot_bytes}
use Rattle.definition.specs.Edges.{Edge, starting}
use Rattle.edge.specs.Slots.{edge_by, edge_of, edges_of}
use Rattle.edge.specs.Stored.{edge_count}
use Rattle.edge.specs.Counted.{counted_split}
use Rattle.standing.specs.declared.Stretch.{Stretch}
use Rattle.standing.specs.Starts.{begun, fall_of, end_of, stretch_of}
use Rattle.standing.specs.Begun.{edges-first}
use Rattle.standing.specs.Fallen.{Same, same-take, same_drop, same-all, numbered, only_here, Fallen, same-fallen}

-- the edges of the first pass, and the fallbacks
abbrev pub first_pass : List ℕ → List Edge → List Edge
first_pass starts es = take (begun starts (end_of starts)) es

abbrev pub fallbacks : List ℕ → List Edge → List Edge
fallbacks starts es = drop (begun starts (end_of starts)) es

-- a span goes forward, within a text of `n`
abbrev pub Ahead : ℕ → ℕ → ℕ → Type 0
Ahead n from to = (from < to) × (to ≤ n)

pub record Stands (slots starts : List ℕ) (count : ℕ) : Type 0 where
  pub slot : count * slot_bytes ≤ length slots
  pub fallen : (room : List ℕ)
      → Fallen (first_pass starts (edges_of room count slots)) (fallbacks starts (edges_of room count slots)) (end_of starts) (end_of starts) starts
  pub ahead : (room : List ℕ) → All (λ x. Ahead (end_of starts) x.from x.to) (edges_of room count slots)

-- they stand so for some number of edges
abbrev pub Arranged : List ℕ → List ℕ → Type 0
Arranged slots starts = (count : ℕ) × Stands slots starts count

-- another room changes no span
pub same_edges : (room room' : List ℕ) (count : ℕ) (slots : List ℕ) → Same (edges_of room count slots) (edges_of room' count slots)
unfolding counted edge_by
same_edges room room' zero slots = tt
same_edges room room' (suc n) slots = (refl, refl, same_edges room room' n (drop slot_bytes slots))

pub fallen-stands : {P F : List Edge} {n : ℕ} {starts : List ℕ} → Fallen P F n n starts → (room slots : List ℕ) (count : ℕ)
    → edges_of room count slots ≡ P ++ F → count * slot_bytes ≤ length slots → All (λ x. Ahead n x.from x.to) (P ++ F)
    → Stands slots starts count
fallen-stands {P} {F} {n} {starts} h room slots count e l a = record {
  slot = l;
  fallen = λ other. same-fallen _ _
      (same-take (begun starts (end_of starts)) (edges_of room count slots) (edges_of other count slots) (same_edges room other count slots))
      (same_drop (begun starts (end_of starts)) (edges_of room count slots) (edges_of other count slots) (same_edges room other count slots)) here;
  ahead = λ other. same-all (Ahead (end_of starts)) (edges_of room count slots) (edges_of other count slots) (same_edges room other count slots)
      (subst (λ (m : ℕ). All (λ x. Ahead m x.from x.to) (edges_of room count slots)) last
      (subst (All (λ x. Ahead n x.from x.to)) (sym e) a));
}
  where
    last : n ≡ end_of starts
    last = omega (arith, h.size)

    made : begun starts (end_of starts) ≡ length P
    made = ap (begun starts) (sym last) ∙ h.whole

    front : first_pass starts (edges_of room count slots) ≡ P
    front = ap (λ (k : ℕ). take k (edges_of room count slots)) made ∙ ap (take (length P)) e ∙ take-append_seam P F

    rest : fallbacks starts (edges_of room count slots) ≡ F
    rest = ap (λ (k : ℕ). drop k (edges_of room count slots)) made ∙ ap (drop (length P)) e ∙ drop-append_seam P F

    here : Fallen (first_pass starts (edges_of room count slots)) (fallbacks starts (edges_of room count slots)) (end_of starts) (end_of starts) starts
    here =
        subst (λ (l : List Edge). Fallen l (fallbacks starts (edges_of room count slots)) (end_of starts) (end_of starts) starts) (sym front)
        (subst (λ (l : List Edge). Fallen P l (end_of starts) (end_of starts) starts) (sym rest)
        (subst (λ (m : ℕ). Fallen P F m m starts) last h))

-- some edges by number
unfoldable pub between : List Edge → ℕ → ℕ → List Edge
between es first end = take (end - first) (drop first es)

-- where those before a stretch start before `p`, and those behind it start behind `p`, its edges are all that start there
between-starting : (l : List Edge) (p first end : ℕ) → All (λ x. x.from < p) (take first l) → All (λ x. p < x.from) (drop end l)
    → starting l p ≡ starting (between l first end) p
unfolding starting between
between-starting l p first end a b =
    let q : Edge → Bool = λ x. eqb x.from p in
    let m = drop first l in
    let k : drop (end - first) m ≡ drop (first + (end - first) - end) (drop end l) =
    drop-drop (end - first) first l
    ∙ ap (λ (i : ℕ). drop i l) {x = first + (end - first)} {y = end + (first + (end - first) - end)} (omega arith)
    ∙ sym (drop-drop (first + (end - first) - end) end l) in
    let front : keep q (take first l) ≡ [] =
    keep-none (λ x. x.from < p) q (take first l) a (λ x h. ne_eqb x.from p (λ z. omega arith)) in
    let back : keep q (drop (end - first) m) ≡ [] =
    ap (keep q) k ∙ keep-none (λ x. p < x.from) q _ (All-drop (λ x. p < x.from) (first + (end - first) - end) (drop end l) b)
    (λ x h. ne_eqb x.from p (λ z. omega arith)) in
    ap (keep q) (sym (take-append-drop first l)) ∙ keep_append q (take first l) m ∙ ap (λ (r : List Edge). r ++ keep q m) front
    ∙ ap (keep q) (sym (take-append-drop (end - first) m)) ∙ keep_append q (take (end - first) m) (drop (end - first) m)
    ∙ ap (λ (r : List Edge). keep q (take (end - first) m) ++ r) back ∙ append-nil (keep q (take (end - first) m))

-- numbers within the first list don't see what stands behind it
between-front : (l k : List Edge) (first end : ℕ) → first ≤ length l → end ≤ length l → between (l ++ k) first end ≡ between l first end
unfolding between
between-front l k first end h j =
    ap (take (end - first)) (drop-append-le first l k h)
    ∙ take-append-le (end - first) (drop first l) k (omega (arith, length-drop first l))

module _ {P F : List Edge} {n : ℕ} {starts : List ℕ} (h : Fallen P F n n starts) (p : ℕ) (l : p < n) where
  abbrev S : Stretch
  S = stretch_of starts p

  pub first-within : S.first ≤ length P
  unfolding stretch_of
  first-within = (h.parts p (omega arith)).within

  end-part : (S.end ≤ length P) × All (λ x. p < x.from) (drop S.end P)
  unfolding stretch_of pick
  end-part = go (dec_lt n (p + 3))
    where
      last : end_of starts ≡ n
      last = omega (arith, h.size)

      Part : ℕ → Type 0
      Part e = (e ≤ length P) × All (λ x. p < x.from) (drop e P)

      go : Dec (n < p + 3) → Part (pick (ltb (end_of starts) (p + 3)) (begun starts (end_of starts)) (begun starts (p + 3)))
      go (yes k) = rw (lt-ltb (end_of starts) (p + 3) (omega arith))
          (subst Part (sym (ap (begun starts) last ∙ h.whole)) (omega arith, subst (All (λ x. p < x.from)) (sym (drop-length P)) tt))
      go (no k) = rw (le-ltb (end_of starts) (p + 3) (omega arith))
          (let part = h.parts (p + 3) (omega arith) in (
            part.within,
            All-map {P = λ x. p + 3 ≤ x.from + 2} {Q = λ x. p < x.from} (λ x j. omega arith) (drop (begun starts (p + 3)) P) part.high,
          ))

  pub end-within : S.end ≤ length P
  end-within = end-part.0

  first-low : All (λ x. x.from < p) (take S.first P)
  unfolding stretch_of
  first-low = (h.parts p (omega arith)).low

  -- an edge both before the stretch and behind it would start both before `p` and behind it
  pub stretch_forward : S.first ≤ S.end
  stretch_forward = go (dec_le S.first S.end)
    where
      d : Edge
      d = record { from = 0; to = 0; note = 0; core = 0; text = [] }

      go : Dec (S.first ≤ S.end) → S.first ≤ S.end
      go (yes k) = k
      go (no k) =
          let i = first-within in
          let a = All-at (λ x. x.from < p) (take S.first P) S.end d first-low (omega (arith, length-take-le S.first P i)) in
          let b = All-at (λ x. p < x.from) (drop S.end P) 0 d end-part.1 (omega (arith, length-drop S.end P)) in
          let e : get_or (take S.first P) S.end d ≡ get_or (drop S.end P) 0 d =
          get_or-take S.first P S.end d (omega arith)
          ∙ ap (λ (j : ℕ). get_or P j d) {x = S.end} {y = S.end + 0} (omega arith) ∙ sym (get_or-drop S.end P 0 d) in
          let f = ap (λ (x : Edge). x.from) e in
          absurd (omega (arith, a, b, f))

  -- the edges of a start
  pub by-start : starting (P ++ F) p ≡ starting (between (P ++ F) S.first S.end) p ++ numbered F (fall_of starts p)
  unfolding starting
  by-start =
      keep_append (λ (x : Edge). eqb x.from p) P F
      ∙ ap (λ (r : List Edge). r ++ starting F p) (between-starting P p S.first S.end first-low end-part.1
      ∙ ap (λ (r : List Edge). starting r p) (sym (between-front P F S.first S.end first-within end-within)))
      ∙ ap (λ (r : List Edge). starting (between (P ++ F) S.first S.end) p ++ r) (only_here F p (fall_of starts p) (h.named p l))

  -- its fallback goes over one character, and there is one at most
  pub fallback_over : All (λ x. (x.from ≡ p) × (x.to ≡ p + 1)) (numbered F (fall_of starts p))
  unfolding starting
  fallback_over =
      let k = only_here F p (fall_of starts p) (h.named p l) in
      subst (All (λ x. (x.from ≡ p) × (x.to ≡ p + 1))) k
      (All-map {P = λ x. (x.to ≡ x.from + 1) × (eqb x.from p ≡ true)} {Q = λ x. (x.from ≡ p) × (x.to ≡ p + 1)}
      (λ x j. let e = eqb-true x.from p j.1 in (e, omega (arith, j.0))) (keep (λ x. eqb x.from p) F)
      (All-kept (λ x. x.to ≡ x.from + 1) (λ x. eqb x.from p) F h.over))

  pub fallback_few : length (numbered F (fall_of starts p)) ≤ 1
  unfolding numbered
  fallback_few = go (fall_of starts p)
    where
      go : (k : ℕ) → length (numbered F k) ≤ 1
      go zero = omega arith
      go (suc k) = take-most 1 (drop k F)

-- Edges of the slots by number
pub edges-from : (room slots : List ℕ) (m count : ℕ) → m ≤ count
    → drop m (edges_of room count slots) ≡ edges_of room (count - m) (drop (m * slot_bytes) slots)
edges-from room slots m count h =
    ap (drop m) (counted_split slot_bytes (edge_of room) m count slots h)
    ∙ drop_at (edges_of room m slots) (edges_of room (count - m) (drop (m * slot_bytes) slots)) m (edge_count slots room m)

pub edges-between : (room slots : List ℕ) (first end count : ℕ) → first ≤ count → end ≤ count
    → between (edges_of room count slots) first end ≡ edges_of room (end - first) (drop (first * slot_bytes) slots)
unfolding between
edges-between room slots first end count h k =
    ap (take (end - first)) (edges-from room slots first count h)
    ∙ sym (edges-first room (drop (first * slot_bytes) slots) (end - first) (count - first) (omega arith))

-- What readers of slots and starts are told
module _ (slots starts : List ℕ) (count : ℕ) (s : Stands slots starts count) (p : ℕ) (l : p + 1 < length starts) where
  made-within : begun starts (end_of starts) ≤ count
  made-within =
      let b = begun starts (end_of starts) in
      let es = edges_of [] count slots in
      omega (arith, (s.fallen []).whole, length-take b es, edge_count slots [] count)

  pub stretch_on : (stretch_of starts p).first ≤ (stretch_of starts p).end
  stretch_on = stretch_forward (s.fallen []) p (omega arith)

  pub stretch-within : ((stretch_of starts p).first ≤ count) × ((stretch_of starts p).end ≤ count)
  stretch-within =
      let m = made-within in
      let w = (s.fallen []).whole in
      (omega (arith, first-within (s.fallen []) p (omega arith)), omega (arith, end-within (s.fallen []) p (omega arith)))

  module _ (room : List ℕ) where
    abbrev es : List Edge
    es = edges_of room count slots

    -- the fallback of `p`, where it has one
    unfoldable pub fallen_of : List Edge
    fallen_of = numbered (fallbacks starts es) (fall_of starts p)

    pub by-stretch : starting es p ≡ starting (between es (stretch_of starts p).first (stretch_of starts p).end) p ++ fallen_of
    unfolding fallen_of
    by-stretch = subst (λ (l : List Edge). starting l p ≡ starting (between l (stretch_of starts p).first (stretch_of starts p).end) p ++ fallen_of)
        (take-append-drop (begun starts (end_of starts)) es) (by-start (s.fallen room) p (omega arith))

    pub fallen-over : All (λ x. (x.from ≡ p) × (x.to ≡ p + 1)) fallen_of
    unfolding fallen_of
    fallen-over = fallback_over (s.fallen room) p (omega arith)

    pub fallen_few : length fallen_of ≤ 1
    unfolding fallen_of
    fallen_few = fallback_few (s.fallen room) p (omega arith)
