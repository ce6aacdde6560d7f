-- The first pass: starts rise, and an edge starts where the search stands or up to two characters before. So the number
-- of edges when the search began at a start parts those that all start before it from those that start near it or later.
use Rattle.std.specs.Prelude.{ℕ, ◌+◌, ◌-◌, ◌%◌, ◌<◌, ◌≤◌, false, ◌≡◌, length, get_or, set, take, drop, replicate}
use mathlib.Core.List.{List, [], ◌∷◌, ◌++◌}
use Rattle.std.proofs.Math.Option.{Option, none, some}
use Rattle.std.proofs.Common.{sym, ◌∙◌, subst, arith, length-append, length-set, get_or-set_same, get_or-set_other, take_at}
use Rattle.std.proofs.Math.Path.{ap}
use Rattle.std.proofs.Math.Decide.{dec_lt}
use Rattle.std.proofs.Math.Dec.{eqb}
use Rattle.std.proofs.lemmas.List.{length-replicate, get_or-replicate, take-append-le, drop-append-le}
use Rattle.std.proofs.Math.Seq.{take-length, drop-length}
use borrow.Author.Tests.{ne_eqb}
use Rattle.base.specs.Pick.{pick_all}
use Rattle.base.specs.Lists.{any}
use Rattle.base.specs.ListLaws.{keep-none}
use Rattle.base.specs.Alls.{All, All-map, All-append, Opt}
use Rattle.definition.specs.Limits.{slot_bytes}
use Rattle.definition.specs.Edges.{Edge, starting, alike, new_in, add}
use Rattle.definition.specs.Near.{Near}
use Rattle.edge.specs.Slots.{edge_of, edges_of}
use Rattle.edge.specs.Stored.{edge_count}
use Rattle.edge.specs.Counted.{counted_split}
use Rattle.edge.specs.Adding.{there}
use Rattle.standing.specs.Starts.{begun_limit, begun_in, fall_in, begun, fall_of, since_in}

-- the first `b` edges start before `f`, the others two before it or later
pub record Parted (es : List Edge) (f b : ℕ) : Type 0 where
  pub within : b ≤ length es
  pub low : All (λ x. x.from < f) (take b es)
  pub high : All (λ x. f ≤ x.from + 2) (drop b es)

parted-more : {es : List Edge} {f b : ℕ} → Parted es f b → (x : Edge) → f ≤ x.from + 2 → Parted (es ++ x ∷ []) f b
parted-more {es} {f} {b} p x h =
    let k = p.within in
    let P : Edge → Type 0 = λ y. f ≤ y.from + 2 in
    record {
      within = omega (arith, length-append es (x ∷ []));
      low = subst (All (λ y. y.from < f)) (sym (take-append-le b es (x ∷ []) k)) p.low;
      high = subst (All P) (sym (drop-append-le b es (x ∷ []) k)) (All-append P (drop b es) (x ∷ []) p.high (h, tt));
    }

-- all edges start before `f`
parted-whole : (es : List Edge) (f : ℕ) → All (λ x. x.from < f) es → Parted es f (length es)
parted-whole es f h = record {
  within = omega arith;
  low = subst (All (λ y. y.from < f)) (sym (take-length es)) h;
  high = subst (All (λ y. f ≤ y.from + 2)) (sym (drop-length es)) tt;
}

-- The search stands at `s`
pub record Begun (es : List Edge) (s : ℕ) (starts : List ℕ) : Type 0 where
  pub inside : s < length starts
  pub left : All (λ x. x.from ≤ s) es
  pub parts : (f : ℕ) → f ≤ s → Parted es f (begun starts f)
  pub unfallen : (f : ℕ) → f ≤ s → fall_of starts f ≡ 0

-- at first there are no edges
pub begun_first : (k : ℕ) → 0 < k → Begun [] 0 (replicate k 0)
begun_first k h = record {
  inside = omega (arith, length-replicate {A = ℕ} k 0);
  left = tt;
  parts = λ f l.
      let e : begun (replicate k 0) f ≡ 0 = ap begun_in (get_or-replicate k f 0 0 (omega arith)) in
      subst (Parted [] f) (sym e) (parted-whole [] f tt);
  unfallen = λ f l. ap fall_in (get_or-replicate k f 0 0 (omega arith));
}

module _ {es : List Edge} {s : ℕ} {starts : List ℕ} (b : Begun es s starts) where
  begun_more : (x : Edge) → Near s x → Begun (es ++ x ∷ []) s starts
  begun_more x n = record {
    inside = b.inside;
    left = All-append (λ y. y.from ≤ s) es (x ∷ []) b.left (n.left, tt);
    parts = λ f l. parted-more (b.parts f l) x (let h = n.near in omega arith);
    unfallen = b.unfallen;
  }

  -- what the search adds at `s`
  pub begun-add : (o : Option Edge) → Opt (Near s) o → Begun (add es o) s starts
  unfolding add new_in
  begun-add none n = b
  begun-add (some x) n =
      pick_all (λ (l : List Edge). Begun l s starts) (any (alike x) (starting es x.from)) {x = es} {y = es ++ x ∷ []} b (begun_more x n)

  -- the search goes on at the next start
  pub begun-next : s + 1 < length starts → length es < begun_limit → Begun es (s + 1) (set starts (s + 1) (length es))
  begun-next h k = record {
    inside = omega (arith, length-set starts (s + 1) (length es));
    left = All-map {P = λ y. y.from ≤ s} {Q = λ y. y.from ≤ s + 1} (λ y l. omega arith) es b.left;
    parts = λ f l. at f (dec_lt f (s + 1)) l;
    unfallen = λ f l. fall f (dec_lt f (s + 1)) l;
  }
    where
      next : List ℕ
      next = set starts (s + 1) (length es)

      old : (f : ℕ) → f < s + 1 → get_or next f 0 ≡ get_or starts f 0
      old f l = get_or-set_other starts (s + 1) f (length es) 0 (λ z. omega arith)

      new : (f : ℕ) → f ≡ s + 1 → get_or next f 0 ≡ length es
      new f q = ap (λ (i : ℕ). get_or next i 0) q ∙ get_or-set_same starts (s + 1) (length es) 0 h

      at : (f : ℕ) → Dec (f < s + 1) → f ≤ s + 1 → Parted es f (begun next f)
      at f (yes l) j = subst (Parted es f) (sym (ap begun_in (old f l))) (b.parts f (omega arith))
      at f (no l) j =
          let q : f ≡ s + 1 = omega arith in
          let e : begun next f ≡ length es = ap begun_in (new f q) ∙ (let z : length es ≡ length es % begun_limit = omega arith in sym z) in
          subst (Parted es f) (sym e)
          (parted-whole es f (All-map {P = λ y. y.from ≤ s} {Q = λ y. y.from < f} (λ y m. omega arith) es b.left))

      fall : (f : ℕ) → Dec (f < s + 1) → f ≤ s + 1 → fall_of next f ≡ 0
      fall f (yes l) j = ap fall_in (old f l) ∙ b.unfallen f (omega arith)
      fall f (no l) j = let e = new f (omega arith) in omega (arith, e, k)

  -- the first edges are not equal to one that the search at `s` may find
  pub since_fresh : (x : Edge) → s ≤ x.from + 2 → there (take (since_in starts s) es) x ≡ false
  unfolding there starting any
  since_fresh x h =
      let n = keep-none (λ y. y.from < s - 2) (λ y. eqb y.from x.from) (take (since_in starts s) es)
      (b.parts (s - 2) (omega arith)).low (λ y l. ne_eqb y.from x.from (λ z. omega arith)) in
      ap (any (alike x)) n

-- the first edges of the slots
pub edges-first : (room slots : List ℕ) (m count : ℕ) → m ≤ count → edges_of room m slots ≡ take m (edges_of room count slots)
edges-first room slots m count h =
    sym (ap (take m) (counted_split slot_bytes (edge_of room) m count slots h) ∙ take_at (edges_of room m slots) _ m (edge_count slots room m))

-- the same of the slots: what `add_edge` asks of an edge that the search at `s` found
pub since_new : (room slots : List ℕ) (count : ℕ) {es : List Edge} {s : ℕ} {starts : List ℕ} → Begun es s starts
    → edges_of room count slots ≡ es → (x : Edge) → s ≤ x.from + 2
    → (since_in starts s ≤ count) × (there (edges_of room (since_in starts s) slots) x ≡ false)
since_new room slots count {es} {s} {starts} b e x h =
    let n : length es ≡ count = ap length (sym e) ∙ edge_count slots room count in
    let l : since_in starts s ≤ count = omega (arith, (b.parts (s - 2) (omega arith)).within, n) in
    let first = edges-first room slots (since_in starts s) count l ∙ ap (take (since_in starts s)) e in
    (l, ap (λ (k : List Edge). there k x) first ∙ since_fresh b x h)
