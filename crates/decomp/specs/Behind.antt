-- Edges stay where only what lies behind them has changed, in slots and room.
use Rattle.std.specs.Prelude.{ℕ, ◌-◌, ◌*◌, ◌≤◌, List, [], ◌≡◌, length, take}
use Rattle.std.proofs.Common.{append-nil, sym, ap, ◌∙◌, arith, length-append, take_at, length-take-le}
use lib.ListN.{length-drop}
use borrow.Rule.Slice.PartMut.{put_mid, mid_of}
use Rattle.base.specs.Loans.{back_end, lent-end}
use Rattle.definition.specs.Limits.{slot_bytes}
use Rattle.definition.specs.Tables.{Class}
use Rattle.definition.specs.Edges.{State}
use Rattle.definition.specs.Growth.{all_bytes}
use Rattle.edge.specs.Slots.{edge_of, edges_of}
use Rattle.edge.specs.Counted.{counted-agree, all-agree}
use Rattle.edge.specs.Stored.{Slot, Stored, edge-agree, slot-agree}
use Rattle.noting.specs.Keeps.{Keeps}
use Rattle.first_pass.specs.Fresh.{Fresh, fresh-later}

-- what was lent from `a` on has come back
module _ (xs ys : List ℕ) (a : ℕ) (h : a ≤ length xs) where
  pub back-front : take a (put_mid a (length xs - a) xs ys) ≡ take a xs
  back-front = ap (take a) (back_end xs a ys) ∙ take_at (take a xs) ys a (length-take-le a xs h)

  pub back-length : length ys ≡ length xs - a → length (put_mid a (length xs - a) xs ys) ≡ length xs
  back-length e = ap length (back_end xs a ys) ∙ omega (arith, length-append (take a xs) ys, length-take-le a xs h, e)

module _ {S R : List ℕ} (S' R' : List ℕ) {c u : ℕ} (st : Stored S R c u) (a : take (c * slot_bytes) S ≡ take (c * slot_bytes) S') (b : take u R ≡ take u R')
    (l : length S' ≡ length S) (m : length R' ≡ length R) where
  pub edges_stay : edges_of R c S ≡ edges_of R' c S'
  edges_stay = counted-agree slot_bytes (edge_of R) (edge_of R') (Slot R u) (λ s s' f. edge-agree R R' u b s s' f) c S S' a st.rows

  pub stored_stay : Stored S' R' c u
  stored_stay = record {
    rows = all-agree slot_bytes (Slot R u) (Slot R' u) (λ s s' f. slot-agree R R' u b s s' f u (omega arith)) c S S' a st.rows;
    slot = omega (arith, st.slot, l);
    within = omega (arith, st.within, m);
    sum = st.sum ∙ ap all_bytes edges_stay;
  }

  pub keeps_stay : {ks : List Class} {n : ℕ} {P : List ℕ} {state : State} → Keeps ks n S R P c u state → Keeps ks n S' R' P c u state
  keeps_stay k = record { stored = stored_stay; edges = sym edges_stay ∙ k.edges; shown = k.shown; remembered = k.remembered }

  pub fresh_stay : {s since : ℕ} → Fresh s S R (record { count = c; used = u; since = since }) → Fresh s S' R' (record { count = c; used = u; since = since })
  fresh_stay f = fresh-later f S' R' c u (record { more = []; is = sym edges_stay ∙ sym (append-nil (edges_of R c S)); all = tt })

-- as many as are free
pub free-length : (xs : List ℕ) (a : ℕ) → length (mid_of a (length xs - a) xs) ≡ length xs - a
free-length xs a = ap length (lent-end xs a) ∙ length-drop a xs

-- what lies behind the edges was lent, and has come back
module _ {S R : List ℕ} {c u : ℕ} (st : Stored S R c u) (X Y : List ℕ) (e : length X ≡ length S - c * slot_bytes) (f : length Y ≡ length R - u) where
  abbrev pub slots_back : List ℕ
  slots_back = put_mid (c * slot_bytes) (length S - c * slot_bytes) S X

  abbrev pub room_back : List ℕ
  room_back = put_mid u (length R - u) R Y

  pub slots_long : length slots_back ≡ length S
  slots_long = back-length S X (c * slot_bytes) st.slot e

  pub room_long : length room_back ≡ length R
  room_long = back-length R Y u st.within f

  pub stored_back : Stored slots_back room_back c u
  stored_back = stored_stay slots_back room_back st (sym (back-front S X (c * slot_bytes) st.slot)) (sym (back-front R Y u st.within)) slots_long room_long

  pub keeps_back : {ks : List Class} {n : ℕ} {P : List ℕ} {state : State} → Keeps ks n S R P c u state → Keeps ks n slots_back room_back P c u state
  keeps_back = keeps_stay slots_back room_back st (sym (back-front S X (c * slot_bytes) st.slot)) (sym (back-front R Y u st.within)) slots_long room_long

  pub fresh_back : {s since : ℕ} → Fresh s S R (record { count = c; used = u; since = since })
      → Fresh s slots_back room_back (record { count = c; used = u; since = since })
  fresh_back = fresh_stay slots_back room_back st (sym (back-front S X (c * slot_bytes) st.slot)) (sym (back-front R Y u st.within)) slots_long room_long
