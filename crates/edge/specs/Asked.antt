-- What is asked of all edges: a test of each that passes another, from slot to slot.
use Rattle.std.specs.Prelude.{ℕ, zero, suc, ◌+◌, ◌-◌, ◌*◌, ◌<◌, ◌≤◌, Bool, true, false, ◌&&◌, ◌||◌, ◌≡◌, length, drop}
use mathlib.Core.List.{List, []}
use Rattle.std.proofs.Math.Option.{Option, none, some}
use Rattle.std.proofs.Math.Path.{refl, sym, ap}
use Rattle.std.proofs.Common.{◌∙◌, arith, length-drop}
use Rattle.base.specs.Pick.{pick}
use Rattle.base.specs.Lists.{put, keep, any, best_of, best}
use Rattle.base.specs.Rows.{counted, counted_none, counted_some, AllOf}
use Rattle.definition.specs.Limits.{slot_bytes}
use Rattle.edge.specs.Stored.{Slot, Stored, slot-agree}
use Rattle.edge.specs.Counted.{all-agree}

-- The slots can be read: each one's text lies within the room
abbrev pub Readable : List ℕ → List ℕ → ℕ → Type 0
Readable slots room count = AllOf (Slot room (length room)) slot_bytes count slots

pub stored_readable : (slots room : List ℕ) (count used : ℕ) → Stored slots room count used → Readable slots room count
stored_readable slots room count used st =
    all-agree slot_bytes (Slot room used) (Slot room (length room))
    (λ s s' e. slot-agree room room used refl s s' e (length room) st.within) count slots slots refl st.rows

-- there are so many of them
pub readable_slots : (slots room : List ℕ) (count : ℕ) → Readable slots room count → count * slot_bytes ≤ length slots
unfolding AllOf
readable_slots slots room zero h = omega arith
readable_slots slots room (suc n) h =
    let r = h.0.row in
    let k = readable_slots (drop slot_bytes slots) room n h.1 in omega (arith, length-drop slot_bytes slots)

module _ {A : Type 0} where
  -- the best of those seen and of a list
  unfoldable pub best_after : (A → A → Bool) → Option A → List A → Option A
  best_after beats none l = best beats l
  best_after beats (some x) l = some (best_of beats x l)

  -- is it better than the best so far?
  abbrev pub better : (A → A → Bool) → Option A → A → Bool
  better beats none x = true
  better beats (some y) x = beats x y

module _ {A : Type 0} (one : List ℕ → A) (size : ℕ) (s : List ℕ) (n o : ℕ) where
  abbrev rest : List A
  rest = counted one size n (drop o s)

  abbrev more : List A
  more = counted one size (n - 1) (drop (o + size) s)

  module _ (q : A → Bool) where
    pub any-over : n ≡ 0 → false ≡ any q rest
    unfolding any
    any-over h = sym (ap (any q) (counted_none one size n (drop o s) h))

    pub any_here : 0 < n → q (one (drop o s)) ≡ true → true ≡ any q rest
    unfolding any
    any_here h e = sym (ap (any q) (counted_some one size n o s h) ∙ ap (λ (b : Bool). b || any q more) e)

    pub any_next : 0 < n → q (one (drop o s)) ≡ false → any q more ≡ any q rest
    unfolding any
    any_next h e = sym (ap (any q) (counted_some one size n o s h) ∙ ap (λ (b : Bool). b || any q more) e)

  module _ (g : A → Bool) (beats : A → A → Bool) (b : Option A) where
    pub best-over : n ≡ 0 → b ≡ best_after beats b (keep g rest)
    unfolding best_after keep best best_of
    best-over h = sym (ap (λ l. best_after beats b (keep g l)) (counted_none one size n (drop o s) h) ∙ go b)
      where
        go : (b : Option A) → best_after beats b [] ≡ b
        go none = refl
        go (some x) = refl

    pub best-here : 0 < n → (g (one (drop o s)) && better beats b (one (drop o s))) ≡ true
        → best_after beats (some (one (drop o s))) (keep g more) ≡ best_after beats b (keep g rest)
    unfolding best_after keep best best_of pick
    best-here h e = sym (ap (λ l. best_after beats b (keep g l)) (counted_some one size n o s h) ∙ go b (g (one (drop o s))) e)
      where
        x : A
        x = one (drop o s)

        deeper : (y : A) (t : Bool) → t ≡ true → best_of beats (pick t x y) (keep g more) ≡ best_of beats x (keep g more)
        deeper y true e = refl
        deeper y false e = ap (λ t. best_of beats (pick t x y) (keep g more)) e

        go : (b : Option A) (t : Bool) → (t && better beats b x) ≡ true → best_after beats b (put t x (keep g more)) ≡ best_after beats (some x) (keep g more)
        go none true e = refl
        go (some y) true e = ap some (deeper y (beats x y) e)
        go b false e = absurd (let z : ◌≡◌ {A = ℕ} 0 1 = cc in omega arith)

    pub best-next : 0 < n → (g (one (drop o s)) && better beats b (one (drop o s))) ≡ false
        → best_after beats b (keep g more) ≡ best_after beats b (keep g rest)
    unfolding best_after keep best best_of pick
    best-next h e = sym (ap (λ l. best_after beats b (keep g l)) (counted_some one size n o s h) ∙ go b (g (one (drop o s))) e)
      where
        x : A
        x = one (drop o s)

        go : (b : Option A) (t : Bool) → (t && better beats b x) ≡ false → best_after beats b (put t x (keep g more)) ≡ best_after beats b (keep g more)
        go none true e = absurd (let z : ◌≡◌ {A = ℕ} 0 1 = cc in omega arith)
        go (some y) true e = ap (λ t. some (best_of beats (pick t x y) (keep g more))) e
        go b false e = refl
