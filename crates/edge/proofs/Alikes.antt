-- Is an edge in a slot equal to one with these numbers and this text? One law for each answer.
use mathlib.Core.Bool.{Bool, false, ◌&&◌, ◌||◌}
use mathlib.Core.List.{List}
use mathlib.Core.Path.{◌≡◌, sym, ap, ◌∙◌}
use Prim.Native.Nat.{ℕ, ◌-◌, ◌*◌, ◌≤◌}
use lib.Dec.{eqb}
use lib.ListN.{drop}
use borrow.Author.Tests.{eq-eqb, ne_eqb}
use Rattle.base.specs.ListLaws.{any_append, any-keep}
use Rattle.base.specs.Lists.{any, same}
use Rattle.definition.specs.Limits.{slot_bytes}
use Rattle.definition.specs.Edges.{Edge, starting, alike}
use Rattle.utf8.specs.Encodings.{TextBytes, same-decoded}
use Rattle.edge.specs.declared.Numbers.{Numbers}
use Rattle.edge.specs.Slots.{bytes_of, edge_by, numbers_of, edge_of, edges_of}
use Rattle.edge.specs.Counted.{counted_split}
use Rattle.edge.specs.Adding.{there}

-- equal in start too
abbrev pub like : Numbers → List ℕ → Edge → Bool
like e text y = eqb y.from e.from && alike (edge_by e text) y

pub there-is : (es : List Edge) (e : Numbers) (text : List ℕ) → any (like e text) es ≡ there es (edge_by e text)
unfolding there starting edge_by
there-is es e text = sym (any-keep (alike (edge_by e text)) (λ y. eqb y.from e.from) es)

-- where none of the first is like it, those behind them tell it of all
pub there-behind : (room slots : List ℕ) (since count : ℕ) (e : Numbers) (text : List ℕ) → since ≤ count
    → there (edges_of room since slots) (edge_by e text) ≡ false
    → any (like e text) (edges_of room (count - since) (drop (since * slot_bytes) slots)) ≡ there (edges_of room count slots) (edge_by e text)
there-behind room slots since count e text h f =
    let first = edges_of room since slots in
    let behind = edges_of room (count - since) (drop (since * slot_bytes) slots) in
    let all = counted_split slot_bytes (edge_of room) since count slots h in
    sym (sym (there-is (edges_of room count slots) e text) ∙ ap (any (like e text)) all ∙ any_append (like e text) first behind
    ∙ ap (λ (b : Bool). b || any (like e text) behind) (there-is first e text ∙ f))

module _ (room s : List ℕ) (e : Numbers) (text : List ℕ) (o : Numbers) (q : o ≡ numbers_of s) where
  abbrev is_like : Bool
  is_like = like e text (edge_of room s)

  pub other-start : (o.from ≡ e.from → ⊥) → false ≡ is_like
  unfolding edge_by
  other-start f = sym (rw (sym q) (rw (ne_eqb o.from e.from f)))

  module _ (a : o.from ≡ e.from) where
    pub other-end : (e.to ≡ o.to → ⊥) → false ≡ is_like
    unfolding edge_by alike
    other-end f = sym (rw (sym q) (rw (eq-eqb o.from e.from a, ne_eqb e.to o.to f)))

    module _ (b : e.to ≡ o.to) where
      pub other-note : (e.note ≡ o.note → ⊥) → false ≡ is_like
      unfolding edge_by alike
      other-note f = sym (rw (sym q) (rw (eq-eqb o.from e.from a, eq-eqb e.to o.to b, ne_eqb e.note o.note f)))

      pub by_text : e.note ≡ o.note → TextBytes text → TextBytes (bytes_of room s) → same text (bytes_of room s) ≡ is_like
      unfolding edge_by alike
      by_text c h k = sym (rw (sym q) (rw (eq-eqb o.from e.from a, eq-eqb e.to o.to b, eq-eqb e.note o.note c)
          (same-decoded h k)))
