-- The lattice's edges in adding order, what is asked of them, and what is remembered of word starts
-- (`edge.rs`, `lattice/mod.rs`).
use Rattle.std.specs.Prelude.{Bool, true, false, ◌&&◌, List, [], ◌∷◌, ◌++◌, ℕ, zero, suc, ◌+◌, ◌-◌, eqb, ltb, set}
use Rattle.std.proofs.Math.Option.{Option, none, some}
use Rattle.base.specs.Pick.{pick}
use Rattle.base.specs.Lists.{keep, any, best, is, same}
use Rattle.definition.specs.Texts.{Text, among, last_is}
use Rattle.definition.specs.Tables.{Class}
use Rattle.definition.specs.Classes.{alpha}

-- An edge from `from` to `to`; `note` is its annotation, `core` its core's length
pub record Edge : Type 0 where
  pub from : ℕ
  pub to : ℕ
  pub note : ℕ
  pub core : ℕ
  pub text : Text

unfoldable pub ending : List Edge → ℕ → List Edge
ending es p = keep (λ x. eqb x.to p) es

unfoldable pub starting : List Edge → ℕ → List Edge
starting es p = keep (λ x. eqb x.from p) es

-- the longest edge that ends here (`best_left_neighbor_edge`), that starts here (`best_right_neighbor_edge`);
-- of its span the first added (`best_edge_in_span`)
unfoldable pub left_best : List Edge → ℕ → Option Edge
left_best es p = best (λ x y. ltb x.from y.from) (ending es p)

unfoldable pub right_best : List Edge → ℕ → Option Edge
right_best es p = best (λ x y. ltb y.to x.to) (starting es p)

-- an edge over the one character at `p`
unfoldable pub covered : List Edge → ℕ → Bool
covered es p = any (λ x. eqb x.to (p + 1)) (starting es p)

-- An edge is added at the end, unless one like it is there
unfoldable pub new_in : (Edge → Edge → Bool) → List Edge → Edge → List Edge
new_in like es x = pick (any (like x) (starting es x.from)) es (es ++ x ∷ [])

-- Edges that start alike are equal where end, annotation and text are (`impl PartialEq for Edge`).
-- The core needs no comparison: the text has it (Cores)
unfoldable pub alike : Edge → Edge → Bool
alike x y = eqb x.to y.to && eqb x.note y.note && same x.text y.text

-- `add_edge`, where there is one to add
unfoldable pub add : List Edge → Option Edge → List Edge
add es none = es
add es (some x) = new_in alike es x

-- What is asked of the edges so far
pub record View : Type 0 where
  -- does one that ends here end in a letter or mark?
  pub letter : ℕ → Bool
  -- does the longest one that ends here end in a consonant (without w and y)?
  pub closed : ℕ → Bool
  -- the nearest text to the left that is not empty, looked for from a position back to the one given first
  pub behind : ℕ → ℕ → Text

-- CONSONANT_END_RE: [bcdfghjklmnpqrstvxz]$
unfoldable pub closing : ℕ → Bool
closing = among "bcdfghjklmnpqrstvxz"

-- `find_rom_edge_path_backwards_str`, back from `p` to `a`, in `k` steps at most:
-- over positions where no edge ends, and over empty texts
unfoldable pub walk : List Edge → ℕ → ℕ → ℕ → Text
walk es a zero p = []
walk es a (suc k) p =
    elim (ltb a p) [
      | false ↦ []
      | true ↦ elim (left_best es p) [
        | none ↦ walk es a k (p - 1)
        | some x ↦ elim x.text [ [] ↦ walk es a k x.from | c ∷ w ↦ c ∷ w ]
      ]
    ]

unfoldable pub view : List Class → List Edge → View
view ks es = record {
  letter = λ p. any (λ x. last_is (alpha ks) x.text) (ending es p);
  closed = λ p. is (λ x. last_is closing x.text) (left_best es p);
  behind = λ a p. walk es a p p;
}

-- What is remembered: for each position 0 not asked, 1 a start of word, 2 none.
-- `M A` is an answer that may remember more
abbrev pub Mem : Type 0
Mem = List ℕ

abbrev pub M : Type 0 → Type 0
M A = Mem → A × Mem

unfoldable pub ret : {A : Type 0} → A → M A
ret x = λ m. (x, m)

infixl 20 ◌>>=◌
unfoldable pub ◌>>=◌ : {A B : Type 0} → M A → (A → M B) → M B
◌>>=◌ f g = λ m. let r = f m in g r.0 r.1

unfoldable pub remember : ℕ → Bool → M Bool
remember p b = λ m. (b, set m p (pick b 1 2))

-- A state is the edges so far and what is remembered
abbrev pub State : Type 0
State = List Edge × Mem
