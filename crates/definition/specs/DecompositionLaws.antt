-- A decomposition table: a character's row, what a right row has passed, and what an accepted table has.
use Rattle.std.specs.Prelude.{Bool, true, false, not, ◌&&◌, ◌||◌, ◌≡◌, refl, List, [], ◌∷◌, ℕ, zero, suc, ◌≤◌, ◌<◌, eqb, leb, length, drop}
use Rattle.std.proofs.Common.{ap, subst, arith, ne_eqb, leb-true}
use Rattle.std.proofs.Math.Option.{none, some}
use Rattle.std.proofs.lemmas.Bool.{eqb-false, not-true}
use Rattle.base.specs.Pick.{pick}
use Rattle.base.specs.Bools.{and_left, and_right, or_left, or_right}
use Rattle.base.specs.Lists.{any, all, holds, has, maybe}
use Rattle.base.specs.ListLaws.{holds-length, or_none}
use Rattle.base.specs.Alls.{All, All-both, All-map, all-all, conj-all, rows_all}
use Rattle.definition.specs.Limits.{most_rows, most_into}
use Rattle.definition.specs.Texts.{the_space, left_out}
use Rattle.definition.specs.Utf8.{scalar}
use Rattle.definition.specs.Tables.{Decomposition, tag_other}
use Rattle.definition.specs.Blocks.{head_bytes, fault, offset_where}
use Rattle.definition.specs.BlockTurns.{Chain, offset_tells, fault-none, fault-headed, chain-each}
use Rattle.definition.specs.DecompositionRows.{decomposition_char, decomposition_tag, decomposition_count, decomposition_size, threes, decomposition_into, decomposition_of, decomposition_next}
use Rattle.definition.specs.Decomposing.{row_of, stands_for}
use Rattle.definition.specs.DecompositionRows.{decomposition_fits, into_right, decomposition_right, decompositions_of, has_row, into_final, own_fault, right_part, nested_fault, decomposition_fault}

-- A character has a row where one is found
pub row_has : (ds : List Decomposition) (c : ℕ) → has (row_of ds c) ≡ has_row ds c
unfolding row_of has_row any pick
row_has [] c = refl
row_has (d ∷ ds) c = go (eqb d.char c) (row_has ds c)
  where
    go : (b : Bool) → has (row_of ds c) ≡ any (λ d. eqb d.char c) ds
        → has (pick b (some d) (row_of ds c)) ≡ (b || any (λ d. eqb d.char c) ds)
    go true e = refl
    go false e = e

-- A row has a size
pub decomposition_moves : (s : List ℕ) → 0 < decomposition_size s
unfolding decomposition_size
decomposition_moves s = omega arith

-- What a right row has passed, from the character `low` on
pub record DecompositionChecked (low : ℕ) (s : List ℕ) : Type 0 where
  pub inside : decomposition_size s ≤ length s
  pub scalars : scalar (decomposition_char s) ≡ true
  pub risen : low ≤ decomposition_char s
  pub no_space : decomposition_char s ≡ the_space → ⊥
  pub tag : decomposition_tag s ≤ tag_other
  pub least : 1 ≤ decomposition_count s
  pub most : decomposition_count s ≤ most_into
  pub into : all (λ c. scalar c && not (left_out c)) (decomposition_into s) ≡ true

pub decomposition_checked : (low : ℕ) (s : List ℕ) → decomposition_right low s ≡ true → DecompositionChecked low s
unfolding decomposition_right decomposition_fits into_right
decomposition_checked low s e =
    let a = conj-all (decomposition_fits low s) (into_right s ∷ []) e in
    let f = conj-all (holds (decomposition_size s) s) (scalar (decomposition_char s) ∷ leb low (decomposition_char s) ∷ not (eqb (decomposition_char s) the_space) ∷ leb (decomposition_tag s) tag_other ∷ []) a.0 in
    let l = conj-all (leb 1 (decomposition_count s)) (leb (decomposition_count s) most_into ∷ all (λ c. scalar c && not (left_out c)) (decomposition_into s) ∷ []) a.1.0 in
    record {
      inside = holds-length (decomposition_size s) s f.0;
      scalars = f.1.0;
      risen = leb-true low (decomposition_char s) f.1.1.0;
      no_space = eqb-false (decomposition_char s) the_space (not-true (eqb (decomposition_char s) the_space) f.1.1.1.0);
      tag = leb-true (decomposition_tag s) tag_other f.1.1.1.1.0;
      least = leb-true 1 (decomposition_count s) l.0;
      most = leb-true (decomposition_count s) most_into l.1.0;
      into = l.1.1.0;
    }

-- Rows that are right by themselves, one after another
abbrev pub RightRows : ℕ → ℕ → List ℕ → Type 0
RightRows = Chain decomposition_size decomposition_next decomposition_right

-- as those of a table are, of which none is wrong
pub own-rows : (b : List ℕ) → own_fault b ≡ none → RightRows most_rows 0 (drop head_bytes b)
unfolding own_fault
own-rows b e =
    fault-none decomposition_size decomposition_next decomposition_right decomposition_moves (offset_where decomposition_right)
    (offset_tells decomposition_right) 0 most_rows 0 b e

pub part-whole : (b : List ℕ) → own_fault b ≡ none → right_part b ≡ b
unfolding right_part maybe
part-whole b e = rw e

-- An accepted table is right by itself, and no row holds a character that has one
pub record Unnested (b : List ℕ) : Type 0 where
  pub own : own_fault b ≡ none
  pub nested : nested_fault b ≡ none
  pub whole : right_part b ≡ b

pub unnested : (b : List ℕ) → decomposition_fault b ≡ none → Unnested b
unfolding decomposition_fault
unnested b e =
    let a = or_none _ _ e in
    let w = part-whole b a.1 in
    record { own = a.1; nested = subst (λ p. nested_fault p ≡ none) w a.0; whole = w }

-- What is relied on of each of its records
pub record Decomposed (ds : List Decomposition) (d : Decomposition) : Type 0 where
  pub no_space : d.char ≡ the_space → ⊥
  pub least : 1 ≤ length d.into
  pub most : length d.into ≤ most_into
  pub scalars : All (λ c. scalar c ≡ true) d.into
  pub kept : All (λ c. left_out c ≡ false) d.into
  pub final : All (λ c. has_row ds c ≡ false) d.into

pub threes-length : (n : ℕ) (s : List ℕ) → length (threes n s) ≡ n
unfolding threes
threes-length zero s = refl
threes-length (suc n) s = ap suc (threes-length n (drop 3 s))

pub into-length : (s : List ℕ) → length (decomposition_into s) ≡ decomposition_count s
unfolding decomposition_into
into-length s = threes-length (decomposition_count s) (drop 5 s)

any_not : {A : Type 0} (f : A → Bool) (l : List A) → any f l ≡ false → All (λ x. f x ≡ false) l
unfolding any
any_not f [] e = tt
any_not f (x ∷ l) e = (or_left (f x) _ e, any_not f l (or_right (f x) _ e))

-- by itself
record Alone (d : Decomposition) : Type 0 where
  no_space : d.char ≡ the_space → ⊥
  least : 1 ≤ length d.into
  most : length d.into ≤ most_into
  scalars : All (λ c. scalar c ≡ true) d.into
  kept : All (λ c. left_out c ≡ false) d.into

alone : (low : ℕ) (s : List ℕ) → decomposition_right low s ≡ true → Alone (decomposition_of s)
unfolding decomposition_of
alone low s e =
    let k = decomposition_checked low s e in
    let n = into-length s in
    record {
      no_space = k.no_space;
      least = let z = k.least in omega arith;
      most = let z = k.most in omega arith;
      scalars = all-all (λ c. scalar c ≡ true) (λ c. scalar c && not (left_out c)) (λ c q. and_left _ _ q) (decomposition_into s) k.into;
      kept = all-all (λ c. left_out c ≡ false) (λ c. scalar c && not (left_out c))
          (λ c q. not-true (left_out c) (and_right (scalar c) _ q)) (decomposition_into s) k.into;
    }

-- and beside the others
nested_rows : (b : List ℕ) → Unnested b
    → Chain decomposition_size decomposition_next (λ low s. into_final (decompositions_of b) s) most_rows 0 (drop head_bytes b)
unfolding nested_fault own_fault fault pick
nested_rows b u =
    let h = fault-headed decomposition_size decomposition_next decomposition_right decomposition_moves (offset_where decomposition_right)
    (offset_tells decomposition_right) 0 most_rows 0 b u.own in
    let right : ℕ → List ℕ → Bool = λ low s. into_final (decompositions_of b) s in
    fault-none decomposition_size decomposition_next right decomposition_moves (offset_where right) (offset_tells right) 0 most_rows 0 b (rw h u.nested)

final : (ds : List Decomposition) (s : List ℕ) → into_final ds s ≡ true → All (λ c. has_row ds c ≡ false) (decomposition_of s).into
unfolding into_final decomposition_of
final ds s e = any_not (has_row ds) (decomposition_into s) (not-true (any (has_row ds) (decomposition_into s)) e)

pub decompositions-all : (b : List ℕ) → decomposition_fault b ≡ none → All (Decomposed (decompositions_of b)) (decompositions_of b)
decompositions-all b e =
    let ds = decompositions_of b in
    let u = unnested b e in
    All-map (λ d q. record {
      no_space = q.0.no_space;
      least = q.0.least;
      most = q.0.most;
      scalars = q.0.scalars;
      kept = q.0.kept;
      final = q.1;
    }) ds
    (All-both Alone (λ d. All (λ c. has_row ds c ≡ false) d.into) ds
    (unfold decompositions_of in rows_all decomposition_of Alone decomposition_moves (λ s q. alone q.0 s q.1)
    (chain-each decomposition_size decomposition_next decomposition_right (own-rows b u.own)))
    (unfold decompositions_of in rows_all decomposition_of (λ d. All (λ c. has_row (decompositions_of b) c ≡ false) d.into) decomposition_moves
    (λ s q. final (decompositions_of b) s q.1)
    (chain-each decomposition_size decomposition_next (λ low s. into_final (decompositions_of b) s) (nested_rows b u))))

-- A character with no row stands for nothing else; so does U+0020
pub row_none : (ds : List Decomposition) (c : ℕ) → All (λ d. d.char ≡ c → ⊥) ds → row_of ds c ≡ none
unfolding row_of pick
row_none [] c h = refl
row_none (d ∷ ds) c h = rw (ne_eqb d.char c h.0) (row_none ds c h.1)

pub space_stands : (b : List ℕ) → decomposition_fault b ≡ none → stands_for (decompositions_of b) the_space ≡ none
unfolding stands_for maybe
space_stands b e =
    let ds = decompositions_of b in
    rw (row_none ds the_space (All-map (λ (d : Decomposition) (h : Decomposed ds d). h.no_space) ds (decompositions-all b e)))
