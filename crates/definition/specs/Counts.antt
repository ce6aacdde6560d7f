-- How many edges modes 1 and 2 list: the path has one for each character at most, and the alternatives, for each edge of
-- the path, 9 for each rule at most.
-- (proofs/Counts: the alternatives.)
use Rattle.std.specs.Prelude.{Bool, ◌≡◌}
use Rattle.std.proofs.Math.Bool.{true, false}
use Rattle.std.proofs.Math.Path.{refl}
use Rattle.std.proofs.Common.{ap}
use mathlib.Core.List.{List, [], ◌∷◌}
use Rattle.std.proofs.Math.Option.{Option, none, some}
use Prim.Native.Nat.{ℕ, zero, suc, ◌+◌, ◌*◌, ◌≤◌}
use native.Mathlib.Omega.{arith}
use Rattle.std.proofs.Math.ListN.{length}
use Rattle.base.specs.Lists.{put, keep}
use Rattle.definition.specs.Limits.{most_rows, most_alternatives}
use Rattle.definition.specs.Tables.{Rule}
use Rattle.definition.specs.RuleRows.{texts_of}
use Rattle.definition.specs.Edges.{Edge, right_best}
use Rattle.definition.specs.Paths.{join, next, path_from}

-- The path, from a position on
pub path_few : (k p : ℕ) (es : List Edge) → length (path_from k p es) ≤ k
unfolding path_from
path_few zero p es = omega arith
path_few (suc k) p es = go (right_best es p) (λ q. path_few k q es)
  where
    go : (o : Option Edge) → ((q : ℕ) → length (path_from k q es) ≤ k) → length (join o (path_from k (next o p) es)) ≤ suc k
    go none f = let h = f (p + 1) in omega arith
    go (some x) f = let h = f x.to in omega arith

-- A rule of an accepted table has 8 alternatives at most
abbrev pub Few : Rule → Type 0
Few r = length r.others ≤ most_alternatives

pub texts-length : (n : ℕ) (s : List ℕ) → length (texts_of n s) ≡ n
unfolding texts_of
texts-length zero s = refl
texts-length (suc n) s = ap suc (texts-length n _)

-- What a rule adds for an edge: its alternatives, and its end target where its target is the edge's text, or its target where
-- its end target is. (Where both are, both are the edge's own text, which is listed)
abbrev pub for_rule : ℕ
for_rule = most_alternatives + 1

-- and what all rules add for it, at most
abbrev pub for_edge : ℕ
for_edge = for_rule * most_rows

-- The valid rules of a span are no more than the rules
pub keep_few : {A : Type 0} (q : A → Bool) (l : List A) → length (keep q l) ≤ length l
unfolding keep
keep_few q [] = omega arith
keep_few {A} q (x ∷ l) = go (q x) (keep_few q l)
  where
    go : (b : Bool) → length (keep q l) ≤ length l → length (put b x (keep q l)) ≤ suc (length l)
    go true h = omega arith
    go false h = omega arith
