-- What a step does elsewhere: in another stretch it adds and remembers only there, and at a space it adds only the
-- space's own edge.
-- (proofs/Elsewhere: steps in a stretch.)
use Rattle.std.specs.Prelude.{Bool, ◌≡◌, refl, length}
use Rattle.std.proofs.Math.Bool.{true, false}
use Rattle.std.proofs.Common.{sym, ◌∙◌}
use Rattle.std.proofs.Math.Path.{subst}
use mathlib.Core.List.{List, [], ◌∷◌}
use Rattle.std.proofs.Math.Option.{Option, none, some, map}
use Prim.Native.Nat.{ℕ, ◌+◌, ◌<◌}
use Rattle.base.specs.Pick.{pick}
use Rattle.base.specs.Lists.{maybe}
use Rattle.base.specs.Alls.{Opt}
use Rattle.definition.specs.Notes.{note_Zs, note_orig}
use Rattle.definition.specs.Texts.{Text, the_space, at}
use Rattle.definition.specs.Tables.{Decomposition, category_other, category_Zs, Tables, lexicon}
use Rattle.definition.specs.Classes.{class}
use Rattle.definition.specs.Edges.{Edge, alike, add, View, M, ret, ◌>>=◌, State}
use Rattle.definition.specs.Building.{single, fallback_by, put_in, fallback_edge, rise, build}
use Rattle.definition.specs.Decomposing.{decomp_edge, start}
use Rattle.definition.specs.Growth.{Added, added_not, added_twice, added_new}
use Rattle.stretches.specs.Demand.{has_row, space_edge, shift}
use Rattle.stretches.specs.Given.{FairTables, Stretch}
use Rattle.stretches.specs.Windows.{window, Apart}
use Rattle.stretches.specs.Rules.{simple_space, no_prefix}
use Rattle.stretches.specs.Building.{Inside, shift-inside, Finds}

-- From `S` to `R` only edges inside the stretch of length `k` from `b` on are added, and only there more is remembered
pub record Near (b k : ℕ) (S R : State) : Type 0 where
  pub added : Added (Inside b k) S.0 R.0
  pub frame : (a n : ℕ) → Apart b k a n → window a n R.1 ≡ window a n S.1

module _ {b k : ℕ} where
  pub near_not : (S : State) → Near b k S S
  near_not S = record { added = added_not S.0; frame = λ a n d. refl }

  pub near_twice : {S R Q : State} → Near b k S R → Near b k R Q → Near b k S Q
  near_twice x y =
      record { added = added_twice x.added y.added; frame = λ a n d. y.frame a n d ∙ x.frame a n d }

  pub added-moved : (es : List Edge) (o : Option Edge) → Opt (Inside 0 k) o
      → Added (Inside b k) es (add es (map (shift b) o))
  unfolding add
  added-moved es none p = added_not es
  added-moved es (some x) p = added_new alike es (shift b x) (shift-inside b k x p)

  pub near-put_in : (F : List Edge → M (Option Edge)) {g : M (Option Edge)} (S : State) → Finds b k (F S.0) g
      → Near b k S (put_in F S)
  unfolding put_in
  near-put_in F {g} S f = record {
    added = subst (λ o. Added (Inside b k) S.0 (add S.0 o)) (sym (f.value S.1))
        (added-moved S.0 (g (window b k S.1)).0 (f.post S.1));
    frame = λ a n d. f.frame S.1 a n d;
  }

-- `F` at a position of any stretch stays in it
abbrev pub Stays : Text → (ℕ → State → State) → Type 0
Stays T F = (u : Text) (b : ℕ) → Stretch T u b → (P p : ℕ) (S : State) → P ≡ b + p → p < length u
    → Near b (length u) S (F P S)

-- Steps at a space: no span starts there, it stands for nothing else, and the fallback is the space itself, remembering
-- nothing
module _ {D : Tables} {ds : List Decomposition} (fair : FairTables D ds) (T : Text) (P : ℕ)
    (sp : at T P ≡ the_space) where
  build_space : (S : State) → build D T P S ≡ S
  unfolding build rise
  build_space S = rw (no_prefix fair.lexicon T P sp)

  decomp_space : decomp_edge D ds T P ≡ none
  unfolding decomp_edge maybe
  decomp_space = rw (sp, fair.itself)

  pub start_space : (S : State) → start D ds T P S ≡ S
  unfolding start add
  start_space S = rw decomp_space (build_space S)

  pub fallback_space : (v : View) → fallback_edge (lexicon D) T v P ≡ ret (some (space_edge D.classes P))
  unfolding fallback_edge fallback_by space_edge pick ◌>>=◌ ret maybe
  fallback_space v = go (has_row D.classes the_space) fair.lexicon.row
    where
      go : (b : Bool) → (class D.classes the_space).category ≡ pick b category_Zs category_other
          → fallback_edge (lexicon D) T v P ≡ ret (some (single P (pick b note_Zs note_orig) (the_space ∷ [])))
      go true e = rw (sp, e)
      go false e = rw (sp, e, simple_space fair.lexicon T v P sp)
