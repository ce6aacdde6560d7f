-- What a row's characters give inside a text is what they give as a text of their own: the call of them alone, in mode 0 and with
-- no language code, under the same tables and choices.
-- (Proved in proofs/InnerCalls.)
use Rattle.std.specs.Prelude.{true, ◌≡◌, eqb, take}
use Rattle.std.proofs.Math.Bool.{false}
use Rattle.std.proofs.Common.{true≢false, ◌∙◌}
use Rattle.std.proofs.Math.Path.{refl}
use mathlib.Core.List.{List, [], ◌∷◌}
use Rattle.std.proofs.Math.Option.{Option, none, some}
use Prim.Native.Nat.{ℕ, zero, suc, ◌≤◌, ◌<◌}
use native.Mathlib.Omega.{arith}
use Rattle.std.proofs.Math.ListN.{length}
use Rattle.base.specs.Pick.{pick}
use Rattle.base.specs.Lists.{has, maybe}
use Rattle.base.specs.Alls.{All}
use Rattle.definition.specs.Limits.{most_into}
use Rattle.definition.specs.Texts.{Text, left_out}
use Rattle.definition.specs.Utf8.{scalar, encoded}
use Rattle.definition.specs.Tables.{Decomposition, Tables, tag_other}
use Rattle.definition.specs.Edges.{Edge}
use Rattle.definition.specs.DecompositionRows.{has_row}
use Rattle.definition.specs.Decomposing.{row_of, stands_for, inner_lattice, inner_string}
use Rattle.definition.specs.Capacity.{misfit}
use Rattle.definition.specs.Call.{Inputs, Called, tables, decompositions, refusal}
use Rattle.definition.specs.DecompositionLaws.{row_has}

-- The call of some characters alone, with its own slots, room and output
unfoldable pub alone : Inputs → Text → ℕ → ℕ → ℕ → Inputs
alone i w slots room out = record {
  mode = 0;
  choices = i.choices;
  rules = i.rules;
  classes = i.classes;
  vowels = i.vowels;
  decompositions = i.decompositions;
  code = [];
  text = encoded w;
  slots = slots;
  room = room;
  out = out;
}

-- a character without row stands for no others
pub rowless_stands : (ds : List Decomposition) (c : ℕ) → has_row ds c ≡ false → stands_for ds c ≡ none
unfolding stands_for
rowless_stands ds c e = go (row_of ds c) (row_has ds c ∙ e)
  where
    go : (o : Option Decomposition) → has o ≡ false → maybe o none (λ d. pick (eqb d.tag tag_other) (some d.into) none) ≡ none
    go none q = unfold maybe in refl
    go (some d) q = absurd (true≢false q)

-- What a text needs to be such: some characters, but few, of scalar values, none left out, none with a row
pub record Final (ds : List Decomposition) (w : Text) : Type 0 where
  pub least : 1 ≤ length w
  pub most : length w ≤ most_into
  pub scalars : All (λ c. scalar c ≡ true) w
  pub kept : All (λ c. left_out c ≡ false) w
  pub rowless : All (λ c. has_row ds c ≡ false) w

-- A call that is done, and whose output is the string of some characters inside a text
pub record ReadAlone (D : Tables) (w : Text) (r : Called) : Type 0 where
  pub number : r.number ≡ 0
  pub place : r.place ≡ 0
  pub written : r.length ≡ length (encoded (inner_string D w))
  pub count : r.edges ≡ length (inner_lattice D w).0
  pub shows : take r.length r.output ≡ encoded (inner_string D w)

module _ (i : Inputs) (ok : refusal i ≡ none) (w : Text) (f : Final (decompositions i) w) (slots room out : ℕ) where
  abbrev pub own : Inputs
  own = alone i w slots room out

  abbrev pub D : Tables
  D = tables i

pub slot_left : (k r : ℕ) (es : List Edge) → 0 < length es → misfit k r es ≡ none → 0 < k
unfolding misfit
slot_left k r [] l e = absurd (omega arith)
slot_left zero r (x ∷ es) l e = absurd (let w : ◌≡◌ {A = ℕ} 0 1 = cc in omega arith)
slot_left (suc k) r (x ∷ es) l e = omega arith
