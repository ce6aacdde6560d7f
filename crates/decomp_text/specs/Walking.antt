-- The path walked to its end: what was spelled and what is left of it.
use Rattle.std.specs.Prelude.{Some, None, Bool, ◌≡◌, ℕ, suc, ◌+◌, ◌<◌, length, drop}
use mathlib.Core.List.{List, [], ◌++◌, append-nil, append_assoc}
use Rattle.std.proofs.Math.Option.{Option, none, some}
use Rattle.std.proofs.Math.Path.{refl, ap, subst}
use Rattle.std.proofs.Common.{sym, ◌∙◌}
use Rattle.base.specs.Pick.{pick_all}
use Rattle.definition.specs.Texts.{Text}
use Rattle.definition.specs.Tables.{Class}
use Rattle.definition.specs.Edges.{Edge, right_best}
use Rattle.definition.specs.Paths.{join, next, path_from, joined}
use Rattle.definition.specs.Decomposing.{slashed}
use Rattle.edge.specs.Best.{BestEdge}
use Rattle.edge.specs.Slots.{from_of}
use Rattle.edge.specs.Stored.{Slot}
use Rattle.words.specs.Given.{size_in}
use Rattle.paths.specs.Laid.{Laid}
use Rattle.decomp_text.specs.declared.Spelling.{Spelling}
use Rattle.decomp_text.specs.Spelling.{Spells, shaped, shaped-append}

-- edges of a line that a path can go over, so many
pub record Lying (line slots room starts : List ℕ) : Type 0 where
  pub count : ℕ
  pub laid : Laid slots room starts count
  pub sized : length starts ≡ size_in line + 1

-- an edge of it, if any, that can be read
abbrev pub BestRead : List ℕ → List ℕ → List ℕ → BestEdge → Type 0
BestRead line slots room (Some slot) = Slot room (length room) (drop slot slots) × (from_of (drop slot slots) < size_in line)
BestRead line slots room None = Unit {0}

-- the text of an edge, where there is one
unfoldable pub text_of : Option Edge → Text
text_of none = []
text_of (some x) = x.text

-- so far, and what the rest will be
pub record Walked (ks : List Class) (number : Bool) (b : List ℕ) (s : Spelling) (rest : List Edge) (whole : Text) : Type 0 where
  pub so_far : Text
  pub spells : Spells ks b s so_far
  pub rest-is : so_far ++ shaped number (joined rest) ≡ whole

shaped-none : (b : Bool) → shaped b [] ≡ []
unfolding shaped
shaped-none b = pick_all (λ (w : Text). w ≡ []) b (unfold slashed in refl) refl

joined-join : (o : Option Edge) (l : List Edge) → joined (join o l) ≡ text_of o ++ joined l
unfolding joined text_of
joined-join none l = refl
joined-join (some x) l = refl

module _ {ks : List Class} {number : Bool} where
  -- at first, with what stands before the path
  pub walked-first : (b : List ℕ) (s : Spelling) (t : Text) (l : List Edge) → Spells ks b s t → Walked ks number b s l (t ++ shaped number (joined l))
  walked-first b s t l h = record { so_far = t; spells = h; rest-is = refl }

  pub walked-over : {b : List ℕ} {s : Spelling} {whole : Text} → Walked ks number b s [] whole → Spells ks b s whole
  unfolding joined
  walked-over {b} {s} {whole} h =
      subst (Spells ks b s) (sym (ap (◌++◌ h.so_far) (shaped-none number) ∙ append-nil h.so_far) ∙ h.rest-is) h.spells

  -- the best edge at `p` spelled, what is left of the path goes on behind it
  pub walked_on : {b : List ℕ} {s : Spelling} {whole : Text} (es : List Edge) (o : Option Edge) (k p q : ℕ) → Walked ks number b s (path_from (suc k) p es) whole
      → o ≡ right_best es p → q ≡ next o p → (b' : List ℕ) (s' : Spelling)
      → ((t : Text) → Spells ks b s t → Spells ks b' s' (t ++ shaped number (text_of o))) → Walked ks number b' s' (path_from k q es) whole
  unfolding path_from
  walked_on es o k p q h best n b' s' f = record {
    so_far = h.so_far ++ shaped number (text_of o);
    spells = f h.so_far h.spells;
    rest-is =
        append_assoc h.so_far (shaped number (text_of o)) (shaped number (joined (path_from k q es)))
        ∙ ap (◌++◌ h.so_far) (sym (shaped-append number (text_of o) (joined (path_from k q es)))
        ∙ ap (shaped number) (sym (joined-join o (path_from k q es))
        ∙ ap (λ (l : List Edge). joined l) (ap (λ (m : ℕ). join o (path_from k m es)) n ∙ ap (λ (u : Option Edge). join u (path_from k (next u p) es)) best)))
        ∙ h.rest-is;
  }

-- where there is none nothing is spelled
pub spells_not : {ks : List Class} (number : Bool) {b : List ℕ} {s : Spelling} (o : Option Edge) → o ≡ none → (t : Text) → Spells ks b s t
    → Spells ks b s (t ++ shaped number (text_of o))
unfolding text_of
spells_not {ks} number {b} {s} o e t h =
    subst (Spells ks b s) (sym (ap (λ (u : Option Edge). t ++ shaped number (text_of u)) e ∙ ap (◌++◌ t) (shaped-none number) ∙ append-nil t)) h
