-- The alternatives: they only follow the path, and each has its edge's span and a text of 204 bytes at most.
-- (Proved in proofs/Alternatives.)
use Rattle.std.specs.Prelude.{Bool, true, ◌≡◌, refl, ◌⊎◌, ℕ, zero, suc, ◌+◌, ◌≤◌, ◌<◌, length, drop}
use Rattle.std.proofs.Common.{sym, ap, ◌∙◌, subst, inl, inr, arith, eqb-true}
use mathlib.Core.List.{List, [], ◌++◌}
use Rattle.std.proofs.Math.Option.{Option, none, some}
use Rattle.std.proofs.Math.Seq.{drop-append_seam}
use Rattle.base.specs.Pick.{pick, pick_ind}
use Rattle.base.specs.Bools.{and_left}
use Rattle.base.specs.Alls.{All, All-each, All-map, All-keep, All-best, Opt, Opt-any, Opt-map, all-all}
use Rattle.definition.specs.Limits.{most_target, most_vowel, most_alternative}
use Rattle.definition.specs.Notes.{note_core, note_alt, note_alt2, note_alt3}
use Rattle.definition.specs.Texts.{Text, vowels}
use Rattle.definition.specs.Tables.{Rule}
use Rattle.definition.specs.Edges.{Edge, starting, right_best}
use Rattle.definition.specs.Capacity.{bytes}
use Rattle.definition.specs.Paths.{join, next, path_from, other, cored, reads}
use Rattle.definition.specs.Decomposing.{path, with_alternatives, alternatives}
use Rattle.definition.specs.Call.{Inputs, tables, decompositions, characters}
use Rattle.definition.specs.Shorts.{Low, Short, short_none, short-wide, short-append, encoded-low}
use Rattle.definition.specs.Letters.{among_all}
use Rattle.definition.specs.ExpandBounds.{Spoken}
use Rattle.definition.specs.Cores.{Syllable}
use Rattle.definition.specs.Bounds.{Formed}

-- What the rules of an edge add, each of it as `P` says, where each rule's texts would give such edges; the end target
-- only where readings are chosen
abbrev pub edge_vowel : Edge → Text → Text
edge_vowel x w = pick (cored x w) (drop x.core x.text) []

pub record Gives (P : Edge → Type 0) (b : Bool) (x : Edge) (r : Rule) : Type 0 where
  pub others : (w : Text) → All (λ u. P (other x note_alt (u ++ edge_vowel x w))) r.others
  pub reading : b ≡ true → Opt (λ w. P (other x note_alt2 w)) r.end_target
  pub target : Opt (λ w. P (other x note_alt3 w)) r.target

-- any texts would
pub gives-any : {P : Edge → Type 0} (b : Bool) (x : Edge) → ((k : ℕ) (w : Text) → P (other x k w)) → (r : Rule) → Gives P b x r
gives-any {P} b x f r = record {
  others = λ w. All-each _ (λ u. f note_alt (u ++ edge_vowel x w)) r.others;
  reading = λ e. Opt-map (λ w t. f note_alt2 w) r.end_target (Opt-any r.end_target);
  target = Opt-map (λ w t. f note_alt3 w) r.target (Opt-any r.target);
}

-- The annotation of an alternative: "rom-alt" or "rom-alt3", and where readings are chosen "rom-alt2"
abbrev pub AltNote : Bool → ℕ → Type 0
AltNote b k = (k ≡ note_alt) ⊎ (k ≡ note_alt3) ⊎ ((b ≡ true) × (k ≡ note_alt2))

-- An alternative within a text of `n`
pub record Alternative (b : Bool) (n : ℕ) (x : Edge) : Type 0 where
  pub forward : x.from < x.to
  pub inside : x.to ≤ n
  pub note : AltNote b x.note
  pub core : x.core ≡ 0
  pub short : bytes x ≤ most_alternative

-- The vowel of an edge with a core
pub vowels_low : (c : ℕ) → vowels c ≡ true → Low c
unfolding vowels
vowels_low = among_all "aeiou" Low (omega arith, (omega arith, (omega arith, (omega arith, (omega arith, tt)))))

then-short : (text : Text) (core : ℕ) → Syllable text core → Short most_vowel (drop core text)
then-short text core y =
    let e : drop core text ≡ y.then =
    ap (λ n. drop n text) y.size ∙ ap (drop (length y.first)) y.whole ∙ drop-append_seam y.first y.then in
    subst (Short most_vowel) (sym e) (record { long = y.few; low = all-all Low vowels vowels_low y.then y.vowels })

module _ (b : Bool) (n : ℕ) (x : Edge) (formed : Formed n x) where
  other_alternative : (note : ℕ) (w : Text) → AltNote b note → Short most_alternative w → Alternative b n (other x note w)
  unfolding other bytes
  other_alternative note w k s = record {
    forward = formed.forward;
    inside = formed.inside;
    note = k;
    core = refl;
    short = rw (encoded-low w s.low) s.long;
  }

  vowel-short : (w : Text) → Short most_vowel (edge_vowel x w)
  unfolding cored
  vowel-short w = pick_ind (Short most_vowel) _ _ _
      (λ e. then-short x.text x.core (formed.core.there (eqb-true x.note note_core (and_left _ _ e))))
      (λ e. short_none most_vowel)

  pub spoken_gives : (r : Rule) → Spoken r → Gives (Alternative b n) b x r
  spoken_gives r q = record {
    others = λ w. All-map (λ u s. other_alternative note_alt (u ++ edge_vowel x w) (inl refl)
        (short-append most_target most_vowel s (vowel-short w))) r.others q.others;
    reading = λ e. Opt-map (λ w s. other_alternative note_alt2 w (inr (inr (e, refl))) (short-wide most_target (omega arith) s)) r.end_target q.end_target;
    target = Opt-map (λ w s. other_alternative note_alt3 w (inr (inl refl)) (short-wide most_target (omega arith) s)) r.target q.target;
  }

-- the path's edges are the lattice's
pub path_sound : (P : Edge → Type 0) (k p : ℕ) (es : List Edge) → All P es → All P (path_from k p es)
unfolding path_from right_best starting
path_sound P zero p es h = tt
path_sound P (suc k) p es h = go (right_best es p) (All-best P _ (starting es p) (All-keep P _ es h)) (λ q. path_sound P k q es h)
  where
    go : (o : Option Edge) → Opt P o → ((q : ℕ) → All P (path_from k q es)) → All P (join o (path_from k (next o p) es))
    go none s f = f (p + 1)
    go (some x) s f = (s, f x.to)

-- Mode 2 lists the path, then the alternatives
pub record Listed (i : Inputs) : Type 0 where
  pub whole : with_alternatives (tables i) (decompositions i) (characters i) ≡ path (tables i) (decompositions i) (characters i) ++ alternatives (tables i) (decompositions i) (characters i)
  pub path : All (Formed (length (characters i))) (path (tables i) (decompositions i) (characters i))
  pub alternatives : All (Alternative (reads (tables i).choices) (length (characters i))) (alternatives (tables i) (decompositions i) (characters i))
