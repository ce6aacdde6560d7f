-- Where readings are not chosen code 13 is absent: all is as it was before there was the choice. `add_alternatives` would also
-- add "rom-alt2", the rule's target, where the target is the edge's text: but that span and text are the edge's own, and so
-- listed already. Here it is with that step. (proofs/Alt2: it is the same.)
use Rattle.std.specs.Prelude.{Bool, ◌&&◌, ◌||◌, ◌≡◌, ℕ}
use Rattle.std.proofs.Math.Bool.{true, false, or-true}
use Rattle.std.proofs.Math.Path.{refl, ap}
use Rattle.std.proofs.Common.{◌∙◌, eq-eqb}
use mathlib.Core.List.{List, [], ◌∷◌}
use Rattle.std.proofs.Math.Option.{Option, none, some}
use Rattle.std.proofs.Math.Dec.{eqb}
use Rattle.base.specs.Pick.{pick, pick_ind}
use Rattle.base.specs.Bools.{and_right}
use Rattle.base.specs.Lists.{put, keep, any, has, maybe, same}
use Rattle.base.specs.ListLaws.{same_refl, same_true}
use Rattle.base.specs.Alls.{All, All-map}
use Rattle.definition.specs.Notes.{note_alt2}
use Rattle.definition.specs.Texts.{Text}
use Rattle.definition.specs.Tables.{Rule, Choices, Lexicon}
use Rattle.definition.specs.Edges.{Edge, View, M, starting, new_in, ret, ◌>>=◌}
use Rattle.definition.specs.Rules.{valids}
use Rattle.definition.specs.Paths.{akin, other, reads, by_target, by_reading, by_end_target, by_rule}
use Rattle.definition.specs.Growth.{Added, found-added}
use Rattle.definition.specs.Alternatives.{Gives, gives-any}

-- Off: a rule gives just what it gave before there was the choice, and nothing else asks it
reading_off : (c : Choices) (x : Edge) (r : Rule) (seen : List Edge) (w : Text) → c.readings ≡ 0 → by_reading (reads c) x r seen w ≡ seen
unfolding by_reading pick
reading_off c x r seen w e = rw e

pub readings_off : (c : Choices) (x : Edge) (r : Rule) (seen : List Edge) → c.readings ≡ 0
    → by_rule (reads c) x r seen ≡ maybe r.target seen (λ w. by_end_target x r (by_target x r seen w) w)
unfolding by_rule
readings_off c x r seen e = go r.target
  where
    go : (o : Option Text) → maybe o seen (λ w. by_end_target x r (by_reading (reads c) x r (by_target x r seen w) w) w)
        ≡ maybe o seen (λ w. by_end_target x r (by_target x r seen w) w)
    go none = unfold maybe in refl
    go (some w) = unfold maybe in ap (λ l. by_end_target x r l w) (reading_off c x r (by_target x r seen w) w e)

-- With "rom-alt2", as published
unfoldable pub by_text : Edge → Rule → List Edge → Text → List Edge
by_text x r seen w = pick (has r.end_target && same w x.text) (new_in akin seen (other x note_alt2 w)) seen

unfoldable pub published_rule : Edge → Rule → List Edge → List Edge
published_rule x r seen = maybe r.target seen (λ w. by_end_target x r (by_text x r (by_target x r seen w) w) w)

unfoldable pub published_rules : Edge → List Rule → List Edge → List Edge
published_rules x [] seen = seen
published_rules x (r ∷ rs) seen = published_rules x rs (published_rule x r seen)

unfoldable pub published_edges : Lexicon → Text → View → List Edge → List Edge → M (List Edge)
published_edges L t v [] seen = ret seen
published_edges L t v (x ∷ xs) seen = do
  rs ← valids L t v x.from x.to
  published_edges L t v xs (published_rules x rs seen)

-- The span and text of an edge are listed, and stay so
abbrev pub In : List Edge → Edge → Type 0
In seen x = any (akin x) (starting seen x.from) ≡ true

abbrev pub More : List Edge → List Edge → Type 0
More = Added (λ x. Unit {0})

pub in_more : {es fs : List Edge} → More es fs → (x : Edge) → In es x → In fs x
in_more a x h = found-added (akin x) x.from a h

akin_self : (x : Edge) → akin x x ≡ true
unfolding akin
akin_self x = ap (λ b. b && same x.text x.text) (eq-eqb x.to x.to refl) ∙ same_refl x.text

pub in_own : (es : List Edge) → All (In es) es
unfolding starting keep any
in_own [] = tt
in_own (x ∷ es) = (first, All-map later es (in_own es))
  where
    first : In (x ∷ es) x
    first = unfold starting keep any in
        (ap (λ b. any (akin x) (put b x (keep (λ y. eqb y.from x.from) es))) (eq-eqb x.from x.from refl)
        ∙ ap (λ b. b || any (akin x) (keep (λ y. eqb y.from x.from) es)) (akin_self x))

    later : (y : Edge) → In es y → In (x ∷ es) y
    later y h = unfold starting keep any in go (eqb x.from y.from)
      where
        go : (b : Bool) → any (akin y) (put b x (keep (λ z. eqb z.from y.from) es)) ≡ true
        go true = unfold any in (ap (λ c. akin y x || c) h ∙ or-true (akin y x))
        go false = h

-- whatever its texts, a rule only adds
pub any-gives : (b : Bool) (x : Edge) (r : Rule) → Gives (λ y. Unit {0}) b x r
any-gives b x r = gives-any b x (λ k w. tt) r

-- the edge's own text is not added again
pub own-nothing : (x : Edge) (seen : List Edge) (k : ℕ) (w : Text) → w ≡ x.text → In seen x → new_in akin seen (other x k w) ≡ seen
unfolding new_in akin other pick
own-nothing x seen k w e h = rw (e, h)

-- so the step adds nothing
pub text-nothing : (x : Edge) (r : Rule) (seen : List Edge) (w : Text) → In seen x → by_text x r seen w ≡ seen
unfolding by_text
text-nothing x r seen w h = pick_ind (λ l. l ≡ seen) _ _ _
    (λ e. own-nothing x seen note_alt2 w (same_true w x.text (and_right (has r.end_target) _ e)) h) (λ e. refl)
