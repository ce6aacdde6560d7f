-- Where readings are chosen, none is missing: of each rule that is valid for an edge, and whose target is the edge's text, the end
-- target is the edge's text or that of an alternative of its span.
use Rattle.std.specs.Prelude.{Bool, not, ◌||◌, ◌≡◌}
use Rattle.std.proofs.Math.Bool.{true, false, or_assoc, or-true}
use Rattle.std.proofs.Math.Path.{refl, sym, ap}
use Rattle.std.proofs.Common.{◌∙◌}
use mathlib.Core.List.{List, [], ◌∷◌, ◌++◌, map, map-append}
use Rattle.std.proofs.Math.Option.{Option, none, some}
use Rattle.base.specs.Pick.{pick}
use Rattle.base.specs.Lists.{put, any, maybe, same}
use Rattle.base.specs.ListLaws.{any_append, same_refl, same_true}
use Rattle.base.specs.Alls.{All, All-map, Opt, Opt-map}
use Rattle.definition.specs.Notes.{note_alt2}
use Rattle.definition.specs.Texts.{Text}
use Rattle.definition.specs.Tables.{Rule}
use Rattle.definition.specs.Edges.{Edge}
use Rattle.definition.specs.Paths.{other}
use Rattle.definition.specs.Offers.{target_offers, reading_offers, end_offers, offers, all_offers, news, found_by}

abbrev texts : List Edge → List Text
texts l = map (λ c. c.text) l

-- a text is among some, or among those of edges
abbrev Among : Text → List Text → List Edge → Bool
Among u ws cs = any (same u) ws || any (same u) (texts cs)

-- What is not new is there: so a text that is offered is among those before or among the new ones
module _ (u : Text) where
  -- one more before
  more : (ws : List Text) (w : Text) (b : Bool) → (any (same u) (ws ++ w ∷ []) || b) ≡ (any (same u) ws || (same u w || b))
  unfolding any
  more ws w b =
      ap (λ (c : Bool). c || b) (any_append (same u) ws (w ∷ [])) ∙ or_assoc (any (same u) ws) (same u w || false) b
      ∙ ap (λ (c : Bool). any (same u) ws || c) (or_assoc (same u w) false b)

  -- which is there already
  there : (ws : List Text) (w : Text) → any (same w) ws ≡ true → (b : Bool) → (any (same u) ws || (same u w || b)) ≡ (any (same u) ws || b)
  there ws w e b = go (same u w) refl
    where
      go : (c : Bool) → same u w ≡ c → (any (same u) ws || (c || b)) ≡ (any (same u) ws || b)
      go true z =
          let y : any (same u) ws ≡ true = ap (λ t. any (same t) ws) (same_true u w z) ∙ e in
          or-true (any (same u) ws) ∙ sym (ap (λ (c : Bool). c || b) y)
      go false z = refl

  among-news : (ws : List Text) (cs : List Edge) → Among u ws cs ≡ Among u ws (news ws cs)
  unfolding any news
  among-news ws [] = refl
  among-news ws (c ∷ cs) =
      sym (more ws c.text (any (same u) (texts cs))) ∙ among-news (ws ++ c.text ∷ []) cs
      ∙ more ws c.text (any (same u) (texts (news (ws ++ c.text ∷ []) cs)))
      ∙ go (any (same c.text) ws) refl
    where
      rest : List Edge
      rest = news (ws ++ c.text ∷ []) cs

      go : (b : Bool) → any (same c.text) ws ≡ b
          → (any (same u) ws || (same u c.text || any (same u) (texts rest))) ≡ Among u ws (put (not b) c rest)
      go true e = there ws c.text e (any (same u) (texts rest))
      go false e = unfold any in refl

  -- offered by one rule among some
  offered-first : (b : Bool) (x : Edge) (r : Rule) (rs : List Rule) → any (same u) (texts (offers b x r)) ≡ true
      → any (same u) (texts (all_offers b x (r ∷ rs))) ≡ true
  unfolding all_offers
  offered-first b x r rs e =
      ap (any (same u)) (map-append (λ (c : Edge). c.text) (offers b x r) (all_offers b x rs))
      ∙ any_append (same u) (texts (offers b x r)) (texts (all_offers b x rs)) ∙ ap (λ (c : Bool). c || any (same u) (texts (all_offers b x rs))) e

  offered-later : (b : Bool) (x : Edge) (r : Rule) (rs : List Rule) → any (same u) (texts (all_offers b x rs)) ≡ true
      → any (same u) (texts (all_offers b x (r ∷ rs))) ≡ true
  unfolding all_offers
  offered-later b x r rs e =
      ap (any (same u)) (map-append (λ (c : Edge). c.text) (offers b x r) (all_offers b x rs))
      ∙ any_append (same u) (texts (offers b x r)) (texts (all_offers b x rs)) ∙ ap (λ (c : Bool). any (same u) (texts (offers b x r)) || c) e
      ∙ or-true (any (same u) (texts (offers b x r)))

-- A rule whose target is the edge's text offers its end target
reading-offered : (x : Edge) (r : Rule) (u : Text) → r.target ≡ some x.text → r.end_target ≡ some u → any (same u) (texts (offers true x r)) ≡ true
unfolding offers reading_offers maybe pick other any
reading-offered x r u e f =
    let A = target_offers x r x.text in
    let E = end_offers x r x.text in
    let read : reading_offers true x r x.text ≡ other x note_alt2 u ∷ [] = rw (same_refl x.text, f) refl in
    let all : offers true x r ≡ A ++ (other x note_alt2 u ∷ E) =
    ap (λ o. maybe o [] (λ w. target_offers x r w ++ (reading_offers true x r w ++ end_offers x r w))) e ∙ ap (λ l. A ++ (l ++ E)) read in
    ap (λ l. any (same u) (texts l)) all ∙ ap (any (same u)) (map-append (λ (c : Edge). c.text) A (other x note_alt2 u ∷ E))
    ∙ any_append (same u) (texts A) (u ∷ texts E)
    ∙ ap (λ (c : Bool). any (same u) (texts A) || (c || any (same u) (texts E))) (same_refl u) ∙ or-true (any (same u) (texts A))

-- Each such end target of some rules is found for the edge, or is its own text
abbrev pub Reads : Edge → List Edge → Rule → Type 0
Reads x found r = r.target ≡ some x.text → Opt (λ u. any (same u) (x.text ∷ map (λ c. c.text) found) ≡ true) r.end_target

all-offered : (x : Edge) (rs : List Rule) → All (λ r. r.target ≡ some x.text → Opt (λ u. any (same u) (texts (all_offers true x rs)) ≡ true) r.end_target) rs
all-offered x [] = tt
all-offered x (r ∷ rs) = (
  (λ e. own e r.end_target refl),
  All-map (λ q h e. Opt-map (λ u. offered-later u true x r rs) q.end_target (h e)) rs (all-offered x rs),
)
  where
    own : r.target ≡ some x.text → (o : Option Text) → r.end_target ≡ o → Opt (λ u. any (same u) (texts (all_offers true x (r ∷ rs))) ≡ true) o
    own e none f = tt
    own e (some u) f = offered-first u true x r rs (reading-offered x r u e f)

pub readings-found : (x : Edge) (rs : List Rule) → All (Reads x (found_by true x rs)) rs
unfolding found_by any
readings-found x rs = All-map (λ r h e. Opt-map (λ u z. found u z) r.end_target (h e)) rs (all-offered x rs)
  where
    found : (u : Text) → any (same u) (texts (all_offers true x rs)) ≡ true
        → (same u x.text || any (same u) (texts (news (x.text ∷ []) (all_offers true x rs)))) ≡ true
    found u z = unfold any in
        (let k : Among u (x.text ∷ []) (news (x.text ∷ []) (all_offers true x rs)) ≡ true =
        sym (among-news u (x.text ∷ []) (all_offers true x rs)) ∙ ap (λ (c : Bool). any (same u) (x.text ∷ []) || c) z ∙ or-true (any (same u) (x.text ∷ [])) in
        sym (or_assoc (same u x.text) false (any (same u) (texts (news (x.text ∷ []) (all_offers true x rs))))) ∙ k)
