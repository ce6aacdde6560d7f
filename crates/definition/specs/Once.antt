-- In mode 2 no two listed edges share span and text, whatever is chosen: an alternative is added only where none of its span has
-- its text, and of the path each edge starts behind the one before.
-- (Proved in proofs/Once.)
use Rattle.std.specs.Prelude.{Bool, true, ◌&&◌, ◌||◌, ◌≡◌, eqb}
use Rattle.std.proofs.Math.Bool.{false, true≢false}
use Rattle.std.proofs.Common.{sym, ap, ◌∙◌, arith, eq-eqb}
use mathlib.Core.List.{List, [], ◌∷◌, ◌++◌}
use Rattle.base.specs.Pick.{pick_ind}
use Rattle.base.specs.Bools.{or_right}
use Rattle.base.specs.Lists.{put, keep, any, same}
use Rattle.base.specs.ListLaws.{same_refl}
use Rattle.base.specs.Alls.{All, All-map, All-append, Ordered}
use Rattle.definition.specs.Edges.{Edge, starting, new_in}
use Rattle.definition.specs.Paths.{akin}
use Rattle.definition.specs.Offers.{all_in, Before}

-- Two edges have one span and one text, or not
abbrev pub Shares : Edge → Edge → Type 0
Shares x y = (x.from ≡ y.from) × (x.to ≡ y.to) × (x.text ≡ y.text)

abbrev pub Apart : Edge → Edge → Type 0
Apart x y = Shares x y → ⊥

-- A list with one more behind it
ordered_more : (l : List Edge) (c : Edge) → Ordered Apart l → All (λ x. Apart x c) l → Ordered Apart (l ++ c ∷ [])
ordered_more [] c o a = (tt, tt)
ordered_more (x ∷ l) c o a = (All-append (Apart x) l (c ∷ []) o.0 (a.0, tt), ordered_more l c o.1 a.1)

-- Where none that starts alike is akin, none has its span and text
shares_akin : (x c : Edge) → Shares x c → akin c x ≡ true
unfolding akin
shares_akin x c s =
    ap (λ b. b && same c.text x.text) (eq-eqb c.to x.to (sym s.1))
    ∙ ap (same c.text) s.2 ∙ same_refl c.text

none-akin : (c : Edge) (l : List Edge) → any (akin c) (starting l c.from) ≡ false → All (λ x. Apart x c) l
unfolding starting keep any
none-akin c [] e = tt
none-akin c (x ∷ l) e = (λ s. own s (eqb x.from c.from) (eq-eqb x.from c.from s.0) e, none-akin c l (rest (eqb x.from c.from) e))
  where
    later : List Edge
    later = keep (λ y. eqb y.from c.from) l

    own : Shares x c → (b : Bool) → b ≡ true → any (akin c) (put b x later) ≡ false → ⊥
    own s true q z = unfold any in true≢false (sym (ap (λ b. b || any (akin c) later) (shares_akin x c s)) ∙ z)
    own s false q z = true≢false (sym q)

    rest : (b : Bool) → any (akin c) (put b x later) ≡ false → any (akin c) later ≡ false
    rest true z = unfold any in or_right (akin c x) (any (akin c) later) z
    rest false z = z

once-new : (seen : List Edge) (c : Edge) → Ordered Apart seen → Ordered Apart (new_in akin seen c)
unfolding new_in
once-new seen c o = pick_ind (Ordered Apart) _ seen (seen ++ c ∷ []) (λ e. o) (λ e. ordered_more seen c o (none-akin c seen e))

-- What the rules of an edge add, and of each edge in turn
pub once-all : (cs seen : List Edge) → Ordered Apart seen → Ordered Apart (all_in seen cs)
unfolding all_in
once-all [] seen o = o
once-all (c ∷ cs) seen o = once-all cs (new_in akin seen c) (once-new seen c o)

-- Edges that start one behind the other
pub rises_apart : (l : List Edge) → Ordered Before l → Ordered Apart l
rises_apart [] o = tt
rises_apart (x ∷ l) o = (All-map (λ y h s. let z = s.0 in omega arith) l o.0, rises_apart l o.1)
