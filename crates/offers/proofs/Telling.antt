-- A row's texts by its flags, and what they are to an edge: one law for each answer.
use mathlib.Core.Bool.{Bool, true, false, ◌&&◌, ◌||◌, true≢false}
use mathlib.Core.List.{List, [], ◌++◌, map, append-nil}
use mathlib.Core.Option.{Option, none, some}
use mathlib.Core.Path.{◌≡◌, refl, sym, ap, ◌∙◌, subst}
use Prim.Native.Nat.{ℕ, ◌+◌, ◌≤◌, ◌<◌}
use native.Mathlib.Omega.{arith}
use lib.ListN.{length, get_or, take, drop, length-map, length-append}
use borrow.Author.Tests.{eq-eqb, ne_eqb}
use Rattle.base.specs.Pick.{pick}
use Rattle.base.specs.Bools.{and_right}
use Rattle.base.specs.Lists.{has, is, maybe, same}
use Rattle.base.specs.Alls.{All, All_getD, Opt}
use Rattle.definition.specs.Limits.{most_target, most_alternative}
use Rattle.definition.specs.Notes.{note_core, note_alt}
use Rattle.definition.specs.Texts.{Text}
use Rattle.definition.specs.Tables.{Rule}
use Rattle.definition.specs.Utf8.{decoded}
use Rattle.definition.specs.Places.{Placed}
use Rattle.definition.specs.RuleRows.{rule_flag, target_bit, end_target_bit, target_at, end_target_at, text_of, text_where, rule_of}
use Rattle.definition.specs.Edges.{Edge}
use Rattle.definition.specs.Paths.{cored, other}
use Rattle.definition.specs.Shorts.{Low, Short, short_none}
use Rattle.definition.specs.ExpandBounds.{Spoken as Worded}
use Rattle.definition.specs.Alternatives.{edge_vowel}
use Rattle.definition.specs.Offers.{target_offers}
use Rattle.utf8.specs.Encodings.{TextBytes, low_bytes, low-decoded, same-decoded}
use Rattle.rule_row.specs.Others.{others}
use Rattle.edge.specs.declared.Numbers.{Numbers}
use Rattle.edge.specs.Slots.{edge_by}
use Rattle.offers.specs.declared.Offer.{Offer}
use Rattle.offers.specs.declared.Offer.TheVariants.{Alternative, EndTarget, Target}
use Rattle.offers.specs.declared.Offers.{Offers}
use Rattle.offers.specs.Parts.{Has, text_in, vowel_behind}
use Rattle.offers.specs.Texts.{offer_at, Spoken, Tells, count_of, is_reading, Numbered, at-reading, text-short, at_target, target-there, cored-is, by-other, by_reading, by_target, text_at, core-own, core-note}

-- An ASCII text against the bytes of another
pub same_bytes : (w b : List ℕ) → All Low w → TextBytes b → same w (decoded b) ≡ same w b
same_bytes w b l t = ap (λ u. same u (decoded b)) (sym (low-decoded w l)) ∙ same-decoded (low_bytes w l) t

-- Is it the core of an edge?
module _ (e : Numbers) (b w : List ℕ) where
  abbrev X : Edge
  X = edge_by e b

  pub core_none : (e.note ≡ note_core → ⊥) → false ≡ cored X w
  unfolding cored edge_by
  core_none h = sym (ap (λ (y : Bool). y && same w (take e.core (decoded b))) (ne_eqb e.note note_core h))

  pub core_same : Spoken e b → e.note ≡ note_core → same w (take e.core b) ≡ cored X w
  unfolding cored edge_by
  core_same h n = sym
      (ap (λ (y : Bool). y && same w (take e.core (decoded b))) (eq-eqb e.note note_core n)
      ∙ ap (λ l. same w (take e.core l)) (core-own h n))

  -- Does it give its alternatives: is it the text, or the core?
  module _ (h : Spoken e b) (l : All Low w) where
    text_same : same w X.text ≡ same w b
    unfolding edge_by
    text_same = same_bytes w b l h.text

    pub taken-by : (t c : Bool) → same w b ≡ t → cored X w ≡ c → (same w X.text || cored X w) ≡ (t || c)
    taken-by t c p q = ap (λ (y : Bool). y || cored X w) (text_same ∙ p) ∙ ap (λ (y : Bool). t || y) q

    pub read_by : (y t : Bool) → same w b ≡ t → (o : Bool) → (t && (y && o)) ≡ ((y && same w X.text) && o)
    read_by y t p o = go t y ∙ ap (λ (z : Bool). (y && z) && o) (sym (text_same ∙ p))
      where
        go : (t y : Bool) → (t && (y && o)) ≡ ((y && t) && o)
        go true true = refl
        go true false = refl
        go false true = refl
        go false false = refl

-- The texts of a row by their flags
module _ (s : List ℕ) where
  abbrev pub W : Text
  W = text_of (drop (target_at s) s)

  abbrev U : Text
  U = text_of (drop (end_target_at s) s)

  abbrev R : Rule
  R = rule_of s

  target_flag : (f : Bool) → rule_flag s target_bit ≡ f → R.target ≡ text_where f (drop (target_at s) s)
  unfolding rule_of
  target_flag f e = ap (λ (y : Bool). text_where y (drop (target_at s) s)) e

  pub target_some : rule_flag s target_bit ≡ true → R.target ≡ some W
  unfolding text_where pick
  target_some e = target_flag true e

  pub target_none : rule_flag s target_bit ≡ false → R.target ≡ none
  unfolding text_where pick
  target_none e = target_flag false e

  pub target-short : Worded R → rule_flag s target_bit ≡ true → Short most_target W
  target-short h e = subst (Opt (Short most_target)) (target_some e) h.target

  end_flag : (f : Bool) → rule_flag s end_target_bit ≡ f → R.end_target ≡ text_where f (drop (end_target_at s) s)
  unfolding rule_of
  end_flag f e = ap (λ (y : Bool). text_where y (drop (end_target_at s) s)) e

  pub end_some : rule_flag s end_target_bit ≡ true → R.end_target ≡ some U
  unfolding text_where pick
  end_some e = end_flag true e

  pub end_short : Worded R → rule_flag s end_target_bit ≡ true → Short most_target U
  end_short h e = subst (Opt (Short most_target)) (end_some e) h.end_target

  pub end_is : Worded R → (b : List ℕ) → TextBytes b → rule_flag s end_target_bit ≡ true
      → same U b ≡ is (λ u. same u (decoded b)) R.end_target
  end_is h b t e =
      sym (ap (is (λ u. same u (decoded b))) (end_some e) ∙ same_bytes U b (end_short h e).low t)

  pub end_not : (b : List ℕ) → rule_flag s end_target_bit ≡ false → false ≡ is (λ u. same u (decoded b)) R.end_target
  unfolding text_where pick
  end_not b e = sym (ap (is (λ u. same u (decoded b))) (end_flag false e))

  pub end_has : has R.end_target ≡ rule_flag s end_target_bit
  unfolding text_where pick
  end_has = go (rule_flag s end_target_bit) refl
    where
      go : (f : Bool) → rule_flag s end_target_bit ≡ f → has R.end_target ≡ f
      go true e = ap has (end_flag true e)
      go false e = ap has (end_flag false e)

  pub others_are : R.others ≡ others s
  unfolding rule_of
  others_are = refl

  pub other-short : Worded R → (k : ℕ) → Short most_target (get_or (others s) k [])
  unfolding rule_of
  other-short h k = All_getD (Short most_target) (others s) k [] h.others (short_none most_target)

  -- What it offers
  module _ (b : Bool) (x : Edge) where
    abbrev taken : Bool
    taken = same W x.text || cored x W

    taken-count : (t : Bool) → taken ≡ t → length (target_offers x R W) ≡ pick t (length (others s)) 0
    unfolding target_offers
    taken-count t e = ap (λ (y : Bool). length (pick y l [])) e ∙ go t
      where
        l : List Edge
        l = map (λ u. other x note_alt (u ++ edge_vowel x W)) R.others

        go : (t : Bool) → length (pick t l []) ≡ pick t (length (others s)) 0
        go true = unfold pick in (length-map R.others (λ u. other x note_alt (u ++ edge_vowel x W)) ∙ ap length others_are)
        go false = unfold pick in refl

    pub tells : (o : Offers) → rule_flag s target_bit ≡ true → (t : Bool) → taken ≡ t → o.others ≡ pick t (length (others s)) 0
        → o.cored ≡ cored x W → o.reading ≡ ((b && same W x.text) && has R.end_target)
        → o.target ≡ is (λ u. same u x.text) R.end_target → Tells b x R o
    unfolding maybe
    tells o f t e n c v g = record {
      others = n ∙ sym (ap (λ t. maybe t 0 (λ w. length (target_offers x R w))) (target_some f) ∙ taken-count t e);
      cored = c ∙ sym (ap (is (cored x)) (target_some f));
      reading = v ∙ sym (ap (λ t. is (λ w. b && same w x.text) t && has R.end_target) (target_some f));
      target = g ∙ sym (ap (λ t. has t && is (λ u. same u x.text) R.end_target) (target_some f));
    }

    pub tells_nothing : (o : Offers) → rule_flag s target_bit ≡ false → o.others ≡ 0 → o.cored ≡ false → o.reading ≡ false → o.target ≡ false
        → Tells b x R o
    unfolding maybe
    tells_nothing o f n c v g = record {
      others = n ∙ sym (ap (λ t. maybe t 0 (λ w. length (target_offers x R w))) (target_none f));
      cored = c ∙ sym (ap (is (cored x)) (target_none f));
      reading = v ∙ sym (ap (λ t. is (λ w. b && same w x.text) t && has R.end_target) (target_none f));
      target = g ∙ sym (ap (λ t. has t && is (λ u. same u x.text) R.end_target) (target_none f));
    }

-- An edge adds nothing to what is no alternative, or where the target is not its core
pub nothing_behind : (o : Offers) (f : Offer) (core : ℕ) (b : List ℕ) → ((k : ℕ) → f ≡ Alternative k → o.cored ≡ false) → [] ≡ vowel_behind o f core b
unfolding pick
nothing_behind o (Alternative k) core b h = sym (ap (λ (z : Bool). pick z (drop core b) []) (h k refl))
nothing_behind o EndTarget core b h = refl
nothing_behind o Target core b h = refl

-- The text of number `k`
module _ (s : List ℕ) (y : Bool) (e : Numbers) (b : List ℕ) (o : Offers) (k : ℕ) (h : Tells y (edge_by e b) (rule_of s) o) (l : k < count_of o) where
  abbrev x : Edge
  x = edge_by e b

  abbrev r : Rule
  r = rule_of s

  abbrev d : Edge
  d = other x 0 []

  pub flag_there : rule_flag s target_bit ≡ true
  flag_there = go (rule_flag s target_bit) refl
    where
      go : (f : Bool) → rule_flag s target_bit ≡ f → f ≡ true
      go true z = refl
      go false z =
          let t = target-there h (omega arith) in
          absurd (true≢false (ap has (sym t.1 ∙ target_none s z)))

  there : r.target ≡ some (W s)
  there = target_some s flag_there

  pub other-there : k < o.others → k < length (others s)
  unfolding rule_of
  other-there q = (by-other h there k d q).0

  text-other : k < o.others → offer_at y x r k ≡ get_or (others s) k [] ++ edge_vowel x (W s)
  unfolding other rule_of
  text-other q = text_at h k d l ∙ ap (λ (c : Edge). c.text) (by-other h there k d q).1

  pub note-there : Spoken e b → o.cored ≡ true → e.note ≡ note_core
  note-there q z = core-note q (W s) (sym (cored-is h there) ∙ z)

  -- its vowel is of its own bytes
  vowel-own : Spoken e b → edge_vowel x (W s) ≡ pick o.cored (drop e.core b) []
  unfolding edge_by
  vowel-own p = ap (λ (z : Bool). pick z (drop e.core (decoded b)) []) (sym (cored-is h there)) ∙ go o.cored refl
    where
      go : (z : Bool) → o.cored ≡ z → pick z (drop e.core (decoded b)) [] ≡ pick z (drop e.core b) []
      go true z = unfold pick in ap (drop e.core) (core-own p (note-there p z))
      go false z = unfold pick in refl

  -- behind the alternatives the end target, where it is offered
  pub end_flag_there : o.reading ≡ true → rule_flag s end_target_bit ≡ true
  end_flag_there z = sym (end_has s) ∙ and_right (is (λ w. y && same w x.text) r.target) _ (sym h.reading ∙ z)

  pub text-reading : k ≡ o.others → o.reading ≡ true → U s ≡ offer_at y x r k
  unfolding other
  text-reading q z =
      let p = by_reading h there k d q z in
      let own : p.0 ≡ U s = some_is (sym p.1 ∙ end_some s (end_flag_there z)) in
      sym (text_at h k d l ∙ ap (λ (c : Edge). c.text) p.2 ∙ own)
    where
      some_is : {u v : Text} → ◌≡◌ {A = Option Text} (some u) (some v) → u ≡ v
      some_is {u} {v} e = unfold maybe in ap (λ o. maybe o [] (λ w. w)) e

  -- and last the target
  pub text-target : o.others ≤ k → is_reading o k ≡ false → W s ≡ offer_at y x r k
  unfolding other
  text-target q n = sym (text_at h k d l ∙ ap (λ (c : Edge). c.text) (by_target h there k d (at_target o k q n l) l))

  -- So the row has it, the edge's core lies in its text, and the text and what is behind it are what is offered
  pub has_it : Placed s → (f : Offer) → Numbered o k f → Has s f
  has_it p (Alternative j) q = record { placed = p; there = subst (λ n. n < length (others s)) (sym q.0) (other-there q.1) }
  has_it p EndTarget q = (p, end_flag_there (at-reading o k q.1).1)
  has_it p Target q = (p, flag_there)

  pub core_inside : Spoken e b → o.cored ≡ true → e.core ≤ length b
  core_inside p z = (p.core (note-there p z)).1

  pub parts_are : Spoken e b → (f : Offer) → Numbered o k f → text_in s f ++ vowel_behind o f e.core b ≡ offer_at y x r k
  parts_are p (Alternative j) q =
      ap (λ n. get_or (others s) n [] ++ pick o.cored (drop e.core b) []) q.0
      ∙ sym (text-other q.1 ∙ ap (λ l. get_or (others s) k [] ++ l) (vowel-own p))
  parts_are p EndTarget q = let z = at-reading o k q.1 in append-nil (U s) ∙ text-reading z.0 z.1
  parts_are p Target q = append-nil (W s) ∙ text-target q.0 q.1

  pub parts_fit : Spoken e b → Worded r → (f : Offer) → Numbered o k f
      → length (text_in s f) + length (vowel_behind o f e.core b) ≤ most_alternative
  parts_fit p w f q =
      let z = ap length (parts_are p f q) in
      let n = (text-short p w y k).long in
      omega (arith, z, n, length-append (text_in s f) (vowel_behind o f e.core b))
