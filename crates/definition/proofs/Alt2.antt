-- The alternatives with the step of "rom-alt2" and without it: where readings are not chosen they are the same.
use Rattle.std.specs.Prelude.{Bool, ◌≡◌}
use Rattle.std.proofs.Math.Bool.{false}
use Rattle.std.proofs.Math.Path.{refl, sym, ap}
use Rattle.std.proofs.Common.{◌∙◌}
use mathlib.Core.List.{List, [], ◌∷◌}
use Rattle.std.proofs.Math.Option.{Option, none, some}
use Rattle.base.specs.Lists.{maybe}
use Rattle.base.specs.Alls.{All, All-each, All-map}
use Rattle.definition.specs.Texts.{Text}
use Rattle.definition.specs.Tables.{Rule, Choices, Lexicon, Tables, lexicon}
use Rattle.definition.specs.Edges.{Edge, View, Mem, State, view, ret, ◌>>=◌}
use Rattle.definition.specs.Rules.{valids}
use Rattle.definition.specs.Paths.{reads, by_target, by_end_target, by_rule, by_rules, by_edges, path_of, with_alternatives_of}
use Rattle.definition.proofs.Alternatives.{by_target-added, by_rule-added, by_rules-added}
use Rattle.definition.specs.Alt2.{In, any-gives, by_text, in_more, in_own, published_edges, published_rule, published_rules, readings_off, text-nothing}

pub in_target : (x : Edge) (r : Rule) (seen : List Edge) (w : Text) → In seen x → In (by_target x r seen w) x
in_target x r seen w h = in_more (by_target-added false x r seen w (any-gives false x r)) x h

pub in_rule : (b : Bool) (x : Edge) (r : Rule) (seen : List Edge) → In seen x → In (by_rule b x r seen) x
in_rule b x r seen h = in_more (by_rule-added b x r seen (any-gives b x r)) x h

pub in_rules : (b : Bool) (x : Edge) (rs : List Rule) (seen xs : List Edge) → All (In seen) xs → All (In (by_rules b x rs seen)) xs
in_rules b x rs seen xs h = All-map (in_more (by_rules-added b x rs seen (All-each _ (any-gives b x) rs))) xs h

module _ (c : Choices) (off : c.readings ≡ 0) where
  rule-same : (x : Edge) (r : Rule) (seen : List Edge) → In seen x → published_rule x r seen ≡ by_rule (reads c) x r seen
  unfolding published_rule
  rule-same x r seen h = go r.target ∙ sym (readings_off c x r seen off)
    where
      go : (o : Option Text) → maybe o seen (λ w. by_end_target x r (by_text x r (by_target x r seen w) w) w)
          ≡ maybe o seen (λ w. by_end_target x r (by_target x r seen w) w)
      go none = unfold maybe in refl
      go (some w) = unfold maybe in
          ap (λ l. by_end_target x r l w) (text-nothing x r (by_target x r seen w) w (in_target x r seen w h))

  rules-same : (x : Edge) (rs : List Rule) (seen : List Edge) → In seen x → published_rules x rs seen ≡ by_rules (reads c) x rs seen
  unfolding published_rules by_rules
  rules-same x [] seen h = refl
  rules-same x (r ∷ rs) seen h =
      ap (published_rules x rs) (rule-same x r seen h) ∙ rules-same x rs (by_rule (reads c) x r seen) (in_rule (reads c) x r seen h)

  module _ (L : Lexicon) (t : Text) (v : View) where
    edges-same : (xs seen : List Edge) → All (In seen) xs → (m : Mem)
        → published_edges L t v xs seen m ≡ by_edges (reads c) L t v xs seen m
    unfolding published_edges by_edges ret ◌>>=◌
    edges-same [] seen h m = refl
    edges-same (x ∷ xs) seen h m =
        let rs = valids L t v x.from x.to m in
        ap (λ l. published_edges L t v xs l rs.1) (rules-same x rs.0 seen h.0)
        ∙ edges-same xs (by_rules (reads c) x rs.0 seen) (in_rules (reads c) x rs.0 seen xs h.1) rs.1

-- What `add_alternatives` lists, "rom-alt2" and all, is mode 2's list where readings are not chosen
pub alt2_absent : (D : Tables) (t : Text) (st : State) → D.choices.readings ≡ 0
    → (published_edges (lexicon D) t (view D.classes st.0) (path_of D t st) (path_of D t st) st.1).0 ≡ with_alternatives_of D t st
unfolding with_alternatives_of
alt2_absent D t st off =
    ap (λ r. r.0) (edges-same D.choices off (lexicon D) t (view D.classes st.0) (path_of D t st) (path_of D t st) (in_own (path_of D t st)) st.1)
