-- In mode 2 no two listed edges share span and text, whatever is chosen.
use Rattle.std.specs.Prelude.{Bool, ◌≡◌, length}
use Rattle.std.proofs.Common.{sym, subst}
use mathlib.Core.List.{List, [], ◌∷◌}
use Rattle.std.proofs.Math.Option.{none}
use Rattle.base.specs.Alls.{Ordered}
use Rattle.definition.specs.Texts.{Text}
use Rattle.definition.specs.Tables.{Lexicon, lexicon}
use Rattle.definition.specs.Edges.{Edge, View, Mem, view, ret, ◌>>=◌}
use Rattle.definition.specs.Rules.{valids}
use Rattle.definition.specs.Paths.{reads, path_from, by_rules, by_edges, path_of, with_alternatives_of}
use Rattle.definition.specs.Decomposing.{lattice, edges, with_alternatives}
use Rattle.definition.specs.Call.{Inputs, tables, decompositions, characters, refusal}
use Rattle.definition.proofs.Promises.{formed_edges}
use Rattle.definition.specs.Offers.{all_offers, path-rises}
use Rattle.definition.proofs.Offers.{rules_in}
use Rattle.definition.specs.Once.{Apart, once-all, rises_apart}

module _ (b : Bool) (L : Lexicon) (t : Text) (v : View) where
  once-edges : (xs seen : List Edge) → Ordered Apart seen → (m : Mem) → Ordered Apart (by_edges b L t v xs seen m).0
  unfolding by_edges ret ◌>>=◌
  once-edges [] seen o m = o
  once-edges (x ∷ xs) seen o m =
      let rs = valids L t v x.from x.to m in
      once-edges xs (by_rules b x rs.0 seen)
      (subst (Ordered Apart) (sym (rules_in b x rs.0 seen)) (once-all (all_offers b x rs.0) seen o)) rs.1

pub listed-once : (i : Inputs) → refusal i ≡ none → Ordered Apart (with_alternatives (tables i) (decompositions i) (characters i))
unfolding with_alternatives with_alternatives_of path_of edges
listed-once i e =
    let D = tables i in
    let t = characters i in
    let st = lattice D (decompositions i) t in
    let xs = path_from (length t) 0 st.0 in
    once-edges (reads D.choices) (lexicon D) t (view D.classes st.0) xs xs
    (rises_apart xs (path-rises (length t) st.0 (formed_edges i e) (length t) 0)) st.1
