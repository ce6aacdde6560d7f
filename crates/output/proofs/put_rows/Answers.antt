-- `output::put_rows`: by its mode all edges, or the path and what is put behind it.
use mathlib.Core.Bool.{true}
use mathlib.Core.List.{List}
use mathlib.Core.Path.{◌≡◌, sym, ap, ◌∙◌, subst}
use Prim.Native.Nat.{ℕ}
use native.Mathlib.Omega.{arith}
use Rattle.definition.specs.Tables.{lexicon}
use Rattle.definition.specs.Edges.{Edge, view}
use Rattle.definition.specs.Paths.{reads, path_from, sorted}
use Rattle.definition.specs.Offers.{found_all}
use Rattle.definition.specs.Bounds.{Sound}
use Rattle.definition.specs.Call.{tables_of}
use Rattle.base.specs.Alls.{All}
use Rattle.edge_places.specs.Shows.{memory}
use Rattle.standing.specs.Starts.{end_of}
use Rattle.listing.specs.Items.{put_items, put_items-append}
use Rattle.words.specs.Given.{size, line-size}
use Rattle.output.specs.Whole.{whole_laid}
use Rattle.output.specs.Shows.{lists-all, lists-alternatives, lists-path}
use Rattle.output.proofs.put_rows.Goals as goal

pub put_all_edges-requires : goal.put_all_edges-requires
put_all_edges-requires c =
    (whole_laid c.requires, c.requires.few, omega arith)

pub returns-then-built-eq3 : goal.returns-then-built-eq3
returns-then-built-eq3 c =
    λ vowels w told lent e.
    let D = tables_of w.choices c.args.dicts.now.rules.now w.classes vowels c.args.dicts.now.code.now in
    let n = end_of c.args.starts.now in
    let m = memory (size w) c.args.places.now in
    let long : size w ≡ n = omega (arith, line-size lent.text, c.requires.sized) in
    c.put_all_edges.ensures ∙ ap (λ (es : List Edge). put_items true (sorted es n 0) (5, c.args.out.now)) e
    ∙ sym (ap (λ (l : List Edge). put_items true l (5, c.args.out.now)) (lists-all D w.text n long c.args.built.mode w.edges m (omega arith)))

pub put_path-end-requires : goal.put_path-end-requires
put_path-end-requires c = (whole_laid c.requires, omega arith)

pub returns-then-built-eq2 : goal.returns-then-built-eq2
unfolding tables_of
returns-then-built-eq2 c =
    λ vowels w told lent e.
    let D = tables_of w.choices c.args.dicts.now.rules.now w.classes vowels c.args.dicts.now.code.now in
    let n = end_of c.args.starts.now in
    let m = memory (size w) c.args.places.now in
    let long : size w ≡ n = omega (arith, line-size lent.text, c.requires.sized) in
    let ps = path_from n 0 w.edges in
    let fs = found_all (reads D.choices) (lexicon D) w.text (view D.classes w.edges) m ps in
    let path = ap (λ (k : ℕ). path_from k 0 w.edges) long in
    let mode = c.if-built-eq2.true in
    c.put_alternatives.ensures w told lent e
    ∙ ap (λ (l : List Edge). put_items true (found_all (reads D.choices) (lexicon D) w.text (view D.classes w.edges) m l) (c.put_path-end.result, c.put_path-end.new.out)) path
    ∙ ap (put_items true fs) (c.put_path-end.ensures.0 ∙ ap (λ (es : List Edge). put_items true (path_from n 0 es) (5, c.args.out.now)) e)
    ∙ sym (put_items-append true ps fs (5, c.args.out.now))
    ∙ sym (ap (λ (l : List Edge). put_items true l (5, c.args.out.now)) (lists-alternatives D w.text n long c.args.built.mode w.edges m (omega (arith, mode))
    (subst (λ (k : ℕ). All (Sound k) w.edges) (omega (arith, c.requires.sized)) (subst (All (Sound _)) e c.requires.sound))))

pub returns : goal.returns
returns c =
    λ vowels w told lent e.
    let D = tables_of w.choices c.args.dicts.now.rules.now w.classes vowels c.args.dicts.now.code.now in
    let n = end_of c.args.starts.now in
    let m = memory (size w) c.args.places.now in
    let long : size w ≡ n = omega (arith, line-size lent.text, c.requires.sized) in
    let mode = c.requires.mode in
    c.put_path-end.ensures.0 ∙ ap (λ (es : List Edge). put_items true (path_from n 0 es) (5, c.args.out.now)) e
    ∙ sym (ap (λ (l : List Edge). put_items true l (5, c.args.out.now)) (lists-path D w.text n long c.args.built.mode w.edges m (omega (arith, mode))))
