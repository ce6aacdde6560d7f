-- `output::put_shown`: the path's string, or the rows and then the header in front of them.
use mathlib.Core.Bool.{false}
use mathlib.Core.List.{List, []}
use mathlib.Core.Path.{◌≡◌, sym, ap, ◌∙◌, subst}
use Prim.Native.Nat.{ℕ}
use native.Mathlib.Omega.{arith}
use Rattle.definition.specs.Edges.{Edge, State}
use Rattle.definition.specs.Paths.{joined, path_from, path_of}
use Rattle.definition.specs.Utf8.{encoded}
use Rattle.definition.specs.Call.{tables_of}
use Rattle.edge_places.specs.Shows.{memory}
use Rattle.standing.specs.Starts.{end_of}
use Rattle.listing.specs.Items.{put_items}
use Rattle.words.specs.Given.{size, line-size}
use Rattle.output.specs.Whole.{whole_laid}
use Rattle.output.specs.Shows.{Shows, listed, shown-string, shown-listed, shows_string, rows_end, shows_listing}
use Rattle.output.proofs.put_shown.Goals as goal

pub put_path-requires : goal.put_path-requires
put_path-requires c = (whole_laid c.requires, omega arith)

pub returns-then-built-eq0 : goal.returns-then-built-eq0
unfolding path_of
returns-then-built-eq0 c =
    λ vowels w told lent e.
    let D = tables_of w.choices c.args.dicts.now.rules.now w.classes vowels c.args.dicts.now.code.now in
    let n = end_of c.args.starts.now in
    let m = memory (size w) c.args.places.now in
    let long : size w ≡ n = omega (arith, line-size lent.text, c.requires.sized) in
    let st : State = (w.edges, m) in
    subst (λ b. Shows b c.args.out.now c.put_path.new.out c.put_path.result)
    (ap (λ (k : ℕ). encoded (joined (path_from k 0 w.edges))) (sym long) ∙ sym (shown-string D w.text c.args.built.mode st (omega arith)))
    (shows_string (path_from n 0 w.edges) c.args.out.now (c.put_path.ensures.0 ∙ ap (λ (es : List Edge). put_items false (path_from n 0 es) (0, c.args.out.now)) e))

pub put_head-requires : goal.put_head-requires
put_head-requires c =
    let w = c.requires.world in
    let D = tables_of w.choices c.args.dicts.now.rules.now w.classes [] c.args.dicts.now.code.now in
    let st : State = (w.edges, memory (size w) c.args.places.now) in
    omega (arith, rows_end (listed D w.text c.args.built.mode st) c.args.out.now (c.put_rows-end.ensures [] w c.requires.told c.requires.lent c.requires.edges))

pub returns : goal.returns
returns c =
    let mode = c.if-built-eq0.false in
    λ vowels w told lent e.
    let D = tables_of w.choices c.args.dicts.now.rules.now w.classes vowels c.args.dicts.now.code.now in
    let st : State = (w.edges, memory (size w) c.args.places.now) in
    subst (λ b. Shows b c.args.out.now c.put_head.new.out c.put_rows-end.result) (sym (shown-listed D w.text c.args.built.mode st (omega (arith, mode))))
    (shows_listing (listed D w.text c.args.built.mode st) c.args.out.now (c.put_rows-end.ensures vowels w told lent e) c.put_head.ensures)
