-- `alternatives::put_edge_alternatives`: the rows of its span are the rules of its span, asked as the definition asks.
use mathlib.Core.Bool.{true}
use mathlib.Core.Path.{◌≡◌, ap, ◌∙◌}
use Rattle.base.specs.Lists.{keep}
use Rattle.definition.specs.RuleRows.{rules_of}
use Rattle.definition.specs.Rules.{spans}
use Rattle.definition.specs.Paths.{reads}
use Rattle.definition.specs.Offers.{found_by}
use Rattle.edge.specs.Slots.{edge_by}
use Rattle.listing.specs.Items.{put_items}
use Rattle.edge_places.specs.Shows.{memory}
use Rattle.words.specs.Given.{seen, size}
use Rattle.words.specs.declared.given.Span.{Span}
use Rattle.words.specs.Found.{rules_in}
use Rattle.words.specs.Looks.{looked_are}
use Rattle.rule_choice.specs.Lent.{lexicon_of}
use Rattle.offers.specs.Texts.{holding}
use Rattle.alternatives.proofs.Edges.{looked-rows, valid-found, found-edge, start-told, start_recalls}
use Rattle.alternatives.proofs.put_edge_alternatives.Goals as goal

pub filter_len-cells-requires : goal.filter_len-cells-requires
filter_len-cells-requires c = (looked-rows c.args.dicts.now.rules.now c.args.line.now c.look_up-look.result c.args.dicts.now.prepared.table.accepted c.look_up-look.ensures.0).1

pub put_filtered-requires : goal.put_filtered-requires
put_filtered-requires c =
    let z = looked-rows c.args.dicts.now.rules.now c.args.line.now c.look_up-look.result c.args.dicts.now.prepared.table.accepted c.look_up-look.ensures.0 in
    (z.0, z.1, c.requires.0, c.requires.3)

pub returns : goal.returns
returns c =
    let e = c.args.e in
    let rules = c.args.dicts.now.rules.now in
    let found = rules_in rules c.look_up-look.result.found.first c.look_up-look.result.found.count in
    let rs = holding c.args.dicts.now.code.now c.is_at_start_of_word-start.result c.is_at_end_of_word-end.result rules c.look_up-look.result.found.first c.look_up-look.result.found.count in (
      (λ w told lent.
          let L = lexicon_of rules w c.args.dicts.now.code.now in
          let T = w.text in
          let m₀ = memory (size w) c.args.places.now in
          let m₁ = memory (size w) c.is_at_start_of_word-start.new.places in
          let d = c.is_at_start_of_word-start.ensures w lent in
          let are : found ≡ keep (spans T e.from e.to) (rules_of rules) =
          looked_are c.args.dicts.now.prepared.table.accepted c.look_up-look.ensures.0 lent.text
          ∙ ap (λ (s : Span). keep (spans T s.from s.to) (rules_of rules)) c.look_up-look.ensures.1 in (
            c.put_filtered.ensures.0
                ∙ ap (λ b. put_items true (found_by b (edge_by e c.args.text.now) rs) (c.args.at, c.args.out.now)) (ap reads (c.choices_in-choices.ensures ∙ told.choices))
                ∙ ap (λ l. put_items true l (c.args.at, c.args.out.now)) (found-edge (reads w.choices) L T (seen w) m₀ e c.args.text.now rs
                (valid-found (reads w.choices) L T (seen w) m₀ e.from e.to found are c.is_at_start_of_word-start.result c.is_at_end_of_word-end.result
                (start-told (reads w.choices) L T (seen w) m₀ m₁ e.from c.is_at_start_of_word-start.result d.did) (c.is_at_end_of_word-end.ensures w told lent.text))),
            start_recalls (reads w.choices) L T (seen w) m₀ m₁ e.from c.is_at_start_of_word-start.result d.did,
            d.kept,
          )),
      c.put_filtered.ensures.1,
    )
