-- `alternatives::put_best_alternatives`: those of that one edge, or none.
use mathlib.Core.Bool.{true}
use mathlib.Core.List.{[], ◌∷◌}
use mathlib.Core.Path.{refl, sym, ap, ◌∙◌}
use native.Mathlib.Omega.{arith}
use lib.ListN.{length}
use lib.Seq.{length-take-le}
use Rattle.definition.specs.Paths.{reads, join}
use Rattle.definition.specs.Offers.{found_all}
use Rattle.edge.specs.Best.{best_means}
use Rattle.listing.specs.Items.{put_items}
use Rattle.edge_places.specs.Shows.{memory}
use Rattle.words.specs.Given.{seen, size, size_in}
use Rattle.rule_choice.specs.Lent.{lexicon_of}
use Rattle.alternatives.proofs.Edges.{best-slot, best-short, best-inside, best-spoken, best-edge, not-there, found_nothing, front_stays}
use Rattle.alternatives.proofs.put_best_alternatives.Goals as goal

pub edge_text-own-requires : goal.edge_text-own-requires
edge_text-own-requires c =
    let a = c.args in
    let k = c.requires in
    best-slot a.slots.now a.room.now a.listed.count a.listed.used (size_in a.line.now) c.in-Some.is k.1 k.2 k.3

pub slice_bounds-bytes-end : goal.slice_bounds-bytes-end
slice_bounds-bytes-end c =
    let a = c.args in
    let k = c.requires in
    let s = best-short a.slots.now a.room.now a.listed.count a.listed.used (size_in a.line.now) c.in-Some.is k.1 k.2 k.3 in
    omega (arith, ap length c.edge_text-own.ensures, s)

pub copy_from_slice-requires : goal.copy_from_slice-requires
copy_from_slice-requires c =
    let a = c.args in
    let k = c.requires in
    let s = best-short a.slots.now a.room.now a.listed.count a.listed.used (size_in a.line.now) c.in-Some.is k.1 k.2 k.3 in
    length-take-le _ _ (omega (arith, ap length c.edge_text-own.ensures, s))

pub slice_bounds-text-end : goal.slice_bounds-text-end
slice_bounds-text-end c =
    let a = c.args in
    let k = c.requires in
    let s = best-short a.slots.now a.room.now a.listed.count a.listed.used (size_in a.line.now) c.in-Some.is k.1 k.2 k.3 in
    sym (length-take-le _ _ (omega (arith, ap length c.edge_text-own.ensures, s)))

pub put_edge_alternatives-requires : goal.put_edge_alternatives-requires
put_edge_alternatives-requires c =
    let a = c.args in
    let k = c.requires in
    let n = size_in a.line.now in
    let e = c.numbers_at-e in
    let copied = c.copy_from_slice.ensures.after ∙ c.edge_text-own.ensures in
    let i = best-inside a.slots.now a.room.now a.listed.count a.listed.used n c.in-Some.is k.1 k.2 k.3 e.result e.ensures in (best-spoken a.slots.now a.room.now a.listed.count a.listed.used n c.in-Some.is k.1 k.2 k.3 e.result e.ensures _ copied, i.0, i.1, k.4)

pub returns : goal.returns
returns c =
    let a = c.args in
    let k = c.requires in
    let e = c.numbers_at-e in
    let copied = c.copy_from_slice.ensures.after ∙ c.edge_text-own.ensures in
    let is = best-edge a.slots.now a.room.now a.listed.count a.listed.used (size_in a.line.now) c.in-Some.is k.1 k.2 k.3 e.result e.ensures _ copied in (
      (λ w told lent.
          let L = lexicon_of a.dicts.now.rules.now w a.dicts.now.code.now in
          let m₀ = memory (size w) a.places.now in
          let d = c.put_edge_alternatives.ensures.0 w told lent in (
            d.0 ∙ ap (λ x. put_items true (found_all (reads w.choices) L w.text (seen w) m₀ (x ∷ [])) (a.listed.at, a.out.now)) is
                ∙ ap (λ o. put_items true (found_all (reads w.choices) L w.text (seen w) m₀ (join (best_means a.room.now a.slots.now o) [])) (a.listed.at, a.out.now)) (sym c.in-Some.is),
            d.1,
            d.2,
          )),
      c.put_edge_alternatives.ensures.1,
      front_stays a.room.now a.listed.used c.put_edge_alternatives.new.free k.1.within,
    )

pub returns-in_default : goal.returns-in_default
unfolding put_items
returns-in_default c =
    let a = c.args in
    let none = not-there a.best c.in_default.not-Some in (
      (λ w told lent.
          let L = lexicon_of a.dicts.now.rules.now w a.dicts.now.code.now in
          let m₀ = memory (size w) a.places.now in (
            ap (λ l. put_items true l (a.listed.at, a.out.now)) (found_nothing (reads w.choices) L w.text (seen w) m₀
                ∙ ap (λ b. found_all (reads w.choices) L w.text (seen w) m₀ (join (best_means a.room.now a.slots.now b) [])) (sym none)),
            (λ p. refl),
            refl,
          )),
      omega arith,
      refl,
    )
