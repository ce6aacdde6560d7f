-- `alternatives::put_alternatives`: what was written and what is left of the path leave what the whole path leaves.
use mathlib.Core.Bool.{true}
use mathlib.Core.Path.{◌≡◌, sym, ap, ◌∙◌}
use Prim.Native.Nat.{suc, ◌-◌}
use native.Mathlib.Omega.{arith}
use Rattle.definition.specs.Paths.{reads, path_from}
use Rattle.definition.specs.Offers.{found_all}
use Rattle.edge.specs.Slots.{edges_of}
use Rattle.edge.specs.Best.{best_means}
use Rattle.listing.specs.Items.{Written, put_items}
use Rattle.edge_places.specs.Shows.{memory}
use Rattle.words.specs.Given.{seen, size, size_in, line-size, lent-after}
use Rattle.rule_choice.specs.Lent.{lexicon_of}
use Rattle.alternatives.proofs.Edges.{found_on, best_sound, path_enough, stored_stays, best_stays, goes_on}
use Rattle.alternatives.proofs.put_alternatives.Goals as goal

pub put_best_alternatives-to-requires : goal.put_best_alternatives-to-requires
put_best_alternatives-to-requires c =
    let a = c.args in
    let b = c.best_right_neighbor_edge-best in
    let best = b.ensures a.listed.count c.requires.2 in
    let i = c.loop-p.invariant in (
      c.requires.0,
      stored_stays a.slots.now a.room.now c.loop-p.room a.listed.count a.listed.used c.requires.1 i.texts i.room,
      best.1,
      best_sound (size_in a.line.now) c.loop-p.p (edges_of a.room.now a.listed.count a.slots.now) (best_means c.loop-p.room a.slots.now b.result) c.requires.4
          (best_stays a.slots.now a.room.now c.loop-p.room a.listed.count a.listed.used c.requires.1 i.texts i.room b.result c.loop-p.p best.0),
      omega (arith, c.loop-p-test, c.requires.5, c.requires.6, i.inside, i.small, c.text_len-n.ensures),
    )

pub loop-p-smaller : goal.loop-p-smaller
loop-p-smaller c =
    let a = c.args in
    let b = c.best_right_neighbor_edge-best in
    let i = c.loop-p.invariant in
    let z = goes_on a.slots.now a.room.now c.loop-p.room a.listed.count a.listed.used c.requires.1 i.texts i.room b.result c.loop-p.p (b.ensures a.listed.count c.requires.2).0
    (size_in a.line.now) c.next_from-p.result c.requires.4 (omega (arith, c.loop-p-test, c.text_len-n.ensures)) c.next_from-p.ensures.0 in
    omega (arith, c.loop-p-test, z.0)

pub loop-p-preserved : goal.loop-p-preserved
loop-p-preserved c =
    let a = c.args in
    let Es = edges_of a.room.now a.listed.count a.slots.now in
    let N = c.text_len-n.result in
    let b = c.best_right_neighbor_edge-best in
    let best = (b.ensures a.listed.count c.requires.2).0 in
    let i = c.loop-p.invariant in
    let p = c.loop-p.p in
    let q = c.next_from-p in
    let r = c.put_best_alternatives-to in
    let z = goes_on a.slots.now a.room.now c.loop-p.room a.listed.count a.listed.used c.requires.1 i.texts i.room b.result p best
    (size_in a.line.now) q.result c.requires.4 (omega (arith, c.loop-p-test, c.text_len-n.ensures)) q.ensures.0 in
    let k = N - p - 1 in
    let e : suc k ≡ N - p = omega (arith, c.loop-p-test) in
    let now-at : Written = (c.loop-p.to, c.loop-p.out) in
    let then_at : Written = (r.result, r.new.out) in record {
      written = λ w told lent.
          let L = lexicon_of a.dicts.now.rules.now w a.dicts.now.code.now in
          let m₀ = memory (size w) a.places.now in
          let j = i.written w told lent in
          let d = r.ensures.0 w told (lent-after c.loop-p.places lent j.2) in (
            ap (λ x. put_items true (found_all (reads w.choices) L w.text (seen w) m₀ x) then_at)
                (path_enough (size_in a.line.now) Es c.requires.4 (N - q.result) k q.result (omega (arith, z.1, c.text_len-n.ensures)) (omega (arith, c.loop-p-test, z.0, c.text_len-n.ensures)))
                ∙ found_on (reads w.choices) L w.text (seen w) Es (best_means c.loop-p.room a.slots.now b.result) k p q.result (memory (size w) c.loop-p.places) m₀ then_at now-at
                (best_stays a.slots.now a.room.now c.loop-p.room a.listed.count a.listed.used c.requires.1 i.texts i.room b.result p best) (q.ensures.0 c.loop-p.room) j.1 d.0
                ∙ ap (λ n. put_items true (found_all (reads w.choices) L w.text (seen w) m₀ (path_from n p Es)) now-at) e ∙ j.0,
            (λ s. d.1 s ∙ j.1 s),
            d.2 ∙ j.2,
          );
      texts = i.texts ∙ sym r.ensures.2;
      inside = omega (arith, z.1, c.text_len-n.ensures);
      small = omega (arith, i.small, r.ensures.1, z.0);
      room = i.room ∙ sym r.auto.room;
    }

pub returns : goal.returns
unfolding found_all path_from put_items
returns c =
    let a = c.args in
    let N = c.text_len-n.result in
    let e : N - c.loop-p.p ≡ 0 = omega arith in
    λ w told lent es.
    let L = lexicon_of a.dicts.now.rules.now w a.dicts.now.code.now in
    let m₀ = memory (size w) a.places.now in
    let first : Written = (a.listed.at, a.out.now) in
    let Es = edges_of a.room.now a.listed.count a.slots.now in
    sym (ap (λ k. put_items true (found_all (reads w.choices) L w.text (seen w) m₀ (path_from k c.loop-p.p Es)) (c.loop-p.to, c.loop-p.out)) e)
    ∙ (c.loop-p.invariant.written w told lent).0
    ∙ ap (λ k. put_items true (found_all (reads w.choices) L w.text (seen w) m₀ (path_from k 0 Es)) first) (c.text_len-n.ensures ∙ line-size lent.text)
    ∙ ap (λ x. put_items true (found_all (reads w.choices) L w.text (seen w) m₀ (path_from (size w) 0 x)) first) es
