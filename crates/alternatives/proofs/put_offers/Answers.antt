-- `alternatives::put_offers`: what was written and what is left of the offers leave what all leave.
use mathlib.Core.Bool.{true}
use mathlib.Core.List.{◌∷◌, ◌++◌}
use mathlib.Core.Path.{sym, ap, ◌∙◌, subst}
use Prim.Native.Nat.{◌≤◌, ◌<◌}
use native.Mathlib.Omega.{arith}
use lib.ListN.{take, drop}
use Rattle.base.specs.Alls.{All}
use Rattle.definition.specs.Limits.{most_alternative}
use Rattle.definition.specs.Shorts.{Low, Short}
use Rattle.definition.specs.RuleRows.{rule_of}
use Rattle.definition.specs.Offers.{offers}
use Rattle.lent_bytes.specs.Puts.{front_read, front_length}
use Rattle.edge.specs.Slots.{edge_by}
use Rattle.listing.specs.Items.{put_items}
use Rattle.marks.specs.Marked.{Marked}
use Rattle.offers.specs.Texts.{texts, count_of, one-most, text-short, note-is}
use Rattle.alternatives.specs.News.{offered}
use Rattle.alternatives.proofs.Turns.{offers-over, texts-over, texts_on, offers_on}
use Rattle.alternatives.proofs.put_offers.Goals as goal

pub is_new-new-requires : goal.is_new-new-requires
is_new-new-requires c =
    let p = c.put_offer-len.ensures c.args.asked.readings c.offers_of-o.ensures.0 in
    let s = text-short c.requires.2 c.requires.1.spoken c.args.asked.readings c.loop-k.k in
    (c.requires.0, c.requires.1, c.requires.2, subst (All Low) (sym (front_read _ _ _ _ p.0 p.1)) s.low, c.loop-k.invariant.marked)

pub put_new-to-requires : goal.put_new-to-requires
unfolding count_of
put_new-to-requires c =
    let o = c.offers_of-o in
    let p = c.put_offer-len.ensures c.args.asked.readings o.ensures.0 in
    let s = text-short c.requires.2 c.requires.1.spoken c.args.asked.readings c.loop-k.k in (
      omega (arith, o.ensures.1, c.count-k-end.ensures, one-most o.result.reading, one-most o.result.target, c.loop-k.invariant.small, c.requires.3),
      subst (Short most_alternative) (sym (front_read _ _ _ _ p.0 p.1)) s,
    )

pub loop-k-preserved : goal.loop-k-preserved
loop-k-preserved c =
    let a = c.args in
    let y = a.asked.readings in
    let x = edge_by a.e a.text.now in
    let r = rule_of (drop a.row a.dicts.now.rules.now) in
    let F = offered x a.dicts.now.code.now a.asked a.dicts.now.rules.now a.before in
    let o = c.offers_of-o in
    let k = c.loop-k.k in
    let i = c.loop-k.invariant in
    let u = c.put_offer-len in
    let p = u.ensures y o.ensures.0 in
    let told = front_read _ _ u.new.bytes u.result p.0 p.1 in
    let put = c.put_new-to in
    let h : k < count_of o.result = omega (arith, c.loop-k-test, c.count-k-end.ensures) in record {
      written = offers_on y a.e a.text.now r o.result o.ensures.0 (x.text ∷ F) k h c.is_new-new.result c.note.result _
          (put.result, put.new.out) (c.loop-k.to, c.loop-k.out) (c.note.ensures ∙ note-is o.result k _ c.offer.ensures) told c.is_new-new.ensures put.ensures.0 ∙ i.written;
      small = omega (arith, i.small, put.ensures.1);
      marked = subst (λ us. Marked us c.mark.new.cells) (texts_on y a.e a.text.now r o.result o.ensures.0 (x.text ∷ F) k h _ told F)
          (c.mark.ensures (F ++ take k (texts (offers y x r))) i.marked);
      long = front_length _ c.loop-k.bytes u.new.bytes p.0 (omega (arith, p.1, p.2, i.long)) ∙ i.long;
    }

pub returns : goal.returns
unfolding count_of put_items
returns c =
    let a = c.args in
    let y = a.asked.readings in
    let r = rule_of (drop a.row a.dicts.now.rules.now) in
    let F = offered (edge_by a.e a.text.now) a.dicts.now.code.now a.asked a.dicts.now.rules.now a.before in
    let o = c.offers_of-o in
    let h : count_of o.result ≤ c.loop-k.k = omega (arith, c.count-k-end.ensures) in (
      sym (ap (λ es. put_items true es (c.loop-k.to, c.loop-k.out))
          (offers-over y a.e a.text.now r o.result o.ensures.0 ((edge_by a.e a.text.now).text ∷ F) c.loop-k.k h)) ∙ c.loop-k.invariant.written,
      omega (arith, o.ensures.1, c.count-k-end.ensures, one-most o.result.reading, one-most o.result.target, c.loop-k.invariant.small),
      subst (λ us. Marked (F ++ us) c.loop-k.cells) (texts-over y a.e a.text.now r o.result o.ensures.0 ((edge_by a.e a.text.now).text ∷ F) c.loop-k.k h) c.loop-k.invariant.marked,
    )
