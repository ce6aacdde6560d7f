-- `offers::put_offer`: both parts of the text, one behind the other.
use mathlib.Core.List.{◌++◌}
use mathlib.Core.Path.{sym, ap, ◌∙◌}
use native.Mathlib.Omega.{arith}
use lib.ListN.{length, drop, length-append}
use Rattle.lent_bytes.specs.Puts.{put_at, put_next}
use Rattle.offers.specs.Parts.{text_in}
use Rattle.offers.proofs.Telling.{parts_are, parts_fit}
use Rattle.offers.proofs.put_offer.Goals as goal

pub returns : goal.returns
returns c =
    let a = c.args in
    let q = c.requires in
    let w = c.text_in-w.result.now in
    let v = c.vowel_behind-vowel.result.now in
    let f = parts_fit (drop a.row a.rules.now) q.3.0 a.e a.text.now a.o a.k q.3.1 q.4 q.2 q.1.spoken c.offer-offer.result c.offer-offer.ensures in
    λ b h.
    let both = ap (λ l. l ++ v) c.text_in-w.ensures ∙ ap (λ l. text_in (drop a.row a.rules.now) c.offer-offer.result ++ l) c.vowel_behind-vowel.ensures
    ∙ parts_are (drop a.row a.rules.now) b a.e a.text.now a.o a.k h q.4 q.2 c.offer-offer.result c.offer-offer.ensures in (
      c.put_at-2.ensures ∙ put_next 0 (length w) w v a.bytes.now c.put_at.new.room (omega arith) (omega arith) c.put_at.ensures
          ∙ ap (λ l. put_at 0 l a.bytes.now) both,
      sym (length-append w v) ∙ ap length both,
      omega (arith, f, ap length c.text_in-w.ensures, ap length c.vowel_behind-vowel.ensures),
    )
