-- `first_pass::add_span`: the edge that was found is within the text, ASCII and near, so it is added as it is.
use mathlib.Core.Path.{refl, ◌∙◌}
use native.Mathlib.Omega.{arith}
use lib.ListN.{take}
use Rattle.utf8.specs.Encodings.{low_bytes}
use Rattle.words.specs.Given.{kinds, lent-after}
use Rattle.first_pass.proofs.Spans.{spelt, span_none, span_writable, span_new, span_added}
use Rattle.first_pass.proofs.add_span.Goals as goal

pub ending_of-end-requires : goal.ending_of-end-requires
ending_of-end-requires c =
    let o = c.requires.3.over in
    let r = c.in-Some.found in
    let b = c.put_span_edge.new.bytes in
    let A = c.in-Some.ensures.0 c.requires.3.world o.told o.lent in
    low_bytes (take r.len b)
    (spelt c.args.dicts.now.rules.now c.args.dicts.now.vowels.now c.args.dicts.now.code.now o c.requires.0 c.requires.1 c.requires.2 _ A b r refl c.requires.5).1.low

pub add_edge-requires : goal.add_edge-requires
add_edge-requires c =
    let o = c.requires.3.over in
    let r = c.in-Some.found in
    let b = c.put_span_edge.new.bytes in
    let A = c.in-Some.ensures.0 c.requires.3.world o.told o.lent in
    let rules = c.args.dicts.now.rules.now in
    let vowels = c.args.dicts.now.vowels.now in
    let code = c.args.dicts.now.code.now in
    let s = (spelt rules vowels code o c.requires.0 c.requires.1 c.requires.2 _ A b r refl c.requires.5).0 in
    let forward = s.forward in
    let inside = s.inside in
    let long = (lent-after c.put_span_edge.new.places o.lent A.kept).edges.long in (
      (
        o.stored,
        span_writable rules vowels code o c.requires.0 c.requires.1 c.requires.2 _ A b r refl c.requires.5,
        c.requires.4.most,
        span_new rules vowels code o c.requires.0 c.requires.1 c.requires.2 _ A b r refl c.requires.5 c.requires.4,
      ),
      forward,
      omega (arith, inside, long),
    )

pub returns-in-Some : goal.returns-in-Some
returns-in-Some c =
    let r = c.in-Some.found in
    let b = c.put_span_edge.new.bytes in
    λ w o.
    let asked = c.in-Some.ensures.0 w o.told o.lent in
    span_added c.args.dicts.now.rules.now c.args.dicts.now.vowels.now c.args.dicts.now.code.now o c.requires.0 c.requires.1 c.requires.2 _ asked b r refl c.requires.5
    c.ending_of-end.result (λ x q l. c.ending_of-end.ensures (kinds w) x q (c.ends_in_letter.ensures ∙ l))
    c.add_edge.new.slots c.add_edge.new.room c.add_edge.new.places c.add_edge.result c.add_edge.ensures.edge.0 c.add_edge.ensures.edge.1 c.add_edge.ensures.edge.2 c.add_edge.ensures.places

pub returns-in-None : goal.returns-in-None
returns-in-None c =
    λ w o.
    span_none c.args.dicts.now.rules.now c.args.dicts.now.vowels.now c.args.dicts.now.code.now o c.requires.0 c.requires.1 c.requires.2 _ (c.in-None.ensures.0 w o.told o.lent) refl
