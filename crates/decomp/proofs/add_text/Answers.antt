-- `decomp::add_text`: a text that is too long is told; another is written as it is, and is new, since no edge of its kind starts there.
use Rattle.std.specs.Prelude.{Ok, Err}
use Rattle.std.proofs.lemmas.Result.{err_from_is_err_and}
use mathlib.Core.Bool.{true≢false}
use mathlib.Core.Path.{refl, sym, ◌∙◌}
use native.Mathlib.Omega.{arith}
use Rattle.decomp.specs.Adding.{numbers_at, text_writable, text-new, text-reached}
use Rattle.decomp.proofs.add_text.Goals as goal

pub add_edge-requires : goal.add_edge-requires
unfolding numbers_at
add_edge-requires c = (
  (
    c.requires.stored,
    text_writable c.args.p c.args.filled.used c.args.bytes.now c.args.spelling c.requires.held c.requires.few c.requires.offset (c.requires.bytes c.if-spelling.false),
    c.requires.fresh.most,
    text-new c.args.p c.args.filled.used c.args.bytes.now c.args.spelling c.requires.held c.requires.few c.requires.offset _ _ c.args.filled c.requires.fresh,
  ),
  omega arith,
  c.requires.inside,
)

pub returns-in_err-taken : goal.returns-in_err-taken
unfolding numbers_at
returns-in_err-taken c =
    let p = err_from_is_err_and c.from_residual.result c.from_residual.ensures.1 in
    let a = c.args in
    let f = c.in_err-taken in
    λ ks n st t k l h. rw (p.1, p.2) (
      λ q. absurd (true≢false (sym q ∙ c.if-spelling.false)),
      λ q. (
        Err f.field-0.0,
        text-reached a.p a.filled.used a.bytes.now a.spelling c.requires.held c.requires.few c.requires.offset t h q k l c.ending_of-end.result (c.ending_of-end.ensures ks)
            c.add_edge.new.slots c.add_edge.new.room c.add_edge.new.places (Err f.field-0.0) f.ensures.edge.0 f.ensures.edge.1 f.ensures.edge.2 f.ensures.places,
        refl,
      ),
    )

pub returns : goal.returns
unfolding numbers_at
returns c =
    let a = c.args in
    let f = c.in_ok-taken in
    λ ks n st t k l h. (
      λ q. absurd (true≢false (sym q ∙ c.if-spelling.false)),
      λ q. (
        Ok f.taken,
        text-reached a.p a.filled.used a.bytes.now a.spelling c.requires.held c.requires.few c.requires.offset t h q k l c.ending_of-end.result (c.ending_of-end.ensures ks)
            c.add_edge.new.slots c.add_edge.new.room c.add_edge.new.places (Ok f.taken) f.ensures.edge.0 f.ensures.edge.1 f.ensures.edge.2 f.ensures.places,
        refl,
      ),
    )
