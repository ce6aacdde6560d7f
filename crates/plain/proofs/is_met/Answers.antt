-- `plain::is_met`: the characters before and behind the span are those of the text, and so is the class.
use Rattle.std.proofs.Common.{true≢false, sym, ap, ◌∙◌, subst, ◌+◌, ◌≤◌, arith, length}
use Rattle.definition.specs.Expansion.{small_tsu}
use Rattle.words.specs.Given.{line-size, char_at, char_before}
use Rattle.words.specs.Characters.{flag_here}
use Rattle.plain.specs.Plain.{Unasked}
use Rattle.plain.proofs.is_met.Goals as goal
use Rattle.plain.proofs.is_met.Goals.{then-is_asked_behind, else-is_asked_behind}

pub returns-else-doubles : goal.returns-else-doubles
returns-else-doubles c =
    λ e x g.
    let n = line-size g in
    let h : c.args.span.to ≤ length x.text + 1 = omega (arith, c.requires, n) in
    let k : c.args.span.from ≤ length x.text + 2 = omega (arith, c.args.span.forward, c.requires, n) in
    elim c.if-is_asked_behind.branch [
      | then-is_asked_behind w ↦ absurd (true≢false (sym w.if-is_asked_behind.true ∙ sym w.value-is ∙ c.if-doubles.false))
      | else-is_asked_behind w ↦
          record {
            single = ap small_tsu (sym (w.number_at-else-is_asked_behind.ensures ∙ char_before g c.args.span.from k)) ∙ w.doubles.ensures (sym w.value-is ∙ c.if-doubles.false);
            unasked = subst Unasked (c.number_at.ensures ∙ char_at g c.args.span.to h) (c.is_asked_behind.ensures w.if-is_asked_behind.false);
            voiced = sym (flag_here g c.args.span.to h c.kind_at.ensures 3 (λ l. l.virama) (λ m l z. z.virama) c.class_flag.ensures) ∙ e;
          }
    ]
