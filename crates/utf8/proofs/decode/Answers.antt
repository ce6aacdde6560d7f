use Rattle.std.proofs.Common.{drop, sym, arith, rules}
use Rattle.definition.specs.Utf8Turns.{char-bytes}
use Rattle.utf8.specs.Read.{char_means}
use Rattle.utf8.proofs.Walks.{turned, stopped, ended}
use Rattle.utf8.proofs.decode.Goals as goal

pub returns-in_default : goal.returns-in_default
unfolding char_means
returns-in_default c =
    let e = stopped c.loop-at.invariant c.loop-at-test.true (sym c.in_default.ensures) in
    record { answer = e.0; room = e.1 }

pub overflow_add-at : goal.overflow_add-at
unfolding char_means
overflow_add-at c =
    let h = char-bytes (drop c.loop-at.at c.args.text.now) c.in-Some.field-0.value c.in-Some.field-0.size (sym c.in-Some.ensures) in
    search rules

pub loop-at-smaller : goal.loop-at-smaller
unfolding char_means
loop-at-smaller c =
    let h = char-bytes (drop c.loop-at.at c.args.text.now) c.in-Some.field-0.value c.in-Some.field-0.size (sym c.in-Some.ensures) in
    omega arith

pub loop-at-preserved : goal.loop-at-preserved
unfolding char_means
loop-at-preserved c =
    rw c.put.ensures
    (turned c.loop-at.invariant c.in-Some.field-0.value c.in-Some.field-0.size _ _ (omega arith) (sym c.in-Some.ensures))

pub returns : goal.returns
returns c =
    let e = ended c.loop-at.invariant c.loop-at-test.false in
    record { answer = e.0; room = e.1 }
