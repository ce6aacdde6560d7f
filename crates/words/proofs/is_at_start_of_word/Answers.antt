-- `words::is_at_start_of_word`: what is remembered, or what is found and remembered now.
use native.Mathlib.Omega.{arith}
use Rattle.words.specs.Given.{line-size}
use Rattle.words.proofs.Starts.{start-known}
use Rattle.words.proofs.is_at_start_of_word.Goals as goal

pub returns : goal.returns
returns c =
    let a = c.args in
    λ w g. let z = line-size g.text in
    start-known w a.p (omega arith) a.places.now _ c.start-known.ensures (λ e. omega arith)
