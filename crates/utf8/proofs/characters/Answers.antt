-- `utf8::characters`: those bytes are counted that continue no character.
use Rattle.std.proofs.Common.{◌≡◌, sym, ◌∙◌, nat_eq, rules}
use Rattle.std.specs.Prelude.{count_by}
use Rattle.definition.specs.Utf8.{six}
use Rattle.utf8.proofs.Walks.{beginnings_counted}
use Rattle.utf8.proofs.characters.Goals as goal

pub returns : goal.returns
returns c =
    let e : c.count.result ≡ count_by (λ b. nat_eq (six b) 64) c.args.text.now = search rules in
    e ∙ sym (beginnings_counted c.args.text.now)
