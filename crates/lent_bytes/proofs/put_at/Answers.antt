-- `lent_bytes::put_at`: the part from the place on is lent, and comes back with the text in front.
use mathlib.Core.Path.{ap, ◌∙◌}
use mathlib.Core.List.{List, ◌++◌}
use Prim.Native.Nat.{ℕ}
use lib.ListN.{length, take, drop}
use lib.Seq.{drop-drop}
use Rattle.base.specs.Loans.{lent-end, back_end}
use Rattle.lent_bytes.specs.Puts.{put_at}
use Rattle.lent_bytes.proofs.put_at.Goals as goal

pub returns : goal.returns
unfolding put_at
returns c =
    let p = c in
    let a = p.args in
    let room = a.room.now in
    let text = a.text.now in
    back_end room a.at p.put_text.new.room
    ∙ ap (◌++◌ (take a.at room))
    (p.put_text.ensures ∙ ap (λ (l : List ℕ). text ++ drop (length text) l) (lent-end room a.at)
    ∙ ap (◌++◌ text) (drop-drop (length text) a.at room))
