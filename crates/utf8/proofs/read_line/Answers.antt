-- `utf8::read_line`: the middle of the line is lent, and comes back with the text; then the spaces are put.
use Rattle.std.proofs.Common.{◌≡◌, ℕ, ◌+◌, ◌-◌, ◌≤◌, List, length, set, length-set, arith}
use borrow.Rule.Slice.PartMut.{put_mid}
use Rattle.definition.specs.Limits.{most_characters}
use Rattle.definition.specs.Utf8.{decoded}
use Rattle.utf8.specs.Read.{few_read}
use Rattle.utf8.specs.Lines.{spaced-is, lent_length}
use Rattle.utf8.proofs.read_line.Goals as goal

-- an accepted text leaves room behind it
module _ (c : goal.In_ok-n) where
  few : (c.in_ok-n.n ≡ length (decoded c.args.text.now)) × (c.in_ok-n.n ≤ most_characters)
  few =
      let k = c.in_ok-n.ensures.count in
      (k, omega (arith, k, few_read c.args.text.now c.read_text.result c.in_ok-n.n c.in_ok-n.was c.read_text.ensures.refusal))

  -- the line with what has come back
  abbrev came : List ℕ
  came = put_mid 1 (length c.args.line.now - 2 - 1) c.args.line.now c.read_text.new.chars

  -- has room for the text and the spaces
  enough : c.in_ok-n.n + 3 ≤ length c.args.line.now
  enough = omega (arith, few.0, c.requires.0, c.requires.1 (omega (arith, few)))

  as_long : c.in_ok-n.n + 3 ≤ length came
  as_long =
      omega (
        arith,
        enough,
        lent_length (decoded c.args.text.now) c.args.line.now c.read_text.new.chars (length c.args.line.now - 2 - 1) c.read_text.ensures.room,
      )

pub overflow_add-line : goal.overflow_add-line
overflow_add-line c = omega (arith, few c)

pub offset_bounds-line-n : goal.offset_bounds-line-n
offset_bounds-line-n c = omega (arith, few c)

pub bounds-line-n : goal.bounds-line-n
bounds-line-n c = omega (arith, (few c).1, as_long c, length-set (came c) 0 32)

pub overflow_add-line-2 : goal.overflow_add-line-2
overflow_add-line-2 c = omega (arith, few c)

pub offset_bounds-line-n-2 : goal.offset_bounds-line-n-2
offset_bounds-line-n-2 c = omega (arith, few c)

pub bounds-line-n-2 : goal.bounds-line-n-2
bounds-line-n-2 c =
    omega (arith, (few c).1, as_long c, length-set (came c) 0 32, length-set (set (came c) 0 32) (c.in_ok-n.n + 1) 32)

pub returns-clause-line : goal.returns-clause-line
returns-clause-line c =
    spaced-is (decoded c.args.text.now) c.args.line.now c.read_text.new.chars c.in_ok-n.n (length c.args.line.now - 2 - 1)
    (few c).0 (omega (arith, enough c)) (omega (arith, enough c)) c.read_text.ensures.room
