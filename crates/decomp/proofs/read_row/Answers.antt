-- `decomp::read_row`: the row's characters were laid out as a line, so what is read of it is read of their own world.
use mathlib.Core.List.{◌++◌}
use mathlib.Core.Path.{◌≡◌, sym, ap, ◌∙◌}
use Prim.Native.Nat.{ℕ, ◌+◌, ◌*◌, ◌≤◌}
use native.Mathlib.Omega.{arith}
use lib.ListN.{length, take, drop, replicate, length-append}
use lib.Seq.{take_at, length-take-le}
use Rattle.base.specs.ListLaws.{take-replicate}
use Rattle.definition.specs.Limits.{most_into}
use Rattle.definition.specs.DecompositionRows.{decomposition_into}
use Rattle.utf8.specs.Lines.{spaced}
use Rattle.table_classes.specs.Told.{kinds_of}
use Rattle.decomp_line.specs.Rows.{into_few}
use Rattle.words.specs.Given.{size_in}
use Rattle.decomp.proofs.Rowing.{own, own_lined, own-told, own-size, own_ready}
use Rattle.decomp.proofs.read_row.Goals as goal

-- what is prepared for a row of the most characters: its line, and an entry for each position
abbrev line-places : ℕ
line-places = 2 * (most_into + 3)

abbrev places : ℕ
places = most_into + 1

pub slice_bounds-line-end : goal.slice_bounds-line-end
slice_bounds-line-end c =
    let few : c.count-n.result ≤ most_into = omega (arith, c.count-n.ensures.0, into_few c.requires.1) in
    omega (arith, few)

pub slice_bounds-lay_out-end : goal.slice_bounds-lay_out-end
slice_bounds-lay_out-end c =
    let few : c.count-n.result ≤ most_into = omega (arith, c.count-n.ensures.0, into_few c.requires.1) in
    let line-long : length (take ((2 * (c.count-n.result + 3))) (replicate {A = ℕ} line-places 0)) ≡ (2 * (c.count-n.result + 3)) = length-take-le ((2 * (c.count-n.result + 3))) (replicate {A = ℕ} line-places 0) (omega (arith, few)) in
    sym (line-long)

pub lay_out-requires : goal.lay_out-requires
lay_out-requires c =
    let few : c.count-n.result ≤ most_into = omega (arith, c.count-n.ensures.0, into_few c.requires.1) in
    let line-long : length (take ((2 * (c.count-n.result + 3))) (replicate {A = ℕ} line-places 0)) ≡ (2 * (c.count-n.result + 3)) = length-take-le ((2 * (c.count-n.result + 3))) (replicate {A = ℕ} line-places 0) (omega (arith, few)) in
    (c.requires.0.kinds, omega (arith, line-long, c.count-n.ensures.0))

pub slice_bounds-line-end-2 : goal.slice_bounds-line-end-2
slice_bounds-line-end-2 c =
    let few : c.count-n.result ≤ most_into = omega (arith, c.count-n.ensures.0, into_few c.requires.1) in
    let line-long : length (take ((2 * (c.count-n.result + 3))) (replicate {A = ℕ} line-places 0)) ≡ (2 * (c.count-n.result + 3)) = length-take-le ((2 * (c.count-n.result + 3))) (replicate {A = ℕ} line-places 0) (omega (arith, few)) in
    let laid-long : length c.lay_out.new.line ≡ (2 * (c.count-n.result + 3)) = omega (arith, c.lay_out.auto.line, line-long) in
    let inside : (2 * (c.count-n.result + 3)) ≤ length ((c.lay_out.new.line ++ drop ((2 * (c.count-n.result + 3))) (replicate {A = ℕ} line-places 0))) = omega (arith, length-append c.lay_out.new.line (drop ((2 * (c.count-n.result + 3))) (replicate {A = ℕ} line-places 0)), (laid-long)) in
    inside

pub slice_bounds-read_line-end-2 : goal.slice_bounds-read_line-end-2
slice_bounds-read_line-end-2 c =
    let few : c.count-n.result ≤ most_into = omega (arith, c.count-n.ensures.0, into_few c.requires.1) in
    let line-long : length (take ((2 * (c.count-n.result + 3))) (replicate {A = ℕ} line-places 0)) ≡ (2 * (c.count-n.result + 3)) = length-take-le ((2 * (c.count-n.result + 3))) (replicate {A = ℕ} line-places 0) (omega (arith, few)) in
    let laid-long : length c.lay_out.new.line ≡ (2 * (c.count-n.result + 3)) = omega (arith, c.lay_out.auto.line, line-long) in
    let inside : (2 * (c.count-n.result + 3)) ≤ length ((c.lay_out.new.line ++ drop ((2 * (c.count-n.result + 3))) (replicate {A = ℕ} line-places 0))) = omega (arith, length-append c.lay_out.new.line (drop ((2 * (c.count-n.result + 3))) (replicate {A = ℕ} line-places 0)), (laid-long)) in
    let all-long : length (take ((2 * (c.count-n.result + 3))) ((c.lay_out.new.line ++ drop ((2 * (c.count-n.result + 3))) (replicate {A = ℕ} line-places 0)))) ≡ (2 * (c.count-n.result + 3)) = length-take-le ((2 * (c.count-n.result + 3))) ((c.lay_out.new.line ++ drop ((2 * (c.count-n.result + 3))) (replicate {A = ℕ} line-places 0))) (inside) in
    sym (all-long)

pub slice_bounds-starts-end : goal.slice_bounds-starts-end
slice_bounds-starts-end c =
    let few : c.count-n.result ≤ most_into = omega (arith, c.count-n.ensures.0, into_few c.requires.1) in
    omega (arith, few)

pub slice_bounds-read_line-end-3 : goal.slice_bounds-read_line-end-3
slice_bounds-read_line-end-3 c =
    let few : c.count-n.result ≤ most_into = omega (arith, c.count-n.ensures.0, into_few c.requires.1) in
    let end-long : length (take ((c.count-n.result + 1)) (replicate {A = ℕ} places 0)) ≡ (c.count-n.result + 1) = length-take-le ((c.count-n.result + 1)) (replicate {A = ℕ} places 0) (omega (arith, few)) in
    sym (end-long)

pub read_line-requires : goal.read_line-requires
read_line-requires c =
    let few : c.count-n.result ≤ most_into = omega (arith, c.count-n.ensures.0, into_few c.requires.1) in
    let line-long : length (take ((2 * (c.count-n.result + 3))) (replicate {A = ℕ} line-places 0)) ≡ (2 * (c.count-n.result + 3)) = length-take-le ((2 * (c.count-n.result + 3))) (replicate {A = ℕ} line-places 0) (omega (arith, few)) in
    let laid-long : length c.lay_out.new.line ≡ (2 * (c.count-n.result + 3)) = omega (arith, c.lay_out.auto.line, line-long) in
    let line-is : take ((2 * (c.count-n.result + 3))) ((c.lay_out.new.line ++ drop ((2 * (c.count-n.result + 3))) (replicate {A = ℕ} line-places 0))) ≡ spaced (decomposition_into (drop c.args.row c.args.dicts.now.decompositions.now)) ++ kinds_of c.args.dicts.now.classes.now (spaced (decomposition_into (drop c.args.row c.args.dicts.now.decompositions.now))) = take_at c.lay_out.new.line (drop ((2 * (c.count-n.result + 3))) (replicate {A = ℕ} line-places 0)) ((2 * (c.count-n.result + 3))) (laid-long) ∙ c.lay_out.ensures in
    let entries : take ((c.count-n.result + 1)) (replicate {A = ℕ} places 0) ≡ replicate (size_in (take ((2 * (c.count-n.result + 3))) ((c.lay_out.new.line ++ drop ((2 * (c.count-n.result + 3))) (replicate {A = ℕ} line-places 0)))) + 1) 0 = take-replicate 0 ((c.count-n.result + 1)) places (omega (arith, few))
    ∙ ap (λ (n : ℕ). replicate {A = ℕ} (n + 1) 0) (c.count-n.ensures.0 ∙ sym (own-size c.args.dicts.now c.requires.0 c.args.row c.requires.1 (take ((2 * (c.count-n.result + 3))) ((c.lay_out.new.line ++ drop ((2 * (c.count-n.result + 3))) (replicate {A = ℕ} line-places 0)))) (line-is))) in (
      own_ready c.args.dicts.now c.requires.0 c.args.row c.requires.1 (take ((2 * (c.count-n.result + 3))) ((c.lay_out.new.line ++ drop ((2 * (c.count-n.result + 3))) (replicate {A = ℕ} line-places 0)))) (line-is) (take c.put_bytes-len.result c.put_bytes-len.new.bytes) c.args.slots.now c.args.room.now
          (take ((c.count-n.result + 1)) (replicate {A = ℕ} places 0)) c.put_bytes-len.ensures.0 (entries),
      c.requires.2,
    )

pub returns : goal.returns
returns c =
    let few : c.count-n.result ≤ most_into = omega (arith, c.count-n.ensures.0, into_few c.requires.1) in
    let line-long : length (take ((2 * (c.count-n.result + 3))) (replicate {A = ℕ} line-places 0)) ≡ (2 * (c.count-n.result + 3)) = length-take-le ((2 * (c.count-n.result + 3))) (replicate {A = ℕ} line-places 0) (omega (arith, few)) in
    let laid-long : length c.lay_out.new.line ≡ (2 * (c.count-n.result + 3)) = omega (arith, c.lay_out.auto.line, line-long) in
    let line-is : take ((2 * (c.count-n.result + 3))) ((c.lay_out.new.line ++ drop ((2 * (c.count-n.result + 3))) (replicate {A = ℕ} line-places 0))) ≡ spaced (decomposition_into (drop c.args.row c.args.dicts.now.decompositions.now)) ++ kinds_of c.args.dicts.now.classes.now (spaced (decomposition_into (drop c.args.row c.args.dicts.now.decompositions.now))) = take_at c.lay_out.new.line (drop ((2 * (c.count-n.result + 3))) (replicate {A = ℕ} line-places 0)) ((2 * (c.count-n.result + 3))) (laid-long) ∙ c.lay_out.ensures in
    let line = take ((2 * (c.count-n.result + 3))) ((c.lay_out.new.line ++ drop ((2 * (c.count-n.result + 3))) (replicate {A = ℕ} line-places 0))) in
    c.read_line.ensures (own c.args.dicts.now c.requires.0 c.args.row c.requires.1 line (line-is)) (own-told c.args.dicts.now c.requires.0 c.args.row c.requires.1 line (line-is)) (own_lined c.args.dicts.now c.requires.0 c.args.row c.requires.1 line (line-is))
