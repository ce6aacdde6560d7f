-- `words::look_up`: what the search tells of the part of the line that is the span.
use mathlib.Core.Path.{◌≡◌, refl, ap, ◌∙◌}
use Prim.Native.Nat.{◌+◌, ◌-◌}
use native.Mathlib.Omega.{arith}
use lib.ListN.{take, drop}
use Rattle.definition.specs.RuleRows.{rules_of}
use Rattle.rule_table.specs.Seek.{first_at, equal_rows}
use Rattle.rule_table.specs.Longer.{has_longer}
use Rattle.words.proofs.look_up.Goals as goal

pub returns : goal.returns
returns c =
    let k = c in
    let a = k.args in
    let f = c.look_up.ensures in
    let s = a.span.from in
    let e = a.span.to in
    let line = a.line.now in
    let z : e + 1 - (s + 1) ≡ e - s = omega arith in (
      record {
        forward = k.args.span.forward;
        inside = k.requires;
        first = f.first ∙ ap (λ n. first_at a.dicts.now.rules.now (take n (drop (s + 1) line))) z;
        count = f.count ∙ ap (λ n. equal_rows a.dicts.now.rules.now (take n (drop (s + 1) line))) z;
        more = f.more ∙ ap (λ n. has_longer (take n (drop (s + 1) line)) (rules_of a.dicts.now.rules.now)) z;
      },
      refl,
    )
