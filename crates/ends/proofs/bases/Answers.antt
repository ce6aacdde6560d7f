-- `ends::bases`: each return is one case of the two patterns, as positions.
use Prim.Native.Nat.{◌-◌}
use mathlib.Core.Path.{sym, ◌∙◌}
use native.Mathlib.Omega.{arith}
use Rattle.ends.proofs.Cases.{empty, other, with_y, after-consonants, none_before}
use Rattle.std.proofs.Common.{rules, tests, ◌≡◌, eqb}
use Rattle.definition.specs.Texts.{consonants}
use Rattle.rom.specs.Sets.{member, consonants_set, in_consonants}
use Rattle.ends.proofs.bases.Goals as goal
use Rattle.ends.proofs.bases.Goals.{then-is_inherent+else-from-to+else-from-at, else-is_inherent}

pub returns-then-end-eq0 : goal.returns-then-end-eq0
returns-then-end-eq0 c =
    let a = c.args in
    let t = c.stem-end in
    empty a.ao a.s.now a.one t.result t.ensures.0 (omega arith) c.unmatched.result c.unmatched.ensures

pub returns-then-from-to : goal.returns-then-from-to
returns-then-from-to c =
    let a = c.args in
    let t = c.stem-end in
    let v = c.byte-v in
    let k = c.run_from-to in
    let y = c.base_with_y_from-from in
    with_y a.ao a.s.now a.one t.result t.ensures.0 (t.result - 1) (omega arith) v.result v.ensures.0
    (sym c.is_inherent.ensures ∙ c.if-is_inherent.true)
    k.result (k.ensures.run (eqb v.result) (λ x b l e. search (rules, tests))) y.result y.ensures.0 (omega arith) (omega arith) (omega arith) _ (omega arith)

pub returns-then-from-at : goal.returns-then-from-at
returns-then-from-at c =
    let a = c.args in
    let t = c.stem-end in
    let d = c in
    let v = d.byte-v in
    let k = d.run_from-to in
    let y = d.base_with_y_from-from in
    let f = c.run_from-from in
    after-consonants a.ao a.s.now a.one t.result t.ensures.0 (t.result - 1) (omega arith) v.result v.ensures.0
    (sym d.is_inherent.ensures ∙ d.if-is_inherent.true)
    k.result (k.ensures.run (eqb v.result) (λ x b l e. search (rules, tests))) y.result y.ensures.0 (omega arith)
    f.result (f.ensures.run consonants (λ x b l e. let z : b ≡ member consonants_set x = search rules in z ∙ in_consonants x)) (omega arith) (omega arith) c.kept.result c.kept.ensures.0 (omega arith)

pub returns : goal.returns
returns c =
    let a = c.args in
    let t = c.stem-end in
    let v = c.byte-v in
    let u = c.unmatched-2 in
    elim c.if-is_inherent.branch [
      | then-is_inherent+else-from-to+else-from-at w ↦
          let k = w.run_from-to in
          let y = w.base_with_y_from-from in
          let f = w.run_from-from in
          none_before a.ao a.s.now a.one t.result t.ensures.0 (t.result - 1) (omega arith) v.result v.ensures.0
          (sym c.is_inherent.ensures ∙ w.if-is_inherent.true)
          k.result (k.ensures.run (eqb v.result) (λ x b l e. search (rules, tests))) y.result y.ensures.0 (omega arith)
          f.result (f.ensures.run consonants (λ x b l e. let z : b ≡ member consonants_set x = search rules in z ∙ in_consonants x))
          (omega arith) u.result u.ensures
      | else-is_inherent w ↦
          other a.ao a.s.now a.one t.result t.ensures.0 (t.result - 1) (omega arith) v.result v.ensures.0
          (sym c.is_inherent.ensures ∙ w.if-is_inherent.false) u.result u.ensures
    ]
