-- `decomp::read_line`: where the lattice was built its path is spelled, of every world that the line stands for; else it is told what is too little.
use Rattle.std.specs.Prelude.{Ok, Err}
use Rattle.std.proofs.lemmas.Result.{err_from_is_err_and}
use mathlib.Core.List.{List, []}
use mathlib.Core.Path.{◌≡◌, refl, sym, ap, ◌∙◌, subst}
use Prim.Native.Nat.{ℕ, ◌+◌}
use native.Mathlib.Omega.{arith}
use lib.ListN.{length, take, replicate, length-replicate}
use Rattle.base.specs.ListLaws.{take-replicate}
use Rattle.definition.specs.Limits.{most_into}
use Rattle.words.specs.Given.{World, size_in, Told, Lined}
use Rattle.words.specs.declared.given.Dicts.{Dicts}
use Rattle.passes.specs.Reached.{nothing, Over, with_edges}
use Rattle.lattice.specs.Lattice.{Buildable}
use Rattle.decomp.specs.First.{first-over}
use Rattle.decomp.specs.Rows.{LineReady}
use Rattle.decomp.proofs.Rowing.{lying, line_read, line-lacks}
use Rattle.decomp.proofs.read_line.Goals as goal

-- an entry for each position of a row of the most characters, and for its end
abbrev places : ℕ
places = most_into + 1

-- as many of them as the line needs are all zeros
module _ (dicts : Dicts) {text line slots room starts : List ℕ} (pre : LineReady dicts text line slots room starts) where
  end_is : length starts ≡ size_in line + 1
  end_is = ap length pre.0.5 ∙ length-replicate {A = ℕ} (size_in line + 1) 0

  entries : take (length starts) (replicate {A = ℕ} places 0) ≡ replicate (size_in line + 1) 0
  entries = take-replicate 0 (length starts) places (omega (arith, end_is, pre.1)) ∙ ap (λ (n : ℕ). replicate {A = ℕ} n 0) end_is

  empty : (w : World) → Told w dicts.ready.now → Lined w line
      → Over (with_edges w []) dicts.ready.now line slots room (take (length starts) (replicate {A = ℕ} places 0)) nothing
  empty w told lined = first-over told lined slots room (take (length starts) (replicate {A = ℕ} places 0)) entries

pub build_lattice-requires : goal.build_lattice-requires
build_lattice-requires c =
    let a = c.args in
    subst (λ (l : List ℕ). Buildable a.dicts.now.rules.now a.dicts.now.ready.now a.dicts.now.vowels.now a.text.now a.line.now a.slots.now a.room.now l a.starts.now)
    (sym (entries a.dicts.now c.requires.0)) c.requires.0.0

pub spell-requires : goal.spell-requires
spell-requires c =
    let pre = c.requires.0 in
    let w = pre.0.3.world in
    let o = pre.0.3.over in
    let b = c.build_lattice.new in (
      c.requires.1,
      lying c.args.dicts.now pre.0.1 (with_edges w []) (empty c.args.dicts.now pre w o.told o.lent.text) b.slots b.room b.places
          (Ok c.in_ok-build_lattice.field-0) c.in_ok-build_lattice.ensures.built c.in_ok-build_lattice.field-0 refl b.starts c.in_ok-build_lattice.ensures.starts
          (omega (arith, c.build_lattice.auto.starts, end_is c.args.dicts.now pre)),
    )

pub returns-in_err-build_lattice : goal.returns-in_err-build_lattice
returns-in_err-build_lattice c =
    let q = err_from_is_err_and c.from_residual.result c.from_residual.ensures.1 in
    let f = c.in_err-build_lattice.field-0.0 in
    let b = c.build_lattice.new in
    λ w told lined. rw (q.1, q.2)
    (line-lacks c.args.dicts.now c.requires.0.0.1 (with_edges w []) (empty c.args.dicts.now c.requires.0 w told lined) b.slots b.room b.places
    (Err f) c.in_err-build_lattice.ensures.built c.args.beside c.args.bytes.now f refl)

pub returns : goal.returns
returns c =
    let b = c.build_lattice.new in
    λ w told lined.
    line_read c.args.dicts.now c.requires.0.0.1 (with_edges w []) (empty c.args.dicts.now c.requires.0 w told lined) b.slots b.room b.places
    (Ok c.in_ok-build_lattice.field-0) c.in_ok-build_lattice.ensures.built c.in_ok-build_lattice.field-0 refl b.starts c.in_ok-build_lattice.ensures.starts
    (omega (arith, c.build_lattice.auto.starts, end_is c.args.dicts.now c.requires.0))
    c.args.beside c.spell.new.bytes c.spell.result c.spell.ensures.1 c.spell.ensures.0
