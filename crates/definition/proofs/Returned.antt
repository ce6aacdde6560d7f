-- Every call returns the whole output slice, zero past its length; after a refusal nothing but number and place.
use Rattle.std.specs.Prelude.{◌/◌, length}
use Rattle.std.proofs.Math.Option.{Option, none, some}
use Rattle.definition.specs.Limits.{slot_bytes}
use Rattle.definition.specs.Texts.{Text}
use Rattle.definition.specs.Tables.{Tables}
use Rattle.definition.specs.Edges.{State}
use Rattle.definition.specs.Decomposing.{lattice}
use Rattle.definition.specs.Listing.{shown}
use Rattle.definition.specs.Refusals.{Refusal}
use Rattle.definition.specs.Capacity.{overflow}
use Rattle.definition.specs.Call.{Inputs, tables, decompositions, characters, refusal, within_room, with_lattice, accepted, unless_refused, called}
use Rattle.definition.specs.Returned.{Returned, refused-returned, written-returned}

pub returned : (i : Inputs) → Returned i (called i)
unfolding called unless_refused accepted with_lattice within_room
returned i = by-refusal (refusal i)
  where
    by-room : (D : Tables) (t : Text) (st : State) (o : Option Refusal) → Returned i (within_room i D t st o)
    by-room D t st none = written-returned i (length st.0) (shown D t i.mode st)
    by-room D t st (some r) = refused-returned i r

    by-refusal : (o : Option Refusal) → Returned i (unless_refused i o)
    by-refusal none =
        let t = characters i in
        let D = tables i in
        let ds = decompositions i in
        by-room D t (lattice D ds t) (overflow D ds t (i.slots / slot_bytes) i.room (lattice D ds t).0)
    by-refusal (some r) = refused-returned i r
