-- What is lent to be written is lent still after a step, and is as long as it was.
use Rattle.std.specs.Prelude.{◌≡◌, length}
use Rattle.jettyfig.specs.declared.Memory.{Memory}

pub record Lent (old new : Memory) : Type 0 where
  pub slots : new.slots.ghost_name ≡ old.slots.ghost_name
  pub room : new.room.ghost_name ≡ old.room.ghost_name
  pub out : new.out.ghost_name ≡ old.out.ghost_name
  pub slots_long : length new.slots.now ≡ length old.slots.now
  pub room_long : length new.room.now ≡ length old.room.now
  pub out_long : length new.out.now ≡ length old.out.now
