-- The rooms of a worker.
use Rattle.std.specs.Prelude.{◌≡◌, length}
use Rattle.mq_step.specs.declared.rooms.Rooms.{Rooms}

-- the bytes of one read have place there, and those of a datagram
pub record HasRooms (rooms : Rooms) : Type 0 where
  pub bytes : length rooms.bytes.items ≡ 16384
  pub datagram : length rooms.datagrams.room.items ≡ 65535
