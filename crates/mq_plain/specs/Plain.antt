-- Objects in memory that always tell what they hold: no call is to fail by its number, and no room can be used up.
use Rattle.std.specs.Prelude.{◌≡◌, [], None}
use Rattle.mq_mem.specs.Links.{Link}
use Rattle.mq_mem.specs.Ports.{Port, Ports}

-- it keeps nothing of what it takes
pub record IsPlainLink (l : Link) : Type 0 where
  pub fails : l.calls.fails ≡ []
  pub kept : l.kept ≡ None

-- it has no place among those that were bound
pub record IsPlainPort (p : Port) : Type 0 where
  pub fails : p.queue.calls.fails ≡ []
  pub room : p.queue.room ≡ None
  pub place : p.place ≡ None

-- each bind gives an empty port
pub record IsPlainPorts (p : Ports) : Type 0 where
  pub fails : p.calls.fails ≡ []
  pub stock : p.stock ≡ None
