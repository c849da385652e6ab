-- Where the target of a request leads, with its name looked up (RFC 9298, section 2; RFC 9484, section 3).
use Rattle.std.specs.Prelude.{Option, Some, None}
use Rattle.std.specs.Option.{option_map}
use Rattle.std.specs.FinMap as map
use Rattle.mq_addr.specs.declared.addr.Addr.{Addr}
use Rattle.mq_addr.specs.declared.prefix.Prefix.{Prefix}
use Rattle.mq_addr.specs.Block.{alone}
use Rattle.mq_talk.specs.declared.goal.Goal.{Goal}
use Rattle.mq_talk.specs.declared.goal.Goal.TheVariants as goal
use Rattle.mq_target.specs.declared.target.Host.{Host}
use Rattle.mq_target.specs.declared.target.Host.TheVariants as host
use Rattle.mq_target.specs.declared.target.Area.{Area}
use Rattle.mq_target.specs.declared.target.Area.TheVariants as area
use Rattle.mq_target.specs.declared.target.Target.{Target}
use Rattle.mq_target.specs.declared.target.Target.TheVariants as target
use Rattle.mq_policy.specs.Names.{NameTable}

-- an address is itself, and a name is what the table says
abbrev pub addr_of : NameTable → Host → Option Addr
addr_of names (host.Address a) = Some a
addr_of names (host.Name name) = map.get names name

-- all addresses are no block
abbrev pub area_of : NameTable → Area → Option (Option Prefix)
area_of names area.All = Some None
area_of names (area.Block block) = Some (Some block)
area_of names (area.Name name) = option_map (λ a. Some (alone a)) (map.get names name)

-- where the target leads, or None where its name isn't in the table
abbrev pub goal_of : NameTable → Target → Option Goal
goal_of names (target.Udp host port) = option_map (λ a. goal.Udp a port) (addr_of names host)
goal_of names (target.Ip area protocol) = option_map (λ a. goal.Ip a protocol) (area_of names area)
