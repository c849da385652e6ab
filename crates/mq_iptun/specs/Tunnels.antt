-- What a tunnel for IP packets stands for, and what an item does to it.
use Rattle.std.specs.Prelude.{◌≡◌, ℕ, ◌+◌, if◌then◌else◌, Option, Some, None}
use Rattle.mq_addr.specs.declared.kind.Kind.TheVariants as kind
use Rattle.mq_capsule.specs.declared.item.Item.{Item}
use Rattle.mq_machine.specs.Reading.{item_acts, is_payload}
use Rattle.mq_iptun.specs.declared.act.IpAct.{IpAct}
use Rattle.mq_iptun.specs.Acts.{Does}

-- its number, how many bytes a packet has at most, and the number of its next payload; none where it is spent
pub record IpState : Type 0 where
  pub tunnel : ℕ
  pub mtu : ℕ
  pub next : Option ℕ

abbrev pub IsWorking : IpState → Type 0
IsWorking t = (n : ℕ) × (t.next ≡ Some n)

abbrev pub IsSpent : IpState → Type 0
IsSpent t = t.next ≡ None

-- after memory was refused
abbrev pub spent : IpState → IpState
spent t = record t { next = None }

-- It wasn't spent, and does what the item asks for as its next payload. Every payload counts.
pub record Takes (old : IpState) (i : Item) (act : IpAct) (new : IpState) : Type 0 where
  pub n : ℕ
  pub working : old.next ≡ Some n
  pub does : Does old.tunnel act (item_acts kind.Ip old.mtu n i)
  pub counts : new ≡ record old { next = Some (n + (if is_payload i then 1 else 0)) }
