-- Counts of what the calls of an object answered. A count that is at its type's end stays there.
use Rattle.std.specs.Prelude.{◌≡◌, ℕ, ◌+◌, ◌-◌, ◌^◌, ◌<◌, ◌≤◌, ◌⊎◌, min, max}

-- the last value of a count
abbrev pub last_count : ℕ
last_count = 2 ^ 64 - 1

-- the count after so many more
abbrev pub risen_by : ℕ → ℕ → ℕ
risen_by more count = max count (min (count + more) last_count)

-- the count after one more
abbrev pub risen : ℕ → ℕ
risen count = risen_by 1 count

-- A count that rose is higher, or stands at its type's end.
abbrev pub Rises : Type 0
Rises = (count : ℕ) → (count < risen count) ⊎ ((risen count ≡ count) × (last_count ≤ count))

-- the calls of a link that answered NotNow, and those that answered Failed
pub record LinkCounts : Type 0 where
  pub read_waits : ℕ
  pub write_waits : ℕ
  pub faults : ℕ

abbrev pub no_link_counts : LinkCounts
no_link_counts = record { read_waits = 0; write_waits = 0; faults = 0 }

-- the calls of a port or a network that answered NotNow, and those that answered Failed
pub record PortCounts : Type 0 where
  pub send_waits : ℕ
  pub receive_waits : ℕ
  pub faults : ℕ

abbrev pub no_port_counts : PortCounts
no_port_counts = record { send_waits = 0; receive_waits = 0; faults = 0 }
