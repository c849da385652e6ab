-- A packet that goes on by one hop (RFC 791, section 3.1, Time to Live and Header Checksum; RFC 8200, section 3, Hop Limit).
use Rattle.std.specs.Prelude.{◌≡◌, ℕ, ◌-◌, ◌/◌, ◌%◌, ◌<◌, List, take, set, slice_index, ◌==◌, if◌then◌else◌, Ok}
use Rattle.std.specs.List.{All}
use Rattle.mq_addr.specs.declared.packet.IpView.{IpView}
use Rattle.mq_addr.specs.Packet.{version_of, ones_sum, header4_len, header_of}

-- the byte at a place is one less
abbrev pub lowered : ℕ → List ℕ → List ℕ
lowered at p = set p at (slice_index p at - 1)

-- the bytes of the checksum are these
abbrev pub with_checksum : ℕ → List ℕ → List ℕ
with_checksum sum p = set (set p 10 (sum / 256)) 11 (sum % 256)

-- the checksum of a header of so many bytes whose own checksum is zero: the ones' complement of the sum of its words (RFC 1071,
-- section 1)
abbrev pub checksum_of : ℕ → List ℕ → ℕ
checksum_of len blank = 65535 - ones_sum (take len blank)

-- the checksum is computed anew from the whole header
unfoldable pub summed : ℕ → List ℕ → List ℕ
summed len p = with_checksum (checksum_of len (with_checksum 0 p)) (with_checksum 0 p)

-- The hop limit is one less, and an IPv4 header has its checksum. All other bytes are as they were.
unfoldable pub onward_of : List ℕ → List ℕ
onward_of p = if version_of p == 4 then summed (header4_len p) (lowered 8 p) else lowered 7 p

-- the view, but for its hop limit
abbrev pub one_hop_less : IpView → IpView
one_hop_less view = record { version = view.version; flow = view.flow; hop = view.hop - 1; header = view.header; length = view.length }

-- A packet that is taken is taken again behind the next hop, with the same view but for its hop limit.
abbrev pub IsTakenOnward : Type 0
IsTakenOnward = (p : List ℕ) (view : IpView) → All (λ b. b < 256) p → header_of p ≡ Ok view → 1 < view.hop
    → header_of (onward_of p) ≡ Ok (one_hop_less view)
