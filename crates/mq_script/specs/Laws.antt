-- What holds of each generated packet.
use Rattle.std.specs.Prelude.{◌≡◌, ℕ, ◌+◌, [], ◌∷◌, Ok}
use Rattle.std.specs.Int.{w32, from_be_bytes}
use Rattle.mq_addr.specs.declared.addr.Addr.TheVariants.{V4}
use Rattle.mq_addr.specs.declared.packet.IpView.{IpView}
use Rattle.mq_addr.specs.Packet.{header_of}
use Rattle.mq_script.specs.Generated.{client_of, packet_of, payload_len, target_of}

-- what the header of a drawn packet says
abbrev pub view_of : ℕ → IpView
view_of r = record {
  version = 4;
  flow = record {
    source = V4 (from_be_bytes w32 (10 ∷ 0 ∷ 0 ∷ client_of r ∷ []));
    target = V4 (from_be_bytes w32 (target_of r));
    protocol = 17;
  };
  hop = 64;
  header = 20;
  length = 28 + payload_len r;
}

-- Its lengths and its checksum fit, whatever is drawn: it is taken.
abbrev pub ArePacketsTaken : Type 0
ArePacketsTaken = (r number : ℕ) → header_of (packet_of r number) ≡ Ok (view_of r)
