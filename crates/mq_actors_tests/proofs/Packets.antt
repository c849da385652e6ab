-- Well-formed packets, for the tests.
use Rattle.std.proofs.Common.{◌≡◌, ℕ, ◌≤◌, List, [], ◌∷◌, ◌++◌, length, IsSome, Result, Err, not, ◌==◌, nat_lt, if◌then◌else◌, sym, refl, ap, ◌∙◌, subst, length-append, arith}
use Rattle.mq_addr.specs.declared.packet.HeaderFault.{HeaderFault}
use Rattle.mq_addr.specs.declared.packet.HeaderFault.TheVariants.{Short, Version, Length}
use Rattle.mq_addr.specs.declared.packet.IpView.{IpView}
use Rattle.mq_addr.specs.Packet.{header_of, header4_of, header6_of, taken6, view6_of, version_of, walk, is_nowhere, is_extension}
use Rattle.mq_talk.specs.Packets.{flow_of, flow_in}

-- an IPv6 header with a payload of high * 256 + low bytes
abbrev pub header6 : ℕ → ℕ → List ℕ
header6 high low = 96 ∷ 0 ∷ 0 ∷ 0 ∷ high ∷ low ∷ 59 ∷ 64 ∷ 32 ∷ 1 ∷ 13 ∷ 184 ∷ 0 ∷ 0 ∷ 0 ∷ 0 ∷ 0 ∷ 0 ∷ 0 ∷ 0 ∷ 0 ∷ 0 ∷ 0 ∷ 1 ∷ 32 ∷ 1 ∷ 13 ∷ 184 ∷ 0 ∷ 0 ∷ 0 ∷ 0 ∷ 0 ∷ 0 ∷ 0 ∷ 0 ∷ 0 ∷ 0 ∷ 0 ∷ 2 ∷ []

short_is : (length (header6 0 0) ≤ 65535) × IsSome (flow_of (header6 0 0))
unfolding header_of header6_of taken6 view6_of walk is_nowhere is_extension
short_is = (omega arith, refl)

pub short_packet_is : (packet : List ℕ) → packet ≡ header6 0 0 → (length packet ≤ 65535) × IsSome (flow_of packet)
short_packet_is packet e = let P : List ℕ → Type 0 = λ l. (length l ≤ 65535) × IsSome (flow_of l) in subst P (sym e) short_is

long_taken : (payload : List ℕ) → IsSome (flow_in (taken6 (header6 255 215 ++ payload) (view6_of (header6 255 215 ++ payload))))
unfolding taken6 view6_of walk is_nowhere is_extension
long_taken payload = refl

long_size : (payload : List ℕ) → 65535 ≡ (view6_of (header6 255 215 ++ payload)).length
unfolding view6_of
long_size payload = refl

long_six : (payload : List ℕ) → length (header6 255 215 ++ payload) ≡ 65535 → header6_of (header6 255 215 ++ payload) ≡ taken6 (header6 255 215 ++ payload) (view6_of (header6 255 215 ++ payload))
unfolding header6_of
long_six payload e =
    let p : List ℕ = header6 255 215 ++ payload in
    let after : Result IpView HeaderFault = taken6 p (view6_of p) in
    ap (λ (n : ℕ). if nat_lt n 40 then Err Short else (if not ((view6_of p).length == n) then Err Length else after)) e
    ∙ ap (λ (n : ℕ). if not (n == 65535) then Err Length else after) (sym (long_size payload))

long_first : (payload : List ℕ) → length (header6 255 215 ++ payload) ≡ 65535 → header_of (header6 255 215 ++ payload) ≡ header6_of (header6 255 215 ++ payload)
unfolding header_of
long_first payload e =
    let p : List ℕ = header6 255 215 ++ payload in
    ap (λ (n : ℕ). if n == 0 then Err Short else (if version_of p == 4 then header4_of p else (if version_of p == 6 then header6_of p else Err Version))) e

pub long_packet_is : (packet payload : List ℕ) → packet ≡ header6 255 215 ++ payload → length payload ≡ 65495 → (length packet ≤ 65535) × IsSome (flow_of packet)
long_packet_is packet payload e size =
    let P : List ℕ → Type 0 = λ l. (length l ≤ 65535) × IsSome (flow_of l) in
    let Q : Result IpView HeaderFault → Type 0 = λ r. IsSome (flow_in r) in
    let all : length (header6 255 215 ++ payload) ≡ 65535 = omega (arith, length-append (header6 255 215) payload, size) in
    subst P (sym e) (omega (arith, all), subst Q (sym (long_first payload all ∙ long_six payload all)) (long_taken payload))
