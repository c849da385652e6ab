-- A block as a range.
use Rattle.std.proofs.Common.{◌≡◌, ℕ, ◌+◌, ◌*◌, ◌/◌, ◌^◌, ◌<◌, ◌≤◌, ◌↔◌, refl, subst, arith}
use Rattle.std.proofs.lemmas.Nat.{pow_pos, div_below, le-div}
use Rattle.std.proofs.Math.Nat.{div-mul-le_self}
use Rattle.mq_addr.specs.declared.addr.Addr.{Addr}
use Rattle.mq_addr.specs.declared.prefix.Prefix.{Prefix}
use Rattle.mq_addr.specs.declared.range.Range.{Range}
use Rattle.mq_addr.specs.Block.{bits_of, SameVersion, free_bits, IsIn}
use Rattle.mq_addr.specs.Ranges.{InRange, IsRange}
use Rattle.mq_addr.specs.Aligned.{after}
use Rattle.mq_addr.proofs.Numbers.{below_after, turned, joined}

between : (q s f : ℕ) → q * 2 ^ f ≤ s → s < (q + 1) * 2 ^ f → s / 2 ^ f ≡ q
between q s f low high =
    let lower : q ≤ s / 2 ^ f = le-div q s (2 ^ f) (pow_pos f) low in
    let upper : s / 2 ^ f < q + 1 = div_below s (2 ^ f) (q + 1) (pow_pos f) high in
    omega arith

pub same_addresses : (block : Prefix) (r : Range) → SameVersion block.addr r.first → bits_of r.first ≡ bits_of block.addr / 2 ^ free_bits block * 2 ^ free_bits block
    → bits_of r.last + 1 ≡ after (bits_of block.addr) (free_bits block) → (a : Addr) → InRange r a ↔ IsIn block a
same_addresses block r version first last a = (
  λ h. record {
    version = joined block.addr r.first a version h.version;
    agrees =
        let low : bits_of block.addr / 2 ^ free_bits block * 2 ^ free_bits block ≤ bits_of a = omega (arith, first, h.low) in
        let high : bits_of a < after (bits_of block.addr) (free_bits block) = omega (arith, last, h.high) in
        between (bits_of block.addr / 2 ^ free_bits block) (bits_of a) (free_bits block) low high;
  },
  λ h.
      let under = div-mul-le_self (bits_of a) (2 ^ free_bits block) in
      let from : bits_of block.addr / 2 ^ free_bits block * 2 ^ free_bits block ≤ bits_of a = subst (λ q. q * 2 ^ free_bits block ≤ bits_of a) h.agrees under in
      let to = below_after (bits_of a) (bits_of block.addr) (free_bits block) h.agrees in
      let low : bits_of r.first ≤ bits_of a = omega (arith, first, from) in
      let high : bits_of a ≤ bits_of r.last = omega (arith, last, to) in
      record {
        version = joined r.first block.addr a (turned block.addr r.first version) h.version;
        low = low;
        high = high;
      },
)

pub is_range : (block : Prefix) (r : Range) → SameVersion block.addr r.first → SameVersion block.addr r.last → bits_of r.first ≡ bits_of block.addr / 2 ^ free_bits block * 2 ^ free_bits block
    → bits_of r.last + 1 ≡ after (bits_of block.addr) (free_bits block) → IsRange r
is_range block r version other first last =
    let under = div-mul-le_self (bits_of block.addr) (2 ^ free_bits block) in
    let to = below_after (bits_of block.addr) (bits_of block.addr) (free_bits block) refl in
    let up : bits_of r.first ≤ bits_of r.last = omega (arith, first, last, under, to) in
    record { version = joined r.first block.addr r.last (turned block.addr r.first version) other; rising = up }
