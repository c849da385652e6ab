-- What is printed is read again.
use Rattle.std.proofs.Common.{◌≡◌, ℕ, zero, suc, ◌+◌, ◌*◌, ◌/◌, ◌%◌, ◌^◌, ◌<◌, List, [], ◌∷◌, get_or, ap, sym, ◌∙◌, refl, arith, inr}
use Rattle.std.proofs.lemmas.Nat.{mod-pow-add, from_be_bytes-to_be_bytes_4}
use Rattle.std.specs.Int.{w32, w128, to_be_bytes, from_be_bytes}
use Rattle.std.specs.declared.net.ipv4_addr.Ipv4Addr.{Ipv4Addr}
use Rattle.std.specs.declared.net.ipv6_addr.Ipv6Addr.{Ipv6Addr}
use Rattle.std.specs.Net.Addr.{ipv4_bits, ipv6_bits, segments_of, octets_of}
use Rattle.std.proofs.NetLemmas.Texts.{IsDotted-ipv4_text, IsColonHex-hex_groups_text, AllSegments}
use Rattle.mq_addr.specs.declared.addr.Addr.{Addr}
use Rattle.mq_addr.specs.declared.addr.Addr.TheVariants.{V4, V6}
use Rattle.mq_addr.specs.declared.prefix.Prefix.{Prefix}
use Rattle.mq_addr.specs.Addr.{IsAddrText}
use Rattle.mq_addr.specs.Block.{IsPrefix}
use Rattle.mq_addr.specs.Prefixes.{IsPrefixText}
use Rattle.mq_addr.specs.Printed.{addr_text_of, prefix_text_of, Fits}

-- sixteen bytes and what the lower ones make
sum_of_bytes : (b0 b1 b2 b3 b4 b5 b6 b7 b8 b9 b10 b11 b12 b13 b14 b15 r1 r2 r3 r4 r5 r6 r7 r8 r9 r10 r11 r12 r13 r14 r15 n : ℕ)
    → r1 ≡ b0
    → r2 ≡ b1 * 256 ^ 1 + r1
    → r3 ≡ b2 * 256 ^ 2 + r2
    → r4 ≡ b3 * 256 ^ 3 + r3
    → r5 ≡ b4 * 256 ^ 4 + r4
    → r6 ≡ b5 * 256 ^ 5 + r5
    → r7 ≡ b6 * 256 ^ 6 + r6
    → r8 ≡ b7 * 256 ^ 7 + r7
    → r9 ≡ b8 * 256 ^ 8 + r8
    → r10 ≡ b9 * 256 ^ 9 + r9
    → r11 ≡ b10 * 256 ^ 10 + r10
    → r12 ≡ b11 * 256 ^ 11 + r11
    → r13 ≡ b12 * 256 ^ 12 + r12
    → r14 ≡ b13 * 256 ^ 13 + r13
    → r15 ≡ b14 * 256 ^ 14 + r14
    → n ≡ b15 * 256 ^ 15 + r15
    → b15 * 256 ^ 15 + b14 * 256 ^ 14 + b13 * 256 ^ 13 + b12 * 256 ^ 12 + b11 * 256 ^ 11 + b10 * 256 ^ 10 + b9 * 256 ^ 9 + b8 * 256 ^ 8 + b7 * 256 ^ 7 + b6 * 256 ^ 6 + b5 * 256 ^ 5 + b4 * 256 ^ 4 + b3 * 256 ^ 3 + b2 * 256 ^ 2 + b1 * 256 ^ 1 + b0 ≡ n
sum_of_bytes b0 b1 b2 b3 b4 b5 b6 b7 b8 b9 b10 b11 b12 b13 b14 b15 r1 r2 r3 r4 r5 r6 r7 r8 r9 r10 r11 r12 r13 r14 r15 n h0 h1 h2 h3 h4 h5 h6 h7 h8 h9 h10 h11 h12 h13 h14 h15 = omega arith

value_of_bytes : (n : ℕ) → n < 2 ^ 128 → from_be_bytes w128 (to_be_bytes w128 n) ≡ n
value_of_bytes n small =
    let whole : n % 2 ^ 128 ≡ n = omega arith in
    sum_of_bytes
    (n % 256) (n / 256 ^ 1 % 256) (n / 256 ^ 2 % 256) (n / 256 ^ 3 % 256) (n / 256 ^ 4 % 256) (n / 256 ^ 5 % 256) (n / 256 ^ 6 % 256) (n / 256 ^ 7 % 256) (n / 256 ^ 8 % 256) (n / 256 ^ 9 % 256) (n / 256 ^ 10 % 256) (n / 256 ^ 11 % 256) (n / 256 ^ 12 % 256) (n / 256 ^ 13 % 256) (n / 256 ^ 14 % 256) (n / 256 ^ 15 % 256)
    (n % 256 ^ 1) (n % 256 ^ 2) (n % 256 ^ 3) (n % 256 ^ 4) (n % 256 ^ 5) (n % 256 ^ 6) (n % 256 ^ 7) (n % 256 ^ 8) (n % 256 ^ 9) (n % 256 ^ 10) (n % 256 ^ 11) (n % 256 ^ 12) (n % 256 ^ 13) (n % 256 ^ 14) (n % 256 ^ 15) n
    refl
    (mod-pow-add n 8 8)
    (mod-pow-add n 8 16)
    (mod-pow-add n 8 24)
    (mod-pow-add n 8 32)
    (mod-pow-add n 8 40)
    (mod-pow-add n 8 48)
    (mod-pow-add n 8 56)
    (mod-pow-add n 8 64)
    (mod-pow-add n 8 72)
    (mod-pow-add n 8 80)
    (mod-pow-add n 8 88)
    (mod-pow-add n 8 96)
    (mod-pow-add n 8 104)
    (mod-pow-add n 8 112)
    (sym whole ∙ mod-pow-add n 8 120)

-- bytes that come in pairs
abbrev Pairs : List ℕ → Type 0
Pairs [] = Unit {0}
Pairs (a ∷ []) = ⊥
Pairs (a ∷ b ∷ bytes) = (a < 256) × (b < 256) × Pairs bytes

octets-segments : (bytes : List ℕ) → Pairs bytes → octets_of (segments_of bytes) ≡ bytes
octets-segments [] h = refl
octets-segments (a ∷ []) h = absurd h
octets-segments (a ∷ b ∷ bytes) h =
    let high : (a * 256 + b) / 256 ≡ a = omega arith in
    let low : (a * 256 + b) % 256 ≡ b = omega arith in
    let rest = octets-segments bytes h.2 in
    rw (high, low, rest)

segments_small : (bytes : List ℕ) → Pairs bytes → AllSegments (segments_of bytes)
segments_small [] h k = omega arith
segments_small (a ∷ []) h k = absurd h
segments_small (a ∷ b ∷ bytes) h k =
    let later = segments_small bytes h.2 in
    elim k as (λ j. get_or ((a * 256 + b) ∷ segments_of bytes) j 0 < 2 ^ 16) [ zero ↦ omega arith | suc j ↦ later j ]

sixteen : (n : ℕ) → Pairs (to_be_bytes w128 n)
sixteen n = (omega arith, omega arith, (omega arith, omega arith, (omega arith, omega arith, (omega arith, omega arith, (omega arith, omega arith, (omega arith, omega arith, (omega arith, omega arith, (omega arith, omega arith, tt))))))))

four : (n k : ℕ) → get_or (to_be_bytes w32 n) k 0 < 2 ^ 8
four n k = elim k as (λ j. get_or (to_be_bytes w32 n) j 0 < 2 ^ 8) [
  | zero ↦ omega arith
  | suc j ↦ elim j as (λ i. get_or (to_be_bytes w32 n) (suc i) 0 < 2 ^ 8) [
    | zero ↦ omega arith
    | suc i ↦ elim i as (λ h. get_or (to_be_bytes w32 n) (suc (suc h)) 0 < 2 ^ 8) [
      | zero ↦ omega arith
      | suc h ↦ elim h as (λ g. get_or (to_be_bytes w32 n) (suc (suc (suc g))) 0 < 2 ^ 8) [ zero ↦ omega arith | suc g ↦ omega arith ]
    ]
  ]
]

pub addr_again : (a : Addr) → Fits a → IsAddrText (addr_text_of a) a
unfolding IsAddrText addr_text_of ipv4_bits ipv6_bits
addr_again (V4 bits) small =
    let ip : Ipv4Addr = record { octets = to_be_bytes w32 bits } in
    (ip, IsDotted-ipv4_text (to_be_bytes w32 bits) refl (four bits), sym (from_be_bytes-to_be_bytes_4 bits small))
addr_again (V6 bits) small =
    let ip : Ipv6Addr = record { segments = segments_of (to_be_bytes w128 bits) } in
    let pairs = sixteen bits in (
      ip,
      IsColonHex-hex_groups_text (segments_of (to_be_bytes w128 bits)) refl (segments_small (to_be_bytes w128 bits) pairs),
      sym (ap (from_be_bytes w128) (octets-segments (to_be_bytes w128 bits) pairs) ∙ value_of_bytes bits small),
    )

pub prefix_again : (block : Prefix) → Fits block.addr → IsPrefix block → IsPrefixText (prefix_text_of block) block
unfolding prefix_text_of
prefix_again block small valid = (
  inr (record {
    front = addr_text_of block.addr;
    digits = _;
    is = refl;
    addr = addr_again block.addr small;
    length = refl;
    fits = valid.fits;
  }),
  valid.zeros,
)
