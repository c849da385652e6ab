-- A block lies in another where no more bits follow its length and the other has its address.
use Rattle.std.proofs.Common.{◌≡◌, ◌≢◌, ℕ, ◌+◌, ◌*◌, ◌/◌, ◌^◌, ◌<◌, ◌≤◌, inl, inr, ap, sym, ◌∙◌, refl, arith}
use Rattle.std.proofs.lemmas.Nat.{shr_high, pow_pos}
use Rattle.std.proofs.lemmas.Bool.{cases_order}
use Rattle.std.proofs.Math.Pow.{pow-lt}
use Rattle.std.proofs.Math.Nat.{add-mul-div_right}
use Rattle.mq_addr.specs.declared.addr.Addr.{Addr}
use Rattle.mq_addr.specs.declared.addr.Addr.TheVariants.{V4, V6}
use Rattle.mq_addr.specs.declared.prefix.Prefix.{Prefix}
use Rattle.mq_addr.specs.Block.{bits_of, SameVersion, free_bits, first_bits, IsIn}
use Rattle.mq_addr.specs.Cover.{IsWithin, IsWithinByBits}
use Rattle.mq_addr.proofs.Blocks.{coarser, itself}
use Rattle.mq_addr.proofs.Numbers.{joined}

-- an address of this version, with these bits
with_bits : Addr → ℕ → Addr
with_bits (V4 bits) n = V4 n
with_bits (V6 bits) n = V6 n

with_bits_is : (a : Addr) (n : ℕ) → SameVersion a (with_bits a n) × (bits_of (with_bits a n) ≡ n)
unfolding with_bits
with_bits_is (V4 bits) n = (tt, refl)
with_bits_is (V6 bits) n = (tt, refl)

pub first_in : (part whole : Prefix) → IsWithin part whole → IsIn whole part.addr
first_in part whole h = h part.addr (record { version = itself part.addr; agrees = refl })

pub within : (part whole : Prefix) → free_bits part ≤ free_bits whole → IsIn whole part.addr → IsWithin part whole
within part whole less first a h = record {
  version = joined whole.addr part.addr a first.version h.version;
  agrees = coarser (bits_of a) (bits_of part.addr) (free_bits part) (free_bits whole) less h.agrees ∙ first.agrees;
}

-- q * 2 ^ m and the number 2 ^ n above it agree without m bits, and not without n
apart : (q n m : ℕ) → n < m → ((q * 2 ^ m + 0) / 2 ^ m ≡ q) × ((q * 2 ^ m + 2 ^ n) / 2 ^ m ≡ q) × ((q * 2 ^ m + 0) / 2 ^ n ≢ (q * 2 ^ m + 2 ^ n) / 2 ^ n)
apart q n m less = (
  shr_high q m 0 (pow_pos m),
  shr_high q m (2 ^ n) (pow-lt less),
  λ same.
      let at : ℕ → ℕ = λ k. (q * 2 ^ m + k) / 2 ^ n in
      let once : 2 ^ n ≡ 1 * 2 ^ n = omega arith in
      let bare : q * 2 ^ m ≡ q * 2 ^ m + 0 = omega arith in
      let up : at (2 ^ n) ≡ at 0 + 1 = ap at once ∙ add-mul-div_right (q * 2 ^ m) 1 (pow_pos n) ∙ ap (λ k. k / 2 ^ n + 1) bare in
      let level : at 0 ≡ at (2 ^ n) = same in
      omega (arith, up, level),
)

-- the address of the block with these bits
in_block : (block : Prefix) (n : ℕ) → n / 2 ^ free_bits block ≡ first_bits (free_bits block) block.addr → IsIn block (with_bits block.addr n)
in_block block n same = let is = with_bits_is block.addr n in record { version = is.0; agrees = ap (λ k. k / 2 ^ free_bits block) is.1 ∙ same }

-- what the bits of an address in a block agree with
agreeing : (block : Prefix) (a : Addr) (n : ℕ) → IsIn block (with_bits a n) → n / 2 ^ free_bits block ≡ first_bits (free_bits block) block.addr
agreeing block a n h = ap (λ k. k / 2 ^ free_bits block) (sym (with_bits_is a n).1) ∙ h.agrees

longer : (part whole : Prefix) → IsWithin part whole → free_bits whole < free_bits part → ⊥
longer part whole h less =
    let q = first_bits (free_bits part) part.addr in
    let at = apart q (free_bits whole) (free_bits part) less in
    let low = agreeing whole part.addr _ (h _ (in_block part (q * 2 ^ free_bits part + 0) at.0)) in
    let high = agreeing whole part.addr _ (h _ (in_block part (q * 2 ^ free_bits part + 2 ^ free_bits whole) at.1)) in
    at.2 (low ∙ sym high)

-- a block that holds another fixes no more bits
pub no_longer : (part whole : Prefix) → IsWithin part whole → free_bits part ≤ free_bits whole
no_longer part whole h =
    elim (cases_order (free_bits part) (free_bits whole)) [
      | inl same ↦ omega arith
      | inr (inl less) ↦ omega arith
      | inr (inr more) ↦ absurd (longer part whole h more)
    ]

pub by_bits : IsWithinByBits
by_bits part whole = (λ h. (no_longer part whole h, first_in part whole h), λ h. within part whole h.0 h.1)
