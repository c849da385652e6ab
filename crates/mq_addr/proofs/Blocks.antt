-- Of two blocks with an address in common, the longer prefix lies in the shorter.
use Rattle.std.proofs.Common.{◌≡◌, ℕ, ◌+◌, ◌-◌, ◌/◌, ◌^◌, ◌≤◌, ap, sym, ◌∙◌, refl, arith}
use Rattle.std.proofs.lemmas.Nat.{shr-shr}
use Rattle.mq_addr.specs.declared.addr.Addr.{Addr}
use Rattle.mq_addr.specs.declared.addr.Addr.TheVariants.{V4, V6}
use Rattle.mq_addr.specs.declared.prefix.Prefix.{Prefix}
use Rattle.mq_addr.specs.Block.{width, bits_of, SameVersion, free_bits, IsIn, Overlap}

-- numbers that agree without n bits agree without more
pub coarser : (x y n m : ℕ) → n ≤ m → x / 2 ^ n ≡ y / 2 ^ n → x / 2 ^ m ≡ y / 2 ^ m
coarser x y n m h e =
    let sum : n + (m - n) ≡ m = omega arith in
    let at : (z : ℕ) → z / 2 ^ n / 2 ^ (m - n) ≡ z / 2 ^ m = λ z. shr-shr z n (m - n) ∙ ap (λ k. z / 2 ^ k) sum in
    sym (at x) ∙ ap (λ z. z / 2 ^ (m - n)) e ∙ at y

same_version : (a b x : Addr) → SameVersion a x → SameVersion b x → SameVersion a b × (width a ≡ width b)
same_version (V4 a) (V4 b) (V4 x) h k = (tt, refl)
same_version (V4 a) (V4 b) (V6 x) h k = absurd h
same_version (V4 a) (V6 b) (V4 x) h k = absurd k
same_version (V4 a) (V6 b) (V6 x) h k = absurd h
same_version (V6 a) (V4 b) (V4 x) h k = absurd h
same_version (V6 a) (V4 b) (V6 x) h k = absurd k
same_version (V6 a) (V6 b) (V4 x) h k = absurd h
same_version (V6 a) (V6 b) (V6 x) h k = (tt, refl)

pub itself : (a : Addr) → SameVersion a a
itself (V4 a) = tt
itself (V6 a) = tt

pub swapped : (a b : Prefix) → Overlap a b → Overlap b a
swapped a b h = (h.0, h.2, h.1)

pub nested : (a b : Prefix) → a.length ≤ b.length → Overlap a b → IsIn a b.addr
nested a b shorter (x, h, k) =
    let v = same_version a.addr b.addr x h.version k.version in
    record {
      version = v.0;
      agrees = sym (coarser (bits_of x) (bits_of b.addr) (free_bits b) (free_bits a) (omega (arith, v.1)) k.agrees) ∙ h.agrees;
    }

pub holds_start : (a b : Prefix) → IsIn a b.addr → Overlap a b
holds_start a b h = (b.addr, h, record { version = itself b.addr; agrees = refl })
