-- One step of the walk over extension headers.
use Rattle.std.proofs.Common.{◌≡◌, ℕ, zero, suc, ◌<◌, true, false, List, drop, Ok, Err, arith}
use Rattle.std.proofs.lemmas.Bool.{cond-true, cond-false, eq-eqb, ne_eqb}
use Rattle.mq_addr.specs.declared.packet.IpView.{IpView}
use Rattle.mq_addr.specs.declared.packet.HeaderFault.TheVariants.{Extensions}
use Rattle.mq_addr.specs.Packet.{extension_len, is_cut, is_extension, past_first, walk}

pub done : (n : ℕ) (view : IpView) (bytes : List ℕ) → is_extension view.flow.protocol ≡ false → walk n view bytes ≡ Ok view
unfolding walk
done zero view bytes e = rw e
done (suc n) view bytes e = rw e

pub full : (n : ℕ) (view : IpView) (bytes : List ℕ) → n ≡ 0 → is_extension view.flow.protocol ≡ true → walk n view bytes ≡ Err Extensions
unfolding walk
full zero view bytes z e = rw e
full (suc n) view bytes z e = absurd (omega (arith, z))

pub cut : (n : ℕ) (view : IpView) (bytes : List ℕ) → 0 < n → is_extension view.flow.protocol ≡ true → is_cut view.flow.protocol bytes ≡ true → walk n view bytes ≡ Err Extensions
unfolding walk
cut zero view bytes p e k = absurd (omega (arith, p))
cut (suc n) view bytes p e k = rw (e, k)

pub last : (n : ℕ) (view : IpView) (bytes : List ℕ) → 0 < n → is_extension view.flow.protocol ≡ true → is_cut view.flow.protocol bytes ≡ false
    → view.flow.protocol ≡ 44 → walk n view bytes ≡ Ok (past_first view bytes)
unfolding walk
last zero view bytes p e k f = absurd (omega (arith, p))
last (suc n) view bytes p e k f = rw (e, k) (cond-true _ _ _ (eq-eqb _ _ f))

pub next : (n : ℕ) (view : IpView) (bytes : List ℕ) → is_extension view.flow.protocol ≡ true → is_cut view.flow.protocol bytes ≡ false
    → (view.flow.protocol ≡ 44 → ⊥) → walk (suc n) view bytes ≡ walk n (past_first view bytes) (drop (extension_len view.flow.protocol bytes) bytes)
unfolding walk
next n view bytes e k f = rw (e, k) (cond-false _ _ _ (ne_eqb _ _ f))
