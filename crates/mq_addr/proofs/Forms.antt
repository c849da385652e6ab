-- Which prefix a text has the form of.
use Rattle.std.proofs.Common.{◌≡◌, ℕ, ◌<◌, ◌≤◌, ◌^◌, List, inl, inr, ap, sym, ◌∙◌, subst, arith}
use Rattle.mq_text.specs.Number.{Spells, IsReadAlone}
use Rattle.mq_text.specs.Cut.{Lacks, IsCut, IsCutOnce}
use Rattle.mq_addr.specs.declared.addr.Addr.{Addr}
use Rattle.mq_addr.specs.declared.addr.Addr.TheVariants.{V4, V6}
use Rattle.mq_addr.specs.declared.prefix.Prefix.{Prefix}
use Rattle.mq_addr.specs.Addr.{IsAddrText, HasOneAddr}
use Rattle.mq_addr.specs.Block.{width}
use Rattle.mq_addr.specs.Prefixes.{HasLength, IsPrefixForm}
use Rattle.mq_addr.proofs.Alphabet.{no_slash, has_it}

-- a text with a length has a slash, and one that is an address has none
not_both : (text : List ℕ) (a : Addr) (block : Prefix) → IsAddrText text a → HasLength text block → ⊥
not_both text a block h k = has_it 47 k.front k.digits (subst (Lacks 47) k.is (no_slash text a h))

-- the cut that the form speaks of is at the first slash
cut_of : (text : List ℕ) (block : Prefix) (h : HasLength text block) → IsCut 47 text h.front h.digits
cut_of text block h = record { is = h.is; first = no_slash h.front block.addr h.addr }

pub none_alone : (text : List ℕ) → Lacks 47 text → ((a : Addr) → ¬ (IsAddrText text a)) → (block : Prefix) → ¬ (IsPrefixForm text block)
none_alone text lacks no_addr block (inl h) = no_addr block.addr h.addr
none_alone text lacks no_addr block (inr h) = has_it 47 h.front h.digits (subst (Lacks 47) h.is lacks)

pub none_cut : IsCutOnce → (text front digits : List ℕ) → IsCut 47 text front digits
    → ((block : Prefix) → IsAddrText front block.addr → Spells digits block.length → ¬ (block.length ≤ width block.addr))
    → (block : Prefix) → ¬ (IsPrefixForm text block)
none_cut once text front digits cut nothing block (inl h) = has_it 47 front digits (subst (Lacks 47) cut.is (no_slash text block.addr h.addr))
none_cut once text front digits cut nothing block (inr h) =
    let same = once 47 text h.front h.digits front digits (cut_of text block h) cut in
    let at_front : IsAddrText front block.addr = subst (λ (t : List ℕ). IsAddrText t block.addr) same.0 h.addr in
    let at_digits : Spells digits block.length = sym same.1 ∙ h.length in
    nothing block at_front at_digits h.fits

same_width : (a b : Addr) → a ≡ b → width a ≡ width b
same_width a b e = ap width e

same_block : (a b : Prefix) → a.addr ≡ b.addr → a.length ≡ b.length → a ≡ b
same_block a b e f = λ i. record { addr = e i; length = f i }

small : (a : Addr) (n : ℕ) → n ≤ width a → n < 2 ^ 64
small (V4 bits) n h = omega arith
small (V6 bits) n h = omega arith

pub one_form : HasOneAddr → IsCutOnce → IsReadAlone → (text : List ℕ) (a b : Prefix) → IsPrefixForm text a → IsPrefixForm text b → a ≡ b
one_form addrs once numbers text a b (inl h) (inl k) =
    let same = addrs text a.addr b.addr h.addr k.addr in
    same_block a b same (h.full ∙ ap width same ∙ sym k.full)
one_form addrs once numbers text a b (inl h) (inr k) = absurd (not_both text a.addr b h.addr k)
one_form addrs once numbers text a b (inr h) (inl k) = absurd (not_both text b.addr a k.addr h)
one_form addrs once numbers text a b (inr h) (inr k) =
    let same = once 47 text h.front h.digits k.front k.digits (cut_of text a h) (cut_of text b k) in
    let at_front : IsAddrText k.front a.addr = subst (λ (t : List ℕ). IsAddrText t a.addr) same.0 h.addr in
    let at_digits : Spells k.digits a.length = sym same.1 ∙ h.length in
    same_block a b
    (addrs k.front a.addr b.addr at_front k.addr)
    (numbers k.digits a.length b.length (small a.addr a.length h.fits) (small b.addr b.length k.fits) at_digits k.length)
