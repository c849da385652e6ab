-- The parts of lines have no space, and each is one value.
use Rattle.std.proofs.Common.{◌≡◌, ℕ, ◌<◌, ◌≤◌, ◌^◌, false, List, [], ◌∷◌, ◌++◌, codes, decimal, refl, sym, ◌∙◌, ap, subst, arith, Some, None, replicate, inl, inr}
use Rattle.std.proofs.lemmas.List.Elements.{All-cons, All-nil}
use Rattle.mq_text.specs.Cut.{Lacks, IsCutOnce}
use Rattle.mq_addr.specs.declared.addr.Addr.{Addr}
use Rattle.mq_addr.specs.declared.addr.Addr.TheVariants.{V4, V6}
use Rattle.mq_addr.specs.declared.kind.Kind.{Kind}
use Rattle.mq_addr.specs.declared.prefix.Prefix.{Prefix}
use Rattle.mq_addr.specs.declared.range.Range.{Range}
use Rattle.mq_addr.specs.Addr.{HasAddrBytes, HasOneAddr, IsAddrText, is_addr_byte}
use Rattle.mq_addr.specs.Block.{width}
use Rattle.mq_addr.specs.Prefixes.{HasOnePrefix, IsPrefixForm}
use Rattle.mq_target.specs.Classes.{is_name_byte}
use Rattle.mq_play.specs.Lines.{IsActor, IsFilled}
use Rattle.mq_play.specs.Parts.{IsByte, IsHex, IsName, IsNumber, IsNumberOr, IsText, Means, Parted}
use Rattle.mq_play.specs.Settings.{IsBlock, IsNamed, IsRoute, IsShare, IsTemplateOf}
use Rattle.mq_play.proofs.reading.Hexes.{hex_lacks, one_hex}
use Rattle.mq_play.proofs.reading.Lacking.{class_lacks, holds_separator, is_visible, lacks_both, lacks_decimal, letterless, starless}
use Rattle.mq_play.proofs.reading.Parted.{IsLacking, IsSingle, means_once, number_lacks, number_once, parted_once}
use Rattle.mq_target.proofs.Templates.{one_template}
use Rattle.mq_play.proofs.reading.Texts.{one_text}

-- ---- numbers

pub names_lack : IsLacking IsName
names_lack = number_lacks 0 4294967295 (omega arith)

pub name_once : IsSingle IsName
name_once = number_once 0 4294967295 (omega arith)

-- a word that has a byte that no digit is
pub or_once : (word : List ℕ) (b high : ℕ) → ((n : ℕ) → n ≤ high → Lacks b (decimal n)) → (Lacks b word → ⊥) → high < 2 ^ 64 → IsSingle (IsNumberOr word high)
or_once word b high lacks has small text None None h k = refl
or_once word b high lacks has small text None (Some n) h k = absurd (has (subst (Lacks b) (sym k.is ∙ h) (lacks n k.most)))
or_once word b high lacks has small text (Some n) None h k = absurd (has (subst (Lacks b) (sym h.is ∙ k) (lacks n h.most)))
or_once word b high lacks has small text (Some m) (Some n) h k = ap Some (number_once 0 high small text m n h k)

room_fits : (n : ℕ) → n ≤ 2147483647 → n < 2 ^ 64
room_fits n h = omega arith

protocol_fits : (n : ℕ) → n ≤ 255 → n < 2 ^ 64
protocol_fits n h = omega arith

pub room_once : IsSingle (IsNumberOr (codes "all") 2147483647)
room_once = or_once (codes "all") 97 2147483647 (λ n h. letterless 97 n (omega arith) (room_fits n h)) (λ h. h.0 refl) (omega arith)

pub protocol_once : IsSingle (IsNumberOr (codes "*") 255)
protocol_once = or_once (codes "*") 42 255 (λ n h. starless n (protocol_fits n h)) (λ h. h.0 refl) (omega arith)

actor_fits : (n : ℕ) → n ≤ 3 → n < 2 ^ 64
actor_fits n h = omega arith

pub actors_lack : IsLacking IsActor
actors_lack text actor (inl h) = number_lacks 0 3 (omega arith) text actor h
actors_lack text actor (inr h) = subst (Lacks 32) (sym h.0) (class_lacks is_visible 32 (codes "net") refl refl)

no_net : (text : List ℕ) (n : ℕ) → IsNumber 0 3 text n → text ≡ codes "net" → ⊥
no_net text n h e = (subst (Lacks 110) (sym h.is ∙ e) (letterless 110 n (omega arith) (actor_fits n h.most))).0 refl

pub actor_once : IsSingle IsActor
actor_once text a b (inl h) (inl k) = number_once 0 3 (omega arith) text a b h k
actor_once text a b (inl h) (inr k) = absurd (no_net text a h k.0)
actor_once text a b (inr h) (inl k) = absurd (no_net text b k h.0)
actor_once text a b (inr h) (inr k) = h.1 ∙ sym k.1

-- ---- bytes

pub hexes_lack : IsLacking IsHex
hexes_lack text bytes h = subst (Lacks 32) (sym h.is) (hex_lacks bytes h.are)

pub hex_once : IsSingle IsHex
hex_once text a b h k = one_hex text a b (h.are, h.is) (k.are, k.is)

head_same : (x y : ℕ) → ◌≡◌ {A = List ℕ} (x ∷ []) (y ∷ []) → x ≡ y
head_same x y e = cc e

pub byte_once : IsSingle IsByte
byte_once text a b h k =
    let P : ℕ → Type 0 = λ x. x < 256 in
    head_same a b (one_hex text (a ∷ []) (b ∷ []) (All-cons P a [] h.small (All-nil P), h.is) (All-cons P b [] k.small (All-nil P), k.is))

pub text_once : IsSingle IsText
text_once text a b h k = one_text text a b (h.are, h.is) (k.are, k.is)

pub filled_once : IsCutOnce → IsSingle IsFilled
filled_once once =
    parted_once IsHex _ once hexes_lack hex_once (λ front. parted_once (IsNumber 1 99999) _ once (number_lacks 1 99999 (omega arith)) (number_once 1 99999 (omega arith)) (λ count. means_once IsByte (λ (byte : ℕ). front ++ replicate count byte) byte_once))

-- ---- names, templates, blocks

no_space : is_name_byte 32 ≡ false
unfolding is_name_byte
no_space = refl

pub nameds_lack : IsLacking IsNamed
nameds_lack text name h = class_lacks is_name_byte 32 text no_space h.0.bytes

pub named_once : IsSingle IsNamed
named_once text a b h k = h.1 ∙ sym k.1

pub template_once : IsCutOnce → (kind : Kind) → IsSingle (IsTemplateOf kind)
template_once once kind text a b h k = one_template once text a b h.0 k.0

no_addr_space : is_addr_byte 32 ≡ false
unfolding is_addr_byte
no_addr_space = refl

no_addr_star : is_addr_byte 42 ≡ false
unfolding is_addr_byte
no_addr_star = refl

pub addrs_lack : HasAddrBytes → IsLacking IsAddrText
addrs_lack bytes text addr h = bytes text addr 32 h no_addr_space

width_small : (a : Addr) → width a ≤ 128
width_small (V4 bits) = omega arith
width_small (V6 bits) = omega arith

length_small : (a : Addr) (n : ℕ) → n ≤ width a → n < 2 ^ 64
length_small a n h = let small = width_small a in omega (arith, h, small)

form_lacks : HasAddrBytes → (text : List ℕ) (block : Prefix) → IsPrefixForm text block → Lacks 32 text
form_lacks bytes text block (inl alone) = bytes text block.addr 32 alone.addr no_addr_space
form_lacks bytes text block (inr long) =
    let digits = subst (Lacks 32) (sym long.length) (lacks_decimal block.length (length_small block.addr block.length long.fits)) in
    subst (Lacks 32) (sym long.is) (lacks_both 32 long.front (47 ∷ long.digits) (bytes long.front block.addr 32 long.addr no_addr_space) ((λ e. omega arith), digits))

pub blocks_lack : HasAddrBytes → IsLacking IsBlock
blocks_lack bytes text None h = subst (Lacks 32) (sym h) (class_lacks is_visible 32 (codes "*") refl refl)
blocks_lack bytes text (Some block) h = form_lacks bytes text block h.0

-- `*` is no prefix
no_star : HasAddrBytes → (block : Prefix) → IsPrefixForm (codes "*") block → ⊥
no_star bytes block (inl alone) = (bytes (codes "*") block.addr 42 alone.addr no_addr_star).0 refl
no_star bytes block (inr long) =
    holds_separator 47 long.front long.digits (subst (Lacks 47) long.is ((λ e. omega arith), tt))

pub block_once : HasAddrBytes → HasOnePrefix → IsSingle IsBlock
block_once bytes one text None None h k = refl
block_once bytes one text None (Some block) h k = absurd (no_star bytes block (subst (λ (t : List ℕ). IsPrefixForm t block) h k.0))
block_once bytes one text (Some block) None h k = absurd (no_star bytes block (subst (λ (t : List ℕ). IsPrefixForm t block) k h.0))
block_once bytes one text (Some a) (Some b) h k = ap Some (one text a b h.0 k.0)

pub share_once : HasOnePrefix → IsSingle IsShare
share_once one text a b h k = one text a b h.0.0 k.0.0

-- the first and the last address of a range and its protocol, whatever their order
abbrev pub LastText : Addr → List ℕ → Range → Type 0
LastText first = Parted IsAddrText (λ last. Means (IsNumber 0 255) (λ (protocol : ℕ). record { first = first; last = last; protocol = protocol }))

abbrev pub IsRangeText : List ℕ → Range → Type 0
IsRangeText = Parted IsAddrText LastText

pub last_once : IsCutOnce → HasAddrBytes → HasOneAddr → (first : Addr) → IsSingle (LastText first)
last_once once bytes one first =
    parted_once IsAddrText _ once (addrs_lack bytes) one
    (λ last. means_once (IsNumber 0 255) (λ (protocol : ℕ). let r : Range = record { first = first; last = last; protocol = protocol } in r) (number_once 0 255 (omega arith)))

pub range_once : IsCutOnce → HasAddrBytes → HasOneAddr → IsSingle IsRangeText
range_once once bytes one = parted_once IsAddrText LastText once (addrs_lack bytes) one (last_once once bytes one)

pub route_once : IsCutOnce → HasAddrBytes → HasOneAddr → IsSingle IsRoute
route_once once bytes one text a b h k = range_once once bytes one text a b h.0 k.0
