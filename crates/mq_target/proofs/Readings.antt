-- A path is read in one way.
use Rattle.std.proofs.Common.{◌≡◌, ℕ, false, List, [], ◌∷◌, ◌++◌, get_or, Option, Some, None, sym, ◌∙◌, ap, subst, refl, arith, inl, inr}
use Rattle.std.specs.Str.Parse.{IsNumeral}
use Rattle.percent_encoding.specs.Percent.{percent_decode}
use Rattle.mq_text.specs.Cut.{Lacks}
use Rattle.mq_addr.specs.declared.prefix.Prefix.{Prefix}
use Rattle.mq_addr.specs.declared.kind.Kind.{Kind}
use Rattle.mq_addr.specs.declared.kind.Kind.TheVariants as kind
use Rattle.mq_addr.specs.Addr.{is_addr_byte, HasAddrBytes, HasOneAddr}
use Rattle.mq_addr.specs.Prefixes.{IsPrefixForm, HasOnePrefix}
use Rattle.mq_target.specs.declared.shape.Order.{Order}
use Rattle.mq_target.specs.declared.shape.Order.TheVariants.{TargetFirst, TargetLast}
use Rattle.mq_target.specs.declared.target.Host.{Host}
use Rattle.mq_target.specs.declared.target.Host.TheVariants as host
use Rattle.mq_target.specs.declared.target.Area.{Area}
use Rattle.mq_target.specs.declared.target.Area.TheVariants as area
use Rattle.mq_target.specs.declared.target.Target.{Target}
use Rattle.mq_target.specs.declared.target.Target.TheVariants as target
use Rattle.mq_target.specs.declared.target.Matched.{Matched}
use Rattle.mq_target.specs.declared.target.Matched.TheVariants.{No, Bad, Yes}
use Rattle.mq_target.specs.Classes.{is_name_byte}
use Rattle.mq_target.specs.Template.{Shape}
use Rattle.mq_target.specs.Values.{IsNameText, IsHost, IsArea, IsProtocol, IsTarget}
use Rattle.mq_target.specs.Matching.{Splits, Reads, Matches}
use Rattle.mq_target.proofs.Bytes.{all_lack, lacks_none}
use Rattle.mq_target.proofs.Splitting.{first_is, second_is, same_front}

star_addr : is_addr_byte 42 ≡ false
unfolding is_addr_byte
star_addr = refl

star_name : is_name_byte 42 ≡ false
unfolding is_name_byte
star_name = refl

slash_name : is_name_byte 47 ≡ false
unfolding is_name_byte
slash_name = refl

star_lacks : Lacks 42 (42 ∷ []) → ⊥
star_lacks h = h.0 refl

-- `*` is no prefix and no name
star_form : HasAddrBytes → (text : List ℕ) (block : Prefix) → text ≡ 42 ∷ [] → ¬ (IsPrefixForm text block)
star_form bytes text block is (inl h) = star_lacks (subst (Lacks 42) is (bytes text block.addr 42 h.addr star_addr))
star_form bytes text block is (inr h) = long h.front h.digits (sym is ∙ h.is)
  where
    long : (front digits : List ℕ) → 42 ∷ [] ≡ front ++ 47 ∷ digits → ⊥
    long [] digits e = omega (arith, ap (λ (t : List ℕ). get_or t 0 0) e)
    long (x ∷ []) digits e = let none : [] ≡ 47 ∷ digits = cc in cc
    long (x ∷ y ∷ front) digits e = let none : [] ≡ y ∷ (front ++ 47 ∷ digits) = cc in cc

star_no_name : (text name : List ℕ) → text ≡ 42 ∷ [] → ¬ (IsNameText text name)
star_no_name text name is h = star_lacks (subst (Lacks 42) is (all_lack is_name_byte 42 text star_name h.form.bytes))

-- a prefix is no name
prefix_no_name : (text name : List ℕ) (block : Prefix) → IsPrefixForm text block → ¬ (IsNameText text name)
prefix_no_name text name block (inl alone) h = h.no_addr block.addr alone.addr
prefix_no_name text name block (inr long) h =
    lacks_none 47 long.front long.digits (subst (Lacks 47) long.is (all_lack is_name_byte 47 text slash_name h.form.bytes))

pub one_host : HasOneAddr → (text : List ℕ) (a b : Host) → IsHost text a → IsHost text b → a ≡ b
one_host one text (host.Address a) (host.Address b) h k = ap host.Address (one text a b h k)
one_host one text (host.Address a) (host.Name b) h k = absurd (k.no_addr a h)
one_host one text (host.Name a) (host.Address b) h k = absurd (h.no_addr b k)
one_host one text (host.Name a) (host.Name b) h k = ap host.Name (h.lower ∙ sym k.lower)

one_area : HasAddrBytes → HasOnePrefix → (text : List ℕ) (a b : Area) → IsArea text a → IsArea text b → a ≡ b
one_area bytes one text area.All area.All h k = refl
one_area bytes one text area.All (area.Block b) h k = absurd (star_form bytes text b h k.0)
one_area bytes one text area.All (area.Name b) h k = absurd (star_no_name text b h k)
one_area bytes one text (area.Block a) area.All h k = absurd (star_form bytes text a k h.0)
one_area bytes one text (area.Block a) (area.Block b) h k = ap area.Block (one text a b h.0 k.0)
one_area bytes one text (area.Block a) (area.Name b) h k = absurd (prefix_no_name text b a h.0 k)
one_area bytes one text (area.Name a) area.All h k = absurd (star_no_name text a k h)
one_area bytes one text (area.Name a) (area.Block b) h k = absurd (prefix_no_name text a b k.0 h)
one_area bytes one text (area.Name a) (area.Name b) h k = ap area.Name (h.lower ∙ sym k.lower)

star_no_number : (text : List ℕ) → text ≡ 42 ∷ [] → ¬ (IsNumeral 10 text)
star_no_number text is h = let at : IsNumeral 10 (42 ∷ []) = subst (IsNumeral 10) is h in omega (arith, at.1.0)

one_protocol : (text : List ℕ) (a b : Option ℕ) → IsProtocol text a → IsProtocol text b → a ≡ b
one_protocol text None None h k = refl
one_protocol text None (Some b) h k = absurd (star_no_number text h k.numeral)
one_protocol text (Some a) None h k = absurd (star_no_number text k h.numeral)
one_protocol text (Some a) (Some b) h k = ap Some (h.value ∙ sym k.value)

same_udp : (a b : Host) (p q : ℕ) → a ≡ b → p ≡ q → target.Udp a p ≡ target.Udp b q
same_udp a b p q e f = cc

same_ip : (a b : Area) (p q : Option ℕ) → a ≡ b → p ≡ q → target.Ip a p ≡ target.Ip b q
same_ip a b p q e f = cc

one_target : HasAddrBytes → HasOneAddr → HasOnePrefix → (k : Kind) (text detail : List ℕ) (a b : Target) → IsTarget k text detail a → IsTarget k text detail b → a ≡ b
one_target bytes addr prefix kind.Udp text detail (target.Udp a p) (target.Udp b q) h g = same_udp a b p q (one_host addr text a b h.0 g.0) (h.1.0.value ∙ sym g.1.0.value)
one_target bytes addr prefix kind.Udp text detail (target.Udp a p) (target.Ip b q) h g = absurd g
one_target bytes addr prefix kind.Udp text detail (target.Ip a p) b h g = absurd h
one_target bytes addr prefix kind.Ip text detail (target.Ip a p) (target.Ip b q) h g = same_ip a b p q (one_area bytes prefix text a b h.0 g.0) (one_protocol detail p q h.1 g.1)
one_target bytes addr prefix kind.Ip text detail (target.Ip a p) (target.Udp b q) h g = absurd g
one_target bytes addr prefix kind.Ip text detail (target.Udp a p) b h g = absurd h

one_reads : HasAddrBytes → HasOneAddr → HasOnePrefix → (k : Kind) (order : Order) (x y : List ℕ) (a b : Target) → Reads k order x y a → Reads k order x y b → a ≡ b
one_reads bytes addr prefix k TargetFirst x y a b h g = one_target bytes addr prefix k (percent_decode x) (percent_decode y) a b h g
one_reads bytes addr prefix k TargetLast x y a b h g = one_target bytes addr prefix k (percent_decode y) (percent_decode x) a b h g

one_split : (shape : Shape) (path x y u v : List ℕ) → Splits shape path x y → Splits shape path u v → (x ≡ u) × (y ≡ v)
one_split shape path x y u v h k =
    let rest = same_front shape.before (x ++ (shape.between ++ (y ++ shape.after))) (u ++ (shape.between ++ (v ++ shape.after))) (sym h.is ∙ k.is) in
    let first = first_is shape.before shape.between shape.after path x y h u (shape.between ++ (v ++ shape.after)) rest k.first_value k.first_ends in
    let left = same_front shape.between (y ++ shape.after) (v ++ shape.after) first.1 in
    let second = second_is shape.before shape.between shape.after path x y h v shape.after left k.second_value k.second_ends in
    (first.0, second.0)

-- what one reading says of the values of another
moved : (shape : Shape) (path x y u v : List ℕ) (target : Target) → Splits shape path x y → Splits shape path u v → Reads shape.kind shape.order x y target → Reads shape.kind shape.order u v target
moved shape path x y u v target h k reads =
    let same = one_split shape path x y u v h k in
    subst (λ (t : List ℕ). Reads shape.kind shape.order t v target) same.0 (subst (λ (t : List ℕ). Reads shape.kind shape.order x t target) same.1 reads)

pub one_reading : HasAddrBytes → HasOneAddr → HasOnePrefix → (shape : Shape) (path : List ℕ) (a b : Matched) → Matches shape path a → Matches shape path b → a ≡ b
one_reading bytes addr prefix shape path No No h k = refl
one_reading bytes addr prefix shape path No Bad h k = absurd (h k.0 k.1 k.2)
one_reading bytes addr prefix shape path No (Yes b) h k = absurd (h k.0 k.1 k.2)
one_reading bytes addr prefix shape path Bad No h k = absurd (k h.0 h.1 h.2)
one_reading bytes addr prefix shape path Bad Bad h k = refl
one_reading bytes addr prefix shape path Bad (Yes b) h k = absurd (h.3 b (moved shape path k.0 k.1 h.0 h.1 b k.2 h.2 k.3))
one_reading bytes addr prefix shape path (Yes a) No h k = absurd (k h.0 h.1 h.2)
one_reading bytes addr prefix shape path (Yes a) Bad h k = absurd (k.3 a (moved shape path h.0 h.1 k.0 k.1 a h.2 k.2 h.3))
one_reading bytes addr prefix shape path (Yes a) (Yes b) h k =
    ap Yes (one_reads bytes addr prefix shape.kind shape.order h.0 h.1 a b h.3 (moved shape path k.0 k.1 h.0 h.1 b k.2 h.2 k.3))
