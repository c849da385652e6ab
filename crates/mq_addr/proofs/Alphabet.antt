-- Address texts have hex digits, dots and colons alone.
use Rattle.std.proofs.Common.{◌≡◌, ◌≢◌, ℕ, ◌<◌, ◌≤◌, Bool, true, false, List, [], ◌∷◌, ◌++◌, decimal, inl, inr, sym, subst, refl, arith}
use Rattle.std.proofs.lemmas.Fmt.{decimal_is_IsNumeral}
use Rattle.std.proofs.lemmas.Bool.Decides.{nat_tests}
use Rattle.std.specs.Char.{digit_value}
use Rattle.std.specs.Str.Parse.{AllDigits}
use Rattle.std.specs.Net.Text.{dotted_text}
use Rattle.std.specs.Net.Grammar.{IsDotted, IsGroupsAfter, IsColonHex}
use Rattle.std.specs.Net.Addr.{ipv4_octets, ipv6_segments}
use Rattle.mq_text.specs.Cut.{Lacks}
use Rattle.mq_addr.specs.declared.addr.Addr.{Addr}
use Rattle.mq_addr.specs.declared.addr.Addr.TheVariants.{V4, V6}
use Rattle.mq_addr.specs.Addr.{IsAddrText, is_addr_byte}

pub lacks_both : (b : ℕ) (xs ys : List ℕ) → Lacks b xs → Lacks b ys → Lacks b (xs ++ ys)
lacks_both b [] ys h k = k
lacks_both b (x ∷ xs) ys h k = (h.0, lacks_both b xs ys h.1 k)

pub has_it : (b : ℕ) (xs ys : List ℕ) → Lacks b (xs ++ b ∷ ys) → ⊥
has_it b [] ys h = h.0 refl
has_it b (x ∷ xs) ys h = has_it b xs ys h.1

-- what an address text has none of
record Foreign (b : ℕ) : Type 0 where
  digit : 16 ≤ digit_value b
  dot : b ≢ 46
  colon : b ≢ 58

foreign : (b : ℕ) → is_addr_byte b ≡ false → Foreign b
unfolding is_addr_byte
foreign b h = record { digit = grind (arith, nat_tests); dot = grind (arith, nat_tests); colon = grind (arith, nat_tests) }

module _ (b : ℕ) (other : Foreign b) where
  no_digit : (c : ℕ) → digit_value c < 16 → c ≢ b
  no_digit c h e =
      let P : ℕ → Type 0 = λ n. digit_value n < 16 in
      let at : digit_value b < 16 = subst P e h in
      omega (arith, other.digit)

  digits_lack : (radix : ℕ) (ds : List ℕ) → radix ≤ 16 → AllDigits radix ds → Lacks b ds
  digits_lack radix [] small h = tt
  digits_lack radix (d ∷ ds) small h = (no_digit d (omega arith), digits_lack radix ds small h.1)

  decimal_lacks : (n : ℕ) → n < 256 → Lacks b (decimal n)
  decimal_lacks n small = digits_lack 10 (decimal n) (omega arith) (decimal_is_IsNumeral n (omega arith)).0.1

  dot_lacks : Lacks b (46 ∷ [])
  dot_lacks = (λ e. other.dot (sym e), tt)

  colon_lacks : Lacks b (58 ∷ [])
  colon_lacks = (λ e. other.colon (sym e), tt)

  dotted_lacks : (text octets : List ℕ) → IsDotted text octets → Lacks b text
  dotted_lacks text octets h =
      let p = decimal_lacks h.a h.fit.0 in
      let q = decimal_lacks h.b h.fit.1 in
      let r = decimal_lacks h.c h.fit.2 in
      let s = decimal_lacks h.d h.fit.3 in
      let one = lacks_both b _ _ (lacks_both b _ _ p dot_lacks) q in
      let two = lacks_both b _ _ (lacks_both b _ _ one dot_lacks) r in
      let all : Lacks b (dotted_text h.a h.b h.c h.d) = lacks_both b _ _ (lacks_both b _ _ two dot_lacks) s in
      subst (Lacks b) (sym h.spelled) all

  groups_lack : (ipv4 : Bool) (lead text segments : List ℕ) → Lacks b lead → IsGroupsAfter ipv4 lead text segments → Lacks b text
  groups_lack ipv4 lead text [] before h = subst (Lacks b) (sym h) tt
  groups_lack ipv4 lead text (s ∷ segments) before (inl h) =
      let group = digits_lack 16 h.0 (omega arith) h.3.0.0.1 in
      let more = groups_lack ipv4 (58 ∷ []) h.1 segments colon_lacks h.4 in
      subst (Lacks b) (sym h.2) (lacks_both b _ _ (lacks_both b _ _ before group) more)
  groups_lack ipv4 lead text (s ∷ segments) before (inr h) =
      subst (Lacks b) (sym h.3) (lacks_both b _ _ before (dotted_lacks h.0 h.1 h.4))

  colon_hex_lacks : (text segments : List ℕ) → IsColonHex text segments → Lacks b text
  colon_hex_lacks text segments (inl h) = groups_lack true [] text segments tt h.0
  colon_hex_lacks text segments (inr h) =
      let front = groups_lack false [] h.head_text h.head tt h.head_groups in
      let back = groups_lack true [] h.tail_text h.tail tt h.tail_groups in
      let colons : Lacks b (58 ∷ 58 ∷ []) = (λ e. other.colon (sym e), colon_lacks) in
      subst (Lacks b) (sym h.spelled) (lacks_both b _ _ (lacks_both b _ _ front colons) back)

  lacks_foreign : (text : List ℕ) (a : Addr) → IsAddrText text a → Lacks b text
  unfolding IsAddrText
  lacks_foreign text (V4 bits) h = dotted_lacks text (ipv4_octets h.0) h.1
  lacks_foreign text (V6 bits) h = colon_hex_lacks text (ipv6_segments h.0) h.1

pub addr_bytes : (text : List ℕ) (a : Addr) (b : ℕ) → IsAddrText text a → is_addr_byte b ≡ false → Lacks b text
addr_bytes text a b h other = lacks_foreign b (foreign b other) text a h

pub no_slash : (text : List ℕ) (a : Addr) → IsAddrText text a → Lacks 47 text
unfolding is_addr_byte
no_slash text a h = addr_bytes text a 47 h refl
