-- The path of a target is read as that target.
use Rattle.std.proofs.Common.{◌≡◌, ◌≢◌, ℕ, ◌/◌, ◌^◌, ◌<◌, ◌≤◌, Bool, true, false, ◌==◌, List, [], ◌∷◌, ◌++◌, length, decimal, Option, Some, None, sym, ◌∙◌, ap, subst, refl, arith, inl, inr, true≢false, append_assoc, length-append}
use Rattle.std.proofs.lemmas.Bool.{and_parts, and_from, cases_Bool, cond-true, cond-false}
use Rattle.std.proofs.lemmas.Bool.Decides.{nat_tests}
use Rattle.std.proofs.lemmas.List.Folds.{list_all-append}
use Rattle.std.proofs.lemmas.List.Sums.{list_all-from_AllPass}
use Rattle.std.proofs.lemmas.List.Elements.{All-weaker}
use Rattle.std.proofs.lemmas.Fmt.{decimal_is_IsNumeral, decimal_nonempty, length-decimal-le}
use Rattle.std.specs.List.{list_all}
use Rattle.std.specs.Str.Parse.{AllDigits}
use Rattle.std.specs.Net.Text.{dotted_text}
use Rattle.std.specs.Net.Grammar.{IsDotted, IsGroupsAfter, IsColonHex}
use Rattle.percent_encoding.specs.Percent.{percent_decode, percent_encode_byte}
use Rattle.percent_encoding.proofs.PercentLemmas.{IsEscapeByte, All-percent_encode_byte, percent_decode-percent_encode_byte, percent_decode_not_percent, percent_decode-nil}
use Rattle.mq_text.specs.Cut.{Lacks}
use Rattle.mq_addr.specs.declared.addr.Addr.{Addr}
use Rattle.mq_addr.specs.declared.addr.Addr.TheVariants.{V4, V6}
use Rattle.mq_addr.specs.declared.prefix.Prefix.{Prefix}
use Rattle.mq_addr.specs.Block.{width}
use Rattle.mq_addr.specs.declared.kind.Kind.{Kind}
use Rattle.mq_addr.specs.declared.kind.Kind.TheVariants as kind
use Rattle.mq_addr.specs.Addr.{IsAddrText, is_addr_byte, HasAddrBytes}
use Rattle.mq_addr.specs.Printed as printed
use Rattle.mq_addr.specs.Printed.{addr_text_of, prefix_text_of}
use Rattle.mq_target.specs.declared.shape.Order.{Order}
use Rattle.mq_target.specs.declared.shape.Order.TheVariants.{TargetFirst, TargetLast}
use Rattle.mq_target.specs.declared.target.Host.{Host}
use Rattle.mq_target.specs.declared.target.Host.TheVariants as host
use Rattle.mq_target.specs.declared.target.Area.{Area}
use Rattle.mq_target.specs.declared.target.Area.TheVariants as area
use Rattle.mq_target.specs.declared.target.Target.{Target}
use Rattle.mq_target.specs.declared.target.Target.TheVariants as target
use Rattle.mq_target.specs.declared.target.Matched.TheVariants.{Yes}
use Rattle.mq_target.specs.Classes.{begins, ends_or_begins, is_name_byte, is_unreserved, is_value_byte, is_delimiter}
use Rattle.mq_target.specs.Template.{Shape}
use Rattle.mq_target.specs.Values.{IsNameText, IsHost, IsArea, IsPort, IsProtocol, IsTarget}
use Rattle.mq_target.specs.Matching.{IsValue, Reads, Matches}
use Rattle.mq_target.specs.Expansion.{SuitsHost, SuitsArea, Suits, escaped, escaped_byte, expanded, host_text, area_text, protocol_text, target_text, detail_text, first_text, second_text}
use Rattle.mq_target.proofs.Splitting.{delimited_ends, ended_ends}
use Rattle.mq_target.specs.Laws.{HostFits, AreaFits, ProtocolFits, TargetFits}

-- a byte, as a test
abbrev is_byte : ℕ → Bool
is_byte b = b / 256 == 0

byte_small : (b : ℕ) → is_byte b ≡ true → b < 256
byte_small b h = grind (arith, nat_tests)

small_byte : (b : ℕ) → b < 256 → is_byte b ≡ true
small_byte b h = grind (arith, nat_tests)

-- a text that can be a value: bytes, at least one
record IsFine (text : List ℕ) : Type 0 where
  some : 0 < length text
  bytes : list_all is_byte text ≡ true

-- ---- escapes

unreserved_value : (b : ℕ) → is_unreserved b ≡ true → is_value_byte b ≡ true
unfolding is_unreserved is_name_byte is_value_byte is_delimiter
unreserved_value b h = grind (arith, nat_tests)

percent_reserved : is_unreserved 37 ≡ false
unfolding is_unreserved is_name_byte
percent_reserved = refl

unreserved_plain : (b : ℕ) → is_unreserved b ≡ true → b ≢ 37
unreserved_plain b h e = let no_percent : is_unreserved 37 ≡ true = subst (λ (n : ℕ). is_unreserved n ≡ true) e h in true≢false (sym no_percent ∙ percent_reserved)

escape_value : (b : ℕ) → IsEscapeByte b → is_value_byte b ≡ true
unfolding is_value_byte is_delimiter
escape_value b h = grind (arith, nat_tests)

triple_some : (b : ℕ) → 0 < length (percent_encode_byte b)
unfolding percent_encode_byte
triple_some b = omega arith

byte_value : (b : ℕ) → IsValue (escaped_byte b)
byte_value b =
    elim (cases_Bool (is_unreserved b)) [
      | inl in_class ↦ subst IsValue (sym (cond-true _ _ _ in_class)) (omega arith, and_from _ _ (unreserved_value b in_class) refl)
      | inr other ↦ subst IsValue (sym (cond-false _ _ _ other)) (triple_some b, list_all-from_AllPass is_value_byte (percent_encode_byte b) (All-weaker IsEscapeByte (λ c. is_value_byte c ≡ true) escape_value (percent_encode_byte b) (All-percent_encode_byte b)))
    ]

escaped_all : (text : List ℕ) → list_all is_value_byte (escaped text) ≡ true
unfolding escaped
escaped_all [] = refl
escaped_all (b ∷ text) = list_all-append is_value_byte (escaped_byte b) (escaped text) ∙ and_from _ _ (byte_value b).1 (escaped_all text)

escaped_value : (text : List ℕ) → IsFine text → IsValue (escaped text)
unfolding escaped
escaped_value [] h = absurd (omega (arith, h.some))
escaped_value (b ∷ text) h =
    let one = byte_value b in
    (omega (arith, one.0, length-append (escaped_byte b) (escaped text)), escaped_all (b ∷ text))

decoded_byte : (b : ℕ) (rest : List ℕ) → b < 256 → percent_decode (escaped_byte b ++ rest) ≡ b ∷ percent_decode rest
decoded_byte b rest small =
    elim (cases_Bool (is_unreserved b)) [
      | inl in_class ↦ ap (λ (t : List ℕ). percent_decode (t ++ rest)) (cond-true _ _ _ in_class) ∙ percent_decode_not_percent b rest (unreserved_plain b in_class)
      | inr other ↦ ap (λ (t : List ℕ). percent_decode (t ++ rest)) (cond-false _ _ _ other) ∙ percent_decode-percent_encode_byte b rest small
    ]

decoded : (text : List ℕ) → list_all is_byte text ≡ true → percent_decode (escaped text) ≡ text
unfolding escaped
decoded [] h = percent_decode-nil
decoded (b ∷ text) h =
    let parts = and_parts (is_byte b) (list_all is_byte text) h in
    decoded_byte b (escaped text) (byte_small b parts.0) ∙ ap (λ (t : List ℕ). b ∷ t) (decoded text parts.1)

-- ---- the texts of values

weaker : (p q : ℕ → Bool) → ((b : ℕ) → p b ≡ true → q b ≡ true) → (text : List ℕ) → list_all p text ≡ true → list_all q text ≡ true
weaker p q step [] h = refl
weaker p q step (b ∷ text) h =
    let parts = and_parts (p b) (list_all p text) h in
    and_from _ _ (step b parts.0) (weaker p q step text parts.1)

-- a text that lacks each byte outside of a class is in that class
all_of_class : (p : ℕ → Bool) (text : List ℕ) → ((b : ℕ) → p b ≡ false → Lacks b text) → list_all p text ≡ true
all_of_class p [] h = refl
all_of_class p (x ∷ text) h =
    elim (cases_Bool (p x)) [
      | inl in_class ↦ and_from _ _ in_class (all_of_class p text (λ b other. (h b other).1))
      | inr other ↦ absurd ((h x other).0 refl)
    ]

addr_small : (b : ℕ) → is_addr_byte b ≡ true → is_byte b ≡ true
unfolding is_addr_byte
addr_small b h = small_byte b (grind (arith, nat_tests))

name_small : (b : ℕ) → is_name_byte b ≡ true → is_byte b ≡ true
unfolding is_name_byte
name_small b h = small_byte b (grind (arith, nat_tests))

digits_small : (ds : List ℕ) → AllDigits 10 ds → list_all is_byte ds ≡ true
digits_small [] h = refl
digits_small (d ∷ ds) h = and_from _ _ (small_byte d (grind (arith, nat_tests))) (digits_small ds h.1)

dotted_some : (text octets : List ℕ) → IsDotted text octets → 0 < length text
dotted_some text octets h =
    let a = decimal_nonempty h.a (omega (arith, h.fit.0)) in
    let all : 0 < length (dotted_text h.a h.b h.c h.d) = simp length-append (omega (arith, a)) in
    subst (λ (t : List ℕ). 0 < length t) (sym h.spelled) all

groups_some : (ipv4 : Bool) (lead text segments : List ℕ) → 0 < length segments → IsGroupsAfter ipv4 lead text segments → 0 < length text
groups_some ipv4 lead text [] some h = absurd (omega arith)
groups_some ipv4 lead text (s ∷ segments) some (inl h) =
    omega (arith, h.3.0.0.0, ap length h.2, length-append (lead ++ h.0) h.1, length-append lead h.0)
groups_some ipv4 lead text (s ∷ segments) some (inr h) =
    omega (arith, dotted_some h.0 h.1 h.4, ap length h.3, length-append lead h.0)

colon_hex_some : (text segments : List ℕ) → IsColonHex text segments → 0 < length text
colon_hex_some text segments (inl h) = groups_some true [] text segments (omega (arith, h.1)) h.0
colon_hex_some text segments (inr h) =
    omega (arith, ap length h.spelled, length-append (h.head_text ++ 58 ∷ 58 ∷ []) h.tail_text, length-append h.head_text (58 ∷ 58 ∷ []))

addr_some : (text : List ℕ) (a : Addr) → IsAddrText text a → 0 < length text
unfolding IsAddrText
addr_some text (V4 bits) h = dotted_some text _ h.1
addr_some text (V6 bits) h = colon_hex_some text _ h.1

module _ (bytes : HasAddrBytes) (again : printed.IsReadAgain) where
  addr_fine : (text : List ℕ) (a : Addr) → IsAddrText text a → IsFine text
  addr_fine text a h = record {
    some = addr_some text a h;
    bytes = weaker is_addr_byte is_byte addr_small text (all_of_class is_addr_byte text (λ b other. bytes text a b h other));
  }

  name_fine : (text name : List ℕ) → IsNameText text name → IsFine text
  name_fine text name h = record {
    some = omega (arith, h.form.some);
    bytes = weaker is_name_byte is_byte name_small text h.form.bytes;
  }

  decimal_fine : (n : ℕ) → n < 2 ^ 64 → IsFine (decimal n)
  decimal_fine n small =
      let numeral = (decimal_is_IsNumeral n small).0 in
      record { some = numeral.0; bytes = digits_small (decimal n) numeral.1 }

  star_fine : IsFine (42 ∷ [])
  star_fine = record { some = omega arith; bytes = refl }

  prefix_fine : (block : Prefix) → printed.Fits block.addr → block.length ≤ 128 → IsFine (prefix_text_of block)
  unfolding prefix_text_of
  prefix_fine block fits small =
      let addr = addr_fine (addr_text_of block.addr) block.addr (again.addr block.addr fits) in
      let number = decimal_fine block.length (omega arith) in
      record {
        some = omega (arith, addr.some, length-append (addr_text_of block.addr) (47 ∷ decimal block.length));
        bytes = list_all-append is_byte (addr_text_of block.addr) (47 ∷ decimal block.length) ∙ and_from _ _ addr.bytes number.bytes;
      }

  at_most : (a : Addr) → width a ≤ 128
  at_most (V4 bits) = omega arith
  at_most (V6 bits) = omega arith

  host_fine : (h : Host) → HostFits h → SuitsHost h → IsFine (host_text h) × IsHost (host_text h) h
  host_fine (host.Address a) fits suits =
      let read = again.addr a fits in
      (addr_fine (addr_text_of a) a read, read)
  host_fine (host.Name name) fits suits = (name_fine name name suits, suits)

  area_fine : (a : Area) → AreaFits a → SuitsArea a → IsFine (area_text a) × IsArea (area_text a) a
  area_fine area.All fits suits = (star_fine, refl)
  area_fine (area.Block block) fits suits = (prefix_fine block fits (omega (arith, suits.fits, at_most block.addr)), again.prefix block fits suits)
  area_fine (area.Name name) fits suits = (name_fine name name suits, suits)

  port_fine : (port : ℕ) → port < 2 ^ 16 → 1 ≤ port → IsFine (decimal port) × IsPort (decimal port) port
  port_fine port small some =
      let numeral = decimal_is_IsNumeral port (omega arith) in (
        decimal_fine port (omega arith),
        (record { numeral = numeral.0; few = length-decimal-le 5 port (omega arith) (omega arith) (omega arith); value = sym numeral.1; fits = omega arith }, some),
      )

  protocol_fine : (protocol : Option ℕ) → ProtocolFits protocol → IsFine (protocol_text protocol) × IsProtocol (protocol_text protocol) protocol
  protocol_fine None fits = (star_fine, refl)
  protocol_fine (Some n) fits =
      let numeral = decimal_is_IsNumeral n (omega arith) in (
        decimal_fine n (omega arith),
        record { numeral = numeral.0; few = length-decimal-le 3 n (omega arith) (omega arith) (omega arith); value = sym numeral.1; fits = omega arith },
      )

  -- the texts of both values, and that they are this target
  record IsSpelled (k : Kind) (t : Target) : Type 0 where
    target_value : IsFine (target_text t)
    detail_value : IsFine (detail_text t)
    reads : IsTarget k (target_text t) (detail_text t) t

  target_fine : (k : Kind) (t : Target) → TargetFits t → Suits k t → IsSpelled k t
  target_fine kind.Udp (target.Udp h port) fits suits =
      let place = host_fine h fits.0 suits.0 in
      let number = port_fine port fits.1 suits.1 in
      record { target_value = place.0; detail_value = number.0; reads = (place.1, number.1) }
  target_fine kind.Ip (target.Ip a protocol) fits suits =
      let place = area_fine a fits.0 suits in
      let number = protocol_fine protocol fits.1 in
      record { target_value = place.0; detail_value = number.0; reads = (place.1, number.1) }
  target_fine kind.Udp (target.Ip a protocol) fits suits = absurd suits
  target_fine kind.Ip (target.Udp h port) fits suits = absurd suits

  read_escaped : (k : Kind) (t : Target) → IsSpelled k t → IsTarget k (percent_decode (escaped (target_text t))) (percent_decode (escaped (detail_text t))) t
  read_escaped k t h =
      let one = decoded (target_text t) h.target_value.bytes in
      let two = decoded (detail_text t) h.detail_value.bytes in
      subst (λ (x : List ℕ). IsTarget k x (percent_decode (escaped (detail_text t))) t) (sym one)
      (subst (λ (y : List ℕ). IsTarget k (target_text t) y t) (sym two) h.reads)

  in_order : (k : Kind) (order : Order) (t : Target) → IsSpelled k t
      → IsValue (escaped (first_text order t)) × IsValue (escaped (second_text order t)) × Reads k order (escaped (first_text order t)) (escaped (second_text order t)) t
  in_order k TargetFirst t h = (escaped_value (target_text t) h.target_value, escaped_value (detail_text t) h.detail_value, read_escaped k t h)
  in_order k TargetLast t h = (escaped_value (detail_text t) h.detail_value, escaped_value (target_text t) h.target_value, read_escaped k t h)

  pub read_again : (shape : Shape) (t : Target) → begins is_delimiter shape.between ≡ true → ends_or_begins is_delimiter shape.after ≡ true
      → TargetFits t → Suits shape.kind t → Matches shape (expanded shape t) (Yes t)
  unfolding expanded
  read_again shape t delimited ended fits suits =
      let parts = in_order shape.kind shape.order t (target_fine shape.kind t fits suits) in (
        escaped (first_text shape.order t),
        escaped (second_text shape.order t),
        record {
          is = simp append_assoc;
          first_value = parts.0;
          first_ends = delimited_ends shape.between (escaped (second_text shape.order t) ++ shape.after) delimited;
          second_value = parts.1;
          second_ends = ended_ends shape.after ended;
        },
        parts.2,
      )
