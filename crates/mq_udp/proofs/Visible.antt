-- The path and the host of a request are visible bytes, and few.
use Rattle.std.proofs.Common.{◌≡◌, ℕ, ◌*◌, ◌+◌, ◌<◌, ◌≤◌, ◌^◌, ◌==◌, ◌||◌, Bool, true, false, List, [], ◌∷◌, ◌++◌, length, codes, decimal, IsTrue, sym, ap, subst, ◌∙◌, refl, arith, inl, inr, length-append}
use Rattle.std.proofs.lemmas.Bool.{and_parts, and_from, cases_Bool}
use Rattle.std.proofs.lemmas.Bool.Decides.{nat_tests}
use Rattle.std.proofs.lemmas.List.Folds.{list_all-append}
use Rattle.std.proofs.lemmas.Fmt.{decimal_is_IsNumeral, length-decimal-le}
use Rattle.std.specs.List.{list_all}
use Rattle.std.specs.Str.Parse.{AllDigits}
use Rattle.mq_text.specs.Cut.{Lacks}
use Rattle.mq_addr.specs.declared.addr.Addr.{Addr}
use Rattle.mq_addr.specs.declared.addr.Addr.TheVariants.{V4, V6}
use Rattle.mq_addr.specs.Addr.{is_addr_byte, HasAddrBytes}
use Rattle.mq_addr.specs.Printed.{IsReadAgain, Fits, addr_text_of}
use Rattle.mq_client.specs.Requests.{is_visible, AreVisible}
use Rattle.mq_target.specs.Classes.{is_name_byte, is_unreserved}
use Rattle.mq_target.specs.Expansion.{escaped, expanded, host_text}
use Rattle.mq_target.specs.Laws.{AreEscaped}
use Rattle.mq_target.specs.declared.target.Host.{Host}
use Rattle.mq_target.specs.declared.target.Target.{Target}
use Rattle.mq_target.specs.declared.target.Target.TheVariants as target
use Rattle.mq_target.specs.Expansion.{target_text, detail_text}
use Rattle.mq_udp.specs.Asked.{authority, in_brackets, path_to}

-- a text of one class is one of a wider class
weaker : (p q : ℕ → Bool) → ((b : ℕ) → p b ≡ true → q b ≡ true) → (text : List ℕ) → list_all p text ≡ true → list_all q text ≡ true
weaker p q step [] h = refl
weaker p q step (b ∷ text) h =
    let parts = and_parts (p b) (list_all p text) h in
    and_from _ _ (step b parts.0) (weaker p q step text parts.1)

both : (xs ys : List ℕ) → list_all is_visible xs ≡ true → list_all is_visible ys ≡ true → list_all is_visible (xs ++ ys) ≡ true
both xs ys h k = list_all-append is_visible xs ys ∙ and_from _ _ h k

-- ---- the host

addr_byte : (b : ℕ) → is_addr_byte b ≡ true → is_visible b ≡ true
unfolding is_addr_byte
addr_byte b h = grind (arith, nat_tests)

-- a text that lacks each other byte
all_of_class : (text : List ℕ) → ((b : ℕ) → is_addr_byte b ≡ false → Lacks b text) → list_all is_addr_byte text ≡ true
all_of_class [] h = refl
all_of_class (x ∷ text) h =
    elim (cases_Bool (is_addr_byte x)) [
      | inl in_class ↦ and_from _ _ in_class (all_of_class text (λ b other. (h b other).1))
      | inr other ↦ absurd ((h x other).0 refl)
    ]

addr_visible : HasAddrBytes → IsReadAgain → (a : Addr) → Fits a → list_all is_visible (addr_text_of a) ≡ true
addr_visible bytes again a fits =
    let text = addr_text_of a in
    weaker is_addr_byte is_visible addr_byte text (all_of_class text (λ b other. bytes text a b (again.addr a fits) other))

digits_visible : (ds : List ℕ) → AllDigits 10 ds → list_all is_visible ds ≡ true
digits_visible [] h = refl
digits_visible (d ∷ ds) h = and_from _ _ (grind (arith, nat_tests)) (digits_visible ds h.1)

decimal_visible : (n : ℕ) → n < 2 ^ 64 → list_all is_visible (decimal n) ≡ true
decimal_visible n small = let numeral = (decimal_is_IsNumeral n small).0 in digits_visible (decimal n) numeral.1

brackets_visible : HasAddrBytes → IsReadAgain → (a : Addr) → Fits a → list_all is_visible (in_brackets a) ≡ true
brackets_visible bytes again (V4 bits) fits = addr_visible bytes again (V4 bits) fits
brackets_visible bytes again (V6 bits) fits = both (91 ∷ addr_text_of (V6 bits)) (93 ∷ []) (and_from _ _ refl (addr_visible bytes again (V6 bits) fits)) refl

pub authority_visible : HasAddrBytes → IsReadAgain → (a : Addr) → Fits a → (port : ℕ) → port < 2 ^ 16 → AreVisible (authority a port)
authority_visible bytes again a fits port small =
    both (in_brackets a ++ 58 ∷ []) (decimal port) (both (in_brackets a) (58 ∷ []) (brackets_visible bytes again a fits) refl) (decimal_visible port (omega arith))

brackets_short : (a : Addr) → length (addr_text_of a) ≤ 39 → length (in_brackets a) ≤ 41
brackets_short (V4 bits) few = omega (arith, few)
brackets_short (V6 bits) few = omega (arith, few, length-append (91 ∷ addr_text_of (V6 bits)) (93 ∷ []))

pub authority_short : (a : Addr) → length (addr_text_of a) ≤ 39 → (port : ℕ) → port < 2 ^ 16 → length (authority a port) ≤ 47
authority_short a few port small =
    let digits = length-decimal-le 5 port (omega arith) (omega arith) (omega arith) in
    omega (arith, brackets_short a few, digits, length-append (in_brackets a ++ 58 ∷ []) (decimal port), length-append (in_brackets a) (58 ∷ []))

-- ---- the path

escaped_byte : (b : ℕ) → (is_unreserved b || b == 37) ≡ true → is_visible b ≡ true
unfolding is_unreserved is_name_byte
escaped_byte b h = grind (arith, nat_tests)

escaped_visible : AreEscaped → (text : List ℕ) → list_all is_visible (escaped text) ≡ true
escaped_visible are text = weaker (λ b. is_unreserved b || b == 37) is_visible escaped_byte (escaped text) (are text).bytes

abbrev before : List ℕ
before = codes "/.well-known/masque/udp/"

pub path_visible : AreEscaped → (t : Target) → AreVisible (path_to t)
unfolding expanded
path_visible are t =
    let first = escaped (target_text t) in
    let second = escaped (detail_text t) in
    let a = both before first refl (escaped_visible are (target_text t)) in
    let b = both (before ++ first) (47 ∷ []) a refl in
    let c = both (before ++ first ++ 47 ∷ []) second b (escaped_visible are (detail_text t)) in
    both (before ++ first ++ 47 ∷ [] ++ second) (47 ∷ []) c refl

short : AreEscaped → (h : Host) (port : ℕ) → port < 2 ^ 16 → length (host_text h) ≤ 253 → length (path_to (target.Udp h port)) ≤ 800
unfolding expanded
short are h port small few =
    let digits = length-decimal-le 5 port (omega arith) (omega arith) (omega arith) in
    let first = (are (host_text h)).short in
    let second = (are (decimal port)).short in
    let a = escaped (host_text h) in
    let b = escaped (decimal port) in
    let all = length-append (before ++ a ++ 47 ∷ [] ++ b) (47 ∷ []) in
    let most = length-append (before ++ a ++ 47 ∷ []) b in
    let more = length-append (before ++ a) (47 ∷ []) in
    omega (arith, digits, few, first, second, all, most, more, length-append before a)

pub path_short : AreEscaped → (t : Target) (h : Host) (port : ℕ) → t ≡ target.Udp h port → port < 2 ^ 16 → length (host_text h) ≤ 253 → length (path_to t) ≤ 800
path_short are t h port is small few = subst (λ (x : Target). length (path_to x) ≤ 800) (sym is) (short are h port small few)
