-- A capsule at the front is one that is spelled there.
use Rattle.std.proofs.Common.{◌≡◌, ℕ, ◌+◌, ◌≤◌, List, [], ◌∷◌, ◌++◌, length, take, drop, Option, Some, None, refl, sym, ap, subst, ◌∙◌, arith, append_assoc, append-nil}
use Rattle.std.proofs.Math.Seq.{take-add}
use Rattle.std.proofs.lemmas.List.{take_all, take_at, drop_at, drop-drop, take-append-drop, length-append, length-drop, length-take-le}
use Rattle.mq_wire.specs.Integer.{int_of}
use Rattle.mq_capsule.specs.declared.head.Head.{Head}
use Rattle.mq_capsule.specs.Capsule.{Capsule, AreCapsules, head_of, capsule_of}
use Rattle.mq_capsule.specs.Spelling.{IsInteger, IsSpelling, AreJoined, BeginsWithNone}
use Rattle.mq_wire.proofs.Integers.{int_front}
use Rattle.mq_capsule.proofs.Fronts.{bound, binds}
use Rattle.mq_capsule.proofs.Capsules.{capsule_at, capsule_named, whole}

-- What is spelled stands at the front.

integer_front : (n : ℕ) (text more : List ℕ) → IsInteger n text → int_of (text ++ more) ≡ Some (n, length text)
integer_front n text more e =
    ap (λ (t : List ℕ). int_of (t ++ more)) (sym (take_all (length text) text (omega arith))) ∙ (int_front text (n, length text) e).stays more

spelled_head : (kind size : ℕ) (first second more : List ℕ) → IsInteger kind first → IsInteger size second
    → head_of (first ++ (second ++ more)) ≡ Some (record { kind = kind; length = size; used = length first + length second })
unfolding head_of
spelled_head kind size first second more k s =
    let behind = second ++ more in
    let n = length first in
    binds _ (int_of (first ++ behind)) (kind, n) _ (integer_front kind first behind k)
    (binds _ (int_of (drop n (first ++ behind))) (size, length second) _
    (ap int_of (drop_at first behind n refl) ∙ integer_front size second more s) refl)

pub spelled : (capsule : Capsule) (text more : List ℕ) → IsSpelling capsule text → capsule_of (text ++ more) ≡ Some (capsule, length text)
spelled capsule text more is =
    let value = capsule.value in
    let size = length value in
    let tail = value ++ more in
    let all = is.kind ++ (is.size ++ tail) in
    let joined : text ++ more ≡ all =
    ap (λ (t : List ℕ). t ++ more) is.text_is ∙ append_assoc is.kind (is.size ++ value) more ∙ ap (λ (b : List ℕ). is.kind ++ b) (append_assoc is.size value more) in
    let head : Head = record { kind = capsule.kind; length = size; used = length is.kind + length is.size } in
    let behind : drop head.used all ≡ tail =
    sym (drop-drop (length is.size) (length is.kind) all) ∙ ap (drop (length is.size)) (drop_at is.kind (is.size ++ tail) (length is.kind) refl)
    ∙ drop_at is.size tail (length is.size) refl in
    let len : head.used + size ≡ length text = omega (arith, ap length is.text_is, length-append is.kind (is.size ++ value), length-append is.size value) in
    let long : length text ≤ length all = omega (arith, ap length joined, length-append text more) in
    let value_is : take size (drop head.used all) ≡ value = ap (take size) behind ∙ take_at value more size refl in
    let same : capsule_at head all ≡ capsule = ap (λ (v : List ℕ). record { kind = capsule.kind; value = v }) value_is in
    let there = spelled_head capsule.kind size is.kind is.size tail is.kind_is is.size_is in
    ap capsule_of joined ∙ capsule_named all head capsule (length text) there long len same

-- What stands at the front is spelled there.

-- where the integers of a head stand
record HasIntegers (bytes : List ℕ) (head : Head) : Type 0 where
  first : ℕ
  second : ℕ
  used_is : first + second ≡ head.used
  within : first + second ≤ length bytes
  kind_is : IsInteger head.kind (take first bytes)
  size_is : IsInteger head.length (take second (drop first bytes))

integer_at : (bytes : List ℕ) (n used : ℕ) → int_of bytes ≡ Some (n, used) → (used ≤ length bytes) × IsInteger n (take used bytes)
integer_at bytes n used e =
    let a = int_front bytes (n, used) e in
    let own : int_of (take used bytes) ≡ Some (n, used) = ap int_of (sym (append-nil (take used bytes))) ∙ a.stays [] in
    (a.within, own ∙ ap (λ (u : ℕ). Some (n, u)) (sym (length-take-le used bytes a.within)))

head_integers : (bytes : List ℕ) (head : Head) → head_of bytes ≡ Some head → HasIntegers bytes head
unfolding head_of
head_integers bytes head e =
    let kind = bound _ (int_of bytes) head e in
    let size = bound _ (int_of (drop kind.0.1 bytes)) head kind.2 in
    let a = integer_at bytes kind.0.0 kind.0.1 kind.1 in
    let b = integer_at (drop kind.0.1 bytes) size.0.0 size.0.1 size.1 in
    let is : ◌≡◌ {A = Head} (record { kind = kind.0.0; length = size.0.0; used = kind.0.1 + size.0.1 }) head = let some = size.2 in cc in
    let P : ℕ → Type 0 = λ n. IsInteger n (take kind.0.1 bytes) in
    let Q : ℕ → Type 0 = λ n. IsInteger n (take size.0.1 (drop kind.0.1 bytes)) in
    record {
      first = kind.0.1;
      second = size.0.1;
      used_is = ap (λ (h : Head). h.used) is;
      within = omega (arith, a.0, b.0, length-drop kind.0.1 bytes);
      kind_is = subst P (ap (λ (h : Head). h.kind) is) a.1;
      size_is = subst Q (ap (λ (h : Head). h.length) is) b.1;
    }

spelling_at : (bytes : List ℕ) (capsule : Capsule) (used : ℕ) → capsule_of bytes ≡ Some (capsule, used) → IsSpelling capsule (take used bytes)
spelling_at bytes capsule used e =
    let w = whole bytes capsule used e in
    let head = w.head in
    let i = head_integers bytes head w.head_is in
    let value = take head.length (drop head.used bytes) in
    let len : length value ≡ head.length = length-take-le head.length (drop head.used bytes) (omega (arith, w.used_is, w.within, length-drop head.used bytes)) in
    let first = take i.first bytes in
    let second = take i.second (drop i.first bytes) in
    let front : take head.used bytes ≡ first ++ second = ap (λ (n : ℕ). take n bytes) (sym i.used_is) ∙ take-add i.first i.second bytes in
    let text : take used bytes ≡ first ++ (second ++ value) =
    ap (λ (n : ℕ). take n bytes) w.used_is ∙ take-add head.used head.length bytes ∙ ap (λ (b : List ℕ). b ++ value) front ∙ append_assoc first second value in
    let P : Capsule → Type 0 = λ c. IsSpelling c (take used bytes) in
    let Q : ℕ → Type 0 = λ n. IsInteger n second in
    subst P (sym w.capsule_is) (record {
      kind = first;
      size = second;
      text_is = text;
      kind_is = i.kind_is;
      size_is = subst Q (sym len) i.size_is;
    })

-- Whole lists.

begins_with_none : (bytes : List ℕ) → capsule_of bytes ≡ None → BeginsWithNone bytes
begins_with_none bytes none capsule text more e is = let some = spelled capsule text more is in let same = ap capsule_of e in absurd cc

pub are_joined : (bytes : List ℕ) (capsules : List Capsule) (rest : List ℕ) → AreCapsules bytes capsules rest → AreJoined bytes capsules rest × BeginsWithNone rest
are_joined bytes [] rest are = (sym are.1, begins_with_none rest (ap capsule_of are.1 ∙ are.0))
are_joined bytes (capsule ∷ capsules) rest are =
    let more = are_joined (drop are.0 bytes) capsules rest are.2 in
    ((take are.0 bytes, drop are.0 bytes, sym (take-append-drop are.0 bytes), spelling_at bytes capsule are.0 are.1, more.0), more.1)

none_by : (bytes : List ℕ) (front : Option (Capsule × ℕ)) → capsule_of bytes ≡ front → BeginsWithNone bytes → front ≡ None
none_by bytes None e none = refl
none_by bytes (Some front) e none =
    absurd (none front.0 (take front.1 bytes) (drop front.1 bytes) (sym (take-append-drop front.1 bytes)) (spelling_at bytes front.0 front.1 e))

pub are_capsules : (bytes : List ℕ) (capsules : List Capsule) (rest : List ℕ) → AreJoined bytes capsules rest → BeginsWithNone rest → AreCapsules bytes capsules rest
are_capsules bytes [] rest joined none = (ap capsule_of joined ∙ none_by rest (capsule_of rest) refl none, sym joined)
are_capsules bytes (capsule ∷ capsules) rest joined none =
    let text = joined.0 in
    let more = joined.1 in
    let P : List ℕ → Type 0 = λ b. AreCapsules b capsules rest in
    let behind : drop (length text) bytes ≡ more = ap (drop (length text)) joined.2 ∙ drop_at text more (length text) refl in (
      length text,
      ap capsule_of joined.2 ∙ spelled capsule text more joined.3,
      subst P (sym behind) (are_capsules more capsules rest joined.4 none),
    )
