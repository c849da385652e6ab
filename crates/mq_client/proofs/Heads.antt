-- Heads of answers at the front of bytes.
use Rattle.std.proofs.Common.{◌≡◌, ℕ, suc, ◌+◌, ◌*◌, ◌-◌, ◌<◌, ◌≤◌, List, [], ◌∷◌, ◌++◌, length, take, drop, All, refl, sym, ap, subst, ◌∙◌, arith, inl, inr, length-append, append_assoc}
use Rattle.std.specs.Prelude.{flat_map, None, IsTrue}
use Rattle.std.specs.Char.{is_ascii_digit}
use Rattle.std.proofs.lemmas.List.{take-append-le, take-append-drop, take_at, take_all, drop_all, length-take, append-nil, length-map, length-take-le}
use Rattle.std.proofs.lemmas.Bool.{cases_lt}
use Rattle.std.proofs.lemmas.List.Elements.{All-head, All-tail, All-nil, All-cons}
use Rattle.httparse.specs.declared.spans.HeaderSpan.{HeaderSpan}
use Rattle.httparse.specs.declared.spans.ResponseSpans.{ResponseSpans}
use Rattle.httparse.specs.Grammar.{AllPass, is_value_byte, Field, IsField, LineEnd, crlf, lf, print_end, print_blank, print_version, print_reason, print_field, ResponseHead, IsResponseHead, print_response, status_code, ReadsResponse, HasNoResponse, NeverHasResponse}
use Rattle.httparse.specs.Spans.{ResponseExceeds, IsResponseWithin, IsResponseAt, header_bytes, name_and_value}
use Rattle.httparse.proofs.GrammarLemmas.{print_response-append, response_unique, ReadsResponse-append}
use Rattle.mq_head.specs.Heads.{head_limit}
use Rattle.mq_client.specs.declared.answer.Answer.{Answer}
use Rattle.mq_client.specs.declared.answer.Answer.TheVariants.{More, Switched, Status, Bad}
use Rattle.mq_client.specs.Heads.{HasHead, Waits, IsAnswered, IsMalformed, max_fields}
use Rattle.mq_client.specs.Brings.{switching_protocols}
use Rattle.mq_client.specs.Answers.{IsDecided, IsAnswer}

-- ---- more bytes

has_append : (bytes more : List ℕ) (h : ResponseHead) → HasHead bytes h → HasHead (bytes ++ more) h
has_append bytes more h x =
    record { rest = x.rest ++ more; reads = ReadsResponse-append bytes h x.rest more x.reads; fits = x.fits }

front_of : (front more text rest : List ℕ) → front ++ more ≡ text ++ rest → length text ≤ length front
    → front ≡ text ++ drop (length text) front
front_of front more text rest e within =
    let n = length text in
    let begins : take n front ≡ text =
    sym (take-append-le n front more within) ∙ ap (take n) e ∙ take_at text rest n refl in
    sym (take-append-drop n front) ∙ ap (λ t. t ++ drop n front) begins

-- a head that ends within the front part stands there
reads_front : (front more : List ℕ) (h : ResponseHead) (rest : List ℕ) → ReadsResponse (front ++ more) h rest
    → length (print_response h) ≤ length front → ReadsResponse front h (drop (length (print_response h)) front)
reads_front front more h rest x within = (x.0, front_of front more (print_response h) rest x.1 within)

has_front : (front more : List ℕ) (h : ResponseHead) → HasHead (front ++ more) h
    → length (print_response h) ≤ length front → HasHead front h
has_front front more h x within =
    record { rest = drop (length (print_response h)) front; reads = reads_front front more h x.rest x.reads within; fits = x.fits }

one_head : (bytes : List ℕ) (h k : ResponseHead) → HasHead bytes h → HasHead bytes k → h ≡ k
one_head bytes h k x y = (response_unique bytes h k x.rest y.rest x.reads y.reads).0

head_within : (bytes : List ℕ) (h : ResponseHead) (rest : List ℕ) → ReadsResponse bytes h rest → length (print_response h) ≤ length bytes
head_within bytes h rest x = omega (arith, ap length x.1, length-append (print_response h) rest)

never_append : (bytes more : List ℕ) → NeverHasResponse bytes → NeverHasResponse (bytes ++ more)
never_append bytes more never = λ later h rest reads.
    never (more ++ later) h rest (subst (λ b. ReadsResponse b h rest) (append_assoc bytes more later) reads)

never_none : (bytes : List ℕ) → NeverHasResponse bytes → HasNoResponse bytes
never_none bytes never = λ h rest reads. never [] h rest (subst (λ b. ReadsResponse b h rest) (sym (append-nil bytes)) reads)

pub malformed_append : (bytes more : List ℕ) → IsMalformed bytes → IsMalformed (bytes ++ more)
malformed_append bytes more x =
    elim x [
      | inl never ↦ inl (never_append bytes more never)
      | inr other ↦ elim other [
        | inl long ↦
            let len = length-append bytes more in
            let many = long.0 in
            inr (inl (omega arith, λ h has. let fits = has.fits in long.1 h (has_front bytes more h has (omega arith))))
        | inr over ↦ inr (inr (over.0, has_append bytes more over.0 over.1, over.2))
      ]
    ]

pub answered_append : (bytes more : List ℕ) (status used : ℕ) → IsAnswered bytes status used → IsAnswered (bytes ++ more) status used
answered_append bytes more status used x =
    record { head = x.head; has = has_append bytes more x.head x.has; few = x.few; status_is = x.status_is; used_is = x.used_is }

pub answered_within : (bytes : List ℕ) (status used : ℕ) → IsAnswered bytes status used → used ≤ length bytes
answered_within bytes status used x = let is = x.used_is in omega (arith, head_within bytes x.head x.has.rest x.has.reads)

-- ---- one answer

pub one_answered : (bytes : List ℕ) (s t u v : ℕ) → IsAnswered bytes s u → IsAnswered bytes t v → (s ≡ t) × (u ≡ v)
one_answered bytes s t u v x y =
    let same = one_head bytes x.head y.head x.has y.has in (
      x.status_is ∙ ap status_code same ∙ sym y.status_is,
      x.used_is ∙ ap (λ (h : ResponseHead). length (print_response h)) same ∙ sym y.used_is,
    )

pub waits_or_answered : (bytes : List ℕ) (s u : ℕ) → Waits bytes → IsAnswered bytes s u → ⊥
waits_or_answered bytes s u x y = x.no_head y.head y.has.rest y.has.reads

pub waits_or_malformed : (bytes : List ℕ) → Waits bytes → IsMalformed bytes → ⊥
waits_or_malformed bytes x y =
    elim y [
      | inl never ↦ never x.goes_on.0 x.goes_on.1 [] x.goes_on.2
      | inr other ↦ elim other [
        | inl long ↦ (let few = x.short in let many = long.0 in absurd (omega arith))
        | inr over ↦ x.no_head over.0 over.1.rest over.1.reads
      ]
    ]

pub answered_or_malformed : (bytes : List ℕ) (s u : ℕ) → IsAnswered bytes s u → IsMalformed bytes → ⊥
answered_or_malformed bytes s u x y =
    elim y [
      | inl never ↦ never_none bytes never x.head x.has.rest x.has.reads
      | inr other ↦ elim other [
        | inl long ↦ long.1 x.head x.has
        | inr over ↦
            let same = ap (λ (h : ResponseHead). length h.fields) (one_head bytes x.head over.0 x.has over.1) in
            let few = x.few in
            let many = over.2 in
            absurd (omega arith)
      ]
    ]

-- ---- room for fields

-- a field has at least three bytes
end_some : (e : LineEnd) → 1 ≤ length (print_end e)
end_some crlf = omega arith
end_some lf = omega arith

fields_len : (fs : List Field) → All IsField fs → 3 * length fs ≤ length (flat_map print_field fs)
fields_len [] are = omega arith
fields_len (f ∷ fs) are =
    let field = All-head IsField f fs are in
    let some = field.name.0 in
    let tail : length (58 ∷ f.raw) ≡ suc (length f.raw) = refl in
    let own : length (print_field f) ≡ length (f.name ++ 58 ∷ f.raw) + length (print_end f.end) = length-append (f.name ++ 58 ∷ f.raw) (print_end f.end) in
    let later = fields_len fs (All-tail IsField f fs are) in
    let e : length (flat_map print_field (f ∷ fs)) ≡ length (print_field f) + length (flat_map print_field fs) = length-append (print_field f) (flat_map print_field fs) in
    let n : length (f ∷ fs) ≡ suc (length fs) = refl in
    omega (
      arith,
      later,
      some,
      e,
      n,
      own,
      tail,
      length-append f.name (58 ∷ f.raw),
      end_some f.end,
    )

-- a head has more than the bytes of its fields
head_len : (h : ResponseHead) → All IsField h.fields → 3 * length h.fields + 1 ≤ length (print_response h)
head_len h are =
    let fields = flat_map print_field h.fields in
    let last = print_end h.last in
    let section : List ℕ = fields ++ last in
    let behind = print_end h.line_end ++ (section ++ []) in
    let code = h.digits ++ (print_reason h.reason ++ behind) in
    let line = print_version h.minor ++ 32 ∷ code in
    let whole : length (print_response h ++ []) ≡ length (print_blank h.blank ++ line) = ap length (print_response-append h []) in
    let e : length (32 ∷ code) ≡ suc (length code) = refl in
    omega (
      arith,
      fields_len h.fields are,
      whole,
      length-append (print_response h) [],
      length-append (print_blank h.blank) line,
      length-append (print_version h.minor) (32 ∷ code),
      e,
      length-append h.digits (print_reason h.reason ++ behind),
      length-append (print_reason h.reason) behind,
      length-append (print_end h.line_end) (section ++ []),
      length-append section [],
      length-append fields last,
    )

-- room for a third of the bytes serves
pub fits_room : (room : ℕ) (bytes : List ℕ) → length bytes < 3 * room + 3 → ResponseExceeds room bytes → ⊥
fits_room room bytes few x =
    let front = x.0 in
    let rest = x.1 in
    let h = x.3 in
    let reads = x.4 in
    omega (
      arith,
      x.5,
      head_len h reads.0.fields,
      ap length x.2,
      length-append front rest,
      ap length reads.1,
      length-append front (10 ∷ []),
      length-append (print_response h) [],
    )

-- ---- nothing came

-- a head that could follow
abbrev some_head : ResponseHead
some_head = record { blank = []; minor = 1; digits = 50 ∷ 48 ∷ 48 ∷ []; reason = None; line_end = lf; fields = []; last = lf }

pub waits_first : Waits []
waits_first = record {
  no_head = λ h rest reads. let some = head_len h reads.0.fields in omega (arith, head_within [] h rest reads, some);
  short = omega arith;
  goes_on = (print_response some_head, some_head, (is_some, sym (append-nil (print_response some_head))));
}
  where
    digits_are : AllPass is_ascii_digit some_head.digits
    digits_are =
        let P : ℕ → Type 0 = λ b. IsTrue (is_ascii_digit b) in
        All-cons P 50 (48 ∷ 48 ∷ []) refl (All-cons P 48 (48 ∷ []) refl (All-cons P 48 [] refl (All-nil P)))

    is_some : IsResponseHead some_head
    is_some = record { minor = omega arith; digits = (refl, digits_are); reason = All-nil (λ b. IsTrue (is_value_byte b)); fields = All-nil IsField }

-- ---- what the parser found

pub found_has : (front : List ℕ) (headers : List HeaderSpan) (r : ResponseSpans) (h : ResponseHead) → IsResponseAt front headers r h
    → length front ≤ head_limit → HasHead front h
found_has front headers r h at fits = record {
  rest = drop r.len front;
  reads = at.reads;
  fits = omega (arith, fits, head_within front h (drop r.len front) at.reads);
}

pub count_is : (front : List ℕ) (headers : List HeaderSpan) (r : ResponseSpans) (h : ResponseHead) → IsResponseWithin front headers r
    → IsResponseAt front headers r h → r.headers ≡ length h.fields
count_is front headers r h within at =
    omega (
      arith,
      length-map h.fields name_and_value,
      ap length at.fields,
      length-map (take r.headers headers) (header_bytes front),
      length-take-le r.headers headers within.section.count_fits,
    )

pub found_answered : (front : List ℕ) (headers : List HeaderSpan) (r : ResponseSpans) (h : ResponseHead) → IsResponseWithin front headers r
    → IsResponseAt front headers r h → length front ≤ head_limit → r.headers ≤ max_fields → IsAnswered front r.code r.len
found_answered front headers r h within at fits few = record {
  head = h;
  has = found_has front headers r h at fits;
  few = omega (arith, few, count_is front headers r h within at);
  status_is = at.code;
  used_is = at.len;
}

-- ---- a piece behind bytes that waited

waited_less : (bytes front : List ℕ) (status whole : ℕ) → Waits bytes → IsAnswered (bytes ++ front) status whole → length bytes < whole
waited_less bytes front status whole waits x =
    elim (cases_lt (length bytes) whole) [
      | inl less ↦ less
      | inr over ↦
          let is = x.used_is in
          absurd (waits.no_head x.head _ (reads_front bytes front x.head x.has.rest x.has.reads (omega arith)))
    ]

-- what the bytes of a piece within the limit decide, the whole piece does
pub answer_on : (bytes front later : List ℕ) (answer : Answer) → Waits bytes → IsDecided (bytes ++ front) (length bytes) answer
    → (length (bytes ++ front) < head_limit → later ≡ []) → IsAnswer bytes (front ++ later) answer
answer_on bytes front later answer waits x none = on answer x
  where
    joined : (bytes ++ front) ++ later ≡ bytes ++ (front ++ later)
    joined = append_assoc bytes front later

    all : (status whole : ℕ) → IsAnswered (bytes ++ front) status whole → IsAnswered (bytes ++ (front ++ later)) status whole
    all status whole a = subst (λ b. IsAnswered b status whole) joined (answered_append (bytes ++ front) later status whole a)

    on : (a : Answer) → IsDecided (bytes ++ front) (length bytes) a → IsAnswer bytes (front ++ later) a
    on More d = subst (λ l. Waits (bytes ++ l)) (sym (ap (λ l. front ++ l) (none d.short) ∙ append-nil front)) d
    on (Switched used) d =
        let less = waited_less bytes front switching_protocols d.0 waits d.1 in
        let n = d.0 in
        let used_is : used ≡ n - length bytes = d.2 in
        let whole : n ≡ length bytes + used = omega (arith, less, used_is) in (
          subst (λ m. IsAnswered (bytes ++ (front ++ later)) switching_protocols m) whole (all switching_protocols n d.1),
          omega (arith, whole, answered_within (bytes ++ front) switching_protocols n d.1, length-append bytes front, length-append front later),
        )
    on (Status status) d = (d.0, all status d.0 d.1, d.2)
    on Bad d = subst IsMalformed joined (malformed_append (bytes ++ front) later d)

-- what a reader keeps of a piece is within the limit
pub answers : (bytes piece front kept text : List ℕ) (before : ℕ) (answer : Answer) → Waits bytes → before ≡ length bytes
    → front ≡ take (head_limit - before) piece → kept ≡ bytes ++ front → text ≡ kept → (length text ≤ head_limit → IsDecided text before answer)
    → IsAnswer bytes piece answer
answers bytes piece front kept text before answer waits before_is front_is kept_is text_is decides =
    let n = head_limit - before in
    let few = waits.short in
    let front_len = ap length front_is ∙ length-take n piece in
    let len = ap length (text_is ∙ kept_is) ∙ length-append bytes front in
    let decided : IsDecided (bytes ++ front) (length bytes) answer =
    subst (λ m. IsDecided (bytes ++ front) m answer) before_is
    (subst (λ t. IsDecided t before answer) (text_is ∙ kept_is) (decides (omega (arith, before_is, few, front_len, len)))) in
    let whole : front ++ drop n piece ≡ piece = ap (λ l. l ++ drop n piece) front_is ∙ take-append-drop n piece in
    let none : length (bytes ++ front) < head_limit → drop n piece ≡ [] =
    λ short. drop_all n piece (omega (arith, short, before_is, few, front_len, length-append bytes front)) in
    subst (λ l. IsAnswer bytes l answer) whole (answer_on bytes front (drop n piece) answer waits decided none)

-- and all of it where more is waited for
pub keeps_all : (bytes piece front kept : List ℕ) (before : ℕ) → before ≡ length bytes → front ≡ take (head_limit - before) piece
    → kept ≡ bytes ++ front → Waits (bytes ++ piece) → kept ≡ bytes ++ piece
keeps_all bytes piece front kept before before_is front_is kept_is waits =
    let few = waits.short in
    let fits : length piece ≤ head_limit - before = omega (arith, before_is, few, length-append bytes piece) in
    kept_is ∙ ap (λ l. bytes ++ l) (front_is ∙ take_all (head_limit - before) piece fits)
