-- The fields of a head are those that a map keeps, and it has room for them.
use Rattle.std.proofs.Common.{◌≡◌, ℕ, suc, ◌+◌, ◌<◌, ◌≤◌, List, [], ◌∷◌, ◌++◌, length, map, All, IsTrue, refl, sym, ap, subst, arith, bytes_eq, inl, inr}
use Rattle.std.proofs.lemmas.Bool.{cases_Bool}
use Rattle.std.proofs.lemmas.List.Sums.{sum_by-cons}
use Rattle.std.proofs.lemmas.List.Elements.{All-head, All-tail, All-nil, All-cons}
use Rattle.std.proofs.lemmas.List.{length-append, length-map}
use Rattle.httparse.specs.Grammar.{Field, IsField, is_token_byte as is_parsed_byte, IsToken as IsParsedToken}
use Rattle.httparse.specs.Spans.{IsHeaderWithin, header_bytes, name_and_value}
use Rattle.httparse.specs.declared.spans.HeaderSpan.{HeaderSpan}
use Rattle.httparse.proofs.TrimLemmas.{AllPass-trim_ows}
use Rattle.httparse.proofs.RunLemmas.{length-slice_range}
use Rattle.http_header.specs.FieldValue.{FieldValue}
use Rattle.http_header.specs.HeaderMap.{Entry, Entries, value_count, append, append_all}
use Rattle.http_header.specs.Token.{is_token_byte, is_value_byte, IsToken}
use Rattle.mq_head.specs.Kept.{kept, IsKeepable, HasFewer}

-- both crates have the same bytes of a name
same_byte : (b : ℕ) → is_parsed_byte b ≡ is_token_byte b
unfolding is_parsed_byte is_token_byte
same_byte b = refl

same_token : (bytes : List ℕ) → IsParsedToken bytes → IsToken bytes
same_token bytes is = (is.0, λ k d l. subst IsTrue (same_byte _) (is.1 k d l))

keepable : (f : Field) → IsField f → length f.name ≤ 65535 → IsKeepable (name_and_value f)
keepable f is short = ((same_token f.name is.name, short), AllPass-trim_ows is_value_byte f.raw is.raw)

-- a name among so many bytes has no more
name_short : (buf : List ℕ) (header : HeaderSpan) (n : ℕ) → n ≤ length buf → IsHeaderWithin n header → length (header_bytes buf header).0 ≤ length buf
name_short buf header n within is =
    let lies = is.0 in
    omega (arith, length-slice_range buf header.name.start header.name.end lies.0 (omega arith))

-- the spans of a head's fields cover what a map keeps
pub keepable_all : (buf : List ℕ) (n : ℕ) (headers : List HeaderSpan) (fields : List Field) → n ≤ length buf → length buf ≤ 65535
    → All (IsHeaderWithin n) headers → map (header_bytes buf) headers ≡ map name_and_value fields → All IsField fields
    → All (λ header. IsKeepable (header_bytes buf header)) headers
keepable_all buf n [] fields in_buf short within same are = All-nil (λ header. IsKeepable (header_bytes buf header))
keepable_all buf n (h ∷ hs) [] in_buf short within same are = absurd cc
keepable_all buf n (h ∷ hs) (f ∷ fs) in_buf short within same are =
    let first : header_bytes buf h ≡ name_and_value f = cc in
    let rest : map (header_bytes buf) hs ≡ map name_and_value fs = cc in
    let few = name_short buf h n in_buf (All-head (IsHeaderWithin n) h hs within) in
    let len : length (header_bytes buf h).0 ≡ length f.name = ap (λ (p : List ℕ × List ℕ). length p.0) first in
    let own : IsKeepable (header_bytes buf h) =
    subst IsKeepable (sym first) (keepable f (All-head IsField f fs are) (omega (arith, few, len))) in
    All-cons (λ header. IsKeepable (header_bytes buf header)) h hs own
    (keepable_all buf n hs fs in_buf short (All-tail (IsHeaderWithin n) h hs within) rest (All-tail IsField f fs are))

-- one more value adds no more than one name and one value
counts : (m : Entries FieldValue) (name : List ℕ) (value : FieldValue)
    → (length (append m name value) ≤ suc (length m)) × (value_count (append m name value) ≤ suc (value_count m))
counts [] name value = (omega arith, omega arith)
counts (e ∷ m) name value =
    let values : Entry FieldValue → ℕ = λ e. length e.1 in
    elim (cases_Bool (bytes_eq e.0 name)) [
      | inl t ↦ rw t (omega arith, omega (arith, sum_by-cons values e m, sum_by-cons values (e.0, e.1 ++ value ∷ []) m, length-append e.1 (value ∷ [])))
      | inr n ↦ (
          let later = counts m name value in
          rw n (omega (arith, later.0), omega (arith, later.1, sum_by-cons values e m, sum_by-cons values e (append m name value)))
          )
    ]

few_by : (m : Entries FieldValue) (n : ℕ) (items : List (List ℕ × FieldValue)) → HasFewer n m → HasFewer (n + length items) (append_all m items)
few_by m n [] few = (omega (arith, few.0), omega (arith, few.1))
few_by m n (item ∷ items) few =
    let one = counts m item.0 item.1 in
    let more = few_by (append m item.0 item.1) (suc n) items (omega (arith, few.0, one.0), omega (arith, few.1, one.1)) in
    (omega (arith, more.0), omega (arith, more.1))

-- so a map has no more than were appended
pub few_kept : (n : ℕ) (fields : List (List ℕ × List ℕ)) → length fields < n → HasFewer n (append_all [] (map kept fields))
few_kept n fields few =
    let own = few_by [] 1 (map kept fields) (omega arith, omega arith) in
    (omega (arith, own.0, length-map fields kept), omega (arith, own.1, length-map fields kept))
