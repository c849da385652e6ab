-- What is left behind an integer, a string and a form is shorter; and a limit that is read is allowed.
use Rattle.std.proofs.Common.{◌≡◌, ℕ, ◌+◌, ◌-◌, ◌*◌, ◌%◌, ◌^◌, ◌<◌, ◌≤◌, zero, suc, Bool, true, false, cond, List, [], ◌∷◌, length, Option, Some, None, Ok, sym, ap, subst, arith, length-drop}
use Rattle.std.specs.Prelude.{nat_lt}
use Rattle.mq_hpack.specs.declared.field.Field.{Field}
use Rattle.mq_hpack.specs.declared.representation.Representation.{Representation}
use Rattle.mq_hpack.specs.declared.representation.Representation.TheVariants.{Plain, Stored, SizeUpdate}
use Rattle.mq_hpack.specs.Integer.{further, integer_of}
use Rattle.mq_hpack.specs.Text.{IsString}
use Rattle.mq_hpack.specs.Table.{Table}
use Rattle.mq_hpack.specs.Representation.{Kind, Indexes, Stores, Updates, Passes, kind_of, IsRepresentation, IsOf, IsNameAt, IsLiteral}
use Rattle.mq_hpack.specs.Taking.{IsAllowed}

found_shorter : (n : ℕ) (p x : ℕ × List ℕ) → Some p ≡ Some x → length p.1 < n → length x.1 < n
found_shorter n p x h lt = let e : p ≡ x = cc in subst (λ (y : ℕ × List ℕ). length y.1 < n) e lt

tested_shorter : (n : ℕ) (b : Bool) (p x : ℕ × List ℕ) → length p.1 < n → cond b (Some p) None ≡ Some x → length x.1 < n
tested_shorter n true p x lt h = found_shorter n p x h lt
tested_shorter n false p x lt h = cc

either_shorter : (n : ℕ) (b : Bool) (one other : Option (ℕ × List ℕ)) (x : ℕ × List ℕ) → (one ≡ Some x → length x.1 < n) → (other ≡ Some x → length x.1 < n) → cond b one other ≡ Some x → length x.1 < n
either_shorter n true one other x f g h = f h
either_shorter n false one other x f g h = g h

further_shorter : (k worth n : ℕ) (bytes : List ℕ) (x : ℕ × List ℕ) → further k worth n bytes ≡ Some x → length x.1 < length bytes
further_shorter zero worth n bytes x h = cc
further_shorter (suc k) worth n [] x h = cc
further_shorter (suc k) worth n (b ∷ bs) x h =
    either_shorter (length (b ∷ bs)) (nat_lt b 128) (cond (nat_lt (n + b * worth) (2 ^ 32)) (Some (n + b * worth, bs)) None)
    (further k (worth * 128) (n + (b - 128) * worth) bs) x
    (λ e. tested_shorter (length (b ∷ bs)) (nat_lt (n + b * worth) (2 ^ 32)) (n + b * worth, bs) x (omega arith) e)
    (λ e. let s = further_shorter k (worth * 128) (n + (b - 128) * worth) bs x e in omega arith)
    h

integer_shorter : (prefix : ℕ) (bytes : List ℕ) (x : ℕ × List ℕ) → integer_of prefix bytes ≡ Some x → length x.1 < length bytes
unfolding integer_of
integer_shorter prefix [] x h = cc
integer_shorter prefix (b ∷ bs) x h =
    either_shorter (length (b ∷ bs)) (nat_lt (b % 2 ^ prefix) (2 ^ prefix - 1)) (Some (b % 2 ^ prefix, bs)) (further 5 1 (2 ^ prefix - 1) bs) x
    (λ e. found_shorter (length (b ∷ bs)) (b % 2 ^ prefix, bs) x e (omega arith))
    (λ e. let s = further_shorter 5 1 (2 ^ prefix - 1) bs x e in omega arith)
    h

string_shorter : (bytes : List ℕ) (x : List ℕ × List ℕ) → IsString bytes (Ok x) → length x.1 < length bytes
string_shorter bytes x h =
    let s = integer_shorter 7 bytes h.0 h.1 in
    let e = ap (λ (xs : List ℕ). length xs) h.2.1 in
    let d = length-drop h.0.0 h.0.1 in
    omega arith

name_at_shorter : (t : Table) (i : ℕ) (bytes : List ℕ) (x : List ℕ × List ℕ) → IsNameAt t i bytes (Ok x) → length x.1 ≤ length bytes
name_at_shorter t zero bytes x h = let s = string_shorter bytes x h in omega arith
name_at_shorter t (suc i) bytes x h = let e = ap (λ (y : List ℕ × List ℕ). length y.1) h.2 in omega arith

literal_shorter : (t : Table) (prefix : ℕ) (bytes : List ℕ) (x : Field × List ℕ) → IsLiteral t prefix bytes (Ok x) → length x.1 < length bytes
literal_shorter t prefix bytes x h =
    let name = h.1 in
    let s = integer_shorter prefix bytes name.0 name.1 in
    let n = name_at_shorter t name.0.0 name.0.1 h.0 name.2 in
    let v = string_shorter h.0.1 (x.0.value, x.1) h.2.1 in
    omega arith

of_shorter : (kind : Kind) (t : Table) (total : ℕ) (bytes : List ℕ) (x : Representation × List ℕ) → IsOf kind t total bytes (Ok x) → length x.1 < length bytes
of_shorter Indexes t total bytes x h =
    let s = integer_shorter 7 bytes h.0 h.1 in
    let e = ap (λ (y : Representation × List ℕ). length y.1) h.2.2 in
    omega arith
of_shorter Stores t total bytes x h =
    let s = literal_shorter t 6 bytes h.0 h.1 in
    let e = ap (λ (y : Representation × List ℕ). length y.1) h.2 in
    omega arith
of_shorter Updates t zero bytes x h =
    let s = integer_shorter 5 bytes h.0 h.1 in
    let e = ap (λ (y : Representation × List ℕ). length y.1) h.2.1 in
    omega arith
of_shorter Updates t (suc n) bytes x h = absurd h
of_shorter Passes t total bytes x h =
    let s = literal_shorter t 4 bytes h.0 h.1 in
    let e = ap (λ (y : Representation × List ℕ). length y.1) h.2 in
    omega arith

pub representation_shorter : (t : Table) (total : ℕ) (bytes : List ℕ) (x : Representation × List ℕ) → IsRepresentation t total bytes (Ok x) → length x.1 < length bytes
representation_shorter t total bytes x h = of_shorter (kind_of bytes) t total bytes x h

allowed_as : (made form : Representation) → form ≡ made → IsAllowed made → IsAllowed form
allowed_as made form e h = subst (λ (y : Representation). IsAllowed y) (sym e) h

of_allowed : (kind : Kind) (t : Table) (total : ℕ) (bytes : List ℕ) (x : Representation × List ℕ) → IsOf kind t total bytes (Ok x) → IsAllowed x.0
of_allowed Indexes t total bytes x h = allowed_as (Plain h.2.0) x.0 (ap (λ y. y.0) h.2.2) tt
of_allowed Stores t total bytes x h = allowed_as (Stored h.0.0) x.0 (ap (λ y. y.0) h.2) tt
of_allowed Updates t zero bytes x h = allowed_as (SizeUpdate h.0.0) x.0 (ap (λ y. y.0) h.2.1) h.2.0
of_allowed Updates t (suc n) bytes x h = absurd h
of_allowed Passes t total bytes x h = allowed_as (Plain h.0.0) x.0 (ap (λ y. y.0) h.2) tt

pub representation_allowed : (t : Table) (total : ℕ) (bytes : List ℕ) (x : Representation × List ℕ) → IsRepresentation t total bytes (Ok x) → IsAllowed x.0
representation_allowed t total bytes x h = of_allowed (kind_of bytes) t total bytes x h
