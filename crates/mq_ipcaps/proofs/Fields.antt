-- The bytes of a field that was read, and a field that is read from its bytes.
use Rattle.std.proofs.Common.{◌≡◌, ℕ, suc, ◌^◌, ◌%◌, ◌<◌, ◌≤◌, Bool, true, false, cond, not, ltb, eqb, ◌||◌, List, [], ◌∷◌, ◌++◌, length, take, drop, Option, Some, None, Result, Ok, Err, ◌⊎◌, inl, inr, refl, sym, ap, subst, ◌∙◌, append_assoc, arith}
use Rattle.std.specs.Int.{w32, w128, from_be_bytes, to_be_bytes}
use Rattle.std.proofs.lemmas.Bool.{cond-true, cond-false, ltb-false, le-ltb, eqb-true, eq-eqb, ne_eqb, not-true, and_parts, and_from, or_cases}
use Rattle.std.proofs.lemmas.List.{take_at, drop_at, take-append-drop, length-append, length-take}
use Rattle.std.proofs.lemmas.Nat.{be_bytes_4, from_be_bytes-to_be_bytes_4}
use Rattle.mq_wire.specs.Integer.{int_of, spelling_of, IsReadAgain}
use Rattle.mq_addr.specs.declared.addr.Addr.{Addr}
use Rattle.mq_addr.specs.declared.addr.Addr.TheVariants.{V4, V6}
use Rattle.mq_addr.specs.declared.prefix.Prefix.{Prefix}
use Rattle.mq_addr.specs.Block.{width, bits_of, free_bits, IsPrefix}
use Rattle.mq_addr.specs.Cover.{version_of}
use Rattle.mq_ipcaps.specs.declared.fault.CapsFault.{CapsFault}
use Rattle.mq_ipcaps.specs.declared.fault.CapsFault.TheVariants.{Truncated, Version, Bits}
use Rattle.mq_ipcaps.specs.Reading.{◌>>=◌, byte_at, integer_at, integer_by, version_at, addr_at, addr4_at, addr6_at, is_prefix, block_at}
use Rattle.mq_ipcaps.specs.Writing.{addr_text, block_text}
use Rattle.mq_ipcaps.specs.Laws.{FitsAddr}
use Rattle.mq_ipcaps.proofs.Wide.{IsBytes, IsBytes-take, IsBytes-drop, be_bytes_16, below_16, from_be_bytes-to_be_bytes_16}

abbrev pub done : {A : Type 0} → A → Result A CapsFault
done x = Ok x

pub ok_is : {A : Type 0} (x y : A) → done x ≡ done y → x ≡ y
ok_is x y e = cc

-- the value of a step that did not fail
pub bind_ok : {A B : Type 0} (r : Result A CapsFault) (f : A → Result B CapsFault) (y : B) → (r >>= f) ≡ Ok y → (x : A) × (r ≡ Ok x) × (f x ≡ Ok y)
bind_ok (Ok x) f y e = (x, refl, e)
bind_ok (Err d) f y e = absurd cc

-- a test for a fault that did not fail, and one for going on that passed
pub guard_ok : {A : Type 0} (b : Bool) (d : CapsFault) (r : Result A CapsFault) (y : A) → cond b (Err d) r ≡ Ok y → (b ≡ false) × (r ≡ Ok y)
guard_ok true d r y e = absurd cc
guard_ok false d r y e = (refl, e)

pub passed_ok : {A : Type 0} (b : Bool) (d : CapsFault) (r : Result A CapsFault) (y : A) → cond b r (Err d) ≡ Ok y → (b ≡ true) × (r ≡ Ok y)
passed_ok true d r y e = (refl, e)
passed_ok false d r y e = absurd cc

IsBytes-rest : (b : ℕ) (bytes rest : List ℕ) → IsBytes bytes → bytes ≡ b ∷ rest → IsBytes rest
IsBytes-rest b bytes rest h e i = let all : IsBytes (b ∷ rest) = subst IsBytes e h in all (suc i)

pub byte_takes : (bytes : List ℕ) (x : ℕ × List ℕ) → byte_at bytes ≡ Ok x → bytes ≡ x.0 ∷ x.1
byte_takes [] x e = absurd cc
byte_takes (b ∷ bytes) x e = ap (λ (y : ℕ × List ℕ). y.0 ∷ y.1) (ok_is (b, bytes) x e)

-- a version

abbrev pub IsVersion : ℕ → Type 0
IsVersion v = (v ≡ 4) ⊎ (v ≡ 6)

version_is : (v : ℕ) → (eqb v 4 || eqb v 6) ≡ true → IsVersion v
version_is v e =
    elim (or_cases (eqb v 4) (eqb v 6) e) [
      | inl f ↦ inl (eqb-true v 4 f)
      | inr s ↦ inr (eqb-true v 6 s)
    ]

pub version_takes : (bytes : List ℕ) (x : ℕ × List ℕ) → IsBytes bytes → version_at bytes ≡ Ok x → (bytes ≡ x.0 ∷ x.1) × IsVersion x.0 × IsBytes x.1
version_takes bytes x fits e =
    let a = bind_ok (byte_at bytes) (λ v. cond (eqb v.0 4 || eqb v.0 6) (Ok v) (Err Version)) x e in
    let g = passed_ok (eqb a.0.0 4 || eqb a.0.0 6) Version (Ok a.0) x a.2 in
    let same : a.0 ≡ x = ok_is a.0 x g.1 in
    let parts : bytes ≡ x.0 ∷ x.1 = byte_takes bytes a.0 a.1 ∙ ap (λ (y : ℕ × List ℕ). y.0 ∷ y.1) same in
    (parts, subst (λ (y : ℕ × List ℕ). IsVersion y.0) same (version_is a.0.0 g.0), IsBytes-rest x.0 bytes x.1 fits parts)

pub version_again : (a : Addr) (rest : List ℕ) → version_at (version_of a ∷ rest) ≡ Ok (version_of a, rest)
version_again (V4 bits) rest = refl
version_again (V6 bits) rest = refl

-- an address

pub record Took (v : ℕ) (bytes : List ℕ) (x : Addr × List ℕ) : Type 0 where
  pub version : version_of x.0 ≡ v
  pub parts : bytes ≡ addr_text x.0 ++ x.1
  pub fits : FitsAddr x.0
  pub rest : IsBytes x.1

below_4 : (bytes : List ℕ) → IsBytes bytes → from_be_bytes w32 bytes < 2 ^ 32
below_4 bytes h = omega (arith, h 0, h 1, h 2, h 3)

addr4_takes : (bytes : List ℕ) (x : Addr × List ℕ) → IsBytes bytes → addr4_at bytes ≡ Ok x → Took 4 bytes x
addr4_takes bytes x fits e =
    let got : Addr × List ℕ = (V4 (from_be_bytes w32 (take 4 bytes)), drop 4 bytes) in
    let g = guard_ok (ltb (length bytes) 4) Truncated (Ok got) x e in
    let long : 4 ≤ length bytes = ltb-false _ _ g.0 in
    let front = IsBytes-take 4 bytes fits in
    let text : to_be_bytes w32 (from_be_bytes w32 (take 4 bytes)) ≡ take 4 bytes = be_bytes_4 (take 4 bytes) _ (omega (arith, length-take 4 bytes)) front refl in
    subst (Took 4 bytes) (ok_is got x g.1) (record {
      version = refl;
      parts = sym (take-append-drop 4 bytes) ∙ ap (λ (t : List ℕ). t ++ drop 4 bytes) (sym text);
      fits = below_4 (take 4 bytes) front;
      rest = IsBytes-drop 4 bytes fits;
    })

addr6_takes : (bytes : List ℕ) (x : Addr × List ℕ) → IsBytes bytes → addr6_at bytes ≡ Ok x → Took 6 bytes x
addr6_takes bytes x fits e =
    let got : Addr × List ℕ = (V6 (from_be_bytes w128 (take 16 bytes)), drop 16 bytes) in
    let g = guard_ok (ltb (length bytes) 16) Truncated (Ok got) x e in
    let long : 16 ≤ length bytes = ltb-false _ _ g.0 in
    let front = IsBytes-take 16 bytes fits in
    let len : length (take 16 bytes) ≡ 16 = omega (arith, length-take 16 bytes) in
    let text : to_be_bytes w128 (from_be_bytes w128 (take 16 bytes)) ≡ take 16 bytes = be_bytes_16 (take 16 bytes) len front in
    subst (Took 6 bytes) (ok_is got x g.1) (record {
      version = refl;
      parts = sym (take-append-drop 16 bytes) ∙ ap (λ (t : List ℕ). t ++ drop 16 bytes) (sym text);
      fits = below_16 (take 16 bytes) len front;
      rest = IsBytes-drop 16 bytes fits;
    })

pub addr_takes : (v : ℕ) (bytes : List ℕ) (x : Addr × List ℕ) → IsVersion v → IsBytes bytes → addr_at v bytes ≡ Ok x → Took v bytes x
unfolding addr_at
addr_takes v bytes x is fits e =
    elim is [
      | inl four ↦ subst (λ (n : ℕ). Took n bytes x) (sym four) (addr4_takes bytes x fits (sym (cond-true (eqb v 4) (addr4_at bytes) (addr6_at bytes) (eq-eqb v 4 four)) ∙ e))
      | inr six ↦ subst (λ (n : ℕ). Took n bytes x) (sym six) (addr6_takes bytes x fits (sym (cond-false (eqb v 4) (addr4_at bytes) (addr6_at bytes) (ne_eqb v 4 (λ four. omega (arith, four, six)))) ∙ e))
    ]

addr4_again : (n : ℕ) (rest : List ℕ) → n < 2 ^ 32 → addr4_at (to_be_bytes w32 n ++ rest) ≡ Ok (V4 n, rest)
addr4_again n rest fits =
    let text : List ℕ = to_be_bytes w32 n in
    let long : ltb (length (text ++ rest)) 4 ≡ false = le-ltb _ _ (omega (arith, length-append text rest)) in
    cond-false _ _ _ long ∙ ap (λ (y : List ℕ × List ℕ). Ok (V4 (from_be_bytes w32 y.0), y.1)) (λ i. (take_at text rest 4 refl i, drop_at text rest 4 refl i)) ∙ ap (λ (m : ℕ). Ok (V4 m, rest)) (from_be_bytes-to_be_bytes_4 n fits)

addr6_again : (n : ℕ) (rest : List ℕ) → n < 2 ^ 128 → addr6_at (to_be_bytes w128 n ++ rest) ≡ Ok (V6 n, rest)
addr6_again n rest fits =
    let text : List ℕ = to_be_bytes w128 n in
    let long : ltb (length (text ++ rest)) 16 ≡ false = le-ltb _ _ (omega (arith, length-append text rest)) in
    cond-false _ _ _ long ∙ ap (λ (y : List ℕ × List ℕ). Ok (V6 (from_be_bytes w128 y.0), y.1)) (λ i. (take_at text rest 16 refl i, drop_at text rest 16 refl i)) ∙ ap (λ (m : ℕ). Ok (V6 m, rest)) (from_be_bytes-to_be_bytes_16 n fits)

pub addr_again : (a : Addr) (rest : List ℕ) → FitsAddr a → addr_at (version_of a) (addr_text a ++ rest) ≡ Ok (a, rest)
unfolding addr_at
addr_again (V4 n) rest fits = addr4_again n rest fits
addr_again (V6 n) rest fits = addr6_again n rest fits

-- a block

pub record TookBlock (bytes : List ℕ) (x : Prefix × List ℕ) : Type 0 where
  pub parts : bytes ≡ block_text x.0 ++ x.1
  pub prefix : IsPrefix x.0
  pub fits : FitsAddr x.0.addr
  pub rest : IsBytes x.1

prefix_is : (block : Prefix) → is_prefix block ≡ true → IsPrefix block
unfolding is_prefix
prefix_is block e =
    let p = and_parts (not (ltb (width block.addr) block.length)) (eqb (bits_of block.addr % 2 ^ free_bits block) 0) e in
    record { fits = ltb-false _ _ (not-true _ p.0); zeros = eqb-true _ _ p.1 }

prefix_passes : (block : Prefix) → IsPrefix block → is_prefix block ≡ true
unfolding is_prefix
prefix_passes block is = and_from _ _ (ap not (le-ltb _ _ is.fits)) (eq-eqb _ _ is.zeros)

pub block_takes : (bytes : List ℕ) (x : Prefix × List ℕ) → IsBytes bytes → block_at bytes ≡ Ok x → TookBlock bytes x
unfolding block_at block_text
block_takes bytes x fits e =
    let a = bind_ok (version_at bytes) (λ v. addr_at v.0 v.1 >>= λ addr. byte_at addr.1 >>= λ len. cond (is_prefix (record { addr = addr.0; length = len.0 })) (Ok (record { addr = addr.0; length = len.0 }, len.1)) (Err Bits)) x e in
    let v = a.0 in
    let b = bind_ok (addr_at v.0 v.1) (λ addr. byte_at addr.1 >>= λ len. cond (is_prefix (record { addr = addr.0; length = len.0 })) (Ok (record { addr = addr.0; length = len.0 }, len.1)) (Err Bits)) x a.2 in
    let addr = b.0 in
    let c = bind_ok (byte_at addr.1) (λ len. cond (is_prefix (record { addr = addr.0; length = len.0 })) (Ok (record { addr = addr.0; length = len.0 }, len.1)) (Err Bits)) x b.2 in
    let len = c.0 in
    let block : Prefix = record { addr = addr.0; length = len.0 } in
    let g = passed_ok (is_prefix block) Bits (Ok (block, len.1)) x c.2 in
    let t0 = version_takes bytes v fits a.1 in
    let t1 = addr_takes v.0 v.1 addr t0.1 t0.2 b.1 in
    let t2 = byte_takes addr.1 len c.1 in
    let tail : v.1 ≡ (addr_text addr.0 ++ len.0 ∷ []) ++ len.1 = t1.parts ∙ ap (λ (t : List ℕ). addr_text addr.0 ++ t) t2 ∙ sym (append_assoc (addr_text addr.0) (len.0 ∷ []) len.1) in
    subst (TookBlock bytes) (ok_is (block, len.1) x g.1) (record {
      parts = t0.0 ∙ (λ i. sym t1.version i ∷ tail i);
      prefix = prefix_is block g.0;
      fits = t1.fits;
      rest = IsBytes-rest len.0 addr.1 len.1 t1.rest t2;
    })

pub block_again : (block : Prefix) (rest : List ℕ) → IsPrefix block → FitsAddr block.addr → block_at (block_text block ++ rest) ≡ Ok (block, rest)
unfolding block_at block_text
block_again block rest is fits =
    let regrouped : (addr_text block.addr ++ block.length ∷ []) ++ rest ≡ addr_text block.addr ++ (block.length ∷ rest) = append_assoc (addr_text block.addr) (block.length ∷ []) rest in
    ap (λ (t : List ℕ). block_at (version_of block.addr ∷ t)) regrouped
    ∙ rw (version_again block.addr (addr_text block.addr ++ (block.length ∷ rest)), addr_again block.addr (block.length ∷ rest) fits, prefix_passes block is) refl

-- an integer

integer_by_takes : (bytes : List ℕ) (x : ℕ × List ℕ) (there : Option (ℕ × ℕ)) → int_of bytes ≡ there → integer_by there bytes ≡ Ok x → (used : ℕ) × (int_of bytes ≡ Some (x.0, used)) × (x.1 ≡ drop used bytes)
integer_by_takes bytes x None is e = absurd cc
integer_by_takes bytes x (Some got) is e =
    let same : (got.0, drop got.1 bytes) ≡ x = ok_is (got.0, drop got.1 bytes) x e in
    (got.1, is ∙ ap (λ (y : ℕ × List ℕ). Some (y.0, got.1)) same, sym (ap (λ (y : ℕ × List ℕ). y.1) same))

pub integer_takes : (bytes : List ℕ) (x : ℕ × List ℕ) → integer_at bytes ≡ Ok x → (used : ℕ) × (int_of bytes ≡ Some (x.0, used)) × (x.1 ≡ drop used bytes)
integer_takes bytes x e = integer_by_takes bytes x (int_of bytes) refl e

pub integer_again : IsReadAgain → (n : ℕ) (rest : List ℕ) → n < 2 ^ 62 → integer_at (spelling_of n ++ rest) ≡ Ok (n, rest)
integer_again again n rest fits =
    ap (λ (o : Option (ℕ × ℕ)). integer_by o (spelling_of n ++ rest)) (again n rest fits) ∙ ap (λ (t : List ℕ). Ok (n, t)) (drop_at (spelling_of n) rest (length (spelling_of n)) refl)
