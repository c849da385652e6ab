-- The laws of the three values.
use Rattle.std.proofs.Common.{◌≡◌, ◌≢◌, ℕ, suc, ◌<◌, cond, eqb, List, [], ◌∷◌, ◌++◌, length, Option, Some, None, Ok, Err, inl, inr, refl, sym, ap, subst, ◌∙◌, append_assoc, length-append, arith}
use Rattle.std.specs.List.{All}
use Rattle.std.proofs.lemmas.Bool.{cases_lt, eqb-false, ne_eqb}
use Rattle.std.proofs.lemmas.List.{get_or_past}
use Rattle.std.proofs.lemmas.List.Elements.{All-head, All-tail}
use Rattle.mq_wire.specs.Integer.{spelling_of, IsReadAgain}
use Rattle.mq_addr.specs.declared.addr.Addr.{Addr}
use Rattle.mq_addr.specs.declared.addr.Addr.TheVariants.{V4, V6}
use Rattle.mq_addr.specs.declared.prefix.Prefix.{Prefix}
use Rattle.mq_addr.specs.declared.entry.Asked.{Asked}
use Rattle.mq_addr.specs.declared.entry.Given.{Given}
use Rattle.mq_addr.specs.declared.range.Range.{Range}
use Rattle.mq_addr.specs.Block.{SameVersion}
use Rattle.mq_addr.specs.Cover.{version_of}
use Rattle.mq_addr.specs.Ranges.{IsRange}
use Rattle.mq_ipcaps.specs.declared.fault.CapsFault.TheVariants.{ZeroId, Order}
use Rattle.mq_ipcaps.specs.Reading.{◌>>=◌, byte_at, integer_at, version_at, addr_at, block_at, asked_at, given_at, range_at, route_at, is_in_order, items_of, some_of, request_of, assign_of, routes_of}
use Rattle.mq_ipcaps.specs.Writing.{addr_text, block_text, asked_text, given_text, range_text, request_text, assign_text, routes_text}
use Rattle.mq_ipcaps.specs.Lists.{IsRequest, IsAssignment, AreRoutes}
use Rattle.mq_ipcaps.specs.Laws.{FitsEntry, FitsRange, EntryAt, AreBytes, IsReadRequest, IsReadAssign, AreReadRoutes}
use Rattle.mq_wire.proofs.Integers.{int_front}
use Rattle.mq_ipcaps.proofs.Fields.{bind_ok, guard_ok, passed_ok, ok_is, byte_takes, version_takes, version_again, addr_takes, addr_again, block_takes, block_again, integer_takes, integer_again}
use Rattle.mq_ipcaps.proofs.Items.{Chain, Took, Takes, Again, items_take, items_again, chain_all, stand_text}
use Rattle.mq_ipcaps.proofs.Order.{InOrder, range_is, pairs, chain_from}
use Rattle.mq_ipcaps.proofs.Wide.{IsBytes, IsBytes-drop}

are_bytes : (bytes : List ℕ) → AreBytes bytes → IsBytes bytes
are_bytes bytes all i =
    elim (cases_lt i (length bytes)) [
      | inl lt ↦ all i 0 lt
      | inr le ↦ rw (get_or_past bytes i 0 le) (omega arith)
    ]

-- entries

record HasEntry (id : ℕ) (block : Prefix) (bytes rest : List ℕ) : Type 0 where
  stands : EntryAt id block bytes rest
  fits : FitsEntry id block
  rest_fits : IsBytes rest

entry_takes : (bytes : List ℕ) (id : ℕ × List ℕ) (block : Prefix × List ℕ) → IsBytes bytes → integer_at bytes ≡ Ok id → block_at id.1 ≡ Ok block → HasEntry id.0 block.0 bytes block.1
entry_takes bytes id block fits e f =
    let i = integer_takes bytes id e in
    let b = block_takes id.1 block (subst IsBytes (sym i.2) (IsBytes-drop i.0 bytes fits)) f in
    record {
      stands = (i.0, i.1, sym i.2 ∙ b.parts);
      fits = record { small = (int_front bytes (id.0, i.0) i.1).below; prefix = b.prefix; addr = b.fits };
      rest_fits = b.rest;
    }

abbrev GivenAt : Given → List ℕ → List ℕ → Type 0
GivenAt e bytes rest = EntryAt e.id e.block bytes rest

abbrev IsGiven : Option Given → Given → Type 0
IsGiven before e = FitsEntry e.id e.block

given_takes : Takes (λ _. given_at) GivenAt IsGiven
unfolding given_at
given_takes before bytes x fits e =
    let a = bind_ok (integer_at bytes) (λ id. block_at id.1 >>= λ block. Ok (record { id = id.0; block = block.0 }, block.1)) x e in
    let b = bind_ok (block_at a.0.1) (λ block. Ok (record { id = a.0.0; block = block.0 }, block.1)) x a.2 in
    let t = entry_takes bytes a.0 b.0 fits a.1 b.1 in
    subst (Took GivenAt IsGiven before bytes) (ok_is (record { id = a.0.0; block = b.0.0 }, b.0.1) x b.2) (record { stands = t.stands; has = t.fits; rest = t.rest_fits })

abbrev AskedAt : Asked → List ℕ → List ℕ → Type 0
AskedAt e bytes rest = EntryAt e.id e.block bytes rest

record IsAsked (before : Option Asked) (e : Asked) : Type 0 where
  fits : FitsEntry e.id e.block
  some : e.id ≢ 0

asked_takes : Takes (λ _. asked_at) AskedAt IsAsked
unfolding asked_at
asked_takes before bytes x fits e =
    let a = bind_ok (integer_at bytes) (λ id. cond (eqb id.0 0) (Err ZeroId) (block_at id.1) >>= λ block. Ok (record { id = id.0; block = block.0 }, block.1)) x e in
    let b = bind_ok (cond (eqb a.0.0 0) (Err ZeroId) (block_at a.0.1)) (λ block. Ok (record { id = a.0.0; block = block.0 }, block.1)) x a.2 in
    let g = guard_ok (eqb a.0.0 0) ZeroId (block_at a.0.1) b.0 b.1 in
    let t = entry_takes bytes a.0 b.0 fits a.1 g.1 in
    subst (Took AskedAt IsAsked before bytes) (ok_is (record { id = a.0.0; block = b.0.0 }, b.0.1) x b.2) (record { stands = t.stands; has = record { fits = t.fits; some = eqb-false _ _ g.0 }; rest = t.rest_fits })

given_again : IsReadAgain → Again (λ _. given_at) given_text IsGiven
unfolding given_at given_text
given_again again before e rest is =
    let regrouped : (spelling_of e.id ++ block_text e.block) ++ rest ≡ spelling_of e.id ++ (block_text e.block ++ rest) = append_assoc (spelling_of e.id) (block_text e.block) rest in
    ap given_at regrouped ∙ rw (integer_again again e.id (block_text e.block ++ rest) is.small, block_again e.block rest is.prefix is.addr) refl

asked_again : IsReadAgain → Again (λ _. asked_at) asked_text IsAsked
unfolding asked_at asked_text
asked_again again before e rest is =
    let regrouped : (spelling_of e.id ++ block_text e.block) ++ rest ≡ spelling_of e.id ++ (block_text e.block ++ rest) = append_assoc (spelling_of e.id) (block_text e.block) rest in
    ap asked_at regrouped ∙ rw (integer_again again e.id (block_text e.block ++ rest) is.fits.small, ne_eqb e.id 0 is.some, block_again e.block rest is.fits.prefix is.fits.addr) refl

block_some : (block : Prefix) → 0 < length (block_text block)
unfolding block_text
block_some block = omega arith

given_some : (e : Given) → 0 < length (given_text e)
unfolding given_text
given_some e = omega (arith, block_some e.block, length-append (spelling_of e.id) (block_text e.block))

asked_some : (e : Asked) → 0 < length (asked_text e)
unfolding asked_text
asked_some e = omega (arith, block_some e.block, length-append (spelling_of e.id) (block_text e.block))

-- ranges

abbrev RangeAt : Range → List ℕ → List ℕ → Type 0
RangeAt range bytes rest = bytes ≡ range_text range ++ rest

record IsRoute (before : Option Range) (range : Range) : Type 0 where
  order : InOrder before range
  fits : FitsRange range

one_version : (a b : Addr) (v : ℕ) → version_of a ≡ v → version_of b ≡ v → SameVersion a b
one_version (V4 m) (V4 n) v e f = tt
one_version (V6 m) (V6 n) v e f = tt
one_version (V4 m) (V6 n) v e f = absurd (omega (arith, e, f))
one_version (V6 m) (V4 n) v e f = absurd (omega (arith, e, f))

same_version : (a b : Addr) → SameVersion a b → version_of b ≡ version_of a
same_version (V4 m) (V4 n) is = refl
same_version (V6 m) (V6 n) is = refl
same_version (V4 m) (V6 n) is = absurd is
same_version (V6 m) (V4 n) is = absurd is

record HasRange (bytes : List ℕ) (x : Range × List ℕ) : Type 0 where
  stands : RangeAt x.0 bytes x.1
  version : SameVersion x.0.first x.0.last
  fits : FitsRange x.0
  rest_fits : IsBytes x.1

range_takes : (bytes : List ℕ) (x : Range × List ℕ) → IsBytes bytes → range_at bytes ≡ Ok x → HasRange bytes x
unfolding range_at range_text
range_takes bytes x fits e =
    let a = bind_ok (version_at bytes) (λ v. addr_at v.0 v.1 >>= λ first. addr_at v.0 first.1 >>= λ last. byte_at last.1 >>= λ protocol. Ok (record { first = first.0; last = last.0; protocol = protocol.0 }, protocol.1)) x e in
    let v = a.0 in
    let b = bind_ok (addr_at v.0 v.1) (λ first. addr_at v.0 first.1 >>= λ last. byte_at last.1 >>= λ protocol. Ok (record { first = first.0; last = last.0; protocol = protocol.0 }, protocol.1)) x a.2 in
    let first = b.0 in
    let c = bind_ok (addr_at v.0 first.1) (λ last. byte_at last.1 >>= λ protocol. Ok (record { first = first.0; last = last.0; protocol = protocol.0 }, protocol.1)) x b.2 in
    let last = c.0 in
    let d = bind_ok (byte_at last.1) (λ protocol. Ok (record { first = first.0; last = last.0; protocol = protocol.0 }, protocol.1)) x c.2 in
    let protocol = d.0 in
    let t0 = version_takes bytes v fits a.1 in
    let t1 = addr_takes v.0 v.1 first t0.1 t0.2 b.1 in
    let t2 = addr_takes v.0 first.1 last t0.1 t1.rest c.1 in
    let t3 = byte_takes last.1 protocol d.1 in
    let one : List ℕ = addr_text first.0 in
    let two : List ℕ = addr_text last.0 in
    let end : List ℕ = protocol.0 ∷ [] in
    let tail : v.1 ≡ ((one ++ two) ++ end) ++ protocol.1 =
    t1.parts ∙ ap (λ (t : List ℕ). one ++ t) (t2.parts ∙ ap (λ (t : List ℕ). two ++ t) t3)
    ∙ sym (append_assoc one two (end ++ protocol.1)) ∙ sym (append_assoc (one ++ two) end protocol.1) in
    let range : Range = record { first = first.0; last = last.0; protocol = protocol.0 } in
    subst (HasRange bytes) (ok_is (range, protocol.1) x d.2) (record {
      stands = t0.0 ∙ (λ i. sym t1.version i ∷ tail i);
      version = one_version first.0 last.0 v.0 t1.version t2.version;
      fits = record { first = t1.fits; last = t2.fits };
      rest_fits = λ i. let all : IsBytes (protocol.0 ∷ protocol.1) = subst IsBytes t3 t2.rest in all (suc i);
    })

route_takes : Takes route_at RangeAt IsRoute
unfolding route_at
route_takes before bytes x fits e =
    let a = bind_ok (range_at bytes) (λ range. cond (is_in_order before range.0) (Ok range) (Err Order)) x e in
    let g = passed_ok (is_in_order before a.0.0) Order (Ok a.0) x a.2 in
    let t = range_takes bytes a.0 fits a.1 in
    subst (Took RangeAt IsRoute before bytes) (ok_is a.0 x g.1) (record { stands = t.stands; has = record { order = record { version = t.version; order = g.0 }; fits = t.fits }; rest = t.rest_fits })

range_again : (range : Range) (rest : List ℕ) → SameVersion range.first range.last → FitsRange range → range_at (range_text range ++ rest) ≡ Ok (range, rest)
unfolding range_at range_text
range_again range rest version fits =
    let one : List ℕ = addr_text range.first in
    let two : List ℕ = addr_text range.last in
    let end : List ℕ = range.protocol ∷ [] in
    let regrouped : ((one ++ two) ++ end) ++ rest ≡ one ++ (two ++ (range.protocol ∷ rest)) = append_assoc (one ++ two) end rest ∙ append_assoc one two (range.protocol ∷ rest) in
    let last : addr_at (version_of range.first) (two ++ (range.protocol ∷ rest)) ≡ Ok (range.last, range.protocol ∷ rest) =
    ap (λ (v : ℕ). addr_at v (two ++ (range.protocol ∷ rest))) (sym (same_version range.first range.last version)) ∙ addr_again range.last (range.protocol ∷ rest) fits.last in
    ap (λ (t : List ℕ). range_at (version_of range.first ∷ t)) regrouped
    ∙ rw (version_again range.first (one ++ (two ++ (range.protocol ∷ rest))), addr_again range.first (two ++ (range.protocol ∷ rest)) fits.first, last) refl

route_again : Again route_at range_text IsRoute
unfolding route_at
route_again before range rest is = rw (range_again range rest is.order.version is.fits, is.order.order) refl

range_some : (range : Range) → 0 < length (range_text range)
unfolding range_text
range_some range = omega arith

-- what is written is read back

all_chain : {A : Type 0} (P : Option A → A → Type 0) (Q : A → Type 0) → ((before : Option A) (x : A) → Q x → P before x) → (before : Option A) (list : List A) → All Q list → Chain P before list
all_chain P Q one before [] all = tt
all_chain P Q one before (x ∷ xs) all = (one before x (All-head Q x xs all), all_chain P Q one (Some x) xs (All-tail Q x xs all))

not_empty : (list : List Asked) → 0 < length list → some_of list ≡ Ok list
not_empty [] some = absurd (omega arith)
not_empty (e ∷ es) some = refl

record IsGood (e : Asked) : Type 0 where
  some : e.id ≢ 0
  fits : FitsEntry e.id e.block

pub request_back : IsReadAgain → (list : List Asked) → IsRequest list → All (λ e. FitsEntry e.id e.block) list → request_of (request_text list) ≡ Ok list
unfolding request_of
request_back again list is fits =
    let good : All IsGood list = λ k d lt. record { some = is.ids k d lt; fits = fits k d lt } in
    let chain = all_chain IsAsked IsGood (λ before e g. record { fits = g.fits; some = g.some }) None list good in
    rw (items_again (λ _. asked_at) asked_text IsAsked (asked_again again) asked_some 16 None list is.few chain) (not_empty list is.some)

pub assign_back : IsReadAgain → (list : List Given) → IsAssignment list → All (λ e. FitsEntry e.id e.block) list → assign_of (assign_text list) ≡ Ok list
unfolding assign_of
assign_back again list few fits =
    let chain = all_chain IsGiven (λ (e : Given). FitsEntry e.id e.block) (λ before e g. g) None list fits in
    items_again (λ _. given_at) given_text IsGiven (given_again again) given_some 32 None list few chain

with_fits : (before : Option Range) (list : List Range) → Chain InOrder before list → All FitsRange list → Chain IsRoute before list
with_fits before [] chain fits = tt
with_fits before (r ∷ rs) chain fits = (record { order = chain.0; fits = All-head FitsRange r rs fits }, with_fits (Some r) rs chain.1 (All-tail FitsRange r rs fits))

pub routes_back : (ranges : List Range) → AreRoutes ranges → All FitsRange ranges → routes_of (routes_text ranges) ≡ Ok ranges
unfolding routes_of
routes_back ranges are fits = items_again route_at range_text IsRoute route_again range_some 32 None ranges are.few (with_fits None ranges (chain_from ranges are.ordered) fits)

-- what is read is written again

some_is : (list read : List Asked) → some_of list ≡ Ok read → (list ≡ read) × (0 < length list)
some_is [] read e = absurd cc
some_is (x ∷ xs) read e = (ok_is (x ∷ xs) read e, omega arith)

pub request_again : (value : List ℕ) (list : List Asked) → AreBytes value → request_of value ≡ Ok list → IsReadRequest value list
unfolding request_of
request_again value list bytes e =
    let a = bind_ok (items_of (λ _. asked_at) 16 None value) some_of list e in
    let some = some_is a.0 list a.2 in
    let t = items_take (λ _. asked_at) AskedAt IsAsked asked_takes 16 None value a.0 (are_bytes value bytes) a.1 in
    subst (IsReadRequest value) some.0 (record {
      request = record { some = some.1; few = t.few; ids = chain_all IsAsked (λ (e : Asked). e.id ≢ 0) (λ before e is. is.some) None a.0 t.chain };
      fits = chain_all IsAsked (λ (e : Asked). FitsEntry e.id e.block) (λ before e is. is.fits) None a.0 t.chain;
      bytes = t.stand;
    })

pub assign_again : (value : List ℕ) (list : List Given) → AreBytes value → assign_of value ≡ Ok list → IsReadAssign value list
unfolding assign_of
assign_again value list bytes e =
    let t = items_take (λ _. given_at) GivenAt IsGiven given_takes 32 None value list (are_bytes value bytes) e in
    record {
      assignment = t.few;
      fits = chain_all IsGiven (λ (e : Given). FitsEntry e.id e.block) (λ before e is. is) None list t.chain;
      bytes = t.stand;
    }

orders : (before : Option Range) (list : List Range) → Chain IsRoute before list → Chain InOrder before list
orders before [] chain = tt
orders before (r ∷ rs) chain = (chain.0.order, orders (Some r) rs chain.1)

pub routes_again : (value : List ℕ) (ranges : List Range) → AreBytes value → routes_of value ≡ Ok ranges → AreReadRoutes value ranges
unfolding routes_of
routes_again value ranges bytes e =
    let t = items_take route_at RangeAt IsRoute route_takes 32 None value ranges (are_bytes value bytes) e in
    record {
      routes = record {
        few = t.few;
        ordered = record { ranges_are = chain_all IsRoute IsRange (λ before r is. range_is before r is.order) None ranges t.chain; ordered = pairs None ranges (orders None ranges t.chain) };
      };
      fits = chain_all IsRoute FitsRange (λ before r is. is.fits) None ranges t.chain;
      bytes = stand_text range_text ranges value t.stand;
    }
