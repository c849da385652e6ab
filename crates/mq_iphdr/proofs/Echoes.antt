-- What a host answers, as it is put together: a header and a payload that are turned apart, and a checksum that is summed in parts.
use Rattle.std.proofs.Common.{◌≡◌, ℕ, zero, suc, ◌+◌, ◌-◌, ◌*◌, ◌<◌, ◌≤◌, Bool, true, false, List, [], ◌∷◌, ◌++◌, length, take, drop, Option, Some, None, is_some, set, ◌==◌, ◌&&◌, if◌then◌else◌, refl, sym, ap, ◌∙◌, arith}
use Rattle.std.specs.Prelude.{option_map}
use Rattle.std.specs.Option.{unwrap_or}
use Rattle.std.specs.Int.{w32, to_be_bytes}
use Rattle.std.specs.List.{swap}
use Rattle.std.proofs.lemmas.Bool.{cond-true, cond-false, eq-eqb}
use Rattle.std.proofs.lemmas.List.{take_all, take-take, drop-take, drop-drop, take-append-drop, length-drop, length-take-le, length-append}
use Rattle.mq_addr.specs.declared.packet.IpView.{IpView}
use Rattle.mq_addr.specs.Packet.{ones_add, ones_sum, ones_sum_from}
use Rattle.mq_iphdr.specs.Onward.{summed}
use Rattle.mq_iphdr.specs.Echo.{is_datagram, datagram_back, is_request, with_word, unsummed, reply_of, exchanged, header4_back, header6_back, pseudo_header, payload4_back, payload6_back, answer4_of, answer6_of}

-- ---- payloads

pub ports_swapped : (datagram : List ℕ) → 4 ≤ length datagram → swap (swap datagram 0 2) 1 3 ≡ datagram_back datagram
unfolding datagram_back
ports_swapped [] h = absurd (omega (arith, h))
ports_swapped (a ∷ []) h = absurd (omega (arith, h))
ports_swapped (a ∷ b ∷ []) h = absurd (omega (arith, h))
ports_swapped (a ∷ b ∷ c ∷ []) h = absurd (omega (arith, h))
ports_swapped (a ∷ b ∷ c ∷ d ∷ rest) h = refl

-- the sum of two lists, of which the first has whole words
joined : (words sum : ℕ) (a b : List ℕ) → length a ≡ words + words → ones_sum_from sum (a ++ b) ≡ ones_sum_from (ones_sum_from sum a) b
unfolding ones_sum_from
joined words sum [] b h = refl
joined words sum (x ∷ []) b h = absurd (omega (arith, h))
joined zero sum (x ∷ y ∷ a) b h = absurd (omega (arith, h))
joined (suc words) sum (x ∷ y ∷ a) b h = joined words (ones_add sum (x * 256 + y)) a b (omega (arith, h))

-- the two addresses of a pseudo-header, of a header of 40 bytes
record Ends (header : List ℕ) : Type 0 where
  pub source : length (take 16 (drop 8 header)) ≡ 16
  pub target : length (take 16 (drop 24 header)) ≡ 16
  pub last : take 16 (drop 24 header) ≡ drop 16 (drop 8 header)

ends : (header : List ℕ) → length header ≡ 40 → Ends header
ends header h =
    let ahead : length (drop 8 header) ≡ 32 = rw length-drop (omega (arith, h)) in
    let behind : length (drop 24 header) ≡ 16 = rw length-drop (omega (arith, h)) in
    record {
      source = length-take-le 16 (drop 8 header) (omega (arith, ahead));
      target = length-take-le 16 (drop 24 header) (omega (arith, behind));
      last = take_all 16 (drop 24 header) (omega (arith, behind)) ∙ sym (drop-drop 16 8 header);
    }

-- the pseudo-header of an answer, in the parts in which it is summed
pub pseudo_summed : (header : List ℕ) (size : ℕ) → length header ≡ 40
    → ones_sum (pseudo_header header size) ≡ ones_sum_from (ones_sum_from (ones_sum_from (ones_sum_from 0 (drop 16 (drop 8 header))) (take 16 (drop 8 header))) (to_be_bytes w32 size)) (0 ∷ 0 ∷ 0 ∷ 58 ∷ [])
unfolding ones_sum
pseudo_summed header size h =
    let e = ends header h in
    let target : List ℕ = take 16 (drop 24 header) in
    let source : List ℕ = take 16 (drop 8 header) in
    let bytes : List ℕ = to_be_bytes w32 size in
    let last : List ℕ = 0 ∷ 0 ∷ 0 ∷ 58 ∷ [] in
    let two : length (target ++ source) ≡ 32 = length-append target source ∙ omega (arith, e.source, e.target) in
    let three : length (target ++ source ++ bytes) ≡ 36 = length-append (target ++ source) bytes ∙ omega (arith, two) in
    joined 18 0 (target ++ source ++ bytes) last three
    ∙ ap (λ (n : ℕ). ones_sum_from n last) (joined 16 0 (target ++ source) bytes two ∙ ap (λ (n : ℕ). ones_sum_from n bytes) (joined 8 0 target source e.target))
    ∙ ap (λ (l : List ℕ). ones_sum_from (ones_sum_from (ones_sum_from (ones_sum_from 0 l) source) bytes) last) e.last

pseudo_len : (header : List ℕ) (size : ℕ) → length header ≡ 40 → length (pseudo_header header size) ≡ 40
pseudo_len header size h =
    let e = ends header h in
    let target : List ℕ = take 16 (drop 24 header) in
    let source : List ℕ = take 16 (drop 8 header) in
    let bytes : List ℕ = to_be_bytes w32 size in
    let two : length (target ++ source) ≡ 32 = length-append target source ∙ omega (arith, e.source, e.target) in
    let three : length (target ++ source ++ bytes) ≡ 36 = length-append (target ++ source) bytes ∙ omega (arith, two) in
    length-append (target ++ source ++ bytes) (0 ∷ 0 ∷ 0 ∷ 58 ∷ []) ∙ omega (arith, three)

pub replied4 : (protocol : ℕ) (bytes new : List ℕ) → protocol ≡ 1 → is_request 8 bytes ≡ true
    → new ≡ with_word 2 (65535 - ones_sum_from 0 (unsummed 0 bytes)) (unsummed 0 bytes) → new ≡ unwrap_or (payload4_back protocol bytes) bytes
unfolding payload4_back reply_of ones_sum
replied4 protocol bytes new is request answer = rw is (answer ∙ sym (ap (λ (back : Option (List ℕ)). unwrap_or back bytes) (cond-true _ _ _ request)))

pub replied6 : (header : List ℕ) (protocol before : ℕ) (bytes new : List ℕ) → protocol ≡ 58 → is_request 128 bytes ≡ true
    → before ≡ ones_sum (pseudo_header header (length bytes)) → length header ≡ 40
    → new ≡ with_word 2 (65535 - ones_sum_from before (unsummed 129 bytes)) (unsummed 129 bytes) → new ≡ unwrap_or (payload6_back header protocol bytes) bytes
unfolding payload6_back reply_of ones_sum
replied6 header protocol before bytes new is request sum h answer =
    let size : ℕ = length bytes in
    let parts : ones_sum_from before (unsummed 129 bytes) ≡ ones_sum (pseudo_header header size ++ unsummed 129 bytes) =
    ap (λ (n : ℕ). ones_sum_from n (unsummed 129 bytes)) sum ∙ sym (joined 20 0 (pseudo_header header size) (unsummed 129 bytes) (pseudo_len header size h)) in
    rw is (
    answer
    ∙ ap (λ (n : ℕ). with_word 2 (65535 - n) (unsummed 129 bytes)) parts
    ∙ sym (ap (λ (back : Option (List ℕ)). unwrap_or back bytes) (cond-true _ _ _ request))
    )

-- ---- headers

-- what stands behind a header doesn't change what is exchanged in it
exchanged_front : (at size : ℕ) (p : List ℕ) → exchanged at size (take (at + (size + size)) p) ≡ exchanged at size p
exchanged_front at size p =
    let q : List ℕ = take (at + (size + size)) p in
    let first : take at q ≡ take at p = take-take at (at + (size + size)) p (omega arith) in
    let source : take size (drop at q) ≡ take size (drop at p) = ap (λ (l : List ℕ). take size l) (drop-take at (size + size) p) ∙ take-take size (size + size) (drop at p) (omega arith) in
    let sum : at + (size + size) ≡ at + size + size = omega arith in
    let target : take size (drop (at + size) q) ≡ take size (drop (at + size) p) =
    ap (λ (n : ℕ). take size (drop (at + size) (take n p))) sum ∙ ap (λ (l : List ℕ). take size l) (drop-take (at + size) size p) ∙ take-take size size (drop (at + size) p) (omega arith) in
    ap (λ (l : List ℕ). l ++ take size (drop (at + size) q) ++ take size (drop at q)) first
    ∙ ap (λ (l : List ℕ). take at p ++ l ++ take size (drop at q)) target
    ∙ ap (λ (l : List ℕ). take at p ++ take size (drop (at + size) p) ++ l) source

front4 : (p : List ℕ) → header4_back (take 20 p) ≡ header4_back p
unfolding header4_back
front4 p = ap (λ (l : List ℕ). summed 20 (set l 8 64)) (exchanged_front 12 4 p)

front6 : (p : List ℕ) → header6_back (take 40 p) ≡ header6_back p
unfolding header6_back
front6 p = ap (λ (l : List ℕ). set l 7 64) (exchanged_front 8 16 p)

pseudo_front : (p : List ℕ) (size : ℕ) → pseudo_header (take 40 p) size ≡ pseudo_header p size
pseudo_front p size =
    let target : take 16 (drop 24 (take 40 p)) ≡ take 16 (drop 24 p) = ap (λ (l : List ℕ). take 16 l) (drop-take 24 16 p) ∙ take-take 16 16 (drop 24 p) (omega arith) in
    let source : take 16 (drop 8 (take 40 p)) ≡ take 16 (drop 8 p) = ap (λ (l : List ℕ). take 16 l) (drop-take 8 32 p) ∙ take-take 16 32 (drop 8 p) (omega arith) in
    ap (λ (l : List ℕ). l ++ take 16 (drop 8 (take 40 p)) ++ to_be_bytes w32 size ++ 0 ∷ 0 ∷ 0 ∷ 58 ∷ []) target
    ∙ ap (λ (l : List ℕ). take 16 (drop 24 p) ++ l ++ to_be_bytes w32 size ++ 0 ∷ 0 ∷ 0 ∷ 58 ∷ []) source

payload6_front : (p : List ℕ) (protocol : ℕ) (bytes : List ℕ) → payload6_back (take 40 p) protocol bytes ≡ payload6_back p protocol bytes
unfolding payload6_back
payload6_front p protocol bytes =
    ap (λ (before : List ℕ). if protocol == 17 && is_datagram bytes then Some (datagram_back bytes) else (if protocol == 58 && is_request 128 bytes then Some (reply_of 129 before bytes) else None))
    (pseudo_front p (length bytes))

-- ---- packets

some_mapped : (front : List ℕ) (back : Option (List ℕ)) → is_some (option_map (λ payload. front ++ payload) back) ≡ is_some back
some_mapped front None = refl
some_mapped front (Some payload) = refl

turned : (back : Option (List ℕ)) (front header payload new p : List ℕ) → true ≡ is_some back → new ≡ unwrap_or back payload → header ≡ front
    → header ++ new ≡ unwrap_or (option_map (λ payload. front ++ payload) back) p
turned None front header payload new p some answer is = absurd (grind (arith, some))
turned (Some back) front header payload new p some answer is = ap (λ (l : List ℕ). l ++ new) is ∙ ap (λ (l : List ℕ). front ++ l) answer

left : (back : Option (List ℕ)) (front header payload new p : List ℕ) → false ≡ is_some back → new ≡ unwrap_or back payload → p ≡ header ++ payload
    → header ++ new ≡ unwrap_or (option_map (λ payload. front ++ payload) back) p
left None front header payload new p none answer is = ap (λ (l : List ℕ). header ++ l) answer ∙ sym is
left (Some back) front header payload new p none answer is = absurd (grind (arith, none))

in4 : (p : List ℕ) (view : IpView) → view.header ≡ 20 → answer4_of p view ≡ option_map (λ payload. header4_back p ++ payload) (payload4_back view.flow.protocol (drop 20 p))
unfolding answer4_of
in4 p view h = cond-true _ _ _ (eq-eqb _ _ h)

in6 : (p : List ℕ) (view : IpView) → view.header ≡ 40 → answer6_of p view ≡ option_map (λ payload. header6_back p ++ payload) (payload6_back p view.flow.protocol (drop 40 p))
unfolding answer6_of
in6 p view h = cond-true _ _ _ (eq-eqb _ _ h)

pub turned4 : (p : List ℕ) (view : IpView) (header new : List ℕ) → view.header ≡ 20 → true ≡ is_some (payload4_back view.flow.protocol (drop 20 p))
    → new ≡ unwrap_or (payload4_back view.flow.protocol (drop 20 p)) (drop 20 p) → header ≡ header4_back (take 20 p)
    → header ++ new ≡ unwrap_or (answer4_of p view) p
turned4 p view header new h some answer turn =
    turned (payload4_back view.flow.protocol (drop 20 p)) (header4_back p) header (drop 20 p) new p some answer (turn ∙ front4 p)
    ∙ sym (ap (λ (o : Option (List ℕ)). unwrap_or o p) (in4 p view h))

pub said6 : (p : List ℕ) (view : IpView) (answered : Bool) → view.header ≡ 40 → answered ≡ is_some (payload6_back (take 40 p) view.flow.protocol (drop 40 p))
    → answered ≡ is_some (answer6_of p view)
said6 p view answered h some =
    some
    ∙ ap (λ (o : Option (List ℕ)). is_some o) (payload6_front p view.flow.protocol (drop 40 p))
    ∙ sym (some_mapped (header6_back p) (payload6_back p view.flow.protocol (drop 40 p)))
    ∙ sym (ap (λ (o : Option (List ℕ)). is_some o) (in6 p view h))

pub turned6 : (p : List ℕ) (view : IpView) (header new : List ℕ) → view.header ≡ 40 → true ≡ is_some (payload6_back (take 40 p) view.flow.protocol (drop 40 p))
    → new ≡ unwrap_or (payload6_back (take 40 p) view.flow.protocol (drop 40 p)) (drop 40 p) → header ≡ header6_back (take 40 p)
    → header ++ new ≡ unwrap_or (answer6_of p view) p
turned6 p view header new h some answer turn =
    let same = payload6_front p view.flow.protocol (drop 40 p) in
    turned (payload6_back p view.flow.protocol (drop 40 p)) (header6_back p) header (drop 40 p) new p (some ∙ ap (λ (o : Option (List ℕ)). is_some o) same)
    (answer ∙ ap (λ (o : Option (List ℕ)). unwrap_or o (drop 40 p)) same) (turn ∙ front6 p)
    ∙ sym (ap (λ (o : Option (List ℕ)). unwrap_or o p) (in6 p view h))

pub left6 : (p : List ℕ) (view : IpView) (new : List ℕ) → view.header ≡ 40 → false ≡ is_some (payload6_back (take 40 p) view.flow.protocol (drop 40 p))
    → new ≡ unwrap_or (payload6_back (take 40 p) view.flow.protocol (drop 40 p)) (drop 40 p)
    → take 40 p ++ new ≡ unwrap_or (answer6_of p view) p
left6 p view new h none answer =
    let same = payload6_front p view.flow.protocol (drop 40 p) in
    left (payload6_back p view.flow.protocol (drop 40 p)) (header6_back p) (take 40 p) (drop 40 p) new p (none ∙ ap (λ (o : Option (List ℕ)). is_some o) same)
    (answer ∙ ap (λ (o : Option (List ℕ)). unwrap_or o (drop 40 p)) same) (sym (take-append-drop 40 p))
    ∙ sym (ap (λ (o : Option (List ℕ)). unwrap_or o p) (in6 p view h))
