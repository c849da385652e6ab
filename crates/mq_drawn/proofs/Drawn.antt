-- The lines of drawn packets, and the last one.
use Rattle.std.proofs.Common.{◌≡◌, ℕ, zero, suc, ◌+◌, ◌/◌, ◌%◌, ◌<◌, ◌≤◌, true, false, List, [], ◌∷◌, ◌++◌, All, length, codes, decimal, replicate, set, refl, sym, ap, subst, ◌∙◌, arith, inl, inr, length-append}
use Rattle.std.specs.Fmt.{digits}
use Rattle.std.specs.Int.{w16, to_be_bytes}
use Rattle.std.proofs.lemmas.Bool.{cond-false, cond-true, cases_eq, eq-eqb, ne_eqb}
use Rattle.std.proofs.lemmas.List.{length-replicate, length-set}
use Rattle.std.proofs.lemmas.List.Elements.{All-append, All-cons, All-nil, All-replicate, All-set}
use Rattle.std.proofs.lemmas.Fmt.{length-decimal-le}
use Rattle.hex.specs.Hex.{encode_lower, lower_digits}
use Rattle.hex.proofs.HexLemmas.{length-encode_with}
use Rattle.mq_capsule.specs.Writing.{capsule_text, datagram}
use Rattle.mq_iphdr.specs.Onward.{summed, with_checksum, checksum_of}
use Rattle.mq_machine.specs.declared.event.Event.TheVariants as event
use Rattle.mq_play.specs.declared.line.Line.TheVariants as line
use Rattle.mq_play.specs.declared.word.Word.TheVariants as word
use Rattle.mq_play.specs.Events.{is_ended}
use Rattle.mq_play.specs.Lines.{Says, IsActor, net_number}
use Rattle.mq_play.specs.Parts.{IsHex}
use Rattle.mq_play.specs.Play.{Stage, IsBadHere}
use Rattle.mq_script.specs.Generated.{client_of, target_of, payload_len, packet_of, header, udp, piece_line, step_line, lines_from, generated, drawn, next_state}
use Rattle.mq_wire.specs.Integer.{spelling_of}
use Rattle.mq_addr.specs.Printed.{IsReadAgain}
use Rattle.mq_drawn.proofs.Bytes.{IsByte, says_word, all_small, two_small, spelled_short}
use Rattle.mq_drawn.proofs.Chain.{Set, Went, IsGood, AreGood}
use Rattle.mq_drawn.proofs.Moving.{Ran, worker_comes, steps_go}
use Rattle.mq_drawn.proofs.Begun.{four, one_more, piece_good, run_good, opening_good}

-- ---- a packet's bytes

sum_small : (len : ℕ) (p : List ℕ) → checksum_of len p / 256 < 256
sum_small len p = omega arith

checksum_bytes : (sum : ℕ) (p : List ℕ) → sum / 256 < 256 → All (λ b. b < 256) p → All (λ b. b < 256) (with_checksum sum p)
checksum_bytes sum p fits bytes = All-set IsByte (set p 10 (sum / 256)) 11 (sum % 256) (omega arith) (All-set IsByte p 10 (sum / 256) fits bytes)

summed_bytes : (len : ℕ) (p : List ℕ) → All (λ b. b < 256) p → All (λ b. b < 256) (summed len p)
unfolding summed
summed_bytes len p bytes = checksum_bytes (checksum_of len (with_checksum 0 p)) (with_checksum 0 p) (sum_small len (with_checksum 0 p)) (checksum_bytes 0 p (omega arith) bytes)

summed_long : (len : ℕ) (p : List ℕ) → length (summed len p) ≡ length p
unfolding summed
summed_long len p =
    let blank = with_checksum 0 p in
    let sum = checksum_of len blank in
    length-set (set blank 10 (sum / 256)) 11 (sum % 256) ∙ length-set blank 10 (sum / 256) ∙ length-set (set p 10 (0 / 256)) 11 (0 % 256) ∙ length-set p 10 (0 / 256)

behind : ℕ → List ℕ → List ℕ
behind client target = 0 ∷ 0 ∷ 0 ∷ 0 ∷ 64 ∷ 17 ∷ 0 ∷ 0 ∷ 10 ∷ 0 ∷ 0 ∷ client ∷ target

behind_bytes : (client : ℕ) (target : List ℕ) → client < 256 → All (λ b. b < 256) target → All (λ b. b < 256) (behind client target)
unfolding behind
behind_bytes client target fits bytes =
    All-append IsByte (0 ∷ 0 ∷ 0 ∷ 0 ∷ 64 ∷ 17 ∷ 0 ∷ 0 ∷ 10 ∷ 0 ∷ 0 ∷ []) (client ∷ target) (all_small (0 ∷ 0 ∷ 0 ∷ 0 ∷ 64 ∷ 17 ∷ 0 ∷ 0 ∷ 10 ∷ 0 ∷ 0 ∷ []) refl) (All-cons IsByte client target fits bytes)

header_bytes : (size client : ℕ) (target : List ℕ) → client < 256 → All (λ b. b < 256) target → All (λ b. b < 256) (header size client target)
unfolding header behind
header_bytes size client target fits bytes =
    summed_bytes 20 (69 ∷ 0 ∷ (to_be_bytes w16 (20 + size) ++ behind client target)) (All-append IsByte (69 ∷ 0 ∷ to_be_bytes w16 (20 + size)) (behind client target)
    (All-cons IsByte 69 (0 ∷ to_be_bytes w16 (20 + size)) (omega arith) (All-cons IsByte 0 (to_be_bytes w16 (20 + size)) (omega arith) (two_small (20 + size)))) (behind_bytes client target fits bytes))

header_long : (size client : ℕ) (target : List ℕ) → length (header size client target) ≡ 16 + length target
unfolding header
header_long size client target = summed_long 20 _ ∙ omega arith

udp_bytes : (payload : List ℕ) → All (λ b. b < 256) payload → All (λ b. b < 256) (udp payload)
udp_bytes payload bytes =
    let ports = to_be_bytes w16 4000 ++ to_be_bytes w16 7 in
    let sized = ports ++ to_be_bytes w16 (8 + length payload) in
    All-append IsByte (sized ++ to_be_bytes w16 0) payload (All-append IsByte sized (to_be_bytes w16 0)
    (All-append IsByte ports (to_be_bytes w16 (8 + length payload)) (All-append IsByte (to_be_bytes w16 4000) (to_be_bytes w16 7) (two_small 4000) (two_small 7)) (two_small (8 + length payload)))
    (two_small 0)) bytes

target_bytes : (r : ℕ) → All (λ b. b < 256) (target_of r)
target_bytes r =
    let P : List ℕ → Type 0 = λ t. All (λ b. b < 256) t in
    elim (cases_eq (r / 4 % 5) 4) [
      | inl same ↦ subst P (sym (cond-true _ _ _ (eq-eqb _ _ same))) (all_small (203 ∷ 0 ∷ 113 ∷ 5 ∷ []) refl)
      | inr other ↦ subst P (sym (cond-false _ _ _ (ne_eqb _ _ other)))
          (All-cons IsByte 10 (0 ∷ 0 ∷ r / 4 % 5 ∷ []) (omega arith) (All-cons IsByte 0 (0 ∷ r / 4 % 5 ∷ []) (omega arith) (All-cons IsByte 0 (r / 4 % 5 ∷ []) (omega arith) (All-cons IsByte (r / 4 % 5) [] (omega arith) (All-nil IsByte)))))
    ]

target_long : (r : ℕ) → length (target_of r) ≡ 4
target_long r =
    let P : List ℕ → Type 0 = λ t. length t ≡ 4 in
    elim (cases_eq (r / 4 % 5) 4) [
      | inl same ↦ subst P (sym (cond-true _ _ _ (eq-eqb _ _ same))) refl
      | inr other ↦ subst P (sym (cond-false _ _ _ (ne_eqb _ _ other))) refl
    ]

packet_bytes : (r n : ℕ) → All (λ b. b < 256) (packet_of r n)
packet_bytes r n =
    let payload = replicate (payload_len r) (n % 256) in
    All-append IsByte (header (8 + length payload) (client_of r) (target_of r)) (udp payload)
    (header_bytes (8 + length payload) (client_of r) (target_of r) (omega arith) (target_bytes r))
    (udp_bytes payload (All-replicate IsByte (payload_len r) (n % 256) (omega arith)))

packet_long : (r n : ℕ) → length (packet_of r n) ≤ 40
packet_long r n =
    let payload = replicate (payload_len r) (n % 256) in
    let size : length payload ≡ payload_len r = length-replicate (payload_len r) (n % 256) in
    let front = header_long (8 + length payload) (client_of r) (target_of r) in
    let few : payload_len r < 8 = omega arith in
    omega (arith, size, front, target_long r, few, length-append (header (8 + length payload) (client_of r) (target_of r)) (udp payload))

-- ---- its capsule, and the line of that

-- what a datagram's value is
valued : ℕ → ℕ → List ℕ
valued r n = 0 ∷ packet_of r n

capsule_is : (r n : ℕ) → capsule_text (datagram (packet_of r n)) ≡ 0 ∷ length (valued r n) ∷ valued r n
unfolding valued
capsule_is r n =
    let long = packet_long r n in
    let size : spelling_of (length (valued r n)) ≡ length (valued r n) ∷ [] = spelled_short (length (valued r n)) (omega (arith, long)) in
    let kind : spelling_of 0 ≡ 0 ∷ [] = spelled_short 0 (omega arith) in
    ap (λ (k : List ℕ). k ++ (spelling_of (length (valued r n)) ++ valued r n)) kind
    ∙ ap (λ (s : List ℕ). 0 ∷ (s ++ valued r n)) size

capsule_hex : (r n : ℕ) → IsHex (encode_lower (capsule_text (datagram (packet_of r n)))) (capsule_text (datagram (packet_of r n)))
unfolding valued
capsule_hex r n =
    let long = packet_long r n in
    let P : List ℕ → Type 0 = λ bytes. IsHex (encode_lower bytes) bytes in
    let made : P (0 ∷ length (valued r n) ∷ valued r n) = record {
      some = λ e. cc;
      are = All-cons IsByte 0 (length (valued r n) ∷ valued r n) (omega arith) (All-cons IsByte (length (valued r n)) (valued r n) (omega (arith, long)) (All-cons IsByte 0 (packet_of r n) (omega arith) (packet_bytes r n)));
      is = refl;
    } in
    subst P (sym (capsule_is r n)) made

piece_is_good : (r n : ℕ) → IsGood (Went four) (piece_line r n) (Went four)
unfolding piece_line valued
piece_is_good r n =
    let bytes = capsule_text (datagram (packet_of r n)) in
    let name = decimal (client_of r) in
    let short = length-decimal-le 5 (client_of r) (omega arith) (omega arith) (omega arith) in
    let long = packet_long r n in
    let size = ap (λ (bs : List ℕ). length bs) (capsule_is r n) in
    let digits = length-encode_with lower_digits bytes in
    let most : length (encode_lower bytes) ≤ 100 = omega (arith, digits, size, long) in
    piece_good four (client_of r) bytes _
    (says_word word.Bytes (name ++ 32 ∷ encode_lower bytes) (line.Happens (event.Piece (client_of r) bytes)) (record {
      part = name;
      first = client_of r;
      rest = encode_lower bytes;
      is = refl;
      says = record { least = omega arith; most = omega arith; is = refl };
      behind = record { value = bytes; says = capsule_hex r n; said_is = refl };
    }))
    (omega (arith, short, most, length-append name (32 ∷ encode_lower bytes)))
    (going (client_of r) (omega arith))
  where
    going : (client : ℕ) → client < 4 → is_ended four client ≡ false
    going zero fits = refl
    going (suc zero) fits = refl
    going (suc (suc zero)) fits = refl
    going (suc (suc (suc zero))) fits = refl
    going (suc (suc (suc (suc n)))) fits = absurd (omega arith)

-- ---- the steps behind it

differ : true ≡ false → ⊥
differ e = cc

step_text : (actor : ℕ) (name : List ℕ) → IsActor name actor → Says (codes "step" ++ 32 ∷ (name ++ 32 ∷ codes "2")) (line.Steps actor 2)
unfolding digits
step_text actor name is = says_word word.Step (name ++ 32 ∷ codes "2") (line.Steps actor 2)
    (inr (record { part = name; first = actor; rest = codes "2"; is = refl; says = is; behind = record { value = 2; says = record { least = omega arith; most = omega arith; is = refl }; said_is = refl } }))

steps_good : (actor : ℕ) (name : List ℕ) → IsActor name actor → length name ≤ 5 → ((s : Stage) → Ran four s → IsBadHere s (line.Steps actor 2) → ⊥)
    → IsGood (Went four) (codes "step" ++ 32 ∷ (name ++ 32 ∷ codes "2")) (Went four)
steps_good actor name is short comes = record {
  said = line.Steps actor 2;
  says = step_text actor name is;
  fits = omega (arith, short, length-append name (32 ∷ codes "2"));
  comes = comes;
  leads = steps_go four actor 2;
}

worker_good : (number : ℕ) → number < 2 → IsGood (Went four) (codes "step" ++ 32 ∷ (decimal number ++ 32 ∷ codes "2")) (Went four)
worker_good zero fits = steps_good 0 (decimal 0) (inl (record { least = omega arith; most = omega arith; is = refl })) (length-decimal-le 5 0 (omega arith) (omega arith) (omega arith)) (worker_comes four 0 refl)
worker_good (suc zero) fits = steps_good 1 (decimal 1) (inl (record { least = omega arith; most = omega arith; is = refl })) (length-decimal-le 5 1 (omega arith) (omega arith) (omega arith)) (worker_comes four 1 refl)
worker_good (suc (suc n)) fits = absurd (omega arith)

net_good : IsGood (Went four) (codes "step" ++ 32 ∷ (codes "net" ++ 32 ∷ codes "2")) (Went four)
net_good = steps_good net_number (codes "net") (inr (refl, refl)) (omega arith) (λ s ran bad. differ bad)

step_is_good : (r : ℕ) → IsGood (Went four) (step_line r) (Went four)
unfolding step_line
step_is_good r =
    let P : List ℕ → Type 0 = λ name. IsGood (Went four) (codes "step" ++ 32 ∷ (name ++ 32 ∷ codes "2")) (Went four) in
    elim (cases_eq (r / 160 % 3) 2) [
      | inl same ↦ subst P (sym (cond-true _ _ _ (eq-eqb _ _ same))) net_good
      | inr other ↦ subst P (sym (cond-false _ _ _ (ne_eqb _ _ other))) (worker_good (r / 160 % 3) (omega (arith, other)))
    ]

-- ---- all of them

lines_good : (x n left : ℕ) → AreGood (Went four) (lines_from x n left)
unfolding lines_from digits
lines_good x n zero = one_more (Went four) (Went four) (codes "run 1000000") [] (run_good 1000000 (codes "1000000") (omega arith) (omega arith) refl (omega arith)) tt
lines_good x n (suc left) =
    let r = drawn (next_state x) in
    one_more (Went four) (Went four) (piece_line r n) (step_line r ∷ lines_from (next_state x) (n + 1) left) (piece_is_good r n)
    (one_more (Went four) (Went four) (step_line r) (lines_from (next_state x) (n + 1) left) (step_is_good r) (lines_good (next_state x) (n + 1) left))

pub all_good : IsReadAgain → (seed count : ℕ) → AreGood (Set []) (generated seed count)
unfolding generated
all_good again seed count = opening_good again (lines_from seed 0 count) (lines_good seed 0 count)
