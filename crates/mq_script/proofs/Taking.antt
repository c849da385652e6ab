-- A generated packet is taken.
use Rattle.std.proofs.Common.{◌≡◌, ℕ, ◌+◌, ◌-◌, ◌*◌, ◌/◌, ◌%◌, ◌<◌, ◌≤◌, Bool, false, ◌||◌, List, [], ◌∷◌, length, replicate, inl, inr, refl, sym, ◌∙◌, ap, subst, arith, Ok}
use Rattle.std.specs.Int.{w32, to_be_bytes, from_be_bytes}
use Rattle.std.proofs.lemmas.Bool.{cond-false, cond-true, cases_eq, eq-eqb, ne_eqb}
use Rattle.std.proofs.lemmas.List.{length-replicate}
use Rattle.std.proofs.lemmas.Nat.{from_be_bytes-to_be_bytes_4}
use Rattle.mq_addr.specs.declared.addr.Addr.TheVariants.{V4}
use Rattle.mq_addr.specs.declared.packet.IpView.{IpView}
use Rattle.mq_addr.specs.Packet.{header_of, is_nowhere, ones_add, ones_sum, ones_sum_from, view4_of}
use Rattle.mq_iphdr.specs.Onward.{summed}
use Rattle.mq_iphdr.proofs.Taken.{accept4}
use Rattle.mq_script.specs.Generated.{client_of, header, packet, payload_len, target_of}
use Rattle.mq_script.specs.Laws.{ArePacketsTaken}
use Rattle.mq_script.proofs.Checksums.{front_words, header_sum, sum_back}

-- the words of a header with its checksum
full_sum : (size client target : ℕ) → size < 256 → client < 256 → target < 4294967296
    → ones_sum (header size client (to_be_bytes w32 target)) ≡ 65535
unfolding header summed ones_sum ones_sum_from
full_sum size client target ps pc pt =
    let n : ℕ = 20 + size in
    let sum = header_sum (20 + size) client target (omega arith) pc pt in
    let high : target / 16777216 % 256 * 256 + target / 65536 % 256 ≡ target / 65536 = omega arith in
    let low : target / 256 % 256 * 256 + target % 256 ≡ target % 65536 = omega arith in
    let k : ℕ = 65535 - ones_add (ones_add (17664 + (20 + size) + 16401 + 2560 + client) (target / 65536)) (target % 65536) in
    let word : k / 256 * 256 + k % 256 ≡ k = omega arith in
    let front = front_words (20 + size) (omega arith) in
    rw (sum, high, low, front, word) (sum_back (20 + size) client (target / 65536) (target % 65536) k (omega arith) pc (omega arith) (omega arith) refl)

-- 10.0.0.0 to 10.255.255.255
ten_is_somewhere : (a : ℕ) → 167772160 ≤ a → a < 184549376 → is_nowhere (V4 a) ≡ false
unfolding is_nowhere
ten_is_somewhere a p q =
    let e0 = ne_eqb a 0 (λ e. omega (arith, e)) in
    let e1 = ne_eqb (a / 16777216) 127 (λ e. omega (arith, e)) in
    let e2 = ne_eqb (a / 65536) 43518 (λ e. omega (arith, e)) in
    let e3 = ne_eqb (a / 268435456) 14 (λ e. omega (arith, e)) in
    let e4 = ne_eqb a 4294967295 (λ e. omega (arith, e)) in
    rw (e0, e1, e2, e3, e4) refl

both_false : (x y : Bool) → x ≡ false → y ≡ false → (x || y) ≡ false
both_false x y e f = rw (e, f) refl

-- what the header of such a packet says
abbrev said : ℕ → List ℕ → ℕ → IpView
said client target size = record {
  version = 4;
  flow = record {
    source = V4 (from_be_bytes w32 (10 ∷ 0 ∷ 0 ∷ client ∷ []));
    target = V4 (from_be_bytes w32 target);
    protocol = 17;
  };
  hop = 64;
  header = 20;
  length = size;
}

-- a packet to an address of a host elsewhere
taken : (client target : ℕ) (payload : List ℕ) → client < 4 → target < 4294967296 → is_nowhere (V4 target) ≡ false → length payload < 8
    → header_of (packet client (to_be_bytes w32 target) payload) ≡ Ok (said client (to_be_bytes w32 target) (28 + length payload))
unfolding header summed view4_of
taken client target payload pc pt somewhere short =
    let p : List ℕ = packet client (to_be_bytes w32 target) payload in
    let long : length p ≡ 28 + length payload = omega arith in
    let word : (20 + (8 + length payload)) / 256 % 256 * 256 + (20 + (8 + length payload)) % 256 ≡ 28 + length payload = omega arith in
    let from_here = ten_is_somewhere (from_be_bytes w32 (10 ∷ 0 ∷ 0 ∷ client ∷ [])) (omega arith) (omega arith) in
    let to_there = ap (λ (a : ℕ). is_nowhere (V4 a)) (from_be_bytes-to_be_bytes_4 target pt) ∙ somewhere in
    accept4 p (record {
      version = refl;
      fixed = omega (arith, long);
      len = word ∙ sym long;
      header = omega arith;
      within = omega (arith, long);
      sum = full_sum (8 + length payload) client target (omega arith) (omega arith) pt;
      ends = both_false _ _ from_here to_there;
      is = refl;
    }) ∙ ap (λ (size : ℕ). Ok (said client (to_be_bytes w32 target) size)) word

ten_bytes : (b : ℕ) → b < 5 → to_be_bytes w32 (167772160 + b) ≡ 10 ∷ 0 ∷ 0 ∷ b ∷ []
ten_bytes b few =
    let e0 : (167772160 + b) / 16777216 % 256 ≡ 10 = omega arith in
    let e1 : (167772160 + b) / 65536 % 256 ≡ 0 = omega arith in
    let e2 : (167772160 + b) / 256 % 256 ≡ 0 = omega arith in
    let e3 : (167772160 + b) % 256 ≡ b = omega arith in
    rw (e0, e1, e2, e3) refl

-- the targets as numbers
record Target (r : ℕ) : Type 0 where
  number : ℕ
  fits : number < 4294967296
  is : to_be_bytes w32 number ≡ target_of r
  somewhere : is_nowhere (V4 number) ≡ false

the_target : (r : ℕ) → Target r
unfolding is_nowhere
the_target r =
    elim (cases_eq (r / 4 % 5) 4) [
      | inl host ↦ record {
        number = 3405803781;
        fits = omega arith;
        is = sym (cond-true _ _ _ (eq-eqb _ _ host));
        somewhere = refl;
      }
      | inr other ↦ record {
        number = 167772160 + r / 4 % 5;
        fits = omega arith;
        is = ten_bytes (r / 4 % 5) (omega arith) ∙ sym (cond-false _ _ _ (ne_eqb _ _ other));
        somewhere = ten_is_somewhere (167772160 + r / 4 % 5) (omega arith) (omega arith);
      }
    ]

pub are_taken : ArePacketsTaken
are_taken r number =
    let target = the_target r in
    let payload : List ℕ = replicate (payload_len r) (number % 256) in
    let size : length payload ≡ payload_len r = length-replicate (payload_len r) (number % 256) in
    let at : List ℕ → Type 0 = λ t. header_of (packet (client_of r) t payload) ≡ Ok (said (client_of r) t (28 + length payload)) in
    subst at target.is (taken (client_of r) target.number payload (omega arith) target.fits target.somewhere (omega (arith, size)))
    ∙ ap (λ (n : ℕ). Ok (said (client_of r) (target_of r) (28 + n))) size
