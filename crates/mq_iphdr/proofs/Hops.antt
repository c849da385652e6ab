-- A packet that is taken is taken again behind the next hop.
use Rattle.std.proofs.Common.{◌≡◌, ℕ, zero, suc, ◌+◌, ◌-◌, ◌*◌, ◌/◌, ◌%◌, ◌<◌, ◌≤◌, List, [], ◌∷◌, length, take, drop, Result, Ok, ◌⊎◌, inl, inr, refl, sym, ap, ◌∙◌, subst, arith}
use Rattle.std.specs.List.{All}
use Rattle.std.proofs.lemmas.Bool.{cond-true, cond-false, lt-ltb, le-ltb, cases_lt, eq-eqb, ne_eqb, cases_Bool, cases_eq}
use Rattle.std.proofs.lemmas.List.Elements.{All-head, All-tail, All-drop, All-set, All-take}
use Rattle.mq_addr.specs.declared.packet.IpView.{IpView}
use Rattle.mq_addr.specs.declared.packet.HeaderFault.{HeaderFault}
use Rattle.mq_addr.specs.Packet.{ones_add, ones_sum, ones_sum_from, version_of, view4_of, view6_of, header4_len, header_of, walk, is_extension, is_cut, past_first, extension_len}
use Rattle.mq_iphdr.specs.Onward.{lowered, with_checksum, checksum_of, summed, onward_of, one_hop_less, IsTakenOnward}
use Rattle.mq_iphdr.proofs.Taken.{IsTaken4, IsTaken6, by_version, accept4, accept6, same_ok, no_ok}
use Rattle.mq_iphdr.proofs.Walking as step

abbrev AreBytes : List ℕ → Type 0
AreBytes bytes = All (λ b. b < 256) bytes

-- what an addition comes to
added : (a b : ℕ) → ((a + b < 65536) × (ones_add a b ≡ a + b)) ⊎ ((65536 ≤ a + b) × (ones_add a b ≡ a + b - 65535))
unfolding ones_add
added a b =
    elim (cases_lt (a + b) 65536) [
      | inl h ↦ inl (h, cond-true _ _ _ (lt-ltb _ _ h))
      | inr h ↦ inr (h, cond-false _ _ _ (le-ltb _ _ h))
    ]

small : (a b : ℕ) → a ≤ 65535 → b ≤ 65535 → ones_add a b ≤ 65535
small a b p q =
    elim (added a b) [
      | inl h ↦ omega (arith, h.0, h.1)
      | inr h ↦ omega (arith, h.0, h.1, p, q)
    ]

-- the order of additions doesn't matter
swapped : (s t w : ℕ) → s ≤ 65535 → t ≤ 65535 → w ≤ 65535 → ones_add (ones_add s t) w ≡ ones_add (ones_add s w) t
swapped s t w p q r =
    let st = added s t in let sw = added s w in let stw = added (ones_add s t) w in let swt = added (ones_add s w) t in
    grind (arith, st, sw, stw, swt, p, q, r)

-- a word that was added early is added late
late : (s t : ℕ) (bytes : List ℕ) → s ≤ 65535 → t ≤ 65535 → AreBytes bytes → ones_sum_from (ones_add s t) bytes ≡ ones_add (ones_sum_from s bytes) t
unfolding ones_sum_from
late s t [] p q h = refl
late s t (a ∷ []) p q h =
    let a' = All-head (λ (b : ℕ). b < 256) a [] h in
    swapped s t (a * 256) p q (omega (arith, a'))
late s t (a ∷ b ∷ bytes) p q h =
    let a' = All-head (λ (b : ℕ). b < 256) a (b ∷ bytes) h in
    let tail = All-tail (λ (b : ℕ). b < 256) a (b ∷ bytes) h in
    let b' = All-head (λ (b : ℕ). b < 256) b bytes tail in
    let w : a * 256 + b ≤ 65535 = omega (arith, a', b') in
    ap (λ (n : ℕ). ones_sum_from n bytes) (swapped s t (a * 256 + b) p q w)
    ∙ late (ones_add s (a * 256 + b)) t bytes (small _ _ p w) q (All-tail (λ (b : ℕ). b < 256) b bytes tail)

sum_small : (s : ℕ) (bytes : List ℕ) → s ≤ 65535 → AreBytes bytes → ones_sum_from s bytes ≤ 65535
unfolding ones_sum_from
sum_small s [] p h = p
sum_small s (a ∷ []) p h =
    let a' = All-head (λ (b : ℕ). b < 256) a [] h in
    small s (a * 256) p (omega (arith, a'))
sum_small s (a ∷ b ∷ bytes) p h =
    let a' = All-head (λ (b : ℕ). b < 256) a (b ∷ bytes) h in
    let tail = All-tail (λ (b : ℕ). b < 256) a (b ∷ bytes) h in
    let b' = All-head (λ (b : ℕ). b < 256) b bytes tail in
    sum_small (ones_add s (a * 256 + b)) bytes (small _ _ p (omega (arith, a', b'))) (All-tail (λ (b : ℕ). b < 256) b bytes tail)

-- a word and what it lacks to ffff
comes_to_all : (n : ℕ) → n ≤ 65535 → ones_add n (65535 - n) ≡ 65535
comes_to_all n p =
    elim (added n (65535 - n)) [
      | inl h ↦ omega (arith, h.1, p)
      | inr h ↦ omega (arith, h.0, p)
    ]

nothing_added : (n : ℕ) → n ≤ 65535 → ones_add n 0 ≡ n
nothing_added n p =
    elim (added n 0) [
      | inl h ↦ omega (arith, h.1)
      | inr h ↦ omega (arith, h.0, p)
    ]

-- with the word that the sum without it lacks, the sum is ffff
filled : (s word : ℕ) (bytes : List ℕ) → s ≤ 65535 → AreBytes bytes → word ≡ 65535 - ones_sum_from (ones_add s 0) bytes → ones_sum_from (ones_add s word) bytes ≡ 65535
filled s word bytes p h e =
    let fits = sum_small s bytes p h in
    let same : ones_sum_from (ones_add s 0) bytes ≡ ones_sum_from s bytes = ap (λ (n : ℕ). ones_sum_from n bytes) (nothing_added s p) in
    let lacks : word ≡ 65535 - ones_sum_from s bytes = e ∙ ap (λ (n : ℕ). 65535 - n) same in
    late s word bytes p (omega (arith, lacks)) h ∙ ap (λ (n : ℕ). ones_add (ones_sum_from s bytes) n) lacks ∙ comes_to_all _ fits

-- the first twelve bytes and the rest
pub record Front (p : List ℕ) : Type 0 where
  pub b0 : ℕ
  pub b1 : ℕ
  pub b2 : ℕ
  pub b3 : ℕ
  pub b4 : ℕ
  pub b5 : ℕ
  pub b6 : ℕ
  pub b7 : ℕ
  pub b8 : ℕ
  pub b9 : ℕ
  pub b10 : ℕ
  pub b11 : ℕ
  pub rest : List ℕ
  pub is : p ≡ b0 ∷ b1 ∷ b2 ∷ b3 ∷ b4 ∷ b5 ∷ b6 ∷ b7 ∷ b8 ∷ b9 ∷ b10 ∷ b11 ∷ rest

front : (p : List ℕ) → 12 ≤ length p → Front p
front [] h = absurd (omega (arith, h))
front (b0 ∷ []) h = absurd (omega (arith, h))
front (b0 ∷ b1 ∷ []) h = absurd (omega (arith, h))
front (b0 ∷ b1 ∷ b2 ∷ []) h = absurd (omega (arith, h))
front (b0 ∷ b1 ∷ b2 ∷ b3 ∷ []) h = absurd (omega (arith, h))
front (b0 ∷ b1 ∷ b2 ∷ b3 ∷ b4 ∷ []) h = absurd (omega (arith, h))
front (b0 ∷ b1 ∷ b2 ∷ b3 ∷ b4 ∷ b5 ∷ []) h = absurd (omega (arith, h))
front (b0 ∷ b1 ∷ b2 ∷ b3 ∷ b4 ∷ b5 ∷ b6 ∷ []) h = absurd (omega (arith, h))
front (b0 ∷ b1 ∷ b2 ∷ b3 ∷ b4 ∷ b5 ∷ b6 ∷ b7 ∷ []) h = absurd (omega (arith, h))
front (b0 ∷ b1 ∷ b2 ∷ b3 ∷ b4 ∷ b5 ∷ b6 ∷ b7 ∷ b8 ∷ []) h = absurd (omega (arith, h))
front (b0 ∷ b1 ∷ b2 ∷ b3 ∷ b4 ∷ b5 ∷ b6 ∷ b7 ∷ b8 ∷ b9 ∷ []) h = absurd (omega (arith, h))
front (b0 ∷ b1 ∷ b2 ∷ b3 ∷ b4 ∷ b5 ∷ b6 ∷ b7 ∷ b8 ∷ b9 ∷ b10 ∷ []) h = absurd (omega (arith, h))
front (b0 ∷ b1 ∷ b2 ∷ b3 ∷ b4 ∷ b5 ∷ b6 ∷ b7 ∷ b8 ∷ b9 ∷ b10 ∷ b11 ∷ rest) h = record { b0 = b0; b1 = b1; b2 = b2; b3 = b3; b4 = b4; b5 = b5; b6 = b6; b7 = b7; b8 = b8; b9 = b9; b10 = b10; b11 = b11; rest = rest; is = refl }

lowered_ok : (view after : IpView) → ◌≡◌ {A = Result IpView HeaderFault} (Ok view) (Ok after) → ◌≡◌ {A = Result IpView HeaderFault} (Ok (one_hop_less view)) (Ok (one_hop_less after))
lowered_ok view after h = ap (λ (v : IpView). Ok (one_hop_less v)) (same_ok view after h)

-- the walk doesn't look at the hop limit
walk_lowered : (n : ℕ) (view after : IpView) (bytes : List ℕ) → walk n view bytes ≡ Ok after → walk n (one_hop_less view) bytes ≡ Ok (one_hop_less after)
walk_lowered zero view after bytes h =
    elim (cases_Bool (is_extension view.flow.protocol)) [
      | inl met ↦ absurd (no_ok _ _ (sym (step.full 0 view bytes refl met) ∙ h))
      | inr other ↦ step.done 0 (one_hop_less view) bytes other ∙ lowered_ok view after (sym (step.done 0 view bytes other) ∙ h)
    ]
walk_lowered (suc n) view after bytes h =
    elim (cases_Bool (is_extension view.flow.protocol)) [
      | inr other ↦ step.done (suc n) (one_hop_less view) bytes other ∙ lowered_ok view after (sym (step.done (suc n) view bytes other) ∙ h)
      | inl met ↦ elim (cases_Bool (is_cut view.flow.protocol bytes)) [
        | inl short ↦ absurd (no_ok _ _ (sym (step.cut (suc n) view bytes (omega arith) met short) ∙ h))
        | inr fits ↦ elim (cases_eq view.flow.protocol 44) [
          | inl fragment ↦
              step.last (suc n) (one_hop_less view) bytes (omega arith) met fits fragment
              ∙ lowered_ok (past_first view bytes) after (sym (step.last (suc n) view bytes (omega arith) met fits fragment) ∙ h)
          | inr another ↦
              step.next n (one_hop_less view) bytes met fits another
              ∙ walk_lowered n (past_first view bytes) after (drop (extension_len view.flow.protocol bytes) bytes) (sym (step.next n view bytes met fits another) ∙ h)
        ]
      ]
    ]

-- an IPv6 packet
taken6 : (b0 b1 b2 b3 b4 b5 b6 b7 b8 b9 b10 b11 : ℕ) (rest : List ℕ) (view : IpView) → IsTaken6 (b0 ∷ b1 ∷ b2 ∷ b3 ∷ b4 ∷ b5 ∷ b6 ∷ b7 ∷ b8 ∷ b9 ∷ b10 ∷ b11 ∷ rest) view
    → header_of (lowered 7 (b0 ∷ b1 ∷ b2 ∷ b3 ∷ b4 ∷ b5 ∷ b6 ∷ b7 ∷ b8 ∷ b9 ∷ b10 ∷ b11 ∷ rest)) ≡ Ok (one_hop_less view)
unfolding view6_of
taken6 b0 b1 b2 b3 b4 b5 b6 b7 b8 b9 b10 b11 rest view t =
    let p : List ℕ = b0 ∷ b1 ∷ b2 ∷ b3 ∷ b4 ∷ b5 ∷ b6 ∷ b7 ∷ b8 ∷ b9 ∷ b10 ∷ b11 ∷ rest in
    accept6 (lowered 7 p) (one_hop_less view) (record {
      version = t.version;
      fixed = t.fixed;
      len = t.len;
      ends = t.ends;
      is = walk_lowered 8 (view6_of p) view (drop 40 p) t.is;
    })

take_front : (n b0 b1 b2 b3 b4 b5 b6 b7 b8 b9 b10 b11 : ℕ) (rest : List ℕ) → 12 ≤ n → take n (b0 ∷ b1 ∷ b2 ∷ b3 ∷ b4 ∷ b5 ∷ b6 ∷ b7 ∷ b8 ∷ b9 ∷ b10 ∷ b11 ∷ rest) ≡ b0 ∷ b1 ∷ b2 ∷ b3 ∷ b4 ∷ b5 ∷ b6 ∷ b7 ∷ b8 ∷ b9 ∷ b10 ∷ b11 ∷ take (n - 12) rest
take_front n b0 b1 b2 b3 b4 b5 b6 b7 b8 b9 b10 b11 rest h =
    let e : n ≡ suc (suc (suc (suc (suc (suc (suc (suc (suc (suc (suc (suc (n - 12)))))))))))) = omega (arith, h) in
    ap (λ (k : ℕ). take k (b0 ∷ b1 ∷ b2 ∷ b3 ∷ b4 ∷ b5 ∷ b6 ∷ b7 ∷ b8 ∷ b9 ∷ b10 ∷ b11 ∷ rest)) e

-- an IPv4 packet
sum_back : (n b0 b1 b2 b3 b4 b5 b6 b7 b8 b9 b10 b11 : ℕ) (rest : List ℕ) → 12 ≤ n → AreBytes (b0 ∷ b1 ∷ b2 ∷ b3 ∷ b4 ∷ b5 ∷ b6 ∷ b7 ∷ b8 ∷ b9 ∷ b10 ∷ b11 ∷ rest)
    → ones_sum (take n (summed n (b0 ∷ b1 ∷ b2 ∷ b3 ∷ b4 ∷ b5 ∷ b6 ∷ b7 ∷ b8 ∷ b9 ∷ b10 ∷ b11 ∷ rest))) ≡ 65535
unfolding ones_sum ones_sum_from summed
sum_back n b0 b1 b2 b3 b4 b5 b6 b7 b8 b9 b10 b11 rest h bytes =
    let behind : List ℕ = take (n - 12) rest in
    let s : ℕ = ones_add (ones_add (ones_add (ones_add (ones_add 0 (b0 * 256 + b1)) (b2 * 256 + b3)) (b4 * 256 + b5)) (b6 * 256 + b7)) (b8 * 256 + b9) in
    let fits : s ≤ 65535 =
    small _ _ (small _ _ (small _ _ (small _ _ (small 0 _ (omega arith) (omega (arith, bytes 0 0 (omega arith), bytes 1 0 (omega arith)))) (omega (arith, bytes 2 0 (omega arith), bytes 3 0 (omega arith)))) (omega (arith, bytes 4 0 (omega arith), bytes 5 0 (omega arith)))) (omega (arith, bytes 6 0 (omega arith), bytes 7 0 (omega arith)))) (omega (arith, bytes 8 0 (omega arith), bytes 9 0 (omega arith))) in
    let blank : List ℕ = with_checksum 0 (b0 ∷ b1 ∷ b2 ∷ b3 ∷ b4 ∷ b5 ∷ b6 ∷ b7 ∷ b8 ∷ b9 ∷ b10 ∷ b11 ∷ rest) in
    let c : ℕ = checksum_of n blank in
    let word : c / 256 * 256 + c % 256 ≡ c = omega arith in
    let lacks : c ≡ 65535 - ones_sum_from (ones_add s 0) behind =
    ap (λ (l : List ℕ). 65535 - ones_sum l) (take_front n b0 b1 b2 b3 b4 b5 b6 b7 b8 b9 0 0 rest h) in
    ap (λ (l : List ℕ). ones_sum l) (take_front n b0 b1 b2 b3 b4 b5 b6 b7 b8 b9 (c / 256) (c % 256) rest h)
    ∙ filled s (c / 256 * 256 + c % 256) behind fits (All-take (λ (b : ℕ). b < 256) (n - 12) rest (All-drop (λ (b : ℕ). b < 256) 12 (b0 ∷ b1 ∷ b2 ∷ b3 ∷ b4 ∷ b5 ∷ b6 ∷ b7 ∷ b8 ∷ b9 ∷ b10 ∷ b11 ∷ rest) bytes)) (word ∙ lacks)

taken4 : (b0 b1 b2 b3 b4 b5 b6 b7 b8 b9 b10 b11 : ℕ) (rest : List ℕ) (view : IpView) → AreBytes (b0 ∷ b1 ∷ b2 ∷ b3 ∷ b4 ∷ b5 ∷ b6 ∷ b7 ∷ b8 ∷ b9 ∷ b10 ∷ b11 ∷ rest) → IsTaken4 (b0 ∷ b1 ∷ b2 ∷ b3 ∷ b4 ∷ b5 ∷ b6 ∷ b7 ∷ b8 ∷ b9 ∷ b10 ∷ b11 ∷ rest) view
    → header_of (summed (header4_len (b0 ∷ b1 ∷ b2 ∷ b3 ∷ b4 ∷ b5 ∷ b6 ∷ b7 ∷ b8 ∷ b9 ∷ b10 ∷ b11 ∷ rest)) (lowered 8 (b0 ∷ b1 ∷ b2 ∷ b3 ∷ b4 ∷ b5 ∷ b6 ∷ b7 ∷ b8 ∷ b9 ∷ b10 ∷ b11 ∷ rest))) ≡ Ok (one_hop_less view)
unfolding view4_of summed
taken4 b0 b1 b2 b3 b4 b5 b6 b7 b8 b9 b10 b11 rest view bytes t =
    let p : List ℕ = b0 ∷ b1 ∷ b2 ∷ b3 ∷ b4 ∷ b5 ∷ b6 ∷ b7 ∷ b8 ∷ b9 ∷ b10 ∷ b11 ∷ rest in
    let n : ℕ = header4_len p in
    let q : List ℕ = summed n (lowered 8 p) in
    let byte : b8 - 1 < 256 = omega (arith, bytes 8 0 (omega arith)) in
    let again : header_of q ≡ Ok (view4_of q) = accept4 q (record {
      version = t.version;
      fixed = t.fixed;
      len = t.len;
      header = t.header;
      within = t.within;
      sum = sum_back n b0 b1 b2 b3 b4 b5 b6 b7 (b8 - 1) b9 b10 b11 rest (omega (arith, t.header)) (All-set (λ (b : ℕ). b < 256) p 8 (b8 - 1) byte bytes);
      ends = t.ends;
      is = refl;
    }) in
    again ∙ ap (λ (v : IpView). Ok (one_hop_less v)) (sym t.is)

onward4 : (p : List ℕ) (view : IpView) (f : Front p) → AreBytes p → IsTaken4 p view → header_of (onward_of p) ≡ Ok (one_hop_less view)
unfolding onward_of
onward4 p view f bytes t =
    let at : List ℕ → Type 0 = λ l. header_of (summed (header4_len l) (lowered 8 l)) ≡ Ok (one_hop_less view) in
    ap (λ (l : List ℕ). header_of l) (cond-true _ _ _ (eq-eqb _ _ t.version))
    ∙ subst at (sym f.is) (taken4 f.b0 f.b1 f.b2 f.b3 f.b4 f.b5 f.b6 f.b7 f.b8 f.b9 f.b10 f.b11 f.rest view (subst AreBytes f.is bytes) (subst (λ (l : List ℕ). IsTaken4 l view) f.is t))

onward6 : (p : List ℕ) (view : IpView) (f : Front p) → IsTaken6 p view → header_of (onward_of p) ≡ Ok (one_hop_less view)
unfolding onward_of
onward6 p view f t =
    let at : List ℕ → Type 0 = λ l. header_of (lowered 7 l) ≡ Ok (one_hop_less view) in
    ap (λ (l : List ℕ). header_of l) (cond-false _ _ _ (ne_eqb (version_of p) 4 (λ e. omega (arith, e, t.version))))
    ∙ subst at (sym f.is) (taken6 f.b0 f.b1 f.b2 f.b3 f.b4 f.b5 f.b6 f.b7 f.b8 f.b9 f.b10 f.b11 f.rest view (subst (λ (l : List ℕ). IsTaken6 l view) f.is t))

pub taken_onward : IsTakenOnward
taken_onward p view bytes h hop =
    elim (by_version p view h) [
      | inl t ↦ onward4 p view (front p (omega (arith, t.fixed))) bytes t
      | inr t ↦ onward6 p view (front p (omega (arith, t.fixed))) t
    ]
