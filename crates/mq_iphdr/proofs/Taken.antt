-- What is known of a packet that is taken, and that such facts are enough.
use Rattle.std.proofs.Common.{◌≡◌, ℕ, zero, suc, ◌≤◌, Bool, true, false, cond, not, ◌||◌, nat_eq, List, length, take, drop, slice_index, Result, Ok, Err, ◌⊎◌, inl, inr, refl, sym, ap, ◌∙◌, arith}
use Rattle.std.proofs.lemmas.Bool.{cond-true, cond-false, not-false, eqb-true, ltb-false, or_parts, eq-eqb, ne_eqb, le-ltb, cases_Bool, cases_eq}
use Rattle.mq_addr.specs.declared.packet.IpView.{IpView}
use Rattle.mq_addr.specs.declared.packet.HeaderFault.{HeaderFault}
use Rattle.mq_addr.specs.declared.packet.HeaderFault.TheVariants.{Short, Version}
use Rattle.mq_addr.specs.Packet.{version_of, ones_sum, has_bad_end, view4_of, view6_of, taken4, taken6, header4_of, header6_of, header_of, walk, is_extension, is_cut, past_first, extension_len, header4_len}
use Rattle.mq_iphdr.proofs.Walking as step

pub no_ok : (fault : HeaderFault) (view : IpView) → ◌≡◌ {A = Result IpView HeaderFault} (Err fault) (Ok view) → ⊥
no_ok fault view h = grind (arith, h)

-- a test that isn't the fault
pub passed : (b : Bool) (fault : HeaderFault) (r : Result IpView HeaderFault) (view : IpView) → cond b (Err fault) r ≡ Ok view → (b ≡ false) × (r ≡ Ok view)
passed false fault r view h = (refl, h)
passed true fault r view h = absurd (no_ok fault view h)

pub same_ok : (a b : IpView) → ◌≡◌ {A = Result IpView HeaderFault} (Ok a) (Ok b) → a ≡ b
same_ok a b h = grind (arith, h)

kept : (view after : IpView) → ◌≡◌ {A = Result IpView HeaderFault} (Ok view) (Ok after)
    → (after.version ≡ view.version) × (after.hop ≡ view.hop) × (after.length ≡ view.length)
kept view after h =
    let e = same_ok view after h in
    (ap (λ (v : IpView). v.version) (sym e), ap (λ (v : IpView). v.hop) (sym e), ap (λ (v : IpView). v.length) (sym e))

pub record IsTaken4 (p : List ℕ) (view : IpView) : Type 0 where
  pub version : version_of p ≡ 4
  pub fixed : 20 ≤ length p
  pub len : (view4_of p).length ≡ length p
  pub header : 20 ≤ (view4_of p).header
  pub within : (view4_of p).header ≤ length p
  pub sum : ones_sum (take (view4_of p).header p) ≡ 65535
  pub ends : has_bad_end (view4_of p) ≡ false
  pub is : view ≡ view4_of p

pub record IsTaken6 (p : List ℕ) (view : IpView) : Type 0 where
  pub version : version_of p ≡ 6
  pub fixed : 40 ≤ length p
  pub len : (view6_of p).length ≡ length p
  pub ends : has_bad_end (view6_of p) ≡ false
  pub is : walk 8 (view6_of p) (drop 40 p) ≡ Ok view

pub from_taken4 : (p : List ℕ) (view : IpView) → version_of p ≡ 4 → header4_of p ≡ Ok view → IsTaken4 p view
unfolding header4_of taken4
from_taken4 p view v h =
    let a = passed _ _ _ _ h in
    let b = passed _ _ _ _ a.1 in
    let c = passed _ _ _ _ b.1 in
    let d = passed _ _ _ _ c.1 in
    let e = passed _ _ _ _ d.1 in
    let bounds = or_parts _ _ c.0 in
    record {
      version = v;
      fixed = ltb-false _ _ a.0;
      len = eqb-true _ _ (not-false _ b.0);
      header = ltb-false _ _ bounds.0;
      within = ltb-false _ _ bounds.1;
      sum = eqb-true _ _ (not-false _ d.0);
      ends = e.0;
      is = sym (same_ok _ _ e.1);
    }

pub from_taken6 : (p : List ℕ) (view : IpView) → version_of p ≡ 6 → header6_of p ≡ Ok view → IsTaken6 p view
unfolding header6_of taken6
from_taken6 p view v h =
    let a = passed _ _ _ _ h in
    let b = passed _ _ _ _ a.1 in
    let c = passed _ _ _ _ b.1 in
    record {
      version = v;
      fixed = ltb-false _ _ a.0;
      len = eqb-true _ _ (not-false _ b.0);
      ends = c.0;
      is = c.1;
    }

one_of : (a b : Bool) (r s : Result IpView HeaderFault) (view : IpView) → cond a r (cond b s (Err Version)) ≡ Ok view
    → ((a ≡ true) × (r ≡ Ok view)) ⊎ ((b ≡ true) × (s ≡ Ok view))
one_of true b r s view h = inl (refl, h)
one_of false true r s view h = inr (refl, h)
one_of false false r s view h = absurd (no_ok Version view h)

pub by_version : (p : List ℕ) (view : IpView) → header_of p ≡ Ok view → IsTaken4 p view ⊎ IsTaken6 p view
unfolding header_of
by_version p view h =
    let a = passed (nat_eq (length p) 0) Short (cond (nat_eq (version_of p) 4) (header4_of p) (cond (nat_eq (version_of p) 6) (header6_of p) (Err Version))) view h in
    elim (one_of (nat_eq (version_of p) 4) (nat_eq (version_of p) 6) (header4_of p) (header6_of p) view a.1) [
      | inl four ↦ inl (from_taken4 p view (eqb-true _ _ four.0) four.1)
      | inr six ↦ inr (from_taken6 p view (eqb-true _ _ six.0) six.1)
    ]

-- what the walk leaves as it was
pub walk_keeps : (n : ℕ) (view after : IpView) (bytes : List ℕ) → walk n view bytes ≡ Ok after
    → (after.version ≡ view.version) × (after.hop ≡ view.hop) × (after.length ≡ view.length)
walk_keeps zero view after bytes h =
    elim (cases_Bool (is_extension view.flow.protocol)) [
      | inl met ↦ absurd (no_ok _ _ (sym (step.full 0 view bytes refl met) ∙ h))
      | inr other ↦ kept view after (sym (step.done 0 view bytes other) ∙ h)
    ]
walk_keeps (suc n) view after bytes h =
    elim (cases_Bool (is_extension view.flow.protocol)) [
      | inr other ↦ kept view after (sym (step.done (suc n) view bytes other) ∙ h)
      | inl met ↦ elim (cases_Bool (is_cut view.flow.protocol bytes)) [
        | inl short ↦ absurd (no_ok _ _ (sym (step.cut (suc n) view bytes (omega arith) met short) ∙ h))
        | inr fits ↦ elim (cases_eq view.flow.protocol 44) [
          | inl fragment ↦ kept (past_first view bytes) after (sym (step.last (suc n) view bytes (omega arith) met fits fragment) ∙ h)
          | inr another ↦ walk_keeps n (past_first view bytes) after (drop (extension_len view.flow.protocol bytes) bytes) (sym (step.next n view bytes met fits another) ∙ h)
        ]
      ]
    ]

pub version4 : (p : List ℕ) (view : IpView) → IsTaken4 p view → view.version ≡ 4
unfolding view4_of
version4 p view t = ap (λ (v : IpView). v.version) t.is

pub hop4 : (p : List ℕ) (view : IpView) → IsTaken4 p view → view.hop ≡ slice_index p 8
unfolding view4_of
hop4 p view t = ap (λ (v : IpView). v.hop) t.is

pub header4 : (p : List ℕ) (view : IpView) → IsTaken4 p view → view.header ≡ header4_len p
unfolding view4_of
header4 p view t = ap (λ (v : IpView). v.header) t.is

pub version6 : (p : List ℕ) (view : IpView) → IsTaken6 p view → view.version ≡ 6
unfolding view6_of
version6 p view t = (walk_keeps 8 (view6_of p) view (drop 40 p) t.is).0

pub hop6 : (p : List ℕ) (view : IpView) → IsTaken6 p view → view.hop ≡ slice_index p 7
unfolding view6_of
hop6 p view t = (walk_keeps 8 (view6_of p) view (drop 40 p) t.is).1

pub length6 : (p : List ℕ) (view : IpView) → IsTaken6 p view → view.length ≡ length p
length6 p view t = (walk_keeps 8 (view6_of p) view (drop 40 p) t.is).2 ∙ t.len

pub is_4 : (p : List ℕ) (view : IpView) → header_of p ≡ Ok view → view.version ≡ 4 → IsTaken4 p view
is_4 p view h v =
    elim (by_version p view h) [
      | inl t ↦ t
      | inr t ↦ absurd (omega (arith, v, version6 p view t))
    ]

pub is_6 : (p : List ℕ) (view : IpView) → header_of p ≡ Ok view → (view.version ≡ 4 → ⊥) → IsTaken6 p view
is_6 p view h other =
    elim (by_version p view h) [
      | inl t ↦ absurd (other (version4 p view t))
      | inr t ↦ t
    ]

both_false : (a b : Bool) → a ≡ false → b ≡ false → (a || b) ≡ false
both_false a b e f = rw (e, f)

pub accept4 : (q : List ℕ) → IsTaken4 q (view4_of q) → header_of q ≡ Ok (view4_of q)
unfolding header_of header4_of taken4
accept4 q t =
    cond-false _ _ _ (ne_eqb (length q) 0 (λ e. omega (arith, e, t.fixed)))
    ∙ cond-true _ _ _ (eq-eqb _ _ t.version)
    ∙ cond-false _ _ _ (le-ltb _ _ t.fixed)
    ∙ cond-false _ _ _ (ap not (eq-eqb _ _ t.len))
    ∙ cond-false _ _ _ (both_false _ _ (le-ltb _ _ t.header) (le-ltb _ _ t.within))
    ∙ cond-false _ _ _ (ap not (eq-eqb _ _ t.sum))
    ∙ cond-false _ _ _ t.ends

pub accept6 : (q : List ℕ) (view : IpView) → IsTaken6 q view → header_of q ≡ Ok view
unfolding header_of header6_of taken6
accept6 q view t =
    cond-false _ _ _ (ne_eqb (length q) 0 (λ e. omega (arith, e, t.fixed)))
    ∙ cond-false _ _ _ (ne_eqb (version_of q) 4 (λ e. omega (arith, e, t.version)))
    ∙ cond-true _ _ _ (eq-eqb _ _ t.version)
    ∙ cond-false _ _ _ (le-ltb _ _ t.fixed)
    ∙ cond-false _ _ _ (ap not (eq-eqb _ _ t.len))
    ∙ cond-false _ _ _ t.ends
    ∙ t.is
