-- The tunnel at a place.
use Rattle.std.proofs.Common.{eqb-true, ◌≡◌, ℕ, zero, suc, ◌≤◌, ◌<◌, ◌+◌, ◌==◌, cond, Bool, true, false, List, [], ◌∷◌, ◌++◌, length, filter, nat_le, nat_lt, Some, None, slice_get, slice_set, inl, inr, refl, sym, ap, ◌∙◌, subst, arith, eq-eqb, ne_eqb}
use Rattle.std.specs.Prelude.{find, sum_by}
use Rattle.std.proofs.lemmas.List.Sums.{sum_by-cons}
use Rattle.mq_machine.specs.Done.{waits}
use Rattle.mq_machine.specs.Lawful.{Alone, has_on}
use Rattle.mq_machine.specs.State as machine
use Rattle.mq_machine.specs.State.{Waiting}
use Rattle.mq_machine.specs.Steps.{set_waiting}
use Rattle.mq_machine.proofs.Lawful.Lists.{In, in_has, itself, unless_true, never}
use Rattle.mq_conn.specs.declared.conn.Tunnel.{Tunnel}
use Rattle.mq_conn.specs.Conns.{tunnel_is, tunnels_of}
use Rattle.mq_conn.specs.Frames.{IsPlaceOf, HasNone, on_side}
use Rattle.mq_conn.specs.Queues.{size_of}

-- ---- of a number

pub found : (ts : List Tunnel) (id place : ℕ) (t : Tunnel) → IsPlaceOf ts id place t → find (λ (u : machine.Tunnel). u.id == id) (tunnels_of ts) ≡ Some (tunnel_is t)
found [] id place t p = (let e = p.at in absurd cc)
found (x ∷ ts) id zero t p =
    let same : x ≡ t = (let e = p.at in cc) in
    let here : (x.id == id) ≡ true = eq-eqb x.id id (ap (λ (y : Tunnel). y.id) same ∙ p.id_is) in
    ap (λ (b : Bool). cond b (Some (tunnel_is x)) (find (λ (u : machine.Tunnel). u.id == id) (tunnels_of ts))) here ∙ ap (λ (y : Tunnel). Some (tunnel_is y)) same
found (x ∷ ts) id (suc k) t p =
    let not_here : (x.id == id) ≡ false = ne_eqb x.id id (p.first 0 x (omega arith) refl) in
    ap (λ (b : Bool). cond b (Some (tunnel_is x)) (find (λ (u : machine.Tunnel). u.id == id) (tunnels_of ts))) not_here
    ∙ found ts id k t (record { at = p.at; id_is = p.id_is; first = λ other before lt at. p.first (suc other) before (omega (arith, lt)) at })

pub missing : (ts : List Tunnel) (id : ℕ) → HasNone ts id → find (λ (u : machine.Tunnel). u.id == id) (tunnels_of ts) ≡ None
missing [] id none = refl
missing (x ∷ ts) id none =
    let not_here : (x.id == id) ≡ false = ne_eqb x.id id (none 0 x refl) in
    ap (λ (b : Bool). cond b (Some (tunnel_is x)) (find (λ (u : machine.Tunnel). u.id == id) (tunnels_of ts))) not_here ∙ missing ts id (λ place t at. none (suc place) t at)

-- one more waits last in it
pub waits_at : (ts : List Tunnel) (id place : ℕ) (t : Tunnel) (w : Waiting) → IsPlaceOf ts id place t
    → waits id w (tunnels_of ts) ≡ tunnels_of (slice_set ts place (record t { waiting = t.waiting ++ w ∷ [] }))
waits_at [] id place t w p = (let e = p.at in absurd cc)
waits_at (x ∷ ts) id zero t w p =
    let same : x ≡ t = (let e = p.at in cc) in
    let here : (x.id == id) ≡ true = eq-eqb x.id id (ap (λ (y : Tunnel). y.id) same ∙ p.id_is) in
    ap (λ (b : Bool). cond b (tunnel_is (record x { waiting = x.waiting ++ w ∷ [] }) ∷ tunnels_of ts) (tunnel_is x ∷ waits id w (tunnels_of ts))) here
    ∙ ap (λ (y : Tunnel). tunnel_is (record y { waiting = y.waiting ++ w ∷ [] }) ∷ tunnels_of ts) same
waits_at (x ∷ ts) id (suc k) t w p =
    let not_here : (x.id == id) ≡ false = ne_eqb x.id id (p.first 0 x (omega arith) refl) in
    ap (λ (b : Bool). cond b (tunnel_is (record x { waiting = x.waiting ++ w ∷ [] }) ∷ tunnels_of ts) (tunnel_is x ∷ waits id w (tunnels_of ts))) not_here
    ∙ ap (λ (us : List machine.Tunnel). tunnel_is x ∷ us) (waits_at ts id k t w (record { at = p.at; id_is = p.id_is; first = λ other before lt at. p.first (suc other) before (omega (arith, lt)) at }))

-- ---- of a stream, where each has its own

in_at : (ts : List Tunnel) (place : ℕ) (t : Tunnel) → slice_get ts place ≡ Some t → In (tunnel_is t) (tunnels_of ts)
in_at [] place t at = absurd cc
in_at (x ∷ ts) zero t at = let same : x ≡ t = (let e = at in cc) in inl (ap tunnel_is same)
in_at (x ∷ ts) (suc k) t at = inr (in_at ts k t at)

-- a stream that none is on is none of theirs
apart_on : (ts : List machine.Tunnel) (t : machine.Tunnel) (id : ℕ) → In t ts → has_on ts id ≡ false → (id == t.stream) ≡ false
apart_on ts t id i none = unless_true (id == t.stream) (λ e. never (has_on ts id) (ap (has_on ts) (eqb-true id t.stream e) ∙ in_has ts t i) none)

pub set_at : (ts : List Tunnel) (place : ℕ) (t : Tunnel) (ws : List Waiting) → Alone (tunnels_of ts) → slice_get ts place ≡ Some t
    → set_waiting t.stream ws (tunnels_of ts) ≡ tunnels_of (slice_set ts place (record t { waiting = ws }))
set_at [] place t ws alone at = absurd cc
set_at (x ∷ ts) zero t ws alone at =
    let same : x ≡ t = (let e = at in cc) in
    let P : Tunnel → Type 0 = λ y. set_waiting y.stream ws (tunnel_is x ∷ tunnels_of ts) ≡ tunnel_is (record y { waiting = ws }) ∷ tunnels_of ts in
    subst P same (ap (λ (b : Bool). cond b (tunnel_is (record x { waiting = ws }) ∷ tunnels_of ts) (tunnel_is x ∷ set_waiting x.stream ws (tunnels_of ts))) (itself x.stream))
set_at (x ∷ ts) (suc k) t ws alone at =
    let other : (x.stream == t.stream) ≡ false = apart_on (tunnels_of ts) (tunnel_is t) x.stream (in_at ts k t at) alone.0 in
    ap (λ (b : Bool). cond b (tunnel_is (record x { waiting = ws }) ∷ tunnels_of ts) (tunnel_is x ∷ set_waiting t.stream ws (tunnels_of ts))) other
    ∙ ap (λ (us : List machine.Tunnel). tunnel_is x ∷ us) (set_at ts k t ws alone.1 at)

-- ---- the bytes that wait in all

pub bytes_in : (ts : List Tunnel) → sum_by (λ (t : machine.Tunnel). size_of t.waiting) (tunnels_of ts) ≡ sum_by (λ (t : Tunnel). size_of t.waiting) ts
bytes_in [] = refl
bytes_in (x ∷ ts) =
    sum_by-cons (λ (t : machine.Tunnel). size_of t.waiting) (tunnel_is x) (tunnels_of ts) ∙ ap (λ (n : ℕ). size_of x.waiting + n) (bytes_in ts)
    ∙ sym (sum_by-cons (λ (t : Tunnel). size_of t.waiting) x ts)

-- ---- the first of a side that can be framed

abbrev pub side : Bool → ℕ → machine.Tunnel → Bool
side true from t = nat_le from t.id
side false from t = nat_lt t.id from

pub side_is : (late : Bool) (from : ℕ) (ts : List machine.Tunnel) → on_side late from ts ≡ filter (side late from) ts
side_is true from ts = refl
side_is false from ts = refl

found_filter : (can is : machine.Tunnel → Bool) (t : machine.Tunnel) (ts : List machine.Tunnel) (b : Bool) → is t ≡ b → (b ≡ true → can t ≡ false) → find can (filter is (t ∷ ts)) ≡ find can (filter is ts)
found_filter can is t ts true e not_can =
    ap (λ (b : Bool). find can (cond b (t ∷ filter is ts) (filter is ts))) e ∙ ap (λ (b : Bool). cond b (Some t) (find can (filter is ts))) (not_can refl)
found_filter can is t ts false e not_can = ap (λ (b : Bool). find can (cond b (t ∷ filter is ts) (filter is ts))) e

pub first_at : (can is : machine.Tunnel → Bool) (ts : List Tunnel) (place : ℕ) (t : Tunnel) → ((other : ℕ) (t : Tunnel) → other < place → slice_get ts other ≡ Some t → is (tunnel_is t) ≡ true → can (tunnel_is t) ≡ false)
    → slice_get ts place ≡ Some t → is (tunnel_is t) ≡ true → can (tunnel_is t) ≡ true → find can (filter is (tunnels_of ts)) ≡ Some (tunnel_is t)
first_at can is [] place t passed at on can_now = absurd cc
first_at can is (x ∷ ts) zero t passed at on can_now =
    let same : x ≡ t = (let e = at in cc) in
    let Q : Tunnel → Type 0 = λ y. find can (filter is (tunnel_is y ∷ tunnels_of ts)) ≡ Some (tunnel_is t) in
    subst Q (sym same) (ap (λ (b : Bool). find can (cond b (tunnel_is t ∷ filter is (tunnels_of ts)) (filter is (tunnels_of ts)))) on
    ∙ ap (λ (b : Bool). cond b (Some (tunnel_is t)) (find can (filter is (tunnels_of ts)))) can_now)
first_at can is (x ∷ ts) (suc k) t passed at on can_now =
    found_filter can is (tunnel_is x) (tunnels_of ts) (is (tunnel_is x)) refl (passed 0 x (omega arith) refl)
    ∙ first_at can is ts k t (λ other u lt here. passed (suc other) u (omega (arith, lt)) here) at on can_now

pub none_at : (can is : machine.Tunnel → Bool) (ts : List Tunnel) → ((other : ℕ) (t : Tunnel) → slice_get ts other ≡ Some t → is (tunnel_is t) ≡ true → can (tunnel_is t) ≡ false) → find can (filter is (tunnels_of ts)) ≡ None
none_at can is [] passed = refl
none_at can is (x ∷ ts) passed =
    found_filter can is (tunnel_is x) (tunnels_of ts) (is (tunnel_is x)) refl (passed 0 x refl) ∙ none_at can is ts (λ other u here. passed (suc other) u here)

-- ---- both sides

pub either_side : (can : machine.Tunnel → Bool) (xs ys : List machine.Tunnel) (t : machine.Tunnel) → find can xs ≡ Some t → find can (xs ++ ys) ≡ Some t
either_side can [] ys t h = absurd cc
either_side can (x ∷ xs) ys t h = go (can x) (either_side can xs ys t) h
  where
    go : (b : Bool) → (find can xs ≡ Some t → find can (xs ++ ys) ≡ Some t) → cond b (Some x) (find can xs) ≡ Some t → cond b (Some x) (find can (xs ++ ys)) ≡ Some t
    go true rest k = k
    go false rest k = rest k

pub other_side : (can : machine.Tunnel → Bool) (xs ys : List machine.Tunnel) → find can xs ≡ None → find can (xs ++ ys) ≡ find can ys
other_side can [] ys h = refl
other_side can (x ∷ xs) ys h = go (can x) (other_side can xs ys) h
  where
    go : (b : Bool) → (find can xs ≡ None → find can (xs ++ ys) ≡ find can ys) → cond b (Some x) (find can xs) ≡ None → cond b (Some x) (find can (xs ++ ys)) ≡ find can ys
    go true rest k = absurd cc
    go false rest k = rest k

pub past_end : (ts : List Tunnel) (place : ℕ) (t : Tunnel) → length ts ≤ place → slice_get ts place ≡ Some t → ⊥
past_end [] place t past at = cc
past_end (x ∷ ts) zero t past at = omega (arith, past)
past_end (x ∷ ts) (suc k) t past at = past_end ts k t (omega (arith, past)) at

pub before_end : (ts : List Tunnel) (place : ℕ) (t : Tunnel) → slice_get ts place ≡ Some t → place < length ts
before_end [] place t at = absurd cc
before_end (x ∷ ts) zero t at = omega arith
before_end (x ∷ ts) (suc k) t at = let r = before_end ts k t at in omega (arith, r)

pub one_within : (ts : List Tunnel) (place : ℕ) (t : Tunnel) → slice_get ts place ≡ Some t → size_of t.waiting ≤ sum_by (λ (u : Tunnel). size_of u.waiting) ts
one_within [] place t at = absurd cc
one_within (x ∷ ts) zero t at =
    let same : x ≡ t = (let e = at in cc) in
    let s = sum_by-cons (λ (u : Tunnel). size_of u.waiting) x ts in
    let k = ap (λ (y : Tunnel). size_of y.waiting) same in
    omega (arith, s, k)
one_within (x ∷ ts) (suc j) t at =
    let r = one_within ts j t at in
    let s = sum_by-cons (λ (u : Tunnel). size_of u.waiting) x ts in
    omega (arith, s, r)
