-- What a tunnel's shape is where what waits in it changes, where one opened or closed, and which tunnel is framed.
use Rattle.std.proofs.Common.{◌≡◌, ℕ, ◌==◌, cond, Bool, true, false, not, List, [], ◌∷◌, ◌++◌, nat_lt, nat_le, All, Some, None, refl, ap, subst, arith}
use Rattle.std.specs.Prelude.{filter, find, Contains}
use Rattle.std.proofs.lemmas.List.{map-append}
use Rattle.std.proofs.lemmas.List.Elements.{All-cons, All-head, All-tail, All-nil, All-filter, All-append}
use Rattle.mq_machine.specs.State.{Conn, Tunnel, Waiting}
use Rattle.mq_machine.specs.Done.{waits}
use Rattle.mq_machine.specs.Steps.{set_waiting, can_go_on, can_frame, tunnels_from, next_framed}
use Rattle.mq_actor.specs.Goes.{Shape, shape_of, shapes_of}

-- ---- shapes

-- of a tunnel in which this waits now
pub set_shapes : (on : ℕ) (ws : List Waiting) (ts : List Tunnel) → shapes_of (set_waiting on ws ts) ≡ shapes_of ts
set_shapes on ws [] = refl
set_shapes on ws (t ∷ ts) = same (t.stream == on) (set_shapes on ws ts) where
  same : (b : Bool) → shapes_of (set_waiting on ws ts) ≡ shapes_of ts → shapes_of (cond b (record t { waiting = ws } ∷ ts) (t ∷ set_waiting on ws ts)) ≡ shapes_of (t ∷ ts)
  same true rest = refl
  same false rest = ap (λ (shapes : List Shape). shape_of t ∷ shapes) rest

-- of a tunnel in which this waits last
pub waits_shapes : (id : ℕ) (w : Waiting) (ts : List Tunnel) → shapes_of (waits id w ts) ≡ shapes_of ts
waits_shapes id w [] = refl
waits_shapes id w (t ∷ ts) = same (t.id == id) (waits_shapes id w ts) where
  same : (b : Bool) → shapes_of (waits id w ts) ≡ shapes_of ts → shapes_of (cond b (record t { waiting = t.waiting ++ w ∷ [] } ∷ ts) (t ∷ waits id w ts)) ≡ shapes_of (t ∷ ts)
  same true rest = refl
  same false rest = ap (λ (shapes : List Shape). shape_of t ∷ shapes) rest

-- without the tunnel of this number
pub without_shapes : (id : ℕ) (ts : List Tunnel)
    → shapes_of (filter (λ (t : Tunnel). not (t.id == id)) ts) ≡ filter (λ (x : Shape). not (x.id == id)) (shapes_of ts)
without_shapes id [] = refl
without_shapes id (t ∷ ts) = by_case (not (t.id == id)) (without_shapes id ts) where
  rest : List Tunnel
  rest = filter (λ (u : Tunnel). not (u.id == id)) ts

  shapes : List Shape
  shapes = filter (λ (x : Shape). not (x.id == id)) (shapes_of ts)

  by_case : (b : Bool) → shapes_of rest ≡ shapes → shapes_of (cond b (t ∷ rest) rest) ≡ cond b (shape_of t ∷ shapes) shapes
  by_case true e = ap (λ (xs : List Shape). shape_of t ∷ xs) e
  by_case false e = e

-- with one more tunnel
pub more_shapes : (ts : List Tunnel) (t : Tunnel) → shapes_of (ts ++ t ∷ []) ≡ shapes_of ts ++ shape_of t ∷ []
more_shapes ts t = map-append shape_of ts (t ∷ [])

-- ---- a tunnel that is found

-- what is true of all is true of the one that is found
pub find_all : (P : Tunnel → Type 0) (test : Tunnel → Bool) (ts : List Tunnel) (u : Tunnel) → All P ts → find test ts ≡ Some u → P u
find_all P test [] u all is = absurd cc
find_all P test (t ∷ ts) u all is = by_test (test t) (find_all P test ts u (All-tail P t ts all)) is where
  by_test : (b : Bool) → (find test ts ≡ Some u → P u) → cond b (Some t) (find test ts) ≡ Some u → P u
  by_test true later e = let same : t ≡ u = cc in subst P same (All-head P t ts all)
  by_test false later e = later e

-- an element of a list is in it
pub contains_head : (t : Tunnel) (ts : List Tunnel) → Contains (t ∷ ts) t
contains_head t ts = (0, grind arith, refl)

-- the only one of a list that is found
pub find_only : (test : Tunnel → Bool) (t u : Tunnel) → find test (t ∷ []) ≡ Some u → t ≡ u
find_only test t u is =
    let P : Tunnel → Type 0 = λ x. t ≡ x in
    find_all P test (t ∷ []) u (All-cons P t [] refl (All-nil P)) is

-- ---- the tunnel whose turn it is

-- what is true of all tunnels is true of them in the order in which they are framed
from_all : (P : Tunnel → Type 0) (from : ℕ) (ts : List Tunnel) → All P ts → All P (tunnels_from from ts)
from_all P from ts all =
    All-append P (filter (λ (t : Tunnel). nat_le from t.id) ts) (filter (λ (t : Tunnel). nat_lt t.id from) ts)
    (All-filter (λ (t : Tunnel). nat_le from t.id) P ts all) (All-filter (λ (t : Tunnel). nat_lt t.id from) P ts all)

-- what is true of all tunnels is true of the one to be framed
pub next_all : (P : Tunnel → Type 0) (c : Conn) (u : Tunnel) → All P c.tunnels → next_framed c ≡ Some u → P u
next_all P c u all is = by_case (can_go_on c) is where
  by_case : (b : Bool) → cond b (find (can_frame c) (tunnels_from c.next_tunnel c.tunnels)) None ≡ Some u → P u
  by_case true e = find_all P (can_frame c) (tunnels_from c.next_tunnel c.tunnels) u (from_all P c.next_tunnel c.tunnels all) e
  by_case false e = absurd cc
