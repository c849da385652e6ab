-- The tunnels of a worker, by its connections without what their actor holds for them.
use Rattle.std.proofs.Common.{◌≡◌, ◌≢◌, ◌⊎◌, inl, inr, ℕ, zero, suc, ◌<◌, ◌==◌, Bool, true, false, cond, List, [], ◌∷◌, length}
use Rattle.std.proofs.Common.{map, filter, find, All, Contains, slice_get, Option, Some, None, option_map, refl, sym, ap, subst, ◌∙◌, arith}
use Rattle.std.proofs.lemmas.Bool.{cases_eq, eq-eqb, ne_eqb}
use Rattle.std.proofs.lemmas.List.Elements.{All-cons, All-head, All-tail, All-nil, All-map, All-contains, All-contains_itself, All-filter, filter_passes}
use Rattle.mq_talk.specs.declared.goal.Goal.{Goal}
use Rattle.mq_machine.specs.State.{Tunnel, Conn, Held, Worker}
use Rattle.mq_machine.specs.Turn.{replace}
use Rattle.mq_machine.specs.Acting.{HasTunnel}
use Rattle.mq_actor.specs.Goes.{Shape, shape_of, shapes_of}

-- ---- members of lists

contains_head : {X : Type 0} (x : X) (xs : List X) → Contains (x ∷ xs) x
contains_head x xs = let less : 0 < length (x ∷ xs) = omega arith in (0, less, refl)

contains_tail : {X : Type 0} (y : X) (xs : List X) (x : X) → Contains xs x → Contains (y ∷ xs) x
contains_tail y xs x (k, less, is) = let below : suc k < length (y ∷ xs) = omega (arith, less) in (suc k, below, is)

-- the image of one of a list is of the list of images
pub in_map : {X Y : Type 0} (f : X → Y) (xs : List X) (x : X) → Contains xs x → Contains (map f xs) (f x)
in_map f [] x (k, less, is) = absurd (omega (arith, less))
in_map f (y ∷ ys) x (zero, less, is) = subst (λ z. Contains (map f (z ∷ ys)) (f x)) (sym is) (contains_head (f x) (map f ys))
in_map f (y ∷ ys) x (suc k, less, is) =
    let below : k < length ys = omega (arith, less) in
    contains_tail (f y) (map f ys) (f x) (in_map f ys x (k, below, is))

-- one of the list has this image
abbrev HasImage : {X Y : Type 0} → (X → Y) → List X → Y → Type 0
HasImage {X} {Y} f xs y = (x : X) × Contains xs x × (f x ≡ y)

from_map : {X Y : Type 0} (f : X → Y) (xs : List X) (y : Y) → Contains (map f xs) y → HasImage f xs y
from_map f [] y (k, less, is) = absurd (omega (arith, less))
from_map f (x ∷ xs) y (zero, less, is) = (x, contains_head x xs, is)
from_map f (x ∷ xs) y (suc k, less, is) =
    let below : k < length (map f xs) = omega (arith, less) in
    let has = from_map f xs y (k, below, is) in
    (has.0, contains_tail x xs has.0 has.1, has.2)

-- what passes a filter is of the list
pub in_filter : {X : Type 0} (p : X → Bool) (xs : List X) (x : X) → Contains (filter p xs) x → Contains xs x
in_filter p xs x h = All-contains (Contains xs) (filter p xs) x (All-filter p (Contains xs) xs (All-contains_itself xs)) h

-- and passes
pub passes : {X : Type 0} (p : X → Bool) (xs : List X) (x : X) → Contains (filter p xs) x → p x ≡ true
passes p xs x h = All-contains (λ y. p y ≡ true) (filter p xs) x (filter_passes p xs) h

kept_step : {X : Type 0} (b : Bool) (y : X) (fs : List X) (x : X) → Contains fs x → Contains (cond b (y ∷ fs) fs) x
kept_step true y fs x h = contains_tail y fs x h
kept_step false y fs x h = h

kept_head : {X : Type 0} (b : Bool) (x : X) (fs : List X) → b ≡ true → Contains (cond b (x ∷ fs) fs) x
kept_head true x fs e = contains_head x fs
kept_head false x fs e = absurd cc

-- one of the list that passes a filter is of what it keeps
pub stays : {X : Type 0} (p : X → Bool) (xs : List X) (x : X) → Contains xs x → p x ≡ true → Contains (filter p xs) x
stays p [] x (k, less, is) e = absurd (omega (arith, less))
stays p (y ∷ ys) x (zero, less, is) e = subst (λ z. Contains (cond (p z) (z ∷ filter p ys) (filter p ys)) x) (sym is) (kept_head (p x) x (filter p ys) e)
stays p (y ∷ ys) x (suc k, less, is) e =
    let below : k < length ys = omega (arith, less) in
    kept_step (p y) y (filter p ys) x (stays p ys x (k, below, is) e)

-- ---- cores

-- the connections, without what their actor holds for them
abbrev pub cores_of : List Held → List Conn
cores_of hs = map (λ (h : Held). h.conn) hs

-- the first connection with this number
abbrev pub core_of : List Conn → ℕ → Option Conn
core_of cs number = find (λ (c : Conn). c.number == number) cs

-- one of the connections has a tunnel with this stream and goal
pub record HasIn (cs : List Conn) (tunnel conn stream : ℕ) (goal : Goal) : Type 0 where
  pub c : Conn
  pub at : find (λ (c : Conn). c.number == conn) cs ≡ Some c
  pub has : Contains (shapes_of c.tunnels) (record { id = tunnel; stream = stream; goal = goal })

-- the tunnels of a connection, or none
abbrev pub shapes_or : Option Conn → List Shape
shapes_or None = []
shapes_or (Some c) = shapes_of c.tunnels

-- the tunnels of the connection with this number
abbrev pub shapes_at : List Conn → ℕ → List Shape
shapes_at cs number = shapes_or (core_of cs number)

core_step : (b : Bool) (h : Held) (found : Option Conn) (held : Option Held) → found ≡ option_map (λ (x : Held). x.conn) held
    → cond b (Some h.conn) found ≡ option_map (λ (x : Held). x.conn) (cond b (Some h) held)
core_step true h found held is = refl
core_step false h found held is = is

-- the core of a held connection is that of its number
pub core_of_held : (hs : List Held) (number : ℕ)
    → core_of (cores_of hs) number ≡ option_map (λ (h : Held). h.conn) (find (λ (h : Held). h.conn.number == number) hs)
core_of_held [] number = refl
core_of_held (h ∷ hs) number =
    core_step (h.conn.number == number) h (core_of (cores_of hs) number) (find (λ (x : Held). x.conn.number == number) hs) (core_of_held hs number)

core_is_held : (found : Option Conn) (held : Option Held) (c : Conn) → found ≡ option_map (λ (x : Held). x.conn) held → found ≡ Some c
    → (h : Held) × (held ≡ Some h) × (h.conn ≡ c)
core_is_held found None c is at = absurd cc
core_is_held found (Some h) c is at = (h, refl, cc)

-- what the core of a number is held as
pub held_of_core : (hs : List Held) (number : ℕ) (c : Conn) → core_of (cores_of hs) number ≡ Some c
    → (h : Held) × (find (λ (x : Held). x.conn.number == number) hs ≡ Some h) × (h.conn ≡ c)
held_of_core hs number c at =
    core_is_held (core_of (cores_of hs) number) (find (λ (x : Held). x.conn.number == number) hs) c (core_of_held hs number) at

-- a tunnel with this stream and goal
abbrev pub shaped : (tunnel stream : ℕ) (goal : Goal) → Shape
shaped tunnel stream goal = record { id = tunnel; stream = stream; goal = goal }

-- a tunnel of a worker is one of its cores
pub tunnel_in : (w : Worker) (tunnel conn stream : ℕ) (goal : Goal) → HasTunnel w tunnel conn stream goal → HasIn (cores_of w.conns) tunnel conn stream goal
tunnel_in w tunnel conn stream goal is =
    let same : shape_of is.t ≡ shaped tunnel stream goal =
    ap (λ (k : ℕ). shaped k is.t.stream is.t.goal) is.id ∙ ap (λ (k : ℕ). shaped tunnel k is.t.goal) is.on
    ∙ ap (λ (g : Goal). shaped tunnel stream g) is.leads in
    let P : Shape → Type 0 = λ x. Contains (shapes_of is.held.conn.tunnels) x in
    record {
      c = is.held.conn;
      at = core_of_held w.conns conn ∙ ap (λ (o : Option Held). option_map (λ (h : Held). h.conn) o) is.at;
      has = subst P same (in_map shape_of is.held.conn.tunnels is.t is.has);
    }

-- a tunnel of its cores is one of a worker
pub tunnel_from : (w : Worker) (tunnel conn stream : ℕ) (goal : Goal) → HasIn (cores_of w.conns) tunnel conn stream goal → HasTunnel w tunnel conn stream goal
tunnel_from w tunnel conn stream goal is =
    let held = held_of_core w.conns conn is.c is.at in
    let P : Conn → Type 0 = λ c. Contains (shapes_of c.tunnels) (record { id = tunnel; stream = stream; goal = goal }) in
    let t = from_map shape_of held.0.conn.tunnels (record { id = tunnel; stream = stream; goal = goal }) (subst P (sym held.2) is.has) in
    record {
      held = held.0;
      t = t.0;
      at = held.1;
      has = t.1;
      id = ap (λ (s : Shape). s.id) t.2;
      on = ap (λ (s : Shape). s.stream) t.2;
      leads = ap (λ (s : Shape). s.goal) t.2;
    }

shapes_found : (o : Option Conn) (x : Shape) → Contains (shapes_or o) x → (c : Conn) × (o ≡ Some c) × Contains (shapes_of c.tunnels) x
shapes_found None x (k, less, is) = absurd (omega (arith, less))
shapes_found (Some c) x has = (c, refl, has)

-- a tunnel of the connections is among the shapes of its connection
pub in_shapes : (cs : List Conn) (tunnel conn stream : ℕ) (goal : Goal) → HasIn cs tunnel conn stream goal
    → Contains (shapes_at cs conn) (record { id = tunnel; stream = stream; goal = goal })
in_shapes cs tunnel conn stream goal is =
    let P : Option Conn → Type 0 = λ o. Contains (shapes_or o) (record { id = tunnel; stream = stream; goal = goal }) in
    subst P (sym is.at) is.has

-- and the other way round
pub from_shapes : (cs : List Conn) (tunnel conn stream : ℕ) (goal : Goal) → Contains (shapes_at cs conn) (record { id = tunnel; stream = stream; goal = goal })
    → HasIn cs tunnel conn stream goal
from_shapes cs tunnel conn stream goal has =
    let found = shapes_found (core_of cs conn) (record { id = tunnel; stream = stream; goal = goal }) has in
    record { c = found.0; at = found.1; has = found.2 }

-- ---- a connection is replaced

-- the connections have numbers of their own
abbrev pub AreApart : List Held → Type 0
AreApart conns = (i j : ℕ) (a b : Held) → slice_get conns i ≡ Some a → slice_get conns j ≡ Some b → a.conn.number ≡ b.conn.number → i ≡ j

-- the tunnels of what a connection became, if it hasn't ended
abbrev pub tunnels_or : Option Held → List Tunnel
tunnels_or None = []
tunnels_or (Some g) = g.conn.tunnels

-- what a connection became, if it hasn't ended, has its number
abbrev pub IsOne : ℕ → Option Held → Type 0
IsOne number new = (g : Held) → new ≡ Some g → g.conn.number ≡ number

-- what a connection became, if it hasn't ended
abbrev pub core_or : Option Held → Option Conn
core_or None = None
core_or (Some g) = Some g.conn

apart_tail : (h : Held) (hs : List Held) → AreApart (h ∷ hs) → AreApart hs
apart_tail h hs apart i j a b at_i at_j same = let far = apart (suc i) (suc j) a b at_i at_j same in omega (arith, far)

none_later : (hs : List Held) (number : ℕ) → ((k : ℕ) (x : Held) → slice_get hs k ≡ Some x → x.conn.number ≢ number) → core_of (cores_of hs) number ≡ None
none_later [] number none = refl
none_later (h ∷ hs) number none =
    ap (λ b. cond b (Some h.conn) (core_of (cores_of hs) number)) (ne_eqb h.conn.number number (none 0 h refl))
    ∙ none_later hs number (λ k x at. none (suc k) x at)

-- no other connection has the number of the first
apart_first : (h : Held) (hs : List Held) → AreApart (h ∷ hs) → core_of (cores_of hs) h.conn.number ≡ None
apart_first h hs apart =
    none_later hs h.conn.number (λ k x at same. let far : suc k ≡ 0 = apart (suc k) 0 x h at refl same in omega (arith, far))

-- at a number that isn't that of the first
core_behind : (c : Conn) (cs : List Conn) (number : ℕ) → c.number ≢ number → core_of (c ∷ cs) number ≡ core_of cs number
core_behind c cs number ne = ap (λ b. cond b (Some c) (core_of cs number)) (ne_eqb c.number number ne)

-- at that of the first
core_first : (c : Conn) (cs : List Conn) (number : ℕ) → c.number ≡ number → core_of (c ∷ cs) number ≡ Some c
core_first c cs number is = ap (λ b. cond b (Some c) (core_of cs number)) (eq-eqb c.number number is)

-- what is replaced where the first connection isn't the one
replace_behind : (number : ℕ) (new : Option Held) (h : Held) (hs : List Held) → h.conn.number ≢ number → replace number new (h ∷ hs) ≡ h ∷ replace number new hs
replace_behind number None h hs ne = ap (λ b. cond b hs (h ∷ replace number None hs)) (ne_eqb h.conn.number number ne)
replace_behind number (Some g) h hs ne = ap (λ b. cond b (g ∷ hs) (h ∷ replace number (Some g) hs)) (ne_eqb h.conn.number number ne)

-- what stands in the place of the first connection
abbrev instead : Option Held → List Held → List Held
instead None hs = hs
instead (Some g) hs = g ∷ hs

replace_first : (number : ℕ) (new : Option Held) (h : Held) (hs : List Held) → h.conn.number ≡ number → replace number new (h ∷ hs) ≡ instead new hs
replace_first number None h hs is = ap (λ b. cond b hs (h ∷ replace number None hs)) (eq-eqb h.conn.number number is)
replace_first number (Some g) h hs is = ap (λ b. cond b (g ∷ hs) (h ∷ replace number (Some g) hs)) (eq-eqb h.conn.number number is)

instead_other : (new : Option Held) (hs : List Held) (number other : ℕ) → IsOne number new → other ≢ number
    → core_of (cores_of (instead new hs)) other ≡ core_of (cores_of hs) other
instead_other None hs number other one ne = refl
instead_other (Some g) hs number other one ne = core_behind g.conn (cores_of hs) other (λ same. ne (sym same ∙ one g refl))

instead_same : (new : Option Held) (hs : List Held) (number : ℕ) → IsOne number new → core_of (cores_of hs) number ≡ None
    → core_of (cores_of (instead new hs)) number ≡ core_or new
instead_same None hs number one none = none
instead_same (Some g) hs number one none = core_first g.conn (cores_of hs) number (one g refl)

core_kept : (b : Bool) (c : Conn) (found old : Option Conn) → found ≡ old → cond b (Some c) found ≡ cond b (Some c) old
core_kept true c found old is = refl
core_kept false c found old is = is

-- another connection stays
pub replaced_other : (hs : List Held) (number : ℕ) (new : Option Held) (other : ℕ) → IsOne number new → other ≢ number
    → core_of (cores_of (replace number new hs)) other ≡ core_of (cores_of hs) other
replaced_other [] number new other one ne = refl
replaced_other (h ∷ hs) number new other one ne = by_case (cases_eq h.conn.number number) (replaced_other hs number new other one ne) where
  now : List Held → Type 0
  now xs = core_of (cores_of xs) other ≡ core_of (cores_of (h ∷ hs)) other

  by_case : (h.conn.number ≡ number) ⊎ (h.conn.number ≡ number → ⊥) → core_of (cores_of (replace number new hs)) other ≡ core_of (cores_of hs) other
      → now (replace number new (h ∷ hs))
  by_case (inl is) rest =
      subst now (sym (replace_first number new h hs is))
      (instead_other new hs number other one ne ∙ sym (core_behind h.conn (cores_of hs) other (λ same. ne (sym same ∙ is))))
  by_case (inr not_it) rest =
      subst now (sym (replace_behind number new h hs not_it)) (ap (λ (o : Option Conn). cond (h.conn.number == other) (Some h.conn) o) rest)

-- the connection itself becomes the new one, or none is left
pub replaced_same : (hs : List Held) (number : ℕ) (new : Option Held) (c : Conn) → AreApart hs → IsOne number new → core_of (cores_of hs) number ≡ Some c
    → core_of (cores_of (replace number new hs)) number ≡ core_or new
replaced_same [] number new c apart one at = absurd cc
replaced_same (h ∷ hs) number new c apart one at =
    by_case (cases_eq h.conn.number number) (λ there. replaced_same hs number new c (apart_tail h hs apart) one there) where
      now : List Held → Type 0
      now xs = core_of (cores_of xs) number ≡ core_or new

      by_case : (h.conn.number ≡ number) ⊎ (h.conn.number ≡ number → ⊥) → (core_of (cores_of hs) number ≡ Some c → now (replace number new hs))
          → now (replace number new (h ∷ hs))
      by_case (inl is) rest =
          subst now (sym (replace_first number new h hs is))
          (instead_same new hs number one (subst (λ (k : ℕ). core_of (cores_of hs) k ≡ None) is (apart_first h hs apart)))
      by_case (inr not_it) rest =
          subst now (sym (replace_behind number new h hs not_it))
          (core_behind h.conn (cores_of (replace number new hs)) number not_it ∙ rest (sym (core_behind h.conn (cores_of hs) number not_it) ∙ at))

shapes_new : (new : Option Held) → shapes_or (core_or new) ≡ shapes_of (tunnels_or new)
shapes_new None = refl
shapes_new (Some g) = refl

-- the tunnels of the connection are then those of the new one
pub shapes_became : (hs : List Held) (number : ℕ) (new : Option Held) (c : Conn) → AreApart hs → IsOne number new → core_of (cores_of hs) number ≡ Some c
    → shapes_at (cores_of (replace number new hs)) number ≡ shapes_of (tunnels_or new)
shapes_became hs number new c apart one at = ap shapes_or (replaced_same hs number new c apart one at) ∙ shapes_new new

-- what holds of each connection and of what one becomes holds of each then
pub each_replaced : (P : Conn → Type 0) (hs : List Held) (number : ℕ) (new : Option Held) → All (λ (h : Held). P h.conn) hs
    → ((g : Held) → new ≡ Some g → P g.conn) → All (λ (h : Held). P h.conn) (replace number new hs)
each_replaced P [] number new all one = all
each_replaced P (h ∷ hs) number new all one =
    by_case (cases_eq h.conn.number number) (each_replaced P hs number new (All-tail (λ (x : Held). P x.conn) h hs all) one) where
      Q : Held → Type 0
      Q x = P x.conn

      put : (o : Option Held) → ((g : Held) → o ≡ Some g → P g.conn) → All Q (instead o hs)
      put None is = All-tail Q h hs all
      put (Some g) is = All-cons Q g hs (is g refl) (All-tail Q h hs all)

      by_case : (h.conn.number ≡ number) ⊎ (h.conn.number ≡ number → ⊥) → All Q (replace number new hs) → All Q (replace number new (h ∷ hs))
      by_case (inl is) rest = subst (λ (xs : List Held). All Q xs) (sym (replace_first number new h hs is)) (put new one)
      by_case (inr not_it) rest =
          subst (λ (xs : List Held). All Q xs) (sym (replace_behind number new h hs not_it))
          (All-cons Q h (replace number new hs) (All-head Q h hs all) rest)

-- ---- what holds of each core

-- of each held connection, then of each core
pub each_core : (P : Conn → Type 0) (hs : List Held) → All (λ (h : Held). P h.conn) hs → All P (cores_of hs)
each_core P hs all = All-map P (λ (h : Held). h.conn) hs all

-- of each core, then of each held connection
pub each_held : (P : Conn → Type 0) (hs : List Held) → All P (cores_of hs) → All (λ (h : Held). P h.conn) hs
each_held P [] all = All-nil (λ (h : Held). P h.conn)
each_held P (h ∷ hs) all =
    All-cons (λ (x : Held). P x.conn) h hs (All-head P h.conn (cores_of hs) all) (each_held P hs (All-tail P h.conn (cores_of hs) all))
