-- The office knows a worker's tunnels behind what one of its connections did.
use Rattle.std.proofs.Common.{◌≡◌, ◌↔◌, ℕ, ◌+◌, ◌<◌, ◌≤◌, ◌==◌, Bool, true, false, cond, List, [], ◌∷◌, ◌++◌, length}
use Rattle.std.proofs.Common.{find, All, Option, Some, None, refl, sym, ap, subst, ◌∙◌, arith, option_map}
use Rattle.std.proofs.lemmas.Bool.{eqb-true}
use Rattle.std.proofs.lemmas.List.Elements.{All-push, All-weaker}
use Rattle.mq_talk.specs.declared.goal.Goal.{Goal}
use Rattle.mq_talk.specs.declared.place.Parcel.{Parcel}
use Rattle.mq_talk.specs.Book.{History}
use Rattle.mq_talk.specs.Offices.{Seen, Sees}
use Rattle.mq_machine.specs.declared.setup.Setup.{Setup}
use Rattle.mq_machine.specs.Placing.{ArePlaced}
use Rattle.mq_machine.specs.State.{Conn, new_conn, Held, Worker, held_of, Shared}
use Rattle.mq_machine.specs.Turn.{replace}
use Rattle.mq_machine.specs.Acting.{Sight, HasTunnel, IsOpen, Known}
use Rattle.mq_actor.specs.Goes.{shapes_of, Goes}
use Rattle.mq_actor.proofs.Cores.{cores_of, core_of, shapes_or, shapes_at, tunnel_in, tunnel_from, in_shapes, from_shapes}
use Rattle.mq_actor.proofs.Cores.{AreApart, tunnels_or, core_of_held, replaced_other, shapes_became, each_replaced, each_core, each_held}
use Rattle.mq_actor.proofs.Opened.{AreOpen, OthersStay, same_open, sees_open, goes_open, goes_longer, sees_longer}

-- ---- what the office knows

-- the tunnels of a worker that its office knows, by its cores
known_open : (sight : Sight) (w : Worker) → Known sight w → AreOpen (shapes_at (cores_of w.conns)) sight.seen.entries w.id
known_open sight w known tunnel conn stream goal =
    let is = known.tunnels tunnel conn stream goal in
    let cs : List Conn = cores_of w.conns in (
      λ has. is.0 (tunnel_from w tunnel conn stream goal (from_shapes cs tunnel conn stream goal has)),
      λ live. in_shapes cs tunnel conn stream goal (tunnel_in w tunnel conn stream goal (is.1 live)),
    )

-- and the other way round
open_known : (w : Worker) (book : History) (actor : ℕ) → AreOpen (shapes_at (cores_of w.conns)) book actor
    → (tunnel conn stream : ℕ) (goal : Goal) → HasTunnel w tunnel conn stream goal ↔ IsOpen book actor tunnel conn stream goal
open_known w book actor are tunnel conn stream goal =
    let is = are tunnel conn stream goal in
    let cs : List Conn = cores_of w.conns in (
      λ has. is.0 (in_shapes cs tunnel conn stream goal (tunnel_in w tunnel conn stream goal has)),
      λ live. tunnel_from w tunnel conn stream goal (from_shapes cs tunnel conn stream goal (is.1 live)),
    )

-- the search of this connection begins at a number that the office has seen, or behind the last
abbrev IsSeen : ℕ → Conn → Type 0
IsSeen seen c = c.next_tunnel ≤ seen

-- each packet that it is to push has an inbox
abbrev HasPlaces : ℕ → Conn → Type 0
HasPlaces workers c = ArePlaced workers c.due

-- A worker with other connections is known, where these have the tunnels that are open and the numbers that were seen.
known_with : (old new : Sight) (s t : Worker) → Known old s → t.id ≡ s.id → t.setup ≡ s.setup → new.seen.config ≡ old.seen.config
    → AreOpen (shapes_at (cores_of t.conns)) new.seen.entries s.id → All (IsSeen (length new.seen.entries)) (cores_of t.conns)
    → All (HasPlaces old.seen.config.workers) (cores_of t.conns)
    → ((boxes : List (List Parcel)) → new.boxes.told ≡ Some boxes → length boxes ≡ new.seen.config.workers + 1) → Known new t
known_with old new s t known id setup config are last places boxes =
    let workers : new.seen.config.workers ≡ old.seen.config.workers = ap (λ c. c.workers) config in
    let own : s.id < old.seen.config.workers = known.id in
    let A : ℕ → Type 0 = λ actor. AreOpen (shapes_at (cores_of t.conns)) new.seen.entries actor in
    record {
      id = omega (arith, own, workers, id);
      pump = ap (λ (x : Setup). x.pump) setup ∙ known.pump ∙ sym workers;
      tunnels = open_known t new.seen.entries t.id (subst A (sym id) are);
      last = each_held (IsSeen (length new.seen.entries)) t.conns last;
      places =
          let P : ℕ → Type 0 = λ k. All (HasPlaces k) (cores_of t.conns) in
          each_held (HasPlaces new.seen.config.workers) t.conns (subst P (sym workers) places);
      boxes = boxes;
    }

-- the worker is as it was, but for the connection with this number: these are its tunnels now, or it has ended
pub record Became (s t : Worker) (number : ℕ) (h : Held) (new : Option Held) : Type 0 where
  pub at : held_of s number ≡ Some h
  pub id : t.id ≡ s.id
  pub setup : t.setup ≡ s.setup
  pub cores : cores_of t.conns ≡ cores_of (replace number new s.conns)

numbered : (b : Bool) (x h : Held) (found : Option Held) (number : ℕ) → (x.conn.number == number) ≡ b
    → (found ≡ Some h → h.conn.number ≡ number) → cond b (Some x) found ≡ Some h → h.conn.number ≡ number
numbered true x h found number is rest at = let same : x ≡ h = cc in ap (λ (y : Held). y.conn.number) (sym same) ∙ eqb-true x.conn.number number is
numbered false x h found number is rest at = rest at

-- a connection that is found by a number has it
pub number_found : (hs : List Held) (number : ℕ) (h : Held) → find (λ (x : Held). x.conn.number == number) hs ≡ Some h → h.conn.number ≡ number
number_found [] number h at = absurd cc
number_found (x ∷ hs) number h at =
    numbered (x.conn.number == number) x h (find (λ (y : Held). y.conn.number == number) hs) number refl (number_found hs number h) at

-- what a connection became, if it hasn't ended, has its number, its search begins where the office has seen, and each packet that it
-- is to push has an inbox
abbrev pub IsNext : ℕ → ℕ → ℕ → Option Held → Type 0
IsNext number seen workers became = (g : Held) → became ≡ Some g → (g.conn.number ≡ number) × (g.conn.next_tunnel ≤ seen) × ArePlaced workers g.conn.due

became_open : (hs : List Held) (number : ℕ) (h : Held) (became : Option Held) (sh after : Shared) → AreApart hs
    → find (λ (x : Held). x.conn.number == number) hs ≡ Some h → ((g : Held) → became ≡ Some g → g.conn.number ≡ number)
    → AreOpen (shapes_at (cores_of hs)) sh.book h.conn.actor → Goes h.conn sh (tunnels_or became) after
    → AreOpen (shapes_at (cores_of (replace number became hs))) after.book h.conn.actor
became_open hs number h became sh after apart at one are goes =
    goes_open (shapes_at (cores_of hs)) (shapes_at now) h.conn sh after (tunnels_or became) are others was is goes where
      now : List Conn
      now = cores_of (replace number became hs)

      number_is : h.conn.number ≡ number
      number_is = number_found hs number h at

      core_is : core_of (cores_of hs) number ≡ Some h.conn
      core_is = core_of_held hs number ∙ ap (λ (o : Option Held). option_map (λ (x : Held). x.conn) o) at

      others : OthersStay (shapes_at (cores_of hs)) (shapes_at now) h.conn.number
      others conn ne = ap shapes_or (replaced_other hs number became conn one (λ same. ne (same ∙ sym number_is)))

      was : shapes_at (cores_of hs) h.conn.number ≡ shapes_of h.conn.tunnels
      was = ap (λ (k : ℕ). shapes_at (cores_of hs) k) number_is ∙ ap shapes_or core_is

      is : shapes_at now h.conn.number ≡ shapes_of (tunnels_or became)
      is = ap (λ (k : ℕ). shapes_at now k) number_is ∙ shapes_became hs number became h.conn apart one core_is

became_seen : (hs : List Held) (number seen more workers : ℕ) (became : Option Held) → seen ≤ more → All (λ (h : Held). h.conn.next_tunnel ≤ seen) hs
    → IsNext number more workers became → All (IsSeen more) (cores_of (replace number became hs))
became_seen hs number seen more workers became less all next =
    let P : Held → Type 0 = λ h. IsSeen more h.conn in
    let old : All P hs = All-weaker (λ (h : Held). h.conn.next_tunnel ≤ seen) P (λ h was. omega (arith, was, less)) hs all in
    each_core (IsSeen more) (replace number became hs) (each_replaced (IsSeen more) hs number became old (λ g is. (next g is).1))

became_placed : (hs : List Held) (number more workers : ℕ) (became : Option Held) → All (λ (h : Held). ArePlaced workers h.conn.due) hs
    → IsNext number more workers became → All (HasPlaces workers) (cores_of (replace number became hs))
became_placed hs number more workers became all next =
    each_core (HasPlaces workers) (replace number became hs) (each_replaced (HasPlaces workers) hs number became all (λ g is. (next g is).2))

-- Behind a step of a connection the office knows the worker's tunnels.
pub known_goes : (old new : Sight) (s t : Worker) (number : ℕ) (h : Held) (became : Option Held) (sh after : Shared)
    → Known old s → old.seen.actor ≡ s.id → AreApart s.conns → Became s t number h became
    → IsNext number (length new.seen.entries) old.seen.config.workers became
    → h.conn.actor ≡ s.id
    → Sees old.seen sh.book → new.seen.entries ≡ after.book → new.seen.config ≡ old.seen.config
    → Goes h.conn sh (tunnels_or became) after
    → ((boxes : List (List Parcel)) → new.boxes.told ≡ Some boxes → length boxes ≡ new.seen.config.workers + 1)
    → Known new t
known_goes old new s t number h became sh after known actor apart is next actor_is sees wrote config goes boxes =
    known_with old new s t known is.id is.setup config open_now seen_now placed_now boxes where
      cores : List Conn
      cores = cores_of (replace number became s.conns)

      before : AreOpen (shapes_at (cores_of s.conns)) sh.book h.conn.actor
      before =
          let A : ℕ → Type 0 = λ k. AreOpen (shapes_at (cores_of s.conns)) old.seen.entries k in
          let B : ℕ → Type 0 = λ k. AreOpen (shapes_at (cores_of s.conns)) sh.book k in
          subst B (actor ∙ sym actor_is) (sees_open (shapes_at (cores_of s.conns)) old.seen sh.book sees (subst A (sym actor) (known_open old s known)))

      behind : AreOpen (shapes_at cores) after.book h.conn.actor
      behind = became_open s.conns number h became sh after apart is.at (λ g some. (next g some).0) before goes

      open_now : AreOpen (shapes_at (cores_of t.conns)) new.seen.entries s.id
      open_now =
          let A : ℕ → Type 0 = λ k. AreOpen (shapes_at cores) after.book k in
          let B : History → Type 0 = λ b. AreOpen (shapes_at cores) b s.id in
          let C : List Conn → Type 0 = λ cs. AreOpen (shapes_at cs) new.seen.entries s.id in
          subst C (sym is.cores) (subst B (sym wrote) (subst A actor_is behind))

      longer : length old.seen.entries ≤ length new.seen.entries
      longer =
          let one = sees_longer old.seen sh.book sees in
          let two = goes_longer h.conn sh after (tunnels_or became) goes in
          let three = ap (λ (b : History). length b) wrote in
          omega (arith, one, two, three)

      seen_now : All (IsSeen (length new.seen.entries)) (cores_of t.conns)
      seen_now =
          let C : List Conn → Type 0 = λ cs. All (IsSeen (length new.seen.entries)) cs in
          subst C (sym is.cores) (became_seen s.conns number (length old.seen.entries) (length new.seen.entries) old.seen.config.workers became longer known.last next)

      placed_now : All (HasPlaces old.seen.config.workers) (cores_of t.conns)
      placed_now =
          let C : List Conn → Type 0 = λ cs. All (HasPlaces old.seen.config.workers) cs in
          subst C (sym is.cores) (became_placed s.conns number (length new.seen.entries) old.seen.config.workers became known.places next)

-- ---- no connection did anything

-- Behind a step that changed no connection the office knows the worker's tunnels.
pub known_same : (old new : Sight) (s t : Worker) → Known old s → t.id ≡ s.id → t.setup ≡ s.setup → cores_of t.conns ≡ cores_of s.conns
    → new.seen ≡ old.seen → ((boxes : List (List Parcel)) → new.boxes.told ≡ Some boxes → length boxes ≡ new.seen.config.workers + 1) → Known new t
known_same old new s t known id setup cores seen boxes =
    let A : List Conn → Type 0 = λ cs. AreOpen (shapes_at cs) old.seen.entries s.id in
    let B : Seen → Type 0 = λ x. AreOpen (shapes_at (cores_of t.conns)) x.entries s.id in
    let C : List Conn → Type 0 = λ cs. All (IsSeen (length old.seen.entries)) cs in
    let D : Seen → Type 0 = λ x. All (IsSeen (length x.entries)) (cores_of t.conns) in
    let E : List Conn → Type 0 = λ cs. All (HasPlaces old.seen.config.workers) cs in
    let last : All (IsSeen (length old.seen.entries)) (cores_of s.conns) = each_core (IsSeen (length old.seen.entries)) s.conns known.last in
    known_with old new s t known id setup (ap (λ (x : Seen). x.config) seen) (subst B (sym seen) (subst A (sym cores) (known_open old s known)))
    (subst D (sym seen) (subst C (sym cores) last)) (subst E (sym cores) (each_core (HasPlaces old.seen.config.workers) s.conns known.places)) boxes

-- a connection without tunnels adds none
accepted_none : (b : Bool) (number actor : ℕ) → shapes_or (cond b (Some (new_conn number actor)) None) ≡ []
accepted_none true number actor = refl
accepted_none false number actor = refl

accepted_step : (b : Bool) (c : Conn) (found old : Option Conn) → shapes_or found ≡ shapes_or old
    → shapes_or (cond b (Some c) found) ≡ shapes_or (cond b (Some c) old)
accepted_step true c found old is = refl
accepted_step false c found old is = is

accepted_shapes : (cs : List Conn) (number actor conn : ℕ) → shapes_at (cs ++ new_conn number actor ∷ []) conn ≡ shapes_at cs conn
accepted_shapes [] number actor conn = accepted_none (number == conn) number actor
accepted_shapes (c ∷ cs) number actor conn =
    accepted_step (c.number == conn) c (core_of (cs ++ new_conn number actor ∷ []) conn) (core_of cs conn) (accepted_shapes cs number actor conn)

-- Behind a step that accepted a connection the office knows the worker's tunnels.
pub known_accepted : (old new : Sight) (s t : Worker) (number : ℕ) → Known old s → t.id ≡ s.id → t.setup ≡ s.setup
    → cores_of t.conns ≡ cores_of s.conns ++ new_conn number s.id ∷ []
    → new.seen ≡ old.seen → ((boxes : List (List Parcel)) → new.boxes.told ≡ Some boxes → length boxes ≡ new.seen.config.workers + 1) → Known new t
known_accepted old new s t number known id setup cores seen boxes =
    let cs : List Conn = cores_of s.conns in
    let new_cs : List Conn = cs ++ new_conn number s.id ∷ [] in
    let A : List Conn → Type 0 = λ xs. AreOpen (shapes_at xs) old.seen.entries s.id in
    let B : Seen → Type 0 = λ x. AreOpen (shapes_at (cores_of t.conns)) x.entries s.id in
    let C : List Conn → Type 0 = λ xs. All (IsSeen (length old.seen.entries)) xs in
    let D : Seen → Type 0 = λ x. All (IsSeen (length x.entries)) (cores_of t.conns) in
    let are = same_open (shapes_at cs) (shapes_at new_cs) old.seen.entries s.id (accepted_shapes cs number s.id) (known_open old s known) in
    let none : 0 ≤ length old.seen.entries = omega arith in
    let last = All-push (IsSeen (length old.seen.entries)) cs (new_conn number s.id) (each_core (IsSeen (length old.seen.entries)) s.conns known.last) none in
    let E : List Conn → Type 0 = λ xs. All (HasPlaces old.seen.config.workers) xs in
    let placed = All-push (HasPlaces old.seen.config.workers) cs (new_conn number s.id) (each_core (HasPlaces old.seen.config.workers) s.conns known.places) tt in
    known_with old new s t known id setup (ap (λ (x : Seen). x.config) seen) (subst B (sym seen) (subst A (sym cores) are))
    (subst D (sym seen) (subst C (sym cores) last)) (subst E (sym cores) placed) boxes
