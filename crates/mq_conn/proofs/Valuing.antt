-- Control values wait in a tunnel, and what that does to what the core stands for.
use Rattle.std.proofs.Common.{◌≡◌, ℕ, zero, suc, ◌==◌, Bool, List, [], ◌∷◌, ◌++◌, Some, None, Result, Ok, Err, slice_get, slice_set, refl, sym, ap, ◌∙◌, subst}
use Rattle.std.specs.Prelude.{OnErr, OnOk, find, vec_len, vec_capacity}
use Rattle.std.specs.Vec.{with_item}
use Rattle.mq_addr.specs.declared.entry.Given.{Given}
use Rattle.mq_talk.specs.declared.book.Reply.TheVariants as reply
use Rattle.mq_talk.specs.declared.note.Note.{Note}
use Rattle.mq_talk.specs.declared.note.Note.TheVariants as note
use Rattle.mq_wire.specs.declared.NoMemory.{NoMemory}
use Rattle.mq_machine.specs.declared.act.Act.TheVariants as act
use Rattle.mq_machine.specs.declared.act.StreamAct.{StreamAct}
use Rattle.mq_machine.specs.declared.act.StreamAct.TheVariants as stream
use Rattle.mq_machine.specs.declared.act.Due.TheVariants as due
use Rattle.mq_machine.specs.Done.{stream_done, value, with_waiting, waits as waits_last}
use Rattle.mq_machine.specs.Lawful.{IsLoose}
use Rattle.mq_machine.specs.Settle.{settle}
use Rattle.mq_machine.specs.State as machine
use Rattle.mq_machine.specs.State.{Waiting, tunnel_on}
use Rattle.mq_machine.specs.Want.{Replied}
use Rattle.mq_machine.specs.Words.{assign_value}
use Rattle.mq_conn.specs.declared.conn.Conn.{Conn}
use Rattle.mq_conn.specs.declared.conn.Tunnel.{Tunnel}
use Rattle.mq_conn.specs.Conns.{HearsOne, IsSpare, Stands, find_on, state, tunnels_of}
use Rattle.mq_conn.specs.Frames.{IsPlaceOf}
use Rattle.mq_conn.specs.Queues.{a_value}
use Rattle.mq_conn.specs.Values.{AssignsOn, IsAdvertise, IsAssign, Waits, WaitsAt}
use Rattle.mq_conn.proofs.Answering.{leads, not_over, stream_leads}
use Rattle.mq_conn.proofs.Places.{waits_at}
use Rattle.mq_conn.proofs.Ready.{ready_same}
use Rattle.mq_conn.proofs.Standing.{popped, tunnels_are}

-- an element is replaced by itself
pub put_back : {A : Type 0} (xs : List A) (place : ℕ) (x : A) → slice_get xs place ≡ Some x → slice_set xs place x ≡ xs
put_back [] place x h = absurd cc
put_back (y ∷ ys) zero x h = ap (λ z. z ∷ ys) (let same : y ≡ x = (let e = h in cc) in sym same)
put_back (y ∷ ys) (suc k) x h = ap (λ zs. y ∷ zs) (put_back ys k x h)

-- it waits last in the tunnel at this place, or memory was refused
pub waits_or : (old : Conn) (place : ℕ) (t : Tunnel) (queue : List Waiting) (capsule : List ℕ) (r : Result (Unit {0}) NoMemory) → slice_get old.tunnels.items place ≡ Some t
    → OnOk r (queue ≡ t.waiting ++ a_value capsule ∷ []) → OnErr r (queue ≡ t.waiting) → WaitsAt old (record old { tunnels = with_item old.tunnels place (record t { waiting = queue }) }) place capsule r
waits_or old place t queue capsule (Ok done) at ok err =
    (t, at, record { is = refl; items = ap (λ (ws : List Waiting). slice_set old.tunnels.items place (record t { waiting = ws })) ok; len = refl; capacity = refl })
waits_or old place t queue capsule (Err fault) at ok err = record {
  is = refl;
  items = ap (λ (ws : List Waiting). slice_set old.tunnels.items place (record t { waiting = ws })) err ∙ put_back old.tunnels.items place t at;
  spare_is = λ h. h;
}

pub waits_none : (old new : Conn) (place : ℕ) (capsule : List ℕ) (fault : NoMemory) → new ≡ old → WaitsAt old new place capsule (Err fault)
waits_none old new place capsule fault is = record {
  is = is ∙ ap (λ (c : Conn). record old { front = c.front; first = c.first; due = c.due; ending = c.ending; spare = c.spare; pump = c.pump; tunnels = c.tunnels }) (sym is);
  items = ap (λ (c : Conn). c.tunnels.items) is;
  spare_is = λ h. (let P : Conn → Type 0 = λ c. IsSpare c.spare in subst P (sym is) h);
}

-- ---- what a tunnel holds and is denied

-- the tunnel of this number is found at this place
pub assigns_at : (old new : Conn) (id number place : ℕ) (list : List Given) (at : ℕ) (capsule : List ℕ) (t : machine.Tunnel) (u v : Tunnel) → find_on old id ≡ Some t → t.id ≡ number → IsPlaceOf old.tunnels.items number place u
    → slice_get old.tunnels.items place ≡ Some v → a_value capsule ≡ value 1 (assign_value list) → Waits old new place v capsule → AssignsOn old new id list at (Ok (note.Assigned number at list))
assigns_at old new id number place list at capsule t u v on is here there told waits s st =
    let same : Some v ≡ Some u = sym there ∙ here.at in
    let v_is : v ≡ u = (let e = same in cc) in
    let w = value 1 (assign_value list) in
    let items : new.tunnels.items ≡ slice_set old.tunnels.items place (record u { waiting = u.waiting ++ w ∷ [] }) =
    waits.items ∙ ap (λ (x : Tunnel). slice_set old.tunnels.items place (record x { waiting = x.waiting ++ a_value capsule ∷ [] })) v_is
    ∙ ap (λ (x : Waiting). slice_set old.tunnels.items place (record u { waiting = u.waiting ++ x ∷ [] })) told in
    let placed : waits_last t.id w (tunnels_of old.tunnels.items) ≡ tunnels_of new.tunnels.items =
    ap (λ (n : ℕ). waits_last n w (tunnels_of old.tunnels.items)) is ∙ waits_at old.tunnels.items number place u w here ∙ ap tunnels_of (sym items) in
    let p = st.past in
    let P : machine.Conn → Type 0 = λ x. Stands (record old { tunnels = new.tunnels }) (with_waiting t.id w x) in
    let stood : Stands (record old { tunnels = new.tunnels }) (with_waiting t.id w s) = subst P (sym st.is) (record {
      past = p;
      is = ap (λ (ts : List machine.Tunnel). record (state old p) { tunnels = ts }) placed;
      read = st.read;
      given = st.given;
      ready = ready_same old.spare (vec_len old.tunnels) (vec_capacity old.tunnels) (vec_len new.tunnels) (vec_capacity new.tunnels) old.first old.due waits.len waits.capacity st.ready;
    }) in
    let Q : Conn → Type 0 = λ k. Stands k (with_waiting t.id w s) in (
      t,
      ap (λ (ts : List machine.Tunnel). find (λ (x : machine.Tunnel). x.stream == id) ts) (tunnels_are old s st) ∙ on,
      ap (λ (n : ℕ). note.Assigned n at list) (sym is),
      subst Q (sym waits.is) stood,
    )

assign_done : (x : machine.Conn) (t : machine.Tunnel) (a : StreamAct) (list : List Given) (at : ℕ) → IsAssign a
    → stream_done x t a (Replied (reply.Assigned list at)) ≡ Some (note.Assigned t.id at list, with_waiting t.id (value 1 (assign_value list)) x)
assign_done x t (stream.Payload n payload) list at h = absurd h
assign_done x t (stream.Packet n packet flow) list at h = absurd h
assign_done x t (stream.Push n to packet) list at h = absurd h
assign_done x t (stream.Drop n cause) list at h = absurd h
assign_done x t (stream.Assign asked) list at h = refl
assign_done x t (stream.Advertise ranges) list at h = absurd h
assign_done x t (stream.Close reason) list at h = absurd h

pub hears_assigned : (old mid acted e : Conn) (id : ℕ) (a : StreamAct) (list : List Given) (at : ℕ) (said : Note) → mid ≡ record old { due = mid.due } → old.first ≡ None → old.due ≡ due.Do (act.OfStream id a) ∷ mid.due → IsAssign a
    → AssignsOn mid acted id list at (Ok said) → ((x : machine.Conn) → Stands acted x → IsLoose x → Stands e (settle x)) → HearsOne old e (reply.Assigned list at) said
hears_assigned old mid acted e id a list at said keeps none is asks assigns ends s conn fresh some =
    let p = popped old mid s (due.Do (act.OfStream id a)) keeps none is conn.stands in
    let over = not_over s (due.Do (act.OfStream id a)) mid.due conn.lawful p.0 in
    let x = record s { due = mid.due } in
    let r = assigns x p.1 in
    let y = with_waiting r.0.id (value 1 (assign_value list)) x in
    leads e s (Replied (reply.Assigned list at)) said conn.lawful tt (record {
      x = y;
      does = stream_leads s id a mid.due (Replied (reply.Assigned list at)) r.0 over p.0 r.1 ∙ assign_done x r.0 a list at asks ∙ ap (λ (n : Note). Some (n, y)) (sym r.2);
      stands = λ loose. ends y r.3 loose;
    })

-- ---- whether it may lead where it says

advertise_done : (x : machine.Conn) (t : machine.Tunnel) (a : StreamAct) (accepts : Bool) (at : ℕ) → IsAdvertise a → stream_done x t a (Replied (reply.Accepted accepts at)) ≡ Some (note.Advertised t.id at accepts, x)
advertise_done x t (stream.Payload n payload) accepts at h = absurd h
advertise_done x t (stream.Packet n packet flow) accepts at h = absurd h
advertise_done x t (stream.Push n to packet) accepts at h = absurd h
advertise_done x t (stream.Drop n cause) accepts at h = absurd h
advertise_done x t (stream.Assign asked) accepts at h = absurd h
advertise_done x t (stream.Advertise ranges) accepts at h = refl
advertise_done x t (stream.Close reason) accepts at h = absurd h

pub hears_accepted : (old mid e : Conn) (id number : ℕ) (a : StreamAct) (accepts : Bool) (at : ℕ) (t : machine.Tunnel) → mid ≡ record old { due = mid.due } → old.first ≡ None → old.due ≡ due.Do (act.OfStream id a) ∷ mid.due → IsAdvertise a
    → find_on mid id ≡ Some t → t.id ≡ number → ((x : machine.Conn) → Stands mid x → IsLoose x → Stands e (settle x)) → HearsOne old e (reply.Accepted accepts at) (note.Advertised number at accepts)
hears_accepted old mid e id number a accepts at t keeps none is asks live same ends s conn fresh some =
    let p = popped old mid s (due.Do (act.OfStream id a)) keeps none is conn.stands in
    let over = not_over s (due.Do (act.OfStream id a)) mid.due conn.lawful p.0 in
    let x = record s { due = mid.due } in
    let on : tunnel_on s id ≡ Some t = ap (λ (ts : List machine.Tunnel). find (λ (u : machine.Tunnel). u.stream == id) ts) (tunnels_are mid x p.1) ∙ live in
    leads e s (Replied (reply.Accepted accepts at)) (note.Advertised number at accepts) conn.lawful tt (record {
      x = x;
      does = stream_leads s id a mid.due (Replied (reply.Accepted accepts at)) t over p.0 on ∙ advertise_done x t a accepts at asks ∙ ap (λ (n : ℕ). Some (note.Advertised n at accepts, x)) same;
      stands = λ loose. ends x p.1 loose;
    })
