use Rattle.std.proofs.Common.{◌≡◌, ◌∙◌, ℕ, List, All, Option, Some, None, MatchOption, Ok, slice_get, slice_set, refl, sym, ap, subst}
use Rattle.slab.specs.Slab.{get}
use Rattle.mq_outside.specs.Counts.{risen, PortCounts, no_port_counts}
use Rattle.mq_outside.specs.Ports.{PortHolds}
use Rattle.mq_machine.specs.State as machine
use Rattle.mq_conn.specs.declared.conn.Conn.{Conn as Core}
use Rattle.mq_conn.specs.Conns.{IsConn}
use Rattle.mq_held.specs.declared.held.PortSeat.{PortSeat}
use Rattle.mq_held.specs.declared.went.Went.{Went}
use Rattle.mq_held.specs.Ports.{receive_calls, ReceiveGives}
use Rattle.mq_held.specs.Seats.{counted}
use Rattle.mq_machine.specs.Acting.{Binder, binder, handed_back}
use Rattle.mq_step.proofs.Wanting.{mailed}
use Rattle.mq_step.specs.Holds.{IsHeld}
use Rattle.mq_held.specs.Seats.{IsSeatOf}
use Rattle.mq_step.specs.Sights.{SeesPorts}
use Rattle.mq_step.specs.Vain.{AskedInVain}
use Rattle.mq_step.specs.Gives.{Gives, Waited, Turned, Starved, StandsAsTold, ReceivesWait, receive_alone}
use Rattle.mq_step.proofs.Others.{HasKey, key_at, keys_set, call_others}
use Rattle.mq_step.proofs.Places.{apart_set, first_is_mine}
use Rattle.mq_step.proofs.Standing.{same_apart}
use Rattle.mq_step.proofs.Sending.{same_port, found_at}
use Rattle.mq_step.proofs.Receiving.{Live, live, link_stays, copied_at, same_seat, tunnel_is}
use Rattle.mq_step.proofs.Received.{Behind, behind_of, behind_call, sees_counted, came, received_waits, waits_stand, received_starves, starved_stands, starved_told, sunk_then, received_left, received_done, received_stands, received_told, place_is}
use Rattle.mq_step.proofs.PortFailing.{failing, failing_port, failed_left, failing_known, blind, blind_sees, wants_close, failing_stands, failed_done, failed_told, closes_give, starved_gives}
use Rattle.mq_step.proofs.Still.{Still, closes_still}
use Rattle.mq_step.proofs.Noting.{did_told}
use Rattle.mq_step.specs.Notes.{stepped_by, stepped_with}
use Rattle.mq_step.specs.declared.stepped.Stepped.TheVariants as stepped
use Rattle.mq_held.specs.Notes.{WentWith, went_by}
use Rattle.mq_talk.specs.declared.note.Note.{Note}
use Rattle.mq_step.proofs.receive.receive_at.Goals as goal

pub returns-in-Waits-clause-gives : goal.returns-in-Waits-clause-gives
returns-in-Waits-clause-gives g c = λ o n so sn s held wait setup seat at.
    let old = c.args.held.now in
    let table = c.args.table.now.table in
    let mid = c.receive.new.self in
    let after = c.receive.new.table.table in
    let most = g.P.P.Port.most in
    let holds = g.P.P.Port.holds in
    let past = g.P.P.Port.past in
    let counts = g.P.P.Port.counts in
    let mine = c.in-Some.seat in
    let here : slice_get old.ports.items c.args.place ≡ Some mine =
    ap (λ (xs : List PortSeat). slice_get xs c.args.place) (sym c.deref.ensures.value)
    ∙ copied_at c.get.result mine c.deref.result.now c.args.place c.in-Some.ensures c.get.ensures.lookup.1 c.get.ensures.lookup.3 in
    let e = c.in_ok-receive.ensures in
    let rest = e.rest in
    let x : Live most holds counts table old o s mine = live most holds counts table old o s mine c.args.place held wait so.of_table.ports here in
    let G : Went → Type 0 = λ w. (now : g.row.P-P.Denot) × (get after mine.key ≡ Some now) × ReceiveGives (receive_calls holds past counts x.is.port now) (IsConn mid.conn) s.conn x.t mine.received (Ok (went_by w c.receive.new.told)) in
    let r = subst G c.in-Waits.is (e.gives s.conn held.conn x.t (tunnel_is most holds counts table old o s mine x) x.id x.is.port x.is.at) in
    let kept = e.kept x.is.port x.is.at in
    let same : kept.0 ≡ r.0 = same_port after mine.key kept.0 r.0 kept.1 r.1 in
    let limit : most r.0 ≡ most x.is.port = ap most (sym same) ∙ kept.2 in
    let V : List PortSeat → Type 0 = λ xs. SeesPorts holds counts after n xs in
    let b : Behind most holds counts table after old mid o n mine x.is.port =
    behind_of most holds counts g.L.Link.holds g.L.Link.counts table after old mid o n c.args.place mine x.is.port r.0 here r.1 limit e.others so.of_table.ports
    (subst V (ap (λ h. h.ports.items) rest) sn.of_table.ports) (ap (λ h. h.number) rest) (ap (λ h. h.link) rest) (ap (λ h. h.bound) rest) so.of_link sn.of_link in
    let seen = g.O.Office.seen c.args.office.now in
    let mail = g.M.Mail.boxes c.args.mail.now in
    let P : PortSeat → Type 0 = λ y. Waited (receive_alone y.tunnel) o n seen seen mail mail s × IsHeld most after mid s in
    subst P (same_seat old.ports.items c.args.place mine seat here at) (
      received_waits most holds past counts table after old mid o n s mine x b seen mail r.2.0 (sn.of_table.binds_are ∙ ap (binder g.P.Ports.holds g.P.Ports.faults) e.ports ∙ sym so.of_table.binds_are),
      waits_stand most holds past counts table after old mid o n s mine x b (ap (λ h. h.ports.items) rest) r.2.1,
    )

pub returns-in-Waits-clause-still : goal.returns-in-Waits-clause-still
returns-in-Waits-clause-still g c = λ quiet s held wait.
    let old = c.args.held.now in
    let table = c.args.table.now.table in
    let mid = c.receive.new.self in
    let after = c.receive.new.table.table in
    let most = g.P.P.Port.most in
    let holds : g.row.P-P.Denot → Option PortHolds = λ port. None in
    let past = g.P.P.Port.past in
    let counts : g.row.P-P.Denot → PortCounts = λ port. no_port_counts in
    let mine = c.in-Some.seat in
    let here : slice_get old.ports.items c.args.place ≡ Some mine =
    ap (λ (xs : List PortSeat). slice_get xs c.args.place) (sym c.deref.ensures.value)
    ∙ copied_at c.get.result mine c.deref.result.now c.args.place c.in-Some.ensures c.get.ensures.lookup.1 c.get.ensures.lookup.3 in
    let e = c.in_ok-receive.ensures in
    let rest = e.rest in
    let x : Live most holds counts table old blind s mine =
    live most holds counts table old blind s mine c.args.place held wait (blind_sees table old.ports.items) here in
    let G : Went → Type 0 = λ w. (now : g.row.P-P.Denot) × (get after mine.key ≡ Some now)
    × ReceiveGives (receive_calls g.P.P.Port.holds past g.P.P.Port.counts x.is.port now) (IsConn mid.conn) s.conn x.t mine.received (Ok (went_by w c.receive.new.told)) in
    let r = subst G c.in-Waits.is (e.gives s.conn held.conn x.t (tunnel_is most holds counts table old blind s mine x) x.id x.is.port x.is.at) in
    let kept = e.kept x.is.port x.is.at in
    let same : kept.0 ≡ r.0 = same_port after mine.key kept.0 r.0 kept.1 r.1 in
    let limit : most r.0 ≡ most x.is.port = ap most (sym same) ∙ kept.2 in
    let b = behind_call most holds counts table after old mid blind mine x.is.port r.0 r.1 limit e.others (ap (λ h. h.number) rest) (ap (λ h. h.bound) rest) in
    waits_stand most holds past counts table after old mid blind _ s mine x b (ap (λ h. h.ports.items) rest) r.2.1

pub returns-in_err-receive-clause-gives : goal.returns-in_err-receive-clause-gives
returns-in_err-receive-clause-gives g c = λ o n so sn s held wait setup seat at.
    let old = c.args.held.now in
    let table = c.args.table.now.table in
    let mid = c.receive.new.self in
    let after = c.receive.new.table.table in
    let most = g.P.P.Port.most in
    let holds = g.P.P.Port.holds in
    let past = g.P.P.Port.past in
    let counts = g.P.P.Port.counts in
    let mine = c.in-Some.seat in
    let here : slice_get old.ports.items c.args.place ≡ Some mine =
    ap (λ (xs : List PortSeat). slice_get xs c.args.place) (sym c.deref.ensures.value)
    ∙ copied_at c.get.result mine c.deref.result.now c.args.place c.in-Some.ensures c.get.ensures.lookup.1 c.get.ensures.lookup.3 in
    let e = c.in_err-receive.ensures in
    let rest = e.rest in
    let x : Live most holds counts table old o s mine = live most holds counts table old o s mine c.args.place held wait so.of_table.ports here in
    let r = e.gives s.conn held.conn x.t (tunnel_is most holds counts table old o s mine x) x.id x.is.port x.is.at in
    let kept = e.kept x.is.port x.is.at in
    let same : kept.0 ≡ r.0 = same_port after mine.key kept.0 r.0 kept.1 r.1 in
    let limit : most r.0 ≡ most x.is.port = ap most (sym same) ∙ kept.2 in
    let V : List PortSeat → Type 0 = λ xs. SeesPorts holds counts after n xs in
    let b : Behind most holds counts table after old mid o n mine x.is.port =
    behind_of most holds counts g.L.Link.holds g.L.Link.counts table after old mid o n c.args.place mine x.is.port r.0 here r.1 limit e.others so.of_table.ports
    (subst V (ap (λ h. h.ports.items) rest) sn.of_table.ports) (ap (λ h. h.number) rest) (ap (λ h. h.link) rest) (ap (λ h. h.bound) rest) so.of_link sn.of_link in
    let seen = g.O.Office.seen c.args.office.now in
    let m = mailed (g.O.Office.seen c.args.office.now) (g.M.Mail.count c.args.mail.now) (g.M.Mail.boxes c.args.mail.now) c.requires.inboxes in
    let P : PortSeat → Type 0 = λ y. Gives setup (receive_alone y.tunnel) (ReceivesWait y.tunnel) o n seen seen m.mail m.mail (IsHeld most after mid) s (stepped_with c.from_residual.result c.receive.new.told) in
    let starves : (orders : machine.Orders) → (t : machine.Held) × Starved (receive_alone mine.tunnel) (ReceivesWait mine.tunnel) o n seen seen m.mail m.mail orders s t × StandsAsTold n (IsHeld most after mid) t =
    λ orders. (
      sunk_then o s mine.tunnel,
      received_starves most holds past counts table after old mid o n s mine x seen m orders r.2.1
          (ap (λ (b : Binder). b.holds) (sn.of_table.binds_are ∙ ap (binder g.P.Ports.holds g.P.Ports.faults) e.ports ∙ sym so.of_table.binds_are)),
      (
        starved_stands most holds past counts table after old mid o n s mine x b (ap (λ h. h.ports.items) rest) r.2.2,
        starved_told most holds past counts table after old mid o n s mine x b r.2.0,
      ),
    ) in
    subst P (same_seat old.ports.items c.args.place mine seat here at)
    (starved_gives setup mine.tunnel o n seen seen m.mail m.mail (IsHeld most after mid) s c.from_residual.result c.receive.new.told c.from_residual.ensures.0 starves)

pub returns-in-Did-clause-gives : goal.returns-in-Did-clause-gives
returns-in-Did-clause-gives g c = λ o n so sn s held wait setup seat at.
    let m = mailed (g.O.Office.seen c.args.office.now) (g.M.Mail.count c.args.mail.now) (g.M.Mail.boxes c.args.mail.now) c.requires.inboxes in
    let old = c.args.held.now in
    let table = c.args.table.now.table in
    let mid = c.receive.new.self in
    let after = c.receive.new.table.table in
    let most = g.P.P.Port.most in
    let holds = g.P.P.Port.holds in
    let past = g.P.P.Port.past in
    let counts = g.P.P.Port.counts in
    let mine = c.in-Some.seat in
    let here : slice_get old.ports.items c.args.place ≡ Some mine =
    ap (λ (xs : List PortSeat). slice_get xs c.args.place) (sym c.deref.ensures.value)
    ∙ copied_at c.get.result mine c.deref.result.now c.args.place c.in-Some.ensures c.get.ensures.lookup.1 c.get.ensures.lookup.3 in
    let e = c.in_ok-receive.ensures in
    let rest = e.rest in
    let x : Live most holds counts table old o s mine = live most holds counts table old o s mine c.args.place held wait so.of_table.ports here in
    let G : Went → Type 0 = λ w. (now : g.row.P-P.Denot) × (get after mine.key ≡ Some now) × ReceiveGives (receive_calls holds past counts x.is.port now) (IsConn mid.conn) s.conn x.t mine.received (Ok (went_by w c.receive.new.told)) in
    let R : WentWith → Type 0 = λ w. (now : g.row.P-P.Denot) × (get after mine.key ≡ Some now) × ReceiveGives (receive_calls holds past counts x.is.port now) (IsConn mid.conn) s.conn x.t mine.received (Ok w) in
    let told = did_told R (λ z. z.2) c.receive.new.told (subst G c.in-Did.is (e.gives s.conn held.conn x.t (tunnel_is most holds counts table old o s mine x) x.id x.is.port x.is.at)) in
    let note = told.0 in
    let r = told.2 in
    let kept = e.kept x.is.port x.is.at in
    let same : kept.0 ≡ r.0 = same_port after mine.key kept.0 r.0 kept.1 r.1 in
    let limit : most r.0 ≡ most x.is.port = ap most (sym same) ∙ kept.2 in
    let new = c.count.new.self in
    let done = c.count.ensures.rest in
    let one : PortSeat = record mine { received = counted mine.received } in
    let items : mid.ports.items ≡ old.ports.items = ap (λ h. h.ports.items) rest in
    let still : slice_get mid.ports.items c.args.place ≡ Some mine = ap (λ (xs : List PortSeat). slice_get xs c.args.place) items ∙ here in
    let M : Option PortSeat → Type 0 = λ m. MatchOption m (new.ports.items ≡ mid.ports.items) (λ y. new.ports.items ≡ slice_set mid.ports.items c.args.place (record y { received = counted y.received })) in
    let set : new.ports.items ≡ slice_set mid.ports.items c.args.place one = subst M still c.count.ensures.seats in
    let seats : new.ports.items ≡ slice_set old.ports.items c.args.place one = set ∙ ap (λ (xs : List PortSeat). slice_set xs c.args.place one) items in
    let V : List PortSeat → Type 0 = λ xs. SeesPorts holds counts after n xs in
    let b : Behind most holds counts table after old new o n mine x.is.port =
    behind_of most holds counts g.L.Link.holds g.L.Link.counts table after old new o n c.args.place mine x.is.port r.0 here r.1 limit e.others so.of_table.ports
    (sees_counted holds counts after n old.ports.items c.args.place mine one here refl refl (subst V seats sn.of_table.ports))
    (ap (λ h. h.number) done ∙ ap (λ h. h.number) rest) (ap (λ h. h.link) done ∙ ap (λ h. h.link) rest) (ap (λ h. h.bound) done ∙ ap (λ h. h.bound) rest) so.of_link sn.of_link in
    let seen = g.O.Office.seen c.args.office.now in
    let at_place = seats ∙ ap (λ (i : ℕ). slice_set old.ports.items i one) (place_is most holds past counts table after old new o n s mine x c.args.place here) in
    let datagram = r.2.0 in
    let takes = r.2.1 in
    let C : Core → Type 0 = λ y. IsConn y (came s x.t mine.received datagram).1 in
    let conn = subst C (sym (ap (λ h. h.conn) done)) r.2.3 in
    let T : Option Note → Type 0 = λ t. Gives setup (receive_alone seat.tunnel) (ReceivesWait seat.tunnel) o n seen seen m.mail m.mail (IsHeld most after new) s (Ok (stepped_by stepped.Did t)) in
    subst T (sym told.1) (λ orders.
    let P : PortSeat → Type 0 = λ y. (t : machine.Held) × Turned setup (receive_alone y.tunnel) (ReceivesWait y.tunnel) o n seen seen m.mail m.mail orders s note (Some t) × StandsAsTold n (IsHeld most after new) t in
    subst P (same_seat old.ports.items c.args.place mine seat here at) (
      received_left o s mine x.t datagram,
      received_done most holds past counts table after old new o n s mine x b setup seen m orders datagram note takes r.2.2
          (ap (λ (b : Binder). b.holds) (sn.of_table.binds_are ∙ ap (binder g.P.Ports.holds g.P.Ports.faults) e.ports ∙ sym so.of_table.binds_are)),
      (
        received_stands most holds past counts table after old new o n s mine x b datagram at_place conn,
        received_told most holds past counts table after old new o n s mine x b datagram takes,
      ),
    ))

pub returns-in-Did-clause-others : goal.returns-in-Did-clause-others
returns-in-Did-clause-others g c = λ key port at other.
    let old = c.args.held.now in
    let table = c.args.table.now.table in
    let mid = c.receive.new.self in
    let after = c.receive.new.table.table in
    let most = g.P.P.Port.most in
    let holds = g.P.P.Port.holds in
    let past = g.P.P.Port.past in
    let counts = g.P.P.Port.counts in
    let mine = c.in-Some.seat in
    let here : slice_get old.ports.items c.args.place ≡ Some mine =
    ap (λ (xs : List PortSeat). slice_get xs c.args.place) (sym c.deref.ensures.value)
    ∙ copied_at c.get.result mine c.deref.result.now c.args.place c.in-Some.ensures c.get.ensures.lookup.1 c.get.ensures.lookup.3 in
    let e = c.in_ok-receive.ensures in
    let rest = e.rest in
    let new = c.count.new.self in
    let done = c.count.ensures.rest in
    let one : PortSeat = record mine { received = counted mine.received } in
    let items : mid.ports.items ≡ old.ports.items = ap (λ h. h.ports.items) rest in
    let still : slice_get mid.ports.items c.args.place ≡ Some mine = ap (λ (xs : List PortSeat). slice_get xs c.args.place) items ∙ here in
    let M : Option PortSeat → Type 0 = λ m. MatchOption m (new.ports.items ≡ mid.ports.items) (λ y. new.ports.items ≡ slice_set mid.ports.items c.args.place (record y { received = counted y.received })) in
    let seats = subst M still c.count.ensures.seats in
    let r = call_others table after old.ports.items mid.ports.items c.args.place key mine port here e.others items at other.seats_are in
    let S : List PortSeat → Type 0 = λ xs. All (HasKey key) xs in
    let bound : new.bound ≡ old.bound = ap (λ h. h.bound) done ∙ ap (λ h. h.bound) rest in (
      r.0,
      record {
        seats_are = subst S (sym seats) (keys_set mid.ports.items key c.args.place one (key_at old.ports.items key c.args.place mine other.seats_are here) r.1);
        bound_is = λ is. other.bound_is (sym bound ∙ is);
      },
    )

pub act-requires : goal.act-requires
act-requires g c =
    let k = c.requires.known in
    let s = k.0 in
    let held = k.1 in
    let old = c.args.held.now in
    let table = c.args.table.now.table in
    let mid = c.receive.new.self in
    let after = c.receive.new.table.table in
    let most = g.P.P.Port.most in
    let holds : g.row.P-P.Denot → Option PortHolds = λ port. None in
    let past = g.P.P.Port.past in
    let counts : g.row.P-P.Denot → PortCounts = λ port. no_port_counts in
    let mine = c.in-Some.seat in
    let here : slice_get old.ports.items c.args.place ≡ Some mine =
    ap (λ (xs : List PortSeat). slice_get xs c.args.place) (sym c.deref.ensures.value)
    ∙ copied_at c.get.result mine c.deref.result.now c.args.place c.in-Some.ensures c.get.ensures.lookup.1 c.get.ensures.lookup.3 in
    let e = c.in_ok-receive.ensures in
    let rest = e.rest in
    let x : Live most holds counts table old blind s mine = live most holds counts table old blind s mine c.args.place held k.3 (blind_sees table old.ports.items) here in
    let G : Went → Type 0 = λ w. (now : g.row.P-P.Denot) × (get after mine.key ≡ Some now) × ReceiveGives (receive_calls g.P.P.Port.holds past g.P.P.Port.counts x.is.port now) (IsConn mid.conn) s.conn x.t mine.received (Ok (went_by w c.receive.new.told)) in
    let r = subst G c.in-Failed.is (e.gives s.conn held.conn x.t (tunnel_is most holds counts table old blind s mine x) x.id x.is.port x.is.at) in
    let kept = e.kept x.is.port x.is.at in
    let same : kept.0 ≡ r.0 = same_port after mine.key kept.0 r.0 kept.1 r.1 in
    let limit : most r.0 ≡ most x.is.port = ap most (sym same) ∙ kept.2 in
    let b = behind_call most holds counts table after old mid blind mine x.is.port r.0 r.1 limit e.others (ap (λ h. h.number) rest) (ap (λ h. h.bound) rest) in
    record {
      known = (
        failing s x.t,
        failing_stands most holds past counts table after old mid blind s mine x _ b (ap (λ h. h.ports.items) rest) (r.2.1 k.3),
        failing_known (g.O.Office.seen c.args.office.now) (g.O.Office.seen c.args.office.now).actor s x.t k.2,
      );
      inboxes = c.requires.inboxes;
      pump = c.requires.pump;
    }

pub returns-in-Failed-clause-others : goal.returns-in-Failed-clause-others
returns-in-Failed-clause-others g c = λ key port at other.
    let old = c.args.held.now in
    let table = c.args.table.now.table in
    let mid = c.receive.new.self in
    let after = c.receive.new.table.table in
    let mine = c.in-Some.seat in
    let here : slice_get old.ports.items c.args.place ≡ Some mine =
    ap (λ (xs : List PortSeat). slice_get xs c.args.place) (sym c.deref.ensures.value)
    ∙ copied_at c.get.result mine c.deref.result.now c.args.place c.in-Some.ensures c.get.ensures.lookup.1 c.get.ensures.lookup.3 in
    let e = c.in_ok-receive.ensures in
    let rest = e.rest in
    let items : mid.ports.items ≡ old.ports.items = ap (λ h. h.ports.items) rest in
    let bound : mid.bound ≡ old.bound = ap (λ h. h.bound) rest in
    let r = call_others table after old.ports.items mid.ports.items c.args.place key mine port here e.others items at other.seats_are in
    c.act.ensures.others key port r.0 (record { seats_are = r.1; bound_is = λ is. other.bound_is (sym bound ∙ is) })

pub returns-in-Failed-clause-gives : goal.returns-in-Failed-clause-gives
returns-in-Failed-clause-gives g c = λ o n so sn s held wait setup seat at.
    let old = c.args.held.now in
    let table = c.args.table.now.table in
    let mid = c.receive.new.self in
    let after = c.receive.new.table.table in
    let most = g.P.P.Port.most in
    let holds = g.P.P.Port.holds in
    let past = g.P.P.Port.past in
    let counts = g.P.P.Port.counts in
    let mine = c.in-Some.seat in
    let here : slice_get old.ports.items c.args.place ≡ Some mine =
    ap (λ (xs : List PortSeat). slice_get xs c.args.place) (sym c.deref.ensures.value)
    ∙ copied_at c.get.result mine c.deref.result.now c.args.place c.in-Some.ensures c.get.ensures.lookup.1 c.get.ensures.lookup.3 in
    let e = c.in_ok-receive.ensures in
    let rest = e.rest in
    let x : Live most holds counts table old o s mine = live most holds counts table old o s mine c.args.place held wait so.of_table.ports here in
    let G : Went → Type 0 = λ w. (now : g.row.P-P.Denot) × (get after mine.key ≡ Some now) × ReceiveGives (receive_calls holds past counts x.is.port now) (IsConn mid.conn) s.conn x.t mine.received (Ok (went_by w c.receive.new.told)) in
    let r = subst G c.in-Failed.is (e.gives s.conn held.conn x.t (tunnel_is most holds counts table old o s mine x) x.id x.is.port x.is.at) in
    let kept = e.kept x.is.port x.is.at in
    let same : kept.0 ≡ r.0 = same_port after mine.key kept.0 r.0 kept.1 r.1 in
    let limit : most r.0 ≡ most x.is.port = ap most (sym same) ∙ kept.2 in
    let new = c.act.new.held in
    let last = c.act.new.table.table in
    let done = c.act.ensures.rest in
    let binds = binder g.P.Ports.holds g.P.Ports.faults in
    let b = behind_call most holds counts table after old mid o mine x.is.port r.0 r.1 limit e.others (ap (λ h. h.number) rest) (ap (λ h. h.bound) rest) in
    let closing = failing s x.t in
    let items : mid.ports.items ≡ old.ports.items = ap (λ h. h.ports.items) rest in
    let stand = failing_stands most holds past counts table after old mid o s mine x _ b items (r.2.1 wait) in
    let want = wants_close most holds past counts table after old mid o s mine x in
    let closes = c.act.ensures.closes closing stand mine.tunnel want in
    let W : List PortSeat → Type 0 = λ xs. IsSeatOf xs mine.tunnel c.args.place mine in
    let back : binds c.act.new.table.ports ≡ handed_back (counts r.0).faults (binds c.receive.new.table.ports) = closes.1 c.args.place mine r.0 (subst W (sym items) (first_is_mine old.ports.items mine.tunnel c.args.place mine held.apart here refl)) r.1 in
    let rose : (counts r.0).faults ≡ risen (o.port_counts mine.tunnel).faults =
    ap (λ (k : PortCounts). k.faults) r.2.0.counts ∙ ap (λ (k : PortCounts). risen k.faults) (sym x.sees.1) in
    let fits : n.binds ≡ handed_back (risen (o.port_counts mine.tunnel).faults) o.binds =
    sn.of_table.binds_are
    ∙ back
    ∙ ap (λ (k : ℕ). handed_back k (binds c.receive.new.table.ports)) rose
    ∙ ap (λ (b : Binder). handed_back (risen (o.port_counts mine.tunnel).faults) b) (ap binds e.ports ∙ sym so.of_table.binds_are) in
    let number : new.number ≡ old.number = ap (λ h. h.number) done ∙ ap (λ h. h.number) rest in
    let link : new.link ≡ old.link = ap (λ h. h.link) done ∙ ap (λ h. h.link) rest in
    let stays = link_stays g.L.Link.holds g.L.Link.counts old new o n number link so.of_link sn.of_link in
    let seen = g.O.Office.seen c.args.office.now in
    let seen_after = g.O.Office.seen c.act.new.office in
    let mail = g.M.Mail.boxes c.args.mail.now in
    let mail_after = g.M.Mail.boxes c.act.new.mail in
    let stand_for = IsHeld most last new in
    let P : PortSeat → Type 0 = λ y. Gives setup (receive_alone y.tunnel) (ReceivesWait y.tunnel) o n seen seen_after mail mail_after stand_for s (stepped_with c.act.result c.act.new.told) in
    subst P (same_seat old.ports.items c.args.place mine seat here at)
    (closes_give setup mine.tunnel o n seen seen_after mail mail_after stand_for s closing (stepped_with c.act.result c.act.new.told) closes.0
    (λ said orders closed. (
      failed_left o s mine.tunnel closed.conn,
      failed_done most holds past counts table after old mid o s mine x n setup seen seen_after mail mail_after orders said stand_for r.2.0.fails closed fits,
      (
        closed.stands_for (failed_left o s mine.tunnel closed.conn).link o (found_at mine.tunnel failing_port),
        failed_told most holds past counts table after old mid o s mine x n last new closed.conn stays
            ((closed.stands_for (failed_left o s mine.tunnel closed.conn).link o (found_at mine.tunnel failing_port)).number ∙ number) e.others items closes.2 so.of_table.ports sn.of_table.ports,
      ),
    )))

pub returns-in-Failed-clause-still : goal.returns-in-Failed-clause-still
returns-in-Failed-clause-still g c =
    let k = c.requires.known in
    let s = k.0 in
    let held = k.1 in
    let old = c.args.held.now in
    let table = c.args.table.now.table in
    let mid = c.receive.new.self in
    let after = c.receive.new.table.table in
    let most = g.P.P.Port.most in
    let holds : g.row.P-P.Denot → Option PortHolds = λ port. None in
    let past = g.P.P.Port.past in
    let counts : g.row.P-P.Denot → PortCounts = λ port. no_port_counts in
    let mine = c.in-Some.seat in
    let here : slice_get old.ports.items c.args.place ≡ Some mine =
    ap (λ (xs : List PortSeat). slice_get xs c.args.place) (sym c.deref.ensures.value)
    ∙ copied_at c.get.result mine c.deref.result.now c.args.place c.in-Some.ensures c.get.ensures.lookup.1 c.get.ensures.lookup.3 in
    let e = c.in_ok-receive.ensures in
    let rest = e.rest in
    let x : Live most holds counts table old blind s mine =
    live most holds counts table old blind s mine c.args.place held k.3 (blind_sees table old.ports.items) here in
    let G : Went → Type 0 = λ w. (now : g.row.P-P.Denot) × (get after mine.key ≡ Some now)
    × ReceiveGives (receive_calls g.P.P.Port.holds past g.P.P.Port.counts x.is.port now) (IsConn mid.conn) s.conn x.t mine.received (Ok (went_by w c.receive.new.told)) in
    let r = subst G c.in-Failed.is (e.gives s.conn held.conn x.t (tunnel_is most holds counts table old blind s mine x) x.id x.is.port x.is.at) in
    let kept = e.kept x.is.port x.is.at in
    let same : kept.0 ≡ r.0 = same_port after mine.key kept.0 r.0 kept.1 r.1 in
    let limit : most r.0 ≡ most x.is.port = ap most (sym same) ∙ kept.2 in
    let b = behind_call most holds counts table after old mid blind mine x.is.port r.0 r.1 limit e.others (ap (λ h. h.number) rest) (ap (λ h. h.bound) rest) in
    let closing = failing s x.t in
    let stand = failing_stands most holds past counts table after old mid blind s mine x _ b (ap (λ h. h.ports.items) rest) (r.2.1 k.3) in
    let closes = c.act.ensures.closes closing stand mine.tunnel (wants_close most holds past counts table after old mid blind s mine x) in
    closes_still (g.O.Office.seen c.args.office.now) (g.O.Office.seen c.act.new.office) (g.M.Mail.boxes c.args.mail.now) (g.M.Mail.boxes c.act.new.mail) (IsHeld most c.act.new.table.table c.act.new.held) mine.tunnel closing c.act.result c.act.new.told
    (Still most table c.act.new.table.table old c.act.new.held) closes.0

pub returns-in_default-clause-apart : goal.returns-in_default-clause-apart
returns-in_default-clause-apart g c = c.requires.known.1.apart

pub returns-in_err-receive-clause-apart : goal.returns-in_err-receive-clause-apart
returns-in_err-receive-clause-apart g c = same_apart c.args.held.now.ports.items c.receive.new.self.ports.items (ap (λ h. h.ports.items) c.in_err-receive.ensures.rest) c.requires.known.1.apart

pub returns-in-Waits-clause-apart : goal.returns-in-Waits-clause-apart
returns-in-Waits-clause-apart g c = same_apart c.args.held.now.ports.items c.receive.new.self.ports.items (ap (λ h. h.ports.items) c.in_ok-receive.ensures.rest) c.requires.known.1.apart

pub returns-in-Did-clause-apart : goal.returns-in-Did-clause-apart
returns-in-Did-clause-apart g c =
    let old = c.args.held.now in
    let mid = c.receive.new.self in
    let new = c.count.new.self in
    let mine = c.in-Some.seat in
    let here : slice_get old.ports.items c.args.place ≡ Some mine =
    ap (λ (xs : List PortSeat). slice_get xs c.args.place) (sym c.deref.ensures.value)
    ∙ copied_at c.get.result mine c.deref.result.now c.args.place c.in-Some.ensures c.get.ensures.lookup.1 c.get.ensures.lookup.3 in
    let one : PortSeat = record mine { received = counted mine.received } in
    let items : mid.ports.items ≡ old.ports.items = ap (λ h. h.ports.items) c.in_ok-receive.ensures.rest in
    let still : slice_get mid.ports.items c.args.place ≡ Some mine = ap (λ (xs : List PortSeat). slice_get xs c.args.place) items ∙ here in
    let M : Option PortSeat → Type 0 = λ m. MatchOption m (new.ports.items ≡ mid.ports.items) (λ y. new.ports.items ≡ slice_set mid.ports.items c.args.place (record y { received = counted y.received })) in
    let seats : new.ports.items ≡ slice_set old.ports.items c.args.place one =
    subst M still c.count.ensures.seats ∙ ap (λ (xs : List PortSeat). slice_set xs c.args.place one) items in
    same_apart (slice_set old.ports.items c.args.place one) new.ports.items seats (apart_set old.ports.items c.args.place mine one here refl refl c.requires.known.1.apart)

pub returns-in-Waits-clause-passed : goal.returns-in-Waits-clause-passed
returns-in-Waits-clause-passed g c = λ quiet seat at.
    let k = c.requires.known in
    let s = k.0 in
    let held = k.1 in
    let old = c.args.held.now in
    let table = c.args.table.now.table in
    let mid = c.receive.new.self in
    let after = c.receive.new.table.table in
    let most = g.P.P.Port.most in
    let holds : g.row.P-P.Denot → Option PortHolds = λ port. None in
    let counts : g.row.P-P.Denot → PortCounts = λ port. no_port_counts in
    let mine = c.in-Some.seat in
    let here : slice_get old.ports.items c.args.place ≡ Some mine =
    ap (λ (xs : List PortSeat). slice_get xs c.args.place) (sym c.deref.ensures.value)
    ∙ copied_at c.get.result mine c.deref.result.now c.args.place c.in-Some.ensures c.get.ensures.lookup.1 c.get.ensures.lookup.3 in
    let e = c.in_ok-receive.ensures in
    let x : Live most holds counts table old blind s mine = live most holds counts table old blind s mine c.args.place held k.3 (blind_sees table old.ports.items) here in
    let G : Went → Type 0 = λ w. (now : g.row.P-P.Denot) × (get after mine.key ≡ Some now)
    × ReceiveGives (receive_calls g.P.P.Port.holds g.P.P.Port.past g.P.P.Port.counts x.is.port now) (IsConn mid.conn) s.conn x.t mine.received (Ok (went_by w c.receive.new.told)) in
    let r = subst G c.in-Waits.is (e.gives s.conn held.conn x.t (tunnel_is most holds counts table old blind s mine x) x.id x.is.port x.is.at) in
    let P : PortSeat → Type 0 = λ y. AskedInVain g.P.P.Port.holds g.P.P.Port.past g.P.P.Port.counts table after y in
    subst P (same_seat old.ports.items c.args.place mine seat here at)
    (record { was = x.is.port; at = x.is.at; now = r.0; at_now = r.1; waits = r.2.0; others = e.others })

pub returns-in-Failed-clause-passed : goal.returns-in-Failed-clause-passed
returns-in-Failed-clause-passed g c =
    let k = c.requires.known in
    let s = k.0 in
    let held = k.1 in
    let old = c.args.held.now in
    let table = c.args.table.now.table in
    let mid = c.receive.new.self in
    let after = c.receive.new.table.table in
    let most = g.P.P.Port.most in
    let holds : g.row.P-P.Denot → Option PortHolds = λ port. None in
    let past = g.P.P.Port.past in
    let counts : g.row.P-P.Denot → PortCounts = λ port. no_port_counts in
    let mine = c.in-Some.seat in
    let here : slice_get old.ports.items c.args.place ≡ Some mine =
    ap (λ (xs : List PortSeat). slice_get xs c.args.place) (sym c.deref.ensures.value)
    ∙ copied_at c.get.result mine c.deref.result.now c.args.place c.in-Some.ensures c.get.ensures.lookup.1 c.get.ensures.lookup.3 in
    let e = c.in_ok-receive.ensures in
    let rest = e.rest in
    let x : Live most holds counts table old blind s mine =
    live most holds counts table old blind s mine c.args.place held k.3 (blind_sees table old.ports.items) here in
    let G : Went → Type 0 = λ w. (now : g.row.P-P.Denot) × (get after mine.key ≡ Some now)
    × ReceiveGives (receive_calls g.P.P.Port.holds past g.P.P.Port.counts x.is.port now) (IsConn mid.conn) s.conn x.t mine.received (Ok (went_by w c.receive.new.told)) in
    let r = subst G c.in-Failed.is (e.gives s.conn held.conn x.t (tunnel_is most holds counts table old blind s mine x) x.id x.is.port x.is.at) in
    let kept = e.kept x.is.port x.is.at in
    let same : kept.0 ≡ r.0 = same_port after mine.key kept.0 r.0 kept.1 r.1 in
    let limit : most r.0 ≡ most x.is.port = ap most (sym same) ∙ kept.2 in
    let b = behind_call most holds counts table after old mid blind mine x.is.port r.0 r.1 limit e.others (ap (λ h. h.number) rest) (ap (λ h. h.bound) rest) in
    let closing = failing s x.t in
    let stand = failing_stands most holds past counts table after old mid blind s mine x _ b (ap (λ h. h.ports.items) rest) (r.2.1 k.3) in
    let closes = c.act.ensures.closes closing stand mine.tunnel (wants_close most holds past counts table after old mid blind s mine x) in
    closes_still (g.O.Office.seen c.args.office.now) (g.O.Office.seen c.act.new.office) (g.M.Mail.boxes c.args.mail.now) (g.M.Mail.boxes c.act.new.mail) (IsHeld most c.act.new.table.table c.act.new.held) mine.tunnel closing c.act.result c.act.new.told
    ((seat : PortSeat) → slice_get old.ports.items c.args.place ≡ Some seat
    → AskedInVain g.P.P.Port.holds g.P.P.Port.past g.P.P.Port.counts table c.act.new.table.table seat) closes.0
