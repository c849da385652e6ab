-- A connection takes a read, and the end of its link.
use Rattle.std.proofs.Common.{◌≡◌, ℕ, Bool, true, false, List, [], ◌∷◌, ◌++◌, drop, Option, Some, None, refl, sym, ap, ◌∙◌, subst}
use Rattle.std.specs.Prelude.{vec_len, vec_capacity}
use Rattle.mq_h2.specs.Laws.{IsAskedOnce, IsTold}
use Rattle.mq_front.specs.declared.front.Front.{Front}
use Rattle.mq_front.specs.declared.finish.Finish.{Finish}
use Rattle.mq_front.specs.declared.finish.Finish.TheVariants.{Ends, Closes}
use Rattle.mq_front.specs.Fronts.{IsFront, Finishes, finish_of}
use Rattle.mq_talk.specs.declared.note.End.{End}
use Rattle.mq_talk.specs.declared.note.Why.{Why}
use Rattle.mq_talk.specs.declared.note.Why.TheVariants as why
use Rattle.mq_machine.specs.declared.act.Act.TheVariants as act
use Rattle.mq_machine.specs.declared.act.StreamAct.TheVariants as stream
use Rattle.mq_machine.specs.declared.act.Due.{Due}
use Rattle.mq_machine.specs.declared.act.Due.TheVariants as due
use Rattle.mq_machine.specs.declared.setup.Setup.{Setup}
use Rattle.mq_machine.specs.Cores.{Feeds}
use Rattle.mq_front.specs.Limits.{AllMayBeDue}
use Rattle.mq_machine.specs.Reading.{EndsThere, TookNext}
use Rattle.mq_machine.specs.Settle.{settle, is_given_up}
use Rattle.mq_machine.specs.State as machine
use Rattle.mq_machine.specs.State.{Head, OverHttp1, OverHttp2, Stream}
use Rattle.mq_machine.specs.Steps.{can_read, finish_by, finished}
use Rattle.mq_machine.proofs.Lawful.Idle.{finished_loose}
use Rattle.mq_conn.specs.declared.conn.Conn.{Conn}
use Rattle.mq_conn.specs.declared.conn.First.{First}
use Rattle.mq_conn.specs.declared.conn.First.TheVariants as first
use Rattle.mq_conn.specs.declared.conn.Tunnel.{Tunnel}
use Rattle.mq_conn.specs.Conns.{IsConn, IsRead, IsSpare, Stands, HasRoom, Past, state, behind, tunnels_of}
use Rattle.mq_conn.specs.Rooms.{KeepsTunnels, Read}
use Rattle.mq_conn.proofs.Ready.{ready_first}
use Rattle.mq_conn.specs.Frames.{LinkEnds}
use Rattle.mq_machine.proofs.Lawful.Taking.{took_loose}
use Rattle.mq_conn.proofs.Framing.{drop_more, given_more}
use Rattle.mq_conn.proofs.Serving.{Is, Settles, by_state, has_front, reads_on, settles_so}

pub takes_so : (c read ready d : Conn) (setup : Setup) (piece : List ℕ) → IsAskedOnce → IsTold → Read c read setup piece → KeepsTunnels read ready
    → HasRoom ready.spare (vec_len ready.tunnels) (vec_capacity ready.tunnels) ready.due → Settles ready d → Feeds (IsConn c) (IsConn d) ⊥ setup piece true
takes_so c read ready d setup piece once told was keeps room settles s stands can =
    by_state c (λ (x : machine.Conn). can_read x ≡ true → (t : machine.Conn) × IsConn d t × TookNext setup x piece t) go s stands can
  where
    go : (p : Past) → Is c p → can_read (state c p) ≡ true → (t : machine.Conn) × IsConn d t × TookNext setup (state c p) piece t
    go p is can =
        let x = state c p in
        let idle = reads_on c p is can in
        let R : Option Front → Type 0 = λ o. IsRead o c.ending p.front p.streams (drop p.given p.out) in
        let had = subst R was.was is.read in
        let r = was.reads p.front p.streams (drop p.given p.out) had.1 in
        let acts_are : read.due ≡ r.acts = r.after_is ∙ ap (λ (ds : List Due). ds ++ r.acts) idle.due in
        let loose = took_loose setup x piece r.events r.text r.front r.acts r.others once told is.lawful can r.brings r.asks in
        let y : machine.Conn = record x { front = r.front; streams = r.others; due = r.acts; out = p.out ++ r.text } in
        let q : Past = record p { front = r.front; streams = r.others; out = p.out ++ r.text } in
        let e : Conn = record c { front = Some was.g; due = read.due; spare = ready.spare; tunnels = ready.tunnels } in
        let same : ready ≡ e = keeps.is ∙ ap (λ (k : Conn). record k { spare = ready.spare; tunnels = ready.tunnels }) was.is in
        let due_same : ready.due ≡ read.due = ap (λ (k : Conn). k.due) keeps.is in
        let items : ready.tunnels.items ≡ c.tunnels.items = keeps.items ∙ ap (λ (k : Conn). k.tunnels.items) was.is in
        let O : List ℕ → Type 0 = λ owed. IsFront was.g r.front r.others owed in
        let N : List Due → Type 0 = λ ds. AllMayBeDue ds in
        let H : List Due → Type 0 = λ ds. HasRoom ready.spare (vec_len ready.tunnels) (vec_capacity ready.tunnels) ds in
        let F : Option First → Type 0 = λ f. HasRoom ready.spare (vec_len ready.tunnels) (vec_capacity ready.tunnels) (behind f read.due) in
        let S : Conn → Type 0 = λ k. IsSpare k.spare in
        let stood : Stands e y = record {
          past = q;
          is = ap (λ (ds : List Due). record y { due = ds }) (sym (ap (λ (f : Option First). behind f read.due) idle.first ∙ acts_are))
              ∙ ap (λ (ts : List Tunnel). record y { due = behind c.first read.due; tunnels = tunnels_of ts }) (sym items);
          read = (had.0, subst O (sym (drop_more p.given p.out r.text is.given)) r.stands);
          given = given_more p.given p.out r.text is.given;
          ready = record {
            room = subst F (sym idle.first) (subst H due_same room);
            spare_is = keeps.spare_is (subst S (sym was.is) is.ready.spare_is);
            may = subst N (sym acts_are) r.may;
          };
        } in
        let E : Conn → Type 0 = λ v. Stands v y in (
          settle y,
          settles_so ready d y settles (subst E (sym same) stood) loose.0,
          record { events = r.events; text = r.text; front = r.front; acts = r.acts; streams = r.others; can = can; brings = r.brings; asks = r.asks; new_is = refl },
        )

-- ---- the end of the link

pub finishes_so : (c mid d : Conn) → LinkEnds c mid → Settles mid d → (s : machine.Conn) → IsConn c s → can_read s ≡ true → (inside : Bool) × EndsThere s inside × IsConn d (finished s inside).1
finishes_so c mid d ended settles s stands can =
    let r = ended s stands can in
    (r.0, r.1, settles_so mid d (finish_by (record s { is_finished = true }) s.front r.0) settles r.2 (finished_loose s r.0 stands.lawful can))

-- one that was given up isn't read
pub none_ended : (c mid : Conn) → c.front ≡ None → LinkEnds c mid
none_ended c mid none s stands can =
    by_state c (λ (x : machine.Conn). can_read x ≡ true → (inside : Bool) × EndsThere x inside × Stands mid (finish_by (record x { is_finished = true }) x.front inside)) go s stands can
  where
    go : (p : Past) → Is c p → can_read (state c p) ≡ true → (inside : Bool) × EndsThere (state c p) inside × Stands mid (finish_by (record (state c p) { is_finished = true }) p.front inside)
    go p is can =
        let idle = reads_on c p is can in
        let f = has_front c.front c.ending p.front p.streams (drop p.given p.out) is.read (ap is_given_up idle.ending) in
        let k : None ≡ Some f.0 = sym none ∙ f.1 in
        absurd cc

-- it stands so where it is ending
abbrev pub EndsAs : Finish → Conn → Conn → Type 0
EndsAs (Ends reason) c mid = mid ≡ record c { finished = true; ending = Some reason }
EndsAs (Closes reason) c mid = mid ≡ record c { finished = true; first = Some (first.Close 0 reason) }

abbrev end_in : Finish → Option End
end_in (Ends reason) = Some reason
end_in (Closes reason) = None

abbrev why_in : Finish → Why
why_in (Ends reason) = why.End
why_in (Closes reason) = reason

no_end : (f : machine.Front) (inside : Bool) (reason : End) → finish_of f inside ≡ Ends reason → is_given_up (Some reason) ≡ false
no_end (Head []) inside reason h = ap (λ (f : Finish). is_given_up (end_in f)) (sym h)
no_end (Head (b ∷ bytes)) inside reason h = ap (λ (f : Finish). is_given_up (end_in f)) (sym h)
no_end OverHttp1 inside reason h = absurd cc
no_end (OverHttp2 x) true reason h = ap (λ (f : Finish). is_given_up (end_in f)) (sym h)
no_end (OverHttp2 x) false reason h = ap (λ (f : Finish). is_given_up (end_in f)) (sym h)

finish_states : (c : Conn) (p : Past) (f : machine.Front) (inside : Bool) (reason : End) → finish_of f inside ≡ Ends reason
    → finish_by (record (state c p) { is_finished = true }) f inside ≡ record (state c p) { is_finished = true; ending = Some reason }
finish_states c p (Head []) inside reason h = ap (λ (o : Finish). record (state c p) { is_finished = true; ending = end_in o }) h
finish_states c p (Head (b ∷ bytes)) inside reason h = ap (λ (o : Finish). record (state c p) { is_finished = true; ending = end_in o }) h
finish_states c p OverHttp1 inside reason h = absurd cc
finish_states c p (OverHttp2 x) inside reason h = ap (λ (o : Finish). record (state c p) { is_finished = true; ending = end_in o }) h

close_states : (c : Conn) (p : Past) (f : machine.Front) (inside : Bool) (reason : Why) → finish_of f inside ≡ Closes reason
    → finish_by (record (state c p) { is_finished = true }) f inside ≡ record (state c p) { is_finished = true; due = due.Do (act.OfStream 0 (stream.Close reason)) ∷ behind c.first c.due }
close_states c p (Head []) inside reason h = absurd cc
close_states c p (Head (b ∷ bytes)) inside reason h = absurd cc
close_states c p OverHttp1 inside reason h = ap (λ (o : Finish). record (state c p) { is_finished = true; due = due.Do (act.OfStream 0 (stream.Close (why_in o))) ∷ behind c.first c.due }) h
close_states c p (OverHttp2 x) inside reason h = absurd cc

pub ends_so : (c mid : Conn) (g : Front) (f : Finish) → c.front ≡ Some g → ((f2 : machine.Front) (streams : List Stream) (owed : List ℕ) → IsFront g f2 streams owed → Finishes f2 streams f) → EndsAs f c mid → LinkEnds c mid
ends_so c mid g f fronted finishes ends s stands can =
    by_state c (λ (x : machine.Conn). can_read x ≡ true → (inside : Bool) × EndsThere x inside × Stands mid (finish_by (record x { is_finished = true }) x.front inside)) go s stands can
  where
    go : (p : Past) → Is c p → can_read (state c p) ≡ true → (inside : Bool) × EndsThere (state c p) inside × Stands mid (finish_by (record (state c p) { is_finished = true }) p.front inside)
    go p is can =
        let idle = reads_on c p is can in
        let R : Option Front → Type 0 = λ o. IsRead o c.ending p.front p.streams (drop p.given p.out) in
        let read = subst R fronted is.read in
        let r = finishes p.front p.streams (drop p.given p.out) read.1 in
        (r.0, r.1, by_finish f r.0 r.2 ends)
      where
        by_finish : (f : Finish) (inside : Bool) → f ≡ finish_of p.front inside → EndsAs f c mid → Stands mid (finish_by (record (state c p) { is_finished = true }) p.front inside)
        by_finish (Ends reason) inside e keeps =
            let x = finish_by (record (state c p) { is_finished = true }) p.front inside in
            let E : Conn → Type 0 = λ v. Stands v x in
            let R : Option Front → Type 0 = λ o. IsRead o c.ending p.front p.streams (drop p.given p.out) in
            let S : Option Front → Type 0 = λ o. IsRead o (Some reason) p.front p.streams (drop p.given p.out) in
            let read = subst R fronted is.read in
            subst E (sym keeps) (record {
              past = p;
              is = finish_states c p p.front inside reason (sym e);
              read = subst S (sym fronted) (no_end p.front inside reason (sym e), read.1);
              given = is.given;
              ready = is.ready;
            })
        by_finish (Closes reason) inside e keeps =
            let x = finish_by (record (state c p) { is_finished = true }) p.front inside in
            let E : Conn → Type 0 = λ v. Stands v x in
            let idle = reads_on c p is can in
            subst E (sym keeps) (record {
              past = p;
              is = close_states c p p.front inside reason (sym e) ∙ ap (λ (o : Option First). record (state c p) { is_finished = true; due = due.Do (act.OfStream 0 (stream.Close reason)) ∷ behind o c.due }) idle.first;
              read = is.read;
              given = is.given;
              ready = ready_first c.spare (vec_len c.tunnels) (vec_capacity c.tunnels) c.first (first.Close 0 reason) c.due idle.first refl is.ready;
            })
