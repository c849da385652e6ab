-- The end of each act, frames, writes, and what comes to a tunnel.
use Rattle.std.proofs.Common.{◌≡◌, ℕ, ◌+◌, false, ◌||◌, List, [], ◌∷◌, length, take, drop, nat_lt, nat_le, Option, Some, None, refl, ap, ◌∙◌, subst, arith, option_map}
use Rattle.std.specs.Prelude.{option_and_then}
use Rattle.std.specs.List.{AllByRecursion}
use Rattle.mq_capsule.specs.Writing.{capsule_text, datagram}
use Rattle.mq_h2.specs.Acts.{gives_back}
use Rattle.mq_h2.specs.State as h2
use Rattle.mq_streams.specs.Answers.{next_update}
use Rattle.mq_talk.specs.declared.note.End.{End}
use Rattle.mq_talk.specs.declared.note.End.TheVariants as end
use Rattle.mq_talk.specs.declared.note.From.{From}
use Rattle.mq_talk.specs.declared.note.Note.{Note}
use Rattle.mq_talk.specs.declared.note.Note.TheVariants as note
use Rattle.mq_talk.specs.declared.place.Cause.TheVariants as cause
use Rattle.mq_machine.specs.declared.act.Due.{Due}
use Rattle.mq_machine.specs.declared.act.Due.TheVariants as due
use Rattle.mq_machine.specs.Putting.{first_of, putting}
use Rattle.mq_machine.specs.Settle.{spending, passing, is_given_up, update_put, updates, updating, settled, settle}
use Rattle.mq_machine.specs.State.{Conn, new_conn, Front, Head, OverHttp1, OverHttp2, Stream, Tunnel, Waiting, Packet, owed, packets, waiting_bytes}
use Rattle.mq_machine.specs.Done.{with_waiting}
use Rattle.mq_machine.specs.Steps.{framing, frame_size, framed_by, framed_front, next_framed, set_waiting, settled_note, framed, wrote, given_up, queued, most_packets, most_waiting}
use Rattle.mq_machine.specs.Http2 as http2
use Rattle.mq_h2.specs.Laws.{may_come}
use Rattle.mq_machine.specs.Lawful.{kind_on, is_open, kind_behind, IsSeated, AreSeated, AreNumbered, IsUsed, Http2Fits, Fits, IsOver, Loose, IsLoose, IsLawful}
use Rattle.mq_machine.proofs.Lawful.Lists.{either, each_so, none_dropped, follows_same, Same, set_same, waits_same, has_same, kind_same, alone_same, numbered_same, each_same}
use Rattle.mq_machine.proofs.Lawful.Acts.{keeps_out, keeps_gives, keeps_puts, keeps_fits, consumes_fits}

-- ---- a new connection

pub new_lawful : (number actor : ℕ) → IsLawful (new_conn number actor)
new_lawful number actor = record {
  loose = record { over = tt; follows = tt; opens = refl; seated = tt; alone = tt; numbered = tt; front = (refl, refl, refl) };
  settled = tt;
}

-- ---- the end of an act

-- another front that fits
pub refit : (e : Option End) (ds : List Due) (ts : List Tunnel) (ss : List Stream) (f g : Front) → Loose e ds ts ss f → Fits g e ds ts ss → Loose e ds ts ss g
refit e ds ts ss f g h k = record {
  over = h.over;
  follows = h.follows;
  opens = h.opens;
  seated = h.seated;
  alone = h.alone;
  numbered = h.numbered;
  front = k;
}

module _ (e : Option End) (ds : List Due) (ts : List Tunnel) (ss : List Stream) where
  update_loose : (update : Option (ℕ × ℕ)) (h : h2.State) → Loose e ds ts ss (OverHttp2 h) → Loose (first_of e (update_put update h).ending) ds ts ss (update_put update h).front
  update_loose None h l = l
  update_loose (Some update) h l =
      refit e ds ts ss (OverHttp2 h) (OverHttp2 (record (gives_back (Some update) h) { out = [] })) l
      (keeps_fits h (record (gives_back (Some update) h) { out = [] }) ds ts (keeps_out h (gives_back (Some update) h) (keeps_gives update h)) l.front)

  updates_loose : (bytes : List ℕ) (h : h2.State) → Loose e ds ts ss (OverHttp2 h) → Loose (first_of e (updates bytes h).ending) ds ts ss (updates bytes h).front
  updates_loose [] h l = update_loose (next_update h.history) h l
  updates_loose (b ∷ bytes) h l = l

  updating_loose : (f : Front) (bytes : List ℕ) → Loose e ds ts ss f → Loose (first_of e (updating f bytes).ending) ds ts ss (updating f bytes).front
  updating_loose (Head known) bytes l = l
  updating_loose OverHttp1 bytes l = l
  updating_loose (OverHttp2 h) bytes l = updates_loose bytes h l

settled_lawful : (c : Conn) → IsLawful c → IsLawful (settled c)
settled_lawful c h =
    either (is_given_up c.ending) IsLawful c (putting c (updating c.front (owed c))) h
    (record { loose = updating_loose c.ending c.due c.tunnels c.streams c.front (owed c) h.loose; settled = h.settled })

-- a mark in front is passed
spent_over : (e : Option End) (d : Due) (rest : List Due) → IsOver e (d ∷ rest) → IsOver e rest
spent_over None d rest h = tt
spent_over (Some reason) d rest h = absurd cc

spent_front : (e : Option End) (id size : ℕ) (rest : List Due) (ts : List Tunnel) (ss : List Stream) (f : Front) → Fits f e (due.Spend id size ∷ rest) ts ss → Fits (spending f id size) e rest ts ss
spent_front e id size rest ts ss (Head bytes) h = absurd cc
spent_front e id size rest ts ss OverHttp1 h = absurd h.due
spent_front e id size rest ts ss (OverHttp2 s) h = consumes_fits id size s rest ts h

seated_behind : (e : Option End) (id size : ℕ) (rest : List Due) (ts : List Tunnel) (ss : List Stream) → AreSeated e ts (due.Spend id size ∷ rest) ss → AreSeated e ts rest ss
seated_behind None id size rest ts ss h = h
seated_behind (Some reason) id size rest ts ss h = tt

spent : (e : Option End) (id size : ℕ) (rest : List Due) (ts : List Tunnel) (ss : List Stream) (f : Front) → Loose e (due.Spend id size ∷ rest) ts ss f → Loose e rest ts ss (spending f id size)
spent e id size rest ts ss f h = record {
  over = spent_over e (due.Spend id size) rest h.over;
  follows = h.follows;
  opens = none_dropped is_open rest h.opens;
  seated = seated_behind e id size rest ts ss h.seated;
  alone = h.alone;
  numbered = h.numbered;
  front = spent_front e id size rest ts ss f h.front;
}

-- nothing is due any more
pub nothing_left : (e : Option End) (reason : End) (ds : List Due) (ts : List Tunnel) (ss : List Stream) (f : Front) → Loose e ds ts ss f → Fits f (Some reason) [] ts ss → Loose (Some reason) [] ts ss f
nothing_left e reason ds ts ss f h k = record {
  over = refl;
  follows = tt;
  opens = refl;
  seated = tt;
  alone = h.alone;
  numbered = tt;
  front = k;
}

pub nothing_spent : (h : h2.State) (ds : List Due) (ts : List Tunnel) → Http2Fits h ds ts → Http2Fits h [] ts
nothing_spent h ds ts f = record {
  tunnels = f.tunnels;
  dues = λ id is. absurd cc;
  spends = λ k. (let s = f.spends k in omega (arith, s));
}

faulty_front : (e : Option End) (reason : End) (code : ℕ) (rest : List Due) (ts : List Tunnel) (ss : List Stream) (f : Front) → Fits f e (due.Fault code ∷ rest) ts ss → Fits f (Some reason) [] ts ss
faulty_front e reason code rest ts ss (Head bytes) h = absurd cc
faulty_front e reason code rest ts ss OverHttp1 h = absurd h.due
faulty_front e reason code rest ts ss (OverHttp2 s) h = nothing_spent s (due.Fault code ∷ rest) ts h

passed : (ds : List Due) (c : Conn) → Loose c.ending ds c.tunnels c.streams c.front → IsLawful (passing ds c)
passed [] c h = record { loose = h; settled = tt }
passed (due.Do a ∷ rest) c h = record { loose = h; settled = tt }
passed (due.Spend id size ∷ rest) c h = passed rest (record c { front = spending c.front id size }) (spent c.ending id size rest c.tunnels c.streams c.front h)
passed (due.Fault code ∷ rest) c h = record {
  loose = nothing_left c.ending (end.Protocol code) (due.Fault code ∷ rest) c.tunnels c.streams c.front h
      (faulty_front c.ending (end.Protocol code) code rest c.tunnels c.streams c.front h.front);
  settled = tt;
}

pub settle_lawful : (c : Conn) → IsLoose c → IsLawful (settle c)
settle_lawful c h = settled_lawful (passing c.due c) (passed c.due c h)

-- ---- writes

pub wrote_lawful : (c : Conn) (count : ℕ) → IsLawful c → IsLawful (wrote c count).1
wrote_lawful c count h = settle_lawful (record c { given = c.given + count }) h.loose

-- ---- what is given up

pub given_front : (e : Option End) (reason : End) (ds : List Due) (ts : List Tunnel) (ss : List Stream) (f : Front) → Fits f e ds ts ss → Fits f (Some reason) [] ts []
given_front e reason ds ts ss (Head bytes) h = (refl, h.1, refl)
given_front e reason ds ts ss OverHttp1 h = record { due = tt; used = tt; tunnels = h.tunnels; streams = tt }
given_front e reason ds ts ss (OverHttp2 s) h = nothing_spent s ds ts h

pub given_up_lawful : (reason : End) (c : Conn) → IsLawful c → IsLawful (given_up reason c)
given_up_lawful reason c h = record {
  loose = record {
    over = refl;
    follows = tt;
    opens = refl;
    seated = tt;
    alone = h.loose.alone;
    numbered = tt;
    front = given_front c.ending reason c.due c.tunnels c.streams c.front h.loose.front;
  };
  settled = tt;
}

-- ---- what waits in a tunnel

each_seated_same : (ts us : List Tunnel) (ds : List Due) (ss : List Stream) → Same ts us → AllByRecursion (IsSeated ts ds) ss → AllByRecursion (IsSeated us ds) ss
each_seated_same ts us ds ss s h =
    each_so (IsSeated ts ds) (IsSeated us ds) ss (λ x k. ap (kind_behind x.id ds) (kind_same ts us s x.id) ∙ k) h

seated_same : (e : Option End) (ts us : List Tunnel) (ds : List Due) (ss : List Stream) → Same ts us → AreSeated e ts ds ss → AreSeated e us ds ss
seated_same None ts us ds ss s h = each_seated_same ts us ds ss s h
seated_same (Some reason) ts us ds ss s h = tt

are_numbered_same : (e : Option End) (ts us : List Tunnel) → Same ts us → AreNumbered e ts → AreNumbered e us
are_numbered_same None ts us s h = numbered_same ts us s h
are_numbered_same (Some reason) ts us s h = tt

none_same : (ts us : List Tunnel) → Same ts us → ts ≡ [] → us ≡ []
none_same [] [] s h = refl
none_same [] (u ∷ us) s h = absurd s
none_same (t ∷ ts) us s h = absurd cc

used_same : (e : Option End) (ds : List Due) (ts us : List Tunnel) → Same ts us → IsUsed e ds ts → IsUsed e ds us
used_same None [] ts us s h = has_same ts us s 0 ∙ h
used_same None (d ∷ ds) ts us s h = tt
used_same (Some reason) ds ts us s h = tt

fits_same : (f : Front) (e : Option End) (ds : List Due) (ts us : List Tunnel) (ss : List Stream) → Same ts us → Fits f e ds ts ss → Fits f e ds us ss
fits_same (Head bytes) e ds ts us ss s h = (h.0, none_same ts us s h.1, h.2)
fits_same OverHttp1 e ds ts us ss s h = record {
  due = h.due;
  used = used_same e ds ts us s h.used;
  tunnels = each_same (λ (t : Tunnel). t.stream ≡ 0) ts us s (λ t u same goal k. same ∙ k) h.tunnels;
  streams = h.streams;
}
fits_same (OverHttp2 x) e ds ts us ss s h = record {
  tunnels = each_same (λ (t : Tunnel). may_come t.stream x ≡ false) ts us s (λ t u same goal k. ap (λ id. may_come id x) same ∙ k) h.tunnels;
  dues = h.dues;
  spends = h.spends;
}

pub loose_same : (e : Option End) (ds : List Due) (ts us : List Tunnel) (ss : List Stream) (f : Front) → Same ts us → Loose e ds ts ss f → Loose e ds us ss f
loose_same e ds ts us ss f s h = record {
  over = h.over;
  follows = follows_same (kind_on ts) (kind_on us) (kind_same ts us s) ds h.follows;
  opens = h.opens;
  seated = seated_same e ts us ds ss s h.seated;
  alone = alone_same ts us s h.alone;
  numbered = are_numbered_same e ts us s h.numbered;
  front = fits_same f e ds ts us ss s h.front;
}

pub waiting_loose : (id : ℕ) (w : Waiting) (c : Conn) → IsLoose c → IsLoose (with_waiting id w c)
waiting_loose id w c h = loose_same c.ending c.due c.tunnels (with_waiting id w c).tunnels c.streams c.front (waits_same id w c.tunnels) h

pub queued_lawful : (c : Conn) (t : Tunnel) (from : From) (n : ℕ) (packet : List ℕ) → IsLawful c → IsLawful (settled_note (queued c t from n packet)).1
queued_lawful c t from n packet h =
    let w : Waiting = record { what = Packet from n packet; capsule = capsule_text (datagram packet); framed = 0 } in
    let P : Note × Conn → Type 0 = λ d. IsLoose d.1 in
    settle_lawful (queued c t from n packet).1 (either (nat_le most_packets (packets t) || nat_lt most_waiting (waiting_bytes c + length (capsule_text (datagram packet)))) P
    (note.Dropped from n cause.QueueFull, c) (note.Queued from n t.id, with_waiting t.id w c) h.loose (waiting_loose t.id w c h.loose))

-- ---- frames

abbrev Result : Option (Note × Conn) → Type 0
Result None = Unit {0}
Result (Some d) = IsLawful d.1

abbrev LooseResult : Option (Note × Conn) → Type 0
LooseResult None = Unit {0}
LooseResult (Some d) = IsLoose d.1

settles : (o : Option (Note × Conn)) → LooseResult o → Result (option_map settled_note o)
settles None h = tt
settles (Some d) h = settle_lawful d.1 h

pub framing_loose : (e : Option End) (ds : List Due) (ts us : List Tunnel) (ss : List Stream) (f : Front) (id : ℕ) (text : List ℕ) → Same ts us → Loose e ds ts ss f
    → Loose (first_of e (framing f id text).ending) ds us ss (framing f id text).front
framing_loose e ds ts us ss (Head bytes) id text s h = loose_same e ds ts us ss (Head bytes) s h
framing_loose e ds ts us ss OverHttp1 id text s h = loose_same e ds ts us ss OverHttp1 s h
framing_loose e ds ts us ss (OverHttp2 x) id text s h =
    let y : h2.State = record (http2.puts_data id text x) { out = [] } in
    let l = loose_same e ds ts us ss (OverHttp2 x) s h in
    refit e ds us ss (OverHttp2 x) (OverHttp2 y) l (keeps_fits x y ds us (keeps_out x (http2.puts_data id text x) (keeps_puts id text x)) l.front)

pub framed_by_loose : (c : Conn) (t : Tunnel) (w : Waiting) (ws : List Waiting) (count : ℕ) → IsLoose c → IsLoose (framed_by c t w ws count).1
framed_by_loose c t w ws count h =
    let P : Note × Conn → Type 0 = λ d. IsLoose d.1 in
    let more : Waiting = record w { framed = w.framed + count } in
    let text = take count (drop w.framed w.capsule) in
    either (nat_le (length w.capsule) (w.framed + count)) P _ _
    (framing_loose c.ending c.due c.tunnels (set_waiting t.stream ws c.tunnels) c.streams c.front t.stream text (set_same t.stream ws c.tunnels) h)
    (framing_loose c.ending c.due c.tunnels (set_waiting t.stream (more ∷ ws) c.tunnels) c.streams c.front t.stream text (set_same t.stream (more ∷ ws) c.tunnels) h)

framed_loose : (c : Conn) (t : Tunnel) (ws : List Waiting) → IsLoose c → LooseResult (framed_front c t ws)
framed_loose c t [] h = tt
framed_loose c t (w ∷ ws) h = framed_by_loose c t w ws (frame_size c.front t.stream (length (drop w.framed w.capsule))) h

next_loose : (c : Conn) (o : Option Tunnel) → IsLoose c → LooseResult (option_and_then (λ (t : Tunnel). framed_front c t t.waiting) o)
next_loose c None h = tt
next_loose c (Some t) h = framed_loose c t t.waiting h

pub framed_lawful : (c : Conn) (said : Note) (d : Conn) → IsLawful c → framed c ≡ Some (said, d) → IsLawful d
framed_lawful c said d h is = subst Result is (settles (option_and_then (λ (t : Tunnel). framed_front c t t.waiting) (next_framed c)) (next_loose c (next_framed c) h.loose))
