-- What an answer does to what the core stands for.
use Rattle.std.proofs.Common.{◌≡◌, ℕ, ◌==◌, Bool, true, false, cond, nat_lt, inl, inr, List, [], ◌∷◌, length, Option, Some, None, Result, Ok, Err, refl, sym, ap, ◌∙◌, subst, option_map}
use Rattle.std.specs.Prelude.{IfOk, MatchOption, find}
use Rattle.std.specs.Option.{is_some}
use Rattle.mq_outside.specs.declared.PortPut.{PortPut}
use Rattle.mq_outside.specs.declared.PortPut.TheVariants as put
use Rattle.mq_talk.specs.declared.note.End.{End}
use Rattle.mq_talk.specs.declared.note.End.TheVariants as end
use Rattle.mq_talk.specs.declared.note.From.TheVariants as source
use Rattle.mq_talk.specs.declared.note.Note.{Note}
use Rattle.mq_talk.specs.declared.note.Note.TheVariants as note
use Rattle.mq_talk.specs.declared.place.Cause.{Cause}
use Rattle.mq_talk.specs.declared.place.Cause.TheVariants as cause
use Rattle.mq_wire.specs.declared.NoMemory.{NoMemory}
use Rattle.mq_machine.specs.declared.act.Act.{Act}
use Rattle.mq_machine.specs.declared.act.Act.TheVariants as act
use Rattle.mq_machine.specs.declared.act.StreamAct.{StreamAct}
use Rattle.mq_machine.specs.declared.act.StreamAct.TheVariants as stream
use Rattle.mq_machine.specs.declared.act.Due.{Due}
use Rattle.mq_machine.specs.declared.act.Due.TheVariants as due
use Rattle.mq_machine.specs.Done.{Done, act_done, done, done_by, dropped, due_done, sent, stream_done, tunnel_done}
use Rattle.mq_machine.specs.Lawful.{IsFresh, IsLoose, IsLawful, IsOver}
use Rattle.mq_machine.specs.Settle.{settle}
use Rattle.mq_machine.specs.State as machine
use Rattle.mq_machine.specs.State.{tunnel_on}
use Rattle.mq_machine.specs.Want.{Answer, Said, Put}
use Rattle.mq_machine.proofs.Lawful.Steps.{given_up_lawful}
use Rattle.mq_conn.specs.Acts.{DoesAct, MayStep}
use Rattle.mq_conn.specs.declared.conn.Conn.{Conn}
use Rattle.mq_conn.specs.declared.conn.First.{First}
use Rattle.mq_conn.specs.Conns.{CanPut, find_on, Does, GivesUp, IsConn, Leaves, PutsNote, Stands, Starves, tunnels_of}
use Rattle.mq_machine.proofs.Lawful.Doing.{done_loose, done_lawful}
use Rattle.mq_conn.proofs.Standing.{gone_left, number_is, popped, tunnels_are}
use Rattle.mq_conn.proofs.Wanting.{none_first}

-- ---- once it is ending nothing is due

pub over_due : (e : Option End) (d : Due) (rest dues : List Due) → IsOver e dues → dues ≡ d ∷ rest → e ≡ None
over_due None d rest dues h is = refl
over_due (Some reason) d rest dues h is = let e : [] ≡ d ∷ rest = sym h ∙ is in absurd cc

-- it isn't ending where something is due
pub not_over : (s : machine.Conn) (d : Due) (rest : List Due) → IsLawful s → s.due ≡ d ∷ rest → s.ending ≡ None
not_over s d rest h is = over_due s.ending d rest s.due h.loose.over is

-- ---- memory is refused

pub starves : (c d e : Conn) → Leaves c d → GivesUp d end.NoMemory e → Starves c e
starves c d e left gives s conn = record {
  stands = gone_left c d e s end.NoMemory refl left gives conn.stands;
  lawful = given_up_lawful end.NoMemory s conn.lawful;
}

-- ---- an answer

-- what is done leads there
pub record Leads (e : Conn) (s : machine.Conn) (answer : Answer) (said : Note) : Type 0 where
  pub x : machine.Conn
  pub does : done_by s s.ending answer ≡ Some (said, x)
  pub stands : IsLoose x → Stands e (settle x)

abbrev settled_at : Note × machine.Conn → Note × machine.Conn
settled_at d = (d.0, settle d.1)

pub leads : (e : Conn) (s : machine.Conn) (answer : Answer) (said : Note) → IsLawful s → IsFresh s.tunnels answer → Leads e s answer said → (t : machine.Conn) × IsConn e t × (done s answer ≡ Some (said, t))
leads e s answer said lawful fresh l =
    let is : done s answer ≡ Some (said, settle l.x) = ap (λ (o : Done). option_map settled_at o) l.does in (
      settle l.x,
      record { stands = l.stands (done_loose s answer said l.x lawful fresh l.does); lawful = done_lawful s answer said (settle l.x) lawful fresh is },
      is,
    )

-- what is due first is done by the act
pub does_due : (s : machine.Conn) (a : Act) (rest : List Due) (answer : Answer) → s.ending ≡ None → s.due ≡ due.Do a ∷ rest → done_by s s.ending answer ≡ act_done (record s { due = rest }) a answer
does_due s a rest answer none is =
    ap (λ (e : Option End). done_by s e answer) none ∙ ap (λ (ds : List Due). due_done s ds answer) is

pub was_some : {A B : Type 0} (f : A → B) (o : Option A) → is_some (option_map f o) ≡ true → is_some o ≡ true
was_some f None h = absurd cc
was_some f (Some x) h = refl

-- where this was an answer, something was done
pub some_done : (s : machine.Conn) (answer : Answer) → is_some (done s answer) ≡ true → is_some (done_by s s.ending answer) ≡ true
some_done s answer h = was_some settled_at (done_by s s.ending answer) h

-- ---- an act of a stream's tunnel

pub stream_leads : (s : machine.Conn) (id : ℕ) (a : StreamAct) (rest : List Due) (answer : Answer) (t : machine.Tunnel) → s.ending ≡ None → s.due ≡ due.Do (act.OfStream id a) ∷ rest → tunnel_on s id ≡ Some t
    → done_by s s.ending answer ≡ stream_done (record s { due = rest }) t a answer
stream_leads s id a rest answer t none is on =
    does_due s (act.OfStream id a) rest answer none is ∙ ap (λ (o : Option machine.Tunnel). tunnel_done (record s { due = rest }) o a answer) on

-- ---- what needs no tunnel

-- what is due first is done by this answer, and the act ends
pub acts : (old mid acted e : Conn) (a : Act) (answer : Answer) (said : Note)
    → mid ≡ record old { due = mid.due } → old.first ≡ None → old.due ≡ due.Do a ∷ mid.due
    → ((ts : List machine.Tunnel) → IsFresh ts answer) → DoesAct mid acted a answer (Ok said)
    → ((x : machine.Conn) → Stands acted x → IsLoose x → Stands e (settle x)) → Does old e answer said
acts old mid acted e a answer said keeps none is fresh does ends s conn some =
    let p = popped old mid s (due.Do a) keeps none is conn.stands in
    let over = not_over s (due.Do a) mid.due conn.lawful p.0 in
    let x = record s { due = mid.due } in
    let r = does x p.1 over in
    leads e s answer said conn.lawful (fresh s.tunnels) (record {
      x = r.0;
      does = does_due s a mid.due answer over p.0 ∙ r.1;
      stands = λ loose. ends r.0 r.2 loose;
    })

-- a step does the act
pub from_step : (old new : Conn) (a : Act) (answer : Answer) (step : machine.Conn → Note × machine.Conn) (result : Result Note NoMemory) → ((x : machine.Conn) → act_done x a answer ≡ Some (step x)) → MayStep old new step result → DoesAct old new a answer result
from_step old new a answer step (Ok said) does h = λ s st over.
    let r = h s st over in
    ((step s).1, does s ∙ ap (λ (n : Note). Some (n, (step s).1)) (sym r.0), r.1)
from_step old new a answer step (Err fault) does h = h

-- a reset of a stream is told
pub tells_reset : (c : Conn) (id code : ℕ) → DoesAct c c (act.Reset id code) Said (Ok (note.Reset c.number id code))
tells_reset c id code s st over = (s, ap (λ (n : ℕ). Some (note.Reset n id code, s)) (number_is c s st), st)

-- a payload is dropped
pub tells_drop : (c : Conn) (id n : ℕ) (why : Cause) (result : Result Note NoMemory)
    → IfOk result (λ said. (t : machine.Tunnel) × (find_on c id ≡ Some t) × (said ≡ note.Dropped (source.Tunnel t.id) n why)) → DoesAct c c (act.OfStream id (stream.Drop n why)) Said result
tells_drop c id n why (Ok said) h = λ s st over.
    let on : tunnel_on s id ≡ Some h.0 = ap (λ (ts : List machine.Tunnel). find (λ (u : machine.Tunnel). u.stream == id) ts) (tunnels_are c s st) ∙ h.1 in
    (s, ap (λ (o : Option machine.Tunnel). tunnel_done s o (stream.Drop n why) Said) on ∙ ap (λ (x : Note). Some (x, s)) (sym h.2), st)
tells_drop c id n why (Err fault) h = record { is = refl; items = refl; spare_is = λ h. h }

-- ---- what a tunnel's stream asks for

-- it is done by this answer, and changes nothing but that
pub stays : (old mid e : Conn) (id : ℕ) (a : StreamAct) (t : machine.Tunnel) (answer : Answer) (said : Note)
    → mid ≡ record old { due = mid.due } → old.first ≡ None → old.due ≡ due.Do (act.OfStream id a) ∷ mid.due
    → ((ts : List machine.Tunnel) → IsFresh ts answer) → find (λ (u : machine.Tunnel). u.stream == id) (tunnels_of mid.tunnels.items) ≡ Some t
    → ((x : machine.Conn) → is_some (stream_done x t a answer) ≡ true → stream_done x t a answer ≡ Some (said, x))
    → ((x : machine.Conn) → Stands mid x → IsLoose x → Stands e (settle x)) → Does old e answer said
stays old mid e id a t answer said keeps none is fresh live does ends s conn some =
    let p = popped old mid s (due.Do (act.OfStream id a)) keeps none is conn.stands in
    let over = not_over s (due.Do (act.OfStream id a)) mid.due conn.lawful p.0 in
    let x = record s { due = mid.due } in
    let on : tunnel_on s id ≡ Some t = ap (λ (ts : List machine.Tunnel). find (λ (u : machine.Tunnel). u.stream == id) ts) (tunnels_are mid x p.1) ∙ live in
    let so = stream_leads s id a mid.due answer t over p.0 on in
    let P : Done → Type 0 = λ o. is_some o ≡ true in
    leads e s answer said conn.lawful (fresh s.tunnels) (record {
      x = x;
      does = so ∙ does x (subst P so (some_done s answer some));
      stands = λ loose. ends x p.1 loose;
    })

-- ---- payloads

can_put : (answer : PortPut) (limit n : ℕ) (payload : List ℕ) (x : machine.Conn) (t : machine.Tunnel) (b : Bool) → nat_lt limit (length payload) ≡ b → is_some (cond b (Some (dropped x t n cause.TooLong)) (sent x t n payload answer)) ≡ true → CanPut answer limit payload
can_put answer limit n payload x t true is h = inl is
can_put put.Sent limit n payload x t false is h = inr (λ e. absurd cc)
can_put put.Failed limit n payload x t false is h = inr (λ e. absurd cc)
can_put put.NotNow limit n payload x t false is h = absurd cc

pub puts_note : (answer : PortPut) (limit id n : ℕ) (payload : List ℕ) (said : Note) (t : machine.Tunnel) → t.id ≡ id → PutsNote id n payload answer limit said
    → (x : machine.Conn) → is_some (stream_done x t (stream.Payload n payload) (Put answer limit)) ≡ true → stream_done x t (stream.Payload n payload) (Put answer limit) ≡ Some (said, x)
puts_note answer limit id n payload said t same note x some = note (can_put answer limit n payload x t (nat_lt limit (length payload)) refl some) x t same

-- ---- what is due first is taken

-- no act stands in front
pub takes_none : (front : Option First) (dues : List Due) → is_some front ≡ true → front ≡ None → dues ≡ []
takes_none None dues some none = absurd cc
takes_none (Some f) dues some none = absurd cc

pub takes_due : (front : Option First) (dues rest : List Due) (r : Option Due) → is_some front ≡ false → MatchOption r ((dues ≡ []) × (rest ≡ [])) (λ d. dues ≡ d ∷ rest)
    → MatchOption r (front ≡ None → dues ≡ []) (λ d. (front ≡ None) × (dues ≡ d ∷ rest))
takes_due front dues rest None none h = λ e. h.0
takes_due front dues rest (Some d) none h = (none_first front none, h)
