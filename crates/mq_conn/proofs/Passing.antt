-- Marks are passed.
use Rattle.std.proofs.Common.{◌≡◌, ℕ, ◌+◌, ◌≤◌, ◌==◌, Bool, true, cond, List, [], ◌∷◌, drop, Option, Some, None, refl, sym, ap, ◌∙◌, subst, arith}
use Rattle.std.specs.Prelude.{MatchOption, vec_len, vec_capacity}
use Rattle.mq_front.specs.declared.front.Front.{Front}
use Rattle.mq_front.specs.Fronts.{CanSpend, IsFront}
use Rattle.mq_streams.specs.History.{total, arrived_on, consumed_on}
use Rattle.mq_talk.specs.declared.note.End.{End}
use Rattle.mq_talk.specs.declared.note.End.TheVariants as end
use Rattle.mq_machine.specs.declared.act.Due.{Due}
use Rattle.mq_machine.specs.declared.act.Due.TheVariants as due
use Rattle.mq_machine.specs.Lawful.{Http2Fits, IsOver, spends}
use Rattle.mq_machine.specs.Settle.{is_given_up, passing, spending}
use Rattle.mq_machine.specs.State as machine
use Rattle.mq_machine.specs.State.{Head, OverHttp1, OverHttp2, Stream, owed}
use Rattle.mq_machine.proofs.Lawful.Acts.{consumes_fits}
use Rattle.mq_machine.proofs.Lawful.Lists.{itself}
use Rattle.mq_machine.proofs.Lawful.Steps.{nothing_spent}
use Rattle.mq_conn.specs.declared.conn.Conn.{Conn}
use Rattle.mq_conn.specs.declared.conn.First.{First}
use Rattle.mq_conn.specs.Conns.{IsRead, IsReady, PutsNothing, Stands, behind, state}
use Rattle.mq_conn.specs.Marks.{Spends}
use Rattle.mq_conn.proofs.Ready.{ready_idle}
use Rattle.mq_conn.proofs.Answering.{over_due}
use Rattle.mq_conn.proofs.Standing.{due_is, ending_is, fronted, goes_on}

-- the marks that are due in HTTP/2 fit its state
abbrev pub MarksFit : machine.Front → List Due → List machine.Tunnel → Type 0
MarksFit (Head bytes) ds ts = Unit {0}
MarksFit OverHttp1 ds ts = Unit {0}
MarksFit (OverHttp2 h) ds ts = Http2Fits h ds ts

-- behind some of its marks, the core stands for a state from which the others lead there
pub record Passing (c : Conn) (last : machine.Conn) : Type 0 where
  pub s : machine.Conn
  pub stands : Stands c s
  pub over : IsOver s.ending s.due
  pub fits : MarksFit s.front s.due s.tunnels
  pub leads : passing s.due s ≡ last

-- what is due stands in the list alone
passing_same : (ds other : List Due) (s : machine.Conn) → passing ds (record s { due = other }) ≡ passing ds s
passing_same [] other s = refl
passing_same (due.Do a ∷ rest) other s = refl
passing_same (due.Spend id size ∷ rest) other s = passing_same rest other (record s { front = spending s.front id size })
passing_same (due.Fault code ∷ rest) other s = refl

can_spend : (f : machine.Front) (id size : ℕ) (rest : List Due) (ts : List machine.Tunnel) → MarksFit f (due.Spend id size ∷ rest) ts → CanSpend f id size
can_spend (Head bytes) id size rest ts h = tt
can_spend OverHttp1 id size rest ts h = tt
can_spend (OverHttp2 s) id size rest ts h =
    let k = h.spends id in
    let e : cond (id == id) size 0 ≡ size = ap (λ (b : Bool). cond b size 0) (itself id) in
    let P : ℕ → Type 0 = λ n. total (consumed_on id) s.history + (n + spends id rest) ≤ total (arrived_on id) s.history in
    let l = subst P e k in
    omega (arith, l)

spent_fits : (f : machine.Front) (id size : ℕ) (rest : List Due) (ts : List machine.Tunnel) → MarksFit f (due.Spend id size ∷ rest) ts → MarksFit (spending f id size) rest ts
spent_fits (Head bytes) id size rest ts h = tt
spent_fits OverHttp1 id size rest ts h = tt
spent_fits (OverHttp2 s) id size rest ts h = consumes_fits id size s rest ts h

-- what stands in front is this
mark_due_is : (c : Conn) (s : machine.Conn) (d : Due) (rest : List Due) → c.first ≡ None → c.due ≡ d ∷ rest → Stands c s → s.due ≡ d ∷ rest
mark_due_is c s d rest none is st = due_is c s st ∙ ap (λ (f : Option First). behind f c.due) none ∙ is

pub spends_one : (c e : Conn) (last : machine.Conn) (id size : ℕ) (rest : List Due) → Passing c last → c.first ≡ None → c.due ≡ due.Spend id size ∷ rest → Spends c e id size → Passing e last
spends_one c e last id size rest p none is spend =
    let s = p.s in
    let d = due.Spend id size in
    let due_so = mark_due_is c s d rest none is p.stands in
    let over = over_due s.ending d rest s.due p.over due_so in
    let M : List Due → Type 0 = λ ds. MarksFit s.front ds s.tunnels in
    let fits = subst M due_so p.fits in
    let E : Option End → Type 0 = λ x. IsOver x rest in
    record {
      s = record s { front = spending s.front id size; due = rest };
      stands = spend s rest p.stands none is (can_spend s.front id size rest s.tunnels fits);
      over = subst E (sym over) tt;
      fits = spent_fits s.front id size rest s.tunnels fits;
      leads = passing_same rest rest (record s { front = spending s.front id size }) ∙ sym (ap (λ (ds : List Due). passing ds s) due_so) ∙ p.leads;
    }

fault_read : (o : Option Front) (e : Option End) (code : ℕ) (f : machine.Front) (ss : List Stream) (owed : List ℕ) → e ≡ None → IsRead o e f ss owed → IsRead o (Some (end.Protocol code)) f ss owed
fault_read None e code f ss owed none h = let k : is_given_up None ≡ true = ap is_given_up (sym none) ∙ h.0 in absurd cc
fault_read (Some front) e code f ss owed none h = (refl, h.1)

none_fits : (f : machine.Front) (ds : List Due) (ts : List machine.Tunnel) → MarksFit f ds ts → MarksFit f [] ts
none_fits (Head bytes) ds ts h = tt
none_fits OverHttp1 ds ts h = tt
none_fits (OverHttp2 s) ds ts h = nothing_spent s ds ts h

faults : (c : Conn) (s : machine.Conn) (code : ℕ) → c.first ≡ None → s.ending ≡ None → Stands c s → Stands (record c { due = []; ending = Some (end.Protocol code) }) (record s { due = []; ending = Some (end.Protocol code) })
faults c s code none over st =
    let p = st.past in
    let P : machine.Conn → Type 0 = λ x. Stands (record c { due = []; ending = Some (end.Protocol code) }) (record x { due = []; ending = Some (end.Protocol code) }) in
    subst P (sym st.is) (record {
      past = p;
      is = ap (λ (f : Option First). record (state c p) { due = behind f []; ending = Some (end.Protocol code) }) (sym none);
      read = fault_read c.front c.ending code p.front p.streams (drop p.given p.out) (sym (ending_is c s st) ∙ over) st.read;
      given = st.given;
      ready = ready_idle c.spare (vec_len c.tunnels) (vec_capacity c.tunnels) c.first [] none refl st.ready.spare_is;
    })

pub faults_one : (c e : Conn) (last : machine.Conn) (code : ℕ) (rest : List Due) → Passing c last → c.first ≡ None → c.due ≡ due.Fault code ∷ rest → e ≡ record c { due = []; ending = Some (end.Protocol code) } → Passing e last
faults_one c e last code rest p none is fault =
    let s = p.s in
    let d = due.Fault code in
    let due_so = mark_due_is c s d rest none is p.stands in
    let over = over_due s.ending d rest s.due p.over due_so in
    let P : Conn → Type 0 = λ x. Stands x (record s { due = []; ending = Some (end.Protocol code) }) in
    record {
      s = record s { due = []; ending = Some (end.Protocol code) };
      stands = subst P (sym fault) (faults c s code none over p.stands);
      over = refl;
      fits = none_fits s.front s.due s.tunnels p.fits;
      leads = sym (ap (λ (ds : List Due). passing ds s) due_so) ∙ p.leads;
    }

-- all of a DATA frame is done
pub spent_front : (c : Conn) (s : machine.Conn) (f g : Front) (id size : ℕ) (rest : List Due) → c.first ≡ None → c.due ≡ due.Spend id size ∷ rest → c.front ≡ Some f → IsFront g (spending s.front id size) s.streams (owed s) → Stands c s
    → Stands (record c { front = Some g; due = rest }) (record s { front = spending s.front id size; due = rest })
spent_front c s f g id size rest none is front_is has st =
    let all : behind c.first c.due ≡ due.Spend id size ∷ rest = ap (λ (x : Option First). behind x c.due) none ∙ is in
    let mid = fronted c s (due.Spend id size) rest all st in
    let p = st.past in
    let P : machine.Conn → Type 0 = λ x. IsFront g (spending x.front id size) x.streams (owed x) → Stands (record c { front = Some g; due = rest }) (record x { front = spending x.front id size; due = rest }) in
    subst P (sym st.is) (λ has. record {
      past = record p { front = spending p.front id size };
      is = ap (λ (x : Option First). record (state c p) { front = spending p.front id size; due = behind x rest }) (sym none);
      read = (goes_on c s f front_is st, has);
      given = st.given;
      ready = (let Q : Option First → Type 0 = λ f. IsReady c.spare (vec_len c.tunnels) (vec_capacity c.tunnels) f rest in subst Q (sym none) mid.ready);
    }) has

-- of a connection that was given up, too
spent_nothing : (f : machine.Front) (id size : ℕ) → PutsNothing f → PutsNothing (spending f id size)
spent_nothing (Head bytes) id size h = tt
spent_nothing OverHttp1 id size h = tt
spent_nothing (OverHttp2 s) id size h = h

pub spent_given : (c : Conn) (s : machine.Conn) (id size : ℕ) (rest : List Due) → c.first ≡ None → c.due ≡ due.Spend id size ∷ rest → c.front ≡ None → Stands c s
    → Stands (record c { due = rest }) (record s { front = spending s.front id size; due = rest })
spent_given c s id size rest none is front_is st =
    let all : behind c.first c.due ≡ due.Spend id size ∷ rest = ap (λ (x : Option First). behind x c.due) none ∙ is in
    let mid = fronted c s (due.Spend id size) rest all st in
    let p = st.past in
    let P : machine.Conn → Type 0 = λ x. Stands (record c { due = rest }) (record x { front = spending x.front id size; due = rest }) in
    let R : Option Front → Type 0 = λ o. IsRead o c.ending p.front p.streams (drop p.given p.out) in
    let W : Option Front → Type 0 = λ o. IsRead o c.ending (spending p.front id size) p.streams (drop p.given p.out) in
    let r = subst R front_is st.read in
    subst P (sym st.is) (record {
      past = record p { front = spending p.front id size };
      is = ap (λ (x : Option First). record (state c p) { front = spending p.front id size; due = behind x rest }) (sym none);
      read = subst W (sym front_is) (r.0, spent_nothing p.front id size r.1, r.2, r.3);
      given = st.given;
      ready = (let Q : Option First → Type 0 = λ f. IsReady c.spare (vec_len c.tunnels) (vec_capacity c.tunnels) f rest in subst Q (sym none) mid.ready);
    })

pub popped_rest : (r : Option Due) (old new : List Due) (d : Due) (rest : List Due) → MatchOption r ((old ≡ []) × (new ≡ [])) (λ x. old ≡ x ∷ new) → old ≡ d ∷ rest → new ≡ rest
popped_rest None old new d rest h is = let e : [] ≡ d ∷ rest = sym h.0 ∙ is in absurd cc
popped_rest (Some x) old new d rest h is = ap (λ (ds : List Due). drop 1 ds) (sym h ∙ is)
