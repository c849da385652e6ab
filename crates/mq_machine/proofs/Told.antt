-- Where all is told, no other contents fit than the state's, so that a step is the machine's.
use Rattle.std.proofs.Common.{◌≡◌, ℕ, true, List, [], ◌∷◌, ◌++◌, map, All, Option, Some, None, Result, Ok, Err, refl, sym, ap, subst, ◌∙◌, slice_get, append-nil}
use Rattle.std.proofs.lemmas.List.Elements.{All-head, All-tail}
use Rattle.mq_machine.specs.declared.setup.Setup.{Setup}
use Rattle.mq_wire.specs.declared.NoMemory.{NoMemory}
use Rattle.mq_talk.specs.declared.book.Config.{Config}
use Rattle.mq_talk.specs.declared.book.Entry.{Entry}
use Rattle.mq_talk.specs.declared.note.Note.{Note}
use Rattle.mq_talk.specs.declared.place.Parcel.{Parcel}
use Rattle.mq_outside.specs.Ports.{PortHolds}
use Rattle.mq_machine.specs.State.{Conn, Link, new_link, Port, Offer, Held, Worker, Orders, Shared}
use Rattle.mq_machine.specs.Acting.{Outside, Sight, PortsTold, ConnsTold, OffersTold, PortsTell, ConnsTell, OffersTell, TellsAll, HasTold, TellsSame, holds_of, holding, bare_port, bare_held, Refills, WasInbox, Meets, Leaves, shared_of, StepGives, PlainGives}
use Rattle.mq_talk.specs.Mails.{IsTold, Inboxes}
use Rattle.mq_machine.specs.Silent.{WorkerStarves}
use Rattle.mq_machine.specs.Turn.{WorkerTurn, turn_of}

-- what is told is what is there
told_same : {A : Type 0} (o : Option A) (a b : A) → o ≡ Some b → IsTold o a → a ≡ b
told_same {A} o a b is told = let P : Option A → Type 0 = λ p. IsTold p a in subst P is told

head_same : {A : Type 0} {x y : A} {xs ys : List A} → x ∷ xs ≡ y ∷ ys → (x ≡ y) × (xs ≡ ys)
head_same {A} {x} {y} {xs} {ys} h =
    let first : x ≡ y = cc in
    let rest : xs ≡ ys = cc in
    (first, rest)

-- a port is what it holds, and the rest
same_port : (p q : Port) → bare_port p ≡ bare_port q → holds_of p ≡ holds_of q → p ≡ q
same_port p q rest holds = ap (λ (b : Port). holding (holds_of p) b) rest ∙ ap (λ (h : PortHolds). holding h (bare_port q)) holds

same_ports : (o : Outside) (ps qs : List Port) → map bare_port ps ≡ map bare_port qs → PortsTold o ps → PortsTell o qs → ps ≡ qs
same_ports o [] [] h x y = refl
same_ports o [] (q ∷ qs) h x y = absurd cc
same_ports o (p ∷ ps) [] h x y = absurd cc
same_ports o (p ∷ ps) (q ∷ qs) h x y =
    let both = head_same h in
    let P : ℕ → Type 0 = λ n. IsTold (o.port n) (holds_of p) in
    let holds = told_same (o.port q.tunnel) (holds_of p) (holds_of q) y.0 (subst P (ap (λ (p : Port). p.tunnel) both.0) x.0) in
    let first = same_port p q both.0 holds in
    let rest = same_ports o ps qs both.1 x.1 y.1 in
    cc

same_conns : (o : Outside) (hs gs : List Held) → map bare_held hs ≡ map bare_held gs → ConnsTold o hs → ConnsTell o gs → hs ≡ gs
same_conns o [] [] h x y = refl
same_conns o [] (g ∷ gs) h x y = absurd cc
same_conns o (k ∷ ks) [] h x y = absurd cc
same_conns o (k ∷ ks) (g ∷ gs) h x y =
    let both = head_same h in
    let conn = ap (λ (h : Held). h.conn) both.0 in
    let P : ℕ → Type 0 = λ n. IsTold (o.link n) k.link in
    let link = told_same (o.link g.conn.number) k.link g.link y.0 (subst P (ap (λ (c : Conn). c.number) conn) x.0) in
    let ports = same_ports o k.ports g.ports (ap (λ (h : Held). h.ports) both.0) x.1 y.1 in
    let first : k ≡ g = ap (λ (c : Conn). record k { conn = c }) conn ∙ ap (λ (l : Link). record k { conn = g.conn; link = l }) link ∙ ap (λ (ps : List Port). record g { ports = ps }) ports in
    let rest = same_conns o ks gs both.1 x.2 y.2 in
    cc

same_offers : (o : Outside) (hs gs : List Offer) → map (λ (f : Offer). f.number) hs ≡ map (λ (f : Offer). f.number) gs → OffersTold o hs → OffersTell o gs → hs ≡ gs
same_offers o [] [] h x y = refl
same_offers o [] (g ∷ gs) h x y = absurd cc
same_offers o (k ∷ ks) [] h x y = absurd cc
same_offers o (k ∷ ks) (g ∷ gs) h x y =
    let both = head_same h in
    let P : ℕ → Type 0 = λ n. IsTold (o.link n) k.link in
    let link = told_same (o.link g.number) k.link g.link y.0 (subst P both.0 x.0) in
    let first : k ≡ g = ap (λ (n : ℕ). record k { number = n }) both.0 ∙ ap (λ (l : Link). record g { link = l }) link in
    let rest = same_offers o ks gs both.1 x.1 y.1 in
    cc

offer_numbers : (fs gs : List Offer) → map (λ (o : Offer). record o { link = new_link }) fs ≡ map (λ (o : Offer). record o { link = new_link }) gs → map (λ (f : Offer). f.number) fs ≡ map (λ (f : Offer). f.number) gs
offer_numbers [] [] h = refl
offer_numbers [] (g ∷ gs) h = absurd cc
offer_numbers (k ∷ ks) [] h = absurd cc
offer_numbers (k ∷ ks) (g ∷ gs) h =
    let both = head_same h in
    let number = ap (λ (f : Offer). f.number) both.0 in
    let rest = offer_numbers ks gs both.1 in
    cc

pub same_worker : (o : Outside) (s t : Worker) → TellsAll o s → Refills o s t → t ≡ s
same_worker o s t tells r =
    let conns = same_conns o t.conns s.conns (ap (λ (w : Worker). w.conns) r.same) r.told.0 tells.0 in
    let offered = same_offers o t.offered s.offered (offer_numbers t.offered s.offered (ap (λ (w : Worker). w.offered) r.same)) r.told.1 tells.1 in
    let make : ℕ → Setup → List Offer → List Held → ℕ → Worker = λ id setup offered conns next. record { id = id; setup = setup; offered = offered; conns = conns; next_seat = next } in
    ap (λ (w : Worker). make w.id w.setup t.offered t.conns w.next_seat) r.same
    ∙ ap (λ (os : List Offer). make s.id s.setup os t.conns s.next_seat) offered
    ∙ ap (λ (hs : List Held). make s.id s.setup s.offered hs s.next_seat) conns

no_more : (more entries : List Entry) → more ≡ [] → entries ++ more ≡ entries
no_more more entries h = ap (λ (m : List Entry). entries ++ m) h ∙ append-nil entries

-- the book is what was seen, and what is shared is told
shares : (orders : Orders) (old new : Sight) (boxes : List (List Parcel)) (sh after : Shared) → old.seen.is_whole ≡ true → old.boxes.told ≡ Some boxes
    → Meets orders old new sh after → sh ≡ shared_of old.seen boxes orders
shares orders old new boxes sh after whole mail x =
    let book = x.book.goes_on ∙ no_more x.book.more old.seen.entries (x.book.whole whole) in
    let boxes_are = told_same old.boxes.told sh.boxes boxes mail x.boxes in
    ap (λ (c : Config). record sh { config = c }) x.config
    ∙ ap (λ (b : List Entry). record sh { config = old.seen.config; book = b }) book
    ∙ ap (λ (b : List (List Parcel)). record sh { config = old.seen.config; book = old.seen.entries; boxes = b }) boxes_are
    ∙ ap (λ (o : Orders). shared_of old.seen boxes o) x.orders_are

leaves : (orders : Orders) (old new : Sight) (sh after : Shared) → Meets orders old new sh after → Leaves old new after
leaves orders old new sh after x = record { same = x.same; wrote = x.wrote; boxes = x.boxes_after }

-- the inbox of this number, where the mail tells
box_was : (boxes : List (List Parcel)) (o : Option (List (List Parcel))) (id : ℕ) (box : List Parcel) → o ≡ Some boxes → WasInbox o id box → slice_get boxes id ≡ Some box
box_was boxes o id box mail was = let P : Option (List (List Parcel)) → Type 0 = λ o. WasInbox o id box in subst P mail was

-- ---- what is told stays told

ports_tell : (o n : Outside) (ports : List Port) → PortsTell o ports → All (λ (p : Port). n.port p.tunnel ≡ o.port p.tunnel) ports → PortsTell n ports
ports_tell o n [] tell same = tt
ports_tell o n (p ∷ ports) tell same =
    let S : Port → Type 0 = λ p. n.port p.tunnel ≡ o.port p.tunnel in
    (All-head S p ports same ∙ tell.0, ports_tell o n ports tell.1 (All-tail S p ports same))

conns_tell : (o n : Outside) (hs : List Held) → ConnsTell o hs → All (λ (h : Held). n.link h.conn.number ≡ o.link h.conn.number) hs
    → All (λ (h : Held). All (λ (p : Port). n.port p.tunnel ≡ o.port p.tunnel) h.ports) hs → ConnsTell n hs
conns_tell o n [] tell links ports = tt
conns_tell o n (h ∷ hs) tell links ports =
    let S : Held → Type 0 = λ h. n.link h.conn.number ≡ o.link h.conn.number in
    let P : Held → Type 0 = λ h. All (λ (p : Port). n.port p.tunnel ≡ o.port p.tunnel) h.ports in (
      All-head S h hs links ∙ tell.0,
      ports_tell o n h.ports tell.1 (All-head P h hs ports),
      conns_tell o n hs tell.2 (All-tail S h hs links) (All-tail P h hs ports),
    )

offers_tell : (o n : Outside) (fs : List Offer) → OffersTell o fs → All (λ (f : Offer). n.link f.number ≡ o.link f.number) fs → OffersTell n fs
offers_tell o n [] tell links = tt
offers_tell o n (f ∷ fs) tell links =
    let S : Offer → Type 0 = λ f. n.link f.number ≡ o.link f.number in
    (All-head S f fs links ∙ tell.0, offers_tell o n fs tell.1 (All-tail S f fs links))

still_tells : (o n : Outside) (s : Worker) → TellsAll o s → TellsSame o n s → TellsAll n s
still_tells o n s tells same = (conns_tell o n s.conns tells.0 same.links same.ports, offers_tell o n s.offered tells.1 same.offers)

-- ---- the step

pub told : (orders : Orders) (old new : Sight) (boxes : List (List Parcel)) (s t : Worker) (result : Result (Option Note) NoMemory)
    → TellsAll old.outside s → HasTold new.outside t → old.seen.is_whole ≡ true → old.boxes.told ≡ Some boxes
    → StepGives orders old new s result t → PlainGives orders old new boxes s result t
told orders old new boxes s t (Ok (Some note)) tells has whole mail x =
    let now = same_worker old.outside s x.now tells x.refills in
    let sh = shares orders old new boxes x.sh x.after whole mail x.meets in
    let Q : Worker → Type 0 = λ w. WorkerTurn w x.box x.sh x.answer note x.became x.after in
    let R : Shared → Type 0 = λ sh. WorkerTurn s x.box sh x.answer note x.became x.after in
    record {
      box = x.box;
      answer = x.answer;
      after = x.after;
      became = x.became;
      was = box_was boxes old.boxes.told s.id x.box mail x.was;
      turn = subst R sh (subst Q now (record { seat = x.seat; turn = x.turn; next = x.next }));
      leaves = leaves orders old new x.sh x.after x.meets;
      binds = x.binds;
      is = x.is;
    }
told orders old new boxes s t (Ok None) tells has whole mail x =
    let now = same_worker old.outside s x.now tells x.refills in
    let told = ap (λ (m : Inboxes). m.told) x.boxes ∙ mail in
    let T : Option (List (List Parcel)) → Type 0 = λ b. IsTold b boxes in
    record {
      box = x.box;
      was = box_was boxes old.boxes.told s.id x.box mail x.was;
      none = sym (ap (λ (w : Worker). turn_of w x.box) now) ∙ x.none;
      seen = x.seen;
      boxes_after = subst T (sym told) refl;
      binds = x.binds;
      same = same_worker new.outside s t (still_tells old.outside new.outside s tells x.outside) (record { same = x.same; told = has });
    }
told orders old new boxes s t (Err fault) tells has whole mail x =
    let now = same_worker old.outside s x.now tells x.refills in
    let sh = shares orders old new boxes x.sh x.after whole mail x.meets in
    let Q : Worker → Type 0 = λ w. WorkerStarves w x.box x.sh x.reached x.answer t x.after in
    let R : Shared → Type 0 = λ sh. WorkerStarves s x.box sh x.reached x.answer t x.after in
    record {
      box = x.box;
      answer = x.answer;
      after = x.after;
      reached = x.reached;
      was = box_was boxes old.boxes.told s.id x.box mail x.was;
      starves = subst R sh (subst Q now x.starves);
      leaves = leaves orders old new x.sh x.after x.meets;
      binds = x.binds;
    }
