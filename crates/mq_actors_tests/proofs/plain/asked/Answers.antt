use Rattle.std.proofs.Common.{◌≡◌, ◌≢◌, ℕ, ◌+◌, ◌<◌, true, false, List, [], ◌∷◌, ◌++◌, length, All, slice_get, Some, None, refl, sym, ap, subst, ◌∙◌, arith}
use Rattle.std.proofs.lemmas.List.Elements.{All-nil, All-weaker}
use Rattle.mq_talk.specs.Mails.{Boxes}
use Rattle.mq_talk.specs.Offices.{Seen}
use Rattle.mq_machine.specs.declared.setup.Setup.{Setup}
use Rattle.mq_machine.specs.State.{Told, Worker, new_worker}
use Rattle.mq_mem.specs.Ports.{Ports as PortsOf}
use Rattle.mq_actor.specs.Ended.{numbers_in}
use Rattle.mq_actor.specs.Holds.{IsWorker}
use Rattle.mq_plain.specs.Served.{words, Plain, IsOf, Serves}
use Rattle.mq_plain.proofs.Begun.{begins, numbers}
use Rattle.mq_actors_tests.proofs.plain.asked.Goals as goal

-- a link of the only worker
abbrev own_link : Told
own_link = record { worker = 0; is_ended = false }

-- what is so behind a request on the next link
abbrev Asks : ℕ → Plain → Plain → Type 0
Asks number a b = (links : List Told) (seen : Seen) (boxes : Boxes) (w : Worker) → number ≡ length links → Serves links seen boxes 0 a w
    → (t : Worker) × Serves (links ++ own_link ∷ []) seen boxes 0 b t

first_asked : (a b : Plain) (setup : Setup) → IsWorker words.most a.table.table a.ring (new_worker 0 setup) → a.table.ports.bind_fails ≡ false → setup.pump ≡ 1 → Asks 0 a b
    → (seen : Seen) (boxes : Boxes) → seen.config.workers ≡ 1 → seen.entries ≡ [] → length boxes ≡ 2 → (w : Worker) × Serves (own_link ∷ []) seen boxes 0 b w
first_asked a b setup stands ready pump asks seen boxes one empty two =
    let few : 0 < seen.config.workers = omega (arith, one) in
    let size : length boxes ≡ seen.config.workers + 1 = two ∙ ap (λ (n : ℕ). n + 1) (sym one) in
    asks [] seen boxes (new_worker 0 setup) refl (begins a 0 setup stands seen boxes few (pump ∙ sym one) empty size ready)

-- what an office of one worker has seen that heard no call yet, and empty inboxes
abbrev seen_none : Seen
seen_none = record { actor = 0; config = record { pool = []; reach = []; routes = []; history = 8; workers = 1 }; entries = []; is_whole = true }

abbrev no_parcels : Boxes
no_parcels = [] ∷ [] ∷ []

-- the number of the only link isn't that of the next
isnt_next : (n : ℕ) → IsOf (own_link ∷ []) 0 n → n ≢ 1
isnt_next n of e =
    let none : None ≡ Some of.said = subst (λ (k : ℕ). slice_get (own_link ∷ []) k ≡ Some of.said) e of.at in
    cc

pub ask-requires : goal.ask-requires
ask-requires c =
    let none = numbers c.in_ok-worker.worker 0 c.in_ok-setup.field-0 c.in_ok-worker.ensures.stands in
    subst (λ (ns : List ℕ). All (λ other. other ≢ 0) ns) (sym none) (All-nil (λ other. other ≢ 0))

pub ask-requires-2 : goal.ask-requires-2
ask-requires-2 c =
    let ready = ap (λ (p : PortsOf). p.bind_fails) (c.in_ok-worker.ensures.empty.3 ∙ c.in_ok-new.ensures) in
    let first = first_asked c.in_ok-worker.worker c.ask.new.worker c.in_ok-setup.field-0 c.in_ok-worker.ensures.stands ready c.in_ok-setup.ensures c.in_ok-ask.ensures seen_none no_parcels refl refl refl in
    All-weaker (IsOf (own_link ∷ []) 0) (λ n. n ≢ 1) isnt_next (numbers_in c.ask.new.worker.ring) first.1.own

pub returns : goal.returns
returns c = λ seen boxes one empty two.
    let ready = ap (λ (p : PortsOf). p.bind_fails) (c.in_ok-worker.ensures.empty.3 ∙ c.in_ok-new.ensures) in
    let first = first_asked c.in_ok-worker.worker c.ask.new.worker c.in_ok-setup.field-0 c.in_ok-worker.ensures.stands ready c.in_ok-setup.ensures c.in_ok-ask.ensures seen boxes one empty two in
    let second = c.in_ok-ask-2.ensures (own_link ∷ []) seen boxes first.0 refl first.1 in
    (_, second.0, second.1)
