-- A world before anything happened stands for the first state of its plan.
use Rattle.std.proofs.Common.{◌≡◌, ℕ, zero, suc, ◌+◌, ◌<◌, Bool, false, List, [], ◌∷◌, ◌++◌, length, map, None, refl, sym, ap, subst, ◌∙◌, arith}
use Rattle.std.specs.Prelude.{replicate}
use Rattle.std.proofs.lemmas.List.{length-append}
use Rattle.std.proofs.lemmas.List.Elements.{All-nil}
use Rattle.mq_talk.specs.declared.book.Config.{Config}
use Rattle.mq_talk.specs.Config.{IsConfig}
use Rattle.mq_talk.specs.Mails.{Boxes}
use Rattle.mq_talk.specs.Offices.{Seen}
use Rattle.mq_machine.specs.declared.setup.Setup.{Setup}
use Rattle.mq_machine.specs.State.{Told, Worker, new_worker, new_net, Shared}
use Rattle.mq_mem.specs.Mails.{Mail as MailOf, empty_boxes}
use Rattle.mq_mem.specs.Offices.{Office as OfficeOf, seen_of}
use Rattle.mq_mem.proofs.Boxes.{length_empty}
use Rattle.mq_net.specs.Sims.{Sim, holds_of, new_sim}
use Rattle.mq_pump.specs.Holds.{IsPump}
use Rattle.mq_play.specs.declared.plan.Plan.{Plan}
use Rattle.mq_play.specs.Events.{new_workers, state_of}
use Rattle.mq_play.specs.Settings.{IsPlan}
use Rattle.mq_plain.specs.Served.{Plain, Serves}
use Rattle.mq_world.specs.declared.told.Told.{Told as ToldBy}
use Rattle.mq_world.specs.declared.workers.Workers.{Workers}
use Rattle.mq_plain.specs.Taking.{shared_of}
use Rattle.mq_world.specs.Worlds.{told_of, AreUntouched, AreServed, DoRest, IsWorld}
use Rattle.mq_world.proofs.Resting.{none_said}

-- ---- the inboxes

pub none_waits : (count : ℕ) → empty_boxes count ≡ replicate count []
none_waits zero = refl
none_waits (suc count) = ap (λ (boxes : Boxes). [] ∷ boxes) (none_waits count)

-- ---- one more

served_push : (links : List Told) (seen : Seen) (boxes : Boxes) (from : ℕ) (actors : List Plain) (ws : List Worker) (a : Plain) (w : Worker) → AreServed links seen boxes from actors ws
    → Serves links seen boxes (from + length actors) a w → AreServed links seen boxes from (actors ++ a ∷ []) (ws ++ w ∷ [])
served_push links seen boxes from [] [] a w are x = let same : from + 0 ≡ from = omega arith in (subst (λ (n : ℕ). Serves links seen boxes n a w) same x, tt)
served_push links seen boxes from [] (v ∷ ws) a w are x = absurd are
served_push links seen boxes from (b ∷ actors) [] a w are x = absurd are
served_push links seen boxes from (b ∷ actors) (v ∷ ws) a w are x =
    let same : from + suc (length actors) ≡ suc from + length actors = omega arith in
    (are.0, served_push links seen boxes (suc from) actors ws a w are.1 (subst (λ (n : ℕ). Serves links seen boxes n a w) same x))

pub one_more : (seen : Seen) (boxes : Boxes) (setup : Setup) (actors after : List Plain) (count : ℕ) (a : Plain) → AreUntouched seen boxes setup actors count → Serves [] seen boxes count a (new_worker count setup)
    → after ≡ actors ++ a ∷ [] → AreUntouched seen boxes setup after (count + 1)
one_more seen boxes setup actors after count a are x is =
    let at : 0 + length actors ≡ count = omega (arith, are.size) in
    let more = served_push [] seen boxes 0 actors (new_workers setup count) a (new_worker count setup) are.served (subst (λ (n : ℕ). Serves [] seen boxes n a (new_worker count setup)) (sym at) x) in
    let next : suc count ≡ count + 1 = omega arith in
    record {
      size = ap (λ (xs : List Plain). length xs) is ∙ length-append actors (a ∷ []) ∙ ap (λ (n : ℕ). n + 1) are.size;
      served = subst (λ (xs : List Plain). AreServed [] seen boxes 0 xs (new_workers setup (count + 1))) (sym is) (subst (λ (n : ℕ). AreServed [] seen boxes 0 (actors ++ a ∷ []) (new_workers setup n)) next more);
    }

-- ---- all of them

-- the book of a plan, in which nothing is written
abbrev pub unwritten : Config → OfficeOf
unwritten config = record { book = record { config = config; history = [] }; actor = 0 }

abbrev pub unsent : ℕ → MailOf
unsent workers = record { boxes = empty_boxes (workers + 1); actor = 0 }

abbrev sharing : OfficeOf → MailOf → Bool → Shared
sharing office mail fails = shared_of (record { office = office; mail = mail; bind_fails = fails })

pub stands_new : (plan : Plan) (world : Workers) (count : ℕ) → IsPlan plan → world.links.items ≡ [] → world.office ≡ unwritten plan.book → world.mail ≡ unsent plan.workers → world.bind_fails ≡ false → world.rests.items ≡ replicate plan.workers false → count ≡ plan.workers
    → world.pump.net ≡ new_sim plan.hosts → world.pump.workers ≡ plan.workers → IsPump world.pump (record { mtu = plan.setup.mtu; to_push = None; to_send = None; net = new_net [] })
    → AreUntouched (seen_of (unwritten plan.book)) (unsent plan.workers).boxes plan.setup world.workers.items count → IsWorld world (state_of plan)
stands_new plan world count is_plan links office mail fails rests end net beside new_pump are =
    let workers : world.office.book.config.workers ≡ plan.workers = ap (λ (o : OfficeOf). o.book.config.workers) office ∙ is_plan.book.workers_are in
    let served : AreServed [] (seen_of (unwritten plan.book)) (unsent plan.workers).boxes 0 world.workers.items (new_workers plan.setup plan.workers) =
    subst (λ (n : ℕ). AreServed [] (seen_of (unwritten plan.book)) (unsent plan.workers).boxes 0 world.workers.items (new_workers plan.setup n)) end are.served in
    let pump_is : IsPump world.pump (state_of plan).pump =
    record { mtu = new_pump.mtu; to_push = new_pump.to_push; to_send = new_pump.to_send; received = new_pump.received; room = new_pump.room; can_go = new_pump.can_go; can_send = new_pump.can_send } in
    record {
      links = sym (ap (λ (ts : List ToldBy). map told_of ts) links);
      workers = subst (λ (m : MailOf). AreServed [] (seen_of world.office) m.boxes 0 world.workers.items (new_workers plan.setup plan.workers)) (sym mail)
          (subst (λ (o : OfficeOf). AreServed [] (seen_of o) (unsent plan.workers).boxes 0 world.workers.items (new_workers plan.setup plan.workers)) (sym office) served);
      shared = ap (λ (boxes : Boxes). sharing (unwritten plan.book) (record { boxes = boxes; actor = 0 }) false) (sym (none_waits (plan.workers + 1)))
          ∙ sym (ap (λ (o : OfficeOf). sharing o world.mail world.bind_fails) office ∙ ap (λ (m : MailOf). sharing (unwritten plan.book) m world.bind_fails) mail
          ∙ ap (λ (b : Bool). sharing (unwritten plan.book) (unsent plan.workers) b) fails);
      count = are.size ∙ end ∙ sym workers;
      few = let size = are.size in let most = is_plan.few in omega (arith, size, end, most);
      boxes = ap (λ (m : MailOf). length m.boxes) mail ∙ length_empty (plan.workers + 1) ∙ ap (λ (n : ℕ). n + 1) (sym workers);
      config = subst IsConfig (sym (ap (λ (o : OfficeOf). o.book.config) office)) is_plan.book.config;
      pump = record { stands = pump_is; net = sym (ap (λ (n : Sim). holds_of n) net); workers_are = beside ∙ sym workers };
      offered = All-nil (λ (t : Told). t.worker < length world.workers.items);
      rests = subst (λ (said : List Bool). DoRest said world.workers.items) (sym (rests ∙ ap (λ (n : ℕ). replicate n false) (sym (are.size ∙ end)))) (none_said world.workers.items);
    }
