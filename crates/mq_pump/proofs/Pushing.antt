-- A step that pushes what the pump holds for that.
use Rattle.std.proofs.Common.{◌≡◌, ℕ, ◌+◌, ◌<◌, ◌||◌, Bool, true, false, [], length, Option, Some, None, Ok, refl, sym, ap, ◌∙◌, subst, arith}
use Rattle.std.specs.Option.{unwrap_or, option_map}
use Rattle.std.proofs.lemmas.List.{length-set}
use Rattle.mq_outside.specs.Nets.{NetHolds, net_of}
use Rattle.mq_talk.specs.declared.note.Note.{Note}
use Rattle.mq_talk.specs.declared.note.Note.TheVariants.{PushedNote, Dropped}
use Rattle.mq_talk.specs.declared.place.Cause.TheVariants.{InboxFull}
use Rattle.mq_talk.specs.declared.place.Parcel.{Parcel}
use Rattle.mq_talk.specs.Mails.{Boxes, IsTold, box_at, has_room, inbox_in, with_parcel}
use Rattle.mq_machine.specs.State as machine
use Rattle.mq_machine.specs.State.{Shared}
use Rattle.mq_machine.specs.Shared.{inbox_of}
use Rattle.mq_machine.specs.Turn.{PushHeld, source_of, parcel_pushed}
use Rattle.mq_machine.specs.Acting.{PumpSight, PumpSteps, Rose}
use Rattle.mq_pump.specs.declared.pump.Pump.{Pump}
use Rattle.mq_pump.specs.Holds.{IsPump}
use Rattle.mq_pump.specs.Pushes.{Pushes, PushSays}
use Rattle.mq_pump.proofs.Shared.{told_or, inbox_is, was_box, sharing, meets_by, known_by, same_office, sees_new}
use Rattle.mq_pump.proofs.Turns.{with_holds, refills, tries_push}

-- a step with this note, behind which the inboxes are these
abbrev done : machine.Pump → Shared → Note → Boxes → Note × machine.Pump × Shared
done s sh said boxes = (said, record s { to_push = None }, record sh { boxes = boxes })

-- what a push does to the machine's pump
push_does : (s : machine.Pump) (sh : Shared) (to : ℕ) (parcel : Parcel) (room : Bool) (said : Note) (after : Boxes) → inbox_of sh.boxes parcel.to ≡ to → PushSays room sh.boxes to parcel said after
    → parcel_pushed s sh parcel room ≡ done s sh said after
push_does s sh to parcel true said after at says =
    let boxes : with_parcel sh.boxes (inbox_of sh.boxes parcel.to) parcel ≡ after = ap (λ (i : ℕ). with_parcel sh.boxes i parcel) at ∙ sym says.1 in
    ap (λ (b : Boxes). done s sh (PushedNote (source_of parcel.from) parcel.n parcel.to) b) boxes ∙ ap (λ (n : Note). done s sh n after) (sym says.0)
push_does s sh to parcel false said after at says =
    ap (λ (b : Boxes). done s sh (Dropped (source_of parcel.from) parcel.n InboxFull) b) (sym says.1) ∙ ap (λ (n : Note). done s sh n after) (sym says.0)

push_length : (room : Bool) (before : Boxes) (to : ℕ) (parcel : Parcel) (said : Note) (after : Boxes) → PushSays room before to parcel said after → length after ≡ length before
push_length true before to parcel said after says = ap (λ (b : Boxes). length b) says.1 ∙ length-set before to _
push_length false before to parcel said after says = ap (λ (b : Boxes). length b) says.1

-- a pump that holds nothing for pushing any more
pushed_stands : {N : Type 0} (p : Pump N) (s : machine.Pump) (holds : NetHolds) → IsPump p s → IsPump (record p { to_push = None }) (record (with_holds s holds) { to_push = None })
pushed_stands p s holds is = record {
  mtu = is.mtu;
  to_push = refl;
  to_send = is.to_send;
  received = is.received;
  room = is.room;
  can_go = tt;
  can_send = is.can_send;
}

pub pushed : {N : Type 0} (p q : Pump N) (parcel : Parcel) (said : Note) (old new : PumpSight) → p.to_push ≡ Some parcel → q ≡ record p { to_push = None } → old.seen.config.workers ≡ p.workers
    → Pushes (p.workers + 1) old.boxes (inbox_in p.workers parcel.to) parcel said new.boxes → new.net ≡ old.net → new.seen ≡ old.seen
    → PumpSteps (IsPump p) (IsPump q) old new (Ok (Some said))
pushed {N} p q parcel said old new has q_is workers x net seen orders o s is known =
    let made = net_of [] in
    let holds = unwrap_or old.net made in
    let now = with_holds s holds in
    let same = same_office old.seen new.seen seen in
    let long : length x.before ≡ old.seen.config.workers + 1 = omega (arith, x.size, workers) in
    let there : old.seen.config.workers < length x.before = omega (arith, long) in
    let at : inbox_of x.before parcel.to ≡ inbox_in p.workers parcel.to = inbox_is x.before parcel.to p.workers x.size in
    let sh = sharing old.seen new.seen.entries x.before orders in
    let room = has_room x.before (inbox_of x.before parcel.to) in
    let says : PushSays room x.before (inbox_in p.workers parcel.to) parcel said x.after =
    subst (λ (i : ℕ). PushSays (has_room x.before i) x.before (inbox_in p.workers parcel.to) parcel said x.after) (sym at) x.says in
    let still : length x.after ≡ old.seen.config.workers + 1 = push_length room x.before (inbox_in p.workers parcel.to) parcel said x.after says ∙ long in
    let held : s.to_push ≡ Some parcel = is.to_push ∙ has in (
      record now { to_push = None },
      subst (λ (r : Pump N). IsPump r (record now { to_push = None })) (sym q_is) (pushed_stands p s holds is),
      subst (λ (h : Option NetHolds). IsTold h holds) (sym net) (told_or old.net made),
      known_by old new x.after same x.is still,
      record {
        now = now;
        box = box_at x.before old.seen.config.workers;
        sh = sh;
        after = record sh { boxes = x.after };
        refills = refills old.net made s;
        was = was_box old.boxes.told x.before old.seen.config.workers x.was there;
        meets = meets_by orders o old new x.before x.after same (sees_new old.seen new.seen seen) x.was long x.is x.moves;
        fails = λ some none. never_fails old.net none some;
        turn = record {
          try = PushHeld;
          tries = tries_push now (box_at x.before old.seen.config.workers) parcel held;
          is =
              ap (λ (h : Option Parcel). option_map (λ (parcel : Parcel). parcel_pushed now sh parcel (has_room sh.boxes (inbox_of sh.boxes parcel.to))) h) held
              ∙ ap (λ (d : Note × machine.Pump × Shared). Some d) (push_does now sh (inbox_in p.workers parcel.to) parcel room said x.after at says);
        };
      },
    )
  where
    -- a network that was made up without failures doesn't fail
    never_fails : (told : Option NetHolds) → told ≡ None → (unwrap_or told (net_of [])).send_fails || (unwrap_or told (net_of [])).receive_fails ≡ true → Rose old.counts.faults new.counts.faults
    never_fails None none some = absurd cc
    never_fails (Some holds) none some = absurd cc
