-- The link failed: in the same step the connection does what it wants then, the close of its tunnel or its end.
use Rattle.std.proofs.Common.{◌≡◌, ◌⊎◌, inl, inr, ℕ, true, false, List, Option, Some, None, Result, Ok, Err, refl, sym, ap, subst, ◌∙◌}
use Rattle.std.specs.Prelude.{◌||◌, option_map}
use Rattle.mq_wire.specs.declared.NoMemory.{NoMemory}
use Rattle.mq_talk.specs.declared.book.Call.TheVariants as call
use Rattle.mq_talk.specs.declared.book.Reply.{Reply}
use Rattle.mq_talk.specs.declared.book.Reply.TheVariants as reply
use Rattle.mq_talk.specs.declared.note.Note.{Note}
use Rattle.mq_talk.specs.declared.note.End.TheVariants as end
use Rattle.mq_talk.specs.Mails.{IsTold, Inboxes}
use Rattle.mq_talk.specs.Offices.{Seen}
use Rattle.mq_machine.specs.declared.setup.Setup.{Setup}
use Rattle.mq_machine.specs.State.{Conn, Link, Held, Port, Shared}
use Rattle.mq_machine.specs.Want.{Want, Nothing, Say, Bind, Ask, Judge, Push, Send, Over, Answer, Said, Bound, Replied, Judged, Pushed, Put, want_of}
use Rattle.mq_machine.specs.Done.{Done, done}
use Rattle.mq_machine.specs.Steps.{failed}
use Rattle.mq_machine.specs.Shared.{ports_after}
use Rattle.mq_machine.specs.Turn.{Try, can_do, over_or, acted, with_conn, HeldDone, ActNext, TryNext}
use Rattle.mq_machine.specs.Acting.{Outside, Rose}
use Rattle.mq_step.specs.Notes.{SteppedWith, Quiet, Did, Ended, Noteless}
use Rattle.mq_step.specs.Sights.{Found, idle, PortsFit}
use Rattle.mq_step.specs.Whole.{filled}
use Rattle.mq_step.specs.Wanted.{ActGives, ported, is_send, with_prepared}
use Rattle.mq_step.specs.Gives.{Tries, InVain, first_of, Gives}
use Rattle.mq_step.proofs.Cores.{gives_up_wants}
use Rattle.mq_step.proofs.Linking.{on_link}
use Rattle.mq_machine.proofs.Silents.{starves_alive}

-- the connection whose link failed
abbrev pub fallen : Held → Link → Held
fallen s link = record s { conn = failed s.conn; link = link }

-- what it wants then
wanted : (s : Conn) → ((tunnel : ℕ) × (want_of (failed s) ≡ Ask (call.Close tunnel))) ⊎ (want_of (failed s) ≡ Over end.Link)
wanted s = gives_up_wants (failed s) end.Link refl refl

no_send : (s : Conn) → is_send (want_of (failed s)) ≡ false
no_send s = by_case (wanted s) where
  by_case : ((tunnel : ℕ) × (want_of (failed s) ≡ Ask (call.Close tunnel))) ⊎ (want_of (failed s) ≡ Over end.Link) → is_send (want_of (failed s)) ≡ false
  by_case (inl (tunnel, is)) = ap (λ (w : Want). is_send w) is
  by_case (inr is) = ap (λ (w : Want). is_send w) is

pub can_then : (s : Conn) (ports : List Port) → can_do ports (want_of (failed s)) ≡ true
can_then s ports = by_case (wanted s) where
  by_case : ((tunnel : ℕ) × (want_of (failed s) ≡ Ask (call.Close tunnel))) ⊎ (want_of (failed s) ≡ Over end.Link) → can_do ports (want_of (failed s)) ≡ true
  by_case (inl (tunnel, is)) = ap (λ (w : Want). can_do ports w) is
  by_case (inr is) = ap (λ (w : Want). can_do ports w) is

-- ---- what a connection wants leaves its link

-- the connection of a step
abbrev pub second : HeldDone → Option Held
second None = None
second (Some d) = d.1

same_some : (a b : Held) → Some a ≡ Some b → a ≡ b
same_some a b is = cc

done_link : (h : Held) (o : Done) (n : Note) (b : Held) → option_map (with_conn h) o ≡ Some (n, Some b) → b.link ≡ h.link
done_link h None n b is = absurd cc
done_link h (Some d) n b is = ap (λ (x : Held). x.link) (sym (same_some (record h { conn = d.1 }) b (ap second is)))

over_link : (h : Held) (w : Want) (a : Answer) (n : Note) (b : Held) → over_or h w a ≡ Some (n, Some b) → b.link ≡ h.link
over_link h Nothing a n b is = done_link (record h { ports = ports_after Nothing a h.ports }) (done h.conn a) n b is
over_link h Say a n b is = done_link (record h { ports = ports_after Say a h.ports }) (done h.conn a) n b is
over_link h (Bind stream goal) a n b is = done_link (record h { ports = ports_after (Bind stream goal) a h.ports }) (done h.conn a) n b is
over_link h (Ask asked) a n b is = done_link (record h { ports = ports_after (Ask asked) a h.ports }) (done h.conn a) n b is
over_link h (Judge tunnel k flow) a n b is = done_link (record h { ports = ports_after (Judge tunnel k flow) a h.ports }) (done h.conn a) n b is
over_link h (Push parcel) a n b is = done_link (record h { ports = ports_after (Push parcel) a h.ports }) (done h.conn a) n b is
over_link h (Send tunnel k payload) a n b is = done_link (record h { ports = ports_after (Send tunnel k payload) a h.ports }) (done h.conn a) n b is
over_link h (Over why) a n b is = let e : None ≡ Some b = ap second is in absurd cc

reply_link : (o : Outside) (r : Reply) (h : Held) → (with_prepared o (Replied r) h).link ≡ h.link
reply_link o (reply.Opened tunnel routes) h = refl
reply_link o (reply.HistoryFull entries live) h = refl
reply_link o (reply.Assigned list at) h = refl
reply_link o (reply.Accepted accepts at) h = refl
reply_link o reply.Closed h = refl

prepared_link : (o : Outside) (a : Answer) (h : Held) → (with_prepared o a h).link ≡ h.link
prepared_link o Said h = refl
prepared_link o (Bound done) h = refl
prepared_link o (Replied r) h = reply_link o r h
prepared_link o (Judged verdict at) h = refl
prepared_link o (Pushed done) h = refl
prepared_link o (Put put limit) h = refl

pub became_link : (h : Held) (a : Answer) (n : Note) (became : Option Held) (t : Held) (o : Outside) → acted h a ≡ Some (n, became) → Some t ≡ option_map (with_prepared o a) became → t.link ≡ h.link
became_link h a n None t o is then = absurd cc
became_link h a n (Some b) t o is then =
    let e = same_some t (with_prepared o a b) then in
    ap (λ (x : Held). x.link) e ∙ prepared_link o a b ∙ over_link h (want_of h.conn) a n b is

-- ---- the step

-- what the connection did then is what the try does
pub failed_gives : (setup : Setup) (tries : Tries) (vain : InVain) (try : Try) (o n : Outside) (seen seen_after : Seen) (mail mail_after : Inboxes) (stands_for : Held → Type 0) (s : Held) (found link : Link) (r : Result SteppedWith NoMemory)
    → first_of tries (filled o (on_link found) s) ≡ Some try → vain (on_link found)
    → ((sh after : Shared) (answer : Answer) (note : Note) (became : Option Held) → ActNext (ported o idle (fallen s link)) sh answer note became after → TryNext setup (filled o (on_link found) s) sh try answer note became after)
    → (o.link s.conn.number ≡ None → (filled o (on_link found) s).link.read_fails || (filled o (on_link found) s).link.write_fails ≡ true
    → Rose (o.link_counts s.conn.number).faults (n.link_counts s.conn.number).faults)
    → ((t : Held) → stands_for t → t.link ≡ link → IsTold (n.link t.conn.number) t.link)
    → ActGives o n seen seen_after mail mail_after stands_for (fallen s link) r → Gives setup tries vain o n seen seen_after mail mail_after stands_for s r
failed_gives setup tries vain try o n seen seen_after mail mail_after stands_for s found link (Ok Quiet) is vain_is next_is faults told gives =
    let e : true ≡ false = sym (can_then s.conn (ported o idle (fallen s link)).ports) ∙ gives.0.cannot idle (λ tunnel. (refl, refl)) in absurd cc
failed_gives setup tries vain try o n seen seen_after mail mail_after stands_for s found link (Ok (Did note)) is vain_is next_is faults told gives = λ orders.
    let d = gives orders in
    let x = d.1 in
    let calm = x.calm (no_send s.conn) in
    let N : Found → Type 0 = λ f. ActNext (ported o f (fallen s link)) x.sh x.answer note x.became x.after in
    let F : Found → Type 0 = λ f. PortsFit o n (ported o f (fallen s link)).ports in
    let next = subst N calm x.next in
    let same = became_link (ported o idle (fallen s link)) x.answer note x.became d.0 n next.is x.then in (
      d.0,
      record {
        found = on_link found;
        vain_is = vain_is;
        try = try;
        answer = x.answer;
        sh = x.sh;
        after = x.after;
        became = x.became;
        is = is;
        shares = x.shares;
        faults = record { link = faults; ports = subst F calm x.faults };
        binds = x.binds;
        next = next_is x.sh x.after x.answer note x.became next;
        then = x.then;
      },
      (d.2, record { link = told d.0 d.2 same; ports = d.3 }),
    )
failed_gives setup tries vain try o n seen seen_after mail mail_after stands_for s found link (Ok (Ended note)) is vain_is next_is faults told gives = λ orders.
    let x = gives orders in
    let calm = x.calm (no_send s.conn) in
    let N : Found → Type 0 = λ f. ActNext (ported o f (fallen s link)) x.sh x.answer note x.became x.after in
    let F : Found → Type 0 = λ f. PortsFit o n (ported o f (fallen s link)).ports in
    record {
      found = on_link found;
      vain_is = vain_is;
      try = try;
      answer = x.answer;
      sh = x.sh;
      after = x.after;
      became = x.became;
      is = is;
      shares = x.shares;
      faults = record { link = faults; ports = subst F calm x.faults };
      binds = x.binds;
      next = next_is x.sh x.after x.answer note x.became (subst N calm x.next);
      then = x.then;
    }
failed_gives setup tries vain try o n seen seen_after mail mail_after stands_for s found link (Ok Noteless) is vain_is next_is faults told gives = absurd gives
failed_gives setup tries vain try o n seen seen_after mail mail_after stands_for s found link (Err refused) is vain_is next_is faults told gives = λ orders.
    let e = starves_alive (fallen s link).conn (gives orders).1.takes in absurd cc
