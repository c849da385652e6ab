-- The link was written to, or failed; or a write waits.
use Rattle.std.proofs.Common.{◌≡◌, ◌≢◌, inl, inr, ℕ, Bool, true, false, ◌&&◌, List, [], ◌∷◌, length, All, nat_lt, Option, Some, None, refl, sym, ap, subst, ◌∙◌, arith}
use Rattle.std.specs.Prelude.{◌||◌}
use Rattle.std.proofs.lemmas.Bool.{lt-ltb}
use Rattle.std.proofs.lemmas.List.Elements.{All-cons, All-nil}
use Rattle.mq_outside.specs.Counts.{risen, LinkCounts}
use Rattle.mq_outside.specs.Links.{taken_of, room_left}
use Rattle.mq_talk.specs.declared.note.Note.{Note}
use Rattle.mq_talk.specs.Mails.{IsTold}
use Rattle.mq_talk.specs.Offices.{Seen}
use Rattle.mq_machine.specs.declared.setup.Setup.{Setup}
use Rattle.mq_machine.specs.State.{Conn, Link, new_link, Held, Port, Orders, Shared, owed}
use Rattle.mq_machine.specs.Want.{Said}
use Rattle.mq_machine.specs.Steps.{wrote}
use Rattle.mq_machine.specs.Turn.{Write, can_try, has_room_for, with_conn, HeldDone, WriteNext, write_done, write_count}
use Rattle.mq_machine.specs.Acting.{Outside, Rose}
use Rattle.mq_held.specs.Links.{Calls, TakesNothing, WriteWaits, WriteDoes}
use Rattle.mq_held.specs.Ready.{CanTake}
use Rattle.mq_step.specs.Sights.{Found, idle, idle_link, LinkGrows}
use Rattle.mq_step.specs.Whole.{link_if, filled}
use Rattle.mq_step.specs.Gives.{Turned, from_read, from_write}
use Rattle.mq_step.specs.Wanted.{SendsWait}
use Rattle.mq_step.proofs.Filling.{none_fails}
use Rattle.mq_step.proofs.Wanting.{Mailed, shared_by, shares_same}
use Rattle.mq_step.proofs.Counting.{rose_risen, risen_grows, same_grows, link_same, port_same}
use Rattle.mq_step.proofs.Trying.{first_true, PortBetween, Between}
use Rattle.mq_step.proofs.Framing.{whole, fits_link}

-- a link that was found, with the idle ports
abbrev pub on_link : Link → Found
on_link link = record { link = link; port = λ tunnel. idle.port tunnel }

-- ---- a write waits

pub and_false : (a b : Bool) → b ≡ false → a && b ≡ false
and_false true b is = is
and_false false b is = refl

no_room : (told : Option Link) (found : Link) → TakesNothing told → found.write_fails ≡ false → found.room ≡ Some 0
    → ((link_if told found).write_fails ≡ false) × ((link_if told found).room ≡ Some 0)
no_room None found nothing works room = (works, room)
no_room (Some link) found nothing works room = (nothing.0, nothing.1)

full : (w : Bool) (room : Option ℕ) → w ≡ false → room ≡ Some 0 → w || has_room_for room ≡ false
full false room works none = ap (λ (r : Option ℕ). has_room_for r) none
full true room works none = absurd cc

-- what is known of the link: it tells the outside this
pub record LinkSeen (o : Outside) (c : Calls) (s : Held) : Type 0 where
  pub link : o.link s.conn.number ≡ c.holds
  pub counts : o.link_counts s.conn.number ≡ c.counts

pub write_in_vain : (o : Outside) (c : Calls) (s : Held) (f : Found) → LinkSeen o c s → WriteWaits c s.conn → f.link.write_fails ≡ false → f.link.room ≡ Some 0 → can_try (filled o f s) Write ≡ false
write_in_vain o c s f seen (inl none) works room = ap (λ (bytes : List ℕ). nat_lt 0 (length bytes) && ((filled o f s).link.write_fails || has_room_for (filled o f s).link.room)) none.0
write_in_vain o c s f seen (inr asked) works room =
    let P : Option Link → Type 0 = λ told. TakesNothing told in
    let w = no_room (o.link s.conn.number) f.link (subst P (sym seen.link) asked.1.nothing) works room in
    and_false (nat_lt 0 (length (owed s.conn))) ((filled o f s).link.write_fails || has_room_for (filled o f s).link.room)
    (full (filled o f s).link.write_fails (filled o f s).link.room w.0 w.1)

pub write_rose : (o : Outside) (c : Calls) (s : Held) → LinkSeen o c s → WriteWaits c s.conn → owed s.conn ≢ [] → Rose (o.link_counts s.conn.number).write_waits c.counts_after.write_waits
write_rose o c s seen (inl none) some = absurd (some none.0)
write_rose o c s seen (inr asked) some =
    rose_risen (o.link_counts s.conn.number).write_waits c.counts_after.write_waits
    (ap (λ (x : LinkCounts). x.write_waits) asked.1.counts ∙ ap (λ (x : LinkCounts). risen x.write_waits) (sym seen.counts))

pub ports_same : (o : Outside) (ports : List Port) → All (PortBetween o o.port_counts) ports
ports_same o [] = All-nil (PortBetween o o.port_counts)
ports_same o (p ∷ ports) =
    All-cons (PortBetween o o.port_counts) p ports (record { grows = port_same (o.port_counts p.tunnel) (o.port_counts p.tunnel) refl; faults = refl }) (ports_same o ports)

-- the counts of the link alone went on
pub between_link : (o : Outside) (lc : ℕ → LinkCounts) (s : Held) → LinkGrows (o.link_counts s.conn.number) (lc s.conn.number) → (lc s.conn.number).faults ≡ (o.link_counts s.conn.number).faults
    → Between o lc o.port_counts s
between_link o lc s grows faults = record { link = grows; link_faults = faults; ports = ports_same o s.ports }

pub write_between : (o : Outside) (c : Calls) (s : Held) → LinkSeen o c s → WriteWaits c s.conn → Between o (λ i. c.counts_after) o.port_counts s
write_between o c s seen (inl none) =
    let same : c.counts_after ≡ o.link_counts s.conn.number = none.1.counts ∙ sym seen.counts in
    between_link o (λ i. c.counts_after) s (link_same (o.link_counts s.conn.number) c.counts_after same) (ap (λ (x : LinkCounts). x.faults) same)
write_between o c s seen (inr asked) =
    let is : c.counts_after ≡ record (o.link_counts s.conn.number) { write_waits = risen (o.link_counts s.conn.number).write_waits } =
    asked.1.counts ∙ ap (λ (x : LinkCounts). record x { write_waits = risen x.write_waits }) (sym seen.counts) in
    between_link o (λ i. c.counts_after) s
    (record {
      read_waits = same_grows (o.link_counts s.conn.number).read_waits c.counts_after.read_waits (ap (λ (x : LinkCounts). x.read_waits) is);
      write_waits = let e = ap (λ (x : LinkCounts). x.write_waits) is in let le = risen_grows (o.link_counts s.conn.number).write_waits in omega (arith, e, le);
      faults = same_grows (o.link_counts s.conn.number).faults c.counts_after.faults (ap (λ (x : LinkCounts). x.faults) is);
    })
    (ap (λ (x : LinkCounts). x.faults) is)

pub write_holds : (c : Calls) (s : Conn) → WriteWaits c s → c.after ≡ c.holds
write_holds c s (inl none) = none.1.holds
write_holds c s (inr asked) = asked.1.holds

-- ---- a write was done

pub owes_some : (s : Conn) → owed s ≢ [] → nat_lt 0 (length (owed s)) ≡ true
owes_some s some = by_bytes (owed s) some where
  by_bytes : (bytes : List ℕ) → bytes ≢ [] → nat_lt 0 (length bytes) ≡ true
  by_bytes [] some = absurd (some refl)
  by_bytes (b ∷ bytes) some = lt-ltb 0 (length (b ∷ bytes)) (omega arith)

pub both_true : (a b : Bool) → a ≡ true → b ≡ true → a && b ≡ true
both_true true b x y = y
both_true false b x y = absurd cc

-- the link with what was found is one that takes this
pub record Takes (told after : Option Link) (found link : Link) (size : ℕ) : Type 0 where
  pub works : (link_if told found).write_fails ≡ false
  pub room : (link_if told found).room ≡ link.room
  pub tells : IsTold after (record (link_if told found) { room = room_left (link_if told found).room (taken_of (link_if told found).room size) })

takes : (told after : Option Link) (found link : Link) (size : ℕ) → found.write_fails ≡ false → found.room ≡ link.room → link.write_fails ≡ false → IsTold told link
    → IsTold after (record link { room = room_left link.room (taken_of link.room size) }) → (told ≡ None → after ≡ None) → Takes told after found link size
takes None after found link size works room fails told tells untold = record {
  works = works;
  room = room;
  tells =
      let P : Option Link → Type 0 = λ a. IsTold a (record found { room = room_left found.room (taken_of found.room size) }) in
      subst P (sym (untold refl)) tt;
}
takes (Some l) after found link size works room fails told tells untold = record {
  works = ap (λ (x : Link). x.write_fails) (sym told) ∙ fails;
  room = ap (λ (x : Link). x.room) (sym told);
  tells = let P : Link → Type 0 = λ x. IsTold after (record x { room = room_left x.room (taken_of x.room size) }) in subst P told tells;
}

-- what is found of the link
abbrev pub roomy : Option ℕ → Link
roomy room = record idle_link { room = room }

pub took_some : (o : Outside) (c : Calls) (s : Held) (said : Note) (t : Conn) → LinkSeen o c s → (d : WriteDoes c s.conn said t)
    → Takes (o.link s.conn.number) c.after (roomy d.link.room) d.link (length (owed s.conn))
took_some o c s said t seen d =
    let P : Option Link → Type 0 = λ told. IsTold told d.link in
    takes (o.link s.conn.number) c.after (roomy d.link.room) d.link (length (owed s.conn)) refl refl d.works (subst P (sym seen.link) d.told) d.tells (λ none. d.untold (sym seen.link ∙ none))

-- the link behind it
abbrev pub written : Outside → Held → Link → Link
written o s found =
    let link : Link = link_if (o.link s.conn.number) found in
    record link { room = room_left link.room (taken_of link.room (length (owed s.conn))) }

pub write_does_turn : (setup : Setup) (o n : Outside) (c : Calls) (seen : Seen) (m : Mailed seen) (orders : Orders) (s : Held) (said : Note) (t : Conn) → LinkSeen o c s → (d : WriteDoes c s.conn said t) → n.binds.holds ≡ o.binds.holds
    → Turned setup from_write SendsWait o n seen seen m.mail m.mail orders s said (Some (whole o (on_link (roomy d.link.room)) s t (written o s (roomy d.link.room))))
write_does_turn setup o n c seen m orders s said t sees d same =
    let f : Found = on_link (roomy d.link.room) in
    let h : Held = filled o f s in
    let x = took_some o c s said t sees d in
    let sh : Shared = shared_by seen seen.entries m.boxes orders in
    let u : Held = whole o f s t (written o s (roomy d.link.room)) in
    let count : write_count h ≡ taken_of d.link.room (length (owed s.conn)) = ap (λ (r : Option ℕ). taken_of r (length (owed s.conn))) x.room in
    let does : wrote s.conn (write_count h) ≡ (said, t) = ap (λ (k : ℕ). wrote s.conn k) count ∙ d.does in
    let is : write_done h ≡ Some (said, Some u) =
    ap {B = HeldDone} (λ (y : Note × Conn). Some (with_conn (record h { link = record h.link { room = room_left h.link.room (write_count h) } }) y)) does in
    let W : Bool → Type 0 = λ b. WriteNext b h sh Said said (Some u) sh in
    let room : (h.link.write_fails || has_room_for h.link.room) ≡ true = or_right h.link.write_fails (has_room_for h.link.room) (ap (λ (r : Option ℕ). has_room_for r) x.room ∙ d.room) in
    record {
      found = f;
      vain_is = λ tunnel. (refl, refl);
      try = Write;
      answer = Said;
      sh = sh;
      after = sh;
      became = Some u;
      is = first_true h Write (from_read h) (both_true (nat_lt 0 (length (owed s.conn))) (h.link.write_fails || has_room_for h.link.room) (owes_some s.conn d.some) room);
      shares = shares_same seen seen m orders refl;
      faults = record {
        link = λ none is. fits_link (o.link s.conn.number) (roomy d.link.room) (Rose (o.link_counts s.conn.number).faults (n.link_counts s.conn.number).faults) refl refl none is;
        ports = none_fails o n f s.ports (record { sends = λ tunnel. refl; receives = λ tunnel. refl });
      };
      binds = same;
      next = subst W (sym x.works) (record { said = refl; is = is; after_is = refl });
      then = refl;
    } where
      or_right : (a b : Bool) → b ≡ true → a || b ≡ true
      or_right true b is = refl
      or_right false b is = is

-- ---- a write could have been done

could_take : (told : Option Link) → CanTake told → (link_if told new_link).write_fails || has_room_for (link_if told new_link).room ≡ true
could_take None can = refl
could_take (Some link) can = can

pub write_could : (o : Outside) (c : Calls) (s : Held) → LinkSeen o c s → owed s.conn ≢ [] → CanTake c.holds → can_try (filled o (on_link new_link) s) Write ≡ true
write_could o c s seen some can =
    let P : Option Link → Type 0 = λ told. CanTake told in
    both_true (nat_lt 0 (length (owed s.conn))) ((filled o (on_link new_link) s).link.write_fails || has_room_for (filled o (on_link new_link) s).link.room)
    (owes_some s.conn some) (could_take (o.link s.conn.number) (subst P (sym seen.link) can))
