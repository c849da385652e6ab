-- One try behind others: where those before it are in vain, it is the first that can be done.
use Rattle.std.proofs.Common.{◌≡◌, inl, inr, ℕ, Bool, true, false, List, [], ◌∷◌, map, All, Option, Some, Result, Ok, Err, ap, subst, ◌∙◌, arith}
use Rattle.std.specs.Prelude.{find, if◌then◌else◌}
use Rattle.std.proofs.lemmas.List.Elements.{All-cons, All-head, All-tail, All-nil}
use Rattle.mq_wire.specs.declared.NoMemory.{NoMemory}
use Rattle.mq_outside.specs.Counts.{risen, LinkCounts, PortCounts}
use Rattle.mq_talk.specs.Mails.{Inboxes}
use Rattle.mq_talk.specs.Offices.{Seen}
use Rattle.mq_machine.specs.declared.setup.Setup.{Setup}
use Rattle.mq_machine.specs.State.{Held, Port}
use Rattle.mq_machine.specs.Want.{Answer, Said, Bound, Replied, Judged, Pushed, Put}
use Rattle.mq_machine.specs.Turn.{Try, Write, Read, Receive, can_try}
use Rattle.mq_machine.specs.Acting.{Outside, Rose, PortFailed, BindFits, handed_back}
use Rattle.mq_step.specs.Notes.{SteppedWith, Quiet, Did, Ended, Noteless}
use Rattle.mq_step.specs.Sights.{Found, filled_port, idle, PortFits, PortsFit, LinkGrows, PortGrows}
use Rattle.mq_step.specs.Whole.{filled, FaultsFit, Grows}
use Rattle.mq_step.specs.Gives.{Tries, InVain, Asked, Gives}
use Rattle.mq_step.proofs.Counting.{then_rose}

-- ---- the first that can be done

pub first_true : (h : Held) (t : Try) (ts : List Try) → can_try h t ≡ true → find (can_try h) (t ∷ ts) ≡ Some t
first_true h t ts can = ap {B = Option Try} (λ (b : Bool). if b then Some t else find (can_try h) ts) can

pub first_false : (h : Held) (t : Try) (ts : List Try) → can_try h t ≡ false → find (can_try h) (t ∷ ts) ≡ find (can_try h) ts
first_false h t ts cannot = ap {B = Option Try} (λ (b : Bool). if b then Some t else find (can_try h) ts) cannot

-- ---- what was asked in between

-- the counts of a port went on, and it didn't fail
pub record PortBetween (o : Outside) (pc : ℕ → PortCounts) (p : Port) : Type 0 where
  pub grows : PortGrows (o.port_counts p.tunnel) (pc p.tunnel)
  pub faults : (pc p.tunnel).faults ≡ (o.port_counts p.tunnel).faults

pub record Between (o : Outside) (lc : ℕ → LinkCounts) (pc : ℕ → PortCounts) (s : Held) : Type 0 where
  pub link : LinkGrows (o.link_counts s.conn.number) (lc s.conn.number)
  pub link_faults : (lc s.conn.number).faults ≡ (o.link_counts s.conn.number).faults
  pub ports : All (PortBetween o pc) s.ports

abbrev pub mid : Outside → (ℕ → LinkCounts) → (ℕ → PortCounts) → Outside
mid o lc pc = record o { link_counts = lc; port_counts = pc }

port_trans : (a b c : PortCounts) → PortGrows a b → PortGrows b c → PortGrows a c
port_trans a b c x y = record {
  send_waits = let p = x.send_waits in let q = y.send_waits in omega (arith, p, q);
  receive_waits = let p = x.receive_waits in let q = y.receive_waits in omega (arith, p, q);
  faults = let p = x.faults in let q = y.faults in omega (arith, p, q);
}

link_trans : (a b c : LinkCounts) → LinkGrows a b → LinkGrows b c → LinkGrows a c
link_trans a b c x y = record {
  read_waits = let p = x.read_waits in let q = y.read_waits in omega (arith, p, q);
  write_waits = let p = x.write_waits in let q = y.write_waits in omega (arith, p, q);
  faults = let p = x.faults in let q = y.faults in omega (arith, p, q);
}

module _ (o n : Outside) (lc : ℕ → LinkCounts) (pc : ℕ → PortCounts) where
  failed_back : (t : ℕ) → (pc t).faults ≡ (o.port_counts t).faults → PortFailed (mid o lc pc) n t → PortFailed o n t
  failed_back t same (inl rose) = let P : ℕ → Type 0 = λ c. Rose c (n.port_counts t).faults in inl (subst P same rose)
  failed_back t same (inr is) = inr (is ∙ ap (λ (c : ℕ). handed_back (risen c) o.binds) same)

  ports_back : (f : Found) (ports : List Port) → All (PortBetween o pc) ports → PortsFit (mid o lc pc) n (map (filled_port o f) ports) → PortsFit o n (map (filled_port o f) ports)
  ports_back f [] between fit = All-nil (PortFits o n)
  ports_back f (p ∷ ports) between fit =
      let rest : List Port = map (filled_port o f) ports in
      let here = All-head (PortBetween o pc) p ports between in
      let first = All-head (PortFits (mid o lc pc) n) (filled_port o f p) rest fit in
      All-cons (PortFits o n) (filled_port o f p) rest (λ none is. failed_back p.tunnel here.faults (first none is))
      (ports_back f ports (All-tail (PortBetween o pc) p ports between) (All-tail (PortFits (mid o lc pc) n) (filled_port o f p) rest fit))

  pub faults_back : (f : Found) (s : Held) → Between o lc pc s → FaultsFit (mid o lc pc) n (filled o f s) → FaultsFit o n (filled o f s)
  faults_back f s between fit =
      let P : ℕ → Type 0 = λ c. Rose c (n.link_counts s.conn.number).faults in
      record { link = λ none is. subst P between.link_faults (fit.link none is); ports = ports_back f s.ports between.ports fit.ports }

  pub binds_back : (a : Answer) → BindFits (mid o lc pc) n a → BindFits o n a
  binds_back Said fit = fit
  binds_back (Bound true) fit = fit
  binds_back (Bound false) fit = fit
  binds_back (Replied reply) fit = fit
  binds_back (Judged verdict at) fit = fit
  binds_back (Pushed done) fit = fit
  binds_back (Put put limit) fit = fit

  ports_grow : (ports : List Port) → All (PortBetween o pc) ports → All (λ (p : Port). PortGrows (pc p.tunnel) (n.port_counts p.tunnel)) ports
      → All (λ (p : Port). PortGrows (o.port_counts p.tunnel) (n.port_counts p.tunnel)) ports
  ports_grow [] between grow = All-nil (λ (p : Port). PortGrows (o.port_counts p.tunnel) (n.port_counts p.tunnel))
  ports_grow (p ∷ ports) between grow =
      All-cons (λ (q : Port). PortGrows (o.port_counts q.tunnel) (n.port_counts q.tunnel)) p ports
      (port_trans (o.port_counts p.tunnel) (pc p.tunnel) (n.port_counts p.tunnel) (All-head (PortBetween o pc) p ports between).grows (All-head (λ (q : Port). PortGrows (pc q.tunnel) (n.port_counts q.tunnel)) p ports grow))
      (ports_grow ports (All-tail (PortBetween o pc) p ports between) (All-tail (λ (q : Port). PortGrows (pc q.tunnel) (n.port_counts q.tunnel)) p ports grow))

  grows_back : (s : Held) → Between o lc pc s → Grows (mid o lc pc) n s → Grows o n s
  grows_back s between grow = record {
    link = link_trans (o.link_counts s.conn.number) (lc s.conn.number) (n.link_counts s.conn.number) between.link grow.link;
    ports = ports_grow s.ports between.ports grow.ports;
  }

  -- ---- what was asked is asked, seen from before

  pub receives_back : (s : Held) (ports : List Port) → All (PortBetween o pc) ports → All (Asked (mid o lc pc) n s) (map (λ (p : Port). Receive p.tunnel) ports)
      → All (Asked o n s) (map (λ (p : Port). Receive p.tunnel) ports)
  receives_back s [] between asked = All-nil (Asked o n s)
  receives_back s (p ∷ ports) between asked =
      let rest : List Try = map (λ (q : Port). Receive q.tunnel) ports in
      let here = All-head (PortBetween o pc) p ports between in
      All-cons (Asked o n s) (Receive p.tunnel) rest
      (then_rose (o.port_counts p.tunnel).receive_waits (pc p.tunnel).receive_waits (n.port_counts p.tunnel).receive_waits here.grows.receive_waits (All-head (Asked (mid o lc pc) n s) (Receive p.tunnel) rest asked))
      (receives_back s ports (All-tail (PortBetween o pc) p ports between) (All-tail (Asked (mid o lc pc) n s) (Receive p.tunnel) rest asked))

  pub read_back : (s : Held) → Between o lc pc s → Asked (mid o lc pc) n s Read → Asked o n s Read
  read_back s between asked =
      λ can. then_rose (o.link_counts s.conn.number).read_waits (lc s.conn.number).read_waits (n.link_counts s.conn.number).read_waits between.link.read_waits (asked can)

  pub write_back : (s : Held) → Between o lc pc s → Asked (mid o lc pc) n s Write → Asked o n s Write
  write_back s between asked =
      λ some. then_rose (o.link_counts s.conn.number).write_waits (lc s.conn.number).write_waits (n.link_counts s.conn.number).write_waits between.link.write_waits (asked some)

  -- ---- a try that is in vain goes before

  pub skip : (setup : Setup) (t : Try) (tries : Tries) (vain less : InVain) (seen seen_after : Seen) (mail mail_after : Inboxes) (stands_for : Held → Type 0) (s : Held) (r : Result SteppedWith NoMemory)
      → Between o lc pc s → ((f : Found) → vain f → can_try (filled o f s) t ≡ false) → vain idle → ((f : Found) → vain f → less f)
      → (Grows (mid o lc pc) n s → Asked o n s t) → (All (Asked (mid o lc pc) n s) (tries s) → All (Asked o n s) (tries s))
      → Gives setup tries vain (mid o lc pc) n seen seen_after mail mail_after stands_for s r → Gives setup (λ h. t ∷ tries h) less o n seen seen_after mail mail_after stands_for s r
  skip setup t tries vain less seen seen_after mail mail_after stands_for s (Ok Quiet) between cannot vain_idle weaker asks back gives =
      let w = gives.0 in (
        record {
          none = first_false (filled o idle s) t (tries (filled o idle s)) (cannot idle vain_idle) ∙ w.none;
          asked = All-cons (Asked o n s) t (tries s) (asks w.grows) (back w.asked);
          grows = grows_back s between w.grows;
          told = record { link = w.told.link; ports = w.told.ports; binds = w.told.binds };
          seen_is = w.seen_is;
          mail_is = w.mail_is;
        },
        gives.1,
      )
  skip setup t tries vain less seen seen_after mail mail_after stands_for s (Ok (Did note)) between cannot vain_idle weaker asks back gives = λ orders.
      let d = gives orders in
      let x = d.1 in (
        d.0,
        record {
          found = x.found;
          vain_is = weaker x.found x.vain_is;
          try = x.try;
          answer = x.answer;
          sh = x.sh;
          after = x.after;
          became = x.became;
          is = first_false (filled o x.found s) t (tries (filled o x.found s)) (cannot x.found x.vain_is) ∙ x.is;
          shares = x.shares;
          faults = faults_back x.found s between x.faults;
          binds = binds_back x.answer x.binds;
          next = x.next;
          then = x.then;
        },
        d.2,
      )
  skip setup t tries vain less seen seen_after mail mail_after stands_for s (Ok (Ended note)) between cannot vain_idle weaker asks back gives = λ orders.
      let x = gives orders in
      record {
        found = x.found;
        vain_is = weaker x.found x.vain_is;
        try = x.try;
        answer = x.answer;
        sh = x.sh;
        after = x.after;
        became = x.became;
        is = first_false (filled o x.found s) t (tries (filled o x.found s)) (cannot x.found x.vain_is) ∙ x.is;
        shares = x.shares;
        faults = faults_back x.found s between x.faults;
        binds = binds_back x.answer x.binds;
        next = x.next;
        then = x.then;
      }
  skip setup t tries vain less seen seen_after mail mail_after stands_for s (Ok Noteless) between cannot vain_idle weaker asks back gives = gives
  skip setup t tries vain less seen seen_after mail mail_after stands_for s (Err refused) between cannot vain_idle weaker asks back gives = λ orders.
      let d = gives orders in
      let x = d.1 in (
        d.0,
        record {
          found = x.found;
          vain_is = weaker x.found x.vain_is;
          try = x.try;
          answer = x.answer;
          sh = x.sh;
          after = x.after;
          reached = x.reached;
          pieces = x.pieces;
          tunnels = x.tunnels;
          is = first_false (filled o x.found s) t (tries (filled o x.found s)) (cannot x.found x.vain_is) ∙ x.is;
          shares = x.shares;
          takes = x.takes;
          leaves = x.leaves;
          heard = x.heard;
          binds = binds_back x.answer x.binds;
          then = x.then;
        },
        d.2,
      )
