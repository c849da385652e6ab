-- The link was read, or failed; or a read waits.
use Rattle.std.proofs.Common.{◌≡◌, inl, inr, ℕ, Bool, true, false, ◌&&◌, List, [], ◌∷◌, length, drop, nat_lt, Option, Some, None, refl, sym, ap, subst, ◌∙◌, arith}
use Rattle.std.specs.Prelude.{◌||◌}
use Rattle.std.proofs.lemmas.Bool.{lt-ltb}
use Rattle.mq_outside.specs.Counts.{risen, LinkCounts}
use Rattle.mq_outside.specs.Links.{behind}
use Rattle.mq_talk.specs.declared.note.Note.{Note}
use Rattle.mq_talk.specs.declared.note.Note.TheVariants as note
use Rattle.mq_talk.specs.Mails.{IsTold}
use Rattle.mq_talk.specs.Offices.{Seen}
use Rattle.mq_machine.specs.declared.setup.Setup.{Setup}
use Rattle.mq_machine.specs.State.{Conn, Link, Held, Orders, Shared}
use Rattle.mq_machine.specs.Want.{Said}
use Rattle.mq_machine.specs.Steps.{can_read, finished}
use Rattle.mq_machine.specs.Reading.{TookNext, EndsThere}
use Rattle.mq_machine.specs.Turn.{Read, can_try, can_take, with_conn, HeldDone, TakesNext, PieceNext, EndNext, ReadNext, most_read}
use Rattle.mq_machine.specs.Acting.{Outside, Rose}
use Rattle.mq_held.specs.Links.{Calls, GivesNothing, ReadWaits, TakesPiece, TakesEnd}
use Rattle.mq_step.specs.Sights.{Found, idle_link}
use Rattle.mq_step.specs.Whole.{link_if, filled}
use Rattle.mq_step.specs.Gives.{Turned, WritesWait, receives_of, from_read}
use Rattle.mq_step.proofs.Filling.{none_fails}
use Rattle.mq_step.proofs.Wanting.{Mailed, shared_by, shares_same}
use Rattle.mq_step.proofs.Counting.{rose_risen, risen_grows, same_grows, link_same}
use Rattle.mq_step.proofs.Trying.{first_true, Between}
use Rattle.mq_step.proofs.Framing.{whole, fits_link}
use Rattle.mq_step.proofs.Linking.{on_link, LinkSeen, between_link, and_false, both_true}

-- ---- a read waits

no_piece : (told : Option Link) (found : Link) → GivesNothing told → found.read_fails ≡ false → found.pieces ≡ [] → found.is_ended ≡ false
    → ((link_if told found).read_fails ≡ false) × ((link_if told found).pieces ≡ []) × ((link_if told found).is_ended ≡ false)
no_piece None found nothing works pieces open_is = (works, pieces, open_is)
no_piece (Some link) found nothing works pieces open_is = (nothing.0, nothing.1, nothing.2)

gives_none : (r e : Bool) (pieces : List (List ℕ)) → r ≡ false → pieces ≡ [] → e ≡ false → r || nat_lt 0 (length pieces) || e ≡ false
gives_none false false pieces works none ended = ap (λ (ps : List (List ℕ)). nat_lt 0 (length ps) || false) none
gives_none true e pieces works none ended = absurd cc
gives_none false true pieces works none ended = absurd cc

pub read_in_vain : (o : Outside) (c : Calls) (s : Held) (f : Found) → LinkSeen o c s → ReadWaits c s.conn → f.link.read_fails ≡ false → f.link.pieces ≡ [] → f.link.is_ended ≡ false
    → can_try (filled o f s) Read ≡ false
read_in_vain o c s f seen (inl none) works pieces ended = ap (λ (b : Bool). b && can_take (filled o f s).link) none.0
read_in_vain o c s f seen (inr asked) works pieces ended =
    let P : Option Link → Type 0 = λ told. GivesNothing told in
    let w = no_piece (o.link s.conn.number) f.link (subst P (sym seen.link) asked.1.nothing) works pieces ended in
    and_false (can_read s.conn) (can_take (filled o f s).link) (gives_none (filled o f s).link.read_fails (filled o f s).link.is_ended (filled o f s).link.pieces w.0 w.1 w.2)

pub read_rose : (o : Outside) (c : Calls) (s : Held) → LinkSeen o c s → ReadWaits c s.conn → can_read s.conn ≡ true → Rose (o.link_counts s.conn.number).read_waits c.counts_after.read_waits
read_rose o c s seen (inl none) can = let e : true ≡ false = sym can ∙ none.0 in absurd cc
read_rose o c s seen (inr asked) can =
    rose_risen (o.link_counts s.conn.number).read_waits c.counts_after.read_waits
    (ap (λ (x : LinkCounts). x.read_waits) asked.1.counts ∙ ap (λ (x : LinkCounts). risen x.read_waits) (sym seen.counts))

pub read_between : (o : Outside) (c : Calls) (s : Held) → LinkSeen o c s → ReadWaits c s.conn → Between o (λ i. c.counts_after) o.port_counts s
read_between o c s seen (inl none) =
    let same : c.counts_after ≡ o.link_counts s.conn.number = none.1.counts ∙ sym seen.counts in
    between_link o (λ i. c.counts_after) s (link_same (o.link_counts s.conn.number) c.counts_after same) (ap (λ (x : LinkCounts). x.faults) same)
read_between o c s seen (inr asked) =
    let is : c.counts_after ≡ record (o.link_counts s.conn.number) { read_waits = risen (o.link_counts s.conn.number).read_waits } =
    asked.1.counts ∙ ap (λ (x : LinkCounts). record x { read_waits = risen x.read_waits }) (sym seen.counts) in
    between_link o (λ i. c.counts_after) s
    (record {
      read_waits = let e = ap (λ (x : LinkCounts). x.read_waits) is in let le = risen_grows (o.link_counts s.conn.number).read_waits in omega (arith, e, le);
      write_waits = same_grows (o.link_counts s.conn.number).write_waits c.counts_after.write_waits (ap (λ (x : LinkCounts). x.write_waits) is);
      faults = same_grows (o.link_counts s.conn.number).faults c.counts_after.faults (ap (λ (x : LinkCounts). x.faults) is);
    })
    (ap (λ (x : LinkCounts). x.faults) is)

pub read_holds : (c : Calls) (s : Conn) → ReadWaits c s → c.after ≡ c.holds
read_holds c s (inl none) = none.1.holds
read_holds c s (inr asked) = asked.1.holds

-- ---- a piece

abbrev pub with_pieces : List (List ℕ) → Link
with_pieces pieces = record idle_link { pieces = pieces }

-- the link with what was found gives this piece
pub record Gave (told after : Option Link) (first : List ℕ) (others : List (List ℕ)) : Type 0 where
  pub works : (link_if told (with_pieces (first ∷ others))).read_fails ≡ false
  pub pieces : (link_if told (with_pieces (first ∷ others))).pieces ≡ first ∷ others
  pub tells : IsTold after (record (link_if told (with_pieces (first ∷ others))) { pieces = behind (drop most_read first) others })

gave : (told after : Option Link) (link : Link) (first : List ℕ) (others : List (List ℕ)) → link.read_fails ≡ false → link.pieces ≡ first ∷ others → IsTold told link
    → IsTold after (record link { pieces = behind (drop most_read first) others }) → (told ≡ None → after ≡ None) → Gave told after first others
gave None after link first others works pieces told tells untold = record {
  works = refl;
  pieces = refl;
  tells = let P : Option Link → Type 0 = λ a. IsTold a (record (with_pieces (first ∷ others)) { pieces = behind (drop most_read first) others }) in subst P (sym (untold refl)) tt;
}
gave (Some l) after link first others works pieces told tells untold = record {
  works = ap (λ (x : Link). x.read_fails) (sym told) ∙ works;
  pieces = ap (λ (x : Link). x.pieces) (sym told) ∙ pieces;
  tells = let P : Link → Type 0 = λ x. IsTold after (record x { pieces = behind (drop most_read first) others }) in subst P told tells;
}

pub gave_piece : (o : Outside) (c : Calls) (s : Held) (piece : List ℕ) → LinkSeen o c s → (d : TakesPiece c piece) → Gave (o.link s.conn.number) c.after d.first d.others
gave_piece o c s piece seen d =
    let P : Option Link → Type 0 = λ told. IsTold told d.link in
    gave (o.link s.conn.number) c.after d.link d.first d.others d.works d.pieces (subst P (sym seen.link) d.told) d.tells (λ none. d.untold (sym seen.link ∙ none))

-- a link that has a piece is read
takes_some : (r e : Bool) (pieces : List (List ℕ)) (first : List ℕ) (others : List (List ℕ)) → pieces ≡ first ∷ others → r || nat_lt 0 (length pieces) || e ≡ true
takes_some true e pieces first others is = refl
takes_some false e pieces first others is =
    ap (λ (ps : List (List ℕ)). nat_lt 0 (length ps) || e) is ∙ ap (λ (b : Bool). b || e) (lt-ltb 0 (length (first ∷ others)) (omega arith))

pub read_first : (o : Outside) (c : Calls) (s : Held) (piece : List ℕ) → LinkSeen o c s → (d : TakesPiece c piece) → can_read s.conn ≡ true → can_try (filled o (on_link (with_pieces (d.first ∷ d.others))) s) Read ≡ true
read_first o c s piece seen d can =
    let link : Link = (filled o (on_link (with_pieces (d.first ∷ d.others))) s).link in
    both_true (can_read s.conn) (can_take link) can (takes_some link.read_fails link.is_ended link.pieces d.first d.others (gave_piece o c s piece seen d).pieces)

pub reads_wait : (link : Link) → link.write_fails ≡ false → link.room ≡ Some 0 → WritesWait (on_link link)
reads_wait link works room = record { sends = λ tunnel. (refl, refl); works = works; room = room }

pub piece_turn : (setup : Setup) (o n : Outside) (c : Calls) (seen : Seen) (m : Mailed seen) (orders : Orders) (s : Held) (piece : List ℕ) (t : Conn) → LinkSeen o c s → (d : TakesPiece c piece)
    → can_read s.conn ≡ true → TookNext setup s.conn piece t → n.binds.holds ≡ o.binds.holds
    → Turned setup from_read WritesWait o n seen seen m.mail m.mail orders s (note.Took s.conn.number (length piece))
    (Some (whole o (on_link (with_pieces (d.first ∷ d.others))) s t (record (filled o (on_link (with_pieces (d.first ∷ d.others))) s).link { pieces = behind (drop most_read d.first) d.others })))
piece_turn setup o n c seen m orders s piece t sees d can took same =
    let link : Link = with_pieces (d.first ∷ d.others) in
    let h : Held = filled o (on_link link) s in
    let x = gave_piece o c s piece sees d in
    let sh : Shared = shared_by seen seen.entries m.boxes orders in
    let u : Held = whole o (on_link link) s t (record h.link { pieces = behind (drop most_read d.first) d.others }) in
    let said : Note = note.Took s.conn.number (length piece) in
    let T : List ℕ → Type 0 = λ bytes. TookNext setup s.conn bytes t in
    let next : PieceNext setup h d.first d.others said (Some u) = record {
      conn = t;
      took = subst T d.piece_is took;
      note_is = ap {B = Note} (λ (bytes : List ℕ). note.Took s.conn.number (length bytes)) d.piece_is;
      new_is = refl;
    } in
    let P : List (List ℕ) → Type 0 = λ pieces. TakesNext setup h pieces said (Some u) in
    let R : Bool → Type 0 = λ b. ReadNext b setup h sh Said said (Some u) sh in
    record {
      found = on_link link;
      vain_is = reads_wait link refl refl;
      try = Read;
      answer = Said;
      sh = sh;
      after = sh;
      became = Some u;
      is = first_true h Read (receives_of h) (read_first o c s piece sees d can);
      shares = shares_same seen seen m orders refl;
      faults = record {
        link = λ none is. fits_link (o.link s.conn.number) link (Rose (o.link_counts s.conn.number).faults (n.link_counts s.conn.number).faults) refl refl none is;
        ports = none_fails o n (on_link link) s.ports (record { sends = λ tunnel. refl; receives = λ tunnel. refl });
      };
      binds = same;
      next = subst R (sym x.works) (refl, subst P (sym x.pieces) next, refl);
      then = refl;
    }

-- ---- the end

abbrev pub ended_link : Link
ended_link = record idle_link { is_ended = true }

pub record Over (told after : Option Link) : Type 0 where
  pub works : (link_if told ended_link).read_fails ≡ false
  pub pieces : (link_if told ended_link).pieces ≡ []
  pub is_ended : (link_if told ended_link).is_ended ≡ true
  pub tells : IsTold after (link_if told ended_link)

over : (told after : Option Link) (link : Link) → link.read_fails ≡ false → link.pieces ≡ [] → link.is_ended ≡ true → IsTold told link → IsTold after link → (told ≡ None → after ≡ None) → Over told after
over None after link works pieces ended told tells untold = record {
  works = refl;
  pieces = refl;
  is_ended = refl;
  tells = let P : Option Link → Type 0 = λ a. IsTold a ended_link in subst P (sym (untold refl)) tt;
}
over (Some l) after link works pieces ended told tells untold = record {
  works = ap (λ (x : Link). x.read_fails) (sym told) ∙ works;
  pieces = ap (λ (x : Link). x.pieces) (sym told) ∙ pieces;
  is_ended = ap (λ (x : Link). x.is_ended) (sym told) ∙ ended;
  tells = let P : Link → Type 0 = λ x. IsTold after x in subst P told tells;
}

pub end_over : (o : Outside) (c : Calls) (s : Held) → LinkSeen o c s → TakesEnd c → Over (o.link s.conn.number) c.after
end_over o c s seen d =
    let P : Option Link → Type 0 = λ told. IsTold told d.link in
    over (o.link s.conn.number) c.after d.link d.works d.pieces d.is_ended (subst P (sym seen.link) d.told) d.tells (λ none. d.untold (sym seen.link ∙ none))

takes_end : (r e : Bool) (pieces : List (List ℕ)) → e ≡ true → r || nat_lt 0 (length pieces) || e ≡ true
takes_end true e pieces is = refl
takes_end false e pieces is = by_case (nat_lt 0 (length pieces)) where
  by_case : (b : Bool) → b || e ≡ true
  by_case true = refl
  by_case false = is

pub end_turn : (setup : Setup) (o n : Outside) (c : Calls) (seen : Seen) (m : Mailed seen) (orders : Orders) (s : Held) (said : Note) (t : Conn) (inside : Bool) → LinkSeen o c s → TakesEnd c
    → can_read s.conn ≡ true → EndsThere s.conn inside → finished s.conn inside ≡ (said, t) → n.binds.holds ≡ o.binds.holds
    → Turned setup from_read WritesWait o n seen seen m.mail m.mail orders s said (Some (whole o (on_link ended_link) s t (filled o (on_link ended_link) s).link))
end_turn setup o n c seen m orders s said t inside sees d can ends does same =
    let h : Held = filled o (on_link ended_link) s in
    let x = end_over o c s sees d in
    let sh : Shared = shared_by seen seen.entries m.boxes orders in
    let u : Held = whole o (on_link ended_link) s t h.link in
    let next : EndNext h said (Some u) = record { inside = inside; ends = ends; is = ap {B = HeldDone} (λ (y : Note × Conn). Some (with_conn h y)) does } in
    let P : List (List ℕ) → Type 0 = λ pieces. TakesNext setup h pieces said (Some u) in
    let R : Bool → Type 0 = λ b. ReadNext b setup h sh Said said (Some u) sh in
    record {
      found = on_link ended_link;
      vain_is = reads_wait ended_link refl refl;
      try = Read;
      answer = Said;
      sh = sh;
      after = sh;
      became = Some u;
      is = first_true h Read (receives_of h) (both_true (can_read s.conn) (can_take h.link) can (takes_end h.link.read_fails h.link.is_ended h.link.pieces x.is_ended));
      shares = shares_same seen seen m orders refl;
      faults = record {
        link = λ none is. fits_link (o.link s.conn.number) ended_link (Rose (o.link_counts s.conn.number).faults (n.link_counts s.conn.number).faults) refl refl none is;
        ports = none_fails o n (on_link ended_link) s.ports (record { sends = λ tunnel. refl; receives = λ tunnel. refl });
      };
      binds = same;
      next = subst R (sym x.works) (refl, subst P (sym x.pieces) next, refl);
      then = refl;
    }
