-- What a piece, a read and a round come to.
use Rattle.std.proofs.Common.{◌≡◌, ℕ, Bool, true, false, List, [], ◌++◌, take, Option, Some, None, Ok, Err, refl, sym, ap, subst, ◌∙◌, append_assoc, append-nil, inl, inr}
use Rattle.std.specs.Prelude.{◌↔◌, ◌⊎◌, Contains, IsTrue}
use Rattle.mq_client.specs.declared.event.ClientEvent.{ClientEvent}
use Rattle.mq_client.specs.declared.event.ClientEvent.TheVariants as event
use Rattle.mq_client.specs.Client.{StandsFor}
use Rattle.mq_client.specs.State.{State, Reads}
use Rattle.mq_outside.specs.Counts.{LinkCounts}
use Rattle.mq_outside.specs.Links.{LinkPast, and_then, marked, past_read}
use Rattle.mq_outside.specs.declared.LinkGot.TheVariants as got
use Rattle.mq_play.specs.Script.{IsFrontOf}
use Rattle.mq_udp.proofs.Going.{FedOn, fed_on}
use Rattle.mq_udp.proofs.Lists.{tells_more, tells_same}
use Rattle.mq_udp.proofs.Shows.{says_behind}
use Rattle.mq_udp.specs.declared.exchange.Exchange.{Exchange}
use Rattle.mq_udp.specs.declared.exchange.Heard.{Heard}
use Rattle.mq_udp.specs.declared.outcome.Outcome.{Outcome}
use Rattle.mq_udp.specs.declared.outcome.Outcome.TheVariants as outcome
use Rattle.mq_udp.specs.Exchanges.{EndCounts, GoesOn, Hears, HearsAll, HearsTo, IsAt, IsFed, IsQuiet, SaysEnd, ended_by}
use Rattle.mq_udp.specs.Moves.{Move, came_in, events_in, payloads_of, written_in}
use Rattle.mq_udp.specs.Talks.{Asking, Ends, HasEnded, IsDone, Tells, lines_text, shown_of}

-- ---- what was written of what was shown

-- where nothing was owed
pub from_none : (o owes shown written : List ℕ) → o ≡ [] → o ++ shown ≡ written ++ owes → shown ≡ written ++ owes
from_none o owes shown written none e = ap (λ (xs : List ℕ). xs ++ shown) (sym none) ∙ e

-- the sink failed when all was shown
pub hears_cut : (events : List ClientEvent) (left : ℕ) (shown written owes : List ℕ) (heard : Heard) (now : ℕ) → HearsAll events left shown (Ok heard) now → shown ≡ written ++ owes
    → IsFrontOf written (lines_text (take left (payloads_of events)))
hears_cut events left shown written owes heard now hears e = (owes, sym hears.0 ∙ e)

pub other_counts : (A B : Type 0) (before after : ℕ) (why : Outcome) → EndCounts {A = A} before after (Err why) → EndCounts {A = B} before after (Err why)
other_counts A B before after outcome.Done h = h
other_counts A B before after outcome.ReadFault h = h
other_counts A B before after outcome.WriteFault h = h
other_counts A B before after outcome.BadInput h = h
other_counts A B before after outcome.OutsideFault h = h
other_counts A B before after outcome.NoMemory h = h
other_counts A B before after outcome.Early h = h
other_counts A B before after outcome.Refused h = h
other_counts A B before after outcome.BadPeer h = h

pub quiet_counts : (A B : Type 0) (before : ℕ) (why : Outcome) → IsQuiet {A = A} (Err why) → EndCounts {A = B} before before (Err why)
quiet_counts A B before outcome.WriteFault q = absurd q
quiet_counts A B before outcome.Done q = refl
quiet_counts A B before outcome.ReadFault q = refl
quiet_counts A B before outcome.BadInput q = refl
quiet_counts A B before outcome.OutsideFault q = refl
quiet_counts A B before outcome.NoMemory q = refl
quiet_counts A B before outcome.Early q = refl
quiet_counts A B before outcome.Refused q = refl
quiet_counts A B before outcome.BadPeer q = refl

-- ---- an exchange ends

-- the link told that it ended
pub marked_ended : (o : Option Bool) → HasEnded (marked o)
marked_ended None = tt
marked_ended (Some was) = refl

no_more : (xs : List ℕ) → IsFrontOf (xs ++ []) xs
no_more xs = ([], sym (append-nil (xs ++ []) ∙ append-nil xs))

module _ {L : Type 0} where
  -- memory ran out
  pub ends_spent : (past : L → LinkPast) (counts : L → LinkCounts) (ask : Asking) (x : Exchange L) (moves : List Move) (s : State) (piece : List ℕ) → IsFed past counts ask x moves s piece
      → Ends ask (past x.link) (counts x.link).faults (shown_of ask moves ++ []) outcome.NoMemory
  ends_spent past counts ask x moves s piece fed =
      record { moves = moves; unfed = piece; s = s; talked = fed.talked; fed = tt; shows = no_more (shown_of ask moves); over = tt; failed = fed.works }

  -- a print stopped
  pub ends_cut : (past : L → LinkPast) (counts : L → LinkCounts) (ask : Asking) (y : Exchange L) (moves : List Move) (events : List ClientEvent) (left : ℕ) (shown : List ℕ) (why : Outcome) (now : ℕ)
      → GoesOn past counts ask moves (lines_text (take left (payloads_of events))) y → Hears events left shown (Err why) now
      → Ends ask (past y.link) (counts y.link).faults (shown_of ask moves ++ shown) why
  ends_cut past counts ask y moves events left shown why now on = by_why why where
    front : IsFrontOf shown (lines_text (take left (payloads_of events))) → IsFrontOf (shown_of ask moves ++ shown) (shown_of ask on.moves)
    front f = (f.0, on.shows ∙ ap (λ (xs : List ℕ). shown_of ask moves ++ xs) f.1 ∙ sym (append_assoc (shown_of ask moves) shown f.0))

    by_why : (why : Outcome) → Hears events left shown (Err why) now → Ends ask (past y.link) (counts y.link).faults (shown_of ask moves ++ shown) why
    by_why outcome.WriteFault h = record { moves = on.moves; unfed = []; s = on.s; talked = on.at.talked; fed = refl; shows = front h; over = tt; failed = on.at.works }
    by_why outcome.NoMemory h = record { moves = on.moves; unfed = []; s = on.s; talked = on.at.talked; fed = tt; shows = front h; over = tt; failed = on.at.works }
    by_why outcome.Done h = absurd h
    by_why outcome.ReadFault h = absurd h
    by_why outcome.BadInput h = absurd h
    by_why outcome.OutsideFault h = absurd h
    by_why outcome.Early h = absurd h
    by_why outcome.Refused h = absurd h
    by_why outcome.BadPeer h = absurd h

  -- an event says so
  pub ends_heard : (past : L → LinkPast) (counts : L → LinkCounts) (ask : Asking) (y : Exchange L) (moves : List Move) (events : List ClientEvent) (shown : List ℕ) (end : Outcome) (done : Bool)
      → (on : GoesOn past counts ask moves shown y) → events_in on.moves ≡ events_in moves ++ events → (IsTrue done ↔ IsDone ask on.moves on.s) → SaysEnd events (Some end)
      → Ends ask (past y.link) (counts y.link).faults (shown_of ask moves ++ shown) (ended_by end done)
  ends_heard past counts ask y moves events shown end done on told is says = by_end end done is says where
    all : (end : Outcome) → SaysEnd events (Some end) → SaysEnd (events_in on.moves) (Some end)
    all end h = let P : List ClientEvent → Type 0 = λ es. SaysEnd es (Some end) in subst P (sym told) (says_behind (events_in moves) events (Some end) h)

    by_end : (end : Outcome) (done : Bool) → (IsTrue done ↔ IsDone ask on.moves on.s) → SaysEnd events (Some end) → Ends ask (past y.link) (counts y.link).faults (shown_of ask moves ++ shown) (ended_by end done)
    by_end outcome.Early true is h = record { moves = on.moves; unfed = []; s = on.s; talked = on.at.talked; fed = refl; shows = (is.0 refl, sym on.shows); over = tt; failed = on.at.works }
    by_end outcome.Early false is h =
        record { moves = on.moves; unfed = []; s = on.s; talked = on.at.talked; fed = refl; shows = ((λ d. let e = is.1 d in absurd cc), sym on.shows); over = inl (all outcome.Early h); failed = on.at.works }
    by_end outcome.Refused done is h = record { moves = on.moves; unfed = []; s = on.s; talked = on.at.talked; fed = refl; shows = (all outcome.Refused h, sym on.shows); over = tt; failed = on.at.works }
    by_end outcome.BadPeer done is h = record { moves = on.moves; unfed = []; s = on.s; talked = on.at.talked; fed = refl; shows = (all outcome.BadPeer h, sym on.shows); over = tt; failed = on.at.works }
    by_end outcome.Done done is h = absurd h
    by_end outcome.ReadFault done is h = absurd h
    by_end outcome.WriteFault done is h = absurd h
    by_end outcome.BadInput done is h = absurd h
    by_end outcome.OutsideFault done is h = absurd h
    by_end outcome.NoMemory done is h = absurd h

  -- ---- one read

  -- the link gave a piece
  pub gave_more : (past : L → LinkPast) (counts : L → LinkCounts) (ask : Asking) (x : Exchange L) (link : L) (moves : List Move) (s : State) (buffer : List ℕ) (count : ℕ) → IsAt past counts ask x moves s
      → past link ≡ past_read (past x.link) buffer (got.Bytes count) → counts link ≡ counts x.link → IsFed past counts ask (record x { link = link }) moves s (take count buffer)
  gave_more past counts ask x link moves s buffer count at gave same =
      let piece = take count buffer in
      let Gave : LinkPast → Type 0 = λ p. Tells p.gave (came_in moves ++ piece) in
      let Took : LinkPast → Type 0 = λ p. Tells p.took (written_in moves) in
      record {
        stands = at.stands;
        talked = record {
          went = at.talked.went;
          gave = subst Gave (sym gave)
              (tells_same (and_then (past x.link).gave piece) ((came_in moves ++ []) ++ piece) (came_in moves ++ piece) (ap (λ (xs : List ℕ). xs ++ piece) (append-nil (came_in moves)))
              (tells_more (past x.link).gave (came_in moves ++ []) piece at.talked.gave));
          took = subst Took (sym gave) at.talked.took;
          sends = at.talked.sends;
        };
        payloads = at.payloads;
        sent = at.sent;
        within = at.within;
        left = at.left;
        works = ap (λ (n : LinkCounts). n.faults) same ∙ at.works;
        opened = at.opened;
      }

  -- the link gave nothing
  pub gave_none : (past : L → LinkPast) (counts : L → LinkCounts) (ask : Asking) (x : Exchange L) (link : L) (moves : List Move) (s : State) → IsAt past counts ask x moves s → (past link).gave ≡ (past x.link).gave
      → (past link).took ≡ (past x.link).took → (counts link).faults ≡ (counts x.link).faults → IsAt past counts ask (record x { link = link }) moves s
  gave_none past counts ask x link moves s at gave took same =
      let Gave : Option (List ℕ) → Type 0 = λ o. Tells o (came_in moves ++ []) in
      let Took : Option (List ℕ) → Type 0 = λ o. Tells o (written_in moves) in
      record {
        stands = at.stands;
        talked = record {
          went = at.talked.went;
          gave = subst Gave (sym gave) at.talked.gave;
          took = subst Took (sym took) at.talked.took;
          sends = at.talked.sends;
        };
        payloads = at.payloads;
        sent = at.sent;
        within = at.within;
        left = at.left;
        works = same ∙ at.works;
        opened = at.opened;
      }

  -- the link ended
  pub ends_early : (past : L → LinkPast) (counts : L → LinkCounts) (ask : Asking) (x : Exchange L) (moves : List Move) (s : State) → IsAt past counts ask x moves s → (IsDone ask moves s → ⊥)
      → HasEnded (past x.link).answered_end
      → Ends ask (past x.link) (counts x.link).faults (shown_of ask moves ++ []) outcome.Early
  ends_early past counts ask x moves s at not over =
      record { moves = moves; unfed = []; s = s; talked = at.talked; fed = refl; shows = (not, append-nil (shown_of ask moves)); over = inr over; failed = at.works }

  -- the link failed
  pub ends_failed : (past : L → LinkPast) (counts : L → LinkCounts) (ask : Asking) (x : Exchange L) (link : L) (moves : List Move) (s : State) → IsAt past counts ask x moves s → past link ≡ past x.link
      → (counts link).faults ≡ 1 → Ends ask (past link) (counts link).faults (shown_of ask moves ++ []) outcome.OutsideFault
  ends_failed past counts ask x link moves s at same failed =
      let Gave : LinkPast → Type 0 = λ p. Tells p.gave (came_in moves ++ []) in
      let Took : LinkPast → Type 0 = λ p. Tells p.took (written_in moves) in
      record {
        moves = moves;
        unfed = [];
        s = s;
        talked = record {
          went = at.talked.went;
          gave = subst Gave (sym same) at.talked.gave;
          took = subst Took (sym same) at.talked.took;
          sends = at.talked.sends;
        };
        fed = refl;
        shows = append-nil (shown_of ask moves);
        over = tt;
        failed = failed;
      }

  -- ---- one call behind the other

  -- what went on without a payload goes on
  pub goes_behind : (past : L → LinkPast) (counts : L → LinkCounts) (ask : Asking) (moves : List Move) (shown more : List ℕ) (x y : Exchange L) (on : GoesOn past counts ask moves shown x)
      → GoesOn past counts ask on.moves more y → GoesOn past counts ask moves (shown ++ more) y
  goes_behind past counts ask moves shown more x y on next = record {
    moves = next.moves;
    s = next.s;
    at = next.at;
    shows = next.shows ∙ ap (λ (xs : List ℕ). xs ++ more) on.shows ∙ append_assoc (shown_of ask moves) shown more;
  }

  pub ends_behind : (past : L → LinkPast) (counts : L → LinkCounts) (ask : Asking) (moves : List Move) (shown more : List ℕ) (x y : Exchange L) (why : Outcome) (on : GoesOn past counts ask moves shown x)
      → Ends ask (past y.link) (counts y.link).faults (shown_of ask on.moves ++ more) why → Ends ask (past y.link) (counts y.link).faults (shown_of ask moves ++ (shown ++ more)) why
  ends_behind past counts ask moves shown more x y why on ends =
      let P : List ℕ → Type 0 = λ out. Ends ask (past y.link) (counts y.link).faults out why in
      subst P (ap (λ (xs : List ℕ). xs ++ more) on.shows ∙ append_assoc (shown_of ask moves) shown more) ends

  -- ---- one piece

  -- its payloads were shown
  pub took_on : (past : L → LinkPast) (counts : L → LinkCounts) (ask : Asking) (x y : Exchange L) (moves : List Move) (s t : State) (piece : List ℕ) (events : List ClientEvent) (shown : List ℕ) (end : Option Outcome)
      → IsFed past counts ask x moves s piece → Reads s piece events t → StandsFor y.client t → y.link ≡ x.link → y.payloads ≡ x.payloads → y.sent ≡ x.sent → HearsTo events x.left shown end y.left
      → (y.is_open ≡ true → (x.is_open ≡ true) ⊎ Contains events event.Opened) → FedOn past counts ask moves events shown y
  took_on past counts ask x y moves s t piece events shown end fed reads stands link payloads same hears opens =
      let f = fed_on past counts ask x y moves s t piece events fed reads stands link payloads same hears.1 opens in
      let on : GoesOn past counts ask moves shown y =
      record { moves = f.on.moves; s = f.on.s; at = f.on.at; shows = f.on.shows ∙ ap (λ (xs : List ℕ). shown_of ask moves ++ xs) (sym hears.0) } in
      record { on = on; told = f.told }

  pub took_goes : (past : L → LinkPast) (counts : L → LinkCounts) (ask : Asking) (x y : Exchange L) (moves : List Move) (s t : State) (piece : List ℕ) (events : List ClientEvent) (shown : List ℕ) (end : Option Outcome)
      → IsFed past counts ask x moves s piece → Reads s piece events t → StandsFor y.client t → y.link ≡ x.link → y.payloads ≡ x.payloads → y.sent ≡ x.sent → HearsTo events x.left shown end y.left
      → (y.is_open ≡ true → (x.is_open ≡ true) ⊎ Contains events event.Opened) → GoesOn past counts ask moves shown y
  took_goes past counts ask x y moves s t piece events shown end fed reads stands link payloads same hears opens =
      (took_on past counts ask x y moves s t piece events shown end fed reads stands link payloads same hears opens).on

  -- and an event says that it ends
  pub ends_took : (past : L → LinkPast) (counts : L → LinkCounts) (ask : Asking) (x y : Exchange L) (moves : List Move) (s t : State) (piece : List ℕ) (events : List ClientEvent) (shown : List ℕ) (end : Outcome)
      (done : Bool) (why : Outcome) → IsFed past counts ask x moves s piece → Reads s piece events t → StandsFor y.client t → y.link ≡ x.link → y.payloads ≡ x.payloads → y.sent ≡ x.sent
      → HearsTo events x.left shown (Some end) y.left → (y.is_open ≡ true → (x.is_open ≡ true) ⊎ Contains events event.Opened) → ((ask : Asking) (moves : List Move) (s : State) → IsAt past counts ask y moves s → IsTrue done ↔ IsDone ask moves s) → why ≡ ended_by end done
      → Ends ask (past y.link) (counts y.link).faults (shown_of ask moves ++ shown) why
  ends_took past counts ask x y moves s t piece events shown end done why fed reads stands link payloads same hears opens decides is =
      let f = took_on past counts ask x y moves s t piece events shown (Some end) fed reads stands link payloads same hears opens in
      let P : Outcome → Type 0 = λ o. Ends ask (past y.link) (counts y.link).faults (shown_of ask moves ++ shown) o in
      subst P (sym is) (ends_heard past counts ask y moves events shown end done f.on f.told (decides ask f.on.moves f.on.s f.on.at) hears.2)

  -- ---- one round behind the other

  -- wherever it stood before, it goes on from there, with these payloads more shown
  pub record Follows (past : L → LinkPast) (counts : L → LinkCounts) (x y : Exchange L) (shown : List ℕ) : Type 0 where
    pub goes : (ask : Asking) (moves : List Move) (s : State) → IsAt past counts ask x moves s → GoesOn past counts ask moves shown y

  pub follows_none : (past : L → LinkPast) (counts : L → LinkCounts) (x : Exchange L) → Follows past counts x x []
  follows_none past counts x = record { goes = λ ask moves s at. record { moves = moves; s = s; at = at; shows = sym (append-nil (shown_of ask moves)) } }

  pub follows_more : (past : L → LinkPast) (counts : L → LinkCounts) (x y z : Exchange L) (shown more : List ℕ) → Follows past counts x y shown
      → ((ask : Asking) (moves : List Move) (s : State) → IsAt past counts ask y moves s → GoesOn past counts ask moves more z) → Follows past counts x z (shown ++ more)
  follows_more past counts x y z shown more first next = record {
    goes = λ ask moves s at.
        let on = first.goes ask moves s at in
        goes_behind past counts ask moves shown more y z on (next ask on.moves on.s on.at);
  }

  -- it ends there
  pub follows_ends : (past : L → LinkPast) (counts : L → LinkCounts) (x y z : Exchange L) (shown more : List ℕ) (why : Outcome) → Follows past counts x y shown
      → ((ask : Asking) (moves : List Move) (s : State) → IsAt past counts ask y moves s → Ends ask (past z.link) (counts z.link).faults (shown_of ask moves ++ more) why)
      → (ask : Asking) (moves : List Move) (s : State) → IsAt past counts ask x moves s → Ends ask (past z.link) (counts z.link).faults (shown_of ask moves ++ (shown ++ more)) why
  follows_ends past counts x y z shown more why first next = λ ask moves s at.
      let on = first.goes ask moves s at in
      ends_behind past counts ask moves shown more y z why on (next ask on.moves on.s on.at)
