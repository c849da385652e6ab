-- One move more.
use Rattle.std.proofs.Common.{◌≡◌, ℕ, suc, ◌+◌, ◌-◌, ◌≤◌, ◌⊎◌, true, List, [], ◌∷◌, ◌++◌, length, take, drop, slice_get, Some, refl, sym, ap, subst, ◌∙◌, arith, append_assoc, append-nil, inl, inr}
use Rattle.std.proofs.lemmas.List.{length-append, length-take-le, take-append-drop}
use Rattle.std.proofs.lemmas.List.Elements.{Contains-append_left, Contains-append_right}
use Rattle.mq_client.specs.Client.{StandsFor}
use Rattle.mq_client.specs.declared.event.ClientEvent.{ClientEvent}
use Rattle.mq_client.specs.declared.event.ClientEvent.TheVariants as event
use Rattle.mq_client.specs.State.{State, Http1, Http2, Reads, owed, sent, told, wrote}
use Rattle.mq_client.specs.Talk.{Talk}
use Rattle.mq_outside.specs.Counts.{LinkCounts}
use Rattle.mq_outside.specs.Links.{LinkPast, and_then}
use Rattle.mq_udp.proofs.Lists.{take_both, take_next, lines_both, tells_more, tells_same}
use Rattle.mq_udp.specs.declared.exchange.Exchange.{Exchange}
use Rattle.mq_udp.specs.Exchanges.{GoesOn, IsAt, IsFed}
use Rattle.mq_udp.specs.Moves.{Move, Fed, Sent, Wrote, Does, Goes, came_in, events_in, payload_of, payloads_of, sent_in, with_payload, written_in}
use Rattle.mq_udp.specs.Talks.{Asking, Tells, lines_text, shown_of}
use Rattle.std.specs.Prelude.{Option, None, Contains}

-- ---- what was told

told_after : (s : State) (piece : List ℕ) (events : List ClientEvent) (t : State) → Reads s piece events t → told t ≡ told s ++ events
told_after (Http1 s) piece events t reads = ap (λ (u : State). told u) reads.1
told_after (Http2 s) piece events t reads = ap (λ (u : State). told u) reads.2 ∙ ap (λ (u : Talk). u.told) reads.1.state_is

told_sent : (s : State) (payload : List ℕ) → told (sent s payload) ≡ told s
told_sent (Http1 s) payload = refl
told_sent (Http2 s) payload = refl

told_wrote : (s : State) (count : ℕ) → told (wrote s count) ≡ told s
told_wrote (Http1 s) count = refl
told_wrote (Http2 s) count = refl

-- so the opening was told in the next state, where it was in this one
has_opened : (s t : State) → told t ≡ told s → Contains (told s) event.Opened → Contains (told t) event.Opened
has_opened s t same h = let P : List ClientEvent → Type 0 = λ es. Contains es event.Opened in subst P (sym same) h

-- ----

goes_more : (s : State) (moves : List Move) (t : State) (m : Move) (u : State) → Goes s moves t → Does t m u → Goes s (moves ++ m ∷ []) u
goes_more s [] t m u went does = let P : State → Type 0 = λ from. Does from m u in (u, subst P went does, refl)
goes_more s (n ∷ moves) t m u went does = (went.0, went.1, goes_more went.0 moves t m u went.2 does)

came_both : (xs ys : List Move) → came_in (xs ++ ys) ≡ came_in xs ++ came_in ys
came_both [] ys = refl
came_both (Fed piece events ∷ xs) ys = ap (λ (bs : List ℕ). piece ++ bs) (came_both xs ys) ∙ sym (append_assoc piece (came_in xs) (came_in ys))
came_both (Sent payload ∷ xs) ys = came_both xs ys
came_both (Wrote bytes ∷ xs) ys = came_both xs ys

written_both : (xs ys : List Move) → written_in (xs ++ ys) ≡ written_in xs ++ written_in ys
written_both [] ys = refl
written_both (Fed piece events ∷ xs) ys = written_both xs ys
written_both (Sent payload ∷ xs) ys = written_both xs ys
written_both (Wrote bytes ∷ xs) ys = ap (λ (bs : List ℕ). bytes ++ bs) (written_both xs ys) ∙ sym (append_assoc bytes (written_in xs) (written_in ys))

sent_both : (xs ys : List Move) → sent_in (xs ++ ys) ≡ sent_in xs ++ sent_in ys
sent_both [] ys = refl
sent_both (Fed piece events ∷ xs) ys = sent_both xs ys
sent_both (Sent payload ∷ xs) ys = ap (λ (ps : List (List ℕ)). payload ∷ ps) (sent_both xs ys)
sent_both (Wrote bytes ∷ xs) ys = sent_both xs ys

pub events_both : (xs ys : List Move) → events_in (xs ++ ys) ≡ events_in xs ++ events_in ys
events_both [] ys = refl
events_both (Fed piece events ∷ xs) ys = ap (λ (es : List ClientEvent). events ++ es) (events_both xs ys) ∙ sym (append_assoc events (events_in xs) (events_in ys))
events_both (Sent payload ∷ xs) ys = events_both xs ys
events_both (Wrote bytes ∷ xs) ys = events_both xs ys

with_both : (o : Option (List ℕ)) (xs ys : List (List ℕ)) → with_payload o (xs ++ ys) ≡ with_payload o xs ++ ys
with_both None xs ys = refl
with_both (Some payload) xs ys = refl

pub payloads_both : (xs ys : List ClientEvent) → payloads_of (xs ++ ys) ≡ payloads_of xs ++ payloads_of ys
payloads_both [] ys = refl
payloads_both (e ∷ xs) ys = ap (λ (ps : List (List ℕ)). with_payload (payload_of e) ps) (payloads_both xs ys) ∙ with_both (payload_of e) (payloads_of xs) (payloads_of ys)

-- a move without an event
quiet_events : (moves : List Move) (m : Move) → events_in (m ∷ []) ≡ [] → events_in (moves ++ m ∷ []) ≡ events_in moves
quiet_events moves m none = events_both moves (m ∷ []) ∙ ap (λ (es : List ClientEvent). events_in moves ++ es) none ∙ append-nil (events_in moves)

quiet_shown : (ask : Asking) (moves : List Move) (m : Move) → events_in (m ∷ []) ≡ [] → shown_of ask (moves ++ m ∷ []) ≡ shown_of ask moves ++ []
quiet_shown ask moves m none =
    ap (λ (es : List ClientEvent). lines_text (take ask.count (payloads_of es))) (quiet_events moves m none) ∙ sym (append-nil (shown_of ask moves))

-- ---- exchanges

module _ {L : Type 0} where
  -- nothing was done
  pub stays_at : (past : L → LinkPast) (counts : L → LinkCounts) (ask : Asking) (x : Exchange L) (moves : List Move) (s : State) → IsAt past counts ask x moves s → GoesOn past counts ask moves [] x
  stays_at past counts ask x moves s at = record { moves = moves; s = s; at = at; shows = sym (append-nil (shown_of ask moves)) }

  -- some bytes were written
  pub wrote_on : (past : L → LinkPast) (counts : L → LinkCounts) (ask : Asking) (x y : Exchange L) (moves : List Move) (s : State) (bytes : List ℕ) (count : ℕ) → IsAt past counts ask x moves s
      → bytes ≡ owed s → count ≤ length bytes → StandsFor y.client (wrote s count) → past y.link ≡ record (past x.link) { took = and_then (past x.link).took (take count bytes) }
      → (counts y.link).faults ≡ (counts x.link).faults → y.payloads ≡ x.payloads → y.sent ≡ x.sent → y.left ≡ x.left → y.is_open ≡ x.is_open → GoesOn past counts ask moves [] y
  wrote_on past counts ask x y moves s bytes count at is within stands link works payloads same left ready =
      let front = take count bytes in
      let size : length front ≡ count = length-take-le count bytes within in
      let m = Wrote front in
      let Gave : LinkPast → Type 0 = λ p. Tells p.gave (came_in (moves ++ m ∷ []) ++ []) in
      let Took : LinkPast → Type 0 = λ p. Tells p.took (written_in (moves ++ m ∷ [])) in
      let came : came_in moves ++ [] ≡ came_in (moves ++ m ∷ []) ++ [] = ap (λ (bs : List ℕ). bs ++ []) (sym (came_both moves (m ∷ []) ∙ append-nil (came_in moves))) in
      let all : written_in (moves ++ m ∷ []) ≡ written_in moves ++ front = written_both moves (m ∷ []) ∙ ap (λ (bs : List ℕ). written_in moves ++ bs) (append-nil front) in
      let sends : sent_in (moves ++ m ∷ []) ≡ sent_in moves = sent_both moves (m ∷ []) ∙ append-nil (sent_in moves) in
      record {
        moves = moves ++ m ∷ [];
        s = wrote s count;
        at = record {
          stands = stands;
          talked = record {
            went = goes_more _ moves s m (wrote s count) at.talked.went (record { rest = drop count bytes; owed_is = sym is ∙ sym (take-append-drop count bytes); is = ap (λ (n : ℕ). wrote s n) (sym size) });
            gave = subst Gave (sym link) (tells_same (past x.link).gave (came_in moves ++ []) (came_in (moves ++ m ∷ []) ++ []) came at.talked.gave);
            took = subst Took (sym link) (tells_same (and_then (past x.link).took front) (written_in moves ++ front) (written_in (moves ++ m ∷ [])) (sym all) (tells_more (past x.link).took (written_in moves) front at.talked.took));
            sends = (at.talked.sends.0, at.talked.sends.1 ∙ ap (λ (ps : List (List ℕ)). ps ++ at.talked.sends.0) (sym sends));
          };
          payloads = ap (λ (v : _). v.items) payloads ∙ at.payloads;
          sent = sends ∙ at.sent ∙ ap (λ (n : ℕ). take n ask.payloads) (sym same);
          within = omega (arith, same, at.within);
          left = left ∙ at.left ∙ ap (λ (es : List ClientEvent). ask.count - length (payloads_of es)) (sym (quiet_events moves m refl));
          works = works ∙ at.works;
          opened = λ is_open. has_opened s (wrote s count) (told_wrote s count) (at.opened (sym ready ∙ is_open));
        };
        shows = quiet_shown ask moves m refl;
      }

  -- the next payload was sent
  pub sent_on : (past : L → LinkPast) (counts : L → LinkCounts) (ask : Asking) (x y : Exchange L) (moves : List Move) (s : State) (payload : List ℕ) → IsAt past counts ask x moves s
      → slice_get x.payloads.items x.sent ≡ Some payload → StandsFor y.client (sent s payload) → y.link ≡ x.link → y.payloads ≡ x.payloads → y.sent ≡ x.sent + 1 → y.left ≡ x.left
      → y.sent ≤ length ask.payloads → x.is_open ≡ true → GoesOn past counts ask moves [] y
  sent_on past counts ask x y moves s payload at next stands link payloads count left within ready =
      let m = Sent payload in
      let Gave : L → Type 0 = λ l. Tells (past l).gave (came_in (moves ++ m ∷ []) ++ []) in
      let Took : L → Type 0 = λ l. Tells (past l).took (written_in (moves ++ m ∷ [])) in
      let came : came_in moves ++ [] ≡ came_in (moves ++ m ∷ []) ++ [] = ap (λ (bs : List ℕ). bs ++ []) (sym (came_both moves (m ∷ []) ∙ append-nil (came_in moves))) in
      let wrote : written_in moves ≡ written_in (moves ++ m ∷ []) = sym (written_both moves (m ∷ []) ∙ append-nil (written_in moves)) in
      let one : suc x.sent ≡ y.sent = omega (arith, count) in
      let here : slice_get ask.payloads x.sent ≡ Some payload = ap (λ (ps : List (List ℕ)). slice_get ps x.sent) (sym at.payloads) ∙ next in
      let more : sent_in (moves ++ m ∷ []) ≡ take y.sent ask.payloads =
      sent_both moves (m ∷ []) ∙ ap (λ (ps : List (List ℕ)). ps ++ payload ∷ []) at.sent ∙ take_next x.sent ask.payloads payload here ∙ ap (λ (n : ℕ). take n ask.payloads) one in
      record {
        moves = moves ++ m ∷ [];
        s = sent s payload;
        at = record {
          stands = stands;
          talked = record {
            went = goes_more _ moves s m (sent s payload) at.talked.went (at.opened ready, refl);
            gave = subst Gave (sym link) (tells_same (past x.link).gave (came_in moves ++ []) (came_in (moves ++ m ∷ []) ++ []) came at.talked.gave);
            took = subst Took (sym link) (tells_same (past x.link).took (written_in moves) (written_in (moves ++ m ∷ [])) wrote at.talked.took);
            sends = (drop y.sent ask.payloads, sym (take-append-drop y.sent ask.payloads) ∙ ap (λ (ps : List (List ℕ)). ps ++ drop y.sent ask.payloads) (sym more));
          };
          payloads = ap (λ (v : _). v.items) payloads ∙ at.payloads;
          sent = more;
          within = within;
          left = left ∙ at.left ∙ ap (λ (es : List ClientEvent). ask.count - length (payloads_of es)) (sym (quiet_events moves m refl));
          works = ap (λ (l : L). (counts l).faults) link ∙ at.works;
          opened = λ is_open. has_opened s (sent s payload) (told_sent s payload) (at.opened ready);
        };
        shows = quiet_shown ask moves m refl;
      }

  -- it goes on, behind these events
  pub record FedOn (past : L → LinkPast) (counts : L → LinkCounts) (ask : Asking) (before : List Move) (events : List ClientEvent) (shown : List ℕ) (x : Exchange L) : Type 0 where
    pub on : GoesOn past counts ask before shown x
    pub told : events_in on.moves ≡ events_in before ++ events

  -- a piece was fed, and its payloads were shown
  pub fed_on : (past : L → LinkPast) (counts : L → LinkCounts) (ask : Asking) (x y : Exchange L) (moves : List Move) (s t : State) (piece : List ℕ) (events : List ClientEvent) → IsFed past counts ask x moves s piece
      → Reads s piece events t → StandsFor y.client t → y.link ≡ x.link → y.payloads ≡ x.payloads → y.sent ≡ x.sent → y.left ≡ x.left - length (payloads_of events)
      → (y.is_open ≡ true → (x.is_open ≡ true) ⊎ Contains events event.Opened) → FedOn past counts ask moves events (lines_text (take x.left (payloads_of events))) y
  fed_on past counts ask x y moves s t piece events at reads stands link payloads same left opens =
      let m = Fed piece events in
      let Gave : L → Type 0 = λ l. Tells (past l).gave (came_in (moves ++ m ∷ []) ++ []) in
      let Took : L → Type 0 = λ l. Tells (past l).took (written_in (moves ++ m ∷ [])) in
      let came : came_in moves ++ piece ≡ came_in (moves ++ m ∷ []) ++ [] =
      ap (λ (bs : List ℕ). came_in moves ++ bs) (sym (append-nil piece)) ∙ sym (came_both moves (m ∷ [])) ∙ sym (append-nil (came_in (moves ++ m ∷ []))) in
      let wrote : written_in moves ≡ written_in (moves ++ m ∷ []) = sym (written_both moves (m ∷ []) ∙ append-nil (written_in moves)) in
      let sends : sent_in (moves ++ m ∷ []) ≡ sent_in moves = sent_both moves (m ∷ []) ∙ append-nil (sent_in moves) in
      let before = payloads_of (events_in moves) in
      let later = payloads_of events in
      let heard : events_in (moves ++ m ∷ []) ≡ events_in moves ++ events = events_both moves (m ∷ []) ∙ ap (λ (es : List ClientEvent). events_in moves ++ es) (append-nil events) in
      let all : payloads_of (events_in (moves ++ m ∷ [])) ≡ before ++ later = ap (λ (es : List ClientEvent). payloads_of es) heard ∙ payloads_both (events_in moves) events in
      let size : length (payloads_of (events_in (moves ++ m ∷ []))) ≡ length before + length later = ap (λ (ps : List (List ℕ)). length ps) all ∙ length-append before later in
      let on : GoesOn past counts ask moves (lines_text (take x.left later)) y = record {
        moves = moves ++ m ∷ [];
        s = t;
        at = record {
          stands = stands;
          talked = record {
            went = goes_more _ moves s m t at.talked.went reads;
            gave = subst Gave (sym link) (tells_same (past x.link).gave (came_in moves ++ piece) (came_in (moves ++ m ∷ []) ++ []) came at.talked.gave);
            took = subst Took (sym link) (tells_same (past x.link).took (written_in moves) (written_in (moves ++ m ∷ [])) wrote at.talked.took);
            sends = (at.talked.sends.0, at.talked.sends.1 ∙ ap (λ (ps : List (List ℕ)). ps ++ at.talked.sends.0) (sym sends));
          };
          payloads = ap (λ (v : _). v.items) payloads ∙ at.payloads;
          sent = sends ∙ at.sent ∙ ap (λ (n : ℕ). take n ask.payloads) (sym same);
          within = omega (arith, same, at.within);
          left = omega (arith, left, at.left, size);
          works = ap (λ (l : L). (counts l).faults) link ∙ at.works;
          opened = λ is_open.
              let P : List ClientEvent → Type 0 = λ es. Contains es event.Opened in
              subst P (sym (told_after s piece events t reads)) (elim (opens is_open) [
                | inl was ↦ Contains-append_left (told s) events event.Opened (at.opened was)
                | inr new ↦ Contains-append_right (told s) events event.Opened new
              ]);
        };
        shows =
            ap (λ (ps : List (List ℕ)). lines_text (take ask.count ps)) all
            ∙ ap (λ (ps : List (List ℕ)). lines_text ps) (take_both ask.count before later)
            ∙ lines_both (take ask.count before) (take (ask.count - length before) later)
            ∙ ap (λ (n : ℕ). shown_of ask moves ++ lines_text (take n later)) (sym at.left);
      } in
      record { on = on; told = heard }
