-- Each read has an outcome.
use Rattle.std.proofs.Common.{ℕ, Bool, true, false, ltb, List, [], ◌∷◌, ◌++◌, length, Option, Some, None, refl, subst, inl, inr}
use Rattle.std.proofs.lemmas.Bool.{cases_Bool}
use Rattle.mq_frame.specs.declared.frame.Frame.{Frame}
use Rattle.mq_frame.specs.declared.frame.Frame.TheVariants as frame
use Rattle.mq_frame.specs.Laws.{IsReadable, StaysRead}
use Rattle.mq_frame.specs.Stream.{FramesOf}
use Rattle.mq_hpack.specs.Outcome as hpack
use Rattle.mq_streams.specs.Answers.{begun, after_begin}
use Rattle.mq_streams.specs.declared.answers.Began.{Began}
use Rattle.mq_streams.specs.declared.answers.Began.TheVariants as began
use Rattle.mq_h2.specs.declared.block.OpenBlock.{OpenBlock}
use Rattle.mq_h2.specs.declared.event.StreamEvent.{StreamEvent}
use Rattle.mq_h2.specs.Codes.{max_block}
use Rattle.mq_h2.specs.State.{State, with_history}
use Rattle.mq_h2.specs.Frames.{Did, Is, on_block, OnSome, OnHeaders, OnContinuation, Does, DoAll}
use Rattle.mq_h2.specs.Reading.{lasting, drained, Reads, ReadsWhile}
use Rattle.mq_h2.specs.Laws.{HasOutcome}

-- what comes of something: events and a state
record Comes (R : List StreamEvent → State → Type 0) : Type 0 where
  events : List StreamEvent
  after : State
  so : R events after

did : (d : Did) → Comes (Is d)
did d = record { events = d.events; after = d.after; so = (refl, refl) }

module _ (blocks : hpack.IsReadable) where
  some_comes : (many whole : Bool) (b : OpenBlock) (s : State) → Comes (OnSome many whole b s)
  some_comes true whole b s = let d = did _ in record { events = d.events; after = d.after; so = d.so }
  some_comes false true b s =
      let r = blocks s.table b.bytes in
      let d : Did = on_block r.0 b s in
      record { events = d.events; after = d.after; so = (r.0, r.1, (refl, refl)) }
  some_comes false false b s = let d = did _ in record { events = d.events; after = d.after; so = d.so }

  headers_come : (k : Began) (id : ℕ) (block : List ℕ) (end whole : Bool) (s : State) → Comes (OnHeaders k id block end whole s)
  headers_come began.BadId id block end whole s = did _
  headers_come began.Live id block end whole s =
      some_comes (ltb max_block (length block)) whole (record { stream = id; began = began.Live; end = end; bytes = block }) (with_history (after_begin began.Live id s.history) s)
  headers_come began.Refused id block end whole s =
      some_comes (ltb max_block (length block)) whole (record { stream = id; began = began.Refused; end = end; bytes = block }) (with_history (after_begin began.Refused id s.history) s)
  headers_come began.Old id block end whole s =
      some_comes (ltb max_block (length block)) whole (record { stream = id; began = began.Old; end = end; bytes = block }) (with_history (after_begin began.Old id s.history) s)

  continuation_comes : (b : Option OpenBlock) (block : List ℕ) (whole : Bool) (s : State) → Comes (OnContinuation b block whole s)
  continuation_comes None block whole s = did _
  continuation_comes (Some b) block whole s = some_comes (ltb max_block (length (b.bytes ++ block))) whole (record b { bytes = b.bytes ++ block }) s

  frame_comes : (f : Frame) (s : State) → Comes (Does f s)
  frame_comes (frame.Content id bytes len end) s = did _
  frame_comes (frame.Headers id block end whole) s = headers_come (begun id s.history) id block end whole s
  frame_comes (frame.Continuation id block whole) s = continuation_comes s.block block whole s
  frame_comes (frame.Priority id) s = did _
  frame_comes (frame.Reset id code) s = did _
  frame_comes (frame.Settings ack pairs) s = did _
  frame_comes (frame.Ping ack bytes) s = did _
  frame_comes (frame.GoAway last code) s = did _
  frame_comes (frame.Window id grow) s = did _
  frame_comes (frame.Unknown kind id) s = did _
  frame_comes (frame.Fault code) s = did _

  all_come : (fs : List Frame) (s : State) → Comes (DoAll fs s)
  all_come [] s = record { events = []; after = s; so = (refl, refl) }
  all_come (f ∷ fs) s =
      let first = frame_comes f s in
      let later = all_come fs first.after in
      elim (cases_Bool s.ended) [
        | inl over ↦ record { events = []; after = s; so = inl (over, refl, refl) }
        | inr on ↦ record {
          events = first.events ++ later.events;
          after = later.after;
          so = inr (on, first.events, first.after, later.events, first.so, later.so, refl);
        }
      ]

  module _ (frames : IsReadable) (stays : StaysRead) where
    reads_come : (s : State) (piece : List ℕ) → Comes (Reads s piece)
    reads_come s piece =
        let were = frames s.read in
        let all = frames (s.read ++ piece) in
        let more = stays s.read piece were.0 all.0 were.1 all.1 in
        let done = all_come more.0 s in
        let told = done.events in
        record {
          events = lasting told;
          after = record done.after { read = s.read ++ piece; history = drained told told done.after.history };
          so = record {
            earlier = were.0;
            frames = more.0;
            were = were.1;
            are = subst (λ (fs : List Frame). FramesOf (s.read ++ piece) fs) more.1 all.1;
            told = told;
            met = done.after;
            did = done.so;
            events_are = refl;
            state_is = refl;
          };
        }

    while_comes : (ended : Bool) (s : State) (piece : List ℕ) → Comes (ReadsWhile ended s piece)
    while_comes true s piece = record { events = []; after = s; so = (refl, refl) }
    while_comes false s piece = let c = reads_come s piece in record { events = c.events; after = c.after; so = c.so }

    pub each_comes : HasOutcome
    each_comes s piece = let c = while_comes s.ended s piece in (c.events, c.after, c.so)
