use Rattle.std.proofs.Common.{◌≡◌, ℕ, ◌∷◌, List, ◌++◌, length, take, drop, min, ap, subst, ◌∙◌, arith}
use Rattle.mq_streams.specs.History.{Sent}
use Rattle.mq_streams.specs.Answers.{room_of}
use Rattle.mq_streams.specs.Stand.{StandFor}
use Rattle.mq_client.specs.Sending.{sendable, data_frames}
use Rattle.mq_client.proofs.Goings.{put_owed, put_within}
use Rattle.mq_client.proofs.parts.Parts.send_allowed.Goals as goal

pub returns-clause-ok : goal.returns-clause-ok
returns-clause-ok c = λ s goes.
    let is = goes.decodes.serves in
    let waiting = c.as_slice-waiting.result.now in
    let waits : waiting ≡ s.waits = c.as_slice-waiting.ensures ∙ is.waits_are in
    let room : c.room.result ≡ room_of 1 s.history = c.room.ensures s.history is.streams is.live in
    let count : c.min-count.result ≡ sendable s = c.min-count.ensures ∙ ap (λ (n : ℕ). min (length waiting) n) room ∙ ap (λ (l : List ℕ). min (length l) (room_of 1 s.history)) waits in
    let took = c.take_room.ensures s.history is.streams is.live in
    let taken : c.take_room.result ≡ sendable s = took.0 ∙ omega (arith, count) in
    let bytes : List ℕ = data_frames (take (sendable s) s.waits) in
    let front : c.split_at.result.0.now ≡ take (sendable s) s.waits = c.split_at.ensures.front ∙ ap (λ (n : ℕ). take n waiting) count ∙ ap (λ (l : List ℕ). take (sendable s) l) waits in
    let put = c.in_ok-put_data.ensures.ok ∙ ap (λ (b : List ℕ). c.args.self.now.owed ++ data_frames b) front in
    record {
      decodes = record {
        serves = record {
          streams = subst (λ (n : ℕ). StandFor c.take_room.new.self (Sent 1 n ∷ s.history)) taken took.1;
          live = is.live;
          waits_are = c.take.ensures ∙ ap (λ (n : ℕ). drop n c.args.self.now.waits) count ∙ ap (λ (l : List ℕ). drop (sendable s) l) is.waits_are;
          owed_is = put_owed s.written s.put bytes c.args.self.now.owed c.put_data.new.self is.within is.owed_is put;
          within = put_within s.written s.put bytes is.within;
        };
        decoder = goes.decodes.decoder;
        stage_is = goes.decodes.stage_is;
      };
      block = goes.block;
    }
