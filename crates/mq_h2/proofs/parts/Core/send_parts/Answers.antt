use Rattle.std.proofs.Common.{◌≡◌, ◌<◌, ◌≤◌, ◌∷◌, ◌++◌, List, ℕ, Bool, true, false, length, take, ltb, cond, refl, sym, ap, subst, ◌∙◌, arith}
use Rattle.std.proofs.lemmas.Bool.{lt-ltb}
use Rattle.std.proofs.lemmas.List.{length-append, length-take, length-take-le}
use Rattle.mq_frame.specs.declared.frame.Frame.TheVariants as frame
use Rattle.mq_frame.specs.Writing.{spelling_of}
use Rattle.mq_streams.specs.History.{Sent, is_live}
use Rattle.mq_streams.specs.Answers.{room_of}
use Rattle.mq_streams.specs.Stand.{StandFor}
use Rattle.mq_streams.specs.declared.streams.Streams.{Streams}
use Rattle.mq_h2.specs.declared.parts.Core.{Core}
use Rattle.mq_h2.specs.State.{State}
use Rattle.mq_h2.specs.Acts.{data_room, frame_room, sends}
use Rattle.mq_h2.specs.Doing.{PutsWithin, IsReady}
use Rattle.mq_h2.proofs.Cores.{put_owed, put_given}
use Rattle.mq_h2.proofs.Rooms.{data_len, sends_within}
use Rattle.mq_h2.proofs.parts.Core.send_parts.Goals as goal

-- a stream with room is live
live_by : (lives : Bool) (n : ℕ) → 0 < cond lives n 0 → lives ≡ true
live_by true n some = refl
live_by false n some = absurd (omega (arith, some))

pub put_data-requires : goal.put_data-requires
put_data-requires c =
    let a = c.args in
    let count : ℕ = c.data_room-count.result in
    let all : List ℕ = a.front.now ++ a.rest.now in
    let same = ap (λ (x : List ℕ). length x) c.first_of.ensures ∙ length-take count all in
    omega (arith, same, length-append c.first_of.result.0.now c.first_of.result.1.now, c.data_room-count.ensures.fits)

pub returns-clause-acts : goal.returns-clause-acts
returns-clause-acts c = λ s is.
    let a = c.args in
    let id : ℕ = a.stream in
    let h = s.history in
    let serves = is.serves in
    let all : List ℕ = a.front.now ++ a.rest.now in
    let count : ℕ = c.data_room-count.result in
    let room : count ≡ data_room id (length all) s = c.data_room-count.ensures.room s serves ∙ ap (λ (n : ℕ). data_room id n s) (sym (length-append a.front.now a.rest.now)) in
    let some = c.if-count-eq0.false in
    let lives : is_live id h ≡ true = live_by (is_live id h) (frame_room id (length all) s) (let x = subst (λ (n : ℕ). 0 < n) room (omega (arith, some)) in x) in
    let least = sends_within id (length all) s in
    let took = c.take_room-taken.ensures h serves.streams lives in
    let within : count ≤ room_of id h = subst (λ (n : ℕ). n ≤ room_of id h) (sym room) (let x = least in omega (arith, x.0, x.1)) in
    let fits : count ≤ length all = subst (λ (n : ℕ). n ≤ length all) (sym room) least.3 in
    let taken : c.take_room-taken.result ≡ count = omega (arith, took.0, within) in
    let bytes : List ℕ = take c.take_room-taken.result all in
    let piece : List ℕ = c.first_of.result.0.now ++ c.first_of.result.1.now in
    let same : piece ≡ bytes = c.first_of.ensures ∙ ap (λ (n : ℕ). take n all) (sym taken) in
    let len : length bytes ≡ c.take_room-taken.result = length-take-le c.take_room-taken.result all (omega (arith, taken, fits)) in
    let flen : length piece ≡ length bytes = ap (λ (x : List ℕ). length x) same in
    let text : List ℕ = spelling_of (frame.Content id bytes (length bytes) false) in
    let e : Core = record { decoder = a.self.now.decoder; encoder = a.self.now.encoder; streams = c.take_room-taken.new.self; block = a.self.now.block; owed = c.reserve.new.self } in
    let d : Core = c.put_data.new.self in
    let space = c.in_ok-reserve.ensures.ok in
    let puts : PutsWithin text e d =
    subst (λ (x : List ℕ). PutsWithin (spelling_of (frame.Content id x (length x) false)) e d) same (c.put_data.ensures.puts (omega (arith, space, flen, len, taken))) in
    let few = c.few_are_live.ensures a.self.now.streams h serves.streams in
    let size = data_len id bytes in
    let t : State = record s { out = s.out ++ text; history = Sent id (length bytes) ∷ h } in
    let stand : StandFor d.streams (Sent id (length bytes) ∷ h) =
    subst (λ (n : ℕ). StandFor d.streams (Sent id n ∷ h)) (sym len) (subst (λ (x : Streams). StandFor x (Sent id c.take_room-taken.result ∷ h)) (sym puts.puts.streams) took.1) in
    let positive : ltb 0 (length bytes) ≡ true = lt-ltb 0 (length bytes) (omega (arith, len, taken, some)) in
    let done : IsReady d t = record {
      serves = record {
        encoder = puts.puts.encoder ∙ serves.encoder;
        streams = stand;
        given = put_given s.given s.out text serves.given;
        owed_is = put_owed s.given s.out text text _ _ serves.given (c.in_ok-reserve.ensures.items ∙ serves.owed_is) puts.puts.owed refl;
      };
      room = record { room = omega (arith, few, space, flen, len, taken, size, puts.len, puts.capacity); least = omega (arith, space, puts.capacity) };
    } in (
      taken ∙ room,
      subst (λ (b : Bool). IsReady d (cond b (sends id bytes s) s)) (sym lives) (subst (λ (b : Bool). IsReady d (cond b t s)) (sym positive) done),
    )
