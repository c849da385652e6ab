use Rattle.std.proofs.Common.{◌≡◌, ◌≤◌, ◌+◌, ◌++◌, List, ℕ, Bool, true, false, cond, length, refl, sym, ap, subst, ◌∙◌, arith, vec_len, vec_capacity}
use Rattle.mq_frame.specs.declared.frame.Frame.TheVariants as frame
use Rattle.mq_frame.specs.Writing.{spelling_of}
use Rattle.mq_hpack.specs.Writing.{block_text}
use Rattle.mq_hpack.specs.declared.field.Field.{Field}
use Rattle.mq_streams.specs.History.{is_live}
use Rattle.mq_streams.specs.Stand.{StandFor}
use Rattle.mq_streams.specs.declared.streams.Streams.{Streams}
use Rattle.mq_h2.specs.declared.parts.Core.{Core}
use Rattle.mq_h2.specs.State.{State}
use Rattle.mq_h2.specs.Acts.{ends_if, responds, where_live}
use Rattle.mq_h2.specs.Stand.{Serves}
use Rattle.mq_h2.specs.Doing.{PutsWithin, IsReady}
use Rattle.mq_h2.proofs.Cores.{put_owed, put_given}
use Rattle.mq_h2.proofs.Rooms.{one_fewer, headers_len}
use Rattle.mq_h2.proofs.parts.Core.respond.Goals as goal
use Rattle.mq_h2.specs.Left.{left}

-- HEADERS were put behind what is owed
pub record Headed (c d : Core) (s : State) (id : ℕ) (block : List ℕ) (end : Bool) : Type 0 where
  pub streams : d.streams ≡ c.streams
  pub encoder : d.encoder ≡ false
  pub owed : left d.owed ≡ left c.owed ++ spelling_of (frame.Headers id block end true)
  pub room : vec_len d.owed.bytes + 2200 ≤ vec_capacity d.owed.bytes

abbrev headed : ℕ → List ℕ → Bool → State → State
headed id block end s = record s { out = s.out ++ spelling_of (frame.Headers id block end true); owes_limit = false }

served : (c d : Core) (s : State) (id : ℕ) (block : List ℕ) (end : Bool) → IsReady c s → Headed c d s id block end → Serves d (headed id block end s)
served c d s id block end is has =
    let serves = is.serves in
    let text = spelling_of (frame.Headers id block end true) in
    record {
      encoder = has.encoder;
      streams = subst (λ (x : Streams). StandFor x s.history) (sym has.streams) serves.streams;
      given = put_given s.given s.out text serves.given;
      owed_is = put_owed s.given s.out text text _ _ serves.given serves.owed_is has.owed refl;
    }

-- what was put is the response to these fields, on a live stream
put_where_live : (d : Core) (s : State) (id : ℕ) (block : List ℕ) (fields : List Field) (end ended : Bool) → block ≡ block_text s.owes_limit fields → end ≡ ended → is_live id s.history ≡ true
    → IsReady d (ends_if ended id (headed id block end s)) → IsReady d (where_live id (responds id fields end) s)
put_where_live d s id block fields end ended spelled is lives ready =
    subst (λ (b : Bool). IsReady d (cond b (responds id fields end s) s)) (sym lives)
    (subst (λ (b : Bool). IsReady d (ends_if b id (headed id (block_text s.owes_limit fields) end s))) (sym is)
    (subst (λ (x : List ℕ). IsReady d (ends_if ended id (headed id x end s))) spelled ready))

pub returns-then-not-end-clause-acts : goal.returns-then-not-end-clause-acts
returns-then-not-end-clause-acts c = λ s is small.
    let a = c.args in
    let id : ℕ = a.stream in
    let block : List ℕ = c.in_ok-block.block in
    let text : List ℕ = block_text s.owes_limit a.fields.now in
    let spelled : block ≡ text = c.in_ok-block.ensures.spelled ∙ ap (λ (b : Bool). block_text b a.fields.now) is.serves.encoder in
    let fits : length block ≤ 16384 = subst (λ (x : List ℕ). length x ≤ 16384) (sym spelled) small in
    let lives : is_live id s.history ≡ true = sym (c.is_live.ensures s.history is.serves.streams) ∙ c.if-not-is_live.false in
    let e : Core = record { decoder = a.self.now.decoder; encoder = c.block.new.self; streams = a.self.now.streams; block = a.self.now.block; owed = c.reserve.new.self } in
    let d : Core = c.put_headers.new.self in
    let space = c.in_ok-reserve.ensures.ok in
    let same : length c.as_slice.result.now ≡ length block = ap (λ (x : List ℕ). length x) c.as_slice.ensures in
    let puts : PutsWithin (spelling_of (frame.Headers id block a.end true)) e d =
    subst (λ (x : List ℕ). PutsWithin (spelling_of (frame.Headers id x a.end true)) e d) c.as_slice.ensures (c.put_headers.ensures.puts (omega (arith, fits, same)) (omega (arith, space, fits, same))) in
    let len = headers_len id block a.end in
    let few = c.few_are_live.ensures a.self.now.streams s.history is.serves.streams in
    let has : Headed a.self.now d s id block a.end = record {
      streams = puts.puts.streams;
      encoder = puts.puts.encoder ∙ c.in_ok-block.ensures.given;
      owed = puts.puts.owed ∙ ap (λ (x : List ℕ). x ++ spelling_of (frame.Headers id block a.end true)) c.in_ok-reserve.ensures.items;
      room = omega (arith, space, fits, len, puts.len, puts.capacity);
    } in
    let done : IsReady d (headed id block a.end s) = record {
      serves = served a.self.now d s id block a.end is has;
      room = record { room = omega (arith, few, has.room); least = omega (arith, space, puts.capacity) };
    } in
    put_where_live d s id block a.fields.now a.end false spelled c.if-not-end.true lives done

pub returns-clause-acts : goal.returns-clause-acts
returns-clause-acts c = λ s is small.
    let a = c.args in
    let id : ℕ = a.stream in
    let block : List ℕ = c.in_ok-block.block in
    let text : List ℕ = block_text s.owes_limit a.fields.now in
    let spelled : block ≡ text = c.in_ok-block.ensures.spelled ∙ ap (λ (b : Bool). block_text b a.fields.now) is.serves.encoder in
    let fits : length block ≤ 16384 = subst (λ (x : List ℕ). length x ≤ 16384) (sym spelled) small in
    let lives : is_live id s.history ≡ true = sym (c.is_live.ensures s.history is.serves.streams) ∙ c.if-not-is_live.false in
    let e : Core = record { decoder = a.self.now.decoder; encoder = c.block.new.self; streams = a.self.now.streams; block = a.self.now.block; owed = c.reserve.new.self } in
    let d : Core = c.put_headers.new.self in
    let space = c.in_ok-reserve.ensures.ok in
    let same : length c.as_slice.result.now ≡ length block = ap (λ (x : List ℕ). length x) c.as_slice.ensures in
    let puts : PutsWithin (spelling_of (frame.Headers id block a.end true)) e d =
    subst (λ (x : List ℕ). PutsWithin (spelling_of (frame.Headers id x a.end true)) e d) c.as_slice.ensures (c.put_headers.ensures.puts (omega (arith, fits, same)) (omega (arith, space, fits, same))) in
    let len = headers_len id block a.end in
    let few = c.few_are_live.ensures a.self.now.streams s.history is.serves.streams in
    let one = one_fewer id s.history lives in
    let has : Headed a.self.now d s id block a.end = record {
      streams = puts.puts.streams;
      encoder = puts.puts.encoder ∙ c.in_ok-block.ensures.given;
      owed = puts.puts.owed ∙ ap (λ (x : List ℕ). x ++ spelling_of (frame.Headers id block a.end true)) c.in_ok-reserve.ensures.items;
      room = omega (arith, space, fits, len, puts.len, puts.capacity);
    } in
    let t : State = headed id block a.end s in
    let done = c.close.ensures.acts t (record {
      serves = served a.self.now d s id block a.end is has;
      room = omega (arith, few, one, has.room);
      least = omega (arith, space, puts.capacity);
    }) lives in
    put_where_live c.close.new.self s id block a.fields.now a.end true spelled c.if-not-end.false lives done
