use Rattle.std.proofs.Common.{◌≡◌, ◌∷◌, ℕ, refl, sym, ◌∙◌, subst, arith, inl, inr, ◌⊎◌, List}
use Rattle.std.proofs.lemmas.Bool.{le-ltb}
use Rattle.mq_streams.specs.History.{History, Arrived, Discarded}
use Rattle.mq_streams.specs.Answers.{after_count}
use Rattle.mq_streams.specs.Stand.{AreOf, IsConnection}
use Rattle.mq_streams.specs.declared.stream.Stream.{Stream}
use Rattle.mq_streams.specs.declared.connection.Connection.{Connection}
use Rattle.mq_streams.specs.declared.answers.Counted.TheVariants as counted
use Rattle.mq_streams.specs.declared.answers.Counted.{Counted}
use Rattle.mq_streams.proofs.Grants.{begun_count}
use Rattle.mq_streams.proofs.Events.{arrived_connection, arrived_within, discarded_connection, discarded_within}
use Rattle.mq_streams.proofs.Steps.{Before, after_put, after_none, has_no_part}
use Rattle.mq_streams.proofs.Rooms.{window_is}
use Rattle.mq_streams.proofs.streams.Streams.on_data.Goals as goal

after_discard : (h : History) (b f : ℕ) (c : Connection) (rows : List Stream) → Before h b f c rows → (id n : ℕ) (c' : Connection) → IsConnection (Discarded id n ∷ h) c' →
    (why : Counted) → (why ≡ counted.Ignored) ⊎ (why ≡ counted.OverStream) → AreOf (after_count why id n h) b f c' rows
after_discard h b f c rows before id n c' connection why cause =
    let done : AreOf (Discarded id n ∷ h) b f c' rows =
    after_none h b f c rows before (Discarded id n) refl refl (λ k d below. has_no_part _ _ (λ earlier. refl) refl refl refl refl refl) (λ j above. has_no_part _ _ (λ earlier. refl) refl refl refl refl refl)
    f before.is.first_is c' connection before.is.came_first (discarded_within h id n c' connection) in
    elim cause [
      | inl e ↦ subst (λ (w : Counted). AreOf (after_count w id n h) b f c' rows) (sym e) done
      | inr e ↦ subst (λ (w : Counted). AreOf (after_count w id n h) b f c' rows) (sym e) done
    ]

pub returns-in-Ok : goal.returns-in-Ok
returns-in-Ok c = λ h is.
    let table = c.args.self.now.table in
    let idle = sym (c.is_idle.ensures h is) ∙ c.if-is_idle.false in
    let window = c.in-Some.ensures in
    let room = window_is h _ _ _ _ is in
    let taker = c.in-Ok.ensures.answer h is in
    let connection = arrived_connection h _ is.connection_is _ c.args.id c.args.length window.0 window.1 refl in (
      sym (begun_count h c.args.id c.args.length (le-ltb _ _ (omega arith)) idle ∙ taker.answer),
      after_put h _ _ _ _ (record { is = is; rise = table.rising; upto = table.begun }) (Arrived c.args.id c.args.length) (record { highest_is = refl; initial_is = refl; live_is = refl })
          _ c.put.ensures.highest _ _ c.in-Ok.stream
          (record {
            at = c.in-Ok.at;
            id = c.args.id;
            within = taker.within;
            here = taker.here;
            new_id = taker.id_is;
            rows_are = c.put.ensures.rows;
            of = refl;
            row = taker.row;
            connection = connection;
            came = is.came_first;
            keeps = arrived_within h c.args.id c.args.length _ taker.row _ connection;
          }),
    )

pub returns-in-Err : goal.returns-in-Err
returns-in-Err c = λ h is.
    let table = c.args.self.now.table in
    let idle = sym (c.is_idle.ensures h is) ∙ c.if-is_idle.false in
    let window = c.in-Some.ensures in
    let room = window_is h _ _ _ _ is in
    let why = c.in-Err.ensures.answer h is in
    let outer = c.after_consuming-self.ensures in
    let took = outer.consumed (omega (arith, window.0, window.1, c.args.self.now.connection.receiving.within)) in (
      sym (begun_count h c.args.id c.args.length (le-ltb _ _ (omega arith)) idle ∙ why.answer),
      after_discard h _ _ _ _ (record { is = is; rise = table.rising; upto = table.begun }) c.args.id c.args.length _
          (discarded_connection h _ is.connection_is _ c.args.id c.args.length (rw outer.room window.0) (rw (took, window.1) refl) refl) c.in-Err.declined why.cause,
    )
