use Rattle.std.proofs.Common.{true, false, refl, sym, ap, ◌∙◌, arith}
use Rattle.std.proofs.lemmas.Bool.{eq-eqb, ne_eqb}
use Rattle.mq_streams.specs.History.{Extended}
use Rattle.mq_streams.specs.declared.stream.Stream.{Stream}
use Rattle.mq_streams.proofs.Live.{is_live_at, is_not_live}
use Rattle.mq_streams.proofs.Grants.{ignored_grant, zero_grant, some_grant}
use Rattle.mq_streams.proofs.Events.{extended_row, extended_elsewhere}
use Rattle.mq_streams.proofs.Steps.{after_put, found_row}
use Rattle.mq_streams.proofs.Rooms.{grows_within}
use Rattle.mq_streams.proofs.streams.Streams.grant.Goals as goal

pub returns-in_default : goal.returns-in_default
returns-in_default c = λ h is.
    let idle = sym (c.is_idle.ensures h is) ∙ c.if-is_idle.false in
    (sym (ignored_grant h c.args.id c.args.grow idle (ne_eqb c.args.id 0 c.if-id-eq0.false) (is_not_live h c.args.self.now.table.rows.items is.live_are c.args.id c.in_default.ensures)), is)

pub returns-then-grow-eq0 : goal.returns-then-grow-eq0
returns-then-grow-eq0 c = λ h is.
    let idle = sym (c.is_idle.ensures h is) ∙ c.if-is_idle.false in
    let here = c.in-Some.ensures in
    (sym (zero_grant h c.args.id c.args.grow idle (ne_eqb c.args.id 0 c.if-id-eq0.false) (is_live_at h c.args.self.now.table.rows.items is.live_are c.args.id c.in-Some.at here.0 here.1) (eq-eqb c.args.grow 0 c.if-grow-eq0.true)), is)

pub returns-in-Some-after_grant : goal.returns-in-Some-after_grant
returns-in-Some-after_grant c = λ h is.
    let table = c.args.self.now.table in
    let idle = sym (c.is_idle.ensures h is) ∙ c.if-is_idle.false in
    let here = c.in-Some.ensures in
    let old = c.row.result in
    let new = c.in-Some-after_grant.stream in
    let done = c.in-Some-after_grant.ensures in
    let row = found_row h _ _ _ table.rows.items is c.in-Some.at here.0 old c.row.ensures c.args.id here.1 in
    let nonzero = c.if-id-eq0.false in
    let taken =
    some_grant h c.args.id c.args.grow idle (ne_eqb c.args.id 0 nonzero) (is_live_at h table.rows.items is.live_are c.args.id c.in-Some.at here.0 here.1) (ne_eqb c.args.grow 0 c.if-grow-eq0.false)
    true (grows_within h _ _ _ _ is c.args.id c.args.grow old row true done.4) in (
      sym taken,
      after_put h _ _ _ _ (record { is = is; rise = table.rising; upto = table.begun }) (Extended c.args.id c.args.grow) (record { highest_is = refl; initial_is = refl; live_is = refl })
          _ c.put.ensures.highest _ _ new
          (record {
            at = c.in-Some.at;
            id = c.args.id;
            within = here.0;
            here = here.1;
            new_id = done.0 ∙ ap (λ (row : Stream). row.id) (sym (c.row.ensures old)) ∙ here.1 old;
            rows_are = c.put.ensures.rows;
            of = refl;
            row = extended_row h c.args.id old row new c.args.grow done.1 done.2 done.3;
            connection = extended_elsewhere h _ is.connection_is _ c.args.id c.args.grow (omega arith) refl;
            came = is.came_first;
            keeps = taken;
          }),
    )

pub returns-in-None : goal.returns-in-None
returns-in-None c = λ h is.
    let table = c.args.self.now.table in
    let idle = sym (c.is_idle.ensures h is) ∙ c.if-is_idle.false in
    let here = c.in-Some.ensures in
    let old = c.row.result in
    let row = found_row h _ _ _ table.rows.items is c.in-Some.at here.0 old c.row.ensures c.args.id here.1 in (
      sym (some_grant h c.args.id c.args.grow idle (ne_eqb c.args.id 0 c.if-id-eq0.false) (is_live_at h table.rows.items is.live_are c.args.id c.in-Some.at here.0 here.1) (ne_eqb c.args.grow 0 c.if-grow-eq0.false)
          false (grows_within h _ _ _ _ is c.args.id c.args.grow old row false c.in-None.ensures)),
      is,
    )
