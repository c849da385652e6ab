use Rattle.std.proofs.Common.{◌≡◌, ℕ, add-one, [], ◌∷◌, length, map, sym, ap, subst, length-append, arith}
use Rattle.mq_mail.specs.Made.{AreFirsts}
use Rattle.mq_mail.specs.PostParts.{inbox_id}
use Rattle.mq_mail.proofs.MatrixMoves.{rows_more}
use Rattle.mq_mail.proofs.start.make_rows.Goals as goal

pub loop-actor-preserved : goal.loop-actor-preserved
loop-actor-preserved c =
    let i = c.loop-actor.invariant in
    let more = c.in_ok-push_back.ensures.items in
    let P : ℕ → Type 0 = λ n. AreFirsts n (map inbox_id c.args.inboxes.now) c.make_ways.new.firsts.items in
    record {
      firsts = subst P (sym (add-one c.loop-actor.actor)) c.in_ok-ways.ensures.firsts;
      rows = rows_more c.loop-actor.actor _ _ _ c.in_ok-ways.ways i.rows i.count c.in_ok-ways.ensures.ways more;
      count = omega (arith, ap length more, length-append c.loop-actor.rows.items (c.in_ok-ways.ways ∷ []), i.count);
    }

pub returns-clause-firsts : goal.returns-clause-firsts
returns-clause-firsts c =
    let e : c.loop-actor.actor ≡ c.args.actors = omega (arith, c.loop-actor-test.false, c.loop-actor.auto.actor-end) in
    let P : ℕ → Type 0 = λ n. AreFirsts n (map inbox_id c.args.inboxes.now) c.loop-actor.firsts.items in
    subst P e c.loop-actor.invariant.firsts

pub returns-clause-rows : goal.returns-clause-rows
returns-clause-rows c =
    let i = c.loop-actor.invariant in
    (i.rows, omega (arith, i.count, c.loop-actor-test.false, c.loop-actor.auto.actor-end))
