use Rattle.std.proofs.Common.{◌≡◌, ℕ, add-one, List, length, map, Vec, Global, sym, ap, ◌∙◌, subst, arith}
use lib.ListN.{length-map}
use Rattle.atomic_table.specs.Seated.{TableId}
use Rattle.mq_mail.specs.Keys.{InboxPass}
use Rattle.mq_mail.specs.Made.{IsFirst, AreRows, AreLast}
use Rattle.mq_mail.specs.PostParts.{inbox_id}
use Rattle.mq_mail.specs.Posts.{new_keys}
use Rattle.mq_mail.proofs.MatrixMoves.{keys_next}
use Rattle.mq_mail.proofs.start.make_keys.Goals as goal

pub loop-actor-init : goal.loop-actor-init
loop-actor-init c = record {
  firsts = c.requires.firsts.0;
  firsts_left = omega (arith, c.requires.firsts.1);
  rows = c.requires.rows.0;
  rows_left = omega (arith, c.requires.rows.1);
  keys = c.in_ok-keys.ensures.items;
}

pub new-requires-clause-ways : goal.new-requires-clause-ways
new-requires-clause-ways c =
    let P : List (Vec InboxPass Global) → Type 0 = AreRows c.loop-actor.actor (map inbox_id c.args.inboxes.now) in
    (subst P c.first_of-ways.ensures c.loop-actor.invariant.rows).0

pub new-requires-clause-inbox : goal.new-requires-clause-inbox
new-requires-clause-inbox c =
    let ids : List TableId = map inbox_id c.args.inboxes.now in
    let P : List InboxPass → Type 0 = AreLast c.args.actors c.loop-actor.actor ids in
    let first = (subst P c.first_of-inbox.ensures c.loop-actor.invariant.firsts).0 in
    let Q : ℕ → Type 0 = λ n. IsFirst n first.0 c.first_of-inbox.result in
    let e : c.args.actors ≡ length ids = omega (arith, c.requires.size, length-map c.args.inboxes.now inbox_id) in
    (first.0, first.1, subst Q e first.2)

pub loop-actor-preserved : goal.loop-actor-preserved
loop-actor-preserved c =
    let i = c.loop-actor.invariant in
    let ids : List TableId = map inbox_id c.args.inboxes.now in
    let actor : ℕ = c.loop-actor.actor in
    let P : List InboxPass → Type 0 = AreLast c.args.actors actor ids in
    let Q : List (Vec InboxPass Global) → Type 0 = AreRows actor ids in
    let firsts = (subst P c.first_of-inbox.ensures i.firsts).1 in
    let rows = (subst Q c.first_of-ways.ensures i.rows).1 in
    let P' : ℕ → Type 0 = λ n. AreLast c.args.actors n ids c.first_of-inbox.new.queue.items in
    let Q' : ℕ → Type 0 = λ n. AreRows n ids c.first_of-ways.new.queue.items in
    record {
      firsts = subst P' (sym (add-one actor)) firsts;
      firsts_left = omega (arith, ap length c.first_of-inbox.ensures, i.firsts_left);
      rows = subst Q' (sym (add-one actor)) rows;
      rows_left = omega (arith, ap length c.first_of-ways.ensures, i.rows_left);
      keys = keys_next ids actor _ _ c.in_ok-key.key i.keys c.in_ok-key.ensures c.in_ok-push.ensures.items;
    }

pub returns : goal.returns
returns c =
    let ids : List TableId = map inbox_id c.args.inboxes.now in
    let e : c.loop-actor.actor ≡ c.args.actors = omega (arith, c.loop-actor-test.false, c.loop-actor.auto.actor-end) in
    c.loop-actor.invariant.keys ∙ ap (λ (n : ℕ). new_keys ids 0 n) e
