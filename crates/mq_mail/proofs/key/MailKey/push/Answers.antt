use Rattle.std.proofs.Common.{◌≡◌, ◌<◌, List, length, map, slice_get, slice_set, Some, sym, ap, ◌∙◌, subst}
use Rattle.crossbeam_queue.specs.Passes.{view}
use Rattle.atomic_table.specs.Seated.{TableId}
use Rattle.mq_mail.specs.declared.inbox_rule.Letter.{Letter}
use Rattle.mq_mail.specs.Keys.{InboxPass, id_of, pushed_of}
use Rattle.mq_mail.specs.PostParts.{inbox_id}
use Rattle.mq_mail.specs.Posts.{KeyOf, PostOf, pushed_to, with_pushed}
use Rattle.mq_mail.proofs.KeyMoves.{alike, within, read_at, way_at, count_at, key_more, key_same, ids_same, pushed_more, pushed_same, pushed_at, room_at, full_as}
use Rattle.mq_mail.proofs.key.MailKey.push.Goals as goal

pub push_way-requires-clause-inbox : goal.push_way-requires-clause-inbox
push_way-requires-clause-inbox g c =
    let ids = ap (λ (k : KeyOf). k.post) c.self.view_is in
    let inboxes = ap (λ (p : PostOf). p.inboxes) c.post.view_is in
    let at = read_at _ _ _ (within id_of _ _ c.args.to ids c.requires.inbox) c.index_mut.ensures.value in
    let far = subst (λ (l : List TableId). c.args.to < length l) c.requires.post c.requires.inbox in
    let there = read_at _ _ _ (within inbox_id _ _ c.args.to inboxes far) c.index-2.ensures in
    (alike id_of inbox_id _ _ c.args.to _ _ (ids ∙ c.requires.post ∙ sym inboxes) at there, (way_at _ _ c.args.to _ c.self.invariant.ways at).rest)

pub push_way-requires-clause-owns : goal.push_way-requires-clause-owns
push_way-requires-clause-owns g c =
    let ids = ap (λ (k : KeyOf). k.post) c.self.view_is in
    let at = read_at _ _ _ (within id_of _ _ c.args.to ids c.requires.inbox) c.index_mut.ensures.value in
    (way_at _ _ c.args.to _ c.self.invariant.ways at).owns

pub invariant_of-self : goal.invariant_of-self
invariant_of-self g c =
    let ids = ap (λ (k : KeyOf). k.post) c.self.view_is in
    let at = read_at _ _ _ (within id_of _ _ c.args.to ids c.requires.inbox) c.index_mut.ensures.value in
    let number = count_at _ _ c.args.to _ _ c.self.invariant.counts at c.index.ensures in
    key_more _ _ _ _ _ c.args.to _ _ c.push_way.new.way c.args.parcel c.self.invariant at c.in-Ok.ensures.inbox.0 c.in-Ok.ensures.inbox.1 c.in-Ok.ensures.owns
    (c.below_most-place.ensures.same ∙ number)

pub invariant_of-self-in-Err : goal.invariant_of-self-in-Err
invariant_of-self-in-Err g c =
    let ids = ap (λ (k : KeyOf). k.post) c.self.view_is in
    let at = read_at _ _ _ (within id_of _ _ c.args.to ids c.requires.inbox) c.index_mut.ensures.value in
    key_same _ _ _ _ _ c.args.to _ c.push_way.new.way c.self.invariant at c.in-Err.ensures.inbox.0 c.in-Err.ensures.inbox.1 c.in-Err.ensures.owns.1

pub returns-in-Ok : goal.returns-in-Ok
returns-in-Ok g c =
    let ids = ap (λ (k : KeyOf). k.post) c.self.view_is in
    let ways : List InboxPass = c.self.inside.ways.items in
    let old : InboxPass = c.index_mut.result.now in
    let way : InboxPass = c.push_way.new.way in
    let at : slice_get ways c.args.to ≡ Some old = read_at _ _ _ (within id_of _ _ c.args.to ids c.requires.inbox) c.index_mut.ensures.value in
    let same = ids_same ways c.args.to old way at c.in-Ok.ensures.inbox.0 in
    let more = pushed_more ways c.args.to old way c.args.parcel c.self.inside.actor at c.in-Ok.ensures.owns in
    let new : KeyOf = record { post = map id_of (slice_set ways c.args.to way); actor = c.self.inside.actor; pushed = map pushed_of (slice_set ways c.args.to way); popped = (view c.self.inside.inbox).popped } in
    let P : KeyOf → Type 0 = λ k. new ≡ record k { pushed = with_pushed k.pushed c.args.to c.args.parcel } in
    subst P c.self.view_is (λ i. record { post = same i; actor = c.self.inside.actor; pushed = more i; popped = (view c.self.inside.inbox).popped })

pub returns-in-Err : goal.returns-in-Err
returns-in-Err g c =
    let ids = ap (λ (k : KeyOf). k.post) c.self.view_is in
    let inboxes = ap (λ (p : PostOf). p.inboxes) c.post.view_is in
    let ways : List InboxPass = c.self.inside.ways.items in
    let old : InboxPass = c.index_mut.result.now in
    let way : InboxPass = c.push_way.new.way in
    let at : slice_get ways c.args.to ≡ Some old = read_at _ _ _ (within id_of _ _ c.args.to ids c.requires.inbox) c.index_mut.ensures.value in
    let far = subst (λ (l : List TableId). c.args.to < length l) c.requires.post c.requires.inbox in
    let there = read_at _ _ _ (within inbox_id _ _ c.args.to inboxes far) c.index-2.ensures in
    let same = ids_same ways c.args.to old way at c.in-Err.ensures.inbox.0 in
    let pushed = pushed_same ways c.args.to old way at c.in-Err.ensures.owns.1 in
    let stays : KeyOf = record { post = map id_of ways; actor = c.self.inside.actor; pushed = map pushed_of ways; popped = (view c.self.inside.inbox).popped } in
    let new : KeyOf = record { post = map id_of (slice_set ways c.args.to way); actor = c.self.inside.actor; pushed = map pushed_of (slice_set ways c.args.to way); popped = (view c.self.inside.inbox).popped } in
    let still : new ≡ stays = λ i. record { post = same i; actor = c.self.inside.actor; pushed = pushed i; popped = (view c.self.inside.inbox).popped } in (
      ap (λ (l : Letter). l.parcel) c.in-Err.ensures.owns.0,
      still ∙ c.self.view_is,
      full_as _ _ _ _ _ _ (room_at _ _ c.args.to _ c.post.invariant.0 there ∙ ap (λ (p : PostOf). p.capacity) c.post.view_is)
          (ap (λ (k : KeyOf). k.actor) c.self.view_is)
          (pushed_at ways c.args.to old at ∙ ap (λ (k : KeyOf). pushed_to k.pushed c.args.to) c.self.view_is)
          c.in-Err.ensures.owns.2,
    )
