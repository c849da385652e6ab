use Rattle.std.proofs.Common.{◌≡◌, List, map, sym, ap, ◌∙◌, subst}
use Rattle.mq_mail.specs.Closing.{AreFree}
use Rattle.mq_mail.specs.Keys.{InboxPass, id_of}
use Rattle.mq_mail.specs.PostParts.{inbox_id}
use Rattle.mq_mail.specs.Posts.{KeyOf}
use Rattle.mq_mail.proofs.Closing.{took}
use Rattle.mq_mail.proofs.KeyMoves.{way_at}
use Rattle.mq_mail.proofs.close.take_in.Goals as goal

pub add_ways-requires-clause-ways : goal.add_ways-requires-clause-ways
add_ways-requires-clause-ways c =
    let P : List InboxPass → Type 0 = λ l. (map id_of l ≡ map inbox_id c.args.inboxes.now) × AreFree l in
    subst P (sym c.from_vec.ensures.items) (ap (λ (k : KeyOf). k.post) c.key.view_is ∙ c.requires.post, λ i p at. (way_at _ _ i p c.key.invariant.ways at).rest)

pub add_popper-requires-clause-free : goal.add_popper-requires-clause-free
add_popper-requires-clause-free c = λ i p at. (c.add_ways.ensures.each i p at).rest

pub returns : goal.returns
returns c = λ keys place gathered.
    took _ keys _ _ _ _ _ _ _ _ _ _ _ _ c.key.invariant c.key.view_is place c.from_vec.ensures.items c.add_ways.ensures c.add_popper.ensures.passes c.add_popper.ensures.popped gathered
