use Rattle.std.proofs.Common.{◌≡◌, List, [], ◌∷◌, ◌++◌, map, refl, ap, ◌∙◌, subst}
use Rattle.crossbeam_queue.specs.Passes.{view}
use Rattle.mq_mail.specs.declared.inbox_rule.Letter.{Letter}
use Rattle.mq_mail.specs.declared.inbox_rule.Part.{Part}
use Rattle.mq_mail.specs.Keys.{InboxPass, id_of, pushed_of}
use Rattle.mq_mail.specs.Letters.{AreNumbered, IsNext}
use Rattle.mq_mail.specs.Posts.{KeyOf}
use Rattle.mq_mail.proofs.InboxMoves.{pops, learns_numbered}
use Rattle.mq_mail.proofs.KeyMoves.{none_left}
use Rattle.mq_mail.proofs.key.MailKey.pop.Goals as goal

pub pop_as-requires-clause-rule : goal.pop_as-requires-clause-rule
pop_as-requires-clause-rule g c = (pops _ _ c.self.invariant.pops, learns_numbered _ _ c.self.invariant.pops)

pub returns-in-None : goal.returns-in-None
returns-in-None g c =
    let rule = c.in-None.ensures.rule in
    let ways : List InboxPass = c.self.inside.ways.items in
    let stays : KeyOf = record { post = map id_of ways; actor = c.self.inside.actor; pushed = map pushed_of ways; popped = (view c.self.inside.inbox).popped } in
    let new : KeyOf = record { post = map id_of ways; actor = c.self.inside.actor; pushed = map pushed_of ways; popped = (view c.pop_as.new.pass).popped } in
    let still : new ≡ stays = ap (λ (v : Part). record { post = map id_of ways; actor = c.self.inside.actor; pushed = map pushed_of ways; popped = v.popped }) rule.0 in
    let P : KeyOf → Type 0 = λ k. AreNumbered k.popped in
    (still ∙ c.self.view_is, subst P c.self.view_is (none_left _ rule.1.0 rule.1.1 rule.1.2))

pub returns-in-Some : goal.returns-in-Some
returns-in-Some g c =
    let rule = c.in-Some.ensures.rule in
    let x : Letter = c.in-Some.letter in
    let ways : List InboxPass = c.self.inside.ways.items in
    let new : KeyOf = record { post = map id_of ways; actor = c.self.inside.actor; pushed = map pushed_of ways; popped = (view c.pop_as.new.pass).popped } in
    let P : KeyOf → Type 0 = λ k. (y : Letter) × (y.parcel ≡ x.parcel) × IsNext k.popped y × (new ≡ record k { popped = k.popped ++ y ∷ [] }) in
    subst P c.self.view_is (x, refl, rule.1, ap (λ (v : Part). record { post = map id_of ways; actor = c.self.inside.actor; pushed = map pushed_of ways; popped = v.popped }) rule.0)
