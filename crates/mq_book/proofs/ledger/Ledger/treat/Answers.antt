use Rattle.std.proofs.Common.{◌∙◌, ap, subst}
use Rattle.std.specs.List.{flat_map}
use Rattle.std.proofs.lemmas.List.{get_or_default}
use Rattle.mq_talk.specs.Book.{blocks, taken}
use Rattle.mq_book.specs.declared.tunnel.Tunnel.{Tunnel}
use Rattle.mq_book.specs.Treat.{AreDone}
use Rattle.mq_book.proofs.Changes.{taken_all}
use Rattle.mq_book.proofs.ledger.Ledger.treat.Goals as goal

pub returns : goal.returns
returns c = λ d.
    let l = c.args.self.now in
    let all = c.in_ok-taken.ensures ∙ ap (λ ts. flat_map (λ (t : Tunnel). blocks t.held) ts) c.as_slice.ensures.value ∙ taken_all l.history.items l.live.items c.requires.stands.live in
    let own = c.in_ok-held.ensures.items ∙ c.as_slice-2.ensures
    ∙ ap (λ (t : Tunnel). t.held) (c.index-tunnel.ensures ∙ get_or_default l.live.items c.args.at c.index-tunnel.result.now d c.requires.within) in
    subst (λ h. AreDone l.setup.pool (taken l.history.items) h c.args.asked.now c.in_ok-treated.treated) own
    (subst (λ t. AreDone l.setup.pool t c.in_ok-held.held.items c.args.asked.now c.in_ok-treated.treated) all c.in_ok-treated.ensures)
