use Rattle.std.proofs.Common.{◌≡◌, sym, ap, ap₂, ◌∙◌, subst, []}
use Rattle.mq_turn.specs.declared.view.Stage.TheVariants.{Idle}
use Rattle.mq_turn.specs.Calls.{serving, passed}
use Rattle.mq_turn.specs.History.{StartsWith, Adds, by}
use Rattle.mq_turn.proofs.Asking.{may_still, turned, has_seen, pass_of}
use Rattle.mq_turn.proofs.pass.Pass.with_turn.Goals as goal

pub serve-answer-requires : goal.serve-answer-requires
serve-answer-requires g c =
    let k = g.V.Kept in
    let value = c.take-value.result in
    let on = c.take-value.ensures.goes_on in
    let drew = c.draw-ticket.ensures.now.me_is in
    let seen = ap (λ m. m.0.seen) drew ∙ ap (λ z. z.seen) c.self.view_is in
    let number = ap (λ m. m.0.number) drew ∙ ap (λ z. z.number) c.self.view_is in
    let settings : k.settings value ≡ c.args.turn.now.settings = (let e = sym on.settings ∙ ap (λ m. m.0.settings) drew ∙ ap (λ z. z.settings) c.self.view_is ∙ c.requires.turn.settings_are in cc) in
    may_still k.maker k.is_sound k.asker k.may_ask g.met.V.Kept.stays_asked (k.settings value) c.args.self.now.seen (k.history value) c.args.ask c.args.self.now.number c.requires.own
    (subst (StartsWith (k.history value)) seen on.begins)
    (subst (λ n. by k.maker n (k.history value) ≡ by k.maker n c.args.self.now.seen) number (on.own ∙ ap (by k.maker _) seen))
    on.sound (subst (λ s. k.may_ask s c.args.self.now.seen c.args.ask) (sym settings) c.requires.may)

pub returns : goal.returns
returns g c =
    let k = g.V.Kept in
    let value = c.take-value.result in
    let on = c.take-value.ensures.goes_on in
    let before = k.history value in
    let after = k.history c.serve-answer.new.self in
    let drew = c.draw-ticket.ensures.now.me_is in
    let took = c.take-value.ensures.now.me_is in
    let seen = ap (λ m. m.0.seen) drew ∙ ap (λ z. z.seen) c.self.view_is in
    let number = ap (λ m. m.0.number) drew ∙ ap (λ z. z.number) c.self.view_is in
    let settings : k.settings value ≡ c.args.turn.now.settings = (let e = sym on.settings ∙ ap (λ m. m.0.settings) drew ∙ ap (λ z. z.settings) c.self.view_is ∙ c.requires.turn.settings_are in cc) in
    let put : c.bring_back.new.seat.me ≡ (record c.self.inside.seat.me.0 { stage = Idle; seen = after }, []) =
    c.bring_back.ensures.me_is ∙ ap (λ m. passed m after) (took ∙ ap (λ m. serving m c.draw-ticket.result before) drew) in
    let turn : c.bring_back.new.seat.table_id ≡ c.self.inside.seat.table_id = c.bring_back.ensures.turn_is ∙ c.take-value.ensures.now.turn_is ∙ c.draw-ticket.ensures.now.turn_is in
    turned k.maker k.is_sound k.serves c.args.turn.now.settings c.args.self.now _ c.args.ask c.serve-answer.result before after
    (subst (StartsWith before) seen on.begins)
    (subst (λ n. by k.maker n before ≡ by k.maker n c.args.self.now.seen) number (on.own ∙ ap (by k.maker _) seen))
    (subst (λ s. k.is_sound s before) settings on.sound)
    (subst (λ s. k.is_sound s after) settings (c.serve-answer.ensures.sound on.sound))
    (subst (λ s. k.serves s before c.args.ask c.serve-answer.result after) settings c.serve-answer.ensures.serves)
    (subst (λ n. Adds k.maker n before after) c.requires.own c.serve-answer.ensures.adds)
    (ap₂ pass_of turn put ∙ ap (has_seen after) c.self.view_is)
