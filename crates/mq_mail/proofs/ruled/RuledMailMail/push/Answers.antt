use Rattle.std.proofs.Common.{ℕ, ◌+◌, refl, sym, ap, subst}
use Rattle.mq_talk.specs.declared.place.Pushed.{Pushed}
use Rattle.mq_mail.specs.Posts.{PushesBy}
use Rattle.mq_mail.proofs.Mails.{Counts, push_gives, taken_counts}
use Rattle.mq_mail.proofs.ruled.RuledMailMail.push.Goals as goal

pub returns-in-Full-clause-gives : goal.returns-in-Full-clause-gives
returns-in-Full-clause-gives g c =
    let P : ℕ → Type 0 = λ n. PushesBy n c.args.self.now.key c.args.to c.args.parcel c.push-pushed.result c.push-pushed.new.self in
    let C : Pushed → Type 0 = λ p. Counts p c.args.to c.args.self.now.back c.args.self.now.back_by (c.below_most.result + 1) c.args.to in
    push_gives _ _ c.args.to c.args.parcel _ _ _ _ _ c.requires.inbox (subst P c.args.self.now.room c.push-pushed.ensures)
    (subst C (sym c.in-Full.is) (ap (λ (n : ℕ). n + 1) c.below_most.ensures.same, refl))

pub returns-in_default-clause-gives : goal.returns-in_default-clause-gives
returns-in_default-clause-gives g c =
    let P : ℕ → Type 0 = λ n. PushesBy n c.args.self.now.key c.args.to c.args.parcel c.push-pushed.result c.push-pushed.new.self in
    push_gives _ _ c.args.to c.args.parcel _ _ _ _ _ c.requires.inbox (subst P c.args.self.now.room c.push-pushed.ensures)
    (taken_counts c.push-pushed.result c.args.to c.args.self.now.back c.args.self.now.back_by c.in_default.not-Full)
