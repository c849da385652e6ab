use Rattle.mq_mail.proofs.Mails.{pop_gives}
use Rattle.mq_mail.proofs.ruled.RuledMailMail.pop.Goals as goal

pub returns-then-is_none-clause-gives : goal.returns-then-is_none-clause-gives
returns-then-is_none-clause-gives g c = pop_gives _ _ _ _ _ c.args.self.now.own c.pop-popped.ensures

pub returns-else-is_none-clause-gives : goal.returns-else-is_none-clause-gives
returns-else-is_none-clause-gives g c = pop_gives _ _ _ _ _ c.args.self.now.own c.pop-popped.ensures
