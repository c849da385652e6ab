use Rattle.mq_front.proofs.Fronts.{finishes_one, finishes_preface}
use Rattle.mq_front.proofs.front.Front.finish.Goals as goal

pub returns-in-Http1 : goal.returns-in-Http1
returns-in-Http1 c = finishes_one c.args.self.now c.in-Http1.one c.end.result c.in-Http1.is c.end.ensures

pub returns-in-Preface : goal.returns-in-Preface
returns-in-Preface c = finishes_preface c.args.self.now c.in-Preface.count c.end_at.result c.in-Preface.is c.end_at.ensures
