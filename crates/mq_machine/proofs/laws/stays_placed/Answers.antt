use Rattle.std.proofs.Common.{◌+◌}
use Rattle.mq_machine.proofs.Placing.{done_placed, finished_placed, framed_placed, queued_placed, settle_placed, took_placed}
use Rattle.mq_machine.proofs.laws.stays_placed.Goals as goal

pub returns : goal.returns
returns c = record {
  begins = λ workers number actor. tt;
  answers = λ workers s d answer note h k is. done_placed workers s d answer note h k is;
  frames = λ workers s d note h is. framed_placed workers s d note h is;
  writes = λ workers s count h. settle_placed workers (record s { given = s.given + count }) h;
  reads = λ workers setup s d bytes h took. took_placed workers setup s d bytes took;
  finishes = λ workers s inside h. finished_placed workers s inside h;
  gives_up = λ workers why s h. tt;
  queues = λ workers s t from n packet h. queued_placed workers s t from n packet h;
  port_fails = λ workers s t h. (tt, h);
}
