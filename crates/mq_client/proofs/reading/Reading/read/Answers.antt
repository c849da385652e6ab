use Rattle.std.proofs.Common.{IfOk, sym, subst}
use Rattle.mq_client.specs.declared.reading.Reading.{Reading}
use Rattle.mq_client.specs.Standing.{Reads}
use Rattle.mq_client.proofs.Stages.{data_reads_all}
use Rattle.mq_client.proofs.reading.Reading.read.Goals as goal

pub returns-in-Data-clause-reads : goal.returns-in-Data-clause-reads
returns-in-Data-clause-reads c =
    subst (λ (r : Reading). IfOk c.read_data.result (Reads r c.args.piece.now c.args.events.now.items c.read_data.new.events.items)) (sym c.in-Data.is)
    (data_reads_all c.in-Data.reader c.args.piece.now c.args.events.now.items c.read_data.new.events.items c.read_data.result c.read_data.ensures)
