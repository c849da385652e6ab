use Rattle.mq_words.proofs.Asking.{ask_once}
use Rattle.mq_words.proofs.words.asks_once.Goals as goal

pub returns : goal.returns
returns c = ask_once c.one_addr.ensures c.one_host.ensures
