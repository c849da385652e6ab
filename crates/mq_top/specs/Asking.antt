-- What a client does that words ask for.
use Rattle.std.specs.Prelude.{ℕ, List, [], Option}
use Rattle.mq_outside.specs.Outside.{Gives}
use Rattle.mq_output.specs.Printing.{Adds}
use Rattle.mq_target.specs.declared.target.Target.TheVariants.{Udp}
use Rattle.mq_udp.specs.Asked.{authority, path_to}
use Rattle.mq_udp.specs.Talks.{Asking}
use Rattle.mq_udp.specs.Udp.{Seen, UdpTo}
use Rattle.mq_udp.specs.declared.outcome.Outcome.{Outcome}
use Rattle.mq_words.specs.declared.command.UdpWords.{UdpWords}

-- what it asks of the proxy, with nothing to send yet
abbrev pub asking_of : UdpWords → Asking
asking_of ask = record {
  h2 = ask.h2;
  path = path_to (Udp ask.host ask.target_port);
  host = authority ask.addr ask.port;
  payloads = [];
  count = ask.count;
}

-- A source that tells gave a text, a sink that tells took what was printed, and an outside that tells has the link back: by
-- the outcome, these are those of one client.
pub record Asks (ask : UdpWords) (left rest took takes : Option (List ℕ)) (before after : Seen) (outcome : Outcome) : Type 0 where
  pub text : List ℕ
  pub out : List ℕ
  pub gave : Gives left rest text
  pub took_more : Adds took takes out
  pub talks : UdpTo (asking_of ask) text rest out before after outcome
