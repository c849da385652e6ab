-- What a book is: a configuration, and the entries that were written.
use Rattle.std.specs.Prelude.{List, refl}
use Rattle.std.specs.Coded.{Coded, code_by, coded×, coded_list}
use Rattle.mq_talk.specs.declared.book.Config.{Config}
use Rattle.mq_talk.specs.declared.book.Entry.{Entry}
use Rattle.mq_talk.specs.contracts.book.Config as config
use Rattle.mq_talk.specs.contracts.book.Entry as entry
use Rattle.mq_talk.specs.Book.{History}

pub record Journal : Type 0 where
  pub config : Config
  pub history : History

-- by which a proof tells two of them apart
abbrev pub journal_code : Coded Journal
journal_code = code_by (Config × List Entry) (coded× config.the_row.coded (coded_list entry.the_row.coded)) (λ j. (j.config, j.history)) (λ p. record { config = p.0; history = p.1 }) (λ _. refl)
