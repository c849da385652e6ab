use Rattle.mq_play.specs.Lines.{IsWord, SaysBehind}
use Rattle.mq_play.proofs.reading.Parted.{parted_none, parted_other}
use Rattle.mq_play.proofs.reading.Words.{word_once, words_lack}
use Rattle.mq_script.proofs.Parts.{parted_read}
use Rattle.mq_script.proofs.line.parse_words.Goals as goal

pub returns-in_default : goal.returns-in_default
returns-in_default c = parted_none IsWord SaysBehind c.args.line.now c.in_default.ensures

pub returns-in_default-parse_word : goal.returns-in_default-parse_word
returns-in_default-parse_word c = parted_other IsWord SaysBehind c.cut_once.ensures words_lack c.args.line.now c.in-Some.text.now c.in-Some.rest.now c.in-Some.ensures c.in_default-parse_word.ensures

pub returns : goal.returns
returns c =
    parted_read IsWord SaysBehind c.cut_once.ensures words_lack word_once c.args.line.now c.in-Some.text.now c.in-Some.rest.now c.in-Some.ensures
    c.in-Some-parse_word.word c.in-Some-parse_word.ensures c.parse_behind.result c.parse_behind.ensures
