use Rattle.mq_play.specs.Play.{opening, opened}
use Rattle.mq_play.proofs.Plays.{plays_lawful}
use Rattle.mq_play.proofs.Sure.{lawful_opening, lawful_opened, book_says_one}
use Rattle.mq_play.proofs.laws.always_one.Goals as goal

pub returns : goal.returns
returns c = λ lines fates text s plays.
    let h = lawful_opened s (plays_lawful lines opening s fates text lawful_opening plays) in
    book_says_one c.one_answer.ensures (opened s).shared.config (opened s).shared.book h.book
