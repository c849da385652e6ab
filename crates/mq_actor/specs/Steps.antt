-- What a step of a worker promises.
use Rattle.mq_talk.specs.Mails.{Inboxes}
use Rattle.mq_talk.specs.Offices.{Seen}
use Rattle.mq_machine.specs.Acting.{Outside, Sight}

abbrev pub sight : Outside → Seen → Inboxes → Sight
sight o seen boxes = record { outside = o; seen = seen; boxes = boxes }
