use Rattle.std.proofs.Common.{inl, inr, refl}
use Rattle.mq_play.specs.declared.line.Line.TheVariants as line
use Rattle.mq_play.specs.Lines.{IsAlone}
use Rattle.mq_play.specs.Parts.{Means}
use Rattle.mq_script.proofs.Answering.{says_answer, words_answer}
use Rattle.mq_script.proofs.line.parse_line.Goals as goal

pub returns-then-is_blank : goal.returns-then-is_blank
returns-then-is_blank c =
    let a = says_answer c.one_saying.ensures c.args.line.now line.Blank (inl (c.is_blank.ensures.0 c.if-is_blank.true, refl)) in
    record { ok = a.ok; syntax = a.syntax; found = a.found }

pub returns-in-Some : goal.returns-in-Some
returns-in-Some c =
    let alone : Means IsAlone line.Happens c.args.line.now (line.Happens c.in-Some.event) = record { value = c.in-Some.event; says = c.in-Some.ensures; said_is = refl } in
    let a = says_answer c.one_saying.ensures c.args.line.now (line.Happens c.in-Some.event) (inr (inl alone)) in
    record { ok = a.ok; syntax = a.syntax; found = a.found }

pub returns : goal.returns
returns c =
    let no_blank = c.if-is_blank.false in
    let a = words_answer c.one_saying.ensures c.args.line.now c.parse_words.result
    (λ blank. let yes = c.is_blank.ensures.1 blank in cc (no_blank, yes)) c.in_default.ensures c.parse_words.ensures in
    record { ok = a.ok; syntax = a.syntax; found = a.found }
