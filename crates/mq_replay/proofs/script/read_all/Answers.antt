use Rattle.std.proofs.Common.{◌++◌, [], refl, ◌∙◌, inl}
use Rattle.mq_replay.proofs.Ending.{gives_none, gives_more}
use Rattle.mq_replay.proofs.Reading.{nothing_yet, no_memory}
use Rattle.mq_output.specs.Joined.{takes_none, takes_more}
use Rattle.mq_replay.proofs.script.read_all.Goals as goal

pub returns-in_default-clause-replays : goal.returns-in_default-clause-replays
returns-in_default-clause-replays g c = ([], [], gives_none _ _ refl, takes_none _ _ _ refl, λ rest e. inl (λ more. nothing_yet more))

pub loop-turn-init : goal.loop-turn-init
loop-turn-init g c = record {
  script = [];
  lines = [];
  out = [];
  gave = gives_none _ _ refl;
  took = takes_none _ _ _ refl;
  read = c.new-session.ensures;
  written = c.requires;
  reading = refl;
  writing = refl;
}

pub returns-in-Some-clause-replays : goal.returns-in-Some-clause-replays
returns-in-Some-clause-replays g c =
    let inv = c.loop-turn.invariant in
    let r = c.in-Some.ensures.reads in (
      inv.script ++ r.0,
      inv.out ++ r.1,
      gives_more _ _ _ inv.script r.0 inv.gave r.2,
      takes_more _ _ _ _ inv.out r.1 inv.took r.3,
      r.4 inv.script inv.lines inv.out inv.written inv.read,
    )

pub loop-turn-preserved : goal.loop-turn-preserved
loop-turn-preserved g c =
    let inv = c.loop-turn.invariant in
    let r = c.in_default-read_more.ensures.reads in
    let told = r.4 inv.script inv.lines inv.out inv.written inv.read in record {
      script = inv.script ++ r.0;
      lines = told.0;
      out = inv.out ++ r.1;
      gave = gives_more _ _ _ inv.script r.0 inv.gave r.2;
      took = takes_more _ _ _ _ inv.out r.1 inv.took r.3;
      read = told.1;
      written = told.2;
      reading = c.in_default-read_more.ensures.reading ∙ inv.reading;
      writing = c.in_default-read_more.ensures.writing ∙ inv.writing;
    }

pub returns-clause-replays : goal.returns-clause-replays
returns-clause-replays g c =
    let inv = c.loop-turn.invariant in (
      inv.script,
      inv.out,
      inv.gave,
      inv.took,
      λ rest e. inl (λ more. no_memory c.loop-turn.session inv.script inv.lines inv.out more inv.read),
    )
