use Rattle.std.proofs.Common.{ℕ, refl, subst}
use Rattle.mq_top.proofs.Asked.{asks_none, gen_parts, generates_none, read_none, read_some, replays_none, soak_parts, soaks_none, udp_parts}
use Rattle.mq_top.specs.Asking.{Asks}
use Rattle.mq_top.specs.Generates.{Generates}
use Rattle.mq_top.specs.Soaking.{Soaks}
use Rattle.mq_replay.specs.declared.status.Status.TheVariants as status
use Rattle.mq_udp.specs.Udp.{seen_of}
use Rattle.mq_udp.specs.declared.outcome.Outcome.TheVariants as outcome
use Rattle.mq_words.specs.declared.command.Command.TheVariants as ask
use Rattle.mq_words.specs.declared.command.UdpWords.{UdpWords}
use Rattle.mq_top.proofs.command.run.Goals as goal

pub returns-in-Ok-Some-Gen-clause-generated : goal.returns-in-Ok-Some-Gen-clause-generated
returns-in-Ok-Some-Gen-clause-generated g c =
    let told = c.in-Ok-Some-Gen in
    let words = c.args.words.now in
    let found = read_some words told.field-0 told.field-0-0 (ask.Gen told.seed told.count) told.field-0-is told.field-0-0-is told.ensures.ok in
    λ seed count asks.
    let same = gen_parts told.seed told.count seed count (c.asks_once.ensures words (ask.Gen told.seed told.count) (ask.Gen seed count) found asks) in
    let P : ℕ → ℕ → Type 0 = λ s n. Generates s n (g.K.Sink.taken c.args.sink.now) (g.K.Sink.taken c.print_script.new.sink) c.print_script.result in (
      c.print_script.result,
      c.code-in-Ok-Some-Gen.ensures,
      subst (λ n. P seed n) same.1 (subst (λ s. P s told.count) same.0 c.print_script.ensures.generates),
      c.print_script.ensures.writing,
    )

pub returns-in-Ok-Some-Soak-clause-soaked : goal.returns-in-Ok-Some-Soak-clause-soaked
returns-in-Ok-Some-Soak-clause-soaked g c =
    let told = c.in-Ok-Some-Soak in
    let words = c.args.words.now in
    let found = read_some words told.field-0 told.field-0-0 (ask.Soak told.seed told.count) told.field-0-is told.field-0-0-is told.ensures.ok in
    λ seed count asks.
    let same = soak_parts told.seed told.count seed count (c.asks_once.ensures words (ask.Soak told.seed told.count) (ask.Soak seed count) found asks) in
    let P : ℕ → ℕ → Type 0 = λ s n. Soaks s n (g.K.Sink.taken c.args.sink.now) (g.K.Sink.taken c.soak.new.sink) c.soak.result in (
      c.soak.result,
      c.code-in-Ok-Some-Soak.ensures,
      subst (λ n. P seed n) same.1 (subst (λ s. P s told.count) same.0 c.soak.ensures.soaks),
      c.soak.ensures.writing,
    )

pub returns-in-Ok-Some-Udp-clause-asked : goal.returns-in-Ok-Some-Udp-clause-asked
returns-in-Ok-Some-Udp-clause-asked g c =
    let told = c.in-Ok-Some-Udp in
    let words = c.args.words.now in
    let found = read_some words told.field-0 told.field-0-0 (ask.Udp told.words) told.field-0-is told.field-0-0-is told.ensures.ok in
    λ asked asks.
    let same = udp_parts told.words asked (c.asks_once.ensures words (ask.Udp told.words) (ask.Udp asked) found asks) in
    let P : UdpWords → Type 0 = λ w. Asks w (g.S.Source.left c.args.source.now) (g.S.Source.left c.ask.new.source) (g.K.Sink.taken c.args.sink.now) (g.K.Sink.taken c.ask.new.sink)
    (seen_of (g.O.Outside.past c.args.outside.now) (g.O.Outside.faults c.args.outside.now)) (seen_of (g.O.Outside.past c.ask.new.outside) (g.O.Outside.faults c.ask.new.outside)) c.ask.result in
    (c.ask.result, c.code-in-Ok-Some-Udp.ensures, subst P same c.ask.ensures.asks, c.ask.ensures.reading, c.ask.ensures.writing)

-- ---- words that ask for nothing

pub returns-in-Ok-None-clause-replayed : goal.returns-in-Ok-None-clause-replayed
returns-in-Ok-None-clause-replayed g c =
    let none = read_none c.args.words.now c.in-Ok-None.field-0 c.in-Ok-None.field-0-is c.in-Ok-None.ensures.ok in
    λ asks. absurd (none ask.Replay asks)

pub returns-in-Ok-None-clause-generated : goal.returns-in-Ok-None-clause-generated
returns-in-Ok-None-clause-generated g c =
    let none = read_none c.args.words.now c.in-Ok-None.field-0 c.in-Ok-None.field-0-is c.in-Ok-None.ensures.ok in
    λ seed count asks. absurd (none (ask.Gen seed count) asks)

pub returns-in-Ok-None-clause-soaked : goal.returns-in-Ok-None-clause-soaked
returns-in-Ok-None-clause-soaked g c =
    let none = read_none c.args.words.now c.in-Ok-None.field-0 c.in-Ok-None.field-0-is c.in-Ok-None.ensures.ok in
    λ seed count asks. absurd (none (ask.Soak seed count) asks)

pub returns-in-Ok-None-clause-asked : goal.returns-in-Ok-None-clause-asked
returns-in-Ok-None-clause-asked g c =
    let none = read_none c.args.words.now c.in-Ok-None.field-0 c.in-Ok-None.field-0-is c.in-Ok-None.ensures.ok in
    λ asked asks. absurd (none (ask.Udp asked) asks)

-- ---- want of memory for the words

pub returns-in-Err-clause-replayed : goal.returns-in-Err-clause-replayed
returns-in-Err-clause-replayed g c = λ asks.
    (status.NoMemory, c.code-in-Err.ensures, replays_none (g.S.Source.left c.args.source.now) (g.K.Sink.taken c.args.sink.now), refl, refl)

pub returns-in-Err-clause-generated : goal.returns-in-Err-clause-generated
returns-in-Err-clause-generated g c = λ seed count asks.
    (status.NoMemory, c.code-in-Err.ensures, generates_none seed count (g.K.Sink.taken c.args.sink.now), refl)

pub returns-in-Err-clause-soaked : goal.returns-in-Err-clause-soaked
returns-in-Err-clause-soaked g c = λ seed count asks.
    (status.NoMemory, c.code-in-Err.ensures, soaks_none seed count (g.K.Sink.taken c.args.sink.now), refl)

pub returns-in-Err-clause-asked : goal.returns-in-Err-clause-asked
returns-in-Err-clause-asked g c = λ asked asks.
    (outcome.NoMemory, c.code-in-Err.ensures, asks_none asked (g.S.Source.left c.args.source.now) (g.K.Sink.taken c.args.sink.now) _, refl, refl)
