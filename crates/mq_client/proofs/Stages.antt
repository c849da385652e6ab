-- How far a client has read, and what leads on.
use Rattle.std.proofs.Common.{◌≡◌, ℕ, ◌+◌, ◌≤◌, Bool, true, false, ◌||◌, List, [], ◌∷◌, ◌++◌, length, drop, refl, sym, ap, subst, ◌∙◌, append_assoc, append-nil, Result, Ok, Err, IfOk}
use Rattle.std.proofs.lemmas.List.{drop-drop, drop_at}
use Rattle.mq_capsule.specs.declared.item.Item.{Item}
use Rattle.mq_capsule.specs.declared.reader.Reader.{Reader}
use Rattle.mq_capsule.specs.Items.{ItemsOf}
use Rattle.mq_capsule.specs.Readers.{Stands, StandsOn, GivesItems}
use Rattle.mq_wire.specs.declared.NoMemory.{NoMemory}
use Rattle.mq_client.specs.declared.answer.AnswerReader.{AnswerReader}
use Rattle.mq_client.specs.declared.event.ClientEvent.{ClientEvent}
use Rattle.mq_client.specs.declared.event.ClientEvent.TheVariants.{Opened}
use Rattle.mq_client.specs.declared.reading.Reading.{Reading}
use Rattle.mq_client.specs.declared.reading.Reading.TheVariants.{Head, Data, Over, Spent}
use Rattle.mq_client.specs.Heads.{IsAnswered}
use Rattle.mq_client.specs.Events.{events_of}
use Rattle.mq_client.specs.Brings.{Brings, DataBrings, switching_protocols}
use Rattle.mq_client.specs.Laws.{NothingFollows}
use Rattle.mq_client.specs.Answers.{IsWaiting}
use Rattle.mq_client.specs.Standing.{IsAtData, IsBehindHead, IsReading, ReadsData, Reads}
use Rattle.mq_client.proofs.Heads.{answered_append}
use Rattle.mq_client.proofs.Told.{ended, ended_both, events_open}
use Rattle.mq_client.proofs.Brought.{data_goes}

-- ---- what was told is what the bytes bring

data_brings : (reading : Reading) (bytes : List ℕ) (events : List ClientEvent) → IsAtData reading bytes events → DataBrings bytes events
data_brings (Head reader) bytes events at = absurd at
data_brings (Data reader) bytes events at = at.1
data_brings Over bytes events at = at.0
data_brings Spent bytes events at = absurd at

behind_brings : (reading : Reading) (came : List ℕ) (told : List ClientEvent) → IsBehindHead reading came told → Brings came told
behind_brings reading came told x =
    subst (Brings came) (sym x.told_is) (x.used, x.answered, data_brings reading (drop x.used came) x.events x.at)

pub reading_brings : (reading : Reading) (came : List ℕ) (told : List ClientEvent) → IsReading reading came told → Brings came told
reading_brings (Head reader) came told x = subst (Brings came) (sym x.1) x.0.1
reading_brings (Data reader) came told x = behind_brings (Data reader) came told x
reading_brings Over came told x = x.0
reading_brings Spent came told x = absurd x

is_behind : (reading : Reading) (came : List ℕ) (told : List ClientEvent) → IsBehindHead reading came told → IsReading reading came told
is_behind (Head reader) came told x = absurd x.at
is_behind (Data reader) came told x = x
is_behind Over came told x = (behind_brings Over came told x, ap ended x.told_is ∙ x.at.1)
is_behind Spent came told x = absurd x.at

-- ---- the data stream

pub data_goes_on : (old new : Reader) (piece : List ℕ) (given : List Item) (bytes : List ℕ) (events : List ClientEvent) → GivesItems old piece given
    → StandsOn old new piece → IsAtData (Data old) bytes events
    → Stands new false (bytes ++ piece) × DataBrings (bytes ++ piece) (events ++ events_of given) × (ended (events ++ events_of given) ≡ ended (events_of given))
data_goes_on old new piece given bytes events gives stands at =
    let items = at.1.0 in
    let none : ended (events_of items) ≡ false = sym (ap ended at.1.2) ∙ at.2 in (
      stands false bytes at.0,
      (
        items ++ given,
        gives false bytes items at.0 at.1.1,
        ap (λ (l : List ClientEvent). l ++ events_of given) at.1.2 ∙ sym (events_open items given none),
      ),
      ended_both events (events_of given) ∙ ap (λ (b : Bool). b || ended (events_of given)) at.2,
    )

pub reads_over : (old new : Reader) (piece : List ℕ) (given : List Item) (before after : List ClientEvent) → GivesItems old piece given
    → StandsOn old new piece → after ≡ before ++ events_of given → ended (events_of given) ≡ true → ReadsData old piece before after Over
reads_over old new piece given before after gives stands told over = (
  events_of given,
  told,
  λ bytes events at.
      let on = data_goes_on old new piece given bytes events gives stands at in
      (on.1, on.2 ∙ over),
)

pub reads_open : (old new : Reader) (piece : List ℕ) (given : List Item) (before after : List ClientEvent) → GivesItems old piece given
    → StandsOn old new piece → after ≡ before ++ events_of given → ended (events_of given) ≡ false → ReadsData old piece before after (Data new)
reads_open old new piece given before after gives stands told none = (
  events_of given,
  told,
  λ bytes events at.
      let on = data_goes_on old new piece given bytes events gives stands at in
      (on.0, on.1, on.2 ∙ none),
)

-- a piece of the data stream is one of the proxy's bytes
pub data_reads : (reader : Reader) (piece : List ℕ) (before after : List ClientEvent) (new : Reading) → ReadsData reader piece before after new
    → Reads (Data reader) piece before after new
data_reads reader piece before after new reads = (
  reads.0,
  reads.1,
  λ came told x. is_behind new (came ++ piece) (told ++ reads.0) (record {
    used = x.used;
    events = x.events ++ reads.0;
    answered = answered_append came piece _ _ x.answered;
    told_is = ap (λ (l : List ClientEvent). l ++ reads.0) x.told_is;
    at = subst (λ b. IsAtData new b (x.events ++ reads.0)) (sym (data_goes came piece switching_protocols x.used x.answered))
        (reads.2 (drop x.used came) x.events x.at);
  }),
)

pub data_reads_all : (reader : Reader) (piece : List ℕ) (before after : List ClientEvent) (r : Result Reading NoMemory)
    → IfOk r (ReadsData reader piece before after) → IfOk r (Reads (Data reader) piece before after)
data_reads_all reader piece before after (Ok new) reads = data_reads reader piece before after new reads
data_reads_all reader piece before after (Err refused) reads = tt

-- ---- behind the head

-- with its last byte the tunnel opens, and its data stream begins
pub head_opens : (reader : AnswerReader) (fresh : Reader) (piece : List ℕ) (used : ℕ) (before mid after : List ClientEvent) (new : Reading)
    → ((came : List ℕ) → IsWaiting reader came → IsAnswered (came ++ piece) switching_protocols (length came + used) × (used ≤ length piece))
    → mid ≡ before ++ Opened ∷ [] → Stands fresh false [] → ItemsOf false [] []
    → ReadsData fresh (drop used piece) mid after new → Reads (Head reader) piece before after new
head_opens reader fresh piece used before mid after new answers opened stands nothing reads = (
  Opened ∷ reads.0,
  reads.1 ∙ ap (λ (l : List ClientEvent). l ++ reads.0) opened ∙ append_assoc before (Opened ∷ []) reads.0,
  λ came told x.
      let a = answers came x.0 in
      let rest : drop (length came + used) (came ++ piece) ≡ drop used piece =
      sym (drop-drop used (length came) (came ++ piece)) ∙ ap (drop used) (drop_at came piece (length came) refl) in
      is_behind new (came ++ piece) (told ++ Opened ∷ reads.0) (record {
        used = length came + used;
        events = reads.0;
        answered = a.0;
        told_is = ap (λ (l : List ClientEvent). l ++ Opened ∷ reads.0) x.1;
        at = subst (λ b. IsAtData new b reads.0) (sym rest) (reads.2 [] [] (stands, ([], nothing, refl), refl));
      }),
)

pub head_opens_all : (reader : AnswerReader) (fresh : Reader) (piece : List ℕ) (used : ℕ) (before mid after : List ClientEvent) (r : Result Reading NoMemory)
    → ((came : List ℕ) → IsWaiting reader came → IsAnswered (came ++ piece) switching_protocols (length came + used) × (used ≤ length piece))
    → mid ≡ before ++ Opened ∷ [] → Stands fresh false [] → ItemsOf false [] []
    → IfOk r (ReadsData fresh (drop used piece) mid after) → IfOk r (Reads (Head reader) piece before after)
head_opens_all reader fresh piece used before mid after (Ok new) answers opened stands nothing reads =
    head_opens reader fresh piece used before mid after new answers opened stands nothing reads
head_opens_all reader fresh piece used before mid after (Err refused) answers opened stands nothing reads = tt

-- or the head has the one event
pub head_ends : (reader : AnswerReader) (piece : List ℕ) (event : ClientEvent) (before after : List ClientEvent)
    → ((came : List ℕ) → IsWaiting reader came → Brings (came ++ piece) (event ∷ [])) → ended (event ∷ []) ≡ true
    → after ≡ before ++ event ∷ [] → Reads (Head reader) piece before after Over
head_ends reader piece event before after brings over told = (
  event ∷ [],
  told,
  λ came old x.
      subst (λ (l : List ClientEvent). IsReading Over (came ++ piece) (l ++ event ∷ [])) (sym x.1) (brings came x.0, over),
)

pub head_waits : (reader next : AnswerReader) (piece : List ℕ) (before : List ClientEvent)
    → ((came : List ℕ) → IsWaiting reader came → IsWaiting next (came ++ piece)) → Reads (Head reader) piece before before (Head next)
head_waits reader next piece before waits = (
  [],
  sym (append-nil before),
  λ came old x. (waits came x.0, append-nil old ∙ x.1),
)

-- behind the last event
pub over_reads : NothingFollows → (piece : List ℕ) (before : List ClientEvent) → Reads Over piece before before Over
over_reads nothing piece before = (
  [],
  sym (append-nil before),
  λ came told x.
      subst (λ (l : List ClientEvent). IsReading Over (came ++ piece) l) (sym (append-nil told)) (nothing came piece told x.0 x.1, x.1),
)
