-- What happens in a line comes from outside, and is within its bounds.
use Rattle.std.proofs.Common.{◌≢◌, ℕ, ◌<◌, List, [], ◌∷◌, ◌++◌, length, refl, sym, subst, arith, inl, inr}
use Rattle.mq_machine.specs.declared.event.Event.{Event}
use Rattle.mq_machine.specs.declared.event.Event.TheVariants as event
use Rattle.mq_play.specs.declared.line.Line.{Line}
use Rattle.mq_play.specs.declared.line.Line.TheVariants as line
use Rattle.mq_play.specs.declared.word.Word.{Word}
use Rattle.mq_play.specs.declared.word.Word.TheVariants as word
use Rattle.mq_play.specs.Lines.{IsAlone, IsFilled, Says, SaysBehind, SaysPiece, SaysSteps}
use Rattle.mq_play.specs.Parts.{Means, IsHex, IsText}
use Rattle.mq_replay.specs.Telling.{IsSpoken}
use Rattle.mq_world.specs.Worlds.{IsServed, IsOutside}

-- where the line says that something happens, it is within its bounds, and no step
abbrev MayCome : Line → Type 0
MayCome line.Blank = Unit {0}
MayCome (line.Setting said) = Unit {0}
MayCome (line.Happens e) = IsServed e × IsOutside e
MayCome (line.Steps actor count) = Unit {0}
MayCome (line.Run count) = Unit {0}

some_bytes : (bytes : List ℕ) → bytes ≢ [] → 0 < length bytes
some_bytes [] h = absurd (h refl)
some_bytes (b ∷ bytes) h = omega arith

front_bytes : (front more : List ℕ) → front ≢ [] → 0 < length (front ++ more)
front_bytes [] more h = absurd (h refl)
front_bytes (b ∷ front) more h = omega arith

hex_bytes : (text bytes : List ℕ) → IsHex text bytes → 0 < length bytes
hex_bytes text bytes h = some_bytes bytes h.some

text_bytes : (text bytes : List ℕ) → IsText text bytes → 0 < length bytes
text_bytes text bytes h = some_bytes bytes h.some

filled_bytes : (text bytes : List ℕ) → IsFilled text bytes → 0 < length bytes
filled_bytes text bytes h =
    let made = h.behind.behind in
    let P : List ℕ → Type 0 = λ xs. 0 < length xs in
    subst P (sym made.said_is) (front_bytes h.first _ h.says.some)

piece_comes : (IsSpelled : List ℕ → List ℕ → Type 0) → ((text bytes : List ℕ) → IsSpelled text bytes → 0 < length bytes) → (text : List ℕ) (said : Line) → SaysPiece IsSpelled text said → MayCome said
piece_comes IsSpelled some text said h = subst MayCome (sym h.behind.said_is) (some h.rest h.behind.value h.behind.says, λ actor e. cc)

-- it is what it is made of
made_comes : {A : Type 0} {Is : List ℕ → A → Type 0} (make : A → Line) (text : List ℕ) (said : Line) → ((value : A) → Is text value → MayCome (make value)) → Means Is make text said → MayCome said
made_comes make text said h means = subst MayCome (sym means.said_is) (h means.value means.says)

steps_come : (text : List ℕ) (said : Line) → SaysSteps text said → MayCome said
steps_come text said (inl means) = made_comes (λ actor. line.Steps actor 1) text said (λ actor h. tt) means
steps_come text said (inr parted) = made_comes (line.Steps parted.first) parted.rest said (λ count h. tt) parted.behind

behind_comes : (first : Word) (text : List ℕ) (said : Line) → SaysBehind first text said → MayCome said
behind_comes (word.Setting first) text said h = made_comes line.Setting text said (λ setting h. tt) h
behind_comes word.Conn text said h = made_comes (λ actor. line.Happens (event.Conn actor)) text said (λ actor h. (tt, λ other e. cc)) h
behind_comes word.Bytes text said h = piece_comes IsHex hex_bytes text said h
behind_comes word.Text text said h = piece_comes IsText text_bytes text said h
behind_comes word.Fill text said h = piece_comes IsFilled filled_bytes text said h
behind_comes word.End text said h = made_comes (λ conn. line.Happens (event.End conn)) text said (λ conn h. (tt, λ other e. cc)) h
behind_comes word.Room text said h = made_comes (λ room. line.Happens (event.Room h.first room)) h.rest said (λ room h. (tt, λ other e. cc)) h.behind
behind_comes word.FailRead text said h = made_comes (λ conn. line.Happens (event.FailRead conn)) text said (λ conn h. (tt, λ other e. cc)) h
behind_comes word.FailWrite text said h = made_comes (λ conn. line.Happens (event.FailWrite conn)) text said (λ conn h. (tt, λ other e. cc)) h
behind_comes word.Dgram text said h = made_comes (λ bytes. line.Happens (event.Datagram h.first bytes)) h.rest said (λ bytes h. (h.1, λ other e. cc)) h.behind
behind_comes word.FailPort text said h = made_comes (λ tunnel. line.Happens (event.FailPort tunnel)) text said (λ tunnel h. (tt, λ other e. cc)) h
behind_comes word.Packet text said h = made_comes (λ bytes. line.Happens (event.Packet h.first bytes)) h.rest said (λ bytes h. (h.1, λ other e. cc)) h.behind
behind_comes word.Step text said h = steps_come text said h
behind_comes word.Run text said h = made_comes line.Run text said (λ count h. tt) h

alone_comes : (text : List ℕ) (e : Event) → IsAlone text e → MayCome (line.Happens e)
alone_comes text e (inl h) = subst (λ (e : Event). MayCome (line.Happens e)) (sym h.1) (tt, λ actor same. cc)
alone_comes text e (inr h) = subst (λ (e : Event). MayCome (line.Happens e)) (sym h.1) (tt, λ actor same. cc)

said_comes : (text : List ℕ) (said : Line) → Says text said → MayCome said
said_comes text said (inl blank) = subst MayCome (sym blank.1) tt
said_comes text said (inr (inl alone)) = made_comes line.Happens text said (λ e h. alone_comes text e h) alone
said_comes text said (inr (inr parted)) = behind_comes parted.first parted.rest said parted.behind

pub spoken_served : (e : Event) → IsSpoken (line.Happens e) → IsServed e
spoken_served e h = let may = said_comes h.text (line.Happens e) h.says in may.0

pub spoken_outside : (e : Event) → IsSpoken (line.Happens e) → IsOutside e
spoken_outside e h = let may = said_comes h.text (line.Happens e) h.says in may.1
