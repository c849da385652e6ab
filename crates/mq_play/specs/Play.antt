-- What lines print, and the state behind them.
use Rattle.std.specs.Prelude.{◌≡◌, ℕ, zero, suc, ◌+◌, ◌≤◌, ◌⊎◌, ⊤, Bool, true, false, List, [], ◌∷◌, ◌++◌, map, length, take, drop, find, nat_lt, if◌then◌else◌, Option, Some, None}
use Rattle.std.specs.List.{list_any}
use Rattle.mq_talk.specs.declared.note.Note.{Note}
use Rattle.mq_machine.specs.State.{State}
use Rattle.mq_machine.specs.Silent.{Reached, SilentTurn}
use Rattle.mq_machine.specs.Turn.{Actor, WorkerOf, ThePump, Turn, has_turn}
use Rattle.mq_play.specs.declared.line.Line.{Line}
use Rattle.mq_play.specs.declared.line.Line.TheVariants as line
use Rattle.mq_play.specs.declared.line.SettingLine.{SettingLine}
use Rattle.mq_play.specs.Settings.{MayFollow, plan_of}
use Rattle.mq_play.specs.Lines.{Says, SaysNothing, net_number}
use Rattle.mq_play.specs.Events.{state_of, happen, is_missing}
use Rattle.mq_play.specs.Text.{printed, Idle, More}
use Rattle.mq_play.specs.Text.{Says as SaysNote}

-- ---- steps

-- how a step went: it gave a note, or was refused memory when it had come so far
pub data Fate : Type 0 where
  Noted : Fate
  Silent : (reached : Reached) → Fate

-- an actor makes a step, and prints this
abbrev pub StepsTo : State → Actor → Fate → List ℕ → State → Type 0
StepsTo old actor Noted text new = (note : Note) × Turn old actor note new × (text ≡ printed (SaysNote note))
StepsTo old actor (Silent reached) text new = SilentTurn old actor reached new × (text ≡ [])

-- whether steps go to their end, or may stop anywhere
pub data Until : Type 0 where
  TheEnd SomeStop : Until

abbrev pub IsIdle : State → Actor → List ℕ → Type 0
IsIdle s actor text = (has_turn s actor ≡ false) × (text ≡ printed (Idle actor))

-- what is printed where no step was taken and some were left
abbrev pub StopsAt : Until → State → Actor → List ℕ → Type 0
StopsAt TheEnd s actor text = IsIdle s actor text
StopsAt SomeStop s actor text = IsIdle s actor text ⊎ (text ≡ [])

-- Up to so many steps of an actor. Where it has no turn it is idle, and the steps stop.
abbrev pub Runs : Until → State → Actor → ℕ → List Fate → List ℕ → State → Type 0
Runs until old actor zero [] text new = (text ≡ []) × (new ≡ old)
Runs until old actor zero (fate ∷ fates) text new = ⊥
Runs until old actor (suc n) [] text new = StopsAt until old actor text × (new ≡ old)
Runs until old actor (suc n) (fate ∷ fates) text new =
    (mid : State) × (shown : List ℕ) × (rest : List ℕ) × StepsTo old actor fate shown mid × Runs until mid actor n fates rest new × (text ≡ shown ++ rest)

-- ---- all actors in turn

abbrev pub up_to : ℕ → List ℕ
up_to zero = []
up_to (suc n) = up_to n ++ n ∷ []

-- the workers by their numbers, then the pump
abbrev pub actors_of : State → List Actor
actors_of s = map WorkerOf (up_to (length s.workers)) ++ ThePump ∷ []

-- whose turn it is where the actor at this place is asked first, and the others behind it in a ring
abbrev pub next_actor : State → ℕ → Option Actor
next_actor s at = find (has_turn s) (drop at (actors_of s) ++ take at (actors_of s))

abbrev pub place_behind : Actor → ℕ
place_behind (WorkerOf number) = number + 1
place_behind ThePump = 0

-- what is said behind all steps: that some actor isn't quiet
abbrev pub more_text : State → List ℕ
more_text s = if list_any (has_turn s) (actors_of s) then printed More else []

-- what is printed where all steps were taken
abbrev pub EndsAt : Until → State → List ℕ → Type 0
EndsAt TheEnd s text = text ≡ more_text s
EndsAt SomeStop s text = (text ≡ more_text s) ⊎ (text ≡ [])

-- some steps were left: nobody has a turn
abbrev pub IsOver : Until → State → ℕ → Type 0
IsOver TheEnd s at = next_actor s at ≡ None
IsOver SomeStop s at = ⊤

-- Up to so many steps of all actors in turn, from this one on. They stop where none has a turn.
abbrev pub Goes : Until → State → ℕ → ℕ → List Fate → List ℕ → State → Type 0
Goes until old at zero [] text new = EndsAt until old text × (new ≡ old)
Goes until old at zero (fate ∷ fates) text new = ⊥
Goes until old at (suc n) [] text new = IsOver until old at × (text ≡ []) × (new ≡ old)
Goes until old at (suc n) (fate ∷ fates) text new =
    (actor : Actor) × (mid : State) × (shown : List ℕ) × (rest : List ℕ) × (next_actor old at ≡ Some actor)
    × StepsTo old actor fate shown mid × Goes until mid (place_behind actor) n fates rest new × (text ≡ shown ++ rest)

-- ---- lines

abbrev pub actor_of : ℕ → Actor
actor_of number = if nat_lt number net_number then WorkerOf number else ThePump

abbrev pub is_actor : State → Actor → Bool
is_actor s (WorkerOf number) = nat_lt number (length s.workers)
is_actor s ThePump = true

-- how far a script has come: its first lines are settings, and behind them the machine runs
pub data Stage : Type 0 where
  Settings : List SettingLine → Stage
  Running : State → Stage

-- nothing was said yet
abbrev pub opening : Stage
opening = Settings []

-- the state from which a line that is no setting goes on
abbrev pub opened : Stage → State
opened (Settings lines) = state_of (plan_of lines)
opened (Running state) = state

-- one more setting, before the first line that is none
abbrev pub Sets : Stage → SettingLine → Stage → Type 0
Sets (Settings lines) said new = MayFollow lines said × (new ≡ Settings (lines ++ said ∷ []))
Sets (Running state) said new = ⊥

-- what a good line prints and does; its steps went so
abbrev pub LinePlays : Until → Stage → Line → List Fate → List ℕ → Stage → Type 0
LinePlays until old line.Blank fates text new = (new ≡ old) × (fates ≡ []) × (text ≡ [])
LinePlays until old (line.Setting said) fates text new = Sets old said new × (fates ≡ []) × (text ≡ [])
LinePlays until old (line.Happens event) fates text new =
    (is_missing (opened old) event ≡ false) × (new ≡ Running (happen (opened old) event)) × (fates ≡ []) × (text ≡ [])
LinePlays until old (line.Steps actor count) fates text new =
    (is_actor (opened old) (actor_of actor) ≡ true) × (state : State) × Runs until (opened old) (actor_of actor) count fates text state × (new ≡ Running state)
LinePlays until old (line.Run count) fates text new =
    (state : State) × Goes until (opened old) 0 count fates text state × (new ≡ Running state)

-- a setting that comes too late, or may not stand behind those before it
abbrev pub IsUnset : Stage → SettingLine → Type 0
IsUnset (Settings lines) said = MayFollow lines said → ⊥
IsUnset (Running state) said = ⊤

-- a line of the grammar is bad in this place
abbrev pub IsBadHere : Stage → Line → Type 0
IsBadHere old line.Blank = ⊥
IsBadHere old (line.Setting said) = IsUnset old said
IsBadHere old (line.Happens event) = is_missing (opened old) event ≡ true
IsBadHere old (line.Steps actor count) = is_actor (opened old) (actor_of actor) ≡ false
IsBadHere old (line.Run count) = ⊥

-- outside the grammar, or bad in this place
abbrev pub IsWrong : Stage → List ℕ → Type 0
IsWrong old text = SaysNothing text ⊎ ((said : Line) × Says text said × IsBadHere old said)

-- the most bytes of a line without its newline
abbrev pub line_limit : ℕ
line_limit = 200000

-- a line within its limit says something, which prints this and leads there; its steps went so
pub record PlaysLine (until : Until) (old : Stage) (text : List ℕ) (fates : List Fate) (shown : List ℕ) (new : Stage) : Type 0 where
  pub said : Line
  pub fits : length text ≤ line_limit
  pub says : Says text said
  pub plays : LinePlays until old said fates shown new

-- The lines, in order and each good, print the text and lead from old to new. The steps of each went so.
abbrev pub Plays : Stage → List (List ℕ) → List (List Fate) → List ℕ → Stage → Type 0
Plays old [] [] text new = (text ≡ []) × (new ≡ old)
Plays old [] (here ∷ later) text new = ⊥
Plays old (l ∷ lines) [] text new = ⊥
Plays old (l ∷ lines) (here ∷ later) text new =
    (mid : Stage) × (shown : List ℕ) × (rest : List ℕ) × PlaysLine TheEnd old l here shown mid × Plays mid lines later rest new × (text ≡ shown ++ rest)
