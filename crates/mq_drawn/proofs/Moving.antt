-- Which workers and links there are while a script goes on.
use Rattle.std.proofs.Common.{◌≡◌, ℕ, zero, suc, ◌∷◌, ◌++◌, List, [], true, false, ◌||◌, length, refl, sym, ap, ◌∙◌}
use Rattle.std.specs.Prelude.{nat_le, nat_lt}
use Rattle.std.proofs.lemmas.List.{length-map, length-set}
use Rattle.mq_machine.specs.declared.event.Event.TheVariants as event
use Rattle.mq_machine.specs.State.{Told, State, Worker}
use Rattle.mq_machine.specs.Turn.{Actor, WorkerOf, ThePump, Turn}
use Rattle.mq_talk.specs.declared.note.Note.{Note}
use Rattle.mq_play.specs.declared.line.Line.TheVariants as line
use Rattle.mq_play.specs.Events.{is_ended, is_missing, most_links, offered_to}
use Rattle.mq_play.specs.Laws.{NoneSilent}
use Rattle.mq_play.specs.Play.{Fate, Noted, Silent, Stage, Running, TheEnd, opened, Runs, Goes, LinePlays, is_actor, actor_of}

-- two workers, and these links, none of which is told to end
pub record Ran (links : List Told) (s : Stage) : Type 0 where
  pub two : length (opened s).workers ≡ 2
  pub links_are : (opened s).links ≡ links

-- a link of this worker
abbrev pub link_of : ℕ → Told
link_of worker = record { worker = worker; is_ended = false }

-- ---- steps

record Keeps (s t : State) : Type 0 where
  workers : length t.workers ≡ length s.workers
  links : t.links ≡ s.links

keeps_same : (s t : State) → t ≡ s → Keeps s t
keeps_same s t e = record { workers = ap (λ (u : State). length u.workers) e; links = ap (λ (u : State). u.links) e }

keeps_more : (s t u : State) → Keeps s t → Keeps t u → Keeps s u
keeps_more s t u a b = record { workers = b.workers ∙ a.workers; links = b.links ∙ a.links }

turn_keeps : (s : State) (actor : Actor) (note : Note) (t : State) → Turn s actor note t → Keeps s t
turn_keeps s (WorkerOf number) note t x = record {
  workers = ap (λ (u : State). length u.workers) x.new_is ∙ length-set s.workers number x.next;
  links = ap (λ (u : State). u.links) x.new_is;
}
turn_keeps s ThePump note t x = record { workers = ap (λ (u : State). length u.workers) x.new_is; links = ap (λ (u : State). u.links) x.new_is }

runs_keep : (n : ℕ) (s : State) (actor : Actor) (fates : List Fate) (text : List ℕ) (t : State) → NoneSilent fates → Runs TheEnd s actor n fates text t → Keeps s t
runs_keep zero s actor [] text t none x = keeps_same s t x.1
runs_keep zero s actor (fate ∷ fates) text t none x = absurd x
runs_keep (suc n) s actor [] text t none x = keeps_same s t x.1
runs_keep (suc n) s actor (Noted ∷ fates) text t none x =
    keeps_more s x.0 t (turn_keeps s actor x.3.0 x.0 x.3.1) (runs_keep n x.0 actor fates x.2 t none x.4)
runs_keep (suc n) s actor (Silent reached ∷ fates) text t none x = absurd none

goes_keep : (n : ℕ) (s : State) (at : ℕ) (fates : List Fate) (text : List ℕ) (t : State) → NoneSilent fates → Goes TheEnd s at n fates text t → Keeps s t
goes_keep zero s at [] text t none x = keeps_same s t x.1
goes_keep zero s at (fate ∷ fates) text t none x = absurd x
goes_keep (suc n) s at [] text t none x = keeps_same s t x.2
goes_keep (suc n) s at (Noted ∷ fates) text t none x =
    keeps_more s x.1 t (turn_keeps s x.0 x.5.0 x.1 x.5.1) (goes_keep n x.1 _ fates x.3 t none x.6)
goes_keep (suc n) s at (Silent reached ∷ fates) text t none x = absurd none

ran_keeps : (links : List Told) (s t : Stage) (state : State) → Ran links s → t ≡ Running state → Keeps (opened s) state → Ran links t
ran_keeps links s t state ran is keeps = record {
  two = ap (λ (u : Stage). length (opened u).workers) is ∙ keeps.workers ∙ ran.two;
  links_are = ap (λ (u : Stage). (opened u).links) is ∙ keeps.links ∙ ran.links_are;
}

pub steps_go : (links : List Told) (actor count : ℕ) (s t : Stage) (fates : List Fate) (text : List ℕ) → Ran links s → NoneSilent fates → LinePlays TheEnd s (line.Steps actor count) fates text t → Ran links t
steps_go links actor count s t fates text ran none x = ran_keeps links s t x.1 ran x.3 (runs_keep count (opened s) (actor_of actor) fates text x.1 none x.2)

pub run_goes : (links : List Told) (count : ℕ) (s t : Stage) (fates : List Fate) (text : List ℕ) → Ran links s → NoneSilent fates → LinePlays TheEnd s (line.Run count) fates text t → Ran links t
run_goes links count s t fates text ran none x = ran_keeps links s t x.0 ran x.2 (goes_keep count (opened s) 0 fates text x.0 none x.1)

-- ---- links and pieces

offered_long : (actor number : ℕ) (ws : List Worker) → length (offered_to actor number ws) ≡ length ws
offered_long actor number [] = refl
offered_long zero number (w ∷ ws) = refl
offered_long (suc actor) number (w ∷ ws) = ap (λ (n : ℕ). suc n) (offered_long actor number ws)

pub conn_goes : (links : List Told) (actor : ℕ) (s t : Stage) (fates : List Fate) (text : List ℕ) → Ran links s → NoneSilent fates → LinePlays TheEnd s (line.Happens (event.Conn actor)) fates text t
    → Ran (links ++ link_of actor ∷ []) t
conn_goes links actor s t fates text ran none x = record {
  two = ap (λ (u : Stage). length (opened u).workers) x.1 ∙ offered_long actor (length (opened s).links) (opened s).workers ∙ ran.two;
  links_are = ap (λ (u : Stage). (opened u).links) x.1 ∙ ap (λ (ls : List Told). ls ++ link_of actor ∷ []) ran.links_are;
}

pub piece_goes : (links : List Told) (conn : ℕ) (bytes : List ℕ) (s t : Stage) (fates : List Fate) (text : List ℕ) → Ran links s → NoneSilent fates → LinePlays TheEnd s (line.Happens (event.Piece conn bytes)) fates text t
    → Ran links t
piece_goes links conn bytes s t fates text ran none x = record {
  two = ap (λ (u : Stage). length (opened u).workers) x.1 ∙ length-map (opened s).workers _ ∙ ran.two;
  links_are = ap (λ (u : Stage). (opened u).links) x.1 ∙ ran.links_are;
}

-- ---- what may come

differ : true ≡ false → ⊥
differ e = cc

pub conn_comes : (links : List Told) (actor : ℕ) → (nat_le 2 actor || nat_le most_links (length links)) ≡ false → (s : Stage) → Ran links s → is_missing (opened s) (event.Conn actor) ≡ true → ⊥
conn_comes links actor fits s ran missing =
    let a = ap (λ (n : ℕ). nat_le n actor || nat_le most_links (length (opened s).links)) ran.two in
    let b = ap (λ (ls : List Told). nat_le 2 actor || nat_le most_links (length ls)) ran.links_are in
    differ (sym missing ∙ a ∙ b ∙ fits)

pub piece_comes : (links : List Told) (conn : ℕ) (bytes : List ℕ) → is_ended links conn ≡ false → (s : Stage) → Ran links s → is_missing (opened s) (event.Piece conn bytes) ≡ true → ⊥
piece_comes links conn bytes going s ran missing = differ (sym missing ∙ ap (λ (ls : List Told). is_ended ls conn) ran.links_are ∙ going)

pub worker_comes : (links : List Told) (number : ℕ) → nat_lt number 2 ≡ true → (s : Stage) → Ran links s → is_actor (opened s) (WorkerOf number) ≡ false → ⊥
worker_comes links number one s ran none = differ (sym one ∙ ap (λ (n : ℕ). nat_lt number n) (sym ran.two) ∙ none)
