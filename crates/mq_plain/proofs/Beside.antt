-- What one worker wrote leaves what another one's office knows.
use Rattle.std.proofs.Common.{◌≡◌, ◌≢◌, ◌⊎◌, inl, inr, ℕ, ◌+◌, ◌<◌, ◌≤◌, Bool, true, false, ◌||◌, [], ◌∷◌, ◌++◌, length, All, slice_get, Some, refl, sym, ap, subst, ◌∙◌, arith, append-nil}
use Rattle.std.proofs.lemmas.Bool.{ne_eqb}
use Rattle.std.proofs.lemmas.List.{length-append}
use Rattle.std.proofs.lemmas.List.Elements.{All-head, All-weaker}
use Rattle.mq_talk.specs.declared.book.Call.{Call}
use Rattle.mq_talk.specs.declared.book.Call.TheVariants as call
use Rattle.mq_talk.specs.declared.book.Entry.{Entry}
use Rattle.mq_talk.specs.declared.goal.Goal.{Goal}
use Rattle.mq_talk.specs.Book.{History, closes}
use Rattle.mq_talk.specs.Mails.{Boxes}
use Rattle.mq_talk.specs.Offices.{Seen}
use Rattle.mq_machine.specs.State.{Held, Worker}
use Rattle.mq_machine.specs.Acting.{Outside, IsOpen, IsOwn, Writes, Known}
use Rattle.mq_machine.specs.Placing.{ArePlaced}
use Rattle.mq_actor.specs.Steps.{sight}
use Rattle.mq_actor.proofs.Books.{open_onward, open_backward, entry_or_last}
use Rattle.mq_book.proofs.Onward.{any_closes}
use Rattle.mq_mem.specs.Mails.{shown}

-- a tunnel that one actor opened is closed by no entry of another
call_beside : (book : History) (k j t : ℕ) (c : Call) (e : Entry) → slice_get book t ≡ Some e → e.actor ≡ j → j ≢ k
    → ((tunnel : ℕ) → c ≡ call.Close tunnel → (opener : Entry) × (slice_get book tunnel ≡ Some opener) × (opener.actor ≡ k)) → closes t c ≡ false
call_beside book k j t (call.Open conn stream actor goal) e at by ne keeps = refl
call_beside book k j t (call.Assign tunnel asked) e at by ne keeps = refl
call_beside book k j t (call.Advertise tunnel ranges) e at by ne keeps = refl
call_beside book k j t (call.Close tunnel) e at by ne keeps = ne_eqb tunnel t other where
  other : tunnel ≡ t → ⊥
  other same =
      let o = keeps tunnel refl in
      let P : ℕ → Type 0 = λ i. slice_get book i ≡ Some o.0 in
      let both : Some o.0 ≡ Some e = sym (subst P same o.1) ∙ at in
      let one : o.0 ≡ e = cc in
      ne (sym by ∙ ap (λ (x : Entry). x.actor) (sym one) ∙ o.2)

none_closed : (book own : History) (k j t : ℕ) (e : Entry) → length own ≤ 1 → All (IsOwn book k) own → slice_get book t ≡ Some e → e.actor ≡ j → j ≢ k → any_closes t own ≡ false
none_closed book [] k j t e few mine at by ne = refl
none_closed book (x ∷ []) k j t e few mine at by ne =
    ap (λ (b : Bool). b || false) (call_beside book k j t x.call e at by ne (All-head (IsOwn book k) x [] mine).keeps)
none_closed book (x ∷ y ∷ own) k j t e few mine at by ne = absurd (omega (arith, few))

-- a tunnel of another actor stays open
open_still : (book own : History) (k j tunnel conn stream : ℕ) (goal : Goal) → length own ≤ 1 → All (IsOwn book k) own → j ≢ k
    → IsOpen book j tunnel conn stream goal → IsOpen (book ++ own) j tunnel conn stream goal
open_still book own k j tunnel conn stream goal few mine ne is =
    open_onward book own j tunnel conn stream goal (none_closed book own k j tunnel is.entry few mine is.at is.by ne) is

-- and no other is
open_then : (book own : History) (k j tunnel conn stream : ℕ) (goal : Goal) → length own ≤ 1 → All (IsOwn book k) own → j ≢ k
    → IsOpen (book ++ own) j tunnel conn stream goal → IsOpen book j tunnel conn stream goal
open_then book [] k j tunnel conn stream goal few mine ne is = let P : History → Type 0 = λ h. IsOpen h j tunnel conn stream goal in subst P (append-nil book) is
open_then book (x ∷ []) k j tunnel conn stream goal few mine ne is = by_case (entry_or_last book x tunnel is.entry is.at) where
  by_case : (tunnel < length book) ⊎ ((tunnel ≡ length book) × (is.entry ≡ x)) → IsOpen book j tunnel conn stream goal
  by_case (inl less) = (open_backward book (x ∷ []) j tunnel conn stream goal less is).0
  by_case (inr (last, same)) = absurd (ne (sym is.by ∙ ap (λ (e : Entry). e.actor) same ∙ (All-head (IsOwn book k) x [] mine).by))
open_then book (x ∷ y ∷ own) k j tunnel conn stream goal few mine ne is = absurd (omega (arith, few))

-- the book that its office saw is the whole
pub whole_book : (old new : Seen) (k : ℕ) → old.is_whole ≡ true → (w : Writes old new k) → w.book ≡ old.entries
whole_book old new k whole w = w.sees.goes_on ∙ ap (λ (m : History). old.entries ++ m) (w.sees.whole whole) ∙ append-nil old.entries

-- Another worker's tunnels are known as they were.
pub known_beside : (o n : Outside) (old new : Seen) (boxes after : Boxes) (k : ℕ) (x : Worker) → Known (sight o old (shown boxes)) x → x.id ≢ k → old.is_whole ≡ true → Writes old new k
    → new.config ≡ old.config → length after ≡ length boxes → Known (sight n new (shown after)) x
known_beside o n old new boxes after k x known ne whole w config size =
    let book = whole_book old new k whole w in
    let wrote : new.entries ≡ old.entries ++ w.own = w.wrote ∙ ap (λ (h : History). h ++ w.own) book in
    let M : History → Type 0 = λ h. All (IsOwn h k) w.own in
    let mine : All (IsOwn old.entries k) w.own = subst M book w.mine in
    let longer : length new.entries ≡ length old.entries + length w.own = ap (λ (h : History). length h) wrote ∙ length-append old.entries w.own in
    let workers : new.config.workers ≡ old.config.workers = ap (λ c. c.workers) config in
    let lt = known.id in
    record {
      id = omega (arith, lt, workers);
      pump = known.pump ∙ sym workers;
      tunnels = λ tunnel conn stream goal.
          let is = known.tunnels tunnel conn stream goal in
          let P : History → Type 0 = λ h. IsOpen h x.id tunnel conn stream goal in (
            λ has. subst P (sym wrote) (open_still old.entries w.own k x.id tunnel conn stream goal w.few mine ne (is.0 has)),
            λ live. is.1 (open_then old.entries w.own k x.id tunnel conn stream goal w.few mine ne (subst P wrote live)),
          );
      last = All-weaker (λ (h : Held). h.conn.next_tunnel ≤ length old.entries) (λ (h : Held). h.conn.next_tunnel ≤ length new.entries)
          (λ h le. omega (arith, le, longer)) x.conns known.last;
      places = subst (λ (m : ℕ). All (λ (h : Held). ArePlaced m h.conn.due) x.conns) (sym workers) known.places;
      boxes = λ bs is.
          let same : after ≡ bs = cc in
          let was = known.boxes boxes refl in
          ap (λ (b : Boxes). length b) (sym same) ∙ size ∙ was ∙ ap (λ (m : ℕ). m + 1) (sym workers);
    }
