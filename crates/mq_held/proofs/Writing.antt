-- The link took some of what is owed.
use Rattle.std.proofs.Common.{◌≡◌, ◌≢◌, ◌≤◌, ◌<◌, ℕ, zero, suc, min, List, [], length, take, Option, Some, None, refl, sym, ap, subst, ◌∙◌, true, arith}
use Rattle.std.proofs.Math.Nat.{min-eq_left}
use Rattle.std.proofs.lemmas.Bool.{lt-ltb}
use Rattle.mq_outside.specs.Counts.{LinkCounts}
use Rattle.mq_outside.specs.Links.{LinkPast, LinkWrites, most_at_once, fitting, taken_of, room_left}
use Rattle.mq_outside.specs.declared.LinkPut.TheVariants.{Took}
use Rattle.mq_talk.specs.declared.note.Note.{Note}
use Rattle.mq_talk.specs.declared.note.Note.TheVariants as note
use Rattle.mq_machine.specs.State.{Conn, Link, new_link, owed}
use Rattle.mq_machine.specs.Steps.{wrote}
use Rattle.mq_machine.specs.Turn.{has_room_for}
use Rattle.mq_talk.specs.Mails.{IsTold}
use Rattle.mq_held.specs.Links.{WriteDoes}

fits : (count n : ℕ) → count ≤ n → count < 4294967296 → fitting count n ≡ count
unfolding most_at_once
fits count n le small =
    let one = min-eq_left le in
    let two : min count 4294967295 ≡ count = min-eq_left (omega (arith, small)) in
    ap {B = ℕ} (λ m. min m 4294967295) one ∙ two

-- a write of so many bytes, as the machine writes
said_wrote : (s : Conn) (taken : List ℕ) (count size : ℕ) → size ≡ count → taken ≡ take count (owed s) → wrote s size ≡ (note.Wrote s.number taken, (wrote s count).1)
said_wrote s taken count size is taken_is =
    ap (λ (n : ℕ). wrote s n) is ∙ ap {B = Note × Conn} (λ (bytes : List ℕ). (note.Wrote s.number bytes, (wrote s count).1)) (sym taken_is)

not_empty : (xs : List ℕ) (count : ℕ) → 0 < count → count ≤ length xs → xs ≢ []
not_empty xs count some within none = let e = ap (λ (ys : List ℕ). length ys) none in omega (arith, some, within, e)

positive : (room size count : ℕ) → 0 < count → count ≡ fitting room size → 0 < room
unfolding most_at_once
positive zero size count some is = absurd (omega (arith, some, is))
positive (suc room) size count some is = omega arith

room_is_some : (room : Option ℕ) (count size : ℕ) → 0 < count → count ≡ taken_of room size → has_room_for room ≡ true
room_is_some None count size some is = refl
room_is_some (Some room) count size some is = lt-ltb 0 room (positive room size count some is)

pub write_does : (holds after : Option Link) (past past_after : LinkPast) (counts counts_after : LinkCounts) (s : Conn) (bytes taken : List ℕ) (count : ℕ) → bytes ≡ owed s
    → 0 < count → count ≤ length bytes → count < 4294967296 → LinkWrites holds after bytes (Took count) → counts_after ≡ counts → taken ≡ take count bytes
    → WriteDoes (record { holds = holds; after = after; past = past; past_after = past_after; counts = counts; counts_after = counts_after }) s (note.Wrote s.number taken) (wrote s count).1
write_does None after past past_after counts counts_after s bytes taken count are some within small writes same taken_is =
    let size : length bytes ≡ length (owed s) = ap (λ (xs : List ℕ). length xs) are in
    let le : count ≤ length (owed s) = omega (arith, size, within) in
    let exact = fits count (length (owed s)) le small in
    record {
      link = record new_link { room = Some count };
      told = tt;
      works = refl;
      room = lt-ltb 0 count some;
      some = not_empty (owed s) count some le;
      does = said_wrote s taken count (fitting count (length (owed s))) exact (taken_is ∙ ap (λ (xs : List ℕ). take count xs) are);
      tells = let P : Option Link → Type 0 = λ o. IsTold o (record new_link { room = room_left (Some count) (fitting count (length (owed s))) }) in subst P (sym writes) tt;
      counts = same;
      untold = λ none. writes;
    }
write_does (Some link) after past past_after counts counts_after s bytes taken count are some within small writes same taken_is =
    let size : length bytes ≡ length (owed s) = ap (λ (xs : List ℕ). length xs) are in
    let le : count ≤ length (owed s) = omega (arith, size, within) in
    let exact : count ≡ taken_of link.room (length (owed s)) = writes.1 ∙ ap (λ (n : ℕ). taken_of link.room n) size in
    record {
      link = link;
      told = refl;
      works = writes.0;
      room = room_is_some link.room count (length (owed s)) some exact;
      some = not_empty (owed s) count some le;
      does = said_wrote s taken count (taken_of link.room (length (owed s))) (sym exact) (taken_is ∙ ap (λ (xs : List ℕ). take count xs) are);
      tells =
          let now : Link = record link { room = room_left link.room (taken_of link.room (length (owed s))) } in
          let P : Option Link → Type 0 = λ o. IsTold o now in
          let is : after ≡ Some now = writes.2 ∙ ap (λ (n : ℕ). Some (record link { room = room_left link.room n })) exact in
          subst P (sym is) refl;
      counts = same;
      untold = λ none. absurd cc;
    }
