-- The room for what is put without memory.
use Rattle.std.proofs.Common.{◌≡◌, ◌≤◌, ℕ, ◌+◌, Bool, true, false, not, cond, ◌||◌, eqb, List, [], ◌∷◌, ◌++◌, length, filter, min, refl, sym, ap, subst, ◌∙◌, arith, append-nil, append_assoc}
use Rattle.std.specs.List.{list_any}
use Rattle.std.specs.Bool.{IsTrue}
use Rattle.mq_frame.specs.declared.frame.Frame.TheVariants as frame
use Rattle.mq_frame.specs.declared.kind.Kind.TheVariants as kinds
use Rattle.mq_frame.specs.Header.{header_text}
use Rattle.mq_frame.specs.Writing.{spelling_of, flag}
use Rattle.mq_streams.specs.History.{History, Dropped, live, is_live}
use Rattle.mq_streams.specs.Stand.{StandFor}
use Rattle.mq_streams.specs.declared.streams.Streams.{Streams}
use Rattle.mq_h2.specs.declared.parts.Core.{Core}
use Rattle.mq_h2.specs.State.{State, put}
use Rattle.mq_h2.specs.Stand.{Serves}
use Rattle.mq_h2.specs.Doing.{PutsWithin, CanClose, IsReady}
use Rattle.mq_streams.specs.Answers.{send_window, connection_send_window}
use Rattle.mq_h2.specs.Acts.{ending_text}
use Rattle.mq_h2.specs.Laws.{SendsWithin}
use Rattle.std.proofs.lemmas.List.{length-append}
use Rattle.mq_h2.proofs.Cores.{put_owed, put_given}
use Rattle.mq_h2.specs.Left.{left}

-- how long short frames are
pub reset_len : (id code : ℕ) → length (spelling_of (frame.Reset id code)) ≡ 13
unfolding spelling_of
reset_len id code = refl

pub end_len : (id : ℕ) → length (spelling_of (frame.Content id [] 0 true)) ≡ 9
unfolding spelling_of
end_len id = refl

pub window_len : (id grow : ℕ) → length (spelling_of (frame.Window id grow)) ≡ 13
unfolding spelling_of
window_len id grow = refl

-- the ids but for one
abbrev but : ℕ → List ℕ → List ℕ
but id xs = filter (λ s. not (eqb s id)) xs

few_at : (b : Bool) (id x : ℕ) (xs : List ℕ) → length (but id xs) ≤ length xs → length (cond (not b) (x ∷ but id xs) (but id xs)) ≤ length (x ∷ xs)
few_at true id x xs h = omega arith
few_at false id x xs h = omega arith

few : (id : ℕ) (xs : List ℕ) → length (but id xs) ≤ length xs
few id [] = omega arith
few id (x ∷ xs) = few_at (eqb x id) id x xs (few id xs)

fewer_at : (b : Bool) (id x : ℕ) (xs : List ℕ) → (list_any (λ s. eqb s id) xs ≡ true → length (but id xs) + 1 ≤ length xs) → (b || list_any (λ s. eqb s id) xs) ≡ true
    → length (cond (not b) (x ∷ but id xs) (but id xs)) + 1 ≤ length (x ∷ xs)
fewer_at true id x xs h e = let f = few id xs in omega arith
fewer_at false id x xs h e = let f = h e in omega arith

fewer : (id : ℕ) (xs : List ℕ) → list_any (λ s. eqb s id) xs ≡ true → length (but id xs) + 1 ≤ length xs
fewer id [] e = absurd cc
fewer id (x ∷ xs) e = fewer_at (eqb x id) id x xs (fewer id xs) e

-- fewer are live when one that was is closed
pub one_fewer : (id : ℕ) (h : History) → IsTrue (is_live id h) → length (live (Dropped id ∷ h)) + 1 ≤ length (live h)
one_fewer id h lives = fewer id (live h) lives

-- bytes were put
pub ready_put : (c d : Core) (s : State) (bytes wanted : List ℕ) → IsReady c s → PutsWithin bytes c d → bytes ≡ wanted → Serves d (put wanted s)
ready_put c d s bytes wanted is puts same =
    let p = puts.puts in
    let serves = is.serves in
    record {
      encoder = p.encoder ∙ serves.encoder;
      streams = subst (λ (x : Streams). StandFor x s.history) (sym p.streams) serves.streams;
      given = put_given s.given s.out wanted serves.given;
      owed_is = put_owed s.given s.out bytes wanted _ _ serves.given serves.owed_is p.owed same;
    }

-- bytes were put for the end of a live stream, which is closed
pub ready_closed : (c d : Core) (s : State) (id : ℕ) (bytes wanted : List ℕ) → IsReady c s → IsTrue (is_live id s.history) → PutsWithin bytes c d → length bytes ≤ 22 → bytes ≡ wanted
    → (streams : Streams) → StandFor streams (Dropped id ∷ s.history)
    → IsReady (record d { streams = streams }) (record s { out = s.out ++ wanted; history = Dropped id ∷ s.history })
ready_closed c d s id bytes wanted is lives puts short same streams stand =
    let serves = ready_put c d s bytes wanted is puts same in
    let one = one_fewer id s.history lives in
    let room = is.room in
    record {
      serves = record { encoder = serves.encoder; streams = stand; given = serves.given; owed_is = serves.owed_is };
      room = record { room = omega (arith, one, room.room, puts.len, puts.capacity); least = omega (arith, room.least, puts.capacity) };
    }

-- the streams are the same behind what was put
pub put_streams : (c d : Core) (s : State) (bytes : List ℕ) → IsReady c s → PutsWithin bytes c d → StandFor d.streams s.history
put_streams c d s bytes is puts = subst (λ (x : Streams). StandFor x s.history) (sym puts.puts.streams) is.serves.streams

-- RST_STREAM or nothing was put for the end of a live stream, which is closed
pub ready_ended : (c d : Core) (s : State) (id : ℕ) (bytes : List ℕ) → CanClose id c s → PutsWithin bytes c d → length bytes ≤ 13
    → (streams : Streams) → StandFor streams (Dropped id ∷ s.history)
    → IsReady (record d { streams = streams }) (record s { out = s.out ++ bytes; history = Dropped id ∷ s.history })
ready_ended c d s id bytes is puts short streams stand =
    let p = puts.puts in
    let serves = is.serves in
    record {
      serves = record {
        encoder = p.encoder ∙ serves.encoder;
        streams = stand;
        given = put_given s.given s.out bytes serves.given;
        owed_is = put_owed s.given s.out bytes bytes _ _ serves.given serves.owed_is p.owed refl;
      };
      room = record { room = omega (arith, is.room, puts.len, puts.capacity); least = omega (arith, is.least, puts.capacity) };
    }

pub ending_short : (finished : Bool) (id : ℕ) → length (ending_text finished id) ≤ 13
ending_short true id = omega arith
ending_short false id = let e = reset_len id 0 in omega arith

-- nothing was put
pub puts_nothing : (c : Core) → PutsWithin [] c c
puts_nothing c = record {
  puts = record { decoder = refl; encoder = refl; streams = refl; block = refl; owed = sym (append-nil (left c.owed)) };
  len = omega arith;
  capacity = omega arith;
}

-- one after the other
pub puts_both : (c d e : Core) (a b : List ℕ) → PutsWithin a c d → PutsWithin b d e → PutsWithin (a ++ b) c e
puts_both c d e a b x y =
    let p = x.puts in
    let q = y.puts in
    record {
      puts = record {
        decoder = q.decoder ∙ p.decoder;
        encoder = q.encoder ∙ p.encoder;
        streams = q.streams ∙ p.streams;
        block = q.block ∙ p.block;
        owed = q.owed ∙ ap (λ (o : List ℕ). o ++ b) p.owed ∙ append_assoc (left c.owed) a b;
      };
      len = omega (arith, x.len, y.len, length-append a b);
      capacity = omega (arith, x.capacity, y.capacity);
    }

-- how long HEADERS and DATA are
pub headers_len : (id : ℕ) (block : List ℕ) (end : Bool) → length (spelling_of (frame.Headers id block end true)) ≡ 9 + length block
unfolding spelling_of
headers_len id block end = length-append (header_text (length block) kinds.Headers (flag end 1 + 4) id) block

pub data_len : (id : ℕ) (bytes : List ℕ) → length (spelling_of (frame.Content id bytes (length bytes) false)) ≡ 9 + length bytes
unfolding spelling_of
data_len id bytes = length-append (header_text (length bytes) kinds.Data 0 id) bytes

-- the least of four numbers, or 0
least : (lives : Bool) (n m a b : ℕ) → let count = cond lives (min (min n m) (min a b)) 0 in (count ≤ a) × (count ≤ b) × (count ≤ m) × (count ≤ n)
least true n m a b = (omega arith, omega arith, omega arith, omega arith)
least false n m a b = (omega arith, omega arith, omega arith, omega arith)

-- DATA that is sent is within its rooms
pub sends_within : SendsWithin
sends_within id size s = least (is_live id s.history) size 16384 (send_window id s.history) (connection_send_window s.history)
