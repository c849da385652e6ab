-- The link gave a piece, or its end.
use Rattle.std.proofs.Common.{◌≡◌, ◌≢◌, ◌≤◌, ◌<◌, ℕ, min, List, [], ◌∷◌, length, take, drop, Option, Some, None, refl, sym, ap, subst, ◌∙◌, true, arith}
use Rattle.std.proofs.Math.Nat.{min-eq_left, min-eq_right, min-le_left}
use Rattle.std.proofs.Math.Seq.{take-length}
use Rattle.std.proofs.lemmas.List.{length-take, take_min, drop_min}
use Rattle.mq_outside.specs.Counts.{LinkCounts}
use Rattle.mq_outside.specs.Links.{LinkPast, LinkReads, most_at_once, fitting, behind, and_then, past_read}
use Rattle.mq_outside.specs.declared.LinkGot.TheVariants.{Bytes, End}
use Rattle.mq_machine.specs.State.{Link, new_link}
use Rattle.mq_machine.specs.Turn.{most_read}
use Rattle.mq_talk.specs.Mails.{IsTold}
use Rattle.mq_held.specs.Links.{TakesPiece, TakesEnd}

-- one read takes no more than a buffer of this size
fits : (size n : ℕ) → size ≡ 16384 → fitting size n ≡ min 16384 n
unfolding most_at_once
fits size n is =
    let one : fitting size n ≡ fitting 16384 n = ap (λ (m : ℕ). fitting m n) is in
    let two : fitting 16384 n ≡ min 16384 n = min-eq_left (omega (arith, min-le_left 16384 n)) in
    one ∙ two

pub some_read : (xs ys : List ℕ) (count : ℕ) → 0 < count → count ≤ length xs → ys ≡ take count xs → ys ≢ []
some_read xs ys count some within is none =
    let e = ap (λ (zs : List ℕ). length zs) (sym is ∙ none) in
    let size = length-take count xs in
    let least = min-eq_left within in
    omega (arith, some, e, size, least)

pub size_read : (xs ys : List ℕ) (count : ℕ) → count ≤ length xs → ys ≡ take count xs → count ≡ length ys
size_read xs ys count within is =
    let e = ap (λ (zs : List ℕ). length zs) is in
    let size = length-take count xs in
    let least = min-eq_left within in
    omega (arith, e, size, least)

take_all : (n : ℕ) (xs : List ℕ) → length xs ≤ n → xs ≡ take n xs
take_all n xs within = sym (take-length xs) ∙ ap (λ (m : ℕ). take m xs) (sym (min-eq_right within)) ∙ take_min n xs

gave_piece : (past past_after : LinkPast) (buffer piece : List ℕ) (count : ℕ) → past_after ≡ past_read past buffer (Bytes count) → piece ≡ take count buffer
    → past_after ≡ record past { gave = and_then past.gave piece }
gave_piece past past_after buffer piece count told is = told ∙ ap {B = LinkPast} (λ (bytes : List ℕ). record past { gave = and_then past.gave bytes }) (sym is)

pub takes_piece : (holds after : Option Link) (past past_after : LinkPast) (counts counts_after : LinkCounts) (buffer piece : List ℕ) (count : ℕ) → length buffer ≡ 16384
    → 0 < count → count ≤ length buffer → LinkReads holds after buffer (Bytes count) → past_after ≡ past_read past buffer (Bytes count) → counts_after ≡ counts → piece ≡ take count buffer
    → TakesPiece (record { holds = holds; after = after; past = past; past_after = past_after; counts = counts; counts_after = counts_after }) piece
takes_piece None after past past_after counts counts_after buffer piece count size some within reads told same is =
    record {
      link = record new_link { pieces = piece ∷ [] };
      first = piece;
      others = [];
      told = tt;
      works = refl;
      pieces = refl;
      piece_is = let length_is = size_read buffer piece count within is in take_all 16384 piece (omega (arith, length_is, within, size));
      tells = let P : Option Link → Type 0 = λ o. IsTold o (record new_link { pieces = behind (drop most_read piece) [] }) in subst P (sym reads) tt;
      past = gave_piece past past_after buffer piece count told is;
      counts = same;
      untold = λ none. reads;
    }
takes_piece (Some link) after past past_after counts counts_after buffer piece count size some within reads told same is =
    let count_is : count ≡ min 16384 (length reads.first) = reads.count_is ∙ fits (length buffer) (length reads.first) size in
    record {
      link = link;
      first = reads.first;
      others = reads.others;
      told = refl;
      works = reads.works;
      pieces = reads.pieces_are;
      piece_is = is ∙ reads.bytes_are ∙ ap (λ (n : ℕ). take n reads.first) count_is ∙ take_min 16384 reads.first;
      tells =
          let now : Link = record link { pieces = behind (drop most_read reads.first) reads.others } in
          let P : Option Link → Type 0 = λ o. IsTold o now in
          let drops : drop count reads.first ≡ drop 16384 reads.first = ap (λ (n : ℕ). drop n reads.first) count_is ∙ drop_min 16384 reads.first in
          let is : after ≡ Some now = reads.after_is ∙ ap (λ (bytes : List ℕ). Some (record link { pieces = behind bytes reads.others })) drops in
          subst P (sym is) refl;
      past = gave_piece past past_after buffer piece count told is;
      counts = same;
      untold = λ none. absurd cc;
    }

pub takes_end : (holds after : Option Link) (past past_after : LinkPast) (counts counts_after : LinkCounts) (buffer : List ℕ) → LinkReads holds after buffer End → past_after ≡ past_read past buffer End → counts_after ≡ counts
    → TakesEnd (record { holds = holds; after = after; past = past; past_after = past_after; counts = counts; counts_after = counts_after })
takes_end None after past past_after counts counts_after buffer reads told same = record {
  link = record new_link { is_ended = true };
  told = tt;
  works = refl;
  pieces = refl;
  is_ended = refl;
  tells = let P : Option Link → Type 0 = λ o. IsTold o (record new_link { is_ended = true }) in subst P (sym reads) tt;
  past = told;
  counts = same;
  untold = λ none. reads;
}
takes_end (Some link) after past past_after counts counts_after buffer reads told same = record {
  link = link;
  told = refl;
  works = reads.0;
  pieces = reads.1;
  is_ended = reads.2;
  tells = let P : Option Link → Type 0 = λ o. IsTold o link in subst P (sym reads.3) refl;
  past = told;
  counts = same;
  untold = λ none. absurd cc;
}
