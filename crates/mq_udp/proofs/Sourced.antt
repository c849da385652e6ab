-- What a source gives is read.
use Rattle.std.proofs.Common.{◌≡◌, ℕ, ◌+◌, List, [], ◌++◌, length, Option, Some, None, Err, refl, sym, ap, subst, ◌∙◌, append_assoc, inl, inr}
use Rattle.std.specs.Prelude.{IfSome}
use Rattle.mq_outside.specs.Outside.{Gives, Rose}
use Rattle.mq_output.specs.declared.stop.Stop.{Stop}
use Rattle.mq_output.specs.declared.stop.Stop.TheVariants as stop
use Rattle.mq_udp.specs.declared.input.Input.{Input}
use Rattle.mq_udp.specs.declared.reading.Unread.{Unread}
use Rattle.mq_udp.specs.declared.reading.Unread.TheVariants.{Failed, BadLine, NoMemory}
use Rattle.mq_udp.specs.Input.{EndsTo, ReadsOn}
use Rattle.mq_udp.specs.Inputs.{InputCounts, IsAtEnd, ReadsAll, ReadsMore, UnreadBy}

pub gives_none : (before after : Option (List ℕ)) → after ≡ before → Gives before after []
gives_none None after e = e
gives_none (Some left) after e = (left, e, refl)

pub gives_more : (a b c : Option (List ℕ)) (x y : List ℕ) → Gives a b x → Gives b c y → Gives a c (x ++ y)
gives_more None b c x y p q = let P : Option (List ℕ) → Type 0 = λ o. Gives o c y in subst P p q
gives_more (Some left) b c x y p q =
    let P : Option (List ℕ) → Type 0 = λ o. Gives o c y in
    let r = subst P p.1 q in
    (r.0, r.1, p.2 ∙ ap (λ (xs : List ℕ). x ++ xs) r.2 ∙ sym (append_assoc x y r.0))

-- the source told that nothing is left
pub is_at_end : (before after : Option (List ℕ)) → after ≡ before → IfSome before (λ left. left ≡ []) → IsAtEnd after
is_at_end before after e h = subst IsAtEnd (sym e) h

-- why it isn't read on
pub refused : (text : List ℕ) (left : Option (List ℕ)) (why : Stop) (unread : Unread) (x : Input) → ReadsOn text (Err why) x → UnreadBy why (length x.payloads.items + 1) unread → ReadsMore text left (Err unread) x
refused text left stop.BadLine unread x reads is = let P : Unread → Type 0 = λ u. ReadsMore text left (Err u) x in subst P (sym is) (inl reads)
refused text left stop.WriteFault unread x reads is = absurd reads
refused text left stop.NoMemory unread x reads is = let P : Unread → Type 0 = λ u. ReadsMore text left (Err u) x in subst P (sym is) tt

-- or isn't whole
pub refused_last : (text : List ℕ) (left : Option (List ℕ)) (why : Stop) (unread : Unread) (x : Input) → IsAtEnd left → EndsTo text (Err why) x → UnreadBy why (length x.payloads.items + 1) unread
    → ReadsMore text left (Err unread) x
refused_last text left stop.BadLine unread x over ends is = let P : Unread → Type 0 = λ u. ReadsMore text left (Err u) x in subst P (sym is) (inr (over, ends))
refused_last text left stop.WriteFault unread x over ends is = absurd ends
refused_last text left stop.NoMemory unread x over ends is = let P : Unread → Type 0 = λ u. ReadsMore text left (Err u) x in subst P (sym is) tt

-- more was read, and no whole input
pub unread_all : (text : List ℕ) (left : Option (List ℕ)) (unread : Unread) (x : Input) → ReadsMore text left (Err unread) x → ReadsAll text left (Err unread)
unread_all text left Failed x h = tt
unread_all text left (BadLine number) x h = h
unread_all text left NoMemory x h = tt

pub unread_counts : (A B : Type 0) (first before after : ℕ) (unread : Unread) → before ≡ first → InputCounts {A = A} before after (Err unread) → InputCounts {A = B} first after (Err unread)
unread_counts A B first before after Failed e h = let P : ℕ → Type 0 = λ n. Rose n after in subst P e h
unread_counts A B first before after (BadLine number) e h = h ∙ e
unread_counts A B first before after NoMemory e h = h ∙ e
