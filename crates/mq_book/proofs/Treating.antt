-- A request for blocks, entry by entry.
use Rattle.std.proofs.Common.{◌≡◌, ℕ, ◌+◌, ◌<◌, List, [], ◌∷◌, ◌++◌, length, get_or, take, Result, Ok, Err, ap, sym, ◌∙◌, refl, subst, append_assoc}
use Rattle.std.specs.Prelude.{IfOk}
use Rattle.std.proofs.lemmas.List.{take_more}
use Rattle.mq_addr.specs.declared.prefix.Prefix.{Prefix}
use Rattle.mq_addr.specs.declared.entry.Asked.{Asked}
use Rattle.mq_addr.specs.declared.entry.Given.{Given}
use Rattle.mq_wire.specs.declared.NoMemory.{NoMemory}
use Rattle.mq_talk.specs.Book.{blocks}
use Rattle.mq_talk.specs.Answers.{AreTreated, IsOutcome, Outcome, Keeps, Denies, Gives, taken_by, given_by, denied_by, denial}
use Rattle.mq_book.specs.declared.assign.Treated.{Treated}
use Rattle.mq_book.specs.Treat.{Treats, AreDone}
use Rattle.mq_book.proofs.More.{append_nil}

pub denied_treats : (pool : List Prefix) (a : Asked) (before : Treated) (r : Result Treated NoMemory) → IfOk r (λ (new : Treated). new.taken.items ≡ before.taken.items)
    → IfOk r (λ (new : Treated). new.held.items ≡ before.held.items) → IfOk r (λ (new : Treated). new.denied.items ≡ before.denied.items ++ denial a ∷ [])
    → IsOutcome pool before.taken.items before.held.items a Denies → IfOk r (λ new. Treats pool a before new)
denied_treats pool a before (Ok new) t h d o = record { did = Denies; is = o; taken = t ∙ sym (append_nil before.taken.items); held = h ∙ sym (append_nil before.held.items); denied = d }
denied_treats pool a before (Err e) t h d o = tt

pub given_treats : (pool : List Prefix) (a : Asked) (block : Prefix) (before : Treated) (r : Result Treated NoMemory) → IfOk r (λ (new : Treated). new.taken.items ≡ before.taken.items ++ block ∷ [])
    → IfOk r (λ (new : Treated). new.held.items ≡ before.held.items ++ record { id = a.id; block = block } ∷ []) → IfOk r (λ (new : Treated). new.denied.items ≡ before.denied.items)
    → IsOutcome pool before.taken.items before.held.items a (Gives block) → IfOk r (λ new. Treats pool a before new)
given_treats pool a block before (Ok new) t h d o = record { did = Gives block; is = o; taken = t; held = h; denied = d ∙ sym (append_nil before.denied.items) }
given_treats pool a block before (Err e) t h d o = tt

blocks_append : (xs ys : List Given) → blocks (xs ++ ys) ≡ blocks xs ++ blocks ys
blocks_append [] ys = refl
blocks_append (x ∷ xs) ys = ap (λ l. x.block ∷ l) (blocks_append xs ys)

taken_is : (a : Asked) (did : Outcome) → blocks (given_by a did) ≡ taken_by did
taken_is a Keeps = refl
taken_is a Denies = refl
taken_is a (Gives block) = refl

all_blocks : (old : List Prefix) (a : Asked) (did : Outcome) (more : List Given) → old ++ blocks (given_by a did ++ more) ≡ (old ++ taken_by did) ++ blocks more
all_blocks old a did more =
    ap (λ l. old ++ l) (blocks_append (given_by a did) more ∙ ap (λ l. l ++ blocks more) (taken_is a did)) ∙ sym (append_assoc old (taken_by did) (blocks more))

-- an entry more behind others
snoc : (pool old : List Prefix) (have : List Given) (xs : List Asked) (given denied : List Given) (a : Asked) (did : Outcome) → AreTreated pool old have xs given denied
    → IsOutcome pool (old ++ blocks given) (have ++ given) a did → AreTreated pool old have (xs ++ a ∷ []) (given ++ given_by a did) (denied ++ denied_by a did)
snoc pool old have [] given denied a did (g, d) o =
    let here : IsOutcome pool old have a did =
    subst (λ l. IsOutcome pool l have a did) (append_nil old) (subst (λ l. IsOutcome pool (old ++ []) l a did) (append_nil have)
    (subst (λ l. IsOutcome pool (old ++ blocks l) (have ++ l) a did) g o)) in
    (did, [], [], here, (refl, refl), ap (λ l. l ++ given_by a did) g ∙ sym (append_nil (given_by a did)), ap (λ l. l ++ denied_by a did) d ∙ sym (append_nil (denied_by a did)))
snoc pool old have (b ∷ rest) given denied a did (first, more, others, outcome, treated, g, d) o =
    let next : IsOutcome pool ((old ++ taken_by first) ++ blocks more) ((have ++ given_by b first) ++ more) a did =
    subst (λ l. IsOutcome pool l ((have ++ given_by b first) ++ more) a did) (all_blocks old b first more)
    (subst (λ l. IsOutcome pool (old ++ blocks (given_by b first ++ more)) l a did) (sym (append_assoc have (given_by b first) more))
    (subst (λ l. IsOutcome pool (old ++ blocks l) (have ++ l) a did) g o)) in (
      first,
      more ++ given_by a did,
      others ++ denied_by a did,
      outcome,
      snoc pool (old ++ taken_by first) (have ++ given_by b first) rest more others a did treated next,
      ap (λ l. l ++ given_by a did) g ∙ append_assoc (given_by b first) more (given_by a did),
      ap (λ l. l ++ denied_by a did) d ∙ append_assoc (denied_by b first) others (denied_by a did),
    )

pub done_more : (pool old : List Prefix) (have : List Given) (asked : List Asked) (i : ℕ) (d : Asked) (before after : Treated) → i < length asked
    → AreDone pool old have (take i asked) before → Treats pool (get_or asked i d) before after → AreDone pool old have (take (i + 1) asked) after
done_more pool old have asked i d before after less done t =
    let a = get_or asked i d in
    let more : AreTreated pool old have (take i asked ++ a ∷ []) (done.given ++ given_by a t.did) (before.denied.items ++ denied_by a t.did) =
    snoc pool old have (take i asked) done.given before.denied.items a t.did done.treated
    (subst (λ l. IsOutcome pool l (have ++ done.given) a t.did) done.taken_is (subst (λ l. IsOutcome pool before.taken.items l a t.did) done.held_is t.is)) in
    record {
      given = done.given ++ given_by a t.did;
      treated =
          subst (λ l. AreTreated pool old have (take (i + 1) asked) (done.given ++ given_by a t.did) l) (sym t.denied)
          (subst (λ l. AreTreated pool old have l (done.given ++ given_by a t.did) (before.denied.items ++ denied_by a t.did)) (sym (take_more asked i d less)) more);
      taken_is =
          t.taken ∙ ap (λ l. l ++ taken_by t.did) done.taken_is ∙ append_assoc old (blocks done.given) (taken_by t.did)
          ∙ ap (λ l. old ++ (blocks done.given ++ l)) (sym (taken_is a t.did)) ∙ ap (λ l. old ++ l) (sym (blocks_append done.given (given_by a t.did)));
      held_is = t.held ∙ ap (λ l. l ++ given_by a t.did) done.held_is ∙ append_assoc have done.given (given_by a t.did);
    }
