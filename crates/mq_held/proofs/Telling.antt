-- What a sound office replied can be told to the tunnel.
use Rattle.std.proofs.Common.{◌≡◌, ℕ, [], ◌∷◌, ◌++◌, length, get_or, take, sym, refl, subst, arith}
use Rattle.std.proofs.lemmas.List.{take_at, get_or_push, length_push}
use Rattle.mq_book.specs.Laws.{BeginsLegal}
use Rattle.mq_iptun.specs.Answers.{AnswersCanBeTold, CanTell}
use Rattle.mq_talk.specs.declared.book.Call.{Call}
use Rattle.mq_talk.specs.declared.book.Config.{Config}
use Rattle.mq_talk.specs.declared.book.Entry.{Entry}
use Rattle.mq_talk.specs.declared.book.Reply.{Reply}
use Rattle.mq_talk.specs.declared.book.Reply.TheVariants as reply
use Rattle.mq_talk.specs.Answers.{Follows, IsAnswer, IsLegal}
use Rattle.mq_talk.specs.Book.{History}
use Rattle.mq_talk.specs.Config.{IsConfig}
use Rattle.mq_talk.specs.Offices.{CallOk, IsSound, Seen}

-- the last entry of a legal history follows those before, which are legal
last_follows : (config : Config) (h : History) (e : Entry) → IsLegal config (h ++ e ∷ []) → Follows config h e
last_follows config h e legal =
    let long = length_push h e in
    let one : Follows config (take (length h) (h ++ e ∷ [])) (get_or (h ++ e ∷ []) (length h) e) = legal (length h) e (omega (arith, long)) in
    subst (λ f. Follows config h f) (get_or_push h e e (length h) refl)
    (subst (λ before. Follows config before (get_or (h ++ e ∷ []) (length h) e)) (take_at h (e ∷ []) (length h) refl) one)

before_legal : BeginsLegal → (config : Config) (h : History) (e : Entry) → IsLegal config (h ++ e ∷ []) → IsLegal config h
before_legal begins config h e legal = subst (λ before. IsLegal config before) (take_at h (e ∷ []) (length h) refl) (begins config (h ++ e ∷ []) (length h) legal)

written_tells : BeginsLegal → AnswersCanBeTold → (config : Config) (h : History) (actor : ℕ) (call : Call) (said : Reply) → IsConfig config → IsLegal config (h ++ record { actor = actor; call = call; reply = said } ∷ []) → IsAnswer config h call said → CanTell said
written_tells begins told config h actor call said is legal answer =
    let e : Entry = record { actor = actor; call = call; reply = said } in
    told config h actor call said is (before_legal begins config h e legal) (last_follows config h e legal).may answer

pub tells : BeginsLegal → AnswersCanBeTold → (actor : ℕ) (old new : Seen) (call : Call) (said : Reply) → CallOk actor old call said new → IsSound new → CanTell said
tells begins told actor old new call (reply.HistoryFull entries live) ok sound = tt
tells begins told actor old new call (reply.Accepted accepts at) ok sound = tt
tells begins told actor old new call reply.Closed ok sound = tt
tells begins told actor old new call (reply.Opened tunnel routes) ok sound =
    let same : new.config ≡ old.config = ok.same.config in
    written_tells begins told new.config ok.book actor call (reply.Opened tunnel routes) sound.config (subst (λ h. IsLegal new.config h) ok.seen sound.legal)
    (subst (λ c. IsAnswer c ok.book call (reply.Opened tunnel routes)) (sym same) ok.reply_is)
tells begins told actor old new call (reply.Assigned list at) ok sound =
    let same : new.config ≡ old.config = ok.same.config in
    written_tells begins told new.config ok.book actor call (reply.Assigned list at) sound.config (subst (λ h. IsLegal new.config h) ok.seen sound.legal)
    (subst (λ c. IsAnswer c ok.book call (reply.Assigned list at)) (sym same) ok.reply_is)
